-- Demand 3: on which side of the code's line a verdict and a count fall.
-- Assumes nothing.
use Rattle.std.specs.Prelude.{ℕ, ◌≤◌, ◌<◌, ◌≡◌, true, false, ◌↔◌, List, Result as Answer, Ok}
use Rattle.cells.specs.Refusal.{gives}
use Rattle.cells.specs.declared.refusal.Refusal.{Refusal}
use Rattle.cells.specs.Row.{Cell}
use Rattle.rounding.specs.Fraction.{Fraction, scaled}
use Rattle.sp64.specs.Joint.{LeastCount}
use Rattle.member.specs.Acceptance.{accept}
use Rattle.member.specs.Checks.{Check, yes_no, joint_length, check_number, Has}
use Rattle.member.specs.Unrounded.{Forces, forces_of, times, Holds}
use Rattle.member.specs.declared.member.Member.{Member}
use Rattle.member.specs.declared.verdict.Verdict.{Verdict}

-- demand 3: the factor of N, M and Q, in thousandths, with which a check that failed must fail unrounded; that of check 4 also bounds the count; checks 1 to 3,
-- which round nothing, make no use of theirs
abbrev pub demand_factor : Check → ℕ
demand_factor c = 1005

-- the factors from which on the verdict on every row keeps demand 3
abbrev pub kept_from : Check → ℕ
kept_from c = 1003

-- no check's factor is below another given for it
abbrev pub EachFrom : (Check → ℕ) → (Check → ℕ) → Type 0
EachFrom least k = (c : Check) → least c ≤ k c

-- the verdict is a fail and names check c
pub record FailsOn (v : Verdict) (c : Check) : Type 0 where
  pub fails : v.passes ≡ false
  pub names : v.check ≡ check_number c

-- checks 1 to 3 are layout and slenderness; joint length is check 4, and strength the rest
abbrev pub LayoutOrSlenderness : Check → Type 0
LayoutOrSlenderness c = check_number c ≤ 3

-- check c is the first of the row's that fails unrounded
pub record FirstToFail (m : Member) (f : Forces) (c : Check) : Type 0 where
  pub has : Has m c
  pub fails : Holds m f c → ⊥
  pub before : (d : Check) → Has m d → check_number d < check_number c → Holds m f d

-- the unrounded least count for a force
abbrev pub CountFor : Member → Fraction → ℕ → Type 0
CountFor m N = LeastCount N m.width m.joint m.material

-- demand 3 for forces f and a factor of k c thousandths for each check c
pub record Demand3At (m : Member) (f : Forces) (v : Verdict) (k : Check → ℕ) : Type 0 where
  -- the verdict names a check that the row has
  pub named : (c : Check) × Has m c × (v.check ≡ check_number c)
  -- a pass means that every check the row has holds with nothing rounded
  pub pass : v.passes ≡ true → (c : Check) → Has m c → Holds m f c
  -- a row fails on layout or slenderness exactly when one of these fails unrounded, and the first such is named
  pub first : (c : Check) → LayoutOrSlenderness c → FailsOn v c ↔ FirstToFail m f c
  -- a fail on strength or joint length means that the same check fails unrounded with N, M and Q each times k c thousandths
  pub fail : (c : Check) → Has m c → (LayoutOrSlenderness c → ⊥) → FailsOn v c → Holds m (times (k c) f) c → ⊥
  -- where layout and slenderness hold, a joint's count is no less than the unrounded least count for N
  pub count_above : m.jointed ≡ true → ((c : Check) → LayoutOrSlenderness c → Has m c → Holds m f c) → (n : ℕ) → CountFor m f.N n → n ≤ v.count
  -- and no more than that for N times the factor of check 4
  pub count_below : m.jointed ≡ true → ((c : Check) → LayoutOrSlenderness c → Has m c → Holds m f c) → (n : ℕ) → CountFor m (scaled (k (yes_no joint_length)) f.N) n → v.count ≤ n

-- demand 3 for the forces of the cells
abbrev pub Demand3 : Member → Verdict → (Check → ℕ) → Type 0
Demand3 m = Demand3At m (forces_of m)

-- for every row that is not refused the answer is a verdict, and the verdict keeps demand 3
abbrev pub KeepsDemand3 : List Cell → Answer Verdict Refusal → (Check → ℕ) → Type 0
KeepsDemand3 cells answer k = (m : Member) → accept cells ≡ gives m → (v : Verdict) × (answer ≡ Ok v) × Demand3 m v k
