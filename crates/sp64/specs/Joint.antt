-- The dowel joint: layout (check 1), dowel count, joint length (check 4), each rounded and, beside it, unrounded.
-- Assumes nothing.
use Rattle.std.specs.Prelude.{ℕ, ◌+◌, ◌*◌, ◌≤◌, min, Bool, leb}
use Rattle.rounding.specs.Range.{In}
use Rattle.rounding.specs.Rounding.{down, up}
use Rattle.rounding.specs.Root.{whole_root}
use Rattle.rounding.specs.Fraction.{Fraction, whole, ◌⊗◌, ◌⊘◌, ◌≼◌, square, smaller}
use Rattle.rounding.specs.Least.{Least}
use Rattle.sp64.specs.declared.strength.Material.{Material}
use Rattle.sp64.specs.declared.joint.Joint.{Joint}
use Rattle.sp64.specs.Strength.{undivided}

-- the ranges of cells 14 to 22
pub record JointRanges (j : Joint) : Type 0 where
  pub side : In 10 300 j.side
  pub diameter : In 6 40 j.diameter
  pub across : In 1 20 j.across
  pub available : In 1 20000 j.available
  pub kc : In 100 5000 j.kc
  pub ka : In 100 5000 j.ka
  pub kb : In 100 5000 j.kb
  pub ke : In 0 5000 j.ke
  pub km : In 100 5000 j.km

-- check 1: 2h ≥ (7r + 5) × d; nothing in it is rounded
abbrev pub Layout : ℕ → Joint → Type 0
Layout h j = (7 * j.across + 5) * j.diameter ≤ 2 * h

-- the same as a test
abbrev pub layout_holds : ℕ → Joint → Bool
layout_holds h j = leb ((7 * j.across + 5) * j.diameter) (2 * h)

-- the terms of a dowel's capacity, in hundredths of N: crushing of the core, kc × b × d
abbrev pub core_crushing : ℕ → Joint → ℕ
core_crushing b j = j.kc * b * j.diameter

-- crushing of a side piece, ka × a × d
abbrev pub side_crushing : Joint → ℕ
side_crushing j = j.ka * j.side * j.diameter

-- bending of the dowel, the smaller of kb × d² + ke × a² and km × d²
abbrev pub dowel_bending : Joint → ℕ
dowel_bending j = min (j.kb * (j.diameter * j.diameter) + j.ke * (j.side * j.side)) (j.km * (j.diameter * j.diameter))

-- request 5: s, the largest whole number with s² ≤ t × w × o × 100,000 (law `condition_root_greatest`, proofs/RootMeaning.antt)
abbrev pub condition_root : Material → ℕ
condition_root m = whole_root (undivided 100000 m)

-- a crushing term × t × w × o / 1,000,000, down, in mN
abbrev pub crushing_capacity : ℕ → Material → ℕ
crushing_capacity term m = down (undivided term m) 1000000

-- request 5: the bending term × s / 100,000, down, in mN
abbrev pub dowel_bending_capacity : ℕ → Material → ℕ
dowel_bending_capacity term m = down (term * condition_root m) 100000

-- request 5: T, the least of the three, in mN
abbrev pub dowel_capacity : ℕ → Joint → Material → ℕ
dowel_capacity b j m =
    min (crushing_capacity (core_crushing b j) m) (min (crushing_capacity (side_crushing j) m) (dowel_bending_capacity (dowel_bending j) m))

-- count = 1000 × N / (2 × T), up
abbrev pub dowel_count : ℕ → ℕ → ℕ
dowel_count N T = up (1000 * N) (2 * T)

-- the count of a joint, from the cells
abbrev pub joint_count : ℕ → ℕ → Joint → Material → ℕ
joint_count N b j m = dowel_count N (dowel_capacity b j m)

-- columns = count / r, up
abbrev pub columns : ℕ → ℕ → ℕ
columns count r = up count r

-- 7d × (columns + 1)
abbrev pub length_of : ℕ → ℕ → ℕ
length_of d n = 7 * d * (n + 1)

-- check 4: 7d × (columns + 1) ≤ cell 17
abbrev pub joint_length_holds : Joint → ℕ → Bool
joint_length_holds j count = leb (length_of j.diameter (columns count j.across)) j.available

-- a crushing term × t × w × o / 1,000,000, unrounded, in mN
abbrev pub exact_crushing_capacity : ℕ → Material → Fraction
exact_crushing_capacity term m = whole (undivided term m) ⊘ whole 1000000

-- request 5: the square of the bending term × √(t × w × o × 100,000) / 100,000, unrounded; the root itself is in general no fraction
abbrev pub exact_dowel_bending² : ℕ → Material → Fraction
exact_dowel_bending² term m = square (whole term) ⊗ whole (undivided 100000 m) ⊘ square (whole 100000)

-- request 5: T², unrounded: the least of the squares of the three
abbrev pub exact_dowel_capacity² : ℕ → Joint → Material → Fraction
exact_dowel_capacity² b j m =
    smaller
    (square (exact_crushing_capacity (core_crushing b j) m))
    (smaller (square (exact_crushing_capacity (side_crushing j) m)) (exact_dowel_bending² (dowel_bending j) m))

-- 1000 × N: the force, in mN
abbrev pub load : Fraction → Fraction
load N = whole 1000 ⊗ N

-- 2 × k × capacity ≥ 1000 × N: k dowels of two shear planes carry N, where each plane has this capacity
abbrev pub Carry : Fraction → Fraction → ℕ → Type 0
Carry N capacity k = load N ≼ whole (2 * k) ⊗ capacity

-- the same put as squares compared: (2 × k)² × capacity² ≥ (1000 × N)² (law `carry_iff`, proofs/CarryLaws.antt: of a fraction it says the same)
abbrev pub CarrySquared : Fraction → Fraction → ℕ → Type 0
CarrySquared N capacity² k = square (load N) ≼ square (whole (2 * k)) ⊗ capacity²

-- request 5: k dowels suffice for N: in crushing of either and in bending, where that is
-- (2 × k × term)² × t × w × o × 100,000 ≥ (1000 × N × 100,000)² (law `bending_as_squares`, proofs/CarryLaws.antt)
-- (law `suffices_iff`, proofs/JointLaws.antt: exactly where (2 × k)² × T² ≥ (1000 × N)², with T² unrounded)
pub record Suffices (N : Fraction) (b : ℕ) (j : Joint) (m : Material) (k : ℕ) : Type 0 where
  pub core : Carry N (exact_crushing_capacity (core_crushing b j) m) k
  pub side : Carry N (exact_crushing_capacity (side_crushing j) m) k
  pub bending : CarrySquared N (exact_dowel_bending² (dowel_bending j) m) k

-- the unrounded least count: the least whole k that suffices for N
abbrev pub LeastCount : Fraction → ℕ → Joint → Material → ℕ → Type 0
LeastCount N b j m = Least (Suffices N b j m)

-- unrounded columns: the least whole n with n × r ≥ k
abbrev pub LeastColumns : ℕ → ℕ → ℕ → Type 0
LeastColumns k r = Least (λ n. k ≤ n * r)

-- check 4, unrounded: with the least count and the least columns the joint is no longer than cell 17
pub record ExactJointLength (N : Fraction) (b : ℕ) (j : Joint) (m : Material) : Type 0 where
  pub count : ℕ
  pub least_count : LeastCount N b j m count
  pub columns : ℕ
  pub least_columns : LeastColumns count j.across columns
  pub fits : length_of j.diameter columns ≤ j.available
