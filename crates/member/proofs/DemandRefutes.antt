-- Demand 3 has teeth: it refutes a refusal, and wrong verdicts and counts of the worked rows, whatever else they say; and its factor is not idle.
-- Assumes nothing.
use Prim.Native.Nat.{ℕ, ◌-◌, ◌≤◌, ◌<◌}
use native.Mathlib.Omega.{arith}
use mathlib.Core.Path.{◌≡◌, refl}
use mathlib.Core.Logic.{inl, inr}
use mathlib.Core.Bool.{Bool, true, false}
use mathlib.Core.List.{List}
use lib.Dec.{lit<, lit≤}
use Rattle.std.specs.Prelude.{Ok, Err}
use Rattle.rounding.proofs.Numerals.{past_it}
use Rattle.rounding.specs.Fraction.{Fraction, whole, scaled}
use Rattle.cells.specs.Greatest.{greatest}
use Rattle.cells.specs.Refusal.{gives}
use Rattle.cells.specs.declared.refusal.Refusal.{Refusal}
use Rattle.cells.specs.Row.{Cell}
use Rattle.sp64.proofs.CarryLaws.{fewer_fail}
use Rattle.sp64.specs.Joint.{dowel_bending, exact_dowel_bending², ExactJointLength}
use Rattle.member.specs.Acceptance.{accept}
use Rattle.member.specs.Checks.{Check, yes_no, strength, Has, layout, slenderness, joint_length, bending, compression_bending}
use Rattle.member.specs.Member.{across_height, across_width}
use Rattle.member.specs.Demand3.{demand_factor, kept_from, LayoutOrSlenderness, CountFor, Demand3, KeepsDemand3}
use Rattle.member.specs.Unrounded.{forces_of, Holds}
use Rattle.member.specs.Verdict.{judge_by, verdict}
use Rattle.member.specs.WorkedRows.{row_a}
use Rattle.member.specs.declared.member.Member.{Member}
use Rattle.member.specs.declared.verdict.Verdict.{Verdict}
use Rattle.member.proofs.AcceptedRows.{member_a, member_e, member_f, edge_member, row_a_accepted}
use Rattle.member.proofs.DemandLaws.{strength_high}

-- a verdict by its four values
abbrev pub says : Bool → ℕ → ℕ → ℕ → Verdict
says passes check utilisation count = record { passes = passes; check = check; utilisation = utilisation; count = count }

-- A refusal as the answer to a row that the rules accept, whatever the refusal and the factors; so of row A.
pub refused_breaks : (cells : List Cell) (m : Member) → accept cells ≡ gives m → (refusal : Refusal) (k : Check → ℕ) → KeepsDemand3 cells (Err refusal) k → ⊥
refused_breaks cells m given refusal k keeps =
    let answer : Err refusal ≡ Ok (keeps m given).0 = (keeps m given).1 in
    absurd (let z : ◌≡◌ {A = ℕ} 0 1 = cc in omega arith)

pub row_a_refused : (refusal : Refusal) (k : Check → ℕ) → KeepsDemand3 row_a (Err refusal) k → ⊥
row_a_refused = refused_breaks row_a member_a row_a_accepted

-- Row A failed on check 7.
pub row_a_failed : (utilisation count : ℕ) → Demand3 member_a (says false 7 utilisation count) demand_factor → ⊥
row_a_failed u n d =
    d.fail (strength bending) (record { of_kind = inl refl; kept = refl }) (λ low. absurd (omega arith)) (record { fails = refl; names = refl }) (lit≤ tt)

-- Row F passed.
too_long : ExactJointLength (whole 100000) member_f.width member_f.joint member_f.material → ⊥
too_long x =
    let count : 19 < x.count = fewer_fail (whole 100000) (exact_dowel_bending² (dowel_bending member_f.joint) member_f.material) 19 x.count (past_it _ _ refl) x.least_count.holds.bending in omega (arith, count, x.least_columns.holds, x.fits)

pub row_f_passed : (check utilisation count : ℕ) → Demand3 member_f (says true check utilisation count) demand_factor → ⊥
row_f_passed c u n d = too_long (d.pass refl (yes_no joint_length) (record { of_kind = inr (inr (inr (inl refl))); kept = refl }))

-- Row E with another count. It keeps layout and slenderness.
kept_e : (c : Check) → LayoutOrSlenderness c → Has member_e c → Holds member_e (forces_of member_e) c
kept_e (yes_no layout) low has = lit≤ tt
kept_e (yes_no (slenderness across_height)) low has = lit≤ tt
kept_e (yes_no (slenderness across_width)) low has = lit≤ tt
kept_e (yes_no joint_length) low has = absurd (omega arith)
kept_e (strength c) low has = absurd (omega (arith, strength_high c))

-- it needs 20 dowels unrounded, and 21 with N times the factor of check 4
abbrev bending_e : Fraction
bending_e = exact_dowel_bending² (dowel_bending member_e.joint) member_e.material

count_e : CountFor member_e (whole 100000) 20
count_e = record { holds = record { core = lit≤ tt; side = lit≤ tt; bending = lit≤ tt }; least = λ j s. fewer_fail (whole 100000) bending_e 19 j (past_it _ _ refl) s.bending }

abbrev scaled_e : Fraction
scaled_e = scaled (demand_factor (yes_no joint_length)) (whole 100000)

count_e_scaled : CountFor member_e scaled_e 21
count_e_scaled = record { holds = record { core = lit≤ tt; side = lit≤ tt; bending = lit≤ tt }; least = λ j s. fewer_fail scaled_e bending_e 20 j (past_it _ _ refl) s.bending }

pub row_e_with_19 : (passes : Bool) (check utilisation : ℕ) → Demand3 member_e (says passes check utilisation 19) demand_factor → ⊥
row_e_with_19 p c u d = let le : 20 ≤ 19 = d.count_above refl kept_e 20 count_e in absurd (omega arith)

pub row_e_with_22 : (passes : Bool) (check utilisation : ℕ) → Demand3 member_e (says passes check utilisation 22) demand_factor → ⊥
row_e_with_22 p c u d = let le : 22 ≤ 21 = d.count_below refl kept_e 21 count_e_scaled in absurd (omega arith)

-- A row of kind 4 whose verdict by the rules breaks demand 3 where the factor of check 11 is a thousandth less, whatever the others are.
pub edge_breaks_less : (k : Check → ℕ) → k (strength compression_bending) ≡ kept_from (strength compression_bending) - 1 → Demand3 edge_member (verdict edge_member) k → ⊥
unfolding judge_by greatest
edge_breaks_less k e d =
    d.fail (strength compression_bending) (record { of_kind = inr (inr (inr (inl refl))); kept = refl }) (λ low. absurd (omega arith))
    (record { fails = refl; names = refl })
    (rw e (record { share = lit< tt; sum = lit≤ tt }))
