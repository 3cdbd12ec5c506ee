-- The factor of demand 3 is no more than 1.005: for every check that it is used for, an accepted row on which a fail is refuted, and whose check no longer holds
-- with the forces times 1.006; and a count that is one too many is refuted.
-- Assumes nothing.
use Prim.Native.Nat.{ℕ, ◌≤◌, ◌<◌}
use native.Mathlib.Omega.{arith}
use mathlib.Core.Path.{◌≡◌, refl}
use mathlib.Core.Logic.{inl, inr}
use mathlib.Core.Bool.{Bool, true, false}
use lib.Dec.{lit<, lit≤}
use lib.ListN.{length}
use Rattle.rounding.proofs.Numerals.{past_it}
use Rattle.rounding.specs.Fraction.{Fraction, whole, scaled}
use Rattle.cells.specs.Lowest.{lowest}
use Rattle.cells.specs.Refusal.{gives}
use Rattle.cells.specs.Row.{cell_count}
use Rattle.sp64.proofs.CarryLaws.{fewer_fail}
use Rattle.sp64.specs.Joint.{dowel_bending, exact_dowel_bending²}
use Rattle.member.specs.Acceptance.{accept_kind, accept}
use Rattle.member.specs.Checks.{Check, yes_no, strength, Has, layout, slenderness, joint_length, net_tension, side_pieces, bending, shear, buckling, compression_bending, tension_bending}
use Rattle.member.specs.Demand3.{demand_factor, LayoutOrSlenderness, CountFor, Demand3}
use Rattle.member.specs.EdgeRows.{joint_edge, tension_edge, bending_edge, compression_edge, compression_bending_edge, tension_bending_edge}
use Rattle.member.specs.Member.{across_height, across_width, values_of, member_of}
use Rattle.member.specs.Unrounded.{forces_of, times, Holds}
use Rattle.member.specs.declared.kind.Kind.TheVariants.{Tension, Bending, Compression, CompressionBending, TensionBending}
use Rattle.member.specs.declared.member.Member.{Member}
use Rattle.member.proofs.DemandLaws.{strength_high}
use Rattle.member.proofs.DemandRefutes.{says}

-- Check 4, and the count.
abbrev joint : Member
joint = member_of Tension true (values_of joint_edge)

pub joint_edge_accepted : (accept joint_edge ≡ gives joint) × (length joint_edge ≡ cell_count)
unfolding accept_kind lowest
joint_edge_accepted = (refl, refl)

-- 21 dowels are the least for N times the factor of check 4
abbrev bending² : Fraction
bending² = exact_dowel_bending² (dowel_bending joint.joint) joint.material

abbrev scaled_force : Fraction
scaled_force = scaled (demand_factor (yes_no joint_length)) (whole 104977)

count_joint : CountFor joint scaled_force 21
count_joint = record { holds = record { core = lit≤ tt; side = lit≤ tt; bending = lit≤ tt }; least = λ j s. fewer_fail scaled_force bending² 20 j (past_it _ _ refl) s.bending }

pub fail_4 : (utilisation count : ℕ) → Demand3 joint (says false 4 utilisation count) demand_factor → ⊥
fail_4 u n d =
    d.fail (yes_no joint_length) (record { of_kind = inr (inr (inr (inl refl))); kept = refl }) (λ low. absurd (omega arith)) (record { fails = refl; names = refl })
    (record {
      count = 21;
      least_count = count_joint;
      columns = 7;
      least_columns = record { holds = lit≤ tt; least = λ n h. omega (arith, h) };
      fits = lit≤ tt;
    })

pub past_4 : Holds joint (times 1006 (forces_of joint)) (yes_no joint_length) → ⊥
past_4 h =
    let count : 21 < h.count = fewer_fail (times 1006 (forces_of joint)).N bending² 21 h.count (past_it _ _ refl) h.least_count.holds.bending in omega (arith, count, h.least_columns.holds, h.fits)

-- it keeps layout and slenderness
kept : (c : Check) → LayoutOrSlenderness c → Has joint c → Holds joint (forces_of joint) c
kept (yes_no layout) low has = lit≤ tt
kept (yes_no (slenderness across_height)) low has = lit≤ tt
kept (yes_no (slenderness across_width)) low has = lit≤ tt
kept (yes_no joint_length) low has = absurd (omega arith)
kept (strength c) low has = absurd (omega (arith, strength_high c))

pub count_22 : (passes : Bool) (check utilisation : ℕ) → Demand3 joint (says passes check utilisation 22) demand_factor → ⊥
count_22 p c u d = let le : 22 ≤ 21 = d.count_below refl kept 21 count_joint in absurd (omega arith)

-- Checks 5 and 6.
abbrev tension_member : Member
tension_member = member_of Tension true (values_of tension_edge)

pub tension_edge_accepted : (accept tension_edge ≡ gives tension_member) × (length tension_edge ≡ cell_count)
unfolding accept_kind lowest
tension_edge_accepted = (refl, refl)

pub fail_5 : (utilisation count : ℕ) → Demand3 tension_member (says false 5 utilisation count) demand_factor → ⊥
fail_5 u n d = d.fail (strength net_tension) (record { of_kind = inl refl; kept = refl }) (λ low. absurd (omega arith)) (record { fails = refl; names = refl }) (lit≤ tt)

pub past_5 : Holds tension_member (times 1006 (forces_of tension_member)) (strength net_tension) → ⊥
past_5 h = past_it _ _ refl h

pub fail_6 : (utilisation count : ℕ) → Demand3 tension_member (says false 6 utilisation count) demand_factor → ⊥
fail_6 u n d = d.fail (strength side_pieces) (record { of_kind = inr (inl refl); kept = refl }) (λ low. absurd (omega arith)) (record { fails = refl; names = refl }) (lit≤ tt)

pub past_6 : Holds tension_member (times 1006 (forces_of tension_member)) (strength side_pieces) → ⊥
past_6 h = past_it _ _ refl h

-- Checks 7 and 8.
abbrev beam : Member
beam = member_of Bending false (values_of bending_edge)

pub bending_edge_accepted : (accept bending_edge ≡ gives beam) × (length bending_edge ≡ cell_count)
unfolding accept_kind lowest
bending_edge_accepted = (refl, refl)

pub fail_7 : (utilisation count : ℕ) → Demand3 beam (says false 7 utilisation count) demand_factor → ⊥
fail_7 u n d = d.fail (strength bending) (record { of_kind = inl refl; kept = refl }) (λ low. absurd (omega arith)) (record { fails = refl; names = refl }) (lit≤ tt)

pub past_7 : Holds beam (times 1006 (forces_of beam)) (strength bending) → ⊥
past_7 h = past_it _ _ refl h

pub fail_8 : (utilisation count : ℕ) → Demand3 beam (says false 8 utilisation count) demand_factor → ⊥
fail_8 u n d = d.fail (strength shear) (record { of_kind = inr (inl refl); kept = refl }) (λ low. absurd (omega arith)) (record { fails = refl; names = refl }) (lit≤ tt)

pub past_8 : Holds beam (times 1006 (forces_of beam)) (strength shear) → ⊥
past_8 h = past_it _ _ refl h

-- Checks 9 and 10.
abbrev column : Member
column = member_of Compression false (values_of compression_edge)

pub compression_edge_accepted : (accept compression_edge ≡ gives column) × (length compression_edge ≡ cell_count)
unfolding accept_kind lowest
compression_edge_accepted = (refl, refl)

pub fail_9 : (utilisation count : ℕ) → Demand3 column (says false 9 utilisation count) demand_factor → ⊥
fail_9 u n d = d.fail (strength (buckling across_height)) (record { of_kind = inl refl; kept = refl }) (λ low. absurd (omega arith)) (record { fails = refl; names = refl }) (lit≤ tt)

pub past_9 : Holds column (times 1006 (forces_of column)) (strength (buckling across_height)) → ⊥
past_9 h = past_it _ _ refl h

pub fail_10 : (utilisation count : ℕ) → Demand3 column (says false 10 utilisation count) demand_factor → ⊥
fail_10 u n d = d.fail (strength (buckling across_width)) (record { of_kind = inr (inl refl); kept = refl }) (λ low. absurd (omega arith)) (record { fails = refl; names = refl }) (lit≤ tt)

pub past_10 : Holds column (times 1006 (forces_of column)) (strength (buckling across_width)) → ⊥
past_10 h = past_it _ _ refl h

-- Check 11.
abbrev beam_column : Member
beam_column = member_of CompressionBending false (values_of compression_bending_edge)

pub compression_bending_edge_accepted : (accept compression_bending_edge ≡ gives beam_column) × (length compression_bending_edge ≡ cell_count)
unfolding accept_kind lowest
compression_bending_edge_accepted = (refl, refl)

pub fail_11_compressed : (utilisation count : ℕ) → Demand3 beam_column (says false 11 utilisation count) demand_factor → ⊥
fail_11_compressed u n d = d.fail (strength compression_bending) (record { of_kind = inr (inr (inr (inl refl))); kept = refl }) (λ low. absurd (omega arith)) (record { fails = refl; names = refl }) (record { share = lit< tt; sum = lit≤ tt })

pub past_11_compressed : Holds beam_column (times 1006 (forces_of beam_column)) (strength compression_bending) → ⊥
past_11_compressed h = past_it _ _ refl h.sum

abbrev beam_tie : Member
beam_tie = member_of TensionBending false (values_of tension_bending_edge)

pub tension_bending_edge_accepted : (accept tension_bending_edge ≡ gives beam_tie) × (length tension_bending_edge ≡ cell_count)
unfolding accept_kind lowest
tension_bending_edge_accepted = (refl, refl)

pub fail_11_stretched : (utilisation count : ℕ) → Demand3 beam_tie (says false 11 utilisation count) demand_factor → ⊥
fail_11_stretched u n d = d.fail (strength tension_bending) (record { of_kind = inr (inl refl); kept = refl }) (λ low. absurd (omega arith)) (record { fails = refl; names = refl }) (lit≤ tt)

pub past_11_stretched : Holds beam_tie (times 1006 (forces_of beam_tie)) (strength tension_bending) → ⊥
past_11_stretched h = past_it _ _ refl h
