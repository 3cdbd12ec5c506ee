-- The unrounded count takes exact values, that of bending with the true root: two joints whose unrounded least count would be another with a rounded value
-- in its place. No law of demand 3 tells them apart, since a count may be anything from its one bound to the other.
-- Assumes nothing.
use mathlib.Core.Path.{refl}
use lib.Dec.{lit≤}
use Rattle.rounding.proofs.Numerals.{past_it}
use Rattle.rounding.specs.Fraction.{Fraction, whole, square, ◌⊗◌, ◌⊘◌}
use Rattle.rounding.specs.Greatest.{by_digits}
use Rattle.rounding.specs.Least.{Least}
use Rattle.sp64.specs.declared.strength.Material.{Material}
use Rattle.sp64.specs.declared.joint.Joint.{Joint}
use Rattle.sp64.specs.Joint.{side_crushing, dowel_bending, condition_root, crushing_capacity, exact_crushing_capacity, exact_dowel_bending², Carry, CarrySquared, LeastCount}
use Rattle.sp64.specs.Strength.{material_of}
use Rattle.sp64.proofs.CarryLaws.{carry_iff, fewer_fail}

-- Bending: cells 2 to 5 and 14 to 22 of row E, with N 105,502.
abbrev material_e : Material
material_e = material_of 2 4 12 1000

abbrev joint_e : Joint
joint_e = record { side = 50; diameter = 12; across = 3; available = 840; kc = 500; ka = 800; kb = 1800; ke = 20; km = 2500 }

-- by the true root 21 dowels
pub count_by_the_root : LeastCount (whole 105502) 100 joint_e material_e 21
unfolding by_digits
count_by_the_root =
    record {
      holds = record { core = lit≤ tt; side = lit≤ tt; bending = lit≤ tt };
      least = λ k s. fewer_fail (whole 105502) (exact_dowel_bending² (dowel_bending joint_e) material_e) 20 k (past_it _ _ refl) s.bending;
    }

-- the square of what bending allows by s
abbrev bending²_by_s : Fraction
bending²_by_s = square (whole (dowel_bending joint_e)) ⊗ square (whole (condition_root material_e)) ⊘ square (whole 100000)

-- by s 22, though crushing asks for fewer
pub count_by_s : Least (CarrySquared (whole 105502) bending²_by_s) 22
unfolding by_digits
count_by_s = record { holds = lit≤ tt; least = λ k h. fewer_fail (whole 105502) bending²_by_s 21 k (past_it _ _ refl) h }

-- Crushing: the least material with a side piece of 10 mm, in which 12,044.25 mN are rounded to 12,044; N 48,177.
abbrev least_material : Material
least_material = material_of 3 2 60 500

abbrev crushed_joint : Joint
crushed_joint = record { side = 10; diameter = 6; across = 1; available = 20000; kc = 5000; ka = 101; kb = 5000; ke = 0; km = 5000 }

abbrev crushing : Fraction
crushing = exact_crushing_capacity (side_crushing crushed_joint) least_material

-- by the exact value 2000 dowels
pub count_by_exact_crushing : LeastCount (whole 48177) 20 crushed_joint least_material 2000
count_by_exact_crushing =
    record {
      holds = record { core = lit≤ tt; side = lit≤ tt; bending = lit≤ tt };
      least = λ k s. fewer_fail (whole 48177) (square crushing) 1999 k (past_it _ _ refl) ((carry_iff (whole 48177) crushing k).0 s.side);
    }

-- by the rounded one they are too few
pub too_few_by_rounded_crushing : Carry (whole 48177) (whole (crushing_capacity (side_crushing crushed_joint) least_material)) 2000 → ⊥
too_few_by_rounded_crushing h = past_it _ _ refl h
