-- The values of a member that document 01's worked rows name, each rounded and, beside it, unrounded.
-- Assumes nothing.
use Rattle.std.specs.Prelude.{ℕ}
use Rattle.rounding.specs.Fraction.{Fraction, ◌⊘◌}
use Rattle.sp64.specs.Buckling.{buckling_phi, exact_buckling_phi, exact_buckling_capacity}
use Rattle.sp64.specs.Capacity.{exact_net_tension_capacity}
use Rattle.sp64.specs.Joint.{core_crushing, side_crushing, dowel_bending, condition_root, crushing_capacity, dowel_bending_capacity, dowel_capacity, columns, length_of, exact_crushing_capacity, exact_dowel_bending², exact_dowel_capacity²}
use Rattle.sp64.specs.Strength.{design_strength, exact_strength}
use Rattle.sp64.specs.declared.tables.Stress.{Stress}
use Rattle.sp64.specs.declared.tables.Stress.TheVariants.{Compression, Tension}
use Rattle.member.specs.Member.{strut_of, count_of, exact_nrof, exact_mrof}
use Rattle.member.specs.Unrounded.{forces_of}
use Rattle.member.specs.Verdict.{utilisation_of}
use Rattle.member.specs.declared.check.Across.{Across}
use Rattle.member.specs.declared.check.Across.TheVariants.{Width as across_width}
use Rattle.member.specs.declared.check.StrengthCheck.{StrengthCheck}
use Rattle.member.specs.declared.member.Member.{Member}

-- R of a stress
abbrev pub strength_in : Stress → Member → ℕ
strength_in stress m = design_strength stress m.material

-- R of a stress, unrounded
abbrev pub exact_strength_in : Stress → Member → Fraction
exact_strength_in stress m = exact_strength stress m.material

-- φ of checks 9 and 10
abbrev pub phi : Across → Member → ℕ
phi across m = buckling_phi (strut_of m across)

-- φ, unrounded
abbrev pub exact_phi : Across → Member → Fraction
exact_phi across m = exact_buckling_phi (strut_of m across)

-- request 5: s, the root of the condition factors
abbrev pub condition_root_of : Member → ℕ
condition_root_of m = condition_root m.material

-- what crushing of the core allows a dowel in one shear plane
abbrev pub core_resistance : Member → ℕ
core_resistance m = crushing_capacity (core_crushing m.width m.joint) m.material

-- the same, unrounded
abbrev pub exact_core_resistance : Member → Fraction
exact_core_resistance m = exact_crushing_capacity (core_crushing m.width m.joint) m.material

-- what crushing of a side piece allows it
abbrev pub side_resistance : Member → ℕ
side_resistance m = crushing_capacity (side_crushing m.joint) m.material

-- the same, unrounded
abbrev pub exact_side_resistance : Member → Fraction
exact_side_resistance m = exact_crushing_capacity (side_crushing m.joint) m.material

-- the term of the dowel's bending; nothing in it is rounded
abbrev pub bending_term : Member → ℕ
bending_term m = dowel_bending m.joint

-- what bending allows it
abbrev pub bending_resistance : Member → ℕ
bending_resistance m = dowel_bending_capacity (bending_term m) m.material

-- its square, unrounded
abbrev pub exact_bending_resistance² : Member → Fraction
exact_bending_resistance² m = exact_dowel_bending² (bending_term m) m.material

-- T, what a dowel carries in one shear plane
abbrev pub dowel_resistance : Member → ℕ
dowel_resistance m = dowel_capacity m.width m.joint m.material

-- T², unrounded
abbrev pub exact_dowel_resistance² : Member → Fraction
exact_dowel_resistance² m = exact_dowel_capacity² m.width m.joint m.material

-- the columns of the joint's dowels
abbrev pub columns_of : Member → ℕ
columns_of m = columns (count_of m) m.joint.across

-- the length that the joint needs
abbrev pub joint_length_of : Member → ℕ
joint_length_of m = length_of m.joint.diameter (columns_of m)

-- the utilisation of a strength check, also of one that does not govern
abbrev pub utilisation_in : StrengthCheck → Member → ℕ
utilisation_in check m = utilisation_of m check

-- check 7, unrounded: the moment to its capacity
abbrev pub bending_ratio : Member → Fraction
bending_ratio m = (forces_of m).M ⊘ exact_mrof m

-- check 10, unrounded: the axial force to its capacity
abbrev pub buckling_ratio : Member → Fraction
buckling_ratio m = (forces_of m).N ⊘ exact_buckling_capacity (exact_nrof Compression m) (exact_phi across_width m)

-- check 5 with a joint, unrounded: the axial force to its capacity
abbrev pub net_tension_ratio : Member → Fraction
net_tension_ratio m = (forces_of m).N ⊘ exact_net_tension_capacity m.width m.height m.joint (exact_strength_in Tension m)
