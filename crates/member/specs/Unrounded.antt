-- The checks of a row with nothing rounded, at forces that are fractions.
-- Assumes nothing.
use Rattle.std.specs.Prelude.{ℕ, cond}
use Rattle.rounding.specs.Fraction.{Fraction, whole, scaled, ◌≼◌}
use Rattle.sp64.specs.Buckling.{exact_buckling_phi, exact_buckling_capacity, exact_euler_capacity}
use Rattle.sp64.specs.Capacity.{exact_net_tension_capacity, exact_side_piece_capacity, exact_shear_capacity}
use Rattle.sp64.specs.Combined.{ExactCompressionBending, ExactTensionBending}
use Rattle.sp64.specs.Joint.{Layout, ExactJointLength}
use Rattle.sp64.specs.Slenderness.{Slenderness}
use Rattle.sp64.specs.Strength.{exact_strength}
use Rattle.sp64.specs.declared.tables.Stress.TheVariants.{Compression, Tension, Shear}
use Rattle.member.specs.Checks.{Check, yes_no, strength, layout, slenderness, joint_length, net_tension, side_pieces, bending, shear, buckling, compression_bending, tension_bending}
use Rattle.member.specs.Member.{across_height, strut_of, limit_of, exact_nrof, exact_mrof}
use Rattle.member.specs.declared.member.Member.{Member}

-- N, M and Q as exact values
pub record Forces : Type 0 where
  pub N : Fraction
  pub M : Fraction
  pub Q : Fraction

-- the forces of cells 8, 9 and 10
abbrev pub forces_of : Member → Forces
forces_of m = record { N = whole m.force; M = whole m.moment; Q = whole m.shear }

-- each of N, M and Q times k thousandths
abbrev pub times : ℕ → Forces → Forces
times k f = record { N = scaled k f.N; M = scaled k f.M; Q = scaled k f.Q }

-- check c holds unrounded at the forces f
abbrev pub Holds : Member → Forces → Check → Type 0
Holds m f (yes_no layout) = Layout m.height m.joint
Holds m f (yes_no (slenderness across)) = Slenderness (limit_of m) (strut_of m across)
Holds m f (yes_no joint_length) = ExactJointLength f.N m.width m.joint m.material
Holds m f (strength net_tension) =
    f.N
    ≼ cond m.jointed
    (exact_net_tension_capacity m.width m.height m.joint (exact_strength Tension m.material))
    (exact_nrof Tension m)
Holds m f (strength side_pieces) = f.N ≼ exact_side_piece_capacity m.height m.joint (exact_strength Tension m.material)
Holds m f (strength bending) = f.M ≼ exact_mrof m
Holds m f (strength shear) = f.Q ≼ exact_shear_capacity m.width m.height (exact_strength Shear m.material)
Holds m f (strength (buckling across)) =
    f.N ≼ exact_buckling_capacity (exact_nrof Compression m) (exact_buckling_phi (strut_of m across))
Holds m f (strength compression_bending) =
    ExactCompressionBending f.N f.M
    (exact_nrof Compression m)
    (exact_euler_capacity (exact_nrof Compression m) (strut_of m across_height))
    (exact_mrof m)
Holds m f (strength tension_bending) =
    ExactTensionBending f.N f.M (exact_nrof Tension m) (exact_mrof m)
