-- The checks, and which of them a row has.
-- Assumes nothing.
use Rattle.std.specs.Prelude.{ℕ, ◌≡◌, Bool, false, not, List, [], ◌∷◌, eqb}
use Rattle.cells.specs.Greatest.{Among}
use Rattle.member.specs.Member.{across_height, across_width}
pub use Rattle.member.specs.declared.check.YesNoCheck.{YesNoCheck}
pub use Rattle.member.specs.declared.check.YesNoCheck.TheVariants.{Layout as layout, Slenderness as slenderness, JointLength as joint_length}
pub use Rattle.member.specs.declared.check.StrengthCheck.{StrengthCheck}
pub use Rattle.member.specs.declared.check.StrengthCheck.TheVariants.{NetTension as net_tension, SidePieces as side_pieces, Bending as bending, Shear as shear, Buckling as buckling, CompressionBending as compression_bending, TensionBending as tension_bending}
pub use Rattle.member.specs.declared.check.Check.{Check}
pub use Rattle.member.specs.declared.check.Check.TheVariants.{YesNo as yes_no, Strength as strength}
use Rattle.member.specs.declared.kind.Kind.{Kind}
use Rattle.member.specs.declared.kind.Kind.TheVariants.{Tension, Bending, Compression, CompressionBending, TensionBending}
use Rattle.member.specs.declared.member.Member.{Member}

-- document 01's number of a check
abbrev pub check_number : Check → ℕ
check_number (yes_no layout) = 1
check_number (yes_no (slenderness across_height)) = 2
check_number (yes_no (slenderness across_width)) = 3
check_number (yes_no joint_length) = 4
check_number (strength net_tension) = 5
check_number (strength side_pieces) = 6
check_number (strength bending) = 7
check_number (strength shear) = 8
check_number (strength (buckling across_height)) = 9
check_number (strength (buckling across_width)) = 10
check_number (strength compression_bending) = 11
check_number (strength tension_bending) = 11

-- the yes-or-no checks of a kind, in the order in which they are taken
abbrev pub yes_no_checks : Kind → List YesNoCheck
yes_no_checks Tension = layout ∷ slenderness across_height ∷ slenderness across_width ∷ joint_length ∷ []
yes_no_checks Bending = []
yes_no_checks Compression = slenderness across_height ∷ slenderness across_width ∷ []
yes_no_checks CompressionBending = slenderness across_height ∷ slenderness across_width ∷ []
yes_no_checks TensionBending = slenderness across_height ∷ slenderness across_width ∷ []

-- the strength checks of a kind, the lowest number first
abbrev pub strength_checks : Kind → List StrengthCheck
strength_checks Tension = net_tension ∷ side_pieces ∷ []
strength_checks Bending = bending ∷ shear ∷ []
strength_checks Compression = buckling across_height ∷ buckling across_width ∷ []
strength_checks CompressionBending = shear ∷ buckling across_height ∷ buckling across_width ∷ compression_bending ∷ []
strength_checks TensionBending = shear ∷ tension_bending ∷ []

-- row 4 of Table 16 has no check 3
abbrev pub without_check3 : ℕ → Bool
without_check3 table16 = eqb table16 4

-- the checks of a kind that a row does without: 1, 4 and 6 if it has no joint, 3 in row 4 of Table 16
abbrev pub omitted : Member → Check → Bool
omitted m (yes_no layout) = not m.jointed
omitted m (yes_no (slenderness across_height)) = false
omitted m (yes_no (slenderness across_width)) = without_check3 m.table16
omitted m (yes_no joint_length) = not m.jointed
omitted m (strength net_tension) = false
omitted m (strength side_pieces) = not m.jointed
omitted m (strength bending) = false
omitted m (strength shear) = false
omitted m (strength (buckling across_height)) = false
omitted m (strength (buckling across_width)) = false
omitted m (strength compression_bending) = false
omitted m (strength tension_bending) = false

-- a check of the kind
abbrev pub OfKind : Kind → Check → Type 0
OfKind kind (yes_no c) = Among c (yes_no_checks kind)
OfKind kind (strength c) = Among c (strength_checks kind)

-- check c is one of the row's: of its kind, and not omitted
pub record Has (m : Member) (c : Check) : Type 0 where
  pub of_kind : OfKind m.kind c
  pub kept : omitted m c ≡ false
