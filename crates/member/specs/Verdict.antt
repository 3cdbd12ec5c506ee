-- The verdict on a member.
-- Assumes nothing.
use Rattle.std.specs.Prelude.{ℕ, Bool, false, not, cond, ◌||◌, List, [], ◌∷◌, leb, Option, Some, None}
use Rattle.rounding.specs.Utilisation.{utilisation}
use Rattle.sp64.specs.Buckling.{buckling_phi, buckling_capacity, euler_capacity}
use Rattle.sp64.specs.Capacity.{net_tension_capacity, side_piece_capacity, shear_capacity}
use Rattle.sp64.specs.Combined.{compression_bending_utilisation, tension_bending_utilisation}
use Rattle.sp64.specs.Joint.{layout_holds, joint_length_holds}
use Rattle.sp64.specs.Slenderness.{slenderness_holds}
use Rattle.sp64.specs.Strength.{design_strength}
use Rattle.sp64.specs.declared.tables.Stress.TheVariants.{Compression, Tension, Shear}
use Rattle.cells.specs.Greatest.{greater_by, greatest}
use Rattle.cells.specs.Refusal.{Result, gives, refuses}
use Rattle.cells.specs.Row.{Cell}
use Rattle.member.specs.Acceptance.{accept}
use Rattle.member.specs.Checks.{YesNoCheck, StrengthCheck, yes_no, strength, check_number, yes_no_checks, strength_checks, omitted, layout, slenderness, joint_length, net_tension, side_pieces, bending, shear, buckling, compression_bending, tension_bending}
use Rattle.member.specs.Member.{across_height, strut_of, limit_of, count_of, NRof, MRof}
use Rattle.member.specs.declared.kind.Kind.{Kind}
use Rattle.member.specs.declared.member.Member.{Member}
use Rattle.member.specs.declared.verdict.Governing.{Governing}
use Rattle.member.specs.declared.verdict.Verdict.{Verdict}

-- a yes-or-no check as the rules round it
abbrev pub holds : Member → YesNoCheck → Bool
holds m layout = layout_holds m.height m.joint
holds m (slenderness across) = slenderness_holds (limit_of m) (strut_of m across)
holds m joint_length = joint_length_holds m.joint (count_of m)

-- the utilisation of a strength check
abbrev pub utilisation_of : Member → StrengthCheck → ℕ
utilisation_of m net_tension =
    utilisation m.force
    (cond m.jointed
    (net_tension_capacity m.width m.height m.joint (design_strength Tension m.material))
    (NRof Tension m))
utilisation_of m side_pieces = utilisation m.force (side_piece_capacity m.height m.joint (design_strength Tension m.material))
utilisation_of m bending = utilisation m.moment (MRof m)
utilisation_of m shear = utilisation m.shear (shear_capacity m.width m.height (design_strength Shear m.material))
utilisation_of m (buckling across) =
    utilisation m.force (buckling_capacity (NRof Compression m) (buckling_phi (strut_of m across)))
utilisation_of m compression_bending =
    compression_bending_utilisation m.force m.moment
    (NRof Compression m)
    (euler_capacity (NRof Compression m) (strut_of m across_height))
    (MRof m)
utilisation_of m tension_bending =
    tension_bending_utilisation m.force m.moment (NRof Tension m) (MRof m)

-- a strength check with its utilisation
abbrev pub used : Member → StrengthCheck → Governing
used m c = record { check = check_number (strength c); utilisation = utilisation_of m c }

-- the greater utilisation, the first among equals
abbrev pub greater_of : Governing → Governing → Governing
greater_of = greater_by (λ (g : Governing). g.utilisation)

-- the check that governs, with its utilisation; check 0 where there is none, which no kind has
abbrev pub governed_by : Member → Option StrengthCheck → Governing
governed_by m None = record { check = 0; utilisation = 0 }
governed_by m (Some c) = used m c

-- a strength check that the row has
abbrev pub has_strength : Member → StrengthCheck → Bool
has_strength m c = not (omitted m (strength c))

-- of the checks that the row has, the one of greatest utilisation, the first among equals, which is the lowest number where a list rises
abbrev pub governing : Member → List StrengthCheck → Governing
governing m checks = governed_by m (greatest (has_strength m) (utilisation_of m) checks)

-- the verdict by strength: it passes up to 1,000,000
abbrev pub by_strength : Governing → ℕ → Verdict
by_strength g count = record { passes = leb g.utilisation 1000000; check = g.check; utilisation = g.utilisation; count = count }

-- the count in a verdict that fails on a yes-or-no check: 0, for check 4 the count
abbrev pub count_on_fail : Member → YesNoCheck → ℕ
count_on_fail m layout = 0
count_on_fail m (slenderness across) = 0
count_on_fail m joint_length = count_of m

-- the verdict that fails on a yes-or-no check: utilisation 0
abbrev pub failed_on : ℕ → ℕ → Verdict
failed_on check count = record { passes = false; check = check; utilisation = 0; count = count }

-- the first of the yes-or-no checks that the row has and that fails gives the verdict; where none does, strength gives it
unfoldable pub judge_by : Member → List YesNoCheck → Verdict → Verdict
judge_by m [] otherwise = otherwise
judge_by m (c ∷ checks) otherwise =
    cond (omitted m (yes_no c) || holds m c) (judge_by m checks otherwise) (failed_on (check_number (yes_no c)) (count_on_fail m c))

-- the verdict on a member by the checks of a kind
abbrev pub verdict_by : Kind → Member → Verdict
verdict_by kind m = judge_by m (yes_no_checks kind) (by_strength (governing m (strength_checks kind)) (count_of m))

-- the verdict on a member
abbrev pub verdict : Member → Verdict
verdict m = verdict_by m.kind m

-- the verdict on an accepted member, or the refusal
abbrev pub judged : Result Member → Result Verdict
judged (gives m) = gives (verdict m)
judged (refuses number cell) = refuses number cell

-- "Check a row": the verdict, or a refusal by number and cell
abbrev pub check_row : List Cell → Result Verdict
check_row cells = judged (accept cells)
