-- Which checks a kind has, by number; that a row has both struts, where a careless hand would leave one out; which cells each strut is of, and where check 3 is left out.
-- Assumes nothing.
use Prim.Native.Nat.{ℕ, ◌*◌, ◌≤◌}
use mathlib.Core.List.{List, [], ◌∷◌, ◌++◌, map}
use mathlib.Core.Logic.{◌⊎◌, inl, inr, ◌↔◌}
use mathlib.Core.Path.{◌≡◌, refl}
use mathlib.Core.Bool.{true}
use borrow.Author.Tests.{eqb-true, eq-eqb}
use Rattle.member.specs.Checks.{YesNoCheck, StrengthCheck, Has, yes_no, strength, check_number, yes_no_checks, strength_checks, omitted, slenderness, buckling}
use Rattle.member.specs.Member.{across_height, across_width, limit_of}
use Rattle.member.specs.Unrounded.{Forces, Holds}
use Rattle.member.specs.declared.kind.Kind.{Kind}
use Rattle.member.specs.declared.kind.Kind.TheVariants.{Tension, Bending, Compression, CompressionBending, TensionBending}
use Rattle.member.specs.declared.member.Member.{Member}

-- the numbers of a kind's checks
abbrev numbers_of : Kind → List ℕ
numbers_of kind = map (λ (c : YesNoCheck). check_number (yes_no c)) (yes_no_checks kind) ++ map (λ (c : StrengthCheck). check_number (strength c)) (strength_checks kind)

-- kind 1 has checks 1 to 6; 2 has 7 and 8; 3 has 2, 3, 9 and 10; 4 has 2, 3 and 8 to 11; 5 has 2, 3, 8 and 11
pub checks_of_kinds : (numbers_of Tension ≡ 1 ∷ 2 ∷ 3 ∷ 4 ∷ 5 ∷ 6 ∷ [])
    × (numbers_of Bending ≡ 7 ∷ 8 ∷ [])
    × (numbers_of Compression ≡ 2 ∷ 3 ∷ 9 ∷ 10 ∷ [])
    × (numbers_of CompressionBending ≡ 2 ∷ 3 ∷ 8 ∷ 9 ∷ 10 ∷ 11 ∷ [])
    × (numbers_of TensionBending ≡ 2 ∷ 3 ∷ 8 ∷ 11 ∷ [])
checks_of_kinds = (refl, refl, refl, refl, refl)

-- kinds 3 and 4 have checks 9 and 10 both, whichever strut is the longer or the more slender
pub both_struts : (m : Member) → (m.kind ≡ Compression) ⊎ (m.kind ≡ CompressionBending) → Has m (strength (buckling across_height)) × Has m (strength (buckling across_width))
both_struts m (inl e) = (record { of_kind = rw e (inl refl); kept = refl }, record { of_kind = rw e (inr (inl refl)); kept = refl })
both_struts m (inr e) = (record { of_kind = rw e (inr (inl refl)); kept = refl }, record { of_kind = rw e (inr (inr (inl refl))); kept = refl })

-- check 2 is of Lh and h, check 3 of Lb and b: 12 × L² ≤ limit² × s²
pub struts_by_cells : (m : Member) (f : Forces)
    → (Holds m f (yes_no (slenderness across_height)) ↔ (12 * (m.lh * m.lh) ≤ limit_of m * limit_of m * (m.height * m.height)))
    × (Holds m f (yes_no (slenderness across_width)) ↔ (12 * (m.lb * m.lb) ≤ limit_of m * limit_of m * (m.width * m.width)))
struts_by_cells m f = ((λ h. h, λ h. h), (λ h. h, λ h. h))

-- check 3 is left out in row 4 of Table 16 and in no other
pub row_4_alone : (m : Member) → omitted m (yes_no (slenderness across_width)) ≡ true ↔ m.table16 ≡ 4
row_4_alone m = (eqb-true m.table16 4, eq-eqb m.table16 4)
