-- The material of a row's cells is that of the row's member, and in its ranges where the row is judged.
-- Assumes nothing.
use Prim.Native.Nat.{ℕ}
use mathlib.Core.List.{List}
use mathlib.Core.Path.{◌≡◌, refl, sym, ◌∙◌, subst}
use lib.ListN.{length, get_or, get_or-map}
use Rattle.std.specs.Prelude.{None, Some, unwrap_or}
use Rattle.cells.specs.Refusal.{gives, leaves}
use Rattle.cells.specs.Row.{Cell}
use Rattle.sp64.specs.Strength.{MaterialRanges}
use Rattle.sp64.specs.declared.strength.Material.{Material}
use Rattle.member.specs.Acceptance.{accept}
use Rattle.member.specs.Cells.{value_of}
use Rattle.member.specs.Member.{values_of}
use Rattle.member.specs.Verdict.{check_row}
use Rattle.member.specs.declared.member.Member.{Member}
use Rattle.member.specs.declared.verdict.Verdict.{Verdict}
use Rattle.member.proofs.AcceptanceLaws.{accept_ranges, accepted_material}
use Rattle.member.proofs.VerdictLaws.{judged_accepted}
use Rattle.worksheet.specs.HostRow.{read_host_row}
use Rattle.worksheet.proofs.ReadRows.{row_as_read}
use Rattle.worksheet.specs.Strengths.{strengths_bytes, strengths_answered, strengths_leaves}
use Rattle.strengths.specs.Material.{material_in}

-- the value of the cell in a place
pub value_in : (cells : List Cell) (place : ℕ) → unwrap_or (get_or cells place None) 0 ≡ get_or (values_of cells) place 0
value_in cells place = by (get_or cells place None) ∙ sym (get_or-map value_of cells place None)
  where
    by : (cell : Cell) → unwrap_or cell 0 ≡ value_of cell
    by None = refl
    by (Some value) = refl

-- a row that is read and judged, and the material of its cells
module _ (row answer : List ℕ) (cells : List Cell) (v : Verdict) {material : Material} (read : read_host_row row ≡ gives cells) (judgement : check_row cells ≡ gives v) (found : material ≡ material_in cells) where
  is_of : (m : Member) → accept cells ≡ gives m → m.material ≡ material
  is_of m e = accepted_material cells m e ∙ sym found

  pub judged_material : MaterialRanges material
  judged_material =
      let was = judged_accepted (accept cells) v judgement in
      subst MaterialRanges (is_of was.0 was.1) (accept_ranges cells was.0 (row_as_read row cells read).long was.1).sized.material

  pub judged_leaves : leaves (strengths_answered (length answer) material) strengths_bytes answer ≡ strengths_leaves row answer
  judged_leaves =
      let was = judged_accepted (accept cells) v judgement in
      rw (read, was.1, is_of was.0 was.1) refl
