-- Reading the host's floor beam, and what the entry returns and leaves, for each way that it can end.
-- Assumes nothing.
use Prim.Native.Nat.{ℕ, ◌+◌, ◌*◌}
use mathlib.Core.Bool.{Bool, true, false, cond}
use mathlib.Core.List.{List, [], ◌∷◌}
use mathlib.Core.Path.{◌≡◌, refl}
use borrow.Author.Tests.{eq-eqb, ne_eqb}
use lib.ListN.{length}
use Rattle.std.specs.Prelude.{Option, Some}
use Rattle.cells.specs.Lowest.{lowest}
use Rattle.cells.specs.Refusal.{gives, refuses, refused_by, refusal_code, leaves, told}
use Rattle.cells.specs.declared.refusal.Refusal.{Refusal}
use Rattle.worksheet.specs.HostAnswer.{floats_result, floats_buffer, whole_floats}
use Rattle.worksheet.specs.Number.{Reading}
use Rattle.worksheet.specs.declared.host_cell.HostCell.{HostCell}
use Rattle.worksheet.specs.declared.host_cell.HostCell.TheVariants.{Blank as Empty}
use Rattle.worksheet.specs.Reading.{read_cell, is_unreadable, cell_read, lowest_unreadable}
use Rattle.floorrules.specs.FloorBeam.{accept_loading, floor_beam}
use Rattle.floorrules.specs.HostBeam.{beam_cell_at, loading_of, host_loading, host_cells_of_row, host_beam_cells, beam_numbers, beam_bytes, beam_answered, host_floor_beam, beam_pass_or_fail, beam_returns, beam_leaves}
use Rattle.floorrules.specs.Loads.{loading_in_range}
use Rattle.floorrules.specs.declared.answer.BeamVerdict.{BeamVerdict}
use Rattle.floorrules.specs.declared.beam.BeamCells.{BeamCells}
use Rattle.floorrules.specs.declared.beam.Loading.{Loading}

-- ---- loads and span

-- loads and a span that are all there: refused or given, by their ranges
pub loads_given : {a b c : Option ℕ} (lasting remaining span : ℕ) → a ≡ Some lasting → b ≡ Some remaining → c ≡ Some span
    → accept_loading (record { lasting = lasting; remaining = remaining; span = span }) ≡ loading_of a b c
loads_given lasting remaining span e f g = rw (e, f, g) refl

-- loads that are accepted or not
pub loading_outside : (l : Loading) → loading_in_range l ≡ false → refuses 8 0 ≡ accept_loading l
loading_outside l e = rw e

pub loading_inside : (l : Loading) → loading_in_range l ≡ true → gives l ≡ accept_loading l
loading_inside l e = rw e

-- ---- the five cells

-- the last of the five decides where the others are readable
pub none_before_last : (grade moisture office width height : HostCell) {t : Bool} → is_unreadable (read_cell grade) ≡ false → is_unreadable (read_cell moisture) ≡ false
    → is_unreadable (read_cell office) ≡ false → is_unreadable (read_cell width) ≡ false → is_unreadable (read_cell height) ≡ t
    → lowest_unreadable (Empty ∷ grade ∷ Empty ∷ moisture ∷ office ∷ width ∷ height ∷ []) ≡ cond t 7 0
unfolding lowest
none_before_last grade moisture office width height e f g h i = rw (e, f, g, h, i)

-- what the five readings come to
module _ (beam : List ℕ) where
  abbrev reading : ℕ → Reading
  reading place = read_cell (beam_cell_at beam place)

  -- where each is readable they are the cells of the beam, and otherwise the lowest is refused
  pub five_cells : lowest_unreadable (host_cells_of_row beam) ≡ 0
      → gives (record { grade = cell_read (reading 3); moisture = cell_read (reading 4); office = cell_read (reading 5); width = cell_read (reading 6); height = cell_read (reading 7) })
      ≡ host_beam_cells beam
  five_cells none = rw none

  pub cell_unreadable : {n : ℕ} → lowest_unreadable (host_cells_of_row beam) ≡ n → (n ≡ 0 → ⊥) → refuses 1 n ≡ host_beam_cells beam
  cell_unreadable e some = rw (e, ne_eqb _ _ some)

-- ---- the answer

-- a verdict in an answer of another length, and of the right one
module _ (v : BeamVerdict) (answer : List ℕ) where
  pub answer_refused : (refusal : Refusal) → floats_result 6 (length answer) ≡ refused_by refusal
      → (refusal_code refusal ≡ told beam_pass_or_fail (beam_answered (length answer) v))
      × (floats_buffer (whole_floats (beam_numbers v)) answer ≡ leaves (beam_answered (length answer) v) beam_bytes answer)
  answer_refused refusal e = rw e (refl, refl)

  pub answer_given : floats_result 6 (length answer) ≡ gives tt
      → (beam_pass_or_fail v ≡ told beam_pass_or_fail (beam_answered (length answer) v))
      × (floats_buffer (whole_floats (beam_numbers v)) answer ≡ leaves (beam_answered (length answer) v) beam_bytes answer)
  answer_given e = rw e (refl, refl)

-- ---- the entry

module _ (beam answer : List ℕ) where
  -- what is returned and left, of each result
  pub entry_refused : {number cell : ℕ} → host_floor_beam beam (length answer) ≡ refuses number cell
      → (1000 * number + cell ≡ beam_returns beam (length answer)) × (answer ≡ beam_leaves beam answer)
  entry_refused e = rw e (refl, refl)

  module _ (whole : length beam ≡ 72) where
    module _ (l : Loading) (loading : gives l ≡ host_loading beam) where
      pub unreadable : {n : ℕ} → refuses 1 n ≡ host_beam_cells beam → host_floor_beam beam (length answer) ≡ refuses 1 n
      unreadable e = rw (eq-eqb _ _ whole, ← loading, ← e)

      module _ (typed : BeamCells) (cells : gives typed ≡ host_beam_cells beam) where
        pub refused : {number cell : ℕ} → refuses number cell ≡ floor_beam l typed → host_floor_beam beam (length answer) ≡ refuses number cell
        refused e = rw (eq-eqb _ _ whole, ← loading, ← cells, ← e)

        pub judged : (v : BeamVerdict) → gives v ≡ floor_beam l typed
            → (told beam_pass_or_fail (beam_answered (length answer) v) ≡ beam_returns beam (length answer))
            × (leaves (beam_answered (length answer) v) beam_bytes answer ≡ beam_leaves beam answer)
        judged v e = rw (eq-eqb _ _ whole, ← loading, ← cells, ← e) (refl, refl)
