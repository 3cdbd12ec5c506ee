-- How a loop reads cell after cell into a row: what it has read up to a cell, one cell more, a cell that it stops at, and the end.
-- Assumes nothing.
use mathlib.Core.Path.{◌≡◌, refl, sym, ap, ◌∙◌, subst}
use mathlib.Core.Bool.{Bool, true, false, cond}
use mathlib.Core.List.{List}
use Prim.Native.Nat.{ℕ, ◌+◌, ◌<◌, ◌≤◌}
use native.Mathlib.Omega.{arith}
use lib.ListN.{length, get_or, take, drop, set, length-set, length-map, get_or-map}
use Rattle.std.specs.Prelude.{None, Ok, Err, Result as Answer}
use Rattle.std.specs.Result.{is_err}
use Rattle.cells.specs.Lowest.{lowest}
use Rattle.cells.specs.Refusal.{Result, gives, refuses, result_of, value_or}
use Rattle.cells.specs.Row.{Cell}
use Rattle.cells.specs.declared.refusal.Refusal.{Refusal}
use Rattle.cells.specs.declared.refusal.Refusal.TheVariants.{Unreadable}
use Rattle.cells.proofs.FillLaws.{fill_step, fill_end}
use Rattle.cells.proofs.LowestLaws.{lowest_step, lowest_end}
use Rattle.worksheet.specs.Number.{Reading}
use Rattle.worksheet.specs.Reading.{read_cell, is_unreadable, cell_read, lowest_unreadable, read_cells}
use Rattle.worksheet.specs.declared.host_cell.HostCell.{HostCell}
use Rattle.worksheet.specs.declared.host_cell.HostCell.TheVariants.{Blank as Empty}
use Rattle.worksheet.specs.declared.host_cell.ReadError.{ReadError}
use Rattle.worksheet.proofs.ReadingLaws.{as_read, read_given, read_refused}
use Rattle.reading.specs.Cells.{or_named}

-- whether a cell is unreadable, as the test of a search
abbrev unreadable : ℕ → HostCell → Bool
unreadable n cell = is_unreadable (read_cell cell)

-- the first i cells are readable, and a row holds what they read as
pub record ReadUpTo (cells : List HostCell) (i : ℕ) (row : List Cell) : Type 0 where
  pub whole : length row ≡ length cells
  pub stored : take i row ≡ take i (as_read cells)
  pub searched : lowest_unreadable cells ≡ lowest unreadable (i + 1) (drop i cells)

-- a search that has come to cell i, which reads as r
search_on : (cells : List HostCell) (i : ℕ) (r : Reading) → i < length cells → r ≡ read_cell (get_or cells i Empty)
    → lowest unreadable (i + 1) (drop i cells) ≡ cond (is_unreadable r) (i + 1) (lowest unreadable (i + 1 + 1) (drop (i + 1) cells))
search_on cells i r h e = lowest_step unreadable cells i (i + 1) Empty (is_unreadable r) h (ap is_unreadable (sym e))

as_many : (cells : List HostCell) → length (as_read cells) ≡ length cells
as_many cells = length-map cells (λ (cell : HostCell). cell_read (read_cell cell))

pub read_none : (cells : List HostCell) (row : List Cell) → length row ≡ length cells → ReadUpTo cells 0 row
read_none cells row whole = record { whole = whole; stored = refl; searched = refl }

pub read_more : {cells : List HostCell} {i : ℕ} {row : List Cell} (cell : Cell) → ReadUpTo cells i row → i < length cells → Ok cell ≡ read_cell (get_or cells i Empty) → ReadUpTo cells (i + 1) (set row i cell)
read_more {cells = cells} {i = i} {row = row} cell read h e = record {
  whole = length-set row i cell ∙ read.whole;
  stored =
      fill_step row (as_read cells) i cell None (omega (arith, read.whole)) (omega (arith, as_many cells)) read.stored
      (get_or-map (λ (cell : HostCell). cell_read (read_cell cell)) cells i Empty ∙ ap cell_read (sym e));
  searched = read.searched ∙ search_on cells i (Ok cell) (omega arith) e;
}

pub read_stops : {cells : List HostCell} {i : ℕ} {row : List Cell} (reason : ReadError) → ReadUpTo cells i row → i < length cells
    → Err reason ≡ read_cell (get_or cells i Empty) → read_cells cells ≡ refuses 1 (i + 1)
read_stops {cells = cells} {i = i} reason read h e = read_refused cells i (read.searched ∙ search_on cells i (Err reason) h e)

pub read_all : {cells : List HostCell} {i : ℕ} {row : List Cell} → ReadUpTo cells i row → length cells ≤ i → read_cells cells ≡ gives row
read_all {cells = cells} {i = i} {row = row} read h =
    read_given cells (read.searched ∙ lowest_end unreadable cells i (i + 1) (omega arith))
    ∙ ap gives (sym (fill_end row (as_read cells) i (omega (arith, read.whole)) (omega (arith, as_many cells)) read.stored))

-- ---- what a cell's answer tells of its reading

abbrev Fails : {A E : Type 0} → Answer A E → Type 0
Fails (Ok value) = ⊥
Fails (Err reason) = Unit {0}

pub was_read : (n : ℕ) (r : Reading) (cell : Cell) → or_named n r ≡ Ok cell → Ok cell ≡ r
was_read n (Ok other) cell e = cc
was_read n (Err reason) cell e = absurd (subst (λ (s : Answer Cell Refusal). Fails s) e tt)

pub was_unreadable : (n : ℕ) (r : Reading) (refusal : Refusal) → or_named n r ≡ Err refusal → (reason : ReadError) × (Err reason ≡ r) × (refusal ≡ Unreadable n)
was_unreadable n (Ok cell) refusal e = absurd (subst (λ (s : Answer Cell Refusal). Fails s) (sym e) tt)
was_unreadable n (Err reason) refusal e = (reason, refl, cc)

-- ---- what reading in place leaves

pub refused_leaves : (answer : Answer (Unit {0}) Refusal) (row nothing : List Cell) (result : Result (List Cell)) → result_of answer row ≡ result → is_err answer ≡ true
    → (result_of answer nothing ≡ result) × (nothing ≡ value_or nothing result)
refused_leaves (Ok done) row nothing result e h = absurd (cc)
refused_leaves (Err refusal) row nothing result e h = (e, ap (value_or nothing) e)

pub done_leaves : (answer : Answer (Unit {0}) Refusal) (row nothing : List Cell) (result : Result (List Cell)) → result_of answer row ≡ result → is_err answer ≡ false
    → row ≡ value_or nothing result
done_leaves (Ok done) row nothing result e h = ap (value_or nothing) e
done_leaves (Err refusal) row nothing result e h = absurd (cc)
