-- Which refusals an entry can return, and for which cell: a number from 1 to 5, and no cell past the last.
-- Assumes nothing.
use Prim.Native.Nat.{ℕ, ◌+◌, ◌*◌, ◌^◌, ◌≤◌}
use mathlib.Core.Bool.{Bool, true, false, cond}
use mathlib.Core.List.{List, [], ◌∷◌}
use mathlib.Core.Path.{◌≡◌, refl}
use native.Mathlib.Omega.{arith}
use lib.Dec.{eqb, leb, lit≤}
use lib.ListN.{length, get_or}
use borrow.Author.Tests.{lt-ltb}
use Rattle.std.specs.Prelude.{None, Some, Option}
use Rattle.rounding.specs.Range.{In}
use Rattle.rounding.proofs.Ranges.{in_wide}
use Rattle.worksheet.specs.HostAnswer.{floats_result}
use Rattle.worksheet.specs.HostRow.{host_cell_bytes, host_cells_at, read_host_row}
use Rattle.cells.specs.Lowest.{lowest}
use Rattle.worksheet.specs.Reading.{read_cell, is_unreadable, lowest_unreadable, read_cells}
use Rattle.worksheet.specs.declared.host_cell.HostCell.{HostCell}
use Rattle.cells.specs.Refusal.{Result, gives, refuses, and_then}
use Rattle.cells.specs.Row.{cell_count, value_bits, Cell}
use Rattle.cells.proofs.LowestLaws.{lowest_most}
use Rattle.worksheet.proofs.HostRowLaws.{host_cells_length}
use Rattle.worksheet.proofs.ReadingLaws.{as_read}
use Rattle.worksheet.proofs.ReadRows.{AllNarrow, row_as_read}
use Rattle.member.specs.Acceptance.{accept, accept_kind, accept_code, accept_first, misfilled, unknown_code, out_of_range, lowest_cell, is_begun}
use Rattle.member.specs.Kind.{kind_of}
use Rattle.member.specs.Member.{values_of, member_of}
use Rattle.member.specs.Verdict.{judged, check_row}
use Rattle.member.specs.declared.member.Member.{Member}
use Rattle.member.specs.declared.kind.Kind.{Kind}
use Rattle.member.specs.declared.verdict.Verdict.{Verdict}
use Rattle.packed.specs.Packing.{packed, too_wide, lowest_wide, pack_result}
use Rattle.worksheet.specs.Entries.{answered, host_check, host_pack}

-- a refusal's number is from lo to hi, and its cell is 0 or one of the row's
abbrev pub Numbered : {A : Type 0} → ℕ → ℕ → Result A → Type 0
Numbered lo hi (gives value) = Unit
Numbered lo hi (refuses number cell) = In lo hi number × (cell ≤ cell_count)

by_test : {A : Type 0} (lo hi number cell : ℕ) (rest : Result A) → In lo hi number → cell ≤ cell_count → Numbered lo hi rest
    → (t : Bool) → Numbered lo hi (cond t rest (refuses number cell))
by_test lo hi number cell rest here within later true = later
by_test lo hi number cell rest here within later false = (here, within)

within : (lo hi n : ℕ) → lo ≤ n → n ≤ hi → In lo hi n
within lo hi n low high = record { low = low; high = high }

-- reading refuses with 1
pub reading_numbered : (bytes : List ℕ) → Numbered 1 1 (read_host_row bytes)
reading_numbered bytes =
    let cells = host_cells_at cell_count bytes 0 in
    let one : In 1 1 1 = within 1 1 1 (omega arith) (omega arith) in
    let lowest-in : lowest_unreadable cells ≤ cell_count = omega (arith, lowest_most (λ (n : ℕ) (cell : HostCell). is_unreadable (read_cell cell)) cells, host_cells_length cell_count bytes 0) in
    by_test 1 1 1 0 (read_cells cells) one (omega arith)
    (by_test 1 1 1 (lowest_unreadable cells) (gives (as_read cells)) one lowest-in tt (eqb (lowest_unreadable cells) 0))
    (eqb (length bytes) (host_cell_bytes * cell_count))

-- checking a whole row refuses with 2 to 4
module _ (cells : List Cell) (whole : length cells ≡ cell_count) where
  in_row : (test : ℕ → Cell → Bool) → lowest_cell test cells ≤ cell_count
  in_row test = omega (arith, lowest_most test cells, whole)

  kind_numbered : (kind : Kind) → Numbered 2 4 (accept_kind kind cells)
  unfolding accept_kind
  kind_numbered kind =
      let begun = is_begun kind cells in
      let range = lowest_cell out_of_range cells in
      by_test 2 4 2 (lowest_cell (misfilled kind begun) cells) _ (within 2 4 2 (omega arith) (omega arith)) (in_row (misfilled kind begun))
      (by_test 2 4 3 (lowest_cell (unknown_code kind) cells) _ (within 2 4 3 (omega arith) (omega arith)) (in_row (unknown_code kind))
      (by_test 2 4 4 range (gives (member_of kind begun (values_of cells))) (within 2 4 4 (omega arith) (omega arith)) (in_row out_of_range) tt (eqb range 0))
      (eqb (lowest_cell (unknown_code kind) cells) 0))
      (eqb (lowest_cell (misfilled kind begun) cells) 0)

  pub accept_numbered : Numbered 2 4 (accept cells)
  accept_numbered = by (get_or cells 0 None)
    where
      by_code : (code : Option Kind) → Numbered 2 4 (accept_code code cells)
      by_code None = (within 2 4 3 (omega arith) (omega arith), omega arith)
      by_code (Some kind) = kind_numbered kind

      by : (first : Cell) → Numbered 2 4 (accept_first first cells)
      by None = (within 2 4 2 (omega arith) (omega arith), omega arith)
      by (Some code) = by_code (kind_of code)

-- the test of the answer's length refuses with 5, for any number of floats
pub floats_numbered : {A : Type 0} (count room : ℕ) (value : A) → Numbered 5 5 (and_then (floats_result count room) (λ (given : Unit {0}). gives value))
floats_numbered {A} count room value = by (eqb room (8 * count))
  where
    by : (t : Bool) → Numbered 5 5 (and_then (cond t (gives tt) (refuses 5 0)) (λ (given : Unit {0}). gives value))
    by true = tt
    by false = (within 5 5 5 (omega arith) (omega arith), omega arith)

pub answer_numbered : (room : ℕ) (verdict : Verdict) → Numbered 5 5 (answered room verdict)
answer_numbered room verdict = floats_numbered 3 room verdict

-- what comes after an operation that gives a value; a refusal of wider numbers
pub then_numbered : {A B : Type 0} (lo hi : ℕ) (result : Result A) (next : A → Result B) → Numbered lo hi result → ((value : A) → result ≡ gives value → Numbered lo hi (next value))
    → Numbered lo hi (and_then result next)
then_numbered lo hi (gives value) next here later = later value refl
then_numbered lo hi (refuses number cell) next here later = here

pub wide_numbered : {A : Type 0} (lo hi : ℕ) {lo' hi' : ℕ} (result : Result A) → lo ≤ lo' → hi' ≤ hi → Numbered lo' hi' result → Numbered lo hi result
wide_numbered lo hi (gives value) l h here = tt
wide_numbered lo hi (refuses number cell) l h here = (in_wide lo hi l h here.0, here.1)

judged_numbered : (lo hi : ℕ) (result : Result Member) → Numbered lo hi result → Numbered lo hi (judged result)
judged_numbered lo hi (gives m) here = tt
judged_numbered lo hi (refuses number cell) here = here

-- so checking for the host refuses with 1 to 5
pub check_numbered : (row : List ℕ) (room : ℕ) → Numbered 1 5 (host_check row room)
check_numbered row room =
    then_numbered 1 5 (and_then (read_host_row row) check_row) (answered room)
    (then_numbered 1 5 (read_host_row row) check_row (wide_numbered 1 5 (read_host_row row) (lit≤ tt) (lit≤ tt) (reading_numbered row))
    (λ cells read. wide_numbered 1 5 (check_row cells) (lit≤ tt) (lit≤ tt) (judged_numbered 2 4 (accept cells) (accept_numbered cells (row_as_read row cells read).long))))
    (λ verdict given. wide_numbered 1 5 (answered room verdict) (lit≤ tt) (lit≤ tt) (answer_numbered room verdict))

-- a row that was read has no value too wide to pack
narrow_none : (n : ℕ) (cells : List Cell) → AllNarrow cells → lowest (λ (n : ℕ) (cell : Cell). too_wide cell) n cells ≡ 0
unfolding lowest
narrow_none n [] narrow = refl
narrow_none n (None ∷ cells) narrow = narrow_none (n + 1) cells narrow.1
narrow_none n (Some value ∷ cells) narrow = rw (lt-ltb value (2 ^ value_bits) narrow.0) (narrow_none (n + 1) cells narrow.1)

pub none_wide : (bytes : List ℕ) (cells : List Cell) → read_host_row bytes ≡ gives cells → lowest_wide cells ≡ 0
none_wide bytes cells e = narrow_none 1 cells (row_as_read bytes cells e).narrow

-- and so does packing; that it is with 1 or 5 alone says `pack_refusals`
pub pack_numbered : (row : List ℕ) (room : ℕ) → Numbered 1 5 (host_pack row room)
pack_numbered row room =
    then_numbered 1 5 (read_host_row row) (λ (cells : List Cell). pack_result cells room)
    (wide_numbered 1 5 (read_host_row row) (lit≤ tt) (lit≤ tt) (reading_numbered row))
    (λ cells read. rw (none_wide row cells read) (by (length (packed cells)) (leb (length (packed cells)) room)))
  where
    by : (size : ℕ) (t : Bool) → Numbered 1 5 (cond t (gives size) (refuses 5 0))
    by size true = tt
    by size false = (within 1 5 5 (omega arith) (omega arith), omega arith)
