-- Laws of cells: the first cells of a row, how many bits cells have, and that each is narrow where none is found too wide.
-- Assumes nothing.
use mathlib.Core.Path.{◌≡◌, refl, sym, ap, ◌∙◌}
use mathlib.Core.Logic.{◌⊎◌, inl, inr}
use Prim.Native.Nat.{ℕ, suc, ◌+◌, ◌*◌, ◌^◌, ◌≤◌, ◌<◌}
use native.Mathlib.Numerals.{add-one}
use native.Mathlib.Omega.{arith}
use mathlib.Core.List.{List, [], ◌∷◌, ◌++◌, append_assoc, append-nil}
use mathlib.Core.Bool.{Bool, true, false, not}
use lib.ListN.{length, get_or, take, drop, replicate, length-append, length-replicate, take-append-drop}
use lib.Seq.{take-suc}
use lib.Dec.{leb, ltb}
use borrow.Author.Tests.{ltb-true, ltb-false, le-leb, lt-leb, not-false}
use Rattle.std.specs.Prelude.{None, Some}
use Rattle.cells.specs.Row.{value_bits, Cell}
use Rattle.cells.proofs.LowestLaws.{Passes, FailsAt, lowest_meaning}
use Rattle.packed.specs.Bits.{Bytes, bits_of, bytes_of}
use Rattle.packed.specs.Packing.{cell_bits, row_bits, bytes_for, packed, too_wide, lowest_wide}
use Rattle.packed.proofs.BitLaws.{length_bits, length-bits_of, length-bytes_of, bytes_of-filled}

-- ---- the bits of cells

-- a blank has one bit
pub length_blank : length (cell_bits None) ≡ 1
unfolding cell_bits
length_blank = refl

-- a whole number has 35
pub length_whole : (value : ℕ) → length (cell_bits (Some value)) ≡ 35
unfolding cell_bits
length_whole value = ap suc (length_bits value_bits value)

-- every cell has at least one bit
pub row_bits_least : (cells : List Cell) → length cells ≤ length (row_bits cells)
unfolding row_bits
row_bits_least [] = omega arith
row_bits_least (None ∷ cells) = omega (arith, row_bits_least cells, length-append (cell_bits None) (row_bits cells), length_blank)
row_bits_least (Some value ∷ cells) =
    omega (arith, row_bits_least cells, length-append (cell_bits (Some value)) (row_bits cells), length_whole value)

-- and at most 35
pub row_bits_most : (cells : List Cell) → length (row_bits cells) ≤ 35 * length cells
unfolding row_bits
row_bits_most [] = omega arith
row_bits_most (None ∷ cells) = omega (arith, row_bits_most cells, length-append (cell_bits None) (row_bits cells), length_blank)
row_bits_most (Some value ∷ cells) =
    omega (arith, row_bits_most cells, length-append (cell_bits (Some value)) (row_bits cells), length_whole value)

-- packed cells have the bytes that their bits need
pub length_packed : (cells : List Cell) → length (packed cells) ≡ bytes_for (length (row_bits cells))
unfolding packed
length_packed cells = length-bytes_of (bytes_for (length (row_bits cells))) (row_bits cells)

-- bytes whose bits are the cells' and then fewer than eight zeros are the packed cells
pub packed_by : (cells : List Cell) (bytes : List ℕ) (j : ℕ) → Bytes bytes → j < 8 → bits_of bytes ≡ row_bits cells ++ replicate j false → packed cells ≡ bytes
unfolding packed
packed_by cells bytes j known few e =
    let bs : List Bool = row_bits cells in
    let total : length bytes * 8 ≡ length bs + length (replicate j false) = sym (length-bits_of bytes) ∙ ap length e ∙ length-append bs (replicate j false) in
    let size : bytes_for (length bs) ≡ length bytes = omega (arith, length-replicate j false) in
    ap (λ (n : ℕ). bytes_of n bs) size ∙ bytes_of-filled bytes j bs known e

-- cells after cells are bits after bits
row_bits-append : (front back : List Cell) → row_bits (front ++ back) ≡ row_bits front ++ row_bits back
unfolding row_bits
row_bits-append [] back = refl
row_bits-append (cell ∷ front) back = rw (row_bits-append front back, append_assoc)

module _ (cells : List Cell) (i : ℕ) where
  -- the first i cells have no more bits than all
  pub row_bits_le : length (row_bits (take i cells)) ≤ length (row_bits cells)
  row_bits_le =
      let e : length (row_bits cells) ≡ length (row_bits (take i cells)) + length (row_bits (drop i cells)) =
      ap (λ (l : List Cell). length (row_bits l)) (sym (take-append-drop i cells))
      ∙ ap length (row_bits-append (take i cells) (drop i cells))
      ∙ length-append (row_bits (take i cells)) (row_bits (drop i cells)) in
      omega arith

  module _ (inside : i < length cells) where
    -- the cell at i adds its bits to theirs
    pub row_bits_next : row_bits (take (i + 1) cells) ≡ row_bits (take i cells) ++ cell_bits (get_or cells i None)
    row_bits_next =
        rw (add-one, take-suc cells i None inside, row_bits-append (take i cells) (get_or cells i None ∷ []))
        (unfold row_bits in ap (λ (bs : List Bool). row_bits (take i cells) ++ bs) (append-nil (cell_bits (get_or cells i None))))

    -- and as many
    pub length_next : length (row_bits (take (i + 1) cells)) ≡ length (row_bits (take i cells)) + length (cell_bits (get_or cells i None))
    length_next = ap length row_bits_next ∙ length-append (row_bits (take i cells)) (cell_bits (get_or cells i None))

-- ---- cells that are too wide

-- the code's test of a value is the definition's
pub wide_test : (value : ℕ) → leb (2 ^ value_bits) value ≡ too_wide (Some value)
wide_test value = by (ltb value (2 ^ value_bits)) refl
  where
    by : (t : Bool) → ltb value (2 ^ value_bits) ≡ t → leb (2 ^ value_bits) value ≡ not t
    by true e = lt-leb (2 ^ value_bits) value (ltb-true value (2 ^ value_bits) e)
    by false e = le-leb (2 ^ value_bits) value (ltb-false value (2 ^ value_bits) e)

-- a value that is not too wide has 34 bits
pub narrow_lt : (value : ℕ) → too_wide (Some value) ≡ false → value < 2 ^ value_bits
narrow_lt value h = ltb-true value (2 ^ value_bits) (not-false (ltb value (2 ^ value_bits)) h)

-- the test that finds the lowest: a cell's number does not matter
abbrev pub wide_cell : ℕ → Cell → Bool
wide_cell n cell = too_wide cell

-- no cell is too wide
abbrev pub NoneTooWide : List Cell → Type 0
NoneTooWide cells = (i : ℕ) → i < length cells → too_wide (get_or cells i None) ≡ false

-- where none is found too wide, none is
pub narrow_cells : (cells : List Cell) → lowest_wide cells ≡ 0 → NoneTooWide cells
narrow_cells cells none = by (lowest_meaning wide_cell 1 cells)
  where
    by : Passes wide_cell 1 cells ⊎ ((k : ℕ) × FailsAt wide_cell 1 cells k) → NoneTooWide cells
    by (inl passes) i h = passes.all i None h
    by (inr (k, fails)) i h = absurd (omega (arith, fails.found, none))
