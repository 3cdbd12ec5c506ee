-- From cell to answer: measuring cell by cell, and what packing answers to what was measured.
-- Assumes nothing.
use mathlib.Core.Path.{◌≡◌, refl, sym, ap, ◌∙◌}
use Prim.Native.Nat.{ℕ, ◌+◌, ◌*◌, ◌≤◌, ◌<◌}
use native.Mathlib.Omega.{arith}
use mathlib.Core.List.{List}
use mathlib.Core.Bool.{Bool, true, false, cond}
use lib.ListN.{length, get_or, take, drop, length-take}
use lib.Seq.{take_all}
use lib.Dec.{eqb, leb}
use borrow.Author.Tests.{eqb-true, ne_eqb, le-leb, lt-leb}
use Rattle.std.specs.Prelude.{None, Ok, Err}
use Rattle.cells.specs.Lowest.{lowest}
use Rattle.cells.specs.Refusal.{gives, refuses}
use Rattle.cells.specs.Row.{Cell}
use Rattle.cells.specs.declared.refusal.Refusal.TheVariants.{OutOfRange}
use Rattle.cells.proofs.LowestLaws.{lowest_step, lowest_end}
use Rattle.packed.specs.Packing.{cell_bits, row_bits, bytes_for, packed, too_wide, lowest_wide, pack_result}
use Rattle.codec.specs.Answers.{measure_of}
use Rattle.packed.proofs.CellLaws.{wide_cell, row_bits_most, length_next, length_packed}

-- ---- measuring

-- what measuring has found after i cells: their bits, and that none of them is too wide
pub record Counted (cells : List Cell) (i bits : ℕ) : Type 0 where
  pub exact : bits ≡ length (row_bits (take i cells))
  pub same : lowest wide_cell (i + 1) (drop i cells) ≡ lowest_wide cells

-- the bits of i cells are few
pub counted_most : (cells : List Cell) (i bits : ℕ) → Counted cells i bits → bits ≤ 35 * i
counted_most cells i bits h = omega (arith, h.exact, row_bits_most (take i cells), length-take i cells)

-- before the first cell
pub counted_none : (cells : List Cell) → Counted cells 0 0
unfolding row_bits
counted_none cells = record { exact = refl; same = refl }

module _ (cells : List Cell) (i bits : ℕ) (h : Counted cells i bits) where
  -- after the last cell
  pub measured_bits : length cells ≤ i → Ok bits ≡ measure_of cells
  measured_bits all =
      let none : lowest_wide cells ≡ 0 = sym h.same ∙ lowest_end wide_cell cells i (i + 1) all in
      rw (none, h.exact, take_all i cells all)

  module _ (inside : i < length cells) where
    -- at a cell that is not too wide
    pub counted_next : too_wide (get_or cells i None) ≡ false → Counted cells (i + 1) (bits + length (cell_bits (get_or cells i None)))
    counted_next narrow =
        record {
          exact = omega (arith, h.exact, length_next cells i inside);
          same = sym (lowest_step wide_cell cells i (i + 1) None false inside narrow) ∙ h.same;
        }

    -- at the first that is
    pub measured_wide : too_wide (get_or cells i None) ≡ true → Err (OutOfRange (i + 1)) ≡ measure_of cells
    measured_wide e =
        let found : lowest_wide cells ≡ i + 1 = sym h.same ∙ lowest_step wide_cell cells i (i + 1) None true inside e in
        rw (found, ne_eqb (i + 1) 0 (λ z. omega arith))

-- ---- the answer

module _ (cells : List Cell) where
  -- a cell was found too wide
  pub pack_wide : (cell room : ℕ) → Err (OutOfRange cell) ≡ measure_of cells → pack_result cells room ≡ refuses 4 cell
  pack_wide cell room e = by (eqb (lowest_wide cells) 0) e
    where
      by : (t : Bool) → Err (OutOfRange cell) ≡ cond t (Ok (length (row_bits cells))) (Err (OutOfRange (lowest_wide cells)))
          → cond t (cond (leb (length (packed cells)) room) (gives (length (packed cells))) (refuses 5 0)) (refuses 4 (lowest_wide cells)) ≡ refuses 4 cell
      by true e = absurd (let z : ◌≡◌ {A = ℕ} 0 1 = cc in omega arith)
      by false e = cc

  -- none was: the bits are the cells' bits
  pub narrow_measured : (bits : ℕ) → Ok bits ≡ measure_of cells → (lowest_wide cells ≡ 0) × (length (row_bits cells) ≡ bits)
  narrow_measured bits e = by (eqb (lowest_wide cells) 0) refl e
    where
      by : (t : Bool) → eqb (lowest_wide cells) 0 ≡ t → Ok bits ≡ cond t (Ok (length (row_bits cells))) (Err (OutOfRange (lowest_wide cells)))
          → (lowest_wide cells ≡ 0) × (length (row_bits cells) ≡ bits)
      by true none e = (eqb-true _ _ none, cc)
      by false none e = absurd (let z : ◌≡◌ {A = ℕ} 0 1 = cc in omega arith)

  module _ (bits room : ℕ) (e : Ok bits ≡ measure_of cells) where
    size : length (packed cells) ≡ bytes_for bits
    size = length_packed cells ∙ ap bytes_for (narrow_measured bits e).1

    -- the buffer is too short
    pub pack_short : room < bytes_for bits → pack_result cells room ≡ refuses 5 0
    pack_short h =
        let s = size in
        rw ((narrow_measured bits e).0, lt-leb (length (packed cells)) room (omega arith))

    -- it has the room
    pub pack_done : bytes_for bits ≤ room → pack_result cells room ≡ gives (bytes_for bits)
    pack_done h =
        let s = size in
        rw ((narrow_measured bits e).0, le-leb (length (packed cells)) room (omega arith)) (ap gives s)
