-- Laws of unpacking: cells read one after another into a row, and the answer after the last.
-- Assumes nothing.
use mathlib.Core.Path.{◌≡◌, refl, sym, ap, ap₂, ◌∙◌}
use Prim.Native.Nat.{ℕ, suc, ◌+◌, ◌-◌, ◌*◌, ◌/◌, ◌%◌, ◌^◌, ◌≤◌, ◌<◌}
use native.Mathlib.Nat.{sub-zero, mod-eq_of_lt}
use native.Mathlib.Numerals.{add-one}
use native.Mathlib.Omega.{arith}
use mathlib.Core.List.{List, [], ◌∷◌, ◌++◌, append-nil}
use mathlib.Core.Bool.{Bool, true, false}
use lib.ListN.{length, take, drop, set, replicate, length-append, length-drop}
use lib.Seq.{set-append_seam, append_snoc, take_at}
use Rattle.std.specs.Prelude.{None, Some, Result as Answer, Ok, Err, IfOk, IfErr}
use Rattle.cells.specs.Row.{cell_count, cells_of, blanks, Cell}
use Rattle.cells.specs.Refusal.{Result, gives, refuses, by_number, map_given, value_or, refusal_number, refusal_cell}
use Rattle.cells.specs.declared.refusal.Refusal.{Refusal}
use Rattle.packed.specs.Bits.{Bytes, bits, number, bits_of}
use Rattle.packed.specs.Packing.{packed}
use Rattle.packed.specs.Unpacking.{before, parse, any_set, padding, ending, unpacked, filled_up, held}
use Rattle.codec.specs.Place.{on_hand, Taken, left, Reached, Reads}
use Rattle.codec.specs.declared.cursor.Cursor.{Cursor}
use Rattle.codec.specs.declared.unpack.UnpackedRow.{UnpackedRow}
use Rattle.packed.proofs.BitLaws.{bits_zero, length_bits, length-bits_of, number_bits, number_zeros, number_nil}
use Rattle.packed.proofs.ParseLaws.{none_set, all_zero}
use Rattle.codec.proofs.ReaderLaws.{left_taken}
use Rattle.packed.proofs.RoundTrip.{unpack_gives}

-- ---- cells before what a later parse gives

-- these cells and then what the later ones give
pub before_all : List Cell → Result (List Cell × List Bool) → Result (List Cell × List Bool)
before_all [] later = later
before_all (cell ∷ cells) later = before cell (before_all cells later)

-- one cell more before it
before_all-snoc : (cells : List Cell) (cell : Cell) (later : Result (List Cell × List Bool))
    → before_all (cells ++ (cell ∷ [])) later ≡ before_all cells (before cell later)
unfolding before_all
before_all-snoc [] cell later = refl
before_all-snoc (first ∷ cells) cell later = ap (before first) (before_all-snoc cells cell later)

-- nothing later
before_all-gives : (cells : List Cell) (rest : List Bool) → before_all cells (gives ([], rest)) ≡ gives (cells, rest)
unfolding before_all before
before_all-gives [] rest = refl
before_all-gives (first ∷ cells) rest = ap (before first) (before_all-gives cells rest)

-- a refusal stays
before_all-refuses : (cells : List Cell) (number cell : ℕ) → before_all cells (refuses number cell) ≡ refuses number cell
unfolding before_all before
before_all-refuses [] number cell = refl
before_all-refuses (first ∷ cells) number cell = ap (before first) (before_all-refuses cells number cell)

-- ---- cells in a row, blank past their end

-- a cell stored after them makes them one longer
filled_next : (cells : List Cell) (cell : Cell) → length cells < cell_count → set (filled_up cells) (length cells) cell ≡ filled_up (cells ++ (cell ∷ []))
filled_next cells cell h =
    let rest : List Cell = blanks (cell_count - length (cells ++ (cell ∷ []))) in
    let less : cell_count - length cells ≡ suc (cell_count - length (cells ++ (cell ∷ []))) = rw (length-append cells (cell ∷ [])) (omega arith) in
    rw less (set-append_seam cells None rest cell ∙ sym (append_snoc cells cell rest))

-- ---- what has been read after i cells

-- the row holds these i cells and then blanks, and a parse from the start is these cells before a parse from the place on
pub record ReadSoFar (bytes : List ℕ) (n i : ℕ) (row : List Cell) (place : Cursor) : Type 0 where
  pub cells : List Cell
  pub long : length cells ≡ i
  pub stored : row ≡ filled_up cells
  pub reached : Reached bytes place
  pub parsed : parse n 1 (bits_of bytes) ≡ before_all cells (parse (n - i) (suc i) (left bytes place))

-- before the first cell
pub none_yet : (bytes : List ℕ) (n : ℕ) (place : Cursor) → place.at ≡ 0 → place.count ≡ 0 → ReadSoFar bytes n 0 (blanks cell_count) place
unfolding before_all bits
none_yet bytes n place at count =
    record {
      cells = [];
      long = refl;
      stored = refl;
      reached = record { inside = omega arith; read = omega arith };
      parsed = rw (at, count, sub-zero);
    }

module _ {bytes : List ℕ} {n i : ℕ} {row : List Cell} {place : Cursor} (so : ReadSoFar bytes n i row place) (h : i < n) where
  -- what is parsed from the start goes on from here
  from_here : parse n 1 (bits_of bytes) ≡ before_all so.cells (parse (suc (n - (i + 1))) (suc i) (left bytes place))
  from_here =
      let e : n - i ≡ suc (n - (i + 1)) = omega arith in
      so.parsed ∙ ap (λ (m : ℕ). before_all so.cells (parse m (suc i) (left bytes place))) e

  -- one cell more
  pub read_more : n ≤ cell_count → (cell : Cell) (to : Cursor) → Reads bytes place to (Some cell) → ReadSoFar bytes n (i + 1) (set row i cell) to
  read_more small cell to reads =
      record {
        cells = so.cells ++ (cell ∷ []);
        long = length-append so.cells (cell ∷ []) ∙ ap (λ (k : ℕ). k + 1) so.long;
        stored =
            ap₂ (λ (l : List Cell) (k : ℕ). set l k cell) so.stored (sym so.long)
            ∙ filled_next so.cells cell (omega (arith, so.long));
        reached = reads.1;
        parsed =
            from_here
            ∙ ap (before_all so.cells)
            (reads.0 (n - (i + 1)) (suc i) ∙ ap (λ (k : ℕ). before cell (parse (n - (i + 1)) (suc k) (left bytes to))) (sym (add-one i)))
            ∙ sym (before_all-snoc so.cells cell (parse (n - (i + 1)) (suc (i + 1)) (left bytes to)));
      }

  -- the input ends before cell i + 1 does
  pub cut_off : (to : Cursor) → Reads bytes place to None → unpacked n bytes ≡ refuses 6 (i + 1)
  unfolding unpacked ending
  cut_off to reads =
      ap (ending (length bytes))
      (from_here ∙ ap (before_all so.cells) (reads (n - (i + 1)) (suc i)) ∙ before_all-refuses so.cells 6 (suc i))
      ∙ ap (refuses 6) (sym (add-one i))

-- ---- after the last cell

-- a number that is not 0 has a digit that is 1
set_bit : (k v : ℕ) → v < 2 ^ k → (v ≡ 0 → ⊥) → any_set (bits k v) ≡ true
set_bit k v h some = by (any_set (bits k v)) refl
  where
    by : (t : Bool) → any_set (bits k v) ≡ t → t ≡ true
    by true e = refl
    by false e =
        let zeros : bits k v ≡ replicate k false = all_zero (bits k v) e ∙ ap (λ (n : ℕ). replicate n false) (length_bits k v) in
        let none : v ≡ 0 =
        sym (mod-eq_of_lt h) ∙ sym (number_bits k v []) ∙ ap (number k) (append-nil (bits k v) ∙ zeros) ∙ number_zeros k k [] ∙ number_nil k in
        absurd (some none)

-- after all cells, and with the bits on hand before the next whole byte taken off
module _ {bytes : List ℕ} {n i : ℕ} {row : List Cell} {place last : Cursor} {digits : ℕ} (so : ReadSoFar bytes n i row place) (end : i ≡ n)
    (t : Taken place last (place.count % 8) digits) where
  -- all cells are read
  all_read : parse n 1 (bits_of bytes) ≡ gives (so.cells, left bytes place)
  unfolding parse
  all_read =
      let e : n - i ≡ 0 = omega arith in
      so.parsed
      ∙ ap (λ (m : ℕ). before_all so.cells (parse m (suc i) (left bytes place))) e
      ∙ before_all-gives so.cells (left bytes place)

  -- so many bits are left
  rest_length : length (left bytes place) ≡ place.count + (length bytes - place.at) * 8
  rest_length =
      length-append (on_hand place) (bits_of (drop place.at bytes))
      ∙ ap₂ (λ (a b : ℕ). a + b)
      (length_bits place.count place.waiting)
      (length-bits_of (drop place.at bytes) ∙ ap (λ (k : ℕ). k * 8) (length-drop place.at bytes))

  -- the padding is what was taken off
  padding_bits : padding (left bytes place) ≡ bits (place.count % 8) digits
  padding_bits =
      let part : length (left bytes place) % 8 ≡ place.count % 8 = omega (arith, rest_length) in
      ap₂ (λ (k : ℕ) (bs : List Bool). take k bs) part (left_taken bytes t)
      ∙ take_at (bits (place.count % 8) digits) (left bytes last) (place.count % 8) (length_bits (place.count % 8) digits)

  -- a padding bit is 1
  pub bad_padding : (digits ≡ 0 → ⊥) → unpacked n bytes ≡ refuses 7 0
  unfolding unpacked ending
  bad_padding some = rw (all_read, padding_bits, set_bit (place.count % 8) digits t.small some)

  -- none is: the cells and the bytes they took
  pub good_padding : digits ≡ 0 → unpacked n bytes ≡ gives (so.cells, last.at - last.count / 8)
  unfolding unpacked ending
  good_padding none =
      let count : length bytes - length (left bytes place) / 8 ≡ last.at - last.count / 8 =
      omega (arith, rest_length, so.reached.inside, so.reached.read, t.at, t.count) in
      rw (all_read, padding_bits, none, bits_zero (place.count % 8), none_set (place.count % 8))
      (ap (λ (k : ℕ). gives (so.cells, k)) count)

  -- they are the first of the row
  pub first_read : take n row ≡ so.cells
  first_read = rw so.stored (take_at so.cells (blanks (cell_count - length so.cells)) n (omega (arith, so.long)))

-- ---- a refusal

-- what the code's default is, of any refusal: what an answer that refuses holds
pub default_held : (n : ℕ) (bytes : List ℕ) (answer : Answer UnpackedRow Refusal) (d : UnpackedRow)
    → ((number cell : ℕ) → ◌≡◌ {A = List Cell × ℕ} (cells_of d.row, d.bytes) (held (refuses number cell)))
    → map_given (λ (it : UnpackedRow). (take n (cells_of it.row), it.bytes)) (by_number answer) ≡ unpacked n bytes
    → IfErr answer (λ refusal. (cells_of d.row, d.bytes) ≡ held (unpacked n bytes))
default_held n bytes (Ok it) d is h = tt
default_held n bytes (Err refusal) d is h = is (refusal_number refusal) (refusal_cell refusal) ∙ ap held h

-- ---- a whole row

-- what was unpacked of a whole row is all its cells, and packs to the bytes that it took
pub whole_row : (bytes : List ℕ) → Bytes bytes → (answer : Answer UnpackedRow Refusal)
    → map_given (λ (it : UnpackedRow). (take cell_count (cells_of it.row), it.bytes)) (by_number answer) ≡ unpacked cell_count bytes
    → IfOk answer (λ it. (cells_of it.row, it.bytes) ≡ held (unpacked cell_count bytes))
    → (map_given (λ (it : UnpackedRow). (cells_of it.row, it.bytes)) (by_number answer) ≡ unpacked cell_count bytes)
    × IfOk answer (λ it. (cells_of it.row, it.bytes) ≡ value_or (blanks cell_count, 0) (unpacked cell_count bytes))
    × IfOk answer (λ it. packed (cells_of it.row) ≡ take it.bytes bytes)
whole_row bytes known (Err refusal) h whole = (h, tt, tt)
whole_row bytes known (Ok it) h whole =
    let front : List Cell = take cell_count (cells_of it.row) in
    let u = unpack_gives cell_count it.bytes bytes front (sym h) in
    let none : cell_count - length front ≡ 0 = omega (arith, u.long) in
    let all : cells_of it.row ≡ front =
    ap (λ (p : List Cell × ℕ). p.0) whole
    ∙ ap (λ (r : Result (List Cell × ℕ)). (held r).0) (sym h)
    ∙ ap (λ (k : ℕ). front ++ blanks k) none
    ∙ append-nil front in
    (rw all h, rw (all, ← h), rw all (u.same known))
