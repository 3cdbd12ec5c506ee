-- Laws of writing cells into a buffer: room for one cell more, and what the buffer holds after the last.
-- Assumes nothing.
use mathlib.Core.Path.{◌≡◌, sym, ap, ap₂, ◌∙◌}
use Prim.Native.Nat.{ℕ, ◌+◌, ◌*◌, ◌≤◌, ◌<◌}
use native.Mathlib.Omega.{arith}
use mathlib.Core.List.{List, ◌++◌, append-nil}
use mathlib.Core.Bool.{false}
use lib.ListN.{length, take, drop, replicate, length-append, length-replicate, take-append-drop}
use lib.Seq.{length-take-le}
use Rattle.cells.specs.Row.{Cell}
use Rattle.packed.specs.Bits.{Bytes, bits, bits_of}
use Rattle.packed.specs.Packing.{row_bits, packed, bytes_for, packed_into}
use Rattle.codec.specs.Place.{Wrote}
use Rattle.codec.specs.declared.cursor.Cursor.{Cursor}
use Rattle.packed.proofs.BitLaws.{bits_zero, take_bytes}
use Rattle.packed.proofs.CellLaws.{packed_by}

-- where the first n bytes hold the cells and then fewer than eight zeros, and the others are as they were, the buffer holds the packed cells
packed_from : (cells : List Cell) (buffer out : List ℕ) (n j : ℕ) → Bytes out → n ≤ length out → j < 8
    → bits_of (take n out) ≡ row_bits cells ++ replicate j false → drop n out ≡ drop n buffer → out ≡ packed_into cells buffer
packed_from cells buffer out n j known inside few e rest =
    let same : packed cells ≡ take n out = packed_by cells (take n out) j (take_bytes n out known) few e in
    let size : length (packed cells) ≡ n = ap length same ∙ length-take-le n out inside in
    sym (take-append-drop n out)
    ∙ ap₂ (λ (front back : List ℕ). front ++ back) (sym same) (rest ∙ ap (λ (k : ℕ). drop k buffer) (sym size))

-- the cells and fewer than eight zeros are written, and no bits wait
packed_whole : (cells : List Cell) {buffer out : List ℕ} {start place : Cursor} (j : ℕ)
    → start.at ≡ 0 → start.count ≡ 0 → Bytes out → place.at ≤ length out → j < 8 → place.count ≡ 0
    → Wrote buffer out start place (row_bits cells ++ replicate j false) → out ≡ packed_into cells buffer
packed_whole cells {buffer} {out} {start} {place} j at count known inside few none w =
    let all : bits_of (take place.at out) ≡ row_bits cells ++ replicate j false =
    unfold bits bits_of in rw (at, count, none, append-nil) at w.after in
    packed_from cells buffer out place.at j known inside few all w.beyond

module _ (cells : List Cell) {buffer out : List ℕ} {start place : Cursor} (at : start.at ≡ 0) (count : start.count ≡ 0)
    (room : bytes_for (length (row_bits cells)) ≤ length buffer) (same : length out ≡ length buffer) (known : Bytes out) where
  -- no bits wait
  pub packed_none : place.count ≤ 0 → Wrote buffer out start place (row_bits cells) → out ≡ packed_into cells buffer
  packed_none none w =
      let inside : place.at ≤ length out = omega (arith, w.place) in
      let none : place.count ≡ 0 = omega arith in
      let zeros : Wrote buffer out start place (row_bits cells ++ replicate 0 false) = rw append-nil w in
      packed_whole cells 0 at count known inside (omega arith) none zeros

  -- some did, and zeros filled their byte
  pub packed_filled : (j : ℕ) → j < 8 → place.count < 8 → (n : ℕ) → length (row_bits cells) + j ≡ n * 8
      → Wrote buffer out start place (row_bits cells ++ bits j 0) → out ≡ packed_into cells buffer
  packed_filled j few less n whole w =
      let zeros : Wrote buffer out start place (row_bits cells ++ replicate j false) = rw (bits_zero j) at w in
      let end : place.at * 8 + place.count ≡ n * 8 =
      omega (arith, zeros.place, length-append (row_bits cells) (replicate j false), length-replicate j false) in
      let inside : place.at ≤ length out = omega arith in
      let none : place.count ≡ 0 = omega arith in
      packed_whole cells j at count known inside few none zeros
