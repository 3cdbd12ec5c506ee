-- Laws of the bit reader: a byte is taken in, and what the bits on hand say of the cell that starts there.
-- Assumes nothing.
use mathlib.Core.Path.{◌≡◌, ◌∙◌}
use Prim.Native.Nat.{ℕ, ◌+◌, ◌≤◌, ◌<◌}
use native.Mathlib.Nat.{mod-eq_of_lt}
use native.Mathlib.Numerals.{add-one}
use native.Mathlib.Omega.{arith}
use mathlib.Core.List.{List, ◌∷◌, ◌++◌, append_assoc, append-nil}
use mathlib.Core.Bool.{true}
use lib.ListN.{length, get_or, drop, length-append}
use lib.Seq.{drop-cons, drop_at, drop-length}
use borrow.Author.Tests.{le-leb, lt-leb}
use Rattle.std.specs.Prelude.{None, Some}
use Rattle.cells.specs.Row.{value_bits}
use Rattle.packed.specs.Bits.{bits, bits_of}
use Rattle.packed.specs.Unpacking.{parse}
use Rattle.codec.specs.Place.{on_hand, Appended, Taken, left, Reached, TookIn, Reads}
use Rattle.codec.specs.declared.cursor.Cursor.{Cursor}
use Rattle.packed.proofs.BitLaws.{length_bits, number_bits}

-- a byte is taken in: the same bits are left
pub byte_in : (bytes : List ℕ) {place to : Cursor} → place.at < length bytes → Appended place to 8 (get_or bytes place.at 0)
    → on_hand to ++ bits_of (drop (to.at + 1) bytes) ≡ left bytes place
unfolding bits_of
byte_in bytes {place} inside a = rw (a.at, a.bits, drop-cons bytes place.at 0 inside, add-one, append_assoc)

-- the first bits are taken: the others are left
pub left_taken : (bytes : List ℕ) {place to : Cursor} {n digits : ℕ} → Taken place to n digits → left bytes place ≡ bits n digits ++ left bytes to
left_taken bytes {place} {to} t = rw (t.bits, t.at, append_assoc)

-- and reading can reach that place
reached_taken : {bytes : List ℕ} {place to : Cursor} {n digits : ℕ} → Taken place to n digits → Reached bytes place → Reached bytes to
reached_taken t r = record { inside = omega (arith, t.at, r.inside); read = omega (arith, t.at, t.count, r.read) }

-- at the end of the input there are as many bits as are on hand
left_end : (bytes : List ℕ) (place : Cursor) → place.at ≡ length bytes → left bytes place ≡ on_hand place
unfolding bits_of
left_end bytes place e = rw (e, drop-length bytes, append-nil)

-- ---- the next cell, from the place that `take_in` leaves

module _ {bytes : List ℕ} {place full : Cursor} (took : TookIn bytes place full) where
  -- nothing is on hand
  pub reads_end : (to : Cursor) → full.count ≡ 0 → Reads bytes place to None
  unfolding parse bits
  reads_end to none n i = rw (← took.same, left_end bytes full (took.full (omega arith)), none)

  -- the first bit is 0
  pub reads_blank : {to : Cursor} {bit : ℕ} → Taken full to 1 bit → bit ≡ 0 → Reads bytes place to (Some None)
  unfolding parse bits
  reads_blank {to} t clear = (
    λ n i. rw (← took.same, left_taken bytes t, clear),
    reached_taken t took.reached,
  )

  module _ {one : Cursor} {bit : ℕ} (t : Taken full one 1 bit) (set : bit ≡ 0 → ⊥) where
    -- it is 1
    first_one : left bytes full ≡ true ∷ left bytes one
    unfolding bits
    first_one =
        let e : bit ≡ 1 = omega (arith, t.small) in
        rw e at (left_taken bytes t)

    -- and the value is cut off
    pub reads_short : (to : Cursor) → one.count < value_bits → Reads bytes place to None
    unfolding parse
    reads_short to few n i =
        let e = left_end bytes one (t.at ∙ took.full (omega (arith, t.count))) in
        rw (← took.same, first_one, e, lt-leb value_bits (length (on_hand one)) (rw length_bits few))

    -- or there
    pub reads_whole : {to : Cursor} {value : ℕ} → Taken one to value_bits value → Reads bytes place to (Some (Some value))
    unfolding parse
    reads_whole {to} {value} v =
        let enough : value_bits ≤ length (bits value_bits value ++ left bytes to) = omega (arith, length-append (bits value_bits value) (left bytes to), length_bits value_bits value) in (
          λ n i. rw (
            ← took.same,
            first_one,
            left_taken bytes v,
            le-leb value_bits _ enough,
            number_bits value_bits value (left bytes to),
            drop_at (bits value_bits value) (left bytes to) value_bits (length_bits value_bits value),
            mod-eq_of_lt v.small,
          ),
          reached_taken v (reached_taken t took.reached),
        )
