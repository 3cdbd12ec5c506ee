-- Laws of the bit writer: a byte goes out, a cell joins the bits that wait, and one write follows another.
-- Assumes nothing.
use mathlib.Core.Path.{◌≡◌, refl, sym, ap, ◌∙◌}
use Prim.Native.Nat.{ℕ, ◌+◌, ◌-◌, ◌*◌, ◌^◌, ◌≤◌, ◌<◌}
use native.Mathlib.Nat.{lt_of_lt_of_le}
use native.Mathlib.Numerals.{add-one}
use native.Mathlib.Omega.{arith}
use mathlib.Core.List.{List, [], ◌∷◌, ◌++◌, append_assoc, append-nil}
use mathlib.Core.Bool.{Bool, true}
use lib.ListN.{length, take, drop, set, length-append}
use lib.Seq.{take-suc-set, drop-set-lt, drop-drop}
use lib.Pow.{pow_mono}
use Rattle.std.specs.Prelude.{None, Some}
use Rattle.cells.specs.Row.{value_bits}
use Rattle.packed.specs.Bits.{bits, bits_of}
use Rattle.packed.specs.Packing.{cell_bits}
use Rattle.codec.specs.Place.{on_hand, Appended, Taken, written, Wrote}
use Rattle.codec.specs.declared.cursor.Cursor.{Cursor}
use Rattle.packed.proofs.BitLaws.{bits_append, bits_of-append, length_bits}

-- fewer than eight bits are a number below 128
pub few_lt : (count waiting : ℕ) → count < 8 → waiting < 2 ^ count → waiting < 128
few_lt count waiting h l = lt_of_lt_of_le l (pow_mono {i = count} {j = 7} (omega arith))

-- nothing is written yet
pub wrote_none : (bytes : List ℕ) (place : Cursor) → Wrote bytes bytes place place []
wrote_none bytes place = record { after = sym (append-nil _); beyond = refl; place = omega arith }

-- bytes that agree from a place on agree from every later place on
drop_later : (bytes before : List ℕ) (from to : ℕ) → from ≤ to → drop from bytes ≡ drop from before → drop to bytes ≡ drop to before
drop_later bytes before from to h e =
    let p : to ≡ from + (to - from) = omega arith in
    rw p (sym (drop-drop (to - from) from bytes) ∙ ap (drop (to - from)) e ∙ drop-drop (to - from) from before)

-- one write, then another
pub wrote_more : {bytes next last : List ℕ} {place on to : Cursor} {bs more : List Bool}
    → Wrote bytes next place on bs → Wrote next last on to more → to.count < 8 → Wrote bytes last place to (bs ++ more)
wrote_more {bytes} {next} {place = place} {on} {to} {bs} {more} h g few =
    record {
      after = g.after ∙ ap (λ (x : List Bool). x ++ more) h.after ∙ append_assoc (written bytes place) bs more;
      beyond = g.beyond ∙ drop_later next bytes on.at to.at (omega (arith, g.place)) h.beyond;
      place = omega (arith, h.place, g.place, length-append bs more);
    }

-- a byte is taken and goes out: the bits written are the same
pub byte_out : {old bytes : List ℕ} {first place to : Cursor} {byte : ℕ} (next : Cursor)
    → Wrote old bytes first place [] → Taken place to 8 byte → place.at < length bytes
    → next.at ≡ to.at + 1 → next.count ≡ to.count → on_hand next ≡ on_hand to
    → Wrote old (set bytes to.at byte) first next []
byte_out {old} {bytes} {first} {place} {to} {byte} next w t inside at count same =
    record {
      after = rw (at, same, t.at, add-one, take-suc-set bytes place.at byte, bits_of-append (take place.at bytes) (byte ∷ []))
          (unfold bits_of in rw (append-nil (bits 8 byte), append_assoc (bits_of (take place.at bytes)) (bits 8 byte) (on_hand to), ← t.bits) w.after);
      beyond = rw (at, t.at) (drop-set-lt (place.at + 1) bytes place.at byte (omega arith)
          ∙ drop_later bytes old place.at (place.at + 1) (omega arith) w.beyond);
      place = omega (arith, w.place, t.at, t.count);
    }

-- bits that joined those that wait and then went out were written
pub joined : {bytes after : List ℕ} {place more to : Cursor} {n digits : ℕ} {bs : List Bool}
    → Appended place more n digits → bits n digits ≡ bs → Wrote bytes after more to [] → Wrote bytes after place to bs
joined {bytes} {place = place} {n = n} {digits} a e h =
    record {
      after = h.after ∙ append-nil _ ∙ rw (a.at, a.bits, e) (sym (append_assoc (bits_of (take place.at bytes)) (on_hand place) _));
      beyond = h.beyond;
      place = omega (arith, h.place, a.at, a.count, ap length e, length_bits n digits);
    }

-- a blank is the digit 0
pub blank_digits : bits 1 0 ≡ cell_bits None
unfolding cell_bits bits
blank_digits = refl

-- a whole number the digit 1 and its 34 digits
pub whole_digits : (value : ℕ) → value < 2 ^ value_bits → bits 35 (0x4_0000_0000 + value) ≡ cell_bits (Some value)
unfolding cell_bits
whole_digits value small =
    let one : bits 1 1 ≡ true ∷ [] = unfold bits in refl in
    bits_append 1 value_bits 1 value small ∙ ap (λ (bs : List Bool). bs ++ bits value_bits value) one

-- and there is room for the bits that joined
pub room_joined : {place more : Cursor} {n digits room : ℕ} {bs : List Bool} → Appended place more n digits → bits n digits ≡ bs
    → place.at * 8 + place.count + length bs ≤ room → more.at * 8 + more.count ≤ room
room_joined {n = n} {digits} a e h = omega (arith, a.at, a.count, ap length e, length_bits n digits)
