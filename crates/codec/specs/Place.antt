-- What the steps of the bit writer and the bit reader promise of a place among bits. Only functions within the crate cite these.
-- Assumes nothing.
use Rattle.std.specs.Prelude.{◌≡◌, ℕ, suc, ◌+◌, ◌*◌, ◌^◌, ◌≤◌, ◌<◌, List, ◌++◌, Bool, Option, Some, None, length, take, drop}
use Rattle.cells.specs.Refusal.{refuses}
use Rattle.cells.specs.Row.{Cell}
use Rattle.packed.specs.Bits.{bits, bits_of}
use Rattle.packed.specs.Unpacking.{before, parse}
use Rattle.codec.specs.declared.cursor.Cursor.{Cursor}

-- the bits on hand at a place
abbrev pub on_hand : Cursor → List Bool
on_hand place = bits place.count place.waiting

-- from one place to another n bits, the digits of a number, came after those on hand
pub record Appended (from to : Cursor) (n digits : ℕ) : Type 0 where
  pub at : to.at ≡ from.at
  pub count : to.count ≡ from.count + n
  pub bits : on_hand to ≡ on_hand from ++ bits n digits

-- from one place to another the first n bits on hand, the digits of a number, were taken
pub record Taken (from to : Cursor) (n digits : ℕ) : Type 0 where
  pub at : to.at ≡ from.at
  pub count : from.count ≡ n + to.count
  pub bits : on_hand from ≡ bits n digits ++ on_hand to
  pub small : digits < 2 ^ n

-- all bits written so far: those of the bytes behind the place, then those that wait
abbrev pub written : List ℕ → Cursor → List Bool
written bytes place = bits_of (take place.at bytes) ++ on_hand place

-- the writer went from one place to another, and the buffer from `old` to `new`: bs comes after what was written, and no byte past the new place changed
pub record Wrote (old new : List ℕ) (from to : Cursor) (bs : List Bool) : Type 0 where
  pub after : written new to ≡ written old from ++ bs
  pub beyond : drop to.at new ≡ drop to.at old
  pub place : to.at * 8 + to.count ≡ from.at * 8 + from.count + length bs

-- all bits that are left: those on hand, then those of the bytes not yet taken in
abbrev pub left : List ℕ → Cursor → List Bool
left bytes place = on_hand place ++ bits_of (drop place.at bytes)

-- a place that reading these bytes can reach
pub record Reached (bytes : List ℕ) (place : Cursor) : Type 0 where
  pub inside : place.at ≤ length bytes
  pub read : place.count ≤ place.at * 8

-- from one place to another the same bits are left, and 35 of them are on hand unless the input has ended
pub record TookIn (bytes : List ℕ) (from to : Cursor) : Type 0 where
  pub reached : Reached bytes to
  pub same : left bytes to ≡ left bytes from
  pub full : to.count < 35 → to.at ≡ length bytes

-- what reading the next cell, from one place to another, says of every parse from the first place on
abbrev pub Reads : List ℕ → Cursor → Cursor → Option Cell → Type 0
Reads bytes from to (Some cell) =
    ((n i : ℕ) → parse (suc n) i (left bytes from) ≡ before cell (parse n (suc i) (left bytes to))) × Reached bytes to
Reads bytes from to None = (n i : ℕ) → parse (suc n) i (left bytes from) ≡ refuses 6 i
