-- Laws of the cursor: bits that come after those on hand make a number that fits, and the first bits come off.
-- Assumes nothing.
use mathlib.Core.Path.{◌≡◌}
use Prim.Native.Nat.{ℕ, ◌+◌, ◌*◌, ◌/◌, ◌%◌, ◌^◌, ◌≤◌, ◌<◌}
use native.Mathlib.Nat.{lt_of_lt_of_le, mod-eq_of_lt}
use native.Mathlib.Omega.{arith}
use mathlib.Core.List.{◌++◌}
use lib.Pow.{pow_mono}
use Rattle.packed.specs.Bits.{bits}
use Rattle.codec.specs.declared.cursor.Cursor.{Cursor}
use Rattle.packed.proofs.BitLaws.{append_lt, bits_split, bits_mod}

module _ (place : Cursor) (n digits : ℕ) (room : place.count + n ≤ 42) (small : digits < 2 ^ n) where
  -- the number with digits after it has as many bits more
  pub sum_lt : place.waiting * 2 ^ n + digits < 2 ^ (place.count + n)
  sum_lt = append_lt place.count n place.waiting digits place.low small

  -- it is a word
  pub sum_fits : place.waiting * 2 ^ n + digits < 2 ^ 64
  sum_fits = lt_of_lt_of_le sum_lt (pow_mono {i = place.count + n} {j = 64} (omega arith))

  -- and no bit is lost when the number makes room for them
  pub none_lost : place.waiting * 2 ^ n % 2 ^ 64 ≡ place.waiting * 2 ^ n
  none_lost = mod-eq_of_lt (omega (arith, sum_fits))

-- the first n digits and the rest
pub bits_taken : (count n rest waiting : ℕ) → count ≡ n + rest → bits count waiting ≡ bits n (waiting / 2 ^ rest) ++ bits rest (waiting % 2 ^ rest)
bits_taken count n rest waiting e = rw (e, bits_mod rest rest waiting (omega arith)) (bits_split n rest waiting)
