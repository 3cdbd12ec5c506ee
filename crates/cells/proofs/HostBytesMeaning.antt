-- What the host's bytes mean: eight bytes give back the number that they were made of, and the float 1 shows which byte is first.
-- Assumes nothing.
use mathlib.Core.Path.{◌≡◌, refl}
use mathlib.Core.List.{[], ◌∷◌}
use Prim.Native.Nat.{ℕ, ◌^◌, ◌<◌}
use native.Mathlib.Omega.{arith}
use lib.Ieee.{of_int, of_bits, to_bits}
use Rattle.cells.specs.HostBytes.{word_bytes, word_at, float_bytes, float_at, whole_float}

-- The first byte is the lowest.
pub first_lowest : word_at (1 ∷ 0 ∷ 0 ∷ 0 ∷ 0 ∷ 0 ∷ 0 ∷ 0 ∷ []) 0 ≡ 1
first_lowest = refl

-- A number of 64 bits, from its bytes.
pub word_back : (w : ℕ) → w < 2 ^ 64 → word_at (word_bytes 8 w) 0 ≡ w
unfolding word_bytes
word_back w few = omega arith

-- The float 1, byte by byte.
pub one_in_bytes : float_bytes (whole_float 1) ≡ 0 ∷ 0 ∷ 0 ∷ 0 ∷ 0 ∷ 0 ∷ 0xf0 ∷ 0x3f ∷ []
unfolding word_bytes to_bits of_int
one_in_bytes = refl

-- And back, from any place.
pub one_from_its_bytes : float_at (7 ∷ 0 ∷ 0 ∷ 0 ∷ 0 ∷ 0 ∷ 0 ∷ 0xf0 ∷ 0x3f ∷ []) 1 ≡ whole_float 1
unfolding of_int of_bits
one_from_its_bytes = refl
