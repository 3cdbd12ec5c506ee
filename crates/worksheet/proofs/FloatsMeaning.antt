-- What bytes of whole numbers as floats mean, for any number of them: the float in each place has exactly the value of its number; and floats none of which is a NaN.
-- Assumes nothing.
use mathlib.Core.Bool.{false, not}
use mathlib.Core.Path.{◌≡◌, ap, ◌∙◌}
use mathlib.Core.List.{List, [], ◌∷◌, ◌++◌}
use Prim.Native.Nat.{ℕ, zero, suc, ◌+◌, ◌*◌, ◌^◌, ◌≤◌, ◌<◌}
use native.Mathlib.Omega.{arith}
use lib.Dec.{T}
use lib.IntN.{pos}
use lib.ListN.{length, get_or}
use lib.Seq.{get_or-append-add}
use lib.Ieee.{Float, binary64, of_bits, to_bits, is_nan}
use lib.Ieee.Exact.{HasValue}
use lib.Ieee.Bits.{of_bits-to_bits, to_bits-lt}
use lib.Ieee.Fits.{of_int-fits}
use Rattle.cells.specs.HostBytes.{word_bytes, word_at, float_at, whole_float}
use Rattle.cells.proofs.FloatLaws.{whole_exact}
use Rattle.worksheet.specs.HostAnswer.{floats_bytes, whole_floats, NoNans}

-- the bits of a whole number as a float
abbrev bits_of : ℕ → ℕ
bits_of n = to_bits binary64 (whole_float n)

-- a number of 64 bits from its bytes, whatever follows
word_first : (w : ℕ) (rest : List ℕ) → w < 2 ^ 64 → word_at (word_bytes 8 w ++ rest) 0 ≡ w
unfolding word_bytes
word_first w rest small = omega arith

-- a number that stands behind another's bytes
word_after : (w : ℕ) (rest : List ℕ) (at : ℕ) → word_at (word_bytes 8 w ++ rest) (8 + at) ≡ word_at rest at
unfolding word_bytes
word_after w rest at =
    let byte : (i j : ℕ) → i ≡ 8 + j → get_or (word_bytes 8 w ++ rest) i 0 ≡ get_or rest j 0 = λ i j e.
    ap (λ (n : ℕ). get_or (word_bytes 8 w ++ rest) n 0) e ∙ get_or-append-add (word_bytes 8 w) rest j 0 in
    omega (
      arith,
      byte (8 + at) at (omega arith),
      byte (8 + at + 1) (at + 1) (omega arith),
      byte (8 + at + 2) (at + 2) (omega arith),
      byte (8 + at + 3) (at + 3) (omega arith),
      byte (8 + at + 4) (at + 4) (omega arith),
      byte (8 + at + 4 + 1) (at + 4 + 1) (omega arith),
      byte (8 + at + 4 + 2) (at + 4 + 2) (omega arith),
      byte (8 + at + 4 + 3) (at + 4 + 3) (omega arith),
    )

-- the float in each place
pub float_in_place : (numbers : List ℕ) (i : ℕ) → i < length numbers → float_at (floats_bytes (whole_floats numbers)) (8 * i) ≡ whole_float (get_or numbers i 0)
unfolding floats_bytes
float_in_place [] i h = absurd (omega arith)
float_in_place (n ∷ numbers) zero h =
    ap (of_bits binary64) (word_first (bits_of n) _ (to_bits-lt binary64 (whole_float n) (of_int-fits binary64 (pos n))))
    ∙ of_bits-to_bits binary64 (whole_float n) (of_int-fits binary64 (pos n))
float_in_place (n ∷ numbers) (suc i) h =
    let place : 8 * suc i ≡ 8 + 8 * i = omega arith in
    ap (λ (at : ℕ). float_at (floats_bytes (whole_floats (n ∷ numbers))) at) place
    ∙ ap (of_bits binary64) (word_after (bits_of n) _ (8 * i))
    ∙ float_in_place numbers i (omega arith)

-- it has the value of its number: up to 2 ^ 53 nothing is lost
pub number_held : (numbers : List ℕ) (i : ℕ) → i < length numbers → get_or numbers i 0 ≤ 2 ^ 53
    → HasValue (float_at (floats_bytes (whole_floats numbers)) (8 * i)) false (get_or numbers i 0) 1
number_held numbers i h few = rw (float_in_place numbers i h) (whole_exact (get_or numbers i 0) few)

-- floats none of which is a NaN, one after another
pub no_nans_end : NoNans []
no_nans_end i h = absurd (omega arith)

pub no_nans_then : (x : Float) (floats : List Float) → T (not (is_nan x)) → NoNans floats → NoNans (x ∷ floats)
no_nans_then x floats here rest zero h = here
no_nans_then x floats here rest (suc i) h = rest i (omega arith)
