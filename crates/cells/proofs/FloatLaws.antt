-- Whole numbers as floats: up to 2 ^ 53 nothing is lost.
-- Assumes nothing.
use mathlib.Core.Bool.{Bool, false, not}
use Prim.Native.Nat.{ℕ, ◌^◌, ◌≤◌}
use lib.Dec.{T}
use lib.IntN.{pos}
use lib.Ieee.{Float, nan, inf, fin, binary64, of_int, in_float, is_nan}
use borrow.Author.Tests.{le-leb}
use lib.Ieee.Exact.{HasValue}
use lib.Ieee.Back.{round_whole}
use Rattle.cells.specs.HostBytes.{whole_float}

-- the cast asks for no more
pub whole_in : (n : ℕ) → n ≤ 2 ^ 53 → T (in_float binary64 (pos n))
unfolding in_float
whole_in n few = rw (le-leb n (2 ^ 53) few) tt

-- "converted without loss": a number up to 2 ^ 53 as a float has that number's value
pub whole_exact : (n : ℕ) → n ≤ 2 ^ 53 → HasValue (whole_float n) false n 1
unfolding of_int
whole_exact n few = round_whole binary64 false n few

-- a float that has a value is no NaN
has_value : (x : Float) (s : Bool) (a c : ℕ) → HasValue x s a c → T (not (is_nan x))
unfolding is_nan
has_value nan s a c h = h
has_value (inf t) s a c h = tt
has_value (fin t m e) s a c h = tt

pub whole_not_nan : (n : ℕ) → n ≤ 2 ^ 53 → T (not (is_nan (whole_float n)))
whole_not_nan n few = has_value _ false n 1 (whole_exact n few)
