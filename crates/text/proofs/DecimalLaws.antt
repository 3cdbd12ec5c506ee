-- Numbers in decimal: the digits are those that the library prints, and how many these are.
-- Assumes nothing.
use Prim.Native.Nat.{ℕ, zero, suc, ◌/◌, ◌%◌, ◌^◌, ◌≤◌, ◌<◌}
use mathlib.Core.Path.{◌≡◌, refl, sym, subst}
use mathlib.Core.Bool.{Bool, true, false, cond}
use mathlib.Core.List.{List, [], ◌∷◌, ◌++◌}
use native.Mathlib.Nat.{pow-suc, div-lt_iff_lt-mul}
use native.Mathlib.Omega.{arith}
use borrow.Author.Tests.{ltb-false}
use lib.Dec.{ltb}
use lib.ListN.{length, length-append}
use Rattle.std.proofs.Common.{rules}
use Rattle.std.proofs.lemmas.Fmt.{AppendsLastDigit, decimal_from_appends, length-decimal-le}
use Rattle.std.specs.Fmt as std
use Rattle.lines.specs.Text.{digit, decimal, decimal_by}

-- a number of at most k digits in decimal
abbrev digits_by : ℕ → ℕ → List ℕ
digits_by zero n = []
digits_by (suc k) n = decimal_by k n

-- it is the front of the number and then its last digit
appends : AppendsLastDigit digits_by
unfolding decimal_by
appends = search rules

-- a number of 64 bits in decimal, as the library has it
pub decimal_lem : (n : ℕ) → n < 2 ^ 64 → std.decimal n ≡ decimal n
decimal_lem n fits = sym (decimal_from_appends digits_by appends 20 n fits (length-decimal-le 20 n (omega arith) (omega arith) fits))

-- ---- how many digits there are

-- no more than there is room for
pub decimal_room : (more n : ℕ) → length (decimal_by more n) ≤ suc more
unfolding decimal_by
decimal_room zero n = omega arith
decimal_room (suc more) n = by (ltb n 10) (decimal_room more (n / 10))
  where
    by : (t : Bool) → length (decimal_by more (n / 10)) ≤ suc more
        → length (cond t (digit (n % 10) ∷ []) (decimal_by more (n / 10) ++ (digit (n % 10) ∷ []))) ≤ suc (suc more)
    by true front = omega arith
    by false front = omega (arith, length-append (decimal_by more (n / 10)) (digit (n % 10) ∷ []))

-- a number below a power of ten, its tenth below the power before
tenth_below : (n w : ℕ) → n < 10 ^ suc w → n / 10 < 10 ^ w
tenth_below n w h = (div-lt_iff_lt-mul {k = 10} {x = n} {y = 10 ^ w} (omega arith)).1 (subst (λ (m : ℕ). n < m) (pow-suc 10 w) h)

-- no more than the power of ten that the number is below
pub decimal_most : (more most n : ℕ) → n < 10 ^ suc most → length (decimal_by more n) ≤ suc most
unfolding decimal_by
decimal_most zero most n h = omega arith
decimal_most (suc more) most n h = by (ltb n 10) refl most h (λ fewer. decimal_most more fewer (n / 10))
  where
    by : (t : Bool) → ltb n 10 ≡ t → (most : ℕ) → n < 10 ^ suc most
        → ((fewer : ℕ) → n / 10 < 10 ^ suc fewer → length (decimal_by more (n / 10)) ≤ suc fewer)
        → length (cond t (digit (n % 10) ∷ []) (decimal_by more (n / 10) ++ (digit (n % 10) ∷ []))) ≤ suc most
    by true e most h front = omega arith
    by false e zero h front = absurd (omega (arith, ltb-false n 10 e))
    by false e (suc fewer) h front =
        omega (arith, length-append (decimal_by more (n / 10)) (digit (n % 10) ∷ []), front fewer (tenth_below n (suc fewer) h))
