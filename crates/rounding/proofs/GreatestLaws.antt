-- The greatest number that has a property is one number, and its binary digits find it.
-- Assumes nothing.
use Prim.Native.Nat.{ℕ, zero, suc, ◌+◌, ◌^◌, ◌≤◌, ◌<◌}
use native.Mathlib.Nat.{le_antisymm}
use native.Mathlib.Omega.{arith}
use mathlib.Core.Path.{◌≡◌, refl, sym, ap, ◌∙◌}
use mathlib.Core.Bool.{Bool, true, false, true≢false, cond}
use borrow.Author.Tests.{leb-true, leb-false}
use lib.Dec.{leb}
use Rattle.rounding.specs.Greatest.{Greatest, by_digits}

pub greatest_unique : {P : ℕ → Type 0} {m n : ℕ} → Greatest P m → Greatest P n → m ≡ n
greatest_unique {m = m} {n = n} p q = le_antisymm (q.greatest m p.holds) (p.greatest n q.holds)

-- what `by_digits` finds, for a test that no number above one that fails passes
module _ (passes : ℕ → Bool) (down : (i j : ℕ) → i ≤ j → passes j ≡ true → passes i ≡ true) where
  -- a number that passes is below one that fails
  below_failing : (top j : ℕ) → passes top ≡ false → passes j ≡ true → j < top
  below_failing top j fails h = by (leb top j) refl
    where
      by : (t : Bool) → leb top j ≡ t → j < top
      by true e = absurd (true≢false (sym (down top j (leb-true top j e) h) ∙ fails))
      by false e = leb-false top j e

  pub greatest_by_digits : (k low : ℕ) → passes low ≡ true → passes (low + 2 ^ k) ≡ false → Greatest (λ n. passes n ≡ true) (by_digits passes low k)
  unfolding by_digits
  greatest_by_digits zero low from to = record { holds = from; greatest = λ j h. omega (arith, below_failing (low + 2 ^ 0) j to h) }
  greatest_by_digits (suc k) low from to =
      let twice : low + 2 ^ k + 2 ^ k ≡ low + 2 ^ suc k = omega arith in
      by _ _ (passes (low + 2 ^ k)) (λ one. greatest_by_digits k (low + 2 ^ k) one (ap passes twice ∙ to)) (λ none. greatest_by_digits k low from none)
    where
      Is : ℕ → Type 0
      Is = Greatest (λ n. passes n ≡ true)

      -- whichever digit the test gives
      by : (x y : ℕ) (t : Bool) → (t ≡ true → Is (by_digits passes x k)) → (t ≡ false → Is (by_digits passes y k)) → Is (by_digits passes (cond t x y) k)
      by x y true one none = one refl
      by x y false one none = none refl
