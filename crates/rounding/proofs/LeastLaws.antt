-- The least number that has a property is one number, and there is one where a number has the property and every greater one with it.
-- Assumes nothing.
use Prim.Native.Nat.{ℕ, zero, suc, ◌≤◌, ◌<◌}
use native.Mathlib.Nat.{le_antisymm}
use native.Mathlib.Omega.{arith}
use mathlib.Core.Path.{◌≡◌, refl, sym, ◌∙◌}
use mathlib.Core.Logic.{◌↔◌}
use mathlib.Core.Bool.{Bool, true, false, true≢false, cond}
use borrow.Author.Tests.{leb-true, leb-false}
use lib.Dec.{leb}
use Rattle.rounding.specs.Least.{Least}

pub least_unique : {P : ℕ → Type 0} {m n : ℕ} → Least P m → Least P n → m ≡ n
least_unique {m = m} {n = n} p q = le_antisymm (p.least n q.holds) (q.least m p.holds)

-- the least number with a property is that with every property that says the same
pub least_same : {P Q : ℕ → Type 0} {n : ℕ} → ((k : ℕ) → P k ↔ Q k) → Least P n → Least Q n
least_same {n = n} same l = record { holds = (same n).0 l.holds; least = λ k q. l.least k ((same k).1 q) }

-- a number with a property that every greater one has too is above a number without it
pub above_failing : {P : ℕ → Type 0} → ((i j : ℕ) → i ≤ j → P i → P j) → (n k : ℕ) → (P n → ⊥) → P k → n < k
above_failing {P} up n k fails h = by (leb k n) refl
  where
    by : (t : Bool) → leb k n ≡ t → n < k
    by true e = absurd (fails (up k n (leb-true k n e) h))
    by false e = leb-false k n e

-- from n down, the last number before one that fails a test
abbrev pub least_to : (ℕ → Bool) → ℕ → ℕ
least_to passes zero = zero
least_to passes (suc n) = cond (passes n) (least_to passes n) (suc n)

-- it is the least that passes, where n does, and where every number above one that passes does
module _ (passes : ℕ → Bool) (up : (i j : ℕ) → i ≤ j → passes i ≡ true → passes j ≡ true) where
  pub least_found : (n : ℕ) → passes n ≡ true → Least (λ k. passes k ≡ true) (least_to passes n)
  least_found zero h = record { holds = h; least = λ k _. omega arith }
  least_found (suc n) h =
      by (passes n) (least_found n)
      (λ fails. record { holds = h; least = λ k p. omega (arith, above_failing up n k (λ t. true≢false (sym t ∙ fails)) p) })
    where
      Is : ℕ → Type 0
      Is = Least (λ k. passes k ≡ true)

      -- by whether the number before passes too
      by : {x y : ℕ} (t : Bool) → (t ≡ true → Is x) → (t ≡ false → Is y) → Is (cond t x y)
      by true less last = less refl
      by false less last = last refl
