-- The laws of `lowest`, for any type of element: what it means, and how a search from the front finds it.
-- Assumes nothing.
use mathlib.Core.Path.{◌≡◌, refl, sym, ap, ◌∙◌}
use mathlib.Core.Logic.{◌⊎◌, inl, inr}
use Prim.Native.Nat.{ℕ, zero, suc, ◌+◌, ◌≤◌, ◌<◌}
use native.Mathlib.Nat.{add-zero, le_of_suc-le-suc, not-suc-le-zero}
use native.Mathlib.Numerals.{add-one}
use native.Mathlib.Omega.{arith}
use mathlib.Core.Bool.{Bool, true, false, cond}
use mathlib.Core.List.{List, [], ◌∷◌}
use lib.ListN.{length, get_or, drop, replicate, drop_of_length-le}
use lib.Seq.{drop-cons}
use Rattle.cells.specs.Lowest.{lowest}

module _ {A : Type 0} (fails : ℕ → A → Bool) where
  -- a search that has come to element i, where its test has the outcome t
  pub lowest_step : (l : List A) (i n : ℕ) (d : A) (t : Bool) → i < length l → fails n (get_or l i d) ≡ t
      → lowest fails n (drop i l) ≡ cond t n (lowest fails (n + 1) (drop (i + 1) l))
  unfolding lowest
  lowest_step l i n d t h e =
      rw (add-one i, drop-cons l i d h) (ap (λ (b : Bool). cond b n (lowest fails (n + 1) (drop (suc i) l))) e)

  -- a search that has come to the end
  pub lowest_end : (l : List A) (i n : ℕ) → length l ≤ i → lowest fails n (drop i l) ≡ 0
  unfolding lowest
  lowest_end l i n h = ap (λ (k : List A). lowest fails n k) (drop_of_length-le l h)

  -- what `lowest` finds from number n on: either every element passes, or element k is the first that fails
  pub record Passes (n : ℕ) (l : List A) : Type 0 where
    pub none : lowest fails n l ≡ 0
    pub all : (k : ℕ) (d : A) → k < length l → fails (n + k) (get_or l k d) ≡ false

  pub record FailsAt (n : ℕ) (l : List A) (k : ℕ) : Type 0 where
    pub found : lowest fails n l ≡ n + k
    pub inside : k < length l
    pub failing : (d : A) → fails (n + k) (get_or l k d) ≡ true
    pub below : (j : ℕ) (d : A) → j < k → fails (n + j) (get_or l j d) ≡ false

  pub lowest_meaning : (n : ℕ) (l : List A) → Passes n l ⊎ ((k : ℕ) × FailsAt n l k)
  unfolding lowest
  lowest_meaning n [] = inl (record { none = refl; all = λ k d h. absurd (not-suc-le-zero h) })
  lowest_meaning n (x ∷ l) = by (fails n x) refl (lowest_meaning (n + 1) l)
    where
      later : (b : Bool) (k : ℕ) (d : A) → fails (n + 1 + k) (get_or l k d) ≡ b → fails (n + suc k) (get_or (x ∷ l) (suc k) d) ≡ b
      later b k d e = let p : n + suc k ≡ n + 1 + k = omega arith in ap (λ (m : ℕ). fails m (get_or l k d)) p ∙ e

      passes : fails n x ≡ false → ((k : ℕ) (d : A) → k < length l → fails (n + 1 + k) (get_or l k d) ≡ false)
          → (k : ℕ) (d : A) → k < suc (length l) → fails (n + k) (get_or (x ∷ l) k d) ≡ false
      passes e f zero d h = ap (λ (m : ℕ). fails m x) (add-zero n) ∙ e
      passes e f (suc k) d h = later false k d (f k d (le_of_suc-le-suc h))

      below : fails n x ≡ false → (k : ℕ) → ((j : ℕ) (d : A) → j < k → fails (n + 1 + j) (get_or l j d) ≡ false)
          → (j : ℕ) (d : A) → j < suc k → fails (n + j) (get_or (x ∷ l) j d) ≡ false
      below e k f zero d h = ap (λ (m : ℕ). fails m x) (add-zero n) ∙ e
      below e k f (suc j) d h = later false j d (f j d (le_of_suc-le-suc h))

      by : (t : Bool) → fails n x ≡ t → Passes (n + 1) l ⊎ ((k : ℕ) × FailsAt (n + 1) l k) → Passes n (x ∷ l) ⊎ ((k : ℕ) × FailsAt n (x ∷ l) k)
      by true e r =
          inr (
            0,
            record {
              found = rw e (sym (add-zero n));
              inside = omega arith;
              failing = λ d. ap (λ (m : ℕ). fails m x) (add-zero n) ∙ e;
              below = λ j d h. absurd (not-suc-le-zero h);
            },
          )
      by false e (inl r) = inl (record { none = rw e r.none; all = passes e r.all })
      by false e (inr (k, r)) =
          inr (
            suc k,
            record {
              found = rw e (r.found ∙ (let p : n + 1 + k ≡ n + suc k = omega arith in p));
              inside = omega (arith, r.inside);
              failing = λ d. later true k d (r.failing d);
              below = below e k r.below;
            },
          )

  -- of numbers that start with 1, what is found is no greater than the last
  pub lowest_most : (l : List A) → lowest fails 1 l ≤ length l
  lowest_most l = by (lowest_meaning 1 l)
    where
      by : Passes 1 l ⊎ ((k : ℕ) × FailsAt 1 l k) → lowest fails 1 l ≤ length l
      by (inl r) = omega (arith, r.none)
      by (inr (k, r)) = omega (arith, r.found, r.inside)

  -- where none is found, every element passes
  pub lowest_none : (n : ℕ) (l : List A) → 0 < n → lowest fails n l ≡ 0 → (k : ℕ) (d : A) → k < length l → fails (n + k) (get_or l k d) ≡ false
  lowest_none n l pos e k d h = by (lowest_meaning n l)
    where
      by : Passes n l ⊎ ((j : ℕ) × FailsAt n l j) → fails (n + k) (get_or l k d) ≡ false
      by (inl r) = r.all k d h
      by (inr (j, r)) = let q : n + j ≡ 0 = sym r.found ∙ e in absurd (omega arith)

  -- where every element passes, none is found
  pub lowest_of_passing : ((n : ℕ) (x : A) → fails n x ≡ false) → (n : ℕ) (l : List A) → lowest fails n l ≡ 0
  unfolding lowest
  lowest_of_passing pass n [] = refl
  lowest_of_passing pass n (x ∷ l) = rw (pass n x) (lowest_of_passing pass (n + 1) l)

  -- a search from the front, an element at a time
  pub lowest_cons : (n : ℕ) (x : A) (l : List A) → lowest fails n (x ∷ l) ≡ cond (fails n x) n (lowest fails (n + 1) l)
  unfolding lowest
  lowest_cons n x l = refl

  -- among copies of an element that passes from a number on, none is found
  pub lowest_of_copies : (count n : ℕ) (x : A) → ((m : ℕ) → n ≤ m → fails m x ≡ false) → lowest fails n (replicate count x) ≡ 0
  unfolding lowest
  lowest_of_copies zero n x pass = refl
  lowest_of_copies (suc count) n x pass = rw (pass n (omega arith)) (lowest_of_copies count (n + 1) x (λ m h. pass m (omega arith)))
