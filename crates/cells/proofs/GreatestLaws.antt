-- What `greatest` finds, for any type of element, any measure, and any choice of those that count.
-- Assumes nothing.
use Prim.Native.Nat.{ℕ, ◌/◌, ◌≤◌, ◌<◌}
use native.Mathlib.Nat.{le_refl, le_trans, le_of_lt, lt_trans}
use mathlib.Core.Path.{◌≡◌, refl, sym, ap, ◌∙◌}
use mathlib.Core.Logic.{◌⊎◌, inl, inr}
use mathlib.Core.Bool.{Bool, true, false, true≢false}
use mathlib.Core.List.{List, [], ◌∷◌, ◌++◌}
use Rattle.std.specs.Prelude.{Option, Some, None, cond}
use Rattle.std.proofs.lemmas.Bool.{le-leb, lt-leb}
use borrow.Author.Tests.{leb-true, leb-false}
use lib.Dec.{leb}
use Rattle.cells.specs.Greatest.{Among, greater_by, or_greater, greater_after, greatest}

-- By example, with numbers measured by their tens: the greater, and the first of two that are equal.
pub greater_found : greatest (λ (n : ℕ). true) (λ (n : ℕ). n / 10) (11 ∷ 21 ∷ 12 ∷ []) ≡ Some 21
unfolding greatest
greater_found = refl

pub first_of_equals : greatest (λ (n : ℕ). true) (λ (n : ℕ). n / 10) (11 ∷ 12 ∷ []) ≡ Some 11
unfolding greatest
first_of_equals = refl

module _ {A : Type 0} where
  -- where an element of a list stands: before x, at x, or after it
  pub among_cases : (front : List A) (x : A) (back : List A) (y : A) → Among y (front ++ (x ∷ back)) → Among y front ⊎ ((y ≡ x) ⊎ Among y back)
  among_cases [] x back y a = inr a
  among_cases (z ∷ front) x back y (inl e) = inl (inl e)
  among_cases (z ∷ front) x back y (inr a) = by (among_cases front x back y a)
    where
      by : Among y front ⊎ ((y ≡ x) ⊎ Among y back) → Among y (z ∷ front) ⊎ ((y ≡ x) ⊎ Among y back)
      by (inl b) = inl (inr b)
      by (inr b) = inr b

  pub among_here : (front : List A) (x : A) (back : List A) → Among x (front ++ (x ∷ back))
  among_here [] x back = inl refl
  among_here (z ∷ front) x back = inr (among_here front x back)

module _ {A : Type 0} (counts : A → Bool) (measure : A → ℕ) where
  -- x counts; before it in the list none that counts reaches its measure, and after it none is above
  pub record FirstGreatest (list : List A) (x : A) : Type 0 where
    pub front : List A
    pub back : List A
    pub splits : list ≡ front ++ (x ∷ back)
    pub counted : counts x ≡ true
    pub before : (y : A) → Among y front → counts y ≡ true → measure y < measure x
    pub after : (y : A) → Among y back → counts y ≡ true → measure y ≤ measure x

  -- so it is one of the list
  pub greatest_among : (list : List A) (x : A) → FirstGreatest list x → Among x list
  greatest_among list x f = rw f.splits (among_here f.front x f.back)

  -- and none that counts is above it
  pub greatest_above : (list : List A) (x : A) → FirstGreatest list x → (y : A) → Among y list → counts y ≡ true → measure y ≤ measure x
  greatest_above list x f y a c = by (among_cases f.front x f.back y (rw f.splits at a))
    where
      by : Among y f.front ⊎ ((y ≡ x) ⊎ Among y f.back) → measure y ≤ measure x
      by (inl b) = le_of_lt (f.before y b c)
      by (inr (inl e)) = rw e (le_refl (measure x))
      by (inr (inr b)) = f.after y b c

  abbrev pub NoneCounts : List A → Type 0
  NoneCounts list = (y : A) → Among y list → counts y ≡ false

  -- either none counts, and none is found, or the first greatest is found
  abbrev pub Found : List A → Type 0
  Found list =
      (NoneCounts list × (greatest counts measure list ≡ None)) ⊎ ((x : A) × FirstGreatest list x × (greatest counts measure list ≡ Some x))

  pub greatest_meaning : (list : List A) → Found list
  unfolding greatest
  greatest_meaning [] = inl (λ y a. absurd a, refl)
  greatest_meaning (x ∷ list) = by (counts x) refl (greatest_meaning list)
    where
      -- x counts, and none after it is above it
      first : counts x ≡ true → ((y : A) → Among y list → counts y ≡ true → measure y ≤ measure x) → FirstGreatest (x ∷ list) x
      first c most = record { front = []; back = list; splits = refl; counted = c; before = λ y a. absurd a; after = most }

      -- x does not count, or is below what was found
      later : (y : A) → FirstGreatest list y → (counts x ≡ true → measure x < measure y) → FirstGreatest (x ∷ list) y
      later y f under =
          record {
            front = x ∷ f.front;
            back = f.back;
            splits = ap (λ (l : List A). x ∷ l) f.splits;
            counted = f.counted;
            before = before;
            after = f.after;
          }
        where
          before : (z : A) → Among z (x ∷ f.front) → counts z ≡ true → measure z < measure y
          before z (inl e) c = rw e (under (rw e at c))
          before z (inr a) c = f.before z a c

      pick : counts x ≡ true → (y : A) → FirstGreatest list y → greatest counts measure list ≡ Some y → (t : Bool) → leb (measure y) (measure x) ≡ t → Found (x ∷ list)
      pick c y f e true t = inr (x, first c (λ z a d. le_trans (greatest_above list y f z a d) (leb-true (measure y) (measure x) t)), rw (c, e, t))
      pick c y f e false t = inr (y, later y f (λ d. leb-false (measure y) (measure x) t), rw (c, e, t))

      none_of : counts x ≡ false → NoneCounts list → NoneCounts (x ∷ list)
      none_of c skipped y (inl e) = rw e c
      none_of c skipped y (inr a) = skipped y a

      by : (t : Bool) → counts x ≡ t → Found list → Found (x ∷ list)
      by true c (inl (skipped, e)) = inr (x, first c (λ y a d. absurd (true≢false (sym d ∙ skipped y a))), rw (c, e))
      by true c (inr (y, f, e)) = pick c y f e (leb (measure y) (measure x)) refl
      by false c (inl (skipped, e)) = inl (none_of c skipped, rw (c, e))
      by false c (inr (y, f, e)) = inr (y, later y f (λ d. absurd (true≢false (sym d ∙ c))), rw (c, e))

-- A search that goes through the list from its first element, where every element counts.
module _ {A : Type 0} (measure : A → ℕ) where
  -- what is found in the end, from what was found so far and what is left
  abbrev pub found_from : Option A → List A → Option A
  found_from None list = greatest (λ (x : A). true) measure list
  found_from (Some x) list = Some (or_greater measure x (greatest (λ (x : A). true) measure list))

  pub found_at_end : (found : Option A) → found_from found [] ≡ found
  unfolding greatest
  found_at_end None = refl
  found_at_end (Some x) = refl

  -- of three the greatest is found from either end
  greater_three : (x y z : A) → greater_by measure (greater_by measure x y) z ≡ greater_by measure x (greater_by measure y z)
  greater_three x y z = by (leb (measure y) (measure x)) refl (leb (measure z) (measure y)) refl
    where
      by : (t : Bool) → leb (measure y) (measure x) ≡ t → (u : Bool) → leb (measure z) (measure y) ≡ u
          → cond (leb (measure z) (measure (cond t x y))) (cond t x y) z ≡ cond (leb (measure (cond u y z)) (measure x)) x (cond u y z)
      by true t true u =
          let above : measure z ≤ measure x = le_trans (leb-true (measure z) (measure y) u) (leb-true (measure y) (measure x) t) in
          rw (le-leb (measure z) (measure x) above, t) refl
      by true t false u = refl
      by false t true u = rw (u, t) refl
      by false t false u =
          let below : measure x < measure z = lt_trans (leb-false (measure y) (measure x) t) (leb-false (measure z) (measure y) u) in
          rw (u, lt-leb (measure z) (measure x) below) refl

  pub found_next : (found : Option A) (y : A) (list : List A) → found_from (Some (greater_after measure found y)) list ≡ found_from found (y ∷ list)
  unfolding greatest
  found_next None y list = refl
  found_next (Some x) y list = by (greatest (λ (x : A). true) measure list)
    where
      by : (g : Option A) → ◌≡◌ {A = Option A} (Some (or_greater measure (greater_by measure x y) g)) (Some (greater_by measure x (or_greater measure y g)))
      by None = refl
      by (Some z) = ap Some (greater_three x y z)
