-- A list that is filled from the front, element by element, for any type of element.
-- Assumes nothing.
use mathlib.Core.Path.{◌≡◌, sym, ap, ◌∙◌}
use Prim.Native.Nat.{ℕ, ◌+◌, ◌≤◌, ◌<◌}
use native.Mathlib.Numerals.{add-one}
use mathlib.Core.List.{List, [], ◌∷◌, ◌++◌}
use lib.ListN.{length, get_or, take, set}
use lib.Seq.{take-suc, take-suc-set, take_all}

module _ {A : Type 0} where
  -- the list l agrees with the wanted list w up to i: so it does up to i + 1 with w's element stored at i
  pub fill_step : (l w : List A) (i : ℕ) (v d : A) → i < length l → i < length w → take i l ≡ take i w → get_or w i d ≡ v
      → take (i + 1) (set l i v) ≡ take (i + 1) w
  fill_step l w i v d h k e q =
      rw add-one
      (take-suc-set l i v h
      ∙ ap (λ (x : List A). x ++ (v ∷ [])) e
      ∙ ap (λ (x : A). take i w ++ (x ∷ [])) (sym q)
      ∙ sym (take-suc w i d k))

  -- and a list that agrees as far as both go is the wanted one
  pub fill_end : (l w : List A) (i : ℕ) → length l ≤ i → length w ≤ i → take i l ≡ take i w → l ≡ w
  fill_end l w i h k e = sym (take_all i l h) ∙ e ∙ take_all i w k
