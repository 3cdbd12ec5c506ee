-- Which rows are left of a history: those that a call added and no later one removed.
-- Assumes nothing.
use mathlib.Core.Bool.{Bool, true, false, cond}
use mathlib.Core.List.{List, [], ◌∷◌, ◌++◌}
use mathlib.Core.Logic.{inl, inr}
use mathlib.Core.Path.{◌≡◌, refl, ap}
use Rattle.std.specs.Prelude.{◌↔◌, Option, Some, None}
use Rattle.cells.specs.Greatest.{Among}
use Rattle.keptrules.specs.Afresh.{Answered, NumberedRow, added_row, removed, unless_removed, left}

-- a call added the row, and no later one removed it
pub record AddedNotRemoved (history : List Answered) (r : NumberedRow) : Type 0 where
  pub front : List Answered
  pub answered : Answered
  pub later : List Answered
  pub splits : history ≡ front ++ (answered ∷ later)
  pub added : added_row answered ≡ Some r
  pub stays : removed r.number later ≡ false

-- those left are the rows added and not removed
left_added_only : (history : List Answered) (r : NumberedRow) → Among r (left history) → AddedNotRemoved history r
unfolding left
left_added_only [] r a = absurd a
left_added_only (t ∷ history) r a = by_call (added_row t) refl (left_added_only history r)
  where
    further : AddedNotRemoved history r → AddedNotRemoved (t ∷ history) r
    further f = record { front = t ∷ f.front; answered = f.answered; later = f.later; splits = ap (λ (l : List Answered). t ∷ l) f.splits; added = f.added; stays = f.stays }

    by_removal : (x : NumberedRow) → added_row t ≡ Some x → (u : Bool) → removed x.number history ≡ u → Among r (cond u (left history) (x ∷ left history))
        → (Among r (left history) → AddedNotRemoved history r) → AddedNotRemoved (t ∷ history) r
    by_removal x e true u b rest = further (rest b)
    by_removal x e false u (inl same) rest = rw same (record { front = []; answered = t; later = history; splits = refl; added = e; stays = u })
    by_removal x e false u (inr b) rest = further (rest b)

    by_call : (o : Option NumberedRow) → added_row t ≡ o → (Among r (left history) → AddedNotRemoved history r) → AddedNotRemoved (t ∷ history) r
    by_call None e rest = further (rest (rw e at a))
    by_call (Some x) e rest = by_removal x e (removed x.number history) refl (rw e at a) rest

added_left : (front : List Answered) (answered : Answered) (later : List Answered) (r : NumberedRow) → added_row answered ≡ Some r → removed r.number later ≡ false → Among r (left (front ++ (answered ∷ later)))
unfolding left
added_left [] answered later r added stays = rw (added, stays) (inl refl)
added_left (t ∷ front) answered later r added stays = by_call (added_row t) (added_left front answered later r added stays)
  where
    by_removal : (u : Bool) (x : NumberedRow) → Among r (left (front ++ (answered ∷ later))) → Among r (cond u (left (front ++ (answered ∷ later))) (x ∷ left (front ++ (answered ∷ later))))
    by_removal true x a = a
    by_removal false x a = inr a

    by_call : (o : Option NumberedRow) → Among r (left (front ++ (answered ∷ later))) → Among r (unless_removed o (front ++ (answered ∷ later)) (left (front ++ (answered ∷ later))))
    by_call None a = a
    by_call (Some x) a = by_removal (removed x.number (front ++ (answered ∷ later))) x a

pub left_meaning : (history : List Answered) (r : NumberedRow) → Among r (left history) ↔ AddedNotRemoved history r
left_meaning history r = (left_added_only history r, λ (f : AddedNotRemoved history r). rw f.splits (added_left f.front f.answered f.later r f.added f.stays))
