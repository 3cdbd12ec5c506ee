-- What a call more changes of a history: the numbers given and the rows left.
-- Assumes nothing.
use Prim.Native.Nat.{ℕ}
use mathlib.Core.Bool.{Bool, true, false, cond, ◌||◌, or-false}
use mathlib.Core.List.{List, [], ◌∷◌, ◌++◌}
use mathlib.Core.Path.{◌≡◌, refl, ap, ◌∙◌}
use lib.Dec.{eqb}
use Rattle.std.specs.Prelude.{Option, Some, None, option_map}
use Rattle.keptrules.specs.Afresh.{Answered, NumberedRow, added_row, removed_by, removed, unless_removed, left, given}
use Rattle.std.specs.List.{cons_option}

-- the rows without those of a number
unfoldable pub others : ℕ → List NumberedRow → List NumberedRow
others number [] = []
others number (r ∷ rows) = cond (eqb r.number number) (others number rows) (r ∷ others number rows)

-- a call at the end
pub removed_last : (number : ℕ) (history : List Answered) (answered : Answered) → removed number (history ++ (answered ∷ [])) ≡ removed number history || removed_by number answered.call answered.answer
removed_last number [] answered = or-false (removed_by number answered.call answered.answer)
removed_last number (t ∷ history) answered = by (removed_by number t.call t.answer) (removed_last number history answered)
  where
    by : (u : Bool) → removed number (history ++ (answered ∷ [])) ≡ removed number history || removed_by number answered.call answered.answer
        → u || removed number (history ++ (answered ∷ [])) ≡ (u || removed number history) || removed_by number answered.call answered.answer
    by true e = refl
    by false e = e

-- it removed nothing
abbrev pub NoRemoval : Answered → Type 0
NoRemoval answered = (number : ℕ) → removed_by number answered.call answered.answer ≡ false

pub still : (number : ℕ) (history : List Answered) (answered : Answered) → NoRemoval answered → removed number (history ++ (answered ∷ [])) ≡ removed number history
still number history answered none = removed_last number history answered ∙ (rw (none number) (or-false (removed number history)))

-- it added a row
pub left_added : (history : List Answered) (answered : Answered) (r : NumberedRow) → added_row answered ≡ Some r → NoRemoval answered → left (history ++ (answered ∷ [])) ≡ left history ++ (r ∷ [])
unfolding left
left_added [] answered r e none = rw e refl
left_added (t ∷ history) answered r e none = by (added_row t) (left_added history answered r e none)
  where
    kept : (u : Bool) (x : NumberedRow) (rows more : List NumberedRow) → more ≡ rows ++ (r ∷ []) → cond u more (x ∷ more) ≡ cond u rows (x ∷ rows) ++ (r ∷ [])
    kept true x rows more same = same
    kept false x rows more same = ap (λ (l : List NumberedRow). x ∷ l) same

    by : (o : Option NumberedRow) → left (history ++ (answered ∷ [])) ≡ left history ++ (r ∷ [])
        → unless_removed o (history ++ (answered ∷ [])) (left (history ++ (answered ∷ []))) ≡ unless_removed o history (left history) ++ (r ∷ [])
    by None same = same
    by (Some x) same = rw (still x.number history answered none) (kept (removed x.number history) x (left history) (left (history ++ (answered ∷ []))) same)

-- it changed nothing
pub left_unchanged : (history : List Answered) (answered : Answered) → added_row answered ≡ None → NoRemoval answered → left (history ++ (answered ∷ [])) ≡ left history
unfolding left
left_unchanged [] answered e none = rw e refl
left_unchanged (t ∷ history) answered e none = by (added_row t) (left_unchanged history answered e none)
  where
    by : (o : Option NumberedRow) → left (history ++ (answered ∷ [])) ≡ left history
        → unless_removed o (history ++ (answered ∷ [])) (left (history ++ (answered ∷ []))) ≡ unless_removed o history (left history)
    by None same = same
    by (Some x) same = rw (still x.number history answered none, same) refl

-- it removed the row with a number
pub left_removed : (history : List Answered) (answered : Answered) (number : ℕ) → added_row answered ≡ None → ((n : ℕ) → removed_by n answered.call answered.answer ≡ eqb n number) → left (history ++ (answered ∷ [])) ≡ others number (left history)
unfolding left others
left_removed [] answered number e removal = rw e refl
left_removed (t ∷ history) answered number e removal = by (added_row t) (left_removed history answered number e removal)
  where
    kept : (u w : Bool) (x : NumberedRow) (rows more : List NumberedRow) → more ≡ others number rows → eqb x.number number ≡ w
        → cond (u || w) more (x ∷ more) ≡ others number (cond u rows (x ∷ rows))
    kept true w x rows more same is = same
    kept false true x rows more same is = rw is same
    kept false false x rows more same is = rw is (ap (λ (l : List NumberedRow). x ∷ l) same)

    by : (o : Option NumberedRow) → left (history ++ (answered ∷ [])) ≡ others number (left history)
        → unless_removed o (history ++ (answered ∷ [])) (left (history ++ (answered ∷ []))) ≡ others number (unless_removed o history (left history))
    by None same = same
    by (Some x) same =
        rw (removed_last x.number history answered, removal x.number)
        (kept (removed x.number history) (eqb x.number number) x (left history) (left (history ++ (answered ∷ []))) same refl)

-- the numbers given, with a call at the end
pub given_added : (history : List Answered) (answered : Answered) (r : NumberedRow) → added_row answered ≡ Some r → given (history ++ (answered ∷ [])) ≡ given history ++ (r.number ∷ [])
given_added [] answered r e = rw e refl
given_added (t ∷ history) answered r e = by (added_row t) (given_added history answered r e)
  where
    by : (o : Option NumberedRow) → given (history ++ (answered ∷ [])) ≡ given history ++ (r.number ∷ [])
        → cons_option (option_map (λ (y : NumberedRow). y.number) o) (given (history ++ (answered ∷ []))) ≡ cons_option (option_map (λ (y : NumberedRow). y.number) o) (given history) ++ (r.number ∷ [])
    by None same = same
    by (Some x) same = ap (λ (l : List ℕ). x.number ∷ l) same

pub given_unchanged : (history : List Answered) (answered : Answered) → added_row answered ≡ None → given (history ++ (answered ∷ [])) ≡ given history
given_unchanged [] answered e = rw e refl
given_unchanged (t ∷ history) answered e = by (added_row t) (given_unchanged history answered e)
  where
    by : (o : Option NumberedRow) → given (history ++ (answered ∷ [])) ≡ given history → cons_option (option_map (λ (y : NumberedRow). y.number) o) (given (history ++ (answered ∷ []))) ≡ cons_option (option_map (λ (y : NumberedRow). y.number) o) (given history)
    by None same = same
    by (Some x) same = ap (λ (l : List ℕ). x.number ∷ l) same
