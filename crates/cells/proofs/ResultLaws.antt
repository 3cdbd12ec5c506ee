-- What an answer says is the answer; and what a refusal does to what comes after it.
-- Assumes nothing.
use Prim.Native.Nat.{ℕ}
use native.Mathlib.Omega.{arith}
use mathlib.Core.List.{List}
use mathlib.Core.Path.{◌≡◌, refl, sym, ap, subst}
use Rattle.std.specs.Prelude.{Result as Answer, Ok, Err}
use Rattle.cells.specs.Refusal.{Result, gives, refuses, refused_by, refusal_number, refusal_cell, refusal_code, result_by, by_number, result_of, value_or, and_then, leaves, told}
use Rattle.cells.specs.declared.refusal.Refusal.{Refusal}

-- the result beside an answer that refuses
pub refused_result : {A : Type 0} (answer : Answer (Unit {0}) Refusal) (value : A) {refusal : Refusal} → answer ≡ Err refusal → result_of answer value ≡ refused_by refusal
refused_result answer value e = ap (λ (o : Answer (Unit {0}) Refusal). result_of o value) e

-- the result beside an answer that does not
pub done_result : {A : Type 0} (answer : Answer (Unit {0}) Refusal) (value : A) → answer ≡ Ok tt → result_of answer value ≡ gives value
done_result answer value e = ap (λ (o : Answer (Unit {0}) Refusal). result_of o value) e

abbrev Gives : {A : Type 0} → Result A → Type 0
Gives (gives value) = Unit {0}
Gives (refuses number cell) = ⊥

-- an answer that says a value is that value
pub given_by : {A E : Type 0} (number cell : E → ℕ) (answer : Answer A E) (value : A) → result_by number cell answer ≡ gives value → answer ≡ Ok value
given_by {A = A} number cell (Err refusal) value e = absurd (subst (λ (r : Result A). Gives r) (sym e) tt)
given_by {A = A} number cell (Ok other) value e = ap (λ (r : Result A). Ok (value_or other r)) e

pub answer_given : {A : Type 0} (answer : Answer A Refusal) (value : A) → by_number answer ≡ gives value → answer ≡ Ok value
answer_given answer value e = given_by refusal_number refusal_cell answer value e

-- the first refusal stands: what comes after it is not looked at, the lent bytes stay as they were, and the host is told its code
pub refusal_stands : {A B : Type 0} (refusal : Refusal) (next : A → Result B) → and_then (refused_by refusal) next ≡ refused_by refusal
refusal_stands refusal next = refl

pub refusal_leaves : {A : Type 0} (refusal : Refusal) (after : A → List ℕ) (before : List ℕ) → leaves (refused_by refusal) after before ≡ before
refusal_leaves refusal after before = refl

pub refusal_told : {A : Type 0} (refusal : Refusal) (value-number : A → ℕ) → told value-number (refused_by refusal) ≡ refusal_code refusal
refusal_told refusal value-number = refl

-- where operations that follow one another give a value, each gave one
pub then_given : {A B : Type 0} (result : Result A) (next : A → Result B) (value : B) → and_then result next ≡ gives value → (before : A) × (result ≡ gives before) × (next before ≡ gives value)
then_given (gives before) next value e = (before, refl, e)
then_given (refuses number cell) next value e = absurd (let z : ◌≡◌ {A = ℕ} 0 1 = cc in omega arith)
