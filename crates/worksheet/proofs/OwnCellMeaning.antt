-- What a cell of an operation's own gives: a number exactly where it reads as that number, and none exactly where it is blank or unreadable; and what three of them give.
-- Assumes nothing.
use Prim.Native.Nat.{ℕ}
use native.Mathlib.Omega.{arith}
use mathlib.Core.Bool.{Bool, true, false, cond}
use mathlib.Core.Logic.{◌⊎◌, inl, inr, ◌↔◌}
use mathlib.Core.Path.{◌≡◌, refl}
use borrow.Author.Tests.{leb-true}
use Rattle.std.specs.Prelude.{None, Some, Ok, Err, Option}
use Rattle.cells.specs.Refusal.{Result, gives, refuses}
use Rattle.cells.proofs.ResultLaws.{then_given}
use Rattle.rounding.specs.Range.{In}
use Rattle.member.specs.Cells.{within}
use Rattle.member.proofs.AcceptanceLaws.{both_true}
use Rattle.worksheet.specs.OwnCell.{own_number, own_result, three_own}
use Rattle.worksheet.specs.Number.{Reading}
use Rattle.worksheet.specs.declared.host_cell.ReadError.TheVariants.{NotWhole}

-- blank or unreadable
abbrev pub HoldsNone : Reading → Type 0
HoldsNone reading = (reading ≡ Ok None) ⊎ (reading ≡ (Err NotWhole))

pub own_given : (reading : Reading) (number : ℕ) → own_number reading ≡ Some number ↔ reading ≡ Ok (Some number)
own_given (Ok (Some n)) number = (λ e. cc, λ e. cc)
own_given (Ok None) number = (λ e. absurd (let z : ◌≡◌ {A = ℕ} 0 1 = cc in omega arith), λ e. absurd (let z : ◌≡◌ {A = ℕ} 0 1 = cc in omega arith))
own_given (Err NotWhole) number = (λ e. absurd (let z : ◌≡◌ {A = ℕ} 0 1 = cc in omega arith), λ e. absurd (let z : ◌≡◌ {A = ℕ} 0 1 = cc in omega arith))

pub own_missing : (reading : Reading) → HoldsNone reading → own_number reading ≡ None
own_missing reading (inl e) = rw e
own_missing reading (inr e) = rw e

-- of three, one is missing
abbrev pub OneMissing : Option ℕ → Option ℕ → Option ℕ → Type 0
OneMissing a b c = (a ≡ None) ⊎ ((b ≡ None) ⊎ (c ≡ None))

pub three_missing : {A : Type 0} (refusal : ℕ) (a b c : Option ℕ) (next : ℕ → ℕ → ℕ → Result A) → OneMissing a b c → three_own refusal a b c next ≡ refuses refusal 0
three_missing refusal a b c next (inl e) = rw e
three_missing refusal None b c next (inr none) = refl
three_missing refusal (Some x) b c next (inr (inl e)) = rw e
three_missing refusal (Some x) None c next (inr (inr e)) = refl
three_missing refusal (Some x) (Some y) c next (inr (inr e)) = rw e

-- so it is where one of the three is blank or unreadable
pub three_none : {a b c : Reading} → HoldsNone a ⊎ (HoldsNone b ⊎ HoldsNone c) → OneMissing (own_number a) (own_number b) (own_number c)
three_none (inl h) = inl (own_missing _ h)
three_none (inr (inl h)) = inr (inl (own_missing _ h))
three_none (inr (inr h)) = inr (inr (own_missing _ h))

-- an operation's own number is there
own_there : (refusal : ℕ) (own : Option ℕ) (number : ℕ) → own_result refusal own ≡ gives number → own ≡ Some number
own_there refusal (Some n) number e = cc
own_there refusal None number e = absurd (let z : ◌≡◌ {A = ℕ} 0 1 = cc in omega arith)

-- where they give a value, it is what comes of the three numbers that are there
pub three_given : {A : Type 0} (refusal : ℕ) (a b c : Option ℕ) (next : ℕ → ℕ → ℕ → Result A) (value : A) → three_own refusal a b c next ≡ gives value
    → (x y z : ℕ) × (next x y z ≡ gives value) × (a ≡ Some x) × (b ≡ Some y) × (c ≡ Some z)
three_given refusal a b c next value e =
    let first = then_given (own_result refusal a) _ value e in
    let second = then_given (own_result refusal b) _ value first.2 in
    let third = then_given (own_result refusal c) _ value second.2 in
    (first.0, second.0, third.0, third.2, own_there refusal a first.0 first.1, own_there refusal b second.0 second.1, own_there refusal c third.0 third.1)

-- a number that is tested to be in a range is in it
pub within_range : (lo hi n : ℕ) → within lo hi n ≡ true → In lo hi n
within_range lo hi n e = let both = both_true _ _ e in record { low = leb-true _ _ both.0; high = leb-true _ _ both.1 }

-- a value that is given where a test holds, and refused where it does not
pub tested : {A : Type 0} (number cell : ℕ) (test : Bool) (before after : A) → cond test (gives before) (refuses number cell) ≡ gives after → (test ≡ true) × (before ≡ after)
tested number cell true before after e = (refl, cc)
tested number cell false before after e = absurd (let z : ◌≡◌ {A = ℕ} 0 1 = cc in omega arith)
