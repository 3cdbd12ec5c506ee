-- What a case of the table of worked rows is, and what it says.
-- Assumes nothing.
use Rattle.std.specs.Prelude.{ℕ, ◌≡◌, true, false, List, [], ◌∷◌, length}
use Rattle.cells.specs.Refusal.{Result, gives, refuses}
use Rattle.cells.specs.Row.{cell_count, Cell}
use Rattle.rounding.specs.Fraction.{Fraction, SameValue}
use Rattle.packed.specs.Packing.{packed}
use Rattle.member.specs.Acceptance.{accept}
use Rattle.member.specs.Verdict.{check_row}
use Rattle.member.specs.declared.member.Member.{Member}
use Rattle.member.specs.declared.verdict.Verdict.{Verdict}

-- a case of document 01's worked rows
pub data Case : Type 0 where
  -- a row and its verdict
  verdict : List Cell → Verdict → Case
  -- a row, a value of its member by the rules, and document 01's figure
  figure : List Cell → (Member → ℕ) → ℕ → Case
  -- a row, a value of its member by the unrounded rules, and the fraction that it is
  exact : List Cell → (Member → Fraction) → Fraction → Case
  -- a row and the bytes to which it packs
  packs : List Cell → List ℕ → Case

-- a pass as the schedule prints it: check, utilisation, count
abbrev pub pass : ℕ → ℕ → ℕ → Verdict
pass check utilisation count = record { passes = true; check = check; utilisation = utilisation; count = count }

-- a fail, in the same order
abbrev pub fail : ℕ → ℕ → ℕ → Verdict
fail check utilisation count = record { passes = false; check = check; utilisation = utilisation; count = count }

-- a result is no refusal, and P is true of its value
abbrev pub Given : {A : Type 0} → (A → Type 0) → Result A → Type 0
Given P (gives value) = P value
Given P (refuses number cell) = ⊥

-- what a case says, of a whole row and of the member that "Check a row" takes from it
abbrev pub Says : Case → Type 0
Says (verdict cells v) = (length cells ≡ cell_count) × (check_row cells ≡ gives v)
Says (figure cells value n) = Given (λ (m : Member). value m ≡ n) (accept cells)
Says (exact cells value x) = Given (λ (m : Member). SameValue (value m) x) (accept cells)
Says (packs cells bytes) = packed cells ≡ bytes

-- every case of a table
abbrev pub All : List Case → Type 0
All [] = Unit {0}
All (c ∷ cases) = Says c × All cases
