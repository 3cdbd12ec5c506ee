-- Numerals compared by computing.
-- Assumes nothing.
use Prim.Native.Nat.{ℕ, ◌≤◌}
use mathlib.Core.Path.{◌≡◌, sym, ◌∙◌}
use mathlib.Core.Bool.{false, true≢false}
use borrow.Author.Tests.{le-leb}
use lib.Dec.{leb}

-- a comparison that fails
pub past_it : (a b : ℕ) → leb a b ≡ false → a ≤ b → ⊥
past_it a b e le = true≢false (sym (le-leb a b le) ∙ e)
