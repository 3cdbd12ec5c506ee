-- Where the regime turns: exactly 80 percent of the total load is still В, and one newton per metre more is Б.
-- Assumes nothing.
-- The proofs read a test of either kind, < or ≤, so that what they refuse of another rule is what it says of exactly 80 percent.
use Prim.Native.Nat.{ℕ, ◌+◌, ◌*◌, ◌≤◌, ◌<◌}
use native.Mathlib.Omega.{arith}
use mathlib.Core.Bool.{Bool, true, false}
use mathlib.Core.Path.{◌≡◌, refl}
use borrow.Author.Tests.{ltb-true, ltb-false, leb-true, leb-false}
use Rattle.floorrules.specs.Loads.{total_load, mostly_lasting, regime_of}
use Rattle.floorrules.specs.WorkedBeams.{loads}
use Rattle.floorrules.specs.declared.beam.Loading.{Loading}

-- more than 80 percent of the total load: Б
pub above_80_is_2 : (l : Loading) → 80 * total_load l < 100 * l.lasting → regime_of l ≡ 2
above_80_is_2 l above = by (mostly_lasting l) refl
  where
    by : (t : Bool) → mostly_lasting l ≡ t → regime_of l ≡ 2
    by true e = rw e
    by false e = absurd (omega (arith, ltb-false, leb-false))

-- up to 80 percent: В
pub up_to_80_is_3 : (l : Loading) → 100 * l.lasting ≤ 80 * total_load l → regime_of l ≡ 3
up_to_80_is_3 l below = by (mostly_lasting l) refl
  where
    by : (t : Bool) → mostly_lasting l ≡ t → regime_of l ≡ 3
    by true e = absurd (omega (arith, ltb-true, leb-true))
    by false e = rw e

module _ (lasting remaining span : ℕ) (exactly : 100 * lasting ≡ 80 * (lasting + remaining)) where
  -- exactly 80 percent is В
  pub exactly_80_is_3 : regime_of (loads lasting remaining span) ≡ 3
  exactly_80_is_3 = up_to_80_is_3 (loads lasting remaining span) (omega arith)

  -- one newton per metre more of the load that lasts is Б
  pub one_more_is_2 : regime_of (loads (lasting + 1) remaining span) ≡ 2
  one_more_is_2 = above_80_is_2 (loads (lasting + 1) remaining span) (omega arith)

-- and so it is where the total stays, one newton per metre of the remaining load counting as lasting
pub one_shifted_is_2 : (lasting remaining span : ℕ) → 100 * lasting ≡ 80 * (lasting + (remaining + 1)) → regime_of (loads (lasting + 1) remaining span) ≡ 2
one_shifted_is_2 lasting remaining span exactly = above_80_is_2 (loads (lasting + 1) remaining span) (omega arith)
