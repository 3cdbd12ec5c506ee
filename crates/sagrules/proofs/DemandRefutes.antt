-- The reading of a sag's passes and fails has teeth: it refutes a refusal of a sag that the rules accept, and wrong verdicts, whatever else they say; its factor is no more than
-- 1.005, and 1.000 would be too little.
-- Assumes nothing.
use Prim.Native.Nat.{ℕ, ◌+◌}
use native.Mathlib.Omega.{arith}
use mathlib.Core.Bool.{true, false}
use mathlib.Core.List.{List}
use mathlib.Core.Path.{◌≡◌, refl, sym, subst}
use lib.Dec.{lit≤}
use Rattle.std.specs.Prelude.{Ok, Err}
use Rattle.cells.specs.Lowest.{lowest}
use Rattle.cells.specs.Refusal.{gives}
use Rattle.cells.specs.Row.{Cell}
use Rattle.rounding.specs.Fraction.{whole, scaled}
use Rattle.member.specs.Acceptance.{accept_kind}
use Rattle.rounding.proofs.Numerals.{past_it}
use Rattle.sagrules.specs.Demand.{sag_factor, sag_kept_from, SagDemand, KeepsSagDemand}
use Rattle.sagrules.specs.EdgeSags.{rounding_row, rounding_beam, rounding_sag, close_sag}
use Rattle.sagrules.specs.Sag.{sag_in_range, SagHolds}
use Rattle.sagrules.specs.SagCheck.{accept_beam, sag_verdict, check_sag}
use Rattle.sagrules.specs.WorkedSags.{living_room_row, living_room_sag, store_row, store_sag, weakest_row, weakest_beam}
use Rattle.sagrules.specs.declared.answer.SagRefusal.{SagRefusal}
use Rattle.sagrules.specs.declared.answer.SagVerdict.{SagVerdict}
use Rattle.sagrules.specs.declared.sag.Sag.{Sag}
use Rattle.sagrules.specs.declared.sag.SagBeam.{SagBeam}
use Rattle.sagrules.proofs.WorkedLaws.{living_room_beam, store_beam, beams_accepted}

-- what it says of an answer for a sag that is not refused
module _ (cells : List Cell) (b : SagBeam) (s : Sag) (given : accept_beam cells ≡ gives b) (within : sag_in_range s ≡ true) (k : ℕ) where
  pub refused_breaks : (refusal : SagRefusal) → KeepsSagDemand cells s (Err refusal) k → ⊥
  refused_breaks refusal keeps =
      let answer : Err refusal ≡ Ok (keeps b given within).0 = (keeps b given within).1 in
      absurd (let z : ◌≡◌ {A = ℕ} 0 1 = cc in omega arith)

  pub at_verdict : (w : SagVerdict) → KeepsSagDemand cells s (Ok w) k → SagDemand b s w k
  at_verdict w keeps =
      let kept = keeps b given within in
      let answer : Ok w ≡ Ok kept.0 = kept.1 in
      let same : w ≡ kept.0 = cc in
      subst (λ (v : SagVerdict). SagDemand b s v k) (sym same) kept.2

-- ---- wrong checkers

-- One that refuses the living room, whatever the refusal.
pub living_room_refused : (k : ℕ) (refusal : SagRefusal) → KeepsSagDemand living_room_row living_room_sag (Err refusal) k → ⊥
living_room_refused k = refused_breaks living_room_row living_room_beam living_room_sag beams_accepted.0 refl k

-- One that fails it.
pub living_room_failed : (w : SagVerdict) → w.passes ≡ false → KeepsSagDemand living_room_row living_room_sag (Ok w) sag_factor → ⊥
living_room_failed w e keeps = (at_verdict living_room_row living_room_beam living_room_sag beams_accepted.0 refl sag_factor w keeps).fail e (lit≤ tt)

-- One that passes the store, whatever the factor.
pub store_passed : (k : ℕ) (w : SagVerdict) → w.passes ≡ true → KeepsSagDemand store_row store_sag (Ok w) k → ⊥
store_passed k w e keeps = past_it _ _ refl ((at_verdict store_row store_beam store_sag beams_accepted.1 refl k w keeps).pass e)

-- ---- the factor

-- A fail of a sag whose utilisation is 994,514 is refuted at the request's factor;
pub close_sag_failed : (w : SagVerdict) → w.passes ≡ false → KeepsSagDemand weakest_row close_sag (Ok w) sag_factor → ⊥
close_sag_failed w e keeps = (at_verdict weakest_row weakest_beam close_sag beams_accepted.2 refl sag_factor w keeps).fail e (lit≤ tt)

-- it would not be at 1.006, where the sag does not hold.
pub past_factor : SagHolds weakest_beam close_sag (scaled 1006 (whole close_sag.moment)) → ⊥
past_factor h = past_it _ _ refl h

-- A sag that the rules fail by rounding alone: a thousandth below the factor from which on the reading is kept, it would be broken.
pub broken_below : (k : ℕ) → k + 1 ≡ sag_kept_from → (w : SagVerdict) → check_sag rounding_row rounding_sag ≡ gives w → KeepsSagDemand rounding_row rounding_sag (Ok w) k → ⊥
unfolding accept_kind lowest
broken_below k one_less w given keeps =
    let told : check_sag rounding_row rounding_sag ≡ gives (sag_verdict rounding_beam rounding_sag) = refl in
    let is : w ≡ sag_verdict rounding_beam rounding_sag = cc in
    let same : k ≡ 1000 = omega (arith, one_less) in
    (at_verdict rounding_row rounding_beam rounding_sag beams_accepted.3 refl k w keeps).fail (rw is) (rw same (lit≤ tt))
