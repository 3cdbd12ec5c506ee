-- The reading of a sag's passes and fails, with nothing rounded.
-- Assumes nothing.
use Rattle.std.specs.Prelude.{ℕ, List, true, false, ◌≡◌, Result as Answer, Ok}
use Rattle.cells.specs.Refusal.{gives}
use Rattle.cells.specs.Row.{Cell}
use Rattle.rounding.specs.Fraction.{whole, scaled}
use Rattle.sagrules.specs.Sag.{sag_in_range, SagHolds}
use Rattle.sagrules.specs.SagCheck.{accept_beam}
use Rattle.sagrules.specs.declared.answer.SagRefusal.{SagRefusal}
use Rattle.sagrules.specs.declared.answer.SagVerdict.{SagVerdict}
use Rattle.sagrules.specs.declared.sag.Sag.{Sag}
use Rattle.sagrules.specs.declared.sag.SagBeam.{SagBeam}

-- request 3: the factor of Mn, in thousandths, with which a sag that failed must fail unrounded; its own, whatever the base's may become
abbrev pub sag_factor : ℕ
sag_factor = 1005

-- the factor from which on every verdict keeps that: a stronger statement than request 3 asks for
abbrev pub sag_kept_from : ℕ
sag_kept_from = 1001

-- request 3: a pass is unrounded true; a fail fails unrounded at k thousandths of Mn
pub record SagDemand (b : SagBeam) (s : Sag) (v : SagVerdict) (k : ℕ) : Type 0 where
  pub pass : v.passes ≡ true → SagHolds b s (whole s.moment)
  pub fail : v.passes ≡ false → SagHolds b s (scaled k (whole s.moment)) → ⊥

-- request 3: for every row and sag that are not refused the answer is a verdict that keeps it
abbrev pub KeepsSagDemand : List Cell → Sag → Answer SagVerdict SagRefusal → ℕ → Type 0
KeepsSagDemand cells s answer k =
    (b : SagBeam) → accept_beam cells ≡ gives b → sag_in_range s ≡ true → (v : SagVerdict) × (answer ≡ Ok v) × SagDemand b s v k
