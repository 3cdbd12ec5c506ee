-- What an answer of the sag check says: a refusal, its number and its cell; a pass; a fail; and what a sag follows from.
-- Assumes nothing.
use Prim.Native.Nat.{ℕ, ◌≤◌, ◌<◌}
use native.Mathlib.Omega.{arith}
use mathlib.Core.Bool.{Bool, true, false}
use mathlib.Core.List.{List}
use mathlib.Core.Logic.{◌⊎◌, inl, inr}
use mathlib.Core.Path.{◌≡◌, refl, sym, ap, ◌∙◌, subst}
use lib.ListN.{length}
use Rattle.cells.specs.Refusal.{Result, gives, refuses}
use Rattle.cells.specs.Row.{cell_count, Cell}
use Rattle.rounding.specs.Fraction.{whole, scaled}
use Rattle.rounding.specs.Range.{In}
use Rattle.rounding.proofs.Near.{near_pos}
use Rattle.sp64.specs.Tables.{moisture_factor}
use Rattle.member.specs.Acceptance.{accept}
use Rattle.member.specs.Member.{values_of, value_at}
use Rattle.member.specs.declared.kind.Kind.{Kind}
use Rattle.member.specs.declared.kind.Kind.TheVariants.{Tension, Bending, Compression, CompressionBending, TensionBending}
use Rattle.member.specs.declared.member.Member.{Member}
use Rattle.member.proofs.AcceptanceLaws.{accepted_by_name}
use Rattle.worksheet.proofs.RefusalNumbers.{Numbered, accept_numbered}
use Rattle.sagrules.specs.Demand.{sag_factor}
use Rattle.sagrules.specs.Sag.{SagRanges, SagBeamRanges, sag_in_range, exact_limit_moment, exact_shear_factor, SagHolds}
use Rattle.sagrules.specs.SagCheck.{sag_beam_of, bending_only, accept_beam, sag_verdict, check_sag}
use Rattle.sagrules.specs.WorkedSags.{sag_beam}
use Rattle.sagrules.specs.declared.answer.SagVerdict.{SagVerdict}
use Rattle.sagrules.specs.declared.sag.Sag.{Sag}
use Rattle.sagrules.specs.declared.sag.SagBeam.{SagBeam}
use Rattle.sagrules.proofs.SagDemand.{beam_of, accepted_beam_ranges, sag_factor_kept}
use Rattle.sagrules.proofs.SagLaws.{sag_ranges, limit_moment_near, shear_factor_real}
use Rattle.sagrules.proofs.SagSound.{verdict_keeps}

-- ---- refusals

-- a refusal of the row stands, whatever the sag
pub row_first : (cells : List Cell) (s : Sag) (number cell : ℕ) → accept cells ≡ refuses number cell → check_sag cells s ≡ refuses number cell
row_first cells s number cell e = rw e

-- then another kind than bending is refusal 9, cell 1, whatever the sag
pub not_bending : (kind : Kind) (b : SagBeam) → (kind ≡ Bending → ⊥) → bending_only kind b ≡ refuses 9 1
not_bending Tension b other = refl
not_bending Bending b other = absurd (other refl)
not_bending Compression b other = refl
not_bending CompressionBending b other = refl
not_bending TensionBending b other = refl

pub kind_second : (cells : List Cell) (s : Sag) (m : Member) → accept cells ≡ gives m → (m.kind ≡ Bending → ⊥) → check_sag cells s ≡ refuses 9 1
kind_second cells s m given other = rw (given, not_bending m.kind (sag_beam_of m) other)

-- then a span, a moment or n outside its range is refusal 10, cell 0
pub sag_third : (cells : List Cell) (s : Sag) (b : SagBeam) → accept_beam cells ≡ gives b → sag_in_range s ≡ false → check_sag cells s ≡ refuses 10 0
sag_third cells s b given outside = rw (given, outside)

-- which refusals there are: one of the row's, 2 to 4; 9 with cell 1; 10 with cell 0
abbrev pub SagRefused : List Cell → Sag → ℕ → ℕ → Type 0
SagRefused cells s number cell =
    ((accept cells ≡ refuses number cell) × In 2 4 number × (cell ≤ cell_count))
    ⊎ (((m : Member) × (accept cells ≡ gives m) × (m.kind ≡ Bending → ⊥) × (number ≡ 9) × (cell ≡ 1))
    ⊎ ((b : SagBeam) × (accept_beam cells ≡ gives b) × (sag_in_range s ≡ false) × (number ≡ 10) × (cell ≡ 0)))

module _ (cells : List Cell) (s : Sag) (whole_row : length cells ≡ cell_count) where
  pub sag_refusals : (number cell : ℕ) → check_sag cells s ≡ refuses number cell → SagRefused cells s number cell
  sag_refusals number cell e = by_row (accept cells) refl
    where
      by_sag : (b : SagBeam) → accept_beam cells ≡ gives b → (t : Bool) → sag_in_range s ≡ t → SagRefused cells s number cell
      by_sag b given true within =
          let told : check_sag cells s ≡ gives (sag_verdict b s) = rw (given, within) in
          absurd (let z : ◌≡◌ {A = ℕ} 0 1 = cc in omega arith)
      by_sag b given false outside =
          let told = sag_third cells s b given outside in
          inr (inr (b, given, outside, cc, cc))

      by_other : (m : Member) → accept cells ≡ gives m → (m.kind ≡ Bending → ⊥) → SagRefused cells s number cell
      by_other m given other =
          let told = kind_second cells s m given other in
          inr (inl (m, given, other, cc, cc))

      by_kind : (m : Member) → accept cells ≡ gives m → (kind : Kind) → m.kind ≡ kind → SagRefused cells s number cell
      by_kind m given Bending e = by_sag (sag_beam_of m) (rw (given, e)) (sag_in_range s) refl
      by_kind m given Tension e = by_other m given (λ z. let y : ◌≡◌ {A = ℕ} 0 1 = cc in omega arith)
      by_kind m given Compression e = by_other m given (λ z. let y : ◌≡◌ {A = ℕ} 0 1 = cc in omega arith)
      by_kind m given CompressionBending e = by_other m given (λ z. let y : ◌≡◌ {A = ℕ} 0 1 = cc in omega arith)
      by_kind m given TensionBending e = by_other m given (λ z. let y : ◌≡◌ {A = ℕ} 0 1 = cc in omega arith)

      by_row : (r : Result Member) → accept cells ≡ r → SagRefused cells s number cell
      by_row (gives m) given = by_kind m given m.kind refl
      by_row (refuses n c) refused =
          let told = row_first cells s n c refused in
          let here = subst (λ (r : Result Member). Numbered 2 4 r) refused (accept_numbered cells whole_row) in
          let numbers : n ≡ number = cc in
          let named : c ≡ cell = cc in
          inl (rw (numbers, named) at refused, rw numbers at here.0, rw named at here.1)

-- ---- what a sag follows from

-- of a row, from cells 2, 3, 4, 6 and 7 alone: the office factor, M and Q have no part in it
pub beam_by_cells : (cells : List Cell) (b : SagBeam) → accept_beam cells ≡ gives b
    → b ≡ sag_beam (value_at (values_of cells) 2) (value_at (values_of cells) 3) (moisture_factor (value_at (values_of cells) 4)) (value_at (values_of cells) 6) (value_at (values_of cells) 7)
beam_by_cells cells b e =
    let was = beam_of cells b e in
    sym was.is ∙ ap sag_beam_of (accepted_by_name cells was.member was.accepted)

-- ---- verdicts

-- what a verdict stands on: an accepted row of kind 2, a sag within its ranges, and its verdict
pub record SagJudged (cells : List Cell) (s : Sag) (v : SagVerdict) : Type 0 where
  pub beam : SagBeam
  pub accepted : accept_beam cells ≡ gives beam
  pub within : sag_in_range s ≡ true
  pub is : v ≡ sag_verdict beam s

pub sag_judged : (cells : List Cell) (s : Sag) (v : SagVerdict) → check_sag cells s ≡ gives v → SagJudged cells s v
sag_judged cells s v e = by (accept_beam cells) refl (sag_in_range s) refl
  where
    by : (r : Result SagBeam) → accept_beam cells ≡ r → (t : Bool) → sag_in_range s ≡ t → SagJudged cells s v
    by (gives b) given true within =
        let told : check_sag cells s ≡ gives (sag_verdict b s) = rw (given, within) in
        record { beam = b; accepted = given; within = within; is = cc }
    by (gives b) given false outside =
        let told = sag_third cells s b given outside in
        absurd (let z : ◌≡◌ {A = ℕ} 0 1 = cc in omega arith)
    by (refuses n c) refused t within =
        let told : check_sag cells s ≡ refuses n c = rw refused in
        absurd (let z : ◌≡◌ {A = ℕ} 0 1 = cc in omega arith)

module _ (cells : List Cell) (s : Sag) (v : SagVerdict) (whole_row : length cells ≡ cell_count) (j : SagJudged cells s v) where
  known : SagBeamRanges j.beam
  known = accepted_beam_ranges cells j.beam whole_row j.accepted

  ranges : SagRanges s
  ranges = sag_ranges s j.within

  -- A pass: with nothing rounded the sag stays within its limit.
  pub pass_means : v.passes ≡ true → SagHolds j.beam s (whole s.moment)
  pass_means e = (verdict_keeps known ranges sag_factor sag_factor_kept).pass (ap (λ (v : SagVerdict). v.passes) (sym j.is) ∙ e)

  -- A fail: with nothing rounded it does not at 1.005 times the moment.
  pub fail_means : v.passes ≡ false → SagHolds j.beam s (scaled 1005 (whole s.moment)) → ⊥
  fail_means e = (verdict_keeps known ranges sag_factor sag_factor_kept).fail (ap (λ (v : SagVerdict). v.passes) (sym j.is) ∙ e)

  -- Nothing in that is empty: Mf and the shear factor, unrounded, have denominators above zero, and Mf is above zero.
  pub nothing_empty : (0 < (exact_shear_factor j.beam s).den) × (0 < (exact_limit_moment j.beam s).den) × (0 < (exact_limit_moment j.beam s).num)
  nothing_empty = (shear_factor_real known ranges, (limit_moment_near known ranges).real, near_pos (omega arith) (limit_moment_near known ranges))
