-- Reading the host's sag check: what was read, what the answer holds, that a float holds it, and that every answer keeps the reading of passes and fails.
-- Assumes nothing.
use Prim.Native.Nat.{ℕ, ◌≤◌}
use native.Mathlib.Omega.{arith}
use mathlib.Core.Bool.{Bool, true, false, cond}
use mathlib.Core.List.{List}
use mathlib.Core.Path.{◌≡◌, refl, ap, ◌∙◌, subst}
use borrow.Author.Tests.{eqb-true}
use lib.Dec.{eqb}
use lib.ListN.{length}
use Rattle.std.specs.Prelude.{Some}
use Rattle.cells.specs.Refusal.{gives, refuses}
use Rattle.cells.proofs.ResultLaws.{then_given}
use Rattle.worksheet.specs.HostAnswer.{Lossless}
use Rattle.worksheet.specs.HostRow.{read_host_row}
use Rattle.worksheet.specs.OwnCell.{own_number_at}
use Rattle.worksheet.proofs.OwnCellMeaning.{three_given, tested}
use Rattle.worksheet.proofs.ReadRows.{row_as_read}
use Rattle.sagrules.specs.Demand.{sag_kept_from}
use Rattle.sagrules.specs.HostSag.{sag_cells, read_host_sag, read_sag_beam, sag_numbers, sag_answer_bytes, sag_pass_or_fail, sag_returns, sag_leaves, HostKeepsSagDemand}
use Rattle.sagrules.specs.Sag.{sag_in_range, SagRanges, SagBeamRanges}
use Rattle.sagrules.specs.SagCheck.{sag_verdict}
use Rattle.sagrules.specs.WorkedSags.{sag_at}
use Rattle.sagrules.specs.declared.answer.SagVerdict.{SagVerdict}
use Rattle.sagrules.specs.declared.sag.Sag.{Sag}
use Rattle.sagrules.specs.declared.sag.SagBeam.{SagBeam}
use Rattle.sagrules.proofs.ElasticityLaws.{modulus_in, elastic_duration_in, design_modulus_in}
use Rattle.sagrules.proofs.SagDemand.{accepted_beam_ranges}
use Rattle.sagrules.proofs.SagLaws.{sag_ranges, limit_moment_in, shear_factor_in}
use Rattle.sagrules.proofs.SagSound.{verdict_keeps}

-- ---- what was read

-- a sag that was read has 27 bytes, which hold its span, its moment and n, each in its range
pub record SagRead (sag : List ℕ) (s : Sag) : Type 0 where
  pub long : length sag ≡ 27
  pub span : own_number_at sag 0 ≡ Some s.span
  pub moment : own_number_at sag 1 ≡ Some s.moment
  pub ratio : own_number_at sag 2 ≡ Some s.ratio
  pub within : sag_in_range s ≡ true

pub sag_read : (sag : List ℕ) (s : Sag) → read_host_sag sag ≡ gives s → SagRead sag s
sag_read sag s e = by (eqb (length sag) 27) refl e
  where
    of_three : length sag ≡ 27 → sag_cells sag ≡ gives s → SagRead sag s
    of_three long e =
        let three = three_given 10 (own_number_at sag 0) (own_number_at sag 1) (own_number_at sag 2) _ s e in
        let given = sag_at three.0 three.1 three.2 in
        let accepted = tested 10 0 (sag_in_range given) given s three.3 in
        record {
          long = long;
          span = three.4 ∙ ap (λ (x : Sag). Some x.span) accepted.1;
          moment = three.5 ∙ ap (λ (x : Sag). Some x.moment) accepted.1;
          ratio = three.6 ∙ ap (λ (x : Sag). Some x.ratio) accepted.1;
          within = subst (λ (x : Sag). sag_in_range x ≡ true) accepted.1 accepted.0;
        }

    by : (t : Bool) → eqb (length sag) 27 ≡ t → cond t (sag_cells sag) (refuses 10 0) ≡ gives s → SagRead sag s
    by true long e = of_three (eqb-true _ _ long) e
    by false other e = absurd (let z : ◌≡◌ {A = ℕ} 0 1 = cc in omega arith)

pub read_within : (sag : List ℕ) (s : Sag) → read_host_sag sag ≡ gives s → SagRanges s
read_within sag s e = sag_ranges s (sag_read sag s e).within

-- a beam that was read keeps its ranges
pub beam_within : (row : List ℕ) (b : SagBeam) → read_sag_beam row ≡ gives b → SagBeamRanges b
beam_within row b e =
    let read = then_given (read_host_row row) _ b e in
    accepted_beam_ranges read.0 b (row_as_read row read.0 read.1).long read.2

-- ---- the answer

-- the numbers of a verdict are small enough that a float holds each
pub record SmallFigures (v : SagVerdict) : Type 0 where
  pub utilisation : v.utilisation ≤ 9999999
  pub modulus : v.modulus ≤ 12000
  pub elastic_duration : v.elastic_duration ≤ 100
  pub moisture : v.moisture ≤ 100
  pub design_modulus : v.design_modulus ≤ 12000
  pub limit_moment : v.limit_moment ≤ 900000000000
  pub shear_factor : v.shear_factor ≤ 481000000

pub verdict_small : {b : SagBeam} {s : Sag} → SagBeamRanges b → SagRanges s → SmallFigures (sag_verdict b s)
verdict_small {b} {s} known ranges =
    record {
      utilisation = omega arith;
      modulus = (modulus_in b.grade known.grade).high;
      elastic_duration = (elastic_duration_in b.regime).high;
      moisture = known.moisture.high;
      design_modulus = (design_modulus_in known).high;
      limit_moment = (limit_moment_in known ranges).high;
      shear_factor = (shear_factor_in known ranges).high;
    }

pub verdict_lossless : {b : SagBeam} {s : Sag} → SagBeamRanges b → SagRanges s → Lossless (sag_numbers (sag_verdict b s))
verdict_lossless known ranges =
    let few = verdict_small known ranges in (
      omega (arith, few.utilisation),
      (
        omega (arith, few.modulus),
        (
          omega (arith, few.elastic_duration),
          (
            omega (arith, few.moisture),
            (
              omega (arith, few.design_modulus),
              (
                omega (arith, few.limit_moment),
                (omega (arith, few.shear_factor), tt),
              ),
            ),
          ),
        ),
      ),
    )

-- what checking gives for a beam and a sag that are read, in an answer of 56 bytes
pub checked : (row sag answer : List ℕ) (b : SagBeam) (s : Sag) → read_sag_beam row ≡ gives b → read_host_sag sag ≡ gives s → length answer ≡ 56
    → (sag_returns row sag (length answer) ≡ sag_pass_or_fail (sag_verdict b s)) × (sag_leaves row sag answer ≡ sag_answer_bytes (sag_verdict b s))
checked row sag answer b s beam read room = rw (beam, read, room) (refl, refl)

-- what the entry returns and leaves keeps the reading of passes and fails
pub host_keeps : (row sag answer : List ℕ) (returned : ℕ) (left : List ℕ) → returned ≡ sag_returns row sag (length answer) → left ≡ sag_leaves row sag answer
    → (k : ℕ) → sag_kept_from ≤ k → HostKeepsSagDemand row sag answer returned left k
host_keeps row sag answer returned left e b k big beam s given read room =
    let is = checked row sag answer beam s given read room in
    (sag_verdict beam s, e ∙ is.0, b ∙ is.1, verdict_keeps (beam_within row beam given) (read_within sag s read) k big)
