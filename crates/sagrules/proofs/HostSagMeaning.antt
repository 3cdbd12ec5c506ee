-- What a host may conclude from the number that the sag entry returned, and from the bytes that it left.
-- Assumes nothing.
use Prim.Native.Nat.{ℕ, ◌≤◌, ◌<◌}
use native.Mathlib.Omega.{arith}
use mathlib.Core.Bool.{Bool, true, false, cond}
use mathlib.Core.List.{List}
use mathlib.Core.Logic.{◌⊎◌, inl, inr}
use mathlib.Core.Path.{◌≡◌, refl, sym, ◌∙◌, subst}
use borrow.Author.Tests.{eqb-true, eq-eqb, ne_eqb}
use lib.Dec.{eqb, lit<, lit≤}
use lib.Ieee.{of_bits}
use lib.Ieee.Exact.{HasValue}
use lib.ListN.{length}
use Rattle.std.specs.Prelude.{Option, Some, None}
use Rattle.cells.specs.HostBytes.{float_at}
use Rattle.cells.specs.Lowest.{lowest}
use Rattle.cells.specs.Refusal.{Result, gives, refuses, and_then, told}
use Rattle.cells.specs.Row.{cell_count, Cell}
use Rattle.cells.proofs.ResultLaws.{then_given}
use Rattle.rounding.specs.Fraction.{whole, scaled}
use Rattle.rounding.specs.Range.{In}
use Rattle.member.specs.Acceptance.{accept}
use Rattle.member.specs.Verdict.{check_row}
use Rattle.member.proofs.VerdictLaws.{judged_refused}
use Rattle.member.specs.declared.kind.Kind.{Kind}
use Rattle.member.specs.declared.kind.Kind.TheVariants.{Tension, Bending, Compression, CompressionBending, TensionBending}
use Rattle.member.specs.declared.member.Member.{Member}
use Rattle.worksheet.specs.HostRow.{host_cell_at, host_cells_at, read_host_row}
use Rattle.worksheet.specs.Number.{read_number, read_fraction}
use Rattle.worksheet.specs.OwnCell.{own_number_at}
use Rattle.worksheet.specs.Reading.{read_cell}
use Rattle.worksheet.proofs.EntryMeaning.{WasRefused, from_1000, untouched, flag_few, flag_passed, flag_failed}
use Rattle.worksheet.proofs.FloatsMeaning.{number_held}
use Rattle.worksheet.proofs.OwnCellMeaning.{HoldsNone, three_missing, three_none}
use Rattle.worksheet.proofs.ReadRows.{row_as_read}
use Rattle.worksheet.proofs.RefusalNumbers.{Numbered, reading_numbered, accept_numbered}
use Rattle.sagrules.specs.Demand.{sag_factor}
use Rattle.sagrules.specs.HostSag.{sag_of, sag_cells, read_host_sag, read_sag_beam, sag_numbers, sag_answer_bytes, sag_answered, host_sag, sag_pass_or_fail, sag_returns, sag_leaves, HostKeepsSagDemand}
use Rattle.sagrules.specs.Sag.{sag_in_range, SagHolds}
use Rattle.sagrules.specs.SagCheck.{sag_beam_of, bending_only, accept_beam, sag_verdict, judge_sag, check_sag}
use Rattle.sagrules.specs.WorkedSags.{sag_at, living_room_row, living_room_sag, living_room_verdict, living_room_at, living_room_row_bytes, living_room_sag_bytes, living_room_over_bytes}
use Rattle.sagrules.specs.declared.answer.SagVerdict.{SagVerdict}
use Rattle.sagrules.specs.declared.sag.Sag.{Sag}
use Rattle.sagrules.specs.declared.sag.SagBeam.{SagBeam}
use Rattle.sagrules.proofs.HostSagLaws.{SmallFigures, SagRead, sag_read, verdict_small, read_within, beam_within, checked}
use Rattle.sagrules.proofs.SagDemand.{BeamOf, beam_of, sag_factor_kept}
use Rattle.sagrules.proofs.SagMeaning.{not_bending}
use Rattle.sagrules.proofs.SagSound.{verdict_keeps}
use Rattle.sagrules.proofs.WorkedLaws.{living_room_beam, beams_accepted}

-- ---- refusals

-- which refusals there are: 1 to 4 of the row, with a cell of it or 0; 9 with cell 1; 10 and 5 with cell 0
abbrev pub HostSagRefused : ℕ → ℕ → Type 0
HostSagRefused number cell =
    (In 1 4 number × (cell ≤ cell_count)) ⊎ (((number ≡ 9) × (cell ≡ 1)) ⊎ (((number ≡ 10) × (cell ≡ 0)) ⊎ ((number ≡ 5) × (cell ≡ 0))))

-- a result that is no other refusal
abbrev OnlyRefused : {A : Type 0} → Result A → Type 0
OnlyRefused (gives value) = Unit
OnlyRefused (refuses number cell) = HostSagRefused number cell

only_then : {A B : Type 0} (result : Result A) (next : A → Result B) → OnlyRefused result → ((value : A) → result ≡ gives value → OnlyRefused (next value)) → OnlyRefused (and_then result next)
only_then (gives value) next here later = later value refl
only_then (refuses number cell) next here later = here

only_row : {A : Type 0} {lo hi : ℕ} (result : Result A) → 1 ≤ lo → hi ≤ 4 → Numbered lo hi result → OnlyRefused result
only_row (gives value) low high here = tt
only_row (refuses number cell) low high here = inl (omega (arith, low, high, here.0), here.1)

only_bending : (kind : Kind) (b : SagBeam) → OnlyRefused (bending_only kind b)
only_bending Tension b = inr (inl (refl, refl))
only_bending Bending b = tt
only_bending Compression b = inr (inl (refl, refl))
only_bending CompressionBending b = inr (inl (refl, refl))
only_bending TensionBending b = inr (inl (refl, refl))

only_beam : (row : List ℕ) → OnlyRefused (read_sag_beam row)
only_beam row =
    only_then (read_host_row row) accept_beam (only_row (read_host_row row) (lit≤ tt) (lit≤ tt) (reading_numbered row))
    (λ cells read. only_then (accept cells) _ (only_row (accept cells) (lit≤ tt) (lit≤ tt) (accept_numbered cells (row_as_read row cells read).long))
    (λ m given. only_bending m.kind (sag_beam_of m)))

only_10 : {A : Type 0} (t : Bool) (rest : Result A) → OnlyRefused rest → OnlyRefused (cond t rest (refuses 10 0))
only_10 true rest here = here
only_10 false rest here = inr (inr (inl (refl, refl)))

only_three : (a b c : Option ℕ) → OnlyRefused (sag_of a b c)
only_three None b c = inr (inr (inl (refl, refl)))
only_three (Some x) None c = inr (inr (inl (refl, refl)))
only_three (Some x) (Some y) None = inr (inr (inl (refl, refl)))
only_three (Some x) (Some y) (Some z) = let s = sag_at x y z in only_10 (sag_in_range s) (gives s) tt

only_sag : (sag : List ℕ) → OnlyRefused (read_host_sag sag)
only_sag sag = only_10 (eqb (length sag) 27) (sag_cells sag) (only_three (own_number_at sag 0) (own_number_at sag 1) (own_number_at sag 2))

only_room : (room : ℕ) (v : SagVerdict) → OnlyRefused (sag_answered room v)
only_room room v = by (eqb room 56)
  where
    by : (t : Bool) → OnlyRefused (and_then (cond t (gives tt) (refuses 5 0)) (λ (given : Unit {0}). gives v))
    by true = tt
    by false = inr (inr (inr (refl, refl)))

module _ (row sag : List ℕ) (room : ℕ) where
  only : OnlyRefused (host_sag row sag room)
  only =
      only_then (judge_sag (read_sag_beam row) (read_host_sag sag)) (sag_answered room)
      (only_then (read_sag_beam row) _ (only_beam row) (λ b given. only_then (read_host_sag sag) _ (only_sag sag) (λ s asked. tt)))
      (λ v given. only_room room v)

  pub host_sag_refusals : (number cell : ℕ) → host_sag row sag room ≡ refuses number cell → HostSagRefused number cell
  host_sag_refusals number cell e = subst (λ (r : Result SagVerdict). OnlyRefused r) e only

  -- so they are numbered from 1 to 10, and none names a cell past the row's last
  pub sag_numbered : Numbered 1 10 (host_sag row sag room)
  sag_numbered = by (host_sag row sag room) only
    where
      by : (r : Result SagVerdict) → OnlyRefused r → Numbered 1 10 r
      by (gives v) here = tt
      by (refuses number cell) (inl h) = (omega (arith, h.0), h.1)
      by (refuses number cell) (inr (inl h)) = (omega (arith, h.0), omega (arith, h.1))
      by (refuses number cell) (inr (inr (inl h))) = (omega (arith, h.0), omega (arith, h.1))
      by (refuses number cell) (inr (inr (inr h))) = (omega (arith, h.0), omega (arith, h.1))

few : (v : SagVerdict) → sag_pass_or_fail v < 1000
few v = flag_few v.passes

-- a number from 1000 is a refusal's, and the answer is untouched
pub sag_was_refused : (row sag : List ℕ) (room : ℕ) → 1000 ≤ sag_returns row sag room → WasRefused 10 (host_sag row sag room) (sag_returns row sag room)
sag_was_refused row sag room above = from_1000 10 sag_pass_or_fail (host_sag row sag room) (λ v given. few v) (sag_numbered row sag room) above

pub sag_untouched : (row sag answer : List ℕ) → 1000 ≤ sag_returns row sag (length answer) → sag_leaves row sag answer ≡ answer
sag_untouched row sag answer = untouched sag_pass_or_fail sag_answer_bytes answer (host_sag row sag (length answer)) few

-- ---- their order

-- a refusal of reading the row stands, whatever the sag and the answer's length
pub reading_first : (row sag : List ℕ) (room number cell : ℕ) → read_host_row row ≡ refuses number cell → host_sag row sag room ≡ refuses number cell
reading_first row sag room number cell e = rw e

module _ (row sag : List ℕ) (room : ℕ) (cells : List Cell) (read : read_host_row row ≡ gives cells) where
  -- then a refusal of the row
  pub row_second : (number cell : ℕ) → accept cells ≡ refuses number cell → host_sag row sag room ≡ refuses number cell
  row_second number cell e = rw (read, e)

  -- then another kind than bending
  pub kind_third : (m : Member) → accept cells ≡ gives m → (m.kind ≡ Bending → ⊥) → host_sag row sag room ≡ refuses 9 1
  kind_third m e other = rw (read, e, not_bending m.kind (sag_beam_of m) other)

-- so what checking refuses is refused alike, whatever the sag and the answer's length
pub refused_as_in_checking : (row sag : List ℕ) (room number cell : ℕ) → and_then (read_host_row row) check_row ≡ refuses number cell → host_sag row sag room ≡ refuses number cell
refused_as_in_checking row sag room number cell = by (read_host_row row) refl
  where
    by : (r : Result (List Cell)) → read_host_row row ≡ r → and_then r check_row ≡ refuses number cell → host_sag row sag room ≡ refuses number cell
    by (gives cells) read e = row_second row sag room cells read number cell (judged_refused (accept cells) number cell e)
    by (refuses n c) read e = let same : refuses n c ≡ refuses number cell = e in reading_first row sag room number cell (read ∙ cc)

module _ (row sag : List ℕ) (room : ℕ) (b : SagBeam) (given : read_sag_beam row ≡ gives b) where
  -- then the sag, of another length than 27 bytes,
  pub another_sag_length : (length sag ≡ 27 → ⊥) → host_sag row sag room ≡ refuses 10 0
  another_sag_length other = rw (given, ne_eqb _ _ other)

  -- with a span, a moment or n that is blank or unreadable,
  pub missing_number : length sag ≡ 27
      → HoldsNone (read_cell (host_cell_at sag 0)) ⊎ (HoldsNone (read_cell (host_cell_at sag 9)) ⊎ HoldsNone (read_cell (host_cell_at sag 18)))
      → host_sag row sag room ≡ refuses 10 0
  missing_number long none =
      let missing : sag_cells sag ≡ refuses 10 0 = three_missing 10 (own_number_at sag 0) (own_number_at sag 1) (own_number_at sag 2) _ (three_none none) in
      rw (given, eq-eqb _ _ long, missing)

  -- or outside its range,
  pub number_outside : (s : Sag) → length sag ≡ 27 → own_number_at sag 0 ≡ Some s.span → own_number_at sag 1 ≡ Some s.moment → own_number_at sag 2 ≡ Some s.ratio
      → sag_in_range s ≡ false → host_sag row sag room ≡ refuses 10 0
  number_outside s long span moment ratio outside = rw (given, eq-eqb _ _ long, span, moment, ratio, outside)

  -- and last the answer, of another length than 56 bytes
  pub another_answer_length : (s : Sag) → read_host_sag sag ≡ gives s → (room ≡ 56 → ⊥) → host_sag row sag room ≡ refuses 5 0
  another_answer_length s asked other = rw (given, asked, ne_eqb room 56 other)

-- what is read is checked as `check_sag` says, and the answer's length tested then
pub entry_checks : (row sag : List ℕ) (room : ℕ) (cells : List Cell) (s : Sag) → read_host_row row ≡ gives cells → read_host_sag sag ≡ gives s
    → host_sag row sag room ≡ and_then (check_sag cells s) (sag_answered room)
entry_checks row sag room cells s read asked = rw (read, asked, (sag_read sag s asked).within)

-- ---- verdicts

-- bytes that hold a verdict: seven floats, each with exactly its value
pub record HoldsSagVerdict (bytes : List ℕ) (v : SagVerdict) : Type 0 where
  pub utilisation : HasValue (float_at bytes 0) false v.utilisation 1
  pub modulus : HasValue (float_at bytes 8) false v.modulus 1
  pub elastic_duration : HasValue (float_at bytes 16) false v.elastic_duration 1
  pub moisture : HasValue (float_at bytes 24) false v.moisture 1
  pub design_modulus : HasValue (float_at bytes 32) false v.design_modulus 1
  pub limit_moment : HasValue (float_at bytes 40) false v.limit_moment 1
  pub shear_factor : HasValue (float_at bytes 48) false v.shear_factor 1

verdict_held : (v : SagVerdict) → SmallFigures v → HoldsSagVerdict (sag_answer_bytes v) v
verdict_held v small =
    let numbers = sag_numbers v in
    record {
      utilisation = number_held numbers 0 (lit< tt) (omega (arith, small.utilisation));
      modulus = number_held numbers 1 (lit< tt) (omega (arith, small.modulus));
      elastic_duration = number_held numbers 2 (lit< tt) (omega (arith, small.elastic_duration));
      moisture = number_held numbers 3 (lit< tt) (omega (arith, small.moisture));
      design_modulus = number_held numbers 4 (lit< tt) (omega (arith, small.design_modulus));
      limit_moment = number_held numbers 5 (lit< tt) (omega (arith, small.limit_moment));
      shear_factor = number_held numbers 6 (lit< tt) (omega (arith, small.shear_factor));
    }

-- what a number below 1000 tells: the row was read and accepted, of kind 2, and has a beam; the sag was read from its 27 bytes; the answer has 56 bytes, and they hold the verdict
pub record SagWasJudged (row sag answer : List ℕ) : Type 0 where
  pub cells : List Cell
  pub beam : SagBeam
  pub asked : Sag
  pub read : read_host_row row ≡ gives cells
  pub is_of : BeamOf cells beam
  pub sag_held : SagRead sag asked
  pub beam_given : read_sag_beam row ≡ gives beam
  pub sag_given : read_host_sag sag ≡ gives asked
  pub long : length answer ≡ 56
  pub says : sag_returns row sag (length answer) ≡ sag_pass_or_fail (sag_verdict beam asked)
  pub holds : HoldsSagVerdict (sag_leaves row sag answer) (sag_verdict beam asked)

-- a number below 1000 is a verdict's
pub sag_was_judged : (row sag answer : List ℕ) → sag_returns row sag (length answer) < 1000 → SagWasJudged row sag answer
sag_was_judged row sag answer below = by_beam (read_sag_beam row) refl
  where
    -- no refusal is below 1000
    never : (number cell : ℕ) → host_sag row sag (length answer) ≡ refuses number cell → SagWasJudged row sag answer
    never number cell e =
        let here = subst (λ (r : Result SagVerdict). Numbered 1 10 r) e (sag_numbered row sag (length answer)) in
        absurd (omega (arith, subst (λ (r : Result SagVerdict). told sag_pass_or_fail r < 1000) e below, here.0.low))

    by_room : (b : SagBeam) (s : Sag) → read_sag_beam row ≡ gives b → read_host_sag sag ≡ gives s → (t : Bool) → eqb (length answer) 56 ≡ t → SagWasJudged row sag answer
    by_room b s given asked true room =
        let is = checked row sag answer b s given asked (eqb-true (length answer) 56 room) in
        let read = then_given (read_host_row row) accept_beam b given in
        record {
          cells = read.0;
          beam = b;
          asked = s;
          read = read.1;
          is_of = beam_of read.0 b read.2;
          sag_held = sag_read sag s asked;
          beam_given = given;
          sag_given = asked;
          long = eqb-true (length answer) 56 room;
          says = is.0;
          holds = rw is.1 (verdict_held (sag_verdict b s) (verdict_small (beam_within row b given) (read_within sag s asked)));
        }
    by_room b s given asked false room = never 5 0 (rw (given, asked, room))

    by_sag : (b : SagBeam) → read_sag_beam row ≡ gives b → (r : Result Sag) → read_host_sag sag ≡ r → SagWasJudged row sag answer
    by_sag b given (gives s) asked = by_room b s given asked (eqb (length answer) 56) refl
    by_sag b given (refuses number cell) asked = never number cell (rw (given, asked))

    by_beam : (r : Result SagBeam) → read_sag_beam row ≡ r → SagWasJudged row sag answer
    by_beam (gives b) given = by_sag b given (read_host_sag sag) refl
    by_beam (refuses number cell) given = never number cell (rw given)

module _ (row sag answer : List ℕ) where
  -- 0 returned: with nothing rounded the sag stays within its limit, and the bytes that the host holds are those of the verdict
  pub sag_zero_means : sag_returns row sag (length answer) ≡ 0 → (j : SagWasJudged row sag answer) × SagHolds j.beam j.asked (whole j.asked.moment)
  sag_zero_means z =
      let j = sag_was_judged row sag answer (omega (arith, z)) in
      let keeps = verdict_keeps (beam_within row j.beam j.beam_given) (read_within sag j.asked j.sag_given) sag_factor sag_factor_kept in
      (j, keeps.pass (flag_passed _ (sym j.says ∙ z)))

  -- 1 returned: with nothing rounded it does not at 1.005 times the moment
  pub sag_one_means : sag_returns row sag (length answer) ≡ 1 → (j : SagWasJudged row sag answer) × (SagHolds j.beam j.asked (scaled 1005 (whole j.asked.moment)) → ⊥)
  sag_one_means z =
      let j = sag_was_judged row sag answer (omega (arith, z)) in
      let keeps = verdict_keeps (beam_within row j.beam j.beam_given) (read_within sag j.asked j.sag_given) sag_factor sag_factor_kept in
      (j, keeps.fail (flag_failed _ (sym j.says ∙ z)))

-- ---- examples

-- the living room's bytes are read as its row and its sag, and as that with the least moment that fails
pub living_room_read : (read_host_row living_room_row_bytes ≡ gives living_room_row)
    × (read_host_sag living_room_sag_bytes ≡ gives living_room_sag)
    × (read_host_sag living_room_over_bytes ≡ gives (living_room_at 4095490))
unfolding lowest host_cells_at host_cell_at read_number read_fraction of_bits
living_room_read = (refl, refl, refl)

module _ (answer : List ℕ) (room : length answer ≡ 56) where
  -- so the entry passes the one, and the answer's bytes are those of its verdict
  pub living_room_passes : (sag_returns living_room_row_bytes living_room_sag_bytes (length answer) ≡ 0)
      × (sag_leaves living_room_row_bytes living_room_sag_bytes answer ≡ sag_answer_bytes living_room_verdict)
  living_room_passes = rw (room, living_room_read.0, living_room_read.1, beams_accepted.0) (refl, refl)

  -- and fails the other
  pub living_room_over_fails : sag_returns living_room_row_bytes living_room_over_bytes (length answer) ≡ 1
  living_room_over_fails = rw (room, living_room_read.0, living_room_read.2, beams_accepted.0) refl

  -- What is asked of the entry has teeth: it refutes any refusal of the living room's sag, and a fail of it, whatever bytes are left.
  pub host_refused : (returned : ℕ) (left : List ℕ) → 1000 ≤ returned → HostKeepsSagDemand living_room_row_bytes living_room_sag_bytes answer returned left sag_factor → ⊥
  host_refused returned left above keeps =
      let v = keeps living_room_beam living_room_sag (rw (living_room_read.0, beams_accepted.0)) living_room_read.1 room in
      omega (arith, above, v.1, few v.0)

  pub host_failed : (left : List ℕ) → HostKeepsSagDemand living_room_row_bytes living_room_sag_bytes answer 1 left sag_factor → ⊥
  host_failed left keeps =
      let v = keeps living_room_beam living_room_sag (rw (living_room_read.0, beams_accepted.0)) living_room_read.1 room in
      v.3.fail (flag_failed _ (sym v.1)) (lit≤ tt)
