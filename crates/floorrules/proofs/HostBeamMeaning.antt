-- What a host may conclude from the number that the floor-beam entry returned, and from the bytes that it left.
-- Assumes nothing.
use Prim.Native.Nat.{ℕ, ◌≤◌, ◌<◌}
use native.Mathlib.Omega.{arith}
use mathlib.Core.Bool.{Bool, true, false}
use mathlib.Core.List.{List}
use mathlib.Core.Logic.{◌⊎◌, inl, inr}
use mathlib.Core.Path.{◌≡◌, refl, sym, ap, ◌∙◌, subst}
use borrow.Author.Tests.{eqb-true, eq-eqb, ne_eqb}
use lib.Dec.{eqb, lit<}
use lib.Ieee.{of_bits}
use lib.Ieee.Exact.{HasValue}
use lib.ListN.{length, get_or}
use Rattle.std.specs.Prelude.{Option}
use Rattle.rounding.specs.Fraction.{◌≼◌}
use Rattle.cells.specs.HostBytes.{float_at}
use Rattle.cells.specs.Lowest.{lowest}
use Rattle.cells.specs.Refusal.{Result, gives, refuses, told}
use Rattle.sp64.specs.Capacity.{exact_shear_capacity}
use Rattle.sp64.specs.Strength.{exact_strength}
use Rattle.sp64.specs.declared.tables.Stress.TheVariants.{Shear}
use Rattle.member.specs.Member.{exact_mrof}
use Rattle.member.specs.Verdict.{verdict}
use Rattle.member.proofs.VerdictRange.{accepted_verdict_range}
use Rattle.worksheet.specs.HostRow.{host_cell_at}
use Rattle.worksheet.specs.Number.{read_number, read_fraction}
use Rattle.worksheet.specs.Reading.{read_cell}
use Rattle.worksheet.proofs.EntryMeaning.{WasRefused, from_1000, untouched, verdict_few, passed, not_passed}
use Rattle.worksheet.proofs.FloatsMeaning.{number_held}
use Rattle.worksheet.proofs.OwnCellMeaning.{HoldsNone, OneMissing, three_missing, three_none}
use Rattle.worksheet.proofs.ReadingMeaning.{bad_tag_unreadable, blank_whatever_follows}
use Rattle.worksheet.proofs.RefusalNumbers.{Numbered}
use Rattle.floorrules.specs.BeamRow.{beam_row}
use Rattle.floorrules.specs.FloorBeam.{besides, floor_beam}
use Rattle.floorrules.specs.HostBeam.{beam_cell_at, load_at, loading_of, host_loading, read_host_beam, beam_numbers, beam_bytes, check_read, host_floor_beam, beam_pass_or_fail, beam_returns, beam_leaves}
use Rattle.floorrules.specs.Loads.{mostly_lasting, regime_of, exact_moment_of, exact_shear_of}
use Rattle.floorrules.specs.WorkedBeams.{living_room, living_room_beam, living_room_verdict, living_room_bytes}
use Rattle.floorrules.specs.declared.answer.BeamVerdict.{BeamVerdict}
use Rattle.floorrules.specs.declared.beam.BeamCells.{BeamCells}
use Rattle.floorrules.specs.declared.beam.Loading.{Loading}
use Rattle.floorrules.proofs.BeamMeaning.{FloorJudged, floor_judged, pass_means, FailsAsNamed, fail_means}
use Rattle.floorrules.proofs.BeamRowLaws.{beam_whole}
use Rattle.floorrules.proofs.HostBeamLaws.{BeamRefused, OnlyRefused, beam_only, beam_numbered}
use Rattle.floorrules.proofs.LoadLaws.{moment_in, shear_in}
use Rattle.floorrules.proofs.WorkedLaws.{living_room_lem}

-- ---- verdicts

-- bytes that hold a verdict: six floats, each with exactly its value
pub record HoldsBeamVerdict (bytes : List ℕ) (v : BeamVerdict) : Type 0 where
  pub utilisation : HasValue (float_at bytes 0) false v.verdict.utilisation 1
  pub count : HasValue (float_at bytes 8) false v.verdict.count 1
  pub check : HasValue (float_at bytes 16) false v.verdict.check 1
  pub regime : HasValue (float_at bytes 24) false v.regime 1
  pub moment : HasValue (float_at bytes 32) false v.moment 1
  pub shear : HasValue (float_at bytes 40) false v.shear 1

-- the numbers of a verdict are small enough that a float holds each
pub record SmallNumbers (v : BeamVerdict) : Type 0 where
  pub utilisation : v.verdict.utilisation ≤ 9999999
  pub count : v.verdict.count ≤ 4192873
  pub check : v.verdict.check ≤ 11
  pub regime : v.regime ≤ 3
  pub moment : v.moment ≤ 5000000000
  pub shear : v.shear ≤ 1000000

pub judged_small : (l : Loading) (cells : BeamCells) (v : BeamVerdict) → FloorJudged l cells v → SmallNumbers v
judged_small l cells v j = subst SmallNumbers (sym j.is) few
  where
    regime_few : (t : Bool) → mostly_lasting l ≡ t → regime_of l ≤ 3
    regime_few true e = rw e (omega arith)
    regime_few false e = rw e (omega arith)

    few : SmallNumbers (besides l (verdict j.member))
    few =
        let range = accepted_verdict_range (beam_row l cells) j.member (beam_whole l cells) j.accepted in
        record {
          utilisation = range.utilisation;
          count = range.count;
          check = range.check.high;
          regime = regime_few (mostly_lasting l) refl;
          moment = (moment_in l j.within).high;
          shear = (shear_in l j.within).high;
        }

-- so the bytes of a verdict hold it
pub verdict_held : (v : BeamVerdict) → SmallNumbers v → HoldsBeamVerdict (beam_bytes v) v
verdict_held v few =
    let numbers = beam_numbers v in
    record {
      utilisation = number_held numbers 0 (lit< tt) (omega (arith, few.utilisation));
      count = number_held numbers 1 (lit< tt) (omega (arith, few.count));
      check = number_held numbers 2 (lit< tt) (omega (arith, few.check));
      regime = number_held numbers 3 (lit< tt) (omega (arith, few.regime));
      moment = number_held numbers 4 (lit< tt) (omega (arith, few.moment));
      shear = number_held numbers 5 (lit< tt) (omega (arith, few.shear));
    }

-- what a number below 1000 tells: the beam was read and judged, the answer has 48 bytes, and they hold the verdict
pub record BeamWasJudged (beam answer : List ℕ) : Type 0 where
  pub loading : Loading
  pub cells : BeamCells
  pub verdict : BeamVerdict
  pub read : read_host_beam beam ≡ gives (loading, cells)
  pub judged : FloorJudged loading cells verdict
  pub long : length answer ≡ 48
  pub says : beam_returns beam (length answer) ≡ beam_pass_or_fail verdict
  pub holds : HoldsBeamVerdict (beam_leaves beam answer) verdict

-- a number below 1000 is a verdict's
pub beam_was_judged : (beam answer : List ℕ) → beam_returns beam (length answer) < 1000 → BeamWasJudged beam answer
beam_was_judged beam answer below = by_read (read_host_beam beam) refl
  where
    -- no refusal is below 1000
    never : (number cell : ℕ) → host_floor_beam beam (length answer) ≡ refuses number cell → BeamWasJudged beam answer
    never number cell e =
        let here = subst (λ (r : Result BeamVerdict). Numbered 1 8 r) e (beam_numbered beam (length answer)) in
        absurd (omega (arith, subst (λ (r : Result BeamVerdict). told beam_pass_or_fail r < 1000) e below, here.0.low))

    by_room : (l : Loading) (cells : BeamCells) (v : BeamVerdict) → read_host_beam beam ≡ gives (l, cells) → floor_beam l cells ≡ gives v
        → (t : Bool) → eqb (length answer) 48 ≡ t → BeamWasJudged beam answer
    by_room l cells v e f true t =
        record {
          loading = l;
          cells = cells;
          verdict = v;
          read = e;
          judged = floor_judged l cells v f;
          long = eqb-true (length answer) 48 t;
          says = rw (e, f, t);
          holds = rw (e, f, t) (verdict_held v (judged_small l cells v (floor_judged l cells v f)));
        }
    by_room l cells v e f false t = never 5 0 (rw (e, f, t))

    by_floor : (l : Loading) (cells : BeamCells) → read_host_beam beam ≡ gives (l, cells) → (r : Result BeamVerdict) → floor_beam l cells ≡ r → BeamWasJudged beam answer
    by_floor l cells e (gives v) f = by_room l cells v e f (eqb (length answer) 48) refl
    by_floor l cells e (refuses number cell) f = never number cell (rw (e, f))

    by_read : (r : Result (Loading × BeamCells)) → read_host_beam beam ≡ r → BeamWasJudged beam answer
    by_read (gives (l, cells)) e = by_floor l cells e (floor_beam l cells) refl
    by_read (refuses number cell) e = never number cell (rw e)

module _ (beam answer : List ℕ) where
  -- 0 returned: checks 7 and 8 hold at the loads' M and Q with nothing rounded, and the bytes that the host holds are those of the verdict
  pub beam_zero_means : beam_returns beam (length answer) ≡ 0
      → (j : BeamWasJudged beam answer)
      × (exact_moment_of j.loading ≼ exact_mrof j.judged.member)
      × (exact_shear_of j.loading ≼ exact_shear_capacity j.judged.member.width j.judged.member.height (exact_strength Shear j.judged.member.material))
  beam_zero_means z =
      let j = beam_was_judged beam answer (omega (arith, z)) in
      let hold = pass_means j.loading j.cells j.verdict j.judged (passed j.verdict.verdict (sym j.says ∙ z)) in
      (j, hold.0, hold.1)

  -- 1 returned: the check that is named fails unrounded at 1.005 times the loads' M and Q
  pub beam_one_means : beam_returns beam (length answer) ≡ 1
      → (j : BeamWasJudged beam answer) × FailsAsNamed j.loading j.cells j.verdict j.judged
  beam_one_means z =
      let j = beam_was_judged beam answer (omega (arith, z)) in
      (j, fail_means j.loading j.cells j.verdict j.judged (not_passed j.verdict.verdict (sym j.says ∙ z)))

-- ---- refusals

-- a number from 1000 is a refusal's, 1 to 8
pub beam_was_refused : (beam : List ℕ) (room : ℕ) → 1000 ≤ beam_returns beam room → WasRefused 8 (host_floor_beam beam room) (beam_returns beam room)
beam_was_refused beam room above = from_1000 8 beam_pass_or_fail (host_floor_beam beam room) (λ v given. verdict_few v.verdict) (beam_numbered beam room) above

-- and the answer is untouched
pub beam_untouched : (beam answer : List ℕ) → 1000 ≤ beam_returns beam (length answer) → beam_leaves beam answer ≡ answer
beam_untouched beam answer = untouched beam_pass_or_fail beam_bytes answer (host_floor_beam beam (length answer)) (λ v. verdict_few v.verdict)

-- which refusals there are: 1, 5 or 8 with cell 0, or 1 to 4 with a cell that was typed
pub beam_refusals : (beam : List ℕ) (room number cell : ℕ) → host_floor_beam beam room ≡ refuses number cell → BeamRefused number cell
beam_refusals beam room number cell e = subst (λ (r : Result BeamVerdict). OnlyRefused r) e (beam_only beam room)

-- the answer's length is tested last: a refusal of the beam stands, whatever the answer's length
pub beam_length_last : (beam : List ℕ) (room number cell : ℕ) → check_read (read_host_beam beam) ≡ refuses number cell → host_floor_beam beam room ≡ refuses number cell
beam_length_last beam room number cell e = rw e

-- another length than 72 bytes is refusal 1, cell 0
pub another_beam_length : (beam : List ℕ) (room : ℕ) → (length beam ≡ 72 → ⊥) → host_floor_beam beam room ≡ refuses 1 0
another_beam_length beam room other = rw (ne_eqb _ _ other)

-- a load or span that is missing
pub one_missing : (a b c : Option ℕ) → OneMissing a b c → loading_of a b c ≡ refuses 8 0
one_missing a b c = three_missing 8 a b c _

-- in a beam of 72 bytes
module _ (beam : List ℕ) (room : ℕ) (whole : length beam ≡ 72) where
  -- loads and span come before the cells: their refusal stands, whatever the cells
  pub loads_before_cells : host_loading beam ≡ refuses 8 0 → host_floor_beam beam room ≡ refuses 8 0
  loads_before_cells e = rw (eq-eqb _ _ whole, e)

  -- a load or span that is blank or unreadable is refusal 8, cell 0
  pub missing_load : HoldsNone (read_cell (beam_cell_at beam 0)) ⊎ (HoldsNone (read_cell (beam_cell_at beam 1)) ⊎ HoldsNone (read_cell (beam_cell_at beam 2)))
      → host_floor_beam beam room ≡ refuses 8 0
  missing_load none = loads_before_cells (one_missing (load_at beam 0) (load_at beam 1) (load_at beam 2) (three_none none))

  -- so is a first byte of 0, whatever follows it, and one above 1: here of the first load
  pub blank_load : get_or beam 0 0 ≡ 0 → host_floor_beam beam room ≡ refuses 8 0
  blank_load e = missing_load (inl (inl (ap read_cell (blank_whatever_follows beam 0 e))))

  pub odd_load : 1 < get_or beam 0 0 → host_floor_beam beam room ≡ refuses 8 0
  odd_load above = missing_load (inl (inr (bad_tag_unreadable beam 0 (λ e. omega arith) (λ e. omega arith))))

-- ---- an example

-- the living room as 72 bytes is read as that beam, whatever the order of its columns in a sheet
pub living_room_read : read_host_beam living_room_bytes ≡ gives (living_room, living_room_beam)
unfolding host_cell_at read_number read_fraction of_bits lowest
living_room_read = refl

-- so the entry passes it, and the answer's bytes are those of its verdict
pub living_room_passes : (answer : List ℕ) → length answer ≡ 48
    → (beam_returns living_room_bytes (length answer) ≡ 0) × (beam_leaves living_room_bytes answer ≡ beam_bytes living_room_verdict)
living_room_passes answer room = rw (living_room_read, living_room_lem, room) (refl, refl)
