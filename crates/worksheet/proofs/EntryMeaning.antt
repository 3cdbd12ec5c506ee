-- What a host may conclude from the number that an entry returned.
-- Assumes nothing.
use Prim.Native.Nat.{ℕ, ◌+◌, ◌*◌, ◌/◌, ◌%◌, ◌≤◌, ◌<◌}
use mathlib.Core.Bool.{Bool, true, false, cond}
use mathlib.Core.List.{List}
use mathlib.Core.Logic.{◌⊎◌, inl, inr}
use mathlib.Core.Path.{◌≡◌, refl, sym, ap, ◌∙◌, subst}
use native.Mathlib.Omega.{arith}
use lib.Dec.{eqb, leb}
use lib.Ieee.Exact.{HasValue}
use lib.ListN.{length}
use borrow.Author.Tests.{leb-true, eqb-true}
use Rattle.rounding.specs.Range.{In}
use Rattle.worksheet.specs.HostRow.{read_host_row}
use Rattle.cells.specs.HostBytes.{float_at}
use Rattle.cells.specs.Refusal.{Result, gives, refuses, and_then, leaves, told}
use Rattle.cells.specs.Row.{cell_count, Cell}
use Rattle.worksheet.proofs.AnswerMeaning.{HoldsVerdict, verdict_held}
use Rattle.worksheet.proofs.ReadRows.{row_as_read}
use Rattle.member.specs.Acceptance.{accept}
use Rattle.member.specs.Checks.{Has, check_number}
use Rattle.member.specs.Demand3.{demand_factor}
use Rattle.member.specs.Unrounded.{forces_of, Holds}
use Rattle.member.specs.Verdict.{verdict, judged, check_row}
use Rattle.member.specs.declared.check.Check.{Check}
use Rattle.member.specs.declared.member.Member.{Member}
use Rattle.member.specs.declared.verdict.Verdict.{Verdict}
use Rattle.member.proofs.DemandMeaning.{fail_forces, failed}
use Rattle.member.proofs.KeepsDemand3.{demand_factor_kept, keeps_demand_3}
use Rattle.member.proofs.VerdictRange.{accepted_verdict_range}
use Rattle.packed.specs.Packing.{packed, pack_result, pack_buffer}
use Rattle.packed.specs.Unpacking.{unpacked}
use Rattle.packed.proofs.RoundTrip.{unpack_pack_buffer}
use Rattle.packed.proofs.Sizes.{size_of_row}
use Rattle.worksheet.specs.Entries.{answered, pass_or_fail, verdict_bytes, host_check, check_returns, check_leaves, host_pack, pack_returns, pack_leaves}
use Rattle.worksheet.proofs.RefusalNumbers.{Numbered, reading_numbered, accept_numbered, check_numbered, pack_numbered, none_wide}

-- ---- refusals

-- what a number from 1000 tells: the refusal, from 1 to the entry's greatest, whose number and cell it gives back
pub record WasRefused {A : Type 0} (greatest : ℕ) (result : Result A) (returned : ℕ) : Type 0 where
  pub number : ℕ
  pub cell : ℕ
  pub refused : result ≡ refuses number cell
  pub numbered : In 1 greatest number
  pub in_row : cell ≤ 22
  pub number_told : returned / 1000 ≡ number
  pub cell_told : returned % 1000 ≡ cell

-- it is a refusal's, where a value's number is below 1000
pub from_1000 : {A : Type 0} (greatest : ℕ) (value-number : A → ℕ) (result : Result A) → ((value : A) → result ≡ gives value → value-number value < 1000)
    → Numbered 1 greatest result → 1000 ≤ told value-number result → WasRefused greatest result (told value-number result)
from_1000 greatest value-number (gives value) few numbered above = absurd (omega (arith, few value refl, above))
from_1000 greatest value-number (refuses number cell) few numbered above =
    record {
      number = number;
      cell = cell;
      refused = refl;
      numbered = numbered.0;
      in_row = omega (arith, numbered.1);
      number_told = omega (arith, numbered.1);
      cell_told = omega (arith, numbered.1);
    }

-- and the lent bytes are untouched
pub untouched : {A : Type 0} (value-number : A → ℕ) (after : A → List ℕ) (before : List ℕ) (result : Result A) → ((value : A) → value-number value < 1000)
    → 1000 ≤ told value-number result → leaves result after before ≡ before
untouched value-number after before (gives value) few above = absurd (omega (arith, few value, above))
untouched value-number after before (refuses number cell) few above = refl

-- ---- checking

-- what a number below 1000 tells: the row was read, accepted and judged, the answer has 24 bytes, and they hold the verdict
pub record WasJudged (row answer : List ℕ) : Type 0 where
  pub cells : List Cell
  pub member : Member
  pub read : read_host_row row ≡ gives cells
  pub accepted : accept cells ≡ gives member
  pub long : length answer ≡ 24
  pub says : check_returns row (length answer) ≡ pass_or_fail (verdict member)
  pub holds : HoldsVerdict (check_leaves row answer) (verdict member)

-- a number below 1000 is a verdict's
pub was_judged : (row answer : List ℕ) → check_returns row (length answer) < 1000 → WasJudged row answer
was_judged row answer below = by_read (read_host_row row) refl below
  where
    room : ℕ
    room = length answer

    by_room : (cells : List Cell) (m : Member) → read_host_row row ≡ gives cells → accept cells ≡ gives m → (t : Bool) → eqb room 24 ≡ t → told pass_or_fail (and_then (cond t (gives tt) (refuses 5 0)) (λ (given : Unit {0}). gives (verdict m))) < 1000 → WasJudged row answer
    by_room cells m e a true t z =
        record {
          cells = cells;
          member = m;
          read = e;
          accepted = a;
          long = eqb-true room 24 t;
          says = rw (e, a, t);
          holds = rw (e, a, t) (verdict_held (verdict m) (accepted_verdict_range cells m (row_as_read row cells e).long a));
        }
    by_room cells m e a false t z = absurd (omega (arith, z))

    by_member : (cells : List Cell) → read_host_row row ≡ gives cells → (a : Result Member) → accept cells ≡ a → told pass_or_fail (and_then (judged a) (answered room)) < 1000 → WasJudged row answer
    by_member cells e (gives m) a z = by_room cells m e a (eqb room 24) refl z
    by_member cells e (refuses number cell) a z =
        let here = subst (λ (r : Result Member). Numbered 2 4 r) a (accept_numbered cells (row_as_read row cells e).long) in
        absurd (omega (arith, z, here.0.low))

    by_read : (r : Result (List Cell)) → read_host_row row ≡ r → told pass_or_fail (and_then (and_then r check_row) (answered room)) < 1000 → WasJudged row answer
    by_read (gives cells) e z = by_member cells e (accept cells) refl z
    by_read (refuses number cell) e z =
        let here = subst (λ (r : Result (List Cell)). Numbered 1 1 r) e (reading_numbered row) in
        absurd (omega (arith, z, here.0.low))

-- the answer's length is tested last: a refusal of the row stands, whatever the answer's length
pub length_last_lem : (row : List ℕ) (room number cell : ℕ) → and_then (read_host_row row) check_row ≡ refuses number cell → host_check row room ≡ refuses number cell
length_last_lem row room number cell e = rw e

-- the number for a pass or a fail is below 1000, and tells which it is
pub flag_few : (passes : Bool) → cond passes 0 1 < 1000
flag_few true = omega arith
flag_few false = omega arith

pub flag_passed : (passes : Bool) → ◌≡◌ {A = ℕ} (cond passes 0 1) 0 → passes ≡ true
flag_passed true z = refl
flag_passed false z = absurd (omega (arith, z))

pub flag_failed : (passes : Bool) → ◌≡◌ {A = ℕ} (cond passes 0 1) 1 → passes ≡ false
flag_failed true z = absurd (omega (arith, z))
flag_failed false z = refl

-- so a verdict's is
pub verdict_few : (v : Verdict) → pass_or_fail v < 1000
verdict_few v = flag_few v.passes

pub passed : (v : Verdict) → pass_or_fail v ≡ 0 → v.passes ≡ true
passed v = flag_passed v.passes

pub not_passed : (v : Verdict) → pass_or_fail v ≡ 1 → v.passes ≡ false
not_passed v = flag_failed v.passes

-- 0 returned: every check that the row has holds with nothing rounded, and the bytes that the host holds are those of the verdict
pub zero_means : (row answer : List ℕ) → check_returns row (length answer) ≡ 0
    → (j : WasJudged row answer) × ((c : Check) → Has j.member c → Holds j.member (forces_of j.member) c)
zero_means row answer z =
    let j = was_judged row answer (omega (arith, z)) in
    let demand = keeps_demand_3 j.cells j.member (row_as_read row j.cells j.read).long j.accepted demand_factor demand_factor_kept in
    (j, demand.pass (passed (verdict j.member) (sym j.says ∙ z)))

-- 1 returned: the check whose number the host reads at byte 16 is the row's and fails unrounded, with N, M and Q each times its factor unless it is of layout or slenderness
pub one_means : (row answer : List ℕ) → check_returns row (length answer) ≡ 1
    → (j : WasJudged row answer) × (c : Check) × Has j.member c × HasValue (float_at (check_leaves row answer) 16) false (check_number c) 1
    × (Holds j.member (fail_forces demand_factor (forces_of j.member) c) c → ⊥)
one_means row answer z =
    let j = was_judged row answer (omega (arith, z)) in
    let m = j.member in
    let v = verdict m in
    let demand = keeps_demand_3 j.cells m (row_as_read row j.cells j.read).long j.accepted demand_factor demand_factor_kept in
    let named = demand.named in
    let fails = not_passed v (sym j.says ∙ z) in (
      j,
      named.0,
      named.1,
      rw (← named.2) j.holds.check,
      failed m (forces_of m) v demand_factor demand named.0 named.1 (record { fails = fails; names = named.2 }),
    )

-- a number from 1000 is a refusal's
pub was_refused : (row : List ℕ) (room : ℕ) → 1000 ≤ check_returns row room → WasRefused 5 (host_check row room) (check_returns row room)
was_refused row room above = from_1000 5 pass_or_fail (host_check row room) (λ v given. verdict_few v) (check_numbered row room) above

-- a number from 1000: the answer is untouched
pub check_untouched : (row answer : List ℕ) → 1000 ≤ check_returns row (length answer) → check_leaves row answer ≡ answer
check_untouched row answer = untouched pass_or_fail verdict_bytes answer (host_check row (length answer)) verdict_few

-- ---- packing

-- packing what was read: the byte count where there is room, and otherwise refusal 5
read_packs : (row : List ℕ) (room : ℕ) (cells : List Cell) → read_host_row row ≡ gives cells
    → host_pack row room ≡ cond (leb (length (packed cells)) room) (gives (length (packed cells))) (refuses 5 0)
read_packs row room cells read = rw (read, none_wide row cells read)

-- a refusal of packing is 1, or 5 with cell 0: no value that was read is too wide
pub pack_refusals : (row : List ℕ) (room number cell : ℕ) → host_pack row room ≡ refuses number cell
    → (number ≡ 1) ⊎ ((number ≡ 5) × (cell ≡ 0))
pack_refusals row room number cell e = by (read_host_row row) refl
  where
    by_room : (size : ℕ) (t : Bool) → cond t (gives size) (refuses 5 0) ≡ refuses number cell → (number ≡ 1) ⊎ ((number ≡ 5) × (cell ≡ 0))
    by_room size true h = absurd (let z : ◌≡◌ {A = ℕ} 0 1 = cc in omega arith)
    by_room size false h = inr (cc, cc)

    by : (r : Result (List Cell)) → read_host_row row ≡ r → (number ≡ 1) ⊎ ((number ≡ 5) × (cell ≡ 0))
    by (gives cells) read = by_room (length (packed cells)) (leb (length (packed cells)) room) (sym (read_packs row room cells read) ∙ e)
    by (refuses n c) read =
        let one = subst (λ (r : Result (List Cell)). Numbered 1 1 r) read (reading_numbered row) in
        let same : refuses n c ≡ refuses number cell = sym (ap (λ (r : Result (List Cell)). and_then r (λ (cells : List Cell). pack_result cells room)) read) ∙ e in
        let a : n ≡ number = cc in
        inl (omega (arith, a, one.0.low, one.0.high))

-- what a number below 1000 tells: the row was read, and what the buffer now begins with unpacks to its cells and that byte count
pub record WasPacked (row buffer : List ℕ) : Type 0 where
  pub cells : List Cell
  pub read : read_host_row row ≡ gives cells
  pub comes_back : unpacked cell_count (pack_leaves row buffer) ≡ gives (cells, pack_returns row (length buffer))

-- a number below 1000 is a byte count
pub was_packed : (row buffer : List ℕ) → pack_returns row (length buffer) < 1000 → WasPacked row buffer
was_packed row buffer below = by (read_host_row row) refl
  where
    by_room : (cells : List Cell) → read_host_row row ≡ gives cells → (t : Bool) → leb (length (packed cells)) (length buffer) ≡ t → WasPacked row buffer
    by_room cells read true t =
        let back = unpack_pack_buffer cells buffer (none_wide row cells read) (leb-true _ _ t) in
        let counts : pack_returns row (length buffer) ≡ length (packed cells) = rw (read_packs row (length buffer) cells read, t) in
        record {
          cells = cells;
          read = read;
          comes_back =
              ap (λ (r : Result (List Cell)). unpacked cell_count (leaves r (λ (cells : List Cell). pack_buffer cells buffer) buffer)) read
              ∙ subst (λ (n : ℕ). unpacked n (pack_buffer cells buffer) ≡ gives (cells, length (packed cells))) (row_as_read row cells read).long back
              ∙ ap (λ (n : ℕ). gives (cells, n)) (sym counts);
        }
    by_room cells read false t =
        let code : pack_returns row (length buffer) ≡ 5000 = rw (read_packs row (length buffer) cells read, t) in
        absurd (omega (arith, below, code))

    by : (r : Result (List Cell)) → read_host_row row ≡ r → WasPacked row buffer
    by (gives cells) read = by_room cells read (leb (length (packed cells)) (length buffer)) refl
    by (refuses n c) read =
        let one = subst (λ (r : Result (List Cell)). Numbered 1 1 r) read (reading_numbered row) in
        let code : pack_returns row (length buffer) ≡ 1000 * n + c = rw read in
        absurd (omega (arith, below, code, one.0.low))

-- a number from 1000 is a refusal's
pub pack_was_refused : (row : List ℕ) (room : ℕ) → 1000 ≤ pack_returns row room → WasRefused 5 (host_pack row room) (pack_returns row room)
pack_was_refused row room above = from_1000 5 (λ (count : ℕ). count) (host_pack row room) few (pack_numbered row room) above
  where
    few : (count : ℕ) → host_pack row room ≡ gives count → count < 1000
    few count e = by (read_host_row row) refl
      where
        by_room : (size : ℕ) → size < 1000 → (t : Bool) → cond t (gives size) (refuses 5 0) ≡ gives count → count < 1000
        by_room size small true h = let same : size ≡ count = cc in omega (arith, small, same)
        by_room size small false h = absurd (let z : ◌≡◌ {A = ℕ} 0 1 = cc in omega arith)

        by : (r : Result (List Cell)) → read_host_row row ≡ r → count < 1000
        by (gives cells) read =
            let size = size_of_row cells (row_as_read row cells read).long in
            by_room (length (packed cells)) (omega (arith, size)) (leb (length (packed cells)) room) (sym (read_packs row room cells read) ∙ e)
        by (refuses n c) read =
            let other : refuses n c ≡ gives count = sym (ap (λ (r : Result (List Cell)). and_then r (λ (cells : List Cell). pack_result cells room)) read) ∙ e in
            absurd (let z : ◌≡◌ {A = ℕ} 0 1 = cc in omega arith)

-- a number from 1000: the buffer is untouched
pub pack_untouched : (row buffer : List ℕ) → 1000 ≤ pack_returns row (length buffer) → pack_leaves row buffer ≡ buffer
pack_untouched row buffer above = by (read_host_row row) refl
  where
    by_room : (cells : List Cell) → read_host_row row ≡ gives cells → (t : Bool) → leb (length (packed cells)) (length buffer) ≡ t → pack_leaves row buffer ≡ buffer
    by_room cells read true t =
        let counts : pack_returns row (length buffer) ≡ length (packed cells) = rw (read_packs row (length buffer) cells read, t) in
        absurd (omega (arith, above, counts, size_of_row cells (row_as_read row cells read).long))
    by_room cells read false t = rw (read, none_wide row cells read, t)

    by : (r : Result (List Cell)) → read_host_row row ≡ r → pack_leaves row buffer ≡ buffer
    by (gives cells) read = by_room cells read (leb (length (packed cells)) (length buffer)) refl
    by (refuses n c) read = rw read
