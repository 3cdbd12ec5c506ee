-- What a host may conclude from the number that the entry for strengths returned, and from the bytes that it left.
-- Assumes nothing.
use Prim.Native.Nat.{ℕ, ◌+◌, ◌≤◌, ◌<◌}
use mathlib.Core.Bool.{Bool, true, false}
use mathlib.Core.List.{List}
use mathlib.Core.Path.{◌≡◌, refl, sym, ap, ◌∙◌, subst}
use native.Mathlib.Omega.{arith}
use borrow.Author.Tests.{eqb-true, ne_eqb}
use lib.Dec.{eqb, lit<, lit≤}
use lib.Ieee.{of_bits}
use lib.Ieee.Exact.{HasValue}
use lib.ListN.{length, replicate}
use Rattle.cells.specs.HostBytes.{float_at}
use Rattle.cells.specs.Lowest.{lowest}
use Rattle.cells.specs.Refusal.{Result, gives, refuses, and_then, told}
use Rattle.cells.specs.Row.{Cell}
use Rattle.sp64.specs.Strength.{MaterialRanges, design_strength, strength_remainder}
use Rattle.sp64.specs.declared.strength.Material.{Material}
use Rattle.sp64.specs.declared.tables.Stress.{Stress}
use Rattle.sp64.specs.declared.tables.Stress.TheVariants.{Bending, Compression, Tension, Shear}
use Rattle.sp64.proofs.StrengthLaws.{strength_in_lem}
use Rattle.sp64.proofs.StrengthMeaning.{remainder_below}
use Rattle.member.specs.Acceptance.{accept_kind, accept}
use Rattle.member.specs.Verdict.{verdict, check_row}
use Rattle.member.specs.declared.member.Member.{Member}
use Rattle.member.specs.declared.verdict.Verdict.{Verdict}
use Rattle.cells.proofs.ResultLaws.{then_given}
use Rattle.member.proofs.AcceptanceLaws.{accept_ranges}
use Rattle.member.proofs.VerdictLaws.{judged_accepted, judged_refused}
use Rattle.worksheet.specs.Entries.{answered, pass_or_fail, check_returns}
use Rattle.worksheet.specs.HostAnswer.{floats_bytes, whole_floats}
use Rattle.worksheet.specs.HostRow.{host_cell_at, host_cells_at, read_host_row}
use Rattle.worksheet.specs.Number.{read_number, read_fraction}
use Rattle.worksheet.specs.Strengths.{always0, strength_numbers, strengths_bytes, strengths_answered, host_strengths, strengths_returns, strengths_leaves}
use Rattle.worksheet.specs.WorkedStrengths.{strengths_cells, strengths_row, strengths_of_row}
use Rattle.worksheet.proofs.EntryMeaning.{WasRefused, from_1000, untouched, verdict_few, length_last_lem, was_judged}
use Rattle.worksheet.proofs.FloatsMeaning.{number_held}
use Rattle.worksheet.proofs.ReadRows.{row_as_read}
use Rattle.worksheet.proofs.RefusalNumbers.{Numbered, then_numbered, wide_numbered, reading_numbered, accept_numbered, floats_numbered}

-- ---- strengths

-- two floats from a place on: the strength of a stress and its remainder, each with exactly its value
pub record HoldsStrength (bytes : List ℕ) (at : ℕ) (stress : Stress) (m : Material) : Type 0 where
  pub strength : HasValue (float_at bytes at) false (design_strength stress m) 1
  pub remainder : HasValue (float_at bytes (at + 8)) false (strength_remainder stress m) 1

-- bytes that hold the strengths of a material
pub record HoldsStrengths (bytes : List ℕ) (m : Material) : Type 0 where
  pub bending : HoldsStrength bytes 0 Bending m
  pub compression : HoldsStrength bytes 16 Compression m
  pub tension : HoldsStrength bytes 32 Tension m
  pub shear : HoldsStrength bytes 48 Shear m

-- the answer's bytes hold them
pub strengths_held : (m : Material) → MaterialRanges m → HoldsStrengths (strengths_bytes m) m
strengths_held m known =
    let numbers = strength_numbers m in
    record {
      bending = record { strength = number_held numbers 0 (lit< tt) (omega (arith, strength_in_lem known Bending)); remainder = number_held numbers 1 (lit< tt) (omega (arith, remainder_below Bending m)) };
      compression = record { strength = number_held numbers 2 (lit< tt) (omega (arith, strength_in_lem known Compression)); remainder = number_held numbers 3 (lit< tt) (omega (arith, remainder_below Compression m)) };
      tension = record { strength = number_held numbers 4 (lit< tt) (omega (arith, strength_in_lem known Tension)); remainder = number_held numbers 5 (lit< tt) (omega (arith, remainder_below Tension m)) };
      shear = record { strength = number_held numbers 6 (lit< tt) (omega (arith, strength_in_lem known Shear)); remainder = number_held numbers 7 (lit< tt) (omega (arith, remainder_below Shear m)) };
    }

-- what 0 tells: the row was read and accepted, the answer has 64 bytes, and they hold the strengths of its material
pub record WereGiven (row answer : List ℕ) : Type 0 where
  pub cells : List Cell
  pub member : Member
  pub read : read_host_row row ≡ gives cells
  pub accepted : accept cells ≡ gives member
  pub long : length answer ≡ 64
  pub holds : HoldsStrengths (strengths_leaves row answer) member.material

-- ---- refusals

-- each is numbered from 1 to 5, and names no cell past the last
pub strengths_numbered : (row : List ℕ) (room : ℕ) → Numbered 1 5 (host_strengths row room)
strengths_numbered row room =
    then_numbered 1 5 (and_then (read_host_row row) accept) _
    (then_numbered 1 5 (read_host_row row) accept (wide_numbered 1 5 (read_host_row row) (lit≤ tt) (lit≤ tt) (reading_numbered row))
    (λ cells read. wide_numbered 1 5 (accept cells) (lit≤ tt) (lit≤ tt) (accept_numbered cells (row_as_read row cells read).long)))
    (λ m given. wide_numbered 1 5 (strengths_answered room m.material) (lit≤ tt) (lit≤ tt) (floats_numbered 8 room m.material))

-- a number from 1000 is a refusal's, and the answer is untouched
pub strengths_were_refused : (row : List ℕ) (room : ℕ) → 1000 ≤ strengths_returns row room → WasRefused 5 (host_strengths row room) (strengths_returns row room)
strengths_were_refused row room = from_1000 5 always0 (host_strengths row room) (λ m given. lit< tt) (strengths_numbered row room)

pub strengths_untouched : (row answer : List ℕ) → 1000 ≤ strengths_returns row (length answer) → strengths_leaves row answer ≡ answer
strengths_untouched row answer = untouched always0 strengths_bytes answer (host_strengths row (length answer)) (λ m. lit< tt)

-- ---- as in checking

-- a row that the check refuses is refused alike, whatever the answer's length
pub refused_as_in_checking : (row : List ℕ) (room number cell : ℕ) → and_then (read_host_row row) check_row ≡ refuses number cell → host_strengths row room ≡ refuses number cell
refused_as_in_checking row room number cell = by (read_host_row row)
  where
    by : (r : Result (List Cell)) → and_then r check_row ≡ refuses number cell → and_then (and_then r accept) (λ (m : Member). strengths_answered room m.material) ≡ refuses number cell
    by (gives cells) e = rw (judged_refused (accept cells) number cell e)
    by (refuses n c) e = cc

-- a row that the check judges has strengths: in 64 bytes, and in no other length
judged_so : (row : List ℕ) (room : ℕ) (v : Verdict) → and_then (read_host_row row) check_row ≡ gives v → (m : Material) × (host_strengths row room ≡ strengths_answered room m)
judged_so row room v e =
    let read = then_given (read_host_row row) check_row v e in
    let was = judged_accepted (accept read.0) v read.2 in
    (was.0.material, by read.0 was.0 read.1 was.1)
  where
    by : (cells : List Cell) (m : Member) → read_host_row row ≡ gives cells → accept cells ≡ gives m → host_strengths row room ≡ strengths_answered room m.material
    by cells m e a = rw (e, a)

pub judged_in_64 : (row : List ℕ) (v : Verdict) → and_then (read_host_row row) check_row ≡ gives v → strengths_returns row 64 ≡ 0
judged_in_64 row v e = ap (told always0) (judged_so row 64 v e).1

pub judged_in_another : (row : List ℕ) (room : ℕ) (v : Verdict) → and_then (read_host_row row) check_row ≡ gives v → (room ≡ 64 → ⊥) → strengths_returns row room ≡ 5000
judged_in_another row room v e other =
    let so = judged_so row room v e in
    ap (told always0) so.1 ∙ rw (ne_eqb room 64 other)

-- by the numbers that a host holds: checking in 24 bytes returns a refusal, and strengths return the same one, or a verdict, and strengths in 64 bytes return 0
pub told_as_in_checking : (row : List ℕ) (room : ℕ) → 1000 ≤ check_returns row 24 → strengths_returns row room ≡ check_returns row 24
told_as_in_checking row room = by (and_then (read_host_row row) check_row) refl
  where
    by : (r : Result Verdict) → and_then (read_host_row row) check_row ≡ r → 1000 ≤ check_returns row 24 → strengths_returns row room ≡ check_returns row 24
    by (gives v) e above = absurd (omega (arith, verdict_few v, subst (λ (r : Result Verdict). 1000 ≤ told pass_or_fail (and_then r (answered 24))) e above))
    by (refuses number cell) e above = ap (told always0) (refused_as_in_checking row room number cell e) ∙ sym (ap (told pass_or_fail) (length_last_lem row 24 number cell e))

pub given_as_in_checking : (row : List ℕ) → check_returns row 24 < 1000 → strengths_returns row 64 ≡ 0
given_as_in_checking row below =
    let answer = replicate {A = ℕ} 24 0 in
    let j = was_judged row answer below in
    judged_in_64 row (verdict j.member) (rw (j.read, j.accepted))

-- ---- 0

-- 0 returned: the strengths were given
pub strengths_zero_means : (row answer : List ℕ) → strengths_returns row (length answer) ≡ 0 → WereGiven row answer
strengths_zero_means row answer zero = by_read (read_host_row row) refl
  where
    -- a refusal returns 1000 at least
    never : (number cell : ℕ) → host_strengths row (length answer) ≡ refuses number cell → WereGiven row answer
    never number cell e =
        let here = subst (λ (r : Result Material). Numbered 1 5 r) e (strengths_numbered row (length answer)) in
        absurd (omega (arith, subst (λ (r : Result Material). told always0 r ≡ 0) e zero, here.0.low))

    by_room : (cells : List Cell) (m : Member) → read_host_row row ≡ gives cells → accept cells ≡ gives m → (t : Bool) → eqb (length answer) 64 ≡ t → WereGiven row answer
    by_room cells m e a true t =
        let known = (accept_ranges cells m (row_as_read row cells e).long a).sized.material in
        record {
          cells = cells;
          member = m;
          read = e;
          accepted = a;
          long = eqb-true (length answer) 64 t;
          holds = rw (e, a, t) (strengths_held m.material known);
        }
    by_room cells m e a false t = never 5 0 (rw (e, a, t))

    by_member : (cells : List Cell) → read_host_row row ≡ gives cells → (r : Result Member) → accept cells ≡ r → WereGiven row answer
    by_member cells e (gives m) a = by_room cells m e a (eqb (length answer) 64) refl
    by_member cells e (refuses number cell) a = never number cell (rw (e, a))

    by_read : (r : Result (List Cell)) → read_host_row row ≡ r → WereGiven row answer
    by_read (gives cells) e = by_member cells e (accept cells) refl
    by_read (refuses number cell) e = never number cell (rw e)

-- every other number is from 1000
pub zero_or_refused : (row : List ℕ) (room : ℕ) → strengths_returns row room < 1000 → strengths_returns row room ≡ 0
zero_or_refused row room = by (host_strengths row room) (strengths_numbered row room)
  where
    by : (r : Result Material) → Numbered 1 5 r → told always0 r < 1000 → told always0 r ≡ 0
    by (gives m) numbered below = refl
    by (refuses number cell) numbered below = absurd (omega (arith, numbered.0.low))

-- ---- a row worked by hand

-- its bytes are read as its cells
pub strengths_row_read : read_host_row strengths_row ≡ gives strengths_cells
unfolding lowest host_cells_at host_cell_at read_number read_fraction of_bits
strengths_row_read = refl

-- so it is given its strengths, and they are these
pub worked_strengths : (answer : List ℕ) → length answer ≡ 64 → (strengths_returns strengths_row (length answer) ≡ 0) × (strengths_leaves strengths_row answer ≡ floats_bytes (whole_floats strengths_of_row))
unfolding lowest accept_kind
worked_strengths answer room = rw (room, strengths_row_read) (refl, refl)
