-- What the entries return and leave, for each way that reading, checking, answering and packing can end.
-- Assumes nothing.
use Prim.Native.Nat.{ℕ}
use mathlib.Core.List.{List}
use mathlib.Core.Path.{◌≡◌, refl}
use lib.ListN.{length}
use Rattle.worksheet.specs.HostAnswer.{answer_room_result, answer_buffer}
use Rattle.worksheet.specs.HostRow.{read_host_row}
use Rattle.cells.specs.Refusal.{gives, refused_by, refusal_code}
use Rattle.cells.specs.declared.refusal.Refusal.{Refusal}
use Rattle.cells.specs.Row.{Cell}
use Rattle.member.specs.Verdict.{check_row}
use Rattle.member.specs.declared.verdict.Verdict.{Verdict}
use Rattle.packed.specs.Packing.{pack_result, pack_buffer}
use Rattle.worksheet.specs.Entries.{pass_or_fail, verdict_returns, verdict_leaves, check_returns, check_leaves, pack_returns, pack_leaves}

-- a verdict in an answer of another length, and of the right one
module _ (verdict : Verdict) (answer : List ℕ) where
  pub answer_refused : (refusal : Refusal) → answer_room_result (length answer) ≡ refused_by refusal
      → (refusal_code refusal ≡ verdict_returns (length answer) verdict)
      × (answer_buffer verdict.utilisation verdict.count verdict.check answer ≡ verdict_leaves verdict answer)
  answer_refused refusal e = rw e (refl, refl)

  pub answer_given : answer_room_result (length answer) ≡ gives tt
      → (pass_or_fail verdict ≡ verdict_returns (length answer) verdict)
      × (answer_buffer verdict.utilisation verdict.count verdict.check answer ≡ verdict_leaves verdict answer)
  answer_given e = rw e (refl, refl)

-- checking a row that is not read, one that is refused, and one that is judged
module _ (row answer : List ℕ) where
  pub check_unread : (refusal : Refusal) → read_host_row row ≡ refused_by refusal
      → (refusal_code refusal ≡ check_returns row (length answer)) × (answer ≡ check_leaves row answer)
  check_unread refusal e = rw e (refl, refl)

  pub check_refused : (cells : List Cell) (refusal : Refusal) → read_host_row row ≡ gives cells → check_row cells ≡ refused_by refusal
      → (refusal_code refusal ≡ check_returns row (length answer)) × (answer ≡ check_leaves row answer)
  check_refused cells refusal e f = rw (e, f) (refl, refl)

  pub check_judged : (cells : List Cell) (verdict : Verdict) → read_host_row row ≡ gives cells → check_row cells ≡ gives verdict
      → (verdict_returns (length answer) verdict ≡ check_returns row (length answer)) × (verdict_leaves verdict answer ≡ check_leaves row answer)
  check_judged cells verdict e f = rw (e, f) (refl, refl)

-- packing a row that is not read, one that is refused, and one that is packed
module _ (row buffer : List ℕ) where
  pub pack_unread : (refusal : Refusal) → read_host_row row ≡ refused_by refusal
      → (refusal_code refusal ≡ pack_returns row (length buffer)) × (buffer ≡ pack_leaves row buffer)
  pack_unread refusal e = rw e (refl, refl)

  pub pack_refused : (cells : List Cell) (refusal : Refusal) → read_host_row row ≡ gives cells → pack_result cells (length buffer) ≡ refused_by refusal
      → (refusal_code refusal ≡ pack_returns row (length buffer)) × (pack_buffer cells buffer ≡ pack_leaves row buffer)
  pack_refused cells refusal e f = rw (e, f) (refl, refl)

  pub pack_done : (cells : List Cell) (count : ℕ) → read_host_row row ≡ gives cells → pack_result cells (length buffer) ≡ gives count
      → (count ≡ pack_returns row (length buffer)) × (pack_buffer cells buffer ≡ pack_leaves row buffer)
  pack_done cells count e f = rw (e, f) (refl, refl)
