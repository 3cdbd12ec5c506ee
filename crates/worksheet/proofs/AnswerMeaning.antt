-- What the answer's bytes mean: read as three floats, lowest byte first, they have the values of utilisation, count and check number; and they are written as any number of floats is.
-- Assumes nothing.
use mathlib.Core.Bool.{false}
use mathlib.Core.Path.{◌≡◌, refl, sym, ap, ◌∙◌}
use mathlib.Core.List.{List, [], ◌∷◌, ◌++◌, append-nil, append_assoc}
use Prim.Native.Nat.{ℕ}
use native.Mathlib.Omega.{arith}
use lib.Dec.{lit<}
use lib.Ieee.Exact.{HasValue}
use Rattle.cells.specs.HostBytes.{float_bytes, float_at, whole_float}
use Rattle.cells.proofs.FloatLaws.{whole_exact}
use Rattle.member.specs.declared.verdict.Verdict.{Verdict}
use Rattle.member.proofs.VerdictRange.{VerdictRange}
use Rattle.worksheet.specs.Entries.{verdict_bytes}
use Rattle.worksheet.specs.HostAnswer.{floats_bytes, floats_result, host_answer, answer_bytes, answer_room_result}
use Rattle.worksheet.specs.declared.answer.HostAnswer.{HostAnswer}
use Rattle.worksheet.proofs.FloatsMeaning.{float_in_place}

-- The answer is three floats, as any number of floats is written.
pub answer_is_floats : (answer : HostAnswer) → floats_bytes (answer.utilisation ∷ answer.count ∷ answer.check ∷ []) ≡ answer_bytes answer
unfolding floats_bytes
answer_is_floats answer =
    ap (λ (bytes : List ℕ). float_bytes answer.utilisation ++ (float_bytes answer.count ++ bytes)) (append-nil (float_bytes answer.check))
    ∙ sym (append_assoc (float_bytes answer.utilisation) (float_bytes answer.count) (float_bytes answer.check))

-- The answer's 24 bytes, as the host reads them: the floats at 0, 8 and 16.
pub answer_floats : (utilisation count check : ℕ)
    → (float_at (answer_bytes (host_answer utilisation count check)) 0 ≡ whole_float utilisation)
    × (float_at (answer_bytes (host_answer utilisation count check)) 8 ≡ whole_float count)
    × (float_at (answer_bytes (host_answer utilisation count check)) 16 ≡ whole_float check)
answer_floats utilisation count check =
    let numbers = utilisation ∷ count ∷ check ∷ [] in
    rw (← answer_is_floats (host_answer utilisation count check))
    (float_in_place numbers 0 (lit< tt), float_in_place numbers 1 (lit< tt), float_in_place numbers 2 (lit< tt))

-- bytes that hold a verdict: the floats at 0, 8 and 16 have exactly the values of its utilisation, its count and its check number
pub record HoldsVerdict (bytes : List ℕ) (v : Verdict) : Type 0 where
  pub utilisation : HasValue (float_at bytes 0) false v.utilisation 1
  pub count : HasValue (float_at bytes 8) false v.count 1
  pub check : HasValue (float_at bytes 16) false v.check 1

-- So the bytes of a verdict hold it: nothing of a number so small is lost in a float.
pub verdict_held : (v : Verdict) → VerdictRange v → HoldsVerdict (verdict_bytes v) v
verdict_held v range =
    let floats = answer_floats v.utilisation v.count v.check in
    record {
      utilisation = rw floats.0 (whole_exact v.utilisation (omega (arith, range.utilisation)));
      count = rw floats.1 (whole_exact v.count (omega (arith, range.count)));
      check = rw floats.2 (whole_exact v.check (omega (arith, range.check)));
    }

pub answer_has_three : (room : ℕ) → floats_result 3 room ≡ answer_room_result room
answer_has_three room = refl
