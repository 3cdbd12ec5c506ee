-- What the host's entries return, and what they leave in the lent bytes.
-- Assumes nothing.
use Rattle.std.specs.Prelude.{ℕ, cond, List, ◌≡◌, length}
use Rattle.worksheet.specs.HostAnswer.{host_answer, answer_bytes, answer_room_result}
use Rattle.worksheet.specs.HostRow.{read_host_row}
use Rattle.cells.specs.Refusal.{Result, gives, and_then, leaves, told}
use Rattle.cells.specs.Row.{Cell}
use Rattle.member.specs.Acceptance.{accept}
use Rattle.member.specs.Demand3.{Demand3}
use Rattle.member.specs.Verdict.{check_row}
use Rattle.member.specs.declared.check.Check.{Check}
use Rattle.member.specs.declared.member.Member.{Member}
use Rattle.member.specs.declared.verdict.Verdict.{Verdict}
use Rattle.packed.specs.Packing.{pack_result, pack_buffer}

-- a verdict in an answer of `room` bytes: refused for another length than 24
abbrev pub answered : ℕ → Verdict → Result Verdict
answered room verdict = and_then (answer_room_result room) (λ (given : Unit {0}). gives verdict)

-- checking for the host: the row read, then checked, the answer's length tested last
abbrev pub host_check : List ℕ → ℕ → Result Verdict
host_check row room = and_then (and_then (read_host_row row) check_row) (answered room)

-- the number for a verdict: 0 for pass, 1 for fail
abbrev pub pass_or_fail : Verdict → ℕ
pass_or_fail v = cond v.passes 0 1

-- the bytes for a verdict: utilisation, count and check number as floats
abbrev pub verdict_bytes : Verdict → List ℕ
verdict_bytes v = answer_bytes (host_answer v.utilisation v.count v.check)

-- what is returned for a verdict and an answer of `room` bytes
abbrev pub verdict_returns : ℕ → Verdict → ℕ
verdict_returns room verdict = told pass_or_fail (answered room verdict)

-- the lent bytes after a verdict and an answer; untouched by a refusal
abbrev pub verdict_leaves : Verdict → List ℕ → List ℕ
verdict_leaves verdict answer = leaves (answered (length answer) verdict) verdict_bytes answer

-- what checking returns: 0 for pass, 1 for fail, or the refusal
abbrev pub check_returns : List ℕ → ℕ → ℕ
check_returns row room = told pass_or_fail (host_check row room)

-- the answer's bytes after checking: those of the verdict, or untouched by a refusal
abbrev pub check_leaves : List ℕ → List ℕ → List ℕ
check_leaves row answer = leaves (host_check row (length answer)) verdict_bytes answer

-- packing for the host: the row read, then packed
abbrev pub host_pack : List ℕ → ℕ → Result ℕ
host_pack row room = and_then (read_host_row row) (λ (cells : List Cell). pack_result cells room)

-- what packing returns: the byte count, or the refusal
abbrev pub pack_returns : List ℕ → ℕ → ℕ
pack_returns row room = told (λ (count : ℕ). count) (host_pack row room)

-- the lent bytes after packing: the packed row and then what was there; untouched by a refusal
abbrev pub pack_leaves : List ℕ → List ℕ → List ℕ
pack_leaves row buffer = leaves (read_host_row row) (λ (cells : List Cell). pack_buffer cells buffer) buffer

-- demand 3 of what checking returned and left: where the row is read, not refused, and the answer has 24 bytes, they are a verdict that keeps it
abbrev pub HostKeepsDemand3 : List ℕ → List ℕ → ℕ → List ℕ → (Check → ℕ) → Type 0
HostKeepsDemand3 row answer returned left k =
    (cells : List Cell) (m : Member)
    → read_host_row row ≡ gives cells
    → accept cells ≡ gives m
    → length answer ≡ 24
    → (v : Verdict) × (returned ≡ pass_or_fail v) × (left ≡ verdict_bytes v) × Demand3 m v k
