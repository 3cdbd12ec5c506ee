-- Demand 3 for the host, at every factor from `kept_from` on.
-- Assumes nothing.
use Prim.Native.Nat.{ℕ}
use mathlib.Core.List.{List}
use mathlib.Core.Path.{◌≡◌, refl, ◌∙◌}
use lib.ListN.{length}
use Rattle.worksheet.specs.HostRow.{read_host_row}
use Rattle.cells.specs.Refusal.{gives}
use Rattle.worksheet.proofs.ReadRows.{row_as_read}
use Rattle.cells.specs.Row.{Cell}
use Rattle.member.specs.Acceptance.{accept}
use Rattle.member.specs.Demand3.{kept_from, EachFrom}
use Rattle.member.specs.Verdict.{verdict}
use Rattle.member.specs.declared.check.Check.{Check}
use Rattle.member.specs.declared.member.Member.{Member}
use Rattle.member.proofs.KeepsDemand3.{keeps_demand_3}
use Rattle.worksheet.specs.Entries.{pass_or_fail, verdict_bytes, check_returns, check_leaves, HostKeepsDemand3}

-- what checking gives for a row that is read and accepted, in an answer of 24 bytes
checked : (row answer : List ℕ) (cells : List Cell) (m : Member) → read_host_row row ≡ gives cells → accept cells ≡ gives m → length answer ≡ 24
    → (check_returns row (length answer) ≡ pass_or_fail (verdict m)) × (check_leaves row answer ≡ verdict_bytes (verdict m))
checked row answer cells m read given room = rw (read, given, room) (refl, refl)

-- what checking returns and leaves keeps demand 3
pub host_keeps_demand_3 : (row answer : List ℕ) (returned : ℕ) (left : List ℕ) → returned ≡ check_returns row (length answer) → left ≡ check_leaves row answer
    → (k : Check → ℕ) → EachFrom kept_from k → HostKeepsDemand3 row answer returned left k
host_keeps_demand_3 row answer returned left e b k big cells m read given room =
    let is = checked row answer cells m read given room in
    (verdict m, e ∙ is.0, b ∙ is.1, keeps_demand_3 cells m (row_as_read row cells read).long given k big)
