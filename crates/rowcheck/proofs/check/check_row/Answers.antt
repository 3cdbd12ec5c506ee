-- `check_row` meets its contract: an accepted row's member keeps its ranges, and what equals the definition keeps demand 3.
-- Assumes nothing.
use Rattle.std.specs.Prelude.{Ok}
use Rattle.std.proofs.Common.{◌≡◌, sym, ap, ◌∙◌, rules, lit≤, length}
use Rattle.cells.specs.Refusal.{gives, by_number}
use Rattle.cells.specs.Row.{cell_count, cells_of}
use Rattle.member.specs.Demand3.{demand_factor}
use Rattle.member.specs.Verdict.{judged, check_row}
use Rattle.member.proofs.AcceptanceLaws.{accept_ranges}
use Rattle.member.proofs.KeepsDemand3.{answer_keeps}
use Rattle.rowcheck.proofs.check.check_row.Goals as goal

pub invariant_of-judge : goal.invariant_of-judge
invariant_of-judge c =
    let whole : length (cells_of c.args.row) ≡ cell_count = search rules in
    record { ranges = accept_ranges (cells_of c.args.row) _ whole (sym c.in_ok-member.ensures) }

pub returns-clause-demand : goal.returns-clause-demand
returns-clause-demand c =
    let whole : length (cells_of c.args.row) ≡ cell_count = search rules in
    let says : by_number (Ok c.judge.result) ≡ check_row (cells_of c.args.row) = ap gives c.judge.ensures ∙ ap judged c.in_ok-member.ensures in
    answer_keeps (cells_of c.args.row) (Ok c.judge.result) whole says demand_factor (λ c. lit≤ tt)
