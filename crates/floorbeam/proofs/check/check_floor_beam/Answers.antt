-- `check_floor_beam` meets its contract: the row that is checked is the beam's, so its answer is the beam's, and what equals the definition keeps demand 3.
-- Assumes nothing.
use Rattle.std.specs.Prelude.{Ok}
use Rattle.std.proofs.Common.{rules, arith, lit≤, ◌≡◌}
use Rattle.std.proofs.lemmas.Grind.{common_steps}
use Rattle.floorrules.proofs.FloorDemand.{answer_keeps}
use Rattle.floorbeam.proofs.check.check_floor_beam.Goals as goal

pub returns-in_err-verdict-clause-demand : goal.returns-in_err-verdict-clause-demand
returns-in_err-verdict-clause-demand c = answer_keeps c.args.loading c.args.typed _ (search rules) _ (λ c. lit≤ tt)

pub returns-clause-result : goal.returns-clause-result
returns-clause-result c =
    let judged : c.check_row.result ≡ Ok c.in_ok-verdict.verdict = grind (arith, common_steps) in
    let says = rw (judged, c.bending_row-row.ensures) at c.check_row.ensures.result in
    rw (← c.in_ok-loads.ensures, ← c.regime-regime.ensures, ← c.moment-moment.ensures, ← c.shear-shear.ensures, ← says)

pub returns-clause-demand : goal.returns-clause-demand
returns-clause-demand c = answer_keeps c.args.loading c.args.typed _ (returns-clause-result c) _ (λ c. lit≤ tt)
