-- The loop of `lowest_in`: what is left to search, from the place that it has come to, has the lowest cell of the part.
-- Assumes nothing.
use Rattle.std.proofs.Common.{◌≡◌, ℕ, Bool}
use Rattle.cells.specs.Row.{Cell}
use Rattle.acceptance.specs.Search.{search_between, Tests}
use Rattle.acceptance.proofs.searches.lowest_in.Given as goal

abbrev pub invariant-loop-i : goal.invariant-loop-i
invariant-loop-i g l =
    (rule : ℕ → Cell → Bool) → Tests g.F.Fn l.test rule → search_between rule l.row.cells l.fn.part.start l.fn.part.end ≡ search_between rule l.row.cells l.i l.fn.part.end
