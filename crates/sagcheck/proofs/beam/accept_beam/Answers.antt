-- `accept_beam`: the member of an accepted row keeps the ranges of a sag's beam.
-- Assumes nothing.
use Rattle.std.proofs.Common.{◌≡◌, sym, rules, length}
use Rattle.cells.specs.Row.{cell_count, cells_of}
use Rattle.member.proofs.AcceptanceLaws.{accept_ranges}
use Rattle.sagrules.proofs.SagDemand.{member_ranges}
use Rattle.sagcheck.proofs.beam.accept_beam.Goals as goal

pub invariant_of-result : goal.invariant_of-result
invariant_of-result c =
    let whole : length (cells_of c.args.row) ≡ cell_count = search rules in
    record { ranges = rw (c.from.ensures, c.from-in-Bending.ensures) (member_ranges c.in_ok-m.m (accept_ranges (cells_of c.args.row) _ whole (sym c.in_ok-m.ensures)).sized) }
