-- `accept_kind` meets its contract: each refusal is that of the first rule that a cell breaks.
-- Assumes nothing.
use Rattle.std.proofs.Common.{sym, ap, ◌∙◌}
use Rattle.cells.specs.Refusal.{gives}
use Rattle.member.proofs.AcceptanceLaws.{fill_refused, code_refused, range_refused, none_refused}
use Rattle.acceptance.proofs.SearchLaws.{found_some, found_none}
use Rattle.acceptance.proofs.accept.accept_kind.Goals as goal

pub returns-in-Some : goal.returns-in-Some
returns-in-Some c =
    let cell = found_some c.lowest_misfilled.ensures c.in-Some.is in
    sym (fill_refused _ _ c.is_begun-begun.ensures cell.0 cell.1)

pub returns-in-Some-lowest_unknown : goal.returns-in-Some-lowest_unknown
returns-in-Some-lowest_unknown c =
    let cell = found_some c.lowest_unknown.ensures c.in-Some-lowest_unknown.is in
    sym (code_refused _ _ c.is_begun-begun.ensures (found_none c.lowest_misfilled.ensures c.in_default.is) cell.0 cell.1)

pub returns-in-Some-lowest_outside : goal.returns-in-Some-lowest_outside
returns-in-Some-lowest_outside c =
    let cell = found_some c.lowest_outside.ensures c.in-Some-lowest_outside.is in
    sym (
    range_refused _ _ c.is_begun-begun.ensures
    (found_none c.lowest_misfilled.ensures c.in_default.is)
    (found_none c.lowest_unknown.ensures c.in_default-lowest_unknown.is)
    cell.0
    cell.1
    )

pub returns : goal.returns
returns c =
    ap gives c.member_of.ensures
    ∙ sym (
    none_refused _ _ c.is_begun-begun.ensures
    (record {
      fill = found_none c.lowest_misfilled.ensures c.in_default.is;
      code = found_none c.lowest_unknown.ensures c.in_default-lowest_unknown.is;
      range = found_none c.lowest_outside.ensures c.in_default-lowest_outside.is;
    })
    )
