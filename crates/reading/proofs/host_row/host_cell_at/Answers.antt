-- `host_cell_at` meets its contract: the first byte says which cell it is.
-- Assumes nothing.
use Rattle.std.proofs.Common.{◌≡◌, refl, ap, ◌∙◌, arith, ne_eqb, get_or}
use Rattle.std.specs.Float.{binary64}
use Rattle.std.specs.Float.Ieee.{of_bits}
use Rattle.worksheet.specs.HostRow.{host_cell_at}
use Rattle.worksheet.specs.declared.host_cell.HostCell.TheVariants.{Number}
use Rattle.reading.proofs.host_row.host_cell_at.Goals as goal

pub returns-in-0 : goal.returns-in-0
unfolding host_cell_at
returns-in-0 c = let e : get_or c.args.bytes.now c.args.at 0 ≡ 0 = omega arith in rw e

pub returns-in-1 : goal.returns-in-1
unfolding host_cell_at
returns-in-1 c =
    let e : get_or c.args.bytes.now c.args.at 0 ≡ 1 = omega arith in
    rw e (ap Number (c.f64_from_bits_with_nan.ensures ∙ ap (of_bits binary64) c.word_at.ensures))

pub returns-in_default : goal.returns-in_default
unfolding host_cell_at of_bits
returns-in_default c = rw (ne_eqb (get_or c.args.bytes.now c.args.at 0) 0 (λ e. omega arith), ne_eqb (get_or c.args.bytes.now c.args.at 0) 1 (λ e. omega arith)) refl
