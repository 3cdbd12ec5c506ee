-- `unpack_row` meets its contract: the first `cell_count` cells of a row are all its cells, and every element of a lent slice is a byte.
-- Assumes nothing.
use Rattle.codec.proofs.UnpackLaws.{whole_row}
use Rattle.codec.proofs.unpack.unpack_row.Goals as goal

pub returns : goal.returns
returns c =
    let u = c.unpack_cells.ensures in
    let e = whole_row c.args.bytes.now (λ i. (c.type_inv.bytes i).fits) c.unpack_cells.result u.result u.whole in
    record { result = e.0; whole = e.1; back = e.2 }
