-- `pack_cells` meets its contract: what `measure` found decides between refusal 4, refusal 5 and writing the cells.
-- Assumes nothing.
use mathlib.Core.Path.{◌≡◌, sym}
use Rattle.std.proofs.Common.{arith}
use Rattle.packed.specs.Packing.{bytes_for}
use Rattle.codec.proofs.PackLaws.{pack_short, pack_done}
use Rattle.codec.proofs.pack.pack_cells.Goals as goal

pub returns-then-buffer-size : goal.returns-then-buffer-size
returns-then-buffer-size c =
    let e = pack_short _ _ _ c.in_ok-bits.ensures (omega arith) in
    record { result = sym e; buffer = rw e }

pub returns-clause-result : goal.returns-clause-result
returns-clause-result c =
    let size : c.div_ceil-size.result ≡ bytes_for c.in_ok-bits.bits = omega (arith, c.div_ceil-size.ensures) in
    rw size (sym (pack_done _ _ _ c.in_ok-bits.ensures (omega arith)))
