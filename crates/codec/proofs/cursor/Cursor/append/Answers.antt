-- `append` meets its contract: the number with the digits after it is a word.
-- Assumes nothing.
use mathlib.Core.Path.{refl}
use Rattle.packed.proofs.BitLaws.{bits_append}
use Rattle.codec.proofs.CursorLaws.{sum_lt, sum_fits, none_lost}
use Rattle.codec.proofs.cursor.Cursor.append.Goals as goal

pub overflow_add-self : goal.overflow_add-self
overflow_add-self c =
    let lost = none_lost c.args.self.now c.args.n c.args.digits c.requires.room c.requires.small in
    record { fits = rw lost (sum_fits c.args.self.now c.args.n c.args.digits c.requires.room c.requires.small) }

pub invariant_of-self : goal.invariant_of-self
invariant_of-self c =
    let lost = none_lost c.args.self.now c.args.n c.args.digits c.requires.room c.requires.small in
    record { low = rw lost (sum_lt c.args.self.now c.args.n c.args.digits c.requires.room c.requires.small); most = c.requires.room }

pub returns : goal.returns
returns c =
    let p = c.args.self.now in
    let lost = none_lost p c.args.n c.args.digits c.requires.room c.requires.small in
    record { at = refl; count = refl; bits = rw lost (bits_append p.count c.args.n p.waiting c.args.digits c.requires.small) }
