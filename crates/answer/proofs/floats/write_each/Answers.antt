-- `write_each` meets its contract: after i values the first 8 × i bytes are those of their floats.
-- Assumes nothing.
use Rattle.std.proofs.Common.{◌≡◌, refl, ◌∙◌, map, length, get_or, ◌+◌, ◌-◌, ◌*◌, arith, length-take, length-drop}
use Rattle.std.proofs.lemmas.List.{length-map}
use lib.Ieee.{nan, binary64, to_bits}
use borrow.Rule.Slice.PartMut.{same_len_mid}
use Rattle.cells.specs.HostBytes.{float_bytes}
use Rattle.worksheet.specs.HostAnswer.{floats_bytes}
use Rattle.answer.proofs.AnswerLaws.{le_bytes, floats_step, float_of_place}
use Rattle.answer.proofs.floats.write_each.Goals as goal

pub loop-i-init : goal.loop-i-init
unfolding floats_bytes
loop-i-init g c = record { whole = omega arith; kept = refl; bytes = refl }

pub loop-i-preserved : goal.loop-i-preserved
loop-i-preserved g c =
    let l = c.loop-i in
    let i = l.i in
    let values = c.args.values.now in
    let float = g.X.AsFloat.float in
    let as_many : length (map float values) ≡ length values = length-map values float in
    let kept = same_len_mid (8 * i) (8 * i + 8 - 8 * i) l.out c.copy_from_slice.new.self (c.copy_from_slice.ensures.len ∙ simp (length-take, length-drop) (omega arith)) in
    let written : c.copy_from_slice.new.self ≡ float_bytes (get_or (map float values) i nan) =
    cc (le_bytes (to_bits binary64 c.as_float-bits.result), float_of_place float values i c.index-values-i.result c.loop-i-test.true) in record {
      whole = omega arith;
      kept = omega arith;
      bytes = floats_step l.out _ (map float values) i (8 * i + 8 - 8 * i) (omega arith) (omega arith) l.invariant.bytes written;
    }
