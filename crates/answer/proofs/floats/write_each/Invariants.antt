-- After i values the first 8 × i bytes are those of their floats.
-- Assumes nothing.
use Rattle.std.proofs.Common.{length, take, map, ◌*◌, ◌≡◌}
use Rattle.worksheet.specs.HostAnswer.{floats_bytes}
use Rattle.answer.proofs.floats.write_each.Given as goal

abbrev pub invariant-loop-i : goal.invariant-loop-i
invariant-loop-i g l = record {
  whole : length l.out ≡ 8 * length l.values;
  kept : length l.out ≡ length l.initial.out;
  bytes : take (8 * l.i) l.out ≡ floats_bytes (take l.i (map g.X.AsFloat.float l.values));
}
