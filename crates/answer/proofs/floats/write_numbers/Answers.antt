-- `write_numbers` meets its contract: each number is held without loss.
-- Assumes nothing.
use Rattle.std.proofs.Common.{ℕ, ◌^◌, ◌≤◌}
use Rattle.std.proofs.lemmas.List.Elements.{All-from_get_or}
use Rattle.answer.proofs.AnswerLaws.{lossless_at}
use Rattle.answer.proofs.floats.write_numbers.Goals as goal

pub write_each-requires : goal.write_each-requires
write_each-requires c = All-from_get_or (λ (n : ℕ). n ≤ 2 ^ 53) c.args.numbers.now 0 (λ i h. lossless_at c.args.numbers.now i c.requires h)
