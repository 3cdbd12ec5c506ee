-- `write_answer` meets its contract: the answer is three floats, and none is a NaN.
-- Assumes nothing.
use Rattle.std.proofs.Common.{sym, ap, ◌∙◌, subst, List, [], ◌∷◌, ℕ, length}
use Rattle.cells.specs.Refusal.{where_given}
use Rattle.worksheet.specs.HostAnswer.{NoNans, answer_room_result, answer_bytes}
use Rattle.worksheet.specs.declared.answer.HostAnswer.{HostAnswer}
use Rattle.worksheet.proofs.AnswerMeaning.{answer_is_floats}
use Rattle.answer.proofs.AnswerLaws.{answer_numbers}
use Rattle.answer.proofs.answer.write_answer.Goals as goal

pub returns-clause-buffer : goal.returns-clause-buffer
returns-clause-buffer c =
    let out = c.args.out.now in
    let bytes = answer_is_floats c.host_answer-answer.result ∙ ap answer_bytes c.host_answer-answer.ensures in
    c.write_floats.ensures.buffer ∙ ap (λ (bytes : List ℕ). where_given (answer_room_result (length out)) bytes out) bytes

pub write_floats-requires : goal.write_floats-requires
write_floats-requires c =
    subst
    (λ (answer : HostAnswer). NoNans (answer.utilisation ∷ answer.count ∷ answer.check ∷ []))
    (sym c.host_answer-answer.ensures)
    (answer_numbers c.args.utilisation c.args.count c.args.check c.ranges.utilisation.fits c.ranges.count.fits c.ranges.check.fits)
