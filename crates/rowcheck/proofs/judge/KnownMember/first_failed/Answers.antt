-- `first_failed` meets its contract: each way out says what the tests before it found.
-- Assumes nothing.
use Rattle.std.proofs.Common.{rules, sym, ◌∙◌}
use Rattle.rowcheck.proofs.JudgeLaws.{jointed_of, layout_first, no_slenderness, slender_first}
use Rattle.rowcheck.proofs.judge.KnownMember.first_failed.Goals as goal

pub returns-then-not-is_laid_out : goal.returns-then-not-is_laid_out
returns-then-not-is_laid_out c =
    let fails = sym c.is_laid_out.ensures ∙ c.if-not-is_laid_out.true in
    layout_first _ (c.args.self.ranges.tension (jointed_of c.args.self.member fails)) fails

pub returns-then-not-is_required : goal.returns-then-not-is_required
returns-then-not-is_required c = no_slenderness _ (sym c.is_required.ensures ∙ c.if-not-is_required.true)

pub returns-in_err-across : goal.returns-in_err-across
returns-in_err-across c =
    let found =
    slender_first c.args.self.member c.strut_across-height.ensures c.strut_across.ensures c.first_too_slender.ensures
    (sym c.is_required.ensures ∙ c.if-not-is_required.false) (sym c.is_laid_out.ensures ∙ c.if-not-is_laid_out.false) in
    search rules

pub returns : goal.returns
returns c =
    let found =
    slender_first c.args.self.member c.strut_across-height.ensures c.strut_across.ensures c.first_too_slender.ensures
    (sym c.is_required.ensures ∙ c.if-not-is_required.false) (sym c.is_laid_out.ensures ∙ c.if-not-is_laid_out.false) in
    search rules
