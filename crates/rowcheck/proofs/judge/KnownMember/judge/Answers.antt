-- `judge` meets its contract: the first of layout and slenderness that fails gives the verdict; where none does, the joint or strength gives it.
-- Assumes nothing.
use Rattle.std.proofs.Common.{sym, ap, ◌∙◌}
use Rattle.member.specs.Verdict.{by_strength, failed_on}
use Rattle.rowcheck.proofs.JudgeLaws.{first_gives, joint_left, layout_held, strength_left}
use Rattle.rowcheck.proofs.judge.KnownMember.judge.Goals as goal

pub returns-in-Some : goal.returns-in-Some
returns-in-Some c = c.failed_on.ensures ∙ ap (λ check. failed_on check 0) c.number.ensures ∙ first_gives _ (sym c.in-Some.is ∙ c.first_failed.ensures)

pub judge_joint-requires-clause-layout : goal.judge_joint-requires-clause-layout
judge_joint-requires-clause-layout c =
    layout_held _ (sym c.in_default.is ∙ c.first_failed.ensures) (c.args.self.ranges.tension c.if-self.true) c.if-self.true

pub returns-then-self : goal.returns-then-self
returns-then-self c =
    c.judge_joint.ensures ∙ joint_left _ (sym c.in_default.is ∙ c.first_failed.ensures) (c.args.self.ranges.tension c.if-self.true)

pub returns-else-self : goal.returns-else-self
returns-else-self c =
    c.by_strength.ensures
    ∙ ap (λ g. by_strength g 0) c.governing_check.ensures
    ∙ strength_left _ (sym c.in_default.is ∙ c.first_failed.ensures) c.if-self.false
