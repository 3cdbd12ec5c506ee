-- `greater` meets its contract: the later is chosen only where its utilisation is greater.
-- Assumes nothing.
use Rattle.std.proofs.Common.{rules, arith, ◌≡◌, ◌∙◌, cond}
use Rattle.std.specs.Ordering.{nat_cmp, is_lt}
use Rattle.std.proofs.lemmas.Fn.{always_returns_same}
use Rattle.std.proofs.lemmas.Grind.{common_steps}
use Rattle.std.proofs.lemmas.Bool.Decides.{nat_tests}
use Rattle.member.specs.Verdict.{greater_of}
use Rattle.member.specs.declared.verdict.Governing.{Governing}
use Rattle.governing.proofs.verdicts.greater.Goals as goal

later : (x y : Governing) → cond (is_lt (nat_cmp x.utilisation y.utilisation)) y x ≡ greater_of x y
later x y = grind (arith, common_steps, nat_tests)

pub returns : goal.returns
returns c =
    c.max_by_key.ensures (λ (g : Governing). g.utilisation) (always_returns_same _ _ _ (λ a r f' called. search rules)) ∙ later c.args.x c.args.y
