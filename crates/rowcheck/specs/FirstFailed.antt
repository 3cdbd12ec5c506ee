-- The first of layout and slenderness that fails: what the code finds before it looks at the joint's length and at strength.
-- Assumes nothing.
use Rattle.std.specs.Prelude.{cond, ◌||◌, List, [], ◌∷◌, Option, None, Some, leb}
use Rattle.member.specs.Checks.{check_number, omitted}
use Rattle.member.specs.Verdict.{holds}
use Rattle.member.specs.declared.check.Check.TheVariants.{YesNo as yes_no}
use Rattle.member.specs.declared.check.YesNoCheck.{YesNoCheck}
use Rattle.member.specs.declared.member.Member.{Member}

-- the first of these checks that is of layout or slenderness (1 to 3), that the row has and that fails
unfoldable pub first_failed : Member → List YesNoCheck → Option YesNoCheck
first_failed m [] = None
first_failed m (c ∷ checks) =
    cond (leb 4 (check_number (yes_no c)) || (omitted m (yes_no c) || holds m c)) (first_failed m checks) (Some c)
