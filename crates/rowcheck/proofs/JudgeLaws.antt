-- What a check says of the verdict, by what the code finds for it.
-- Assumes nothing.
use mathlib.Core.Path.{◌≡◌, refl, sym, ap, ap₂, ◌∙◌}
use mathlib.Core.Bool.{Bool, true, false, not, cond, ◌||◌, true≢false}
use mathlib.Core.List.{List, [], ◌∷◌, ◌++◌}
use Rattle.std.specs.Prelude.{Option, None, Some, option_map}
use lib.Dec.{leb, leb-zero}
use borrow.Author.Tests.{not-true, not-false, leb-true}
use Rattle.cells.specs.Greatest.{or_greater, greatest}
use Rattle.sp64.specs.Joint.{Layout}
use Rattle.sp64.specs.Slenderness.{slenderness_holds}
use Rattle.sp64.specs.declared.strut.Strut.{Strut}
use Rattle.member.specs.Cells.{required}
use Rattle.member.specs.Checks.{check_number, without_check3, yes_no_checks, strength_checks, omitted}
use Rattle.member.specs.Member.{strut_of, limit_of, count_of}
use Rattle.member.specs.Verdict.{holds, utilisation_of, used, greater_of, governed_by, has_strength, governing, judge_by, failed_on, by_strength, verdict}
use Rattle.member.specs.declared.check.Across.{Across}
use Rattle.member.specs.declared.check.Across.TheVariants.{Height as across_height, Width as across_width}
use Rattle.member.specs.declared.check.Check.TheVariants.{YesNo as yes_no, Strength as strength}
use Rattle.member.specs.declared.check.StrengthCheck.{StrengthCheck}
use Rattle.member.specs.declared.check.YesNoCheck.{YesNoCheck}
use Rattle.member.specs.declared.check.YesNoCheck.TheVariants.{Layout as layout, Slenderness as slenderness, JointLength as joint_length}
use Rattle.member.specs.declared.kind.Kind.{Kind}
use Rattle.member.specs.declared.kind.Kind.TheVariants.{Tension, Bending, Compression, CompressionBending, TensionBending}
use Rattle.member.specs.declared.member.Member.{Member}
use Rattle.member.specs.declared.verdict.Governing.{Governing}
use Rattle.member.specs.declared.verdict.Verdict.{Verdict}
use Rattle.rowcheck.specs.FirstFailed.{first_failed}

-- Layout and slenderness, of which the code finds the first that fails.
module _ (m : Member) where
  abbrev struts : List YesNoCheck
  struts = slenderness across_height ∷ slenderness across_width ∷ []

  -- the code's test of check 1, and what it finds for checks 2 and 3 with the struts s and t
  abbrev pub layout_passed : Bool
  layout_passed = omitted m (yes_no layout) || holds m layout

  abbrev too_slender : Strut → Strut → Option Across
  too_slender s t = cond (slenderness_holds (limit_of m) s) (cond (without_check3 m.table16 || slenderness_holds (limit_of m) t) None (Some across_width)) (Some across_height)

  -- where check 1 fails there is a joint
  pub jointed_of : layout_passed ≡ false → m.jointed ≡ true
  jointed_of = by m.jointed refl
    where
      by : (t : Bool) → m.jointed ≡ t → layout_passed ≡ false → t ≡ true
      by true j fails = refl
      by false j fails = absurd (true≢false (rw j at fails))

  -- check 1 fails: the row is of kind 1, which has it first
  pub layout_first : m.kind ≡ Tension → layout_passed ≡ false → Some layout ≡ first_failed m (yes_no_checks m.kind)
  unfolding first_failed
  layout_first e fails = rw (e, fails) refl

  -- a kind without effective lengths has none of the three
  pub no_slenderness : required m.kind 11 ≡ false → None ≡ first_failed m (yes_no_checks m.kind)
  unfolding first_failed
  no_slenderness = by m.kind
    where
      by : (kind : Kind) → required kind 11 ≡ false → None ≡ first_failed m (yes_no_checks kind)
      by Tension e = absurd (true≢false e)
      by Bending e = refl
      by Compression e = absurd (true≢false e)
      by CompressionBending e = absurd (true≢false e)
      by TensionBending e = absurd (true≢false e)

  -- in the others checks 2 and 3 decide, where check 1 holds or is not one of the row's
  pub slender_first : {s t : Strut} {found : Option Across} → s ≡ strut_of m across_height → t ≡ strut_of m across_width → found ≡ too_slender s t → required m.kind 11 ≡ true → layout_passed ≡ true → option_map slenderness found ≡ first_failed m (yes_no_checks m.kind)
  unfolding first_failed
  slender_first high wide is has laid = ap (option_map slenderness) (is ∙ ap₂ too_slender high wide) ∙ named (holds m (slenderness across_height)) (without_check3 m.table16 || holds m (slenderness across_width)) ∙ by m.kind has
    where
      named : (x y : Bool) → option_map slenderness (cond x (cond y None (Some across_width)) (Some across_height)) ≡ cond x (cond y None (Some (slenderness across_width))) (Some (slenderness across_height))
      named true true = refl
      named true false = refl
      named false y = refl

      by : (kind : Kind) → required kind 11 ≡ true → first_failed m struts ≡ first_failed m (yes_no_checks kind)
      by Tension e = rw laid refl
      by Bending e = absurd (true≢false (sym e))
      by Compression e = refl
      by CompressionBending e = refl
      by TensionBending e = refl

  -- the first that fails gives the verdict; where none does, another is left
  abbrev first_or : Option YesNoCheck → Verdict → Verdict
  first_or None otherwise = otherwise
  first_or (Some check) otherwise = failed_on (check_number (yes_no check)) 0

  -- the first of these checks that fails gives the verdict; where none does, joint length is left, if it is among the checks
  abbrev ByFirst : List YesNoCheck → List YesNoCheck → Verdict → Type 0
  ByFirst checks rest v = judge_by m checks v ≡ first_or (first_failed m checks) (judge_by m rest v)

  struts_decide : (rest : List YesNoCheck) (v : Verdict) → first_failed m rest ≡ None → ByFirst (struts ++ rest) rest v
  unfolding judge_by first_failed
  struts_decide rest v none_left = rw none_left (by (holds m (slenderness across_height)) (omitted m (yes_no (slenderness across_width)) || holds m (slenderness across_width)))
    where
      by : (x y : Bool) → cond x (cond y (judge_by m rest v) (failed_on 3 0)) (failed_on 2 0) ≡ first_or (cond x (cond y None (Some (slenderness across_width))) (Some (slenderness across_height))) (judge_by m rest v)
      by true true = refl
      by true false = refl
      by false y = refl

  layout_decides : (v : Verdict) → ByFirst (yes_no_checks Tension) (joint_length ∷ []) v
  unfolding judge_by first_failed
  layout_decides v = by layout_passed refl
    where
      by : (t : Bool) → layout_passed ≡ t → ByFirst (yes_no_checks Tension) (joint_length ∷ []) v
      by true e = rw e (struts_decide (joint_length ∷ []) v refl)
      by false e = rw e refl

  -- what is left of a kind's yes-or-no checks after the three
  abbrev length_checks : Kind → List YesNoCheck
  length_checks Tension = joint_length ∷ []
  length_checks Bending = []
  length_checks Compression = []
  length_checks CompressionBending = []
  length_checks TensionBending = []

  first_decides : (kind : Kind) (v : Verdict) → ByFirst (yes_no_checks kind) (length_checks kind) v
  unfolding first_failed
  first_decides Tension v = layout_decides v
  first_decides Bending v = refl
  first_decides Compression v = struts_decide [] v refl
  first_decides CompressionBending v = struts_decide [] v refl
  first_decides TensionBending v = struts_decide [] v refl

  abbrev strength_verdict : Kind → Verdict
  strength_verdict kind = by_strength (governing m (strength_checks kind)) (count_of m)

  -- one fails
  pub first_gives : {check : YesNoCheck} → Some check ≡ first_failed m (yes_no_checks m.kind) → failed_on (check_number (yes_no check)) 0 ≡ verdict m
  first_gives found = rw (first_decides m.kind (strength_verdict m.kind), ← found) refl

  -- none does
  module _ (none_fails : None ≡ first_failed m (yes_no_checks m.kind)) where
    past_first : judge_by m (length_checks m.kind) (strength_verdict m.kind) ≡ verdict m
    past_first = rw (first_decides m.kind (strength_verdict m.kind), ← none_fails) refl

    -- the row has a joint: check 4 is left
    pub joint_left : m.kind ≡ Tension → judge_by m (joint_length ∷ []) (strength_verdict Tension) ≡ verdict m
    joint_left e = ap (λ (kind : Kind). judge_by m (length_checks kind) (strength_verdict kind)) (sym e) ∙ past_first

    -- the layout of that joint holds
    pub layout_held : m.kind ≡ Tension → m.jointed ≡ true → Layout m.height m.joint
    layout_held e j = by (holds m layout) refl
      where
        by : (t : Bool) → holds m layout ≡ t → Layout m.height m.joint
        by true h = leb-true _ _ h
        by false h = let z : ◌≡◌ {A = Option YesNoCheck} (Some layout) None = layout_first e (rw (j, h) refl) ∙ sym none_fails in cc

    -- the row has no joint: strength is left
    pub strength_left : m.jointed ≡ false → by_strength (governing m (strength_checks m.kind)) 0 ≡ verdict m
    unfolding judge_by
    strength_left j = ap (by_strength (governing m (strength_checks m.kind))) (rw j refl) ∙ by m.kind (strength_verdict m.kind) ∙ past_first
      where
        by : (kind : Kind) (v : Verdict) → v ≡ judge_by m (length_checks kind) v
        by Tension v = rw j refl
        by Bending v = refl
        by Compression v = refl
        by CompressionBending v = refl
        by TensionBending v = refl

-- a check that the row has: the test is of the check alone
pub has : {omits holds t : Bool} → omits ≡ false → t ≡ holds → t ≡ (omits || holds)
has kept e = rw kept e

-- check 4 is left, and the code's test of it is t
module _ (m : Member) (v : Verdict) {t : Bool} {r : Verdict} (found : t ≡ (omitted m (yes_no joint_length) || holds m joint_length)) where
  -- it fails, and gives the verdict
  pub length_fails : not t ≡ true → r ≡ failed_on 4 (count_of m) → r ≡ judge_by m (joint_length ∷ []) v
  unfolding judge_by
  length_fails taken e = rw (← found, not-true t taken) e

  -- it holds
  pub length_holds : not t ≡ false → r ≡ v → r ≡ judge_by m (joint_length ∷ []) v
  unfolding judge_by
  length_holds left e = rw (← found, not-false t left) e

-- the greater of c and what governs the rest, by what the code finds for them
greater_of_lem : (m : Member) (c : StrengthCheck) (rest : Option StrengthCheck) → greater_of (used m c) (governed_by m rest) ≡ used m (or_greater (utilisation_of m) c rest)
greater_of_lem m c None = rw leb-zero refl
greater_of_lem m c (Some d) = by (leb (utilisation_of m d) (utilisation_of m c))
  where
    by : (t : Bool) → cond t (used m c) (used m d) ≡ used m (cond t c d)
    by true = refl
    by false = refl

-- the next strength check is c, which the row has, and the code finds x for it
module _ (m : Member) (c : StrengthCheck) {x : Governing} (kept : omitted m (strength c) ≡ false) (found : x ≡ used m c) where
  -- it is the last
  pub only : x ≡ governing m (c ∷ [])
  unfolding greatest
  only = rw kept found

  -- the code compares it with y, which governs the rest
  pub next_governs : (checks : List StrengthCheck) {y g : Governing} → y ≡ governing m checks → g ≡ greater_of x y → g ≡ governing m (c ∷ checks)
  unfolding greatest
  next_governs checks rest e = rw kept (e ∙ ap₂ greater_of found rest ∙ greater_of_lem m c (greatest (has_strength m) (utilisation_of m) checks))
