-- Checks 1 to 3 round nothing: the test that the code makes holds exactly where the unrounded rule does.
-- Assumes nothing.
use Prim.Native.Nat.{ℕ}
use mathlib.Core.Path.{◌≡◌}
use mathlib.Core.Logic.{◌↔◌}
use mathlib.Core.Bool.{true}
use borrow.Author.Tests.{leb-true, le-leb}
use Rattle.sp64.specs.declared.joint.Joint.{Joint}
use Rattle.sp64.specs.declared.strut.Strut.{Strut}
use Rattle.sp64.specs.Slenderness.{Slenderness, slenderness_holds}
use Rattle.sp64.specs.Joint.{Layout, layout_holds}

-- check 1
pub layout_iff : (h : ℕ) (j : Joint) → layout_holds h j ≡ true ↔ Layout h j
layout_iff h j = (leb-true _ _, le-leb _ _)

-- checks 2 and 3
pub slenderness_iff : (limit : ℕ) (strut : Strut) → slenderness_holds limit strut ≡ true ↔ Slenderness limit strut
slenderness_iff limit strut = (leb-true _ _, le-leb _ _)
