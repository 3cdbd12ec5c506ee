-- The ranges of a member's fields, by what its kind fills.
-- Assumes nothing.
use Rattle.std.specs.Prelude.{◌≤◌, ◌≡◌, true}
use Rattle.sp64.specs.Capacity.{Section}
use Rattle.sp64.specs.Joint.{JointRanges}
use Rattle.sp64.specs.Ranges.{InForce, InLength, InLimit, InMoment}
use Rattle.sp64.specs.Strength.{MaterialRanges}
use Rattle.member.specs.Cells.{required, compressed}
use Rattle.member.specs.Member.{limit_of}
use Rattle.member.specs.declared.kind.Kind.{Kind}
use Rattle.member.specs.declared.kind.Kind.TheVariants.{Tension}
use Rattle.member.specs.declared.member.Member.{Member}

-- cells 2 to 7
pub record Sized (m : Member) : Type 0 where
  pub material : MaterialRanges m.material
  pub section : Section m.width m.height

-- cells 11 to 13: the effective lengths, and the limit of the row of Table 16
pub record Braced (m : Member) : Type 0 where
  pub lh : InLength m.lh
  pub lb : InLength m.lb
  pub limit : InLimit (limit_of m)

-- the ranges that the cells of an accepted row keep, where its kind fills them; cell 10 has none that a check relies on
pub record RangesOf (kind : Kind) (m : Member) : Type 0 where
  pub sized : Sized m
  pub force : required kind 8 ≡ true → InForce m.force
  pub moment : required kind 9 ≡ true → InMoment m.moment
  pub braced : required kind 11 ≡ true → Braced m
  -- rows 1 to 3 of Table 16 in kinds 3 and 4
  pub table16 : compressed kind ≡ true → m.table16 ≤ 3
  -- kind 1 alone has a joint
  pub tension : m.jointed ≡ true → kind ≡ Tension
  pub joint : m.jointed ≡ true → JointRanges m.joint

-- request 4: no width, height or effective length above 20,000, the greatest that acceptance leaves (a blank is 0)
pub record NarrowLengths (m : Member) : Type 0 where
  pub width : m.width ≤ 20000
  pub height : m.height ≤ 20000
  pub lh : m.lh ≤ 20000
  pub lb : m.lb ≤ 20000
