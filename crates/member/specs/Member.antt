-- The member that a row describes: its cells by name.
-- Assumes nothing.
use Rattle.std.specs.Prelude.{ℕ, ◌-◌, Bool, cond, List, map, get_or}
use Rattle.cells.specs.Row.{Cell}
use Rattle.rounding.specs.Fraction.{Fraction}
use Rattle.sp64.specs.Capacity.{NR, exact_nr, MR, exact_mr}
use Rattle.sp64.specs.Joint.{joint_count}
use Rattle.sp64.specs.Strength.{material_of}
use Rattle.sp64.specs.Tables.{slenderness_limit}
use Rattle.sp64.specs.declared.joint.Joint.{Joint}
use Rattle.sp64.specs.declared.strut.Strut.{Strut}
use Rattle.sp64.specs.declared.tables.Stress.{Stress}
use Rattle.member.specs.Cells.{value_of}
pub use Rattle.member.specs.declared.check.Across.{Across}
pub use Rattle.member.specs.declared.check.Across.TheVariants.{Height as across_height, Width as across_width}
use Rattle.member.specs.declared.kind.Kind.{Kind}
use Rattle.member.specs.declared.member.Member.{Member}

-- the values of the cells, cell 1 first, 0 for a blank
abbrev pub values_of : List Cell → List ℕ
values_of cells = map value_of cells

-- the value of cell n
abbrev pub value_at : List ℕ → ℕ → ℕ
value_at values n = get_or values (n - 1) 0

-- cells 14 to 22 by name
abbrev pub joint_of : List ℕ → Joint
joint_of values =
    record {
      side = value_at values 14;
      diameter = value_at values 15;
      across = value_at values 16;
      available = value_at values 17;
      kc = value_at values 18;
      ka = value_at values 19;
      kb = value_at values 20;
      ke = value_at values 21;
      km = value_at values 22;
    }

-- the cells after the first by name, for a row of a kind with or without a joint
abbrev pub member_of : Kind → Bool → List ℕ → Member
member_of kind jointed values =
    record {
      kind = kind;
      material = material_of (value_at values 2) (value_at values 3) (value_at values 4) (value_at values 5);
      regime = value_at values 3;
      width = value_at values 6;
      height = value_at values 7;
      force = value_at values 8;
      moment = value_at values 9;
      shear = value_at values 10;
      lh = value_at values 11;
      lb = value_at values 12;
      table16 = value_at values 13;
      jointed = jointed;
      joint = joint_of values;
    }

-- the member as a strut: Lh with h, and Lb with b
abbrev pub strut_of : Member → Across → Strut
strut_of m across_height = record { length = m.lh; side = m.height }
strut_of m across_width = record { length = m.lb; side = m.width }

-- the slenderness limit of checks 2 and 3
abbrev pub limit_of : Member → ℕ
limit_of m = slenderness_limit m.table16

-- the dowel count, 0 without a joint
abbrev pub count_of : Member → ℕ
count_of m = cond m.jointed (joint_count m.force m.width m.joint m.material) 0

-- NR of the member with the strength of a stress
abbrev pub NRof : Stress → Member → ℕ
NRof stress m = NR stress m.width m.height m.material

-- the same, unrounded
abbrev pub exact_nrof : Stress → Member → Fraction
exact_nrof stress m = exact_nr stress m.width m.height m.material

-- MR of the member
abbrev pub MRof : Member → ℕ
MRof m = MR m.width m.height m.material

-- the same, unrounded
abbrev pub exact_mrof : Member → Fraction
exact_mrof m = exact_mr m.width m.height m.material
