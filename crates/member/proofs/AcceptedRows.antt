-- A row of each kind that is not refused, with a joint and without, and the member that it describes: no promise is kept for want of a row.
-- Assumes nothing.
use mathlib.Core.Path.{◌≡◌, refl}
use mathlib.Core.Bool.{true, false}
use Rattle.cells.specs.Lowest.{lowest}
use lib.ListN.{length}
use Rattle.cells.specs.Refusal.{gives}
use Rattle.cells.specs.Row.{cell_count}
use Rattle.member.specs.Acceptance.{accept_kind, accept}
use Rattle.member.specs.Member.{values_of, member_of}
use Rattle.member.specs.WorkedRows.{row_a, row_b, row_e, row_f, row_without_joint, row_of_kind5, edge_row}
use Rattle.member.specs.declared.kind.Kind.TheVariants.{Tension, Bending, Compression, CompressionBending, TensionBending}
use Rattle.member.specs.declared.member.Member.{Member}

-- they are whole rows
pub rows_whole : (length row_e ≡ cell_count) × (length row_f ≡ cell_count) × (length row_without_joint ≡ cell_count) × (length row_a ≡ cell_count)
    × (length row_b ≡ cell_count) × (length edge_row ≡ cell_count) × (length row_of_kind5 ≡ cell_count)
rows_whole = (refl, refl, refl, refl, refl, refl, refl)

-- kind 1 with a joint
abbrev pub member_e : Member
member_e = member_of Tension true (values_of row_e)

pub row_e_accepted : accept row_e ≡ gives member_e
unfolding accept_kind lowest
row_e_accepted = refl

-- the same with a joint that is too long
abbrev pub member_f : Member
member_f = member_of Tension true (values_of row_f)

pub row_f_accepted : accept row_f ≡ gives member_f
unfolding accept_kind lowest
row_f_accepted = refl

-- kind 1 without a joint
pub row_without_joint_accepted : accept row_without_joint ≡ gives (member_of Tension false (values_of row_without_joint))
unfolding accept_kind lowest
row_without_joint_accepted = refl

-- kind 2
abbrev pub member_a : Member
member_a = member_of Bending false (values_of row_a)

pub row_a_accepted : accept row_a ≡ gives member_a
unfolding accept_kind lowest
row_a_accepted = refl

-- kind 3
pub row_b_accepted : accept row_b ≡ gives (member_of Compression false (values_of row_b))
unfolding accept_kind lowest
row_b_accepted = refl

-- kind 4
abbrev pub edge_member : Member
edge_member = member_of CompressionBending false (values_of edge_row)

pub edge_accepted : accept edge_row ≡ gives edge_member
unfolding accept_kind lowest
edge_accepted = refl

-- kind 5
pub row_of_kind_5_accepted : accept row_of_kind5 ≡ gives (member_of TensionBending false (values_of row_of_kind5))
unfolding accept_kind lowest
row_of_kind_5_accepted = refl
