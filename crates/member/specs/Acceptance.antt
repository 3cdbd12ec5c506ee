-- "Check a row": which rows are refused, by which number and cell, in which order.
-- Assumes nothing.
use Rattle.std.specs.Prelude.{ℕ, Bool, not, cond, ◌&&◌, List, eqb, get_or, None, Some, Option}
use Rattle.std.specs.Bool.{beq}
use Rattle.cells.specs.Lowest.{lowest}
use Rattle.cells.specs.Refusal.{Result, gives, refuses}
use Rattle.cells.specs.Row.{Cell}
use Rattle.member.specs.Kind.{kind_of}
use Rattle.member.specs.Cells.{filled, value_of, optional, wanted, known_code, in_range}
use Rattle.member.specs.Member.{values_of, member_of}
use Rattle.member.specs.declared.kind.Kind.{Kind}
use Rattle.member.specs.declared.member.Member.{Member}

-- cell n begins a joint: it is filled, and one of those of which the kind fills all or none
abbrev pub begins : Kind → ℕ → Cell → Bool
begins kind n cell = filled cell && optional kind n

-- refusal 2: cell n is blank or filled against its kind
abbrev pub misfilled : Kind → Bool → ℕ → Cell → Bool
misfilled kind begun n cell = not (beq (filled cell) (wanted kind begun n))

-- refusal 3: the code in cell n is unknown
abbrev pub unknown_code : Kind → ℕ → Cell → Bool
unknown_code kind n cell = filled cell && not (known_code kind n (value_of cell))

-- refusal 4: the value in cell n is outside its range
abbrev pub out_of_range : ℕ → Cell → Bool
out_of_range n cell = filled cell && not (in_range n (value_of cell))

-- the lowest cell of a row of which a test is true, 0 where there is none
abbrev pub lowest_cell : (ℕ → Cell → Bool) → List Cell → ℕ
lowest_cell test cells = lowest test 1 cells

-- a joint is begun where any of its cells is filled
abbrev pub is_begun : Kind → List Cell → Bool
is_begun kind cells = not (eqb (lowest_cell (begins kind) cells) 0)

-- the refusal that names a cell, if there is one
abbrev pub unless_refused : {A : Type 0} → ℕ → ℕ → Result A → Result A
unless_refused number cell rest = cond (eqb cell 0) rest (refuses number cell)

-- refusals 2, 3 and 4 of a row of a known kind, in this order, the lowest cell first; otherwise the member
unfoldable pub accept_kind : Kind → List Cell → Result Member
accept_kind kind cells =
    let begun = is_begun kind cells in
    unless_refused 2 (lowest_cell (misfilled kind begun) cells)
    (unless_refused 3 (lowest_cell (unknown_code kind) cells)
    (unless_refused 4 (lowest_cell out_of_range cells)
    (gives (member_of kind begun (values_of cells)))))

-- refusal 3 of cell 1 where its code is unknown
abbrev pub accept_code : Option Kind → List Cell → Result Member
accept_code None cells = refuses 3 1
accept_code (Some kind) cells = accept_kind kind cells

-- refusal 2 of cell 1 where it is blank
abbrev pub accept_first : Cell → List Cell → Result Member
accept_first None cells = refuses 2 1
accept_first (Some code) cells = accept_code (kind_of code) cells

-- "Check a row", its refusals: the member that the row describes, or why it is refused
abbrev pub accept : List Cell → Result Member
accept cells = accept_first (get_or cells 0 None) cells
