-- What a refusal of the row check says: which rule, in which order, and that the cell named is the lowest that breaks it; and when a joint is begun.
-- Assumes nothing.
use Prim.Native.Nat.{ℕ, ◌+◌, ◌<◌}
use native.Mathlib.Omega.{arith}
use mathlib.Core.Path.{◌≡◌, refl, sym, ◌∙◌, subst}
use mathlib.Core.Logic.{◌⊎◌, inl, inr, ◌↔◌}
use mathlib.Core.Bool.{Bool, true, false, true≢false}
use mathlib.Core.List.{List}
use lib.ListN.{length, get_or}
use borrow.Author.Tests.{ne_eqb}
use Rattle.std.specs.Prelude.{None, Some, Option}
use Rattle.cells.specs.Lowest.{lowest}
use Rattle.cells.specs.Refusal.{Result, gives, refuses}
use Rattle.cells.specs.Row.{cell_count, Cell}
use Rattle.cells.proofs.LowestLaws.{Passes, FailsAt, lowest_meaning}
use Rattle.member.specs.Acceptance.{begins, misfilled, unknown_code, out_of_range, lowest_cell, is_begun, accept_kind, accept_code, accept_first, accept}
use Rattle.member.specs.Cells.{filled, optional, ranges}
use Rattle.member.specs.Kind.{kind_of}
use Rattle.member.specs.WorkedRows.{row_half_joint}
use Rattle.member.specs.declared.kind.Kind.{Kind}
use Rattle.member.specs.declared.member.Member.{Member}
use Rattle.member.proofs.AcceptanceLaws.{both_true, fill_refused, code_refused, range_refused, none_refused}

-- a test of the cells of a row, each with its number
module _ (cells : List Cell) (test : ℕ → Cell → Bool) where
  -- it is true of no cell
  abbrev pub Kept : Type 0
  Kept = (k : ℕ) → k < length cells → test (1 + k) (get_or cells k None) ≡ false

  -- it is true of the cell at place k, number 1 + k, and of no lower one
  pub record Named (cell : ℕ) : Type 0 where
    pub place : ℕ
    pub is : cell ≡ 1 + place
    pub inside : place < length cells
    pub broken : test (1 + place) (get_or cells place None) ≡ true
    pub lower : (j : ℕ) → j < place → test (1 + j) (get_or cells j None) ≡ false

  -- what a search finds
  abbrev Search : Type 0
  Search = ((lowest_cell test cells ≡ 0) × Kept) ⊎ ((cell : ℕ) × (cell ≡ lowest_cell test cells) × (cell ≡ 0 → ⊥) × Named cell)

  found : Search
  found = by (lowest_meaning test 1 cells)
    where
      by : Passes test 1 cells ⊎ ((k : ℕ) × FailsAt test 1 cells k) → Search
      by (inl r) = inl (r.none, λ k h. r.all k None h)
      by (inr (k, r)) =
          inr (
            1 + k,
            sym r.found,
            λ e. absurd (omega arith),
            record { place = k; is = refl; inside = r.inside; broken = r.failing None; lower = λ j h. r.below j None h },
          )

-- There is a range for each cell.
pub range_for_each : length ranges ≡ cell_count
range_for_each = refl

-- By example: half a joint is refused for its lowest blank cell, though that is the first of it.
pub half_joint_refused : accept row_half_joint ≡ refuses 2 14
unfolding accept_kind lowest
half_joint_refused = refl

-- a cell of which the kind fills all or none is filled
pub record Begins (kind : Kind) (cells : List Cell) : Type 0 where
  pub place : ℕ
  pub inside : place < length cells
  pub is_filled : filled (get_or cells place None) ≡ true
  pub is_optional : optional kind (1 + place) ≡ true

module _ (kind : Kind) (cells : List Cell) where
  -- a joint is begun exactly where there is such a cell
  pub begun_iff : is_begun kind cells ≡ true ↔ Begins kind cells
  begun_iff = by (found cells (begins kind))
    where
      by : Search cells (begins kind) → is_begun kind cells ≡ true ↔ Begins kind cells
      by (inl (none, kept)) = (
        λ e. absurd (true≢false (sym e ∙ rw none refl)),
        λ b. absurd (true≢false (sym (rw (b.is_filled, b.is_optional) refl) ∙ kept b.place b.inside)),
      )
      by (inr (cell, e, some, named)) = (
        λ begun. let both = both_true _ _ named.broken in
            record { place = named.place; inside = named.inside; is_filled = both.0; is_optional = both.1 },
        λ b. rw (← e, ne_eqb cell 0 some) refl,
      )

module _ (kind : Kind) (cells : List Cell) where
  -- the tests of refusals 2, 3 and 4
  abbrev fill : ℕ → Cell → Bool
  fill = misfilled kind (is_begun kind cells)

  abbrev code : ℕ → Cell → Bool
  code = unknown_code kind

  -- refusal 2 names the lowest misfilled cell; 3, where none is misfilled, the lowest unknown code; 4, where neither is, the lowest value out of range
  abbrev pub Meaning : Result Member → Type 0
  Meaning (gives m) = Kept cells fill × Kept cells code × Kept cells out_of_range
  Meaning (refuses number cell) =
      ((number ≡ 2) × Named cells fill cell)
      ⊎ (((number ≡ 3) × Kept cells fill × Named cells code cell) ⊎ ((number ≡ 4) × Kept cells fill × Kept cells code × Named cells out_of_range cell))

  -- a row of a known kind
  pub kind_meaning : Meaning (accept_kind kind cells)
  kind_meaning = by_fill (found cells fill)
    where
      by_range : (lowest_cell fill cells ≡ 0) × Kept cells fill → (lowest_cell code cells ≡ 0) × Kept cells code → Search cells out_of_range → Meaning (accept_kind kind cells)
      by_range f c (inl r) =
          subst Meaning (sym (none_refused kind cells refl (record { fill = f.0; code = c.0; range = r.0 }))) (f.1, c.1, r.1)
      by_range f c (inr (cell, e, some, named)) = subst Meaning (sym (range_refused kind cells refl f.0 c.0 e some)) (inr (inr (refl, f.1, c.1, named)))

      by_code : (lowest_cell fill cells ≡ 0) × Kept cells fill → Search cells code → Meaning (accept_kind kind cells)
      by_code f (inl c) = by_range f c (found cells out_of_range)
      by_code f (inr (cell, e, some, named)) = subst Meaning (sym (code_refused kind cells refl f.0 e some)) (inr (inl (refl, f.1, named)))

      by_fill : Search cells fill → Meaning (accept_kind kind cells)
      by_fill (inl f) = by_code f (found cells code)
      by_fill (inr (cell, e, some, named)) = subst Meaning (sym (fill_refused kind cells refl e some)) (inl (refl, named))

-- what acceptance says of a row, by its cell 1: blank, an unknown code, or a kind
abbrev pub OfCode : Option Kind → List Cell → Result Member → Type 0
OfCode None cells result = result ≡ refuses 3 1
OfCode (Some kind) cells result = Meaning kind cells result

abbrev pub OfFirst : Cell → List Cell → Result Member → Type 0
OfFirst None cells result = result ≡ refuses 2 1
OfFirst (Some code) cells result = OfCode (kind_of code) cells result

-- a row is refused for cell 1 where that is blank or unknown; otherwise by the first rule that a cell breaks, and accepted where none does
pub accept_meaning : (cells : List Cell) → OfFirst (get_or cells 0 None) cells (accept cells)
accept_meaning cells = by (get_or cells 0 None)
  where
    known : (code : Option Kind) → OfCode code cells (accept_code code cells)
    known None = refl
    known (Some kind) = kind_meaning kind cells

    by : (first : Cell) → OfFirst first cells (accept_first first cells)
    by None = refl
    by (Some code) = known (kind_of code)
