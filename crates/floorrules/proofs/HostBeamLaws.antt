-- Reading the host's floor beam: what was read keeps the ranges of the loads, which refusals there are, and that every answer keeps demand 3.
-- Assumes nothing.
use Prim.Native.Nat.{ℕ, ◌≤◌}
use native.Mathlib.Omega.{arith}
use mathlib.Core.Bool.{Bool, true, false, cond}
use mathlib.Core.List.{List}
use mathlib.Core.Logic.{◌⊎◌, inl, inr}
use mathlib.Core.Path.{◌≡◌, refl, ap, ◌∙◌, subst}
use borrow.Author.Tests.{eqb-true}
use lib.Dec.{eqb}
use lib.ListN.{length}
use Rattle.std.specs.Prelude.{Option, Some, None}
use Rattle.rounding.specs.Range.{In}
use Rattle.cells.specs.Lowest.{lowest}
use Rattle.cells.specs.Refusal.{Result, gives, refuses, and_then, value_or}
use Rattle.cells.specs.Row.{cell_count, Cell}
use Rattle.member.specs.declared.check.Check.{Check}
use Rattle.member.specs.Demand3.{kept_from, EachFrom}
use Rattle.member.specs.Verdict.{verdict}
use Rattle.worksheet.specs.OwnCell.{own_result}
use Rattle.worksheet.specs.Reading.{read_cell, is_unreadable, lowest_unreadable, read_cells}
use Rattle.worksheet.proofs.OwnCellMeaning.{three_given, tested}
use Rattle.worksheet.proofs.ReadingLaws.{as_read}
use Rattle.worksheet.proofs.RefusalNumbers.{Numbered}
use Rattle.floorrules.specs.FloorBeam.{accept_loading, besides, floor_beam}
use Rattle.floorrules.specs.HostBeam.{beam_cell_at, load_at, loading_of, host_loading, host_cells_of_row, beam_cells_of, host_beam_cells, loads_then_cells, read_host_beam, beam_bytes, check_read, length_last, host_floor_beam, beam_pass_or_fail, beam_returns, beam_leaves, HostKeepsFloorDemand}
use Rattle.floorrules.specs.Loads.{loading_in_range}
use Rattle.floorrules.specs.WorkedBeams.{loads}
use Rattle.floorrules.specs.declared.answer.BeamVerdict.{BeamVerdict}
use Rattle.floorrules.specs.declared.beam.BeamCells.{BeamCells}
use Rattle.floorrules.specs.declared.beam.Loading.{Loading}
use Rattle.floorrules.proofs.BeamMeaning.{TypedCell, NoneOrTyped, none_or_typed, floor_refusals}
use Rattle.floorrules.proofs.FloorDemand.{verdict_keeps, floor_gives}

-- ---- what was read

-- loads that are accepted are within their ranges
accepted_within : (l l' : Loading) → accept_loading l ≡ gives l' → loading_in_range l' ≡ true
accepted_within l l' e =
    let within = tested 8 0 (loading_in_range l) l l' e in
    subst (λ (x : Loading). loading_in_range x ≡ true) within.1 within.0

loading_within : (a b c : Option ℕ) (l : Loading) → loading_of a b c ≡ gives l → loading_in_range l ≡ true
loading_within a b c l e =
    let three = three_given 8 a b c _ l e in
    accepted_within (loads three.0 three.1 three.2) l three.3

-- loads and cells that were read were each given
both_given : (loading : Result Loading) (typed : Result BeamCells) (l : Loading) (cells : BeamCells) → loads_then_cells loading typed ≡ gives (l, cells)
    → (loading ≡ gives l) × (typed ≡ gives cells)
both_given (gives l') (gives cells') l cells e = (
  ap (λ (r : Result (Loading × BeamCells)). gives (value_or (l, cells) r).0) e,
  ap (λ (r : Result (Loading × BeamCells)). gives (value_or (l, cells) r).1) e,
)
both_given (gives l') (refuses n c) l cells e = absurd (let z : ◌≡◌ {A = ℕ} 0 1 = cc in omega arith)
both_given (refuses n c) (gives cells') l cells e = absurd (let z : ◌≡◌ {A = ℕ} 0 1 = cc in omega arith)
both_given (refuses n c) (refuses n' c') l cells e = absurd (let z : ◌≡◌ {A = ℕ} 0 1 = cc in omega arith)

module _ (beam : List ℕ) where
  -- a beam that was read has 72 bytes, and its loads and span are within their ranges
  pub record BeamRead (l : Loading) (cells : BeamCells) : Type 0 where
    pub long : length beam ≡ 72
    pub loading : host_loading beam ≡ gives l
    pub typed : host_beam_cells beam ≡ gives cells
    pub within : loading_in_range l ≡ true

  pub beam_read : (l : Loading) (cells : BeamCells) → read_host_beam beam ≡ gives (l, cells) → BeamRead l cells
  beam_read l cells e = by (eqb (length beam) 72) refl
    where
      by : (t : Bool) → eqb (length beam) 72 ≡ t → BeamRead l cells
      by true whole =
          let read : loads_then_cells (host_loading beam) (host_beam_cells beam) ≡ gives (l, cells) = rw whole at e in
          let both = both_given (host_loading beam) (host_beam_cells beam) l cells read in
          record {
            long = eqb-true _ _ whole;
            loading = both.0;
            typed = both.1;
            within = loading_within (load_at beam 0) (load_at beam 1) (load_at beam 2) l both.0;
          }
      by false other =
          let refused : read_host_beam beam ≡ refuses 1 0 = rw other in
          absurd (let z : ◌≡◌ {A = ℕ} 0 1 = cc in omega arith)

-- ---- demand 3

-- what checking gives for a beam that is read and whose row is accepted, in an answer of 48 bytes
checked : (beam answer : List ℕ) (l : Loading) (cells : BeamCells) (v : BeamVerdict) → read_host_beam beam ≡ gives (l, cells) → floor_beam l cells ≡ gives v → length answer ≡ 48
    → (beam_returns beam (length answer) ≡ beam_pass_or_fail v) × (beam_leaves beam answer ≡ beam_bytes v)
checked beam answer l cells v read given room = rw (read, given, room) (refl, refl)

-- what the entry returns and leaves keeps demand 3 at M and Q unrounded
pub host_keeps : (beam answer : List ℕ) (returned : ℕ) (left : List ℕ) → returned ≡ beam_returns beam (length answer) → left ≡ beam_leaves beam answer
    → (k : Check → ℕ) → EachFrom kept_from k → HostKeepsFloorDemand beam answer returned left k
host_keeps beam answer returned left e b k big l cells m read given room =
    let gave = floor_gives l cells m given (beam_read beam l cells read).within in
    let is = checked beam answer l cells (besides l (verdict m)) read gave room in
    (besides l (verdict m), e ∙ is.0, b ∙ is.1, verdict_keeps l cells m given k big)

-- ---- refusals

-- the entry's refusals: 1, 5 or 8 with cell 0, or 1 to 4 with a cell that was typed
abbrev pub BeamRefused : ℕ → ℕ → Type 0
BeamRefused number cell = ((cell ≡ 0) × ((number ≡ 1) ⊎ ((number ≡ 5) ⊎ (number ≡ 8)))) ⊎ (In 1 4 number × TypedCell cell)

-- a result that is no other refusal
abbrev pub OnlyRefused : {A : Type 0} → Result A → Type 0
OnlyRefused (gives value) = Unit
OnlyRefused (refuses number cell) = BeamRefused number cell

then_only : {A B : Type 0} (result : Result A) (next : A → Result B) → OnlyRefused result → ((value : A) → OnlyRefused (next value)) → OnlyRefused (and_then result next)
then_only (gives value) next here later = later value
then_only (refuses number cell) next here later = here

test_only : {A : Type 0} (number cell : ℕ) (rest : Result A) → BeamRefused number cell → OnlyRefused rest → (t : Bool) → OnlyRefused (cond t rest (refuses number cell))
test_only number cell rest here later true = later
test_only number cell rest here later false = here

own_only : (own : Option ℕ) → OnlyRefused (own_result 8 own)
own_only (Some number) = tt
own_only None = inl (refl, inr (inr refl))

loading_only : (a b c : Option ℕ) → OnlyRefused (loading_of a b c)
loading_only a b c =
    then_only (own_result 8 a) _ (own_only a)
    (λ lasting. then_only (own_result 8 b) _ (own_only b)
    (λ remaining. then_only (own_result 8 c) _ (own_only c)
    (λ span.
    let l : Loading = loads lasting remaining span in
    test_only 8 0 (gives l) (inl (refl, inr (inr refl))) tt (loading_in_range l))))

-- of the five cells, the lowest that is unreadable
unreadable_cell : (beam : List ℕ) → NoneOrTyped (lowest_unreadable (host_cells_of_row beam))
unfolding lowest
unreadable_cell beam =
    none_or_typed
    (is_unreadable (read_cell (beam_cell_at beam 3)))
    (is_unreadable (read_cell (beam_cell_at beam 4)))
    (is_unreadable (read_cell (beam_cell_at beam 5)))
    (is_unreadable (read_cell (beam_cell_at beam 6)))
    (is_unreadable (read_cell (beam_cell_at beam 7)))

named_only : {A : Type 0} (cell : ℕ) (rest : Result A) → NoneOrTyped cell → OnlyRefused rest → OnlyRefused (cond (eqb cell 0) rest (refuses 1 cell))
named_only cell rest (inl e) later = rw e later
named_only cell rest (inr typed) later = test_only 1 cell rest (inr (omega arith, typed)) later (eqb cell 0)

cells_only : (beam : List ℕ) → OnlyRefused (host_beam_cells beam)
cells_only beam =
    then_only (read_cells (host_cells_of_row beam)) (λ (cells : List Cell). gives (beam_cells_of cells))
    (named_only (lowest_unreadable (host_cells_of_row beam)) (gives (as_read (host_cells_of_row beam))) (unreadable_cell beam) tt)
    (λ cells. tt)

both_only : (loading : Result Loading) (typed : Result BeamCells) → OnlyRefused loading → OnlyRefused typed → OnlyRefused (loads_then_cells loading typed)
both_only (gives l) (gives cells) here later = tt
both_only (gives l) (refuses n c) here later = later
both_only (refuses n c) (gives cells) here later = here
both_only (refuses n c) (refuses n' c') here later = here

floor_only : (l : Loading) (cells : BeamCells) → OnlyRefused (floor_beam l cells)
floor_only l cells = by (floor_beam l cells) refl
  where
    by : (r : Result BeamVerdict) → floor_beam l cells ≡ r → OnlyRefused r
    by (gives v) e = tt
    by (refuses number cell) e = of (floor_refusals l cells number cell e)
      where
        of : ((loading_in_range l ≡ false) × (number ≡ 8) × (cell ≡ 0)) ⊎ ((loading_in_range l ≡ true) × In 2 4 number × TypedCell cell) → BeamRefused number cell
        of (inl r) = inl (r.2, inr (inr r.1))
        of (inr r) = inr (omega (arith, r.1), r.2)

length_only : (room : ℕ) (result : Result BeamVerdict) → OnlyRefused result → OnlyRefused (length_last room result)
length_only room (gives v) here = by (eqb room 48)
  where
    by : (t : Bool) → OnlyRefused (and_then (cond t (gives tt) (refuses 5 0)) (λ (given : Unit {0}). gives v))
    by true = tt
    by false = inl (refl, inr (inl refl))
length_only room (refuses number cell) here = here

pub beam_only : (beam : List ℕ) (room : ℕ) → OnlyRefused (host_floor_beam beam room)
beam_only beam room =
    length_only room (check_read (read_host_beam beam))
    (then_only (read_host_beam beam) _
    (test_only 1 0 (loads_then_cells (host_loading beam) (host_beam_cells beam)) (inl (refl, inl refl))
    (both_only (host_loading beam) (host_beam_cells beam) (loading_only (load_at beam 0) (load_at beam 1) (load_at beam 2)) (cells_only beam))
    (eqb (length beam) 72))
    (λ read. floor_only read.0 read.1))

-- so they are numbered 1 to 8, and none names a cell past the row's last
pub beam_numbered : (beam : List ℕ) (room : ℕ) → Numbered 1 8 (host_floor_beam beam room)
beam_numbered beam room = by (host_floor_beam beam room) (beam_only beam room)
  where
    in_row : (cell : ℕ) → TypedCell cell → cell ≤ cell_count
    in_row cell (inl e) = omega (arith, e)
    in_row cell (inr range) = omega (arith, range)

    by : (r : Result BeamVerdict) → OnlyRefused r → Numbered 1 8 r
    by (gives v) only = tt
    by (refuses number cell) (inl (e, inl f)) = (omega (arith, f), omega (arith, e))
    by (refuses number cell) (inl (e, inr (inl f))) = (omega (arith, f), omega (arith, e))
    by (refuses number cell) (inl (e, inr (inr f))) = (omega (arith, f), omega (arith, e))
    by (refuses number cell) (inr (range, typed)) = (omega (arith, range), in_row cell typed)
