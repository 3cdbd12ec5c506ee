-- What an answer of the floor-beam check says: a refusal, its number and its cell; a pass; a fail.
-- Assumes nothing.
use Prim.Native.Nat.{ℕ, ◌-◌, ◌≤◌}
use native.Mathlib.Omega.{arith}
use mathlib.Core.Bool.{Bool, true, false, cond}
use mathlib.Core.List.{List, [], ◌∷◌}
use mathlib.Core.Logic.{◌⊎◌, inl, inr}
use mathlib.Core.Path.{◌≡◌, refl, sym, subst}
use borrow.Author.Tests.{le-leb, lt-leb}
use lib.Dec.{eqb}
use Rattle.std.specs.Prelude.{None, Some}
use Rattle.rounding.specs.Fraction.{scaled, ◌≼◌}
use Rattle.rounding.specs.Range.{In}
use Rattle.cells.specs.Greatest.{Among}
use Rattle.cells.specs.Refusal.{Result, gives, refuses}
use Rattle.cells.specs.Row.{cell_count, Cell}
use Rattle.cells.proofs.LowestLaws.{lowest_cons, lowest_of_copies}
use Rattle.sp64.specs.Capacity.{exact_shear_capacity}
use Rattle.sp64.specs.Strength.{exact_strength}
use Rattle.sp64.specs.declared.tables.Stress.TheVariants.{Shear}
use Rattle.member.specs.Acceptance.{misfilled, unknown_code, out_of_range, lowest_cell, is_begun, unless_refused, accept_kind, accept}
use Rattle.member.specs.Checks.{check_number, Has}
use Rattle.member.specs.Demand3.{Demand3At}
use Rattle.member.specs.Member.{exact_mrof, member_of, values_of}
use Rattle.member.specs.Unrounded.{times, Holds}
use Rattle.member.specs.Verdict.{verdict}
use Rattle.member.specs.declared.check.Check.{Check}
use Rattle.member.specs.declared.check.Check.TheVariants.{YesNo as yes_no, Strength as strength}
use Rattle.member.specs.declared.check.StrengthCheck.{StrengthCheck}
use Rattle.member.specs.declared.check.StrengthCheck.TheVariants.{Bending as bending, Shear as shear}
use Rattle.member.specs.declared.kind.Kind.TheVariants.{Bending}
use Rattle.member.specs.declared.member.Member.{Member}
use Rattle.member.proofs.DemandLaws.{strength_high}
use Rattle.floorrules.specs.BeamRow.{beam_row}
use Rattle.floorrules.specs.Demand.{floor_factor, exact_forces_of}
use Rattle.floorrules.specs.FloorBeam.{besides, floor_beam}
use Rattle.floorrules.specs.Loads.{loading_in_range, mostly_lasting, regime_of, moment_of, exact_moment_of, shear_of, exact_shear_of}
use Rattle.floorrules.specs.declared.answer.BeamVerdict.{BeamVerdict}
use Rattle.floorrules.specs.declared.beam.BeamCells.{BeamCells}
use Rattle.floorrules.specs.declared.beam.Loading.{Loading}
use Rattle.floorrules.proofs.BeamRowLaws.{beam_member}
use Rattle.floorrules.proofs.FloorDemand.{floor_factor_kept, verdict_keeps, floor_gives}
use Rattle.floorrules.proofs.LoadLaws.{moment_in_cell_9, shear_in_cell_10}

-- ---- refusals

-- loads or a span outside their ranges are refusal 8, cell 0, whatever the cells
pub loading_first : (l : Loading) (cells : BeamCells) → loading_in_range l ≡ false → floor_beam l cells ≡ refuses 8 0
loading_first l cells outside = rw outside

-- cells 2, 4, 5, 6 and 7
abbrev pub TypedCell : ℕ → Type 0
TypedCell cell = (cell ≡ 2) ⊎ In 4 7 cell

-- no cell, or one of these
abbrev pub NoneOrTyped : ℕ → Type 0
NoneOrTyped cell = (cell ≡ 0) ⊎ TypedCell cell

pub none_or_typed : (t₂ t₄ t₅ t₆ t₇ : Bool) → NoneOrTyped (cond t₂ 2 (cond t₄ 4 (cond t₅ 5 (cond t₆ 6 (cond t₇ 7 0)))))
none_or_typed true t₄ t₅ t₆ t₇ = inr (inl refl)
none_or_typed false true t₅ t₆ t₇ = inr (inr (omega arith))
none_or_typed false false true t₆ t₇ = inr (inr (omega arith))
none_or_typed false false false true t₇ = inr (inr (omega arith))
none_or_typed false false false false true = inr (inr (omega arith))
none_or_typed false false false false false = inl refl

module _ (l : Loading) (cells : BeamCells) where
  abbrev row : List Cell
  row = beam_row l cells

  -- a test that is true of none of the other cells finds none or one of these
  typed_alone : (test : ℕ → Cell → Bool)
      → test 1 (Some 2) ≡ false
      → test 3 (Some (regime_of l)) ≡ false
      → test 8 None ≡ false
      → test 9 (Some (moment_of l)) ≡ false
      → test 10 (Some (shear_of l)) ≡ false
      → ((n : ℕ) → 11 ≤ n → test n None ≡ false)
      → NoneOrTyped (lowest_cell test row)
  typed_alone test one three eight nine ten blank =
      rw (
        lowest_cons test 1 (Some 2),
        one,
        lowest_cons test 2 cells.grade,
        lowest_cons test 3 (Some (regime_of l)),
        three,
        lowest_cons test 4 cells.moisture,
        lowest_cons test 5 cells.office,
        lowest_cons test 6 cells.width,
        lowest_cons test 7 cells.height,
        lowest_cons test 8 None,
        eight,
        lowest_cons test 9 (Some (moment_of l)),
        nine,
        lowest_cons test 10 (Some (shear_of l)),
        ten,
        lowest_of_copies test (cell_count - 10) 11 None blank,
      )
      (none_or_typed (test 2 cells.grade) (test 4 cells.moisture) (test 5 cells.office) (test 6 cells.width) (test 7 cells.height))

  -- refusal 2: the regime, M and Q are filled, and all other cells are blank that kind 2 leaves so
  fill_cell : NoneOrTyped (lowest_cell (misfilled Bending (is_begun Bending row)) row)
  fill_cell =
      typed_alone (misfilled Bending (is_begun Bending row)) refl refl refl refl refl
      (λ n h. rw (le-leb 1 n (omega arith), lt-leb n 7 (omega arith), le-leb 9 n (omega arith), lt-leb n 10 (omega arith)))

  -- refusal 3: both regimes are known, and no other cell but the grade has a code
  code_cell : NoneOrTyped (lowest_cell (unknown_code Bending) row)
  code_cell = typed_alone (unknown_code Bending) refl (by (mostly_lasting l) refl) refl refl refl (λ n h. refl)
    where
      by : (t : Bool) → mostly_lasting l ≡ t → unknown_code Bending 3 (Some (regime_of l)) ≡ false
      by true e = rw e
      by false e = rw e

  -- refusal 4: M and Q are in their ranges
  range_cell : loading_in_range l ≡ true → NoneOrTyped (lowest_cell out_of_range row)
  range_cell given =
      typed_alone out_of_range refl (by (mostly_lasting l) refl) refl (rw (moment_in_cell_9 l given)) (rw (shear_in_cell_10 l given)) (λ n h. refl)
    where
      by : (t : Bool) → mostly_lasting l ≡ t → out_of_range 3 (Some (regime_of l)) ≡ false
      by true e = rw e
      by false e = rw e

  -- a refusal of the row is 2, 3 or 4 and names a cell that was typed
  abbrev RowRefused : Result Member → Type 0
  RowRefused (gives m) = Unit
  RowRefused (refuses number cell) = In 2 4 number × TypedCell cell

  row_unless : (number cell : ℕ) (rest : Result Member) → In 2 4 number → NoneOrTyped cell → RowRefused rest → RowRefused (unless_refused number cell rest)
  row_unless number cell rest numbered (inl e) later = rw e later
  row_unless number cell rest numbered (inr typed) later = by (eqb cell 0)
    where
      by : (t : Bool) → RowRefused (cond t rest (refuses number cell))
      by true = later
      by false = (numbered, typed)

  row_refused : loading_in_range l ≡ true → RowRefused (accept row)
  unfolding accept_kind
  row_refused given =
      row_unless 2 (lowest_cell (misfilled Bending (is_begun Bending row)) row) _ (omega arith) fill_cell
      (row_unless 3 (lowest_cell (unknown_code Bending) row) _ (omega arith) code_cell
      (row_unless 4 (lowest_cell out_of_range row) (gives (member_of Bending (is_begun Bending row) (values_of row))) (omega arith) (range_cell given) tt))

  -- A refusal is 8 with cell 0, or one of the row's, 2 to 4, which names a cell that was typed: never the regime, M or Q.
  pub floor_refusals : (number cell : ℕ) → floor_beam l cells ≡ refuses number cell
      → ((loading_in_range l ≡ false) × (number ≡ 8) × (cell ≡ 0)) ⊎ ((loading_in_range l ≡ true) × In 2 4 number × TypedCell cell)
  floor_refusals number cell e = by_loading (loading_in_range l) refl
    where
      Refusals : Type 0
      Refusals = ((loading_in_range l ≡ false) × (number ≡ 8) × (cell ≡ 0)) ⊎ ((loading_in_range l ≡ true) × In 2 4 number × TypedCell cell)

      by_row : loading_in_range l ≡ true → (r : Result Member) → accept row ≡ r → Refusals
      by_row within (gives m) given = absurd (let z : ◌≡◌ {A = ℕ} 0 1 = cc (floor_gives l cells m given within) in omega arith)
      by_row within (refuses n c) refused =
          let told : floor_beam l cells ≡ refuses n c = rw (within, refused) in
          let here = subst RowRefused refused (row_refused within) in
          let numbers : n ≡ number = cc in
          let named : c ≡ cell = cc in
          inr (within, rw numbers at here.0, rw named at here.1)

      by_loading : (t : Bool) → loading_in_range l ≡ t → Refusals
      by_loading false outside = inl (outside, cc (loading_first l cells outside), cc (loading_first l cells outside))
      by_loading true within = by_row within (accept row) refl

-- ---- verdicts

-- what a verdict stands on: loads within their ranges, a row that is accepted, and its verdict
pub record FloorJudged (l : Loading) (cells : BeamCells) (v : BeamVerdict) : Type 0 where
  pub member : Member
  pub within : loading_in_range l ≡ true
  pub accepted : accept (beam_row l cells) ≡ gives member
  pub is : v ≡ besides l (verdict member)

pub floor_judged : (l : Loading) (cells : BeamCells) (v : BeamVerdict) → floor_beam l cells ≡ gives v → FloorJudged l cells v
floor_judged l cells v e = by_loading (loading_in_range l) refl
  where
    by_row : loading_in_range l ≡ true → (r : Result Member) → accept (beam_row l cells) ≡ r → FloorJudged l cells v
    by_row within (gives m) given = record { member = m; within = within; accepted = given; is = cc (floor_gives l cells m given within) }
    by_row within (refuses number cell) refused =
        let told : floor_beam l cells ≡ refuses number cell = rw (within, refused) in
        absurd (let z : ◌≡◌ {A = ℕ} 0 1 = cc in omega arith)

    by_loading : (t : Bool) → loading_in_range l ≡ t → FloorJudged l cells v
    by_loading false outside = absurd (let z : ◌≡◌ {A = ℕ} 0 1 = cc (loading_first l cells outside) in omega arith)
    by_loading true within = by_row within (accept (beam_row l cells)) refl

-- check 7, unrounded: k thousandths of the loads' M against the member's moment resistance
abbrev pub BendingAt : ℕ → Loading → Member → Type 0
BendingAt k l m = scaled k (exact_moment_of l) ≼ exact_mrof m

-- check 8, unrounded: k thousandths of the loads' Q against the member's shear resistance
abbrev pub ShearAt : ℕ → Loading → Member → Type 0
ShearAt k l m = scaled k (exact_shear_of l) ≼ exact_shear_capacity m.width m.height (exact_strength Shear m.material)

module _ (l : Loading) (cells : BeamCells) (v : BeamVerdict) (j : FloorJudged l cells v) where
  -- the verdict keeps demand 3 at the loads' own M and Q
  pub judged_keeps : Demand3At j.member (exact_forces_of l) v.verdict floor_factor
  judged_keeps =
      subst (λ (w : BeamVerdict). Demand3At j.member (exact_forces_of l) w.verdict floor_factor) (sym j.is)
      (verdict_keeps l cells j.member j.accepted floor_factor floor_factor_kept)

  of_kind_2 : j.member.kind ≡ Bending
  of_kind_2 = (beam_member l cells j.member j.accepted).kind

  -- A pass: checks 7 and 8 hold at the loads' M and Q, with nothing rounded.
  pub pass_means : v.verdict.passes ≡ true
      → (exact_moment_of l ≼ exact_mrof j.member)
      × (exact_shear_of l ≼ exact_shear_capacity j.member.width j.member.height (exact_strength Shear j.member.material))
  pass_means e = (
    judged_keeps.pass e (strength bending) (record { of_kind = rw of_kind_2 (inl refl); kept = refl }),
    judged_keeps.pass e (strength shear) (record { of_kind = rw of_kind_2 (inr (inl refl)); kept = refl }),
  )

  -- A fail: the check that is named, 7 or 8, fails unrounded at 1.005 times the loads' M and Q.
  abbrev pub FailsAsNamed : Type 0
  FailsAsNamed = ((v.verdict.check ≡ 7) × (BendingAt 1005 l j.member → ⊥)) ⊎ ((v.verdict.check ≡ 8) × (ShearAt 1005 l j.member → ⊥))

  pub fail_means : v.verdict.passes ≡ false → FailsAsNamed
  fail_means e = by judged_keeps.named.0 judged_keeps.named.1 judged_keeps.named.2
    where
      fails : (c : StrengthCheck) → Has j.member (strength c) → v.verdict.check ≡ check_number (strength c)
          → Holds j.member (times 1005 (exact_forces_of l)) (strength c) → ⊥
      fails c has names = judged_keeps.fail (strength c) has (λ low. omega (arith, strength_high c)) (record { fails = e; names = names })

      of_two : (c : StrengthCheck) → Among c (bending ∷ shear ∷ []) → Has j.member (strength c) → v.verdict.check ≡ check_number (strength c) → FailsAsNamed
      of_two c (inl is) has names = inl (rw is at names, fails bending (rw is at has) (rw is at names))
      of_two c (inr (inl is)) has names = inr (rw is at names, fails shear (rw is at has) (rw is at names))
      of_two c (inr (inr none)) has names = absurd none

      by : (c : Check) → Has j.member c → v.verdict.check ≡ check_number c → FailsAsNamed
      by (yes_no c) has names = absurd (rw of_kind_2 at has.of_kind)
      by (strength c) has names = of_two c (rw of_kind_2 at has.of_kind) has names
