-- What acceptance gives: every cell that the kind fills lies in its range, and every code is known.
-- Assumes nothing.
use Prim.Native.Nat.{ℕ, ◌+◌, ◌-◌, ◌≤◌, ◌<◌}
use native.Mathlib.Omega.{arith}
use mathlib.Core.Path.{◌≡◌, refl, sym, ap, ◌∙◌}
use mathlib.Core.Bool.{Bool, true, false, not, cond, ◌&&◌, ◌||◌, beq, and-false, true≢false}
use mathlib.Core.List.{List}
use borrow.Author.Tests.{leb-true, le-leb, eqb-true, ne_eqb}
use lib.Dec.{leb, eqb, lit<, lit≤}
use lib.ListN.{length, get_or, get_or-map}
use Rattle.std.specs.Prelude.{None, Some, Option}
use Rattle.rounding.specs.Range.{In}
use Rattle.cells.specs.Refusal.{Result, gives, refuses}
use Rattle.cells.specs.Row.{cell_count, Cell}
use Rattle.cells.proofs.LowestLaws.{lowest_none, lowest_of_passing}
use Rattle.sp64.specs.Joint.{JointRanges}
use Rattle.sp64.specs.Strength.{material_of}
use Rattle.sp64.specs.Tables.{slenderness_limit}
use Rattle.sp64.proofs.StrengthLaws.{material_known}
use Rattle.sp64.proofs.TableLaws.{limit_in}
use Rattle.member.specs.Acceptance.{begins, misfilled, unknown_code, out_of_range, lowest_cell, is_begun, unless_refused, accept_kind, accept_code, accept_first, accept}
use Rattle.member.specs.Cells.{filled, value_of, within, required, wanted, optional, known_code, compressed, ranges, in_range}
use Rattle.member.specs.Kind.{kind_of}
use Rattle.member.specs.Member.{values_of, value_at, member_of, joint_of}
use Rattle.member.specs.Ranges.{RangesOf}
use Rattle.member.specs.declared.kind.Kind.{Kind}
use Rattle.member.specs.declared.kind.Kind.TheVariants.{Tension, Bending, Compression, CompressionBending, TensionBending}
use Rattle.member.specs.declared.member.Member.{Member}

-- a row in which no cell breaks a rule
pub record Unbroken (kind : Kind) (begun : Bool) (cells : List Cell) : Type 0 where
  pub fill : lowest_cell (misfilled kind begun) cells ≡ 0
  pub code : lowest_cell (unknown_code kind) cells ≡ 0
  pub range : lowest_cell out_of_range cells ≡ 0

-- truth values: what a cell that breaks no rule says
filled_as : (f w : Bool) → w ≡ true → not (beq f w) ≡ false → f ≡ true
filled_as true true e h = refl
filled_as false true e h = sym h
filled_as true false e h = refl
filled_as false false e h = e

pub passes_test : (f t : Bool) → f ≡ true → f && not t ≡ false → t ≡ true
passes_test true true e h = refl
passes_test true false e h = sym h
passes_test false true e h = refl
passes_test false false e h = e

pub both_true : (x y : Bool) → x && y ≡ true → (x ≡ true) × (y ≡ true)
both_true true true e = (refl, refl)
both_true true false e = (refl, e)
both_true false true e = (e, refl)
both_true false false e = (e, e)

same_as_true : (x : Bool) → beq x true ≡ true → x ≡ true
same_as_true true e = refl
same_as_true false e = e

-- where no cell is found that breaks a rule, none does
pub unbroken : (cells : List Cell) → length cells ≡ cell_count → (test : ℕ → Cell → Bool) → lowest_cell test cells ≡ 0 → (k : ℕ) → k < cell_count
    → test (1 + k) (get_or cells k None) ≡ false
unbroken cells whole test e k h = lowest_none test 1 cells (lit< tt) e k None (omega arith)

module _ (kind : Kind) (begun : Bool) (cells : List Cell) (whole : length cells ≡ cell_count) (ok : Unbroken kind begun cells) where
  -- a cell that the kind fills is filled
  filled_at : (k : ℕ) → k < cell_count → wanted kind begun (1 + k) ≡ true → filled (get_or cells k None) ≡ true
  filled_at k h w = filled_as _ _ w (unbroken cells whole (misfilled kind begun) ok.fill k h)

  value_at_lem : (k : ℕ) → get_or (values_of cells) k 0 ≡ value_of (get_or cells k None)
  value_at_lem k = get_or-map value_of cells k None

  -- its value is in its range
  pub cell_in : (k : ℕ) → k < cell_count → wanted kind begun (1 + k) ≡ true → In (get_or ranges k (0, 0)).0 (get_or ranges k (0, 0)).1 (get_or (values_of cells) k 0)
  cell_in k h w =
      let here : in_range (1 + k) (value_of (get_or cells k None)) ≡ true = passes_test _ _ (filled_at k h w) (unbroken cells whole out_of_range ok.range k h) in
      let at : k ≡ 1 + k - 1 = omega arith in
      let inside = ap (λ (i : ℕ). within (get_or ranges i (0, 0)).0 (get_or ranges i (0, 0)).1 (value_of (get_or cells k None))) at ∙ here in
      let b = both_true _ _ inside in
      rw (value_at_lem k) (record { low = leb-true _ _ b.0; high = leb-true _ _ b.1 })

  -- its code is known
  pub code_known : (k : ℕ) → k < cell_count → wanted kind begun (1 + k) ≡ true → known_code kind (1 + k) (get_or (values_of cells) k 0) ≡ true
  code_known k h w = rw (value_at_lem k) (passes_test _ _ (filled_at k h w) (unbroken cells whole (unknown_code kind) ok.code k h))

-- a kind without optional cells begins none
none_begun : (kind : Kind) (cells : List Cell) → ((n : ℕ) → optional kind n ≡ false) → is_begun kind cells ≡ true → ⊥
none_begun kind cells none e =
    let pass : (n : ℕ) (cell : Cell) → begins kind n cell ≡ false = λ n cell. rw (none n) (and-false (filled cell)) in
    true≢false (sym e ∙ rw (lowest_of_passing (begins kind) pass 1 cells) refl)

-- so a joint is begun in kind 1 alone
begun_tension : (kind : Kind) (cells : List Cell) → is_begun kind cells ≡ true → kind ≡ Tension
begun_tension Tension cells e = refl
begun_tension Bending cells e = absurd (none_begun Bending cells (λ n. refl) e)
begun_tension Compression cells e = absurd (none_begun Compression cells (λ n. refl) e)
begun_tension CompressionBending cells e = absurd (none_begun CompressionBending cells (λ n. refl) e)
begun_tension TensionBending cells e = absurd (none_begun TensionBending cells (λ n. refl) e)

holds_first : {a b : Bool} (c : Bool) → a ≡ true → b ≡ true → a && b || c ≡ true
holds_first c h k = rw (h, k)

-- every kind fills cells 1 to 7
first_cells : (kind : Kind) (n : ℕ) → 1 ≤ n → n ≤ 7 → required kind n ≡ true
first_cells Tension n low high = rw (le-leb 1 n low, le-leb n 8 (omega (arith, high))) refl
first_cells Bending n low high = holds_first _ (le-leb _ _ low) (le-leb _ _ (omega (arith, high)))
first_cells Compression n low high = rw (le-leb 1 n low, le-leb n 8 (omega (arith, high))) refl
first_cells CompressionBending n low high = rw (le-leb 1 n low, le-leb n 13 (omega (arith, high))) refl
first_cells TensionBending n low high = rw (le-leb 1 n low, le-leb n 13 (omega (arith, high))) refl

-- a kind that fills cell 11 fills cells 12 and 13
braced_cells : (kind : Kind) → required kind 11 ≡ true → (required kind 12 ≡ true) × (required kind 13 ≡ true)
braced_cells Tension e = (refl, refl)
braced_cells Bending e = (e, e)
braced_cells Compression e = (refl, refl)
braced_cells CompressionBending e = (refl, refl)
braced_cells TensionBending e = (refl, refl)

-- kinds 3 and 4 have a row of Table 16
compressed_row : (kind : Kind) → compressed kind ≡ true → required kind 13 ≡ true
compressed_row Tension e = refl
compressed_row Bending e = e
compressed_row Compression e = refl
compressed_row CompressionBending e = refl
compressed_row TensionBending e = refl

-- the joint of a row that has begun one
joint_in : (kind : Kind) (cells : List Cell) → length cells ≡ cell_count → kind ≡ Tension → Unbroken kind true cells → JointRanges (joint_of (values_of cells))
joint_in kind cells whole e ok =
    let at = cell_in Tension true cells whole (rw e at ok) in
    record {
      side = at 13 (lit< tt) refl;
      diameter = at 14 (lit< tt) refl;
      across = at 15 (lit< tt) refl;
      available = at 16 (lit< tt) refl;
      kc = at 17 (lit< tt) refl;
      ka = at 18 (lit< tt) refl;
      kb = at 19 (lit< tt) refl;
      ke = at 20 (lit< tt) refl;
      km = at 21 (lit< tt) refl;
    }

-- the member of a row in which no cell breaks a rule
module _ (kind : Kind) {begun : Bool} (cells : List Cell) (whole : length cells ≡ cell_count) (is : begun ≡ is_begun kind cells) (ok : Unbroken kind begun cells) where
  abbrev here : Member
  here = member_of kind begun (values_of cells)

  -- a cell that the kind always fills is wanted
  always : (n : ℕ) → required kind n ≡ true → wanted kind begun n ≡ true
  always n e = rw e refl

  first : (n : ℕ) → 1 ≤ n → n ≤ 7 → wanted kind begun n ≡ true
  first n low high = always n (first_cells kind n low high)

  row_known : required kind 13 ≡ true → (leb 1 (slenderness_limit here.table16) ≡ true) × (beq (leb here.table16 3) (compressed kind) ≡ true)
  row_known e = both_true _ _ (code_known kind begun cells whole ok 12 (lit< tt) (always 13 e))

  row_low : compressed kind ≡ true → here.table16 ≤ 3
  row_low e =
      let same = ap (λ (t : Bool). beq (leb here.table16 3) t) (sym e) ∙ (row_known (compressed_row kind e)).1 in
      leb-true _ _ (same_as_true _ same)

  -- it keeps the ranges of its kind
  pub accepted_ranges : RangesOf kind here
  accepted_ranges =
      let at = cell_in kind begun cells whole ok in
      let code = code_known kind begun cells whole ok in
      record {
        sized =
            record {
              material =
                  material_known (get_or (values_of cells) 1 0) (get_or (values_of cells) 2 0) (get_or (values_of cells) 3 0)
                  (leb-true _ _ (code 1 (lit< tt) (first 2 (lit≤ tt) (lit≤ tt))))
                  (leb-true _ _ (code 2 (lit< tt) (first 3 (lit≤ tt) (lit≤ tt))))
                  (at 4 (lit< tt) (first 5 (lit≤ tt) (lit≤ tt)));
              section = record { width = at 5 (lit< tt) (first 6 (lit≤ tt) (lit≤ tt)); height = at 6 (lit< tt) (first 7 (lit≤ tt) (lit≤ tt)) };
            };
        force = λ e. at 7 (lit< tt) (always 8 e);
        moment = λ e. at 8 (lit< tt) (always 9 e);
        braced = λ e.
            record {
              lh = at 10 (lit< tt) (always 11 e);
              lb = at 11 (lit< tt) (always 12 (braced_cells kind e).0);
              limit = limit_in here.table16 (leb-true _ _ (row_known (braced_cells kind e).1).0);
            };
        table16 = row_low;
        tension = λ e. begun_tension kind cells (sym is ∙ e);
        joint = λ e. joint_in kind cells whole (begun_tension kind cells (sym is ∙ e)) (rw e at ok);
      }

-- what acceptance comes to, by the first rule that a cell breaks
module _ (kind : Kind) (cells : List Cell) {begun : Bool} (is : begun ≡ is_begun kind cells) where
  pub fill_refused : {n : ℕ} → n ≡ lowest_cell (misfilled kind begun) cells → (n ≡ 0 → ⊥) → accept_kind kind cells ≡ refuses 2 n
  unfolding accept_kind
  fill_refused e some = rw (← is, ← e, ne_eqb _ _ some)

  pub code_refused : {n : ℕ} → lowest_cell (misfilled kind begun) cells ≡ 0 → n ≡ lowest_cell (unknown_code kind) cells → (n ≡ 0 → ⊥) → accept_kind kind cells ≡ refuses 3 n
  unfolding accept_kind
  code_refused f e some = rw (← is, f, ← e, ne_eqb _ _ some)

  pub range_refused : {n : ℕ} → lowest_cell (misfilled kind begun) cells ≡ 0 → lowest_cell (unknown_code kind) cells ≡ 0 → n ≡ lowest_cell out_of_range cells → (n ≡ 0 → ⊥) → accept_kind kind cells ≡ refuses 4 n
  unfolding accept_kind
  range_refused f c e some = rw (← is, f, c, ← e, ne_eqb _ _ some)

  pub none_refused : Unbroken kind begun cells → accept_kind kind cells ≡ gives (member_of kind begun (values_of cells))
  unfolding accept_kind
  none_refused ok = rw (← is, ok.fill, ok.code, ok.range)

-- what holds of the member of a row that breaks no rule holds of whatever member acceptance gives
module _ (P : Member → Type 0) (cells : List Cell) where
  -- it holds of the member that a result gives, if that gives one
  abbrev HoldsOf : Result Member → Type 0
  HoldsOf (gives m) = P m
  HoldsOf (refuses number cell) = Unit

  -- it holds of the row's member, taken as of this kind, if no cell breaks a rule
  abbrev OfUnbroken : Kind → Type 0
  OfUnbroken kind = Unbroken kind (is_begun kind cells) cells → P (member_of kind (is_begun kind cells) (values_of cells))

  of_unless : (number cell : ℕ) (rest : Result Member) → (cell ≡ 0 → HoldsOf rest) → HoldsOf (unless_refused number cell rest)
  of_unless number cell rest holds = by (eqb cell 0) refl
    where
      by : (t : Bool) → eqb cell 0 ≡ t → HoldsOf (cond t rest (refuses number cell))
      by true e = holds (eqb-true _ _ e)
      by false e = tt

  of_kind : (kind : Kind) → OfUnbroken kind → HoldsOf (accept_kind kind cells)
  unfolding accept_kind
  of_kind kind holds = of_unless 2 _ _ (λ f. of_unless 3 _ _ (λ c. of_unless 4 _ _ (λ r. holds (record { fill = f; code = c; range = r }))))

  of_code : (code : Option Kind) → ((kind : Kind) → OfUnbroken kind) → HoldsOf (accept_code code cells)
  of_code None holds = tt
  of_code (Some kind) holds = of_kind kind (holds kind)

  of_first : (first : Cell) → ((kind : Kind) → OfUnbroken kind) → HoldsOf (accept_first first cells)
  of_first None holds = tt
  of_first (Some code) holds = of_code (kind_of code) holds

  pub of_accepted : ((kind : Kind) → OfUnbroken kind) → (m : Member) → accept cells ≡ gives m → P m
  of_accepted holds m e = rw e at (of_first (get_or cells 0 None) holds)

-- what a row of a known kind gives, where it is not refused, is the member of its cells
pub accepted_member : (kind : Kind) (cells : List Cell) (m : Member) → accept_kind kind cells ≡ gives m → m ≡ member_of kind (is_begun kind cells) (values_of cells)
accepted_member kind cells m e = rw e at (of_kind (λ (m : Member). m ≡ member_of kind (is_begun kind cells) (values_of cells)) cells kind (λ ok. refl))

-- an accepted member is its row's cells by name, for its kind and whether it has a joint
pub accepted_by_name : (cells : List Cell) (m : Member) → accept cells ≡ gives m → m ≡ member_of m.kind m.jointed (values_of cells)
accepted_by_name cells = of_accepted (λ (m : Member). m ≡ member_of m.kind m.jointed (values_of cells)) cells (λ kind ok. refl)

-- so its material follows from cells 2 to 5
pub accepted_material : (cells : List Cell) (m : Member) → accept cells ≡ gives m
    → m.material ≡ material_of (value_at (values_of cells) 2) (value_at (values_of cells) 3) (value_at (values_of cells) 4) (value_at (values_of cells) 5)
accepted_material cells m e = ap (λ (m : Member). m.material) (accepted_by_name cells m e)

-- and its regime is cell 3
pub accepted_regime : (cells : List Cell) (m : Member) → accept cells ≡ gives m → m.regime ≡ value_at (values_of cells) 3
accepted_regime cells m e = ap (λ (m : Member). m.regime) (accepted_by_name cells m e)

-- the member that acceptance gives keeps the ranges of its kind
pub accept_ranges : (cells : List Cell) (m : Member) → length cells ≡ cell_count → accept cells ≡ gives m → RangesOf m.kind m
accept_ranges cells m whole = of_accepted (λ (m : Member). RangesOf m.kind m) cells (λ kind ok. accepted_ranges kind cells whole refl ok) m
