-- Laws of the searches through the cells: what a turn of a search knows, which cells it may pass over, and how the searches of parts follow one another.
-- Assumes nothing.
use Prim.Native.Nat.{ℕ, zero, suc, ◌+◌, ◌-◌, ◌≤◌, ◌<◌}
use native.Mathlib.Nat.{le_refl}
use native.Mathlib.Omega.{arith}
use mathlib.Core.Bool.{Bool, true, false, cond, and-false, not, true≢false}
use mathlib.Core.List.{List}
use mathlib.Core.Path.{◌≡◌, refl, sym, ap, ◌∙◌}
use lib.Dec.{eqb}
use lib.ListN.{length, get_or, take}
use borrow.Author.Tests.{eq-eqb, eqb-true, ne_eqb}
use Rattle.std.specs.Prelude.{None, Some, Option}
use Rattle.std.specs.Option.{is_some, option_or, MatchOption}
use Rattle.std.proofs.lemmas.List.{get_or-take, length-take-le, take_all}
use Rattle.cells.specs.Row.{cell_count, Cell, cells_of, row_of}
use Rattle.cells.specs.declared.row.Row.{Row}
use Rattle.cells.proofs.LowestLaws.{lowest_step, lowest_end}
use Rattle.member.specs.Acceptance.{unknown_code, lowest_cell}
use Rattle.member.specs.Cells.{filled}
use Rattle.member.specs.declared.kind.Kind.{Kind}
use Rattle.acceptance.specs.Search.{cell_found, search_from, search_between}

-- A place of a search: what is looked for, n, is what is left from place i on, where the code's test b of the cell has the outcome t. `search_step` says it of a part.
pub turn : (test : ℕ → Cell → Bool) (row : Row) {n : ℕ} (i : ℕ) {b : Bool} (t : Bool) → i < length (cells_of row)
    → n ≡ search_from test (cells_of row) i
    → b ≡ test (i + 1) (get_or row.cells i None)
    → b ≡ t
    → n ≡ cond t (i + 1) (search_from test (cells_of row) (i + 1))
turn test row i t inside come found outcome = come ∙ lowest_step test (cells_of row) i (i + 1) None t inside (sym found ∙ outcome)

-- a search passes over k cells of which its test is false
passed : (test : ℕ → Cell → Bool) (row : Row) (k i : ℕ) → i + k ≤ length (cells_of row)
    → ((j : ℕ) → i ≤ j → j < i + k → test (j + 1) (get_or row.cells j None) ≡ false)
    → search_from test (cells_of row) i ≡ search_from test (cells_of row) (i + k)
passed test row zero i inside keep = let e : i ≡ i + 0 = omega arith in ap (search_from test (cells_of row)) e
passed test row (suc k) i inside keep =
    let e : i + 1 + k ≡ i + suc k = omega arith in
    turn test row i false (omega arith) refl refl (keep i (omega arith) (omega arith))
    ∙ passed test row k (i + 1) (omega arith) (λ j low high. keep j (omega (arith, low)) (omega (arith, high)))
    ∙ ap (search_from test (cells_of row)) e

-- a search of a row for the lowest cell of which a test is true
module _ (test : ℕ → Cell → Bool) (cells : List Cell) (whole : length cells ≡ cell_count) where
  -- it has come to place i, where the test has the outcome t
  pub search_step : (i to : ℕ) (t : Bool) → i < to → to ≤ cell_count → test (i + 1) (get_or cells i None) ≡ t
      → search_between test cells i to ≡ cond t (Some (i + 1)) (search_between test cells (i + 1) to)
  unfolding search_between
  search_step i to t inside part e =
      let inside' : i < length (take to cells) = omega (arith, length-take-le to cells (omega arith)) in
      let at : test (i + 1) (get_or (take to cells) i None) ≡ t = ap (test (i + 1)) (get_or-take to cells i None inside) ∙ e in
      ap cell_found (turn test (row_of (take to cells)) i t inside' refl refl at) ∙ by t
    where
      by : (t : Bool) → cell_found (cond t (i + 1) (search_from test (take to cells) (i + 1))) ≡ cond t (Some (i + 1)) (search_between test cells (i + 1) to)
      by true = rw (ne_eqb (i + 1) 0 (λ e. omega (arith, e)))
      by false = refl

  -- it has come to the end
  pub search_end : (i to : ℕ) → to ≤ i → to ≤ cell_count → search_between test cells i to ≡ None
  unfolding search_between
  search_end i to past part =
      let past' : length (take to cells) ≤ i = omega (arith, length-take-le to cells (omega arith)) in
      ap cell_found (lowest_end test (take to cells) i (i + 1) past')

  -- a part of k cells before another: what the first has is the lowest of both, and where it has none, what the second has
  join : (k from to : ℕ) → from + k ≤ to → to ≤ cell_count → search_between test cells from to ≡ option_or (search_between test cells from (from + k)) (search_between test cells (from + k) to)
  join zero from to inside part =
      let e : from ≡ from + 0 = omega arith in
      let none = search_end from (from + 0) (omega arith) (omega arith) in
      ap (λ (i : ℕ). search_between test cells i to) e ∙ sym (ap (λ (o : Option ℕ). option_or o (search_between test cells (from + 0) to)) none)
  join (suc k) from to inside part =
      rw (search_step from to t (omega arith) part refl, search_step from (from + suc k) t (omega arith) (omega arith) refl)
      (by t (let e : from + 1 + k ≡ from + suc k = omega arith in rw e at (join k (from + 1) to (omega arith) part)))
    where
      t : Bool
      t = test (from + 1) (get_or cells from None)

      by : (t : Bool)
          → search_between test cells (from + 1) to ≡ option_or (search_between test cells (from + 1) (from + suc k)) (search_between test cells (from + suc k) to)
          → cond t (Some (from + 1)) (search_between test cells (from + 1) to)
          ≡ option_or (cond t (Some (from + 1)) (search_between test cells (from + 1) (from + suc k))) (search_between test cells (from + suc k) to)
      by true later = refl
      by false later = later

  pub joined : (from mid to : ℕ) → from ≤ mid → mid ≤ to → to ≤ cell_count → search_between test cells from to ≡ option_or (search_between test cells from mid) (search_between test cells mid to)
  joined from mid to low high part = let e : from + (mid - from) ≡ mid = omega arith in rw e at (join (mid - from) from to (omega arith) part)

  -- so a part is searched by the parts that it is made of
  pub next_part : {from mid to : ℕ} {first result : Option ℕ} → first ≡ search_between test cells from mid
      → result ≡ option_or first (search_between test cells mid to)
      → from ≤ mid → mid ≤ to → to ≤ cell_count
      → result ≡ search_between test cells from to
  next_part {from} {mid} {to} found later low high part = later ∙ ap (λ (o : Option ℕ). option_or o (search_between test cells mid to)) found ∙ sym (joined from mid to low high part)

  -- a part of which the test is false
  none_in : (from to : ℕ) → from ≤ to → to ≤ cell_count → ((j : ℕ) → from ≤ j → j < to → test (j + 1) (get_or cells j None) ≡ false) → search_between test cells from to ≡ None
  unfolding search_between
  none_in from to low part keep =
      let e : from + (to - from) ≡ to = omega arith in
      let inside : from + (to - from) ≤ length (take to cells) = omega (arith, length-take-le to cells (omega arith)) in
      ap cell_found
      (passed test (row_of (take to cells)) (to - from) from inside
      (λ j above below. ap (test (j + 1)) (get_or-take to cells j None (omega (arith, below))) ∙ keep j above (omega (arith, below))))
      ∙ ap (λ (i : ℕ). cell_found (search_from test (take to cells) i)) e
      ∙ search_end to to (le_refl to) part

  -- the whole row
  pub whole_row : search_between test cells 0 cell_count ≡ cell_found (lowest_cell test cells)
  unfolding search_between
  whole_row = ap (λ (l : List Cell). cell_found (lowest_cell test l)) (take_all cell_count cells (omega (arith, whole)))

-- the code's `or_else`, where the second search answers `rest`
pub or_later : (first rest result : Option ℕ) {P : Type 0} → (P → result ≡ rest) → MatchOption first P (λ x. result ≡ Some x) → result ≡ option_or first rest
or_later None rest result later e = later e
or_later (Some n) rest result later e = e

-- whether a number of a cell is one
pub some_found : (n : ℕ) → is_some (cell_found n) ≡ not (eqb n 0)
some_found n = by (eqb n 0)
  where
    by : (t : Bool) → is_some (cond t None (Some n)) ≡ not t
    by true = refl
    by false = refl

-- only cells 2, 3 and 13 have codes
abbrev NoCode : ℕ → Type 0
NoCode n = (n ≡ 2 → ⊥) × (n ≡ 3 → ⊥) × (n ≡ 13 → ⊥)

no_code : (kind : Kind) (n : ℕ) (cell : Cell) → NoCode n → unknown_code kind n cell ≡ false
no_code kind n cell other = rw (ne_eqb n 2 other.0, ne_eqb n 3 other.1, ne_eqb n 13 other.2) (and-false (filled cell))

or_none : (o : Option ℕ) → option_or o None ≡ o
or_none None = refl
or_none (Some n) = refl

-- so the search for an unknown code is settled by the tests of these three
module _ (kind : Kind) (cells : List Cell) (whole : length cells ≡ cell_count) where
  abbrev codes_from : ℕ → ℕ
  codes_from = search_from (unknown_code kind) cells

  over : (k i : ℕ) → i + k ≤ cell_count → ((n : ℕ) → i < n → n ≤ i + k → NoCode n) → codes_from i ≡ codes_from (i + k)
  over k i inside other =
      passed (unknown_code kind) (row_of cells) k i (omega (arith, whole))
      (λ j low high. no_code kind (j + 1) (get_or cells j None) (other (j + 1) (omega (arith, low)) (omega (arith, high))))

  at : (i : ℕ) (t : Bool) → i < cell_count → unknown_code kind (i + 1) (get_or cells i None) ≡ t → codes_from i ≡ cond t (i + 1) (codes_from (i + 1))
  at i t inside e = turn (unknown_code kind) (row_of cells) i t (omega (arith, whole)) refl refl e

  pub search_codes : (t2 t3 t13 : Bool)
      → unknown_code kind 2 (get_or cells 1 None) ≡ t2
      → unknown_code kind 3 (get_or cells 2 None) ≡ t3
      → unknown_code kind 13 (get_or cells 12 None) ≡ t13
      → lowest_cell (unknown_code kind) cells ≡ cond t2 2 (cond t3 3 (cond t13 13 0))
  search_codes t2 t3 t13 e2 e3 e13 =
      let first : codes_from 0 ≡ codes_from 1 = over 1 0 (omega arith) (λ n low high. (λ e. omega arith, λ e. omega arith, λ e. omega arith)) in
      let between : codes_from 3 ≡ codes_from 12 = over 9 3 (omega arith) (λ n low high. (λ e. omega arith, λ e. omega arith, λ e. omega arith)) in
      let last : codes_from 13 ≡ codes_from cell_count = over (cell_count - 13) 13 (omega arith) (λ n low high. (λ e. omega arith, λ e. omega arith, λ e. omega arith)) in
      let none : codes_from cell_count ≡ 0 = lowest_end (unknown_code kind) cells cell_count (cell_count + 1) (omega (arith, whole)) in
      rw (first, at 1 t2 (omega arith) e2, at 2 t3 (omega arith) e3, between, at 12 t13 (omega arith) e13, last, none)

  -- two parts of which the first has cells 2 and 3 and the second cell 13: the search of both is that of the row
  abbrev codes : ℕ → ℕ → Option ℕ
  codes = search_between (unknown_code kind) cells

  without : (from to : ℕ) → from ≤ to → to ≤ cell_count → ((n : ℕ) → from < n → n ≤ to → NoCode n) → codes from to ≡ None
  without from to low part other =
      none_in (unknown_code kind) cells whole from to low part
      (λ j above below. no_code kind (j + 1) (get_or cells j None) (other (j + 1) (omega (arith, above)) (omega (arith, below))))

  pub codes_in_parts : {a b c d : ℕ} {first result : Option ℕ} → first ≡ codes a b → result ≡ option_or first (codes c d)
      → a ≤ 1 → 3 ≤ b → b ≤ c → c ≤ 12 → 13 ≤ d → d ≤ cell_count → result ≡ cell_found (lowest_cell (unknown_code kind) cells)
  codes_in_parts {a} {b} {c} {d} found later ha hb bc hc hd dn =
      let join : (from mid to : ℕ) → from ≤ mid → mid ≤ to → to ≤ cell_count → codes from to ≡ option_or (codes from mid) (codes mid to) =
      λ from mid to low high part. joined (unknown_code kind) cells whole from mid to low high part in
      let before : codes 0 cell_count ≡ codes a cell_count =
      join 0 a cell_count (omega arith) (omega arith) (omega arith)
      ∙ ap (λ (o : Option ℕ). option_or o (codes a cell_count)) (without 0 a (omega arith) (omega arith) (λ n low high. (λ e. omega arith, λ e. omega arith, λ e. omega arith))) in
      let between : codes b cell_count ≡ codes c cell_count =
      join b c cell_count bc (omega arith) (omega arith)
      ∙ ap (λ (o : Option ℕ). option_or o (codes c cell_count)) (without b c bc (omega arith) (λ n low high. (λ e. omega arith, λ e. omega arith, λ e. omega arith))) in
      let last : codes c cell_count ≡ codes c d =
      join c d cell_count (omega arith) dn (omega arith)
      ∙ ap (option_or (codes c d)) (without d cell_count dn (omega arith) (λ n low high. (λ e. omega arith, λ e. omega arith, λ e. omega arith)))
      ∙ or_none (codes c d) in
      next_part (unknown_code kind) cells whole {to = cell_count} found (later ∙ ap (option_or _) (sym (between ∙ last))) (omega arith) (omega arith) (omega arith)
      ∙ sym before
      ∙ whole_row (unknown_code kind) cells whole

-- a search that finds a cell finds that of its number, which is not 0
pub found_some : {o : Option ℕ} {n m : ℕ} → o ≡ cell_found n → o ≡ Some m → (m ≡ n) × (m ≡ 0 → ⊥)
found_some {n = n} {m = m} found some = by (eqb n 0) refl (sym found ∙ some)
  where
    by : (t : Bool) → eqb n 0 ≡ t → cond t None (Some n) ≡ Some m → (m ≡ n) × (m ≡ 0 → ⊥)
    by true e is = absurd (let z : true ≡ false = cc in true≢false z)
    by false e is = let same : n ≡ m = cc in (sym same, λ zero. true≢false (sym (eq-eqb n 0 (same ∙ zero)) ∙ e))

-- and one that finds none finds number 0
pub found_none : {o : Option ℕ} {n : ℕ} → o ≡ cell_found n → o ≡ None → n ≡ 0
found_none {n = n} found none = by (eqb n 0) refl (sym found ∙ none)
  where
    by : (t : Bool) → eqb n 0 ≡ t → cond t None (Some n) ≡ None → n ≡ 0
    by true e is = eqb-true n 0 e
    by false e is = absurd (let z : true ≡ false = cc in true≢false z)
