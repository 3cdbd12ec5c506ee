-- What reading means: a cell reads n exactly where its float equals n, as `x == n as f64` has it, and n is below 2 ^ 34; it is unreadable exactly where
-- there is no such n; and of unreadable cells the lowest is named.
-- Assumes nothing.
use mathlib.Core.Path.{◌≡◌, refl, sym, ap, ◌∙◌, subst}
use mathlib.Core.Logic.{inl, inr, ◌↔◌}
use Prim.Native.Nat.{ℕ, ◌+◌, ◌*◌, ◌/◌, ◌%◌, ◌^◌, ◌<◌}
use native.Mathlib.Nat.{eq_of_mul-eq-mul_right, mul_right_comm, mul-mod_left, mul-div_cancel, div-add-mod', mul-one, zero-mul}
use native.Mathlib.Omega.{arith}
use mathlib.Core.Bool.{Bool, true, false, not, cond, ◌&&◌, ◌||◌, beq, true≢false}
use mathlib.Core.List.{List, [], ◌∷◌}
use lib.Dec.{T, eqb, ltb, eqb→eq, ltb→lt}
use lib.ListN.{length, get_or}
use lib.Ieee.{Float, nan, inf, fin, up, down, eq, of_fields, of_bits}
use lib.Ieee.Bits.{is_true}
use lib.Ieee.Exact.{HasValue}
use lib.Ieee.Fits.{eq→eqb, down_pos, and_l, and_r, and_i}
use borrow.Author.Tests.{lt-ltb, eq-eqb, ne_eqb}
use Rattle.std.specs.Prelude.{None, Some, Ok, Err}
use Rattle.cells.specs.HostBytes.{whole_float}
use Rattle.worksheet.specs.HostRow.{host_cell_at, read_host_row}
use Rattle.worksheet.specs.Number.{read_fraction, read_number, Reading}
use Rattle.worksheet.specs.Reading.{read_cell, is_unreadable, lowest_unreadable, read_cells}
use Rattle.cells.specs.Refusal.{refuses}
use Rattle.worksheet.specs.declared.host_cell.HostCell.{HostCell}
use Rattle.worksheet.specs.declared.host_cell.HostCell.TheVariants.{Blank as Empty}
use Rattle.worksheet.specs.declared.host_cell.ReadError.TheVariants.{NotWhole}
use Rattle.cells.proofs.FloatLaws.{whole_exact}
use Rattle.cells.proofs.LowestLaws.{FailsAt, lowest_meaning}
use Rattle.worksheet.proofs.NumberLaws.{same_bool, value_reads, is_whole}
use Rattle.worksheet.proofs.ReadingLaws.{read_given, read_refused}

-- the test x == y, where y has the value n
equal_test : (s : Bool) (m : ℕ) (e : _) (y : Float) (n : ℕ) → HasValue y false n 1
    → eq (fin s m e) y ≡ (eqb (m * up e) (n * down e) && (not s || eqb (m * up e) 0))
unfolding eq
equal_test s m e nan n h = absurd h
equal_test s m e (inf t) n h = absurd h
equal_test s m e (fin true q d) n h = absurd (true≢false h.0)
equal_test s m e (fin false q d) n h =
    let a = m * up e in
    let v : q * up d * down e ≡ n * down e * down d =
    ap (λ (x : ℕ). x * down e) (sym (mul-one (q * up d)) ∙ h.1) ∙ mul_right_comm n (down d) (down e) in
    let p : eqb (a * down d) (q * up d * down e) ≡ eqb a (n * down e) = same_bool _ _
    (λ t. eq→eqb (eq_of_mul-eq-mul_right (down d) (down_pos d) a (n * down e) (eqb→eq (a * down d) (q * up d * down e) t ∙ v)))
    (λ t. eq→eqb (ap (λ (x : ℕ). x * down d) (eqb→eq a (n * down e) t) ∙ sym v)) in
    let z : eqb (a * down d) 0 ≡ eqb a 0 = same_bool _ _
    (λ t. eq→eqb (eq_of_mul-eq-mul_right (down d) (down_pos d) a 0 (eqb→eq (a * down d) 0 t ∙ sym (zero-mul (down d)))))
    (λ t. eq→eqb (ap (λ (x : ℕ). x * down d) (eqb→eq a 0 t) ∙ zero-mul (down d))) in
    rw (p, z, same_sign s)
  where
    same_sign : (s : Bool) → beq s false ≡ not s
    same_sign true = refl
    same_sign false = refl

read_by : (t : Bool) (k n : ℕ) → cond t (Ok (Some k)) (Err NotWhole) ≡ Ok (Some n) → T t × (k ≡ n)
read_by true k n h = (tt, cc)
read_by false k n h = absurd (let z : ◌≡◌ {A = ℕ} 0 1 = cc in omega arith)

-- a fraction a / c that reads as n equals n
fraction_reads : (s : Bool) (a c n : ℕ) → read_fraction s a c ≡ Ok (Some n) → (n < 2 ^ 34) × T (eqb a (n * c) && (not s || eqb a 0))
unfolding read_fraction
fraction_reads s a c n h =
    let z = eqb (a % c) 0 in
    let g = not s || eqb a 0 in
    let l = ltb (a / c) (2 ^ 34) in
    let w = read_by (z && g && l) (a / c) n h in
    let q : a / c ≡ n = w.1 in
    let r : a % c ≡ 0 = eqb→eq (a % c) 0 (and_l z g (and_l (z && g) l w.0)) in
    let b : a / c < 2 ^ 34 = ltb→lt (a / c) (2 ^ 34) (and_r (z && g) l w.0) in
    let v : a ≡ a / c * c = omega (arith, div-add-mod' a c) in
    (omega arith, and_i (eqb a (n * c)) g (eq→eqb (v ∙ ap (λ (x : ℕ). x * c) q)) (and_r z g (and_l (z && g) l w.0)))

-- and one that equals n, below 2 ^ 34, reads as n
reads_fraction : (s : Bool) (a c n : ℕ) → 0 < c → n < 2 ^ 34 → T (eqb a (n * c) && (not s || eqb a 0)) → read_fraction s a c ≡ Ok (Some n)
unfolding read_fraction
reads_fraction s a c n C h t =
    let g = not s || eqb a 0 in
    let v : a ≡ n * c = eqb→eq a (n * c) (and_l (eqb a (n * c)) g t) in
    let q : a / c ≡ n = ap (λ (x : ℕ). x / c) v ∙ mul-div_cancel n C in
    let r : a % c ≡ 0 = ap (λ (x : ℕ). x % c) v ∙ mul-mod_left n c in
    rw (eq-eqb _ _ r, is_true g (and_r (eqb a (n * c)) g t), q, lt-ltb _ _ h)

reads_then_equal : (x : Float) (n : ℕ) → read_number x ≡ Ok (Some n) → (n < 2 ^ 34) × T (eq x (whole_float n))
unfolding read_number
reads_then_equal nan n h = absurd (let z : ◌≡◌ {A = ℕ} 0 1 = cc in omega arith)
reads_then_equal (inf s) n h = absurd (let z : ◌≡◌ {A = ℕ} 0 1 = cc in omega arith)
reads_then_equal (fin s m e) n h =
    let w = fraction_reads s (m * up e) (down e) n h in
    (w.0, subst T (sym (equal_test s m e (whole_float n) n (whole_exact n (omega (arith, w.0))))) w.1)

equal_then_reads : (x : Float) (n : ℕ) → n < 2 ^ 34 → T (eq x (whole_float n)) → read_number x ≡ Ok (Some n)
unfolding read_number
equal_then_reads nan n h t = absurd (unfold eq in t)
equal_then_reads (inf s) n h t = absurd (no_inf s (whole_float n) n (whole_exact n (omega arith)) t)
  where
    no_inf : (s : Bool) (y : Float) (n : ℕ) → HasValue y false n 1 → T (eq (inf s) y) → ⊥
    no_inf s nan n v t = v
    no_inf s (inf u) n v t = v
    no_inf s (fin u q d) n v t = unfold eq in t
equal_then_reads (fin s m e) n h t =
    reads_fraction s (m * up e) (down e) n (down_pos e) h (subst T (equal_test s m e (whole_float n) n (whole_exact n (omega arith))) t)

-- A float reads n exactly where it equals n and n is below 2 ^ 34.
pub reads_iff : (x : Float) (n : ℕ) → (read_number x ≡ Ok (Some n)) ↔ ((n < 2 ^ 34) × T (eq x (whole_float n)))
reads_iff x n = (reads_then_equal x n, λ h. equal_then_reads x n h.0 h.1)

never_blank : (x : Float) → read_number x ≡ Ok None → ⊥
unfolding read_number read_fraction
never_blank nan h = let z : ◌≡◌ {A = ℕ} 0 1 = cc in omega arith
never_blank (inf s) h = let z : ◌≡◌ {A = ℕ} 0 1 = cc in omega arith
never_blank (fin s m e) h = by (eqb (m * up e % down e) 0 && (not s || eqb (m * up e) 0) && ltb (m * up e / down e) (2 ^ 34)) h
  where
    by : (t : Bool) → cond t (Ok (Some (m * up e / down e))) (Err NotWhole) ≡ Ok None → ⊥
    by true h = let z : ◌≡◌ {A = ℕ} 0 1 = cc in omega arith
    by false h = let z : ◌≡◌ {A = ℕ} 0 1 = cc in omega arith

-- A float is unreadable exactly where it equals no whole number below 2 ^ 34.
pub unreadable_iff : (x : Float) → (read_number x ≡ (Err NotWhole)) ↔ ((n : ℕ) → n < 2 ^ 34 → T (eq x (whole_float n)) → ⊥)
unreadable_iff x = (
  λ u n h t.
      let w : read_number x ≡ Ok (Some n) = equal_then_reads x n h t in
      let z : ◌≡◌ {A = ℕ} 0 1 = cc in
      omega arith,
  λ none. by none (read_number x) refl,
)
  where
    by : ((n : ℕ) → n < 2 ^ 34 → T (eq x (whole_float n)) → ⊥) → (r : Reading) → read_number x ≡ r → r ≡ (Err NotWhole)
    by none (Ok None) e = absurd (never_blank x e)
    by none (Ok (Some n)) e = let w = reads_then_equal x n e in absurd (none n w.0 w.1)
    by none (Err NotWhole) e = refl

-- Every whole number below 2 ^ 34 reads as itself.
pub reads_back : (n : ℕ) → n < 2 ^ 34 → read_number (whole_float n) ≡ Ok (Some n)
reads_back n h =
    let q : n / 1 ≡ n = omega arith in
    value_reads (whole_float n) false n 1 (omega arith) (whole_exact n (omega arith))
    ∙ is_whole n 1 (omega arith) (subst (λ (k : ℕ). k < 2 ^ 34) (sym q) h)
    ∙ ap (λ (k : ℕ). Ok (Some k)) q

-- A first byte that is neither 0 nor 1 makes the host's cell unreadable.
pub bad_tag_unreadable : (bytes : List ℕ) (at : ℕ) → (get_or bytes at 0 ≡ 0 → ⊥) → (get_or bytes at 0 ≡ 1 → ⊥) → read_cell (host_cell_at bytes at) ≡ (Err NotWhole)
unfolding host_cell_at read_number
bad_tag_unreadable bytes at a b = rw (ne_eqb _ _ a, ne_eqb _ _ b)

-- The test of a search finds a cell unreadable exactly where it is.
pub told_unreadable : (r : Reading) → (is_unreadable r ≡ true) ↔ (r ≡ (Err NotWhole))
told_unreadable (Ok cell) = (λ t. absurd (true≢false (sym t)), λ e. absurd (let z : ◌≡◌ {A = ℕ} 0 1 = cc in omega arith))
told_unreadable (Err NotWhole) = (λ t. refl, λ e. refl)

-- A refusal of reading is refusal 1 and names a cell that is unreadable, while every cell below it is readable.
pub lowest_named : (cells : List HostCell) (number cell : ℕ) → read_cells cells ≡ refuses number cell
    → (number ≡ 1) × (i : ℕ) × (cell ≡ 1 + i) × FailsAt (λ (n : ℕ) (c : HostCell). is_unreadable (read_cell c)) 1 cells i
lowest_named cells number cell h = elim (lowest_meaning (λ (n : ℕ) (c : HostCell). is_unreadable (read_cell c)) 1 cells) [
  | inl p ↦ absurd (let g = sym h ∙ read_given cells p.none in let z : ◌≡◌ {A = ℕ} 0 1 = cc in omega arith)
  | inr (i, f) ↦
      let named : lowest_unreadable cells ≡ i + 1 = f.found ∙ (let e : 1 + i ≡ i + 1 = omega arith in e) in
      let g : refuses number cell ≡ refuses 1 (i + 1) = sym h ∙ read_refused cells i named in
      let a : number ≡ 1 = cc in
      let b : cell ≡ i + 1 = cc in
      (a, i, b ∙ (let e : i + 1 ≡ 1 + i = omega arith in e), f)
]

-- The host's bytes of a cell that holds 1.
pub one_from_bytes : read_cell (host_cell_at (1 ∷ 0 ∷ 0 ∷ 0 ∷ 0 ∷ 0 ∷ 0 ∷ 0xf0 ∷ 0x3f ∷ []) 0) ≡ Ok (Some 1)
unfolding host_cell_at read_number read_fraction of_bits of_fields
one_from_bytes = refl

-- A row of another length than 198 bytes is refused, tied to no cell.
pub another_length : (bytes : List ℕ) → (length bytes ≡ 198 → ⊥) → read_host_row bytes ≡ refuses 1 0
another_length bytes other = rw (ne_eqb (length bytes) _ other)

-- A blank cell reads as blank.
pub blank_stays : read_cell Empty ≡ Ok None
blank_stays = refl

-- A first byte of 0 makes it blank, whatever its other bytes.
pub blank_whatever_follows : (bytes : List ℕ) (at : ℕ) → get_or bytes at 0 ≡ 0 → host_cell_at bytes at ≡ Empty
unfolding host_cell_at
blank_whatever_follows bytes at h = rw (eq-eqb _ _ h)
