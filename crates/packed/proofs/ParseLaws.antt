-- Laws of parsing: the bits of cells parse to these cells, and a parse tells how its bits begin.
-- Assumes nothing.
use mathlib.Core.Path.{◌≡◌, refl, sym, ap, ap₂, ◌∙◌}
use Prim.Native.Nat.{ℕ, zero, suc, ◌+◌, ◌^◌, ◌≤◌, suc-le-suc}
use native.Mathlib.Nat.{mod-eq_of_lt}
use native.Mathlib.Omega.{arith}
use mathlib.Core.List.{List, [], ◌∷◌, ◌++◌, append_assoc}
use mathlib.Core.Bool.{Bool, true, false, cond}
use lib.ListN.{length, drop, replicate, length-append, take-append-drop}
use lib.Seq.{drop_at, drop-append-le}
use lib.Dec.{leb}
use borrow.Author.Tests.{le-leb, leb-true, lt-ltb}
use Rattle.std.specs.Prelude.{None, Some}
use Rattle.cells.specs.Row.{value_bits, Cell}
use Rattle.cells.specs.Lowest.{lowest}
use Rattle.cells.specs.Refusal.{Result, gives, refuses}
use Rattle.packed.specs.Bits.{bits, number}
use Rattle.packed.specs.Packing.{cell_bits, row_bits}
use Rattle.packed.specs.Unpacking.{before, parse, any_set}
use Rattle.packed.proofs.BitLaws.{length_bits, number_bits, number_front, number_lt, bits_number}
use Rattle.packed.proofs.CellLaws.{wide_cell, narrow_lt, NoneTooWide}

-- ---- there

-- the bits of narrow cells, whatever follows them, parse to these cells
pub parse_cells : (cells : List Cell) (i : ℕ) (rest : List Bool)
    → NoneTooWide cells
    → parse (length cells) i (row_bits cells ++ rest) ≡ gives (cells, rest)
unfolding parse row_bits before cell_bits
parse_cells [] i rest narrow = refl
parse_cells (None ∷ cells) i rest narrow = rw (parse_cells cells (suc i) rest (λ k h. narrow (suc k) (suc-le-suc h)))
parse_cells (Some value ∷ cells) i rest narrow =
    let enough : value_bits ≤ length (bits value_bits value ++ (row_bits cells ++ rest)) = simp (length-append, length_bits) (omega arith) in
    rw (
      append_assoc (bits value_bits value) (row_bits cells) rest,
      le-leb _ _ enough,
      number_bits value_bits value (row_bits cells ++ rest),
      drop_at (bits value_bits value) (row_bits cells ++ rest) value_bits (length_bits value_bits value),
      parse_cells cells (suc i) rest (λ k h. narrow (suc k) (suc-le-suc h)),
    )
    (ap (λ (v : ℕ). gives (Some v ∷ cells, rest)) (mod-eq_of_lt (narrow_lt value (narrow 0 (omega arith)))))

-- ---- and back

-- what a parse of n cells tells: bs is the bits of the cells and then the rest, there are n cells, and none is too wide
pub record Parses (n : ℕ) (bs : List Bool) (cells : List Cell) (rest : List Bool) : Type 0 where
  pub split : bs ≡ row_bits cells ++ rest
  pub long : length cells ≡ n
  pub narrow : (i : ℕ) → lowest wide_cell i cells ≡ 0

-- the same of a parse that may have refused
abbrev pub IfParsed : ℕ → List Bool → Result (List Cell × List Bool) → Type 0
IfParsed n bs (gives (cells, rest)) = Parses n bs cells rest
IfParsed n bs (refuses number cell) = Unit {0}

-- one blank more
parsed_blank : (n : ℕ) (bs : List Bool) (later : Result (List Cell × List Bool)) → IfParsed n bs later → IfParsed (suc n) (false ∷ bs) (before None later)
unfolding before row_bits cell_bits lowest
parsed_blank n bs (gives (cells, rest)) h =
    record {
      split = ap (λ (l : List Bool). false ∷ l) h.split;
      long = ap suc h.long;
      narrow = λ i. h.narrow (i + 1);
    }
parsed_blank n bs (refuses number cell) h = tt

-- one whole number more
parsed_whole : (n : ℕ) (bs : List Bool) (later : Result (List Cell × List Bool)) → value_bits ≤ length bs → IfParsed n (drop value_bits bs) later
    → IfParsed (suc n) (true ∷ bs) (before (Some (number value_bits bs)) later)
unfolding before row_bits cell_bits lowest
parsed_whole n bs (gives (cells, rest)) enough h =
    record {
      split =
          ap (λ (l : List Bool). true ∷ l)
          (sym (take-append-drop value_bits bs)
          ∙ ap₂ (λ (front back : List Bool). front ++ back) (sym (bits_number value_bits bs enough)) h.split
          ∙ sym (append_assoc (bits value_bits (number value_bits bs)) (row_bits cells) rest));
      long = ap suc h.long;
      narrow = λ i. rw (lt-ltb (number value_bits bs) (2 ^ value_bits) (number_lt value_bits bs)) (h.narrow (i + 1));
    }
parsed_whole n bs (refuses number cell) enough h = tt

-- what every parse tells
pub parse_tells : (n i : ℕ) (bs : List Bool) → IfParsed n bs (parse n i bs)
unfolding parse row_bits lowest
parse_tells zero i bs = record { split = refl; long = refl; narrow = λ i. refl }
parse_tells (suc n) i [] = tt
parse_tells (suc n) i (false ∷ bs) = parsed_blank n bs (parse n (suc i) bs) (parse_tells n (suc i) bs)
parse_tells (suc n) i (true ∷ bs) = by (leb value_bits (length bs)) refl (parse_tells n (suc i) (drop value_bits bs))
  where
    by : (t : Bool) → leb value_bits (length bs) ≡ t → IfParsed n (drop value_bits bs) (parse n (suc i) (drop value_bits bs))
        → IfParsed (suc n) (true ∷ bs) (cond t (before (Some (number value_bits bs)) (parse n (suc i) (drop value_bits bs))) (refuses 6 i))
    by true e h = parsed_whole n bs (parse n (suc i) (drop value_bits bs)) (leb-true value_bits (length bs) e) h
    by false e h = tt

-- ---- with more bits behind

-- what a parse tells of one with more bits behind: it gives the same cells, and the further bits after the rest; or it was cut off
abbrev pub Extends : List Bool → Result (List Cell × List Bool) → Result (List Cell × List Bool) → Type 0
Extends more (gives (cells, rest)) longer = longer ≡ gives (cells, rest ++ more)
Extends more (refuses number cell) longer = number ≡ 6

-- one cell more
extends_before : (more : List Bool) (cell : Cell) (parsed longer : Result (List Cell × List Bool)) → Extends more parsed longer
    → Extends more (before cell parsed) (before cell longer)
unfolding before
extends_before more cell (gives (cells, rest)) longer h = ap (before cell) h
extends_before more cell (refuses number named) longer h = h

-- every parse does
pub parse_extends : (n i : ℕ) (bs more : List Bool) → Extends more (parse n i bs) (parse n i (bs ++ more))
unfolding parse
parse_extends zero i bs more = refl
parse_extends (suc n) i [] more = refl
parse_extends (suc n) i (false ∷ bs) more = extends_before more None (parse n (suc i) bs) (parse n (suc i) (bs ++ more)) (parse_extends n (suc i) bs more)
parse_extends (suc n) i (true ∷ bs) more = by (leb value_bits (length bs)) refl (parse_extends n (suc i) (drop value_bits bs) more)
  where
    by : (t : Bool) → leb value_bits (length bs) ≡ t → Extends more (parse n (suc i) (drop value_bits bs)) (parse n (suc i) (drop value_bits bs ++ more))
        → Extends more (cond t (before (Some (number value_bits bs)) (parse n (suc i) (drop value_bits bs))) (refuses 6 i))
        (cond (leb value_bits (length (bs ++ more))) (before (Some (number value_bits (bs ++ more))) (parse n (suc i) (drop value_bits (bs ++ more)))) (refuses 6 i))
    by false e h = refl
    by true e h =
        let enough : value_bits ≤ length bs = leb-true value_bits (length bs) e in
        rw (
          le-leb value_bits (length (bs ++ more)) (omega (arith, length-append bs more)),
          number_front value_bits bs more enough,
          drop-append-le value_bits bs more enough,
        )
        (extends_before more (Some (number value_bits bs)) (parse n (suc i) (drop value_bits bs)) (parse n (suc i) (drop value_bits bs ++ more)) h)

-- ---- padding

-- zeros are not set
pub none_set : (k : ℕ) → any_set (replicate k false) ≡ false
unfolding any_set
none_set zero = refl
none_set (suc k) = none_set k

-- bits of which none is set are zeros
pub all_zero : (bs : List Bool) → any_set bs ≡ false → bs ≡ replicate (length bs) false
unfolding any_set
all_zero [] h = refl
all_zero (true ∷ bs) h = cc
all_zero (false ∷ bs) h = ap (λ (l : List Bool). false ∷ l) (all_zero bs h)
