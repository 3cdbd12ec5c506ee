-- What packing and unpacking answer, in the order of their refusals, and what a refusal leaves.
-- Assumes nothing.
use Prim.Native.Nat.{ℕ, zero, suc, ◌+◌, ◌-◌, ◌/◌, ◌≤◌, ◌<◌}
use native.Mathlib.Omega.{arith}
use mathlib.Core.Bool.{Bool, true, false, cond}
use mathlib.Core.List.{List, [], ◌∷◌}
use mathlib.Core.Logic.{◌⊎◌, inl, inr}
use mathlib.Core.Path.{◌≡◌, refl}
use lib.Dec.{leb}
use lib.ListN.{length, drop}
use borrow.Author.Tests.{ne_eqb, le-leb, lt-leb}
use Rattle.std.specs.Prelude.{None, Some}
use Rattle.cells.specs.Refusal.{Result, gives, refuses}
use Rattle.cells.specs.Row.{cell_count, value_bits, blanks, Cell}
use Rattle.packed.specs.Bits.{number, bits_of}
use Rattle.packed.specs.Packing.{packed, lowest_wide, pack_result, pack_buffer}
use Rattle.packed.specs.Unpacking.{before, parse, any_set, padding, ending, unpacked, held}

module _ (cells : List Cell) (room : ℕ) where
  -- a value above 34 bits is refused first, whatever the room
  pub wide_first : (lowest_wide cells ≡ 0 → ⊥) → pack_result cells room ≡ refuses 4 (lowest_wide cells)
  wide_first some = rw (ne_eqb (lowest_wide cells) 0 some)

  -- then too little room
  pub room_next : lowest_wide cells ≡ 0 → room < length (packed cells) → pack_result cells room ≡ refuses 5 0
  room_next none short = rw (none, lt-leb (length (packed cells)) room short)

  -- and otherwise the cells are packed
  pub otherwise_packed : lowest_wide cells ≡ 0 → length (packed cells) ≤ room → pack_result cells room ≡ gives (length (packed cells))
  otherwise_packed none enough = rw (none, le-leb (length (packed cells)) room enough)

-- a refusal to pack leaves the lent bytes as they were
pub refusal_untouched : (cells : List Cell) (buffer : List ℕ) (number cell : ℕ) → pack_result cells (length buffer) ≡ refuses number cell → pack_buffer cells buffer ≡ buffer
refusal_untouched cells buffer number cell e = rw e

-- an answer that refuses to unpack holds a blank row and a byte count of 0
pub refusal_blank : (number cell : ℕ) → held (refuses number cell) ≡ (blanks cell_count, 0)
refusal_blank number cell = refl

-- a refusal while n cells are read, the first of them cell i: 6, for one of them
abbrev CutOff : {A : Type 0} → ℕ → ℕ → Result A → Type 0
CutOff n i (gives value) = Unit {0}
CutOff n i (refuses number cell) = (number ≡ 6) × (i ≤ cell) × (cell < i + n)

later_cut_off : (n i : ℕ) (cell : Cell) (rest : Result (List Cell × List Bool)) → CutOff n (suc i) rest → CutOff (suc n) i (before cell rest)
unfolding before
later_cut_off n i cell (gives value) h = tt
later_cut_off n i cell (refuses number named) h = (h.0, omega (arith, h.1), omega (arith, h.2))

parse_cut_off : (n i : ℕ) (bs : List Bool) → CutOff n i (parse n i bs)
unfolding parse
parse_cut_off zero i bs = tt
parse_cut_off (suc n) i [] = (refl, omega arith, omega arith)
parse_cut_off (suc n) i (false ∷ bs) = later_cut_off n i None (parse n (suc i) bs) (parse_cut_off n (suc i) bs)
parse_cut_off (suc n) i (true ∷ bs) = by (parse_cut_off n (suc i) (drop value_bits bs)) (leb value_bits (length bs))
  where
    by : CutOff n (suc i) (parse n (suc i) (drop value_bits bs)) → (t : Bool) → CutOff (suc n) i (cond t (before (Some (number value_bits bs)) (parse n (suc i) (drop value_bits bs))) (refuses 6 i))
    by later true = later_cut_off n i (Some (number value_bits bs)) (parse n (suc i) (drop value_bits bs)) later
    by later false = (refl, omega arith, omega arith)

-- a refusal to unpack n cells is 6 for one of them, or 7 for none
pub unpack_refusals : (n named cell : ℕ) (bytes : List ℕ) → unpacked n bytes ≡ refuses named cell
    → ((named ≡ 6) × (1 ≤ cell) × (cell ≤ n)) ⊎ ((named ≡ 7) × (cell ≡ 0))
unfolding unpacked ending
unpack_refusals n named cell bytes e = by (parse n 1 (bits_of bytes)) (parse_cut_off n 1 (bits_of bytes)) e
  where
    pick : (cells : List Cell) (count : ℕ) (t : Bool) → cond {A = Result (List Cell × ℕ)} t (refuses 7 0) (gives (cells, count)) ≡ refuses named cell
        → ((named ≡ 6) × (1 ≤ cell) × (cell ≤ n)) ⊎ ((named ≡ 7) × (cell ≡ 0))
    pick cells count true h = inr (cc, cc)
    pick cells count false h = absurd (let z : ◌≡◌ {A = ℕ} 0 1 = cc in omega arith)

    by : (parsed : Result (List Cell × List Bool)) → CutOff n 1 parsed → ending (length bytes) parsed ≡ refuses named cell
        → ((named ≡ 6) × (1 ≤ cell) × (cell ≤ n)) ⊎ ((named ≡ 7) × (cell ≡ 0))
    by (gives (cells, rest)) h e = pick cells (length bytes - length rest / 8) (any_set (padding rest)) e
    by (refuses n' c) h e =
        let a : n' ≡ named = cc in
        let b : c ≡ cell = cc in
        inl (omega (arith, a, h.0), omega (arith, b, h.1), omega (arith, b, h.2))
