-- The two round trips, for any number of cells: cells packed and unpacked are the same cells, and bytes unpacked and packed are the same bytes.
-- Assumes nothing.
use mathlib.Core.Path.{◌≡◌, refl, sym, ap, ap₂, ◌∙◌, subst}
use Prim.Native.Nat.{ℕ, ◌+◌, ◌-◌, ◌*◌, ◌/◌, ◌%◌, ◌≤◌}
use native.Mathlib.Omega.{arith}
use mathlib.Core.List.{List, ◌++◌, append_assoc}
use mathlib.Core.Bool.{Bool, true, false, cond}
use lib.ListN.{length, take, drop, replicate, length-append, length-replicate, take-append-drop}
use lib.Seq.{take_at, take-append-le, length-take-le}
use borrow.Author.Tests.{le-leb}
use Rattle.cells.specs.Refusal.{Result, gives, refuses}
use Rattle.cells.specs.Row.{Cell}
use Rattle.packed.specs.Bits.{Bytes, bits_of, bytes_of}
use Rattle.packed.specs.Packing.{row_bits, bytes_for, packed, lowest_wide, pack_buffer}
use Rattle.packed.specs.Unpacking.{parse, any_set, padding, ending, unpacked}
use Rattle.packed.proofs.BitLaws.{take_bytes, bits_of-append, length-bits_of, bits_of-filled}
use Rattle.packed.proofs.CellLaws.{narrow_cells, length_packed, packed_by}
use Rattle.packed.proofs.ParseLaws.{parse_cells, Parses, IfParsed, parse_tells, Extends, parse_extends, none_set, all_zero}

-- ---- cells to bytes and back

-- packed cells, whatever bytes follow them, unpack to the cells and their byte count
pub unpack_pack : (cells : List Cell) (after : List ℕ) → lowest_wide cells ≡ 0 → unpacked (length cells) (packed cells ++ after) ≡ gives (cells, length (packed cells))
unfolding unpacked ending packed
unpack_pack cells after narrow =
    let bs : List Bool = row_bits cells in
    let n : ℕ = bytes_for (length bs) in
    let j : ℕ = n * 8 - length bs in
    let zeros : List Bool = replicate j false in
    let all : bits_of (bytes_of n bs ++ after) ≡ bs ++ (zeros ++ bits_of after) =
    bits_of-append (bytes_of n bs) after
    ∙ ap (λ (l : List Bool). l ++ bits_of after) (bits_of-filled n j bs (omega arith))
    ∙ append_assoc bs zeros (bits_of after) in
    let rest : length (zeros ++ bits_of after) ≡ j + length after * 8 = simp (length-append, length-replicate, length-bits_of) in
    let part : length (zeros ++ bits_of after) % 8 ≡ j = omega arith in
    let size : length (bytes_of n bs ++ after) - length (zeros ++ bits_of after) / 8 ≡ length (bytes_of n bs) =
    omega (arith, length-append (bytes_of n bs) after) in
    rw (
      all,
      parse_cells cells 1 (zeros ++ bits_of after) (narrow_cells cells narrow),
      part,
      take_at zeros (bits_of after) j (length-replicate j false),
      none_set j,
    )
    (ap (λ (count : ℕ). gives (cells, count)) size)

-- what "Pack a row" leaves in a buffer with enough room unpacks to the cells and their byte count
pub unpack_pack_buffer : (cells : List Cell) (buffer : List ℕ) → lowest_wide cells ≡ 0 → length (packed cells) ≤ length buffer
    → unpacked (length cells) (pack_buffer cells buffer) ≡ gives (cells, length (packed cells))
unpack_pack_buffer cells buffer narrow room =
    rw (narrow, le-leb (length (packed cells)) (length buffer) room) (unpack_pack cells (drop (length (packed cells)) buffer) narrow)

-- ---- bytes to cells and back

-- what it tells that unpacking n cells from bytes gives these cells and this count
pub record Unpacks (n count : ℕ) (bytes : List ℕ) (cells : List Cell) : Type 0 where
  -- there are n cells
  pub long : length cells ≡ n
  -- none is too wide
  pub narrow : lowest_wide cells ≡ 0
  -- the count is within the input
  pub inside : count ≤ length bytes
  -- the cells pack to as many bytes
  pub size : length (packed cells) ≡ count
  -- and to these very bytes
  pub same : Bytes bytes → packed cells ≡ take count bytes

-- the same of a result that may be a refusal
abbrev pub IfUnpacked : ℕ → List ℕ → Result (List Cell × ℕ) → Type 0
IfUnpacked n bytes (gives (cells, count)) = Unpacks n count bytes cells
IfUnpacked n bytes (refuses number cell) = Unit {0}

-- cells that were parsed, and padding of zeros
unpacks : (n : ℕ) (bytes : List ℕ) (cells : List Cell) (rest : List Bool) → Parses n (bits_of bytes) cells rest
    → any_set (padding rest) ≡ false → Unpacks n (length bytes - length rest / 8) bytes cells
unpacks n bytes cells rest h clear =
    let bs : List Bool = row_bits cells in
    let count : ℕ = length bytes - length rest / 8 in
    let j : ℕ = length rest % 8 in
    let total : length bytes * 8 ≡ length bs + length rest = sym (length-bits_of bytes) ∙ ap length h.split ∙ length-append bs rest in
    let whole : count * 8 ≡ length bs + j = omega arith in
    let took : length (take count bytes) ≡ count = length-take-le count bytes (omega arith) in
    let pad : length (take j rest) ≡ j = length-take-le j rest (omega arith) in
    let zeros : take j rest ≡ replicate j false = all_zero (take j rest) clear ∙ ap (λ (k : ℕ). replicate k false) pad in
    let filled : bs ++ rest ≡ (bs ++ replicate j false) ++ drop j rest =
    ap (λ (l : List Bool). bs ++ l) (sym (take-append-drop j rest) ∙ ap (λ (l : List Bool). l ++ drop j rest) zeros)
    ∙ sym (append_assoc bs (replicate j false) (drop j rest)) in
    let apart : bits_of bytes ≡ bits_of (take count bytes) ++ bits_of (drop count bytes) =
    ap bits_of (sym (take-append-drop count bytes)) ∙ bits_of-append (take count bytes) (drop count bytes) in
    let front : length (bits_of (take count bytes)) ≡ count * 8 = length-bits_of (take count bytes) ∙ ap (λ (k : ℕ). k * 8) took in
    let long : length (bs ++ replicate j false) ≡ count * 8 = simp (length-append, length-replicate) (sym whole) in
    let same : bits_of (take count bytes) ≡ bs ++ replicate j false =
    sym (take_at (bits_of (take count bytes)) (bits_of (drop count bytes)) (count * 8) front)
    ∙ ap (take (count * 8)) (sym apart ∙ h.split ∙ filled)
    ∙ take_at (bs ++ replicate j false) (drop j rest) (count * 8) long in
    record {
      long = h.long;
      narrow = h.narrow 1;
      inside = omega arith;
      size = omega (arith, length_packed cells);
      same = λ known. packed_by cells (take count bytes) j (take_bytes count bytes known) (omega arith) same;
    }

-- what unpacking tells of its bytes
pub unpack_tells : (n : ℕ) (bytes : List ℕ) → IfUnpacked n bytes (unpacked n bytes)
unfolding unpacked ending
unpack_tells n bytes = by (parse n 1 (bits_of bytes)) (parse_tells n 1 (bits_of bytes))
  where
    pick : (t : Bool) (cells : List Cell) (rest : List Bool) → Parses n (bits_of bytes) cells rest → any_set (padding rest) ≡ t
        → IfUnpacked n bytes (cond t (refuses 7 0) (gives (cells, length bytes - length rest / 8)))
    pick true cells rest h e = tt
    pick false cells rest h e = unpacks n bytes cells rest h e

    by : (parsed : Result (List Cell × List Bool)) → IfParsed n (bits_of bytes) parsed → IfUnpacked n bytes (ending (length bytes) parsed)
    by (refuses number cell) h = tt
    by (gives (cells, rest)) h = pick (any_set (padding rest)) cells rest h refl

-- and of what it gives: n cells, none too wide, that pack to as many bytes as were read
pub unpack_gives : (n count : ℕ) (bytes : List ℕ) (cells : List Cell) → unpacked n bytes ≡ gives (cells, count) → Unpacks n count bytes cells
unpack_gives n count bytes cells e = subst (IfUnpacked n bytes) e (unpack_tells n bytes)

-- packing what was unpacked gives the bytes that were read; of a lent slice, whose elements are all bytes, the contract of `unpack_row` says so
pub pack_unpack : (n count : ℕ) (bytes : List ℕ) (cells : List Cell) → Bytes bytes → unpacked n bytes ≡ gives (cells, count) → packed cells ≡ take count bytes
pack_unpack n count bytes cells known e = (unpack_gives n count bytes cells e).same known

-- and "Pack a row" puts them into a buffer with enough room, leaving what lies past them
pub pack_unpack_buffer : (n count : ℕ) (bytes : List ℕ) (cells : List Cell) (buffer : List ℕ) → Bytes bytes → unpacked n bytes ≡ gives (cells, count)
    → count ≤ length buffer → pack_buffer cells buffer ≡ take count bytes ++ drop count buffer
pack_unpack_buffer n count bytes cells buffer known e room =
    let u = unpack_gives n count bytes cells e in
    rw (u.narrow, le-leb (length (packed cells)) (length buffer) (omega (arith, u.size)))
    (ap₂ (λ (front back : List ℕ). front ++ back) (u.same known) (ap (λ (k : ℕ). drop k buffer) u.size))

-- ---- later bytes

-- unless the row is cut off, the bytes after it do not matter
pub later_bytes : (n : ℕ) (bytes after : List ℕ) → ((cell : ℕ) → unpacked n bytes ≡ refuses 6 cell → ⊥) → unpacked n (bytes ++ after) ≡ unpacked n bytes
unfolding unpacked ending
later_bytes n bytes after whole = by (parse n 1 (bits_of bytes)) refl (parse_extends n 1 (bits_of bytes) (bits_of after))
  where
    by : (parsed : Result (List Cell × List Bool)) → parse n 1 (bits_of bytes) ≡ parsed
        → Extends (bits_of after) parsed (parse n 1 (bits_of bytes ++ bits_of after))
        → ending (length (bytes ++ after)) (parse n 1 (bits_of (bytes ++ after))) ≡ ending (length bytes) parsed
    by (refuses number cell) e h = absurd (whole cell (rw (e, h)))
    by (gives (cells, rest)) e h =
        let size : length (rest ++ bits_of after) ≡ length rest + length after * 8 = length-append rest (bits_of after) ∙ ap (λ (k : ℕ). length rest + k) (length-bits_of after) in
        let part : length (rest ++ bits_of after) % 8 ≡ length rest % 8 = omega arith in
        let count : length (bytes ++ after) - length (rest ++ bits_of after) / 8 ≡ length bytes - length rest / 8 = omega (arith, length-append bytes after) in
        rw (bits_of-append bytes after, h, part, take-append-le (length rest % 8) rest (bits_of after) (omega arith), count)
