-- Laws of bits and bytes: digits taken apart and joined, numbers made of digits, bytes made of bits, each with the way back.
-- Assumes nothing.
use mathlib.Core.Path.{◌≡◌, refl, sym, ap, ap₂, ◌∙◌}
use Prim.Native.Nat.{ℕ, zero, suc, ◌+◌, ◌-◌, ◌*◌, ◌/◌, ◌%◌, ◌^◌, ◌≤◌, ◌<◌}
use native.Mathlib.Nat.{zero-add, suc-add, zero-mul, suc-mul, sub-zero, zero-sub, suc-sub-suc, zero-div, one-mul, mod-one, mod-eq_of_lt, pow-suc, le_of_suc-le-suc}
use native.Mathlib.Omega.{arith}
use mathlib.Core.List.{List, [], ◌∷◌, ◌++◌, append_assoc, append-nil}
use mathlib.Core.Bool.{Bool, true, false}
use lib.ListN.{length, take, drop, set, replicate, length-append, length-replicate, length-drop}
use lib.Seq.{drop_at, take_all, take-add}
use lib.Dec.{eqb}
use lib.Arith.{digits_lt}
use lib.Bits.{bit_and, and_mask}
use lib.Pow.{pow_pos, pow-lt, pow-add, shr-shr, field, mod-mod-pow, mod-pow-add, high, low}
use Rattle.packed.specs.Bits.{bits, bit_value, number, Bytes, bits_of, bytes_of}

-- ---- the digits of a number

-- there are as many digits as are asked for
pub length_bits : (k v : ℕ) → length (bits k v) ≡ k
unfolding bits
length_bits zero v = refl
length_bits (suc k) v = ap suc (length_bits k _)

-- the high digits come first, then the low ones
pub bits_split : (j k v : ℕ) → bits (j + k) v ≡ bits j (v / 2 ^ k) ++ bits k v
unfolding bits
bits_split zero k v = rw zero-add
bits_split (suc j) k v =
    rw (suc-add, shr-shr v k j, bits_split j k v)
    (ap (λ (n : ℕ). eqb (v / 2 ^ n % 2) 1 ∷ (bits j (v / 2 ^ k) ++ bits k v)) (omega arith))

-- the same, with other bits behind
pub bits_apart : (n j k v : ℕ) (rest : List Bool) → n ≡ j + k → bits n v ++ rest ≡ bits j (v / 2 ^ k) ++ (bits k v ++ rest)
bits_apart n j k v rest e = rw (e, bits_split j k v, append_assoc)

-- digits above those asked for do not matter
pub bits_mod : (k m v : ℕ) → k ≤ m → bits k (v % 2 ^ m) ≡ bits k v
unfolding bits
bits_mod zero m v h = refl
bits_mod (suc k) m v h =
    let e : m - suc k + 1 + k ≡ m = omega arith in
    let same : v % 2 ^ m / 2 ^ k % 2 ≡ v / 2 ^ k % 2 = rw e at (kept (m - suc k)) in
    rw (same, bits_mod k m v (omega arith))
  where
    kept : (j : ℕ) → v % 2 ^ (j + 1 + k) / 2 ^ k % 2 ≡ v / 2 ^ k % 2
    kept j = ap (λ (x : ℕ). x % 2) (field v (j + 1) k) ∙ mod-mod-pow (v / 2 ^ k) j 1

-- what stands above k low digits does not change them
bits_low : (k a b : ℕ) → b < 2 ^ k → bits k (a * 2 ^ k + b) ≡ bits k b
bits_low k a b h = sym (bits_mod k k (a * 2 ^ k + b) (omega arith)) ∙ ap (bits k) (low a k h)

-- digits after digits
pub bits_append : (j k a b : ℕ) → b < 2 ^ k → bits (j + k) (a * 2 ^ k + b) ≡ bits j a ++ bits k b
bits_append j k a b h =
    bits_split j k (a * 2 ^ k + b) ∙ ap₂ (λ (x : ℕ) (bs : List Bool). bits j x ++ bs) (high a k h) (bits_low k a b h)

-- every digit of 0 is 0
pub bits_zero : (k : ℕ) → bits k 0 ≡ replicate k false
unfolding bits
bits_zero zero = refl
bits_zero (suc k) = rw (zero-div (2 ^ k), bits_zero k)

-- digits after digits write a number of as many digits
pub append_lt : (j k a b : ℕ) → a < 2 ^ j → b < 2 ^ k → a * 2 ^ k + b < 2 ^ (j + k)
append_lt j k a b h l = rw (pow-add 2 j k) (digits_lt h l)

-- 1 shifted left, as the code computes it
pub shifted_one : (k : ℕ) → k < 64 → 1 * 2 ^ k % 2 ^ 64 ≡ 2 ^ k
shifted_one k h = rw one-mul (mod-eq_of_lt (pow-lt h))

-- the mask of the k lowest digits, as the code computes it, leaves these digits
pub masked : (k v : ℕ) → k < 64 → bit_and v (1 * 2 ^ k % 2 ^ 64 - 1) ≡ v % 2 ^ k
masked k v h = rw (shifted_one k h) (and_mask v k)

-- ---- the number that digits write

-- k digits write a number below 2 ^ k
pub number_lt : (k : ℕ) (bs : List Bool) → number k bs < 2 ^ k
unfolding number
number_lt zero bs = omega arith
number_lt (suc k) [] = pow_pos (suc k)
number_lt (suc k) (true ∷ bs) = omega (arith, number_lt k bs, pow-suc 2 k)
number_lt (suc k) (false ∷ bs) = omega (arith, number_lt k bs, pow-suc 2 k)

-- the k lowest digits of v write what v leaves by 2 ^ k
pub number_bits : (k v : ℕ) (bs : List Bool) → number k (bits k v ++ bs) ≡ v % 2 ^ k
unfolding number bits
number_bits zero v bs = sym (mod-one v)
number_bits (suc k) v bs =
    rw (number_bits k v bs, bit_value_of (v / 2 ^ k % 2) (omega arith))
    (sym (mod-pow-add v 1 k) ∙ ap (λ (n : ℕ). v % 2 ^ n) (omega arith))
  where
    bit_value_of : (x : ℕ) → x < 2 → bit_value (eqb x 1) ≡ x
    bit_value_of zero h = refl
    bit_value_of (suc zero) h = refl
    bit_value_of (suc (suc x)) h = absurd (omega arith)

-- the digits of the number that k bits write are these bits
pub bits_number : (k : ℕ) (bs : List Bool) → k ≤ length bs → bits k (number k bs) ≡ take k bs
unfolding number bits
bits_number zero bs h = refl
bits_number (suc k) [] h = absurd (omega arith)
bits_number (suc k) (b ∷ bs) h =
    rw (
      high (bit_value b) k (number_lt k bs),
      bits_low k (bit_value b) (number k bs) (number_lt k bs),
      bit_of b,
      bits_number k bs (le_of_suc-le-suc h),
    )
  where
    bit_of : (b : Bool) → eqb (bit_value b % 2) 1 ≡ b
    bit_of true = refl
    bit_of false = refl

-- no digits write 0
pub number_nil : (k : ℕ) → number k [] ≡ 0
unfolding number
number_nil zero = refl
number_nil (suc k) = refl

-- bits past the first k do not matter
pub number_front : (k : ℕ) (bs more : List Bool) → k ≤ length bs → number k (bs ++ more) ≡ number k bs
unfolding number
number_front zero bs more h = refl
number_front (suc k) [] more h = absurd (omega arith)
number_front (suc k) (b ∷ bs) more h = rw (number_front k bs more (le_of_suc-le-suc h))

-- zeros at the end change nothing
pub number_zeros : (k j : ℕ) (bs : List Bool) → number k (bs ++ replicate j false) ≡ number k bs
unfolding number
number_zeros zero j bs = refl
number_zeros (suc k) zero [] = refl
number_zeros (suc k) (suc j) [] = rw (zero-mul, zero-add) (number_zeros k j [] ∙ number_nil k)
number_zeros (suc k) j (b ∷ bs) = rw (number_zeros k j bs)

-- ---- the bits of bytes, and bytes of bits

-- the first bytes of bytes are bytes
pub take_bytes : (n : ℕ) (bytes : List ℕ) → Bytes bytes → Bytes (take n bytes)
take_bytes zero bytes h i = omega arith
take_bytes (suc n) [] h i = omega arith
take_bytes (suc n) (byte ∷ bytes) h zero = h zero
take_bytes (suc n) (byte ∷ bytes) h (suc i) = take_bytes n bytes (λ j. h (suc j)) i

-- bytes with a byte stored are bytes
pub set_bytes : (bytes : List ℕ) (i b : ℕ) → b < 256 → Bytes bytes → Bytes (set bytes i b)
set_bytes [] i b small h j = h j
set_bytes (byte ∷ bytes) zero b small h zero = small
set_bytes (byte ∷ bytes) zero b small h (suc j) = h (suc j)
set_bytes (byte ∷ bytes) (suc i) b small h zero = h zero
set_bytes (byte ∷ bytes) (suc i) b small h (suc j) = set_bytes bytes i b small (λ k. h (suc k)) j

-- eight bits for each byte
pub length-bits_of : (bytes : List ℕ) → length (bits_of bytes) ≡ length bytes * 8
unfolding bits_of
length-bits_of [] = refl
length-bits_of (byte ∷ bytes) = rw (length-append, length_bits, length-bits_of bytes, suc-mul) (omega arith)

-- bytes after bytes are bits after bits
pub bits_of-append : (front back : List ℕ) → bits_of (front ++ back) ≡ bits_of front ++ bits_of back
unfolding bits_of
bits_of-append [] back = refl
bits_of-append (byte ∷ front) back = rw (bits_of-append front back, append_assoc)

-- n bytes are made
pub length-bytes_of : (n : ℕ) (bs : List Bool) → length (bytes_of n bs) ≡ n
unfolding bytes_of
length-bytes_of zero bs = refl
length-bytes_of (suc n) bs = ap suc (length-bytes_of n (drop 8 bs))

-- zeros at the end make the same bytes
bytes_of-zeros : (n j : ℕ) (bs : List Bool) → bytes_of n (bs ++ replicate j false) ≡ bytes_of n bs
unfolding bytes_of
bytes_of-zeros zero j bs = refl
bytes_of-zeros (suc n) j bs =
    rw (number_zeros 8 j bs, drop_zeros 8 j bs, bytes_of-zeros n (j - (8 - length bs)) (drop 8 bs))
  where
    drop_all : (i j : ℕ) → drop i (replicate j false) ≡ replicate (j - i) false
    drop_all zero j = rw sub-zero
    drop_all (suc i) zero = rw zero-sub
    drop_all (suc i) (suc j) = rw suc-sub-suc (drop_all i j)

    drop_zeros : (i j : ℕ) (bs : List Bool) → drop i (bs ++ replicate j false) ≡ drop i bs ++ replicate (j - (i - length bs)) false
    drop_zeros zero j bs = rw (zero-sub, sub-zero)
    drop_zeros (suc i) j [] = rw sub-zero (drop_all (suc i) j)
    drop_zeros (suc i) j (b ∷ bs) = rw suc-sub-suc (drop_zeros i j bs)

-- the bits of bytes that were made of enough bits are those bits
bits_of-bytes_of : (n : ℕ) (bs : List Bool) → n * 8 ≤ length bs → bits_of (bytes_of n bs) ≡ take (n * 8) bs
unfolding bytes_of bits_of
bits_of-bytes_of zero bs h = refl
bits_of-bytes_of (suc n) bs h =
    rw (bits_number 8 bs (omega arith), bits_of-bytes_of n (drop 8 bs) (simp length-drop (omega arith)), ← take-add 8 (n * 8) bs)
    (let e : 8 + n * 8 ≡ suc n * 8 = omega arith in ap (λ (k : ℕ). take k bs) e)

-- bytes made of their own bits are the same bytes
bytes_of-bits_of : (bytes : List ℕ) (bs : List Bool) → Bytes bytes → bytes_of (length bytes) (bits_of bytes ++ bs) ≡ bytes
unfolding bits_of bytes_of
bytes_of-bits_of [] bs h = refl
bytes_of-bits_of (byte ∷ bytes) bs h =
    rw (
      append_assoc,
      number_bits 8 byte (bits_of bytes ++ bs),
      drop_at (bits 8 byte) (bits_of bytes ++ bs) 8 (length_bits 8 byte),
      bytes_of-bits_of bytes bs (λ i. h (suc i)),
      mod-eq_of_lt {n = byte} {m = 256} (h 0),
    )

-- bits that were made into bytes are there again, with the zeros that fill the last byte
pub bits_of-filled : (n j : ℕ) (bs : List Bool) → n * 8 ≡ length bs + j → bits_of (bytes_of n bs) ≡ bs ++ replicate j false
bits_of-filled n j bs e =
    let whole : length (bs ++ replicate j false) ≡ n * 8 = rw (length-append, length-replicate) (sym e) in
    ap bits_of (sym (bytes_of-zeros n j bs))
    ∙ bits_of-bytes_of n (bs ++ replicate j false) (omega arith)
    ∙ take_all (n * 8) (bs ++ replicate j false) (omega arith)

-- bytes whose bits are bs and zeros are those that bs makes
pub bytes_of-filled : (bytes : List ℕ) (j : ℕ) (bs : List Bool) → Bytes bytes → bits_of bytes ≡ bs ++ replicate j false → bytes_of (length bytes) bs ≡ bytes
bytes_of-filled bytes j bs h e =
    sym (bytes_of-zeros (length bytes) j bs)
    ∙ ap (bytes_of (length bytes)) (sym e ∙ sym (append-nil (bits_of bytes)))
    ∙ bytes_of-bits_of bytes [] h
