-- The bytes of a number, and lent bytes that floats fill part by part.
-- Assumes nothing.
use mathlib.Core.Path.{◌≡◌, refl, sym, ap, ap₂, ◌∙◌}
use mathlib.Core.List.{List, map, [], ◌∷◌, ◌++◌, append-nil, append_assoc}
use Prim.Native.Nat.{ℕ, zero, suc, ◌+◌, ◌*◌, ◌/◌, ◌^◌, ◌≤◌, ◌<◌}
use native.Mathlib.Numerals.{add-one}
use native.Mathlib.Omega.{arith}
use lib.ListN.{length, get_or, take, length-append, length-take}
use lib.Seq.{take_at}
use lib.Ieee.{Float, nan, binary64, to_bits}
use borrow.Rule.Slice.PartMut.{put_mid, post_of}
use Rattle.std.specs.Int.{w64, to_le_bytes}
use Rattle.cells.specs.HostBytes.{word_bytes, float_bytes, whole_float}
use Rattle.cells.proofs.FloatLaws.{whole_not_nan}
use Rattle.worksheet.specs.HostAnswer.{floats_bytes, Lossless, NoNans}
use Rattle.worksheet.proofs.FloatsMeaning.{no_nans_end, no_nans_then}

pub word_bytes_length : (n w : ℕ) → length (word_bytes n w) ≡ n
unfolding word_bytes
word_bytes_length zero w = refl
word_bytes_length (suc n) w = ap suc (word_bytes_length n _)

-- the bytes of a number of 64 bits as the language has them
pub le_bytes : (n : ℕ) → to_le_bytes w64 n ≡ word_bytes 8 n
unfolding word_bytes
le_bytes n =
    let two : n / 256 / 256 ≡ n / 256 ^ 2 = omega arith in
    let three : n / 256 ^ 2 / 256 ≡ n / 256 ^ 3 = omega arith in
    let four : n / 256 ^ 3 / 256 ≡ n / 256 ^ 4 = omega arith in
    let five : n / 256 ^ 4 / 256 ≡ n / 256 ^ 5 = omega arith in
    let six : n / 256 ^ 5 / 256 ≡ n / 256 ^ 6 = omega arith in
    let seven : n / 256 ^ 6 / 256 ≡ n / 256 ^ 7 = omega arith in
    rw (two, three, four, five, six, seven)

-- ---- floats, part by part

-- one float more
floats_next : (xs : List Float) (i : ℕ) → i < length xs → floats_bytes (take (suc i) xs) ≡ floats_bytes (take i xs) ++ float_bytes (get_or xs i nan)
unfolding floats_bytes
floats_next [] i h = absurd (omega arith)
floats_next (x ∷ xs) zero h = append-nil (float_bytes x)
floats_next (x ∷ xs) (suc i) h =
    ap (λ (bytes : List ℕ). float_bytes x ++ bytes) (floats_next xs i (omega arith)) ∙ sym (append_assoc (float_bytes x) (floats_bytes (take i xs)) (float_bytes (get_or xs i nan)))

-- one float more is put where the ones before it end
pub floats_step : (l ys : List ℕ) (xs : List Float) (i k : ℕ) → i < length xs → length l ≡ 8 * length xs → take (8 * i) l ≡ floats_bytes (take i xs)
    → ys ≡ float_bytes (get_or xs i nan)
    → take (8 * (i + 1)) (put_mid (8 * i) k l ys) ≡ floats_bytes (take (i + 1) xs)
floats_step l ys xs i k h whole before e =
    let eight : length ys ≡ 8 = ap length e ∙ word_bytes_length 8 (to_bits binary64 (get_or xs i nan)) in
    ap (take (8 * (i + 1))) (sym (append_assoc (take (8 * i) l) ys (post_of (8 * i) k l)))
    ∙ take_at (take (8 * i) l ++ ys) (post_of (8 * i) k l) (8 * (i + 1)) (omega (arith, length-append (take (8 * i) l) ys, length-take (8 * i) l))
    ∙ ap₂ (λ (p q : List ℕ). p ++ q) before e
    ∙ rw add-one (sym (floats_next xs i h))

-- ---- what is written as a float

-- the float in a place is that of the value there
pub float_of_place : {A : Type 0} (float : A → Float) (values : List A) (i : ℕ) (d : A) → i < length values → get_or (map float values) i nan ≡ float (get_or values i d)
float_of_place float [] i d h = absurd (omega arith)
float_of_place float (x ∷ values) zero d h = refl
float_of_place float (x ∷ values) (suc i) d h = float_of_place float values i d (omega arith)

-- each whole number is held without loss
pub lossless_at : (numbers : List ℕ) (i : ℕ) → Lossless numbers → i < length numbers → get_or numbers i 0 ≤ 2 ^ 53
lossless_at [] i all h = absurd (omega arith)
lossless_at (n ∷ numbers) zero all h = all.0
lossless_at (n ∷ numbers) (suc i) all h = lossless_at numbers i all.1 (omega arith)

-- ---- the answer's three

-- an answer made of numbers of 32 bits has no NaN
pub answer_numbers : (utilisation count check : ℕ) → utilisation < 2 ^ 32 → count < 2 ^ 32 → check < 2 ^ 32
    → NoNans (whole_float utilisation ∷ whole_float count ∷ whole_float check ∷ [])
answer_numbers u c k p q r =
    no_nans_then (whole_float u) (whole_float c ∷ whole_float k ∷ []) (whole_not_nan u (omega arith))
    (no_nans_then (whole_float c) (whole_float k ∷ []) (whole_not_nan c (omega arith))
    (no_nans_then (whole_float k) [] (whole_not_nan k (omega arith)) no_nans_end))
