-- How a float's bits tell which number it reads as: a law for each way out of `read_bits`.
-- Assumes nothing.
use mathlib.Core.Path.{◌≡◌, refl, sym, ap, ◌∙◌, subst}
use Prim.Native.Nat.{ℕ, zero, suc, ◌+◌, ◌-◌, ◌*◌, ◌/◌, ◌%◌, ◌^◌, ◌≤◌, ◌<◌}
use native.Mathlib.Nat.{eq_of_mul-eq-mul_right, mul_right_comm, mul-mod_left, div-add-mod', mul-one, zero-mul, mul_assoc, mul-pos, mod-eq_of_lt, lt_of_lt_of_le, lt_of_le_of_lt, le_trans, mul-le-mul_right, mul-le-mul_left, le-div_iff_mul-le, le-add_right, eq-or-lt_of_le, le_of_suc-le-suc}
use mathlib.Core.Logic.{inl, inr}
use native.Mathlib.Omega.{arith}
use mathlib.Core.Bool.{Bool, true, false, cond, and-false}
use lib.Dec.{T, eqb, leb, eqb→eq}
use lib.Pow.{pow-add, pow_pos, pow_mono, shl_lt, shr_lt, split}
use lib.Ieee.{Float, nan, inf, fin, binary64, up, down, odd, of_fields, of_bits}
use lib.Ieee.Fits.{eq→eqb, down_pos}
use lib.Ieee.Exact.{HasValue, odd_sign}
use lib.Ieee.Nearest.{div_same}
use borrow.Author.Tests.{lt-ltb, le-ltb, le-leb, lt-leb, eq-eqb, ne_eqb}
use Rattle.std.specs.Prelude.{Some, Ok, Err}
use Rattle.worksheet.specs.Number.{read_fraction, read_number}
use Rattle.worksheet.specs.declared.host_cell.ReadError.TheVariants.{NotWhole}

-- ---- equal fractions read the same

pub same_bool : (p q : Bool) → (T p → T q) → (T q → T p) → p ≡ q
same_bool true true f g = refl
same_bool true false f g = absurd (f tt)
same_bool false true f g = absurd (g tt)
same_bool false false f g = refl

same_remainder : (a b c d : ℕ) → 0 < b → a * d ≡ c * b → a % b ≡ 0 → c % d ≡ 0
same_remainder a b c d B e z =
    let q = a / b in
    let w : q * b ≡ a = omega (arith, div-add-mod' a b) in
    let h : c ≡ q * d = eq_of_mul-eq-mul_right b B c (q * d) (sym e ∙ ap (λ (x : ℕ). x * d) (sym w) ∙ mul_right_comm q b d) in
    ap (λ (x : ℕ). x % d) h ∙ mul-mod_left q d

same_zero : (a b c d : ℕ) → 0 < b → a * d ≡ c * b → a ≡ 0 → c ≡ 0
same_zero a b c d B e z = eq_of_mul-eq-mul_right b B c 0 (sym e ∙ ap (λ (x : ℕ). x * d) z ∙ zero-mul d ∙ sym (zero-mul b))

fraction_same : (s : Bool) (a b c d : ℕ) → 0 < b → 0 < d → a * d ≡ c * b → read_fraction s a b ≡ read_fraction s c d
unfolding read_fraction
fraction_same s a b c d B D e =
    let p : eqb (a % b) 0 ≡ eqb (c % d) 0 = same_bool _ _
    (λ t. eq→eqb (same_remainder a b c d B e (eqb→eq (a % b) 0 t)))
    (λ t. eq→eqb (same_remainder c d a b D (sym e) (eqb→eq (c % d) 0 t))) in
    let z : eqb a 0 ≡ eqb c 0 = same_bool _ _
    (λ t. eq→eqb (same_zero a b c d B e (eqb→eq a 0 t)))
    (λ t. eq→eqb (same_zero c d a b D (sym e) (eqb→eq c 0 t))) in
    rw (p, z, div_same a b c d B D e)

-- a float whose value is a / c reads as that fraction does
pub value_reads : (x : Float) (s : Bool) (a c : ℕ) → 0 < c → HasValue x s a c → read_number x ≡ read_fraction s a c
unfolding read_number
value_reads nan s a c C h = absurd h
value_reads (inf t) s a c C h = absurd h
value_reads (fin t m e) s a c C h =
    ap (λ (u : Bool). read_fraction u (m * up e) (down e)) h.0 ∙ fraction_same s (m * up e) (down e) a c (down_pos e) C h.1

-- ---- which fractions read

pub not_whole : (s : Bool) (a c : ℕ) → (a % c ≡ 0 → ⊥) → read_fraction s a c ≡ (Err NotWhole)
unfolding read_fraction
not_whole s a c h = rw (ne_eqb _ _ h)

below_zero : (a c : ℕ) → (a ≡ 0 → ⊥) → read_fraction true a c ≡ (Err NotWhole)
unfolding read_fraction
below_zero a c h = rw (ne_eqb _ _ h, and-false)

too_large : (s : Bool) (a c : ℕ) → 2 ^ 34 ≤ a / c → read_fraction s a c ≡ (Err NotWhole)
unfolding read_fraction
too_large s a c h = rw (le-ltb _ _ h, and-false)

pub is_whole : (a c : ℕ) → a % c ≡ 0 → a / c < 2 ^ 34 → read_fraction false a c ≡ Ok (Some (a / c))
unfolding read_fraction
is_whole a c h k = rw (eq-eqb _ _ h, lt-ltb _ _ k)

-- ---- the fields of a pattern: sign, exponent field e, digits t

-- a normal float, in units of 2 ^ -1074
normal : (s : Bool) (e t : ℕ) → 0 < e → e < 2047 → read_number (of_fields binary64 s e t) ≡ read_fraction s ((2 ^ 52 + t) * 2 ^ (e - 1)) (2 ^ 1074)
unfolding of_fields
normal s zero t p h = absurd (omega (arith, p))
normal s (suc x) t p h =
    let n : suc x ≡ 2047 → ⊥ = λ q. omega arith in
    let v : suc x - 1 ≡ x = omega arith in
    rw (ne_eqb _ _ n, v)
    (value_reads (odd 53 s (2 ^ 52 + t) x 1074) s ((2 ^ 52 + t) * 2 ^ x) (2 ^ 1074) (pow_pos 1074) (odd_sign 53 s (2 ^ 52 + t) x 1074))

-- a field of 0 has no leading digit
subnormal : (s : Bool) (t : ℕ) → read_number (of_fields binary64 s 0 t) ≡ read_fraction s (t * 1) (2 ^ 1074)
unfolding of_fields
subnormal s t = value_reads (odd 53 s t 0 1074) s (t * 1) (2 ^ 1074) (pow_pos 1074) (odd_sign 53 s t 0 1074)

-- a field of ones is an infinity or a NaN
special : (s : Bool) (t : ℕ) → read_number (of_fields binary64 s 2047 t) ≡ (Err NotWhole)
unfolding of_fields read_number
special s t = by (eqb t 0)
  where
    by : (b : Bool) → read_number (cond b (inf s) nan) ≡ (Err NotWhole)
    by true = refl
    by false = refl

-- a normal float's digits and weight are not 0
not_zero : (t k : ℕ) → (2 ^ 52 + t) * 2 ^ k ≡ 0 → ⊥
not_zero t k z = let p : 0 < (2 ^ 52 + t) * 2 ^ k = mul-pos (omega arith) (pow_pos k) in omega arith

-- ---- a pattern b

fields : (b : ℕ) (s : Bool) (e : ℕ) → leb (2 ^ 63) b ≡ s → b % 2 ^ 63 / 2 ^ 52 ≡ e → of_bits binary64 b ≡ of_fields binary64 s e (b % 2 ^ 52)
unfolding of_bits
fields b s e p q =
    ap (λ (u : Bool). of_fields binary64 u (b % 2 ^ 63 / 2 ^ 52) (b % 2 ^ 52)) p ∙ ap (λ (n : ℕ). of_fields binary64 s n (b % 2 ^ 52)) q

zeros : (s : Bool) → read_number (of_fields binary64 s 0 0) ≡ Ok (Some 0)
unfolding read_number of_fields read_fraction
zeros true = refl
zeros false = refl

-- 0 and −0
pub zero_bits : (b : ℕ) → b % 2 ^ 63 ≡ 0 → read_number (of_bits binary64 b) ≡ Ok (Some 0)
zero_bits b h =
    let t : b % 2 ^ 52 ≡ 0 = omega arith in
    let e : b % 2 ^ 63 / 2 ^ 52 ≡ 0 = omega arith in
    ap read_number (fields b (leb (2 ^ 63) b) 0 refl e)
    ∙ ap (λ (n : ℕ). read_number (of_fields binary64 (leb (2 ^ 63) b) 0 n)) t
    ∙ zeros (leb (2 ^ 63) b)

-- below 0
pub negative_bits : (b : ℕ) → b < 2 ^ 64 → (b % 2 ^ 63 ≡ 0 → ⊥) → 2 ^ 63 ≤ b → read_number (of_bits binary64 b) ≡ (Err NotWhole)
negative_bits b B n h =
    ap read_number (fields b true (b % 2 ^ 63 / 2 ^ 52) (le-leb _ _ h) refl)
    ∙ by (b % 2 ^ 63 / 2 ^ 52) (b % 2 ^ 52) (omega arith) (λ p q. n (omega arith))
  where
    by : (e t : ℕ) → e < 2048 → (e ≡ 0 → t ≡ 0 → ⊥) → read_number (of_fields binary64 true e t) ≡ (Err NotWhole)
    by zero t h n = subnormal true t ∙ below_zero (t * 1) (2 ^ 1074) (λ z. n refl (sym (mul-one t) ∙ z))
    by (suc x) t h n = elim (eq-or-lt_of_le (le_of_suc-le-suc h)) [
      | inl q ↦ ap (λ (n : ℕ). read_number (of_fields binary64 true n t)) q ∙ special true t
      | inr l ↦ normal true (suc x) t (omega arith) l ∙ below_zero ((2 ^ 52 + t) * 2 ^ (suc x - 1)) (2 ^ 1074) (not_zero t (suc x - 1))
    ]

-- above 0 and below 1
pub small_bits : (b : ℕ) → (b % 2 ^ 63 ≡ 0 → ⊥) → b < 2 ^ 63 → b / 2 ^ 52 < 1023 → read_number (of_bits binary64 b) ≡ (Err NotWhole)
small_bits b n B h =
    let f : b % 2 ^ 63 / 2 ^ 52 ≡ b / 2 ^ 52 = omega arith in
    ap read_number (fields b false (b / 2 ^ 52) (lt-leb _ _ B) f) ∙ by (b / 2 ^ 52) (b % 2 ^ 52) (omega arith) h (λ p q. n (omega arith))
  where
    -- a numerator above 0 and below the denominator
    part : (a : ℕ) → a < 2 ^ 1074 → (a ≡ 0 → ⊥) → read_fraction false a (2 ^ 1074) ≡ (Err NotWhole)
    part a l n = not_whole false a (2 ^ 1074) (λ z. n (sym (mod-eq_of_lt l) ∙ z))

    by : (e t : ℕ) → t < 2 ^ 52 → e < 1023 → (e ≡ 0 → t ≡ 0 → ⊥) → read_number (of_fields binary64 false e t) ≡ (Err NotWhole)
    by zero t H h n =
        subnormal false t
        ∙ part (t * 1) (lt_of_lt_of_le (subst (λ (x : ℕ). x < 2 ^ 52) (sym (mul-one t)) H) (pow_mono {i = 52} {j = 1074} (omega arith)))
        (λ z. n refl (sym (mul-one t) ∙ z))
    by (suc x) t H h n =
        normal false (suc x) t (omega arith) (omega arith)
        ∙ part ((2 ^ 52 + t) * 2 ^ (suc x - 1))
        (lt_of_lt_of_le (shl_lt 53 (suc x - 1) (omega arith)) (pow_mono {i = 53 + (suc x - 1)} {j = 1074} (omega arith)))
        (not_zero t (suc x - 1))

-- 2 ^ 34 or more, or no number
pub large_bits : (b : ℕ) → b < 2 ^ 63 → 1056 < b / 2 ^ 52 → read_number (of_bits binary64 b) ≡ (Err NotWhole)
large_bits b B h =
    let f : b % 2 ^ 63 / 2 ^ 52 ≡ b / 2 ^ 52 = omega arith in
    ap read_number (fields b false (b / 2 ^ 52) (lt-leb _ _ B) f) ∙ by (b / 2 ^ 52) (b % 2 ^ 52) (omega arith) h
  where
    by : (e t : ℕ) → e < 2048 → 1056 < e → read_number (of_fields binary64 false e t) ≡ (Err NotWhole)
    by e t E h = elim (eq-or-lt_of_le (le_of_suc-le-suc E)) [
      | inl q ↦ ap (λ (n : ℕ). read_number (of_fields binary64 false n t)) q ∙ special false t
      | inr l ↦
          normal false e t (omega arith) l
          ∙ too_large false ((2 ^ 52 + t) * 2 ^ (e - 1)) (2 ^ 1074)
          ((le-div_iff_mul-le (pow_pos 1074)).1
          (le_trans (mul-le-mul_left (2 ^ 52) (pow_mono {i = 1056} {j = e - 1} (omega arith))) (mul-le-mul_right (2 ^ (e - 1)) (le-add_right (2 ^ 52) t))))
    ]

-- from 1 up and below 2 ^ 34: the digits with their leading one, over a power of two
pub middle_bits : (b : ℕ) → b < 2 ^ 63 → 1023 ≤ b / 2 ^ 52 → b / 2 ^ 52 ≤ 1056
    → read_number (of_bits binary64 b) ≡ read_fraction false (2 ^ 52 + b % 2 ^ 52) (2 ^ (1075 - b / 2 ^ 52))
middle_bits b B l h =
    let e = b / 2 ^ 52 in
    let t = b % 2 ^ 52 in
    let f : b % 2 ^ 63 / 2 ^ 52 ≡ e = omega arith in
    let k : e - 1 + (1075 - e) ≡ 1074 = omega arith in
    ap read_number (fields b false e (lt-leb _ _ B) f)
    ∙ normal false e t (omega arith) (omega arith)
    ∙ fraction_same false ((2 ^ 52 + t) * 2 ^ (e - 1)) (2 ^ 1074) (2 ^ 52 + t) (2 ^ (1075 - e)) (pow_pos 1074) (pow_pos (1075 - e))
    (mul_assoc (2 ^ 52 + t) (2 ^ (e - 1)) (2 ^ (1075 - e))
    ∙ ap (λ (x : ℕ). (2 ^ 52 + t) * x) (sym (pow-add 2 (e - 1) (1075 - e)) ∙ ap (λ (x : ℕ). 2 ^ x) k))

-- ---- the shift there and back

-- digits of 53 bits lose nothing at the top when they are shifted back
shifted_back : (d k : ℕ) → d < 2 ^ 53 → d / 2 ^ k * 2 ^ k % 2 ^ 64 ≡ d / 2 ^ k * 2 ^ k
shifted_back d k h = mod-eq_of_lt (lt_of_lt_of_le (lt_of_le_of_lt (omega (arith, split d k)) h) (pow_mono {i = 53} {j = 64} (omega arith)))

-- the shift there and back gives the digits exactly where they are a multiple
pub back_whole : (d k : ℕ) → d < 2 ^ 53 → d / 2 ^ k * 2 ^ k % 2 ^ 64 ≡ d → d % 2 ^ k ≡ 0
back_whole d k h e = omega (arith, split d k, shifted_back d k h)

pub back_part : (d k : ℕ) → d < 2 ^ 53 → (d / 2 ^ k * 2 ^ k % 2 ^ 64 ≡ d → ⊥) → d % 2 ^ k ≡ 0 → ⊥
back_part d k h n z = n (shifted_back d k h ∙ (let e : d / 2 ^ k * 2 ^ k ≡ d = omega (arith, split d k) in e))

-- the quotient has at most 34 bits where 19 digits or more go
pub quotient_lt : (d k : ℕ) → d < 2 ^ 53 → 19 ≤ k → d / 2 ^ k < 2 ^ 34
quotient_lt d k D h = shr_lt 34 k (lt_of_lt_of_le D (pow_mono {i = 53} {j = 34 + k} (omega arith)))
