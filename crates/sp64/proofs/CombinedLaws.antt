-- Check 11, rounded against unrounded, for any losses of NR, NR × φ' and MR that leave the factor of the forces room.
-- Assumes nothing.
use Prim.Native.Nat.{ℕ, ◌+◌, ◌-◌, ◌*◌, ◌≤◌, ◌<◌}
use native.Mathlib.Nat.{mul-sub, le_of_mul-le-mul_left, mul-pos, mul-le-mul, mul-le-mul_left, mul-le-mul_right}
use native.Mathlib.Omega.{arith}
use mathlib.Core.Path.{◌≡◌, refl, ap}
use mathlib.Core.Bool.{Bool, true, false, cond}
use lib.Dec.{leb, lit<}
use borrow.Author.Tests.{leb-true, leb-false}
use Rattle.rounding.specs.Rounding.{up}
use Rattle.rounding.specs.Fraction.{Fraction, fraction, whole, scaled, ◌⊘◌, ◌⊖◌, ◌≼◌, ◌≺◌}
use Rattle.rounding.proofs.RoundingLaws.{rounding_up, lt_up}
use Rattle.rounding.proofs.FractionLaws.{sum_over, sum_under}
use Rattle.rounding.proofs.Near.{Near, near_pos, near_wide}
use Rattle.rounding.proofs.Soundness.{Sound}
use Rattle.sp64.specs.Combined.{axial_share, exact_axial_share, second_order_moment, exact_second_order_moment, combined, compression_bending_utilisation, ExactCompressionBending, tension_bending_utilisation, ExactTensionBending}

-- k N / x is at least 100 k u parts of 1,000,000 g, where N against the rounded a comes to at least u millionths
ratio_over : (N u k : ℕ) {l g a : ℕ} {x : Fraction} → Near l 100000 g a x → u * a ≤ 1000000 * N → fraction (k * 100 * u) (g * 1000000) ≼ scaled k (whole N) ⊘ x
ratio_over N u k {l} {g} {a} {x} p h = omega (arith, mul-le-mul_right (k * u) p.close, mul-le-mul_right (k * x.den * g) h)

-- N / x is at most A millionths, where N against the rounded a is
ratio_under : (N A : ℕ) {l f g a : ℕ} {x : Fraction} → Near l f g a x → 1000000 * N ≤ A * a → whole N ⊘ x ≼ fraction A 1000000
ratio_under N A {x = x} p h = omega (arith, mul-le-mul_right x.den h, mul-le-mul_left A p.below)

-- 1 − p against its rounded form q, both in millionths, where p is rounded up to p' + 1: D / (1000 × x) is 1 − p
share_over : (N p' q k D : ℕ) {l g c : ℕ} {x : Fraction} → Near l 100000 g c x → 0 < g → g < 100 * k → g ≤ 500000 → p' * c ≤ 1000000 * N → q + p' + 1 ≡ 1000000 → D + 1000000 * (k * N * x.den) ≡ 1000000 * (1000 * x.num) → D * 500000 ≤ 1000 * x.num * q * 500001
share_over N p' q k D {l} {g} {c} {x} p pos-g big small h eq eD =
    let a : (g + 1) * (p' * x.num) ≤ 1000 * g * (k * N * x.den) =
    omega (arith, mul-le-mul_right (p' * k) p.close, mul-le-mul_right (k * x.den * g) h, mul-le-mul_right (p' * x.num) big) in
    let b : 500001 * (p' * x.num) ≤ 500000000 * (k * N * x.den) =
    le_of_mul-le-mul_left {k = g} (omega (arith, a, mul-le-mul_right (p' * x.num) small)) pos-g in
    omega (arith, b, ap (λ (n : ℕ). n * x.num) eq)

-- k M / (1 − p) / x is at least 100 k v parts of 1,000,000 G, where 1 − p is D / E millionths
moment_over : (M Md' v q k D E : ℕ) {l g m : ℕ} {x : Fraction} (G : ℕ) → g * 500001 ≤ G * 500000 → Near l 100000 g m x → D * 500000 ≤ E * q * 500001 → Md' * q ≤ 1000000 * M → v * m ≤ 1000000 * Md' → k * 100 * v * (1000 * D * x.num) ≤ 1000000 * (k * M * E * x.den) * (G * 1000000)
moment_over M Md' v q k D E {l} {g} {m} {x} G wide p hD hM hv =
    let a : k * v * D * x.num * 100000 ≤ k * x.den * g * 1000000 * (Md' * D) =
    omega (arith, mul-le-mul_right (k * v * D) p.close, mul-le-mul_right (k * x.den * g * D) hv) in
    let b : Md' * D * 500000 ≤ 1000000 * (M * E) * 500001 = omega (arith, mul-le-mul_right Md' hD, mul-le-mul_right E hM) in
    omega (arith, a, mul-le-mul_left (k * x.den * g) b, mul-le-mul_right (k * x.den * (M * E)) wide)

near_more : {l g g' r : ℕ} {x : Fraction} → Near l 100000 g r x → g ≤ g' → Near l 100000 g' r x
near_more p le = near_wide 100000 _ (lit< tt) (mul-le-mul_right 100000 le) p

one_less : (n d x : ℕ) → d * n < x + d → (n - 1) * d ≤ x
one_less n d x h = omega (arith, mul-sub d n 1)

-- one unit of Md, and one millionth, are at most 15 millionths of MR
moment_less : (B m Md : ℕ) → 71544 ≤ m → m * B < 1000000 * Md + m → (B - 15) * m ≤ 1000000 * (Md - 1)
moment_less B m Md low h = omega (arith, mul-sub m B 15)

-- Check 11 of kind 4, for rounded NR, NR × φ' and MR beside the exact xa, xc and xm.
abbrev pub CompressionBendingSound : ℕ → ℕ → ℕ → ℕ → ℕ → ℕ → Fraction → Fraction → Fraction → Type 0
CompressionBendingSound k₀ N M a c m xa xc xm =
    Sound k₀
    (compression_bending_utilisation N M a c m)
    (ExactCompressionBending (whole N) (whole M) xa xc xm)
    (λ k. ExactCompressionBending (scaled k (whole N)) (scaled k (whole M)) xa xc xm)

-- Check 11 of kind 5, for rounded NR and MR beside the exact xa and xm.
abbrev pub TensionBendingSound : ℕ → ℕ → ℕ → ℕ → ℕ → Fraction → Fraction → Type 0
TensionBendingSound k₀ N M a m xa xm =
    Sound k₀
    (tension_bending_utilisation N M a m)
    (ExactTensionBending (whole N) (whole M) xa xm)
    (λ k. ExactTensionBending (scaled k (whole N)) (scaled k (whole M)) xa xm)

-- What rounding may take off NR (ga), NR × φ' (gc) and MR (gm), in hundred-thousandths of the rounded value, for the law to hold from k₀ thousandths.
pub record Losses (ga gc gm k₀ : ℕ) : Type 0 where
  pub some : 0 < gc
  pub axial : ga + 2 ≤ 100 * k₀
  pub share : gc < 100 * k₀
  pub bending : gm + 3 ≤ 100 * k₀
  pub few : k₀ ≤ 1300

module _ {N M a c m la lc ga gc gm k₀ : ℕ} {xa xc xm : Fraction} (ls : Losses ga gc gm k₀) (na : Near la 100000 ga a xa) (nc : Near lc 100000 gc c xc)
    (nm : Near 71544 100000 gm m xm) (pos-la : 0 < la) (pos-lc : 0 < lc) (pos-N : 0 < N) (pos-M : 0 < M) where
  pos_a : 0 < a
  pos_a = omega (arith, na.low)

  pos_c : 0 < c
  pos_c = omega (arith, nc.low)

  module _ (k : ℕ) (big : k₀ ≤ k) (holds : ExactCompressionBending (scaled k (whole N)) (scaled k (whole M)) xa xc xm) where
    -- p of one and more
    share_fail : (p : ℕ) → c * p < 1000000 * N + c → 1000000 ≤ p → ⊥
    share_fail p up over =
        let h : 999999 * c ≤ 1000000 * N = omega (arith, mul-le-mul_left c over) in
        omega (
          arith,
          holds.share,
          mul-le-mul_right (k * xc.den) h,
          mul-le-mul_right (c * xc.den) big,
          nc.close,
          mul-pos pos_c nc.real,
          mul-le-mul_right (c * xc.den) ls.share,
          mul-le-mul_right (c * xc.den) ls.few,
        )

    -- p below one: A and B are the utilisations of N against NR and of Md against MR
    sum_fail : (p q Md A B : ℕ) → c * p < 1000000 * N + c → 0 < p → q + p ≡ 1000000 → q * Md < 1000000 * M + q → 0 < Md → a * A < 1000000 * N + a → 0 < A → m * B < 1000000 * Md + m → 1000001 ≤ A + B → ⊥
    sum_fail p q Md A B hp pp eq hM pM hA pA hB over =
        let share : Fraction = exact_axial_share (scaled k (whole N)) xc in
        let D = (whole 1000000 ⊖ share).num in
        let E = (whole 1000000 ⊖ share).den in
        let pos-D : 0 < D = omega (arith, holds.share) in
        let eD : D + 1000000 * (k * N * xc.den) ≡ 1000000 * (1000 * xc.num) = omega (arith, holds.share) in
        let u = A - 1 in
        let Md' = Md - 1 in
        let v = B - 15 in
        let w : 999985 ≤ u + v = omega arith in
        let hD : D * 500000 ≤ E * q * 500001 =
        omega (arith, share_over N (p - 1) q k D nc ls.some (omega arith) (omega arith) (one_less p c (1000000 * N) hp) (omega arith) eD) in
        sum_over
        (scaled k (whole N) ⊘ xa)
        (exact_second_order_moment (scaled k (whole M)) share ⊘ xm)
        (k * 100 * u)
        (k * 100 * v)
        ((100 * k₀ - 2) * 1000000)
        (mul-pos (lit< tt) (near_pos pos-la na))
        (mul-pos (mul-pos (lit< tt) pos-D) (near_pos (lit< tt) nm))
        (ratio_over N u k (near_more na (omega (arith, ls.axial))) (one_less A a (1000000 * N) hA))
        (omega (arith, moment_over M Md' v q k D E (100 * k₀ - 2) (omega (arith, ls.bending, ls.few)) nm hD (one_less Md q (1000000 * M) hM) (moment_less B m Md nm.low hB)))
        (omega (arith, mul-le-mul big w, ls.few, ls.axial))
        holds.sum

    fail_by : (t : Bool) → leb 1000000 (axial_share N c) ≡ t → 1000000 < cond t 9999999 (combined N a (second_order_moment M (axial_share N c)) m) → ⊥
    fail_by true e h = share_fail (axial_share N c) (rounding_up (1000000 * N) c pos_c).1 (leb-true _ _ e)
    fail_by false e h =
        let p = axial_share N c in
        let q = 1000000 - p in
        let below : p < 1000000 = leb-false _ _ e in
        let pos-q : 0 < q = omega arith in
        let Md = second_order_moment M p in
        sum_fail
        p
        q
        Md
        (up (1000000 * N) a)
        (up (1000000 * Md) m)
        (rounding_up (1000000 * N) c pos_c).1
        (lt_up pos_c (omega arith))
        (omega arith)
        (rounding_up (1000000 * M) q pos-q).1
        (lt_up pos-q (omega arith))
        (rounding_up (1000000 * N) a pos_a).1
        (lt_up pos_a (omega arith))
        (rounding_up (1000000 * Md) m (omega (arith, nm.low))).1
        (omega arith)

  module _ (p q Md A B : ℕ) (hp : 1000000 * N ≤ c * p) (below : p < 1000000) (eq : q + p ≡ 1000000) (hM : 1000000 * M ≤ q * Md)
      (hA : 1000000 * N ≤ a * A) (hB : 1000000 * Md ≤ m * B) (under : A + B ≤ 1000000) where
    share_pass : exact_axial_share (whole N) xc ≺ whole 1000000
    share_pass =
        let h : N < c = omega (arith, mul-le-mul_left c below) in
        omega (arith, mul-le-mul_right xc.den h, nc.below, nc.real)

    moment_pass : (D : ℕ) → D + 1000000 * (N * xc.den) ≡ 1000000 * xc.num → 1000000 * (M * xc.num * xm.den) * 1000000 ≤ B * (D * xm.num)
    moment_pass D eD =
        let hD : q * xc.num ≤ D = omega (arith, mul-le-mul_right xc.den hp, mul-le-mul_left p nc.below, ap (λ (n : ℕ). n * xc.num) eq) in
        omega (
          arith,
          mul-le-mul_right (xc.num * xm.den) hM,
          mul-le-mul_left (Md * xm.den) hD,
          mul-le-mul_right (D * xm.den) hB,
          mul-le-mul_left (B * D) nm.below,
        )

    both_pass : ExactCompressionBending (whole N) (whole M) xa xc xm
    both_pass =
        record {
          share = share_pass;
          sum =
              sum_under
              (whole N ⊘ xa)
              (exact_second_order_moment (whole M) (exact_axial_share (whole N) xc) ⊘ xm)
              A
              B
              1000000
              (lit< tt)
              (ratio_under N A na (omega arith))
              (omega (arith, moment_pass (whole 1000000 ⊖ exact_axial_share (whole N) xc).num (omega (arith, share_pass))))
              under;
        }

  pass_by : (t : Bool) → leb 1000000 (axial_share N c) ≡ t → cond t 9999999 (combined N a (second_order_moment M (axial_share N c)) m) ≤ 1000000 → ExactCompressionBending (whole N) (whole M) xa xc xm
  pass_by true e h = absurd (omega arith)
  pass_by false e h =
      let p = axial_share N c in
      let q = 1000000 - p in
      let below : p < 1000000 = leb-false _ _ e in
      let pos-q : 0 < q = omega arith in
      let Md = second_order_moment M p in
      both_pass
      p
      q
      Md
      (up (1000000 * N) a)
      (up (1000000 * Md) m)
      (rounding_up (1000000 * N) c pos_c).0
      below
      (omega arith)
      (rounding_up (1000000 * M) q pos-q).0
      (rounding_up (1000000 * N) a pos_a).0
      (rounding_up (1000000 * Md) m (omega (arith, nm.low))).0
      (omega arith)

  -- Kind 4 is sound from k₀ thousandths.
  pub compression_bending_from : CompressionBendingSound k₀ N M a c m xa xc xm
  compression_bending_from = record { pass = λ h. pass_by _ refl h; fail = λ k big h holds. fail_by k big holds _ refl h }

-- Kind 5: the two ratios alone.
module _ (N M : ℕ) {l l' ga gm a m k₀ : ℕ} {xa xm : Fraction} (na : Near l 100000 ga a xa) (nm : Near l' 100000 gm m xm) (pos-l : 0 < l) (pos-l' : 0 < l')
    (axial : ga + 1 ≤ 100 * k₀) (bending : gm + 1 ≤ 100 * k₀) (few : k₀ ≤ 1300) where
  pos_a5 : 0 < a
  pos_a5 = omega (arith, na.low)

  pos_m5 : 0 < m
  pos_m5 = omega (arith, nm.low)

  tension_bending_fail : (k : ℕ) → k₀ ≤ k → 1000000 < tension_bending_utilisation N M a m → ExactTensionBending (scaled k (whole N)) (scaled k (whole M)) xa xm → ⊥
  tension_bending_fail k big h holds =
      let u = up (1000000 * N) a - 1 in
      let v = up (1000000 * M) m - 1 in
      let w : 999999 ≤ u + v = omega arith in
      sum_over
      (scaled k (whole N) ⊘ xa)
      (scaled k (whole M) ⊘ xm)
      (k * 100 * u)
      (k * 100 * v)
      ((100 * k₀ - 1) * 1000000)
      (mul-pos (lit< tt) (near_pos pos-l na))
      (mul-pos (lit< tt) (near_pos pos-l' nm))
      (ratio_over N u k (near_more na (omega arith)) (one_less _ a _ (rounding_up (1000000 * N) a pos_a5).1))
      (ratio_over M v k (near_more nm (omega arith)) (one_less _ m _ (rounding_up (1000000 * M) m pos_m5).1))
      (omega (arith, mul-le-mul big w))
      holds

  tension_bending_pass : tension_bending_utilisation N M a m ≤ 1000000 → ExactTensionBending (whole N) (whole M) xa xm
  tension_bending_pass h =
      sum_under
      (whole N ⊘ xa)
      (whole M ⊘ xm)
      (up (1000000 * N) a)
      (up (1000000 * M) m)
      1000000
      (lit< tt)
      (ratio_under N _ na (omega (arith, rounding_up (1000000 * N) a pos_a5)))
      (ratio_under M _ nm (omega (arith, rounding_up (1000000 * M) m pos_m5)))
      (omega arith)

  -- Kind 5 is sound from k₀ thousandths.
  pub tension_bending_from : TensionBendingSound k₀ N M a m xa xm
  tension_bending_from = record { pass = tension_bending_pass; fail = tension_bending_fail }
