-- A force against a rounded capacity: what the utilisation says of the exact force and the exact capacity.
-- Assumes nothing.
use Prim.Native.Nat.{ℕ, ◌*◌, ◌≤◌, ◌<◌}
use native.Mathlib.Nat.{mul-pos, mul-le-mul_left, mul-le-mul_right}
use native.Mathlib.Omega.{arith}
use Rattle.rounding.specs.Rounding.{up}
use Rattle.rounding.specs.Fraction.{Fraction, whole, scaled, ◌≼◌, ◌≺◌, RoundsUpTo}
use Rattle.rounding.specs.Utilisation.{utilisation}
use Rattle.rounding.proofs.RoundingLaws.{rounding_up, up_more}
use Rattle.rounding.proofs.Near.{Near}

-- The utilisation is at most one exactly where the whole force is at most the rounded capacity.
module _ (N : ℕ) {c : ℕ} (pos : 0 < c) where
  pub pass_below : utilisation N c ≤ 1000000 → N ≤ c
  pass_below h =
      let u : up (1000000 * N) c ≤ 1000000 = omega arith in
      omega (arith, rounding_up (1000000 * N) c pos, mul-le-mul_left c u)

  pub fail_above : 1000000 < utilisation N c → c < N
  fail_above h =
      let u : 1000001 ≤ up (1000000 * N) c = omega arith in
      omega (arith, rounding_up (1000000 * N) c pos, mul-le-mul_left c u)

-- A greater force has no smaller utilisation.
pub utilisation_more : (c : ℕ) {N N' : ℕ} → N ≤ N' → utilisation N c ≤ utilisation N' c
utilisation_more c {N} {N'} le = let more : up (1000000 * N) c ≤ up (1000000 * N') c = up_more c (omega arith) in omega arith

-- A force that is at most the rounded capacity is at most the exact one.
pub near_pass : {m f g c : ℕ} {x : Fraction} (force : Fraction) → Near m f g c x → force ≼ whole c → force ≼ x
near_pass {x = x} force p le = omega (arith, mul-le-mul_right x.den le, mul-le-mul_right force.den p.below)

-- A force that is above the rounded capacity is, times k thousandths, above the exact one, where rounding takes at most k thousandths off.
pub near_fail : {m g c : ℕ} {x : Fraction} (k : ℕ) (force : Fraction) → 0 < k → g ≤ k → Near m 1000 g c x → whole c ≺ force → scaled k force ≼ x → ⊥
near_fail {m} {g} {c} {x} k force pos le p above le' =
    omega (
      arith,
      mul-pos pos p.real,
      mul-le-mul_left (k * x.den) above,
      mul-le-mul_left force.den p.close,
      mul-le-mul_left (force.den * (c * x.den)) le,
    )

-- A check of utilisation u, whose unrounded form is Exact, and Scaled k with the forces times k thousandths: what passes holds unrounded, and what fails
-- fails unrounded with the forces times k thousandths, for every k from g.
pub record Sound (g u : ℕ) (Exact : Type 0) (Scaled : ℕ → Type 0) : Type 0 where
  pub pass : u ≤ 1000000 → Exact
  pub fail : (k : ℕ) → g ≤ k → 1000000 < u → Scaled k → ⊥

-- The check of a force, which rounds up to N, against the rounded capacity c, which is x unrounded.
abbrev pub SoundAgainst : ℕ → Fraction → ℕ → ℕ → Fraction → Type 0
SoundAgainst g force N c x = Sound g (utilisation N c) (force ≼ x) (λ k. scaled k force ≼ x)

-- It is sound from g thousandths where rounding takes at most g thousandths off the capacity.
pub sound : {m g N c : ℕ} {force x : Fraction} → 0 < m → 0 < g → RoundsUpTo N force → Near m 1000 g c x → SoundAgainst g force N c x
sound {m} {g} {N} {c} {force} {x} pos some up near =
    let pos_c : 0 < c = omega (arith, near.low) in
    record {
      pass = λ h. near_pass force near (omega (arith, up.above, mul-le-mul_right force.den (pass_below N pos_c h)));
      fail = λ k big h. near_fail k force (omega arith) big near (omega (arith, up.within, mul-le-mul_right force.den (fail_above N pos_c h)));
    }
