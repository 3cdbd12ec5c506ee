-- `whole_root` meets its contract: its guesses stay above the root until one is the root.
use Rattle.std.proofs.Common.{◌≡◌, ◌+◌, ◌*◌, ◌^◌, ◌≤◌, ◌<◌, ℕ, ◌/◌, ◌%◌, zero, suc, arith}
use native.Mathlib.Nat.{mul-le-mul_left, mul-le-mul_right}
use lib.Pow.{pow_mono, pow_pos}
use Rattle.rounding.proofs.RoundingLaws.{rounding_down}
use Rattle.rounding.proofs.RootLaws.{root_between, newton, guess_above}
use Rattle.rounding.proofs.whole_root.Goals as goal

-- a step from any guess, and the quotient by what it gives
step : (n guess quotient : ℕ) → 0 < n → n < guess * (quotient + 1) → let next = (guess + quotient) / 2 in
    (0 < next) × (n < (next + 1) * (next + 1)) × (next * (n / next) ≤ n) × (n < next * (n / next + 1))
step n guess quotient some h =
    let next = (guess + quotient) / 2 in
    let above = newton n guess quotient h in
    let pos : 0 < next = guess_above some above in
    let down = rounding_down n next pos in
    (pos, above, down.0, down.1)

-- the quotient by the power of two next to the root
by_power : (r n : ℕ) → n < 2 ^ 64 → n < 2 * 2 ^ r → n / 2 ^ ((r + 1) / 2) ≤ 2 ^ 63
by_power zero n fits h = omega (arith, h)
by_power (suc r) n fits h =
    let k = (suc r + 1) / 2 in
    let two : 2 ^ 1 ≤ 2 ^ k = pow_mono {i = 1} {j = k} (omega arith) in
    omega (arith, fits, mul-le-mul_right (n / 2 ^ k) two, rounding_down n (2 ^ k) (pow_pos k))

-- that power fits, whatever bits n has
power_fits : (r : ℕ) → r < 64 → let p = 2 ^ ((r + 1) / 2) in (p ≤ 2 ^ 32) × (1 * p % 18446744073709551616 ≡ p)
power_fits r few =
    let k = (r + 1) / 2 in
    let small : 2 ^ k ≤ 2 ^ 32 = pow_mono {i = k} {j = 32} (omega arith) in
    (small, omega (arith, small))

pub returns-then-n-eq0-clause-root : goal.returns-then-n-eq0-clause-root
returns-then-n-eq0-clause-root c = root_between c.args.n (omega arith) 0 (omega arith) (omega arith)

pub overflow_add-guess : goal.overflow_add-guess
overflow_add-guess c =
    let n = c.args.n in
    omega (arith, power_fits c.ilog2.result c.ilog2.ensures.bound, by_power c.ilog2.result n (omega arith) c.ilog2.ensures.next_power_gt)

pub loop-quotient-init : goal.loop-quotient-init
loop-quotient-init c =
    let n = c.args.n in
    let k = (c.ilog2.result + 1) / 2 in
    let p = 2 ^ k in
    let power = power_fits c.ilog2.result c.ilog2.ensures.bound in
    let quotient : n / p ≤ 2 ^ 63 = by_power c.ilog2.result n (omega arith) c.ilog2.ensures.next_power_gt in
    rw power.1 (omega (arith, power, quotient, step n p (n / p) (omega arith) (rounding_down n p (pow_pos k)).1))

pub loop-quotient-preserved : goal.loop-quotient-preserved
loop-quotient-preserved c = omega (arith, step c.args.n c.loop-quotient.guess c.loop-quotient.quotient (omega arith) (omega arith))

pub returns-clause-root : goal.returns-clause-root
returns-clause-root c =
    root_between c.args.n (omega arith) c.loop-quotient.guess
    (omega (arith, mul-le-mul_left c.loop-quotient.guess c.loop-quotient-test.false))
    (omega arith)
