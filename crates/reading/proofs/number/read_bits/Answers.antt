-- `read_bits` meets its contract: each way out is a case of the pattern's fields.
-- Assumes nothing.
use Rattle.std.proofs.Common.{sym, ◌∙◌, false, ◌+◌, ◌-◌, ◌/◌, ◌%◌, ◌^◌, ◌≤◌, ◌<◌, arith}
use Rattle.worksheet.proofs.NumberLaws.{zero_bits, negative_bits, small_bits, large_bits, middle_bits, not_whole, is_whole, back_whole, back_part, quotient_lt}
use Rattle.reading.proofs.number.read_bits.Goals as goal

pub returns-then-bits-eq0 : goal.returns-then-bits-eq0
returns-then-bits-eq0 c = sym (zero_bits c.args.bits (omega arith))

pub returns-then-bits-eq9223372036854775808 : goal.returns-then-bits-eq9223372036854775808
returns-then-bits-eq9223372036854775808 c = sym (zero_bits c.args.bits (omega arith))

pub returns-then-bits-gt9223372036854775808 : goal.returns-then-bits-gt9223372036854775808
returns-then-bits-gt9223372036854775808 c =
    let b = c.args.bits in
    let above : 2 ^ 63 < b = omega arith in
    sym (negative_bits b c.ranges.bits.fits (λ z. omega arith) (omega arith))

pub returns-then-exponent-lt1023 : goal.returns-then-exponent-lt1023
returns-then-exponent-lt1023 c = sym (small_bits c.args.bits (λ z. omega arith) (omega arith) c.if-exponent-lt1023.true)

pub returns-then-exponent-gt1056 : goal.returns-then-exponent-gt1056
returns-then-exponent-gt1056 c = sym (large_bits c.args.bits (omega arith) (omega arith))

pub returns-then-number-places : goal.returns-then-number-places
returns-then-number-places c =
    let b = c.args.bits in
    let d = 2 ^ 52 + b % 2 ^ 52 in
    let k = 1075 - b / 2 ^ 52 in
    sym (middle_bits b (omega arith) c.if-exponent-lt1023.false c.if-exponent-gt1056.false
    ∙ not_whole false d (2 ^ k) (back_part d k (omega arith) c.if-number-places.true))

pub returns : goal.returns
returns c =
    let b = c.args.bits in
    let d = 2 ^ 52 + b % 2 ^ 52 in
    let k = 1075 - b / 2 ^ 52 in
    let low : 19 ≤ k = omega arith in
    sym (middle_bits b (omega arith) c.if-exponent-lt1023.false c.if-exponent-gt1056.false
    ∙ is_whole d (2 ^ k) (back_whole d k (omega arith) c.if-number-places.false) (quotient_lt d k (omega arith) low))
