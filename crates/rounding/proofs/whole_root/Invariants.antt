use Rattle.std.proofs.Common.{◌-◌, ◌+◌, ◌*◌, ◌^◌, ◌≤◌, ◌<◌}
use Rattle.rounding.proofs.whole_root.Given as goal

-- no guess is below the root, and its quotient is n / guess, rounded down
abbrev pub invariant-loop-quotient : goal.invariant-loop-quotient
invariant-loop-quotient l =
    (0 < l.guess)
    × (l.guess ≤ 2 ^ 63)
    × (l.n < (l.guess + 1) * (l.guess + 1))
    × (l.guess * l.quotient ≤ l.n)
    × (l.n < l.guess * (l.quotient + 1))

abbrev pub decreases-loop-quotient : goal.decreases-loop-quotient
decreases-loop-quotient l = l.guess - l.quotient
