-- What a call of a stream's read or write may come to.
-- Assumes nothing.
use Rattle.std.specs.Prelude.{ℕ, ◌<◌, ◌≤◌, ◌≡◌, Option, Some, None, Result, Ok, Err, IsErr}
use Rattle.std.specs.declared.io.ErrorKind.{ErrorKind}
use Rattle.std.specs.declared.io.ErrorKind.TheVariants.{Interrupted, WouldBlock}
use Rattle.schedule.specs.declared.attempt.CallError.{CallError}
use Rattle.schedule.specs.declared.attempt.CallError.TheVariants.{Later, Failed}

-- what follows from the answer of a call: a failure is never taken for the end of an input
abbrev pub Follows : {E : Type 0} → Result ℕ E → Result (Option ℕ) CallError → Type 0
Follows answer (Ok (Some n)) = (0 < n) × (answer ≡ Ok n)
Follows answer (Ok None) = answer ≡ Ok 0
Follows answer (Err error) = IsErr answer

-- the bytes that a call moved, if any, are at least one and no more than it was lent
abbrev pub Within : ℕ → Result (Option ℕ) CallError → Type 0
Within lent (Ok (Some n)) = (0 < n) × (n ≤ lent)
Within lent (Ok None) = Unit {0}
Within lent (Err error) = Unit {0}

-- why a call moved no byte, by the kind of its error: it is worth making again where a signal interrupted it or it would have had to wait
abbrev pub why_by_kind : ErrorKind → CallError
why_by_kind Interrupted = Later
why_by_kind WouldBlock = Later
why_by_kind _ = Failed
