-- A call that moved no more bytes than it was lent stays within them.
-- Assumes nothing.
use Rattle.std.proofs.Common.{ℕ, ◌≤◌}
use Rattle.std.specs.Prelude.{Option, Some, None, Result, Ok, Err, IfOk}
use Rattle.schedule.specs.Attempt.{Follows, Within}
use Rattle.schedule.specs.declared.attempt.CallError.{CallError}

pub within : {E : Type 0} (answer : Result ℕ E) (lent : ℕ) (came : Result (Option ℕ) CallError) → IfOk answer (λ count. count ≤ lent) → Follows answer came → Within lent came
within answer lent (Ok (Some n)) fits follows = (follows.0, rw follows.1 at fits)
within answer lent (Ok None) fits follows = tt
within answer lent (Err error) fits follows = tt
