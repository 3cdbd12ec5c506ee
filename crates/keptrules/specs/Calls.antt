-- Lists of calls: what each gives, and what they leave.
-- Assumes nothing.
use Rattle.std.specs.Prelude.{List, [], ◌∷◌}
use Rattle.cells.specs.Refusal.{Result, map_given}
use Rattle.keptrules.specs.Kept.{Outcome, add, remove}
use Rattle.keptrules.specs.declared.call.Call.{Call}
use Rattle.keptrules.specs.declared.call.Call.TheVariants.{Add, Remove}
use Rattle.keptrules.specs.declared.call.Done.{Done}
use Rattle.keptrules.specs.declared.call.Done.TheVariants.{Added, Removed}
use Rattle.keptrules.specs.declared.schedule.Schedule.{Schedule}

-- an outcome with what it gives in other terms
abbrev pub map_outcome : {A B : Type 0} → (A → B) → Outcome A → Outcome B
map_outcome in_other_terms o = record { answer = map_given in_other_terms o.answer; schedule = o.schedule }

-- request 6: a call on a schedule
abbrev pub perform : Call → Schedule → Outcome Done
perform (Add row) s = map_outcome Added (add row s)
perform (Remove number) s = map_outcome (λ _. Removed) (remove number s)

-- what calls give, one after another
unfoldable pub answers : List Call → Schedule → List (Result Done)
answers [] s = []
answers (call ∷ calls) s = (perform call s).answer ∷ answers calls (perform call s).schedule

-- and the schedule that they leave
unfoldable pub after : List Call → Schedule → Schedule
after [] s = s
after (call ∷ calls) s = after calls (perform call s).schedule
