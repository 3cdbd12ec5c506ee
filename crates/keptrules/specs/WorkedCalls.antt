-- Ten calls with worked rows of document 01, by hand: what each gives, and what governs after it.
-- Assumes nothing.
use Rattle.std.specs.Prelude.{ℕ, true, false, List, [], ◌∷◌, Option, Some}
use Rattle.cells.specs.Refusal.{Result, gives, refuses}
use Rattle.cells.specs.Row.{row_of}
use Rattle.member.specs.WorkedRows.{row_a, row_b, row_f, row_g, row_h}
use Rattle.member.specs.declared.verdict.NumberedVerdict.{NumberedVerdict}
use Rattle.member.specs.declared.verdict.Verdict.{Verdict}
use Rattle.keptrules.specs.Calls.{perform}
use Rattle.keptrules.specs.Kept.{governing}
use Rattle.keptrules.specs.declared.call.Call.{Call}
use Rattle.keptrules.specs.declared.call.Call.TheVariants.{Add, Remove}
use Rattle.keptrules.specs.declared.call.Done.{Done}
use Rattle.keptrules.specs.declared.call.Done.TheVariants.{Added, Removed}
use Rattle.keptrules.specs.declared.schedule.Schedule.{Schedule}

-- what governs after each of some calls
unfoldable pub governing_each : List Call → Schedule → List (Option NumberedVerdict)
governing_each [] s = []
governing_each (call ∷ calls) s = governing (perform call s).schedule ∷ governing_each calls (perform call s).schedule

-- rows A, B, F and G; H, which is blank; the removals of F, of F once more, and of G; A once more, and the removal of the first
abbrev pub worked_calls : List Call
worked_calls =
    Add (row_of row_a) ∷ Add (row_of row_b) ∷ Add (row_of row_f) ∷ Add (row_of row_g) ∷ Add (row_of row_h)
    ∷ Remove 3 ∷ Remove 3 ∷ Remove 4 ∷ Add (row_of row_a) ∷ Remove 1 ∷ []

abbrev pub worked_answers : List (Result Done)
worked_answers =
    gives (Added 1) ∷ gives (Added 2) ∷ gives (Added 3) ∷ gives (Added 4) ∷ refuses 2 1
    ∷ gives Removed ∷ refuses 12 0 ∷ gives Removed ∷ gives (Added 5) ∷ gives Removed ∷ []

-- row A: it passes, and bending governs
abbrev pub verdict_a : Verdict
verdict_a = record { passes = true; check = 7; utilisation = 690668; count = 0 }

abbrev pub with_a : ℕ → Option NumberedVerdict
with_a number = Some (record { number = number; verdict = verdict_a })

-- row F: joint length
abbrev pub with_f : ℕ → Option NumberedVerdict
with_f number = Some (record { number = number; verdict = record { passes = false; check = 4; utilisation = 0; count = 20 } })

-- row G: layout
abbrev pub with_g : ℕ → Option NumberedVerdict
with_g number = Some (record { number = number; verdict = record { passes = false; check = 1; utilisation = 0; count = 0 } })

-- F and G rank equal, and the lower number governs; of the two rows A as well
abbrev pub worked_governing : List (Option NumberedVerdict)
worked_governing =
    with_a 1 ∷ with_a 1 ∷ with_f 3 ∷ with_f 3 ∷ with_f 3
    ∷ with_g 4 ∷ with_g 4 ∷ with_a 1 ∷ with_a 1 ∷ with_a 5 ∷ []
