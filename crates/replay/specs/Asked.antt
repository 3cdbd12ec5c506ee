-- What the bytes of the input ask for. The statement of the product does not cite it.
-- Assumes nothing.
use Rattle.std.specs.Prelude.{ℕ, cond, List, take, drop, get_or, eqb, Option, Some, None}
use Rattle.cells.specs.HostBytes.{half_word_at}
use Rattle.cells.specs.Refusal.{Result, gives, refuses, map_given}
use Rattle.cells.specs.Row.{Cell, row_of}
use Rattle.worksheet.specs.HostRow.{read_host_row}
use Rattle.keptrules.specs.Calls.{perform}
use Rattle.keptrules.specs.Kept.{Outcome, refused}
use Rattle.keptrules.specs.declared.call.Call.{Call}
use Rattle.keptrules.specs.declared.call.Call.TheVariants.{Add, Remove}
use Rattle.keptrules.specs.declared.call.Done.{Done}
use Rattle.keptrules.specs.declared.schedule.Schedule.{Schedule}

-- the add of a row that the host hands over, if it can be read
abbrev pub add_of : List ℕ → Result Call
add_of row = map_given (λ (cells : List Cell). Add (row_of cells)) (read_host_row row)

-- a first byte of 1 adds the host's row in the other 198; of 2 removes the number in the next four, lowest first; another asks for nothing
abbrev pub asked : List ℕ → Option (Result Call)
asked bytes =
    cond (eqb (get_or bytes 0 0) 1)
    (Some (add_of (take 198 (drop 1 bytes))))
    (cond (eqb (get_or bytes 0 0) 2) (Some (gives (Remove (half_word_at bytes 1)))) None)

-- what a call gives; of an add whose row is unreadable, that refusal
abbrev pub answer_to : Result Call → Schedule → Outcome Done
answer_to (gives call) s = perform call s
answer_to (refuses number cell) s = refused number cell s
