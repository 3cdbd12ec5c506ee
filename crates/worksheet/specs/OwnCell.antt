-- The cells of an operation's own, beside those of a row: a load, a span. Each has to hold a number.
-- Assumes nothing.
use Rattle.std.specs.Prelude.{ℕ, ◌*◌, List, None, Some, Ok, Err, Option}
use Rattle.cells.specs.Refusal.{Result, gives, refuses, and_then}
use Rattle.worksheet.specs.HostRow.{host_cell_bytes, host_cell_at}
use Rattle.worksheet.specs.Number.{Reading}
use Rattle.worksheet.specs.Reading.{read_cell}

-- its number; none where it is blank or unreadable
abbrev pub own_number : Reading → Option ℕ
own_number (Ok (Some number)) = Some number
own_number (Ok None) = None
own_number (Err reason) = None

-- the number, or the operation's refusal: it is tied to no cell of a row, so it names cell 0
abbrev pub own_result : ℕ → Option ℕ → Result ℕ
own_result refusal (Some number) = gives number
own_result refusal None = refuses refusal 0

-- the number in a place of the operation's bytes, counted in cells, the first in place 0; none where the cell holds none
abbrev pub own_number_at : List ℕ → ℕ → Option ℕ
own_number_at bytes place = own_number (read_cell (host_cell_at bytes (host_cell_bytes * place)))

-- what comes of three such numbers, or the operation's refusal where one of them is missing
abbrev pub three_own : {A : Type 0} → ℕ → Option ℕ → Option ℕ → Option ℕ → (ℕ → ℕ → ℕ → Result A) → Result A
three_own refusal first second third next =
    and_then (own_result refusal first)
    (λ (a : ℕ). and_then (own_result refusal second)
    (λ (b : ℕ). and_then (own_result refusal third)
    (λ (c : ℕ). next a b c)))
