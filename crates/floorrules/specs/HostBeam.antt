-- The floor beam as a host hands it over, what its entry returns, and what it leaves in the lent bytes.
-- Assumes nothing.
use Rattle.std.specs.Prelude.{ℕ, ◌*◌, cond, List, [], ◌∷◌, ◌≡◌, eqb, length, get_or, None, Option}
use Rattle.cells.specs.Refusal.{Result, gives, refuses, and_then, leaves, told}
use Rattle.cells.specs.Row.{Cell}
use Rattle.member.specs.Acceptance.{accept}
use Rattle.member.specs.Demand3.{Demand3At}
use Rattle.member.specs.declared.check.Check.{Check}
use Rattle.member.specs.declared.member.Member.{Member}
use Rattle.worksheet.specs.Entries.{pass_or_fail}
use Rattle.worksheet.specs.HostAnswer.{floats_bytes, floats_result, whole_floats}
use Rattle.worksheet.specs.HostRow.{host_cell_bytes, host_cell_at}
use Rattle.worksheet.specs.OwnCell.{own_number_at, three_own}
use Rattle.worksheet.specs.Reading.{read_cells}
use Rattle.worksheet.specs.declared.host_cell.HostCell.{HostCell}
use Rattle.worksheet.specs.declared.host_cell.HostCell.TheVariants.{Blank as Empty}
use Rattle.floorrules.specs.BeamRow.{beam_row}
use Rattle.floorrules.specs.Demand.{exact_forces_of}
use Rattle.floorrules.specs.FloorBeam.{accept_loading, floor_beam}
use Rattle.floorrules.specs.declared.answer.BeamVerdict.{BeamVerdict}
use Rattle.floorrules.specs.declared.beam.BeamCells.{BeamCells}
use Rattle.floorrules.specs.declared.beam.Loading.{Loading}

-- ---- the beam's bytes

-- request 1, host: the beam has eight cells: both loads, the span, then cells 2, 4, 5, 6 and 7 of its row
abbrev pub beam_cell_count : ℕ
beam_cell_count = 8

-- the cell in a place of the beam, the first in place 0
abbrev pub beam_cell_at : List ℕ → ℕ → HostCell
beam_cell_at beam place = host_cell_at beam (host_cell_bytes * place)

-- request 1, host: the number in a place of the beam, if it holds one
abbrev pub load_at : List ℕ → ℕ → Option ℕ
load_at = own_number_at

-- request 1, host: two loads and a span; refusal 8, cell 0, where one is missing (blank or unreadable) or outside its range
abbrev pub loading_of : Option ℕ → Option ℕ → Option ℕ → Result Loading
loading_of first second third =
    three_own 8 first second third
    (λ (lasting remaining span : ℕ). accept_loading (record { lasting = lasting; remaining = remaining; span = span }))

-- the loads and the span of the beam
abbrev pub host_loading : List ℕ → Result Loading
host_loading beam = loading_of (load_at beam 0) (load_at beam 1) (load_at beam 2)

-- request 1, host: cells 1 to 7 of the row as far as the beam gives them, each under the number by which a refusal names it
abbrev pub host_cells_of_row : List ℕ → List HostCell
host_cells_of_row beam =
    Empty ∷ beam_cell_at beam 3 ∷ Empty ∷ beam_cell_at beam 4 ∷ beam_cell_at beam 5 ∷ beam_cell_at beam 6 ∷ beam_cell_at beam 7 ∷ []

-- cells 2 and 4 to 7, by name
abbrev pub beam_cells_of : List Cell → BeamCells
beam_cells_of cells =
    record {
      grade = get_or cells 1 None;
      moisture = get_or cells 3 None;
      office = get_or cells 4 None;
      width = get_or cells 5 None;
      height = get_or cells 6 None;
    }

-- request 1, host: the five cells, or refusal 1 of the lowest that is unreadable
abbrev pub host_beam_cells : List ℕ → Result BeamCells
host_beam_cells beam = and_then (read_cells (host_cells_of_row beam)) (λ (cells : List Cell). gives (beam_cells_of cells))

-- the five cells beside loads and a span
abbrev with_cells : Result BeamCells → Loading → Result (Loading × BeamCells)
with_cells cells l = and_then cells (λ (c : BeamCells). gives (l, c))

-- request 1, host: a refusal of the loads or the span comes before one of the cells
abbrev pub loads_then_cells : Result Loading → Result BeamCells → Result (Loading × BeamCells)
loads_then_cells loading cells = and_then loading (with_cells cells)

-- request 1, host: refusal 1, cell 0, for another length than 72 bytes; otherwise loads, span and cells
abbrev pub read_host_beam : List ℕ → Result (Loading × BeamCells)
read_host_beam beam =
    cond (eqb (length beam) (host_cell_bytes * beam_cell_count)) (loads_then_cells (host_loading beam) (host_beam_cells beam)) (refuses 1 0)

-- ---- the entry

-- request 1, host: the six numbers of the answer: those of checking, then the regime's code, M and Q
abbrev pub beam_numbers : BeamVerdict → List ℕ
beam_numbers v =
    v.verdict.utilisation ∷ v.verdict.count ∷ v.verdict.check ∷ v.regime ∷ v.moment ∷ v.shear ∷ []

-- request 1, host: the answer's bytes: the six numbers as floats
abbrev pub beam_bytes : BeamVerdict → List ℕ
beam_bytes v = floats_bytes (whole_floats (beam_numbers v))

-- a verdict in an answer of `room` bytes: refusal 5, cell 0, for another length than 48
abbrev pub beam_answered : ℕ → BeamVerdict → Result BeamVerdict
beam_answered room v = and_then (floats_result 6 room) (λ (given : Unit {0}). gives v)

-- what the check gives for a beam that was read
abbrev pub check_read : Result (Loading × BeamCells) → Result BeamVerdict
check_read read = and_then read (λ (r : Loading × BeamCells). floor_beam r.0 r.1)

-- request 1, host: the answer's length is tested last
abbrev pub length_last : ℕ → Result BeamVerdict → Result BeamVerdict
length_last room result = and_then result (beam_answered room)

-- checking a floor beam for the host: read, checked, answered
abbrev pub host_floor_beam : List ℕ → ℕ → Result BeamVerdict
host_floor_beam beam room = length_last room (check_read (read_host_beam beam))

-- the number for a verdict: 0 for pass, 1 for fail
abbrev pub beam_pass_or_fail : BeamVerdict → ℕ
beam_pass_or_fail v = pass_or_fail v.verdict

-- request 1, host: what the entry returns: 0 for pass, 1 for fail, or the refusal
abbrev pub beam_returns : List ℕ → ℕ → ℕ
beam_returns beam room = told beam_pass_or_fail (host_floor_beam beam room)

-- request 1, host: the answer's bytes after the call: those of the verdict, or untouched by a refusal
abbrev pub beam_leaves : List ℕ → List ℕ → List ℕ
beam_leaves beam answer = leaves (host_floor_beam beam (length answer)) beam_bytes answer

-- request 1, host: demand 3 of what the entry returned and left: where the beam is read, its row not refused, and the answer has 48 bytes, they are a verdict that keeps it at M and Q unrounded
abbrev pub HostKeepsFloorDemand : List ℕ → List ℕ → ℕ → List ℕ → (Check → ℕ) → Type 0
HostKeepsFloorDemand beam answer returned left k =
    (l : Loading) (cells : BeamCells) (m : Member)
    → read_host_beam beam ≡ gives (l, cells)
    → accept (beam_row l cells) ≡ gives m
    → length answer ≡ 48
    → (v : BeamVerdict) × (returned ≡ beam_pass_or_fail v) × (left ≡ beam_bytes v) × Demand3At m (exact_forces_of l) v.verdict k
