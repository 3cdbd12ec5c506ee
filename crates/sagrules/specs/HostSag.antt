-- The sag check as a host hands it over beside a row, what its entry returns, and what it leaves in the lent bytes.
-- Assumes nothing.
use Rattle.std.specs.Prelude.{ℕ, ◌*◌, ◌≡◌, cond, List, [], ◌∷◌, eqb, length, Option}
use Rattle.cells.specs.Refusal.{Result, gives, refuses, and_then, leaves, told}
use Rattle.worksheet.specs.HostAnswer.{floats_bytes, floats_result, whole_floats}
use Rattle.worksheet.specs.HostRow.{host_cell_bytes, read_host_row}
use Rattle.worksheet.specs.OwnCell.{own_number_at, three_own}
use Rattle.sagrules.specs.Demand.{SagDemand}
use Rattle.sagrules.specs.SagCheck.{accept_beam, accept_sag, judge_sag}
use Rattle.sagrules.specs.declared.answer.SagVerdict.{SagVerdict}
use Rattle.sagrules.specs.declared.sag.Sag.{Sag}
use Rattle.sagrules.specs.declared.sag.SagBeam.{SagBeam}

-- ---- the sag's bytes

-- request 3, host: the sag has three cells: L, Mn and n
abbrev pub sag_cell_count : ℕ
sag_cell_count = 3

-- request 3, host: L, Mn and n; refusal 10, cell 0, where one is missing (blank or unreadable) or outside its range
abbrev pub sag_of : Option ℕ → Option ℕ → Option ℕ → Result Sag
sag_of first second third =
    three_own 10 first second third
    (λ (span moment ratio : ℕ). accept_sag (record { span = span; moment = moment; ratio = ratio }))

-- the three cells of the sag
abbrev pub sag_cells : List ℕ → Result Sag
sag_cells sag = sag_of (own_number_at sag 0) (own_number_at sag 1) (own_number_at sag 2)

-- request 3, host: refusal 10, cell 0, for another length than 27 bytes too
abbrev pub read_host_sag : List ℕ → Result Sag
read_host_sag sag = cond (eqb (length sag) (host_cell_bytes * sag_cell_count)) (sag_cells sag) (refuses 10 0)

-- request 3, host: the beam of the host's row: refusals of reading, then of the row, then 9
abbrev pub read_sag_beam : List ℕ → Result SagBeam
read_sag_beam row = and_then (read_host_row row) accept_beam

-- ---- the entry

-- request 3, host: the seven numbers of the answer
abbrev pub sag_numbers : SagVerdict → List ℕ
sag_numbers v =
    v.utilisation ∷ v.modulus ∷ v.elastic_duration ∷ v.moisture ∷ v.design_modulus ∷ v.limit_moment ∷ v.shear_factor ∷ []

-- request 3, host: the answer's bytes: the seven numbers as floats
abbrev pub sag_answer_bytes : SagVerdict → List ℕ
sag_answer_bytes v = floats_bytes (whole_floats (sag_numbers v))

-- a verdict in an answer of `room` bytes: refusal 5, cell 0, for another length than 56
abbrev pub sag_answered : ℕ → SagVerdict → Result SagVerdict
sag_answered room v = and_then (floats_result 7 room) (λ (given : Unit {0}). gives v)

-- request 3, host: the row and the sag judged, the answer's length tested last
abbrev pub host_sag : List ℕ → List ℕ → ℕ → Result SagVerdict
host_sag row sag room = and_then (judge_sag (read_sag_beam row) (read_host_sag sag)) (sag_answered room)

-- request 3, host: the number for a verdict: 0 for pass, 1 for fail
abbrev pub sag_pass_or_fail : SagVerdict → ℕ
sag_pass_or_fail v = cond v.passes 0 1

-- request 3, host: what the entry returns: 0 for pass, 1 for fail, or the refusal
abbrev pub sag_returns : List ℕ → List ℕ → ℕ → ℕ
sag_returns row sag room = told sag_pass_or_fail (host_sag row sag room)

-- request 3, host: the answer's bytes after the call: those of the verdict, or untouched by a refusal
abbrev pub sag_leaves : List ℕ → List ℕ → List ℕ → List ℕ
sag_leaves row sag answer = leaves (host_sag row sag (length answer)) sag_answer_bytes answer

-- request 3, host: the reading of what the entry returned and left: where the row's beam and the sag are read, and the answer has 56 bytes, they are a verdict that keeps it
abbrev pub HostKeepsSagDemand : List ℕ → List ℕ → List ℕ → ℕ → List ℕ → ℕ → Type 0
HostKeepsSagDemand row sag answer returned left k =
    (b : SagBeam) (s : Sag)
    → read_sag_beam row ≡ gives b
    → read_host_sag sag ≡ gives s
    → length answer ≡ 56
    → (v : SagVerdict) × (returned ≡ sag_pass_or_fail v) × (left ≡ sag_answer_bytes v) × SagDemand b s v k
