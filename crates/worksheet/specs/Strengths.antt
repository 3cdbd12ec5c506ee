-- Request 2: the design strengths of the host's row, each with its remainder: what the entry returns, and what it leaves in the lent bytes.
-- Assumes nothing.
use Rattle.std.specs.Prelude.{ℕ, List, [], ◌∷◌, length}
use Rattle.cells.specs.Refusal.{Result, gives, and_then, leaves, told}
use Rattle.sp64.specs.Strength.{design_strength, strength_remainder}
use Rattle.sp64.specs.declared.strength.Material.{Material}
use Rattle.sp64.specs.declared.tables.Stress.TheVariants.{Bending, Compression, Tension, Shear}
use Rattle.member.specs.Acceptance.{accept}
use Rattle.member.specs.declared.member.Member.{Member}
use Rattle.worksheet.specs.HostAnswer.{floats_bytes, floats_result, whole_floats}
use Rattle.worksheet.specs.HostRow.{read_host_row}

-- request 2, host: the eight numbers of the answer: bending, compression, tension, shear, of each the strength and then the remainder
abbrev pub strength_numbers : Material → List ℕ
strength_numbers m =
    design_strength Bending m ∷
    strength_remainder Bending m ∷
    design_strength Compression m ∷
    strength_remainder Compression m ∷
    design_strength Tension m ∷
    strength_remainder Tension m ∷
    design_strength Shear m ∷
    strength_remainder Shear m ∷
    []

-- request 2, host: the answer's bytes: the eight numbers as floats
abbrev pub strengths_bytes : Material → List ℕ
strengths_bytes m = floats_bytes (whole_floats (strength_numbers m))

-- request 2, host: strengths in an answer of `room` bytes: refusal 5, cell 0, for another length than 64
abbrev pub strengths_answered : ℕ → Material → Result Material
strengths_answered room m = and_then (floats_result 8 room) (λ (given : Unit {0}). gives m)

-- request 2, host: the row read and accepted as in checking, the answer's length tested last
abbrev pub host_strengths : List ℕ → ℕ → Result Material
host_strengths row room =
    and_then (and_then (read_host_row row) accept) (λ (m : Member). strengths_answered room m.material)

-- request 2, host: the number for strengths: 0
abbrev pub always0 : Material → ℕ
always0 m = 0

-- request 2, host: what the entry returns: 0, or the refusal
abbrev pub strengths_returns : List ℕ → ℕ → ℕ
strengths_returns row room = told always0 (host_strengths row room)

-- request 2, host: the answer's bytes after the call: those of the strengths, or untouched by a refusal
abbrev pub strengths_leaves : List ℕ → List ℕ → List ℕ
strengths_leaves row answer = leaves (host_strengths row (length answer)) strengths_bytes answer
