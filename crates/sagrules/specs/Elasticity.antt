-- The design modulus of elasticity E, in MPa: the modulus of Table В.2а, the factor e, E rounded down and, beside it, unrounded.
-- Assumes nothing.
use Rattle.std.specs.Prelude.{ℕ, ◌*◌, cond, eqb}
use Rattle.rounding.specs.Fraction.{Fraction, whole, ◌⊘◌}
use Rattle.rounding.specs.Rounding.{down}
use Rattle.sp64.specs.Tables.{look_up, grades}
use Rattle.sagrules.specs.declared.sag.SagBeam.{SagBeam}

-- request 3: the modulus of elasticity of a grade, Table В.2а, in MPa; 0 for an unknown grade
abbrev pub table_modulus : ℕ → ℕ
table_modulus = look_up (grades 12000 11000 10000)

-- request 3: e, in hundredths: 75 for regime Б (2), 90 for В (3), 100 otherwise
abbrev pub elastic_duration : ℕ → ℕ
elastic_duration regime = cond (eqb regime 2) 75 (cond (eqb regime 3) 90 100)

-- modulus × e × w, undivided; the office factor has no part in it
abbrev pub undivided_modulus : SagBeam → ℕ
undivided_modulus b = table_modulus b.grade * elastic_duration b.regime * b.moisture

-- request 3: E = modulus × e × w / 10,000, down
abbrev pub design_modulus : SagBeam → ℕ
design_modulus b = down (undivided_modulus b) 10000

-- request 3: E, unrounded
abbrev pub exact_design_modulus : SagBeam → Fraction
exact_design_modulus b = whole (undivided_modulus b) ⊘ whole 10000
