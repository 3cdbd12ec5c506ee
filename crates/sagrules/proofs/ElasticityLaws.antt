-- The design modulus of elasticity: its figures and their ranges, and what rounding takes off it.
-- Assumes nothing.
use Prim.Native.Nat.{ℕ, ◌+◌, ◌*◌, ◌<◌}
use native.Mathlib.Omega.{arith}
use mathlib.Core.Bool.{Bool, true, false, cond}
use mathlib.Core.Path.{◌≡◌, refl}
use lib.Dec.{eqb, lit<}
use borrow.Author.Tests.{ne_eqb}
use Rattle.rounding.specs.Fraction.{whole, ◌≼◌, ◌≺◌}
use Rattle.rounding.specs.Range.{In}
use Rattle.rounding.proofs.Near.{Near, near_in, near_down}
use Rattle.rounding.proofs.Ranges.{in_lit, in_mul, in_div}
use Rattle.rounding.proofs.RoundingLaws.{rounding_down}
use Rattle.sp64.specs.Tables.{grades, table_strength}
use Rattle.sp64.specs.declared.tables.Stress.TheVariants.{Bending}
use Rattle.sp64.proofs.TableLaws.{listed_in, known_by}
use Rattle.sagrules.specs.Elasticity.{table_modulus, elastic_duration, undivided_modulus, design_modulus, exact_design_modulus}
use Rattle.sagrules.specs.Sag.{SagBeamRanges}
use Rattle.sagrules.specs.declared.sag.SagBeam.{SagBeam}

-- Table В.2а, line by line
pub moduli : (table_modulus 1 ≡ 12000) × (table_modulus 2 ≡ 11000) × (table_modulus 3 ≡ 10000)
moduli = (refl, refl, refl)

-- e of Б, and of В
pub duration_of_b : elastic_duration 2 ≡ 75
duration_of_b = refl

pub duration_of_v : elastic_duration 3 ≡ 90
duration_of_v = refl

-- and of every other regime, Г among them
pub duration_of_others : (regime : ℕ) → (regime ≡ 2 → ⊥) → (regime ≡ 3 → ⊥) → elastic_duration regime ≡ 100
duration_of_others regime not-b not-v = rw (ne_eqb regime 2 not-b, ne_eqb regime 3 not-v)

-- a grade that Table 7 knows is one that Table В.2а knows
pub known_modulus : (grade : ℕ) → 0 < table_strength Bending grade → 0 < table_modulus grade
known_modulus grade = known_by (eqb grade 1) (eqb grade 2) (eqb grade 3) 12000 11000 10000 (omega arith)

pub modulus_in : (grade : ℕ) → 0 < table_modulus grade → In 10000 12000 (table_modulus grade)
modulus_in grade = listed_in (grades 12000 11000 10000) grade (omega arith)

pub elastic_duration_in : (regime : ℕ) → In 75 100 (elastic_duration regime)
elastic_duration_in regime = by (eqb regime 2) (eqb regime 3)
  where
    by : (x y : Bool) → In 75 100 (cond x 75 (cond y 90 100))
    by true y = omega arith
    by false true = omega arith
    by false false = omega arith

-- E loses nothing it should not: it is at most its unrounded value, and less than one MPa below it
pub design_modulus_down : (b : SagBeam) → (whole (design_modulus b) ≼ exact_design_modulus b) × (exact_design_modulus b ≺ whole (design_modulus b + 1))
design_modulus_down b = omega (arith, rounding_down (undivided_modulus b) 10000 (lit< tt))

module _ {b : SagBeam} (known : SagBeamRanges b) where
  pub undivided_in : In (10000 * 75 * 75) (12000 * 100 * 100) (undivided_modulus b)
  undivided_in = in_mul (in_mul (modulus_in b.grade known.grade) (elastic_duration_in b.regime)) known.moisture

  -- E is from 5625 to 12,000 MPa
  pub design_modulus_in : In 5625 12000 (design_modulus b)
  design_modulus_in = in_div (lit< tt) undivided_in (in_lit 10000)

  -- rounding takes at most one part in 5626 off it
  pub design_modulus_near : Near 5625 5625 5626 (design_modulus b) (exact_design_modulus b)
  design_modulus_near = near_down 10000 (lit< tt) (near_in undivided_in)
