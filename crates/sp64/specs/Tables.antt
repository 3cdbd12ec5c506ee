-- The tables: strengths by stress and grade, duration and moisture factors, slenderness limits. An unknown code gives 0.
-- Assumes nothing.
use Rattle.std.specs.Prelude.{ℕ, cond, List, [], ◌∷◌, leb, eqb}
use Rattle.sp64.specs.declared.tables.Stress.{Stress}
use Rattle.sp64.specs.declared.tables.Stress.TheVariants.{Bending, Compression, Tension, Shear}

-- the figure that a table has beside a code, and 0 for an unknown code
abbrev pub look_up : List (ℕ × ℕ) → ℕ → ℕ
look_up [] code = 0
look_up (line ∷ lines) code = cond (eqb code line.0) line.1 (look_up lines code)

-- a line of Table 7: the figures for grades 1, 2, 3 (K45, K40, K35)
abbrev pub grades : ℕ → ℕ → ℕ → List (ℕ × ℕ)
grades k45 k40 k35 = (1, k45) ∷ (2, k40) ∷ (3, k35) ∷ []

-- Table 7, in kPa; shear is its row 7
abbrev pub table_strength : Stress → ℕ → ℕ
table_strength Bending = look_up (grades 39000 34000 30000)
table_strength Compression = look_up (grades 32000 30000 27000)
table_strength Tension = look_up (grades 31000 27000 24000)
table_strength Shear = look_up (grades 4100 3900 3900)

-- the regimes А Б В Г Д Е Ж И Л М and their duration factors; К, code 9, is not known here
abbrev pub regimes : List (ℕ × ℕ)
regimes = (1, 100) ∷ (2, 53) ∷ (3, 66) ∷ (4, 66) ∷ (5, 80) ∷ (6, 80) ∷ (7, 92) ∷ (8, 110) ∷ (10, 75) ∷ (11, 100) ∷ []

-- duration factor t, in hundredths, of a regime
abbrev pub duration_factor : ℕ → ℕ
duration_factor = look_up regimes

-- moisture factor w, in hundredths, of the wood moisture in percent
abbrev pub moisture_factor : ℕ → ℕ
moisture_factor percent = cond (leb percent 12) 100 (cond (leb percent 15) 90 (cond (leb percent 20) 85 75))

-- rows 1 to 5 of Table 16 and their slenderness limits
abbrev pub table16 : List (ℕ × ℕ)
table16 = (1, 120) ∷ (2, 150) ∷ (3, 200) ∷ (4, 150) ∷ (5, 200) ∷ []

-- the slenderness limit of a row of Table 16
abbrev pub slenderness_limit : ℕ → ℕ
slenderness_limit = look_up table16
