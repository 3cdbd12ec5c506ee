-- Laws of the tables: what a code gives that is not listed, and the range of the figures of known codes.
-- Assumes nothing.
use Prim.Native.Nat.{ℕ, ◌<◌}
use native.Mathlib.Omega.{arith}
use mathlib.Core.Path.{◌≡◌, refl}
use mathlib.Core.Bool.{Bool, true, false, cond}
use mathlib.Core.List.{List, [], ◌∷◌}
use lib.Dec.{leb, eqb}
use borrow.Author.Tests.{ne_eqb}
use Rattle.rounding.specs.Range.{In}
use Rattle.sp64.specs.declared.tables.Stress.{Stress}
use Rattle.sp64.specs.declared.tables.Stress.TheVariants.{Bending, Compression, Tension, Shear}
use Rattle.sp64.specs.Ranges.{InDuration, InLimit, InMoisture}
use Rattle.sp64.specs.Tables.{look_up, grades, table_strength, regimes, duration_factor, moisture_factor, table16, slenderness_limit}

-- A, and the code is none of the listed ones: what the last arm of a `match` with an arm for each line knows
abbrev pub Unlisted : Type 0 → List (ℕ × ℕ) → ℕ → Type 0
Unlisted A [] code = A
Unlisted A (line ∷ lines) code = Unlisted (A × (code ≡ line.0 → ⊥)) lines code

unlisted_with : (A : Type 0) (lines : List (ℕ × ℕ)) (code : ℕ) → Unlisted A lines code → A × (look_up lines code ≡ 0)
unlisted_with A [] code u = (u, refl)
unlisted_with A (line ∷ lines) code u =
    let r = unlisted_with (A × (code ≡ line.0 → ⊥)) lines code u in
    (r.0.0, rw (ne_eqb code line.0 r.0.1) r.1)

-- a code that is not listed gives 0
pub unlisted : (lines : List (ℕ × ℕ)) (code : ℕ) → Unlisted Unit lines code → 0 ≡ look_up lines code
unlisted lines code u = rw (unlisted_with Unit lines code u).1

-- regime К is not known, and regime И is not capped
pub regime_k : duration_factor 9 ≡ 0
regime_k = refl

pub regime_i : duration_factor 8 ≡ 110
regime_i = refl

-- each figure of the table lies from lo to hi
abbrev pub FiguresIn : ℕ → ℕ → List (ℕ × ℕ) → Type 0
FiguresIn lo hi [] = Unit
FiguresIn lo hi (line ∷ lines) = In lo hi line.1 × FiguresIn lo hi lines

cond_in : {lo hi x y : ℕ} (t : Bool) → In lo hi x → (0 < y → In lo hi y) → 0 < cond t x y → In lo hi (cond t x y)
cond_in true i f known = i
cond_in false i f known = f known

-- the figure of a known code lies from lo to hi
pub listed_in : {lo hi : ℕ} (lines : List (ℕ × ℕ)) (code : ℕ) → FiguresIn lo hi lines → 0 < look_up lines code → In lo hi (look_up lines code)
listed_in [] code f known = absurd (omega arith)
listed_in (line ∷ lines) code f known = cond_in (eqb code line.0) f.0 (listed_in lines code f.1) known

-- the least and the greatest figure of Table 7 for a stress
abbrev pub least_table : Stress → ℕ
least_table Bending = 30000
least_table Compression = 27000
least_table Tension = 24000
least_table Shear = 3900

abbrev pub greatest_table : Stress → ℕ
greatest_table Bending = 39000
greatest_table Compression = 32000
greatest_table Tension = 31000
greatest_table Shear = 4100

-- a grade that has a strength in bending is one of three, so it has a figure wherever all three have one
pub known_by : (x y z : Bool) (k45 k40 k35 : ℕ) → (0 < k45) × (0 < k40) × (0 < k35) → 0 < cond x 39000 (cond y 34000 (cond z 30000 0)) → 0 < cond x k45 (cond y k40 (cond z k35 0))
known_by true y z k45 k40 k35 some known = some.0
known_by false true z k45 k40 k35 some known = some.1
known_by false false true k45 k40 k35 some known = some.2
known_by false false false k45 k40 k35 some known = known

-- a grade that Table 7 knows for bending it knows for every stress
pub known_grade : (grade : ℕ) → 0 < table_strength Bending grade → (stress : Stress) → 0 < table_strength stress grade
known_grade grade known Bending = known
known_grade grade known Compression = known_by (eqb grade 1) (eqb grade 2) (eqb grade 3) 32000 30000 27000 (omega arith) known
known_grade grade known Tension = known_by (eqb grade 1) (eqb grade 2) (eqb grade 3) 31000 27000 24000 (omega arith) known
known_grade grade known Shear = known_by (eqb grade 1) (eqb grade 2) (eqb grade 3) 4100 3900 3900 (omega arith) known

-- the figure of a known grade
pub table_in : (grade : ℕ) → 0 < table_strength Bending grade → (stress : Stress) → In (least_table stress) (greatest_table stress) (table_strength stress grade)
table_in grade known Bending = listed_in (grades 39000 34000 30000) grade (omega arith) known
table_in grade known Compression = listed_in (grades 32000 30000 27000) grade (omega arith) (known_grade grade known Compression)
table_in grade known Tension = listed_in (grades 31000 27000 24000) grade (omega arith) (known_grade grade known Tension)
table_in grade known Shear = listed_in (grades 4100 3900 3900) grade (omega arith) (known_grade grade known Shear)

-- every figure of Table 7
pub table_any : (grade : ℕ) → 0 < table_strength Bending grade → (stress : Stress) → In 3900 39000 (table_strength stress grade)
table_any grade known Bending = omega (arith, table_in grade known Bending)
table_any grade known Compression = omega (arith, table_in grade known Compression)
table_any grade known Tension = omega (arith, table_in grade known Tension)
table_any grade known Shear = omega (arith, table_in grade known Shear)

pub duration_in : (regime : ℕ) → 0 < duration_factor regime → InDuration (duration_factor regime)
duration_in regime = listed_in regimes regime (omega arith)

pub limit_in : (row : ℕ) → 0 < slenderness_limit row → InLimit (slenderness_limit row)
limit_in row = listed_in table16 row (omega arith)

moisture_by : (a b c : Bool) → InMoisture (cond a 100 (cond b 90 (cond c 85 75)))
moisture_by true b c = omega arith
moisture_by false true c = omega arith
moisture_by false false true = omega arith
moisture_by false false false = omega arith

pub moisture_in : (percent : ℕ) → InMoisture (moisture_factor percent)
moisture_in percent = moisture_by (leb percent 12) (leb percent 15) (leb percent 20)
