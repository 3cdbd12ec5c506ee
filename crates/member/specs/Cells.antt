-- The cells of a row: which of them a kind fills, which codes are known, and the range of each value.
-- Assumes nothing.
use Rattle.std.specs.Prelude.{ℕ, ◌-◌, Bool, true, false, cond, ◌&&◌, ◌||◌, List, [], ◌∷◌, leb, eqb, get_or, None, Some}
use Rattle.std.specs.Bool.{beq}
use Rattle.cells.specs.Row.{Cell}
use Rattle.sp64.specs.Tables.{table_strength, duration_factor, slenderness_limit}
use Rattle.sp64.specs.declared.tables.Stress.TheVariants.{Bending as bendingStress}
use Rattle.member.specs.declared.kind.Kind.{Kind}
use Rattle.member.specs.declared.kind.Kind.TheVariants.{Tension, Bending, Compression, CompressionBending, TensionBending}

-- whether a cell is filled
abbrev pub filled : Cell → Bool
filled None = false
filled (Some value) = true

-- the value of a cell, 0 for a blank
abbrev pub value_of : Cell → ℕ
value_of None = 0
value_of (Some value) = value

-- from lo to hi
abbrev pub within : ℕ → ℕ → ℕ → Bool
within lo hi n = leb lo n && leb n hi

-- the cells that a kind always fills
abbrev pub required : Kind → ℕ → Bool
required Tension n = within 1 8 n || within 11 13 n
required Bending n = within 1 7 n || within 9 10 n
required Compression n = within 1 8 n || within 11 13 n
required CompressionBending n = within 1 13 n
required TensionBending n = within 1 13 n

-- the cells of which a kind fills all or none: those of the joint
abbrev pub optional : Kind → ℕ → Bool
optional Tension n = within 14 22 n
optional Bending n = false
optional Compression n = false
optional CompressionBending n = false
optional TensionBending n = false

-- the cells that a row fills, given whether it has begun the optional ones; all others are blank
abbrev pub wanted : Kind → Bool → ℕ → Bool
wanted kind begun n = required kind n || optional kind n && begun

-- rows 1 to 3 of Table 16 are those of kinds 3 and 4; kind 2 has none
abbrev pub compressed : Kind → Bool
compressed Tension = false
compressed Bending = false
compressed Compression = true
compressed CompressionBending = true
compressed TensionBending = false

-- cell 13: a row of Table 16, 1 to 3 for kinds 3 and 4, above 3 for the others
abbrev pub known_row : Kind → ℕ → Bool
known_row kind row = leb 1 (slenderness_limit row) && beq (leb row 3) (compressed kind)

-- the known codes of cells 2, 3 and 13; no other cell but the first has a code
abbrev pub known_code : Kind → ℕ → ℕ → Bool
known_code kind n code =
    cond (eqb n 2)
    (leb 1 (table_strength bendingStress code))
    (cond (eqb n 3)
    (leb 1 (duration_factor code))
    (cond (eqb n 13)
    (known_row kind code)
    true))

-- a code has no range
abbrev any_code : ℕ × ℕ
any_code = (0, 18446744073709551615)

-- the least and the greatest value of each cell, cell 1 first
abbrev pub ranges : List (ℕ × ℕ)
ranges =
    -- 1 to 3: kind, grade, regime
    any_code ∷
    any_code ∷
    any_code ∷
    -- 4 and 5: wood moisture in percent, office factor in thousandths
    (0, 60) ∷
    (500, 1000) ∷
    -- 6 and 7: width b and height h, in mm
    (20, 300) ∷
    (60, 2500) ∷
    -- 8 to 10: axial force N in N, moment M in N·mm, shear force Q in N
    (1, 100000000) ∷
    (1, 10000000000) ∷
    (0, 100000000) ∷
    -- 11 and 12: effective lengths Lh and Lb, in mm
    (100, 20000) ∷
    (100, 20000) ∷
    -- 13: row of Table 16
    any_code ∷
    -- 14 to 17: side piece thickness a, dowel diameter d, dowels across the height r, joint length available
    (10, 300) ∷
    (6, 40) ∷
    (1, 20) ∷
    (1, 20000) ∷
    -- 18 to 22: kc, ka, kb, ke, km, in hundredths of N/mm²
    (100, 5000) ∷
    (100, 5000) ∷
    (100, 5000) ∷
    (0, 5000) ∷
    (100, 5000) ∷
    []

-- the least value of a cell
abbrev pub least_of : ℕ → ℕ
least_of n = (get_or ranges (n - 1) (0, 0)).0

-- the greatest value of a cell
abbrev pub greatest_of : ℕ → ℕ
greatest_of n = (get_or ranges (n - 1) (0, 0)).1

-- a value in the range of its cell
abbrev pub in_range : ℕ → ℕ → Bool
in_range n value = within (least_of n) (greatest_of n) value
