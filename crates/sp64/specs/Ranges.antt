-- The ranges of the cells that the rules take, and of the values that the rules give over them. That each value lies in its range is proved with the
-- function that gives it, or is a law that this function's proof cites.
-- Assumes nothing.
use Rattle.std.specs.Prelude.{ℕ}
use Rattle.rounding.specs.Range.{In}
use Rattle.sp64.specs.declared.tables.Stress.{Stress}
use Rattle.sp64.specs.declared.tables.Stress.TheVariants.{Bending, Compression, Tension, Shear}

-- cell 5, the office factor o, in thousandths
abbrev pub InOffice : ℕ → Type 0
InOffice = In 500 1000

-- cell 6, the width b
abbrev pub InWidth : ℕ → Type 0
InWidth = In 20 300

-- cell 7, the height h
abbrev pub InHeight : ℕ → Type 0
InHeight = In 60 2500

-- the side s across which a member buckles: b or h
abbrev pub InSide : ℕ → Type 0
InSide = In 20 2500

-- cell 8, the axial force N
abbrev pub InForce : ℕ → Type 0
InForce = In 1 100000000

-- cell 9, the moment M
abbrev pub InMoment : ℕ → Type 0
InMoment = In 1 10000000000

-- cells 11 and 12, an effective length L
abbrev pub InLength : ℕ → Type 0
InLength = In 100 20000

-- the duration factor t of a known regime, in hundredths
abbrev pub InDuration : ℕ → Type 0
InDuration = In 53 110

-- the moisture factor w, in hundredths
abbrev pub InMoisture : ℕ → Type 0
InMoisture = In 75 100

-- the slenderness limit of a known row of Table 16
abbrev pub InLimit : ℕ → Type 0
InLimit = In 120 200

-- the least R of a stress, in kPa
abbrev pub least_strength : Stress → ℕ
least_strength Bending = 5962
least_strength Compression = 5366
least_strength Tension = 4770
least_strength Shear = 775

-- the greatest R of a stress
abbrev pub greatest_strength : Stress → ℕ
greatest_strength Bending = 42900
greatest_strength Compression = 35200
greatest_strength Tension = 34100
greatest_strength Shear = 4510

-- R of a stress
abbrev pub InStrength : Stress → ℕ → Type 0
InStrength stress = In (least_strength stress) (greatest_strength stress)

-- R in tension or in compression
abbrev pub InAxialStrength : ℕ → Type 0
InAxialStrength = In 4770 35200

-- crushing of the core or of a side piece, in hundredths of N
abbrev pub InCrushing : ℕ → Type 0
InCrushing = In 6000 60000000

-- bending of a dowel, in hundredths of N
abbrev pub InDowelBending : ℕ → Type 0
InDowelBending = In 3600 8000000

-- what is multiplied by t × w × o: a strength of Table 7 in kPa, a crushing term in hundredths of N, and the 100,000 below the root
abbrev pub InUndivided : ℕ → Type 0
InUndivided = In 3900 60000000

-- request 5: s, the root of t × w × o × 100,000
abbrev pub InConditionRoot : ℕ → Type 0
InConditionRoot = In 445813 1048808

-- NR, in N
abbrev pub InNR : ℕ → Type 0
InNR = In 5724 26400000

-- the capacity of a net section or of two side pieces, in N
abbrev pub InNetCapacity : ℕ → Type 0
InNetCapacity = In 2862 52800000

-- MR, in N·mm
abbrev pub InMR : ℕ → Type 0
InMR = In 71544 13406250000

-- the shear capacity, in N
abbrev pub InShearCapacity : ℕ → Type 0
InShearCapacity = In 620 2255000

-- φ of checks 9 and 10, in millionths
abbrev pub InPhi : ℕ → Type 0
InPhi = In 250 1000000

-- the second form of φ, in millionths
abbrev pub InSlenderPhi : ℕ → Type 0
InSlenderPhi = In 250 156250000000

-- NR × φ, in N
abbrev pub InBucklingCapacity : ℕ → Type 0
InBucklingCapacity = In 1 4125000000000

-- a crushing term with the condition factors, in mN
abbrev pub InCrushingCapacity : ℕ → Type 0
InCrushingCapacity = In 11925 660000000

-- request 5: the bending term with the root, in mN
abbrev pub InDowelBendingCapacity : ℕ → Type 0
InDowelBendingCapacity = In 16049 83904640

-- T, in mN
abbrev pub InDowelCapacity : ℕ → Type 0
InDowelCapacity = In 11925 83904640

-- the dowel count
abbrev pub InCount : ℕ → Type 0
InCount = In 1 4192873
