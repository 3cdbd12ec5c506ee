-- The worked rows A to H of document 01, E also at its shortest: the verdict on each, the figures on the way to it, and the exact values that these round.
-- Assumes nothing.
use Rattle.std.specs.Prelude.{List, [], ◌∷◌}
use Rattle.rounding.specs.Fraction.{fraction, whole, ◌⊕◌}
use Rattle.sp64.specs.declared.tables.Stress.TheVariants.{Bending, Compression, Tension}
use Rattle.member.specs.declared.check.Across.TheVariants.{Height as across_height, Width as across_width}
use Rattle.member.specs.declared.check.StrengthCheck.TheVariants.{Shear as shear}
use Rattle.member.specs.Member.{count_of, NRof, exact_nrof, MRof, exact_mrof}
use Rattle.worked.specs.Cases.{Case, verdict, figure, exact, packs, pass, fail}
use Rattle.member.specs.WorkedRows.{row_a, row_b, row_c, row_d, row_e, row_e_shortest, row_f, row_g, row_h}
use Rattle.worked.specs.Values.{strength_in, exact_strength_in, phi, exact_phi, condition_root_of, core_resistance, exact_core_resistance, side_resistance, exact_side_resistance, bending_term, bending_resistance, exact_bending_resistance², dowel_resistance, exact_dowel_resistance², columns_of, joint_length_of, utilisation_in, bending_ratio, buckling_ratio, net_tension_ratio}

-- rows A to H, after E the same at its shortest
unfoldable pub table : List Case
table =
    -- A: bending governs; nothing is lost but in the utilisation
    verdict row_a (pass 7 690668 0) ∷
    figure row_a (strength_in Bending) 25740 ∷
    exact row_a (exact_strength_in Bending) (whole 25740) ∷
    figure row_a MRof 28957500 ∷
    exact row_a exact_mrof (whole 28957500) ∷
    exact row_a bending_ratio (fraction 8000 11583) ∷
    figure row_a (utilisation_in shear) 492733 ∷
    -- B: buckling across the width governs
    verdict row_b (pass 10 315122 0) ∷
    figure row_b (strength_in Compression) 12879 ∷
    exact row_b (exact_strength_in Compression) (whole 12879) ∷
    figure row_b (NRof Compression) 257580 ∷
    exact row_b (exact_nrof Compression) (whole 257580) ∷
    figure row_b (phi across_height) 784000 ∷
    exact row_b (exact_phi across_height) (whole 784000) ∷
    figure row_b (phi across_width) 616000 ∷
    exact row_b (exact_phi across_width) (whole 616000) ∷
    exact row_b buckling_ratio (fraction 312500 991683) ∷
    -- C and D: φ rises past slenderness 70; each is rounded down, by the part that follows the whole number
    verdict row_c (pass 10 319120 0) ∷
    figure row_c (phi across_width) 608281 ∷
    exact row_c (exact_phi across_width) (whole 608281 ⊕ fraction 3 5) ∷
    verdict row_d (pass 10 317141 0) ∷
    figure row_d (phi across_width) 612078 ∷
    exact row_d (exact_phi across_width) (whole 612078 ⊕ fraction 3521602 4084441) ∷
    -- E: checks 5 and 6 are equal, and the lower number is named
    verdict row_e (pass 5 342176 20) ∷
    exact row_e (exact_strength_in Tension) (whole 17820) ∷
    figure row_e condition_root_of 812403 ∷
    figure row_e core_resistance 3960000 ∷
    exact row_e exact_core_resistance (whole 3960000) ∷
    figure row_e side_resistance 3168000 ∷
    exact row_e exact_side_resistance (whole 3168000) ∷
    figure row_e bending_term 309200 ∷
    figure row_e bending_resistance 2511950 ∷
    exact row_e exact_bending_resistance² (whole 6309906240000) ∷
    figure row_e dowel_resistance 2511950 ∷
    exact row_e exact_dowel_resistance² (whole 6309906240000) ∷
    figure row_e count_of 20 ∷
    figure row_e columns_of 7 ∷
    figure row_e joint_length_of 672 ∷
    exact row_e net_tension_ratio (fraction 12500 36531) ∷
    -- E with the shortest joint length that holds it
    verdict row_e_shortest (pass 5 342176 20) ∷
    -- F: the joint is a millimetre too long
    verdict row_f (fail 4 0 20) ∷
    figure row_f count_of 20 ∷
    -- G: too little height for three dowels
    verdict row_g (fail 1 0 0) ∷
    -- H: packed, a bit for each cell and zeros to fill the third byte
    packs row_h (0 ∷ 0 ∷ 0 ∷ []) ∷
    []
