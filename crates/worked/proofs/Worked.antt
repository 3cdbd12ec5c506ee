-- The worked rows of document 01 are what the definitions give.
-- Assumes nothing.
use Prim.Native.Nat.{◌*◌}
use mathlib.Core.Path.{◌≡◌, refl}
use lib.Dec.{T, ltb, lit<}
use Rattle.cells.specs.Greatest.{greatest}
use Rattle.cells.specs.Lowest.{lowest}
use Rattle.rounding.specs.Fraction.{Fraction, SameValue}
use Rattle.rounding.specs.Greatest.{by_digits}
use Rattle.packed.proofs.Sizes.{blank_row_lem}
use Rattle.member.specs.Acceptance.{accept_kind}
use Rattle.member.specs.Verdict.{judge_by}
use Rattle.worked.specs.Cases.{All}
use Rattle.worked.specs.Table.{table}

infixr 40 ◌and◌
-- a case and those after it
abbrev pub ◌and◌ : {A B : Type 0} → A → B → A × B
a and b = (a, b)

-- two fractions whose denominators and products are numerals
pub same : {x y : Fraction} → T (ltb 0 x.den) → T (ltb 0 y.den) → x.num * y.den ≡ y.num * x.den → SameValue x y
same real written cross = record { real = lit< real; written = lit< written; cross = cross }

-- every case of the table, by computing; row H by the law of packing
pub worked : All table
unfolding lowest accept_kind greatest judge_by by_digits table
worked =
    -- A
    (refl, refl) and
    refl and
    same tt tt refl and
    refl and
    same tt tt refl and
    same tt tt refl and
    refl and
    -- B
    (refl, refl) and
    refl and
    same tt tt refl and
    refl and
    same tt tt refl and
    refl and
    same tt tt refl and
    refl and
    same tt tt refl and
    same tt tt refl and
    -- C and D
    (refl, refl) and
    refl and
    same tt tt refl and
    (refl, refl) and
    refl and
    same tt tt refl and
    -- E
    (refl, refl) and
    same tt tt refl and
    refl and
    refl and
    same tt tt refl and
    refl and
    same tt tt refl and
    refl and
    refl and
    same tt tt refl and
    refl and
    same tt tt refl and
    refl and
    refl and
    refl and
    same tt tt refl and
    -- E, shortest
    (refl, refl) and
    -- F
    (refl, refl) and
    refl and
    -- G
    (refl, refl) and
    -- H
    blank_row_lem and
    tt
