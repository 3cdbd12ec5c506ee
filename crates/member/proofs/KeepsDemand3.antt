-- Demand 3 for every row that "Check a row" does not refuse, at every factor from `kept_from` on.
-- Assumes nothing.
use Prim.Native.Nat.{ℕ}
use native.Mathlib.Omega.{arith}
use mathlib.Core.Path.{◌≡◌, ap, ◌∙◌}
use mathlib.Core.List.{List}
use lib.Dec.{lit≤}
use lib.ListN.{length}
use Rattle.std.specs.Prelude.{Result as Answer}
use Rattle.rounding.specs.Fraction.{RoundsUpTo}
use Rattle.cells.specs.Refusal.{gives, by_number}
use Rattle.cells.specs.declared.refusal.Refusal.{Refusal}
use Rattle.cells.specs.Row.{cell_count, Cell}
use Rattle.member.specs.Acceptance.{accept}
use Rattle.member.specs.Checks.{Check}
use Rattle.member.specs.Demand3.{demand_factor, kept_from, EachFrom, Demand3, Demand3At, KeepsDemand3}
use Rattle.member.specs.Unrounded.{Forces, forces_of}
use Rattle.member.specs.Verdict.{verdict, judged, check_row}
use Rattle.member.specs.declared.kind.Kind.TheVariants.{Bending}
use Rattle.member.specs.declared.member.Member.{Member}
use Rattle.member.specs.declared.verdict.Verdict.{Verdict}
use Rattle.cells.proofs.ResultLaws.{answer_given}
use Rattle.member.proofs.AcceptanceLaws.{accept_ranges}
use Rattle.member.proofs.DemandLaws.{demand_from}
use Rattle.member.proofs.RowChecks.{checks_sound, bending_checks_sound}

-- the factors that demand 3 asks for are among them
pub demand_factor_kept : EachFrom kept_from demand_factor
demand_factor_kept c = lit≤ tt

module _ (cells : List Cell) (m : Member) (whole : length cells ≡ cell_count) (given : accept cells ≡ gives m) where
  -- the verdict by the rules keeps demand 3
  pub keeps_demand_3 : (k : Check → ℕ) → EachFrom kept_from k → Demand3 m (verdict m) k
  keeps_demand_3 k big = demand_from m (forces_of m) (checks_sound m (accept_ranges cells m whole given)) k (λ c. omega (arith, big c))

  -- in kind 2 it does so for any M and Q that round up to the cells
  pub bending_keeps_demand_3 : m.kind ≡ Bending → (f : Forces) → RoundsUpTo m.moment f.M → RoundsUpTo m.shear f.Q → (k : Check → ℕ) → EachFrom kept_from k → Demand3At m f (verdict m) k
  bending_keeps_demand_3 e f up_m upQ k big = demand_from m f (bending_checks_sound m e (accept_ranges cells m whole given) f up_m upQ) k (λ c. omega (arith, big c))

-- an answer that is the row check's keeps demand 3
pub answer_keeps : (cells : List Cell) (answer : Answer Verdict Refusal) → length cells ≡ cell_count → by_number answer ≡ check_row cells → (k : Check → ℕ) → EachFrom kept_from k → KeepsDemand3 cells answer k
answer_keeps cells answer whole says k big m given =
    (verdict m, answer_given answer (verdict m) (says ∙ ap judged given), keeps_demand_3 cells m whole given k big)
