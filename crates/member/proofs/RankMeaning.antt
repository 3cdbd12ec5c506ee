-- What a verdict's rank means: yes-or-no fails are equal and rank before any utilisation, any fail before any pass; ranks are a total order; and the verdict that governs.
-- Assumes nothing.
use Prim.Native.Nat.{◌≤◌, ◌<◌}
use native.Mathlib.Nat.{le_refl, le_trans, le_of_lt, le_antisymm}
use native.Mathlib.Omega.{arith}
use mathlib.Core.Bool.{Bool, true, false, not, ◌&&◌, true≢false, and-false}
use mathlib.Core.List.{List, [], ◌∷◌, ◌++◌}
use mathlib.Core.Logic.{◌⊎◌, inl, inr}
use mathlib.Core.Path.{◌≡◌, refl, sym, ap, ◌∙◌}
use lib.Dec.{leb, lit≤}
use Rattle.std.specs.Prelude.{◌↔◌, Some, None}
use Rattle.std.proofs.lemmas.Bool.{leb-true, leb-false, le-leb}
use Rattle.cells.specs.Greatest.{Among}
use Rattle.cells.proofs.GreatestLaws.{Found, greatest_meaning}
use Rattle.member.specs.Checks.{YesNoCheck, StrengthCheck, yes_no, strength, check_number, layout, slenderness, joint_length, net_tension, side_pieces, bending, shear, buckling, compression_bending, tension_bending}
use Rattle.member.specs.Demand3.{FailsOn}
use Rattle.member.specs.Member.{across_height, across_width, count_of}
use Rattle.member.specs.Rank.{rank, RanksAtLeast, numbered_rank, governing_verdict}
use Rattle.member.specs.Verdict.{count_on_fail, failed_on, by_strength, used, verdict}
use Rattle.member.specs.declared.member.Member.{Member}
use Rattle.member.specs.declared.verdict.NumberedVerdict.{NumberedVerdict}
use Rattle.member.specs.declared.verdict.Verdict.{Verdict}
use Rattle.member.proofs.VerdictLaws.{governs, VerdictOutcome, verdict_outcome}
use Rattle.member.proofs.VerdictRange.{utilisation_most}

-- ---- ranks are a total order

pub rank_reflexive : (v : Verdict) → RanksAtLeast v v
rank_reflexive v = le_refl (rank v)

pub rank_transitive : (u v w : Verdict) → RanksAtLeast u v → RanksAtLeast v w → RanksAtLeast u w
rank_transitive u v w a b = le_trans b a

pub rank_total : (v w : Verdict) → RanksAtLeast v w ⊎ RanksAtLeast w v
rank_total v w = by (leb (rank w) (rank v)) refl
  where
    by : (t : Bool) → leb (rank w) (rank v) ≡ t → RanksAtLeast v w ⊎ RanksAtLeast w v
    by true t = inl (leb-true (rank w) (rank v) t)
    by false t = inr (le_of_lt (leb-false (rank w) (rank v) t))

pub rank_antisymmetric : (v w : Verdict) → RanksAtLeast v w → RanksAtLeast w v → rank v ≡ rank w
rank_antisymmetric v w a b = le_antisymm b a

-- ---- which rank a verdict has

-- a fail on layout, slenderness or joint length: all are equal
pub yes_no_ranks : (v : Verdict) (c : YesNoCheck) → FailsOn v (yes_no c) → rank v ≡ 10000000
yes_no_ranks v layout f = rw (f.fails, f.names) refl
yes_no_ranks v (slenderness across_height) f = rw (f.fails, f.names) refl
yes_no_ranks v (slenderness across_width) f = rw (f.fails, f.names) refl
yes_no_ranks v joint_length f = rw (f.fails, f.names) refl

-- a pass ranks by its utilisation
pub pass_ranks : (v : Verdict) → v.passes ≡ true → rank v ≡ v.utilisation
pass_ranks v e = rw e refl

strength_beyond : (c : StrengthCheck) → leb 1 (check_number (strength c)) && leb (check_number (strength c)) 4 ≡ false
strength_beyond net_tension = refl
strength_beyond side_pieces = refl
strength_beyond bending = refl
strength_beyond shear = refl
strength_beyond (buckling across_height) = refl
strength_beyond (buckling across_width) = refl
strength_beyond compression_bending = refl
strength_beyond tension_bending = refl

-- and so does a verdict that names a strength check
pub strength_ranks : (v : Verdict) (c : StrengthCheck) → v.check ≡ check_number (strength c) → rank v ≡ v.utilisation
strength_ranks v c e = rw (e, strength_beyond c, and-false (not v.passes)) refl

-- ---- verdicts by the rules

module _ (m : Member) where
  -- a verdict by the rules is a fail on a yes-or-no check, or goes by the strength check that governs
  abbrev ByRank : Type 0
  ByRank =
      ((c : YesNoCheck) × FailsOn (verdict m) (yes_no c) × (rank (verdict m) ≡ 10000000))
      ⊎ ((c : StrengthCheck) × ((verdict m).check ≡ check_number (strength c)) × (rank (verdict m) ≡ (verdict m).utilisation) × ((verdict m).utilisation ≤ 9999999) × ((verdict m).passes ≡ leb (verdict m).utilisation 1000000))

  by_rank : ByRank
  by_rank = by (verdict_outcome m)
    where
      by : VerdictOutcome m → ByRank
      by (inl (all, e)) =
          let g = governs m m.kind in
          let is : verdict m ≡ by_strength (used m g.0) (count_of m) = e ∙ ap (λ u. by_strength u (count_of m)) g.2 in
          let names : (verdict m).check ≡ check_number (strength g.0) = ap (λ (v : Verdict). v.check) is in
          let utilised : (verdict m).utilisation ≤ 9999999 = rw is (utilisation_most m g.0) in
          let passes : (verdict m).passes ≡ leb (verdict m).utilisation 1000000 = rw is refl in
          inr (g.0, names, strength_ranks (verdict m) g.0 names, utilised, passes)
      by (inr (c, f, e)) =
          let is : verdict m ≡ failed_on (check_number (yes_no c)) (count_on_fail m c) = e in
          let fails : FailsOn (verdict m) (yes_no c) = record { fails = ap (λ (v : Verdict). v.passes) is; names = ap (λ (v : Verdict). v.check) is } in
          inl (c, fails, yes_no_ranks (verdict m) c fails)

  -- it passes exactly where its rank is at most 1,000,000
  pub passes_by_rank : (verdict m).passes ≡ true ↔ rank (verdict m) ≤ 1000000
  passes_by_rank = by by_rank
    where
      by : ByRank → (verdict m).passes ≡ true ↔ rank (verdict m) ≤ 1000000
      by (inl (c, f, e)) = (λ p. absurd (true≢false (sym p ∙ f.fails)), λ low. absurd (omega (arith, e, low)))
      by (inr (c, names, e, most, passes)) =
          (λ p. rw e (leb-true (verdict m).utilisation 1000000 (sym passes ∙ p)), λ low. passes ∙ le-leb (verdict m).utilisation 1000000 (rw e at low))

  -- no rank is above that of a fail on a yes-or-no check
  pub rank_most : rank (verdict m) ≤ 10000000
  rank_most = by by_rank
    where
      by : ByRank → rank (verdict m) ≤ 10000000
      by (inl (c, f, e)) = rw e (lit≤ tt)
      by (inr (c, names, e, most, passes)) = rw e (le_trans most (lit≤ tt))

-- any fail ranks before any pass
pub fail_before_pass : (m n : Member) → (verdict m).passes ≡ false → (verdict n).passes ≡ true → rank (verdict n) < rank (verdict m)
fail_before_pass m n fails passes = by (leb (rank (verdict m)) 1000000) refl
  where
    by : (t : Bool) → leb (rank (verdict m)) 1000000 ≡ t → rank (verdict n) < rank (verdict m)
    by true t = absurd (true≢false (sym ((passes_by_rank m).1 (leb-true (rank (verdict m)) 1000000 t)) ∙ fails))
    by false t = omega (arith, leb-false (rank (verdict m)) 1000000 t, (passes_by_rank n).0 passes)

-- a yes-or-no fail ranks before every verdict that is none
pub yes_no_first : (m n : Member) (c : YesNoCheck) → FailsOn (verdict m) (yes_no c) → ((d : YesNoCheck) → FailsOn (verdict n) (yes_no d) → ⊥) → rank (verdict n) < rank (verdict m)
yes_no_first m n c f other = by (by_rank n)
  where
    by : ByRank n → rank (verdict n) < rank (verdict m)
    by (inl (d, g, e)) = absurd (other d g)
    by (inr (d, names, e, most, passes)) = omega (arith, e, most, yes_no_ranks (verdict m) c f)

-- ---- the verdict that governs

-- v is one of the list; before it in the list every rank is lower, and after it none is higher
pub record Governs (list : List NumberedVerdict) (v : NumberedVerdict) : Type 0 where
  pub front : List NumberedVerdict
  pub back : List NumberedVerdict
  pub splits : list ≡ front ++ (v ∷ back)
  pub before : (w : NumberedVerdict) → Among w front → numbered_rank w < numbered_rank v
  pub after : (w : NumberedVerdict) → Among w back → numbered_rank w ≤ numbered_rank v

-- none is found of an empty list alone; otherwise the first of the greatest rank
pub governing_meaning : (list : List NumberedVerdict) → ((list ≡ []) × (governing_verdict list ≡ None)) ⊎ ((v : NumberedVerdict) × Governs list v × (governing_verdict list ≡ Some v))
governing_meaning list = by list (greatest_meaning (λ (v : NumberedVerdict). true) numbered_rank list)
  where
    by : (l : List NumberedVerdict) → Found (λ (v : NumberedVerdict). true) numbered_rank l → ((l ≡ []) × (governing_verdict l ≡ None)) ⊎ ((v : NumberedVerdict) × Governs l v × (governing_verdict l ≡ Some v))
    by [] (inl (none, e)) = inl (refl, e)
    by (v ∷ l) (inl (none, e)) = absurd (true≢false (none v (inl refl)))
    by l (inr (v, f, e)) =
        inr (v, record { front = f.front; back = f.back; splits = f.splits; before = λ w a. f.before w a refl; after = λ w a. f.after w a refl }, e)
