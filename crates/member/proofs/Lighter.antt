-- A row that passes still passes with any smaller N, M and Q.
-- Assumes nothing.
use Prim.Native.Nat.{ℕ, ◌≤◌}
use native.Mathlib.Nat.{le_trans}
use mathlib.Core.Path.{◌≡◌, refl, sym, ap, ◌∙◌}
use mathlib.Core.Logic.{inl, inr, ◌↔◌}
use mathlib.Core.Bool.{Bool, true, false}
use mathlib.Core.List.{List}
use borrow.Author.Tests.{leb-true, le-leb}
use Rattle.cells.specs.Refusal.{gives, value_or}
use Rattle.cells.specs.Row.{Cell}
use Rattle.rounding.proofs.Soundness.{utilisation_more}
use Rattle.sp64.proofs.ForceLaws.{tension_bending_more, compression_bending_more, length_kept}
use Rattle.member.specs.Acceptance.{accept}
use Rattle.cells.specs.Greatest.{Among}
use Rattle.member.specs.Checks.{YesNoCheck, StrengthCheck, yes_no, strength, yes_no_checks, strength_checks, omitted, layout, slenderness, joint_length, net_tension, side_pieces, bending, shear, buckling, compression_bending, tension_bending}
use Rattle.member.specs.Member.{across_height, across_width}
use Rattle.member.specs.Verdict.{holds, utilisation_of, verdict, judged, check_row}
use Rattle.member.specs.declared.member.Member.{Member}
use Rattle.member.specs.declared.verdict.Verdict.{Verdict}
use Rattle.member.proofs.VerdictLaws.{clash, AllHold, governs, VerdictOutcome, verdict_outcome}

-- every strength check that the row has is within its utilisation
abbrev AllWithin : Member → Type 0
AllWithin m = (c : StrengthCheck) → Among c (strength_checks m.kind) → omitted m (strength c) ≡ false → utilisation_of m c ≤ 1000000

module _ (m : Member) where
  passes_when : AllHold m (yes_no_checks m.kind) × AllWithin m → (verdict m).passes ≡ true
  passes_when (all, within) = by (verdict_outcome m)
    where
      by : VerdictOutcome m → (verdict m).passes ≡ true
      by (inl (h, e)) = let g = governs m m.kind in rw (e, g.2) (le-leb _ _ (within g.0 g.1.among g.1.kept))
      by (inr (c, f, e)) = absurd (clash (all c f.among f.kept) f.fails)

  passes_means : (verdict m).passes ≡ true → AllHold m (yes_no_checks m.kind) × AllWithin m
  passes_means p = by (verdict_outcome m)
    where
      by : VerdictOutcome m → AllHold m (yes_no_checks m.kind) × AllWithin m
      by (inl (h, e)) =
          let g = governs m m.kind in
          let below : utilisation_of m g.0 ≤ 1000000 = leb-true _ _ (rw (e, g.2) at p) in
          (h, λ c a kept. le_trans (g.1.greatest c a kept) below)
      by (inr (c, f, e)) = absurd (clash p (ap (λ (v : Verdict). v.passes) e))

  -- a row passes exactly where each of its checks does
  pub passes_iff : (verdict m).passes ≡ true ↔ (AllHold m (yes_no_checks m.kind) × AllWithin m)
  passes_iff = (passes_means, passes_when)

-- the same row with other forces in cells 8, 9 and 10
abbrev pub with_forces : ℕ → ℕ → ℕ → Member → Member
with_forces N M Q m =
    record {
      kind = m.kind;
      material = m.material;
      regime = m.regime;
      width = m.width;
      height = m.height;
      force = N;
      moment = M;
      shear = Q;
      lh = m.lh;
      lb = m.lb;
      table16 = m.table16;
      jointed = m.jointed;
      joint = m.joint;
    }

module _ (m : Member) {N M Q : ℕ} (leN : N ≤ m.force) (leM : M ≤ m.moment) (leQ : Q ≤ m.shear) where
  abbrev lighter : Member
  lighter = with_forces N M Q m

  hold_still : (c : YesNoCheck) → (omitted m (yes_no c) ≡ false → holds m c ≡ true) → omitted lighter (yes_no c) ≡ false → holds lighter c ≡ true
  hold_still layout h kept = h kept
  hold_still (slenderness across_height) h kept = h kept
  hold_still (slenderness across_width) h kept = h kept
  hold_still joint_length h kept = by m.jointed refl (h kept)
    where
      by : (t : Bool) → m.jointed ≡ t → holds m joint_length ≡ true → holds lighter joint_length ≡ true
      by true e p = rw e (length_kept m.width m.joint m.material leN (rw e at p))
      by false e p = rw e (rw e at p)

  use_less : (c : StrengthCheck) → utilisation_of lighter c ≤ utilisation_of m c
  use_less net_tension = utilisation_more _ leN
  use_less side_pieces = utilisation_more _ leN
  use_less bending = utilisation_more _ leM
  use_less shear = utilisation_more _ leQ
  use_less (buckling across_height) = utilisation_more _ leN
  use_less (buckling across_width) = utilisation_more _ leN
  use_less compression_bending = compression_bending_more _ _ _ leN leM
  use_less tension_bending = tension_bending_more _ _ leN leM

  kept_still : (c : StrengthCheck) → omitted lighter (strength c) ≡ omitted m (strength c)
  kept_still net_tension = refl
  kept_still side_pieces = refl
  kept_still bending = refl
  kept_still shear = refl
  kept_still (buckling across_height) = refl
  kept_still (buckling across_width) = refl
  kept_still compression_bending = refl
  kept_still tension_bending = refl

  -- a member that passes still passes
  pub lighter_passes : (verdict m).passes ≡ true → (verdict (with_forces N M Q m)).passes ≡ true
  lighter_passes p =
      let here = passes_means m p in
      passes_when lighter (
        λ c a kept. hold_still c (here.0 c a) kept,
        λ c a kept. le_trans (use_less c) (here.1 c a (sym (kept_still c) ∙ kept)),
      )

-- the verdict that the row check gives is that on the member
given_verdict : (cells : List Cell) (m : Member) (v : Verdict) → accept cells ≡ gives m → check_row cells ≡ gives v → verdict m ≡ v
given_verdict cells m v given says = ap (value_or (verdict m)) (sym (ap judged given) ∙ says)

-- and so does a row: two rows alike but for the forces in cells 8 to 10, of which the second has none that is greater
pub lighter_row_passes : (cells lighter : List Cell) (m : Member) (N M Q : ℕ) → accept cells ≡ gives m → accept lighter ≡ gives (with_forces N M Q m)
    → N ≤ m.force → M ≤ m.moment → Q ≤ m.shear
    → (v w : Verdict) → check_row cells ≡ gives v → check_row lighter ≡ gives w → v.passes ≡ true → w.passes ≡ true
lighter_row_passes cells lighter m N M Q given given' leN leM leQ v w says says' p =
    rw (← given_verdict lighter (with_forces N M Q m) w given' says') (lighter_passes m leN leM leQ (rw (given_verdict cells m v given says) p))
