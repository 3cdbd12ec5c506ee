-- Demand 3 of the verdict, from what the checks of the row owe it.
-- Assumes nothing.
use Prim.Native.Nat.{ℕ, ◌≤◌, ◌<◌}
use native.Mathlib.Nat.{le_antisymm}
use native.Mathlib.Omega.{arith}
use mathlib.Core.Path.{◌≡◌, refl, sym, ap, ◌∙◌}
use mathlib.Core.Logic.{inl, inr, ◌↔◌}
use mathlib.Core.Bool.{Bool, true, false, cond, true≢false}
use borrow.Author.Tests.{leb-true, leb-false, not-false}
use lib.Dec.{leb, eqb, lit≤}
use Rattle.rounding.specs.Fraction.{scaled}
use Rattle.rounding.proofs.Soundness.{Sound}
use Rattle.sp64.proofs.YesNoChecks.{layout_iff, slenderness_iff}
use Rattle.cells.specs.Greatest.{Among}
use Rattle.member.specs.Checks.{Check, YesNoCheck, StrengthCheck, yes_no, strength, check_number, yes_no_checks, strength_checks, omitted, Has, layout, slenderness, joint_length, net_tension, side_pieces, bending, shear, buckling, compression_bending, tension_bending}
use Rattle.member.specs.Demand3.{EachFrom, FailsOn, LayoutOrSlenderness, FirstToFail, CountFor, Demand3At}
use Rattle.member.specs.Member.{Across, across_height, across_width, strut_of, limit_of, count_of}
use Rattle.member.specs.Unrounded.{Forces, times, Holds}
use Rattle.member.specs.Verdict.{holds, utilisation_of, used, by_strength, count_on_fail, failed_on, verdict}
use Rattle.member.specs.declared.member.Member.{Member}
use Rattle.member.specs.declared.verdict.Verdict.{Verdict}
use Rattle.member.proofs.VerdictLaws.{yes_no_number, strength_number, strength_rising, rising_same, clash, AllHold, FirstFailing, Governs, governs, VerdictOutcome, verdict_outcome}

-- The numbers of the checks: yes-or-no checks have 1 to 4, each its own, and strength checks 5 and more.
yes_no_low : (c : YesNoCheck) → yes_no_number c ≤ 4
yes_no_low layout = lit≤ tt
yes_no_low (slenderness across_height) = lit≤ tt
yes_no_low (slenderness across_width) = lit≤ tt
yes_no_low joint_length = lit≤ tt

pub strength_high : (c : StrengthCheck) → 5 ≤ strength_number c
strength_high net_tension = lit≤ tt
strength_high side_pieces = lit≤ tt
strength_high bending = lit≤ tt
strength_high shear = lit≤ tt
strength_high (buckling across_height) = lit≤ tt
strength_high (buckling across_width) = lit≤ tt
strength_high compression_bending = lit≤ tt
strength_high tension_bending = lit≤ tt

-- slenderness is check 2 or 3
pub slenderness_low : (across : Across) → LayoutOrSlenderness (yes_no (slenderness across))
slenderness_low across_height = lit≤ tt
slenderness_low across_width = lit≤ tt

abbrev yes_no_at : ℕ → YesNoCheck
yes_no_at n = cond (eqb n 1) layout (cond (eqb n 2) (slenderness across_height) (cond (eqb n 3) (slenderness across_width) joint_length))

yes_no_at_lem : (c : YesNoCheck) → yes_no_at (yes_no_number c) ≡ c
yes_no_at_lem layout = refl
yes_no_at_lem (slenderness across_height) = refl
yes_no_at_lem (slenderness across_width) = refl
yes_no_at_lem joint_length = refl

same_yes_no : (c d : YesNoCheck) → yes_no_number c ≡ yes_no_number d → c ≡ d
same_yes_no c d e = sym (yes_no_at_lem c) ∙ ap yes_no_at e ∙ yes_no_at_lem d

module _ (m : Member) (f : Forces) where
  -- a strength check with its unrounded form
  abbrev pub StrengthSound : (Check → ℕ) → StrengthCheck → Type 0
  StrengthSound g c = Sound (g (strength c)) (utilisation_of m c) (Holds m f (strength c)) (λ k. Holds m (times k f) (strength c))

  -- what the checks of the row owe: joint length, strength where the yes-or-no checks hold, and the count
  pub record ChecksSound (g : Check → ℕ) : Type 0 where
    pub length_pass : m.jointed ≡ true → holds m joint_length ≡ true → Holds m f (yes_no joint_length)
    pub length_fail : m.jointed ≡ true → holds m joint_length ≡ false → (k : ℕ) → g (yes_no joint_length) ≤ k → Holds m (times k f) (yes_no joint_length) → ⊥
    pub strength_sound : AllHold m (yes_no_checks m.kind) → (c : StrengthCheck) → Among c (strength_checks m.kind) → omitted m (strength c) ≡ false → StrengthSound g c
    pub count_above : m.jointed ≡ true → (n : ℕ) → CountFor m f.N n → n ≤ count_of m
    pub count_below : m.jointed ≡ true → (k : ℕ) → g (yes_no joint_length) ≤ k → (n : ℕ) → CountFor m (scaled k f.N) n → count_of m ≤ n

  -- layout and slenderness round nothing
  pub exact : (c : YesNoCheck) → LayoutOrSlenderness (yes_no c) → holds m c ≡ true ↔ Holds m f (yes_no c)
  exact layout low = layout_iff m.height m.joint
  exact (slenderness across) low = slenderness_iff (limit_of m) (strut_of m across)
  exact joint_length low = absurd (omega arith)

  module _ {g : Check → ℕ} (s : ChecksSound g) (k : Check → ℕ) (big : EachFrom g k) where
    -- a yes-or-no check that holds, holds unrounded
    yes_no_holds : (c : YesNoCheck) → omitted m (yes_no c) ≡ false → holds m c ≡ true → Holds m f (yes_no c)
    yes_no_holds layout kept e = (exact layout (lit≤ tt)).0 e
    yes_no_holds (slenderness across) kept e = (exact (slenderness across) (slenderness_low across)).0 e
    yes_no_holds joint_length kept e = s.length_pass (not-false _ kept) e

    -- the verdict by strength, where c governs
    module _ (all : AllHold m (yes_no_checks m.kind)) (c : StrengthCheck) (governed : Governs m (strength_checks m.kind) c) where
      abbrev by_use : Verdict
      by_use = by_strength (used m c) (count_of m)

      within : by_use.passes ≡ true → utilisation_of m c ≤ 1000000
      within e = let le = leb-true (utilisation_of m c) _ e in omega (arith, le)

      above : by_use.passes ≡ false → 1000000 < utilisation_of m c
      above e = let lt = leb-false (utilisation_of m c) _ e in omega (arith, lt)

      pass_strength : utilisation_of m c ≤ 1000000 → (d : Check) → Has m d → Holds m f d
      pass_strength le (yes_no d) has = yes_no_holds d has.kept (all d has.of_kind has.kept)
      pass_strength le (strength d) has =
          (s.strength_sound all d has.of_kind has.kept).pass (omega (arith, governed.greatest d has.of_kind has.kept))

      none_named : (d : Check) → LayoutOrSlenderness d → FailsOn by_use d → FirstToFail m f d
      none_named d low on = let e : strength_number c ≡ check_number d = on.names in absurd (omega (arith, strength_high c))

      none_first : (d : Check) → LayoutOrSlenderness d → FirstToFail m f d → FailsOn by_use d
      none_first (yes_no d) low first = absurd (first.fails ((exact d low).0 (all d first.has.of_kind first.has.kept)))
      none_first (strength d) low first = absurd (omega (arith, strength_high d))

      fail_strength : (d : Check) → Has m d → FailsOn by_use d → Holds m (times (k d) f) d → ⊥
      fail_strength (yes_no d) has on h =
          let e : strength_number c ≡ yes_no_number d = on.names in absurd (omega (arith, strength_high c, yes_no_low d))
      fail_strength (strength d) has on h =
          let e : d ≡ c =
          rising_same strength_number (strength_checks m.kind) (strength_rising m.kind) d c has.of_kind governed.among (sym on.names) in
          (s.strength_sound all d has.of_kind has.kept).fail (k (strength d)) (big (strength d)) (rw e (above on.fails)) h

      demand_strength : Demand3At m f by_use k
      demand_strength =
          record {
            named = (strength c, record { of_kind = governed.among; kept = governed.kept }, refl);
            pass = λ e. pass_strength (within e);
            first = λ d low. (none_named d low, none_first d low);
            fail = λ d has high on. fail_strength d has on;
            count_above = λ j hold. s.count_above j;
            count_below = λ j hold. s.count_below j (k (yes_no joint_length)) (big (yes_no joint_length));
          }

    -- the verdict by the yes-or-no check c, the first to fail
    module _ (c : YesNoCheck) (fails : FirstFailing m (yes_no_checks m.kind) c) where
      abbrev on_check : Verdict
      on_check = failed_on (check_number (yes_no c)) (count_on_fail m c)

      has_it : Has m (yes_no c)
      has_it = record { of_kind = fails.among; kept = fails.kept }

      fails_exactly : LayoutOrSlenderness (yes_no c) → Holds m f (yes_no c) → ⊥
      fails_exactly low h = clash ((exact c low).1 h) fails.fails

      holds_before : (d : Check) → Has m d → check_number d < check_number (yes_no c) → Holds m f d
      holds_before (yes_no d) has lt = yes_no_holds d has.kept (fails.before d has.of_kind lt has.kept)
      holds_before (strength d) has lt = absurd (omega (arith, strength_high d, yes_no_low c))

      first_to_fail : LayoutOrSlenderness (yes_no c) → FirstToFail m f (yes_no c)
      first_to_fail low = record { has = has_it; fails = fails_exactly low; before = holds_before }

      named_is_first : (d : Check) → LayoutOrSlenderness d → FailsOn on_check d → FirstToFail m f d
      named_is_first (yes_no d) low on =
          let e : c ≡ d = same_yes_no c d on.names in rw (← e) (first_to_fail (rw (← e) at low))
      named_is_first (strength d) low on = absurd (omega (arith, strength_high d))

      first_is_named : (d : Check) → LayoutOrSlenderness d → FirstToFail m f d → FailsOn on_check d
      first_is_named (yes_no d) low first = record { fails = refl; names = by (leb (yes_no_number c) (yes_no_number d)) refl (leb (yes_no_number d) (yes_no_number c)) refl }
        where
          -- d comes later: c, which fails, would hold
          later : yes_no_number c < yes_no_number d → ⊥
          later lt = fails_exactly (omega arith) (first.before (yes_no c) has_it lt)

          -- d comes earlier: it would hold
          earlier : yes_no_number d < yes_no_number c → ⊥
          earlier lt = first.fails ((exact d low).0 (fails.before d first.has.of_kind lt first.has.kept))

          by : (x : Bool) → leb (yes_no_number c) (yes_no_number d) ≡ x → (y : Bool) → leb (yes_no_number d) (yes_no_number c) ≡ y → yes_no_number c ≡ yes_no_number d
          by true e true e' = le_antisymm (leb-true _ _ e) (leb-true _ _ e')
          by false e y e' = absurd (earlier (leb-false _ _ e))
          by true e false e' = absurd (later (leb-false _ _ e'))
      first_is_named (strength d) low first = absurd (omega (arith, strength_high d))

      -- joint length is the one check that fails by its rounding
      fail_length : (d : YesNoCheck) → (LayoutOrSlenderness (yes_no d) → ⊥) → omitted m (yes_no d) ≡ false → holds m d ≡ false → Holds m (times (k (yes_no d)) f) (yes_no d) → ⊥
      fail_length layout high kept e h = high (lit≤ tt)
      fail_length (slenderness across) high kept e h = absurd (high (slenderness_low across))
      fail_length joint_length high kept e h = s.length_fail (not-false _ kept) e (k (yes_no joint_length)) (big (yes_no joint_length)) h

      fail_yes_no : (d : Check) → Has m d → (LayoutOrSlenderness d → ⊥) → FailsOn on_check d → Holds m (times (k d) f) d → ⊥
      fail_yes_no (yes_no d) has high on h =
          let e : c ≡ d = same_yes_no c d on.names in fail_length d high has.kept (rw (← e) fails.fails) h
      fail_yes_no (strength d) has high on h =
          let e : yes_no_number c ≡ strength_number d = on.names in absurd (omega (arith, strength_high d, yes_no_low c))

      -- where layout and slenderness hold, the check that fails is joint length, and the verdict has the count
      not_exact : ((d : Check) → LayoutOrSlenderness d → Has m d → Holds m f d) → LayoutOrSlenderness (yes_no c) → ⊥
      not_exact hold low = fails_exactly low (hold (yes_no c) low has_it)

      counted : (P : ℕ → Type 0) (d : YesNoCheck) → (LayoutOrSlenderness (yes_no d) → ⊥) → P (count_of m) → P (count_on_fail m d)
      counted P layout high p = absurd (high (lit≤ tt))
      counted P (slenderness across) high p = absurd (high (slenderness_low across))
      counted P joint_length high p = p

      demand_yes_no : Demand3At m f on_check k
      demand_yes_no =
          record {
            named = (yes_no c, has_it, refl);
            pass = λ e. absurd (true≢false (sym e));
            first = λ d low. (named_is_first d low, first_is_named d low);
            fail = fail_yes_no;
            count_above = λ j hold n least. counted (λ count. n ≤ count) c (not_exact hold) (s.count_above j n least);
            count_below = λ j hold n least. counted (λ count. count ≤ n) c (not_exact hold) (s.count_below j (k (yes_no joint_length)) (big (yes_no joint_length)) n least);
          }

    -- demand 3 of the verdict
    pub demand_from : Demand3At m f (verdict m) k
    demand_from = by (verdict_outcome m)
      where
        by : VerdictOutcome m → Demand3At m f (verdict m) k
        by (inl (all, e)) = let g = governs m m.kind in rw (e, g.2) (demand_strength all g.0 g.1)
        by (inr (c, fails, e)) = rw e (demand_yes_no c fails)
