-- What demand 3 says of any verdict that keeps it: when the row passes, when it fails and on what, and between which counts its count lies.
-- Assumes nothing.
use Prim.Native.Nat.{ℕ, ◌≤◌, ◌<◌}
use native.Mathlib.Omega.{arith}
use mathlib.Core.Path.{◌≡◌, refl}
use mathlib.Core.Logic.{◌⊎◌, inl, inr, ⊎_elim, ◌↔◌}
use mathlib.Core.Bool.{Bool, true, false, cond}
use borrow.Author.Tests.{leb-true, leb-false}
use lib.Dec.{leb}
use Rattle.rounding.specs.Fraction.{scaled}
use Rattle.sp64.proofs.Denominators.{scaled_real}
use Rattle.sp64.proofs.JointLaws.{count_exists}
use Rattle.member.specs.Checks.{Check, YesNoCheck, yes_no, strength, joint_length, check_number, yes_no_checks, Has}
use Rattle.member.specs.Demand3.{FailsOn, LayoutOrSlenderness, FirstToFail, CountFor, Demand3At}
use Rattle.member.specs.Ranges.{RangesOf}
use Rattle.member.specs.Unrounded.{Forces, times, Holds}
use Rattle.member.specs.Verdict.{failed_on}
use Rattle.member.specs.declared.member.Member.{Member}
use Rattle.member.specs.declared.verdict.Verdict.{Verdict}
use Rattle.member.proofs.VerdictLaws.{clash, yes_no_number, yes_no_rising, FirstFailing, judge_meaning}
use Rattle.member.proofs.DemandLaws.{strength_high, exact}
use Rattle.member.proofs.Reliance.{joint_known}

-- the forces at which a failed check must fail: those of the row for layout and slenderness, k c thousandths of them for another check c
abbrev pub fail_forces : (Check → ℕ) → Forces → Check → Forces
fail_forces k f c = cond (leb (check_number c) 3) f (times (k c) f)

module _ (m : Member) (f : Forces) where
  -- where layout or slenderness fails, one of the checks is the first to fail
  pub first_exists : (c : Check) → LayoutOrSlenderness c → Has m c → (Holds m f c → ⊥) → (d : Check) × LayoutOrSlenderness d × FirstToFail m f d
  first_exists (strength c) low has fails = absurd (omega (arith, strength_high c))
  first_exists (yes_no c) low has fails =
      ⊎_elim
      (λ all. absurd (fails ((exact m f c low).0 (all.0 c has.of_kind has.kept))))
      (λ first. found first.0 first.1)
      (judge_meaning m (yes_no_checks m.kind) (yes_no_rising m.kind) (failed_on 0 0))
    where
      found : (d : YesNoCheck) → FirstFailing m (yes_no_checks m.kind) d → (d : Check) × LayoutOrSlenderness d × FirstToFail m f d
      found d first = (
        yes_no d,
        low_d,
        record {
          has = record { of_kind = first.among; kept = first.kept };
          fails = λ h. clash ((exact m f d low_d).1 h) first.fails;
          before = before;
        },
      )
        where
          -- c, which fails, does not come before d
          not_before : (t : Bool) → leb (yes_no_number d) (yes_no_number c) ≡ t → yes_no_number d ≤ yes_no_number c
          not_before true e = leb-true _ _ e
          not_before false e = absurd (fails ((exact m f c low).0 (first.before c has.of_kind (leb-false _ _ e) has.kept)))

          low_d : LayoutOrSlenderness (yes_no d)
          low_d = omega (arith, not_before _ refl)

          before : (e : Check) → Has m e → check_number e < yes_no_number d → Holds m f e
          before (yes_no e) has lt = (exact m f e (omega (arith, low_d))).0 (first.before e has.of_kind lt has.kept)
          before (strength e) has lt = absurd (omega (arith, low_d, strength_high e))

  -- either the row passes and all its checks hold unrounded, or it fails on c, and c fails unrounded at the forces for it
  abbrev pub PassOrFail : Verdict → (Check → ℕ) → Check → Type 0
  PassOrFail v k c =
      ((v.passes ≡ true) × ((d : Check) → Has m d → Holds m f d)) ⊎ (FailsOn v c × (Holds m (fail_forces k f c) c → ⊥))

  -- v is any verdict that keeps demand 3
  module _ (v : Verdict) (k : Check → ℕ) (demand : Demand3At m f v k) where
    -- where a check of layout or slenderness fails unrounded, the row fails on one of them
    pub one_fails : (c : Check) → LayoutOrSlenderness c → Has m c → (Holds m f c → ⊥) → (d : Check) × LayoutOrSlenderness d × FailsOn v d
    one_fails c low has fails =
        let first = first_exists c low has fails in
        (first.0, first.1, (demand.first first.0 first.1).1 first.2)

    -- the row fails on layout or slenderness only where that check is the row's and fails unrounded
    pub fails_on_one : (c : Check) → LayoutOrSlenderness c → FailsOn v c → Has m c × (Holds m f c → ⊥)
    fails_on_one c low on = let first = (demand.first c low).0 on in (first.has, first.fails)

    -- a failed check fails unrounded, at the forces of the row or at those times its factor
    pub failed : (c : Check) → Has m c → FailsOn v c → Holds m (fail_forces k f c) c → ⊥
    failed c has on = by (leb (check_number c) 3) refl
      where
        by : (t : Bool) → leb (check_number c) 3 ≡ t → Holds m (cond t f (times (k c) f)) c → ⊥
        by true e = (fails_on_one c (leb-true _ _ e) on).1
        by false e = demand.fail c has (λ low. omega (arith, leb-false (check_number c) 3 e)) on

    -- the verdict names a check of the row, by which the row passes or fails
    pub pass_or_fail_lem : (c : Check) × Has m c × (v.check ≡ check_number c) × PassOrFail v k c
    pass_or_fail_lem = let named = demand.named in (named.0, named.1, named.2, by named.0 named.1 named.2 v.passes refl)
      where
        by : (c : Check) → Has m c → v.check ≡ check_number c → (t : Bool) → v.passes ≡ t → PassOrFail v k c
        by c has names true e = inl (e, demand.pass e)
        by c has names false e = let on : FailsOn v c = record { fails = e; names = names } in inr (on, failed c has on)

    -- a row whose checks all hold with the forces so scaled passes: failing every row breaks demand 3
    pub not_failed : ((c : Check) → Has m c → Holds m (fail_forces k f c) c) → v.passes ≡ true
    not_failed hold =
        let r = pass_or_fail_lem in
        ⊎_elim (λ pass. pass.0) (λ fail. absurd (fail.1 (hold r.0 r.1))) r.3

    -- a row with a check that fails unrounded does not pass: passing every row breaks demand 3
    pub not_passed : (c : Check) → Has m c → (Holds m f c → ⊥) → v.passes ≡ false
    not_passed c has fails = by v.passes refl
      where
        by : (t : Bool) → v.passes ≡ t → t ≡ false
        by true e = absurd (fails (demand.pass e c has))
        by false e = refl

    -- the two least counts between which demand 3 puts a joint's count exist
    pub count_between : RangesOf m.kind m → 0 < f.N.den → m.jointed ≡ true → ((c : Check) → LayoutOrSlenderness c → Has m c → Holds m f c)
        → (n : ℕ) × (n' : ℕ) × CountFor m f.N n × CountFor m (scaled (k (yes_no joint_length)) f.N) n' × (n ≤ v.count) × (v.count ≤ n')
    count_between ranges real e laid =
        let j = joint_known m ranges e in
        let low = count_exists f.N real j.sized.section.width j.joint j.sized.material in
        let high = count_exists (scaled (k (yes_no joint_length)) f.N) (scaled_real (k (yes_no joint_length)) f.N real) j.sized.section.width j.joint j.sized.material in
        (_, _, low, high, demand.count_above e laid _ low, demand.count_below e laid _ high)

  -- two verdicts that keep demand 3 of one row agree on whether and where layout or slenderness fails
  pub same_verdict_side : (v w : Verdict) (k l : Check → ℕ) → Demand3At m f v k → Demand3At m f w l → (c : Check) → LayoutOrSlenderness c → FailsOn v c ↔ FailsOn w c
  same_verdict_side v w k l dv dw c low = (λ on. (dw.first c low).1 ((dv.first c low).0 on), λ on. (dv.first c low).1 ((dw.first c low).0 on))
