-- What a verdict names: the first yes-or-no check that fails or, where all hold, the check of greatest utilisation, the lowest number among equals.
-- Assumes nothing.
use Prim.Native.Nat.{ℕ, ◌≤◌, ◌<◌}
use native.Mathlib.Nat.{le_refl, le_of_lt}
use native.Mathlib.Omega.{arith}
use mathlib.Core.Path.{◌≡◌, refl, sym, ap, ◌∙◌}
use mathlib.Core.Logic.{◌⊎◌, inl, inr}
use mathlib.Core.Bool.{Bool, true, false, ◌||◌, true≢false}
use mathlib.Core.List.{List, [], ◌∷◌, ◌++◌}
use borrow.Author.Tests.{not-true}
use Rattle.cells.specs.Greatest.{Among}
use Rattle.cells.specs.Refusal.{Result, gives, refuses}
use Rattle.cells.proofs.GreatestLaws.{FirstGreatest, Found, among_cases, greatest_among, greatest_above, greatest_meaning}
use Rattle.member.specs.Checks.{YesNoCheck, StrengthCheck, yes_no, strength, check_number, yes_no_checks, strength_checks, omitted, net_tension, bending, shear, buckling}
use Rattle.member.specs.Member.{across_height, count_of}
use Rattle.member.specs.Verdict.{holds, utilisation_of, used, governed_by, has_strength, governing, by_strength, count_on_fail, failed_on, judge_by, judged}
use Rattle.member.specs.declared.kind.Kind.{Kind}
use Rattle.member.specs.declared.kind.Kind.TheVariants.{Tension, Bending, Compression, CompressionBending, TensionBending}
use Rattle.member.specs.declared.member.Member.{Member}
use Rattle.member.specs.declared.verdict.Verdict.{Verdict}

-- a row that is judged was accepted, and one that the check refuses was refused so
pub judged_accepted : (result : Result Member) (v : Verdict) → judged result ≡ gives v → (m : Member) × (result ≡ gives m)
judged_accepted (gives m) v e = (m, refl)
judged_accepted (refuses number cell) v e = absurd (let z : ◌≡◌ {A = ℕ} 0 1 = cc in omega arith)

pub judged_refused : (result : Result Member) (number cell : ℕ) → judged result ≡ refuses number cell → result ≡ refuses number cell
judged_refused (gives m) number cell e = absurd (let z : ◌≡◌ {A = ℕ} 0 1 = cc in omega arith)
judged_refused (refuses n c) number cell e = cc

-- Lists in which the numbers rise.
module _ {A : Type 0} (num : A → ℕ) where
  abbrev pub Below : A → List A → Type 0
  Below x [] = Unit
  Below x (y ∷ list) = (num x < num y) × Below x list

  abbrev pub Rising : List A → Type 0
  Rising [] = Unit
  Rising (x ∷ list) = Below x list × Rising list

  below_among : (x : A) (list : List A) → Below x list → (y : A) → Among y list → num x < num y
  below_among x [] below y a = absurd a
  below_among x (z ∷ list) below y (inl e) = rw e below.0
  below_among x (z ∷ list) below y (inr a) = below_among x list below.1 y a

  -- past x the numbers are greater
  pub rising_after : (front : List A) (x : A) (back : List A) → Rising (front ++ (x ∷ back)) → (y : A) → Among y back → num x < num y
  rising_after [] x back rising y a = below_among x back rising.0 y a
  rising_after (z ∷ front) x back rising y a = rising_after front x back rising.1 y a

  -- a number stands for one element
  pub rising_same : (list : List A) → Rising list → (x y : A) → Among x list → Among y list → num x ≡ num y → x ≡ y
  rising_same [] rising x y a b e = absurd a
  rising_same (z ∷ list) rising x y (inl p) (inl q) e = p ∙ sym q
  rising_same (z ∷ list) rising x y (inl p) (inr b) e =
      let p' : num x ≡ num z = ap num p in absurd (omega (arith, below_among z list rising.0 y b))
  rising_same (z ∷ list) rising x y (inr a) (inl q) e =
      let q' : num y ≡ num z = ap num q in absurd (omega (arith, below_among z list rising.0 x a))
  rising_same (z ∷ list) rising x y (inr a) (inr b) e = rising_same list rising.1 x y a b e

abbrev pub yes_no_number : YesNoCheck → ℕ
yes_no_number c = check_number (yes_no c)

abbrev pub strength_number : StrengthCheck → ℕ
strength_number c = check_number (strength c)

-- the checks of a kind are listed by rising number
pub yes_no_rising : (kind : Kind) → Rising yes_no_number (yes_no_checks kind)
yes_no_rising Tension = omega arith
yes_no_rising Bending = tt
yes_no_rising Compression = omega arith
yes_no_rising CompressionBending = omega arith
yes_no_rising TensionBending = omega arith

pub strength_rising : (kind : Kind) → Rising strength_number (strength_checks kind)
strength_rising Tension = omega arith
strength_rising Bending = omega arith
strength_rising Compression = omega arith
strength_rising CompressionBending = omega arith
strength_rising TensionBending = omega arith

other_true : (x y : Bool) → x || y ≡ true → x ≡ false → y ≡ true
other_true true y e f = absurd (true≢false f)
other_true false y e f = e

-- no truth value is both
pub clash : {t : Bool} → t ≡ true → t ≡ false → ⊥
clash e f = true≢false (sym e ∙ f)

both_false : (x y : Bool) → x || y ≡ false → (x ≡ false) × (y ≡ false)
both_false true y e = absurd (true≢false e)
both_false false y e = (refl, e)

module _ (m : Member) where
  -- every check of the list that the row has holds
  abbrev pub AllHold : List YesNoCheck → Type 0
  AllHold checks = (c : YesNoCheck) → Among c checks → omitted m (yes_no c) ≡ false → holds m c ≡ true

  -- check c is the first of the list to fail
  pub record FirstFailing (checks : List YesNoCheck) (c : YesNoCheck) : Type 0 where
    pub among : Among c checks
    pub kept : omitted m (yes_no c) ≡ false
    pub fails : holds m c ≡ false
    pub before : (d : YesNoCheck) → Among d checks → yes_no_number d < yes_no_number c → omitted m (yes_no d) ≡ false → holds m d ≡ true

  -- either all hold, and the verdict is the one by strength, or the first to fail gives it
  abbrev pub ListOutcome : List YesNoCheck → Verdict → Type 0
  ListOutcome checks v =
      (AllHold checks × (judge_by m checks v ≡ v))
      ⊎ ((c : YesNoCheck) × FirstFailing checks c × (judge_by m checks v ≡ failed_on (check_number (yes_no c)) (count_on_fail m c)))

  pub judge_meaning : (checks : List YesNoCheck) → Rising yes_no_number checks → (v : Verdict) → ListOutcome checks v
  unfolding judge_by
  judge_meaning [] rising v = inl (λ c a. absurd a, refl)
  judge_meaning (x ∷ checks) rising v = by (omitted m (yes_no x) || holds m x) refl (judge_meaning checks rising.1 v)
    where
      all : omitted m (yes_no x) || holds m x ≡ true → AllHold checks → AllHold (x ∷ checks)
      all t h c (inl e) kept = rw e (other_true _ _ t (rw e at kept))
      all t h c (inr a) kept = h c a kept

      before : omitted m (yes_no x) || holds m x ≡ true → (c : YesNoCheck) → FirstFailing checks c
          → (d : YesNoCheck) → Among d (x ∷ checks) → yes_no_number d < yes_no_number c → omitted m (yes_no d) ≡ false → holds m d ≡ true
      before t c f d (inl e) lt kept = rw e (other_true _ _ t (rw e at kept))
      before t c f d (inr a) lt kept = f.before d a lt kept

      none : (d : YesNoCheck) → Among d (x ∷ checks) → yes_no_number d < yes_no_number x → holds m d ≡ true
      none d (inl e) lt = let same : yes_no_number d ≡ yes_no_number x = ap yes_no_number e in absurd (omega arith)
      none d (inr a) lt = absurd (omega (arith, below_among yes_no_number x checks rising.0 d a))

      by : (t : Bool) → omitted m (yes_no x) || holds m x ≡ t → ListOutcome checks v → ListOutcome (x ∷ checks) v
      by true t (inl (h, e)) = inl (all t h, rw t e)
      by true t (inr (c, f, e)) =
          inr (c, record { among = inr f.among; kept = f.kept; fails = f.fails; before = before t c f }, rw t e)
      by false t r =
          let both = both_false _ _ t in
          inr (x, record { among = inl refl; kept = both.0; fails = both.1; before = λ d a lt kept. none d a lt }, rw t refl)

  -- check c governs the list: none that the row has is above it, and of those equal to it none has a lower number
  pub record Governs (checks : List StrengthCheck) (c : StrengthCheck) : Type 0 where
    pub among : Among c checks
    pub kept : omitted m (strength c) ≡ false
    pub greatest : (d : StrengthCheck) → Among d checks → omitted m (strength d) ≡ false → utilisation_of m d ≤ utilisation_of m c
    pub lowest : (d : StrengthCheck) → Among d checks → omitted m (strength d) ≡ false → utilisation_of m d ≡ utilisation_of m c → strength_number c ≤ strength_number d

  abbrev Chosen : List StrengthCheck → StrengthCheck → Type 0
  Chosen = FirstGreatest (has_strength m) (utilisation_of m)

  -- the first among equals has the lowest number, since the numbers rise
  chosen_governs : (checks : List StrengthCheck) → Rising strength_number checks → (c : StrengthCheck) → Chosen checks c → Governs checks c
  chosen_governs checks rising c f =
      record {
        among = greatest_among (has_strength m) (utilisation_of m) checks c f;
        kept = not-true _ f.counted;
        greatest = λ d a kept. greatest_above (has_strength m) (utilisation_of m) checks c f d a (rw kept refl);
        lowest = λ d a kept same. by d kept same (among_cases f.front c f.back d (rw f.splits at a));
      }
    where
      by : (d : StrengthCheck) → omitted m (strength d) ≡ false → utilisation_of m d ≡ utilisation_of m c
          → Among d f.front ⊎ ((d ≡ c) ⊎ Among d f.back) → strength_number c ≤ strength_number d
      by d kept same (inl a) = let below : utilisation_of m d < utilisation_of m c = f.before d a (rw kept refl) in absurd (omega arith)
      by d kept same (inr (inl e)) = rw e (le_refl (strength_number c))
      by d kept same (inr (inr a)) = le_of_lt (rising_after strength_number f.front c f.back (rw f.splits at rising) d a)

  first_kept : (checks : List StrengthCheck) → Rising strength_number checks → (d : StrengthCheck) → Among d checks → omitted m (strength d) ≡ false → (c : StrengthCheck) × Governs checks c × (governing m checks ≡ used m c)
  first_kept checks rising d a kept = by (greatest_meaning (has_strength m) (utilisation_of m) checks)
    where
      by : Found (has_strength m) (utilisation_of m) checks → (c : StrengthCheck) × Governs checks c × (governing m checks ≡ used m c)
      by (inl (skipped, e)) = absurd (clash (rw kept refl) (skipped d a))
      by (inr (c, f, e)) = (c, chosen_governs checks rising c f, ap (governed_by m) e)

  -- every kind has a check that governs
  pub governs : (kind : Kind) → (c : StrengthCheck) × Governs (strength_checks kind) c × (governing m (strength_checks kind) ≡ used m c)
  governs Tension = first_kept (strength_checks Tension) (strength_rising Tension) net_tension (inl refl) refl
  governs Bending = first_kept (strength_checks Bending) (strength_rising Bending) bending (inl refl) refl
  governs Compression = first_kept (strength_checks Compression) (strength_rising Compression) (buckling across_height) (inl refl) refl
  governs CompressionBending = first_kept (strength_checks CompressionBending) (strength_rising CompressionBending) shear (inl refl) refl
  governs TensionBending = first_kept (strength_checks TensionBending) (strength_rising TensionBending) shear (inl refl) refl

  -- how the verdict comes about
  abbrev pub VerdictOutcome : Type 0
  VerdictOutcome = ListOutcome (yes_no_checks m.kind) (by_strength (governing m (strength_checks m.kind)) (count_of m))

  pub verdict_outcome : VerdictOutcome
  verdict_outcome = judge_meaning (yes_no_checks m.kind) (yes_no_rising m.kind) (by_strength (governing m (strength_checks m.kind)) (count_of m))
