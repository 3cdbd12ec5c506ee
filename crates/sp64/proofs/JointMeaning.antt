-- Check 4, unrounded, fails for no empty reason: there are one least count and one number of least columns, and it fails exactly where the joint with
-- them is longer than cell 17.
-- Assumes nothing.
use Prim.Native.Nat.{ℕ, ◌<◌}
use native.Mathlib.Omega.{arith}
use mathlib.Core.Path.{◌≡◌, refl}
use mathlib.Core.Logic.{◌⊎◌, inl, inr, ⊎_elim, ◌↔◌}
use mathlib.Core.Bool.{Bool, true, false}
use borrow.Author.Tests.{leb-true, leb-false}
use lib.Dec.{leb}
use Rattle.rounding.specs.Fraction.{Fraction}
use Rattle.rounding.specs.Least.{Least}
use Rattle.rounding.proofs.LeastLaws.{least_unique}
use Rattle.sp64.specs.declared.strength.Material.{Material}
use Rattle.sp64.specs.declared.joint.Joint.{Joint}
use Rattle.sp64.specs.Ranges.{InWidth}
use Rattle.sp64.specs.Strength.{MaterialRanges}
use Rattle.sp64.specs.Joint.{JointRanges, length_of, LeastCount, LeastColumns, ExactJointLength}
use Rattle.sp64.proofs.JointLaws.{count_exists, columns_exist}

-- with the least count and the least columns the joint is longer than cell 17
pub record TooLong (N : Fraction) (b : ℕ) (j : Joint) (m : Material) : Type 0 where
  pub count : ℕ
  pub least_count : LeastCount N b j m count
  pub columns : ℕ
  pub least_columns : LeastColumns count j.across columns
  pub long : j.available < length_of j.diameter columns

-- one number has the property, and no other
pub record One (P : ℕ → Type 0) : Type 0 where
  pub number : ℕ
  pub has : P number
  pub only : (n : ℕ) → P n → n ≡ number

one_least : {P : ℕ → Type 0} {n : ℕ} → Least P n → One (Least P)
one_least {n = n} l = record { number = n; has = l; only = λ k other. least_unique other l }

module _ (N : Fraction) (b : ℕ) (j : Joint) (mat : Material) where
  -- the joint fits or is too long
  either : {count columns : ℕ} → LeastCount N b j mat count → LeastColumns count j.across columns
      → (t : Bool) → leb (length_of j.diameter columns) j.available ≡ t → ExactJointLength N b j mat ⊎ TooLong N b j mat
  either n c true e = inl (record { count = _; least_count = n; columns = _; least_columns = c; fits = leb-true _ _ e })
  either n c false e = inr (record { count = _; least_count = n; columns = _; least_columns = c; long = leb-false _ _ e })

  -- and not both, since the least count and the least columns are the same in the two
  not_both : TooLong N b j mat → ExactJointLength N b j mat → ⊥
  not_both t x =
      let count : x.count ≡ t.count = least_unique x.least_count t.least_count in
      let columns : x.columns ≡ t.columns = least_unique (rw count at x.least_columns) t.least_columns in
      omega (arith, t.long, rw columns at x.fits)

module _ (N : Fraction) {b : ℕ} {j : Joint} {mat : Material} (real : 0 < N.den) (width : InWidth b) (jr : JointRanges j) (known : MaterialRanges mat) where
  -- there is one least count
  pub one_count : One (LeastCount N b j mat)
  one_count = one_least (count_exists N real width jr known)

  -- and for every count one number of least columns
  pub one_columns : (count : ℕ) → One (LeastColumns count j.across)
  one_columns count = one_least (columns_exist count j.across jr.across.low)

  -- check 4, unrounded, fails exactly where the joint is too long
  pub joint_length_fails_iff : (ExactJointLength N b j mat → ⊥) ↔ TooLong N b j mat
  joint_length_fails_iff = (
    λ fails. ⊎_elim (λ x. absurd (fails x)) (λ t. t) (either N b j mat one_count.has (one_columns one_count.number).has _ refl),
    not_both N b j mat,
  )
