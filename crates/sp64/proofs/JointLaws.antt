-- The dowel joint: T and the count over the cells' ranges, and the count, the columns and the joint length rounded against unrounded.
-- Assumes nothing.
use Prim.Native.Nat.{ℕ, ◌*◌, ◌≤◌, ◌<◌}
use native.Mathlib.Nat.{mul-le-mul_left, le_trans}
use native.Mathlib.Omega.{arith}
use mathlib.Core.Path.{◌≡◌}
use mathlib.Core.Logic.{◌↔◌}
use mathlib.Core.Bool.{true, false}
use borrow.Author.Tests.{leb-true, leb-false}
use lib.Dec.{lit<, lit≤}
use Rattle.rounding.specs.Fraction.{Fraction, whole, scaled, square, smaller}
use Rattle.rounding.proofs.FractionLaws.{smaller_has}
use Rattle.rounding.proofs.LeastLaws.{least_same}
use Rattle.rounding.proofs.Near.{Near}
use Rattle.rounding.proofs.NearRoot.{NearRoot, near_square, near_whole_root, near_root_times, near_root_down, near_root_wide, near_smaller, near_root_pos}
use Rattle.rounding.proofs.Ranges.{in_mul, in_wide}
use Rattle.rounding.proofs.RoundingLaws.{rounding_up, up_le, lt_up}
use Rattle.sp64.specs.declared.strength.Material.{Material}
use Rattle.sp64.specs.declared.joint.Joint.{Joint}
use Rattle.sp64.specs.Ranges.{InCrushing, InCrushingCapacity, InDowelBending, InWidth, InForce, InDowelCapacity, InCount}
use Rattle.sp64.specs.Strength.{MaterialRanges}
use Rattle.sp64.specs.Joint.{JointRanges, core_crushing, side_crushing, dowel_bending, crushing_capacity, dowel_bending_capacity, dowel_capacity, dowel_count, joint_count, columns, length_of, joint_length_holds, exact_crushing_capacity, exact_dowel_bending², exact_dowel_capacity², CarrySquared, Suffices, LeastCount, LeastColumns, ExactJointLength}
use Rattle.sp64.proofs.CarryLaws.{carry_iff, carry_smaller, count_carries, count_least, carry_count, carry_exists}
use Rattle.sp64.proofs.RootMeaning.{condition_root_between, condition_root_in, dowel_bending_capacity_in}
use Rattle.sp64.proofs.StrengthLaws.{undivided_near, undivided_down_in}

-- k dowels suffice exactly where (2 × k)² × T² ≥ (1000 × N)², with T² unrounded
pub suffices_iff : (N : Fraction) (b : ℕ) (j : Joint) (mat : Material) (k : ℕ) → Suffices N b j mat k ↔ CarrySquared N (exact_dowel_capacity² b j mat) k
suffices_iff N b j mat k =
    let core = exact_crushing_capacity (core_crushing b j) mat in
    let side = exact_crushing_capacity (side_crushing j) mat in
    let bending² = exact_dowel_bending² (dowel_bending j) mat in
    let two = carry_smaller N (square side) bending² k (lit< tt) (lit< tt) in
    let real = smaller_has (λ x. 0 < x.den) (square side) bending² (lit< tt) (lit< tt) in
    let all = carry_smaller N (square core) (smaller (square side) bending²) k (lit< tt) real in
    let by_core = carry_iff N core k in
    let by_side = carry_iff N side k in (
      λ s. all.1 (by_core.0 s.core, two.1 (by_side.0 s.side, s.bending)),
      λ h. let rest = two.0 (all.0 h).1 in record { core = by_core.1 (all.0 h).0; side = by_side.1 rest.0; bending = rest.1 },
    )

-- the terms over the cells' ranges
pub core_crushing_in : {b : ℕ} {j : Joint} → InWidth b → JointRanges j → InCrushing (core_crushing b j)
core_crushing_in width jr = in_wide 6000 60000000 (lit≤ tt) (lit≤ tt) (in_mul (in_mul jr.kc width) jr.diameter)

pub side_crushing_in : {j : Joint} → JointRanges j → InCrushing (side_crushing j)
side_crushing_in jr = in_mul (in_mul jr.ka jr.side) jr.diameter

pub dowel_bending_in : {j : Joint} → JointRanges j → InDowelBending (dowel_bending j)
dowel_bending_in jr = let d2 = in_mul jr.diameter jr.diameter in omega (arith, in_mul jr.kb d2, in_mul jr.km d2)

-- what the condition factors make of each, rounded beside unrounded
module _ {mat : Material} (known : MaterialRanges mat) where
  -- crushing: less than one mN of at least 11,925 is lost
  pub crushing_near : {term : ℕ} → InCrushing term → Near 11925 1000 1001 (crushing_capacity term mat) (exact_crushing_capacity term mat)
  crushing_near i =
      let near = undivided_near known 1000000 (lit< tt) i in
      record { real = omega arith; low = near.low; below = omega (arith, near.below); close = omega (arith, near.close) }

  pub crushing_capacity_in : {term : ℕ} → InCrushing term → InCrushingCapacity (crushing_capacity term mat)
  crushing_capacity_in = undivided_down_in known 1000000 (lit< tt)

  -- bending: what the root loses and less than one mN of at least 16,049
  pub dowel_bending_near : {term : ℕ} → InDowelBending term → NearRoot 16049 1000 1001 (dowel_bending_capacity term mat) (exact_dowel_bending² term mat)
  dowel_bending_near {term} i =
      let between = condition_root_between known in
      let root = near_whole_root (condition_root_in known).low (omega (arith, between)) (omega (arith, between)) in
      near_root_wide 16049 1000 1001 (lit≤ tt) (lit< tt) (lit≤ tt)
      (near_root_down 100000 16049 (lit< tt) (dowel_bending_capacity_in known i).low (near_root_times 3600 term i.low root))

  -- T
  module _ {b : ℕ} {j : Joint} (width : InWidth b) (jr : JointRanges j) where
    pub capacity_near : NearRoot 11925 1000 1001 (dowel_capacity b j mat) (exact_dowel_capacity² b j mat)
    capacity_near =
        near_smaller (near_square (crushing_near (core_crushing_in width jr)))
        (near_smaller (near_square (crushing_near (side_crushing_in jr)))
        (near_root_wide 11925 1000 1001 (lit≤ tt) (lit< tt) (lit≤ tt) (dowel_bending_near (dowel_bending_in jr))))

    -- over the cells' ranges
    pub capacity_in : InDowelCapacity (dowel_capacity b j mat)
    capacity_in = omega (arith, capacity_near.low, (dowel_bending_capacity_in known (dowel_bending_in jr)).high)

-- the count for every force and T in its range
pub dowel_count_in : {N T : ℕ} → InForce N → InDowelCapacity T → InCount (dowel_count N T)
dowel_count_in {N} {T} force capacity =
    omega (
      arith,
      lt_up {n = 1000 * N} {d = 2 * T} {k = 0} (omega arith) (omega arith),
      up_le {n = 1000 * N} {d = 2 * T} {k = 4192873} (omega arith) (omega arith),
    )

-- and so over the cells' ranges
pub count_in : {N b : ℕ} {j : Joint} {mat : Material} → InForce N → InWidth b → JointRanges j → MaterialRanges mat → InCount (joint_count N b j mat)
count_in force width jr known = dowel_count_in force (capacity_in known width jr)

-- The count lies between the unrounded least count for N and that for k thousandths of N, for every k from 1003.
module _ (N : ℕ) {b : ℕ} {j : Joint} {mat : Material} (width : InWidth b) (jr : JointRanges j) (known : MaterialRanges mat) where
  near : NearRoot 11925 1000 1001 (dowel_capacity b j mat) (exact_dowel_capacity² b j mat)
  near = capacity_near known width jr

  pos : 0 < dowel_capacity b j mat
  pos = omega (arith, near.low)

  pub count_above : (n : ℕ) → LeastCount (whole N) b j mat n → n ≤ joint_count N b j mat
  count_above n l = l.least _ ((suffices_iff (whole N) b j mat (joint_count N b j mat)).1 (count_carries N pos near))

  pub count_below : (k : ℕ) → 1003 ≤ k → (n : ℕ) → LeastCount (scaled k (whole N)) b j mat n → joint_count N b j mat ≤ n
  count_below k big n l = count_least N pos near (lit≤ tt) k big n ((suffices_iff (scaled k (whole N)) b j mat n).0 l.holds)

-- There is an unrounded least count, for every force.
abbrev pub exact_count : Fraction → ℕ → Joint → Material → ℕ
exact_count N b j mat = carry_count N (exact_dowel_capacity² b j mat)

pub count_exists : (N : Fraction) {b : ℕ} {j : Joint} {mat : Material} → 0 < N.den → InWidth b → JointRanges j → MaterialRanges mat → LeastCount N b j mat (exact_count N b j mat)
count_exists N {b} {j} {mat} real width jr known =
    least_same (λ k. let iff = suffices_iff N b j mat k in (iff.1, iff.0))
    (carry_exists N (exact_dowel_capacity² b j mat) real (near_root_pos (lit< tt) (capacity_near known width jr)))

-- and the least columns for every count
pub columns_exist : (n r : ℕ) → 0 < r → LeastColumns n r (columns n r)
columns_exist n r pos = record { holds = omega (arith, (rounding_up n r pos).0); least = λ k h. up_le pos h }

-- The joint's length grows with its columns, and these with the count.
pub length_grows : (d : ℕ) {m n : ℕ} → m ≤ n → length_of d m ≤ length_of d n
length_grows d le = mul-le-mul_left (7 * d) (omega arith)

-- Check 4: what passes rounded holds unrounded, and what fails rounded fails unrounded with N times k thousandths, for every k from 1003.
module _ (N : ℕ) {b : ℕ} {j : Joint} {mat : Material} (width : InWidth b) (jr : JointRanges j) (known : MaterialRanges mat) where
  pub joint_length_pass : joint_length_holds j (joint_count N b j mat) ≡ true → ExactJointLength (whole N) b j mat
  joint_length_pass e =
      let r = j.across in
      let pos : 0 < r = jr.across.low in
      let count = exact_count (whole N) b j mat in
      let least_count : LeastCount (whole N) b j mat count = count_exists (whole N) (lit< tt) width jr known in
      let least_columns : LeastColumns count r (columns count r) = columns_exist count r pos in
      let enough : count ≤ columns (joint_count N b j mat) r * r =
      le_trans (count_above N width jr known count least_count) (columns_exist (joint_count N b j mat) r pos).holds in
      record {
        count = count;
        least_count = least_count;
        columns = columns count r;
        least_columns = least_columns;
        fits = le_trans (length_grows j.diameter (least_columns.least _ enough)) (leb-true _ _ e);
      }

  pub joint_length_fail : joint_length_holds j (joint_count N b j mat) ≡ false → (k : ℕ) → 1003 ≤ k → ExactJointLength (scaled k (whole N)) b j mat → ⊥
  joint_length_fail e k big x =
      let r = j.across in
      let enough : joint_count N b j mat ≤ x.columns * r =
      le_trans (count_below N width jr known k big x.count x.least_count) x.least_columns.holds in
      let long : j.available < length_of j.diameter (columns (joint_count N b j mat) r) = leb-false _ _ e in
      omega (arith, x.fits, length_grows j.diameter ((columns_exist (joint_count N b j mat) r jr.across.low).least _ enough))
