-- Greater forces have no smaller utilisation in check 11, need no fewer dowels and no shorter joint.
-- Assumes nothing.
use Prim.Native.Nat.{ℕ, ◌-◌, ◌*◌, ◌≤◌, ◌<◌}
use native.Mathlib.Nat.{le_trans}
use native.Mathlib.Omega.{arith}
use mathlib.Core.Path.{◌≡◌, refl}
use mathlib.Core.Bool.{Bool, true, false}
use borrow.Author.Tests.{leb-true, leb-false, le-leb}
use lib.Dec.{leb}
use Rattle.rounding.proofs.RoundingLaws.{up_more, up_less}
use Rattle.rounding.proofs.Soundness.{utilisation_more}
use Rattle.sp64.specs.Combined.{axial_share, second_order_moment, combined, compression_bending_utilisation, tension_bending_utilisation}
use Rattle.sp64.specs.Joint.{dowel_capacity, joint_count, columns, joint_length_holds}
use Rattle.sp64.specs.declared.joint.Joint.{Joint}
use Rattle.sp64.specs.declared.strength.Material.{Material}
use Rattle.sp64.proofs.JointLaws.{length_grows}

-- the sum of check 11
combined_more : (NR MR : ℕ) {N N' Md Md' : ℕ} → N ≤ N' → Md ≤ Md' → combined N NR Md MR ≤ combined N' NR Md' MR
combined_more NR MR {N} {N'} {Md} {Md'} leN leM = omega (arith, utilisation_more NR leN, utilisation_more MR leM)

-- check 11, kind 5
pub tension_bending_more : (NR MR : ℕ) {N N' M M' : ℕ} → N ≤ N' → M ≤ M' → tension_bending_utilisation N M NR MR ≤ tension_bending_utilisation N' M' NR MR
tension_bending_more = combined_more

-- check 11, kind 4
pub compression_bending_more : (NR C MR : ℕ) {N N' M M' : ℕ} → N ≤ N' → M ≤ M' → compression_bending_utilisation N M NR C MR ≤ compression_bending_utilisation N' M' NR C MR
compression_bending_more NR C MR {N} {N'} {M} {M'} leN leM = by (leb 1000000 (axial_share N C)) refl (leb 1000000 (axial_share N' C)) refl
  where
    share : axial_share N C ≤ axial_share N' C
    share = up_more C (omega arith)

    by : (s : Bool) → leb 1000000 (axial_share N C) ≡ s → (t : Bool) → leb 1000000 (axial_share N' C) ≡ t
        → compression_bending_utilisation N M NR C MR ≤ compression_bending_utilisation N' M' NR C MR
    by true e true e' = rw (e, e') (omega arith)
    by true e false e' = absurd (omega (arith, leb-true 1000000 (axial_share N C) e, leb-false 1000000 (axial_share N' C) e', share))
    by false e true e' = rw (e, e') (omega arith)
    by false e false e' =
        let left : 0 < 1000000 - axial_share N' C = omega (arith, leb-false 1000000 (axial_share N' C) e') in
        let more : second_order_moment M (axial_share N C) ≤ second_order_moment M' (axial_share N' C) =
        le_trans (up_more (1000000 - axial_share N C) (omega arith)) (up_less (1000000 * M') left (omega (arith, share))) in
        rw (e, e') (combined_more NR MR leN more)

module _ (b : ℕ) (j : Joint) (mat : Material) {N N' : ℕ} (le : N ≤ N') where
  -- the count
  pub count_more : joint_count N b j mat ≤ joint_count N' b j mat
  count_more = up_more (2 * dowel_capacity b j mat) (omega arith)

  -- check 4
  pub length_kept : joint_length_holds j (joint_count N' b j mat) ≡ true → joint_length_holds j (joint_count N b j mat) ≡ true
  length_kept e =
      let more : columns (joint_count N b j mat) j.across ≤ columns (joint_count N' b j mat) j.across = up_more j.across count_more in
      le-leb _ _ (le_trans (length_grows j.diameter more) (leb-true _ _ e))
