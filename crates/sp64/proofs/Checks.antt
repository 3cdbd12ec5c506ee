-- Checks 5 to 11, rounded against unrounded, from the cells' ranges and, where they are needed, layout and slenderness: what passes holds unrounded, and
-- what fails fails unrounded with the forces times k thousandths, for every k from 1003. In checks 5 to 10 the force may be a fraction that rounds up to
-- the whole number checked. The laws of check 4 and of the count are in JointLaws, those of checks 1 to 3, which round nothing, in YesNoChecks.
-- Assumes nothing.
use Prim.Native.Nat.{ℕ, ◌*◌, ◌≤◌, ◌<◌}
use native.Mathlib.Omega.{arith}
use lib.Dec.{lit<, lit≤}
use Rattle.rounding.specs.Fraction.{Fraction, RoundsUpTo}
use Rattle.rounding.proofs.Ranges.{in_lit, in_mul, in_wide}
use Rattle.rounding.proofs.Near.{Near, near_wide}
use Rattle.rounding.proofs.Soundness.{SoundAgainst, sound}
use Rattle.sp64.specs.declared.tables.Stress.TheVariants.{Compression, Tension, Shear}
use Rattle.sp64.specs.declared.strength.Material.{Material}
use Rattle.sp64.specs.declared.joint.Joint.{Joint}
use Rattle.sp64.specs.declared.strut.Strut.{Strut}
use Rattle.sp64.specs.Strength.{MaterialRanges, design_strength, exact_strength}
use Rattle.sp64.specs.Joint.{JointRanges, Layout}
use Rattle.sp64.specs.Capacity.{Section, net_tension_capacity, exact_net_tension_capacity, side_piece_capacity, exact_side_piece_capacity, shear_capacity, exact_shear_capacity, NR, exact_nr, MR, exact_mr}
use Rattle.sp64.specs.Buckling.{buckling_phi, exact_buckling_phi, buckling_capacity, exact_buckling_capacity, euler_capacity, exact_euler_capacity}
use Rattle.sp64.proofs.PhiLaws.{Steady, slender_near, phi_near}
use Rattle.sp64.proofs.CapacityLaws.{net_height_in, tension_near, whole_tension_near, compression_near, bending_near, shear_near, PhiLoss, buckling_near}
use Rattle.sp64.proofs.CombinedLaws.{Losses, CompressionBendingSound, compression_bending_from, TensionBendingSound, tension_bending_from}

-- what rounding takes off NR × φ and NR × φ' with the φ of specs/Buckling
pub phi_loss : PhiLoss 75000 75000 75001 100244
phi_loss = record { low = lit< tt; some = lit< tt; wide = lit≤ tt }

-- the force against a capacity that loses at most 3 thousandths
against : {m g N c : ℕ} {force x : Fraction} → 0 < m → g ≤ 100300 → RoundsUpTo N force → Near m 100000 g c x → SoundAgainst 1003 force N c x
against {g = g} pos few up near = sound pos (lit< tt) up (near_wide 1000 1003 (lit< tt) (omega arith) near)

module _ {mat : Material} (known : MaterialRanges mat) {b h : ℕ} (section : Section b h) where
  module _ {N : ℕ} {force : Fraction} (up : RoundsUpTo N force) where
    -- check 5 without a joint
    pub tension_sound : SoundAgainst 1003 force N (NR Tension b h mat) (exact_nr Tension b h mat)
    tension_sound = against (lit< tt) (lit≤ tt) up (whole_tension_near known section)

    module _ {j : Joint} (jr : JointRanges j) (layout : Layout h j) where
      -- check 5 with a joint
      pub net_tension_sound : SoundAgainst 1003 force N (net_tension_capacity b h j (design_strength Tension mat)) (exact_net_tension_capacity b h j (exact_strength Tension mat))
      net_tension_sound =
          against (lit< tt) (lit≤ tt) up
          (tension_near known (in_wide 20 600 (lit≤ tt) (lit≤ tt) section.width) (net_height_in section.height jr layout))

      -- check 6
      pub side_piece_sound : SoundAgainst 1003 force N (side_piece_capacity h j (design_strength Tension mat)) (exact_side_piece_capacity h j (exact_strength Tension mat))
      side_piece_sound =
          against (lit< tt) (lit≤ tt) up
          (tension_near known (in_mul (in_lit 2) jr.side) (net_height_in section.height jr layout))

    -- check 7, where N is the moment
    pub bending_sound : SoundAgainst 1003 force N (MR b h mat) (exact_mr b h mat)
    bending_sound = against (lit< tt) (lit≤ tt) up (bending_near known section)

    -- check 8, where N is the shear force
    pub shear_sound : SoundAgainst 1003 force N (shear_capacity b h (design_strength Shear mat)) (exact_shear_capacity b h (exact_strength Shear mat))
    shear_sound = against (lit< tt) (lit≤ tt) up (shear_near known section)

    -- checks 9 and 10 for any φ, from the k₀ thousandths that cover what rounding takes off NR × φ
    pub buckling_sound_for : {m f g G φ : ℕ} {x : Fraction} (k₀ : ℕ) → PhiLoss m f g G → 0 < k₀ → G ≤ 100 * k₀ → Near m f g φ x → SoundAgainst k₀ force N (buckling_capacity (NR Compression b h mat) φ) (exact_buckling_capacity (exact_nr Compression b h mat) x)
    buckling_sound_for {G = G} k₀ loss some few phi =
        sound loss.low some up (near_wide 1000 k₀ (lit< tt) (omega arith) (buckling_near known section loss phi))

    -- checks 9 and 10
    pub buckling_sound : {limit : ℕ} {strut : Strut} → Steady limit strut → SoundAgainst 1003 force N (buckling_capacity (NR Compression b h mat) (buckling_phi strut)) (exact_buckling_capacity (exact_nr Compression b h mat) (exact_buckling_phi strut))
    buckling_sound steady = buckling_sound_for 1003 phi_loss (lit< tt) (lit≤ tt) (phi_near steady)

  module _ {N M : ℕ} (pos-N : 0 < N) (pos-M : 0 < M) where
    -- check 11, kind 4, for any φ'
    pub compression_bending_sound_for : {m f g G φ : ℕ} {x : Fraction} (k₀ : ℕ) → PhiLoss m f g G → Losses 100035 G 100019 k₀ → Near m f g φ x → CompressionBendingSound k₀ N M (NR Compression b h mat) (buckling_capacity (NR Compression b h mat) φ) (MR b h mat) (exact_nr Compression b h mat) (exact_buckling_capacity (exact_nr Compression b h mat) x) (exact_mr b h mat)
    compression_bending_sound_for k₀ loss losses phi =
        compression_bending_from
        losses
        (compression_near known section)
        (buckling_near known section loss phi)
        (bending_near known section)
        (lit< tt)
        loss.low
        pos-N
        pos-M

    -- check 11, kind 4
    pub compression_bending_sound : {limit : ℕ} {strut : Strut} → Steady limit strut → CompressionBendingSound 1003 N M (NR Compression b h mat) (euler_capacity (NR Compression b h mat) strut) (MR b h mat) (exact_nr Compression b h mat) (exact_euler_capacity (exact_nr Compression b h mat) strut) (exact_mr b h mat)
    compression_bending_sound steady = compression_bending_sound_for 1003 phi_loss (omega arith) (slender_near steady)

  -- check 11, kind 5
  pub tension_bending_sound : (N M : ℕ) → TensionBendingSound 1003 N M (NR Tension b h mat) (MR b h mat) (exact_nr Tension b h mat) (exact_mr b h mat)
  tension_bending_sound N M =
      tension_bending_from N M (whole_tension_near known section) (bending_near known section) (lit< tt) (lit< tt) (lit≤ tt) (lit≤ tt) (lit≤ tt)
