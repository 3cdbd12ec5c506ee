-- No unrounded check of an accepted row that keeps layout and slenderness holds or fails for an empty reason: every value in it has a denominator above
-- zero, every value that another is divided by or compared with is above zero, and no difference is cut off.
-- Assumes nothing.
use Prim.Native.Nat.{ℕ, ◌*◌, ◌<◌}
use mathlib.Core.Path.{◌≡◌, refl}
use mathlib.Core.Bool.{Bool, true, false, cond}
use mathlib.Core.List.{List}
use lib.Dec.{lit<}
use lib.ListN.{length}
use Rattle.rounding.specs.Fraction.{Fraction, whole, ◌⊘◌, ◌⊕◌, ◌⊖◌, ◌≼◌, ◌≺◌}
use Rattle.cells.specs.Refusal.{gives}
use Rattle.cells.specs.Row.{cell_count, Cell}
use Rattle.sp64.specs.Buckling.{stocky, exact_slender_phi, exact_buckling_phi, exact_buckling_capacity, exact_euler_capacity}
use Rattle.sp64.specs.Capacity.{exact_net_tension_capacity, exact_side_piece_capacity, exact_shear_capacity}
use Rattle.sp64.specs.Combined.{exact_axial_share, exact_second_order_moment}
use Rattle.sp64.specs.Joint.{core_crushing, side_crushing, dowel_bending, exact_crushing_capacity, exact_dowel_bending²}
use Rattle.sp64.specs.Strength.{exact_strength}
use Rattle.sp64.specs.declared.tables.Stress.{Stress}
use Rattle.sp64.specs.declared.tables.Stress.TheVariants.{Compression as compressionStress, Tension as tensionStress, Shear as shearStress}
use Rattle.sp64.specs.Slenderness.{L², s²}
use Rattle.sp64.specs.declared.strut.Strut.{Strut}
use Rattle.sp64.proofs.PhiLaws.{Steady}
use Rattle.sp64.proofs.Denominators.{Proper, scaled_real, net_height_kept, stocky_phi_kept, phi_proper, slender_phi_proper, core_crushing_proper, side_crushing_proper, dowel_bending_proper, strength_proper, tension_proper, net_tension_proper, side_piece_proper, compression_proper, bending_proper, shear_proper, buckling_proper, euler_proper, share_real, remainder_proper, moment_real, combined_real}
use Rattle.member.specs.Acceptance.{accept}
use Rattle.member.specs.Checks.{Check, StrengthCheck, yes_no, strength, Has, net_tension, side_pieces, bending, shear, buckling, compression_bending, tension_bending}
use Rattle.member.specs.Demand3.{LayoutOrSlenderness}
use Rattle.member.specs.Member.{across_height, strut_of, limit_of, exact_nrof, exact_mrof}
use Rattle.member.specs.Ranges.{Sized}
use Rattle.member.specs.Unrounded.{Forces, forces_of, times, Holds}
use Rattle.member.specs.declared.member.Member.{Member}
use Rattle.member.proofs.AcceptanceLaws.{accept_ranges}
use Rattle.member.proofs.Reliance.{JointLaidOut, ReliesOn, LayoutAndSlendernessHold, joint_known, relied_on}

-- N, M and Q are values
pub record Real (f : Forces) : Type 0 where
  pub N : 0 < f.N.den
  pub M : 0 < f.M.den
  pub Q : 0 < f.Q.den

-- the forces of the cells are values
pub forces_real : (m : Member) → Real (forces_of m)
forces_real m = record { N = lit< tt; M = lit< tt; Q = lit< tt }

-- and so are k thousandths of forces that are
pub times_real : (k : ℕ) (f : Forces) → Real f → Real (times k f)
times_real k f real =
    record { N = scaled_real k f.N real.N; M = scaled_real k f.M real.M; Q = scaled_real k f.Q real.Q }

-- a force, and the capacity that it is held against
pub record ProperRatio (force capacity : Fraction) : Type 0 where
  pub force_real : 0 < force.den
  pub capacity_proper : Proper capacity

-- checks 5 and 6 with a joint: the dowels leave some of the height
abbrev pub HeightLeft : Member → Type 0
HeightLeft m = m.joint.across * m.joint.diameter < m.height

-- checks 9 and 10: NR, φ and their product; and up to the turn at 70 the first form of φ is not cut off
pub record ProperBuckling (N NR : Fraction) (strut : Strut) : Type 0 where
  pub ratio : ProperRatio N (exact_buckling_capacity NR (exact_buckling_phi strut))
  pub axial : Proper NR
  pub phi : Proper (exact_buckling_phi strut)
  pub kept : stocky strut ≡ true → whole (960 * L² strut) ⊘ whole (s² strut) ≼ whole 1000000

-- check 11: N against NR, Md against MR, and the sum of their ratios
pub record ProperCombined (N NR Md MR : Fraction) : Type 0 where
  pub axial : ProperRatio N NR
  pub moment : ProperRatio Md MR
  pub sum : 0 < (N ⊘ NR ⊕ Md ⊘ MR).den

-- check 11 of kind 4: M, NR × φ' and p, and where p is below one also 1,000,000 − p, Md and the sum
pub record ProperCompressionBending (N M NR C MR : Fraction) : Type 0 where
  pub axial : ProperRatio N NR
  pub moment : ProperRatio M MR
  pub euler : Proper C
  pub share : 0 < (exact_axial_share N C).den
  pub remainder : exact_axial_share N C ≺ whole 1000000 → Proper (whole 1000000 ⊖ exact_axial_share N C)
  pub combined : exact_axial_share N C ≺ whole 1000000 → ProperCombined N NR (exact_second_order_moment M (exact_axial_share N C)) MR

-- what must be a value, and what above zero, in the unrounded strength check c at the forces f
abbrev pub ProperAt : Member → Forces → StrengthCheck → Type 0
ProperAt m f net_tension =
    ProperRatio f.N
    (cond m.jointed
    (exact_net_tension_capacity m.width m.height m.joint (exact_strength tensionStress m.material))
    (exact_nrof tensionStress m))
    × (m.jointed ≡ true → HeightLeft m)
ProperAt m f side_pieces =
    ProperRatio f.N (exact_side_piece_capacity m.height m.joint (exact_strength tensionStress m.material)) × HeightLeft m
ProperAt m f bending = ProperRatio f.M (exact_mrof m)
ProperAt m f shear = ProperRatio f.Q (exact_shear_capacity m.width m.height (exact_strength shearStress m.material))
ProperAt m f (buckling across) = ProperBuckling f.N (exact_nrof compressionStress m) (strut_of m across)
ProperAt m f compression_bending =
    Proper (exact_slender_phi (strut_of m across_height))
    × ProperCompressionBending f.N f.M
    (exact_nrof compressionStress m)
    (exact_euler_capacity (exact_nrof compressionStress m) (strut_of m across_height))
    (exact_mrof m)
ProperAt m f tension_bending =
    ProperCombined f.N (exact_nrof tensionStress m) f.M (exact_mrof m)

-- the terms of a dowel, that of bending by its square, and the dowels of a column, by which the count is divided
pub record ProperJoint (m : Member) : Type 0 where
  pub core : Proper (exact_crushing_capacity (core_crushing m.width m.joint) m.material)
  pub side : Proper (exact_crushing_capacity (side_crushing m.joint) m.material)
  pub bending : Proper (exact_dowel_bending² (dowel_bending m.joint) m.material)
  pub across : 0 < m.joint.across

-- check 11 from its parts
combined_proper : {N NR Md MR : Fraction} → ProperRatio N NR → ProperRatio Md MR → ProperCombined N NR Md MR
combined_proper {N} {NR} {Md} {MR} n d =
    record { axial = n; moment = d; sum = combined_real N NR Md MR n.force_real n.capacity_proper d.force_real d.capacity_proper }

module _ (m : Member) (f : Forces) (real : Real f) (here : Sized m) where
  -- check 5 with and without a joint
  net_tension_lem : (m.jointed ≡ true → JointLaidOut m) → ProperAt m f net_tension
  net_tension_lem laid = (
    record { force_real = real.N; capacity_proper = by m.jointed refl },
    λ e. net_height_kept here.section.height (laid e).joint (laid e).layout,
  )
    where
      by : (t : Bool) → m.jointed ≡ t
          → Proper (cond t (exact_net_tension_capacity m.width m.height m.joint (exact_strength tensionStress m.material)) (exact_nrof tensionStress m))
      by true e = net_tension_proper here.material here.section (laid e).joint (laid e).layout
      by false e = tension_proper here.material here.section

  -- N against NR in compression, and M against MR
  against_force : ProperRatio f.N (exact_nrof compressionStress m)
  against_force = record { force_real = real.N; capacity_proper = compression_proper here.material here.section }

  against_moment : ProperAt m f bending
  against_moment = record { force_real = real.M; capacity_proper = bending_proper here.material here.section }

  -- checks 9 and 10
  proper_buckling : {strut : Strut} → Steady (limit_of m) strut → ProperBuckling f.N (exact_nrof compressionStress m) strut
  proper_buckling {strut} steady =
      record {
        ratio = record { force_real = real.N; capacity_proper = buckling_proper here.material here.section steady };
        axial = against_force.capacity_proper;
        phi = phi_proper steady;
        kept = stocky_phi_kept strut;
      }

  -- check 11 of kind 4
  combined_compression : Steady (limit_of m) (strut_of m across_height) → ProperAt m f compression_bending
  combined_compression steady =
      let N = f.N in
      let M = f.M in
      let C = exact_euler_capacity (exact_nrof compressionStress m) (strut_of m across_height) in
      let euler : Proper C = euler_proper here.material here.section steady in
      let Md-real = moment_real N M C real.N real.M euler in (
        slender_phi_proper steady,
        record {
          axial = against_force;
          moment = against_moment;
          euler = euler;
          share = share_real N M C real.N real.M euler;
          remainder = remainder_proper N M C real.N real.M euler;
          combined = λ below. combined_proper against_force (record { force_real = Md-real below; capacity_proper = against_moment.capacity_proper });
        },
      )

  -- a strength check that has what it relies on
  proper_strength : (c : StrengthCheck) → ReliesOn m c → ProperAt m f c
  proper_strength net_tension laid = net_tension_lem laid
  proper_strength side_pieces laid = (
    record { force_real = real.N; capacity_proper = side_piece_proper here.material here.section laid.joint laid.layout },
    net_height_kept here.section.height laid.joint laid.layout,
  )
  proper_strength bending on = against_moment
  proper_strength shear on = record { force_real = real.Q; capacity_proper = shear_proper here.material here.section }
  proper_strength (buckling across) steady = proper_buckling steady
  proper_strength compression_bending (steady, force, moment) = combined_compression steady
  proper_strength tension_bending on =
      combined_proper (record { force_real = real.N; capacity_proper = tension_proper here.material here.section }) against_moment

module _ (cells : List Cell) (m : Member) (whole : length cells ≡ cell_count) (given : accept cells ≡ gives m) where
  -- the strengths of the row are above zero
  pub strengths_proper : (stress : Stress) → Proper (exact_strength stress m.material)
  strengths_proper = strength_proper (accept_ranges cells m whole given).sized.material

  -- a joint's terms are above zero, whatever its layout
  pub joint_proper : m.jointed ≡ true → ProperJoint m
  joint_proper e =
      let j = joint_known m (accept_ranges cells m whole given) e in
      record {
        core = core_crushing_proper j.sized.section.width j.joint j.sized.material;
        side = side_crushing_proper j.sized.section.width j.joint j.sized.material;
        bending = dowel_bending_proper j.sized.section.width j.joint j.sized.material;
        across = j.joint.across.low;
      }

  module _ (hold : (c : Check) → LayoutOrSlenderness c → Has m c → Holds m (forces_of m) c) where
    -- at any forces that are values, nothing in a strength check of the row is empty
    pub nothing_empty_at : (f : Forces) → Real f → (c : StrengthCheck) → Has m (strength c) → ProperAt m f c
    nothing_empty_at f real c has =
        let ranges = accept_ranges cells m whole given in
        let holds : LayoutAndSlendernessHold m m.kind = λ d low a kept. hold (yes_no d) low (record { of_kind = a; kept = kept }) in
        proper_strength m f real ranges.sized c (relied_on m m.kind ranges holds c has.of_kind has.kept)

    -- nor at the forces of the cells
    pub nothing_empty : (c : StrengthCheck) → Has m (strength c) → ProperAt m (forces_of m) c
    nothing_empty = nothing_empty_at (forces_of m) (forces_real m)

    -- nor at k thousandths of them
    pub nothing_empty_scaled : (k : ℕ) (c : StrengthCheck) → Has m (strength c) → ProperAt m (times k (forces_of m)) c
    nothing_empty_scaled k = nothing_empty_at (times k (forces_of m)) (times_real k (forces_of m) (forces_real m))
