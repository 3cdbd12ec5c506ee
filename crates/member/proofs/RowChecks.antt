-- The checks of an accepted row, rounded against unrounded.
-- Assumes nothing.
use Prim.Native.Nat.{ℕ}
use mathlib.Core.Path.{◌≡◌, refl}
use mathlib.Core.Logic.{inl, inr}
use mathlib.Core.Bool.{Bool, true, false}
use Rattle.rounding.specs.Fraction.{RoundsUpTo}
use Rattle.rounding.proofs.FractionLaws.{whole_rounds}
use Rattle.sp64.proofs.Checks.{tension_sound, net_tension_sound, side_piece_sound, bending_sound, shear_sound, buckling_sound, compression_bending_sound, tension_bending_sound}
use Rattle.sp64.proofs.JointLaws.{count_above, count_below, joint_length_pass, joint_length_fail}
use Rattle.cells.specs.Greatest.{Among}
use Rattle.member.specs.Checks.{Check, StrengthCheck, strength, yes_no_checks, strength_checks, omitted, net_tension, side_pieces, bending, shear, buckling, compression_bending, tension_bending}
use Rattle.member.specs.Ranges.{Sized, RangesOf}
use Rattle.member.specs.Unrounded.{Forces, forces_of}
use Rattle.member.specs.declared.kind.Kind.{Kind}
use Rattle.member.specs.declared.kind.Kind.TheVariants.{Bending}
use Rattle.member.specs.declared.member.Member.{Member}
use Rattle.member.proofs.VerdictLaws.{clash, AllHold}
use Rattle.member.proofs.DemandLaws.{StrengthSound, ChecksSound, exact}
use Rattle.member.proofs.Reliance.{JointLaidOut, ReliesOn, LayoutAndSlendernessHold, joint_known, unjointed, relied_on}

-- the factors of the forces, in thousandths, from which on every check is sound
abbrev pub sound_from : Check → ℕ
sound_from c = 1003

-- the force that check c takes from f rounds up to its cell; check 11 is sound at the cells themselves
abbrev RoundsUpFor : Member → Forces → StrengthCheck → Type 0
RoundsUpFor m f net_tension = RoundsUpTo m.force f.N
RoundsUpFor m f side_pieces = RoundsUpTo m.force f.N
RoundsUpFor m f bending = RoundsUpTo m.moment f.M
RoundsUpFor m f shear = RoundsUpTo m.shear f.Q
RoundsUpFor m f (buckling across) = RoundsUpTo m.force f.N
RoundsUpFor m f compression_bending = f ≡ forces_of m
RoundsUpFor m f tension_bending = f ≡ forces_of m

-- the forces of the cells do
cells_round : (m : Member) (c : StrengthCheck) → RoundsUpFor m (forces_of m) c
cells_round m net_tension = whole_rounds m.force
cells_round m side_pieces = whole_rounds m.force
cells_round m bending = whole_rounds m.moment
cells_round m shear = whole_rounds m.shear
cells_round m (buckling across) = whole_rounds m.force
cells_round m compression_bending = refl
cells_round m tension_bending = refl

module _ (m : Member) (f : Forces) (here : Sized m) where
  -- check 5 with and without a joint
  net_tension_lem : RoundsUpTo m.force f.N → (m.jointed ≡ true → JointLaidOut m) → StrengthSound m f sound_from net_tension
  net_tension_lem up laid = by m.jointed refl
    where
      by : (t : Bool) → m.jointed ≡ t → StrengthSound m f sound_from net_tension
      by true e = let j = laid e in rw e (net_tension_sound here.material here.section up j.joint j.layout)
      by false e = rw e (tension_sound here.material here.section up)

  -- a strength check that has what it relies on
  sound_strength : (c : StrengthCheck) → RoundsUpFor m f c → ReliesOn m c → StrengthSound m f sound_from c
  sound_strength net_tension up laid = net_tension_lem up laid
  sound_strength side_pieces up laid = side_piece_sound here.material here.section up laid.joint laid.layout
  sound_strength bending up on = bending_sound here.material here.section up
  sound_strength shear up on = shear_sound here.material here.section up
  sound_strength (buckling across) up steady = buckling_sound here.material here.section up steady
  sound_strength compression_bending up (steady, force, moment) =
      rw up (compression_bending_sound here.material here.section force.low moment.low steady)
  sound_strength tension_bending up on = rw up (tension_bending_sound here.material here.section m.force m.moment)

module _ (m : Member) where
  -- layout and slenderness round nothing
  hold_exactly : (kind : Kind) → AllHold m (yes_no_checks kind) → LayoutAndSlendernessHold m kind
  hold_exactly kind all c low a kept = (exact m (forces_of m) c low).0 (all c a kept)

  -- the strength checks of a row at forces that round up to its cells
  strength_row : {kind : Kind} → RangesOf kind m → (f : Forces) → ((c : StrengthCheck) → Among c (strength_checks kind) → RoundsUpFor m f c)
      → AllHold m (yes_no_checks kind) → (c : StrengthCheck) → Among c (strength_checks kind) → omitted m (strength c) ≡ false → StrengthSound m f sound_from c
  strength_row {kind} ranges f up all c a kept =
      sound_strength m f ranges.sized c (up c a) (relied_on m kind ranges (hold_exactly kind all) c a kept)

  -- the checks of a row at the forces of its cells
  pub checks_sound : RangesOf m.kind m → ChecksSound m (forces_of m) sound_from
  checks_sound ranges =
      let joint = joint_known m ranges in
      record {
        length_pass = λ e h. let j = joint e in joint_length_pass m.force j.sized.section.width j.joint j.sized.material (rw e at h);
        length_fail = λ e h. let j = joint e in joint_length_fail m.force j.sized.section.width j.joint j.sized.material (rw e at h);
        strength_sound = strength_row ranges (forces_of m) (λ c a. cells_round m c);
        count_above = λ e n least. let j = joint e in rw e (count_above m.force j.sized.section.width j.joint j.sized.material n least);
        count_below = λ e k big n least. let j = joint e in rw e (count_below m.force j.sized.section.width j.joint j.sized.material k big n least);
      }

  -- checks 7 and 8 of a row of kind 2 at fractions that round up to its cells
  pub bending_checks_sound : m.kind ≡ Bending → RangesOf m.kind m → (f : Forces) → RoundsUpTo m.moment f.M → RoundsUpTo m.shear f.Q → ChecksSound m f sound_from
  bending_checks_sound e ranges f up_m upQ =
      record {
        length_pass = λ j h. absurd (clash j without);
        length_fail = λ j h. absurd (clash j without);
        strength_sound = strength_row ranges f (λ c a. up c (rw e at a));
        count_above = λ j n least. absurd (clash j without);
        count_below = λ j k big n least. absurd (clash j without);
      }
    where
      up : (c : StrengthCheck) → Among c (strength_checks Bending) → RoundsUpFor m f c
      up c (inl at) = rw at up_m
      up c (inr (inl at)) = rw at upQ
      up c (inr (inr a)) = absurd a

      without : m.jointed ≡ false
      without = unjointed m ranges (rw e refl)
