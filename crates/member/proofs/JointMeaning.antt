-- Check 4 of an accepted row with a joint fails unrounded for no empty reason: exactly where the joint with the least count and the least columns is
-- longer than cell 17.
-- Assumes nothing.
use Prim.Native.Nat.{ℕ, ◌<◌}
use mathlib.Core.Path.{◌≡◌, refl}
use mathlib.Core.Logic.{◌↔◌, inl, inr}
use mathlib.Core.Bool.{true}
use mathlib.Core.List.{List}
use lib.Dec.{lit<}
use lib.ListN.{length}
use Rattle.cells.specs.Refusal.{gives}
use Rattle.cells.specs.Row.{cell_count, Cell}
use Rattle.sp64.proofs.Denominators.{scaled_real}
use Rattle.sp64.proofs.JointMeaning.{TooLong, joint_length_fails_iff}
use Rattle.member.specs.Acceptance.{accept}
use Rattle.member.specs.Checks.{Check, OfKind, Has, yes_no, joint_length}
use Rattle.member.specs.Demand3.{FailsOn, Demand3}
use Rattle.member.specs.Ranges.{RangesOf}
use Rattle.member.specs.Unrounded.{Forces, forces_of, times, Holds}
use Rattle.member.specs.declared.kind.Kind.{Kind}
use Rattle.member.specs.declared.member.Member.{Member}
use Rattle.member.specs.declared.verdict.Verdict.{Verdict}
use Rattle.member.proofs.AcceptanceLaws.{accept_ranges}
use Rattle.member.proofs.Reliance.{joint_known}
use Rattle.member.proofs.DemandMeaning.{failed}

-- the joint is too long for an axial force, unrounded: that of f
abbrev pub JointTooLong : Member → Forces → Type 0
JointTooLong m f = TooLong f.N m.width m.joint m.material

-- check 4 is one of a kind that has a joint
has_joint_length : (m : Member) {kind : Kind} → RangesOf kind m → m.jointed ≡ true → OfKind kind (yes_no joint_length)
has_joint_length m ranges e = rw (ranges.tension e) (inr (inr (inr (inl refl))))

module _ (cells : List Cell) (m : Member) (whole : length cells ≡ cell_count) (given : accept cells ≡ gives m) (jointed : m.jointed ≡ true) where
  -- at any forces whose N is a value
  fails_iff_at : (f : Forces) → 0 < f.N.den → (Holds m f (yes_no joint_length) → ⊥) ↔ JointTooLong m f
  fails_iff_at f real =
      let j = joint_known m (accept_ranges cells m whole given) jointed in
      joint_length_fails_iff f.N real j.sized.section.width j.joint j.sized.material

  -- check 4 fails exactly where the joint is too long: at the forces of the cells
  pub length_fails_iff : (Holds m (forces_of m) (yes_no joint_length) → ⊥) ↔ JointTooLong m (forces_of m)
  length_fails_iff = fails_iff_at (forces_of m) (lit< tt)

  -- and at k thousandths of them, for every k, 0 among them
  pub length_fails_iff_scaled : (k : ℕ) → (Holds m (times k (forces_of m)) (yes_no joint_length) → ⊥) ↔ JointTooLong m (times k (forces_of m))
  length_fails_iff_scaled k = fails_iff_at (times k (forces_of m)) (scaled_real k (forces_of m).N (lit< tt))

  -- so a row that fails on check 4 has a joint that is too long for its forces times that check's factor, by any verdict that keeps demand 3
  pub failed_too_long : (v : Verdict) (k : Check → ℕ) → Demand3 m v k → FailsOn v (yes_no joint_length) → JointTooLong m (times (k (yes_no joint_length)) (forces_of m))
  failed_too_long v k demand on =
      let has : Has m (yes_no joint_length) =
      record { of_kind = has_joint_length m (accept_ranges cells m whole given) jointed; kept = rw jointed refl } in
      (length_fails_iff_scaled (k (yes_no joint_length))).0 (failed m (forces_of m) v k demand (yes_no joint_length) has on)
