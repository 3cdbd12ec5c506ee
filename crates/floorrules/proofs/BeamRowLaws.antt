-- The row that is made of a floor beam: it is whole, and the member that it describes has the loads' M and Q.
-- Assumes nothing.
use mathlib.Core.Path.{◌≡◌, refl}
use lib.ListN.{length}
use Rattle.cells.specs.Refusal.{gives}
use Rattle.cells.specs.Row.{cell_count}
use Rattle.member.specs.Acceptance.{accept}
use Rattle.member.specs.declared.kind.Kind.TheVariants.{Bending}
use Rattle.member.specs.declared.member.Member.{Member}
use Rattle.member.proofs.AcceptanceLaws.{accepted_member}
use Rattle.floorrules.specs.BeamRow.{beam_row}
use Rattle.floorrules.specs.Loads.{moment_of, shear_of}
use Rattle.floorrules.specs.declared.beam.BeamCells.{BeamCells}
use Rattle.floorrules.specs.declared.beam.Loading.{Loading}

module _ (l : Loading) (cells : BeamCells) where
  pub beam_whole : length (beam_row l cells) ≡ cell_count
  beam_whole = refl

  -- what the member of an accepted beam has of it
  pub record BeamMember (m : Member) : Type 0 where
    pub kind : m.kind ≡ Bending
    pub moment : m.moment ≡ moment_of l
    pub shear : m.shear ≡ shear_of l

  pub beam_member : (m : Member) → accept (beam_row l cells) ≡ gives m → BeamMember m
  beam_member m given = rw (accepted_member Bending (beam_row l cells) m given) (record { kind = refl; moment = refl; shear = refl })
