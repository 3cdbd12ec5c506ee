-- `answer_floor_beam`: M and Q of a verdict are whole numbers that a float holds.
-- Assumes nothing.
use Rattle.std.proofs.Common.{sym, arith}
use Rattle.floorrules.proofs.BeamMeaning.{floor_judged}
use Rattle.floorrules.proofs.HostBeamMeaning.{judged_small}
use Rattle.floorhost.proofs.host.answer_floor_beam.Goals as goal

pub write_beam_verdict-requires : goal.write_beam_verdict-requires
write_beam_verdict-requires c =
    let few = judged_small c.in_ok-loading.loading c.in_ok-typed.typed _ (floor_judged _ _ _ (sym c.in_ok-verdict.ensures.result)) in
    (omega (arith, few.moment), omega (arith, few.shear))
