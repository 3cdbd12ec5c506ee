-- `sag_into`: the figures of a verdict are whole numbers that a float holds.
-- Assumes nothing.
use Rattle.sagrules.proofs.HostSagLaws.{verdict_lossless}
use Rattle.saghost.proofs.host.sag_into.Goals as goal

pub write_sag_verdict-requires : goal.write_sag_verdict-requires
write_sag_verdict-requires c = rw c.verdict-verdict.ensures (verdict_lossless c.in_ok-beam.beam.ranges c.in_ok-known.known.in_range)
