-- `buckling_phi` meets its contract: above a slenderness of 70 it is the second form.
-- Assumes nothing.
use Rattle.std.proofs.Common.{◌*◌, ◌≡◌, arith}
use Rattle.std.proofs.lemmas.Bool.{lt-leb}
use Rattle.sp64.specs.Slenderness.{L², s²}
use Rattle.sp64.specs.Buckling.{buckling_phi}
use Rattle.sp64.proofs.PhiLaws.{phi_in}
use Rattle.stability.proofs.strut.KnownStrut.buckling_phi.Goals as goal

pub returns-else-l2-s2 : goal.returns-else-l2-s2
returns-else-l2-s2 c =
    let strut = c.args.self.strut in
    let e : c.slender_phi.result ≡ buckling_phi strut = simp (lt-leb (12 * L² strut) (4900 * s² strut) (omega arith)) c.slender_phi.ensures.exact in
    record { exact = e; range = rw e (phi_in c.args.self.ranges) }
