-- `judge_joint` meets its contract: check 4 by the row's count, and the greater of checks 5 and 6.
-- Assumes nothing.
use Rattle.std.proofs.Common.{◌≡◌, refl, ap, ap₂, ◌∙◌, not, [], ◌∷◌}
use Rattle.member.specs.Member.{count_of}
use Rattle.member.specs.Verdict.{holds, by_strength, failed_on}
use Rattle.member.specs.declared.check.StrengthCheck.TheVariants.{NetTension as net_tension, SidePieces as side_pieces}
use Rattle.member.specs.declared.check.YesNoCheck.TheVariants.{JointLength as joint_length}
use Rattle.rowcheck.proofs.JudgeLaws.{has, length_fails, length_holds, only, next_governs}
use Rattle.rowcheck.proofs.judge.KnownMember.judge_joint.Goals as goal

pub returns-then-not-length_holds : goal.returns-then-not-length_holds
returns-then-not-length_holds c =
    let m = c.args.self.member in
    let jointed = c.requires.jointed in
    let counted : c.count-count.result ≡ count_of m = rw jointed c.count-count.ensures.exact in
    let measured : c.length_holds.result ≡ holds m joint_length = rw (← counted) c.length_holds.ensures in
    length_fails _ _ (has (ap not jointed) measured) (ap not c.if-not-length_holds.true)
    (c.failed_on.ensures ∙ ap₂ failed_on c.number.ensures counted)

pub returns : goal.returns
returns c =
    let m = c.args.self.member in
    let jointed = c.requires.jointed in
    let counted : c.count-count.result ≡ count_of m = rw jointed c.count-count.ensures.exact in
    let measured : c.length_holds.result ≡ holds m joint_length = rw (← counted) c.length_holds.ensures in
    length_holds _ _ (has (ap not jointed) measured) (ap not c.if-not-length_holds.false)
    (c.by_strength.ensures
    ∙ ap₂ by_strength
    (next_governs m net_tension {x = c.against-net.result} refl
    (rw (jointed, ← c.design_strength-r.ensures.strength.exact, ← c.net_tension_capacity.ensures.exact) (rw c.number-2.ensures at c.against-net.ensures)) (side_pieces ∷ [])
    (only m side_pieces {x = c.against-side.result} (ap not jointed)
    (rw (← c.design_strength-r.ensures.strength.exact, ← c.side_piece_capacity.ensures.exact) (rw c.number-3.ensures at c.against-side.ensures)))
    c.greater.ensures)
    counted)
