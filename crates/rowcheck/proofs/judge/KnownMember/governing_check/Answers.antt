-- `governing_check` meets its contract: in each kind the code finds the row's strength checks, and of these the one that governs.
-- Assumes nothing.
use Rattle.std.proofs.Common.{refl, [], ◌∷◌}
use Rattle.cells.specs.Greatest.{greatest}
use Rattle.member.specs.declared.check.Across.TheVariants.{Height as across_height, Width as across_width}
use Rattle.member.specs.declared.check.StrengthCheck.TheVariants.{Bending as bending, Shear as shear, Buckling as buckling, CompressionBending as compression_bending, TensionBending as tension_bending}
use Rattle.rowcheck.proofs.JudgeLaws.{only, next_governs}
use Rattle.rowcheck.proofs.judge.KnownMember.governing_check.Goals as goal

pub returns-in-Tension : goal.returns-in-Tension
unfolding greatest
returns-in-Tension c = rw (c.in-Tension.is, c.requires, ← c.axial_resistance.ensures.exact) (rw c.number.ensures at c.against.ensures)

pub returns-in-Bending : goal.returns-in-Bending
returns-in-Bending c =
    let m = c.args.self.member in
    rw c.in-Bending.is
    (next_governs m bending refl (rw (← c.moment_resistance.ensures.exact) (rw c.number-in-Bending.ensures at c.against-in-Bending.ensures)) (shear ∷ [])
    (only m shear refl c.shear_check.ensures)
    c.greater.ensures)

pub returns-in-Compression : goal.returns-in-Compression
returns-in-Compression c =
    let m = c.args.self.member in
    let nr = c.axial_resistance-nr.ensures.exact in
    rw c.in-Compression.is
    (next_governs m (buckling across_height) refl (simp nr at c.buckling-check_9.ensures) (buckling across_width ∷ [])
    (only m (buckling across_width) refl (simp nr at c.buckling.ensures))
    c.greater-in-Compression.ensures)

pub returns-in-CompressionBending : goal.returns-in-CompressionBending
returns-in-CompressionBending c =
    let m = c.args.self.member in
    let nr = c.resistances-resistances.ensures.axial in
    rw c.in-CompressionBending.is
    (next_governs m shear refl c.shear_check-check_8.ensures (buckling across_height ∷ buckling across_width ∷ compression_bending ∷ [])
    (next_governs m (buckling across_height) refl (simp nr at c.buckling-check_9-in-CompressionBending.ensures) (buckling across_width ∷ compression_bending ∷ [])
    (next_governs m (buckling across_width) refl (simp nr at c.buckling-check_10.ensures) (compression_bending ∷ [])
    (only m compression_bending refl (simp (nr, c.resistances-resistances.ensures.bending, c.strut_across-height.ensures) at c.compression_bending_check-check_11.ensures))
    c.greater-in-CompressionBending.ensures)
    c.greater-in-CompressionBending-2.ensures)
    c.greater-in-CompressionBending-3.ensures)

pub returns-in-TensionBending : goal.returns-in-TensionBending
returns-in-TensionBending c =
    let m = c.args.self.member in
    let found = c.resistances-resistances-in-TensionBending.ensures in
    rw c.in-TensionBending.is
    (next_governs m shear refl c.shear_check-in-TensionBending.ensures (tension_bending ∷ [])
    (only m tension_bending refl (simp (found.axial, found.bending) at c.tension_bending_check-check_11.ensures))
    c.greater-in-TensionBending.ensures)
