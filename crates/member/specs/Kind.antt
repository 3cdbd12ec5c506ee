-- The kinds of member, cell 1.
-- Assumes nothing.
use Rattle.std.specs.Prelude.{ℕ, cond, eqb, Option, Some, None}
use Rattle.member.specs.declared.kind.Kind.{Kind}
use Rattle.member.specs.declared.kind.Kind.TheVariants.{Tension, Bending, Compression, CompressionBending, TensionBending}

-- cell 1: 1 tension, 2 bending, 3 compression, 4 compression with bending, 5 tension with bending
abbrev pub kind_of : ℕ → Option Kind
kind_of code =
    cond (eqb code 1)
    (Some Tension)
    (cond (eqb code 2)
    (Some Bending)
    (cond (eqb code 3)
    (Some Compression)
    (cond (eqb code 4)
    (Some CompressionBending)
    (cond (eqb code 5)
    (Some TensionBending)
    None))))
