-- `take` meets its contract: what stands above the bits that stay on hand is taken.
-- Assumes nothing.
use mathlib.Core.Path.{refl, subst}
use Rattle.std.proofs.Common.{arith, ◌≡◌, ◌+◌, ◌-◌, ◌<◌, ◌^◌, ℕ}
use lib.Pow.{shr_lt}
use Rattle.packed.proofs.BitLaws.{masked}
use Rattle.codec.proofs.CursorLaws.{bits_taken}
use Rattle.codec.proofs.cursor.Cursor.take.Goals as goal

pub returns : goal.returns
returns c =
    let p = c.args.self.now in
    let n = c.args.n in
    let rest = p.count - n in
    let e : p.count ≡ n + rest = omega (arith, c.requires) in
    record {
      at = refl;
      count = e;
      bits = rw (masked rest p.waiting (omega (arith, p.most))) (bits_taken p.count n rest p.waiting e);
      small = shr_lt n rest (subst (λ (k : ℕ). p.waiting < 2 ^ k) e p.low);
    }
