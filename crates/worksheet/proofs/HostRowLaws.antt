-- The host's cells by their places, and the NaN that stands for what cannot be read.
-- Assumes nothing.
use mathlib.Core.Path.{◌≡◌, refl, sym, ap, ◌∙◌, subst}
use Prim.Native.Nat.{ℕ, zero, suc, ◌+◌, ◌*◌, ◌%◌, ◌^◌, ◌<◌}
use native.Mathlib.Nat.{le_of_suc-le-suc, not-suc-le-zero, add-zero}
use native.Mathlib.Omega.{arith}
use mathlib.Core.Bool.{true}
use mathlib.Core.List.{List}
use lib.Dec.{T}
use lib.ListN.{length, get_or}
use lib.Ieee.{Float, nan, inf, fin, binary64, div, of_bits, is_nan}
use lib.Ieee.Bits.{nan_bits_is, nan_bits_above}
use borrow.Author.Tests.{lt-ltb}
use Rattle.worksheet.specs.HostRow.{host_cell_bytes, host_cell_at, host_cells_at}
use Rattle.worksheet.specs.declared.host_cell.HostCell.{HostCell}

pub host_cells_length : (n : ℕ) (bytes : List ℕ) (at : ℕ) → length (host_cells_at n bytes at) ≡ n
unfolding host_cells_at
host_cells_length zero bytes at = refl
host_cells_length (suc n) bytes at = ap suc (host_cells_length n bytes (at + host_cell_bytes))

-- cell i of n starts i cells on
pub host_cells_at_lem : (n : ℕ) (bytes : List ℕ) (at i : ℕ) (d : HostCell) → i < n → get_or (host_cells_at n bytes at) i d ≡ host_cell_at bytes (at + host_cell_bytes * i)
unfolding host_cells_at
host_cells_at_lem zero bytes at i d h = absurd (not-suc-le-zero h)
host_cells_at_lem (suc n) bytes at zero d h = ap (host_cell_at bytes) (sym (add-zero at))
host_cells_at_lem (suc n) bytes at (suc i) d h = host_cells_at_lem n bytes (at + host_cell_bytes) i d (le_of_suc-le-suc h) ∙ ap (host_cell_at bytes) (omega arith)

-- 0.0 / 0.0, the NaN that the language can make
pub zero_by_zero : div binary64 (of_bits binary64 0) (of_bits binary64 0) ≡ nan
unfolding div of_bits
zero_by_zero = refl

is_nan_lem : (x : Float) → is_nan x ≡ true → x ≡ nan
unfolding is_nan
is_nan_lem nan h = refl
is_nan_lem (inf s) h = absurd (subst T (sym h) tt)
is_nan_lem (fin s m e) h = absurd (subst T (sym h) tt)

-- every pattern above an infinity's is the NaN, whatever its sign
pub nan_pattern : (b : ℕ) → 0x7ff0_0000_0000_0000 < b % 2 ^ 63 → of_bits binary64 b ≡ nan
nan_pattern b h = is_nan_lem (of_bits binary64 b) (sym (nan_bits_is binary64 b) ∙ nan_bits_above binary64 b ∙ lt-ltb _ _ h)
