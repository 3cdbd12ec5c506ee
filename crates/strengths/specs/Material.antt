-- The material of a row, from its cells.
-- Assumes nothing.
use Rattle.std.specs.Prelude.{List}
use Rattle.cells.specs.Row.{Cell}
use Rattle.member.specs.Member.{value_at, values_of}
use Rattle.sp64.specs.Strength.{material_of}
use Rattle.sp64.specs.declared.strength.Material.{Material}

-- the material that cells 2 to 5 give
abbrev pub material_in : List Cell → Material
material_in cells = material_of (value_at (values_of cells) 2) (value_at (values_of cells) 3) (value_at (values_of cells) 4) (value_at (values_of cells) 5)
