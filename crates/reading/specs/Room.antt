-- What a row holds that is to be read into. Only the contracts of reading in place cite it.
-- Assumes nothing.
use Rattle.std.specs.Prelude.{List, replicate, Some}
use Rattle.cells.specs.Row.{cell_count, Cell}

-- 0 in each of its cells
abbrev pub zeros : List Cell
zeros = replicate cell_count (Some 0)
