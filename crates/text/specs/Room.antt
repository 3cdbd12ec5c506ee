-- Room in a line. Only functions that put a line together cite it.
-- Assumes nothing.
use Rattle.std.specs.Prelude.{ℕ, ◌+◌, ◌≤◌, ◌≡◌}
use Rattle.lines.specs.Text.{line_room, line_of, text_of}
use Rattle.lines.specs.declared.text.Line.{Line}

-- a line that holds its text and zeros after it, with room for n bytes more
pub record HasRoom (line : Line) (n : ℕ) : Type 0 where
  pub holds : line ≡ line_of (text_of line)
  pub room : line.len + n ≤ line_room
