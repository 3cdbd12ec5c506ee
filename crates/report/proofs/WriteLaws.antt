-- What is written while the rows of an input are gone through: the lines of the rows passed, and room for those to come.
-- Assumes nothing.
use Prim.Native.Nat.{ℕ, suc, ◌+◌, ◌*◌, ◌≤◌, ◌<◌}
use mathlib.Core.Path.{◌≡◌, refl, sym, ap, ap₂, ◌∙◌, subst}
use mathlib.Core.List.{List, [], ◌++◌, append_assoc, append-nil}
use native.Mathlib.Numerals.{add-one}
use native.Mathlib.Omega.{arith}
use lib.ListN.{length, take, drop, length-append, length-drop, drop_of_length-le}
use lib.Seq.{length-take-le, take_at, drop-drop, drop-append-add}
use Rattle.io.specs.Counts.{IsPrefixLen}
use Rattle.lines.specs.Line.{line_for, taken, step_at}
use Rattle.lines.specs.Output.{lines_from, lines_of, joined, room_for}
use Rattle.lines.specs.Text.{line_room, line_of, text_of}
use Rattle.lines.specs.declared.line.Step.{Step}
use Rattle.lines.proofs.OutputLaws.{taken_most, taken_some, taken_three, line_short}
use Rattle.lines.proofs.OutputMeaning.{lines_step}
use Rattle.text.proofs.TextLaws.{text_of_lem}

-- the lines for the bytes from a position on, one after another
abbrev to_come : List ℕ → ℕ → ℕ → List ℕ
to_come input at number = joined (lines_from (length (drop at input)) number (drop at input))

-- `len` bytes are written over what the buffer held before, for the rows before a position
pub record Written (input before : List ℕ) (at number len : ℕ) (out : List ℕ) : Type 0 where
  -- the lines written
  pub text : List ℕ
  pub long : length text ≡ len
  -- they and those to come are all lines
  pub all : joined (lines_of input) ≡ text ++ to_come input at number
  -- the buffer holds them, and past them what it held before
  pub holds : out ≡ text ++ drop len before
  pub within : len ≤ length before
  -- the position is in the input, and the row's number goes up no faster than it
  pub inside : at ≤ length input
  pub counted : number ≤ at + 1
  -- until the program stops, a row's line is paid for by its bytes
  pub paid : at < length input → len ≤ 22 * at

-- nothing yet
pub written_none : (input before : List ℕ) → Written input before 0 1 0 before
written_none input before =
    record { text = []; long = refl; all = refl; holds = refl; within = omega arith; inside = omega arith; counted = omega arith; paid = λ more. omega arith }

module _ (input before : List ℕ) {at number len : ℕ} {out : List ℕ} (w : Written input before at number len out) where
  -- the buffer keeps its length
  pub same_size : length out ≡ length before
  same_size =
      ap (length {A = ℕ}) w.holds
      ∙ omega (arith, length-append w.text (drop len before), length-drop len before, w.long, w.within)

  -- what is written lies within it
  pub written_inside : IsPrefixLen len out
  written_inside =
      let inside : len ≤ length out = omega (arith, same_size, w.within) in
      (inside, sym (length-take-le len out inside))

  -- at the end of the input all lines are written
  pub written_all : length input ≤ at → (len ≡ length (joined (lines_of input))) × (out ≡ joined (lines_of input) ++ drop len before)
  unfolding lines_from joined
  written_all past =
      let none : to_come input at number ≡ [] = ap (λ (left : List ℕ). joined (lines_from (length left) number left)) (drop_of_length-le input past) in
      let same : joined (lines_of input) ≡ w.text = w.all ∙ ap (λ (l : List ℕ). w.text ++ l) none ∙ append-nil w.text in
      (sym w.long ∙ ap (length {A = ℕ}) (sym same), w.holds ∙ ap (λ (l : List ℕ). l ++ drop len before) (sym same))

  -- a line copied to the end of what is written
  written_on : (line : List ℕ) → take len out ++ line ++ drop (len + length line) out ≡ (w.text ++ line) ++ drop (len + length line) before
  written_on line =
      let front : take len out ≡ w.text = ap (take len) w.holds ∙ take_at w.text (drop len before) len w.long in
      let back : drop (len + length line) out ≡ drop (len + length line) before =
      ap (drop (len + length line)) w.holds
      ∙ ap (λ (n : ℕ). drop (n + length line) (w.text ++ drop len before)) (sym w.long)
      ∙ drop-append-add w.text (drop len before) (length line)
      ∙ drop-drop (length line) len before in
      ap₂ (λ (l r : List ℕ). l ++ line ++ r) front back

  -- the next line, written
  written_more : at < length input → room_for (length input) ≤ length before → length (line_for number (drop at input)) ≤ line_room
      → let line = line_for number (drop at input) in
      Written input before (at + taken (drop at input)) (number + 1) (len + length line) (take len out ++ line ++ drop (len + length line) out)
  unfolding joined
  written_more more room short =
      let left : List ℕ = drop at input in
      let line : List ℕ = line_for number left in
      let size = length-drop at input in
      let some = taken_some left (omega arith) in
      let rest : drop (taken left) left ≡ drop (at + taken left) input = drop-drop (taken left) at input in
      let next : to_come input at number ≡ line ++ to_come input (at + taken left) (number + 1) =
      ap joined (lines_step number left (omega arith))
      ∙ ap (λ (l : List ℕ). line ++ joined (lines_from (length l) (suc number) l)) rest
      ∙ ap (λ (n : ℕ). line ++ to_come input (at + taken left) n) (sym (add-one number)) in
      record {
        text = w.text ++ line;
        long = omega (arith, length-append w.text line, w.long);
        all = w.all ∙ ap (λ (l : List ℕ). w.text ++ l) next ∙ sym (append_assoc w.text line _);
        holds = written_on line;
        within = omega (arith, w.paid more);
        inside = omega (arith, taken_most left, w.inside);
        counted = omega (arith, w.counted);
        paid = λ on. omega (arith, taken_three left (omega arith), w.paid more);
      }

-- a turn of the loop: the step at the position
pub record Turn (input before : List ℕ) (at number len : ℕ) (out : List ℕ) (step : Step) : Type 0 where
  -- its text is within its array, and as long as the line says
  pub held : step.line.len ≤ length step.line.text
  pub long : length (text_of step.line) ≡ step.line.len
  -- there is room for the text
  pub room : len + step.line.len ≤ length out
  -- the position goes on
  pub on : at < step.next
  -- and the text is written
  pub written : Written input before step.next (number + 1) (len + step.line.len)
      (take len out ++ text_of step.line ++ drop (len + length (text_of step.line)) out)

-- every turn is so where the buffer has room for the lines of an input
pub turn : (input before : List ℕ) {at number len : ℕ} {out : List ℕ} {step : Step} → Written input before at number len out → at < length input
    → room_for (length input) ≤ length before → step ≡ step_at input at number → length step.line.text ≡ line_room
    → Turn input before at number len out step
turn input before {at} {number} {len} {out} w more room e whole =
    let line : List ℕ = line_for number (drop at input) in
    let array : length (line_of line).text ≡ line_room = ap (λ (s : Step). length s.line.text) (sym e) ∙ whole in
    let short = line_short line array in
    let next = written_more input before w more room short in
    let text = text_of_lem line in
    subst (Turn input before at number len out) (sym e)
    (record {
      held = omega arith;
      long = ap length text;
      room = omega (arith, same_size input before w, next.within);
      on = omega (arith, taken_some (drop at input) (omega (arith, length-drop at input)));
      written = rw text next;
    })
