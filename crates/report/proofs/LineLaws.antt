-- A row's line as it is put together: what it holds so far, how much room that leaves, and how its fields follow one another.
-- Assumes nothing.
use Prim.Native.Nat.{ℕ, ◌+◌, ◌≤◌, ◌<◌, ◌^◌}
use mathlib.Core.Path.{◌≡◌, refl, ap}
use mathlib.Core.Bool.{Bool, true, false, cond}
use mathlib.Core.List.{List, [], ◌∷◌, ◌++◌, append_assoc, append-nil}
use native.Mathlib.Omega.{arith}
use lib.ListN.{length, length-append}
use Rattle.std.specs.Prelude.{flat_map}
use Rattle.cells.specs.Refusal.{gives, refuses}
use Rattle.member.specs.declared.verdict.Verdict.{Verdict}
use Rattle.lines.specs.Line.{row_line}
use Rattle.lines.specs.Text.{decimal, pass_word, fail_word, refused_word, field, newline, line_room, line_of, text_of}
use Rattle.lines.specs.declared.text.Line.{Line}
use Rattle.text.specs.Room.{HasRoom}
use Rattle.text.proofs.DecimalLaws.{decimal_room, decimal_most}
use Rattle.text.proofs.TextLaws.{has_room, after}

-- a line that holds a text of at most so many bytes
pub record HoldsText (most : ℕ) (text : List ℕ) (line : Line) : Type 0 where
  pub is : line ≡ line_of text
  pub short : length text ≤ most

-- it has the room that these bytes leave
pub room_left : {most : ℕ} {text : List ℕ} {line : Line} (n : ℕ) → HoldsText most text line → most + n ≤ line_room → HasRoom line n
room_left {text = text} n h fits = has_room text n h.is (omega (arith, h.short))

-- more after its text
pub holds_more : {most : ℕ} {text : List ℕ} {line longer : Line} (more : List ℕ) (n : ℕ) → length more ≤ n → HoldsText most text line
    → longer ≡ line_of (text_of line ++ more) → HoldsText (most + n) (text ++ more) longer
holds_more {text = text} more n few h e = record { is = after text more h.is e; short = omega (arith, h.short, length-append text more) }

-- nothing yet
pub holds_none : {line : Line} → line ≡ line_of [] → HoldsText 0 [] line
holds_none e = record { is = e; short = omega arith }

-- a number of 64 bits
pub number_short : (n : ℕ) → length (decimal n) ≤ 20
number_short n = decimal_room 19 n

-- a number of 32 bits, and as a field
pub small_short : (n : ℕ) → n < 2 ^ 32 → length (decimal n) ≤ 10
small_short n fits = decimal_most 19 9 n (omega arith)

pub field_short : (n : ℕ) → n < 2 ^ 32 → length (field (decimal n)) ≤ 11
field_short n fits = omega (arith, small_short n fits)

-- the word for a flag as a field
pub word_short : (passes : Bool) → length (field (cond passes pass_word fail_word)) ≤ 5
word_short true = omega arith
word_short false = omega arith

-- a line that holds its row's number alone
pub holds_number : (n : ℕ) {none line : Line} → none ≡ line_of [] → line ≡ line_of (text_of none ++ decimal n) → HoldsText 20 (decimal n) line
holds_number n e f = holds_more (decimal n) 20 (number_short n) (holds_none e) f

-- a number of 32 bits after it
pub holds_field : {most n : ℕ} {text : List ℕ} {line longer : Line} → n < 2 ^ 32 → HoldsText most text line
    → longer ≡ line_of (text_of line ++ field (decimal n)) → HoldsText (most + 11) (text ++ field (decimal n)) longer
holds_field {n = n} few h e = holds_more (field (decimal n)) 11 (field_short n few) h e

-- the room for it
pub room_field : {most n : ℕ} {text : List ℕ} {line : Line} → n < 2 ^ 32 → HoldsText most text line → most + 11 ≤ line_room
    → HasRoom line (length (field (decimal n)))
room_field {n = n} few h fits = room_left _ h (omega (arith, field_short n few))

-- fields after a number, one after another
two_fields : (a b c d : List ℕ) → (a ++ b) ++ (c ++ (d ++ [])) ≡ a ++ ((b ++ c) ++ d)
two_fields a b c d = simp (append_assoc, append-nil) refl

three_fields : (a b c d e : List ℕ) → (a ++ b) ++ (c ++ (d ++ (e ++ []))) ≡ a ++ (((b ++ c) ++ d) ++ e)
three_fields a b c d e = simp (append_assoc, append-nil) refl

-- a refusal's line
pub refused_row : (number reason cell : ℕ)
    → ((decimal number ++ field refused_word) ++ flat_map (λ n. field (decimal n)) (reason ∷ cell ∷ [])) ++ newline ≡ row_line number (refuses reason cell)
unfolding row_line
refused_row number reason cell =
    ap (λ (l : List ℕ). l ++ newline) (two_fields (decimal number) (field refused_word) (field (decimal reason)) (field (decimal cell)))

-- a verdict's line
pub judged_row : (number : ℕ) (v : Verdict)
    → ((decimal number ++ field (cond v.passes pass_word fail_word)) ++ flat_map (λ n. field (decimal n)) (v.check ∷ v.utilisation ∷ v.count ∷ [])) ++ newline
    ≡ row_line number (gives v)
unfolding row_line
judged_row number v =
    let word : List ℕ = field (cond v.passes pass_word fail_word) in
    ap (λ (l : List ℕ). l ++ newline) (three_fields (decimal number) word (field (decimal v.check)) (field (decimal v.utilisation)) (field (decimal v.count)))
