-- A line and the text that it holds: a byte stored after it, bytes copied after it, and the texts of lines that are put together.
-- Assumes nothing.
use Prim.Native.Nat.{ℕ, suc, ◌+◌, ◌-◌, ◌≤◌, ◌<◌}
use mathlib.Core.Path.{◌≡◌, refl, sym, ap, ap₂, ◌∙◌, subst}
use mathlib.Core.List.{List, [], ◌∷◌, ◌++◌, append_assoc, append-nil}
use native.Mathlib.Omega.{arith}
use lib.ListN.{length, get_or, take, drop, set, replicate, length-append}
use lib.Seq.{take-append_seam, set-append_seam, append_snoc, take-suc, take_all, length-take-le, drop-append_seam}
use borrow.Rule.Slice.PartMut.{put_mid}
use Rattle.std.proofs.lemmas.List.{drop-replicate}
use Rattle.lines.specs.Text.{field, line_room, line_of, text_of}
use Rattle.text.specs.Room.{HasRoom}
use Rattle.lines.specs.declared.text.Line.{Line}

-- ---- lines and their texts

-- the line of a text holds this text
pub text_of_lem : (text : List ℕ) → text_of (line_of text) ≡ text
text_of_lem text = take-append_seam text (replicate (line_room - length text) 0)

-- the line of a text has the room that the text leaves
pub has_room : {line : Line} (text : List ℕ) (n : ℕ) → line ≡ line_of text → length text + n ≤ line_room → HasRoom line n
has_room text n e h = subst (λ (l : Line). HasRoom l n) (sym e) (record { holds = ap line_of (sym (text_of_lem text)); room = h })

-- what stands after the text of a line stands after the text that the line is of
pub after : {line longer : Line} (text more : List ℕ) → line ≡ line_of text → longer ≡ line_of (text_of line ++ more) → longer ≡ line_of (text ++ more)
after text more e f = f ∙ ap (λ (t : List ℕ). line_of (t ++ more)) (ap text_of e ∙ text_of_lem text)

-- a line that was given more has the room that is left
room_after : (line : Line) {longer : Line} (more : List ℕ) (n : ℕ) → HasRoom line (length more + n) → longer ≡ line_of (text_of line ++ more) → HasRoom longer n
room_after line more n h e =
    let long : line.len ≡ length (text_of line) = ap (λ (l : Line). l.len) h.holds in
    has_room (text_of line ++ more) n e (omega (arith, h.room, length-append (text_of line) more))

-- ---- a field: a space and then its text

module _ (line : Line) {spaced : Line} (e : spaced ≡ line_of (text_of line ++ (32 ∷ []))) where
  -- after the space there is room for the text
  pub field_room : (n : ℕ) → HasRoom line (suc n) → HasRoom spaced n
  field_room n h = room_after line (32 ∷ []) n (record { holds = h.holds; room = omega (arith, h.room) }) e

  -- the space and the text are the field
  pub field_text : {longer : Line} (text : List ℕ) → longer ≡ line_of (text_of spaced ++ text) → longer ≡ line_of (text_of line ++ field text)
  field_text text f = after (text_of line ++ (32 ∷ [])) text e f ∙ ap (λ (t : List ℕ). line_of t) (append_snoc (text_of line) 32 text)

-- ---- a byte more

-- a store after a text takes the place of the first zero
store_after : (text : List ℕ) (byte : ℕ) → length text + 1 ≤ line_room
    → set (text ++ replicate (line_room - length text) 0) (length text) byte ≡ (text ++ (byte ∷ [])) ++ replicate (line_room - length (text ++ (byte ∷ []))) 0
store_after text byte h =
    let left : ℕ = line_room - length text - 1 in
    let one : line_room - length text ≡ suc left = omega arith in
    let fewer : left ≡ line_room - length (text ++ (byte ∷ [])) = omega (arith, length-append text (byte ∷ [])) in
    ap (λ (n : ℕ). set (text ++ replicate n 0) (length text) byte) one
    ∙ set-append_seam text 0 (replicate left 0) byte
    ∙ sym (append_snoc text byte (replicate left 0))
    ∙ ap (λ (n : ℕ). (text ++ (byte ∷ [])) ++ replicate n 0) fewer

-- the line of a text with a byte more
pub one_more : (line : Line) (byte : ℕ) → HasRoom line 1
    → ◌≡◌ {A = Line} (record { text = set line.text line.len byte; len = line.len + 1 }) (line_of (text_of line ++ (byte ∷ [])))
one_more line byte h =
    let text : List ℕ = text_of line in
    let long : line.len ≡ length text = ap (λ (l : Line). l.len) h.holds in
    ap (λ (l : Line). record { text = set l.text l.len byte; len = l.len + 1 }) h.holds
    ∙ ap₂ (λ (t : List ℕ) (n : ℕ). record { text = t; len = n }) (store_after text byte (omega (arith, h.room))) (sym (length-append text (byte ∷ [])))

-- ---- byte after byte: the line of a text with the first i bytes of another

module _ (line : Line) (text : List ℕ) (h : HasRoom line (length text)) where
  -- none yet
  pub before_all_lem : line ≡ line_of (text_of line ++ take 0 text)
  before_all_lem = h.holds ∙ ap (λ (t : List ℕ). line_of t) (sym (append-nil (text_of line)))

  -- there is room for the next
  pub room_for_next : (i : ℕ) {longer : Line} → i < length text → longer ≡ line_of (text_of line ++ take i text) → HasRoom longer 1
  room_for_next i more e =
      room_after line (take i text) 1 (record { holds = h.holds; room = omega (arith, h.room, length-take-le i text (omega arith)) }) e

  -- and the next
  pub with_next : (i : ℕ) {longer longest : Line} → i < length text → longer ≡ line_of (text_of line ++ take i text)
      → longest ≡ line_of (text_of longer ++ (get_or text i 0 ∷ [])) → longest ≡ line_of (text_of line ++ take (suc i) text)
  with_next i more e f =
      after (text_of line ++ take i text) (get_or text i 0 ∷ []) e f
      ∙ ap (λ (t : List ℕ). line_of t) (append_assoc (text_of line) (take i text) (get_or text i 0 ∷ []) ∙ ap (λ (t : List ℕ). text_of line ++ t) (sym (take-suc text i 0 more)))

  -- all
  pub after_all : (i : ℕ) {longer : Line} → length text ≤ i → longer ≡ line_of (text_of line ++ take i text) → longer ≡ line_of (text_of line ++ text)
  after_all i all e = e ∙ ap (λ (t : List ℕ). line_of (text_of line ++ t)) (take_all i text all)

-- ---- bytes copied at once

-- the room that a text and more bytes leave
room_less : (text more : List ℕ) (k : ℕ) → k ≡ length more → line_room - length text - k ≡ line_room - length (text ++ more)
room_less text more k e = omega (arith, length-append text more)

-- the zeros that are left behind both
zeros_left : (text more : List ℕ) (k : ℕ) → k ≡ length more
    → drop k (drop (length text) (text ++ replicate (line_room - length text) 0)) ≡ replicate (line_room - length (text ++ more)) 0
zeros_left text more k e =
    rw (drop-append_seam text (replicate (line_room - length text) 0), drop-replicate {X = ℕ} k (line_room - length text) 0, room_less text more k e) refl

-- bytes copied behind a text take the place of as many zeros
copied_after : (text more : List ℕ) (k : ℕ) → k ≡ length more
    → put_mid (length text) k (text ++ replicate (line_room - length text) 0) more ≡ (text ++ more) ++ replicate (line_room - length (text ++ more)) 0
copied_after text more k e =
    rw (zeros_left text more k e, take-append_seam text (replicate (line_room - length text) 0)) (sym (append_assoc text more (replicate (line_room - length (text ++ more)) 0)))

-- the line of a text with these bytes more
pub line_after : (line : Line) (more : List ℕ) {copied : List ℕ} (k : ℕ) → HasRoom line (length more) → copied ≡ more → k ≡ length more
    → ◌≡◌ {A = Line} (record { text = put_mid line.len k line.text copied; len = line.len + length more }) (line_of (text_of line ++ more))
line_after line more k h same e =
    let text : List ℕ = text_of line in
    let long : line.len ≡ length text = ap (λ (l : Line). l.len) h.holds in
    ap₂ (λ (l : Line) (c : List ℕ). record { text = put_mid l.len k l.text c; len = l.len + length more }) h.holds same
    ∙ ap₂ (λ (t : List ℕ) (n : ℕ). record { text = t; len = n }) (copied_after text more k e) (sym (length-append text more))
