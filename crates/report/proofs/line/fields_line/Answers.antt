-- `fields_line` meets its contract: number, word and numbers follow one another, and there is room for each.
-- Assumes nothing.
use Rattle.std.proofs.Common.{arith, rules, ◌≡◌, ◌+◌, ◌*◌, ◌^◌, ◌<◌, ◌≤◌, ℕ, List, [], ◌++◌, length, take, get_or, ap, sym, ◌∙◌, subst, add-one}
use mathlib.Core.List.{append-nil}
use lib.Seq.{take-suc}
use Rattle.std.specs.Prelude.{flat_map}
use Rattle.std.proofs.lemmas.List.{flat_map_more}
use Rattle.lines.specs.Text.{decimal, field, line_of, text_of}
use Rattle.lines.specs.declared.text.Line.{Line}
use Rattle.report.proofs.LineLaws.{HoldsText, room_left, holds_none, holds_number, holds_more, holds_field, room_field, number_short}
use Rattle.report.proofs.line.fields_line.Goals as goal

-- of a word after the row's number, and no field yet
worded : (number : ℕ) (word : List ℕ) {none numbered line : Line} → length word ≤ 7 → none ≡ line_of [] → numbered ≡ line_of (text_of none ++ decimal number)
    → line ≡ line_of (text_of numbered ++ field word) → HoldsText 28 ((decimal number ++ field word) ++ []) line
worded number word {line = line} short e f g =
    subst (λ (text : List ℕ). HoldsText 28 text line) (sym (append-nil (decimal number ++ field word))) (holds_more (field word) 8 (omega arith) (holds_number number e f) g)

-- of one field more
with_field : (i number : ℕ) (word numbers : List ℕ) {line longer : Line} → i < length numbers → get_or numbers i 0 < 2 ^ 32
    → HoldsText (28 + 11 * i) ((decimal number ++ field word) ++ flat_map (λ n. field (decimal n)) (take i numbers)) line
    → longer ≡ line_of (text_of line ++ field (decimal (get_or numbers i 0)))
    → HoldsText (28 + 11 * (i + 1)) ((decimal number ++ field word) ++ flat_map (λ n. field (decimal n)) (take (i + 1) numbers)) longer
with_field i number word numbers {longer = longer} more few h e =
    let most : 28 + 11 * i + 11 ≡ 28 + 11 * (i + 1) = omega arith in
    let text =
    flat_map_more (λ n. field (decimal n)) (decimal number ++ field word) (take i numbers) (get_or numbers i 0)
    ∙ ap (λ (ns : List ℕ). (decimal number ++ field word) ++ flat_map (λ n. field (decimal n)) ns) (sym (ap (λ (n : ℕ). take n numbers) (add-one i) ∙ take-suc numbers i 0 more)) in
    subst
    (λ (n : ℕ). HoldsText n ((decimal number ++ field word) ++ flat_map (λ n. field (decimal n)) (take (i + 1) numbers)) longer)
    most
    (subst (λ (l : List ℕ). HoldsText (28 + 11 * i + 11) l longer) text (holds_field few h e))

pub put-requires : goal.put-requires
put-requires c = room_left _ (holds_none c.empty-line.ensures) (omega (arith, number_short c.args.number))

pub put_field-requires : goal.put_field-requires
put_field-requires c = room_left _ (holds_number c.args.number c.empty-line.ensures c.put.ensures) (omega (arith, c.requires.short))

pub loop-n-init : goal.loop-n-init
loop-n-init c = worded c.args.number c.args.word.now c.requires.short c.empty-line.ensures c.put.ensures c.put_field.ensures

pub put_field-requires-in-loop-n : goal.put_field-requires-in-loop-n
put_field-requires-in-loop-n c = room_field (search rules) c.loop-n.invariant (omega (arith, c.requires.few))

pub loop-n-preserved : goal.loop-n-preserved
loop-n-preserved c = with_field c.loop-n.n-index c.args.number c.args.word.now c.args.numbers.now c.loop-n-test.true (search rules) c.loop-n.invariant c.put_field-in-loop-n.ensures
