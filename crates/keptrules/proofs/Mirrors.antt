-- A schedule that the calls of a history made holds the rows left of it, with the verdicts that "Check a row" gives and numbers that rise; each call keeps that, and gives what the history says.
-- Assumes nothing.
use Prim.Native.Nat.{ℕ, suc, ◌+◌, ◌≤◌, ◌<◌}
use native.Mathlib.Nat.{le_trans}
use native.Mathlib.Omega.{arith}
use mathlib.Core.Bool.{Bool, true, false, cond, ◌&&◌, ◌||◌}
use mathlib.Core.List.{List, [], ◌∷◌, ◌++◌, map}
use mathlib.Core.Path.{◌≡◌, refl, sym, ap, ◌∙◌}
use lib.Dec.{eqb, ltb, lit≤}
use lib.ListN.{length, get_or}
use Rattle.std.specs.Prelude.{Some, None}
use Rattle.std.proofs.Common.{add-one, length-append}
use Rattle.std.proofs.lemmas.List.{length-map, map_push}
use Rattle.std.proofs.lemmas.Bool.{le-leb, eqb-true, ne_eqb, ltb-true, ltb-false}
use Rattle.std.proofs.Math.ListN.{get_or-append}
use Rattle.std.proofs.Math.Seq.{get_or-append_seam}
use Rattle.cells.specs.Refusal.{Result, gives, refuses}
use Rattle.cells.specs.Row.{cells_of}
use Rattle.cells.specs.declared.row.Row.{Row}
use Rattle.member.specs.Verdict.{check_row}
use Rattle.member.proofs.AcceptanceLaws.{both_true}
use Rattle.member.specs.declared.verdict.Verdict.{Verdict}
use Rattle.keptrules.specs.Afresh.{Answered, NumberedRow, added_row, removed_by, left, given, has_row, checked, call_gives, and_call}
use Rattle.keptrules.specs.Calls.{perform}
use Rattle.keptrules.specs.Kept.{most_held, last_number, held, schedule_of, entry_of, empty, has_room, has_number, is_held, without, verdicts_held}
use Rattle.keptrules.specs.declared.call.Call.{Call}
use Rattle.keptrules.specs.declared.call.Call.TheVariants.{Add, Remove}
use Rattle.keptrules.specs.declared.call.Done.TheVariants.{Added, Removed}
use Rattle.keptrules.specs.declared.schedule.Entry.{Entry}
use Rattle.keptrules.specs.declared.schedule.Schedule.{Schedule}
use Rattle.keptrules.proofs.HistoryLaws.{others, NoRemoval, left_added, left_unchanged, left_removed, given_added, given_unchanged}

-- what is held as a row with its number
abbrev pub numbered_row : Entry → NumberedRow
numbered_row e = record { number = e.judged.number; row = e.row }

-- each verdict held is that of its row
abbrev pub AllKept : List Entry → Type 0
AllKept [] = Unit
AllKept (e ∷ entries) = (check_row (cells_of e.row) ≡ gives e.judged.verdict) × AllKept entries

-- the numbers rise from low on, and stay below high
abbrev pub Rise : ℕ → List Entry → ℕ → Type 0
Rise low [] high = low ≤ high
Rise low (e ∷ entries) high = (low ≤ e.judged.number) × Rise (e.judged.number + 1) entries high

-- the numbers given are 1, 2, 3 and so on
abbrev pub InTurn : List ℕ → Type 0
InTurn numbers = (i : ℕ) → i < length numbers → get_or numbers i 0 ≡ i + 1

pub record Mirrors (history : List Answered) (s : Schedule) : Type 0 where
  pub rows : left history ≡ map numbered_row (held s)
  pub kept : AllKept (held s)
  pub next : s.next ≡ length (given history) + 1
  pub rise : Rise 1 (held s) s.next
  pub few : length (held s) ≤ most_held
  pub spent : length (given history) ≤ last_number
  pub in_turn : InTurn (given history)

pub mirrors_empty : Mirrors [] empty
unfolding left
mirrors_empty = record { rows = refl; kept = tt; next = refl; rise = lit≤ tt; few = lit≤ tt; spent = lit≤ tt; in_turn = λ i inside. absurd (omega (arith, inside)) }

-- ---- lists of rows held

held_rows : (number : ℕ) (entries : List Entry) → is_held number entries ≡ has_row number (map numbered_row entries)
held_rows number [] = refl
held_rows number (e ∷ entries) = ap (λ (t : Bool). has_number number e || t) (held_rows number entries)

-- checked afresh, the rows have the verdicts that are held
pub checked_rows : (entries : List Entry) → AllKept entries → checked (map numbered_row entries) ≡ verdicts_held entries
unfolding checked
checked_rows [] kept = refl
checked_rows (e ∷ entries) kept = rw (kept.0, checked_rows entries kept.1) refl

kept_last : (entries : List Entry) (e : Entry) → AllKept entries → check_row (cells_of e.row) ≡ gives e.judged.verdict → AllKept (entries ++ (e ∷ []))
kept_last [] e kept is = (is, tt)
kept_last (x ∷ entries) e kept is = (kept.0, kept_last entries e kept.1 is)

rise_last : (low : ℕ) (entries : List Entry) (e : Entry) → Rise low entries e.judged.number → Rise low (entries ++ (e ∷ [])) (e.judged.number + 1)
rise_last low [] e rise = (rise, omega arith)
rise_last low (x ∷ entries) e rise = (rise.0, rise_last (x.judged.number + 1) entries e rise.1)

-- the numbers rise from any lower number on
rise_lower : (low lower : ℕ) (entries : List Entry) (high : ℕ) → lower ≤ low → Rise low entries high → Rise lower entries high
rise_lower low lower [] high below rise = omega (arith, rise)
rise_lower low lower (x ∷ entries) high below rise = (omega (arith, rise.0), rise.1)

others_above : (number low : ℕ) (entries : List Entry) (high : ℕ) → number < low → Rise low entries high → others number (map numbered_row entries) ≡ map numbered_row entries
unfolding others
others_above number low [] high below rise = refl
others_above number low (x ∷ entries) high below rise =
    let differs : eqb x.judged.number number ≡ false = ne_eqb x.judged.number number (λ e. omega (arith, e, rise.0)) in
    rw differs (ap (λ (l : List NumberedRow). numbered_row x ∷ l) (others_above number (x.judged.number + 1) entries high (omega (arith, rise.0)) rise.1))

-- numbers rise, so without the first that has a number is without all that have it
module _ (number : ℕ) where
  others_without : (low : ℕ) (entries : List Entry) (high : ℕ) → Rise low entries high → others number (map numbered_row entries) ≡ map numbered_row (without number entries)
  unfolding others without
  others_without low [] high rise = refl
  others_without low (x ∷ entries) high rise = by (has_number number x) refl (others_without (x.judged.number + 1) entries high rise.1)
    where
      by : (t : Bool) → has_number number x ≡ t → others number (map numbered_row entries) ≡ map numbered_row (without number entries)
          → cond t (others number (map numbered_row entries)) (numbered_row x ∷ others number (map numbered_row entries)) ≡ map numbered_row (cond t entries (x ∷ without number entries))
      by true t rest =
          let same : x.judged.number ≡ number = eqb-true x.judged.number number t in
          others_above number (x.judged.number + 1) entries high (omega (arith, same)) rise.1
      by false t rest = ap (λ (l : List NumberedRow). numbered_row x ∷ l) rest

  kept_without : (entries : List Entry) → AllKept entries → AllKept (without number entries)
  unfolding without
  kept_without [] kept = tt
  kept_without (x ∷ entries) kept = by (has_number number x) (kept_without entries kept.1)
    where
      by : (t : Bool) → AllKept (without number entries) → AllKept (cond t entries (x ∷ without number entries))
      by true rest = kept.1
      by false rest = (kept.0, rest)

  rise_without : (low : ℕ) (entries : List Entry) (high : ℕ) → Rise low entries high → Rise low (without number entries) high
  unfolding without
  rise_without low [] high rise = rise
  rise_without low (x ∷ entries) high rise = by (has_number number x) (rise_without (x.judged.number + 1) entries high rise.1)
    where
      by : (t : Bool) → Rise (x.judged.number + 1) (without number entries) high → Rise low (cond t entries (x ∷ without number entries)) high
      by true rest = rise_lower (x.judged.number + 1) low entries high (omega (arith, rise.0)) rise.1
      by false rest = (rise.0, rest)

  fewer : (entries : List Entry) → length (without number entries) ≤ length entries
  unfolding without
  fewer [] = lit≤ tt
  fewer (x ∷ entries) = by (has_number number x) (fewer entries)
    where
      by : (t : Bool) → length (without number entries) ≤ length entries → length (cond t entries (x ∷ without number entries)) ≤ suc (length entries)
      by true rest = omega arith
      by false rest = omega (arith, rest)

in_turn_last : (numbers : List ℕ) → InTurn numbers → InTurn (numbers ++ ((length numbers + 1) ∷ []))
in_turn_last numbers turn i inside = by (ltb i (length numbers)) refl
  where
    by : (t : Bool) → ltb i (length numbers) ≡ t → get_or (numbers ++ ((length numbers + 1) ∷ [])) i 0 ≡ i + 1
    by true t = let lt = ltb-true i (length numbers) t in get_or-append numbers _ 0 i lt ∙ turn i lt
    by false t =
        let last : i ≡ length numbers = omega (arith, ltb-false i (length numbers) t, length-append numbers ((length numbers + 1) ∷ [])) in
        rw last (get_or-append_seam numbers (length numbers + 1) [] 0)

-- ---- a call more

module _ {history : List Answered} {s : Schedule} (m : Mirrors history s) where
  -- refused
  unchanged : (answered : Answered) → added_row answered ≡ None → NoRemoval answered → Mirrors (history ++ (answered ∷ [])) s
  unchanged answered none kept =
      let g = given_unchanged history answered none in
      record {
        rows = left_unchanged history answered none kept ∙ m.rows;
        kept = m.kept;
        next = rw g m.next;
        rise = m.rise;
        few = m.few;
        spent = rw g m.spent;
        in_turn = rw g m.in_turn;
      }

  -- a row added
  grown : (answered : Answered) (row : Row) (v : Verdict) → added_row answered ≡ Some (record { number = s.next; row = row }) → NoRemoval answered
      → check_row (cells_of row) ≡ gives v → length (held s) < most_held → length (given history) < last_number
      → Mirrors (history ++ (answered ∷ [])) (schedule_of (held s ++ (entry_of s.next row v ∷ [])) (s.next + 1))
  grown answered row v added none is room left_over =
      let e = entry_of s.next row v in
      let g = given_added history answered (record { number = s.next; row = row }) added in
      let one_more = length-append (given history) (s.next ∷ []) in
      record {
        rows = left_added history answered (record { number = s.next; row = row }) added none ∙ (ap (λ (l : List NumberedRow). l ++ (numbered_row e ∷ [])) m.rows ∙ sym (map_push numbered_row (held s) e));
        kept = kept_last (held s) e m.kept is;
        next = rw g (omega (arith, one_more, m.next));
        rise = rise_last 1 (held s) e m.rise;
        few = omega (arith, length-append (held s) (e ∷ []));
        spent = rw g (omega (arith, one_more));
        in_turn = rw (g, m.next) (in_turn_last (given history) m.in_turn);
      }

  -- a row removed
  shrunk : (answered : Answered) (number : ℕ) → added_row answered ≡ None → ((n : ℕ) → removed_by n answered.call answered.answer ≡ eqb n number)
      → Mirrors (history ++ (answered ∷ [])) (schedule_of (without number (held s)) s.next)
  shrunk answered number none removal =
      let g = given_unchanged history answered none in
      record {
        rows = left_removed history answered number none removal ∙ (ap (others number) m.rows ∙ others_without number 1 (held s) s.next m.rise);
        kept = kept_without number (held s) m.kept;
        next = rw g m.next;
        rise = rise_without number 1 (held s) s.next m.rise;
        few = le_trans (fewer number (held s)) m.few;
        spent = rw g m.spent;
        in_turn = rw g m.in_turn;
      }

  -- room is what the history says
  room_same : has_room s ≡ (ltb (length (left history)) most_held && ltb (length (given history)) last_number)
  room_same =
      let counted : length (left history) ≡ length (held s) = ap length m.rows ∙ length-map (held s) numbered_row in
      rw (counted, m.next, le-leb 1 (length (given history) + 1) (omega arith), add-one) refl

  -- what each call gives and leaves
  abbrev pub Next : Call → Type 0
  Next call = ((perform call s).answer ≡ call_gives call history) × Mirrors (and_call history call) (perform call s).schedule

  next_add : (row : Row) → Next (Add row)
  next_add row = by (check_row (cells_of row)) refl
    where
      room : Bool
      room = ltb (length (left history)) most_held && ltb (length (given history)) last_number

      by_room : (v : Verdict) → check_row (cells_of row) ≡ gives v → (t : Bool) → room ≡ t → Next (Add row)
      by_room v is true t =
          let both = both_true (ltb (length (left history)) most_held) (ltb (length (given history)) last_number) t in
          let answered : Answered = record { call = Add row; answer = gives (Added (length (given history) + 1)) } in
          let counted : length (left history) ≡ length (held s) = ap length m.rows ∙ length-map (held s) numbered_row in
          let few = ltb-true (length (left history)) most_held both.0 in
          let unspent = ltb-true (length (given history)) last_number both.1 in
          let added : added_row answered ≡ Some (record { number = s.next; row = row }) = rw m.next refl in
          rw (is, room_same ∙ t, t) (rw m.next refl, grown answered row v added (λ n. refl) is (omega (arith, counted, few)) unspent)
      by_room v is false t =
          let answered : Answered = record { call = Add row; answer = refuses 11 0 } in
          rw (is, room_same ∙ t, t) (refl, unchanged answered refl (λ n. refl))

      by : (r : Result Verdict) → check_row (cells_of row) ≡ r → Next (Add row)
      by (refuses number cell) is = rw is (refl, unchanged (record { call = Add row; answer = refuses number cell }) refl (λ n. refl))
      by (gives v) is = by_room v is room refl

  next_remove : (number : ℕ) → Next (Remove number)
  next_remove number = by (has_row number (left history)) refl
    where
      same : is_held number (held s) ≡ has_row number (left history)
      same = held_rows number (held s) ∙ ap (has_row number) (sym m.rows)

      by : (t : Bool) → has_row number (left history) ≡ t → Next (Remove number)
      by true t = rw (same ∙ t, t) (refl, shrunk (record { call = Remove number; answer = gives Removed }) number refl (λ n. refl))
      by false t = rw (same ∙ t, t) (refl, unchanged (record { call = Remove number; answer = refuses 12 0 }) refl (λ n. refl))

  pub next_call : (call : Call) → Next call
  next_call (Add row) = next_add row
  next_call (Remove number) = next_remove number
