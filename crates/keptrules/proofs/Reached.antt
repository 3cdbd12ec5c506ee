-- The limits are reached: by calls, 64 rows are held, and 1,000,000 numbers given; the next accepted row is refused 11.
-- Assumes nothing.
use Prim.Native.Nat.{ℕ, zero, suc, ◌+◌, ◌≤◌}
use native.Mathlib.Omega.{arith}
use mathlib.Core.Bool.{true}
use mathlib.Core.List.{List, [], ◌∷◌, ◌++◌}
use mathlib.Core.Path.{◌≡◌, refl, ap, ◌∙◌, subst}
use lib.Dec.{lit≤}
use lib.ListN.{length}
use Rattle.std.proofs.Common.{length-append}
use Rattle.std.proofs.lemmas.Bool.{eq-eqb}
use Rattle.rounding.specs.Greatest.{by_digits}
use Rattle.cells.specs.Greatest.{greatest}
use Rattle.cells.specs.Lowest.{lowest}
use Rattle.cells.specs.Refusal.{gives, refuses}
use Rattle.cells.specs.Row.{cells_of, row_of}
use Rattle.cells.specs.declared.row.Row.{Row}
use Rattle.member.specs.Acceptance.{accept_kind}
use Rattle.member.specs.Verdict.{judge_by, check_row}
use Rattle.member.specs.WorkedRows.{row_a}
use Rattle.keptrules.specs.Afresh.{given, history_of}
use Rattle.keptrules.specs.Calls.{perform, after}
use Rattle.keptrules.specs.Kept.{most_held, last_number, held, schedule_of, entry_of, empty, has_room, add, without}
use Rattle.keptrules.specs.WorkedCalls.{verdict_a}
use Rattle.keptrules.specs.declared.call.Call.{Call}
use Rattle.keptrules.specs.declared.call.Call.TheVariants.{Add, Remove}
use Rattle.keptrules.specs.declared.schedule.Schedule.{Schedule}
use Rattle.keptrules.proofs.ScheduleMeaning.{accepted, room_second, room_meaning}
use Rattle.keptrules.proofs.CallsMeaning.{next_number}

-- row A, which is accepted
abbrev pub example_row : Row
example_row = row_of row_a

example_accepted : check_row (cells_of example_row) ≡ gives verdict_a
unfolding accept_kind lowest judge_by greatest by_digits
example_accepted = refl

pub after_more : (calls more : List Call) (s : Schedule) → after (calls ++ more) s ≡ after more (after calls s)
unfolding after
after_more [] more s = refl
after_more (call ∷ calls) more s = after_more calls more (perform call s).schedule

add_example : (s : Schedule) → has_room s ≡ true → (perform (Add example_row) s).schedule ≡ schedule_of (held s ++ (entry_of s.next example_row verdict_a ∷ [])) (s.next + 1)
add_example s room = rw (accepted s example_row verdict_a example_accepted room) refl

-- calls that leave a schedule
record Made (s : Schedule) : Type 0 where
  pub calls : List Call
  pub made : after calls empty ≡ s

then_call : (s : Schedule) → Made s → (call : Call) → Made (perform call s).schedule
unfolding after
then_call s m call = record { calls = m.calls ++ (call ∷ []); made = after_more m.calls (call ∷ []) empty ∙ ap (λ (t : Schedule). (perform call t).schedule) m.made }

-- n rows added, one after another, and none removed
record Filled (n : ℕ) : Type 0 where
  pub schedule : Schedule
  pub made : Made schedule
  pub holds_so_many : length (held schedule) ≡ n
  pub next : schedule.next ≡ n + 1

filled : (n : ℕ) → n ≤ most_held → Filled n
unfolding after
filled zero within = record { schedule = empty; made = record { calls = []; made = refl }; holds_so_many = refl; next = refl }
filled (suc n) within =
    let f = filled n (omega arith) in
    let s = f.schedule in
    let room = (room_meaning s).1 (omega (arith, f.holds_so_many), omega (arith, f.next), omega (arith, f.next)) in
    let e = add_example s room in
    let m = then_call s f.made (Add example_row) in
    record {
      schedule = schedule_of (held s ++ (entry_of s.next example_row verdict_a ∷ [])) (s.next + 1);
      made = rw e at m;
      holds_so_many = omega (arith, length-append (held s) (entry_of s.next example_row verdict_a ∷ []), f.holds_so_many);
      next = omega (arith, f.next);
    }

-- 64 are held, and the next is refused 11
pub sixty_four_reached : (calls : List Call) × (length (held (after calls empty)) ≡ 64) × ((add example_row (after calls empty)).answer ≡ refuses 11 0)
sixty_four_reached =
    let f = filled 64 (lit≤ tt) in
    (f.made.calls, rw f.made.made f.holds_so_many, rw f.made.made (room_second f.schedule example_row verdict_a example_accepted (rw f.holds_so_many refl)))

-- n numbers given, each to a row that was removed again
given_up_to : (n : ℕ) → n ≤ last_number → Made (schedule_of [] (n + 1))
unfolding after without
given_up_to zero within = record { calls = []; made = refl }
given_up_to (suc n) within =
    let s = schedule_of [] (n + 1) in
    let room = (room_meaning s).1 (lit≤ tt, omega arith, omega arith) in
    let added = then_call s (given_up_to n (omega arith)) (Add example_row) in
    let held_one = rw (add_example s room) at added in
    let removed = rw (eq-eqb (n + 1) (n + 1) refl) at (then_call _ held_one (Remove (n + 1))) in
    let counted : n + 1 + 1 ≡ suc n + 1 = omega arith in
    subst (λ (next : ℕ). Made (schedule_of [] next)) counted removed

-- 1,000,000 are given, and the next is refused 11, though nothing is held
pub last_number_reached : (calls : List Call) × (length (given (history_of calls)) ≡ 1000000) × (held (after calls empty) ≡ []) × ((add example_row (after calls empty)).answer ≡ refuses 11 0)
last_number_reached =
    let m = given_up_to 1000000 (lit≤ tt) in
    (m.calls, omega (arith, next_number m.calls, ap (λ (s : Schedule). s.next) m.made), rw m.made refl, rw m.made (room_second (schedule_of [] 1000001) example_row verdict_a example_accepted refl))
