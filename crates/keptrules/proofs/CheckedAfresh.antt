-- The theorem of request 6. Take any calls, from nothing held on, some of them refused: the row that governs is the one that a fresh check of the rows left chooses, and each call gives what the list alone says.
-- Assumes nothing.
use mathlib.Core.List.{List, [], ◌∷◌, ◌++◌}
use mathlib.Core.Path.{◌≡◌, sym, ap, ◌∙◌}
use Rattle.std.proofs.Common.{append_assoc, append-nil}
use Rattle.std.proofs.lemmas.List.{map_push}
use Rattle.cells.specs.Refusal.{Result}
use Rattle.member.specs.Rank.{governing_verdict}
use Rattle.keptrules.specs.Afresh.{Answered, left, checked, call_gives, and_call, history_from, history_of, answers_in, gives_afresh, governing_afresh}
use Rattle.keptrules.specs.Calls.{perform, answers, after}
use Rattle.keptrules.specs.Kept.{held, empty, verdicts_held, governing}
use Rattle.keptrules.specs.declared.call.Call.{Call}
use Rattle.keptrules.specs.declared.call.Done.{Done}
use Rattle.keptrules.specs.declared.schedule.Schedule.{Schedule}
use Rattle.keptrules.proofs.Mirrors.{Mirrors, mirrors_empty, checked_rows, next_call}

-- from any history, and a schedule that mirrors it
mirrors_from : (history : List Answered) (s : Schedule) (calls : List Call) → Mirrors history s → Mirrors (history_from history calls) (after calls s)
unfolding history_from after
mirrors_from history s [] m = m
mirrors_from history s (call ∷ calls) m = mirrors_from (and_call history call) (perform call s).schedule calls (next_call m call).1

answers_from : (history : List Answered) (s : Schedule) (calls : List Call) → Mirrors history s → answers_in (history_from history calls) ≡ answers_in history ++ answers calls s
unfolding history_from answers
answers_from history s [] m = sym (append-nil (answers_in history))
answers_from history s (call ∷ calls) m =
    let n = next_call m call in
    let answered : Answered = record { call = call; answer = call_gives call history } in
    answers_from (and_call history call) (perform call s).schedule calls n.1
    ∙ (ap (λ (l : List (Result Done)). l ++ answers calls (perform call s).schedule) (map_push (λ (answered : Answered). answered.answer) history answered)
    ∙ (append_assoc (answers_in history) (answered.answer ∷ []) (answers calls (perform call s).schedule)
    ∙ ap (λ (a : Result Done). answers_in history ++ (a ∷ answers calls (perform call s).schedule)) (sym n.0)))

module _ (calls : List Call) where
  pub mirrored : Mirrors (history_of calls) (after calls empty)
  mirrored = mirrors_from [] empty calls mirrors_empty

  -- the verdicts held are those of the rows added and not removed, checked afresh
  pub verdicts_as_checked_afresh : verdicts_held (held (after calls empty)) ≡ checked (left (history_of calls))
  verdicts_as_checked_afresh = sym (checked_rows (held (after calls empty)) mirrored.kept) ∙ ap checked (sym mirrored.rows)

  -- what governs is what a fresh check of the rows left chooses
  pub governs_as_checked_afresh : governing (after calls empty) ≡ governing_afresh calls
  governs_as_checked_afresh = ap governing_verdict verdicts_as_checked_afresh

  -- and what each call gives, numbers and refusals, is what the list alone says
  pub gives_as_listed : answers calls empty ≡ gives_afresh calls
  gives_as_listed = sym (answers_from [] empty calls mirrors_empty)
