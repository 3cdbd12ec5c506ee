-- A row by its number among those held: where it stands, and what its removal leaves.
-- Assumes nothing.
use Prim.Native.Nat.{ℕ, suc, ◌+◌, ◌≤◌, ◌<◌}
use native.Mathlib.Omega.{arith}
use mathlib.Core.Bool.{Bool, true, false, cond, true≢false}
use mathlib.Core.List.{List, [], ◌∷◌}
use mathlib.Core.Logic.{◌⊎◌, inl, inr}
use mathlib.Core.Path.{◌≡◌, refl, sym, ap, ap₂, ◌∙◌}
use lib.ListN.{length, drop, get_or}
use Rattle.std.specs.List.{position, position_or_len, remove}
use Rattle.std.specs.Prelude.{Option, Some, None, Ok, Err, nat_lt}
use Rattle.std.proofs.lemmas.Bool.{le-leb, ltb-true}
use Rattle.std.proofs.Common.{add-one}
use Rattle.std.proofs.Math.Seq.{drop-cons}
use Rattle.std.proofs.lemmas.List.{drop_all}
use Rattle.cells.specs.Greatest.{greater_after}
use Rattle.cells.proofs.GreatestLaws.{found_from, found_at_end, found_next}
use Rattle.member.specs.Rank.{numbered_rank}
use Rattle.member.specs.declared.verdict.NumberedVerdict.{NumberedVerdict}
use Rattle.keptrules.specs.Kept.{held, schedule_of, has_number, is_held, without, remove as remove_number, verdicts_held, outcome_of}
use Rattle.keptrules.specs.declared.answer.ScheduleRefusal.TheVariants.{NotHeld}
use Rattle.keptrules.specs.declared.schedule.Schedule.{Schedule}
use Rattle.keptrules.specs.declared.schedule.Entry.{Entry}

module _ (number : ℕ) where
  abbrev place : List Entry → ℕ
  place entries = position_or_len (has_number number) entries

  -- either a row has the number, and without it is without what stands at the first place, or none has
  abbrev Placed : List Entry → Type 0
  Placed entries =
      ((is_held number entries ≡ true) × (place entries < length entries) × (remove entries (place entries) ≡ without number entries))
      ⊎ ((is_held number entries ≡ false) × (place entries ≡ length entries))

  placed : (entries : List Entry) → Placed entries
  unfolding without
  placed [] = inr (refl, refl)
  placed (x ∷ entries) = by (has_number number x) refl (placed entries)
    where
      next : (n : ℕ) → 1 + n ≡ suc n
      next n = omega arith

      by : (t : Bool) → has_number number x ≡ t → Placed entries → Placed (x ∷ entries)
      by true t p = inl (rw t refl, rw t (omega arith), rw t refl)
      by false t (inl (h, lt, e)) = inl (rw t h, rw t (omega (arith, lt)), rw (t, next (place entries)) (ap (λ (l : List Entry). x ∷ l) e))
      by false t (inr (h, e)) = inr (rw t h, rw t (omega (arith, e)))

  at : (t : Bool) (i j : ℕ) → cond t (Some i) None ≡ Some j → (t ≡ true) × (i ≡ j)
  at true i j e = (refl, cc)
  at false i j e = absurd (let z : ◌≡◌ {A = ℕ} 0 1 = cc in omega arith)

  nowhere : (t : Bool) (i : ℕ) → cond t (Some i) None ≡ None → t ≡ false
  nowhere true i e = absurd (let z : ◌≡◌ {A = ℕ} 0 1 = cc in omega arith)
  nowhere false i e = refl

  -- where no place has the number, no row has it
  pub place_none : (entries : List Entry) → position (has_number number) entries ≡ None → is_held number entries ≡ false
  place_none entries e = by (placed entries)
    where
      by : Placed entries → is_held number entries ≡ false
      by (inl (h, lt, is)) = absurd (true≢false (sym (le-leb (suc (place entries)) (length entries) lt) ∙ nowhere (nat_lt (place entries) (length entries)) (place entries) e))
      by (inr (h, is)) = h

  -- otherwise a row has it, and what its removal leaves is without it
  pub place_some : (entries : List Entry) (i : ℕ) → position (has_number number) entries ≡ Some i → (is_held number entries ≡ true) × (remove entries i ≡ without number entries)
  place_some entries i e = by (placed entries) (at (nat_lt (place entries) (length entries)) (place entries) i e)
    where
      by : Placed entries → (nat_lt (place entries) (length entries) ≡ true) × (place entries ≡ i) → (is_held number entries ≡ true) × (remove entries i ≡ without number entries)
      by (inl (h, lt, is)) (t, same) = (h, rw (← same) is)
      by (inr (h, is)) (t, same) = absurd (let lt = ltb-true (place entries) (length entries) t in omega (arith, is, lt))

  -- the removal from a schedule, by the place
  pub remove_placed : (s left : Schedule) (i : ℕ) → position (has_number number) (held s) ≡ Some i → held left ≡ remove (held s) i → left.next ≡ s.next
      → outcome_of (Ok tt) left ≡ remove_number number s
  remove_placed s left i found e same = let p = place_some (held s) i found in rw p.0 (ap₂ (λ (entries : List Entry) (n : ℕ). outcome_of (Ok tt) (schedule_of entries n)) (e ∙ p.1) same)

  pub remove_nowhere : (s : Schedule) → position (has_number number) (held s) ≡ None → outcome_of (Err NotHeld) s ≡ remove_number number s
  remove_nowhere s e = rw (place_none (held s) e) refl

-- the search for the row that governs, a row further
pub next_row : (found : Option NumberedVerdict) (entries : List Entry) (i : ℕ) (d : Entry) → i < length entries
    → found_from numbered_rank (Some (greater_after numbered_rank found (get_or entries i d).judged)) (verdicts_held (drop (i + 1) entries)) ≡ found_from numbered_rank found (verdicts_held (drop i entries))
next_row found entries i d inside = rw (drop-cons entries i d, add-one) (found_next numbered_rank found (get_or entries i d).judged (verdicts_held (drop (suc i) entries)))

-- and at its end
pub last_row : (found : Option NumberedVerdict) (entries : List Entry) (i : ℕ) → length entries ≤ i → found_from numbered_rank found (verdicts_held (drop i entries)) ≡ found
last_row found entries i past = rw (drop_all i entries past) (found_at_end numbered_rank found)
