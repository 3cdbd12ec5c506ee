-- What the operations of a kept schedule mean, for every schedule, whoever made it: which refusals there are, that a refusal leaves it unchanged, when there is room, which row a removal takes, and how the last
-- number is given.
-- Assumes nothing.
use Prim.Native.Nat.{ℕ, suc, ◌+◌, ◌≤◌, ◌<◌}
use native.Mathlib.Omega.{arith}
use mathlib.Core.Bool.{Bool, true, false, ◌||◌, true≢false, and-false}
use mathlib.Core.List.{List, [], ◌∷◌, ◌++◌}
use mathlib.Core.Logic.{◌⊎◌, inl, inr}
use mathlib.Core.Path.{◌≡◌, refl, sym, ap, ◌∙◌}
use lib.Dec.{leb, ltb}
use lib.ListN.{length}
use Rattle.std.specs.Prelude.{◌↔◌}
use Rattle.std.proofs.lemmas.Bool.{le-leb, lt-leb}
use Rattle.cells.specs.Refusal.{Result, gives, refuses}
use Rattle.cells.specs.Row.{cells_of}
use Rattle.cells.specs.declared.row.Row.{Row}
use Rattle.member.specs.Verdict.{check_row}
use Rattle.member.specs.declared.verdict.Verdict.{Verdict}
use Rattle.keptrules.specs.Calls.{perform, after}
use Rattle.keptrules.specs.Kept.{most_held, last_number, held, schedule_of, entry_of, has_room, add, is_held, remove}
use Rattle.keptrules.specs.declared.call.Call.{Call}
use Rattle.keptrules.specs.declared.call.Call.TheVariants.{Add, Remove}
use Rattle.keptrules.specs.declared.call.Done.TheVariants.{Added, Removed}
use Rattle.keptrules.specs.declared.schedule.Entry.{Entry}
use Rattle.keptrules.specs.declared.schedule.Schedule.{Schedule}
use Rattle.std.proofs.lemmas.Bool.{leb-true, eq-eqb, ltb-true}
use Rattle.member.proofs.AcceptanceLaws.{both_true}
use Rattle.keptrules.specs.Kept.{has_number, without}

no_refusal : {A : Type 0} {value : A} {number cell : ℕ} → gives value ≡ refuses number cell → ⊥
no_refusal e = let z : ◌≡◌ {A = ℕ} 0 1 = cc in omega arith

-- there is room exactly where fewer than 64 are held and the next number is one
pub room_meaning : (s : Schedule) → has_room s ≡ true ↔ (length (held s) < 64) × (1 ≤ s.next) × (s.next ≤ 1000000)
room_meaning s = (to, from)
  where
    to : has_room s ≡ true → (length (held s) < 64) × (1 ≤ s.next) × (s.next ≤ 1000000)
    to e =
        let a = both_true (ltb (length (held s)) most_held) _ e in
        let b = both_true (leb 1 s.next) (leb s.next last_number) a.1 in
        (ltb-true (length (held s)) most_held a.0, leb-true 1 s.next b.0, leb-true s.next last_number b.1)

    from : (length (held s) < 64) × (1 ≤ s.next) × (s.next ≤ 1000000) → has_room s ≡ true
    from h = rw (le-leb (suc (length (held s))) most_held h.0, le-leb 1 s.next h.1, le-leb s.next last_number h.2) refl

module _ (s : Schedule) where
  -- a row that "Check a row" refuses is refused so, whatever is held
  pub row_first : (row : Row) (number cell : ℕ) → check_row (cells_of row) ≡ refuses number cell → (add row s).answer ≡ refuses number cell
  row_first row number cell e = rw e refl

  -- then 11, without room
  pub room_second : (row : Row) (v : Verdict) → check_row (cells_of row) ≡ gives v → has_room s ≡ false → (add row s).answer ≡ refuses 11 0
  room_second row v e full = rw (e, full) refl

  -- otherwise the next number, which stands for the row with its verdict from then on
  pub accepted : (row : Row) (v : Verdict) → check_row (cells_of row) ≡ gives v → has_room s ≡ true
      → add row s ≡ record { answer = gives s.next; schedule = schedule_of (held s ++ (entry_of s.next row v ∷ [])) (s.next + 1) }
  accepted row v e room = rw (e, room) refl

  -- every refusal leaves it unchanged
  pub refused_unchanged : (call : Call) (number cell : ℕ) → (perform call s).answer ≡ refuses number cell → (perform call s).schedule ≡ s
  refused_unchanged (Add row) number cell e = by_row (check_row (cells_of row)) refl
    where
      by_room : (v : Verdict) → check_row (cells_of row) ≡ gives v → (t : Bool) → has_room s ≡ t → (add row s).schedule ≡ s
      by_room v is true t = let says : (perform (Add row) s).answer ≡ gives (Added s.next) = rw (is, t) refl in absurd (no_refusal (sym says ∙ e))
      by_room v is false t = rw (is, t) refl

      by_row : (r : Result Verdict) → check_row (cells_of row) ≡ r → (add row s).schedule ≡ s
      by_row (refuses n c) is = rw is refl
      by_row (gives v) is = by_room v is (has_room s) refl
  refused_unchanged (Remove n) number cell e = by (is_held n (held s)) refl
    where
      by : (t : Bool) → is_held n (held s) ≡ t → (remove n s).schedule ≡ s
      by true t = let says : (perform (Remove n) s).answer ≡ gives Removed = rw t refl in absurd (no_refusal (sym says ∙ e))
      by false t = rw t refl

  -- which refusals there are: the row's own, 11 or, of a removal, 12
  abbrev pub RefusedFor : Call → ℕ → ℕ → Type 0
  RefusedFor (Add row) number cell =
      (check_row (cells_of row) ≡ refuses number cell)
      ⊎ ((v : Verdict) × (check_row (cells_of row) ≡ gives v) × (has_room s ≡ false) × (number ≡ 11) × (cell ≡ 0))
  RefusedFor (Remove n) number cell = (is_held n (held s) ≡ false) × (number ≡ 12) × (cell ≡ 0)

  pub call_refusals : (call : Call) (number cell : ℕ) → (perform call s).answer ≡ refuses number cell → RefusedFor call number cell
  call_refusals (Add row) number cell e = by_row (check_row (cells_of row)) refl
    where
      by_room : (v : Verdict) → check_row (cells_of row) ≡ gives v → (t : Bool) → has_room s ≡ t → RefusedFor (Add row) number cell
      by_room v is true t = let says : (perform (Add row) s).answer ≡ gives (Added s.next) = rw (is, t) refl in absurd (no_refusal (sym says ∙ e))
      by_room v is false t = let says : (perform (Add row) s).answer ≡ refuses 11 0 = rw (is, t) refl in inr (v, is, t, cc, cc)

      by_row : (r : Result Verdict) → check_row (cells_of row) ≡ r → RefusedFor (Add row) number cell
      by_row (refuses n c) is = let says : (perform (Add row) s).answer ≡ refuses n c = rw is refl in inl (cc)
      by_row (gives v) is = by_room v is (has_room s) refl
  call_refusals (Remove n) number cell e = by (is_held n (held s)) refl
    where
      by : (t : Bool) → is_held n (held s) ≡ t → RefusedFor (Remove n) number cell
      by true t = let says : (perform (Remove n) s).answer ≡ gives Removed = rw t refl in absurd (no_refusal (sym says ∙ e))
      by false t = let says : (perform (Remove n) s).answer ≡ refuses 12 0 = rw t refl in (t, cc, cc)

  -- with a next number that is none, 0 or above 1,000,000, there is no room
  pub no_number_left : (s.next < 1) ⊎ (1000000 < s.next) → has_room s ≡ false
  no_number_left (inl none) = rw (lt-leb 1 s.next none) (and-false (ltb (length (held s)) most_held))
  no_number_left (inr past) =
      rw (lt-leb s.next last_number past, and-false (leb 1 s.next)) (and-false (ltb (length (held s)) most_held))

-- ---- the last number

-- an accepted row takes it, and leaves none
pub last_taken : (s : Schedule) (row : Row) (v : Verdict) → check_row (cells_of row) ≡ gives v → length (held s) < 64 → s.next ≡ 1000000
    → ((add row s).answer ≡ gives 1000000) × ((add row s).schedule.next ≡ 1000001)
last_taken s row v is few last =
    let room : has_room s ≡ true = rw (le-leb (suc (length (held s))) most_held few, last) refl in
    rw (accepted s row v is room) (ap gives last, ap (λ n. n + 1) last)

-- and where none is left, none is ever given again, whatever is called: every accepted row is refused 11
next_stays : (call : Call) (s : Schedule) → last_number < s.next → (perform call s).schedule.next ≡ s.next
next_stays (Add row) s past = by (check_row (cells_of row)) refl
  where
    by : (r : Result Verdict) → check_row (cells_of row) ≡ r → (add row s).schedule.next ≡ s.next
    by (refuses number cell) is = rw is refl
    by (gives v) is = rw (is, no_number_left s (inr past)) refl
next_stays (Remove n) s past = by (is_held n (held s)) refl
  where
    by : (t : Bool) → is_held n (held s) ≡ t → (remove n s).schedule.next ≡ s.next
    by true t = rw t refl
    by false t = rw t refl

pub spent_for_good : (calls : List Call) (s : Schedule) → 1000000 < s.next → (after calls s).next ≡ s.next
unfolding after
spent_for_good [] s past = refl
spent_for_good (call ∷ calls) s past =
    let same = next_stays call s past in
    spent_for_good calls (perform call s).schedule (omega (arith, same)) ∙ same

pub spent_refuses : (s : Schedule) (row : Row) (v : Verdict) → 1000000 < s.next → check_row (cells_of row) ≡ gives v → (add row s).answer ≡ refuses 11 0
spent_refuses s row v past is = room_second s row v is (no_number_left s (inr past))

-- ---- which row a removal takes

module _ (number : ℕ) where
  without_first : (front : List Entry) (e : Entry) (back : List Entry) → is_held number front ≡ false → has_number number e ≡ true
      → (is_held number (front ++ (e ∷ back)) ≡ true) × (without number (front ++ (e ∷ back)) ≡ front ++ back)
  unfolding without
  without_first [] e back none is = (rw is refl, rw is refl)
  without_first (x ∷ front) e back none is = by (has_number number x) refl none (λ h. without_first front e back h is)
    where
      by : (t : Bool) → has_number number x ≡ t → t || is_held number front ≡ false
          → (is_held number front ≡ false → (is_held number (front ++ (e ∷ back)) ≡ true) × (without number (front ++ (e ∷ back)) ≡ front ++ back))
          → (is_held number ((x ∷ front) ++ (e ∷ back)) ≡ true) × (without number ((x ∷ front) ++ (e ∷ back)) ≡ (x ∷ front) ++ back)
      by true t n rest = absurd (true≢false n)
      by false t n rest = let r = rest n in (rw t r.0, rw t (ap (λ (l : List Entry). x ∷ l) r.1))

  -- a removal takes the first row with the number, and no other
  pub removed_first : (s : Schedule) (front : List Entry) (e : Entry) (back : List Entry) → held s ≡ front ++ (e ∷ back) → e.judged.number ≡ number → is_held number front ≡ false
      → remove number s ≡ record { answer = gives tt; schedule = schedule_of (front ++ back) s.next }
  removed_first s front e back splits is none =
      let w = without_first front e back none (eq-eqb e.judged.number number is) in
      rw (splits, w.0, w.1) refl

  pub not_held : (s : Schedule) → is_held number (held s) ≡ false → (remove number s).answer ≡ refuses 12 0
  not_held s none = rw none refl
