-- What is known of a schedule that calls made from the empty one: its numbers, its rows, and the row that governs, said of the calls alone.
-- Assumes nothing.
use Prim.Native.Nat.{ℕ, ◌+◌, ◌≤◌, ◌<◌}
use native.Mathlib.Nat.{le_of_lt, le_refl, le_trans, le_antisymm}
use native.Mathlib.Omega.{arith}
use mathlib.Core.Bool.{true}
use mathlib.Core.List.{List, [], ◌∷◌, ◌++◌, map}
use mathlib.Core.Logic.{◌⊎◌, inl, inr}
use mathlib.Core.Path.{◌≡◌, refl, sym, ap, ◌∙◌, subst}
use lib.ListN.{length, get_or}
use Rattle.std.specs.Prelude.{◌↔◌, Some, None}
use Rattle.cells.specs.Greatest.{Among}
use Rattle.cells.specs.Refusal.{gives, refuses}
use Rattle.cells.specs.Row.{Cell, cells_of, cell_count}
use Rattle.cells.specs.declared.row.Row.{Row}
use Rattle.cells.proofs.GreatestLaws.{among_cases, among_here}
use Rattle.member.specs.Acceptance.{accept}
use Rattle.member.specs.Demand3.{Demand3, demand_factor}
use Rattle.member.specs.Rank.{rank, numbered_rank}
use Rattle.member.specs.Verdict.{verdict, judged, check_row}
use Rattle.member.specs.declared.member.Member.{Member}
use Rattle.member.specs.declared.verdict.NumberedVerdict.{NumberedVerdict}
use Rattle.member.specs.declared.verdict.Verdict.{Verdict}
use Rattle.member.proofs.KeepsDemand3.{keeps_demand_3, demand_factor_kept}
use Rattle.member.proofs.RankMeaning.{passes_by_rank, Governs, governing_meaning}
use Rattle.member.proofs.VerdictLaws.{judged_accepted, Below, Rising, rising_after, rising_same}
use Rattle.keptrules.specs.Afresh.{NumberedRow, left, given, history_of}
use Rattle.keptrules.specs.Calls.{after}
use Rattle.keptrules.specs.Kept.{held, empty, add, verdicts_held, governing}
use Rattle.keptrules.specs.declared.call.Call.{Call}
use Rattle.keptrules.specs.declared.schedule.Entry.{Entry}
use Rattle.keptrules.specs.declared.schedule.Schedule.{Schedule}
use Rattle.keptrules.proofs.CheckedAfresh.{mirrored}
use Rattle.keptrules.proofs.Mirrors.{numbered_row, AllKept, Rise}
use Rattle.keptrules.proofs.LeftMeaning.{AddedNotRemoved, left_meaning}
use Rattle.keptrules.proofs.ScheduleMeaning.{spent_for_good, spent_refuses}

same_given : {A : Type 0} {x y : A} → gives x ≡ gives y → x ≡ y
same_given e = cc

-- numbers rise in what is held, so in any list of it
module _ {B : Type 0} (of : Entry → B) (number : B → ℕ) (same : (e : Entry) → number (of e) ≡ e.judged.number) where
  below_held : (b : B) (low : ℕ) (entries : List Entry) (high : ℕ) → number b < low → Rise low entries high → Below number b (map of entries)
  below_held b low [] high under rise = tt
  below_held b low (x ∷ entries) high under rise =
      (omega (arith, under, rise.0, same x), below_held b (x.judged.number + 1) entries high (omega (arith, under, rise.0)) rise.1)

  rising_held : (low : ℕ) (entries : List Entry) (high : ℕ) → Rise low entries high → Rising number (map of entries)
  rising_held low [] high rise = tt
  rising_held low (x ∷ entries) high rise =
      (below_held (of x) (x.judged.number + 1) entries high (omega (arith, same x)) rise.1, rising_held (x.judged.number + 1) entries high rise.1)

-- what is held for a row that is left
record HeldFor (entries : List Entry) (r : NumberedRow) : Type 0 where
  entry : Entry
  among : Among entry.judged (verdicts_held entries)
  is : numbered_row entry ≡ r
  verdict : check_row (cells_of r.row) ≡ gives entry.judged.verdict

held_for : (entries : List Entry) → AllKept entries → (r : NumberedRow) → Among r (map numbered_row entries) → HeldFor entries r
held_for [] kept r a = absurd a
held_for (x ∷ entries) kept r (inl e) = record { entry = x; among = inl refl; is = sym e; verdict = rw e kept.0 }
held_for (x ∷ entries) kept r (inr a) =
    let h = held_for entries kept.1 r a in
    record { entry = h.entry; among = inr h.among; is = h.is; verdict = h.verdict }

-- and the row for a verdict that is held
record RowFor (entries : List Entry) (v : NumberedVerdict) : Type 0 where
  row : NumberedRow
  among : Among row (map numbered_row entries)
  number : row.number ≡ v.number
  verdict : check_row (cells_of row.row) ≡ gives v.verdict

row_for : (entries : List Entry) → AllKept entries → (v : NumberedVerdict) → Among v (verdicts_held entries) → RowFor entries v
row_for [] kept v a = absurd a
row_for (x ∷ entries) kept v (inl e) = rw e (record { row = numbered_row x; among = inl refl; number = refl; verdict = kept.0 })
row_for (x ∷ entries) kept v (inr a) =
    let f = row_for entries kept.1 v a in
    record { row = f.row; among = inr f.among; number = f.number; verdict = f.verdict }

module _ (calls : List Call) where
  abbrev made : Schedule
  made = after calls empty

  -- the rows held are the rows added and not removed
  pub rows_held : map numbered_row (held made) ≡ left (history_of calls)
  rows_held = sym (mirrored calls).rows

  -- at most 64
  pub held_at_most : length (held made) ≤ 64
  held_at_most = (mirrored calls).few

  -- the numbers given are 1, 2, 3 and so on, to 1,000,000 at most: none is given twice
  pub numbers_in_turn : (i : ℕ) → i < length (given (history_of calls)) → get_or (given (history_of calls)) i 0 ≡ i + 1
  numbers_in_turn = (mirrored calls).in_turn

  pub numbers_within : length (given (history_of calls)) ≤ 1000000
  numbers_within = (mirrored calls).spent

  -- which row governs, said of the calls alone: it was added and not removed; of all that were, none that "Check a row" judges now ranks higher, and none that ranks equal has a lower number
  pub record GovernsAfresh (v : NumberedVerdict) : Type 0 where
    pub row : NumberedRow
    pub stays : AddedNotRemoved (history_of calls) row
    pub number : row.number ≡ v.number
    pub verdict : check_row (cells_of row.row) ≡ gives v.verdict
    pub greatest : (r : NumberedRow) (w : Verdict) → AddedNotRemoved (history_of calls) r → check_row (cells_of r.row) ≡ gives w → rank w ≤ rank v.verdict
    pub lowest : (r : NumberedRow) (w : Verdict) → AddedNotRemoved (history_of calls) r → check_row (cells_of r.row) ≡ gives w → rank w ≡ rank v.verdict → v.number ≤ r.number

  -- one of the verdicts held is that of v, before it, or after it
  compared : (v : NumberedVerdict) → Governs (verdicts_held (held made)) v → (w : NumberedVerdict) → Among w (verdicts_held (held made))
      → (numbered_rank w ≤ numbered_rank v) × (numbered_rank w ≡ numbered_rank v → v.number ≤ w.number)
  compared v g w a = by (among_cases g.front v g.back w (rw g.splits at a))
    where
      rising : Rising (λ (w : NumberedVerdict). w.number) (g.front ++ (v ∷ g.back))
      rising = rw g.splits at (rising_held (λ (e : Entry). e.judged) (λ (w : NumberedVerdict). w.number) (λ e. refl) 1 (held made) made.next (mirrored calls).rise)

      by : Among w g.front ⊎ ((w ≡ v) ⊎ Among w g.back) → (numbered_rank w ≤ numbered_rank v) × (numbered_rank w ≡ numbered_rank v → v.number ≤ w.number)
      by (inl b) = let under = g.before w b in (le_of_lt under, λ e. absurd (omega (arith, under, e)))
      by (inr (inl e)) = rw e (le_refl (numbered_rank v), λ _. le_refl v.number)
      by (inr (inr b)) = (g.after w b, λ _. le_of_lt (rising_after (λ (w : NumberedVerdict). w.number) g.front v g.back rising w b))

  held_now : (r : NumberedRow) → AddedNotRemoved (history_of calls) r → HeldFor (held made) r
  held_now r f = held_for (held made) (mirrored calls).kept r (rw (← rows_held) at ((left_meaning (history_of calls) r).1 f))

  of_governing : (v : NumberedVerdict) → Governs (verdicts_held (held made)) v → GovernsAfresh v
  of_governing v g =
      let f = row_for (held made) (mirrored calls).kept v (rw g.splits (among_here g.front v g.back)) in
      record {
        row = f.row;
        stays = (left_meaning (history_of calls) f.row).0 (rw (← rows_held) f.among);
        number = f.number;
        verdict = f.verdict;
        greatest = λ r w a is. let h = held_now r a in rank_of h w is (λ u. rank u ≤ rank v.verdict) (compared v g h.entry.judged h.among).0;
        lowest = λ r w a is equal.
            let h = held_now r a in
            let lower : v.number ≤ h.entry.judged.number = rank_of h w is (λ u. rank u ≡ rank v.verdict → v.number ≤ h.entry.judged.number) (compared v g h.entry.judged h.among).1 equal in
            let same : h.entry.judged.number ≡ r.number = ap (λ (x : NumberedRow). x.number) h.is in
            omega arith;
      }
    where
      rank_of : {r : NumberedRow} (h : HeldFor (held made) r) (w : Verdict) → check_row (cells_of r.row) ≡ gives w → (P : Verdict → Type 0) → P h.entry.judged.verdict → P w
      rank_of h w is P p = let same : h.entry.judged.verdict ≡ w = same_given (sym h.verdict ∙ is) in subst P same p

  pub governs_meaning : (v : NumberedVerdict) → governing made ≡ Some v → GovernsAfresh v
  governs_meaning v e = by (governing_meaning (verdicts_held (held made)))
    where
      by : ((verdicts_held (held made) ≡ []) × (governing made ≡ None)) ⊎ ((u : NumberedVerdict) × Governs (verdicts_held (held made)) u × (governing made ≡ Some u)) → GovernsAfresh v
      by (inl (empty, none)) = absurd (let z : ◌≡◌ {A = ℕ} 0 1 = cc in omega arith)
      by (inr (u, g, is)) = let same : u ≡ v = cc in subst GovernsAfresh same (of_governing u g)

  -- none governs exactly where no row was added and not removed
  abbrev pub NothingLeft : Type 0
  NothingLeft = (r : NumberedRow) → AddedNotRemoved (history_of calls) r → ⊥

  pub none_governs : governing made ≡ None ↔ NothingLeft
  none_governs = (to, from)
    where
      none_held : (r : NumberedRow) → AddedNotRemoved (history_of calls) r → verdicts_held (held made) ≡ [] → ⊥
      none_held r f empty = rw empty at (held_now r f).among

      to : governing made ≡ None → NothingLeft
      to e r f = by (governing_meaning (verdicts_held (held made)))
        where
          by : ((verdicts_held (held made) ≡ []) × (governing made ≡ None)) ⊎ ((u : NumberedVerdict) × Governs (verdicts_held (held made)) u × (governing made ≡ Some u)) → ⊥
          by (inl (empty, none)) = none_held r f empty
          by (inr (u, g, is)) = let z : ◌≡◌ {A = ℕ} 0 1 = cc in omega arith

      from : NothingLeft → governing made ≡ None
      from nothing = by (governing_meaning (verdicts_held (held made)))
        where
          by : ((verdicts_held (held made) ≡ []) × (governing made ≡ None)) ⊎ ((u : NumberedVerdict) × Governs (verdicts_held (held made)) u × (governing made ≡ Some u)) → governing made ≡ None
          by (inl (empty, none)) = none
          by (inr (u, g, is)) = let f = of_governing u g in absurd (nothing f.row f.stays)

  -- and the verdict that governs keeps demand 3, for a row of 22 cells, as every row of the code is
  pub governing_keeps_demand_3 : (v : NumberedVerdict) → (f : GovernsAfresh v) → length (cells_of f.row.row) ≡ cell_count → (m : Member) × (accept (cells_of f.row.row) ≡ gives m) × Demand3 m v.verdict demand_factor
  governing_keeps_demand_3 v f whole =
      let a = judged_accepted (accept (cells_of f.row.row)) v.verdict f.verdict in
      let same : v.verdict ≡ verdict a.0 = same_given (sym f.verdict ∙ ap judged a.1) in
      (a.0, a.1, subst (λ (u : Verdict). Demand3 a.0 u demand_factor) (sym same) (keeps_demand_3 (cells_of f.row.row) a.0 whole a.1 demand_factor demand_factor_kept))

  -- where the row that governs passes, so does every row added and not removed
  pub governing_passes : (v : NumberedVerdict) → GovernsAfresh v → v.verdict.passes ≡ true → (r : NumberedRow) (w : Verdict) → AddedNotRemoved (history_of calls) r → check_row (cells_of r.row) ≡ gives w → w.passes ≡ true
  governing_passes v f passes r w stays is =
      let low : rank v.verdict ≤ 1000000 = by_rules (cells_of f.row.row) v.verdict f.verdict (λ u. u.passes ≡ true → rank u ≤ 1000000) (λ m. (passes_by_rank m).0) passes in
      by_rules (cells_of r.row) w is (λ u. rank u ≤ 1000000 → u.passes ≡ true) (λ m. (passes_by_rank m).1) (le_trans (f.greatest r w stays is) low)
    where
      -- what holds of every verdict by the rules holds of what "Check a row" gives
      by_rules : (cells : List Cell) (u : Verdict) → check_row cells ≡ gives u → (P : Verdict → Type 0) → ((m : Member) → P (verdict m)) → P u
      by_rules cells u given P all =
          let a = judged_accepted (accept cells) u given in
          let same : verdict a.0 ≡ u = same_given (sym (ap judged a.1) ∙ given) in
          subst P same (all a.0)

  -- the next number is one above how many were given
  pub next_number : (after calls empty).next ≡ length (given (history_of calls)) + 1
  next_number = (mirrored calls).next

  -- after 1,000,000 adds that were not refused every accepted row is refused 11, whatever is called
  pub spent_by_calls : (more : List Call) (row : Row) (v : Verdict) → length (given (history_of calls)) ≡ 1000000 → check_row (cells_of row) ≡ gives v
      → (add row (after more (after calls empty))).answer ≡ refuses 11 0
  spent_by_calls more row v all is =
      let s = after calls empty in
      let past : 1000000 < s.next = omega (arith, next_number, all) in
      spent_refuses (after more s) row v (omega (arith, spent_for_good more s past, past)) is

  -- every row added and not removed has a verdict: checked afresh, none is lost
  pub left_judged : (r : NumberedRow) → AddedNotRemoved (history_of calls) r → (w : Verdict) × (check_row (cells_of r.row) ≡ gives w)
  left_judged r f = let h = held_now r f in (h.entry.judged.verdict, h.verdict)

  -- and its number is that of no other
  pub one_by_number : (q r : NumberedRow) → AddedNotRemoved (history_of calls) q → AddedNotRemoved (history_of calls) r → q.number ≡ r.number → q ≡ r
  one_by_number q r f g same =
      rising_same (λ (x : NumberedRow). x.number) (map numbered_row (held made))
      (rising_held numbered_row (λ (x : NumberedRow). x.number) (λ e. refl) 1 (held made) made.next (mirrored calls).rise)
      q r
      (rw (← rows_held) at ((left_meaning (history_of calls) q).1 f))
      (rw (← rows_held) at ((left_meaning (history_of calls) r).1 g))
      same

  -- so the row that GovernsAfresh describes is the one that governs
  pub afresh_governs : (v : NumberedVerdict) → GovernsAfresh v → governing (after calls empty) ≡ Some v
  afresh_governs v f = by (governing_meaning (verdicts_held (held (after calls empty))))
    where
      by : ((verdicts_held (held (after calls empty)) ≡ []) × (governing (after calls empty) ≡ None)) ⊎ ((u : NumberedVerdict) × Governs (verdicts_held (held (after calls empty))) u × (governing (after calls empty) ≡ Some u)) → governing (after calls empty) ≡ Some v
      by (inl (bare, none)) = absurd ((none_governs).0 none f.row f.stays)
      by (inr (u, g, is)) =
          let h = of_governing u g in
          let equal : rank v.verdict ≡ rank u.verdict = le_antisymm (h.greatest f.row v.verdict f.stays f.verdict) (f.greatest h.row u.verdict h.stays h.verdict) in
          let low : u.number ≤ f.row.number = h.lowest f.row v.verdict f.stays f.verdict equal in
          let lower : v.number ≤ h.row.number = f.lowest h.row u.verdict h.stays h.verdict (sym equal) in
          let number : u.number ≡ v.number = le_antisymm (rw f.number at low) (rw h.number at lower) in
          let row : h.row ≡ f.row = one_by_number h.row f.row h.stays f.stays (h.number ∙ (number ∙ sym f.number)) in
          let judged_same : u.verdict ≡ v.verdict = same_given (sym h.verdict ∙ (ap (λ (r : NumberedRow). check_row (cells_of r.row)) row ∙ f.verdict)) in
          is ∙ (λ i. Some (record { number = number i; verdict = judged_same i }))
