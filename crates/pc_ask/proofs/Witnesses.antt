-- Witnesses, one assignment after the other.
use Rattle.std.proofs.Common.{◌≡◌, ℕ, ◌+◌, ◌<◌, ◌≤◌, inl, inr, List, ◌++◌, length, map, take, drop, Option, None, Some, Result, Ok, Err, IfOk, slice_get, All, Contains, arith, ap, sym, ◌∙◌, subst, length-append}
use Rattle.std.proofs.lemmas.Bool.{cases_lt}
use Rattle.std.proofs.lemmas.List.Elements.{All-contains, Contains-append_cases}
use Rattle.pc_lemmas.proofs.Elements.{all_from, contains_map, contains_mapped, kept_is}
use Rattle.pc_lemmas.proofs.Options.{same_some}
use Rattle.pc_log.specs.Lines.{LogLine}
use Rattle.pc_log.specs.declared.log.StepId.{StepId}
use Rattle.pc_sheet.specs.Sheet.{Sheet}
use Rattle.pc_sheet.specs.Entailment.{cell_sizes, HasAll, IsConsistent}
use Rattle.pc_sheet.specs.MaximalSets.{IsContained}
use Rattle.pc_sheet.specs.declared.ids.ValueId.{ValueId}
use Rattle.pc_sheet.specs.declared.ids.Entry.{Entry}
use Rattle.pc_ground.specs.Ground.{clauses}
use Rattle.pc_components.specs.Pairs.{entry_literal}
use Rattle.pc_solver.specs.declared.stop.Stop.{Stop}
use Rattle.pc_solver.proofs.LogLemmas.{clause_on-more}
use Rattle.pc_repairs.specs.inside.Joining.{had_by, is_had}
use Rattle.pc_ask.specs.Asking.{IsDeniedAt}
use Rattle.pc_ask.specs.inside.Narrowing.{left_of, RefuteSays, IsWitness, LacksWitness, IsNarrowed}
use Rattle.pc_ask.specs.declared.narrowing.Choosing.{Choosing}
use Rattle.pc_ask.specs.declared.narrowing.Witness.{Witness}
use Rattle.pc_ask.specs.inside.Choices.{OneSays}
use Rattle.pc_ask.proofs.Places.{low_at, place_of, take_there, drop_there}

-- what holds of all entries does of those that are left
pub left_all : (P : Entry → Type 0) (entries set : List Entry) (k : ℕ) (a : List ValueId) → All P entries → All (Contains entries) set → All P (left_of entries k set a)
left_all P entries set k a each among = all_from P (left_of entries k set a) (λ e c. elim (Contains-append_cases (had_by (take k entries) a) set e c) [
  | inl first ↦ All-contains P entries e each (take_there entries k e (kept_is (is_had a) (take k entries) e first).0)
  | inr chosen ↦ All-contains P entries e each (All-contains (Contains entries) set e among chosen)
])

-- what a line says of entries it says of more of them, and still does once the log has grown
pub denied_more : (sheet : Sheet) (s t : List Entry) (log grown : List LogLine) (line : StepId) (lines : List LogLine) → grown ≡ log ++ lines → IsContained s t → IsDeniedAt sheet s log line → IsDeniedAt sheet t grown line
denied_more sheet s t log grown line lines added within h = subst (λ l. IsDeniedAt sheet t l line) (sym added) (record {
  stands = omega (arith, h.stands, length-append log lines);
  over = λ m c.
      let a = h.over m (subst (λ clause. Contains clause m) (clause_on-more (clauses sheet) log lines line h.stands) c) in
      let e = contains_mapped (entry_literal (cell_sizes sheet.universe)) s a.0 a.1 in
      (a.0, subst (Contains (map (entry_literal (cell_sizes sheet.universe)) t)) e.2 (contains_map (entry_literal (cell_sizes sheet.universe)) t e.0 (within e.0 e.1)), a.2);
})

module _ (sheet : Sheet) (entries : List Entry) (all : List (List ValueId)) (k : ℕ) (set : List Entry) where
  -- one more is none
  pub none_more : (place : ℕ) (b : List ValueId) → slice_get all place ≡ Some b → (¬ IsWitness sheet entries all k set b)
      → ((i : ℕ) (a : List ValueId) → i < place → slice_get all i ≡ Some a → ¬ IsWitness sheet entries all k set a)
      → (i : ℕ) (a : List ValueId) → i < place + 1 → slice_get all i ≡ Some a → ¬ IsWitness sheet entries all k set a
  none_more place b at_place none before i a below at w = elim (cases_lt i place) [
    | inl earlier ↦ before i a earlier at w
    | inr later ↦
        let same : i ≡ place = omega (arith, below, later) in
        none (subst (IsWitness sheet entries all k set) (same_some (sym at ∙ (ap (slice_get all) same ∙ at_place))) w)
  ]

  pub none_of_all : (count : ℕ) → length all ≤ count → ((i : ℕ) (a : List ValueId) → i < count → slice_get all i ≡ Some a → ¬ IsWitness sheet entries all k set a) → LacksWitness sheet entries all k set
  none_of_all count full none a there w =
      let p = place_of all a there in
      let low : p.0 < length all = low_at all p.0 a p.1 in
      none p.0 a (omega (arith, low, full)) p.1 w

  -- what is kept is of the entries
  pub among : (log : List LogLine) (w : Witness) → IsNarrowed sheet entries all k set log w → All (Contains entries) set
  among log w h = all_from (Contains entries) set (λ e c. drop_there entries k e (All-contains (Contains (drop k entries)) set e h.later c))

-- whether one assignment is a witness, by whether what is left of it can't stand together
pub one_told : (c : Choosing) (k : ℕ) (set : List Entry) (a : List ValueId) (left : List Entry) (log : List LogLine) → left ≡ left_of c.entries.now k set a → HasAll a set
    → (r : Result (Option StepId) Stop) → IfOk r (RefuteSays c.task.book.now left log) → IfOk r (OneSays c k set a log)
one_told c k set a left log is has (Err e) told = tt
one_told c k set a left log is has (Ok None) consistent = λ w. w.1 (subst (IsConsistent c.task.book.now) is consistent)
one_told c k set a left log is has (Ok (Some line)) refuted =
    ((has, λ stands. refuted.0 (subst (IsConsistent c.task.book.now) (sym is) stands)), subst (λ (s : List Entry). IsDeniedAt c.task.book.now s log line) is refuted.1)
