-- Small trails: which false literals are guarded, which of a clause's literals may be watched, which clauses no propagation overlooks, and what another reason changes.
use Rattle.std.specs.Prelude.{◌≡◌, ℕ, List, [], ◌∷◌, Option, None, Some}
use Rattle.pc_lits.specs.declared.literal.Lit.{Lit}
use Rattle.pc_lits.specs.declared.literal.Var.{Var}
use Rattle.pc_propagate.specs.declared.clauses.ClauseRef.TheVariants.{Axiom}
use Rattle.pc_propagate.specs.declared.trail.TrailEntry.{TrailEntry}
use Rattle.pc_propagate.specs.Levels.{IsJustified}
use Rattle.pc_propagate.specs.TrailView.{TrailView}
use Rattle.pc_propagate.specs.Watched.{GuardsAt, GuardEachOther, IsGuardedAt, IsWatchedBy, IsOfLastLevel, IsSure, IsKept, AreKept, AreKeptBut}
use Rattle.pc_worked_laws.specs.Trails.{plus, minus, decided, implied}
use Rattle.pc_worked_laws.specs.Watches.{some_of_three, lists_of, with_lists, turned}

-- 0 is false
abbrev pub first_false : List TrailEntry
first_false = decided (minus 0) ∷ []

-- then 1 is true by it, or by a decision
abbrev pub then_implied : List TrailEntry
then_implied = decided (minus 0) ∷ implied (plus 1) 0 ∷ []

abbrev pub then_decided : List TrailEntry
then_decided = decided (minus 0) ∷ decided (plus 1) ∷ []

-- 1 is true before 0 is false
abbrev pub true_before : List TrailEntry
true_before = decided (plus 1) ∷ decided (minus 0) ∷ []

pub record WorkedGuards : Type 0 where
  pub nothing_false : GuardsAt [] (plus 0) (plus 1) 0
  pub none_true : ¬ GuardsAt first_false (plus 0) (plus 1) 0
  -- a guard may come later, but at no higher level: going back would take it away and leave the false literal
  pub of_its_level : GuardsAt then_implied (plus 0) (plus 1) 0
  pub of_lower_level : GuardsAt true_before (plus 0) (plus 1) 1
  pub of_higher_level : ¬ GuardsAt then_decided (plus 0) (plus 1) 0
  -- the entry at that place made another literal false
  pub another_place : GuardsAt then_decided (plus 0) (plus 1) 1
  -- the literal's negation, which became true with it
  pub by_negation : GuardsAt first_false (plus 0) (minus 0) 0
  pub each_other : GuardEachOther then_implied (plus 0) (plus 1)
  pub one_way : ¬ GuardEachOther then_decided (plus 0) (plus 1)
  pub one_literal : ¬ GuardEachOther [] (plus 0) (plus 0)
  -- by a literal of the clause
  pub in_clause : IsGuardedAt then_implied some_of_three (plus 0) 0
  pub outside : ¬ IsGuardedAt then_implied (plus 0 ∷ plus 2 ∷ []) (plus 0) 0
  pub last_level : IsOfLastLevel then_decided 1
  pub level_before : ¬ IsOfLastLevel then_decided 0
  pub same_level : IsOfLastLevel then_implied 0

pub record WorkedWatches : Type 0 where
  -- the entry isn't propagated yet
  pub before : IsWatchedBy first_false 0 some_of_three (plus 0) (plus 1)
  -- it is, and the clause was overlooked: 0 is false, and no literal is true
  pub overlooked : ¬ IsWatchedBy first_false 1 some_of_three (plus 0) (plus 1)
  pub two_others : IsWatchedBy first_false 1 some_of_three (plus 2) (plus 1)
  pub guarded : IsWatchedBy then_implied 2 some_of_three (plus 0) (plus 1)
  pub until_going_back : ¬ IsWatchedBy then_decided 2 some_of_three (plus 0) (plus 1)
  -- two different literals of the clause
  pub one_twice : ¬ IsWatchedBy [] 0 some_of_three (plus 0) (plus 0)
  pub foreign : ¬ IsWatchedBy [] 0 some_of_three (plus 0) (minus 1)

pub record WorkedSure : Type 0 where
  -- the first two literals are watched, be other two left or not
  pub third_false : IsSure first_false 1 turned
  pub watched_false : ¬ IsSure first_false 1 some_of_three
  pub not_propagated : IsSure first_false 0 some_of_three
  -- a clause of one literal is sure where that is true for good, and not before
  pub for_good : IsSure (implied (plus 0) 0 ∷ []) 1 (plus 0 ∷ [])
  pub for_now : ¬ IsSure (decided (plus 0) ∷ []) 1 (plus 0 ∷ [])
  pub not_yet : ¬ IsSure [] 0 (plus 0 ∷ [])

-- 0 is false, and the first so many entries are propagated; one clause is attached, whose literals stand so and which waits in that list
abbrev pub trail : ℕ → List Lit → Option ℕ → TrailView
trail head body wait = record {
  variables = 3;
  entries = first_false;
  attached = Axiom 0 ∷ [];
  watching = record { watched = with_lists body (lists_of [] [] []); waiting = wait ∷ []; head = head };
}

pub record WorkedKept : Type 0 where
  pub sure : IsKept (trail 1 turned None) 1 0
  pub overlooked : ¬ IsKept (trail 1 some_of_three None) 1 0
  -- the next propagation looks at it, or the present one goes on to
  pub next : IsKept (trail 1 some_of_three (Some 0)) 1 0
  pub present : IsKept (trail 1 some_of_three (Some 1)) 1 0
  pub all_sure : AreKept (some_of_three ∷ []) [] (trail 1 turned None)
  pub all_pending : AreKept (some_of_three ∷ []) [] (trail 1 some_of_three (Some 0))
  pub one_overlooked : ¬ AreKept (some_of_three ∷ []) [] (trail 1 some_of_three None)
  pub but_that_one : AreKeptBut (λ n. n ≡ 0) (some_of_three ∷ []) [] (trail 1 some_of_three None)
  pub but_another : ¬ AreKeptBut (λ n. n ≡ 1) (some_of_three ∷ []) [] (trail 1 some_of_three None)
  -- its literals, all of them and no other
  pub lacks_one : ¬ AreKept (some_of_three ∷ []) [] (trail 1 (plus 2 ∷ plus 1 ∷ []) None)
  pub another_clause : ¬ AreKept ((plus 2 ∷ plus 1 ∷ []) ∷ []) [] (trail 1 turned None)
  -- of one entry two can't be propagated
  pub too_far : ¬ AreKept (some_of_three ∷ []) [] (trail 2 some_of_three (Some 0))

-- the same trail with these entries
abbrev pub with_entries : List TrailEntry → TrailView
with_entries es = record (trail 0 some_of_three None) { entries = es }

abbrev pub variable : ℕ → Var
variable n = record { 0 = n }

pub record WorkedJustified : Type 0 where
  -- 1 was true by the first axiom, and is true by the second one
  pub other_axiom : IsJustified (variable 1) (Axiom 1) (with_entries then_implied) (with_entries (decided (minus 0) ∷ implied (plus 1) 1 ∷ []))
  pub same_axiom : IsJustified (variable 1) (Axiom 0) (with_entries then_implied) (with_entries then_implied)
  -- a decision gets no reason, and what isn't on the trail neither
  pub decision : (after : TrailView) → ¬ IsJustified (variable 0) (Axiom 1) (with_entries then_implied) after
  pub elsewhere : (after : TrailView) → ¬ IsJustified (variable 2) (Axiom 1) (with_entries then_implied) after
  -- it has that reason, and is the literal that it was
  pub no_change : ¬ IsJustified (variable 1) (Axiom 1) (with_entries then_implied) (with_entries then_implied)
  pub its_negation : ¬ IsJustified (variable 1) (Axiom 1) (with_entries then_implied) (with_entries (decided (minus 0) ∷ implied (minus 1) 1 ∷ []))
