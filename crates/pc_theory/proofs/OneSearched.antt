-- The search of one part with the solver of its first call.
use Rattle.std.proofs.Common.{◌≡◌, ℕ, ◌+◌, ◌-◌, ◌*◌, ◌≤◌, ◌^◌, Bool, List, [], ◌∷◌, ◌++◌, map, length, sum_by, Contains, Option, Some, slice_get, refl, ap, sym, ◌∙◌, subst, arith}
use Rattle.std.proofs.lemmas.List.{length-append}
use Rattle.pc_lemmas.proofs.Elements.{all_from}
use Rattle.pc_lits.specs.declared.literal.Var.{Var}
use Rattle.pc_lits.specs.declared.tally.Tally.{Tally}
use Rattle.pc_log.specs.Lines.{LogLine}
use Rattle.pc_sheet.specs.Sheet.{Sheet}
use Rattle.pc_sheet.specs.Entailment.{cell_sizes}
use Rattle.pc_sheet.specs.MaximalSets.{AreRulesConsistent}
use Rattle.pc_sheet.specs.declared.ids.CellId.{CellId}
use Rattle.pc_sheet.specs.declared.ids.ValueId.{ValueId}
use Rattle.pc_sheet.specs.declared.ids.Entry.{Entry}
use Rattle.pc_sheet.specs.declared.ids.Target.{Target}
use Rattle.pc_ground.specs.GroundView.{Grounded}
use Rattle.pc_parts.specs.Parts.{Part}
use Rattle.pc_parts.specs.PartSheets.{entries_on, sheet_of}
use Rattle.pc_components.specs.View.{Kept, number_of}
use Rattle.pc_solver.specs.Solver.{Problem, SuspendedView, IsSolverLog}
use Rattle.pc_solver.specs.Spending.{marked, SpendsOver, StopSays}
use Rattle.pc_solver.specs.declared.stop.Stop.{Stop}
use Rattle.pc_solver.specs.declared.stop.Stop.TheVariants.{Spent, Memory}
use Rattle.pc_problem.specs.Laws.{problem_of}
use Rattle.pc_kept.specs.Laws.{KeptPartsAreSearched}
use Rattle.pc_search.specs.Parts.{IsPartOf, AreSearchedOf}
use Rattle.pc_reason.specs.Fitting.{IsFitting}
use Rattle.pc_search.specs.Spending.{IsSearchLog, AreFewWithTargets}
use Rattle.pc_worlds.specs.Parts.{AddsLogs, marked_in}
use Rattle.pc_theory.specs.Theories.{rules_alone, TheoryView, IsTheory, IsPartNumbered}
use Rattle.pc_theory.specs.Targets.{targets_on, AreAsked}
use Rattle.pc_theory.specs.inside.Tasks.{IsReady, IsPartAt}
use Rattle.pc_theory.specs.inside.Spent.{IsSearchedSpending}
use Rattle.pc_theory.specs.inside.Starting.{IsStarted}
use Rattle.pc_theory.specs.inside.Searching.{IsMoved, StopMoves}
use Rattle.pc_theory.specs.declared.spending.PartSpending.{PartSpending}
use Rattle.pc_lemmas.proofs.Options.{same_some}
use Rattle.pc_theory.proofs.Lists.{sum_push}
use Rattle.pc_theory.proofs.OfRules.{consistent_by}
use Rattle.pc_theory.proofs.Started.{at_part, spent_there}
use Rattle.pc_theory.proofs.PartMoved.{spent_more, logs_behind}
use Rattle.pc_theory.proofs.Books.{theory_of}
use Rattle.pc_theory.proofs.Editing.{few_targets, searched_of, part_of}

-- the last of a list with one log
pub popped : (logs rest : List (List LogLine)) (log only : List LogLine) → logs ≡ only ∷ [] → logs ≡ rest ++ log ∷ [] → (rest ≡ []) × (log ≡ only)
popped logs [] log only one is = (refl, (let same : log ∷ [] ≡ only ∷ [] = sym is ∙ one in cc))
popped logs (r ∷ rs) log only one is = absurd (omega (arith, ap length (sym one ∙ is), length-append rs (log ∷ [])))

module _ (searched : KeptPartsAreSearched) (sheet : Sheet) (g : Grounded) (kept : Kept) (ready : IsReady sheet g kept) (base : List ValueId) (is_base : IsFitting sheet base) (i : ℕ) (cells : List CellId) (used : List ℕ) (own : List Var)
    (at_cells : slice_get kept.cells i ≡ Some cells) (at_used : slice_get kept.axioms i ≡ Some used) (at_own : slice_get kept.variables i ≡ Some own)
    (banned : List (Option Bool)) (at_banned : banned ≡ kept.banned) where
  abbrev pub theory : TheoryView
  theory = record { ground = g; components = ready.whole; searched = kept; base = base }

  -- with the lemmas of Editing of this theory the search's needs are met
  pub known : IsTheory (rules_alone sheet) theory
  known = theory_of sheet g ready.whole kept base ready ready.whole_are ready.chosen is_base

  abbrev ts : List Target
  ts = targets_on (cell_sizes sheet.universe) cells

  pub asked : AreAsked (cell_sizes sheet.universe) ready.whole i ts
  asked = record { cells = cells; at = ap (λ cs. slice_get cs i) (sym ready.chosen.cells) ∙ at_cells; on = all_from (Contains ts) ts (λ t has. has); few = omega arith }

  pub found : (part : Part) × IsPartAt sheet kept i part cells used own
  found = at_part searched sheet g kept ready i cells used own at_cells at_used at_own

  consistent : AreRulesConsistent sheet
  consistent = consistent_by sheet base is_base

  module _ (before : PartSpending) (s : SuspendedView) (number : before.part ≡ i) (on : IsStarted sheet kept before s) where
    -- what was spent before
    here : IsSearchedSpending sheet found.0 used own kept.banned before
    here =
        let us : on.spent.used ≡ used = same_some (sym on.spent.used_are ∙ (ap (slice_get kept.axioms) number ∙ at_used)) in
        let os : on.spent.own ≡ own = same_some (sym on.spent.own_are ∙ (ap (slice_get kept.variables) number ∙ at_own)) in
        let ps : on.spent.part ≡ found.0 = same_some (sym (subst (λ n. IsPartNumbered (rules_alone sheet) n on.spent.part) number on.spent.numbered) ∙ found.1.numbered) in
        subst (λ p. IsSearchedSpending sheet p used own kept.banned before) ps (subst (λ vs. IsSearchedSpending sheet on.spent.part used vs kept.banned before) os (subst (λ ns. IsSearchedSpending sheet on.spent.part ns on.spent.own kept.banned before) us on.spent.spent))

    -- what was spent on the part after its search, whose logs are `mid`, and behind them the solver's
    pub one_moved : (spent more most : ℕ) (place : PartSpending) (rest mid : List (List LogLine)) (log grown : List LogLine) (blank : Tally) → before.logs.items ≡ rest ++ log ∷ [] → place.logs.items ≡ mid ++ grown ∷ [] → place.part ≡ before.part
        → blank.placed ≡ before.tally.placed → blank.learned ≡ before.tally.learned → blank.calls ≡ before.tally.calls → AddsLogs 2 (IsSearchLog (sheet_of sheet found.0) (problem_of sheet used own kept.banned)) [] mid → IsSolverLog (problem_of sheet used own kept.banned) [] grown
        → AreFewWithTargets (sheet_of sheet found.0) (length ts) most → SpendsOver (length own) blank place.tally (marked log + marked_in []) (marked grown + marked_in mid) most → more + before.tally.placed ≡ spent + place.tally.placed → IsMoved sheet kept spent before more place
    one_moved spent more most place rest mid log grown blank is_before is_after same no_placed no_learned no_calls added lawful few spends sum =
        let one = popped before.logs.items rest log on.only.log on.only.only is_before in
        let before_marks : marked log + marked_in [] ≡ marked_in before.logs.items = omega (arith, ap (sum_by marked) is_before, sum_push marked rest log, ap (sum_by marked) one.0) in
        let after_marks : marked grown + marked_in mid ≡ marked_in place.logs.items = omega (arith, ap (sum_by marked) is_after, sum_push marked mid grown) in
        let all : SpendsOver (length own) blank place.tally (marked_in before.logs.items) (marked_in place.logs.items) most =
        subst (λ n. SpendsOver (length own) blank place.tally n (marked_in place.logs.items) most) before_marks (subst (λ n. SpendsOver (length own) blank place.tally (marked log + marked_in []) n most) after_marks spends)
        in
        let logs = logs_behind sheet used own kept.banned found.0 [] mid place.logs.items grown consistent refl added lawful is_after in
        let work : blank.learned + blank.calls ≡ before.tally.learned + before.tally.calls = omega (arith, no_learned, no_calls) in
        let placed : blank.placed ≤ length own * (blank.learned + blank.calls) = subst (λ n. blank.placed ≤ length own * n) (sym work) (omega (arith, no_placed, here.placed)) in
        record {
          numbered = same;
          spent_on = spent_there sheet kept i found.0 cells used own found.1 place (same ∙ number)
              (spent_more sheet kept i found.0 cells used own found.1 consistent blank before.logs.items place most (length ts) few (omega arith) all
              (omega (arith, here.spare, no_placed, no_learned, no_calls)) placed (here.learned ∙ sym no_learned) (omega (arith, on.one_call, no_calls)) logs.0 logs.1);
          placed = sum;
          learned = omega (arith, spends.learned, no_learned);
          calls = omega (arith, spends.calls, no_calls);
        }

  -- the problem as the search is asked it
  abbrev pub given : Problem
  given = record { axioms = g.clauses; used = used; own = own; banned = banned }

  pub part_here : (p : Part) (entries : List Entry) → IsPartNumbered (rules_alone sheet) i p → entries ≡ entries_on (map number_of cells) sheet.entries → IsPartOf sheet p cells entries given
  part_here p entries numbered are = part_of searched sheet theory ready.formed known i cells used own at_cells at_used at_own banned at_banned p entries numbered are

  module _ (targets : List Target) (same : targets ≡ ts) where
    pub few_asked : length (cell_sizes sheet.universe) ≤ 4096 → length targets ≤ 2 ^ 21
    few_asked few = subst (λ xs. length xs ≤ 2 ^ 21) (sym same) (few_targets searched sheet theory ready.formed known i cells used own at_cells at_used at_own banned at_banned ts asked few)

    pub searched_asked : (entries : List Entry) → entries ≡ entries_on (map number_of cells) sheet.entries → AreSearchedOf sheet cells entries given targets
    searched_asked entries are = subst (AreSearchedOf sheet cells entries given) (sym same) (searched_of searched sheet theory ready.formed known i cells used own at_cells at_used at_own banned at_banned ts asked entries are)

    -- what was spent, as the search says it; room was made in the logs
    pub moved_here : (before : PartSpending) (s : SuspendedView) (number : before.part ≡ i) (on : IsStarted sheet kept before s) (spent more : ℕ) (place : PartSpending) (rest room mid : List (List LogLine)) (log grown : List LogLine) (blank : Tally)
        (entries : List Entry) → entries ≡ entries_on (map number_of cells) sheet.entries → before.logs.items ≡ rest ++ log ∷ [] → room ≡ rest → place.logs.items ≡ mid ++ grown ∷ [] → place.part ≡ before.part
        → ((p : Part) → IsPartOf sheet p cells entries given → AddsLogs 2 (IsSearchLog (sheet_of sheet p) given) room mid) → IsSolverLog given [] grown
        → ((most : ℕ) × ((p : Part) → IsPartOf sheet p cells entries given → AreFewWithTargets (sheet_of sheet p) (length targets) most) × SpendsOver (length own) blank place.tally (marked log + marked_in room) (marked grown + marked_in mid) most)
        → blank.placed ≡ before.tally.placed → blank.learned ≡ before.tally.learned → blank.calls ≡ before.tally.calls → more + before.tally.placed ≡ spent + place.tally.placed → IsMoved sheet kept spent before more place
    moved_here before s number on spent more place rest room mid log grown blank entries are is_before is_room is_after same_part added lawful spends no_placed no_learned no_calls sum =
        let here = part_here found.0 entries found.1.numbered are in
        let is_given : given ≡ problem_of sheet used own kept.banned = let make : Grounded → Problem = λ x. record { axioms = x.clauses; used = used; own = own; banned = banned } in ap make ready.ground_is ∙ ap (problem_of sheet used own) at_banned in
        let none : room ≡ [] = is_room ∙ (popped before.logs.items rest log on.only.log on.only.only is_before).0 in
        let logs : AddsLogs 2 (IsSearchLog (sheet_of sheet found.0) (problem_of sheet used own kept.banned)) [] mid =
        subst (λ ls. AddsLogs 2 (IsSearchLog (sheet_of sheet found.0) (problem_of sheet used own kept.banned)) ls mid) none (subst (λ q. AddsLogs 2 (IsSearchLog (sheet_of sheet found.0) q) room mid) is_given (added found.0 here))
        in
        let few : AreFewWithTargets (sheet_of sheet found.0) (length ts) spends.0 = subst (λ xs. AreFewWithTargets (sheet_of sheet found.0) (length xs) spends.0) same (spends.1 found.0 here) in
        let paid : SpendsOver (length own) blank place.tally (marked log + marked_in []) (marked grown + marked_in mid) spends.0 =
        subst (λ ls. SpendsOver (length own) blank place.tally (marked log + marked_in ls) (marked grown + marked_in mid) spends.0) none spends.2
        in
        one_moved before s number on spent more spends.0 place rest mid log grown blank is_before is_after same_part no_placed no_learned no_calls logs (subst (λ q. IsSolverLog q [] grown) is_given lawful) few paid sum

-- where a part's limit is reached, the budget is
pub stop_moves : (sheet : Sheet) (kept : Kept) (budget spent more : ℕ) (before place : PartSpending) (stop : Stop) → StopSays place.tally stop → place.tally.limit ≡ before.tally.placed + (budget - spent) → spent ≤ budget
    → more + before.tally.placed ≡ spent + place.tally.placed → IsMoved sheet kept spent before more place → StopMoves sheet kept budget spent before more place stop
stop_moves sheet kept budget spent more before place Spent says limit within sum moved = (omega (arith, says, limit, within, sum), moved)
stop_moves sheet kept budget spent more before place Memory says limit within sum moved = tt
