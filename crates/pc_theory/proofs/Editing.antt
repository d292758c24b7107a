-- The search of one part whose rules are known.
use Rattle.std.proofs.Common.{◌≡◌, ℕ, ◌+◌, ◌*◌, ◌<◌, ◌≤◌, ◌^◌, Bool, List, [], map, length, sum_by, get_or, All, Contains, Option, Some, slice_get, refl, ap, sym, ◌∙◌, subst, arith}
use Rattle.pc_lits.specs.declared.literal.Var.{Var}
use Rattle.pc_lits.specs.declared.tally.Tally.{Tally}
use Rattle.pc_log.specs.Lines.{LogLine}
use Rattle.pc_sheet.specs.Sheet.{Sheet}
use Rattle.pc_sheet.specs.Entailment.{cell_sizes}
use Rattle.pc_sheet.specs.MaximalSets.{AreRulesConsistent}
use Rattle.pc_sheet.specs.WellFormed.{IsWellFormed}
use Rattle.pc_sheet.specs.declared.ids.CellId.{CellId}
use Rattle.pc_sheet.specs.declared.ids.Entry.{Entry}
use Rattle.pc_sheet.specs.declared.ids.Target.{Target}
use Rattle.pc_ground.specs.GroundView.{Grounded}
use Rattle.pc_ground.specs.Grounded.{grounded}
use Rattle.pc_parts.specs.Parts.{Part}
use Rattle.pc_parts.specs.PartSheets.{entries_on, sheet_of}
use Rattle.pc_components.specs.View.{number_of}
use Rattle.pc_world_list.specs.Worlds.{WorldView}
use Rattle.pc_solver.specs.Solver.{Problem, IsProblem, IsSolverLog}
use Rattle.pc_solver.specs.Spending.{marked, SpendsOver}
use Rattle.pc_problem.specs.Laws.{problem_of}
use Rattle.pc_kept.specs.ByPolarity.{NoneIsContainedByPolarity}
use Rattle.pc_kept.specs.Laws.{KeptPartsAreSearched}
use Rattle.pc_search.specs.Parts.{IsPartOf, AreWorldsOf, AreAskedOf, AreSearchedOf}
use Rattle.pc_reason.specs.Fitting.{IsFitting}
use Rattle.pc_search.specs.Spending.{IsSearchLog, AreFewWithTargets}
use Rattle.pc_worlds.specs.Parts.{AddsLogs, marked_in}
use Rattle.pc_search.proofs.SearchLemmas.{few_with, without_blocks}
use Rattle.pc_theory.specs.Theories.{rules_alone, TheoryView, IsTheory, IsPartNumbered}
use Rattle.pc_theory.specs.Targets.{targets_on, AreAsked}
use Rattle.pc_theory.specs.inside.Tasks.{AreSearchedParts, IsReady, IsPartAt}
use Rattle.pc_theory.specs.inside.Spent.{IsSearchedLog, IsSearchedSpending, IsSearchedOn}
use Rattle.pc_theory.proofs.OfWhole.{searched_parts, spent_whole}
use Rattle.pc_theory.specs.Edits.{IsBlankOn, IsSpentAlone}
use Rattle.pc_theory.specs.declared.spending.PartSpending.{PartSpending}
use Rattle.pc_lemmas.proofs.Options.{same_some}
use Rattle.pc_theory.proofs.Lists.{at_within}
use Rattle.pc_theory.proofs.OfRules.{grounded_alone, clauses_alone, division_here, named_here, base_here, consistent_by}
use Rattle.pc_theory.proofs.Parted.{part_at, few_here, searched_at, is_part}
use Rattle.pc_theory.proofs.Sizes.{size_few}
use Rattle.pc_theory.proofs.OnCells.{all_on, few_on}
use Rattle.pc_theory.proofs.Started.{problem_here}
use Rattle.pc_theory.proofs.PartMoved.{spent_more, logs_added}

pub ready_there : (sheet : Sheet) (theory : TheoryView) → IsWellFormed sheet → IsTheory (rules_alone sheet) theory → IsReady sheet theory.ground theory.searched
ready_there sheet theory formed known = record {
  formed = formed;
  ground_is = known.ground ∙ grounded_alone sheet;
  few = subst (λ cs. length cs < 2 ^ 32) (clauses_alone sheet) known.few;
  named = named_here sheet known.named;
  components = searched_parts (rules_alone sheet) theory.components theory.searched known.components known.searched;
  whole = theory.components;
  whole_are = known.components;
  chosen = known.searched;
  division = division_here sheet known.division;
}

-- the part of that number is there
pub asked_within : (sheet : Sheet) (theory : TheoryView) → IsTheory (rules_alone sheet) theory → (i : ℕ) (ts : List Target) → AreAsked (cell_sizes sheet.universe) theory.components i ts → i < length theory.searched.cells
asked_within sheet theory known i ts asked = at_within theory.searched.cells i asked.cells (ap (λ cs. slice_get cs i) known.searched.cells ∙ asked.at)

module _ (searched : KeptPartsAreSearched) (sheet : Sheet) (theory : TheoryView) (formed : IsWellFormed sheet) (known : IsTheory (rules_alone sheet) theory) (i : ℕ) (cells : List CellId) (used : List ℕ) (own : List Var)
    (at_cells : slice_get theory.searched.cells i ≡ Some cells) (at_used : slice_get theory.searched.axioms i ≡ Some used) (at_own : slice_get theory.searched.variables i ≡ Some own)
    (banned : List (Option Bool)) (at_banned : banned ≡ theory.searched.banned) where
  abbrev parts : AreSearchedParts (rules_alone sheet) theory.searched
  parts = searched_parts (rules_alone sheet) theory.components theory.searched known.components known.searched

  ready : IsReady sheet theory.ground theory.searched
  ready = ready_there sheet theory formed known

  pub found : (part : Part) × IsPartAt sheet theory.searched i part cells used own
  found = part_at sheet theory.searched parts i cells at_cells used own at_used at_own

  pub consistent : AreRulesConsistent sheet
  consistent = consistent_by sheet theory.base (base_here sheet theory.base known.base)

  abbrev pub problem : Problem
  problem = record { axioms = theory.ground.clauses; used = used; own = own; banned = banned }

  is_problem : problem ≡ problem_of sheet used own theory.searched.banned
  is_problem = let make : Grounded → Problem = λ g. record { axioms = g.clauses; used = used; own = own; banned = banned } in ap make ready.ground_is ∙ ap (problem_of sheet used own) at_banned

  pub ground_is : theory.ground ≡ grounded sheet
  ground_is = ready.ground_is

  pub base_is : IsFitting sheet theory.base
  base_is = base_here sheet theory.base known.base

  pub problem_right : IsProblem theory.ground.variables problem
  problem_right =
      subst (λ bs. IsProblem theory.ground.variables (record { axioms = theory.ground.clauses; used = used; own = own; banned = bs })) (sym at_banned)
      (problem_here sheet theory.ground used own theory.searched.banned ready.ground_is ((searched_at searched sheet theory.ground theory.searched ready i found.0 cells used own found.1).problem ready.few))

  part_right : (entries : List Entry) → entries ≡ entries_on (map number_of cells) sheet.entries → IsPartOf sheet found.0 cells entries problem
  part_right entries are = subst (IsPartOf sheet found.0 cells entries) (sym is_problem) (is_part searched sheet theory.ground theory.searched ready i found.0 cells used own found.1 entries are consistent)

  -- the part of that number is this one
  pub same_part : (p : Part) → IsPartNumbered (rules_alone sheet) i p → found.0 ≡ p
  same_part p numbered = same_some (sym found.1.numbered ∙ numbered)

  pub part_of : (p : Part) (entries : List Entry) → IsPartNumbered (rules_alone sheet) i p → entries ≡ entries_on (map number_of cells) sheet.entries → IsPartOf sheet p cells entries problem
  part_of p entries numbered are = subst (λ q. IsPartOf sheet q cells entries problem) (same_part p numbered) (part_right entries are)

  module _ (ts : List Target) (asked : AreAsked (cell_sizes sheet.universe) theory.components i ts) where
    same_cells : asked.cells ≡ cells
    same_cells = same_some (sym asked.at ∙ (ap (λ cs. slice_get cs i) (sym known.searched.cells) ∙ at_cells))

    on_cells : All (Contains (targets_on (cell_sizes sheet.universe) cells)) ts
    on_cells = subst (λ cs. All (Contains (targets_on (cell_sizes sheet.universe) cs)) ts) same_cells asked.on

    few_cells : length ts ≤ length (targets_on (cell_sizes sheet.universe) cells)
    few_cells = subst (λ cs. length ts ≤ length (targets_on (cell_sizes sheet.universe) cs)) same_cells asked.few

    pub few_targets : length (cell_sizes sheet.universe) ≤ 4096 → length ts ≤ 2 ^ 21
    few_targets few =
        omega (arith, few_cells, few_on (cell_sizes sheet.universe) cells (size_few sheet.universe formed.universe) (omega (arith, few, few_here sheet theory.searched parts i cells at_cells)))

    pub searched_of : (entries : List Entry) → entries ≡ entries_on (map number_of cells) sheet.entries → AreSearchedOf sheet cells entries problem ts
    searched_of entries are = record { part = found.0; is_part = part_right entries are; targets_on = all_on sheet found.0 cells ts found.1.cells_are on_cells }

    pub asked_of : (entries : List Entry) (worlds : List WorldView) → entries ≡ entries_on (map number_of cells) sheet.entries → ((p : Part) → IsPartNumbered (rules_alone sheet) i p → AreWorldsOf sheet p worlds)
        → AreAskedOf sheet entries problem worlds ts
    asked_of entries worlds are worlds_are = record {
      part = found.0;
      cells = cells;
      is_part = part_right entries are;
      worlds_are = worlds_are found.0 found.1.numbered;
      targets_on = all_on sheet found.0 cells ts found.1.cells_are on_cells;
    }

    -- what was spent on a blank place
    module _ (none : NoneIsContainedByPolarity) (before place : PartSpending) (blank : IsBlankOn i before) (number : place.part ≡ before.part) where
      alone_if : IsSearchedSpending sheet found.0 used own theory.searched.banned place → IsSpentAlone sheet theory.components i place
      alone_if spent touched p numbered is_touched =
          let on : IsSearchedOn sheet touched theory.searched place =
          record {
            part = p;
            used = used;
            own = own;
            numbered = subst (λ n. IsPartNumbered (rules_alone sheet) n p) (sym (number ∙ blank.number)) numbered;
            used_are = ap (slice_get theory.searched.axioms) (number ∙ blank.number) ∙ at_used;
            own_are = ap (slice_get theory.searched.variables) (number ∙ blank.number) ∙ at_own;
            is_touched = is_touched;
            spent = subst (λ q. IsSearchedSpending sheet q used own theory.searched.banned place) (same_part p numbered) spent;
          } in
          (spent_whole none sheet formed theory.components theory.searched known.components known.searched touched place on, spent.spare)

      nothing_placed : before.tally.placed ≤ length own * (before.tally.learned + before.tally.calls)
      nothing_placed = omega (arith, blank.none_placed)

      no_marks : sum_by marked before.logs.items ≡ before.tally.learned
      no_marks = ap (sum_by marked) blank.no_logs ∙ sym blank.none_learned

      pub alone_after : (most : ℕ) → AreFewWithTargets (sheet_of sheet found.0) (length ts) most → SpendsOver (length own) before.tally place.tally (marked_in before.logs.items) (marked_in place.logs.items) most
          → (length place.logs.items ≤ 3) × All (IsSearchedLog sheet found.0 used own theory.searched.banned) place.logs.items → IsSpentAlone sheet theory.components i place
      alone_after most few spends logs =
          alone_if (spent_more sheet theory.searched i found.0 cells used own found.1 consistent before.tally before.logs.items place most (length ts) few few_cells spends
          (omega (arith, blank.none_learned)) nothing_placed no_marks (omega (arith, blank.no_calls)) logs.0 logs.1)

      pub alone_of_part : (entries : List Entry) → entries ≡ entries_on (map number_of cells) sheet.entries
          → ((p : Part) → IsPartOf sheet p cells entries problem → AddsLogs 3 (IsSearchLog (sheet_of sheet p) problem) before.logs.items place.logs.items)
          → ((most : ℕ) × ((p : Part) → IsPartOf sheet p cells entries problem → AreFewWithTargets (sheet_of sheet p) (length ts) most)
          × SpendsOver (length own) before.tally place.tally (marked_in before.logs.items) (marked_in place.logs.items) most) → IsSpentAlone sheet theory.components i place
      alone_of_part entries are logs spends =
          let here = part_right entries are in
          let added = subst (λ q. AddsLogs 3 (IsSearchLog (sheet_of sheet found.0) q) before.logs.items place.logs.items) is_problem (logs found.0 here) in
          alone_after spends.0 (spends.1 found.0 here) spends.2 (logs_added sheet used own theory.searched.banned found.0 3 before.logs.items place.logs.items consistent (omega arith) blank.no_logs added)

      pub alone_of_reasons : (entries : List Entry) (worlds : List WorldView) → entries ≡ entries_on (map number_of cells) sheet.entries → ((p : Part) → IsPartNumbered (rules_alone sheet) i p → AreWorldsOf sheet p worlds)
          → AddsLogs 1 (IsSolverLog problem []) before.logs.items place.logs.items
          → SpendsOver (length own) before.tally place.tally (marked_in before.logs.items) (marked_in place.logs.items) (length ts * (length worlds * (length entries + 2))) → IsSpentAlone sheet theory.components i place
      alone_of_reasons entries worlds are worlds_are logs spends =
          let here = part_right entries are in
          let sheet_p = sheet_of sheet found.0 in
          let exact = (worlds_are found.0 found.1.numbered).exact in
          let lawful = subst (λ q. AddsLogs 1 (IsSolverLog q []) before.logs.items place.logs.items) is_problem logs in
          let added : AddsLogs 1 (IsSearchLog sheet_p (problem_of sheet used own theory.searched.banned)) before.logs.items place.logs.items =
          record { added = lawful.added; is = lawful.is; few = lawful.few; each = λ k d below. without_blocks sheet_p (problem_of sheet used own theory.searched.banned) (get_or lawful.added k d) (lawful.each k d below) } in
          let many : length sheet_p.entries ≡ length entries = ap length here.searched.entries_are in
          let few : AreFewWithTargets sheet_p (length ts) (length ts * (length worlds * (length entries + 2))) =
          λ sets listed. subst (λ n. length ts * (length worlds * (n + 2)) ≤ length sets * (length ts + 1) * (length sheet_p.entries + 2) + 1) many
          (omega (arith, few_with sheet_p worlds (length ts) 0 (length worlds) exact refl (λ others all. omega arith) sets listed)) in
          alone_after (length ts * (length worlds * (length entries + 2))) few spends (logs_added sheet used own theory.searched.banned found.0 1 before.logs.items place.logs.items consistent (omega arith) blank.no_logs added)

      -- the same, where room was made for the logs
      pub alone_reserved : (mid : List (List LogLine)) → mid ≡ before.logs.items → (entries : List Entry) → entries ≡ entries_on (map number_of cells) sheet.entries
          → ((p : Part) → IsPartOf sheet p cells entries problem → AddsLogs 3 (IsSearchLog (sheet_of sheet p) problem) mid place.logs.items)
          → ((most : ℕ) × ((p : Part) → IsPartOf sheet p cells entries problem → AreFewWithTargets (sheet_of sheet p) (length ts) most)
          × SpendsOver (length own) before.tally place.tally (marked_in mid) (marked_in place.logs.items) most) → IsSpentAlone sheet theory.components i place
      alone_reserved mid same entries are logs spends =
          alone_of_part entries are (λ p is. subst (λ ls. AddsLogs 3 (IsSearchLog (sheet_of sheet p) problem) ls place.logs.items) same (logs p is))
          (spends.0, spends.1, subst (λ ls. SpendsOver (length own) before.tally place.tally (marked_in ls) (marked_in place.logs.items) spends.0) same spends.2)

      -- nothing was spent
      pub alone_blank : place.tally ≡ before.tally → place.logs.items ≡ before.logs.items → IsSpentAlone sheet theory.components i place
      alone_blank same_tally same_logs =
          alone_if (record {
            placed = subst (λ (t : Tally). t.placed ≤ length own * (t.learned + t.calls)) (sym same_tally) nothing_placed;
            spare = subst (λ (t : Tally). t.learned ≤ t.placed + t.calls) (sym same_tally) (omega (arith, blank.none_learned));
            few_calls = λ sets listed. omega (arith, ap (λ (t : Tally). t.calls) same_tally, blank.no_calls);
            few_logs = omega (arith, ap length same_logs, ap length blank.no_logs);
            learned = ap (sum_by marked) same_logs ∙ (no_marks ∙ ap (λ (t : Tally). t.learned) (sym same_tally));
            logs = λ k d below. absurd (omega (arith, below, ap length same_logs, ap length blank.no_logs));
          })
