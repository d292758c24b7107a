-- One part's search, and one more part that is searched.
use Rattle.std.proofs.Common.{◌≡◌, ℕ, zero, suc, ◌+◌, ◌*◌, ◌<◌, ◌≤◌, inl, inr, Bool, List, [], ◌∷◌, ◌++◌, length, sum_by, get_or, set, All, Contains, Option, None, Some, IfSome, slice_get, refl, ap, sym, ◌∙◌, subst, arith}
use Rattle.std.proofs.lemmas.List.{get_or-set_other, get_or-set_same, length-set, length_push}
use Rattle.std.proofs.lemmas.List.Sums.{sum_by-set}
use Rattle.std.proofs.lemmas.List.Elements.{All-nil, All-cons, All-append, Contains-append_cases}
use Rattle.std.proofs.lemmas.Bool.{cases_eq}
use Rattle.std.proofs.Math.Nat.{mul-le-mul_left}
use Rattle.pc_lemmas.proofs.Elements.{contains_none}
use Rattle.pc_lits.specs.declared.literal.Var.{Var}
use Rattle.pc_lits.specs.declared.tally.Tally.{Tally}
use Rattle.pc_log.specs.Lines.{LogLine}
use Rattle.pc_sheet.specs.Sheet.{Sheet}
use Rattle.pc_sheet.specs.Entailment.{cell_sizes}
use Rattle.pc_sheet.specs.MaximalSets.{AreRulesConsistent, ListsExactly, IsMaximalSet}
use Rattle.pc_sheet.specs.declared.ids.CellId.{CellId}
use Rattle.pc_sheet.specs.declared.ids.Entry.{Entry}
use Rattle.pc_sheet.specs.declared.ids.Target.{Target}
use Rattle.pc_parts.specs.Parts.{Part}
use Rattle.pc_parts.specs.PartSheets.{sheet_of}
use Rattle.pc_components.specs.View.{Kept}
use Rattle.pc_reason.specs.Reasons.{Justification}
use Rattle.pc_reason.specs.Targets.{IsTargetIn}
use Rattle.pc_justify_laws.specs.Reasons.{IsRowFor}
use Rattle.pc_cache.specs.Rows.{TargetRow, row_after}
use Rattle.pc_world_list.specs.Worlds.{WorldView}
use Rattle.pc_solver.specs.Solver.{SuspendedView, IsSolverLog}
use Rattle.pc_solver.specs.Spending.{marked, SpendsOver}
use Rattle.pc_solver.specs.declared.stop.Stop.{Stop}
use Rattle.pc_solver.specs.declared.stop.Stop.TheVariants.{Spent, Memory}
use Rattle.pc_problem.specs.Laws.{problem_of}
use Rattle.pc_search.specs.Found.{steps_in}
use Rattle.pc_search.specs.Parts.{AreWorldsOf}
use Rattle.pc_search.specs.Spending.{IsSearchLog, AreFewWithTargets}
use Rattle.pc_worlds.specs.Parts.{AddsLogs, marked_in}
use Rattle.pc_theory.specs.Theories.{rules_alone, IsPartNumbered}
use Rattle.pc_theory.specs.Targets.{targets_on, target_count}
use Rattle.pc_theory.specs.inside.Tasks.{IsPartAt}
use Rattle.pc_theory.specs.Spendings.{IsSetOf, AreFewCalls, placed_of, learned_of, calls_of}
use Rattle.pc_theory.specs.inside.Spent.{IsSearchedLog, IsSearchedSpending, IsSearchedOn}
use Rattle.pc_theory.specs.inside.Starting.{ArePlaces, IsStarted}
use Rattle.pc_theory.specs.inside.Searching.{FindsIn, IsMoved, StopMoves, StopPlaces, work_of, AreSearched}
use Rattle.pc_theory.specs.declared.spending.PartSpending.{PartSpending}
use Rattle.pc_lemmas.proofs.Options.{same_some}
use Rattle.pc_theory.proofs.Lists.{none_some, sum_has, get_early, get_last}
use Rattle.pc_theory.proofs.OnCells.{many_on, target_on, on_target}
use Rattle.pc_theory.proofs.Changes.{after_more, comes, change_of}

-- ---- what is spent

more_placed : (own a b l c r p : ℕ) → a ≤ own * (l + c) → b ≤ a + own * (r + p) → b ≤ own * ((l + r) + (c + p))
more_placed own a b l c r p h k = grind arith

more_calls : (s t n e : ℕ) → t ≤ n → s * (t + 1) * e ≤ s * (n + 1) * e
more_calls s t n e up =
    let a : (s * e) * (t + 1) ≤ (s * e) * (n + 1) = mul-le-mul_left (s * e) (omega (arith, up)) in
    let left : s * (t + 1) * e ≡ (s * e) * (t + 1) = grind arith in
    let right : s * (n + 1) * e ≡ (s * e) * (n + 1) = grind arith in
    omega (arith, a, left, right)

-- maximal sets of the part are those of its sheet
sets_of : (sheet : Sheet) (part : Part) (sets : List (List Entry)) → AreRulesConsistent sheet → ListsExactly (List Entry) (IsSetOf sheet part) sets → ListsExactly (List Entry) (IsMaximalSet (sheet_of sheet part)) sets
sets_of sheet part sets consistent listed = record { exact = λ s. (λ has. ((listed.exact s).0 has).1, λ is. (listed.exact s).1 (consistent, is)); different = listed.different }

pub good_log : (sheet : Sheet) (part : Part) (used : List ℕ) (own : List Var) (banned : List (Option Bool)) (log : List LogLine) → AreRulesConsistent sheet → IsSearchLog (sheet_of sheet part) (problem_of sheet used own banned) log → IsSearchedLog sheet part used own banned log
good_log sheet part used own banned log consistent h = record { blocks = h.blocks; lawful = h.lawful; of_sets = λ b has. let r = h.of_sets b has in (r.0, (consistent, r.1), r.2) }

module _ (sheet : Sheet) (kept : Kept) (number : ℕ) (part : Part) (cells : List CellId) (used : List ℕ) (own : List Var) (at : IsPartAt sheet kept number part cells used own) (consistent : AreRulesConsistent sheet)
    (before : Tally) (logs_before : List (List LogLine)) (place : PartSpending) (most targets : ℕ) (few : AreFewWithTargets (sheet_of sheet part) targets most) (many : targets ≤ length (targets_on (cell_sizes sheet.universe) cells))
    (spends : SpendsOver (length own) before place.tally (marked_in logs_before) (marked_in place.logs.items) most) (spare : before.learned ≤ before.placed + before.calls)
    (placed : before.placed ≤ length own * (before.learned + before.calls)) (learned : sum_by marked logs_before ≡ before.learned) (one : before.calls ≤ 1)
    (few_logs : length place.logs.items ≤ 3) (good_logs : All (IsSearchedLog sheet part used own kept.banned) place.logs.items) where
  few_calls : AreFewCalls sheet part place.tally.calls
  few_calls sets listed =
      let bound = few sets (sets_of sheet part sets consistent listed) in
      let count : length (targets_on (cell_sizes sheet.universe) cells) ≡ target_count (cell_sizes sheet.universe) part.cells =
      many_on (cell_sizes sheet.universe) cells ∙ ap (target_count (cell_sizes sheet.universe)) at.cells_are
      in
      let n : ℕ = target_count (cell_sizes sheet.universe) part.cells in
      let e : ℕ = length (sheet_of sheet part).entries in
      let up : length sets * (targets + 1) * (e + 2) ≤ length sets * (n + 1) * (e + 2) = more_calls (length sets) targets n (e + 2) (omega (arith, many, count)) in
      omega (arith, spends.calls, spends.few, bound, up, one)

  all_placed : place.tally.placed ≤ length own * (place.tally.learned + place.tally.calls)
  all_placed =
      let h = more_placed (length own) before.placed place.tally.placed before.learned before.calls spends.rose spends.called placed spends.bounded in
      let same : (before.learned + spends.rose) + (before.calls + spends.called) ≡ place.tally.learned + place.tally.calls = omega (arith, spends.learned, spends.calls) in
      subst (λ n. place.tally.placed ≤ length own * n) same h

  pub spent_more : IsSearchedSpending sheet part used own kept.banned place
  spent_more = record {
    placed = all_placed;
    spare = omega (arith, spare, spends.spare, spends.learned, spends.calls);
    few_calls = few_calls;
    few_logs = few_logs;
    learned = omega (arith, spends.marks, learned, spends.learned);
    logs = good_logs;
  }

pub logs_added : (sheet : Sheet) (used : List ℕ) (own : List Var) (banned : List (Option Bool)) (part : Part) (most : ℕ) (old logs : List (List LogLine)) → AreRulesConsistent sheet → most ≤ 3 → old ≡ [] → AddsLogs most (IsSearchLog (sheet_of sheet part) (problem_of sheet used own banned)) old logs
    → (length logs ≤ 3) × All (IsSearchedLog sheet part used own banned) logs
logs_added sheet used own banned part most old logs consistent small none h =
    let is : logs ≡ h.added = h.is ∙ ap (λ xs. xs ++ h.added) none in
    subst (λ ls. (length ls ≤ 3) × All (IsSearchedLog sheet part used own banned) ls) (sym is) (omega (arith, h.few, small), λ i d below. good_log sheet part used own banned (get_or h.added i d) consistent (h.each i d below))

-- and the solver's log behind those of the listing
pub logs_behind : (sheet : Sheet) (used : List ℕ) (own : List Var) (banned : List (Option Bool)) (part : Part) (old mid logs : List (List LogLine)) (log : List LogLine) → AreRulesConsistent sheet → old ≡ [] → AddsLogs 2 (IsSearchLog (sheet_of sheet part) (problem_of sheet used own banned)) old mid
    → IsSolverLog (problem_of sheet used own banned) [] log → logs ≡ mid ++ log ∷ [] → (length logs ≤ 3) × All (IsSearchedLog sheet part used own banned) logs
logs_behind sheet used own banned part old mid logs log consistent none h lawful behind =
    let two = logs_added sheet used own banned part 2 old mid consistent (omega arith) none h in
    let is : mid ≡ h.added = h.is ∙ ap (λ xs. xs ++ h.added) none in
    let last : IsSearchedLog sheet part used own banned log = record { blocks = []; lawful = lawful; of_sets = λ b has. absurd (contains_none b has) } in
    subst (λ ls. (length ls ≤ 3) × All (IsSearchedLog sheet part used own banned) ls) (sym behind)
    (omega (arith, length_push mid log, ap length is, h.few), All-append (IsSearchedLog sheet part used own banned) mid (log ∷ []) two.1 (All-cons (IsSearchedLog sheet part used own banned) log [] last (All-nil (IsSearchedLog sheet part used own banned))))

-- ---- a part that was moved on

pub places_set : (sheet : Sheet) (kept : Kept) (spent more i : ℕ) (parts : List PartSpending) (place : PartSpending) (d : PartSpending) → ArePlaces sheet kept spent parts → i < length parts
    → IsMoved sheet kept spent (get_or parts i d) more place → ArePlaces sheet kept more (set parts i place)
places_set sheet kept spent more i parts place d are below moved = record {
  sum = omega (arith, are.sum, moved.placed, sum_by-set placed_of parts i place d below);
  numbered = λ j e within. elim (cases_eq j i) [
    | inl is ↦
        let number : PartSpending → ℕ = λ p. p.part in
        ap (λ k. (get_or (set parts i place) k e).part) is ∙ (ap number (get_or-set_same parts i place e below) ∙ (moved.numbered ∙ (are.numbered i d below ∙ sym is)))
    | inr other ↦ (let number : PartSpending → ℕ = λ p. p.part in ap number (get_or-set_other parts i j place e other)) ∙ are.numbered j e (omega (arith, within, length-set parts i place))
  ];
  each = λ j e within. elim (cases_eq j i) [
    | inl is ↦ subst (IsSearchedOn sheet None kept) (sym (ap (λ k. get_or (set parts i place) k e) is ∙ get_or-set_same parts i place e below)) moved.spent_on
    | inr other ↦ subst (IsSearchedOn sheet None kept) (sym (get_or-set_other parts i j place e other)) (are.each j e (omega (arith, within, length-set parts i place)))
  ];
}

module _ (sheet : Sheet) (kept : Kept) (n spent more : ℕ) (worlds : List (List WorldView)) (changes changes_after : List TargetRow) (parts : List PartSpending) (d place : PartSpending)
    (searched : AreSearched sheet kept n worlds changes spent parts) (below : n < length parts) (moved : IsMoved sheet kept spent (get_or parts n d) more place) (number : place.part ≡ n)
    (finds : FindsIn sheet kept place changes changes_after) (found : List WorldView) (found_worlds : (p : Part) → IsPartNumbered (rules_alone sheet) n p → AreWorldsOf sheet p found) where
  abbrev most : ℕ
  most = place.tally.learned + place.tally.calls

  abbrev ts : List Target
  ts = targets_on (cell_sizes sheet.universe) finds.cells

  now : (t : Target) → row_after changes_after t None ≡ row_after finds.finds.rows t (row_after changes t None)
  now t = ap (λ cs. row_after cs t None) finds.finds.added ∙ after_more changes finds.finds.rows t None

  answered : (t : Target) → IsTargetIn sheet.universe t → (j : ℕ) (cells : List CellId) → j < n + 1 → slice_get kept.cells j ≡ Some cells → Contains cells t.cell → IsRowFor sheet t (row_after changes_after t None)
  answered t is j cells within at on =
      subst (IsRowFor sheet t) (sym (now t))
      (elim (comes sheet most ts finds.finds.rows finds.finds.each t (row_after changes t None)) [
        | inl right ↦ right.1.0
        | inr none ↦ elim (cases_eq j n) [
          | inl last ↦
              let same : finds.cells ≡ cells = same_some (sym finds.at ∙ (ap (slice_get kept.cells) (number ∙ sym last) ∙ at)) in
              absurd (none.0 (target_on sheet.universe finds.cells t (subst (λ cs. Contains cs t.cell) (sym same) on) is))
          | inr other ↦ subst (IsRowFor sheet t) (sym none.1) (searched.answered t is j cells (omega (arith, within, other)) at on)
        ]
      ])

  work_up : work_of parts ≤ work_of (set parts n place)
  work_up = omega (arith, moved.learned, moved.calls, sum_by-set learned_of parts n place d below, sum_by-set calls_of parts n place d below)

  work_has : most ≤ work_of (set parts n place)
  work_has =
      let there : n < length (set parts n place) = omega (arith, below, length-set parts n place) in
      let same = get_or-set_same parts n place d below in
      omega (arith, sum_has learned_of (set parts n place) n d there, sum_has calls_of (set parts n place) n d there, ap learned_of same, ap calls_of same)

  few_steps : (t : Target) (k : Justification) → row_after changes_after t None ≡ Some k → steps_in k.lines ≤ work_of (set parts n place)
  few_steps t k is = elim (comes sheet most ts finds.finds.rows finds.finds.each t (row_after changes t None)) [
    | inl right ↦
        let few : steps_in k.lines ≤ most = subst (λ o. IfSome o (λ j. steps_in j.lines ≤ most)) (sym (now t) ∙ is) right.1.1 in
        omega (arith, few, work_has)
    | inr none ↦
        let few = searched.only t k (sym none.1 ∙ (sym (now t) ∙ is)) in
        omega (arith, few, work_up)
  ]

  worlds_after : (j : ℕ) (p : Part) → j < n + 1 → IsPartNumbered (rules_alone sheet) j p → AreWorldsOf sheet p (get_or (worlds ++ found ∷ []) j [])
  worlds_after j p within at = elim (cases_eq j n) [
    | inl last ↦ subst (AreWorldsOf sheet p) (sym (get_last worlds found [] j (last ∙ sym searched.count))) (found_worlds p (subst (λ k. IsPartNumbered (rules_alone sheet) k p) last at))
    | inr other ↦
        let early : j < n = omega (arith, within, other) in
        subst (AreWorldsOf sheet p) (sym (get_early worlds found [] j (omega (arith, early, searched.count)))) (searched.worlds_of j p early at)
  ]

  targets : (r : TargetRow) → Contains changes_after r → IsTargetIn sheet.universe r.target
  targets r has = elim (Contains-append_cases changes finds.finds.rows r (subst (λ cs. Contains cs r) finds.finds.added has)) [
    | inl old ↦ searched.targets r old
    | inr new ↦ (on_target sheet.universe finds.cells r.target (change_of sheet most ts finds.finds.rows finds.finds.each r new)).1
  ]

  pub searched_more : AreSearched sheet kept (n + 1) (worlds ++ found ∷ []) changes_after more (set parts n place)
  searched_more = record {
    count = omega (arith, length_push worlds found, searched.count);
    worlds_of = worlds_after;
    answered = answered;
    only = few_steps;
    targets = targets;
    places = places_set sheet kept spent more n parts place d searched.places below moved;
  }

-- ---- the places that are still to be searched

pub later_started : (sheet : Sheet) (kept : Kept) (n : ℕ) (parts : List PartSpending) (solvers rest : List SuspendedView) (place : PartSpending) (s : SuspendedView) → solvers ≡ s ∷ rest
    → ((k : ℕ) (d : PartSpending) (e : SuspendedView) → k < length solvers → IsStarted sheet kept (get_or parts (n + k) d) (get_or solvers k e))
    → (k : ℕ) (d : PartSpending) (e : SuspendedView) → k < length rest → IsStarted sheet kept (get_or (set parts n place) (n + 1 + k) d) (get_or rest k e)
later_started sheet kept n parts solvers rest place s is started k d e within =
    let all = subst (λ (q : List SuspendedView). (k : ℕ) (d : PartSpending) (e : SuspendedView) → k < length q → IsStarted sheet kept (get_or parts (n + k) d) (get_or q k e)) is started in
    let next : IsStarted sheet kept (get_or parts (n + suc k) d) (get_or rest k e) = all (suc k) d e (omega (arith, within)) in
    let same : n + suc k ≡ n + 1 + k = omega arith in
    subst (λ p. IsStarted sheet kept p (get_or rest k e)) (sym (get_or-set_other parts n (n + 1 + k) place d (λ at. omega (arith, at))))
    (subst (λ (m : ℕ). IsStarted sheet kept (get_or parts m d) (get_or rest k e)) same next)

pub started_at : (sheet : Sheet) (kept : Kept) (n : ℕ) (parts : List PartSpending) (solvers rest : List SuspendedView) (place : PartSpending) (s : SuspendedView) → solvers ≡ s ∷ rest
    → ((k : ℕ) (d : PartSpending) (e : SuspendedView) → k < length solvers → IsStarted sheet kept (get_or parts (n + k) d) (get_or solvers k e)) → place ≡ get_or parts n place → IsStarted sheet kept place s
started_at sheet kept n parts solvers rest place s is started is_place =
    let all = subst (λ (q : List SuspendedView). (k : ℕ) (d : PartSpending) (e : SuspendedView) → k < length q → IsStarted sheet kept (get_or parts (n + k) d) (get_or q k e)) is started in
    let first : IsStarted sheet kept (get_or parts (n + zero) place) s = all zero place s (omega arith) in
    let same : n + zero ≡ n = omega arith in
    subst (λ p. IsStarted sheet kept p s) (sym is_place) (subst (λ (m : ℕ). IsStarted sheet kept (get_or parts m place) s) same first)

-- at first none is searched
pub all_started : (sheet : Sheet) (kept : Kept) (parts : List PartSpending) (solvers : List SuspendedView) → length solvers ≡ length parts
    → ((j : ℕ) (d : PartSpending) (e : SuspendedView) → j < length parts → IsStarted sheet kept (get_or parts j d) (get_or solvers j e))
    → (k : ℕ) (d : PartSpending) (e : SuspendedView) → k < length solvers → IsStarted sheet kept (get_or parts (0 + k) d) (get_or solvers k e)
all_started sheet kept parts solvers many started k d e below =
    let same : k ≡ 0 + k = omega arith in
    subst (λ (m : ℕ). IsStarted sheet kept (get_or parts m d) (get_or solvers k e)) same (started k d e (omega (arith, below, many)))

-- what was spent when the budget ran out
pub stop_places : (sheet : Sheet) (kept : Kept) (budget spent more i : ℕ) (parts : List PartSpending) (before place : PartSpending) (stop : Stop) → ArePlaces sheet kept spent parts → i < length parts → before ≡ get_or parts i before
    → StopMoves sheet kept budget spent before more place stop → StopPlaces sheet kept budget more (set parts i place) stop
stop_places sheet kept budget spent more i parts before place Spent are below is h = (h.0, places_set sheet kept spent more i parts place before are below (subst (λ p. IsMoved sheet kept spent p more place) is h.1))
stop_places sheet kept budget spent more i parts before place Memory are below is h = tt

-- no part is searched yet
pub none_searched : (sheet : Sheet) (kept : Kept) (worlds : List (List WorldView)) (changes : List TargetRow) (spent : ℕ) (parts : List PartSpending) → worlds ≡ [] → changes ≡ [] → ArePlaces sheet kept spent parts
    → AreSearched sheet kept 0 worlds changes spent parts
none_searched sheet kept worlds changes spent parts no_worlds none are = subst (λ ws. AreSearched sheet kept 0 ws changes spent parts) (sym no_worlds) (subst (λ cs. AreSearched sheet kept 0 [] cs spent parts) (sym none)
    (record {
      count = refl;
      worlds_of = λ j p below at. absurd (omega (arith, below));
      answered = λ t is j cells below at on. absurd (omega (arith, below));
      only = λ t k is. absurd (none_some is);
      targets = λ r has. absurd (contains_none r has);
      places = are;
    }))
