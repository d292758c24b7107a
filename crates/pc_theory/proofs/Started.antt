-- The first call of a part.
use Rattle.std.proofs.Common.{◌≡◌, ◌≢◌, ℕ, ◌+◌, ◌*◌, ◌<◌, ◌≤◌, inl, inr, Bool, List, [], ◌∷◌, ◌++◌, map, length, sum_by, get_or, All, Contains, Option, None, Some, slice_get, refl, ap, sym, ◌∙◌, subst, arith}
use Rattle.std.proofs.lemmas.List.{length_push}
use Rattle.std.proofs.lemmas.Option.{get_or_from_slice_get}
use Rattle.std.proofs.lemmas.List.Elements.{All-nil, All-cons, All-append}
use Rattle.std.proofs.lemmas.List.Sums.{sum_by-cons}
use Rattle.std.proofs.lemmas.Bool.{cases_lt}
use Rattle.pc_lemmas.proofs.Elements.{contains_first, contains_map, contains_none}
use Rattle.pc_lits.specs.declared.literal.Var.{Var}
use Rattle.pc_lits.specs.declared.literal.Lit.{Lit}
use Rattle.pc_lits.specs.declared.tally.Tally.{Tally}
use Rattle.pc_lits.specs.Truth.{IsTrueUnder}
use Rattle.pc_log.specs.declared.log.StepId.{StepId}
use Rattle.pc_log.specs.Lines.{LogLine}
use Rattle.pc_sheet.specs.Sheet.{Sheet}
use Rattle.pc_sheet.specs.Entailment.{cell_sizes, IsAssignment, Fits}
use Rattle.pc_sheet.specs.declared.ids.CellId.{CellId}
use Rattle.pc_sheet.specs.declared.ids.ValueId.{ValueId}
use Rattle.pc_ground.specs.Ground.{clauses}
use Rattle.pc_ground.specs.GroundView.{Grounded}
use Rattle.pc_ground.specs.Grounded.{grounded}
use Rattle.pc_ground.specs.Variables.{variable_count}
use Rattle.pc_parts.specs.Parts.{Part}
use Rattle.pc_parts.specs.PartSheets.{sheet_of}
use Rattle.pc_parts.specs.Components.{parts_of}
use Rattle.pc_parts.specs.Laws.{AgreeAt}
use Rattle.pc_components.specs.Pairs.{pair_var}
use Rattle.pc_components.specs.Used.{MeetsUsed, HasValues}
use Rattle.pc_components.specs.View.{Kept, number_of}
use Rattle.pc_justify_laws.specs.Found.{clause_at_place, HasNoBlock}
use Rattle.pc_justify_laws.specs.Laws.{OwnLinesAreNamed}
use Rattle.pc_lits.specs.Clauses.{IsOverNegated}
use Rattle.pc_solver.specs.Answers.{truth_in, MeetsEach}
use Rattle.pc_solver.specs.Solver.{Problem, SolverView, SuspendedView, SuspendedHasLog, IsProblem, IsSolverLog, HasLog, Spends, clauses_used}
use Rattle.pc_solver.specs.Spending.{marked}
use Rattle.pc_problem.specs.Laws.{problem_of, AreSearchedBy}
use Rattle.pc_kept.specs.Laws.{KeptPartsAreSearched}
use Rattle.pc_search.specs.Found.{steps_in}
use Rattle.pc_search.proofs.EachLemmas.{steps_split}
use Rattle.pc_theory.specs.declared.stop.Halt.{Halt}
use Rattle.pc_theory.specs.declared.stop.Halt.TheVariants.{Inconsistent, Spent, Memory}
use Rattle.pc_theory.specs.Theories.{rules_alone, IsPartNumbered}
use Rattle.pc_theory.specs.inside.Tasks.{IsReady, IsPartAt}
use Rattle.pc_theory.specs.Reading.{HasPairs}
use Rattle.pc_theory.specs.Spendings.{placed_of}
use Rattle.pc_theory.specs.inside.Spent.{IsSearchedLog, IsSearchedSpending, IsSearchedOn}
use Rattle.pc_theory.specs.inside.Starting.{ArePlaces, IsStarted, AreStarted, HaltSays}
use Rattle.pc_theory.specs.inside.Calling.{IsEmptyAt, EndSays, IsCalled, IsRefused, set_aside}
use Rattle.pc_theory.specs.declared.starting.End.{End}
use Rattle.pc_theory.specs.declared.spending.PartSpending.{PartSpending}
use Rattle.pc_lemmas.proofs.Options.{same_some}
use Rattle.pc_theory.proofs.Lists.{within_at, at_within, get_early, get_last, sum_push}
use Rattle.pc_theory.proofs.Parted.{as_many_axioms, as_many_variables, part_at, searched_at, number_within}

-- ---- what is asked

pub problem_here : (sheet : Sheet) (g : Grounded) (used : List ℕ) (own : List Var) (banned : List (Option Bool)) → g ≡ grounded sheet → IsProblem (variable_count sheet) (problem_of sheet used own banned) → IsProblem g.variables (record { axioms = g.clauses; used = used; own = own; banned = banned })
problem_here sheet g used own banned is h = subst (λ x. IsProblem x.variables (record { axioms = x.clauses; used = used; own = own; banned = banned })) (sym is) h

pub problem_is : (sheet : Sheet) (g : Grounded) (used : List ℕ) (own : List Var) (banned : List (Option Bool)) (p : Problem) → g ≡ grounded sheet → p ≡ record { axioms = g.clauses; used = used; own = own; banned = banned } → p ≡ problem_of sheet used own banned
problem_is sheet g used own banned p is h = h ∙ (let make : Grounded → Problem = λ x. record { axioms = x.clauses; used = used; own = own; banned = banned } in ap make is)

-- ---- the empty clause

none_over : (clause : List Lit) → IsOverNegated [] clause → clause ≡ []
none_over [] h = refl
none_over (l ∷ ls) h = let r = h l (contains_first l ls) in absurd (contains_none r.0 r.1)

no_block : (p : Problem) (log : List LogLine) → IsSolverLog p [] log → HasNoBlock log
no_block p log lawful i number clause at = none_at (lawful.blocks_are i number clause at)
  where
    none_at : slice_get [] number ≡ Some clause → ⊥
    none_at is = absurd (cc)

lawful_here : (s : SolverView) (p : Problem) (log : List LogLine) → s.problem ≡ p → s.blocks ≡ [] → HasLog s log → IsSolverLog p [] log
lawful_here s p log is none has = subst (λ q. IsSolverLog q [] log) is (subst (λ bs. IsSolverLog s.problem bs log) none has.lawful)

pub empty_at : OwnLinesAreNamed → (sheet : Sheet) (used : List ℕ) (own : List Var) (banned : List (Option Bool)) (s : SolverView) (log : List LogLine) (last : StepId) → IsProblem (variable_count sheet) (problem_of sheet used own banned)
    → s.problem ≡ problem_of sheet used own banned → s.blocks ≡ [] → HasLog s log → last.0 < length log → IsOverNegated [] (clause_at_place s.problem.axioms log last.0) → IsEmptyAt sheet log last
empty_at named sheet used own banned s log last problem is none has stands over =
    let lawful = lawful_here s (problem_of sheet used own banned) log is none has in
    let axioms : Problem → List (List Lit) = λ p. p.axioms in
    record {
      derived = record {
        derivation = lawful.derivation;
        stands = stands;
        named = named sheet own log last.0 lawful.derivation (no_block (problem_of sheet used own banned) log lawful) problem.own_in lawful.over_own;
      };
      empty = none_over (clause_at_place (clauses sheet) log last.0) (subst (λ a. IsOverNegated [] (clause_at_place a log last.0)) (ap axioms is) over);
    }

-- ---- one call

lone : (log : List LogLine) → sum_by marked (log ∷ []) ≡ marked log
lone log = omega (arith, sum_by-cons marked log [])

module _ (sheet : Sheet) (kept : Kept) (number : ℕ) (part : Part) (cells : List CellId) (used : List ℕ) (own : List Var) (at : IsPartAt sheet kept number part cells used own)
    (place : PartSpending) (is_number : place.part ≡ number) where
  -- this was spent on it
  pub spent_there : IsSearchedSpending sheet part used own kept.banned place → IsSearchedOn sheet None kept place
  spent_there spent = record {
    part = part;
    used = used;
    own = own;
    numbered = subst (λ n. IsPartNumbered (rules_alone sheet) n part) (sym is_number) at.numbered;
    used_are = ap (slice_get kept.axioms) is_number ∙ at.used_at;
    own_are = ap (slice_get kept.variables) is_number ∙ at.own_at;
    is_touched = tt;
    spent = spent;
  }

  module _ (s : SolverView) (log : List LogLine) (blank : Tally) (problem : s.problem ≡ problem_of sheet used own kept.banned) (none : s.blocks ≡ []) (has : HasLog s log) (logs : place.logs.items ≡ log ∷ [])
      (spends : Spends (length own) blank place.tally [] log) (no_placed : blank.placed ≡ 0) (no_learned : blank.learned ≡ 0) (no_calls : blank.calls ≡ 0) where
    marks : marked log ≡ place.tally.learned
    marks = omega (arith, ap marked spends.grows.added, spends.grows.marked_lines, spends.learned, no_learned)

    steps : steps_in log ≤ place.tally.learned + place.tally.calls
    steps =
        omega (
          arith,
          ap steps_in spends.grows.added,
          steps_split spends.grows.lines,
          spends.grows.marked_lines,
          spends.grows.unmarked_lines,
          spends.one,
          spends.learned,
          spends.calls,
          no_learned,
          no_calls,
        )

    good : IsSearchedLog sheet part used own kept.banned log
    good = record { blocks = []; lawful = lawful_here s (problem_of sheet used own kept.banned) log problem none has; of_sets = λ b there. absurd (contains_none b there) }

    placed : place.tally.placed ≤ length own * (place.tally.learned + place.tally.calls)
    placed =
        let work : spends.rose + 1 ≡ place.tally.learned + place.tally.calls = omega (arith, spends.learned, spends.calls, no_learned, no_calls) in
        subst (λ n. place.tally.placed ≤ length own * n) work (omega (arith, spends.bounded, no_placed))

    part_spending : IsSearchedSpending sheet part used own kept.banned place
    part_spending = record {
      placed = placed;
      spare = omega (arith, spends.spare, spends.learned, spends.calls, no_placed, no_learned, no_calls);
      few_calls = λ sets listed. omega (arith, spends.calls, no_calls);
      few_logs = omega (arith, ap length logs);
      learned = ap (sum_by marked) logs ∙ (lone log ∙ marks);
      logs = subst (All (IsSearchedLog sheet part used own kept.banned)) (sym logs) (All-cons (IsSearchedLog sheet part used own kept.banned) log [] good (All-nil (IsSearchedLog sheet part used own kept.banned)));
    }

    pub started : IsStarted sheet kept place (set_aside s)
    unfolding spent_there
    started = record {
      spent = spent_there part_spending;
      problem = problem;
      no_blocks = none;
      only = record { log = log; only = logs; has = record { lawful = has.lawful; kept = has.kept }; steps = steps };
      one_call = omega (arith, spends.calls, no_calls);
    }

-- ---- the values of the cells

pub met_used : (axioms : List (List Lit)) (used : List ℕ) (own : List Var) (banned : List (Option Bool)) (v : Var → Bool) → MeetsEach v (clauses_used (record { axioms = axioms; used = used; own = own; banned = banned })) → MeetsUsed axioms used v
met_used axioms used own banned v meets k has clause at =
    subst (IsTrueUnder v) (get_or_from_slice_get axioms k clause [] at) (meets (get_or axioms k []) (contains_map (λ n. get_or axioms n []) used k has))

module _ (searched : KeptPartsAreSearched) (sheet : Sheet) (g : Grounded) (kept : Kept) (ready : IsReady sheet g kept) where
  -- parts with a cell in common are one
  apart : (i j : ℕ) (p q : Part) → IsPartNumbered (rules_alone sheet) i p → IsPartNumbered (rules_alone sheet) j q → i < j → (c : ℕ) → Contains p.cells c → ¬ Contains q.cells c
  apart i j p q at_p at_q less c on off =
      let parts = parts_of (rules_alone sheet) in
      let h = ready.division.apart i j p less (at_within parts j q at_q) in
      let P : Part → Type 0 = λ x. Contains x.cells c in
      h c (subst P (sym (get_or_from_slice_get parts i p p at_p)) on) (subst P (sym (get_or_from_slice_get parts j q p at_q)) off)

  pub off_others : (i j : ℕ) (p q : Part) → IsPartNumbered (rules_alone sheet) i p → IsPartNumbered (rules_alone sheet) j q → i ≢ j → (c : ℕ) → Contains p.cells c → ¬ Contains q.cells c
  off_others i j p q at_p at_q other c on off = elim (cases_lt i j) [
    | inl less ↦ apart i j p q at_p at_q less c on off
    | inr not_less ↦ apart j i q p at_q at_p (omega (arith, not_less, other)) c off on
  ]

  module _ (number : ℕ) (part : Part) (cells : List CellId) (used : List ℕ) (own : List Var) (at : IsPartAt sheet kept number part cells used own) where
    by_part : AreSearchedBy sheet (sheet_of sheet part) cells used own kept.banned
    by_part = searched_at searched sheet g kept ready number part cells used own at

    pub has_pairs : (s : SolverView) → s.problem ≡ problem_of sheet used own kept.banned → HasPairs g.sizes cells s
    has_pairs s problem =
        let sizes : Grounded → List ℕ = λ x. x.sizes in
        let own_of : Problem → List Var = λ p. p.own in
        subst (λ ns. HasPairs ns cells s) (sym (ap sizes ready.ground_is))
        (record {
          below = by_part.searched.cells_in;
          own = λ c x has below. subst (λ vs. Contains vs (pair_var (cell_sizes sheet.universe) c x)) (sym (ap own_of problem)) (by_part.searched.own_pairs c x has below);
        })

    -- the values that were read fit the part
    pub read_fits : (s : SolverView) (base : List ValueId) → s.problem ≡ problem_of sheet used own kept.banned → MeetsEach (truth_in s.trues) (clauses_used s.problem) → IsAssignment sheet.universe base
        → ((a : List ValueId) → IsAssignment sheet.universe a → HasValues (cell_sizes sheet.universe) (map number_of cells) (truth_in s.trues) a → AgreeAt (Contains (map number_of cells)) a base)
        → Fits (sheet_of sheet part) base
    read_fits s base problem meets assigns reads =
        let are_for = by_part.searched.are_for in
        let met = met_used (clauses sheet) used own kept.banned (truth_in s.trues) (subst (λ p. MeetsEach (truth_in s.trues) (clauses_used p)) problem meets) in
        let a = are_for.fits (truth_in s.trues) met in
        are_for.by_cells a.0 base a.1 assigns (reads a.0 a.1 a.3) a.2

    -- a part keeps fitting where its cells keep their values
    pub same_fits : (before now : List ValueId) → IsAssignment sheet.universe before → IsAssignment sheet.universe now → AgreeAt (Contains part.cells) before now → Fits (sheet_of sheet part) before → Fits (sheet_of sheet part) now
    same_fits before now a b same fits =
        by_part.searched.are_for.by_cells before now a b (subst (λ cs. AgreeAt (Contains cs) before now) (sym at.cells_are) same) fits

-- ---- the first call, of what is kept of the part

module _ (searched : KeptPartsAreSearched) (sheet : Sheet) (g : Grounded) (kept : Kept) (ready : IsReady sheet g kept) (i : ℕ) (cells : List CellId) (used : List ℕ) (own : List Var)
    (at_cells : slice_get kept.cells i ≡ Some cells) (at_used : slice_get kept.axioms i ≡ Some used) (at_own : slice_get kept.variables i ≡ Some own) where
  abbrev given : Problem
  given = record { axioms = g.clauses; used = used; own = own; banned = kept.banned }

  pub at_part : (part : Part) × IsPartAt sheet kept i part cells used own
  at_part = part_at sheet kept ready.components i cells at_cells used own at_used at_own

  of_sheet : IsProblem (variable_count sheet) (problem_of sheet used own kept.banned)
  of_sheet = (searched_at searched sheet g kept ready i at_part.0 cells used own at_part.1).problem ready.few

  pub first_problem : (banned : List (Option Bool)) → banned ≡ kept.banned → IsProblem g.variables (record { axioms = g.clauses; used = used; own = own; banned = banned })
  first_problem banned same = subst (λ bs. IsProblem g.variables (record { axioms = g.clauses; used = used; own = own; banned = bs })) (sym same) (problem_here sheet g used own kept.banned ready.ground_is of_sheet)

  -- as the solver is given it
  pub first_asked : (variables : ℕ) (axioms : List (List Lit)) (banned : List (Option Bool)) → variables ≡ g.variables → axioms ≡ g.clauses → banned ≡ kept.banned → IsProblem variables (record { axioms = axioms; used = used; own = own; banned = banned })
  first_asked variables axioms banned same_variables same_axioms same_banned =
      subst (λ n. IsProblem n (record { axioms = axioms; used = used; own = own; banned = banned })) (sym same_variables)
      (subst (λ a. IsProblem g.variables (record { axioms = a; used = used; own = own; banned = banned })) (sym same_axioms) (first_problem banned same_banned))

  pub first_given : (axioms : List (List Lit)) (banned : List (Option Bool)) (p : Problem) → axioms ≡ g.clauses → banned ≡ kept.banned → p ≡ record { axioms = axioms; used = used; own = own; banned = banned } → p ≡ given
  first_given axioms banned p same_axioms same_banned is =
      let of_axioms : List (List Lit) → Problem = λ a. record { axioms = a; used = used; own = own; banned = banned } in
      let of_banned : List (Option Bool) → Problem = λ bs. record { axioms = g.clauses; used = used; own = own; banned = bs } in
      is ∙ (ap of_axioms same_axioms ∙ ap of_banned same_banned)

  pub first_empty : OwnLinesAreNamed → (s : SolverView) (log : List LogLine) (last : StepId) → s.problem ≡ given → s.blocks ≡ [] → HasLog s log → last.0 < length log → IsOverNegated [] (clause_at_place s.problem.axioms log last.0) → IsEmptyAt sheet log last
  first_empty named s log last is none has stands over = empty_at named sheet used own kept.banned s log last of_sheet (problem_is sheet g used own kept.banned s.problem ready.ground_is is) none has stands over

  pub first_called : (cs s before : SolverView) (place : PartSpending) (log_before log : List LogLine) (blank tally : Tally) (end is : End) (limit : ℕ) → cs ≡ s → place.part ≡ i → place.tally ≡ tally → place.logs.items ≡ log ∷ [] → end ≡ is
      → before.problem ≡ given → s.problem ≡ before.problem → before.blocks ≡ [] → s.blocks ≡ before.blocks → HasLog s log → log_before ≡ [] → Spends (length before.problem.own) blank tally log_before log → blank.placed ≡ 0 → blank.learned ≡ 0 → blank.calls ≡ 0
      → blank.limit ≡ limit → EndSays s tally is → IsCalled sheet kept i limit cs place end
  first_called cs s before place log_before log blank tally end is limit same number is_tally logs is_end problem kept_problem none kept_blocks has new spends no_placed no_learned no_calls is_limit says =
      let here : s.problem ≡ given = kept_problem ∙ problem in
      let own_of : Problem → List Var = λ p. p.own in
      let paid : Spends (length own) blank place.tally [] log =
      subst (λ t. Spends (length own) blank t [] log) (sym is_tally) (subst (λ ls. Spends (length own) blank tally ls log) new (subst (λ vs. Spends (length vs) blank tally log_before log) (ap own_of problem) spends)) in
      let limits : place.tally.limit ≡ limit = omega (arith, paid.limit, is_limit) in
      subst (λ x. IsCalled sheet kept i limit x place end) (sym same)
      (subst (IsCalled sheet kept i limit s place) (sym is_end)
      (record {
        numbered = number;
        limit_is = limits;
        started = started sheet kept i at_part.0 cells used own at_part.1 place number s log blank (problem_is sheet g used own kept.banned s.problem ready.ground_is here) (kept_blocks ∙ none) has logs paid no_placed no_learned no_calls;
        says = subst (λ t. EndSays s t is) (sym is_tally) says;
      }))

  pub problem_there : (s : SuspendedView) (place : PartSpending) → place.part ≡ i → IsStarted sheet kept place s → s.problem ≡ problem_of sheet used own kept.banned
  problem_there s place number on =
      let us : on.spent.used ≡ used = same_some (sym on.spent.used_are ∙ (ap (slice_get kept.axioms) number ∙ at_used)) in
      let os : on.spent.own ≡ own = same_some (sym on.spent.own_are ∙ (ap (slice_get kept.variables) number ∙ at_own)) in
      on.problem ∙ (ap (λ xs. problem_of sheet xs on.spent.own kept.banned) us ∙ ap (λ ys. problem_of sheet used ys kept.banned) os)

  pub first_pairs : (s : SolverView) (place : PartSpending) → place.part ≡ i → IsStarted sheet kept place (set_aside s) → HasPairs g.sizes cells s
  first_pairs s place number on = has_pairs searched sheet g kept ready i at_part.0 cells used own at_part.1 s (problem_there (set_aside s) place number on)

-- the solver when its trail was taken away
pub aside_started : (sheet : Sheet) (kept : Kept) (place : PartSpending) (s : SolverView) (t : SuspendedView) → t.problem ≡ s.problem → t.blocks ≡ s.blocks → ((log : List LogLine) → HasLog s log → SuspendedHasLog t log)
    → IsStarted sheet kept place (set_aside s) → IsStarted sheet kept place t
aside_started sheet kept place s t problem blocks logged on = record {
  spent = on.spent;
  problem = problem ∙ on.problem;
  no_blocks = blocks ∙ on.no_blocks;
  only = record { log = on.only.log; only = on.only.only; has = logged on.only.log (record { lawful = on.only.has.lawful; kept = on.only.has.kept }); steps = on.only.steps };
  one_call = on.one_call;
}

-- ---- one more part

pub places_more : (sheet : Sheet) (kept : Kept) (spent number : ℕ) (parts : List PartSpending) (place : PartSpending) → ArePlaces sheet kept spent parts → length parts ≡ number → place.part ≡ number → IsSearchedOn sheet None kept place
    → ArePlaces sheet kept (spent + place.tally.placed) (parts ++ place ∷ [])
places_more sheet kept spent number parts place are many numbered on = record {
  sum = omega (arith, are.sum, sum_push placed_of parts place);
  numbered = λ j d below. elim (cases_lt j (length parts)) [
    | inl early ↦ (let part : PartSpending → ℕ = λ p. p.part in ap part (get_early parts place d j early)) ∙ are.numbered j d early
    | inr last ↦
        let is : j ≡ length parts = omega (arith, below, last, length_push parts place) in
        (let part : PartSpending → ℕ = λ p. p.part in ap part (get_last parts place d j is)) ∙ (numbered ∙ (sym many ∙ sym is))
  ];
  each = All-append (IsSearchedOn sheet None kept) parts (place ∷ []) are.each (All-cons (IsSearchedOn sheet None kept) place [] on (All-nil (IsSearchedOn sheet None kept)));
}

module _ (sheet : Sheet) (kept : Kept) (spent number : ℕ) (base now : List ValueId) (parts : List PartSpending) (solvers : List SuspendedView) (are : AreStarted sheet kept spent base parts solvers)
    (many : length parts ≡ number) (place : PartSpending) (s : SuspendedView) (numbered : place.part ≡ number) (on : IsStarted sheet kept place s) where
  pub started_more : IsAssignment sheet.universe now → ((j : ℕ) (part : Part) → j < number → IsPartNumbered (rules_alone sheet) j part → Fits (sheet_of sheet part) base → Fits (sheet_of sheet part) now)
      → ((part : Part) → IsPartNumbered (rules_alone sheet) number part → Fits (sheet_of sheet part) now) → AreStarted sheet kept (spent + place.tally.placed) now (parts ++ place ∷ []) (solvers ++ s ∷ [])
  started_more assigns others here = record {
    places = places_more sheet kept spent number parts place are.places many numbered on.spent;
    many = omega (arith, length_push parts place, length_push solvers s, are.many);
    started = λ j d e below. elim (cases_lt j (length parts)) [
      | inl early ↦
          subst (λ x. IsStarted sheet kept x (get_or (solvers ++ s ∷ []) j e)) (sym (get_early parts place d j early))
          (subst (IsStarted sheet kept (get_or parts j d)) (sym (get_early solvers s e j (omega (arith, early, are.many)))) (are.started j d e early))
      | inr last ↦
          let is : j ≡ length parts = omega (arith, below, last, length_push parts place) in
          subst (λ x. IsStarted sheet kept x (get_or (solvers ++ s ∷ []) j e)) (sym (get_last parts place d j is))
          (subst (IsStarted sheet kept place) (sym (get_last solvers s e j (omega (arith, is, are.many)))) on)
    ];
    assigns = assigns;
    fits = λ j part below at. elim (cases_lt j number) [
      | inl early ↦ others j part early at (are.fits j part (omega (arith, early, many)) at)
      | inr last ↦
          let is : j ≡ number = omega (arith, below, last, length_push parts place, many) in
          here part (subst (λ n. IsPartNumbered (rules_alone sheet) n part) is at)
    ];
  }

-- the part that made its first call, with its values
pub started_next : KeptPartsAreSearched → (sheet : Sheet) (g : Grounded) (kept : Kept) → IsReady sheet g kept → (spent number : ℕ) (base now : List ValueId) (parts : List PartSpending) (solvers : List SuspendedView) (cells : List CellId) (used : List ℕ) (own : List Var)
    → slice_get kept.cells number ≡ Some cells → slice_get kept.axioms number ≡ Some used → slice_get kept.variables number ≡ Some own → AreStarted sheet kept spent base parts solvers → length parts ≡ number
    → (place : PartSpending) (s : SolverView) (t : SuspendedView) → place.part ≡ number → IsStarted sheet kept place (set_aside s) → IsStarted sheet kept place t → MeetsEach (truth_in s.trues) (clauses_used s.problem)
    → IsAssignment sheet.universe now → ((a : List ValueId) → IsAssignment sheet.universe a → HasValues (cell_sizes sheet.universe) (map number_of cells) (truth_in s.trues) a → AgreeAt (Contains (map number_of cells)) a now)
    → AgreeAt (λ c. ¬ Contains (map number_of cells) c) base now → AreStarted sheet kept (spent + place.tally.placed) now (parts ++ place ∷ []) (solvers ++ t ∷ [])
started_next searched sheet g kept ready spent number base now parts solvers cells used own at_cells at_used at_own are many place s t numbered called on meets assigns reads elsewhere =
    let found = at_part searched sheet g kept ready number cells used own at_cells at_used at_own in
    let problem = problem_there searched sheet g kept ready number cells used own at_cells at_used at_own (set_aside s) place numbered called in
    started_more sheet kept spent number base now parts solvers are many place t numbered on assigns
    (λ j part below at fits.
    let c = within_at kept.cells j (number_within sheet kept ready.components j part at) in
    let us = within_at kept.axioms j (omega (arith, as_many_axioms sheet kept ready.components, number_within sheet kept ready.components j part at)) in
    let os = within_at kept.variables j (omega (arith, as_many_variables sheet kept ready.components, number_within sheet kept ready.components j part at)) in
    let other = part_at sheet kept ready.components j c.0 c.1 us.0 os.0 us.1 os.1 in
    let same : other.0 ≡ part = same_some (sym other.1.numbered ∙ at) in
    let fits_other = subst (λ p. Fits (sheet_of sheet p) base) (sym same) fits in
    let apart_from : (k : ℕ) → Contains other.0.cells k → ¬ Contains (map number_of cells) k =
    λ k in_other in_cells. off_others searched sheet g kept ready j number other.0 found.0 other.1.numbered found.1.numbered (λ is. omega (arith, is, below)) k in_other (subst (λ cs. Contains cs k) found.1.cells_are in_cells) in
    subst (λ p. Fits (sheet_of sheet p) now) same
    (same_fits searched sheet g kept ready j other.0 c.0 us.0 os.0 other.1 base now are.assigns assigns (λ k in_other. elsewhere k (apart_from k in_other)) fits_other))
    (λ part at.
    let same : found.0 ≡ part = same_some (sym found.1.numbered ∙ at) in
    subst (λ p. Fits (sheet_of sheet p) now) same (read_fits searched sheet g kept ready number found.0 cells used own found.1 s now problem meets assigns reads))

pub none_started : (sheet : Sheet) (kept : Kept) (base : List ValueId) (spent : ℕ) (parts : List PartSpending) (solvers : List SuspendedView) → parts ≡ [] → solvers ≡ [] → spent ≡ 0 → IsAssignment sheet.universe base → AreStarted sheet kept spent base parts solvers
none_started sheet kept base spent parts solvers none no_solvers zero_spent assigns =
    subst (λ ps. AreStarted sheet kept spent base ps solvers) (sym none) (subst (AreStarted sheet kept spent base []) (sym no_solvers)
    (record {
      places = record { sum = zero_spent; numbered = λ j d below. absurd (omega (arith, below)); each = All-nil (IsSearchedOn sheet None kept) };
      many = refl;
      started = λ j d e below. absurd (omega (arith, below));
      assigns = assigns;
      fits = λ j part below at. absurd (omega (arith, below));
    }))

-- a call that refuted the rules, or for which memory was wanting
pub refused_halts : (sheet : Sheet) (kept : Kept) (budget spent : ℕ) (parts : List PartSpending) (halt : Halt) → IsRefused sheet halt → HaltSays sheet kept budget spent parts halt
refused_halts sheet kept budget spent parts (Inconsistent log span) h = h
refused_halts sheet kept budget spent parts Spent h = absurd h
refused_halts sheet kept budget spent parts Memory h = h
