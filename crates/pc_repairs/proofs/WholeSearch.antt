-- Searches of a whole sheet.
use Rattle.std.proofs.Common.{◌≡◌, ℕ, ◌+◌, ◌*◌, ◌<◌, ◌≤◌, ◌^◌, List, [], ◌∷◌, ◌++◌, map, length, sum_by, Some, slice_get, Contains, refl, ap, sym, ◌∙◌, subst, arith, length-append}
use Rattle.std.specs.List.{range_with_len}
use Rattle.std.proofs.lemmas.List.Elements.{All-nil, All-cons, All-append}
use Rattle.std.proofs.lemmas.List.FromFn.{length-map-range_with_len}
use Rattle.std.proofs.lemmas.List.Sums.{sum_by-append, sum_by-cons}
use Rattle.pc_lemmas.proofs.Elements.{contains_first, contains_none}
use Rattle.pc_lits.specs.declared.literal.Var.{Var}
use Rattle.pc_lits.specs.declared.literal.Lit.{Lit}
use Rattle.pc_lits.specs.declared.tally.Tally.{Tally}
use Rattle.pc_log.specs.declared.log.StepId.{StepId}
use Rattle.pc_log.specs.Lines.{LogLine}
use Rattle.pc_sheet.specs.Sheet.{Sheet}
use Rattle.pc_sheet.specs.Entailment.{cell_sizes}
use Rattle.pc_sheet.specs.MaximalSets.{IsMaximalSet}
use Rattle.pc_sheet.specs.declared.ids.Entry.{Entry}
use Rattle.pc_lits.specs.Clauses.{IsOverNegated}
use Rattle.pc_ground.specs.Ground.{clauses}
use Rattle.pc_ground.specs.GroundView.{Grounded}
use Rattle.pc_ground.specs.Grounded.{grounded}
use Rattle.pc_ground.specs.Variables.{variable_count}
use Rattle.pc_components.specs.View.{variable_number}
use Rattle.pc_problem.specs.Laws.{AreSearchedBy, WholeIsSearched}
use Rattle.pc_problem.specs.Room.{HasRoom}
use Rattle.pc_solver.specs.InLog.{clause_on}
use Rattle.pc_solver.specs.Solver.{Spends, Problem, SolverView, HasLog, IsProblem, IsLawfulLog, IsSolverLog}
use Rattle.pc_solver.specs.Spending.{SpendsIn, marked}
use Rattle.pc_solver.proofs.SpendingLemmas.{spends_none, spends_one, spends_on}
use Rattle.pc_theory.specs.WholeSpendings.{all_axioms, all_variables, variable_of, IsWholeLog}
use Rattle.pc_components.specs.Blocks.{IsBlockOf}
use Rattle.pc_repairs.specs.Searches.{whole_problem, IsRefutedAt, IsWholeSearch}
use Rattle.pc_repairs.specs.inside.Asking.{IsAsked}
use Rattle.pc_repairs.specs.declared.task.Numbers.{Numbers}
use Rattle.pc_repairs.specs.inside.Tasks.{IsTask}

-- ---- all variables

numbers_back : (ns : List ℕ) → map variable_number (map variable_of ns) ≡ ns
numbers_back [] = refl
numbers_back (n ∷ ns) = ap (λ ms. n ∷ ms) (numbers_back ns)

pub own_many : (sheet : Sheet) → length (all_variables sheet) ≡ variable_count sheet
own_many sheet = length-map-range_with_len variable_of 0 (variable_count sheet)

-- ---- the problem

module _ (sheet : Sheet) (g : Grounded) (numbers : Numbers) (t : IsTask sheet g numbers) where
  abbrev given : Problem
  given = record { axioms = g.clauses; used = numbers.axioms.items; own = numbers.variables.items; banned = [] }

  pub searched_whole : WholeIsSearched → AreSearchedBy sheet sheet numbers.cells.items (all_axioms sheet) (all_variables sheet) []
  searched_whole whole = whole sheet t.formed numbers.cells.items (all_axioms sheet) (all_variables sheet) t.all.cells_are refl (numbers_back (range_with_len 0 (variable_count sheet)))

  pub given_is : given ≡ whole_problem sheet
  given_is =
      let by_ground : Grounded → Problem = λ x. record { axioms = x.clauses; used = numbers.axioms.items; own = numbers.variables.items; banned = [] } in
      let by_axioms : List ℕ → Problem = λ us. record { axioms = (grounded sheet).clauses; used = us; own = numbers.variables.items; banned = [] } in
      let by_variables : List Var → Problem = λ vs. record { axioms = (grounded sheet).clauses; used = all_axioms sheet; own = vs; banned = [] } in
      ap by_ground t.ground_is ∙ ap by_axioms t.all.axioms_are ∙ ap by_variables t.all.variables_are

  pub sizes_are : g.sizes ≡ cell_sizes sheet.universe
  sizes_are = ap (λ (x : Grounded). x.sizes) t.ground_is

  pub is_problem : WholeIsSearched → IsProblem g.variables given
  is_problem whole =
      let many : g.variables ≡ variable_count sheet = ap (λ (x : Grounded). x.variables) t.ground_is in
      subst (λ (n : ℕ). IsProblem n given) (sym many) (subst (IsProblem (variable_count sheet)) (sym given_is) ((searched_whole whole).problem t.few))

  pub asked_problem : WholeIsSearched → (store : List (List Lit)) → store ≡ g.clauses → (n : ℕ) → n ≡ g.variables → IsProblem n (record { axioms = store; used = numbers.axioms.items; own = numbers.variables.items; banned = [] })
  asked_problem whole store is n many =
      let by_store : List (List Lit) → Problem = λ a. record { axioms = a; used = numbers.axioms.items; own = numbers.variables.items; banned = [] } in
      subst (λ (m : ℕ). IsProblem m (by_store store)) (sym many) (subst (λ a. IsProblem g.variables (by_store a)) (sym is) (is_problem whole))

  pub asked_new : (store : List (List Lit)) → store ≡ g.clauses → (s : SolverView) → s.problem ≡ record { axioms = store; used = numbers.axioms.items; own = numbers.variables.items; banned = [] } → s.blocks ≡ [] → HasLog s [] → IsAsked sheet [] s []
  asked_new store is s problem none has =
      let by_store : List (List Lit) → Problem = λ a. record { axioms = a; used = numbers.axioms.items; own = numbers.variables.items; banned = [] } in
      record { problem = problem ∙ (ap by_store is ∙ given_is); blocks_are = none; has = has }

-- ---- logs

none_there : {X : Type 0} (i : ℕ) (x : X) → slice_get [] i ≡ Some x → ⊥
none_there i x is = absurd (cc)

-- a log without lines is lawful
pub no_lines : (p : Problem) (blocks : List (List Lit)) (log : List LogLine) → log ≡ [] → IsLawfulLog p blocks log
no_lines p blocks log none = subst (IsLawfulLog p blocks) (sym none) (record {
  derivation = record { good = λ i line at. absurd (none_there i line at); earlier = λ i line at. absurd (none_there i line at) };
  axioms = λ i number at. absurd (none_there i _ at);
  blocks_are = λ i number clause at. absurd (none_there i _ at);
  over_own = λ i clause hints learned at. absurd (none_there i _ at);
  new = record {
    no_tautology = λ i clause h. absurd (none_there i _ h.1);
    no_axiom = λ i clause other h. absurd (none_there i _ h.1);
    no_learned = λ i j earlier clause less h. absurd (none_there i _ h.1);
    no_block_line = λ i j number block clause less at. absurd (none_there i _ at);
  };
})

pub lawful_of : (sheet : Sheet) (blocks : List (List Lit)) (s : SolverView) (log : List LogLine) → IsAsked sheet blocks s log → IsLawfulLog (whole_problem sheet) blocks log
lawful_of sheet blocks s log a =
    let h : IsSolverLog (whole_problem sheet) blocks log = subst (λ p. IsSolverLog p blocks log) a.problem (subst (λ bs. IsSolverLog s.problem bs log) a.blocks_are a.has.lawful) in
    record { derivation = h.derivation; axioms = h.axioms; blocks_are = h.blocks_are; over_own = h.over_own; new = h.new }

-- ---- what is spent

placed_on : (own p q l c rose called l' c' : ℕ) → p ≤ own * (l + c) → q ≤ p + own * (rose + called) → l' ≡ l + rose → c' ≡ c + called → q ≤ own * (l' + c')
placed_on own p q l c rose called l' c' before now learned calls =
    let same : l + c + (rose + called) ≡ l' + c' = omega (arith, learned, calls) in
    subst (λ n. q ≤ own * n) same (both before now)
  where
    both : p ≤ own * (l + c) → q ≤ p + own * (rose + called) → q ≤ own * (l + c + (rose + called))
    both h k = omega arith

module _ (sheet : Sheet) (blocks : List (List Lit)) (of_sets : (b : List Lit) → Contains blocks b → (set : List Entry) × IsMaximalSet sheet set × IsBlockOf (cell_sizes sheet.universe) sheet.entries set b) where
  whole_log : (log : List LogLine) → IsLawfulLog (whole_problem sheet) blocks log → IsWholeLog sheet log
  whole_log log lawful = record { blocks = blocks; lawful = lawful; of_sets = of_sets }

  pub search_is : (most : ℕ) (before after : Tally) (log : List LogLine) → IsLawfulLog (whole_problem sheet) blocks log → SpendsIn (variable_count sheet) most before after [] log → IsWholeSearch sheet blocks most before after log
  search_is most before after log lawful spends = record {
    lawful = lawful;
    spends = spends;
    adds = λ logs few h. record {
      placed = placed_on (variable_count sheet) before.placed after.placed before.learned before.calls spends.rose spends.called after.learned after.calls h.placed spends.bounded spends.learned spends.calls;
      few_logs = omega (arith, few, length-append logs (log ∷ []));
      learned = omega (arith, sum_by-append marked logs (log ∷ []), sum_by-cons marked log [], ap marked spends.grows.added, spends.grows.marked_lines, h.learned, spends.learned);
      lawful = All-append (IsWholeLog sheet) logs (log ∷ []) h.lawful (All-cons (IsWholeLog sheet) log [] (whole_log log lawful) (All-nil (IsWholeLog sheet)));
    };
  }

  -- nothing is done yet
  pub nothing_done : (most : ℕ) (t : Tally) (log : List LogLine) → log ≡ [] → IsWholeSearch sheet blocks most t t log
  nothing_done most t log none =
      let own = variable_count sheet in
      subst (IsWholeSearch sheet blocks most t t) (sym none) (search_is most t t [] (no_lines (whole_problem sheet) blocks [] refl) (spends_on own 0 0 most t t t [] [] [] (omega arith) (spends_none own t []) (spends_none own t [])))

-- ---- one call

pub asked_on : (sheet : Sheet) (blocks : List (List Lit)) (old new : SolverView) (log grown : List LogLine) → IsAsked sheet blocks old log → new.problem ≡ old.problem → new.blocks ≡ old.blocks → HasLog new grown → IsAsked sheet blocks new grown
asked_on sheet blocks old new log grown a problem same has = record { problem = problem ∙ a.problem; blocks_are = same ∙ a.blocks_are; has = has }

pub one_spent : (sheet : Sheet) (s : SolverView) (before after : Tally) (log grown : List LogLine) → s.problem ≡ whole_problem sheet → Spends (length s.problem.own) before after log grown → SpendsIn (variable_count sheet) 1 before after log grown
one_spent sheet s before after log grown problem spends =
    let many : length s.problem.own ≡ variable_count sheet = ap (λ (p : Problem). length p.own) problem ∙ own_many sheet in
    subst (λ (n : ℕ). SpendsIn n 1 before after log grown) many (spends_one (length s.problem.own) before after log grown spends)

pub none_spent : (sheet : Sheet) (most : ℕ) (t : Tally) (log : List LogLine) → SpendsIn (variable_count sheet) most t t log log
none_spent sheet most t log = let own = variable_count sheet in spends_on own 0 0 most t t t log log log (omega arith) (spends_none own t log) (spends_none own t log)

-- a spending within so many calls is within more
pub within_more : (sheet : Sheet) (few most : ℕ) (a b : Tally) (log grown : List LogLine) → few ≤ most → SpendsIn (variable_count sheet) few a b log grown → SpendsIn (variable_count sheet) most a b log grown
within_more sheet few most a b log grown less h = spends_on (variable_count sheet) few 0 most a b b log grown grown (omega (arith, less)) h (spends_none (variable_count sheet) b grown)

pub still_few : (own most : ℕ) (a b : Tally) (log grown : List LogLine) → SpendsIn own most a b log grown → a.limit < 2 ^ 64 → most < 2 ^ 64 → HasRoom 120 a → HasRoom 126 b
still_few own most a b log grown s limit few room = (
  omega (arith, s.learned, s.spare, s.few, ap (λ (n : ℕ). n) s.limit, b.within_limit, limit, few, room.0),
  omega (arith, s.calls, s.few, few, room.1),
)

none_over : (clause : List Lit) → IsOverNegated [] clause → clause ≡ []
none_over [] h = refl
none_over (l ∷ ls) h = let r = h l (contains_first l ls) in absurd (contains_none r.0 r.1)

pub refuted_is : (sheet : Sheet) (s : SolverView) (log : List LogLine) (id : StepId) → s.problem ≡ whole_problem sheet → id.0 < length log → IsOverNegated [] (clause_on s.problem.axioms log id) → IsRefutedAt sheet log id
refuted_is sheet s log id problem stands over =
    record { stands = stands; empty = none_over (clause_on (clauses sheet) log id) (subst (λ (p : Problem). IsOverNegated [] (clause_on p.axioms log id)) problem over) }

pub no_sets : (sheet : Sheet) (b : List Lit) → Contains [] b → (set : List Entry) × IsMaximalSet sheet set × IsBlockOf (cell_sizes sheet.universe) sheet.entries set b
no_sets sheet b c = absurd (contains_none b c)

-- with no block at all
pub unblocked : (sheet : Sheet) (most : ℕ) (before after : Tally) (s : SolverView) (log grown : List LogLine) → log ≡ [] → IsAsked sheet [] s grown → SpendsIn (variable_count sheet) most before after log grown → IsWholeSearch sheet [] most before after grown
unblocked sheet most before after s log grown none a spends =
    search_is sheet [] (no_sets sheet) most before after grown (lawful_of sheet [] s grown a) (subst (λ l. SpendsIn (variable_count sheet) most before after l grown) none spends)

-- what one call of a solver beside blocks of maximal sets comes to
pub solved : (sheet : Sheet) (blocks : List (List Lit)) → ((b : List Lit) → Contains blocks b → (set : List Entry) × IsMaximalSet sheet set × IsBlockOf (cell_sizes sheet.universe) sheet.entries set b)
    → (old new : SolverView) (before after : Tally) (log grown : List LogLine) → log ≡ [] → IsAsked sheet blocks old [] → new.problem ≡ old.problem → new.blocks ≡ old.blocks → HasLog new grown
    → Spends (length old.problem.own) before after log grown → IsWholeSearch sheet blocks 1 before after grown
solved sheet blocks of_sets old new before after log grown none a problem same has spends =
    let asked : IsAsked sheet blocks new grown = asked_on sheet blocks old new [] grown a problem same has in
    search_is sheet blocks of_sets 1 before after grown (lawful_of sheet blocks new grown asked) (subst (λ l. SpendsIn (variable_count sheet) 1 before after l grown) none (one_spent sheet old before after log grown a.problem spends))
