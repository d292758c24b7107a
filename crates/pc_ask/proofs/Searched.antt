-- What a solver over the part that has what is asked says of the asked sheet.
use Rattle.std.proofs.Common.{◌≡◌, ℕ, suc, ◌+◌, ◌*◌, ◌<◌, ◌≤◌, ◌^◌, Bool, true, List, [], ◌∷◌, length, map, slice_index_or, Some, slice_get, All, AllPairs, Contains, arith, ap, sym, ◌∙◌, subst, zero-add}
use Rattle.std.specs.List.{range_with_len}
use Rattle.std.proofs.lemmas.List.{length-map}
use Rattle.std.proofs.lemmas.List.Elements.{All-contains}
use Rattle.std.proofs.lemmas.List.FromFn.{get_or-range_with_len, length-range_with_len}
use Rattle.std.proofs.Math.Nat.{mul-le-mul_left}
use Rattle.pc_lemmas.proofs.Elements.{all_from, contains_first, contains_later, contains_map, contains_mapped, contains_none}
use Rattle.pc_lits.specs.declared.literal.Var.{Var}
use Rattle.pc_lits.specs.declared.literal.Lit.{Lit}
use Rattle.pc_lits.specs.declared.tally.Tally.{Tally}
use Rattle.pc_lits.specs.Truth.{lit_true}
use Rattle.pc_log.specs.Lines.{LogLine}
use Rattle.pc_log.specs.declared.log.StepId.{StepId}
use Rattle.pc_sheet.specs.Sheet.{Sheet, Statement}
use Rattle.pc_sheet.specs.Entailment.{cell_sizes, Fits, HasAll, HasEntry, IsAssignment, IsConsistent}
use Rattle.pc_sheet.specs.WellFormed.{IsWellFormed}
use Rattle.pc_sheet.specs.declared.ids.CellId.{CellId}
use Rattle.pc_sheet.specs.declared.ids.Entry.{Entry}
use Rattle.pc_sheet.specs.declared.ids.ValueId.{ValueId}
use Rattle.pc_lits.specs.Clauses.{IsOverNegated, IsSubclause}
use Rattle.pc_ground.specs.Ground.{clauses}
use Rattle.pc_ground.specs.GroundView.{Grounded}
use Rattle.pc_ground.specs.Grounded.{grounded}
use Rattle.pc_ground.specs.Variables.{variable_count}
use Rattle.pc_parts.specs.Components.{parts_of}
use Rattle.pc_parts.specs.PartSheets.{sheet_of}
use Rattle.pc_parts.proofs.Dividing.{parts_are_a_division}
use Rattle.pc_parts.proofs.Found.{parts_are_found}
use Rattle.pc_parts.proofs.PartsCells.{parts_are_of_its_cells}
use Rattle.pc_components.specs.Laws.{AxiomsAreForTheirSheet}
use Rattle.pc_components.specs.Pairs.{entry_literal, IsValueOfCell}
use Rattle.pc_components.specs.Used.{HasValues}
use Rattle.pc_components.specs.View.{number_of, variable_number}
use Rattle.pc_components.proofs.Assigned.{has_value, met_are_used, used_are_met}
use Rattle.pc_reason.specs.Fitting.{IsFitting}
use Rattle.pc_accept.specs.Asked.{asked}
use Rattle.pc_problem.specs.Laws.{AreSearchedBy, PartsAreSearched, problem_of}
use Rattle.pc_solver.specs.Answers.{Meets, truth_in}
use Rattle.pc_solver.specs.Clauses.{IsOverOwn, used_clauses}
use Rattle.pc_solver.specs.InLog.{clause_on}
use Rattle.pc_solver.specs.New.{IsLearnedAt}
use Rattle.pc_solver.specs.Solver.{AreOwn, HasLog, IsLawfulLog, IsProblem, IsSolverLog, Problem, SolverView, Spends, clauses_used}
use Rattle.pc_solver.specs.Spending.{Basis, GoesOnFor, SpendsIn}
use Rattle.pc_solver.proofs.BannedLemmas.{lone_anyway}
use Rattle.pc_solver.proofs.SpendingLemmas.{spends_none, spends_on, spends_one}
use Rattle.pc_support.proofs.AskingLemmas.{same_basis}
use Rattle.pc_theory.specs.WholeSpendings.{all_axioms, all_variables, variable_of}
use Rattle.pc_repairs.specs.Searches.{IsWholeSearch, whole_problem}
use Rattle.pc_repairs.proofs.Asked.{is_number}
use Rattle.pc_repairs.proofs.WholeSearch.{no_sets, search_is}
use Rattle.pc_ask.specs.Asking.{IsAskedPart, IsOfAskedPart, IsPartSearch}
use Rattle.pc_ask.specs.inside.Narrowing.{RefuteSays}
use Rattle.pc_ask.specs.inside.Parts.{AreAxiomsOver, IsAskable, IsAsked, IsAskedOver, IsTask}
use Rattle.pc_ask.proofs.Overlaid.{stand}

-- ---- numbers in order

ahead : (x : ℕ) (xs : List ℕ) → AllPairs (λ j k. j < k) (x ∷ xs) → (y : ℕ) → Contains xs y → x < y
ahead x xs order y h = subst (λ z. x < z) h.2 (order 0 (suc h.0) y (omega arith) (omega (arith, h.1)))

rest_order : (x : ℕ) (xs : List ℕ) → AllPairs (λ j k. j < k) (x ∷ xs) → AllPairs (λ j k. j < k) xs
rest_order x xs order i m d below within = order (suc i) (suc m) d (omega arith) (omega arith)

-- numbers in order between two others are at most as many as lie between these
few_between : (low high : ℕ) (xs : List ℕ) → AllPairs (λ j k. j < k) xs → ((x : ℕ) → Contains xs x → low ≤ x) → ((x : ℕ) → Contains xs x → x < high) → low ≤ high → low + length xs ≤ high
few_between low high [] order above below span = omega (arith, span)
few_between low high (x ∷ xs) order above below span =
    let from : low ≤ x = above x (contains_first x xs) in
    let to : x < high = below x (contains_first x xs) in
    let rest : x + 1 + length xs ≤ high = few_between (x + 1) high xs (rest_order x xs order) (λ y c. let more : x < y = ahead x xs order y c in omega (arith, more)) (λ y c. below y (contains_later x xs y c)) (omega (arith, to)) in
    omega (arith, from, rest)

-- ---- the part

module _ (parts : PartsAreSearched) (book : Sheet) (formed : IsWellFormed book) (cells : List CellId) (own : List Var) (o : IsAskedOver book cells own) where
  abbrev sizes : List ℕ
  sizes = cell_sizes book.universe

  pub searched : AreSearchedBy book (sheet_of book o.part) cells o.axioms own []
  searched =
      let found = parts_are_found book formed in
      parts book formed (parts_of book) (parts_are_a_division book (parts_of book) formed found) o.part o.is.there
      (λ c on. parts_are_of_its_cells book (parts_of book) formed found o.part o.is.there c on) cells o.axioms own o.cells_are o.axioms_are o.own_are

  module _ (few : length (clauses book) < 2 ^ 32) where
    -- the variables are the ground's
    pub own_below : All (λ v. v.0 < variable_count book) own
    own_below = (searched.problem few).own_in

    pub own_few : length own ≤ variable_count book
    own_few =
        let numbers : List ℕ = map variable_number own in
        let h : 0 + length numbers ≤ variable_count book = few_between 0 (variable_count book) numbers o.own_are.order (λ x c. omega arith)
        (λ x c. let v = contains_mapped variable_number own x c in let low : v.0.0 < variable_count book = All-contains (λ (w : Var). w.0 < variable_count book) own v.0 own_below v.1 in omega (arith, low, v.2)) (omega arith) in
        omega (arith, h, length-map own variable_number)

    module _ (used : List ℕ) (used_are : AreAxiomsOver (clauses book) own used) where
      used_in : All (λ n. n < length (clauses book)) used
      used_in = all_from (λ n. n < length (clauses book)) used (λ n c. ((used_are n).0 c).0)

      pub part_problem : IsProblem (variable_count book) (problem_of book used own [])
      part_problem = record {
        few = few;
        used_in = used_in;
        own_in = own_below;
        over_own = all_from (λ n. IsOverOwn own (slice_index_or (clauses book) n [])) used (λ n c. ((used_are n).0 c).1);
        lone = lone_anyway (clauses book) used;
      }

      -- the part's axioms are used
      axiom_used : (k : ℕ) → Contains o.axioms k → Contains used k
      axiom_used k c = (used_are k).1 (
        All-contains (λ n. n < length (clauses book)) o.axioms k searched.searched.used_in c,
        All-contains (λ n. IsOverOwn own (slice_index_or (clauses book) n [])) o.axioms k (searched.problem few).over_own c,
      )

      -- ---- entries

      module _ (set : List Entry) (askable : All (IsAskable book) set) where
        abbrev assumed : List Lit
        assumed = map (entry_literal (cell_sizes book.universe)) set

        value_at : (e : Entry) → Contains set e → IsValueOfCell (cell_sizes book.universe) e.cell e.value
        value_at e c = (All-contains (IsAskable book) set e askable c).value

        part_at : (e : Entry) → Contains set e → Contains o.part.cells e.cell.0
        part_at e c = (All-contains (IsAskable book) set e askable c).on o.part o.is

        cell_at : (e : Entry) → Contains set e → Contains cells e.cell
        cell_at e c =
            let d = contains_mapped number_of cells e.cell.0 (subst (λ ns. Contains ns e.cell.0) (sym o.cells_are) (part_at e c)) in
            let make = λ (n : ℕ). let x : CellId = record { 0 = n } in x in
            subst (Contains cells) (ap make d.2) d.1

        pub part_assumed : AreOwn own assumed
        part_assumed = record {
          each = all_from (λ (l : Lit). Contains own l.variable) assumed
              (λ l c.
              let e = contains_mapped (entry_literal (cell_sizes book.universe)) set l c in
              subst (λ (m : Lit). Contains own m.variable) e.2 (searched.searched.own_pairs e.0.cell e.0.value (cell_at e.0 e.1) (value_at e.0 e.1)));
        }

        -- where no truth values meet what is assumed, the entries can't stand together
        pub part_falls : AxiomsAreForTheirSheet → ((v : Var → Bool) → ¬ Meets v (clauses_used (problem_of book used own [])) [] assumed) → ¬ IsConsistent book set
        part_falls whole none (a, shows) =
            let m = (whole book formed).meets a shows.assigns shows.fits in
            let values : HasValues (cell_sizes book.universe) (map number_of cells) m.0 a = (λ c there.
            let on : Contains o.part.cells c = subst (λ ns. Contains ns c) o.cells_are there in
            m.2 c (is_number (length (cell_sizes book.universe)) c (parts_are_of_its_cells book (parts_of book) formed (parts_are_found book formed) o.part o.is.there c on))) in
            none m.0 (record {
              axioms_true = used_are_met (clauses book) used m.0 used_in (λ k c clause at. m.1 k (is_number (length (clauses book)) k ((used_are k).0 c).0) clause at);
              blocks_true = λ c k. absurd (contains_none c k);
              assumed_true = λ l c.
                  let e = contains_mapped (entry_literal (cell_sizes book.universe)) set l c in
                  subst (λ (x : Lit). lit_true m.0 x ≡ true) e.2
                  ((has_value (cell_sizes book.universe) cells m.0 a values e.0.cell e.0.value (cell_at e.0 e.1) (value_at e.0 e.1)).1 (All-contains (HasEntry a) set e.0 shows.has e.1));
            })

        -- where some do, an assignment that fits the part has the entries
        pub part_shown : (v : Var → Bool) → Meets v (clauses_used (problem_of book used own [])) [] assumed → (a : List ValueId) × IsAssignment book.universe a × Fits (sheet_of book o.part) a × HasAll a set
        part_shown v m =
            let met = met_are_used (clauses book) used v m.axioms_true in
            let f = searched.searched.are_for.fits v (λ k c clause at. met k (axiom_used k c) clause at) in (
              f.0,
              f.1,
              f.2,
              all_from (HasEntry f.0) set (λ e c.
                  (has_value (cell_sizes book.universe) cells v f.0 f.3 e.cell e.value (cell_at e c) (value_at e c)).0
                  (m.assumed_true (entry_literal (cell_sizes book.universe) e) (contains_map (entry_literal (cell_sizes book.universe)) set e c))),
            )

        pub part_stands : (sheet : Sheet) (f : Statement) → book ≡ asked sheet f → (fitting : List ValueId) → IsFitting sheet fitting
            → (v : Var → Bool) → Meets v (clauses_used (problem_of book used own [])) [] assumed → IsConsistent book set
        part_stands sheet f is fitting fit v m =
            let s = part_shown v m in
            laid_here book is formed o.is s.0 s.1 s.2 s.3 part_at
          where
            laid_here : (b : Sheet) → b ≡ asked sheet f → IsWellFormed b → IsAskedPart b o.part → (a : List ValueId) → IsAssignment b.universe a → Fits (sheet_of b o.part) a → HasAll a set
                → ((e : Entry) → Contains set e → Contains o.part.cells e.cell.0) → IsConsistent b set
            laid_here b same =
                subst (λ (x : Sheet). IsWellFormed x → IsAskedPart x o.part → (a : List ValueId) → IsAssignment x.universe a → Fits (sheet_of x o.part) a → HasAll a set
                → ((e : Entry) → Contains set e → Contains o.part.cells e.cell.0) → IsConsistent x set) (sym same)
                (λ w p a assigns fits has on. stand sheet f w o.part p fitting fit a assigns fits set has on)

      -- ---- logs

      module _ (log : List LogLine) (h : IsSolverLog (problem_of book used own []) [] log) where
        own_there : (v : Var) → Contains own v → Contains (all_variables book) v
        own_there v c = contains_map variable_of (range_with_len 0 (variable_count book)) v.0 (is_number (variable_count book) v.0 (All-contains (λ (w : Var). w.0 < variable_count book) own v own_below c))

        learned_over : (i : ℕ) (clause : List Lit) → IsLearnedAt log i clause → IsOverOwn own clause
        learned_over i clause at = h.over_own i clause at.0 true at.1

        -- an axiom within a learned clause is over own variables, and so it is used
        axiom_there : (i : ℕ) (clause within : List Lit) → IsLearnedAt log i clause → Contains (clauses_used (whole_problem book)) within → IsSubclause within clause → Contains (used_clauses (clauses book) used) within
        axiom_there i clause within at has sub =
            let k = contains_mapped (λ n. slice_index_or (clauses book) n []) (all_axioms book) within has in
            let below = number_is (length (clauses book)) k.0 k.1 in
            let over : IsOverOwn own (slice_index_or (clauses book) k.0 []) = subst (IsOverOwn own) (sym k.2)
            (all_from (λ (l : Lit). Contains own l.variable) within (λ l c. All-contains (λ (m : Lit). Contains own m.variable) clause l (learned_over i clause at) (sub l c))) in
            subst (Contains (used_clauses (clauses book) used)) k.2 (contains_map (λ n. slice_index_or (clauses book) n []) used k.0 ((used_are k.0).1 (below, over)))
          where
            number_is : (n k : ℕ) → Contains (range_with_len 0 n) k → k < n
            number_is n k (j, low, is) =
                let below : j < n = omega (arith, low, length-range_with_len 0 n) in
                let at : k ≡ j = sym is ∙ get_or-range_with_len 0 n j k below ∙ zero-add j in
                omega (arith, at, below)

        pub part_lawful : IsLawfulLog (whole_problem book) [] log
        part_lawful = record {
          derivation = h.derivation;
          axioms = λ i number at. is_number (length (clauses book)) number ((used_are number).0 (h.axioms i number at)).0;
          blocks_are = h.blocks_are;
          over_own = λ i clause hints learned at. all_from (λ (l : Lit). Contains (all_variables book) l.variable) clause
              (λ l has. own_there l.variable (All-contains (λ (m : Lit). Contains own m.variable) clause l (h.over_own i clause hints learned at) has));
          new = record {
            no_tautology = h.new.no_tautology;
            no_axiom = λ i clause within at has sub. h.new.no_axiom i clause within at (axiom_there i clause within at has sub) sub;
            no_learned = h.new.no_learned;
            no_block_line = h.new.no_block_line;
          };
        }

-- ---- a new solver

module _ (parts : PartsAreSearched) (book : Sheet) (formed : IsWellFormed book) (g : Grounded) (ground_is : g ≡ grounded book) (few : length g.clauses < 2 ^ 32) (cells : List CellId) (own : List Var) (o : IsAskedOver book cells own) where
  few_here : length (clauses book) < 2 ^ 32
  few_here = subst (λ (x : Grounded). length x.clauses < 2 ^ 32) ground_is few

  pub own_here : (n : ℕ) → n ≡ g.variables → All (λ v. v.0 < n) own
  own_here n many = subst (λ (m : ℕ). All (λ (v : Var). v.0 < m) own) (sym (many ∙ ap (λ (x : Grounded). x.variables) ground_is)) (own_below parts book formed cells own o few_here)

  module _ (used : List ℕ) (used_are : AreAxiomsOver (clauses book) own used) (store : List (List Lit)) (store_is : store ≡ g.clauses) where
    abbrev by_store : List (List Lit) → Problem
    by_store a = record { axioms = a; used = used; own = own; banned = [] }

    clauses_are : store ≡ clauses book
    clauses_are = store_is ∙ ap (λ (x : Grounded). x.clauses) ground_is

    pub new_problem : (n : ℕ) → n ≡ g.variables → IsProblem n (record { axioms = store; used = used; own = own; banned = [] })
    new_problem n many =
        subst (λ (m : ℕ). IsProblem m (by_store store)) (sym (many ∙ ap (λ (x : Grounded). x.variables) ground_is))
        (subst (λ a. IsProblem (variable_count book) (by_store a)) (sym clauses_are) (part_problem parts book formed cells own o few_here used used_are))

    pub new_asked : (s : SolverView) → s.problem ≡ record { axioms = store; used = used; own = own; banned = [] } → s.blocks ≡ [] → HasLog s [] → IsAsked book own s []
    new_asked s problem none has = record { cells = cells; over = o; used = used; used_are = used_are; problem = problem ∙ ap by_store clauses_are; blocks_are = none; has = has }

-- ---- what a solver is asked

module _ (parts : PartsAreSearched) (book : Sheet) (g : Grounded) (t : IsTask book g) (own : List Var) (s : SolverView) (log : List LogLine) (a : IsAsked book own s log) where
  lawful_here : IsSolverLog (problem_of book a.used own []) [] log
  lawful_here = subst (λ p. IsSolverLog p [] log) a.problem (subst (λ bs. IsSolverLog s.problem bs log) a.blocks_are a.has.lawful)

  module _ (set : List Entry) (askable : All (IsAskable book) set) (given : List Lit) (given_is : given ≡ map (entry_literal (cell_sizes book.universe)) set) where
    pub own_given : AreOwn s.problem.own given
    own_given =
        subst (λ p. AreOwn p.own given) (sym a.problem) (subst (AreOwn own) (sym given_is) (part_assumed parts book t.formed a.cells own a.over t.few a.used a.used_are set askable))

    module _ (s' : SolverView) (problem : s'.problem ≡ s.problem) (blocks : s'.blocks ≡ s.blocks) where
      met_here : (v : Var → Bool) → Meets v (clauses_used s'.problem) s'.blocks given → Meets v (clauses_used (problem_of book a.used own [])) [] (map (entry_literal (cell_sizes book.universe)) set)
      met_here v m =
          subst (Meets v (clauses_used (problem_of book a.used own [])) []) given_is
          (subst (λ bs. Meets v (clauses_used (problem_of book a.used own [])) bs given) (blocks ∙ a.blocks_are) (subst (λ p. Meets v (clauses_used p) s'.blocks given) (problem ∙ a.problem) m))

      met_back : (v : Var → Bool) → Meets v (clauses_used (problem_of book a.used own [])) [] (map (entry_literal (cell_sizes book.universe)) set) → Meets v (clauses_used s'.problem) s'.blocks given
      met_back v m =
          subst (λ p. Meets v (clauses_used p) s'.blocks given) (sym (problem ∙ a.problem))
          (subst (λ bs. Meets v (clauses_used (problem_of book a.used own [])) bs given) (sym (blocks ∙ a.blocks_are)) (subst (Meets v (clauses_used (problem_of book a.used own [])) []) (sym given_is) m))

      pub given_stands : Meets (truth_in s'.trues) (clauses_used s'.problem) s'.blocks given → IsConsistent book set
      given_stands m = part_stands parts book t.formed a.cells own a.over t.few a.used a.used_are set askable t.sheet t.f t.is t.fitting t.fit (truth_in s'.trues) (met_here (truth_in s'.trues) m)

      pub given_denied : AxiomsAreForTheirSheet → (grown : List LogLine) (line : StepId) → line.0 < length grown → IsOverNegated given (clause_on s'.problem.axioms grown line) → ((v : Var → Bool) → ¬ Meets v (clauses_used s'.problem) s'.blocks given)
          → RefuteSays book set grown (Some line)
      given_denied whole grown line stands over none = (
        part_falls parts book t.formed a.cells own a.over t.few a.used a.used_are set askable whole (λ v m. none v (met_back v m)),
        record {
          stands = stands;
          over = subst (λ p. IsOverNegated (map (entry_literal (cell_sizes book.universe)) set) (clause_on p.axioms grown line)) (problem ∙ a.problem) (subst (λ ls. IsOverNegated ls (clause_on s'.problem.axioms grown line)) given_is over);
        },
      )

-- ---- what is spent

-- by one call
pub called : (s new : SolverView) (before after : Tally) (log grown : List LogLine) → new.variables ≡ s.variables → new.problem ≡ s.problem → new.blocks ≡ s.blocks → HasLog new grown
    → Spends (length s.problem.own) before after log grown → GoesOnFor 1 s new before after log grown
called s new before after log grown variables problem blocks has spends = record { same = same_basis s new variables problem blocks; logged = has; spends = spends_one (length s.problem.own) before after log grown spends }

-- by several: it still is such a solver
module _ (book : Sheet) (own : List Var) (s : SolverView) (log : List LogLine) (a : IsAsked book own s log) (most : ℕ) (new : SolverView) (before after : Tally) (grown : List LogLine) (goes : GoesOnFor most s new before after log grown) where
  pub still_asked : IsAsked book own new grown
  still_asked = record {
    cells = a.cells;
    over = a.over;
    used = a.used;
    used_are = a.used_are;
    problem = ap (λ (b : Basis). b.problem) goes.same ∙ a.problem;
    blocks_are = ap (λ (b : Basis). b.blocks) goes.same ∙ a.blocks_are;
    has = goes.logged;
  }

  pub own_spends : SpendsIn (length own) most before after log grown
  own_spends = subst (λ (n : ℕ). SpendsIn n most before after log grown) (ap (λ (p : Problem). length p.own) a.problem) goes.spends

none_spent : (own : List Var) (most : ℕ) (t : Tally) (log : List LogLine) → SpendsIn (length own) most t t log log
none_spent own most t log = spends_on (length own) 0 0 most t t t log log log (omega arith) (spends_none (length own) t log) (spends_none (length own) t log)

-- a spending within so many calls is within more
pub within_more : (own : List Var) (few most : ℕ) (a b : Tally) (log grown : List LogLine) → few ≤ most → SpendsIn (length own) few a b log grown → SpendsIn (length own) most a b log grown
within_more own few most a b log grown less h = spends_on (length own) few 0 most a b b log grown grown (omega (arith, less)) h (spends_none (length own) b grown)

-- and so is one that places more for each
spends_wide : (few own most : ℕ) (a b : Tally) (log grown : List LogLine) → few ≤ own → SpendsIn few most a b log grown → SpendsIn own most a b log grown
spends_wide few own most a b log grown less h = record {
  called = h.called;
  few = h.few;
  calls = h.calls;
  limit = h.limit;
  rose = h.rose;
  learned = h.learned;
  unmarked = h.unmarked;
  steps = h.steps;
  grows = h.grows;
  placed = h.placed;
  bounded = wide (h.rose + h.called) h.bounded;
  spare = h.spare;
}
  where
    wide : (n : ℕ) → b.placed ≤ a.placed + few * n → b.placed ≤ a.placed + own * n
    wide n below =
        let more : n * few ≤ n * own = mul-le-mul_left n less in
        let one : few * n ≡ n * few = grind arith in
        let two : own * n ≡ n * own = grind arith in
        omega (arith, below, more, one, two)

-- ---- what is searched

module _ (parts : PartsAreSearched) (book : Sheet) (g : Grounded) (t : IsTask book g) (own : List Var) (s : SolverView) (grown : List LogLine) (a : IsAsked book own s grown) (most : ℕ) (before after : Tally) (spends : SpendsIn (length own) most before after [] grown) where
  pub searched_whole : IsWholeSearch book [] most before after grown
  searched_whole =
      search_is book [] (no_sets book) most before after grown (part_lawful parts book t.formed a.cells own a.over t.few a.used a.used_are grown (lawful_here parts book g t own s grown a))
      (spends_wide (length own) (variable_count book) most before after [] grown (own_few parts book t.formed a.cells own a.over t.few) spends)

  pub searched_part : IsPartSearch book most before after grown
  searched_part = record {
    own = own;
    of_part = all_from (IsOfAskedPart book) own
        (λ v c. record { part = a.over.part; asked_part = a.over.is; axioms = a.over.axioms; axioms_are = a.over.axioms_are; used = (a.over.own_are.exact v.0).0 (contains_map variable_number own v c) });
    order = a.over.own_are.order;
    steps = (lawful_here parts book g t own s grown a).over_own;
    spends = spends;
  }

-- before anything is asked
pub no_part : (book : Sheet) (most : ℕ) (t : Tally) (log : List LogLine) → log ≡ [] → IsPartSearch book most t t log
no_part book most t log none = subst (IsPartSearch book most t t) (sym none) (record {
  own = [];
  of_part = all_from (IsOfAskedPart book) [] (λ v c. absurd (contains_none v c));
  order = λ i j d below within. absurd (omega (arith, within));
  steps = λ i clause hints learned at. absurd (none_there i _ at);
  spends = none_spent [] most t [];
})
  where
    none_there : {X : Type 0} (i : ℕ) (x : X) → slice_get [] i ≡ Some x → ⊥
    none_there i x at = absurd (cc)
