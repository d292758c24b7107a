-- All cells of a sheet, with their values.
use Rattle.std.proofs.Common.{◌≡◌, ℕ, zero, suc, ◌<◌, Bool, true, List, [], ◌∷◌, ◌++◌, map, length, slice_index_or, slice_get, All, Contains, ap, sym, ◌∙◌, subst, arith}
use Rattle.std.proofs.lemmas.List.Elements.{All-contains}
use Rattle.std.proofs.lemmas.Option.{get_or_from_slice_get}
use Rattle.pc_lemmas.proofs.Elements.{contains_mapped, all_from}
use Rattle.pc_lemmas.proofs.Options.{some_and}
use Rattle.pc_laws.proofs.Contained.{sub_contained}
use Rattle.pc_lits.specs.declared.literal.Var.{Var}
use Rattle.pc_lits.specs.declared.literal.Lit.{Lit}
use Rattle.pc_lits.specs.Literals.{negated}
use Rattle.pc_sheet.specs.Sheet.{Universe, Sheet}
use Rattle.pc_sheet.specs.Entailment.{cell_sizes, AreWithin, HasTarget, IsAssignment, Shows, Entails}
use Rattle.pc_sheet.specs.WellFormed.{IsEntryOf}
use Rattle.pc_sheet.specs.declared.ids.CellId.{CellId}
use Rattle.pc_sheet.specs.declared.ids.ValueId.{ValueId}
use Rattle.pc_sheet.specs.declared.ids.Entry.{Entry}
use Rattle.pc_sheet.specs.declared.ids.Target.{Target}
use Rattle.pc_ground.specs.GroundView.{Grounded}
use Rattle.pc_components.specs.Pairs.{entry_literal, target_literal, pair_var, IsValueOfCell}
use Rattle.pc_components.specs.Used.{HasValues}
use Rattle.pc_components.specs.View.{number_of}
use Rattle.pc_parts.specs.Laws.{AgreeAt}
use Rattle.pc_reason.specs.Targets.{IsTargetIn}
use Rattle.pc_problem.specs.Laws.{WholeIsSearched}
use Rattle.pc_solver.specs.Answers.{Meets, truth_in}
use Rattle.pc_solver.specs.Solver.{SolverView, AreOwn, clauses_used}
use Rattle.pc_theory.specs.Reading.{HasPairs}
use Rattle.pc_theory.specs.WholeSpendings.{all_variables}
use Rattle.pc_world_list.specs.Worlds.{WorldView, AreExact}
use Rattle.pc_repairs.specs.Searches.{whole_problem}
use Rattle.pc_repairs.specs.declared.task.Numbers.{Numbers}
use Rattle.pc_repairs.specs.inside.Tasks.{IsTask}
use Rattle.pc_repairs.proofs.Asked.{is_number, entailed, own_assumed, shown_is}
use Rattle.pc_repairs.proofs.Lacked.{is_maximal}
use Rattle.pc_repairs.proofs.WholeSearch.{searched_whole, sizes_are}

in_range : (ns : List ℕ) (k x : ℕ) → x < slice_index_or ns k 0 → k < length ns
in_range [] k x l = absurd (omega (arith, l))
in_range (n ∷ ns) zero x l = omega arith
in_range (n ∷ ns) (suc k) x l = omega (arith, in_range ns k x l)

-- an entry of the universe has one of its cell's values
pub value_below : (u : Universe) (e : Entry) → IsEntryOf u e → IsValueOfCell (cell_sizes u) e.cell e.value
value_below u e is =
    let n = some_and (slice_get (cell_sizes u) e.cell.0) (λ m. e.value.0 < m) is in
    subst (λ (m : ℕ). e.value.0 < m) (sym (get_or_from_slice_get (cell_sizes u) e.cell.0 n.0 0 n.1)) n.2

module _ (sheet : Sheet) (g : Grounded) (numbers : Numbers) (t : IsTask sheet g numbers) where
  sizes_here : g.sizes ≡ cell_sizes sheet.universe
  sizes_here = sizes_are sheet g numbers t

  pub cell_there : (c : CellId) → c.0 < length (cell_sizes sheet.universe) → Contains numbers.cells.items c
  cell_there c low =
      let found = contains_mapped number_of numbers.cells.items c.0 (subst (λ ns. Contains ns c.0) (sym t.all.cells_are) (is_number (length (cell_sizes sheet.universe)) c.0 low)) in
      let make = λ (n : ℕ). let d : CellId = record { 0 = n } in d in
      subst (Contains numbers.cells.items) (ap make found.2) found.1

  pub with_value : (c : CellId) (x : ValueId) → IsValueOfCell g.sizes c x → Contains numbers.cells.items c × IsValueOfCell (cell_sizes sheet.universe) c x
  with_value c x below =
      let own : IsValueOfCell (cell_sizes sheet.universe) c x = subst (λ ns. IsValueOfCell ns c x) sizes_here below in
      (cell_there c (in_range (cell_sizes sheet.universe) c.0 x.0 own), own)

  pub target_value : (target : Target) → IsTargetIn sheet.universe target → IsValueOfCell g.sizes target.cell target.value
  target_value target is = subst (λ ns. IsValueOfCell ns target.cell target.value) (sym sizes_here) (value_below sheet.universe (record { cell = target.cell; value = target.value }) is)

  pub entry_value : (e : Entry) → Contains sheet.entries e → IsValueOfCell g.sizes e.cell e.value
  entry_value e c = subst (λ ns. IsValueOfCell ns e.cell e.value) (sym sizes_here) (value_below sheet.universe e (All-contains (IsEntryOf sheet.universe) sheet.entries e t.formed.entries.each c))

  pub assigns_here : (b : List ValueId) → AreWithin g.sizes b → IsAssignment sheet.universe b
  assigns_here b within = subst (λ ns. AreWithin ns b) sizes_here within

  -- of the entries of a maximal set
  pub set_values : (sets : List WorldView) → AreExact sheet sets → (w : WorldView) → Contains sets w → (es : List Entry) → es ≡ w.entries → All (λ e. IsValueOfCell g.sizes e.cell e.value) es
  set_values sets exact w c es is = subst (All (λ e. IsValueOfCell g.sizes e.cell e.value)) (sym is)
      (all_from (λ (e : Entry). IsValueOfCell g.sizes e.cell e.value) w.entries (λ e there. entry_value e (sub_contained sheet.entries w.entries (is_maximal sheet sets exact w c).among e there)))

  -- a solver of the whole sheet has the pairs of all cells
  pub has_pairs : WholeIsSearched → (s : SolverView) → s.problem ≡ whole_problem sheet → HasPairs g.sizes numbers.cells.items s
  has_pairs whole s problem =
      let h = searched_whole sheet g numbers t whole in
      record {
        below = subst (λ (ns : List ℕ). All (λ c. c.0 < length ns) numbers.cells.items) (sym sizes_here) h.searched.cells_in;
        own = λ c x there below.
            let own = h.searched.own_pairs c x there (subst (λ ns. IsValueOfCell ns c x) sizes_here below) in
            subst (λ ns. Contains s.problem.own (pair_var ns c x)) (sym sizes_here) (subst (λ p. Contains p.own (pair_var (cell_sizes sheet.universe) c x)) (sym problem) own);
      }

-- ---- what is asked

module _ (whole : WholeIsSearched) (sheet : Sheet) (g : Grounded) (numbers : Numbers) (t : IsTask sheet g numbers) (set : List Entry) (target : Target) (holds : target.holds ≡ true)
    (values : All (λ e. IsValueOfCell g.sizes e.cell e.value) set) (value : IsValueOfCell g.sizes target.cell target.value) (given : List Lit) (given_is : given ≡ map (entry_literal g.sizes) set ++ negated (target_literal g.sizes target) ∷ []) where
  sizes_of : g.sizes ≡ cell_sizes sheet.universe
  sizes_of = sizes_are sheet g numbers t

  given_here : given ≡ map (entry_literal (cell_sizes sheet.universe)) set ++ negated (target_literal (cell_sizes sheet.universe) target) ∷ []
  given_here = given_is ∙ ap (λ ns. map (entry_literal ns) set ++ negated (target_literal ns target) ∷ []) sizes_of

  on_cells : (e : Entry) → Contains set e → Contains numbers.cells.items e.cell × IsValueOfCell (cell_sizes sheet.universe) e.cell e.value
  on_cells e c = with_value sheet g numbers t e.cell e.value (All-contains (λ (x : Entry). IsValueOfCell g.sizes x.cell x.value) set e values c)

  on_target : Contains numbers.cells.items target.cell × IsValueOfCell (cell_sizes sheet.universe) target.cell target.value
  on_target = with_value sheet g numbers t target.cell target.value value

  pub own_given : (s : SolverView) → s.problem ≡ whole_problem sheet → AreOwn s.problem.own given
  own_given s problem =
      let h = searched_whole sheet g numbers t whole in
      subst (λ p. AreOwn p.own given) (sym problem) (subst (AreOwn (all_variables sheet)) (sym given_here) (own_assumed sheet numbers.cells.items h set target holds on_cells on_target.0 on_target.1))

  module _ (s : SolverView) (problem : s.problem ≡ whole_problem sheet) (blocks : s.blocks ≡ []) where
    met_here : (v : Var → Bool) → Meets v (clauses_used s.problem) s.blocks given → Meets v (clauses_used (whole_problem sheet)) [] (map (entry_literal (cell_sizes sheet.universe)) set ++ negated (target_literal (cell_sizes sheet.universe) target) ∷ [])
    met_here v m = subst (Meets v (clauses_used (whole_problem sheet)) []) given_here (subst (λ bs. Meets v (clauses_used (whole_problem sheet)) bs given) blocks (subst (λ p. Meets v (clauses_used p) s.blocks given) problem m))

    met_back : (v : Var → Bool) → Meets v (clauses_used (whole_problem sheet)) [] (map (entry_literal (cell_sizes sheet.universe)) set ++ negated (target_literal (cell_sizes sheet.universe) target) ∷ []) → Meets v (clauses_used s.problem) s.blocks given
    met_back v m = subst (λ p. Meets v (clauses_used p) s.blocks given) (sym problem) (subst (λ bs. Meets v (clauses_used (whole_problem sheet)) bs given) (sym blocks) (subst (Meets v (clauses_used (whole_problem sheet)) []) (sym given_here) m))

    pub given_entails : ((v : Var → Bool) → ¬ Meets v (clauses_used s.problem) s.blocks given) → Entails sheet set target
    given_entails none = entailed sheet numbers.cells.items (searched_whole sheet g numbers t whole) set target holds on_cells on_target.0 on_target.1 (λ v m. none v (met_back v m))

    pub given_shows : Meets (truth_in s.trues) (clauses_used s.problem) s.blocks given → (b : List ValueId) → IsAssignment sheet.universe b
        → ((a : List ValueId) → AreWithin g.sizes a → HasValues g.sizes (map number_of numbers.cells.items) (truth_in s.trues) a → AgreeAt (Contains (map number_of numbers.cells.items)) a b) → Shows sheet set b × (¬ HasTarget b target)
    given_shows m b assigns reads =
        shown_is sheet numbers.cells.items (searched_whole sheet g numbers t whole) set target holds on_cells on_target.0 on_target.1 (truth_in s.trues) (met_here (truth_in s.trues) m) b assigns t.all.cells_are
        (subst (λ ns. (a : List ValueId) → AreWithin ns a → HasValues ns (map number_of numbers.cells.items) (truth_in s.trues) a → AgreeAt (Contains (map number_of numbers.cells.items)) a b) sizes_of reads)
