-- The blocks of a sheet's maximal sets: which entries each has, and that no truth values meet them all.
use Rattle.std.proofs.Common.{◌≡◌, ℕ, ◌+◌, ◌<◌, ◌≤◌, Bool, true, not, List, [], ◌∷◌, ◌++◌, length, map, take, get_or, Contains, arith, ap, sym, ◌∙◌, subst}
use Rattle.std.specs.List.{filter}
use Rattle.std.proofs.lemmas.Bool.{false≢true, not_from_false}
use Rattle.std.proofs.lemmas.List.{length-map, get_or-map, take_more, take_all}
use Rattle.std.proofs.lemmas.List.Elements.{All-contains}
use Rattle.pc_lemmas.proofs.Elements.{contains_map, contains_mapped, kept, kept_is, all_from}
use Rattle.pc_laws.specs.Laws.{ConsistentIsInMaximal}
use Rattle.pc_laws.proofs.Contained.{filter_sub}
use Rattle.pc_lits.specs.declared.literal.Var.{Var}
use Rattle.pc_lits.specs.declared.literal.Lit.{Lit}
use Rattle.pc_lits.specs.Truth.{lit_true}
use Rattle.pc_lits.proofs.Sound.{true_literal}
use Rattle.pc_sheet.specs.Sheet.{Sheet}
use Rattle.pc_sheet.specs.Entailment.{cell_sizes, HasEntry, IsSublist}
use Rattle.pc_sheet.specs.MaximalSets.{IsMaximalSet}
use Rattle.pc_sheet.specs.WellFormed.{IsWellFormed}
use Rattle.pc_sheet.specs.declared.ids.CellId.{CellId}
use Rattle.pc_sheet.specs.declared.ids.Entry.{Entry}
use Rattle.pc_accept.specs.Sets.{is_in, those_outside}
use Rattle.pc_accept.proofs.SetsSound.{contains_in}
use Rattle.pc_ground.specs.Ground.{clauses}
use Rattle.pc_components.specs.Pairs.{entry_literal, pair_var, IsValueOfCell}
use Rattle.pc_components.proofs.Assigned.{has_value, met_are_used}
use Rattle.pc_problem.specs.Laws.{AreSearchedBy}
use Rattle.pc_solver.specs.Answers.{Meets, truth_in}
use Rattle.pc_solver.specs.Solver.{SolverView, AreOwn, clauses_used}
use Rattle.pc_theory.specs.WholeSpendings.{all_axioms, all_variables}
use Rattle.pc_world_list.specs.Worlds.{WorldView, AreExact, set_of, set_at}
use Rattle.pc_components.specs.Blocks.{IsBlockOf}
use Rattle.pc_repairs.specs.Blocks.{block_for, blocks_for}
use Rattle.pc_repairs.specs.Searches.{whole_problem}
use Rattle.pc_repairs.specs.inside.Walks.{outside_by}
use Rattle.pc_repairs.proofs.Outside.{not_in, outside_is}

abbrev pub lacks : List Entry → Entry → Bool
lacks set e = not (is_in set e)

pub outside : (set : List Entry) (e : Entry) → lacks set e ≡ true → ¬ Contains set e
outside set e is_out inside = false≢true (sym (ap not (contains_in set e inside)) ∙ is_out)

module _ (sheet : Sheet) (cells : List CellId) (h : AreSearchedBy sheet sheet cells (all_axioms sheet) (all_variables sheet) []) where
  abbrev sizes : List ℕ
  sizes = cell_sizes sheet.universe

  -- each entry is on one of the cells, with one of its values
  pub entry_there : (e : Entry) → Contains sheet.entries e → Contains cells e.cell × IsValueOfCell sizes e.cell e.value
  entry_there e c =
      let there = subst (λ es. Contains es e) h.searched.entries_are c in
      (All-contains (λ (x : Entry). Contains cells x.cell) _ e h.searched.entries_on there, All-contains (λ (x : Entry). IsValueOfCell sizes x.cell x.value) _ e h.searched.values there)

  pub own_block : (set : List Entry) → AreOwn (all_variables sheet) (block_for sheet set)
  own_block set = record {
    each = all_from (λ (l : Lit). Contains (all_variables sheet) l.variable) (block_for sheet set)
        (λ l c.
        let e = contains_mapped (entry_literal sizes) (those_outside sheet.entries set) l c in
        let k = kept_is (lacks set) sheet.entries e.0 e.1 in
        let t = entry_there e.0 k.0 in
        subst (λ (m : Lit). Contains (all_variables sheet) m.variable) e.2 (h.searched.own_pairs e.0.cell e.0.value t.0 t.1));
  }

  entry_true : (v : Var → Bool) (e : Entry) (l : Lit) → entry_literal sizes e ≡ l → lit_true v l ≡ true → v (pair_var sizes e.cell e.value) ≡ true
  entry_true v e l is holds = ap (lit_true v) is ∙ holds

  -- under no truth values that meet the sheet's clauses are the blocks of all maximal sets true
  pub no_model : ConsistentIsInMaximal → IsWellFormed sheet → (worlds : List WorldView) → AreExact sheet worlds → (v : Var → Bool) → Meets v (clauses_used (whole_problem sheet)) (blocks_for sheet worlds) [] → ⊥
  no_model largest formed worlds exact v m =
      let f = h.searched.are_for.fits v (met_are_used (clauses sheet) (all_axioms sheet) v m.axioms_true) in
      let p : Entry → Bool = λ e. v (pair_var sizes e.cell e.value) in
      let has = all_from (HasEntry f.0) (filter p sheet.entries)
      (λ e c.
      let k = kept_is p sheet.entries e c in
      let t = entry_there e k.0 in
      (has_value sizes cells v f.0 f.3 e.cell e.value t.0 t.1).0 k.1) in
      let max = largest sheet (filter p sheet.entries) formed.entries.distinct (filter_sub p sheet.entries) (f.0, record { assigns = f.1; fits = f.2; has = has }) in
      let w = contains_mapped set_of worlds max.0 ((exact.sets.exact max.0).1 max.1) in
      let block = m.blocks_true (block_for sheet w.0.entries) (contains_map (λ (x : WorldView). block_for sheet x.entries) worlds w.0 w.1) in
      let l = true_literal (lit_true v) (block_for sheet w.0.entries) block in
      let e = contains_mapped (entry_literal sizes) (those_outside sheet.entries w.0.entries) l.0 l.1 in
      let k = kept_is (lacks w.0.entries) sheet.entries e.0 e.1 in
      let is_true : p e.0 ≡ true = entry_true v e.0 l.0 e.2 l.2 in
      outside w.0.entries e.0 k.1 (subst (λ s. Contains s e.0) (sym w.2) (max.2 e.0 (kept p sheet.entries e.0 k.0 is_true)))

-- each literal of a block is of an entry outside the set
pub block_is : (sheet : Sheet) (set : List Entry) → IsBlockOf (cell_sizes sheet.universe) sheet.entries set (block_for sheet set)
block_is sheet set l = (
  λ c.
      let e = contains_mapped (entry_literal (cell_sizes sheet.universe)) (those_outside sheet.entries set) l c in
      let k = kept_is (lacks set) sheet.entries e.0 e.1 in
      (e.0, k.0, outside set e.0 k.1, e.2),
  λ x. subst (Contains (block_for sheet set)) x.3
      (contains_map (entry_literal (cell_sizes sheet.universe)) (those_outside sheet.entries set) x.0 (kept (lacks set) sheet.entries x.0 x.1 (not_from_false (is_in set x.0) (not_in set x.0 x.2)))),
)

pub of_sets : (sheet : Sheet) (worlds : List WorldView) → AreExact sheet worlds → (b : List Lit) → Contains (blocks_for sheet worlds) b → (set : List Entry) × IsMaximalSet sheet set × IsBlockOf (cell_sizes sheet.universe) sheet.entries set b
of_sets sheet worlds exact b c =
    let w = contains_mapped (λ (x : WorldView). block_for sheet x.entries) worlds b c in
    (w.0.entries, (exact.sets.exact w.0.entries).0 (contains_map set_of worlds w.0 w.1), subst (IsBlockOf (cell_sizes sheet.universe) sheet.entries w.0.entries) w.2 (block_is sheet w.0.entries))

-- no solver of the whole sheet beside these blocks finds any
pub no_sat : ConsistentIsInMaximal → (sheet : Sheet) (cells : List CellId) → AreSearchedBy sheet sheet cells (all_axioms sheet) (all_variables sheet) [] → IsWellFormed sheet → (worlds : List WorldView) → AreExact sheet worlds
    → (s : SolverView) → s.problem ≡ whole_problem sheet → s.blocks ≡ blocks_for sheet worlds → Meets (truth_in s.trues) (clauses_used s.problem) s.blocks [] → ⊥
no_sat largest sheet cells h formed worlds exact s problem blocks m =
    no_model sheet cells h largest formed worlds exact (truth_in s.trues)
    (subst (λ bs. Meets (truth_in s.trues) (clauses_used (whole_problem sheet)) bs []) blocks (subst (λ p. Meets (truth_in s.trues) (clauses_used p) s.blocks []) problem m))

-- ---- blocks one after the other

pub more_blocks : (sheet : Sheet) (worlds : List WorldView) (place : ℕ) (block : List Lit) (before after : List (List Lit)) → place < length worlds → before ≡ take place (blocks_for sheet worlds)
    → block ≡ block_for sheet (set_at worlds place) → after ≡ before ++ block ∷ [] → after ≡ take (place + 1) (blocks_for sheet worlds)
more_blocks sheet worlds place block before after low was own is =
    let blank : WorldView = record { entries = []; shown = [] } in
    let of_world : WorldView → List Lit = λ w. block_for sheet w.entries in
    let here : block ≡ get_or (blocks_for sheet worlds) place [] = own ∙ ap (block_for sheet) (get_or-map set_of worlds place blank [] low) ∙ sym (get_or-map of_world worlds place blank [] low) in
    is ∙ ap (λ bs. bs ++ block ∷ []) was ∙ ap (λ b. take place (blocks_for sheet worlds) ++ b ∷ []) here ∙ sym (take_more (blocks_for sheet worlds) place [] (omega (arith, low, length-map worlds of_world)))

pub all_blocks : (sheet : Sheet) (worlds : List WorldView) (place : ℕ) (blocks : List (List Lit)) → length worlds ≤ place → blocks ≡ take place (blocks_for sheet worlds) → blocks ≡ blocks_for sheet worlds
all_blocks sheet worlds place blocks past is = is ∙ take_all place (blocks_for sheet worlds) (omega (arith, past, length-map worlds (λ (w : WorldView). block_for sheet w.entries)))

-- of a walk over the entries and a set
pub block_made : (sheet : Sheet) (sizes : List ℕ) (es set : List Entry) (lits : List Lit) → IsWellFormed sheet → sizes ≡ cell_sizes sheet.universe → es ≡ sheet.entries → IsSublist sheet.entries set → lits ≡ map (entry_literal sizes) (outside_by es set)
    → lits ≡ block_for sheet set
block_made sheet sizes es set lits formed sizes_is entries_are among is =
    is ∙ ap (λ xs. map (entry_literal sizes) (outside_by xs set)) entries_are ∙ ap (map (entry_literal sizes)) (outside_is sheet.entries set formed.entries.distinct among)
    ∙ ap (λ ns. map (entry_literal ns) (those_outside sheet.entries set)) sizes_is

pub own_made : (sheet : Sheet) (cells : List CellId) → AreSearchedBy sheet sheet cells (all_axioms sheet) (all_variables sheet) [] → (s : SolverView) (block : List Lit) (set : List Entry) → s.problem ≡ whole_problem sheet → block ≡ block_for sheet set
    → AreOwn s.problem.own block
own_made sheet cells h s block set problem is = subst (λ p. AreOwn p.own block) (sym problem) (subst (AreOwn (all_variables sheet)) (sym is) (own_block sheet cells h set))
