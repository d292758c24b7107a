-- A part is searched by its kept axioms.
use Rattle.std.proofs.Common.{◌≡◌, ℕ, ◌<◌, inl, inr, Bool, List, [], Option, Some, length, slice_get, slice_index_or, All, Contains, arith, ap, refl, sym, ◌∙◌, subst}
use Rattle.std.proofs.Math.Bool.{not-not}
use Rattle.std.proofs.lemmas.List.{length-map}
use Rattle.std.proofs.lemmas.Option.{slice_get_within, get_or_from_slice_get}
use Rattle.pc_lits.specs.declared.literal.Lit.{Lit}
use Rattle.pc_lits.specs.declared.literal.Var.{Var}
use Rattle.pc_lits.specs.Literals.{negated}
use Rattle.pc_lits.specs.Values.{MakesTrue}
use Rattle.pc_lemmas.proofs.Elements.{contains_map, all_from, contains_first}
use Rattle.pc_sheet.specs.Sheet.{Sheet}
use Rattle.pc_sheet.specs.Entailment.{cell_sizes}
use Rattle.pc_sheet.specs.declared.ids.CellId.{CellId}
use Rattle.pc_accept.specs.Literals.{Literal, opposite, positive}
use Rattle.pc_parts.specs.PartSheets.{entries_on, sheet_of}
use Rattle.pc_ground.specs.Variables.{pair_at, variable_count, number}
use Rattle.pc_ground.specs.Ground.{GroundAxiom, axioms, clauses, clause_of_axiom, lit_of, some_axiom, one_axioms}
use Rattle.pc_ground.proofs.Lists.{each_there}
use Rattle.pc_ground.proofs.Symbols.{symbols_are_variables}
use Rattle.pc_components.specs.Used.{AreFor}
use Rattle.pc_components.specs.View.{number_of, variable_number}
use Rattle.pc_components.proofs.PartFor.{slice_contains, slice_map}
use Rattle.pc_components.proofs.Symbols.{cell_there}
use Rattle.pc_problem.proofs.Entries.{on_distinct, on_cells, on_values}
use Rattle.pc_problem.proofs.Made.{of_number, value_below, literal_below, at_slice, problem_made}
use Rattle.pc_solver.specs.Banned.{AreLone}
use Rattle.pc_kept.specs.ByPolarity.{AreKeptByPolarity}
use Rattle.pc_kept.specs.Laws.{KeptPartsAreSearched}
use Rattle.pc_kept.proofs.ByNumber.{clause_at, clause_is, literal_at, none_some, IsOwn, is_own, one_own, one_literal}
use Rattle.pc_kept.proofs.CellValues.{number_there}
use Rattle.pc_kept.proofs.KeptFor.{kept_by_polarity_are_for_their_parts}

-- A literal of a kept axiom whose negation is banned is of the node that the axiom means, since else the axiom would name it; and of that
-- node an axiom has one literal.
module _ (sheet : Sheet) (used kept : List ℕ) (banned : List (Option Bool)) (are : AreKeptByPolarity sheet banned used kept) where
  twice_opposite : (m : Literal) → opposite (opposite m) ≡ m
  twice_opposite m = let make : Bool → Literal = λ b. record { what = m.what; sign = b } in ap make (not-not m.sign)

  own_of : (n : ℕ) → Contains kept n → (g : GroundAxiom) → slice_get (axioms sheet) n ≡ Some g → (l : Lit) → Contains (clause_at sheet n) l → MakesTrue banned (negated l) → IsOwn sheet n l.variable.0
  own_of n c g at l has bans =
      let m = literal_at sheet n g at l has in
      let same : lit_of sheet (opposite m.0) ≡ negated l = ap negated m.2 in
      let unnamed = (are.only (opposite m.0) (symbols_are_variables sheet g (slice_contains (axioms sheet) n g at) m.0 m.1) (subst (MakesTrue banned) (sym same) bans)).1 in
      elim (is_own sheet n l.variable.0) [
        | inl own ↦ own
        | inr other ↦ absurd (unnamed (n, g, c, at, subst (Contains g.clause) (sym (twice_opposite m.0)) m.1, λ means. other (g, at, m.0.what, means, ap (λ (q : Lit). q.variable.0) m.2)))
      ]

  pub kept_are_lone : ((n : ℕ) → Contains kept n → (g : GroundAxiom) × (slice_get (axioms sheet) n ≡ Some g)) → AreLone banned (clauses sheet) kept
  kept_are_lone at n c l m l_in m_in l_bans m_bans =
      let g = at n c in
      let is : slice_index_or (clauses sheet) n [] ≡ clause_at sheet n =
      get_or_from_slice_get (clauses sheet) n (clause_of_axiom sheet g.0) [] (slice_map (clause_of_axiom sheet) (axioms sheet) n g.0 g.1) ∙ sym (clause_is sheet n g.0 g.1) in
      let l_there = subst (λ d. Contains d l) is l_in in
      let m_there = subst (λ d. Contains d m) is m_in in
      let l_own = own_of n c g.0 g.1 l l_there l_bans in
      let m_own = own_of n c g.0 g.1 m m_there m_bans in
      one_literal sheet n l.variable.0 l_own l m l_there m_there refl (one_own sheet n m.variable.0 l.variable.0 m_own l_own)

pub kept_parts_are_searched : KeptPartsAreSearched
kept_parts_are_searched sheet formed all division part there low cells used kept own banned cells_are of are vars = record {
  searched = record {
    sizes_are = refl;
    entries_are = ap (λ ns. entries_on ns sheet.entries) (sym cells_are);
    cells_in = all_from (λ (c : CellId). c.0 < length (cell_sizes sheet.universe)) cells cell_in;
    distinct = on_distinct sheet.universe sheet.entries formed.entries.each formed.entries.distinct cells;
    entries_on = on_cells sheet.universe sheet.entries formed.entries.each formed.entries.distinct cells;
    values = on_values sheet.universe sheet.entries formed.entries.each formed.entries.distinct cells;
    used_in = kept_in;
    own_pairs = λ c x c_there below.
        let n = value_below (cell_sizes sheet.universe) c.0 x.0 (cell_in c c_there) below in
        let g = some_axiom c.0 n.0 in
        let k = number_there sheet part used of g (cell_there sheet c.0 n.0 n.1 g (contains_first g (one_axioms c.0 0 n.0))) (in_part c c_there) in
        let l = positive (pair_at c.0 x.0) in
        let has = each_there n.0 (λ v. positive (pair_at c.0 v)) x.0 n.2 in
        elim (are.each k.0 g k.1 k.2) [
          | inl stays ↦ of_number own (number sheet (pair_at c.0 x.0))
              ((vars.exact (number sheet (pair_at c.0 x.0))).1 (k.0, stays, clause_of_axiom sheet g, slice_map (clause_of_axiom sheet) (axioms sheet) k.0 g k.2, lit_of sheet l, contains_map (lit_of sheet) g.clause l has, refl))
          | inr (inl out) ↦ absurd out.0
          | inr (inr out) ↦ absurd (none_some out.1.1)
        ];
    are_for = subst (λ ns. AreFor (sheet_of sheet part) ns (clauses sheet) kept) (sym cells_are) (kept_by_polarity_are_for_their_parts sheet formed all division part there used kept banned of are);
  };
  problem = problem_made sheet kept own banned kept_in own_below (λ k c clause at l has. of_number own l.variable.0 ((vars.exact l.variable.0).1 (k, c, clause, at, l, has, refl)))
      (kept_are_lone sheet used kept banned are (λ n c. let g = (of.exact n).0 (are.among n c) in (g.0, g.1)));
}
  where
    in_part : (c : CellId) → Contains cells c → Contains part.cells c.0
    in_part c c_there = subst (λ ns. Contains ns c.0) cells_are (contains_map number_of cells c c_there)

    cell_in : (c : CellId) → Contains cells c → c.0 < length (cell_sizes sheet.universe)
    cell_in c c_there = low c.0 (in_part c c_there)

    kept_in : All (λ n. n < length (clauses sheet)) kept
    kept_in = all_from (λ n. n < length (clauses sheet)) kept
        (λ n c.
        let g = (of.exact n).0 (are.among n c) in
        let below = slice_get_within (axioms sheet) n g.0 g.1 in
        omega (arith, below, length-map (axioms sheet) (clause_of_axiom sheet)))

    own_below : (v : Var) → Contains own v → v.0 < variable_count sheet
    own_below v c =
        let k = (vars.exact v.0).0 (contains_map variable_number own v c) in
        let below = literal_below sheet k.2 k.4 (at_slice (clauses sheet) k.0 k.2 k.3) k.5 in
        let same = k.6 in
        omega (arith, below, same)
