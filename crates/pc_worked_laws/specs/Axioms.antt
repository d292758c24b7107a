-- Which numbers the clauses of nodes have, and what is an axiom and what is none.
use Rattle.std.specs.Prelude.{ℕ, true, false, List, [], ◌∷◌, ◌++◌, map, codes}
use Rattle.pc_sheet.specs.Sheet.{Statement, variable, compare, negation, implies, iff, for_all, exists, counts, no_fewer_than}
use Rattle.pc_sheet.specs.declared.ids.Entry.{Entry}
use Rattle.pc_name.specs.declared.sign.Op.TheVariants.{Eq}
use Rattle.pc_laws.specs.Examples.{red, green, entry, color_side, equal_cells, chain}
use Rattle.pc_laws.specs.Truths.{place, sort, single}
use Rattle.pc_laws.specs.Weights.{a_is_red, both, either, of_one_rule}
use Rattle.pc_accept.specs.Literals.{Literal, positive}
use Rattle.pc_accept.specs.Axioms.{axiom_some, axiom_one, axiom_rule, axiom_node, axiom_atom, pair_of, negated_entry, IsClauseOf}
use Rattle.pc_accept.specs.Worked.{it, of_it}
use Rattle.pc_worked_laws.specs.Several.{cell_of}

-- ---- a rule's root, and its children

-- the clause of that number of the one rule's root
abbrev pub IsOfRoot : Statement → ℕ → List Literal → Type 0
IsOfRoot s number clause = IsClauseOf (of_one_rule s) (axiom_node 0 [] number) clause

-- of a color
abbrev pub is_red : Statement
is_red = compare (single (variable 0)) Eq (color_side red)

abbrev pub negated : Statement
negated = negation a_is_red

abbrev pub implied : Statement
implied = implies a_is_red a_is_red

abbrev pub equivalent : Statement
equivalent = iff a_is_red a_is_red

abbrev pub each_color : Statement
each_color = for_all (codes "v") (sort 0) is_red

abbrev pub some_color : Statement
some_color = exists (codes "v") (sort 0) is_red

-- atleast 1 v:color . v = red: of two values and the threshold 1 the bodies are the children 0 and 1, and the counters 2 and 3
abbrev pub one_color : Statement
one_color = counts (no_fewer_than 1) (codes "v") (sort 0) is_red

pub record WorkedKinds : Type 0 where
  -- numbers count from 1
  pub no_number_zero : (clause : List Literal) → ¬ IsOfRoot implied 0 clause
  -- !
  pub not_true : IsOfRoot negated 1 (it false ∷ of_it 0 false ∷ [])
  pub not_false : IsOfRoot negated 2 (it true ∷ of_it 0 true ∷ [])
  pub not_third : (clause : List Literal) → ¬ IsOfRoot negated 3 clause
  -- &: each child's, and then that of all
  pub and_first : IsOfRoot (both a_is_red a_is_red) 1 (it false ∷ of_it 0 true ∷ [])
  pub and_second : IsOfRoot (both a_is_red a_is_red) 2 (it false ∷ of_it 1 true ∷ [])
  pub and_all : IsOfRoot (both a_is_red a_is_red) 3 (it true ∷ of_it 0 false ∷ of_it 1 false ∷ [])
  pub and_fourth : (clause : List Literal) → ¬ IsOfRoot (both a_is_red a_is_red) 4 clause
  -- |
  pub or_first : IsOfRoot (either a_is_red a_is_red) 1 (it true ∷ of_it 0 false ∷ [])
  pub or_second : IsOfRoot (either a_is_red a_is_red) 2 (it true ∷ of_it 1 false ∷ [])
  pub or_some : IsOfRoot (either a_is_red a_is_red) 3 (it false ∷ of_it 0 true ∷ of_it 1 true ∷ [])
  pub or_fourth : (clause : List Literal) → ¬ IsOfRoot (either a_is_red a_is_red) 4 clause
  -- ->
  pub implies_true : IsOfRoot implied 1 (it false ∷ of_it 0 false ∷ of_it 1 true ∷ [])
  pub implies_by_premise : IsOfRoot implied 2 (it true ∷ of_it 0 true ∷ [])
  pub implies_by_conclusion : IsOfRoot implied 3 (it true ∷ of_it 1 false ∷ [])
  pub implies_fourth : (clause : List Literal) → ¬ IsOfRoot implied 4 clause
  -- <->
  pub iff_forwards : IsOfRoot equivalent 1 (it false ∷ of_it 0 false ∷ of_it 1 true ∷ [])
  pub iff_backwards : IsOfRoot equivalent 2 (it false ∷ of_it 0 true ∷ of_it 1 false ∷ [])
  pub iff_none : IsOfRoot equivalent 3 (it true ∷ of_it 0 true ∷ of_it 1 true ∷ [])
  pub iff_both : IsOfRoot equivalent 4 (it true ∷ of_it 0 false ∷ of_it 1 false ∷ [])
  pub iff_fifth : (clause : List Literal) → ¬ IsOfRoot equivalent 5 clause
  -- forall, of two values
  pub each_first : IsOfRoot each_color 1 (it false ∷ of_it 0 true ∷ [])
  pub each_second : IsOfRoot each_color 2 (it false ∷ of_it 1 true ∷ [])
  pub each_all : IsOfRoot each_color 3 (it true ∷ of_it 0 false ∷ of_it 1 false ∷ [])
  pub each_fourth : (clause : List Literal) → ¬ IsOfRoot each_color 4 clause
  -- exists
  pub some_first : IsOfRoot some_color 1 (it true ∷ of_it 0 false ∷ [])
  pub some_second : IsOfRoot some_color 2 (it true ∷ of_it 1 false ∷ [])
  pub some_some : IsOfRoot some_color 3 (it false ∷ of_it 0 true ∷ of_it 1 true ∷ [])
  pub some_fourth : (clause : List Literal) → ¬ IsOfRoot some_color 4 clause
  -- atleast: the node is the last counter
  pub at_least_true : IsOfRoot one_color 1 (it false ∷ of_it 3 true ∷ [])
  pub at_least_false : IsOfRoot one_color 2 (it true ∷ of_it 3 false ∷ [])
  pub at_least_third : (clause : List Literal) → ¬ IsOfRoot one_color 3 clause

-- ---- what is an axiom

-- the clause of a rule's root, an atom, by these reads: it is true, or false
abbrev pub by_reads : List Entry → Literal → List Literal
by_reads reads l = map negated_entry reads ++ l ∷ []

abbrev pub three_reads : List Entry
three_reads = entry 0 green ∷ entry 1 green ∷ entry 2 red ∷ []

-- The cells a and b are equal; or a = b and b = c.
pub record WorkedAxioms : Type 0 where
  -- b has a value; there is no third cell
  pub some_value : IsClauseOf equal_cells (axiom_some (cell_of 1)) (positive (pair_of (entry 1 red)) ∷ positive (pair_of (entry 1 green)) ∷ [])
  pub some_of_no_cell : (clause : List Literal) → ¬ IsClauseOf equal_cells (axiom_some (cell_of 2)) clause
  -- not two values, in either order
  pub one_value : IsClauseOf equal_cells (axiom_one (cell_of 0) red green) (negated_entry (entry 0 red) ∷ negated_entry (entry 0 green) ∷ [])
  pub one_value_turned : IsClauseOf equal_cells (axiom_one (cell_of 0) green red) (negated_entry (entry 0 green) ∷ negated_entry (entry 0 red) ∷ [])
  pub one_of_equals : (clause : List Literal) → ¬ IsClauseOf equal_cells (axiom_one (cell_of 0) red red) clause
  pub one_of_no_value : (clause : List Literal) → ¬ IsClauseOf equal_cells (axiom_one (cell_of 0) red (place 2)) clause
  -- there is no second rule
  pub first_rule : IsClauseOf equal_cells (axiom_rule 0) (it true ∷ [])
  pub no_rule : (clause : List Literal) → ¬ IsClauseOf equal_cells (axiom_rule 1) clause
  -- an atom has no node axiom, and what isn't one no atom axiom
  pub node_at_atom : (number : ℕ) (clause : List Literal) → ¬ IsClauseOf equal_cells (axiom_node 0 [] number) clause
  pub atom_at_negation : (reads : List Entry) (clause : List Literal) → ¬ IsClauseOf (of_one_rule negated) (axiom_atom 0 [] reads) clause
  -- an atom by its reads, in any order
  pub atom_true : IsClauseOf equal_cells (axiom_atom 0 [] (entry 1 green ∷ entry 0 green ∷ [])) (by_reads (entry 1 green ∷ entry 0 green ∷ []) (it true))
  pub atom_false : IsClauseOf equal_cells (axiom_atom 0 [] (entry 0 red ∷ entry 1 green ∷ [])) (by_reads (entry 0 red ∷ entry 1 green ∷ []) (it false))
  pub not_so : ¬ IsClauseOf equal_cells (axiom_atom 0 [] (entry 0 red ∷ entry 1 green ∷ [])) (by_reads (entry 0 red ∷ entry 1 green ∷ []) (it true))
  -- more reads than it looks up
  pub more_reads : IsClauseOf (chain []) (axiom_atom 0 [] three_reads) (by_reads three_reads (it true))
  -- too few; and a cell twice, be it with one value
  pub too_few_reads : (clause : List Literal) → ¬ IsClauseOf equal_cells (axiom_atom 0 [] (entry 0 green ∷ [])) clause
  pub no_reads : (clause : List Literal) → ¬ IsClauseOf equal_cells (axiom_atom 0 [] []) clause
  pub read_twice : (clause : List Literal) → ¬ IsClauseOf equal_cells (axiom_atom 0 [] (entry 0 green ∷ entry 0 green ∷ entry 1 green ∷ [])) clause
  pub read_otherwise : (clause : List Literal) → ¬ IsClauseOf equal_cells (axiom_atom 0 [] (entry 0 green ∷ entry 1 green ∷ entry 0 red ∷ [])) clause
  -- a read of a cell that isn't there
  pub read_of_no_cell : (clause : List Literal) → ¬ IsClauseOf equal_cells (axiom_atom 0 [] three_reads) clause
