-- Worked cases of what certificates rest on: paths, reads, the limits of atoms, and values of ranges.
use Rattle.std.specs.Prelude.{◌≡◌, ℕ, zero, suc, Bool, false, pos, negsuc, List, [], ◌∷◌, length, Some, None, codes, true}
use Rattle.pc_name.specs.declared.sign.Op.TheVariants.{Eq, Lt}
use Rattle.pc_name.specs.declared.sign.Sign.{Sign}
use Rattle.pc_name.specs.declared.sign.Sign.TheVariants.{Plus}
use Rattle.pc_sheet.specs.Sheet.{range, Universe, Sheet, Item, no_items, item, variable, constant, number, cell, Statement, compare, no_more_than, of_first, exists, counts}
use Rattle.pc_sheet.specs.Nodes.{node_at}
use Rattle.pc_sheet.specs.Reads.{GiveTruth, AreTooFew}
use Rattle.pc_sheet.specs.WellSorted.{Variables, IsNewVariable, IsWellSorted}
use Rattle.pc_sheet.specs.declared.ids.SortId.{SortId}
use Rattle.pc_laws.specs.Examples.{red, green, entry, cell_side, color_side, equal_cells}
use Rattle.pc_laws.specs.Truths.{place, sort, blocks, x, right, single, before}
use Rattle.pc_accept.specs.Literals.{Literal}
use Rattle.pc_accept.specs.Axioms.{axiom_rule, axiom_node, axiom_atom, signed_node, signed_child, IsClauseOf}
use Rattle.pc_accept.specs.Accepts.{inconsistent, Line, taken, derived, Certificate, Accepts}

-- ---- a path into a quantifier: exists a:block . before(a, right)

abbrev pub some_block : Sheet
some_block = record {
  universe = blocks;
  rules = record { name = codes "some"; states = exists (codes "a") (sort 1) (before (variable 0) right) } ∷ [];
  entries = [];
}

pub record WorkedPaths : Type 0 where
  -- the second child is the body under the second block
  pub instance : node_at some_block 0 (1 ∷ []) ≡ Some ((sort 1, place 1) ∷ [], before (variable 0) right)
  -- there is no third block
  pub past_the_last : node_at some_block 0 (2 ∷ []) ≡ None
  -- an atom has no child
  pub below_an_atom : node_at some_block 0 (1 ∷ 0 ∷ []) ≡ None

-- ---- counters: atmost 1 a:block . before(a, right)

abbrev pub few_blocks : Sheet
few_blocks = record {
  universe = blocks;
  rules = record { name = codes "few"; states = counts (no_more_than 1) (codes "a") (sort 1) (before (variable 0) right) } ∷ [];
  entries = [];
}

-- its node, or a child of it, with a sign
abbrev pub it : Bool → Literal
it = signed_node 0 []

abbrev pub of_it : ℕ → Bool → Literal
of_it = signed_child 0 []

abbrev pub IsFewClause : List ℕ → ℕ → List Literal → Type 0
IsFewClause path i clause = IsClauseOf few_blocks (axiom_node 0 path i) clause

-- two blocks and the threshold 2: the bodies 0 and 1, and then the counters of the first block, 2 and 3, and of both, 4 and 5
pub record WorkedCounters : Type 0 where
  pub body : node_at few_blocks 0 (1 ∷ []) ≡ Some ((sort 1, place 1) ∷ [], before (variable 0) right)
  pub second_of_first : node_at few_blocks 0 (3 ∷ []) ≡ Some ([], counts (of_first 2 1 2) (codes "a") (sort 1) (before (variable 0) right))
  pub past_the_last : node_at few_blocks 0 (6 ∷ []) ≡ None
  pub below_a_counter : node_at few_blocks 0 (3 ∷ 0 ∷ []) ≡ None
  -- the node is true where the last counter is not, and it has no third clause
  pub node_true : IsFewClause [] 1 (it false ∷ of_it 5 false ∷ [])
  pub node_false : IsFewClause [] 2 (it true ∷ of_it 5 true ∷ [])
  pub no_third : (clause : List Literal) → ¬ IsFewClause [] 3 clause
  -- at least 1 of the first block: the clauses 1 and 4 alone
  pub one_of_first : IsFewClause (2 ∷ []) 1 (of_it 2 false ∷ of_it 0 true ∷ [])
  pub no_second : (clause : List Literal) → ¬ IsFewClause (2 ∷ []) 2 clause
  pub no_third_of_first : (clause : List Literal) → ¬ IsFewClause (2 ∷ []) 3 clause
  pub one_of_first_back : IsFewClause (2 ∷ []) 4 (of_it 2 true ∷ of_it 0 false ∷ [])
  -- at least 2 of the first block, which are never such: the clauses 1 and 2 alone
  pub two_by_first : IsFewClause (3 ∷ []) 1 (of_it 3 false ∷ of_it 0 true ∷ [])
  pub never_two : IsFewClause (3 ∷ []) 2 (of_it 3 false ∷ [])
  pub no_third_of_two : (clause : List Literal) → ¬ IsFewClause (3 ∷ []) 3 clause
  pub no_fourth_of_two : (clause : List Literal) → ¬ IsFewClause (3 ∷ []) 4 clause
  -- at least 1 of both: the clauses 1, 3 and 4
  pub one_of_both : IsFewClause (4 ∷ []) 1 (of_it 4 false ∷ of_it 2 true ∷ of_it 1 true ∷ [])
  pub no_second_of_both : (clause : List Literal) → ¬ IsFewClause (4 ∷ []) 2 clause
  pub one_of_both_by_first : IsFewClause (4 ∷ []) 3 (of_it 4 true ∷ of_it 2 false ∷ [])
  pub one_of_both_by_last : IsFewClause (4 ∷ []) 4 (of_it 4 true ∷ of_it 1 false ∷ [])
  -- at least 2 of both: all four clauses, and no fifth
  pub two_with_last : IsFewClause (5 ∷ []) 1 (of_it 5 false ∷ of_it 3 true ∷ of_it 1 true ∷ [])
  pub two_with_first : IsFewClause (5 ∷ []) 2 (of_it 5 false ∷ of_it 3 true ∷ of_it 2 true ∷ [])
  pub two_back : IsFewClause (5 ∷ []) 3 (of_it 5 true ∷ of_it 3 false ∷ [])
  pub two_back_by_last : IsFewClause (5 ∷ []) 4 (of_it 5 true ∷ of_it 2 false ∷ of_it 1 false ∷ [])
  pub no_fifth : (clause : List Literal) → ¬ IsFewClause (5 ∷ []) 5 clause

-- ---- reads of a = b

abbrev pub both_equal : Statement
both_equal = compare (cell_side 0) Eq (cell_side 1)

pub record WorkedReads : Type 0 where
  -- both cells give the truth
  pub enough : GiveTruth equal_cells.universe [] both_equal (entry 0 green ∷ entry 1 green ∷ []) true
  -- one of them doesn't
  pub too_few : AreTooFew equal_cells.universe [] both_equal (entry 0 green ∷ [])

-- ---- limits

-- x is added so many times
abbrev pub more_x : ℕ → List (Sign × Item)
more_x zero = []
more_x (suc n) = (Plus, x) ∷ more_x n

abbrev pub adds_x : ℕ → Statement
adds_x n = compare (record { first = x; rest = more_x n }) Eq (single (number (pos 0)))

pub record WorkedLimits : Type 0 where
  -- an atom may read sixteen cells, and no seventeenth
  pub sixteen_reads : IsWellSorted blocks [] (adds_x 15)
  pub seventeen_reads : ¬ IsWellSorted blocks [] (adds_x 16)
  -- inside sixteen quantifiers there is no further one
  pub no_seventeenth_quantifier : (vs : Variables) (name : List ℕ) (s : SortId) → length vs ≡ 16 → ¬ IsNewVariable blocks vs name s

-- ---- a value of a range

-- two ranges, with a number z of each number from -1 to 2, and a number w from 0 to 5
abbrev pub ranges : Universe
ranges = record {
  sorts = record { name = codes "n"; values = range (negsuc 0) (pos 2) } ∷ record { name = codes "m"; values = range (pos 0) (pos 5) } ∷ [];
  tables = [];
  families = record { name = codes "z"; sorts = sort 0 ∷ []; result_sort = sort 0 } ∷ record { name = codes "w"; sorts = []; result_sort = sort 1 } ∷ [];
}

-- the number -1 as a value of its sort
abbrev pub lowest : Item
lowest = constant (sort 0) (place 0)

abbrev pub z_of_lowest : Item
z_of_lowest = cell (record { 0 = 0 }) (item lowest no_items)

abbrev pub w : Item
w = cell (record { 0 = 1 }) no_items

pub record WorkedRanges : Type 0 where
  -- z(-1) = 0: it may be an argument
  pub as_argument : IsWellSorted ranges [] (compare (single z_of_lowest) Eq (single (number (pos 0))))
  -- but no item of a side, which has numbers instead
  pub as_item : ¬ IsWellSorted ranges [] (compare (single lowest) Eq (single (number (pos 0))))
  -- z(-1) < w: numbers of two ranges are compared as numbers
  pub two_ranges : IsWellSorted ranges [] (compare (single z_of_lowest) Lt (single w))

-- ---- a certificate of inconsistency: the one rule says red = green

abbrev pub never : Sheet
never = record {
  universe = equal_cells.universe;
  rules = record { name = codes "never"; states = compare (color_side red) Eq (color_side green) } ∷ [];
  entries = [];
}

abbrev pub refuting : List Line
refuting = taken (axiom_rule 0) ∷ taken (axiom_atom 0 [] []) ∷ derived [] (0 ∷ 1 ∷ []) ∷ []

abbrev pub refutation : List Line → Certificate
refutation lines = record { claim = inconsistent; sets = []; uses = []; values = []; lines = lines }

pub record WorkedRefutation : Type 0 where
  pub accepted : Accepts never (refutation refuting)
  -- its axioms alone don't end with the empty clause
  pub unfinished : ¬ Accepts never (refutation (taken (axiom_rule 0) ∷ []))
