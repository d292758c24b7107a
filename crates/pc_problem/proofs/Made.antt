-- Books and their parts are searched.
use Rattle.std.proofs.Common.{◌≡◌, ℕ, ◌+◌, ◌<◌, ◌^◌, Bool, List, [], map, length, get_or, slice_index_or, Option, Some, slice_get, All, Contains, arith, ap, refl, sym, ◌∙◌, subst, zero-add}
use Rattle.std.specs.List.{range_with_len}
use Rattle.std.proofs.lemmas.List.{get_or-map, length-map}
use Rattle.std.proofs.lemmas.List.FromFn.{get_or-range_with_len, length-range_with_len}
use Rattle.std.proofs.lemmas.List.Elements.{All-contains}
use Rattle.std.proofs.lemmas.Option.{slice_get-get_or, slice_get_within, get_or_from_slice_get}
use Rattle.pc_lits.specs.declared.literal.Var.{Var}
use Rattle.pc_lits.specs.declared.literal.Lit.{Lit}
use Rattle.pc_lemmas.proofs.Elements.{contains_map, contains_mapped, all_from, contains_first}
use Rattle.pc_sheet.specs.Sheet.{Sheet}
use Rattle.pc_sheet.specs.Entailment.{cell_sizes}
use Rattle.pc_sheet.specs.WellFormed.{IsEntryOf}
use Rattle.pc_sheet.specs.declared.ids.CellId.{CellId}
use Rattle.pc_sheet.specs.declared.ids.Entry.{Entry}
use Rattle.pc_lemmas.proofs.Options.{some_and}
use Rattle.pc_accept.specs.Literals.{Symbol, positive}
use Rattle.pc_parts.specs.PartSheets.{entries_on, sheet_of}
use Rattle.pc_parts.proofs.Joining.{contains_among}
use Rattle.pc_ground.specs.Variables.{pair_at, variables, variable_count, number}
use Rattle.pc_ground.specs.Ground.{axioms, clauses, clause_of_axiom, lit_of, some_axiom, one_axioms}
use Rattle.pc_ground.proofs.Lists.{each_there}
use Rattle.pc_ground.proofs.Numbers.{numbered_up, counted_up}
use Rattle.pc_ground.proofs.Symbols.{symbols_are_variables}
use Rattle.pc_components.specs.Used.{AreFor}
use Rattle.pc_components.specs.View.{number_of, variable_number}
use Rattle.pc_components.proofs.OwnAlone.{has_symbol}
use Rattle.pc_components.proofs.PartFor.{pair_in, part_axioms_are_for_their_parts, axioms_are_for_their_sheet}
use Rattle.pc_components.proofs.Symbols.{cell_there}
use Rattle.pc_solver.specs.Banned.{AreLone}
use Rattle.pc_solver.specs.Clauses.{IsOverOwn}
use Rattle.pc_solver.specs.Solver.{IsProblem}
use Rattle.pc_solver.proofs.BannedLemmas.{lone_anyway}
use Rattle.pc_problem.specs.Laws.{problem_of, WholeIsSearched, PartsAreSearched}
use Rattle.pc_problem.proofs.Entries.{on_distinct, on_cells, on_values, all_stay}

-- ---- numbers

is_number : (n k : ℕ) → k < n → Contains (range_with_len 0 n) k
is_number n k l = (k, omega (arith, l, length-range_with_len 0 n), get_or-range_with_len 0 n k k l ∙ zero-add k)

number_is : (n k : ℕ) → Contains (range_with_len 0 n) k → k < n
number_is n k (i, low, is) =
    let below : i < n = omega (arith, low, length-range_with_len 0 n) in
    let at : k ≡ i = sym is ∙ get_or-range_with_len 0 n i k below ∙ zero-add i in
    omega (arith, at, below)

pub of_number : (own : List Var) (n : ℕ) → Contains (map variable_number own) n → Contains own (record { 0 = n })
of_number own n c =
    let v = contains_mapped variable_number own n c in
    let make = λ (k : ℕ). let x : Var = record { 0 = k } in x in
    subst (Contains own) (ap make v.2) v.1

pub value_below : (sizes : List ℕ) (c w : ℕ) → c < length sizes → w < slice_index_or sizes c 0 → (n : ℕ) × (slice_get sizes c ≡ Some n) × (w < n)
value_below sizes c w low below = (slice_index_or sizes c 0, slice_get-get_or sizes c 0 low, below)

module _ (sheet : Sheet) where
  -- a variable's number is below their count
  number_below : (x : Symbol) → Contains (variables sheet) x → number sheet x < variable_count sheet
  number_below x (k, low, is) =
      let xs = variables sheet in
      let count = counted_up sheet in
      let within : k < variable_count sheet = omega (arith, low, count) in
      let same : number sheet x ≡ 0 + k = ap (number sheet) (sym is) ∙ sym (get_or-map (number sheet) xs k x 0 low) ∙ ap (λ ns. get_or ns k 0) (numbered_up sheet) ∙ get_or-range_with_len 0 (variable_count sheet) k 0 within in
      omega (arith, same, within)

  -- and so is that of each literal of a clause
  pub literal_below : (clause : List Lit) (l : Lit) → Contains (clauses sheet) clause → Contains clause l → l.variable.0 < variable_count sheet
  literal_below clause l c has =
      let g = contains_mapped (clause_of_axiom sheet) (axioms sheet) clause c in
      let m = contains_mapped (lit_of sheet) g.0.clause l (subst (λ d. Contains d l) (sym g.2) has) in
      let same : number sheet m.0.what ≡ l.variable.0 = ap (λ (x : Lit). x.variable.0) m.2 in
      let below = number_below m.0.what (symbols_are_variables sheet g.0 g.1 m.0 m.1) in
      omega (arith, same, below)

  module _ (used : List ℕ) (own : List Var) (banned : List (Option Bool)) (used_in : All (λ n. n < length (clauses sheet)) used) (own_below : (v : Var) → Contains own v → v.0 < variable_count sheet)
      (closed : (k : ℕ) → Contains used k → (clause : List Lit) → slice_get (clauses sheet) k ≡ Some clause → (l : Lit) → Contains clause l → Contains own l.variable) (lone : AreLone banned (clauses sheet) used) where
    pub problem_made : length (clauses sheet) < 2 ^ 32 → IsProblem (variable_count sheet) (problem_of sheet used own banned)
    problem_made few = record {
      few = few;
      used_in = used_in;
      own_in = all_from (λ (v : Var). v.0 < variable_count sheet) own own_below;
      over_own = all_from (λ n. IsOverOwn own (slice_index_or (clauses sheet) n [])) used
          (λ n c. all_from (λ (l : Lit). Contains own l.variable) (slice_index_or (clauses sheet) n [])
          (λ l has. closed n c (slice_index_or (clauses sheet) n []) (slice_get-get_or (clauses sheet) n [] (All-contains (λ m. m < length (clauses sheet)) used n used_in c)) l has));
      lone = lone;
    }

pub at_slice : (xs : List (List Lit)) (k : ℕ) (x : List Lit) → slice_get xs k ≡ Some x → Contains xs x
at_slice xs k x is = (k, slice_get_within xs k x is, get_or_from_slice_get xs k x x is)

-- ---- the whole

pub whole_is_searched : WholeIsSearched
whole_is_searched sheet formed cells used own cells_are used_are own_are = record {
  searched = record {
    sizes_are = refl;
    entries_are = sym (all_stay (map number_of cells) sheet.entries (λ e c. contains_among (map number_of cells) e.cell.0 (subst (λ ns. Contains ns e.cell.0) (sym cells_are) (is_number (length (cell_sizes sheet.universe)) e.cell.0 (entry_in e c)))));
    cells_in = all_from (λ (c : CellId). c.0 < length (cell_sizes sheet.universe)) cells (λ c there. number_is (length (cell_sizes sheet.universe)) c.0 (subst (λ ns. Contains ns c.0) cells_are (contains_map number_of cells c there)));
    distinct = on_distinct sheet.universe sheet.entries formed.entries.each formed.entries.distinct cells;
    entries_on = on_cells sheet.universe sheet.entries formed.entries.each formed.entries.distinct cells;
    values = on_values sheet.universe sheet.entries formed.entries.each formed.entries.distinct cells;
    used_in = used_in;
    own_pairs = λ c x there below.
        let low = number_is (length (cell_sizes sheet.universe)) c.0 (subst (λ ns. Contains ns c.0) cells_are (contains_map number_of cells c there)) in
        let n = value_below (cell_sizes sheet.universe) c.0 x.0 low below in
        is_own (number sheet (pair_at c.0 x.0)) (number_below sheet (pair_at c.0 x.0) (pair_in sheet c.0 n.0 x.0 n.1 n.2));
    are_for = subst (λ us. AreFor sheet (map number_of cells) (clauses sheet) us) (sym used_are) (subst (λ ns. AreFor sheet ns (clauses sheet) (range_with_len 0 (length (clauses sheet)))) (sym cells_are) (axioms_are_for_their_sheet sheet formed));
  };
  problem = problem_made sheet used own [] used_in (λ v c. number_is (variable_count sheet) v.0 (subst (λ ns. Contains ns v.0) own_are (contains_map variable_number own v c)))
      (λ k c clause at l has. is_own l.variable.0 (literal_below sheet clause l (at_slice (clauses sheet) k clause at) has)) (lone_anyway (clauses sheet) used);
}
  where
    entry_in : (e : Entry) → Contains sheet.entries e → e.cell.0 < length (cell_sizes sheet.universe)
    entry_in e c =
        let n = some_and (slice_get (cell_sizes sheet.universe) e.cell.0) (λ m. e.value.0 < m) (All-contains (IsEntryOf sheet.universe) sheet.entries e formed.entries.each c) in
        slice_get_within (cell_sizes sheet.universe) e.cell.0 n.0 n.1

    used_in : All (λ n. n < length (clauses sheet)) used
    used_in = all_from (λ n. n < length (clauses sheet)) used (λ n c. number_is (length (clauses sheet)) n (subst (λ ns. Contains ns n) used_are c))

    is_own : (n : ℕ) → n < variable_count sheet → Contains own (record { 0 = n })
    is_own n l = of_number own n (subst (λ ns. Contains ns n) (sym own_are) (is_number (variable_count sheet) n l))

-- ---- a part

pub parts_are_searched : PartsAreSearched
parts_are_searched sheet formed all division part there low cells used own cells_are of vars = record {
  searched = record {
    sizes_are = refl;
    entries_are = ap (λ ns. entries_on ns sheet.entries) (sym cells_are);
    cells_in = all_from (λ (c : CellId). c.0 < length (cell_sizes sheet.universe)) cells cell_in;
    distinct = on_distinct sheet.universe sheet.entries formed.entries.each formed.entries.distinct cells;
    entries_on = on_cells sheet.universe sheet.entries formed.entries.each formed.entries.distinct cells;
    values = on_values sheet.universe sheet.entries formed.entries.each formed.entries.distinct cells;
    used_in = used_in;
    own_pairs = λ c x c_there below.
        let n = value_below (cell_sizes sheet.universe) c.0 x.0 (cell_in c c_there) below in
        let g = some_axiom c.0 n.0 in
        let has = has_symbol sheet part used (map variable_number own) of vars g (cell_there sheet c.0 n.0 n.1 g (contains_first g (one_axioms c.0 0 n.0))) (in_part c c_there)
        (positive (pair_at c.0 x.0)) (each_there n.0 (λ v. positive (pair_at c.0 v)) x.0 n.2) in
        of_number own (number sheet (pair_at c.0 x.0)) has;
    are_for = subst (λ ns. AreFor (sheet_of sheet part) ns (clauses sheet) used) (sym cells_are) (part_axioms_are_for_their_parts sheet formed all division part there used of);
  };
  problem = problem_made sheet used own [] used_in own_below (λ k c clause at l has. of_number own l.variable.0 ((vars.exact l.variable.0).1 (k, c, clause, at, l, has, refl))) (lone_anyway (clauses sheet) used);
}
  where
    in_part : (c : CellId) → Contains cells c → Contains part.cells c.0
    in_part c c_there = subst (λ ns. Contains ns c.0) cells_are (contains_map number_of cells c c_there)

    cell_in : (c : CellId) → Contains cells c → c.0 < length (cell_sizes sheet.universe)
    cell_in c c_there = low c.0 (in_part c c_there)

    used_in : All (λ n. n < length (clauses sheet)) used
    used_in = all_from (λ n. n < length (clauses sheet)) used
        (λ n c.
        let g = (of.exact n).0 c in
        let below = slice_get_within (axioms sheet) n g.0 g.1 in
        omega (arith, below, length-map (axioms sheet) (clause_of_axiom sheet)))

    own_below : (v : Var) → Contains own v → v.0 < variable_count sheet
    own_below v c =
        let k = (vars.exact v.0).0 (contains_map variable_number own v c) in
        let below = literal_below sheet k.2 k.4 (at_slice (clauses sheet) k.0 k.2 k.3) k.5 in
        let same = k.6 in
        omega (arith, below, same)
