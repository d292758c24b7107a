-- The ground of a sheet with one rule more, as its last, is that of the sheet with what the rule comes to behind it.
use Rattle.std.proofs.Common.{◌≡◌, ℕ, zero, suc, ◌+◌, ◌*◌, ◌≤◌, true, List, [], ◌∷◌, ◌++◌, map, length, take, sum, sum_by, Some, slice_get, refl, ap, sym, ◌∙◌, arith, append_assoc, subst}
use Rattle.std.specs.List.{flat_map}
use Rattle.std.proofs.lemmas.List.{append-nil, map-append, length-append, take_all, take-append-le}
use Rattle.std.proofs.lemmas.List.Sums.{sum_by-cons, sum_by_push}
use Rattle.pc_lits.specs.declared.literal.Lit.{Lit}
use Rattle.pc_sheet.specs.Sheet.{Universe, Sheet, NamedStatement, Statement, Statements, no_statements, statement, compare, in_table, negation, all_of, some_of, implies, iff, for_all, exists, counts, with_rule}
use Rattle.pc_sheet.specs.Truth.{Scope}
use Rattle.pc_sheet.specs.Sizes.{size_of}
use Rattle.pc_sheet.specs.Cells.{values_below}
use Rattle.pc_sheet.specs.Entailment.{cell_sizes}
use Rattle.pc_sheet.specs.declared.ids.ValueId.{ValueId}
use Rattle.pc_accept.specs.Literals.{Symbol}
use Rattle.pc_accept.specs.Axioms.{Axiom}
use Rattle.pc_axiom_names.specs.Listed.{NameLists, first_names, with_axiom, with_variable}
use Rattle.pc_ground.specs.Variables.{count_nodes, nodes_below, nodes_of_rule, nodes_from, pairs_from, variable_count, variables}
use Rattle.pc_ground.specs.Ground.{axioms, cells_axioms, clauses, GroundAxiom, rule_axioms, rules_axioms}
use Rattle.pc_ground.specs.ByNumber.{Clause, lit, cells_clauses, node_clauses, rules_clauses}
use Rattle.pc_ground.specs.GroundView.{Grounded}
use Rattle.pc_ground.specs.Grounded.{grounded}
use Rattle.pc_ground.specs.Naming.{name_of, named, names_of}
use Rattle.pc_ground.specs.Owners.{piece_count, piece_count_of_parts, piece_count_of_rules, cells_spans, owners_of, span, spans, spans_of_rules}
use Rattle.pc_ground.specs.PieceCells.{piece_cells, piece_cells_of_parts, piece_cells_of_rules}
use Rattle.pc_ground.specs.Pushed.{cut_to, grown, IsSizeOf, own_clauses, own_spans}
use Rattle.pc_ground.specs.declared.owners.Span.{Span}
use Rattle.pc_ground.specs.declared.push.GroundSize.{GroundSize}
use Rattle.pc_ground.proofs.ByNumbers.{clauses_by_number}
use Rattle.pc_ground.proofs.Lists.{flat_push, taken}
use Rattle.pc_ground.proofs.PieceCellsListed.{cells_listed}

-- ---- how many pieces

flat_length : (g : ValueId → List (List ℕ)) (c : ℕ) → ((v : ValueId) → length (g v) ≡ c) → (n : ℕ) → length (flat_map g (values_below n)) ≡ n * c
flat_length g c e zero = omega arith
flat_length g c e (suc n) =
    let last : ValueId = record { 0 = n } in
    let a = ap length (flat_push g n) in
    let b = length-append (flat_map g (values_below n)) (g last) in
    let d = flat_length g c e n in
    let f = e last in
    omega (arith, a, b, d, f)

module _ (u : Universe) where
  mutual
    pub pieces_counted : (scope : Scope) (s : Statement) → length (piece_cells u scope s) ≡ piece_count u s
    pieces_counted scope (compare left op right) = refl
    pieces_counted scope (in_table t xs) = refl
    pieces_counted scope (negation s) = refl
    pieces_counted scope (all_of ss) = parts_counted scope ss
    pieces_counted scope (some_of ss) = refl
    pieces_counted scope (implies s t) = refl
    pieces_counted scope (iff s t) = refl
    pieces_counted scope (for_all name s body) = flat_length (λ v. piece_cells u (scope ++ (s, v) ∷ []) body) (piece_count u body) (λ v. pieces_counted (scope ++ (s, v) ∷ []) body) (size_of u s)
    pieces_counted scope (exists name s body) = refl
    pieces_counted scope (counts c name s body) = refl

    parts_counted : (scope : Scope) (ss : Statements) → length (piece_cells_of_parts u scope ss) ≡ piece_count_of_parts u ss
    parts_counted scope no_statements = refl
    parts_counted scope (statement s ss) =
        let a = length-append (piece_cells u scope s) (piece_cells_of_parts u scope ss) in
        let b = pieces_counted scope s in
        let c = parts_counted scope ss in
        omega (arith, a, b, c)

  pub rules_counted : (rules : List NamedStatement) → length (piece_cells_of_rules u rules) ≡ piece_count_of_rules u rules
  rules_counted [] = refl
  rules_counted (rule ∷ rules) =
      let a = length-append (piece_cells u [] rule.states) (piece_cells_of_rules u rules) in
      let b = pieces_counted [] rule.states in
      let c = rules_counted rules in
      omega (arith, a, b, c)

  -- ---- one rule more

  module _ (rule : NamedStatement) where
    clauses_pushed : (sizes : List ℕ) (p : ℕ) (rules : List NamedStatement) → rules_clauses u sizes p (rules ++ rule ∷ []) ≡ rules_clauses u sizes p rules ++ own_clauses u sizes (p + sum_by (nodes_of_rule u) rules) rule
    clauses_pushed sizes p [] =
        let e : p ≡ p + sum_by (nodes_of_rule u) [] = omega arith in
        ap (λ xs. (lit p true ∷ []) ∷ xs) (append-nil (node_clauses u sizes p [] rule.states)) ∙ ap (λ k. own_clauses u sizes k rule) e
    clauses_pushed sizes p (x ∷ xs) =
        let own = node_clauses u sizes p [] x.states in
        let next = p + count_nodes u x.states in
        let a = sum_by-cons (nodes_of_rule u) x xs in
        let e : next + sum_by (nodes_of_rule u) xs ≡ p + sum_by (nodes_of_rule u) (x ∷ xs) = omega (arith, a) in
        ap (λ cs. (lit p true ∷ []) ∷ cs)
        (ap (λ cs. own ++ cs) (clauses_pushed sizes next xs ∙ ap (λ k. rules_clauses u sizes next xs ++ own_clauses u sizes k rule) e)
        ∙ sym (append_assoc own (rules_clauses u sizes next xs) (own_clauses u sizes (p + sum_by (nodes_of_rule u) (x ∷ xs)) rule)))

    nodes_pushed : (r : ℕ) (rules : List NamedStatement) → nodes_from u r (rules ++ rule ∷ []) ≡ nodes_from u r rules ++ nodes_below u (r + length rules) [] rule.states
    nodes_pushed r [] = let e : r ≡ r + 0 = omega arith in append-nil (nodes_below u r [] rule.states) ∙ ap (λ k. nodes_below u k [] rule.states) e
    nodes_pushed r (x ∷ xs) =
        let own = nodes_below u r [] x.states in
        let e : r + 1 + length xs ≡ r + length (x ∷ xs) = omega arith in
        ap (λ ys. own ++ ys) (nodes_pushed (r + 1) xs ∙ ap (λ k. nodes_from u (r + 1) xs ++ nodes_below u k [] rule.states) e)
        ∙ sym (append_assoc own (nodes_from u (r + 1) xs) (nodes_below u (r + length (x ∷ xs)) [] rule.states))

    axioms_pushed : (r : ℕ) (rules : List NamedStatement) → rules_axioms u r (rules ++ rule ∷ []) ≡ rules_axioms u r rules ++ rule_axioms u (r + length rules) rule
    axioms_pushed r [] = let e : r ≡ r + 0 = omega arith in append-nil (rule_axioms u r rule) ∙ ap (λ k. rule_axioms u k rule) e
    axioms_pushed r (x ∷ xs) =
        let own = rule_axioms u r x in
        let e : r + 1 + length xs ≡ r + length (x ∷ xs) = omega arith in
        ap (λ ys. own ++ ys) (axioms_pushed (r + 1) xs ∙ ap (λ k. rules_axioms u (r + 1) xs ++ rule_axioms u k rule) e)
        ∙ sym (append_assoc own (rules_axioms u (r + 1) xs) (rule_axioms u (r + length (x ∷ xs)) rule))

    spans_pushed : (j r : ℕ) (rules : List NamedStatement) → spans_of_rules u j r (rules ++ rule ∷ []) ≡ spans_of_rules u j r rules ++ own_spans u (j + piece_count_of_rules u rules) (r + length rules) rule
    spans_pushed j r [] =
        let e : j ≡ j + 0 = omega arith in
        let f : r ≡ r + 0 = omega arith in
        append-nil (own_spans u j r rule) ∙ ap (λ k. own_spans u k r rule) e ∙ ap (λ k. own_spans u (j + 0) k rule) f
    spans_pushed j r (x ∷ xs) =
        let own = own_spans u j r x in
        let next = j + piece_count u x.states in
        let e : next + piece_count_of_rules u xs ≡ j + piece_count_of_rules u (x ∷ xs) = omega arith in
        let f : r + 1 + length xs ≡ r + length (x ∷ xs) = omega arith in
        ap (λ ys. own ++ ys)
        (spans_pushed next (r + 1) xs ∙ ap (λ k. spans_of_rules u next (r + 1) xs ++ own_spans u k (r + 1 + length xs) rule) e ∙ ap (λ k. spans_of_rules u next (r + 1) xs ++ own_spans u (j + piece_count_of_rules u (x ∷ xs)) k rule) f)
        ∙ sym (append_assoc own (spans_of_rules u next (r + 1) xs) (own_spans u (j + piece_count_of_rules u (x ∷ xs)) (r + length (x ∷ xs)) rule))

    cells_pushed : (rules : List NamedStatement) → piece_cells_of_rules u (rules ++ rule ∷ []) ≡ piece_cells_of_rules u rules ++ piece_cells u [] rule.states
    cells_pushed [] = append-nil (piece_cells u [] rule.states)
    cells_pushed (x ∷ xs) =
        let own = piece_cells u [] x.states in
        ap (λ ys. own ++ ys) (cells_pushed xs) ∙ sym (append_assoc own (piece_cells_of_rules u xs) (piece_cells u [] rule.states))

-- ---- the whole ground

module _ (s : Sheet) (rule : NamedStatement) where
  pub whole_clauses : clauses (with_rule s rule) ≡ clauses s ++ own_clauses s.universe (cell_sizes s.universe) (variable_count s) rule
  whole_clauses =
      let u = s.universe in
      let sizes = cell_sizes u in
      let front = cells_clauses 0 sizes in
      let own = own_clauses u sizes (variable_count s) rule in
      sym (clauses_by_number (with_rule s rule)) ∙ ap (λ cs. front ++ cs) (clauses_pushed u rule sizes (sum sizes) s.rules) ∙ sym (append_assoc front (rules_clauses u sizes (sum sizes) s.rules) own)
      ∙ ap (λ cs. cs ++ own) (clauses_by_number s)

  pub whole_symbols : variables (with_rule s rule) ≡ variables s ++ nodes_below s.universe (length s.rules) [] rule.states
  whole_symbols =
      let u = s.universe in
      let front = pairs_from 0 (cell_sizes u) in
      let at : 0 + length s.rules ≡ length s.rules = omega arith in
      ap (λ xs. front ++ xs) (nodes_pushed u rule 0 s.rules ∙ ap (λ k. nodes_from u 0 s.rules ++ nodes_below u k [] rule.states) at)
      ∙ sym (append_assoc front (nodes_from u 0 s.rules) (nodes_below u (length s.rules) [] rule.states))

  pub whole_axioms : map name_of (axioms (with_rule s rule)) ≡ map name_of (axioms s) ++ map name_of (rule_axioms s.universe (length s.rules) rule)
  whole_axioms =
      let u = s.universe in
      let front = cells_axioms 0 (cell_sizes u) in
      let at : 0 + length s.rules ≡ length s.rules = omega arith in
      let own = rule_axioms u (length s.rules) rule in
      ap (map name_of) (ap (λ xs. front ++ xs) (axioms_pushed u rule 0 s.rules ∙ ap (λ k. rules_axioms u 0 s.rules ++ rule_axioms u k rule) at) ∙ sym (append_assoc front (rules_axioms u 0 s.rules) own))
      ∙ map-append name_of (axioms s) own

  pub whole_count : variable_count (with_rule s rule) ≡ variable_count s + count_nodes s.universe rule.states
  whole_count = let a = sum_by_push (nodes_of_rule s.universe) s.rules rule in omega (arith, a)

  pub whole_reads : (grounded (with_rule s rule)).reads ≡ (grounded s).reads ++ piece_cells s.universe [] rule.states
  whole_reads = sym (cells_listed (with_rule s rule)) ∙ cells_pushed s.universe rule s.rules ∙ ap (λ xs. xs ++ piece_cells s.universe [] rule.states) (cells_listed s)

  whole_owners : owners_of (with_rule s rule) ≡ owners_of s ++ own_spans s.universe (length (cell_sizes s.universe) + length (grounded s).reads) (length s.rules) rule
  whole_owners =
      let u = s.universe in
      let sizes = cell_sizes u in
      let front = cells_spans 0 sizes in
      let at : 0 + length s.rules ≡ length s.rules = omega arith in
      let many : piece_count_of_rules u s.rules ≡ length (grounded s).reads = sym (rules_counted u s.rules) ∙ ap length (cells_listed s) in
      ap (λ xs. front ++ xs)
      (spans_pushed u rule (length sizes) 0 s.rules ∙ ap (λ k. spans_of_rules u (length sizes) 0 s.rules ++ own_spans u (length sizes + piece_count_of_rules u s.rules) k rule) at
      ∙ ap (λ k. spans_of_rules u (length sizes) 0 s.rules ++ own_spans u (length sizes + k) (length s.rules) rule) many)
      ∙ sym (append_assoc front (spans_of_rules u (length sizes) 0 s.rules) (own_spans u (length sizes + length (grounded s).reads) (length s.rules) rule))

  -- the numbers of what is there stay, and what is of the rule comes behind
  pub ground_grows : grounded (with_rule s rule) ≡ grown (grounded s) s.universe (length s.rules) rule
  ground_grows =
      let a = whole_clauses in
      let b = whole_symbols in
      let c = whole_axioms in
      let d = whole_count in
      let e = whole_reads in
      let f = whole_owners in
      cc

  front : {X : Type 0} (xs ys : List X) (n : ℕ) → n ≡ length xs → take n (xs ++ ys) ≡ xs
  front xs ys n e = take-append-le n xs ys (omega (arith, e)) ∙ take_all n xs (omega (arith, e))

  -- and it can be taken away again
  pub ground_cut : (size : GroundSize) → IsSizeOf (grounded s) size → cut_to size (grounded (with_rule s rule)) ≡ grounded s
  ground_cut size is =
      let g = grounded s in
      let u = s.universe in
      let h = grounded (with_rule s rule) in
      let make : List Clause → ℕ → NameLists → List Span → List (List ℕ) → Grounded = λ xs k ms ps qs. record { clauses = xs; sizes = cell_sizes u; variables = k; names = ms; owners = ps; reads = qs } in
      let name : List Symbol → List Axiom → NameLists = λ xs ys. record { variables = xs; axioms = ys } in
      let a : take size.clauses h.clauses ≡ clauses s = ap (take size.clauses) whole_clauses ∙ front (clauses s) (own_clauses u (cell_sizes u) (variable_count s) rule) size.clauses is.clauses in
      let b : take size.symbols h.names.variables ≡ variables s = ap (take size.symbols) whole_symbols ∙ front (variables s) (nodes_below u (length s.rules) [] rule.states) size.symbols is.symbols in
      let c : take size.axioms h.names.axioms ≡ map name_of (axioms s) = ap (take size.axioms) whole_axioms ∙ front (map name_of (axioms s)) (map name_of (rule_axioms u (length s.rules) rule)) size.axioms is.axioms in
      let e : take size.reads h.reads ≡ g.reads = ap (take size.reads) whole_reads ∙ front g.reads (piece_cells u [] rule.states) size.reads is.reads in
      let f : take size.owners h.owners ≡ owners_of s = ap (take size.owners) whole_owners ∙ front (owners_of s) (own_spans u (length (cell_sizes u) + length g.reads) (length s.rules) rule) size.owners is.owners in
      let n : first_names size.symbols size.axioms h.names ≡ names_of s = ap (λ xs. name xs (take size.axioms h.names.axioms)) b ∙ ap (name (variables s)) c in
      ap (λ xs. make xs size.variables (first_names size.symbols size.axioms h.names) (take size.owners h.owners) (take size.reads h.reads)) a
      ∙ ap (λ k. make (clauses s) k (first_names size.symbols size.axioms h.names) (take size.owners h.owners) (take size.reads h.reads)) is.variables
      ∙ ap (λ ms. make (clauses s) g.variables ms (take size.owners h.owners) (take size.reads h.reads)) n
      ∙ ap (λ ps. make (clauses s) g.variables (names_of s) ps (take size.reads h.reads)) f
      ∙ ap (make (clauses s) g.variables (names_of s) (owners_of s)) e

  pub size_within : (size : GroundSize) (g : Grounded) → g ≡ grounded (with_rule s rule) → IsSizeOf (grounded s) size → (size.clauses ≤ length g.clauses) × (size.reads ≤ length g.reads)
  size_within size g is many =
      let a = ap (λ (x : Grounded). length x.clauses) is ∙ ap length whole_clauses ∙ length-append (clauses s) (own_clauses s.universe (cell_sizes s.universe) (variable_count s) rule) in
      let b = ap (λ (x : Grounded). length x.reads) is ∙ ap length whole_reads ∙ length-append (grounded s).reads (piece_cells s.universe [] rule.states) in
      let c = many.clauses in
      let d = many.reads in
      (omega (arith, a, c), omega (arith, b, d))

-- what is cut is the ground that is cut
pub cut_made : (size : GroundSize) (g : Grounded) (cs : List Clause) (ns : NameLists) (os : List Span) (rs : List (List ℕ))
    → cs ≡ take size.clauses g.clauses → ns ≡ first_names size.symbols size.axioms g.names → os ≡ take size.owners g.owners → rs ≡ take size.reads g.reads
    → record { clauses = cs; sizes = g.sizes; variables = size.variables; names = ns; owners = os; reads = rs } ≡ cut_to size g
cut_made size g cs ns os rs c n o r =
    let make : List Clause → NameLists → List Span → List (List ℕ) → Grounded = λ xs ms ps qs. record { clauses = xs; sizes = g.sizes; variables = size.variables; names = ms; owners = ps; reads = qs } in
    ap (λ xs. make xs ns os rs) c
    ∙ ap (λ ms. make (take size.clauses g.clauses) ms os rs) n
    ∙ ap (λ ps. make (take size.clauses g.clauses) (first_names size.symbols size.axioms g.names) ps rs) o
    ∙ ap (make (take size.clauses g.clauses) (first_names size.symbols size.axioms g.names) (take size.owners g.owners)) r

-- ---- what is appended

pub appended : {X : Type 0} (base more : List X) (i : ℕ) (x : X) (before now : List X) → slice_get more i ≡ Some x → before ≡ base ++ take i more → now ≡ before ++ x ∷ [] → now ≡ base ++ take (i + 1) more
appended base more i x before now at so added =
    added ∙ ap (λ z. z ++ x ∷ []) so ∙ append_assoc base (take i more) (x ∷ []) ∙ ap (λ z. base ++ z) (sym (taken more i x at))

-- the same of names
pub axiom_appended : (base : NameLists) (more : List Axiom) (i : ℕ) (x : Axiom) (before now : NameLists) → slice_get more i ≡ Some x → before ≡ named base [] (take i more) → now ≡ with_axiom before x → now ≡ named base [] (take (i + 1) more)
axiom_appended base more i x before now at so added =
    let make : List Symbol → List Axiom → NameLists = λ vs bs. record { variables = vs; axioms = bs } in
    let v : now.variables ≡ base.variables ++ [] = ap (λ (n : NameLists). n.variables) added ∙ ap (λ (n : NameLists). n.variables) so in
    let e : now.axioms ≡ base.axioms ++ take (i + 1) more = appended base.axioms more i x before.axioms now.axioms at (ap (λ (n : NameLists). n.axioms) so) (ap (λ (n : NameLists). n.axioms) added) in
    ap (λ vs. make vs now.axioms) v ∙ ap (make (base.variables ++ [])) e

pub variable_appended : (base : NameLists) (more : List Symbol) (i : ℕ) (x : Symbol) (before now : NameLists) → slice_get more i ≡ Some x → before ≡ named base (take i more) [] → now ≡ with_variable before x → now ≡ named base (take (i + 1) more) []
variable_appended base more i x before now at so added =
    let make : List Symbol → List Axiom → NameLists = λ vs bs. record { variables = vs; axioms = bs } in
    let v : now.axioms ≡ base.axioms ++ [] = ap (λ (n : NameLists). n.axioms) added ∙ ap (λ (n : NameLists). n.axioms) so in
    let e : now.variables ≡ base.variables ++ take (i + 1) more = appended base.variables more i x before.variables now.variables at (ap (λ (n : NameLists). n.variables) so) (ap (λ (n : NameLists). n.variables) added) in
    ap (λ vs. make vs now.axioms) e ∙ ap (make (base.variables ++ take (i + 1) more)) v
