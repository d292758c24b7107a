-- What a last rule comes to has numbers of 32 bits, since all of the sheet has.
use Rattle.std.proofs.Common.{◌≡◌, ℕ, ◌+◌, ◌-◌, ◌≤◌, List, [], ◌∷◌, ◌++◌, get_or, map, length, ap, sym, ◌∙◌, subst, arith, length-append}
use Rattle.std.proofs.lemmas.List.{get_or-map, get_or_push, length-map}
use Rattle.std.proofs.lemmas.List.Elements.{All-contains, Contains-append_right}
use Rattle.std.proofs.lemmas.List.Sums.{sum_by_push}
use Rattle.pc_lemmas.proofs.Elements.{contains_first}
use Rattle.pc_lits.specs.declared.literal.Lit.{Lit}
use Rattle.pc_sheet.specs.Sheet.{Universe, Sheet, NamedStatement, with_rule}
use Rattle.pc_sheet.specs.Entailment.{cell_sizes}
use Rattle.pc_sheet.specs.Views.{rule_of}
use Rattle.pc_sheet.specs.Weight.{rule_weight, weight}
use Rattle.pc_sheet.specs.WellFormed.{IsWellFormed, IsWellFormedRule}
use Rattle.pc_sheet.specs.WellSorted.{IsWellSorted}
use Rattle.pc_sheet.specs.declared.formula.Rule.{Rule}
use Rattle.pc_axiom_names.specs.Listed.{NameLists, no_names}
use Rattle.pc_ground.specs.Variables.{count_nodes, nodes_below, variable_count, variables}
use Rattle.pc_ground.specs.Ground.{axioms, clauses, rule_axioms}
use Rattle.pc_ground.specs.GroundView.{Grounded}
use Rattle.pc_ground.specs.Grounded.{grounded}
use Rattle.pc_ground.specs.Naming.{name_of, named}
use Rattle.pc_ground.specs.Owners.{piece_count}
use Rattle.pc_ground.specs.PieceCells.{piece_cells}
use Rattle.pc_ground.specs.Pushed.{grown, IsOwnOf, own_clauses, own_spans}
use Rattle.pc_ground.specs.declared.owners.Span.{Span}
use Rattle.pc_ground.specs.declared.walk.Draft.{Draft}
use Rattle.pc_ground.proofs.ByName.{all_named}
use Rattle.pc_ground.proofs.Few.{pieces_within, variables_within}
use Rattle.pc_ground.proofs.Many.{clauses_few}
use Rattle.pc_ground.proofs.PieceCellsListed.{cells_listed}
use Rattle.pc_ground.proofs.Pushed.{ground_grows, pieces_counted, rules_counted, whole_axioms, whole_clauses, whole_count, whole_reads, whole_symbols}

module _ (s : Sheet) (r : NamedStatement) (b : Sheet) (is : b ≡ with_rule s r) (formed : IsWellFormed b) where
  whole_formed : IsWellFormed (with_rule s r)
  whole_formed = subst IsWellFormed is formed

  pub few_variables : variable_count s + count_nodes s.universe r.states ≤ weight b
  few_variables =
      let a = variables_within (with_rule s r) whole_formed in
      let c = whole_count s r in
      let d = ap weight is in
      omega (arith, a, c, d)

  pub few_pieces : length (grounded s).reads + piece_count s.universe r.states ≤ weight b
  few_pieces =
      let u = s.universe in
      let a = pieces_within (with_rule s r) whole_formed in
      let c = rules_counted u (s.rules ++ r ∷ []) in
      let d = ap length (cells_listed (with_rule s r)) in
      let e = ap length (whole_reads s r) ∙ length-append (grounded s).reads (piece_cells u [] r.states) in
      let f = pieces_counted u [] r.states in
      let g = ap weight is in
      omega (arith, a, c, d, e, f, g)

  pub few_symbols : length (nodes_below s.universe (length s.rules) [] r.states) ≤ weight b
  few_symbols =
      let a = (all_named (with_rule s r)).many_variables in
      let c = ap length (whole_symbols s r) ∙ length-append (variables s) (nodes_below s.universe (length s.rules) [] r.states) in
      let d = variables_within (with_rule s r) whole_formed in
      let e = ap weight is in
      omega (arith, a, c, d, e)

  pub few_names : length (map name_of (rule_axioms s.universe (length s.rules) r)) ≤ weight b + length (cell_sizes b.universe)
  few_names =
      let own = map name_of (rule_axioms s.universe (length s.rules) r) in
      let a = (all_named (with_rule s r)).many_axioms in
      let c = ap length (whole_axioms s r) ∙ length-append (map name_of (axioms s)) own in
      let d = clauses_few (with_rule s r) in
      let e = ap weight is in
      let f = ap (λ (x : Sheet). length (cell_sizes x.universe)) is in
      omega (arith, a, c, d, e, f)

-- ---- the rule by its place

module _ (s : Sheet) (r : NamedStatement) (b : Sheet) (is : b ≡ with_rule s r) (rules : List Rule) (i : ℕ) (items : map rule_of rules ≡ b.rules) (at : i ≡ length rules - 1) where
  items_are : map rule_of rules ≡ s.rules ++ r ∷ []
  items_are = items ∙ ap (λ (x : Sheet). x.rules) is

  pub last_place : i ≡ length s.rules
  last_place =
      let a = length-map rules rule_of in
      let c = ap length items_are ∙ length-append s.rules (r ∷ []) in
      omega (arith, a, c, at)

  module _ (x d : Rule) (found : x ≡ get_or rules i d) where
    pub last_is : rule_of x ≡ r
    last_is =
        let a = length-map rules rule_of in
        let c = ap length items_are ∙ length-append s.rules (r ∷ []) in
        ap rule_of found ∙ sym (get_or-map rule_of rules i d (rule_of d) (omega (arith, a, c, at))) ∙ ap (λ l. get_or l i (rule_of d)) items_are ∙ get_or_push s.rules r (rule_of d) i (sym last_place)

    pub last_sorted : IsWellFormed b → IsWellSorted b.universe [] (rule_of x).states
    last_sorted formed =
        let whole = subst IsWellFormed is formed in
        let sorted : IsWellSorted s.universe [] r.states = (All-contains (IsWellFormedRule s.universe) (s.rules ++ r ∷ []) r whole.rules.each (Contains-append_right s.rules (r ∷ []) r (contains_first r []))).sorted in
        subst (λ (q : NamedStatement). IsWellSorted b.universe [] q.states) (sym last_is) (subst (λ (y : Sheet). IsWellSorted y.universe [] r.states) (sym is) sorted)

    pub last_nodes : count_nodes b.universe (rule_of x).states ≡ count_nodes s.universe r.states
    last_nodes = ap (λ (y : Sheet). count_nodes y.universe (rule_of x).states) is ∙ ap (λ (q : NamedStatement). count_nodes s.universe q.states) last_is

    pub last_pieces : piece_count b.universe (rule_of x).states ≡ piece_count s.universe r.states
    last_pieces = ap (λ (y : Sheet). piece_count y.universe (rule_of x).states) is ∙ ap (λ (q : NamedStatement). piece_count s.universe q.states) last_is

-- ---- how much it weighs

pub weighs_more : (s : Sheet) (r : NamedStatement) → weight (with_rule s r) ≡ weight s + rule_weight s.universe r
weighs_more s r = let a = sum_by_push (rule_weight s.universe) s.rules r in omega (arith, a)

-- ---- what is made of it

module _ (g : Grounded) (u u' : Universe) (n n' p j : ℕ) (sizes : List ℕ) (rule rule' : NamedStatement) (ue : u' ≡ u) (re : rule' ≡ rule) (ne : n' ≡ n) (pe : p ≡ g.variables) (se : sizes ≡ g.sizes) (je : j ≡ length g.sizes + length g.reads) where
  pub own_made : (d d' : Draft) → d.nodes.clauses ≡ [] → d.nodes.names ≡ no_names → d.owners.items ≡ [] → d.reads ≡ []
      → d'.nodes.clauses ≡ d.nodes.clauses ++ own_clauses u' sizes p rule'
      → d'.nodes.names ≡ named d.nodes.names (nodes_below u' n' [] rule'.states) (map name_of (rule_axioms u' n' rule'))
      → d'.owners.items ≡ d.owners.items ++ own_spans u' j n' rule'
      → d'.reads ≡ d.reads ++ piece_cells u' [] rule'.states
      → IsOwnOf g u n rule d'
  own_made d d' c0 n0 o0 r0 c1 n1 o1 r1 = record {
    clauses = c1 ∙ ap (λ xs. xs ++ own_clauses u' sizes p rule') c0 ∙ ap (λ v. own_clauses v sizes p rule') ue ∙ ap (λ ss. own_clauses u ss p rule') se ∙ ap (λ k. own_clauses u g.sizes k rule') pe ∙ ap (own_clauses u g.sizes g.variables) re;
    names = n1 ∙ ap (λ (ns : NameLists). named ns (nodes_below u' n' [] rule'.states) (map name_of (rule_axioms u' n' rule'))) n0 ∙ ap (λ v. names_by v n' rule') ue ∙ ap (λ k. names_by u k rule') ne ∙ ap (names_by u n) re;
    owners = o1 ∙ ap (λ xs. xs ++ own_spans u' j n' rule') o0 ∙ ap (λ v. own_spans v j n' rule') ue ∙ ap (λ k. own_spans u k n' rule') je ∙ ap (λ k. own_spans u (length g.sizes + length g.reads) k rule') ne ∙ ap (own_spans u (length g.sizes + length g.reads) n) re;
    reads = r1 ∙ ap (λ xs. xs ++ piece_cells u' [] rule'.states) r0 ∙ ap (λ v. piece_cells v [] rule'.states) ue ∙ ap (λ (x : NamedStatement). piece_cells u [] x.states) re;
  }
    where
      names_by : Universe → ℕ → NamedStatement → NameLists
      names_by v k x = record { variables = nodes_below v k [] x.states; axioms = map name_of (rule_axioms v k x) }

-- ---- with it behind the ground

module _ (s : Sheet) (r : NamedStatement) (g : Grounded) (is : g ≡ grounded s) (d : Draft) (own : IsOwnOf g s.universe (length s.rules) r d) where
  pub clauses_within : (b : Sheet) → b ≡ with_rule s r → (cs : List (List Lit)) → cs ≡ g.clauses ++ d.nodes.clauses → length cs ≤ weight b + length (cell_sizes b.universe)
  clauses_within b whole cs c =
      let all : cs ≡ clauses (with_rule s r) = c ∙ ap (λ xs. g.clauses ++ xs) own.clauses ∙ ap (λ (h : Grounded). h.clauses ++ own_clauses s.universe h.sizes h.variables r) is ∙ sym (whole_clauses s r) in
      let many = ap length all in
      let few = clauses_few (with_rule s r) in
      let same = ap weight whole in
      let cells = ap (λ (x : Sheet). length (cell_sizes x.universe)) whole in
      omega (arith, many, few, same, cells)

  pub whole_made : (cs : List (List Lit)) (v : ℕ) (ns : NameLists) (os : List Span) (rs : List (List ℕ))
      → cs ≡ g.clauses ++ d.nodes.clauses → v ≡ g.variables + count_nodes s.universe r.states → ns ≡ named g.names d.nodes.names.variables d.nodes.names.axioms → os ≡ g.owners ++ d.owners.items → rs ≡ g.reads ++ d.reads
      → record { clauses = cs; sizes = g.sizes; variables = v; names = ns; owners = os; reads = rs } ≡ grounded (with_rule s r)
  whole_made cs v ns os rs c e n o p =
      let make : List (List Lit) → ℕ → NameLists → List Span → List (List ℕ) → Grounded = λ xs k ms ps qs. record { clauses = xs; sizes = g.sizes; variables = k; names = ms; owners = ps; reads = qs } in
      let u = s.universe in
      let c' = c ∙ ap (λ xs. g.clauses ++ xs) own.clauses in
      let n' = n ∙ ap (λ (ms : NameLists). named g.names ms.variables ms.axioms) own.names in
      let o' = o ∙ ap (λ xs. g.owners ++ xs) own.owners in
      let p' = p ∙ ap (λ xs. g.reads ++ xs) own.reads in
      ap (λ xs. make xs v ns os rs) c'
      ∙ ap (λ k. make (g.clauses ++ own_clauses u g.sizes g.variables r) k ns os rs) e
      ∙ ap (λ ms. make (g.clauses ++ own_clauses u g.sizes g.variables r) (g.variables + count_nodes u r.states) ms os rs) n'
      ∙ ap (λ ps. make (g.clauses ++ own_clauses u g.sizes g.variables r) (g.variables + count_nodes u r.states) (named g.names (nodes_below u (length s.rules) [] r.states) (map name_of (rule_axioms u (length s.rules) r))) ps rs) o'
      ∙ ap (λ qs. make (g.clauses ++ own_clauses u g.sizes g.variables r) (g.variables + count_nodes u r.states) (named g.names (nodes_below u (length s.rules) [] r.states) (map name_of (rule_axioms u (length s.rules) r))) (g.owners ++ own_spans u (length g.sizes + length g.reads) (length s.rules) r) qs) p'
      ∙ ap (λ (h : Grounded). grown h u (length s.rules) r) is ∙ sym (ground_grows s r)
