-- What is made of the cells and then of the rules is a grounded book.
use Rattle.std.proofs.Common.{◌≡◌, ℕ, ◌+◌, List, [], ◌++◌, map, length, sum, sum_by, ap, sym, ◌∙◌}
use Rattle.std.proofs.lemmas.List.{map-append}
use Rattle.pc_lits.specs.declared.literal.Lit.{Lit}
use Rattle.pc_sheet.specs.Sheet.{Sheet, NamedStatement}
use Rattle.pc_sheet.specs.Entailment.{cell_sizes}
use Rattle.pc_accept.specs.Literals.{Symbol}
use Rattle.pc_accept.specs.Axioms.{Axiom}
use Rattle.pc_axiom_names.specs.Listed.{NameLists, no_names}
use Rattle.pc_ground.specs.declared.owners.Span.{Span}
use Rattle.pc_ground.specs.ByNumber.{cells_clauses, rules_clauses}
use Rattle.pc_ground.specs.Ground.{clauses, cells_axioms, rules_axioms}
use Rattle.pc_ground.specs.Grounded.{grounded}
use Rattle.pc_ground.specs.GroundView.{Grounded}
use Rattle.pc_ground.specs.Naming.{name_of, named, names_of}
use Rattle.pc_ground.specs.Owners.{cells_spans, cells_times, spans_of_rules, owners_of}
use Rattle.pc_ground.specs.PieceCells.{piece_cells_of_rules}
use Rattle.pc_ground.specs.Variables.{pairs_from, nodes_from, nodes_of_rule, variable_count}
use Rattle.pc_ground.proofs.ByNumbers.{clauses_by_number}
use Rattle.pc_ground.proofs.Owned.{cells_counted}
use Rattle.pc_ground.proofs.PieceCellsListed.{cells_listed}

module _ (sheet : Sheet) (sizes : List ℕ) (rules : List NamedStatement) (sizes_are : sizes ≡ cell_sizes sheet.universe) (rules_are : rules ≡ sheet.rules) where
  clauses_made : (pairs : ℕ) (a b c : List (List Lit)) → pairs ≡ sum sizes → a ≡ [] → b ≡ a ++ cells_clauses 0 sizes → c ≡ b ++ rules_clauses sheet.universe sizes pairs rules → c ≡ clauses sheet
  clauses_made pairs a b c e f g h =
      h ∙ ap (λ x. x ++ rules_clauses sheet.universe sizes pairs rules) (g ∙ ap (λ x. x ++ cells_clauses 0 sizes) f)
      ∙ ap (λ k. cells_clauses 0 sizes ++ rules_clauses sheet.universe sizes k rules) e
      ∙ ap (λ ns. cells_clauses 0 ns ++ rules_clauses sheet.universe ns (sum ns) rules) sizes_are
      ∙ ap (λ rs. cells_clauses 0 (cell_sizes sheet.universe) ++ rules_clauses sheet.universe (cell_sizes sheet.universe) (sum (cell_sizes sheet.universe)) rs) rules_are
      ∙ clauses_by_number sheet

  names_made : (a b c : NameLists) → a ≡ no_names → b ≡ named a (pairs_from 0 sizes) (map name_of (cells_axioms 0 sizes)) → c ≡ named b (nodes_from sheet.universe 0 rules) (map name_of (rules_axioms sheet.universe 0 rules))
      → c ≡ names_of sheet
  names_made a b c f g h =
      let make : List Symbol → List Axiom → NameLists = λ vs bs. record { variables = vs; axioms = bs } in
      let u = sheet.universe in
      h ∙ ap (λ n. named n (nodes_from u 0 rules) (map name_of (rules_axioms u 0 rules))) (g ∙ ap (λ n. named n (pairs_from 0 sizes) (map name_of (cells_axioms 0 sizes))) f)
      ∙ ap (make (pairs_from 0 sizes ++ nodes_from u 0 rules)) (sym (map-append name_of (cells_axioms 0 sizes) (rules_axioms u 0 rules)))
      ∙ ap (λ ns. make (pairs_from 0 ns ++ nodes_from u 0 rules) (map name_of (cells_axioms 0 ns ++ rules_axioms u 0 rules))) sizes_are
      ∙ ap (λ rs. make (pairs_from 0 (cell_sizes u) ++ nodes_from u 0 rs) (map name_of (cells_axioms 0 (cell_sizes u) ++ rules_axioms u 0 rs))) rules_are

  owners_made : (cells : ℕ) (a b c : List Span) → cells ≡ length sizes → a ≡ [] → b ≡ a ++ cells_times 0 sizes → c ≡ b ++ spans_of_rules sheet.universe cells 0 rules → c ≡ owners_of sheet
  owners_made cells a b c e f g h =
      let u = sheet.universe in
      h ∙ ap (λ x. x ++ spans_of_rules u cells 0 rules) (g ∙ ap (λ x. x ++ cells_times 0 sizes) f ∙ cells_counted 0 sizes)
      ∙ ap (λ k. cells_spans 0 sizes ++ spans_of_rules u k 0 rules) e
      ∙ ap (λ ns. cells_spans 0 ns ++ spans_of_rules u (length ns) 0 rules) sizes_are
      ∙ ap (λ rs. cells_spans 0 (cell_sizes u) ++ spans_of_rules u (length (cell_sizes u)) 0 rs) rules_are

  reads_made : (a b c : List (List ℕ)) → a ≡ [] → b ≡ a → c ≡ b ++ piece_cells_of_rules sheet.universe rules → c ≡ (grounded sheet).reads
  reads_made a b c f g h = h ∙ ap (λ x. x ++ piece_cells_of_rules sheet.universe rules) (g ∙ f) ∙ ap (piece_cells_of_rules sheet.universe) rules_are ∙ cells_listed sheet

  pub all_made : (pairs cells variables : ℕ) (cs cs' cs'' : List (List Lit)) (ns ns' ns'' : NameLists) (os os' os'' : List Span) (rs rs' rs'' : List (List ℕ))
      → pairs ≡ sum sizes → cells ≡ length sizes → variables ≡ pairs + sum_by (nodes_of_rule sheet.universe) rules
      → cs ≡ [] → cs' ≡ cs ++ cells_clauses 0 sizes → cs'' ≡ cs' ++ rules_clauses sheet.universe sizes pairs rules
      → ns ≡ no_names → ns' ≡ named ns (pairs_from 0 sizes) (map name_of (cells_axioms 0 sizes)) → ns'' ≡ named ns' (nodes_from sheet.universe 0 rules) (map name_of (rules_axioms sheet.universe 0 rules))
      → os ≡ [] → os' ≡ os ++ cells_times 0 sizes → os'' ≡ os' ++ spans_of_rules sheet.universe cells 0 rules
      → rs ≡ [] → rs' ≡ rs → rs'' ≡ rs' ++ piece_cells_of_rules sheet.universe rules
      → record { clauses = cs''; sizes = sizes; variables = variables; names = ns''; owners = os''; reads = rs'' } ≡ grounded sheet
  all_made pairs cells variables cs cs' cs'' ns ns' ns'' os os' os'' rs rs' rs'' p l v c c' c'' n n' n'' o o' o'' r r' r'' =
      let make : List (List Lit) → List ℕ → ℕ → NameLists → List Span → List (List ℕ) → Grounded = λ xs ss k ms ps qs. record { clauses = xs; sizes = ss; variables = k; names = ms; owners = ps; reads = qs } in
      let count : variables ≡ variable_count sheet =
      v ∙ ap (λ k. k + sum_by (nodes_of_rule sheet.universe) rules) p ∙ ap (λ ss. sum ss + sum_by (nodes_of_rule sheet.universe) rules) sizes_are ∙ ap (λ qs. sum (cell_sizes sheet.universe) + sum_by (nodes_of_rule sheet.universe) qs) rules_are in
      ap (λ xs. make xs sizes variables ns'' os'' rs'') (clauses_made pairs cs cs' cs'' p c c' c'')
      ∙ ap (λ ss. make (clauses sheet) ss variables ns'' os'' rs'') sizes_are
      ∙ ap (λ k. make (clauses sheet) (cell_sizes sheet.universe) k ns'' os'' rs'') count
      ∙ ap (λ ms. make (clauses sheet) (cell_sizes sheet.universe) (variable_count sheet) ms os'' rs'') (names_made ns ns' ns'' n n' n'')
      ∙ ap (λ ps. make (clauses sheet) (cell_sizes sheet.universe) (variable_count sheet) (names_of sheet) ps rs'') (owners_made cells os os' os'' l o o' o'')
      ∙ ap (λ qs. make (clauses sheet) (cell_sizes sheet.universe) (variable_count sheet) (names_of sheet) (owners_of sheet) qs) (reads_made rs rs' rs'' r r' r'')
