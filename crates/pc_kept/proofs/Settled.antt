-- The axioms that say what a node means leave it one truth: with the other one, all others of its nodes are still true.
use Rattle.std.proofs.Common.{◌≡◌, ◌≢◌, ℕ, ◌↔◌, inl, inr, Bool, true, false, not, List, [], ◌∷◌, ◌++◌, append-nil, append_assoc, length, map, Contains, Some, arith, ap, sym, ◌∙◌, subst}
use Rattle.std.proofs.lemmas.Bool.{cases_Bool, false≢true}
use Rattle.std.proofs.lemmas.List.{length-append}
use Rattle.std.proofs.lemmas.List.Elements.{All-contains, Contains-append_cases}
use Rattle.pc_sheet.specs.Sheet.{Sheet, Statement}
use Rattle.pc_sheet.specs.Truth.{Scope}
use Rattle.pc_sheet.specs.Entailment.{IsAssignment, HasEntry}
use Rattle.pc_sheet.specs.Meanings.{GivesValues}
use Rattle.pc_sheet.specs.Nodes.{Node, node_at}
use Rattle.pc_sheet.specs.WellSorted.{Variables, IsWellSorted}
use Rattle.pc_sheet.specs.WellFormed.{IsEntryOf}
use Rattle.pc_sheet.specs.declared.ids.ValueId.{ValueId}
use Rattle.pc_sheet.specs.declared.ids.Entry.{Entry}
use Rattle.pc_accept.specs.Literals.{Symbol, pair, node, Literal, SymbolHolds}
use Rattle.pc_accept.specs.Axioms.{Axiom, axiom_some, axiom_one, axiom_rule, axiom_node, axiom_atom, child_of, negated_entry, pair_of, IsClauseOf}
use Rattle.pc_accept.specs.Rows.{parent_of}
use Rattle.pc_accept.proofs.AxiomsTrue.{other_axioms_true}
use Rattle.pc_lemmas.proofs.Elements.{contains_cases, contains_none, contains_mapped}
use Rattle.pc_parts.specs.Leaves.{cells_under}
use Rattle.pc_ground.specs.Variables.{nodes_below}
use Rattle.pc_ground.specs.Ground.{GroundAxiom, node_axioms, axioms}
use Rattle.pc_ground.proofs.OfAxioms.{all_right}
use Rattle.pc_ground.proofs.NodesRight.{nodes_right}
use Rattle.pc_ground.proofs.Rows.{parent_is}
use Rattle.pc_ground.proofs.Symbols.{root_there}
use Rattle.pc_components.proofs.Inside.{IsInside, inside, node_there}
use Rattle.pc_components.proofs.OwnAlone.{no_pair}
use Rattle.pc_components.proofs.Symbols.{none_or_last, HasCounters, axiom_symbols}
use Rattle.pc_kept.specs.ByPolarity.{meant_by}
use Rattle.pc_kept.specs.Settled.{IsMadeBy, NodesAreSettled}
use Rattle.pc_kept.proofs.BySymbol.{signed}

steps_of : Symbol → List ℕ
steps_of (pair c v) = []
steps_of (node r path) = path

pub same_steps : (r : ℕ) (xs ys : List ℕ) → node r xs ≡ node r ys → xs ≡ ys
unfolding steps_of
same_steps r xs ys e = ap steps_of e

pub no_longer : (r : ℕ) (path more : List ℕ) (j : ℕ) → node r (path ++ j ∷ more) ≡ node r path → ⊥
no_longer r path more j e =
    let same : length (path ++ j ∷ more) ≡ length path = ap length (same_steps r (path ++ j ∷ more) path e) in
    omega (arith, same, length-append path (j ∷ more))

not_same : (b : Bool) → b ≡ not b → ⊥
not_same true h = false≢true (sym h)
not_same false h = false≢true h

module _ (sheet : Sheet) (r : ℕ) (path : List ℕ) where
  -- a node below the one that the path leads to
  abbrev IsBelow : Symbol → Type 0
  IsBelow x = (j : ℕ) × (more : List ℕ) × (x ≡ node r (path ++ j ∷ more))

  module _ (q : ℕ) (same : r ≡ q) (at : List ℕ) (k : ℕ) (ks : List ℕ) (is : at ≡ path ++ k ∷ ks) where
    here : IsBelow (node q at)
    here = (k, ks, ap (λ i. node i at) (sym same) ∙ ap (node r) is)

    child : (j : ℕ) → IsBelow (child_of q at j)
    child j = (k, ks ++ j ∷ [], ap (λ i. node i (at ++ j ∷ [])) (sym same) ∙ ap (λ xs. node r (xs ++ j ∷ [])) is ∙ ap (node r) (append_assoc path (k ∷ ks) (j ∷ [])))

    beside : (up : List ℕ) (z : ℕ) → at ≡ up ++ z ∷ [] → (n : Node) → node_at sheet q up ≡ Some n → HasCounters n.1 → (j : ℕ) → IsBelow (child_of q up j)
    beside up z ends n n_at counted j = elim (none_or_last ks) [
      | inl none ↦
          let whole : up ++ z ∷ [] ≡ path ++ k ∷ [] = sym ends ∙ is ∙ ap (λ xs. path ++ k ∷ xs) none in
          let up_is : up ≡ path = sym (parent_is up z) ∙ ap parent_of whole ∙ parent_is path k in
          (j, [], ap (λ i. node i (up ++ j ∷ [])) (sym same) ∙ ap (λ xs. node r (xs ++ j ∷ [])) up_is)
      | inr end ↦
          let front = k ∷ end.0 in
          let whole : up ++ z ∷ [] ≡ (path ++ front) ++ end.1 ∷ [] = sym ends ∙ is ∙ ap (λ xs. path ++ k ∷ xs) end.2 ∙ sym (append_assoc path front (end.1 ∷ [])) in
          let up_is : up ≡ path ++ front = sym (parent_is up z) ∙ ap parent_of whole ∙ parent_is (path ++ front) end.1 in
          (k, end.0 ++ j ∷ [], ap (λ i. node i (up ++ j ∷ [])) (sym same) ∙ ap (λ xs. node r (xs ++ j ∷ [])) up_is ∙ ap (node r) (append_assoc path front (j ∷ [])))
    ]

    below_symbols : (i : ℕ) (clause : List Literal) → IsClauseOf sheet (axiom_node q at i) clause → (l : Literal) → Contains clause l → IsBelow l.what
    below_symbols = axiom_symbols IsBelow sheet q at here child beside

  not_it : (x : Symbol) → IsBelow x → x ≢ node r path
  not_it x below same = no_longer r path below.1 below.0 (sym below.2 ∙ same)

module _ (sheet : Sheet) (a : List ValueId) (assigned : IsAssignment sheet.universe a) (value : Symbol → Bool) (right : (x : Symbol) → (value x ≡ true) ↔ SymbolHolds sheet a x)
    (r : ℕ) (path : List ℕ) (turned : Symbol → Bool) (there : turned (node r path) ≡ not (value (node r path))) (others : (x : Symbol) → x ≢ node r path → turned x ≡ value x)
    (own : (g : GroundAxiom) → Contains (axioms sheet) g → meant_by g.name ≡ Some (node r path) → IsMadeBy turned g.clause) where
  -- an axiom without the node's literal
  without : (x : Axiom) (clause : List Literal) → ((l : Literal) × Contains clause l × (value l.what ≡ l.sign)) → ((l : Literal) → Contains clause l → l.what ≢ node r path) → IsMadeBy turned clause
  without x clause made apart = (made.0, made.1, others made.0.what (apart made.0 made.1) ∙ made.2)

  made_by : (x : Axiom) (clause : List Literal) → IsClauseOf sheet x clause → (cells : List ℕ) → IsInside r path cells x → (meant_by x ≡ Some (node r path) → IsMadeBy turned clause) → IsMadeBy turned clause
  made_by (axiom_some c) clause is cells i mine = absurd i
  made_by (axiom_one c v w) clause is cells i mine = absurd i
  made_by (axiom_rule q) clause is cells i mine = absurd i
  made_by (axiom_node q at k) clause is cells (same, [], steps) mine = mine (ap (λ j. Some (node j at)) (sym same) ∙ ap (λ xs. Some (node r xs)) (steps ∙ append-nil path))
  made_by (axiom_node q at k) clause is cells (same, j ∷ js, steps) mine =
      let m = other_axioms_true sheet a assigned (axiom_node q at k) clause tt is in
      without (axiom_node q at k) clause (m.0, m.1, signed m.0.sign (value m.0.what) (right m.0.what) m.2) (λ l has. not_it sheet r path l.what (below_symbols sheet r path q same at j js steps k clause is l has))
  made_by (axiom_atom q at reads) clause is cells ((same, [], steps), read) mine = mine (ap (λ j. Some (node j at)) (sym same) ∙ ap (λ xs. Some (node r xs)) (steps ∙ append-nil path))
  made_by (axiom_atom q at reads) clause is cells ((same, j ∷ js, steps), read) mine =
      let m = other_axioms_true sheet a assigned (axiom_atom q at reads) clause tt is in
      let end : Literal = record { what = node q at; sign = is.truth } in
      without (axiom_atom q at reads) clause (m.0, m.1, signed m.0.sign (value m.0.what) (right m.0.what) m.2)
      (λ l has. elim (Contains-append_cases (map negated_entry reads) (end ∷ []) l (subst (λ d. Contains d l) is.is has)) [
        | inl entry ↦ let e = contains_mapped negated_entry reads l entry in (λ is_node. no_pair (sym is_node ∙ sym (ap (λ (y : Literal). y.what) e.2)))
        | inr last ↦ elim (contains_cases end [] l last) [
          | inl is_end ↦ not_it sheet r path l.what (subst (λ (y : Literal). IsBelow sheet r path y.what) is_end (here sheet r path q same at j js steps))
          | inr none ↦ absurd (contains_none l none)
        ]
      ])

  all_made : (scope : Scope) (s : Statement) → node_at sheet r path ≡ Some (scope, s) → (g : GroundAxiom) → Contains (node_axioms sheet.universe r path scope s) g → IsMadeBy turned g.clause
  all_made scope s at g g_in =
      let u = sheet.universe in
      let cells = cells_under u scope s in
      let g_there = node_there sheet r path (scope, s) at g g_in in
      let i = All-contains (λ q. IsInside r path cells q.name) (node_axioms u r path scope s) g (inside u r path scope s) g_in in
      let is = All-contains (λ q. IsClauseOf sheet q.name q.clause) (axioms sheet) g (all_right sheet) g_there in
      made_by g.name g.clause is cells i (own g g_there)

  one_truth : (scope : Scope) (vs : Variables) (s : Statement) → node_at sheet r path ≡ Some (scope, s) → IsWellSorted sheet.universe vs s → GivesValues sheet.universe scope vs → ⊥
  one_truth scope vs s at sorted given =
      let u = sheet.universe in
      let p = node r path in
      let agrees : (e : Entry) → IsEntryOf u e → (turned (pair_of e) ≡ true) ↔ HasEntry a e = λ e of.
      let same = others (pair_of e) (λ is_node. no_pair (sym is_node)) in
      (λ t. (right (pair_of e)).0 (sym same ∙ t), λ h. same ∙ (right (pair_of e)).1 h) in
      let Q : Symbol → Type 0 = λ x. (turned x ≡ true) ↔ SymbolHolds sheet a x in
      let nodes = nodes_right sheet a turned assigned agrees r path scope vs s at sorted given (all_made scope s at) in
      let mine = All-contains Q (nodes_below u r path s) p nodes (root_there u r path s) in
      elim (cases_Bool (value p)) [
        | inl t ↦
            let also : turned p ≡ true = mine.1 ((right p).0 t) in
            false≢true (sym (ap not t) ∙ sym there ∙ also)
        | inr f ↦
            let t : turned p ≡ true = there ∙ ap not f in
            false≢true (sym f ∙ (right p).1 (mine.0 t))
      ]

pub nodes_are_settled : NodesAreSettled
nodes_are_settled sheet a assigned value right r path scope vs s at sorted given turned there others own =
    one_truth sheet a assigned value right r path turned there others own scope vs s at sorted given
