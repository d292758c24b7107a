-- The axioms of a counter leave it one truth: its four rows say what it is by earlier counters and a body.
use Rattle.std.proofs.Common.{◌≡◌, ◌≢◌, ℕ, zero, suc, ◌+◌, ◌<◌, ◌≤◌, ◌↔◌, inl, inr, Bool, true, false, not, List, [], ◌∷◌, ◌++◌, All, Contains, Option, None, Some, arith, ap, refl, sym, ◌∙◌, subst}
use Rattle.std.specs.List.{flat_map, range_with_len}
use Rattle.std.proofs.lemmas.Bool.{cases_Bool, false≢true}
use Rattle.std.proofs.lemmas.List.Elements.{All-nil, All-cons, All-append, All-contains, Contains-append_right}
use Rattle.pc_sheet.specs.Sheet.{Sheet, Statement, Counting, counts}
use Rattle.pc_sheet.specs.Truth.{Scope}
use Rattle.pc_sheet.specs.Sizes.{size_of}
use Rattle.pc_sheet.specs.Cells.{values_below}
use Rattle.pc_sheet.specs.Entailment.{IsAssignment}
use Rattle.pc_sheet.specs.Nodes.{node_at, bodies_of, threshold_of, counter_number}
use Rattle.pc_sheet.specs.declared.ids.SortId.{SortId}
use Rattle.pc_sheet.specs.declared.ids.ValueId.{ValueId}
use Rattle.pc_sheet.proofs.Counters.{number_is, row_below}
use Rattle.pc_accept.specs.Literals.{Symbol, node, Literal, SymbolHolds}
use Rattle.pc_accept.specs.Axioms.{Axiom, axiom_some, axiom_one, axiom_rule, axiom_node, axiom_atom, child_of, signed_node, signed_child, IsClauseOf}
use Rattle.pc_accept.specs.Rows.{Part, clause_of, counter_part, counter_rows, last_of}
use Rattle.pc_accept.proofs.AxiomsTrue.{other_axioms_true}
use Rattle.pc_accept.proofs.RowsTrue.{PartHolds, RowsHold}
use Rattle.pc_ground.specs.Ground.{GroundAxiom, row_axiom, row_axioms, count_axioms, counter_axioms, counters_axioms, node_axioms, axioms}
use Rattle.pc_ground.proofs.Lists.{range_flat_there}
use Rattle.pc_ground.proofs.Made.{Makes}
use Rattle.pc_ground.proofs.OfAxioms.{all_right}
use Rattle.pc_ground.proofs.Rows.{Has, rows_made, last_is}
use Rattle.pc_components.proofs.Inside.{node_there}
use Rattle.pc_kept.specs.ByPolarity.{meant_by}
use Rattle.pc_kept.specs.Kept.{IsOfNode}
use Rattle.pc_kept.specs.Settled.{IsMadeBy, CountersAreSettled}
use Rattle.pc_kept.proofs.BySymbol.{signed}
use Rattle.pc_kept.proofs.Settled.{same_steps}

-- a row's axioms say what the node of that path means
rows_named : (r : ℕ) (at : List ℕ) (i : ℕ) (rows : List (List (Part Literal))) → All (λ g. meant_by g.name ≡ Some (node r at)) (row_axioms r at i rows)
rows_named r at i [] = All-nil (λ g. meant_by g.name ≡ Some (node r at))
rows_named r at i (row ∷ rows) =
    All-append (λ g. meant_by g.name ≡ Some (node r at)) (row_axiom r at i (clause_of row)) (row_axioms r at (i + 1) rows) (by (clause_of row)) (rows_named r at (i + 1) rows)
  where
    by : (o : Option (List Literal)) → All (λ g. meant_by g.name ≡ Some (node r at)) (row_axiom r at i o)
    by None = All-nil (λ g. meant_by g.name ≡ Some (node r at))
    by (Some c) = All-cons (λ g. meant_by g.name ≡ Some (node r at)) _ [] refl (All-nil (λ g. meant_by g.name ≡ Some (node r at)))

-- what says what a node means
pub of_node : (x : Axiom) (p : Symbol) → meant_by x ≡ Some p → IsOfNode x
of_node (axiom_some c) p h = absurd (cc)
of_node (axiom_one c v w) p h = absurd (cc)
of_node (axiom_rule q) p h = absurd (cc)
of_node (axiom_node q at i) p h = tt
of_node (axiom_atom q at reads) p h = tt

module _ (r : ℕ) (path : List ℕ) (n m i j : ℕ) (l : i < n) (k : j < m) where
  abbrev here : Symbol
  here = child_of r path (counter_number n m (suc i) (suc j))

  abbrev part : ℕ → ℕ → Bool → Part Literal
  part = counter_part (signed_node r path) (signed_child r path) n m

  abbrev rows : List (List (Part Literal))
  rows = counter_rows (signed_node r path) (signed_child r path) n m i j

  -- a child of another number is another one
  other_child : (q : ℕ) → q < counter_number n m (suc i) (suc j) → child_of r path q ≢ here
  other_child q less same =
      let number = counter_number n m (suc i) (suc j) in
      let equal : q ≡ number = sym (last_is path q) ∙ ap last_of (same_steps r (path ++ q ∷ []) (path ++ number ∷ []) same) ∙ last_is path number in
      omega (arith, equal, less)

  body_other : child_of r path i ≢ here
  body_other = other_child i (omega (arith, l, number_is n m i j))

  module _ (X Y : Symbol → Bool) (same : (x : Symbol) → x ≢ here → X x ≡ Y x) where
    -- an earlier counter is the same by both
    earlier : (a b : ℕ) (sign : Bool) → a ≤ i → b ≤ m → PartHolds (Has Y) (part a b sign) → PartHolds (Has X) (part a b sign)
    earlier a zero sign low fits h = h
    earlier zero (suc b) sign low fits h = h
    earlier (suc a) (suc b) sign low fits h =
        let less = row_below a b i m (omega (arith, low)) (omega (arith, fits)) in
        let before : counter_number n m (suc a) (suc b) < counter_number n m (suc i) (suc j) = omega (arith, less, number_is n m a b, number_is n m i j) in
        same (child_of r path (counter_number n m (suc a) (suc b))) (other_child (counter_number n m (suc a) (suc b)) before) ∙ h

  -- no part is true with both signs
  never_both : (X : Symbol → Bool) (a b : ℕ) → PartHolds (Has X) (part a b true) → PartHolds (Has X) (part a b false) → ⊥
  never_both X a zero t f = false≢true f
  never_both X zero (suc b) t f = false≢true t
  never_both X (suc a) (suc b) t f = false≢true (sym f ∙ t)

  -- the rows don't hold with either truth of the counter
  clash : (X Y : Symbol → Bool) → ((x : Symbol) → x ≢ here → X x ≡ Y x) → X here ≡ true → Y here ≡ false → RowsHold (Has X) rows → RowsHold (Has Y) rows → ⊥
  clash X Y same t f in_x in_y =
      let no_more : PartHolds (Has X) (part i (suc j) false) = elim in_y.1.1.0 [
        | inl is ↦ absurd (false≢true (sym f ∙ is))
        | inr rest ↦ elim rest [ inl up ↦ earlier X Y same i (suc j) false (omega arith) (omega (arith, k)) up | inr none ↦ absurd none ]
      ] in
      let body : X (child_of r path i) ≡ true = elim in_x.0 [
        | inl is ↦ absurd (false≢true (sym is ∙ t))
        | inr rest ↦ elim rest [ inl up ↦ absurd (never_both X i (suc j) up no_more) | inr more ↦ elim more [ inl is ↦ is | inr none ↦ absurd none ] ]
      ] in
      let fewer : PartHolds (Has X) (part i j true) = elim in_x.1.0 [
        | inl is ↦ absurd (false≢true (sym is ∙ t))
        | inr rest ↦ elim rest [ inl up ↦ absurd (never_both X i (suc j) up no_more) | inr more ↦ elim more [ inl is ↦ is | inr none ↦ absurd none ] ]
      ] in
      elim in_y.1.1.1.0 [
        | inl is ↦ false≢true (sym f ∙ is)
        | inr rest ↦ elim rest [
          | inl left ↦ never_both X i j fewer (earlier X Y same i j false (omega arith) (omega (arith, k)) left)
          | inr more ↦ elim more [ inl is ↦ false≢true (sym is ∙ sym (same (child_of r path i) body_other) ∙ body) | inr none ↦ none ]
        ]
      ]

module _ (sheet : Sheet) (a : List ValueId) (assigned : IsAssignment sheet.universe a) (value : Symbol → Bool) (right : (x : Symbol) → (value x ≡ true) ↔ SymbolHolds sheet a x) where
  -- an axiom that says what a node means is true
  pub meant : (g : GroundAxiom) → Contains (axioms sheet) g → IsOfNode g.name → Makes value g.clause
  meant g g_in of = by g.name of g.clause (All-contains (λ q. IsClauseOf sheet q.name q.clause) (axioms sheet) g (all_right sheet) g_in)
    where
      by : (x : Axiom) → IsOfNode x → (clause : List Literal) → IsClauseOf sheet x clause → Makes value clause
      by (axiom_some c) h clause is = absurd h
      by (axiom_one c v w) h clause is = absurd h
      by (axiom_rule q) h clause is = absurd h
      by (axiom_node q at i) h clause is = let l = other_axioms_true sheet a assigned (axiom_node q at i) clause tt is in (l.0, l.1, signed l.0.sign (value l.0.what) (right l.0.what) l.2)
      by (axiom_atom q at reads) h clause is = let l = other_axioms_true sheet a assigned (axiom_atom q at reads) clause tt is in (l.0, l.1, signed l.0.sign (value l.0.what) (right l.0.what) l.2)

  one_truth : (r : ℕ) (path : List ℕ) (scope : Scope) (c : Counting) (name : List ℕ) (s : SortId) (body : Statement) → node_at sheet r path ≡ Some (scope, counts c name s body)
      → (i j : ℕ) → i < bodies_of c (size_of sheet.universe s) → j < threshold_of c → (turned : Symbol → Bool)
      → turned (child_of r path (counter_number (bodies_of c (size_of sheet.universe s)) (threshold_of c) (suc i) (suc j))) ≡ not (value (child_of r path (counter_number (bodies_of c (size_of sheet.universe s)) (threshold_of c) (suc i) (suc j))))
      → ((x : Symbol) → x ≢ child_of r path (counter_number (bodies_of c (size_of sheet.universe s)) (threshold_of c) (suc i) (suc j)) → turned x ≡ value x)
      → ((g : GroundAxiom) → Contains (axioms sheet) g → meant_by g.name ≡ Some (child_of r path (counter_number (bodies_of c (size_of sheet.universe s)) (threshold_of c) (suc i) (suc j))) → IsMadeBy turned g.clause) → ⊥
  one_truth r path scope c name s body at i j l k turned there others own =
      let u = sheet.universe in
      let n = bodies_of c (size_of u s) in
      let m = threshold_of c in
      let spot = path ++ counter_number n m (suc i) (suc j) ∷ [] in
      let all = counter_rows (signed_node r path) (signed_child r path) n m i j in
      let counted = counts c name s body in
      let bodies = flat_map (λ v. node_axioms u r (path ++ v.0 ∷ []) (scope ++ (s, v) ∷ []) body) (values_below n) in
      let counters = counters_axioms r path n m in
      let in_sheet : (g : GroundAxiom) → Contains (counter_axioms r path n m i j) g → Contains (axioms sheet) g = λ g has.
      node_there sheet r path (scope, counted) at g
      (Contains-append_right (count_axioms u r path counted) (bodies ++ counters) g (Contains-append_right bodies counters g
      (range_flat_there (λ x. flat_map (counter_axioms r path n m x) (range_with_len 0 m)) 0 n i g (omega arith) (omega (arith, l)) (range_flat_there (counter_axioms r path n m i) 0 m j g (omega arith) (omega (arith, k)) has)))) in
      let named : (g : GroundAxiom) → Contains (counter_axioms r path n m i j) g → meant_by g.name ≡ Some (node r spot) = λ g has.
      All-contains (λ q. meant_by q.name ≡ Some (node r spot)) (row_axioms r spot 1 all) g (rows_named r spot 1 all) has in
      let in_value = rows_made value r spot 1 all (λ g has. meant g (in_sheet g has) (of_node g.name (node r spot) (named g has))) in
      let in_turned = rows_made turned r spot 1 all (λ g has. own g (in_sheet g has) (named g has)) in
      elim (cases_Bool (value (node r spot))) [
        | inl t ↦ clash r path n m i j l k value turned (λ x other. sym (others x other)) t (there ∙ ap not t) in_value in_turned
        | inr f ↦ clash r path n m i j l k turned value others (there ∙ ap not f) f in_turned in_value
      ]

pub counters_are_settled : CountersAreSettled
counters_are_settled sheet a assigned value right r path scope c name s body at n m n_is m_is i j l k turned there others own =
    one_truth sheet a assigned value right r path scope c name s body at i j (subst (λ x. i < x) n_is l) (subst (λ y. j < y) m_is k) turned
    (subst (λ p. turned p ≡ not (value p)) moved there)
    (subst (λ p. (x : Symbol) → x ≢ p → turned x ≡ value x) moved others)
    (subst (λ p. (g : GroundAxiom) → Contains (axioms sheet) g → meant_by g.name ≡ Some p → IsMadeBy turned g.clause) moved own)
  where
    moved : child_of r path (counter_number n m (suc i) (suc j)) ≡ child_of r path (counter_number (bodies_of c (size_of sheet.universe s)) (threshold_of c) (suc i) (suc j))
    moved = ap (λ x. child_of r path (counter_number x m (suc i) (suc j))) n_is ∙ ap (λ y. child_of r path (counter_number (bodies_of c (size_of sheet.universe s)) y (suc i) (suc j))) m_is
