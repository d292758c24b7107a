-- Truth values that make a part's kept axioms true give each of its cells a value.
use Rattle.std.proofs.Common.{◌≡◌, ℕ, zero, suc, ◌+◌, ◌<◌, ◌↔◌, inl, inr, Bool, true, List, [], ◌∷◌, Contains, Option, None, Some, slice_get, arith, ap, refl, sym, ◌∙◌, subst, zero-add}
use Rattle.std.proofs.lemmas.Bool.{cases_Bool, false≢true}
use Rattle.std.proofs.lemmas.List.Elements.{All-contains}
use Rattle.pc_lits.specs.declared.literal.Var.{Var}
use Rattle.pc_sheet.specs.Sheet.{Universe, Sheet}
use Rattle.pc_sheet.specs.Entailment.{cell_sizes, AreWithin, IsAssignment}
use Rattle.pc_sheet.specs.Nodes.{Node}
use Rattle.pc_sheet.specs.Reads.{number_of_cell}
use Rattle.pc_sheet.specs.WellFormed.{IsWellFormed}
use Rattle.pc_sheet.specs.declared.ids.ValueId.{ValueId}
use Rattle.pc_sheet.specs.declared.ids.Entry.{Entry}
use Rattle.pc_laws.proofs.SomeAssignment.{some_assignment}
use Rattle.pc_accept.specs.Axioms.{Axiom, axiom_some, axiom_one, axiom_rule, axiom_node, axiom_atom}
use Rattle.pc_accept.proofs.AxiomsTrue.{value_within}
use Rattle.pc_parts.specs.Pieces.{Piece, pieces}
use Rattle.pc_parts.specs.Parts.{Part, IsDivision}
use Rattle.pc_parts.specs.PartSheets.{is_among}
use Rattle.pc_parts.specs.Leaves.{cells_of, cells_under}
use Rattle.pc_parts.proofs.Joining.{among_contains, contains_among}
use Rattle.pc_parts.proofs.LeafReads.{leaves_read_the_cells}
use Rattle.pc_ground.specs.Variables.{pair_at}
use Rattle.pc_ground.specs.Ground.{GroundAxiom, cell_axioms, axioms, clause_of_axiom, clauses}
use Rattle.pc_ground.proofs.Made.{Makes, Meets, one_value}
use Rattle.pc_components.specs.PartAxioms.{IsAxiomOfPart, AreAxiomsOf}
use Rattle.pc_components.specs.Used.{MeetsUsed}
use Rattle.pc_components.proofs.OwnAlone.{InPiece, one_path, one_node}
use Rattle.pc_components.proofs.PartFor.{contains_slice, slice_map}
use Rattle.pc_components.proofs.Symbols.{IsOfCell, cell_named, cell_there}
use Rattle.pc_kept.specs.Kept.{IsOfNode}
use Rattle.pc_kept.proofs.BySymbol.{value, makes_of}

-- ---- one value for each cell

abbrev Chosen : (ℕ → ℕ → ValueId → Type 0) → List ℕ → ℕ → List ValueId → Type 0
Chosen Q ns c a = (j n : ℕ) → slice_get ns j ≡ Some n → (v : ValueId) × (slice_get a j ≡ Some v) × Q (c + j) n v

chosen : (Q : ℕ → ℕ → ValueId → Type 0) (ns : List ℕ) (c : ℕ) → ((j n : ℕ) → slice_get ns j ≡ Some n → (v : ValueId) × (v.0 < n) × Q (c + j) n v) → (a : List ValueId) × AreWithin ns a × Chosen Q ns c a
chosen Q [] c h = ([], tt, λ j n is. absurd (cc))
chosen Q (n ∷ ns) c h =
    let first = h 0 n refl in
    let rest = chosen Q ns (c + 1) (λ j m is. let found = h (suc j) m is in let there : c + suc j ≡ c + 1 + j = omega arith in (found.0, found.1, subst (λ i. Q i m found.0) there found.2)) in
    (first.0 ∷ rest.0, (first.1, rest.1), both n ns c first.0 first.2 rest.0 rest.2)
  where
    both : (n : ℕ) (ns : List ℕ) (c : ℕ) (v : ValueId) → Q (c + 0) n v → (a : List ValueId) → Chosen Q ns (c + 1) a → Chosen Q (n ∷ ns) c (v ∷ a)
    both n ns c v q a rest zero m is = let same : n ≡ m = cc in (v, refl, subst (λ k. Q (c + 0) k v) same q)
    both n ns c v q a rest (suc j) m is = let found = rest j m is in let there : c + 1 + j ≡ c + suc j = omega arith in (found.0, found.1, subst (λ i. Q i m found.0) there found.2)

same_value : (v : ValueId) (w : ℕ) → Some v ≡ Some (record { 0 = w }) → v.0 ≡ w
same_value v w e = let f : Option ValueId → ℕ = elim [ None ↦ 0 | Some x ↦ x.0 ] in ap f e

not_of_node : (c : ℕ) (x : Axiom) → IsOfCell c x → ¬ IsOfNode x
not_of_node c (axiom_some d) is h = h
not_of_node c (axiom_one d v w) is h = h
not_of_node c (axiom_rule r) is h = h
not_of_node c (axiom_node r path i) is h = is
not_of_node c (axiom_atom r path reads) is h = is

-- ---- the part's axioms by number, and the cells that its atoms read

pub number_there : (sheet : Sheet) (part : Part) (used : List ℕ) → AreAxiomsOf sheet part used → (g : GroundAxiom) → Contains (axioms sheet) g → IsAxiomOfPart part g.name → (k : ℕ) × Contains used k × (slice_get (axioms sheet) k ≡ Some g)
number_there sheet part used of g g_in o = let k = contains_slice (axioms sheet) g g_in in (k.0, (of.exact k.0).1 (g, k.1, o), k.1)

module _ (sheet : Sheet) (formed : IsWellFormed sheet) (all : List Part) (division : IsDivision sheet all) (part : Part) (there : Contains all part) where
  abbrev u : Universe
  u = sheet.universe

  abbrev sizes : List ℕ
  sizes = cell_sizes u

  listed : (p : Piece) → Contains part.pieces p → Contains (pieces sheet) p
  listed p h = division.pieces part there p h

  -- ---- an atom of the part reads cells of the part

  pub reads_in : (r : ℕ) (path : List ℕ) (reads : List Entry) → IsAxiomOfPart part (axiom_atom r path reads) → InPiece u (pieces sheet) (axiom_atom r path reads) → (e : Entry) → Contains reads e → Contains part.cells e.cell.0
  reads_in r path reads (p, p_in, (same, rest, at)) (q, q_in, (from, within)) e has =
      let in_q : Contains (cells_of u q) e.cell.0 = All-contains (λ x. Contains (cells_of u q) (number_of_cell x)) reads e within has in
      let rules : q.path.rule ≡ p.path.rule = from.0 ∙ sym same in
      let steps = one_path sheet q p q_in (listed p p_in) rules from.1 rest (sym from.2 ∙ at) in
      let nodes = one_node sheet q p q_in (listed p p_in) rules steps in
      let in_p : Contains (cells_of u p) e.cell.0 = subst (λ (n : Node). Contains (cells_under u n.0 n.1) e.cell.0) nodes in_q in
      division.reads part there p p_in e.cell.0 ((leaves_read_the_cells sheet formed p (listed p p_in) e.cell.0).0 in_p)

  module _ (used kept : List ℕ) (of : AreAxiomsOf sheet part used) (stays : (k : ℕ) (g : GroundAxiom) → Contains used k → slice_get (axioms sheet) k ≡ Some g → (¬ IsOfNode g.name) → Contains kept k)
      (v : Var → Bool) (met : MeetsUsed (clauses sheet) kept v) where
    pub kept_made : (k : ℕ) (g : GroundAxiom) → Contains kept k → slice_get (axioms sheet) k ≡ Some g → Makes (value sheet v) g.clause
    kept_made k g h at = makes_of sheet v g.clause (met k h (clause_of_axiom sheet g) (slice_map (clause_of_axiom sheet) (axioms sheet) k g at))

    -- ---- the cells' values

    of_cell : (c : ℕ) → Contains part.cells c → (x : Axiom) → IsOfCell c x → IsAxiomOfPart part x
    of_cell c h (axiom_some d) is = subst (Contains part.cells) (sym is) h
    of_cell c h (axiom_one d x w) is = subst (Contains part.cells) (sym is) h
    of_cell c h (axiom_rule r) is = absurd is
    of_cell c h (axiom_node r path i) is = absurd is
    of_cell c h (axiom_atom r path reads) is = absurd is

    cell_met : (c n : ℕ) → Contains part.cells c → slice_get sizes c ≡ Some n → Meets (value sheet v) (cell_axioms c n)
    cell_met c n h is g g_there =
        let of_c = All-contains (λ q. IsOfCell c q.name) (cell_axioms c n) g (cell_named c n) g_there in
        let k = number_there sheet part used of g (cell_there sheet c n is g g_there) (of_cell c h g.name of_c) in
        kept_made k.0 g (stays k.0 g k.1 k.2 (not_of_node c g.name of_c)) k.2

    abbrev IsOwnValue : ℕ → ℕ → ValueId → Type 0
    IsOwnValue c n x = Contains part.cells c → (value sheet v (pair_at c x.0) ≡ true) × ((k : ℕ) → k < n → value sheet v (pair_at c k) ≡ true → x.0 ≡ k)

    a_value : (c n : ℕ) → slice_get sizes c ≡ Some n → (x : ValueId) × (x.0 < n) × IsOwnValue c n x
    a_value c n is = elim (cases_Bool (is_among part.cells c)) [
      | inl among ↦
          let one = one_value (value sheet v) c n (cell_met c n (among_contains part.cells c among) is) in
          (record { 0 = one.0 }, one.1, λ h. (one.2, one.3))
      | inr lacks ↦
          let base = some_assignment u formed.universe in
          let x = value_within sizes base.0 base.1 c n is in
          (x.0, x.2, λ h. absurd (false≢true (sym lacks ∙ contains_among part.cells c h)))
    ]

    values : (a : List ValueId) × AreWithin sizes a × Chosen IsOwnValue sizes 0 a
    values = chosen IsOwnValue sizes 0 (λ j n is. let found = a_value j n is in (found.0, found.1, subst (λ i. IsOwnValue i n found.0) (sym (zero-add j)) found.2))

    pub a : List ValueId
    a = values.0

    pub assigned : IsAssignment u a
    unfolding a
    assigned = values.1

    pub has_value : (c : ℕ) → Contains part.cells c → (n w : ℕ) → slice_get sizes c ≡ Some n → w < n → (value sheet v (pair_at c w) ≡ true) ↔ (slice_get a c ≡ Some (record { 0 = w }))
    unfolding a
    has_value c h n w is below =
        let found = values.2 c n is in
        let q = (subst (λ i. IsOwnValue i n found.0) (zero-add c) found.2) h in (
          λ t. found.1 ∙ ap (λ k. let x : ValueId = record { 0 = k } in Some x) (q.1 w below t),
          λ e. ap (λ k. value sheet v (pair_at c k)) (sym (same_value found.0 w (sym found.1 ∙ e))) ∙ q.0,
        )
