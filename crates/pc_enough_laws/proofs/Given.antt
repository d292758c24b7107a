-- Each part has an axiom whose literals are all positive: that its first cell has a value, or that the rule of a piece is true.
use Rattle.std.proofs.Common.{◌≡◌, ℕ, ◌<◌, inl, inr, Bool, true, false, not, List, [], ◌∷◌, map, get_or, Contains, Some, slice_get, ap, refl, sym, ◌∙◌, subst}
use Rattle.std.specs.Prelude.{slice_index_or}
use Rattle.std.proofs.lemmas.Bool.{false≢true}
use Rattle.std.proofs.lemmas.Option.{slice_get-get_or, get_or_from_slice_get}
use Rattle.std.proofs.lemmas.List.Elements.{All-contains, Contains-append_cases}
use Rattle.pc_lits.specs.declared.literal.Lit.{Lit}
use Rattle.pc_lits.specs.declared.literal.Var.{Var}
use Rattle.pc_lits.specs.Literals.{negated}
use Rattle.pc_sheet.specs.Sheet.{Sheet}
use Rattle.pc_sheet.specs.Entailment.{cell_sizes}
use Rattle.pc_sheet.specs.WellFormed.{IsWellFormed}
use Rattle.pc_lemmas.proofs.Elements.{contains_first, contains_cases, contains_none, contains_map, contains_mapped}
use Rattle.pc_laws.proofs.SomeAssignment.{family_sizes}
use Rattle.pc_accept.specs.Literals.{Literal, positive, node}
use Rattle.pc_parts.specs.Pieces.{Piece, pieces}
use Rattle.pc_parts.specs.Parts.{Part, IsComponent, ReadsNoCell, part_without_cells, AreParts}
use Rattle.pc_parts.specs.Components.{parts_of}
use Rattle.pc_parts.proofs.Dividing.{kept_of, without_is}
use Rattle.pc_parts.proofs.Found.{parts_are_found}
use Rattle.pc_ground.specs.Variables.{pair_at}
use Rattle.pc_ground.specs.Ground.{GroundAxiom, some_axiom, one_axioms, node_axioms, root_axiom, axioms, lit_of, clause_of_axiom, clauses}
use Rattle.pc_ground.proofs.Lists.{each_there, there_each}
use Rattle.pc_components.specs.PartAxioms.{IsAxiomOfPart, AreAxiomsOf, AreVariablesOf}
use Rattle.pc_components.specs.View.{variable_number}
use Rattle.pc_components.proofs.Inside.{rule_there}
use Rattle.pc_components.proofs.OwnAlone.{has_symbol}
use Rattle.pc_components.proofs.PartFor.{contains_slice, slice_map}
use Rattle.pc_components.proofs.Symbols.{cell_there}
use Rattle.pc_components.proofs.Way.{piece_rule}
use Rattle.pc_enough_laws.specs.Clauses.{IsPlain}
use Rattle.pc_solver.specs.Clauses.{used_clauses}

-- a used axiom over own variables, with some literal, and with none together with its negation
abbrev pub HasGiven : Sheet → List ℕ → List Var → Type 0
HasGiven sheet used own = (given : List Lit) × Contains (used_clauses (clauses sheet) used) given × IsPlain own given × (l : Lit) × Contains given l

has_variable : (own : List Var) (x : Var) → Contains (map variable_number own) x.0 → Contains own x
has_variable own x h =
    let found = contains_mapped variable_number own x.0 h in
    let same : found.0 ≡ x = ap (λ (n : ℕ). let v : Var = record { 0 = n } in v) found.2 in
    subst (Contains own) same found.1

pub not_both : (b : Bool) → b ≡ true → not b ≡ true → ⊥
not_both true h k = false≢true k
not_both false h k = false≢true h

some_piece : (ps : List Piece) (part : Part) → Contains (part_without_cells ps) part → (p : Piece) × Contains ps p
some_piece [] part h = absurd (contains_none part h)
some_piece (p ∷ ps) part h = (p, contains_first p ps)

module _ (sheet : Sheet) (part : Part) (used : List ℕ) (own : List Var) (of : AreAxiomsOf sheet part used) (vars : AreVariablesOf (clauses sheet) used (map variable_number own)) where
  from_positive : (g : GroundAxiom) → Contains (axioms sheet) g → IsAxiomOfPart part g.name → ((l : Literal) → Contains g.clause l → l.sign ≡ true) → (l : Literal) → Contains g.clause l → HasGiven sheet used own
  from_positive g there o all_positive l has =
      let clause = clause_of_axiom sheet g in
      let place = contains_slice (axioms sheet) g there in
      let at : slice_get (clauses sheet) place.0 ≡ Some clause = slice_map (clause_of_axiom sheet) (axioms sheet) place.0 g place.1 in
      let in_used : Contains used place.0 = (of.exact place.0).1 (g, place.1, o) in
      let from : (m : Lit) → Contains clause m → (k : Literal) × Contains g.clause k × (lit_of sheet k ≡ m) = λ m h. contains_mapped (lit_of sheet) g.clause m h in
      let signed : (m : Lit) → Contains clause m → m.sign ≡ true = λ m h. let k = from m h in ap (λ (x : Lit). x.sign) (sym k.2) ∙ all_positive k.0 k.1 in (
        clause,
        subst (Contains (used_clauses (clauses sheet) used)) (get_or_from_slice_get (clauses sheet) place.0 clause [] at) (contains_map (λ n. slice_index_or (clauses sheet) n []) used place.0 in_used),
        record {
          over = λ m h.
              let k = from m h in
              has_variable own m.variable (subst (Contains (map variable_number own)) (ap (λ (x : Lit). x.variable.0) k.2) (has_symbol sheet part used (map variable_number own) of vars g there o k.0 k.1));
          plain = λ t. not_both t.0.sign (signed t.0 t.1) (signed (negated t.0) t.2);
        },
        lit_of sheet l,
        contains_map (lit_of sheet) g.clause l has,
      )

  from_cell : IsWellFormed sheet → IsComponent sheet part → HasGiven sheet used own
  from_cell formed k =
      let sizes = cell_sizes sheet.universe in
      let c = k.first in
      let n = get_or sizes c 0 in
      let at : slice_get sizes c ≡ Some n = slice_get-get_or sizes c 0 k.within in
      let some : 0 < n = family_sizes sheet.universe formed.universe sheet.universe.families formed.universe.families c 0 k.within in
      let has : Contains part.cells c = subst (λ cs. Contains cs c) (sym k.is) (contains_first c k.later) in
      let g = some_axiom c n in
      from_positive g (cell_there sheet c n at g (contains_first g (one_axioms c 0 n))) has
      (λ l h. let e = there_each n (λ v. positive (pair_at c v)) l h in ap (λ (x : Literal). x.sign) (sym e.2)) (positive (pair_at c 0)) (each_there n (λ v. positive (pair_at c v)) 0 some)

  from_piece : (p : Piece) → Contains (pieces sheet) p → Contains part.pieces p → HasGiven sheet used own
  from_piece p listed has =
      let rule = piece_rule sheet p listed in
      let r = p.path.rule in
      let g = root_axiom r in
      let only = positive (node r []) in
      from_positive g (rule_there sheet r rule.0 rule.1 g (contains_first g (node_axioms sheet.universe r [] [] rule.0.states))) (p, has, refl)
      (λ l h. elim (contains_cases only [] l h) [ inl is ↦ ap (λ (x : Literal). x.sign) (sym is) | inr none ↦ absurd (contains_none l none) ]) only (contains_first only [])

pub part_has : (sheet : Sheet) → IsWellFormed sheet → (part : Part) → Contains (parts_of sheet) part → (used : List ℕ) (own : List Var)
    → AreAxiomsOf sheet part used → AreVariablesOf (clauses sheet) used (map variable_number own) → HasGiven sheet used own
part_has sheet formed part there used own of vars =
    let are : AreParts sheet (parts_of sheet) = parts_are_found sheet formed in
    elim (Contains-append_cases are.components (part_without_cells are.read_none) part (subst (λ ps. Contains ps part) are.are there)) [
      | inl component ↦ from_cell sheet part used own of vars formed (All-contains (IsComponent sheet) are.components part are.each component)
      | inr last ↦
          let q = some_piece are.read_none part last in
          let listed = kept_of (ReadsNoCell sheet) (pieces sheet) are.read_none are.others q.0 q.1 in
          from_piece sheet part used own of vars q.0 listed.0 (subst (λ ps. Contains ps q.0) (sym (without_is sheet are.read_none part last).1) q.1)
    ]
