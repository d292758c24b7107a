-- Truth values that make a part's axioms true are, cut to its cells, those of an assignment that fits the part.
use Rattle.std.proofs.Common.{◌≡◌, ℕ, zero, suc, ◌+◌, ◌<◌, ◌↔◌, inl, inr, Bool, true, false, cond, List, [], ◌∷◌, ◌++◌, append-nil, append_assoc, map, Contains, Option, None, Some, slice_get, arith, ap, refl, sym, ◌∙◌, subst, zero-add}
use Rattle.std.proofs.lemmas.Bool.{cases_Bool, false≢true}
use Rattle.std.proofs.lemmas.List.Elements.{All-contains, Contains-append_cases}
use Rattle.pc_sheet.specs.Sheet.{Universe, Sheet}
use Rattle.pc_sheet.specs.Entailment.{cell_sizes, AreWithin, IsAssignment, Fits, HasEntry}
use Rattle.pc_sheet.specs.Reads.{number_of_cell}
use Rattle.pc_sheet.specs.WellFormed.{IsWellFormed, IsEntryOf}
use Rattle.pc_sheet.specs.declared.ids.ValueId.{ValueId}
use Rattle.pc_sheet.specs.declared.ids.Entry.{Entry}
use Rattle.pc_laws.specs.Laws.{IsDecided}
use Rattle.pc_laws.proofs.Decide.{same_option}
use Rattle.pc_accept.specs.Literals.{Symbol, pair, node, Literal, positive, negative, SymbolHolds}
use Rattle.pc_accept.specs.Axioms.{Axiom, axiom_some, axiom_one, axiom_rule, axiom_node, axiom_atom, child_of, negated_entry, pair_of, IsClauseOf}
use Rattle.pc_lemmas.proofs.Options.{some_and}
use Rattle.pc_accept.proofs.Children.{node_is}
use Rattle.pc_parts.specs.Pieces.{Piece, pieces, PieceHolds}
use Rattle.pc_parts.specs.Parts.{Part, IsDivision}
use Rattle.pc_parts.specs.PartSheets.{is_among, sheet_of}
use Rattle.pc_parts.specs.Leaves.{cells_under}
use Rattle.pc_lemmas.proofs.Elements.{contains_first, contains_cases, contains_none, contains_mapped, all_from}
use Rattle.pc_parts.proofs.Joining.{among_contains, contains_among}
use Rattle.pc_parts.proofs.Divided.{part_fits}
use Rattle.pc_laws.proofs.SomeAssignment.{some_assignment}
use Rattle.pc_parts.proofs.ReadWithin.{IsSortedPiece, rules_sorted}
use Rattle.pc_parts.proofs.LeafReads.{leaves_read_the_cells}
use Rattle.pc_ground.specs.Variables.{pair_at, nodes_below}
use Rattle.pc_ground.specs.Ground.{GroundAxiom, cell_axioms, node_axioms, root_axiom, axioms}
use Rattle.pc_ground.proofs.Made.{Makes, Meets, unit, last, one_value}
use Rattle.pc_ground.proofs.NodesRight.{nodes_right}
use Rattle.pc_ground.proofs.OfAxioms.{all_right}
use Rattle.pc_ground.proofs.Symbols.{root_there}
use Rattle.pc_components.specs.PartAxioms.{IsAxiomOfPart}
use Rattle.pc_accept.proofs.AxiomsTrue.{value_within}
use Rattle.pc_components.proofs.Inside.{rule_there, node_there, IsInside, inside}
use Rattle.pc_components.proofs.Way.{piece_at, piece_rule, above_piece, way_axiom, way_there}
use Rattle.pc_components.proofs.Symbols.{rule_symbols, IsOfCell, cell_named, cell_there}

-- ---- one value for each cell

abbrev Chosen : (ℕ → ℕ → ValueId → Type 0) → List ℕ → ℕ → List ValueId → Type 0
Chosen Q ns c a = (j n : ℕ) → slice_get ns j ≡ Some n → (v : ValueId) × (slice_get a j ≡ Some v) × Q (c + j) n v

chosen : (Q : ℕ → ℕ → ValueId → Type 0) (ns : List ℕ) (c : ℕ) → ((j n : ℕ) → slice_get ns j ≡ Some n → (v : ValueId) × (v.0 < n) × Q (c + j) n v) → (a : List ValueId) × AreWithin ns a × Chosen Q ns c a
chosen Q [] c h = ([], tt, λ j n is. absurd (cc))
chosen Q (n ∷ ns) c h =
    let first = h 0 n refl in
    let rest = chosen Q ns (c + 1) (λ j m is. let found = h (suc j) m is in let there : c + suc j ≡ c + 1 + j = omega arith in (found.0, found.1, subst (λ i. Q i m found.0) there found.2)) in
    (first.0 ∷ rest.0, (first.1, rest.1), both n ns c first.0 first.2 rest.0 rest.2)
  where
    both : (n : ℕ) (ns : List ℕ) (c : ℕ) (v : ValueId) → Q (c + 0) n v → (a : List ValueId) → Chosen Q ns (c + 1) a → Chosen Q (n ∷ ns) c (v ∷ a)
    both n ns c v q a rest zero m is = let same : n ≡ m = cc in (v, refl, subst (λ k. Q (c + 0) k v) same q)
    both n ns c v q a rest (suc j) m is = let found = rest j m is in let there : c + 1 + j ≡ c + suc j = omega arith in (found.0, found.1, subst (λ i. Q i m found.0) there found.2)

same_value : (v : ValueId) (w : ℕ) → Some v ≡ Some (record { 0 = w }) → v.0 ≡ w
same_value v w e = let f : Option ValueId → ℕ = elim [ None ↦ 0 | Some x ↦ x.0 ] in ap f e

abbrev yes_of : {P : Type 0} → IsDecided P → Bool
yes_of (inl p) = true
yes_of (inr n) = false

yes_is : {P : Type 0} (d : IsDecided P) → (yes_of d ≡ true) ↔ P
yes_is (inl p) = (λ e. p, λ q. refl)
yes_is (inr n) = (λ e. absurd (false≢true e), λ q. absurd (n q))

-- the one at the part's cells, and elsewhere the assignment's
mixed : List ℕ → (Symbol → Bool) → List ValueId → Symbol → Bool
mixed cells value a (pair c w) = cond (is_among cells c.0) (value (pair c w)) (yes_of (same_option (slice_get a c.0) (Some w)))
mixed cells value a (node r path) = value (node r path)

mixed_node : (cells : List ℕ) (value : Symbol → Bool) (a : List ValueId) (r : ℕ) (path : List ℕ) → mixed cells value a (node r path) ≡ value (node r path)
unfolding mixed
mixed_node cells value a r path = refl

mixed_in : (cells : List ℕ) (value : Symbol → Bool) (a : List ValueId) (e : Entry) → is_among cells e.cell.0 ≡ true → mixed cells value a (pair_of e) ≡ value (pair_of e)
unfolding mixed
mixed_in cells value a e is = ap (λ b. cond b (value (pair_of e)) (yes_of (same_option (slice_get a e.cell.0) (Some e.value)))) is

mixed_out : (cells : List ℕ) (value : Symbol → Bool) (a : List ValueId) (e : Entry) → is_among cells e.cell.0 ≡ false → mixed cells value a (pair_of e) ≡ yes_of (same_option (slice_get a e.cell.0) (Some e.value))
unfolding mixed
mixed_out cells value a e is = ap (λ b. cond b (value (pair_of e)) (yes_of (same_option (slice_get a e.cell.0) (Some e.value)))) is

module _ (sheet : Sheet) (formed : IsWellFormed sheet) (all : List Part) (division : IsDivision sheet all) (part : Part) (there : Contains all part)
    (value : Symbol → Bool) (met : (g : GroundAxiom) → Contains (axioms sheet) g → IsAxiomOfPart part g.name → Makes value g.clause) where
  abbrev u : Universe
  u = sheet.universe

  abbrev sizes : List ℕ
  sizes = cell_sizes u

  -- ---- the pieces' nodes are true

  root_true : (p : Piece) → Contains part.pieces p → value (node p.path.rule []) ≡ true
  root_true p c =
      let r = p.path.rule in
      let rule = piece_rule sheet p (division.pieces part there p c) in
      let g = root_axiom r in
      last value (positive (node r [])) (met g (rule_there sheet r rule.0 rule.1 g (contains_first g (node_axioms u r [] [] rule.0.states))) (p, c, refl))

  down : (p : Piece) → Contains part.pieces p → (rest path : List ℕ) → p.path.steps ≡ path ++ rest → value (node p.path.rule path) ≡ true → value (node p.path.rule p.path.steps) ≡ true
  down p c [] path is t = subst (λ xs. value (node p.path.rule xs) ≡ true) (sym (is ∙ append-nil path)) t
  down p c (k ∷ ks) path is t =
      let r = p.path.rule in
      let number : 1 + k ≡ k + 1 = omega arith in
      let makes = met (way_axiom r path k) (way_there sheet r path k (above_piece sheet p (division.pieces part there p c) path k ks is)) (inr (k, number, (p, c, (refl, ks, is)))) in
      let next = last value (positive (child_of r path k)) (unit value (negative (node r path)) (positive (child_of r path k) ∷ []) makes t) in
      down p c ks (path ++ k ∷ []) (is ∙ sym (append_assoc path (k ∷ []) ks)) next

  piece_value : (p : Piece) → Contains part.pieces p → value (node p.path.rule p.path.steps) ≡ true
  piece_value p c = down p c p.path.steps [] refl (root_true p c)

  -- ---- the cells' values

  of_cell : (c : ℕ) → Contains part.cells c → (x : Axiom) → IsOfCell c x → IsAxiomOfPart part x
  of_cell c h (axiom_some d) is = subst (Contains part.cells) (sym is) h
  of_cell c h (axiom_one d v w) is = subst (Contains part.cells) (sym is) h
  of_cell c h (axiom_rule r) is = absurd is
  of_cell c h (axiom_node r path i) is = absurd is
  of_cell c h (axiom_atom r path reads) is = absurd is

  cell_met : (c n : ℕ) → Contains part.cells c → slice_get sizes c ≡ Some n → Meets value (cell_axioms c n)
  cell_met c n h is g g_there = met g (cell_there sheet c n is g g_there) (of_cell c h g.name (All-contains (λ q. IsOfCell c q.name) (cell_axioms c n) g (cell_named c n) g_there))

  abbrev IsOwnValue : ℕ → ℕ → ValueId → Type 0
  IsOwnValue c n v = Contains part.cells c → (value (pair_at c v.0) ≡ true) × ((k : ℕ) → k < n → value (pair_at c k) ≡ true → v.0 ≡ k)

  a_value : (c n : ℕ) → slice_get sizes c ≡ Some n → (v : ValueId) × (v.0 < n) × IsOwnValue c n v
  a_value c n is = elim (cases_Bool (is_among part.cells c)) [
    | inl among ↦
        let one = one_value value c n (cell_met c n (among_contains part.cells c among) is) in
        (record { 0 = one.0 }, one.1, λ h. (one.2, one.3))
    | inr lacks ↦
        let base = some_assignment u formed.universe in
        let v = value_within sizes base.0 base.1 c n is in
        (v.0, v.2, λ h. absurd (false≢true (sym lacks ∙ contains_among part.cells c h)))
  ]

  values : (a : List ValueId) × AreWithin sizes a × Chosen IsOwnValue sizes 0 a
  values = chosen IsOwnValue sizes 0 (λ j n is. let found = a_value j n is in (found.0, found.1, subst (λ i. IsOwnValue i n found.0) (sym (zero-add j)) found.2))

  pub own : List ValueId
  own = values.0

  pub own_assigned : IsAssignment u own
  unfolding own
  own_assigned = values.1

  pub own_values : (c : ℕ) → Contains part.cells c → (n w : ℕ) → slice_get sizes c ≡ Some n → w < n → (value (pair_at c w) ≡ true) ↔ (slice_get own c ≡ Some (record { 0 = w }))
  unfolding own
  own_values c h n w is below =
      let found = values.2 c n is in
      let q = (subst (λ i. IsOwnValue i n found.0) (zero-add c) found.2) h in (
        λ t. found.1 ∙ ap (λ k. let x : ValueId = record { 0 = k } in Some x) (q.1 w below t),
        λ e. ap (λ k. value (pair_at c k)) (sym (same_value found.0 w (sym found.1 ∙ e))) ∙ q.0,
      )

  agrees : (e : Entry) → IsEntryOf u e → (mixed part.cells value own (pair_of e) ≡ true) ↔ HasEntry own e
  agrees e is = elim (cases_Bool (is_among part.cells e.cell.0)) [
    | inl among ↦
        let n = some_and (slice_get sizes e.cell.0) (λ n. e.value.0 < n) is in
        let same = mixed_in part.cells value own e among in
        let both = own_values e.cell.0 (among_contains part.cells e.cell.0 among) n.0 e.value.0 n.1 n.2 in
        (λ t. both.0 (sym same ∙ t), λ h. same ∙ both.1 h)
    | inr lacks ↦
        let same = mixed_out part.cells value own e lacks in
        let yes = yes_is (same_option (slice_get own e.cell.0) (Some e.value)) in
        (λ t. yes.0 (sym same ∙ t), λ h. same ∙ yes.1 h)
  ]

  -- ---- the pieces are true

  abbrev IsUnmixed : Symbol → Type 0
  IsUnmixed x = mixed part.cells value own x ≡ value x

  unmixed : (r : ℕ) (steps cells : List ℕ) → ((c : ℕ) → Contains cells c → Contains part.cells c) → (x : Axiom) → IsInside r steps cells x → (clause : List Literal) → IsClauseOf sheet x clause → (l : Literal) → Contains clause l → IsUnmixed l.what
  unmixed r steps cells f (axiom_some c) i clause is l has = absurd i
  unmixed r steps cells f (axiom_one c v w) i clause is l has = absurd i
  unmixed r steps cells f (axiom_rule q) i clause is l has = absurd i
  unmixed r steps cells f (axiom_node q path k) i clause is l has =
      rule_symbols IsUnmixed sheet q path (λ steps. mixed_node part.cells value own q steps) k clause is l has
  unmixed r steps cells f (axiom_atom q path reads) i clause is l has =
      let end : Literal = record { what = node q path; sign = is.truth } in
      elim (Contains-append_cases (map negated_entry reads) (end ∷ []) l (subst (λ c. Contains c l) is.is has)) [
        | inl read ↦
            let e = contains_mapped negated_entry reads l read in
            let among = contains_among part.cells e.0.cell.0 (f e.0.cell.0 (All-contains (λ x. Contains cells (number_of_cell x)) reads e.0 i.1 e.1)) in
            subst (λ m. IsUnmixed m.what) e.2 (mixed_in part.cells value own e.0 among)
        | inr here ↦ elim (contains_cases end [] l here) [
          | inl same ↦ subst (λ m. IsUnmixed m.what) same (mixed_node part.cells value own q path)
          | inr none ↦ absurd (contains_none l none)
        ]
      ]

  of_inside : (p : Piece) → Contains part.pieces p → (cells : List ℕ) (x : Axiom) → IsInside p.path.rule p.path.steps cells x → IsAxiomOfPart part x
  of_inside p c cells (axiom_some d) i = absurd i
  of_inside p c cells (axiom_one d v w) i = absurd i
  of_inside p c cells (axiom_rule q) i = absurd i
  of_inside p c cells (axiom_node q path k) i = inl (p, c, (i.0, i.1, i.2))
  of_inside p c cells (axiom_atom q path reads) i = (p, c, (i.0.0, i.0.1, i.0.2))

  piece_met : (p : Piece) → Contains part.pieces p → Meets (mixed part.cells value own) (node_axioms u p.path.rule p.path.steps p.node.0 p.node.1)
  piece_met p c g g_in =
      let listed = division.pieces part there p c in
      let r = p.path.rule in
      let steps = p.path.steps in
      let cells = cells_under u p.node.0 p.node.1 in
      let g_there = node_there sheet r steps p.node (piece_at sheet p listed) g g_in in
      let i = All-contains (λ q. IsInside r steps cells q.name) (node_axioms u r steps p.node.0 p.node.1) g (inside u r steps p.node.0 p.node.1) g_in in
      let made = met g g_there (of_inside p c cells g.name i) in
      let is = All-contains (λ q. IsClauseOf sheet q.name q.clause) (axioms sheet) g (all_right sheet) g_there in
      (made.0, made.1, unmixed r steps cells (λ d h. division.reads part there p c d ((leaves_read_the_cells sheet formed p listed d).0 h)) g.name i g.clause is made.0 made.1 ∙ made.2)

  piece_true : (p : Piece) → Contains part.pieces p → PieceHolds u own p
  piece_true p c =
      let listed = division.pieces part there p c in
      let r = p.path.rule in
      let steps = p.path.steps in
      let scope = p.node.0 in
      let s = p.node.1 in
      let at = piece_at sheet p listed in
      let sorted = All-contains (IsSortedPiece u) (pieces sheet) p (rules_sorted u 0 sheet.rules formed.rules.each) listed in
      let Q : Symbol → Type 0 = λ x. (mixed part.cells value own x ≡ true) ↔ SymbolHolds sheet own x in
      let right = nodes_right sheet own (mixed part.cells value own) own_assigned agrees r steps scope sorted.0 s at sorted.2 sorted.1 (piece_met p c) in
      let here = All-contains Q (nodes_below u r steps s) (node r steps) right (root_there u r steps s) in
      (node_is sheet own r steps scope s at).0 (here.0 (mixed_node part.cells value own r steps ∙ piece_value p c))

  pub own_fits : Fits (sheet_of sheet part) own
  own_fits = part_fits sheet part own (all_from (PieceHolds u own) part.pieces piece_true)
