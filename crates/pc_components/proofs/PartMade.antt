-- An assignment that fits a part gives truth values that make the part's axioms true: what is above its pieces is taken as true, each other node as it is.
use Rattle.std.proofs.Common.{◌≡◌, ◌≢◌, ℕ, suc, ◌+◌, ◌<◌, ◌⊎◌, ◌↔◌, inl, inr, Bool, true, false, ◌||◌, List, [], ◌∷◌, ◌++◌, append-nil, append_assoc, map, Contains, Option, None, Some, slice_get, MatchBool, arith, ap, refl, sym, ◌∙◌, subst}
use Rattle.std.proofs.lemmas.Bool.{cases_eq, or_cases, or_left, or_right, false≢true}
use Rattle.std.proofs.lemmas.List.Elements.{All-contains, Contains-append_cases}
use Rattle.pc_sheet.specs.Sheet.{Universe, Sheet}
use Rattle.pc_sheet.specs.Entailment.{cell_sizes, IsAssignment, Fits}
use Rattle.pc_sheet.specs.Nodes.{Node, node_at, kind_of}
use Rattle.pc_sheet.specs.declared.ids.CellId.{CellId}
use Rattle.pc_sheet.specs.declared.ids.ValueId.{ValueId}
use Rattle.pc_laws.specs.Laws.{IsDecided}
use Rattle.pc_accept.specs.Literals.{Symbol, pair, node, Literal, positive, negative, SymbolHolds, ClauseHolds}
use Rattle.pc_accept.specs.Axioms.{Axiom, axiom_some, axiom_one, axiom_rule, axiom_node, axiom_atom, each_below, clauses_of_node, child_of, negated_entry, IsAtNumber, IsClauseOfKind, IsClauseOf}
use Rattle.pc_lemmas.proofs.Options.{some_and}
use Rattle.pc_accept.proofs.Children.{node_is}
use Rattle.pc_accept.proofs.Decided.{decide_symbol}
use Rattle.pc_parts.specs.Pieces.{Piece, pieces, PieceHolds}
use Rattle.pc_parts.specs.Parts.{Part, IsDivision}
use Rattle.pc_parts.specs.PartSheets.{sheet_of}
use Rattle.pc_lemmas.proofs.Elements.{contains_first, contains_later, contains_cases, contains_none, contains_mapped}
use Rattle.pc_parts.proofs.Divided.{part_holds}
use Rattle.pc_parts.proofs.Listed.{none_above}
use Rattle.pc_ground.specs.Ground.{GroundAxiom, axioms}
use Rattle.pc_ground.proofs.Lists.{there_each}
use Rattle.pc_ground.proofs.Made.{Makes}
use Rattle.pc_ground.proofs.OfAxioms.{all_right}
use Rattle.pc_components.specs.PartAxioms.{IsOnTheWay, OfSomePiece, IsAxiomOfPart}
use Rattle.pc_accept.proofs.AxiomsTrue.{other_axioms_true}
use Rattle.pc_components.proofs.Way.{piece_at, above_piece, joint_clause, joint_number, way_clause}
use Rattle.pc_components.proofs.Under.{under_symbols}

-- ---- whether a path leads to what is above a piece

abbrev IsLonger : List ℕ → List ℕ → Type 0
IsLonger path steps = (k : ℕ) × (rest : List ℕ) × (steps ≡ path ++ k ∷ rest)

decide_longer : (path steps : List ℕ) → IsDecided (IsLonger path steps)
decide_longer [] [] = inr (λ h. cc (h.2))
decide_longer [] (k ∷ ks) = inl (k, ks, refl)
decide_longer (j ∷ js) [] = inr (λ h. cc (h.2))
decide_longer (j ∷ js) (k ∷ ks) = elim (cases_eq j k) [
  | inl same ↦ elim (decide_longer js ks) [
    | inl h ↦ inl (h.0, h.1, ap (λ i. i ∷ ks) (sym same) ∙ ap (λ xs. j ∷ xs) h.2)
    | inr n ↦ inr (λ h. n (h.0, h.1, rest_is j k ks (js ++ h.0 ∷ h.1) h.2))
  ]
  | inr other ↦ inr (λ h. other (first_is j k ks (js ++ h.0 ∷ h.1) h.2))
]
  where
    rest_is : (j k : ℕ) (xs ys : List ℕ) → k ∷ xs ≡ j ∷ ys → xs ≡ ys
    rest_is j k xs ys e = cc

    first_is : (j k : ℕ) (xs ys : List ℕ) → k ∷ xs ≡ j ∷ ys → j ≡ k
    first_is j k xs ys e = cc

abbrev IsWay : ℕ → List ℕ → Piece → Type 0
IsWay r path p = (p.path.rule ≡ r) × IsLonger path p.path.steps

decide_way : (r : ℕ) (path : List ℕ) (ps : List Piece) → IsDecided ((p : Piece) × Contains ps p × IsWay r path p)
decide_way r path [] = inr (λ h. contains_none h.0 h.1)
decide_way r path (p ∷ ps) = by (cases_eq p.path.rule r) (decide_longer path p.path.steps) (decide_way r path ps)
  where
    by : (p.path.rule ≡ r) ⊎ (p.path.rule ≡ r → ⊥) → IsDecided (IsLonger path p.path.steps) → IsDecided ((q : Piece) × Contains ps q × IsWay r path q) → IsDecided ((q : Piece) × Contains (p ∷ ps) q × IsWay r path q)
    by (inl same) (inl longer) rest = inl (p, contains_first p ps, (same, longer))
    by a b (inl h) = inl (h.0, contains_later p ps h.0 h.1, h.2)
    by (inr other) b (inr n) = inr (λ h. elim (contains_cases p ps h.0 h.1) [ inl is ↦ other (subst (λ (q : Piece). q.path.rule ≡ r) (sym is) h.2.0) | inr later ↦ n (h.0, later, h.2) ])
    by (inl same) (inr short) (inr n) = inr (λ h. elim (contains_cases p ps h.0 h.1) [ inl is ↦ short (subst (λ (q : Piece). IsLonger path q.path.steps) (sym is) h.2.1) | inr later ↦ n (h.0, later, h.2) ])

abbrev yes_of : {P : Type 0} → IsDecided P → Bool
yes_of (inl p) = true
yes_of (inr n) = false

yes_is : {P : Type 0} (d : IsDecided P) → (yes_of d ≡ true) ↔ P
yes_is (inl p) = (λ e. p, λ q. refl)
yes_is (inr n) = (λ e. absurd (false≢true e), λ q. absurd (n q))

module _ (sheet : Sheet) (all : List Part) (division : IsDivision sheet all) (part : Part) (there : Contains all part) (a : List ValueId) (assigned : IsAssignment sheet.universe a) (fits : Fits (sheet_of sheet part) a) where
  abbrev u : Universe
  u = sheet.universe

  abbrev Way : ℕ → List ℕ → Type 0
  Way r path = (p : Piece) × Contains part.pieces p × IsWay r path p

  -- above a piece true, elsewhere as it is
  pub truth : Symbol → Bool
  truth (pair c v) = yes_of (decide_symbol sheet a (pair c v))
  truth (node r path) = yes_of (decide_way r path part.pieces) || yes_of (decide_symbol sheet a (node r path))

  pub pair_truth : (c : CellId) (v : ValueId) → (truth (pair c v) ≡ true) ↔ SymbolHolds sheet a (pair c v)
  unfolding truth
  pair_truth c v = yes_is (decide_symbol sheet a (pair c v))

  way_true : (r : ℕ) (path : List ℕ) → Way r path → truth (node r path) ≡ true
  unfolding truth
  way_true r path h = or_left (yes_of (decide_way r path part.pieces)) (yes_of (decide_symbol sheet a (node r path))) ((yes_is (decide_way r path part.pieces)).1 h)

  holds_true : (r : ℕ) (path : List ℕ) → SymbolHolds sheet a (node r path) → truth (node r path) ≡ true
  unfolding truth
  holds_true r path h = or_right (yes_of (decide_way r path part.pieces)) (yes_of (decide_symbol sheet a (node r path))) ((yes_is (decide_symbol sheet a (node r path))).1 h)

  abbrev IsRight : Symbol → Type 0
  IsRight x = (truth x ≡ true) ↔ SymbolHolds sheet a x

  not_way_right : (r : ℕ) (path : List ℕ) → ¬ Way r path → IsRight (node r path)
  unfolding truth
  not_way_right r path n = (
    λ t. elim (or_cases (yes_of (decide_way r path part.pieces)) (yes_of (decide_symbol sheet a (node r path))) t) [
      | inl way ↦ absurd (n ((yes_is (decide_way r path part.pieces)).0 way))
      | inr is ↦ (yes_is (decide_symbol sheet a (node r path))).0 is
    ],
    holds_true r path,
  )

  -- ---- at and under a piece nodes are as they are

  under_right : (p : Piece) → Contains part.pieces p → (r : ℕ) → p.path.rule ≡ r → (path rest : List ℕ) → path ≡ p.path.steps ++ rest → IsRight (node r path)
  under_right p c r same path rest is = not_way_right r path (λ h.
      let q = h.0 in
      let way = h.2 in
      above p q (division.pieces part there p c) (division.pieces part there q h.1) (same ∙ sym way.0) rest way.1.0 way.1.1
      (way.1.2 ∙ ap (λ xs. xs ++ way.1.0 ∷ way.1.1) is ∙ append_assoc p.path.steps rest (way.1.0 ∷ way.1.1)))
    where
      above : (p q : Piece) → Contains (pieces sheet) p → Contains (pieces sheet) q → p.path.rule ≡ q.path.rule → (rest : List ℕ) (k : ℕ) (more : List ℕ) → q.path.steps ≡ p.path.steps ++ (rest ++ k ∷ more) → ⊥
      above p q h l e [] k more is = none_above sheet p q h l e k more is
      above p q h l e (j ∷ js) k more is = none_above sheet p q h l e j (js ++ k ∷ more) is

  piece_holds : (p : Piece) → Contains part.pieces p → SymbolHolds sheet a (node p.path.rule p.path.steps)
  piece_holds p c =
      (node_is sheet a p.path.rule p.path.steps p.node.0 p.node.1 (piece_at sheet p (division.pieces part there p c))).1 (All-contains (PieceHolds u a) part.pieces p (part_holds sheet part a fits) c)

  -- from the root to a piece nodes are taken as true
  path_true : (p : Piece) → Contains part.pieces p → (path rest : List ℕ) → p.path.steps ≡ path ++ rest → truth (node p.path.rule path) ≡ true
  path_true p c path [] is = holds_true p.path.rule path (subst (λ xs. SymbolHolds sheet a (node p.path.rule xs)) (is ∙ append-nil path) (piece_holds p c))
  path_true p c path (k ∷ ks) is = way_true p.path.rule path (p, c, (refl, (k, ks, is)))

  -- ---- clauses

  signed : (s b : Bool) {P : Type 0} → (b ≡ true) ↔ P → MatchBool s P (¬ P) → b ≡ s
  signed true b right h = right.1 h
  signed false true right h = absurd (h (right.0 refl))
  signed false false right h = refl

  from_holds : (clause : List Literal) → ((l : Literal) → Contains clause l → IsRight l.what) → ClauseHolds sheet a clause → Makes truth clause
  from_holds clause right (l, has, holds) = (l, has, signed l.sign (truth l.what) (right l has) holds)

  one_true : (l : Literal) (ls : List Literal) → truth l.what ≡ l.sign → Makes truth (l ∷ ls)
  one_true l ls h = (l, contains_first l ls, h)

  later_true : (l : Literal) (ls : List Literal) → Makes truth ls → Makes truth (l ∷ ls)
  later_true l ls h = (h.0, contains_later l ls h.0 h.1, h.2)

  -- the clause of the child on the way
  way_made : (r : ℕ) (path : List ℕ) (i k : ℕ) (clause : List Literal) → i ≡ k + 1 → OfSomePiece part (IsOnTheWay r path k) → IsClauseOf sheet (axiom_node r path i) clause → Makes truth clause
  way_made r path i k clause number (p, c, (same, rest, is)) h =
      let n = some_and (node_at sheet r path) (λ n. IsClauseOfKind sheet r path (kind_of u n.1) i clause) h in
      let above = above_piece sheet p (division.pieces part there p c) path k rest is in
      let node_same : n.0 ≡ above.joint = some_node (sym n.1 ∙ ap (λ q. node_at sheet q path) (sym same) ∙ above.at) in
      let joint = joint_number sheet r path above.joint.1 above.is i clause (subst (λ (m : Node). IsClauseOfKind sheet r path (kind_of u m.1) i clause) node_same n.2) in
      let at_k : slice_get (clauses_of_node (node r path) (child_of r path) u above.joint.1) k ≡ Some clause = subst (λ j. IsAtNumber (clauses_of_node (node r path) (child_of r path) u above.joint.1) j clause) number' joint in
      let way = joint_clause u (node r path) (child_of r path) above.joint.0 above.joint.1 above.is k above.next above.child_at in
      let clause_is : way_clause u (node r path) (child_of r path) k ≡ clause = some_clause (sym way ∙ at_k) in
      let child_true : truth (child_of r path k) ≡ true = subst (λ q. truth (node q (path ++ k ∷ [])) ≡ true) same (path_true p c (path ++ k ∷ []) rest (is ∙ sym (append_assoc path (k ∷ []) rest))) in
      subst (Makes truth) clause_is (later_true (negative (node r path)) (positive (child_of r path k) ∷ []) (one_true (positive (child_of r path k)) [] child_true))
    where
      number' : i ≡ suc k
      number' = omega arith

      some_node : {x y : Node} → Some x ≡ Some y → x ≡ y
      some_node {x} {y} e = let f : Option Node → Node = elim [ None ↦ x | Some z ↦ z ] in ap f e

      some_clause : {x y : List Literal} → Some x ≡ Some y → x ≡ y
      some_clause {x} {y} e = let f : Option (List Literal) → List Literal = elim [ None ↦ x | Some z ↦ z ] in ap f e

  of_axiom : (x : Axiom) (clause : List Literal) → IsClauseOf sheet x clause → IsAxiomOfPart part x → Makes truth clause
  of_axiom (axiom_some c) clause h o =
      let f : ℕ → Literal = λ v. positive (pair c (record { 0 = v })) in
      let n = some_and (slice_get (cell_sizes u) c.0) (λ n. clause ≡ each_below n f) h in
      from_holds clause (λ l has. let k = there_each n.0 f l (subst (λ d. Contains d l) n.2 has) in subst (λ m. IsRight m.what) k.2 (pair_truth c (record { 0 = k.0 })))
      (other_axioms_true sheet a assigned (axiom_some c) clause tt h)
  of_axiom (axiom_one c v w) clause h o =
      let n = some_and (slice_get (cell_sizes u) c.0) (λ n. (v.0 < n) × (w.0 < n) × (v ≢ w) × (clause ≡ negative (pair c v) ∷ negative (pair c w) ∷ [])) h in
      from_holds clause (λ l has. elim (contains_cases (negative (pair c v)) (negative (pair c w) ∷ []) l (subst (λ d. Contains d l) n.2.3 has)) [
        | inl same ↦ subst (λ m. IsRight m.what) same (pair_truth c v)
        | inr later ↦ elim (contains_cases (negative (pair c w)) [] l later) [ inl same ↦ subst (λ m. IsRight m.what) same (pair_truth c w) | inr none ↦ absurd (contains_none l none) ]
      ]) (other_axioms_true sheet a assigned (axiom_one c v w) clause tt h)
  of_axiom (axiom_rule r) clause h (p, c, same) =
      let named = some_and (slice_get sheet.rules r) (λ named. clause ≡ positive (node r []) ∷ []) h in
      subst (Makes truth) (sym named.2) (one_true (positive (node r [])) [] (subst (λ q. truth (node q []) ≡ true) same (path_true p c [] p.path.steps refl)))
  of_axiom (axiom_node r path i) clause h (inl (p, c, (same, rest, is))) =
      from_holds clause (λ l has.
      let under = under_symbols sheet p (division.pieces part there p c) r same path rest is i clause h l has in
      subst IsRight (sym under.1) (under_right p c r same (p.path.steps ++ under.0) under.0 refl))
      (other_axioms_true sheet a assigned (axiom_node r path i) clause tt h)
  of_axiom (axiom_node r path i) clause h (inr (k, number, some)) = way_made r path i k clause number some h
  of_axiom (axiom_atom r path reads) clause h (p, c, (same, rest, is)) =
      let end : Literal = record { what = node r path; sign = h.truth } in
      from_holds clause (λ l has. elim (Contains-append_cases (map negated_entry reads) (end ∷ []) l (subst (λ d. Contains d l) h.is has)) [
        | inl read ↦ let e = contains_mapped negated_entry reads l read in subst (λ m. IsRight m.what) e.2 (pair_truth e.0.cell e.0.value)
        | inr last ↦ elim (contains_cases end [] l last) [ inl is_end ↦ subst (λ m. IsRight m.what) is_end (under_right p c r same path rest is) | inr none ↦ absurd (contains_none l none) ]
      ]) (other_axioms_true sheet a assigned (axiom_atom r path reads) clause tt h)

  pub made : (g : GroundAxiom) → Contains (axioms sheet) g → IsAxiomOfPart part g.name → Makes truth g.clause
  made g g_there o = of_axiom g.name g.clause (All-contains (λ q. IsClauseOf sheet q.name q.clause) (axioms sheet) g (all_right sheet) g_there) o
