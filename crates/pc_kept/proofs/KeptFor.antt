-- Kept axioms of a part stand for its sheet on its cells: what makes them true gives the cells values under which each piece is true. For a rule's
-- node is true, and so is each child on the way to a piece, where it isn't true under the cells' values anyway.
use Rattle.std.proofs.Common.{◌≡◌, ◌≢◌, ℕ, suc, ◌+◌, ◌⊎◌, inl, inr, Bool, true, List, [], ◌∷◌, ◌++◌, append-nil, append_assoc, length, Contains, Option, None, Some, slice_get, arith, ap, refl, sym, ◌∙◌, subst}
use Rattle.std.proofs.lemmas.Bool.{false≢true}
use Rattle.std.proofs.lemmas.List.{length-append}
use Rattle.std.proofs.lemmas.List.Elements.{All-contains}
use Rattle.pc_lits.specs.declared.literal.Lit.{Lit}
use Rattle.pc_lits.specs.declared.literal.Var.{Var}
use Rattle.pc_sheet.specs.Sheet.{Sheet}
use Rattle.pc_sheet.specs.Entailment.{cell_sizes, IsAssignment, Fits}
use Rattle.pc_sheet.specs.Nodes.{Node, node_at, kind_of}
use Rattle.pc_sheet.specs.WellFormed.{IsWellFormed}
use Rattle.pc_sheet.specs.declared.ids.ValueId.{ValueId}
use Rattle.pc_accept.specs.Literals.{Symbol, pair, node, Literal, positive, negative, opposite}
use Rattle.pc_accept.specs.Axioms.{Axiom, axiom_some, axiom_one, axiom_rule, axiom_node, axiom_atom, clauses_of_node, child_of, IsAtNumber, IsClauseOfKind, IsClauseOf}
use Rattle.pc_accept.proofs.Children.{node_is}
use Rattle.pc_lemmas.proofs.Elements.{contains_first, contains_later, contains_cases, contains_none, all_from}
use Rattle.pc_lemmas.proofs.Options.{some_and, same_some}
use Rattle.pc_parts.specs.Pieces.{Piece, PieceHolds}
use Rattle.pc_parts.specs.Parts.{Part, IsDivision}
use Rattle.pc_parts.specs.PartSheets.{sheet_of}
use Rattle.pc_parts.proofs.Divided.{part_fits}
use Rattle.pc_ground.specs.Variables.{variables, number}
use Rattle.pc_ground.specs.Ground.{GroundAxiom, node_axioms, root_axiom, axioms, lit_of, clauses}
use Rattle.pc_ground.proofs.Made.{Makes, unit, last}
use Rattle.pc_ground.proofs.OfAxioms.{all_right}
use Rattle.pc_ground.proofs.Symbols.{symbols_are_variables}
use Rattle.pc_components.specs.PartAxioms.{IsAtOrUnder, OfSomePiece, IsAxiomOfPart, AreAxiomsOf, IsUsed}
use Rattle.pc_components.specs.Used.{MeetsUsed, HasValues}
use Rattle.pc_components.proofs.Inside.{rule_there}
use Rattle.pc_components.proofs.OwnAlone.{one_path}
use Rattle.pc_components.proofs.PartFor.{slice_contains, part_axioms_are_for_their_parts}
use Rattle.pc_components.proofs.Way.{piece_at, piece_rule, IsAbove, above_piece, joint_clause, joint_number, way_clause, way_axiom, way_there}
use Rattle.pc_solver.specs.Forced.{IsForced}
use Rattle.pc_kept.specs.Kept.{IsAmong, IsTrueFromStart, IsConstant}
use Rattle.pc_kept.specs.ByPolarity.{meant_by, IsNamedBy, IsBannedOut, AreKeptByPolarity, KeptByPolarityAreForTheirParts}
use Rattle.pc_kept.proofs.BySymbol.{has_sign, value}
use Rattle.pc_kept.proofs.CellValues.{kept_made, number_there, has_value}
use Rattle.pc_kept.proofs.CountersSettled.{meant}
use Rattle.pc_kept.proofs.Decided.{decided_is, decided, decided_at, meaning_true}
use Rattle.pc_kept.proofs.ForcedTrue.{stands, always_true, forced_by}
use Rattle.pc_kept.proofs.Settled.{no_longer}
use Rattle.pc_kept.proofs.ByNumber.{clause_at, literal_at, at_literal, same_symbol, same_literal, IsOwn, is_own, own_there}
use Rattle.pc_kept.proofs.RightNodes.{stays, kept_axiom, Named, KeptClause, kept_clause, mentioned_used, named_by, own, own_assigned, truth, Asked, asked_right}

none_some : {X : Type 0} {x : X} → None ≡ Some x → ⊥
none_some e = absurd (cc)

-- of the two literals of a clause of a child on the way
one_of_two : (l m n : Literal) → Contains (l ∷ m ∷ []) n → (n ≡ l) ⊎ (n ≡ m)
one_of_two l m n has = elim (contains_cases l (m ∷ []) n has) [
  | inl same ↦ inl (sym same)
  | inr later ↦ elim (contains_cases m [] n later) [ inl same ↦ inr (sym same) | inr none ↦ absurd (contains_none n none) ]
]

module _ (sheet : Sheet) (formed : IsWellFormed sheet) (all : List Part) (division : IsDivision sheet all) (part : Part) (there : Contains all part) (used kept : List ℕ) (banned : List (Option Bool))
    (of : AreAxiomsOf sheet part used) (are : AreKeptByPolarity sheet banned used kept) (v : Var → Bool) (met : MeetsUsed (clauses sheet) kept v) where
  abbrev cells : List ValueId
  cells = own sheet formed all division part there used kept banned of are v met

  abbrev given : IsAssignment sheet.universe cells
  given = own_assigned sheet formed all division part there used kept banned of are v met

  -- under the cells' values
  abbrev so_by_cells : Symbol → Bool
  so_by_cells = truth sheet formed all division part there used kept banned of are v met

  abbrev Right : Symbol → Type 0
  Right x = so_by_cells x ≡ true

  abbrev IsAsked : Symbol → Type 0
  IsAsked x = Asked sheet formed all division part there used kept banned of are v met x

  abbrev IsNamed : Lit → Type 0
  IsNamed l = Named sheet formed all division part there used kept banned of are v met l

  abbrev IsKeptClause : List Lit → Type 0
  IsKeptClause c = KeptClause sheet formed all division part there used kept banned of are v met c

  -- it is right, or the values make it true, and it is asked for
  abbrev IsGood : Symbol → Type 0
  IsGood x = Contains (variables sheet) x × (Right x ⊎ ((value sheet v x ≡ true) × IsAsked x))

  asked_used : (x : Symbol) → IsAsked x → IsUsed (clauses sheet) kept (number sheet x)
  asked_used x (inl (k, h, has, other)) = mentioned_used sheet formed all division part there used kept banned of are v met (number sheet x) (k, h, lit_of sheet (positive x), has, refl)
  asked_used x (inr forced) =
      let at = stands IsKeptClause forced.0 forced.1 (lit_of sheet (positive x)) forced.2 in
      mentioned_used sheet formed all division part there used kept banned of are v met (number sheet x) (at.1.0, at.1.1, lit_of sheet (positive x), subst (λ c. Contains c (lit_of sheet (positive x))) (sym at.1.2) at.2, refl)

  forced_true : (l : Literal) → IsForced (IsAmong (clauses sheet) kept) (lit_of sheet l) → value sheet v l.what ≡ l.sign
  forced_true l forced = has_sign l.sign (value sheet v l.what) (always_true (IsAmong (clauses sheet) kept) v (λ c h. met h.0 h.1 c h.2) (lit_of sheet l) forced)

  asked_forced : (x : Symbol) → IsForced (IsAmong (clauses sheet) kept) (lit_of sheet (positive x)) → IsAsked x
  asked_forced x forced = inr (forced_by (IsAmong (clauses sheet) kept) IsKeptClause (kept_clause sheet formed all division part there used kept banned of are v met) (lit_of sheet (positive x)) forced)

  kept_true : (k : ℕ) (g : GroundAxiom) → Contains kept k → slice_get (axioms sheet) k ≡ Some g → Makes (value sheet v) g.clause
  kept_true = kept_made sheet formed all division part there used kept of (stays sheet formed all division part there used kept banned of are v met) v met

  -- ---- a rule's root

  root_good : (p : Piece) → Contains part.pieces p → IsGood (node p.path.rule [])
  root_good p c =
      let r = p.path.rule in
      let rule = piece_rule sheet p (division.pieces part there p c) in
      let g = root_axiom r in
      let g_in = rule_there sheet r rule.0 rule.1 g (contains_first g (node_axioms sheet.universe r [] [] rule.0.states)) in
      let k = number_there sheet part used of g g_in (p, c, refl) in
      let h = stays sheet formed all division part there used kept banned of are v met k.0 g k.1 k.2 (λ no. no) in
      let l = positive (node r []) in (
        symbols_are_variables sheet g g_in l (contains_first l []),
        inr (
          last (value sheet v) l (kept_true k.0 g h k.2),
          inl (k.0, h, at_literal sheet k.0 g k.2 l (contains_first l []), λ o. none_some (ap (λ (q : GroundAxiom). meant_by q.name) (same_some (sym k.2 ∙ o.1)) ∙ o.3)),
        ),
      )

  -- ---- the child on the way

  module _ (p : Piece) (c : Contains part.pieces p) (path : List ℕ) (k : ℕ) (rest : List ℕ) (is : p.path.steps ≡ path ++ k ∷ rest) where
    abbrev r : ℕ
    r = p.path.rule

    abbrev here : Symbol
    here = node r path

    abbrev child : Symbol
    child = child_of r path k

    abbrev g : GroundAxiom
    g = way_axiom r path k

    above : IsAbove sheet r path k
    above = above_piece sheet p (division.pieces part there p c) path k rest is

    g_in : Contains (axioms sheet) g
    g_in = way_there sheet r path k above

    numbered : 1 + k ≡ k + 1
    numbered = omega arith

    at : (j : ℕ) × Contains used j × (slice_get (axioms sheet) j ≡ Some g)
    at = number_there sheet part used of g g_in (inr (k, numbered, (p, c, (refl, rest, is))))

    here_there : Contains (variables sheet) here
    here_there = symbols_are_variables sheet g g_in (negative here) (contains_first (negative here) (positive child ∷ []))

    child_in : Contains g.clause (positive child)
    child_in = contains_later (negative here) (positive child ∷ []) (positive child) (contains_first (positive child) [])

    child_there : Contains (variables sheet) child
    child_there = symbols_are_variables sheet g g_in (positive child) child_in

    apart : child ≢ here
    apart same = no_longer r path [] k same

    -- it is above a piece, and so at or under none
    not_under : (q : Piece) → Contains part.pieces q → IsAtOrUnder r path q → ⊥
    not_under q q_in (same, more, steps) =
        let whole : q.path.steps ++ (more ++ k ∷ rest) ≡ p.path.steps ++ [] = sym (append_assoc q.path.steps more (k ∷ rest)) ∙ ap (λ xs. xs ++ k ∷ rest) (sym steps) ∙ sym is ∙ sym (append-nil p.path.steps) in
        let one = one_path sheet q p (division.pieces part there q q_in) (division.pieces part there p c) same (more ++ k ∷ rest) [] whole in
        let long : length p.path.steps ≡ length path + length (k ∷ rest) = ap length is ∙ length-append path (k ∷ rest) in
        let short : length path ≡ length q.path.steps + length more = ap length steps ∙ length-append q.path.steps more in
        let equal : length q.path.steps ≡ length p.path.steps = ap length one in
        let some : length (k ∷ rest) ≡ suc (length rest) = refl in
        omega (arith, long, short, equal, some)

    abbrev OfNode : ℕ → List Literal → Symbol → Type 0
    OfNode i clause (pair d w) = ⊥
    OfNode i clause (node q steps) = IsClauseOf sheet (axiom_node q steps i) clause × IsAxiomOfPart part (axiom_node q steps i)

    abbrev OfAtom : Symbol → Type 0
    OfAtom (pair d w) = ⊥
    OfAtom (node q steps) = OfSomePiece part (IsAtOrUnder q steps)

    no_node_own : (i : ℕ) (clause : List Literal) → OfNode i clause here → ¬ Contains clause (positive here)
    no_node_own i clause (is_clause, inl (q, q_in, under)) has = not_under q q_in under
    no_node_own i clause (is_clause, inr (j, number', (q, q_in, (same, more, steps)))) has =
        let u = sheet.universe in
        let n = some_and (node_at sheet r path) (λ n. IsClauseOfKind sheet r path (kind_of u n.1) i clause) is_clause in
        let a = above_piece sheet q (division.pieces part there q q_in) path j more steps in
        let node_same : n.0 ≡ a.joint = same_some (sym n.1 ∙ ap (λ x. node_at sheet x path) (sym same) ∙ a.at) in
        let joint = joint_number sheet r path a.joint.1 a.is i clause (subst (λ (m : Node). IsClauseOfKind sheet r path (kind_of u m.1) i clause) node_same n.2) in
        let place : i ≡ suc j = omega (arith, number') in
        let at_j : slice_get (clauses_of_node here (child_of r path) u a.joint.1) j ≡ Some clause = subst (λ x. IsAtNumber (clauses_of_node here (child_of r path) u a.joint.1) x clause) place joint in
        let way = joint_clause u here (child_of r path) a.joint.0 a.joint.1 a.is j a.next a.child_at in
        let clause_is' : clause ≡ way_clause u here (child_of r path) j = same_some (sym at_j ∙ way) in
        elim (one_of_two (negative here) (positive (child_of r path j)) (positive here) (subst (λ d. Contains d (positive here)) clause_is' has)) [
          | inl equal ↦ false≢true (sym (ap (λ (m : Literal). m.sign) equal))
          | inr equal ↦ no_longer r path [] j (sym (ap (λ (m : Literal). m.what) equal))
        ]

    -- no axiom of the part that says what it means has it as a true literal
    no_own : (x : Axiom) (clause : List Literal) → IsClauseOf sheet x clause → meant_by x ≡ Some here → IsAxiomOfPart part x → ¬ Contains clause (positive here)
    no_own (axiom_some d) clause is_clause h o has = none_some h
    no_own (axiom_one d w y) clause is_clause h o has = none_some h
    no_own (axiom_rule q) clause is_clause h o has = none_some h
    no_own (axiom_node q steps i) clause is_clause h o has = no_node_own i clause (subst (OfNode i clause) (same_some h) (is_clause, o)) has
    no_own (axiom_atom q steps reads) clause is_clause h o has = let under = subst OfAtom (same_some h) o in not_under under.0 under.1 under.2

    -- so it is named where it is forced
    forced_named : IsForced IsKeptClause (lit_of sheet (positive here)) → IsNamed (lit_of sheet (positive here))
    forced_named forced =
        let l = lit_of sheet (positive here) in
        let stand = stands IsKeptClause forced.0 forced.1 l forced.2 in
        let j = stand.1.0 in
        let has : Contains (clause_at sheet j) l = subst (λ d. Contains d l) (sym stand.1.2) stand.2 in
        elim (is_own sheet j (number sheet here)) [
          | inl o ↦ absurd (by j stand.1.1 o has)
          | inr other ↦ (j, stand.1.1, has, other)
        ]
      where
        by : (j : ℕ) → Contains kept j → IsOwn sheet j (number sheet here) → Contains (clause_at sheet j) (lit_of sheet (positive here)) → ⊥
        by j h o has =
            let axiom' = kept_axiom sheet formed all division part there used kept banned of are v met j h in
            let same_axiom = same_some (sym axiom'.1 ∙ o.1) in
            let g_there = slice_contains (axioms sheet) j o.0 o.1 in
            let what : o.2 ≡ here = same_symbol sheet o.2 here (own_there sheet j (number sheet here) o) here_there o.4 in
            let m = literal_at sheet j o.0 o.1 (lit_of sheet (positive here)) has in
            let literal' = same_literal sheet m.0 (positive here) (symbols_are_variables sheet o.0 g_there m.0 m.1) here_there m.2 in
            let is_clause = All-contains (λ q. IsClauseOf sheet q.name q.clause) (axioms sheet) o.0 (all_right sheet) g_there in
            no_own o.0.name o.0.clause is_clause (o.3 ∙ ap Some what) (subst (λ (q : GroundAxiom). IsAxiomOfPart part q.name) same_axiom axiom'.2) (subst (Contains o.0.clause) literal' m.1)

    here_named : IsAsked here → IsNamed (lit_of sheet (positive here))
    here_named (inl named) = named
    here_named (inr forced) = forced_named forced

    not_banned : IsAsked here → ¬ IsBannedOut sheet kept banned g
    not_banned asked (l, (has, means), bans, unnamed) = elim (one_of_two (negative here) (positive child) l has) [
      | inl same ↦ unnamed (subst (λ (m : Literal). IsNamedBy sheet kept (opposite m)) (sym same) (named_by sheet formed all division part there used kept banned of are v met (positive here) here_there (here_named asked)))
      | inr same ↦ apart (sym (same_some means ∙ ap (λ (m : Literal). m.what) same))
    ]

    started : (value sheet v here ≡ true) → IsTrueFromStart sheet kept g → (value sheet v child ≡ true) × IsAsked child
    started t (l, has, forced) = elim (one_of_two (negative here) (positive child) l has) [
      | inl same ↦ absurd (false≢true (sym (subst (λ (m : Literal). value sheet v m.what ≡ m.sign) same (forced_true l forced)) ∙ t))
      | inr same ↦ (subst (λ (m : Literal). value sheet v m.what ≡ m.sign) same (forced_true l forced), asked_forced child (subst (λ (m : Literal). IsForced (IsAmong (clauses sheet) kept) (lit_of sheet m)) same forced))
    ]

    constant : IsAsked here → IsConstant sheet kept g → Right child
    constant asked (l, has, a_node, unused, (meanings, mean, forced)) = elim (one_of_two (negative here) (positive child) l has) [
      | inl same ↦ absurd (unused (subst (λ (m : Literal). IsUsed (clauses sheet) kept (number sheet m.what)) (sym same) (asked_used here asked)))
      | inr same ↦
          let Is = IsAmong (clauses sheet) meanings in
          let forced' = subst (λ (m : Literal). IsForced Is (lit_of sheet m)) same forced in
          let is_true = always_true Is (decided sheet cells given) (meaning_true sheet cells given meanings mean) (lit_of sheet (positive child)) forced' in
          sym (decided_at sheet cells given child child_there) ∙ is_true
    ]

    right_below : Right here → Right child
    right_below t =
        let made = meant sheet cells given so_by_cells (decided_is sheet cells given) g g_in tt in
        last so_by_cells (positive child) (unit so_by_cells (negative here) (positive child ∷ []) made t)

    true_below : IsAsked here → value sheet v here ≡ true → Right child ⊎ ((value sheet v child ≡ true) × IsAsked child)
    true_below asked t = elim (are.each at.0 g at.1 at.2) [
      | inl h ↦
          inr (
            last (value sheet v) (positive child) (unit (value sheet v) (negative here) (positive child ∷ []) (kept_true at.0 g h at.2) t),
            inl (
              at.0,
              h,
              at_literal sheet at.0 g at.2 (positive child) child_in,
              λ o.
                  let means : here ≡ o.2 = same_some (ap (λ (q : GroundAxiom). meant_by q.name) (same_some (sym at.2 ∙ o.1)) ∙ o.3) in
                  apart (sym (means ∙ same_symbol sheet o.2 child (own_there sheet at.0 (number sheet child) o) child_there o.4)),
            ),
          )
      | inr (inl (a_node, inl from)) ↦ inr (started t from)
      | inr (inl (a_node, inr (inl none))) ↦ absurd (none (negative here) (contains_first (negative here) (positive child ∷ [])) tt (asked_used here asked))
      | inr (inl (a_node, inr (inr always))) ↦ inl (constant asked always)
      | inr (inr out) ↦ absurd (not_banned asked out)
    ]

    next_good : IsGood here → IsGood child
    next_good (here_in, inl t) = (child_there, inl (right_below t))
    next_good (here_in, inr (t, asked)) = (child_there, true_below asked t)

  down : (p : Piece) → Contains part.pieces p → (rest path : List ℕ) → p.path.steps ≡ path ++ rest → IsGood (node p.path.rule path) → IsGood (node p.path.rule p.path.steps)
  down p c [] path is good = subst (λ xs. IsGood (node p.path.rule xs)) (sym (is ∙ append-nil path)) good
  down p c (k ∷ ks) path is good = down p c ks (path ++ k ∷ []) (is ∙ sym (append_assoc path (k ∷ []) ks)) (next_good p c path k ks is good)

  -- ---- the pieces are true

  piece_right : (p : Piece) → Contains part.pieces p → IsGood (node p.path.rule p.path.steps) → Right (node p.path.rule p.path.steps)
  piece_right p c (p_there, inl t) = t
  piece_right p c (p_there, inr (t, asked)) =
      asked_right sheet formed all division part there used kept banned of are v met (node p.path.rule p.path.steps) tt (p, c, (refl, [], sym (append-nil p.path.steps))) p_there asked t

  piece_true : (p : Piece) → Contains part.pieces p → PieceHolds sheet.universe cells p
  piece_true p c =
      let x = node p.path.rule p.path.steps in
      let t = piece_right p c (down p c p.path.steps [] refl (root_good p c)) in
      (node_is sheet cells p.path.rule p.path.steps p.node.0 p.node.1 (piece_at sheet p (division.pieces part there p c))).0 ((decided_is sheet cells given x).0 t)

  kept_fits : (b : List ValueId) × IsAssignment sheet.universe b × Fits (sheet_of sheet part) b × HasValues (cell_sizes sheet.universe) part.cells v b
  kept_fits = (
    cells,
    given,
    part_fits sheet part cells (all_from (PieceHolds sheet.universe cells) part.pieces piece_true),
    has_value sheet formed all division part there used kept of (stays sheet formed all division part there used kept banned of are v met) v met,
  )

pub kept_by_polarity_are_for_their_parts : KeptByPolarityAreForTheirParts
kept_by_polarity_are_for_their_parts sheet formed all division part there used kept banned of are =
    let are_for = part_axioms_are_for_their_parts sheet formed all division part there used of in record {
      fits = λ v met. kept_fits sheet formed all division part there used kept banned of are v met;
      meets = λ a assigned fits. let m = are_for.meets a assigned fits in (m.0, λ k h. m.1 k (are.among k h), m.2);
      by_cells = are_for.by_cells;
    }
