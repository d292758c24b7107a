-- Each part has a variable that no other part has: the pair of its first cell's first value, or the node of a piece without cells.
use Rattle.std.proofs.Common.{◌≡◌, ◌≢◌, ℕ, suc, ◌+◌, ◌<◌, ◌⊎◌, inl, inr, Bool, true, List, [], ◌∷◌, ◌++◌, append-nil, append_assoc, map, get_or, All, Contains, Some, slice_get, arith, ap, refl, sym, ◌∙◌, subst}
use Rattle.std.specs.List.{flat_map}
use Rattle.std.proofs.lemmas.List.Elements.{All-nil, All-cons, All-append, All-contains, Contains-append_left, Contains-append_right, Contains-append_cases}
use Rattle.std.proofs.lemmas.Option.{slice_get-get_or}
use Rattle.pc_lits.specs.declared.literal.Lit.{Lit}
use Rattle.pc_sheet.specs.Sheet.{Universe, Sheet, NamedStatement, Statement, Statements, no_statements, statement, compare, in_table, negation, all_of, some_of, implies, iff, for_all, exists, counts}
use Rattle.pc_sheet.specs.Truth.{Scope}
use Rattle.pc_sheet.specs.Sizes.{size_of}
use Rattle.pc_sheet.specs.Cells.{values_below}
use Rattle.pc_sheet.specs.Entailment.{cell_sizes, IsAssignment}
use Rattle.pc_sheet.specs.Nodes.{Node, node_at, kind_of}
use Rattle.pc_sheet.specs.Reads.{number_of_cell}
use Rattle.pc_sheet.specs.WellFormed.{IsWellFormed}
use Rattle.pc_sheet.specs.declared.ids.CellId.{CellId}
use Rattle.pc_sheet.specs.declared.ids.ValueId.{ValueId}
use Rattle.pc_accept.specs.Literals.{Symbol, pair, node, Literal, positive, negative}
use Rattle.pc_accept.specs.Axioms.{Axiom, axiom_some, axiom_one, axiom_rule, axiom_node, axiom_atom, each_below, clauses_of_node, child_of, negated_entry, IsAtNumber, IsClauseOfKind, IsClauseOf}
use Rattle.pc_lemmas.proofs.Options.{some_and, same_some}
use Rattle.pc_parts.specs.Pieces.{Piece, piece, pieces_below, pieces_of_parts, pieces_from, pieces, looked_up_under, ReadsCell}
use Rattle.pc_parts.specs.Leaves.{cells_of, cells_under}
use Rattle.pc_parts.specs.Parts.{Part, cell_count, IsComponent, ReadsNoCell, AreParts, part_without_cells, IsDivision}
use Rattle.pc_lemmas.proofs.Elements.{contains_first, contains_later, contains_cases, contains_none, contains_map, contains_mapped, all_from}
use Rattle.pc_laws.proofs.ValueLists.{values_each, value_there}
use Rattle.pc_parts.proofs.Divided.{same_part}
use Rattle.pc_parts.proofs.Dividing.{kept_of, without_is, parts_are_a_division}
use Rattle.pc_laws.proofs.SomeAssignment.{family_sizes}
use Rattle.pc_parts.proofs.LeafReads.{leaves_read_the_cells}
use Rattle.pc_parts.proofs.Listed.{none_above}
use Rattle.pc_ground.specs.Variables.{pair_at, variables, number}
use Rattle.pc_ground.specs.Ground.{GroundAxiom, some_axiom, one_axioms, cell_axioms, cells_axioms, numbered_axioms, own_axioms, node_axioms, parts_axioms, root_axiom, rule_axioms, rules_axioms, axioms, lit_of, clause_of_axiom, clauses}
use Rattle.pc_ground.proofs.Lists.{each_there, there_each}
use Rattle.pc_ground.proofs.OfAxioms.{all_right}
use Rattle.pc_ground.proofs.Symbols.{symbols_are_variables}
use Rattle.pc_components.specs.PartAxioms.{IsAxiomOfPart, AreAxiomsOf, AreVariablesOf}
use Rattle.pc_components.specs.Laws.{PartsHaveTheirOwnVariables}
use Rattle.pc_components.proofs.Inside.{IsInside, inside, rule_there}
use Rattle.pc_components.proofs.PartFor.{contains_slice, slice_map, slice_contains, same_clause, its_place, pair_in}
use Rattle.pc_components.proofs.Symbols.{last_step, rule_symbols, IsOfCell, cell_named, cell_there}
use Rattle.pc_components.proofs.Under.{under_symbols}
use Rattle.pc_components.proofs.Way.{piece_at, piece_rule, above_piece, joint_clause, joint_number, way_clause, way_axiom, way_there}

-- ---- each leaf's axiom is inside a piece

abbrev pub InPiece : Universe → List Piece → Axiom → Type 0
InPiece u ps (axiom_some c) = Unit {0}
InPiece u ps (axiom_one c v w) = Unit {0}
InPiece u ps (axiom_rule r) = Unit {0}
InPiece u ps (axiom_node r path k) = Unit {0}
InPiece u ps (axiom_atom r path reads) = (p : Piece) × Contains ps p × IsInside p.path.rule p.path.steps (cells_of u p) (axiom_atom r path reads)

module _ (u : Universe) (r : ℕ) where
  abbrev AreIn : List Piece → List GroundAxiom → Type 0
  AreIn ps gs = All (λ g. InPiece u ps g.name) gs

  in_more : (ps more : List Piece) → ((p : Piece) → Contains ps p → Contains more p) → (x : Axiom) → InPiece u ps x → InPiece u more x
  in_more ps more f (axiom_some c) h = h
  in_more ps more f (axiom_one c v w) h = h
  in_more ps more f (axiom_rule q) h = h
  in_more ps more f (axiom_node q path k) h = h
  in_more ps more f (axiom_atom q path reads) h = (h.0, f h.0 h.1, h.2)

  all_more : (ps more : List Piece) (gs : List GroundAxiom) → ((p : Piece) → Contains ps p → Contains more p) → AreIn ps gs → AreIn more gs
  all_more ps more gs f h = all_from (λ g. InPiece u more g.name) gs (λ g c. in_more ps more f g.name (All-contains (λ q. InPiece u ps q.name) gs g h c))

  by_inside : (p : Piece) (x : Axiom) → IsInside p.path.rule p.path.steps (cells_of u p) x → InPiece u (p ∷ []) x
  by_inside p (axiom_some c) i = tt
  by_inside p (axiom_one c v w) i = tt
  by_inside p (axiom_rule q) i = tt
  by_inside p (axiom_node q path k) i = tt
  by_inside p (axiom_atom q path reads) i = (p, contains_first p [], i)

  alone : (path : List ℕ) (scope : Scope) (s : Statement) → AreIn (piece r path scope s ∷ []) (node_axioms u r path scope s)
  alone path scope s =
      let p = piece r path scope s in
      all_from (λ g. InPiece u (p ∷ []) g.name) (node_axioms u r path scope s)
      (λ g c. by_inside p g.name (All-contains (λ q. IsInside r path (cells_under u scope s) q.name) (node_axioms u r path scope s) g (inside u r path scope s) c))

  numbers_in : (path : List ℕ) (ps : List Piece) (i : ℕ) (cs : List (List Literal)) → AreIn ps (numbered_axioms r path i cs)
  numbers_in path ps i [] = All-nil (λ g. InPiece u ps g.name)
  numbers_in path ps i (c ∷ cs) = All-cons (λ g. InPiece u ps g.name) (record { name = axiom_node r path i; clause = c }) (numbered_axioms r path (i + 1) cs) tt (numbers_in path ps (i + 1) cs)

  mutual
    nodes_in : (path : List ℕ) (scope : Scope) (s : Statement) → AreIn (pieces_below u r path scope s) (node_axioms u r path scope s)
    nodes_in path scope (compare left op right) = alone path scope (compare left op right)
    nodes_in path scope (in_table t xs) = alone path scope (in_table t xs)
    nodes_in path scope (negation s) = alone path scope (negation s)
    nodes_in path scope (all_of ss) =
        let ps = pieces_of_parts u r path scope 0 ss in
        All-append (λ g. InPiece u ps g.name) (own_axioms u r path (all_of ss)) (parts_axioms u r path scope 0 ss) (numbers_in path ps 1 (clauses_of_node (node r path) (child_of r path) u (all_of ss))) (parts_in path scope 0 ss)
    nodes_in path scope (some_of ss) = alone path scope (some_of ss)
    nodes_in path scope (implies s t) = alone path scope (implies s t)
    nodes_in path scope (iff s t) = alone path scope (iff s t)
    nodes_in path scope (for_all name s body) =
        let ps : ValueId → List Piece = λ v. pieces_below u r (path ++ v.0 ∷ []) (scope ++ (s, v) ∷ []) body in
        let gs : ValueId → List GroundAxiom = λ v. node_axioms u r (path ++ v.0 ∷ []) (scope ++ (s, v) ∷ []) body in
        let big = flat_map ps (values_below (size_of u s)) in
        All-append (λ g. InPiece u big g.name) (own_axioms u r path (for_all name s body)) (flat_map gs (values_below (size_of u s))) (numbers_in path big 1 (clauses_of_node (node r path) (child_of r path) u (for_all name s body)))
        (values_each (λ g. InPiece u big g.name) gs (size_of u s) (λ v l. all_more (ps v) big (gs v) (λ p c. value_there ps (size_of u s) v p l c) (nodes_in (path ++ v.0 ∷ []) (scope ++ (s, v) ∷ []) body)))
    nodes_in path scope (exists name s body) = alone path scope (exists name s body)
    nodes_in path scope (counts c name s body) = alone path scope (counts c name s body)

    parts_in : (path : List ℕ) (scope : Scope) (k : ℕ) (ss : Statements) → AreIn (pieces_of_parts u r path scope k ss) (parts_axioms u r path scope k ss)
    parts_in path scope k no_statements = All-nil (λ g. InPiece u [] g.name)
    parts_in path scope k (statement s ss) =
        let ps = pieces_below u r (path ++ k ∷ []) scope s in
        let qs = pieces_of_parts u r path scope (k + 1) ss in
        All-append (λ g. InPiece u (ps ++ qs) g.name) (node_axioms u r (path ++ k ∷ []) scope s) (parts_axioms u r path scope (k + 1) ss)
        (all_more ps (ps ++ qs) (node_axioms u r (path ++ k ∷ []) scope s) (λ p c. Contains-append_left ps qs p c) (nodes_in (path ++ k ∷ []) scope s))
        (all_more qs (ps ++ qs) (parts_axioms u r path scope (k + 1) ss) (λ p c. Contains-append_right ps qs p c) (parts_in path scope (k + 1) ss))

rules_in : (u : Universe) (r : ℕ) (rules : List NamedStatement) → AreIn u r (pieces_from u r rules) (rules_axioms u r rules)
rules_in u r [] = All-nil (λ g. InPiece u [] g.name)
rules_in u r (rule ∷ rules) =
    let ps = pieces_below u r [] [] rule.states in
    let qs = pieces_from u (r + 1) rules in
    All-append (λ g. InPiece u (ps ++ qs) g.name) (rule_axioms u r rule) (rules_axioms u (r + 1) rules)
    (All-cons (λ g. InPiece u (ps ++ qs) g.name) (root_axiom r) (node_axioms u r [] [] rule.states) tt (all_more u r ps (ps ++ qs) (node_axioms u r [] [] rule.states) (λ p c. Contains-append_left ps qs p c) (nodes_in u r [] [] rule.states)))
    (all_more u (r + 1) qs (ps ++ qs) (rules_axioms u (r + 1) rules) (λ p c. Contains-append_right ps qs p c) (rules_in u (r + 1) rules))

cell_in_piece : (u : Universe) (ps : List Piece) (c : ℕ) (x : Axiom) → IsOfCell c x → InPiece u ps x
cell_in_piece u ps c (axiom_some d) is = tt
cell_in_piece u ps c (axiom_one d v w) is = tt
cell_in_piece u ps c (axiom_rule r) is = absurd is
cell_in_piece u ps c (axiom_node r path k) is = absurd is
cell_in_piece u ps c (axiom_atom r path reads) is = absurd is

cells_in : (u : Universe) (ps : List Piece) (c : ℕ) (ns : List ℕ) → All (λ g. InPiece u ps g.name) (cells_axioms c ns)
cells_in u ps c [] = All-nil (λ g. InPiece u ps g.name)
cells_in u ps c (n ∷ ns) =
    All-append (λ g. InPiece u ps g.name) (cell_axioms c n) (cells_axioms (c + 1) ns)
    (all_from (λ g. InPiece u ps g.name) (cell_axioms c n) (λ g h. cell_in_piece u ps c g.name (All-contains (λ q. IsOfCell c q.name) (cell_axioms c n) g (cell_named c n) h))) (cells_in u ps (c + 1) ns)

pub all_in : (sheet : Sheet) → All (λ g. InPiece sheet.universe (pieces sheet) g.name) (axioms sheet)
all_in sheet =
    let u = sheet.universe in
    All-append (λ g. InPiece u (pieces sheet) g.name) (cells_axioms 0 (cell_sizes u)) (rules_axioms u 0 sheet.rules) (cells_in u (pieces sheet) 0 (cell_sizes u)) (rules_in u 0 sheet.rules)

-- ---- of two pieces that a path goes through, none is above the other

Longer : List ℕ → List ℕ → Type 0
Longer xs ys = (k : ℕ) × (rest : List ℕ) × (ys ≡ xs ++ k ∷ rest)

compared : (xs ys us ws : List ℕ) → xs ++ us ≡ ys ++ ws → (xs ≡ ys) ⊎ (Longer xs ys ⊎ Longer ys xs)
unfolding Longer
compared [] [] us ws e = inl refl
compared [] (y ∷ ys) us ws e = inr (inl (y, ys, refl))
compared (x ∷ xs) [] us ws e = inr (inr (x, xs, refl))
compared (x ∷ xs) (y ∷ ys) us ws e =
    let first : x ≡ y = cc in
    let rest : xs ++ us ≡ ys ++ ws = cc in
    elim (compared xs ys us ws rest) [
      | inl same ↦ inl (ap (λ z. z ∷ xs) first ∙ ap (λ zs. y ∷ zs) same)
      | inr other ↦ inr (elim other [
        | inl h ↦ inl (h.0, h.1, ap (λ z. z ∷ ys) (sym first) ∙ ap (λ zs. x ∷ zs) h.2)
        | inr h ↦ inr (h.0, h.1, ap (λ z. z ∷ xs) first ∙ ap (λ zs. y ∷ zs) h.2)
      ])
    ]

-- ---- symbols

cell_of_pair : Symbol → ℕ
cell_of_pair (pair c v) = c.0
cell_of_pair (node r path) = 0

is_pair : Symbol → ℕ
is_pair (pair c v) = 1
is_pair (node r path) = 0

rule_of_symbol : Symbol → ℕ
rule_of_symbol (pair c v) = 0
rule_of_symbol (node r path) = r

steps_of_symbol : Symbol → List ℕ
steps_of_symbol (pair c v) = []
steps_of_symbol (node r path) = path

pub same_cell : (d : CellId) (w v : ValueId) (c : ℕ) → pair d w ≡ pair (record { 0 = c }) v → d.0 ≡ c
unfolding cell_of_pair
same_cell d w v c e = ap cell_of_pair e

pub no_pair : {r : ℕ} {path : List ℕ} {c : CellId} {v : ValueId} → node r path ≡ pair c v → ⊥
unfolding is_pair
no_pair e = absurd (let n : 0 ≡ 1 = ap is_pair e in omega arith)

no_node : {r : ℕ} {path : List ℕ} {c : CellId} {v : ValueId} → pair c v ≡ node r path → ⊥
unfolding is_pair
no_node e = absurd (let n : 1 ≡ 0 = ap is_pair e in omega arith)

same_rule : (q r : ℕ) (xs ys : List ℕ) → node q xs ≡ node r ys → q ≡ r
unfolding rule_of_symbol
same_rule q r xs ys e = ap rule_of_symbol e

same_steps : (q r : ℕ) (xs ys : List ℕ) → node q xs ≡ node r ys → xs ≡ ys
unfolding steps_of_symbol
same_steps q r xs ys e = ap steps_of_symbol e

module _ (sheet : Sheet) where
  abbrev u : Universe
  u = sheet.universe

  pub one_path : (p q : Piece) → Contains (pieces sheet) p → Contains (pieces sheet) q → p.path.rule ≡ q.path.rule → (xs ys : List ℕ) → p.path.steps ++ xs ≡ q.path.steps ++ ys → p.path.steps ≡ q.path.steps
  unfolding Longer
  one_path p q h l same xs ys e = elim (compared p.path.steps q.path.steps xs ys e) [
    | inl is ↦ is
    | inr other ↦ elim other [
      | inl k ↦ absurd (none_above sheet p q h l same k.0 k.1 k.2)
      | inr k ↦ absurd (none_above sheet q p l h (sym same) k.0 k.1 k.2)
    ]
  ]

  pub one_node : (p q : Piece) → Contains (pieces sheet) p → Contains (pieces sheet) q → p.path.rule ≡ q.path.rule → p.path.steps ≡ q.path.steps → p.node ≡ q.node
  one_node p q h l same is = same_some (sym (piece_at sheet p h) ∙ ap (λ r. node_at sheet r p.path.steps) same ∙ ap (node_at sheet q.path.rule) is ∙ piece_at sheet q l)

  module _ (formed : IsWellFormed sheet) (all : List Part) (are : AreParts sheet all) where
    division : IsDivision sheet all
    division = parts_are_a_division sheet all formed are

    -- ---- a pair in an axiom of a part

    module _ (other : Part) (there : Contains all other) where
      listed : (p : Piece) → Contains other.pieces p → Contains (pieces sheet) p
      listed p h = division.pieces other there p h

      pair_in_axiom : (x : Axiom) (clause : List Literal) → IsClauseOf sheet x clause → IsAxiomOfPart other x → InPiece u (pieces sheet) x → (l : Literal) → Contains clause l
          → (c : ℕ) (v : ValueId) → l.what ≡ pair (record { 0 = c }) v → Contains other.cells c
      pair_in_axiom (axiom_some d) clause is h i l has c v e =
          let f : ℕ → Literal = λ w. positive (pair d (record { 0 = w })) in
          let n = some_and (slice_get (cell_sizes u) d.0) (λ n. clause ≡ each_below n f) is in
          let k = there_each n.0 f l (subst (λ d'. Contains d' l) n.2 has) in
          subst (Contains other.cells) (same_cell d (record { 0 = k.0 }) v c (ap (λ (m : Literal). m.what) k.2 ∙ e)) h
      pair_in_axiom (axiom_one d w y) clause is h i l has c v e =
          let n = some_and (slice_get (cell_sizes u) d.0) (λ n. (w.0 < n) × (y.0 < n) × (w ≢ y) × (clause ≡ negative (pair d w) ∷ negative (pair d y) ∷ [])) is in
          elim (contains_cases (negative (pair d w)) (negative (pair d y) ∷ []) l (subst (λ d'. Contains d' l) n.2.3 has)) [
            | inl same ↦ subst (Contains other.cells) (same_cell d w v c (ap (λ (m : Literal). m.what) same ∙ e)) h
            | inr later ↦ elim (contains_cases (negative (pair d y)) [] l later) [
              | inl same ↦ subst (Contains other.cells) (same_cell d y v c (ap (λ (m : Literal). m.what) same ∙ e)) h
              | inr none ↦ absurd (contains_none l none)
            ]
          ]
      pair_in_axiom (axiom_rule r) clause is h i l has c v e =
          let named = some_and (slice_get sheet.rules r) (λ named. clause ≡ positive (node r []) ∷ []) is in
          elim (contains_cases (positive (node r [])) [] l (subst (λ d'. Contains d' l) named.2 has)) [
            | inl same ↦ absurd (no_pair (ap (λ (m : Literal). m.what) same ∙ e))
            | inr none ↦ absurd (contains_none l none)
          ]
      pair_in_axiom (axiom_node r path k) clause is h i l has c v e =
          absurd (rule_symbols (λ x. x ≡ pair (record { 0 = c }) v → ⊥) sheet r path (λ steps f. no_pair f) k clause is l has e)
      pair_in_axiom (axiom_atom r path reads) clause is (p, p_in, (same, rest, at)) (q, q_in, (from, within)) l has c v e =
          let end : Literal = record { what = node r path; sign = is.truth } in
          elim (Contains-append_cases (map negated_entry reads) (end ∷ []) l (subst (λ d'. Contains d' l) is.is has)) [
            | inl read ↦
                let f = contains_mapped negated_entry reads l read in
                let cell : f.0.cell.0 ≡ c = same_cell f.0.cell f.0.value v c (ap (λ (m : Literal). m.what) f.2 ∙ e) in
                let in_q : Contains (cells_of u q) c = subst (Contains (cells_of u q)) cell (All-contains (λ x. Contains (cells_of u q) (number_of_cell x)) reads f.0 within f.1) in
                let rules : q.path.rule ≡ p.path.rule = from.0 ∙ sym same in
                let steps = one_path q p q_in (listed p p_in) rules from.1 rest (sym from.2 ∙ at) in
                let nodes = one_node q p q_in (listed p p_in) rules steps in
                let in_p : Contains (cells_of u p) c = subst (λ (n : Node). Contains (cells_under u n.0 n.1) c) nodes in_q in
                division.reads other there p p_in c ((leaves_read_the_cells sheet formed p (listed p p_in) c).0 in_p)
            | inr last ↦ elim (contains_cases end [] l last) [
              | inl is_end ↦ absurd (no_pair (ap (λ (m : Literal). m.what) is_end ∙ e))
              | inr none ↦ absurd (contains_none l none)
            ]
          ]

      -- ---- a piece's node in an axiom of a part

      module _ (p : Piece) (p_listed : Contains (pieces sheet) p) where
        abbrev Same : Type 0
        Same = (q : Piece) × Contains other.pieces q × (q.path.rule ≡ p.path.rule) × (q.path.steps ≡ p.path.steps)

        same_from : (q : Piece) → Contains other.pieces q → (r : ℕ) → q.path.rule ≡ r → r ≡ p.path.rule → (xs ys : List ℕ) → q.path.steps ++ xs ≡ p.path.steps ++ ys → Same
        same_from q h r a b xs ys e = (q, h, a ∙ b, one_path q p (listed q h) p_listed (a ∙ b) xs ys e)

        node_in_axiom : (x : Axiom) (clause : List Literal) → IsClauseOf sheet x clause → IsAxiomOfPart other x → (l : Literal) → Contains clause l → l.what ≡ node p.path.rule p.path.steps → Same
        node_in_axiom (axiom_some d) clause is h l has e =
            let f : ℕ → Literal = λ w. positive (pair d (record { 0 = w })) in
            let n = some_and (slice_get (cell_sizes u) d.0) (λ n. clause ≡ each_below n f) is in
            let k = there_each n.0 f l (subst (λ d'. Contains d' l) n.2 has) in
            absurd (no_node (ap (λ (m : Literal). m.what) k.2 ∙ e))
        node_in_axiom (axiom_one d w y) clause is h l has e =
            let n = some_and (slice_get (cell_sizes u) d.0) (λ n. (w.0 < n) × (y.0 < n) × (w ≢ y) × (clause ≡ negative (pair d w) ∷ negative (pair d y) ∷ [])) is in
            elim (contains_cases (negative (pair d w)) (negative (pair d y) ∷ []) l (subst (λ d'. Contains d' l) n.2.3 has)) [
              | inl same ↦ absurd (no_node (ap (λ (m : Literal). m.what) same ∙ e))
              | inr later ↦ elim (contains_cases (negative (pair d y)) [] l later) [ inl same ↦ absurd (no_node (ap (λ (m : Literal). m.what) same ∙ e)) | inr none ↦ absurd (contains_none l none) ]
            ]
        node_in_axiom (axiom_rule r) clause is (q, q_in, same) l has e =
            let named = some_and (slice_get sheet.rules r) (λ named. clause ≡ positive (node r []) ∷ []) is in
            elim (contains_cases (positive (node r [])) [] l (subst (λ d'. Contains d' l) named.2 has)) [
              | inl is_root ↦
                  let f = ap (λ (m : Literal). m.what) is_root ∙ e in
                  same_from q q_in r same (same_rule r p.path.rule [] p.path.steps f) [] q.path.steps (append-nil q.path.steps ∙ ap (λ xs. xs ++ q.path.steps) (same_steps r p.path.rule [] p.path.steps f))
              | inr none ↦ absurd (contains_none l none)
            ]
        node_in_axiom (axiom_node r path k) clause is (inl (q, q_in, (same, rest, at))) l has e =
            let under = under_symbols sheet q (listed q q_in) r same path rest at k clause is l has in
            let f = sym under.1 ∙ e in
            same_from q q_in r same (same_rule r p.path.rule (q.path.steps ++ under.0) p.path.steps f) under.0 [] (same_steps r p.path.rule (q.path.steps ++ under.0) p.path.steps f ∙ sym (append-nil p.path.steps))
        node_in_axiom (axiom_node r path k) clause is (inr (j, number', (q, q_in, (same, rest, at)))) l has e =
            let n = some_and (node_at sheet r path) (λ n. IsClauseOfKind sheet r path (kind_of u n.1) k clause) is in
            let above = above_piece sheet q (listed q q_in) path j rest at in
            let node_same : n.0 ≡ above.joint = same_some (sym n.1 ∙ ap (λ i. node_at sheet i path) (sym same) ∙ above.at) in
            let joint = joint_number sheet r path above.joint.1 above.is k clause (subst (λ (m : Node). IsClauseOfKind sheet r path (kind_of u m.1) k clause) node_same n.2) in
            let place : k ≡ suc j = omega arith in
            let at_j : slice_get (clauses_of_node (node r path) (child_of r path) u above.joint.1) j ≡ Some clause = subst (λ i. IsAtNumber (clauses_of_node (node r path) (child_of r path) u above.joint.1) i clause) place joint in
            let way = joint_clause u (node r path) (child_of r path) above.joint.0 above.joint.1 above.is j above.next above.child_at in
            let clause_is : clause ≡ way_clause u (node r path) (child_of r path) j = same_some (sym at_j ∙ way) in
            elim (contains_cases (negative (node r path)) (positive (child_of r path j) ∷ []) l (subst (λ d'. Contains d' l) clause_is has)) [
              | inl is_joint ↦
                  let f = ap (λ (m : Literal). m.what) is_joint ∙ e in
                  same_from q q_in r same (same_rule r p.path.rule path p.path.steps f) [] (j ∷ rest) (append-nil q.path.steps ∙ at ∙ ap (λ xs. xs ++ j ∷ rest) (same_steps r p.path.rule path p.path.steps f))
              | inr later ↦ elim (contains_cases (positive (child_of r path j)) [] l later) [
                | inl is_child ↦
                    let f = ap (λ (m : Literal). m.what) is_child ∙ e in
                    same_from q q_in r same (same_rule r p.path.rule (path ++ j ∷ []) p.path.steps f) [] rest
                    (append-nil q.path.steps ∙ at ∙ sym (append_assoc path (j ∷ []) rest) ∙ ap (λ xs. xs ++ rest) (same_steps r p.path.rule (path ++ j ∷ []) p.path.steps f))
                | inr none ↦ absurd (contains_none l none)
              ]
            ]
        node_in_axiom (axiom_atom r path reads) clause is (q, q_in, (same, rest, at)) l has e =
            let end : Literal = record { what = node r path; sign = is.truth } in
            elim (Contains-append_cases (map negated_entry reads) (end ∷ []) l (subst (λ d'. Contains d' l) is.is has)) [
              | inl read ↦ let f = contains_mapped negated_entry reads l read in absurd (no_node (ap (λ (m : Literal). m.what) f.2 ∙ e))
              | inr last ↦ elim (contains_cases end [] l last) [
                | inl is_end ↦
                    let f = ap (λ (m : Literal). m.what) is_end ∙ e in
                    same_from q q_in r same (same_rule r p.path.rule path p.path.steps f) rest [] (sym at ∙ same_steps r p.path.rule path p.path.steps f ∙ sym (append-nil p.path.steps))
                | inr none ↦ absurd (contains_none l none)
              ]
            ]

      -- ---- a symbol whose number is one of its variables

      named_in : (used own : List ℕ) → AreAxiomsOf sheet other used → AreVariablesOf (clauses sheet) used own → (x : Symbol) → Contains (variables sheet) x → Contains own (number sheet x)
          → (g : GroundAxiom) × Contains (axioms sheet) g × IsAxiomOfPart other g.name × (l : Literal) × Contains g.clause l × (l.what ≡ x)
      named_in used own of vars x x_there h =
          let k = (vars.exact (number sheet x)).0 h in
          let g = (of.exact k.0).0 k.1 in
          let g_there = slice_contains (axioms sheet) k.0 g.0 g.1 in
          let clause_is : clause_of_axiom sheet g.0 ≡ k.2 = same_clause (sym (slice_map (clause_of_axiom sheet) (axioms sheet) k.0 g.0 g.1) ∙ k.3) in
          let l = contains_mapped (lit_of sheet) g.0.clause k.4 (subst (λ d. Contains d k.4) (sym clause_is) k.5) in
          let numbers : number sheet l.0.what ≡ number sheet x = ap (λ (m : Lit). m.variable.0) l.2 ∙ k.6 in
          let l_there = symbols_are_variables sheet g.0 g_there l.0 l.1 in
          let yes : Symbol → Bool = λ y. true in
          let same : l.0.what ≡ x = same_some (sym (its_place sheet yes l.0.what l_there) ∙ ap (slice_get (variables sheet)) numbers ∙ its_place sheet yes x x_there) in
          (g.0, g_there, g.2, l.0, l.1, same)

-- ---- the parts

pub has_symbol : (sheet : Sheet) (part : Part) (used own : List ℕ) → AreAxiomsOf sheet part used → AreVariablesOf (clauses sheet) used own
    → (g : GroundAxiom) → Contains (axioms sheet) g → IsAxiomOfPart part g.name → (l : Literal) → Contains g.clause l → Contains own (number sheet l.what)
has_symbol sheet part used own of vars g there o l has =
    let k = contains_slice (axioms sheet) g there in
    (vars.exact (number sheet l.what)).1
    (k.0, (of.exact k.0).1 (g, k.1, o), clause_of_axiom sheet g, slice_map (clause_of_axiom sheet) (axioms sheet) k.0 g k.1, lit_of sheet l, contains_map (lit_of sheet) g.clause l has, refl)

one_last : (ps : List Piece) (x y : Part) → Contains (part_without_cells ps) x → Contains (part_without_cells ps) y → x ≡ y
one_last [] x y h l = absurd (contains_none x h)
one_last (p ∷ ps) x y h l =
    let z : Part = record { cells = []; pieces = p ∷ ps } in
    let is : (w : Part) → Contains (z ∷ []) w → z ≡ w = λ w c. elim (contains_cases z [] w c) [ inl same ↦ same | inr none ↦ absurd (contains_none w none) ] in
    sym (is x h) ∙ is y l

some_piece : (ps : List Piece) (part : Part) → Contains (part_without_cells ps) part → (p : Piece) × Contains ps p
some_piece [] part h = absurd (contains_none part h)
some_piece (p ∷ ps) part h = (p, contains_first p ps)

module _ (sheet : Sheet) (formed : IsWellFormed sheet) (all : List Part) (are : AreParts sheet all) (part : Part) (there : Contains all part) (used own : List ℕ) (of : AreAxiomsOf sheet part used) (vars : AreVariablesOf (clauses sheet) used own) where
  abbrev OwnVariable : Type 0
  OwnVariable = (x : ℕ) × Contains own x
      × ((other : Part) → Contains all other → (others : List ℕ) (theirs : List ℕ) → AreAxiomsOf sheet other others → AreVariablesOf (clauses sheet) others theirs → Contains theirs x → other ≡ part)

  divides : IsDivision sheet all
  divides = parts_are_a_division sheet all formed are

  of_cell : (c : ℕ) → Contains part.cells c → c < cell_count sheet.universe → OwnVariable
  of_cell c has below =
      let sizes = cell_sizes sheet.universe in
      let n = get_or sizes c 0 in
      let at : slice_get sizes c ≡ Some n = slice_get-get_or sizes c 0 below in
      let some : 0 < n = family_sizes sheet.universe formed.universe sheet.universe.families formed.universe.families c 0 below in
      let g = some_axiom c n in
      let zero' : ValueId = record { 0 = 0 } in (
        number sheet (pair_at c 0),
        has_symbol sheet part used own of vars g (cell_there sheet c n at g (contains_first g (one_axioms c 0 n))) has (positive (pair_at c 0)) (each_there n (λ v. positive (pair_at c v)) 0 some),
        λ other o_there others theirs o_of o_vars h.
            let r = named_in sheet formed all are other o_there others theirs o_of o_vars (pair_at c 0) (pair_in sheet c n 0 at some) h in
            let is = All-contains (λ q. IsClauseOf sheet q.name q.clause) (axioms sheet) r.0 (all_right sheet) r.1 in
            let i = All-contains (λ q. InPiece sheet.universe (pieces sheet) q.name) (axioms sheet) r.0 (all_in sheet) r.1 in
            let c_there = pair_in_axiom sheet formed all are other o_there r.0.name r.0.clause is r.2 i r.3 r.4 c zero' r.5 in
            same_part all divides.apart other part o_there there c c_there has,
      )

  -- an axiom of the part that has the piece's node
  own_axiom : (p : Piece) → Contains part.pieces p → Contains (pieces sheet) p → (steps : List ℕ) → p.path.steps ≡ steps
      → (g : GroundAxiom) × Contains (axioms sheet) g × IsAxiomOfPart part g.name × (l : Literal) × Contains g.clause l × (l.what ≡ node p.path.rule steps)
  own_axiom p has listed' [] is =
      let r = p.path.rule in
      let rule = piece_rule sheet p listed' in
      let g = root_axiom r in
      (g, rule_there sheet r rule.0 rule.1 g (contains_first g (node_axioms sheet.universe r [] [] rule.0.states)), (p, has, refl), positive (node r []), contains_first (positive (node r [])) [], refl)
  own_axiom p has listed' (k ∷ ks) is =
      let r = p.path.rule in
      let end = last_step k ks in
      let path = end.0 in
      let j = end.1 in
      let at : p.path.steps ≡ path ++ j ∷ [] = is ∙ end.2 in
      let g = way_axiom r path j in
      let number' : 1 + j ≡ j + 1 = omega arith in (
        g,
        way_there sheet r path j (above_piece sheet p listed' path j [] at),
        inr (j, number', (p, has, (refl, [], at))),
        positive (child_of r path j),
        contains_later (negative (node r path)) (positive (child_of r path j) ∷ []) (positive (child_of r path j)) (contains_first (positive (child_of r path j)) []),
        ap (node r) (sym end.2),
      )

  of_piece : Contains (part_without_cells are.read_none) part → OwnVariable
  of_piece last =
      let q = some_piece are.read_none part last in
      let p = q.0 in
      let kept' = kept_of (ReadsNoCell sheet) (pieces sheet) are.read_none are.others p q.1 in
      let has : Contains part.pieces p = subst (λ ps. Contains ps p) (sym (without_is sheet are.read_none part last).1) q.1 in
      let a = own_axiom p has kept'.0 p.path.steps refl in
      let x : Symbol = node p.path.rule p.path.steps in
      let x_there : Contains (variables sheet) x = subst (Contains (variables sheet)) a.5 (symbols_are_variables sheet a.0 a.1 a.3 a.4) in (
        number sheet x,
        subst (λ y. Contains own (number sheet y)) a.5 (has_symbol sheet part used own of vars a.0 a.1 a.2 a.3 a.4),
        λ other o_there others theirs o_of o_vars h.
            let r = named_in sheet formed all are other o_there others theirs o_of o_vars x x_there h in
            let is = All-contains (λ g. IsClauseOf sheet g.name g.clause) (axioms sheet) r.0 (all_right sheet) r.1 in
            let same = node_in_axiom sheet formed all are other o_there p kept'.0 r.0.name r.0.clause is r.2 r.3 r.4 r.5 in
            elim (Contains-append_cases are.components (part_without_cells are.read_none) other (subst (λ ps. Contains ps other) are.are o_there)) [
              | inl component ↦
                  let k = All-contains (IsComponent sheet) are.components other are.each component in
                  let reads = (kept_of (λ w. (c : ℕ) × Contains other.cells c × ReadsCell sheet.universe w c) (pieces sheet) other.pieces k.pieces same.0 same.1) in
                  let nodes = one_node sheet same.0 p reads.0 kept'.0 same.2 same.3 in
                  absurd (kept'.1 reads.1.0 (subst (λ (n : Node). (b : List ValueId) × IsAssignment sheet.universe b × Contains (looked_up_under sheet.universe b n.0 n.1) reads.1.0) nodes reads.1.2))
              | inr also ↦ one_last are.read_none other part also last
            ],
      )

pub parts_have_their_own_variables : PartsHaveTheirOwnVariables
parts_have_their_own_variables sheet formed all are part there used own of vars =
    elim (Contains-append_cases are.components (part_without_cells are.read_none) part (subst (λ ps. Contains ps part) are.are there)) [
      | inl component ↦
          let k = All-contains (IsComponent sheet) are.components part are.each component in
          of_cell sheet formed all are part there used own of vars k.first (subst (λ cs. Contains cs k.first) (sym k.is) (contains_first k.first k.later)) k.within
      | inr last ↦ of_piece sheet formed all are part there used own of vars last
    ]
