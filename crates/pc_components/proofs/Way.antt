-- The way from a rule's root to a piece: its nodes, and their clauses of the child on the way.
use Rattle.std.proofs.Common.{◌≡◌, ℕ, zero, suc, ◌+◌, ◌<◌, Bool, true, false, cond, nat_lt, List, [], ◌∷◌, ◌++◌, map, Contains, Option, None, Some, slice_get, IsSomeAnd, arith, ap, refl, ◌∙◌, subst, zero-add}
use Rattle.std.specs.List.{flat_map, range_with_len}
use Rattle.std.proofs.lemmas.Bool.Decides.{Decides-ltb}
use Rattle.std.proofs.lemmas.List.Elements.{All-contains, Contains-append_left}
use Rattle.pc_sheet.specs.WellSorted.{parts_in}
use Rattle.pc_sheet.specs.Sheet.{Universe, Sheet, NamedStatement, Statement, Statements, no_statements, statement, compare, in_table, negation, all_of, some_of, implies, iff, for_all, exists, counts}
use Rattle.pc_sheet.specs.Truth.{Scope}
use Rattle.pc_sheet.specs.Sizes.{size_of}
use Rattle.pc_sheet.specs.Cells.{values_below}
use Rattle.pc_sheet.specs.Nodes.{Node, part_at, child, node_from, root_of, node_at, kind_of}
use Rattle.pc_accept.specs.Literals.{Symbol, Literal, node, positive, negative}
use Rattle.pc_accept.specs.Axioms.{axiom_node, each_below, clauses_of_all, clauses_of_node, child_of, IsAtNumber, IsClauseOfKind}
use Rattle.pc_parts.specs.Pieces.{Piece, pieces, IsJoint, LeadsTo, IsPiece}
use Rattle.pc_lemmas.proofs.Elements.{contains_first, contains_later}
use Rattle.pc_parts.proofs.Listed.{all_reached, root_is}
use Rattle.pc_ground.specs.Ground.{GroundAxiom, numbered_axioms, own_axioms, node_axioms, parts_axioms, axioms}
use Rattle.pc_components.proofs.Inside.{node_there}

-- ---- where a path through joint nodes leads

leads_node : (u : Universe) (steps : List ℕ) (from to : Node) → LeadsTo u from steps to → node_from u (Some from) steps ≡ Some to
leads_node u [] from to h = ap Some h.0
leads_node u (k ∷ ks) from to h = by (child u from k) (λ n l. leads_node u ks n to l) h.1
  where
    by : (o : Option Node) → ((n : Node) → LeadsTo u n ks to → node_from u (Some n) ks ≡ Some to) → IsSomeAnd o (λ n. LeadsTo u n ks to) → node_from u o ks ≡ Some to
    by None f l = absurd l
    by (Some n) f l = f n l

pub record IsJointAt (u : Universe) (from : Node) (path : List ℕ) (k : ℕ) : Type 0 where
  pub joint : Node
  pub at : node_from u (Some from) path ≡ Some joint
  pub is : IsJoint joint.1
  pub next : Node
  pub child_at : child u joint k ≡ Some next

joint_at : (u : Universe) (path : List ℕ) (from : Node) (k : ℕ) (rest : List ℕ) (to : Node) → LeadsTo u from (path ++ k ∷ rest) to → IsJointAt u from path k
joint_at u [] from k rest to h = by (child u from k) refl h.1
  where
    by : (o : Option Node) → child u from k ≡ o → IsSomeAnd o (λ n. LeadsTo u n rest to) → IsJointAt u from [] k
    by None e l = absurd l
    by (Some n) e l = record { joint = from; at = refl; is = h.0; next = n; child_at = e }
joint_at u (j ∷ js) from k rest to h = by (child u from j) refl (λ n l. joint_at u js n k rest to l) h.1
  where
    by : (o : Option Node) → child u from j ≡ o → ((n : Node) → LeadsTo u n (js ++ k ∷ rest) to → IsJointAt u n js k) → IsSomeAnd o (λ n. LeadsTo u n (js ++ k ∷ rest) to) → IsJointAt u from (j ∷ js) k
    by None e f l = absurd l
    by (Some n) e f l =
        let i = f n l in
        record { joint = i.joint; at = ap (λ o. node_from u o js) e ∙ i.at; is = i.is; next = i.next; child_at = i.child_at }

-- a piece is what its path leads to
pub piece_at : (sheet : Sheet) (p : Piece) → Contains (pieces sheet) p → node_at sheet p.path.rule p.path.steps ≡ Some p.node
piece_at sheet p there =
    let u = sheet.universe in
    let root = root_is u (slice_get sheet.rules p.path.rule) (λ n. LeadsTo u n p.path.steps p.node) (All-contains (IsPiece sheet) (pieces sheet) p (all_reached sheet) there) in
    ap (λ o. node_from u (root_of o) p.path.steps) root.1 ∙ leads_node u p.path.steps ([], root.0.states) p.node root.2

-- the rule of a piece
pub piece_rule : (sheet : Sheet) (p : Piece) → Contains (pieces sheet) p → (rule : NamedStatement) × (slice_get sheet.rules p.path.rule ≡ Some rule)
piece_rule sheet p there =
    let u = sheet.universe in
    let root = root_is u (slice_get sheet.rules p.path.rule) (λ n. LeadsTo u n p.path.steps p.node) (All-contains (IsPiece sheet) (pieces sheet) p (all_reached sheet) there) in
    (root.0, root.1)

pub record IsAbove (sheet : Sheet) (r : ℕ) (path : List ℕ) (k : ℕ) : Type 0 where
  pub joint : Node
  pub at : node_at sheet r path ≡ Some joint
  pub is : IsJoint joint.1
  pub next : Node
  pub child_at : child sheet.universe joint k ≡ Some next

pub above_piece : (sheet : Sheet) (p : Piece) → Contains (pieces sheet) p → (path : List ℕ) (k : ℕ) (rest : List ℕ) → p.path.steps ≡ path ++ k ∷ rest → IsAbove sheet p.path.rule path k
above_piece sheet p there path k rest is =
    let u = sheet.universe in
    let root = root_is u (slice_get sheet.rules p.path.rule) (λ n. LeadsTo u n p.path.steps p.node) (All-contains (IsPiece sheet) (pieces sheet) p (all_reached sheet) there) in
    let i = joint_at u path ([], root.0.states) k rest p.node (subst (λ xs. LeadsTo u ([], root.0.states) xs p.node) is root.2) in
    record { joint = i.joint; at = ap (λ o. node_from u (root_of o) path) root.1 ∙ i.at; is = i.is; next = i.next; child_at = i.child_at }

-- ---- the clause of the child on the way

each_slice : {X : Type 0} (f : ℕ → X) (a n k : ℕ) (rest : List X) → k < n → slice_get (map f (range_with_len a n) ++ rest) k ≡ Some (f (a + k))
each_slice f a zero k rest l = absurd (omega (arith, l))
each_slice f a (suc n) zero rest l = let e : a ≡ a + 0 = omega arith in ap (λ i. Some (f i)) e
each_slice f a (suc n) (suc k) rest l = let e : a + 1 + k ≡ a + suc k = omega arith in each_slice f (a + 1) n k rest (omega (arith, l)) ∙ ap (λ i. Some (f i)) e

pub part_below : (scope : Scope) (ss : Statements) (k : ℕ) (n : Node) → part_at scope ss k ≡ Some n → k < parts_in ss
part_below scope no_statements k n h = absurd (cc)
part_below scope (statement s ss) zero n h = omega arith
part_below scope (statement s ss) (suc k) n h = let below = part_below scope ss k n h in omega arith

body_below : (b : Bool) (x y : Node) → cond b (Some x) None ≡ Some y → b ≡ true
body_below true x y h = refl
body_below false x y h = absurd (cc)

module _ (u : Universe) (p : Symbol) (c : ℕ → Symbol) where
  abbrev pub way_clause : ℕ → List Literal
  way_clause k = negative p ∷ positive (c k) ∷ []

  all_slice : (n k : ℕ) → k < n → slice_get (clauses_of_all p c n) k ≡ Some (way_clause k)
  all_slice n k l = each_slice way_clause 0 n k ((positive p ∷ each_below n (λ j. negative (c j))) ∷ []) l ∙ ap (λ i. Some (way_clause i)) (zero-add k)

  pub joint_clause : (scope : Scope) (s : Statement) → IsJoint s → (k : ℕ) (n : Node) → child u (scope, s) k ≡ Some n → slice_get (clauses_of_node p c u s) k ≡ Some (way_clause k)
  joint_clause scope (compare left op right) j k n h = absurd j
  joint_clause scope (in_table t xs) j k n h = absurd j
  joint_clause scope (negation s) j k n h = absurd j
  joint_clause scope (all_of ss) j k n h = all_slice (parts_in ss) k (part_below scope ss k n h)
  joint_clause scope (some_of ss) j k n h = absurd j
  joint_clause scope (implies s t) j k n h = absurd j
  joint_clause scope (iff s t) j k n h = absurd j
  joint_clause scope (for_all name s body) j k n h =
      all_slice (size_of u s) k ((Decides-ltb k (size_of u s)).0 (body_below (nat_lt k (size_of u s)) (scope ++ (s, record { 0 = k }) ∷ [], body) n h))
  joint_clause scope (exists name s body) j k n h = absurd j
  joint_clause scope (counts c name s body) j k n h = absurd j

-- a joint node's clauses are by their numbers
pub joint_number : (sheet : Sheet) (r : ℕ) (path : List ℕ) (s : Statement) → IsJoint s → (i : ℕ) (clause : List Literal) → IsClauseOfKind sheet r path (kind_of sheet.universe s) i clause
    → IsAtNumber (clauses_of_node (node r path) (child_of r path) sheet.universe s) i clause
joint_number sheet r path (compare left op right) j i clause h = absurd j
joint_number sheet r path (in_table t xs) j i clause h = absurd j
joint_number sheet r path (negation s) j i clause h = absurd j
joint_number sheet r path (all_of ss) j i clause h = h
joint_number sheet r path (some_of ss) j i clause h = absurd j
joint_number sheet r path (implies s t) j i clause h = absurd j
joint_number sheet r path (iff s t) j i clause h = absurd j
joint_number sheet r path (for_all name s body) j i clause h = h
joint_number sheet r path (exists name s body) j i clause h = absurd j
joint_number sheet r path (counts c name s body) j i clause h = absurd j

module _ (u : Universe) (r : ℕ) (path : List ℕ) where
  numbered_has : (i : ℕ) (cs : List (List Literal)) (k : ℕ) (clause : List Literal) → slice_get cs k ≡ Some clause → Contains (numbered_axioms r path i cs) (record { name = axiom_node r path (i + k); clause = clause })
  numbered_has i [] k clause h = absurd (cc)
  numbered_has i (c ∷ cs) zero clause h =
      let here : i ≡ i + 0 = omega arith in
      let same : c ≡ clause = cc in
      let make : ℕ → List Literal → GroundAxiom = λ j d. record { name = axiom_node r path j; clause = d } in
      subst (Contains (numbered_axioms r path i (c ∷ cs))) (ap (λ j. make j c) here ∙ ap (make (i + 0)) same) (contains_first (make i c) (numbered_axioms r path (i + 1) cs))
  numbered_has i (c ∷ cs) (suc k) clause h =
      let there : i + 1 + k ≡ i + suc k = omega arith in
      let make : ℕ → GroundAxiom = λ j. record { name = axiom_node r path j; clause = clause } in
      contains_later (record { name = axiom_node r path i; clause = c }) (numbered_axioms r path (i + 1) cs) (make (i + suc k))
      (subst (λ j. Contains (numbered_axioms r path (i + 1) cs) (make j)) there (numbered_has (i + 1) cs k clause h))

  own_there : (scope : Scope) (s : Statement) → IsJoint s → (g : GroundAxiom) → Contains (own_axioms u r path s) g → Contains (node_axioms u r path scope s) g
  own_there scope (compare left op right) j g h = absurd j
  own_there scope (in_table t xs) j g h = absurd j
  own_there scope (negation s) j g h = absurd j
  own_there scope (all_of ss) j g h = Contains-append_left (own_axioms u r path (all_of ss)) (parts_axioms u r path scope 0 ss) g h
  own_there scope (some_of ss) j g h = absurd j
  own_there scope (implies s t) j g h = absurd j
  own_there scope (iff s t) j g h = absurd j
  own_there scope (for_all name s body) j g h =
      Contains-append_left (own_axioms u r path (for_all name s body)) (flat_map (λ v. node_axioms u r (path ++ v.0 ∷ []) (scope ++ (s, v) ∷ []) body) (values_below (size_of u s))) g h
  own_there scope (exists name s body) j g h = absurd j
  own_there scope (counts c name s body) j g h = absurd j

abbrev pub way_axiom : ℕ → List ℕ → ℕ → GroundAxiom
way_axiom r path k = record { name = axiom_node r path (1 + k); clause = negative (node r path) ∷ positive (child_of r path k) ∷ [] }

pub way_there : (sheet : Sheet) (r : ℕ) (path : List ℕ) (k : ℕ) → IsAbove sheet r path k → Contains (axioms sheet) (way_axiom r path k)
way_there sheet r path k i =
    let u = sheet.universe in
    node_there sheet r path i.joint i.at (way_axiom r path k)
    (own_there u r path i.joint.0 i.joint.1 i.is (way_axiom r path k)
    (numbered_has u r path 1 (clauses_of_node (node r path) (child_of r path) u i.joint.1) k (negative (node r path) ∷ positive (child_of r path k) ∷ [])
    (joint_clause u (node r path) (child_of r path) i.joint.0 i.joint.1 i.is k i.next i.child_at)))
