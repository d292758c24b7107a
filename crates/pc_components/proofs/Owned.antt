-- The plain program gives for each axiom of a rule exactly the parts of the pieces that it touches.
use Rattle.std.proofs.Common.{◌≡◌, ℕ, zero, suc, ◌+◌, ◌<◌, ◌⊎◌, inl, inr, List, [], ◌∷◌, ◌++◌, append-nil, append_assoc, map, length, All, Contains, Some, slice_get, refl, ap, sym, ◌∙◌, subst, arith, zero-add}
use Rattle.std.specs.List.{flat_map, AllZip}
use Rattle.std.proofs.lemmas.Bool.{cases_eq, cases_lt}
use Rattle.std.proofs.lemmas.Option.{slice_get_within}
use Rattle.std.proofs.lemmas.List.{length-append, length-map}
use Rattle.std.proofs.lemmas.List.Elements.{All-nil, All-cons, All-append, All-contains, Contains-append_cases}
use Rattle.std.proofs.lemmas.List.FromFn.{length-map-range_with_len}
use Rattle.pc_sheet.specs.WellSorted.{parts_in}
use Rattle.pc_sheet.specs.Sheet.{Universe, NamedStatement, Statement, Statements, no_statements, statement, compare, in_table, negation, all_of, some_of, implies, iff, for_all, exists, counts}
use Rattle.pc_sheet.specs.Truth.{Scope}
use Rattle.pc_sheet.specs.Sizes.{size_of}
use Rattle.pc_sheet.specs.Cells.{values_below}
use Rattle.pc_sheet.specs.Nodes.{Node, part_at}
use Rattle.pc_sheet.specs.declared.ids.SortId.{SortId}
use Rattle.pc_sheet.specs.declared.ids.ValueId.{ValueId}
use Rattle.pc_accept.specs.Literals.{Literal, node, negative, positive}
use Rattle.pc_accept.specs.Axioms.{Axiom, axiom_some, axiom_one, axiom_rule, axiom_node, axiom_atom, each_below, clauses_of_all, child_of}
use Rattle.pc_parts.specs.Pieces.{Piece, piece, pieces_below, pieces_of_parts, pieces_from, pieces}
use Rattle.pc_parts.specs.Leaves.{cells_of, cells_under}
use Rattle.pc_lemmas.proofs.Elements.{contains_first, contains_later, contains_cases, contains_none, contains_map, contains_mapped, all_from}
use Rattle.pc_laws.proofs.ValueLists.{values_each, value_there, there_value}
use Rattle.pc_parts.proofs.Listed.{in_parts, rules_listed}
use Rattle.pc_ground.proofs.Lists.{flat_push}
use Rattle.pc_ground.specs.Ground.{GroundAxiom, numbered_axioms, node_axioms, parts_axioms, rule_axioms, rules_axioms}
use Rattle.pc_ground.specs.PieceCells.{piece_cells}
use Rattle.pc_components.specs.inside.Owners.{of_one, parts_under, parts_of_children, owners, owners_of_parts, owners_of_rules, Touches, AreOwners, OwnersAreFound}
use Rattle.pc_components.proofs.Inside.{IsInside, inside}
use Rattle.pc_components.proofs.PartFor.{slice_map}
use Rattle.pc_ground.proofs.PieceCellsListed.{below}
use Rattle.pc_components.proofs.Way.{part_below}
use Rattle.pc_lemmas.proofs.Options.{same_some}

-- ---- two lists, element by element

pub zip_append : {X Y : Type 0} (R : X → Y → Type 0) (xs zs : List X) (ys ws : List Y) → AllZip R xs ys → AllZip R zs ws → AllZip R (xs ++ zs) (ys ++ ws)
zip_append R [] zs [] ws h k = k
zip_append R [] zs (y ∷ ys) ws h k = absurd h
zip_append R (x ∷ xs) zs [] ws h k = absurd h
zip_append R (x ∷ xs) zs (y ∷ ys) ws h k = (h.0, zip_append R xs zs ys ws h.1 k)

pub zip_wider : {X Y : Type 0} (R S : X → Y → Type 0) (xs : List X) (ys : List Y) → ((x : X) (y : Y) → Contains xs x → R x y → S x y) → AllZip R xs ys → AllZip S xs ys
zip_wider R S [] [] f h = tt
zip_wider R S [] (y ∷ ys) f h = absurd h
zip_wider R S (x ∷ xs) [] f h = absurd h
zip_wider R S (x ∷ xs) (y ∷ ys) f h = (f x y (contains_first x xs) h.0, zip_wider R S xs ys (λ z w c r. f z w (contains_later x xs z c) r) h.1)

pub zip_one : (R : GroundAxiom → List ℕ → Type 0) (i : ℕ) (gs : List GroundAxiom) → ((g : GroundAxiom) → Contains gs g → R g (i ∷ [])) → AllZip R gs (of_one i gs)
zip_one R i [] h = tt
zip_one R i (g ∷ gs) h = (h g (contains_first g gs), zip_one R i gs (λ q c. h q (contains_later g gs q c)))

zip_values : (R : GroundAxiom → List ℕ → Type 0) (f : ValueId → List GroundAxiom) (h : ValueId → List (List ℕ)) (n : ℕ) → ((v : ValueId) → v.0 < n → AllZip R (f v) (h v)) → AllZip R (flat_map f (values_below n)) (flat_map h (values_below n))
zip_values R f h zero e = tt
zip_values R f h (suc n) e =
    let last : ValueId = record { 0 = n } in
    let before = zip_values R f h n (λ v l. e v (omega arith)) in
    let all = zip_append R (flat_map f (values_below n)) (f last) (flat_map h (values_below n)) (h last) before (e last (omega arith)) in
    subst (λ xs. AllZip R xs (flat_map h (values_below (suc n)))) (sym (flat_push f n))
    (subst (AllZip R (flat_map f (values_below n) ++ f last)) (sym (flat_push h n)) all)

-- by the number in the name
numbered_zip : (R : GroundAxiom → List ℕ → Type 0) (r : ℕ) (path : List ℕ) (i : ℕ) (cs : List (List Literal)) (os : List (List ℕ)) → length cs ≡ length os
    → ((j : ℕ) (o : List ℕ) (clause : List Literal) → slice_get os j ≡ Some o → R (record { name = axiom_node r path (i + j); clause = clause }) o) → AllZip R (numbered_axioms r path i cs) os
numbered_zip R r path i [] [] e h = tt
numbered_zip R r path i [] (o ∷ os) e h = absurd (omega arith)
numbered_zip R r path i (c ∷ cs) [] e h = absurd (omega arith)
numbered_zip R r path i (c ∷ cs) (o ∷ os) e h =
    let here : i + 0 ≡ i = omega arith in (
      subst (λ k. R (record { name = axiom_node r path k; clause = c }) o) here (h 0 o c refl),
      numbered_zip R r path (i + 1) cs os (omega arith) (λ j p clause is. let there : i + suc j ≡ i + 1 + j = omega arith in subst (λ k. R (record { name = axiom_node r path k; clause = clause }) p) there (h (suc j) p clause is)),
    )

-- ---- paths

cancel : (path xs ys : List ℕ) → path ++ xs ≡ path ++ ys → xs ≡ ys
cancel [] xs ys e = e
cancel (k ∷ ks) xs ys e = cancel ks xs ys cc

pub first_is : (j k : ℕ) (xs ys : List ℕ) → j ∷ xs ≡ k ∷ ys → j ≡ k
first_is j k xs ys e = cc

-- the piece is at or under the path
abbrev Extends : ℕ → List ℕ → Piece → Type 0
Extends r path p = (p.path.rule ≡ r) × (rest : List ℕ) × (p.path.steps ≡ path ++ rest)

-- what touches a piece under one child is not inside another
same_child : (r : ℕ) (path : List ℕ) (j k : ℕ) (cells : List ℕ) (x : Axiom) (p : Piece) → IsInside r (path ++ j ∷ []) cells x → Extends r (path ++ k ∷ []) p → Touches x p → j ≡ k
same_child r path j k cells (axiom_some c) p i e t = absurd i
same_child r path j k cells (axiom_one c v w) p i e t = absurd i
same_child r path j k cells (axiom_rule q) p i e t = absurd i
same_child r path j k cells (axiom_node q way n) p i e (inl t) =
    first_is j k i.1 (e.1 ++ t.1) (cancel path (j ∷ i.1) (k ∷ (e.1 ++ t.1))
    (sym (i.2 ∙ append_assoc path (j ∷ []) i.1) ∙ t.2 ∙ ap (λ xs. xs ++ t.1) (e.2 ∙ append_assoc path (k ∷ []) e.1) ∙ append_assoc path (k ∷ e.1) t.1))
same_child r path j k cells (axiom_node q way n) p i e (inr (m, number, t)) =
    sym (first_is k j e.1 (i.1 ++ m ∷ t.1) (cancel path (k ∷ e.1) (j ∷ (i.1 ++ m ∷ t.1))
    (sym (e.2 ∙ append_assoc path (k ∷ []) e.1) ∙ t.2 ∙ ap (λ xs. xs ++ m ∷ t.1) (i.2 ∙ append_assoc path (j ∷ []) i.1) ∙ append_assoc path (j ∷ i.1) (m ∷ t.1))))
same_child r path j k cells (axiom_atom q way reads) p i e t =
    first_is j k i.0.1 (e.1 ++ t.1) (cancel path (j ∷ i.0.1) (k ∷ (e.1 ++ t.1))
    (sym (i.0.2 ∙ append_assoc path (j ∷ []) i.0.1) ∙ t.2 ∙ ap (λ xs. xs ++ t.1) (e.2 ∙ append_assoc path (k ∷ []) e.1) ∙ append_assoc path (k ∷ e.1) t.1))

-- a joint node's clause for child j touches a piece under child k where these are the same
way_child : (r : ℕ) (path : List ℕ) (j k : ℕ) (p : Piece) → Extends r (path ++ k ∷ []) p → Touches (axiom_node r path (1 + j)) p → j ≡ k
way_child r path j k p e (inl t) =
    absurd (let none : [] ≡ k ∷ (e.1 ++ t.1) = cancel path [] (k ∷ (e.1 ++ t.1)) (append-nil path ∙ t.2 ∙ ap (λ xs. xs ++ t.1) (e.2 ∙ append_assoc path (k ∷ []) e.1) ∙ append_assoc path (k ∷ e.1) t.1) in cc)
way_child r path j k p e (inr (m, number, t)) =
    let same : k ≡ m = first_is k m e.1 t.1 (cancel path (k ∷ e.1) (m ∷ t.1) (sym (e.2 ∙ append_assoc path (k ∷ []) e.1) ∙ t.2)) in
    omega arith

child_way : (r : ℕ) (path : List ℕ) (j : ℕ) (p : Piece) → Extends r (path ++ j ∷ []) p → Touches (axiom_node r path (1 + j)) p
child_way r path j p e = let number : 1 + j ≡ j + 1 = omega arith in inr (j, number, (e.0, e.1, e.2 ∙ append_assoc path (j ∷ []) e.1))

-- ---- pieces under a node extend its path

module _ (u : Universe) (r : ℕ) where
  one_extends : (path : List ℕ) (scope : Scope) (s : Statement) → All (Extends r path) (piece r path scope s ∷ [])
  one_extends path scope s = All-cons (Extends r path) (piece r path scope s) [] (refl, [], sym (append-nil path)) (All-nil (Extends r path))

  up : (path : List ℕ) (k : ℕ) (ps : List Piece) → All (Extends r (path ++ k ∷ [])) ps → All (Extends r path) ps
  up path k ps h = all_from (Extends r path) ps (λ p c. let e = All-contains (Extends r (path ++ k ∷ [])) ps p h c in (e.0, k ∷ e.1, e.2 ∙ append_assoc path (k ∷ []) e.1))

  mutual
    extend : (path : List ℕ) (scope : Scope) (s : Statement) → All (Extends r path) (pieces_below u r path scope s)
    extend path scope (compare left op right) = one_extends path scope (compare left op right)
    extend path scope (in_table t xs) = one_extends path scope (in_table t xs)
    extend path scope (negation s) = one_extends path scope (negation s)
    extend path scope (all_of ss) = extend_parts path scope 0 ss
    extend path scope (some_of ss) = one_extends path scope (some_of ss)
    extend path scope (implies s t) = one_extends path scope (implies s t)
    extend path scope (iff s t) = one_extends path scope (iff s t)
    extend path scope (for_all name s body) =
        values_each (Extends r path) (λ v. pieces_below u r (path ++ v.0 ∷ []) (scope ++ (s, v) ∷ []) body) (size_of u s)
        (λ v l. up path v.0 (pieces_below u r (path ++ v.0 ∷ []) (scope ++ (s, v) ∷ []) body) (extend (path ++ v.0 ∷ []) (scope ++ (s, v) ∷ []) body))
    extend path scope (exists name s body) = one_extends path scope (exists name s body)
    extend path scope (counts c name s body) = one_extends path scope (counts c name s body)

    extend_parts : (path : List ℕ) (scope : Scope) (k : ℕ) (ss : Statements) → All (Extends r path) (pieces_of_parts u r path scope k ss)
    extend_parts path scope k no_statements = All-nil (Extends r path)
    extend_parts path scope k (statement s ss) =
        All-append (Extends r path) (pieces_below u r (path ++ k ∷ []) scope s) (pieces_of_parts u r path scope (k + 1) ss)
        (up path k (pieces_below u r (path ++ k ∷ []) scope s) (extend (path ++ k ∷ []) scope s)) (extend_parts path scope (k + 1) ss)

  -- the child that a piece is under
  of_part : (path : List ℕ) (scope : Scope) (k : ℕ) (ss : Statements) (p : Piece) → Contains (pieces_of_parts u r path scope k ss) p
      → (j : ℕ) × (n : Node) × (part_at scope ss j ≡ Some n) × Contains (pieces_below u r (path ++ (k + j) ∷ []) n.0 n.1) p
  of_part path scope k no_statements p h = absurd (contains_none p h)
  of_part path scope k (statement s ss) p h = elim (Contains-append_cases (pieces_below u r (path ++ k ∷ []) scope s) (pieces_of_parts u r path scope (k + 1) ss) p h) [
    | inl here ↦ let e : k ≡ k + 0 = omega arith in (0, (scope, s), refl, subst (λ i. Contains (pieces_below u r (path ++ i ∷ []) scope s) p) e here)
    | inr later ↦
        let rest = of_part path scope (k + 1) ss p later in
        let e : k + 1 + rest.0 ≡ k + suc rest.0 = omega arith in
        (suc rest.0, rest.1, rest.2, subst (λ i. Contains (pieces_below u r (path ++ i ∷ []) rest.1.0 rest.1.1) p) e rest.3)
  ]

-- ---- places

pub slice_left : {X : Type 0} (xs ys : List X) (j : ℕ) (x : X) → slice_get xs j ≡ Some x → slice_get (xs ++ ys) j ≡ Some x
slice_left [] ys j x h = absurd (cc)
slice_left (z ∷ zs) ys zero x h = h
slice_left (z ∷ zs) ys (suc j) x h = slice_left zs ys j x h

pub slice_end : {X : Type 0} (xs : List X) (x : X) → slice_get (xs ++ x ∷ []) (length xs) ≡ Some x
slice_end [] x = refl
slice_end (z ∷ zs) x = slice_end zs x

many_values : (n : ℕ) → length (values_below n) ≡ n
many_values zero = refl
many_values (suc n) = let last : ValueId = record { 0 = n } in let rest = many_values n in length-append (values_below n) (last ∷ []) ∙ omega arith

value_at : (n j : ℕ) → j < n → slice_get (values_below n) j ≡ Some (record { 0 = j })
value_at zero j l = absurd (omega arith)
value_at (suc n) j l =
    let last : ValueId = record { 0 = n } in
    elim (cases_eq j n) [
      | inl same ↦ let here : slice_get (values_below n ++ last ∷ []) j ≡ Some last = ap (slice_get (values_below n ++ last ∷ [])) (same ∙ sym (many_values n)) ∙ slice_end (values_below n) last in here ∙ ap (λ k. let v : ValueId = record { 0 = k } in Some v) (sym same)
      | inr other ↦ slice_left (values_below n) (last ∷ []) j (record { 0 = j }) (value_at n j (omega arith))
    ]

-- of a list for each value and an empty one
list_at : (h : ValueId → List ℕ) (n j : ℕ) (o : List ℕ) → slice_get (map h (values_below n) ++ [] ∷ []) j ≡ Some o → ((j < n) × (h (record { 0 = j }) ≡ o)) ⊎ ((j ≡ n) × (o ≡ []))
list_at h n j o is =
    let xs = map h (values_below n) in
    let none : List ℕ = [] in
    let many : length xs ≡ n = length-map (values_below n) h ∙ many_values n in
    let whole = length-append xs (none ∷ []) in
    let below' = slice_get_within (xs ++ none ∷ []) j o is in
    elim (cases_lt j n) [
      | inl l ↦ inl (l, same_some (sym (slice_left xs (none ∷ []) j (h (record { 0 = j })) (slice_map h (values_below n) j (record { 0 = j }) (value_at n j l))) ∙ is))
      | inr g ↦
          let end : j ≡ n = omega arith in
          inr (end, same_some (sym is ∙ ap (slice_get (xs ++ none ∷ [])) (end ∙ sym many) ∙ slice_end xs none))
    ]

module _ (u : Universe) (number : List ℕ → ℕ) where
  -- of a list for each child and an empty one
  child_at : (scope : Scope) (ss : Statements) (j : ℕ) (o : List ℕ) → slice_get (parts_of_children u number scope ss ++ [] ∷ []) j ≡ Some o
      → ((n : Node) × (part_at scope ss j ≡ Some n) × (parts_under u number n.0 n.1 ≡ o)) ⊎ ((j ≡ parts_in ss) × (o ≡ []))
  child_at scope no_statements zero o is = inr (refl, sym (same_some is))
  child_at scope no_statements (suc j) o is = absurd (cc)
  child_at scope (statement s ss) zero o is = inl ((scope, s), refl, same_some is)
  child_at scope (statement s ss) (suc j) o is = elim (child_at scope ss j o is) [ inl h ↦ inl h | inr h ↦ inr (ap suc h.0, h.1) ]

  many_children : (scope : Scope) (ss : Statements) → length (parts_of_children u number scope ss) ≡ parts_in ss
  many_children scope no_statements = refl
  many_children scope (statement s ss) = ap suc (many_children scope ss)

  module _ (r : ℕ) where
    abbrev Own : List Piece → GroundAxiom → List ℕ → Type 0
    Own ps g os = AreOwners u number ps g os

    inside_touches : (path : List ℕ) (scope : Scope) (s : Statement) (cells : List ℕ) (x : Axiom) → IsInside r path cells x → Touches x (piece r path scope s)
    inside_touches path scope s cells (axiom_some c) i = absurd i
    inside_touches path scope s cells (axiom_one c v w) i = absurd i
    inside_touches path scope s cells (axiom_rule q) i = absurd i
    inside_touches path scope s cells (axiom_node q way k) i = inl i
    inside_touches path scope s cells (axiom_atom q way reads) i = i.0

    -- all axioms of a piece are of its part
    alone : (path : List ℕ) (scope : Scope) (s : Statement) → AllZip (Own (piece r path scope s ∷ [])) (node_axioms u r path scope s) (of_one (number (cells_under u scope s)) (node_axioms u r path scope s))
    alone path scope s =
        let p = piece r path scope s in
        let n = number (cells_under u scope s) in
        zip_one (Own (p ∷ [])) n (node_axioms u r path scope s) (λ g c i. (
          λ h. elim (contains_cases n [] i h) [
            | inl same ↦ (p, contains_first p [], same, inside_touches path scope s (cells_under u scope s) g.name (All-contains (λ q. IsInside r path (cells_under u scope s) q.name) (node_axioms u r path scope s) g (inside u r path scope s) c))
            | inr none ↦ absurd (contains_none i none)
          ],
          λ h. elim (contains_cases p [] h.0 h.1) [
            | inl same ↦ subst (Contains (n ∷ [])) (ap (λ q. number (cells_of u q)) same ∙ h.2) (contains_first n [])
            | inr none ↦ absurd (contains_none h.0 none)
          ],
        ))

    -- among more pieces that don't touch
    among_more : (ps more : List Piece) (g : GroundAxiom) (os : List ℕ) → ((p : Piece) → Contains ps p → Contains more p) → ((p : Piece) → Contains more p → Touches g.name p → Contains ps p) → Own ps g os → Own more g os
    among_more ps more g os f back h i = (
      λ c. let k = (h i).0 c in (k.0, f k.0 k.1, k.2, k.3),
      λ k. (h i).1 (k.0, back k.0 k.1 k.3, k.2, k.3),
    )

    -- the parts of the pieces under a child
    under_has : (path : List ℕ) (scope : Scope) (s : Statement) (i : ℕ) → Contains (parts_under u number scope s) i → (p : Piece) × Contains (pieces_below u r path scope s) p × (number (cells_of u p) ≡ i)
    under_has path scope s i h =
        let cells = contains_mapped number (piece_cells u scope s) i h in
        let p = contains_mapped (cells_of u) (pieces_below u r path scope s) cells.0 (subst (λ xs. Contains xs cells.0) (sym (below u r path scope s)) cells.1) in
        (p.0, p.1, ap number p.2 ∙ cells.2)

    has_under : (path : List ℕ) (scope : Scope) (s : Statement) (i : ℕ) (p : Piece) → Contains (pieces_below u r path scope s) p → number (cells_of u p) ≡ i → Contains (parts_under u number scope s) i
    has_under path scope s i p h e =
        subst (Contains (parts_under u number scope s)) e
        (contains_map number (piece_cells u scope s) (cells_of u p) (subst (λ xs. Contains xs (cells_of u p)) (below u r path scope s) (contains_map (cells_of u) (pieces_below u r path scope s) p h)))

    extends_of : (path : List ℕ) (scope : Scope) (s : Statement) (p : Piece) → Contains (pieces_below u r path scope s) p → Extends r path p
    extends_of path scope s p h = All-contains (Extends r path) (pieces_below u r path scope s) p (extend u r path scope s) h

    -- ---- a conjunction's clauses

    part_way : (path : List ℕ) (scope : Scope) (ss : Statements) (j : ℕ) (o : List ℕ) (clause : List Literal) → slice_get (parts_of_children u number scope ss ++ [] ∷ []) j ≡ Some o
        → Own (pieces_of_parts u r path scope 0 ss) (record { name = axiom_node r path (1 + j); clause = clause }) o
    part_way path scope ss j o clause is i = elim (child_at scope ss j o is) [
      | inl child ↦
          let n = child.0 in
          let way = path ++ j ∷ [] in (
            λ c.
                let p = under_has way n.0 n.1 i (subst (λ xs. Contains xs i) (sym child.2) c) in
                (p.0, in_parts u r path scope 0 ss j n p.0 child.1 (subst (λ k. Contains (pieces_below u r (path ++ k ∷ []) n.0 n.1) p.0) (sym (zero-add j)) p.1), p.2, child_way r path j p.0 (extends_of way n.0 n.1 p.0 p.1)),
            λ h.
                let found = of_part u r path scope 0 ss h.0 h.1 in
                let under = subst (λ k. Contains (pieces_below u r (path ++ k ∷ []) found.1.0 found.1.1) h.0) (zero-add found.0) found.3 in
                let same = way_child r path j found.0 h.0 (extends_of (path ++ found.0 ∷ []) found.1.0 found.1.1 h.0 under) h.3 in
                let same_node : found.1 ≡ n = same_some (sym found.2 ∙ ap (part_at scope ss) (sym same) ∙ child.1) in
                let here = subst (λ (m : Node). Contains (pieces_below u r (path ++ found.0 ∷ []) m.0 m.1) h.0) same_node under in
                subst (λ xs. Contains xs i) child.2 (has_under (path ++ found.0 ∷ []) n.0 n.1 i h.0 here h.2),
          )
      | inr last ↦ (
        λ c. absurd (contains_none i (subst (λ xs. Contains xs i) last.1 c)),
        λ h.
            let found = of_part u r path scope 0 ss h.0 h.1 in
            let under = subst (λ k. Contains (pieces_below u r (path ++ k ∷ []) found.1.0 found.1.1) h.0) (zero-add found.0) found.3 in
            let same = way_child r path j found.0 h.0 (extends_of (path ++ found.0 ∷ []) found.1.0 found.1.1 h.0 under) h.3 in
            let within = part_below scope ss found.0 found.1 found.2 in
            let end = last.0 in
            absurd (omega arith),
      )
    ]

    -- ---- a universal quantifier's clauses

    value_way : (path : List ℕ) (scope : Scope) (s : SortId) (body : Statement) (n j : ℕ) (o : List ℕ) (clause : List Literal)
        → slice_get (map (λ v. parts_under u number (scope ++ (s, v) ∷ []) body) (values_below n) ++ [] ∷ []) j ≡ Some o
        → Own (flat_map (λ v. pieces_below u r (path ++ v.0 ∷ []) (scope ++ (s, v) ∷ []) body) (values_below n)) (record { name = axiom_node r path (1 + j); clause = clause }) o
    value_way path scope s body n j o clause is i =
        let ps : ValueId → List Piece = λ v. pieces_below u r (path ++ v.0 ∷ []) (scope ++ (s, v) ∷ []) body in
        let v : ValueId = record { 0 = j } in
        elim (list_at (λ w. parts_under u number (scope ++ (s, w) ∷ []) body) n j o is) [
          | inl child ↦ (
            λ c.
                let p = under_has (path ++ j ∷ []) (scope ++ (s, v) ∷ []) body i (subst (λ xs. Contains xs i) (sym child.1) c) in
                (p.0, value_there ps n v p.0 child.0 p.1, p.2, child_way r path j p.0 (extends_of (path ++ j ∷ []) (scope ++ (s, v) ∷ []) body p.0 p.1)),
            λ h.
                let found = there_value ps n h.0 h.1 in
                let w = found.0 in
                let same = way_child r path j w.0 h.0 (extends_of (path ++ w.0 ∷ []) (scope ++ (s, w) ∷ []) body h.0 found.2) h.3 in
                let here = subst (λ k. Contains (ps (record { 0 = k })) h.0) (sym same) found.2 in
                subst (λ xs. Contains xs i) child.1 (has_under (path ++ j ∷ []) (scope ++ (s, v) ∷ []) body i h.0 here h.2),
          )
          | inr last ↦ (
            λ c. absurd (contains_none i (subst (λ xs. Contains xs i) last.1 c)),
            λ h.
                let found = there_value ps n h.0 h.1 in
                let same = way_child r path j found.0.0 h.0 (extends_of (path ++ found.0.0 ∷ []) (scope ++ (s, found.0) ∷ []) body h.0 found.2) h.3 in
                let within = found.1 in
                let end = last.0 in
                absurd (omega arith),
          )
        ]

    many_clauses : (path : List ℕ) (n : ℕ) → length (clauses_of_all (node r path) (child_of r path) n) ≡ n + 1
    many_clauses path n =
        let f : ℕ → List Literal = λ k. negative (node r path) ∷ positive (child_of r path k) ∷ [] in
        let last : List Literal = positive (node r path) ∷ each_below n (λ k. negative (child_of r path k)) in
        length-append (each_below n f) (last ∷ []) ∙ ap (λ k. k + 1) (length-map-range_with_len f 0 n)

    -- ---- nodes

    mutual
      owned : (path : List ℕ) (scope : Scope) (s : Statement) → AllZip (Own (pieces_below u r path scope s)) (node_axioms u r path scope s) (owners u number r path scope s)
      owned path scope (compare left op right) = alone path scope (compare left op right)
      owned path scope (in_table t xs) = alone path scope (in_table t xs)
      owned path scope (negation s) = alone path scope (negation s)
      owned path scope (all_of ss) =
          let big = pieces_of_parts u r path scope 0 ss in
          let none : List ℕ = [] in
          let cs = clauses_of_all (node r path) (child_of r path) (parts_in ss) in
          let lists = parts_of_children u number scope ss in
          zip_append (Own big) (numbered_axioms r path 1 cs) (parts_axioms u r path scope 0 ss) (lists ++ none ∷ []) (owners_of_parts u number r path scope 0 ss)
          (numbered_zip (Own big) r path 1 cs (lists ++ none ∷ []) (many_clauses path (parts_in ss) ∙ ap (λ k. k + 1) (sym (many_children scope ss)) ∙ sym (length-append lists (none ∷ []))) (λ j o clause is. part_way path scope ss j o clause is))
          (owned_parts path scope 0 ss big
          (λ j n is p h. in_parts u r path scope 0 ss j n p is h)
          (λ j n is x cells i p h t.
          let found = of_part u r path scope 0 ss p h in
          let same = same_child r path (0 + j) (0 + found.0) cells x p i (extends_of (path ++ (0 + found.0) ∷ []) found.1.0 found.1.1 p found.3) t in
          let same_place : found.0 ≡ j = omega arith in
          let same_node : found.1 ≡ n = same_some (sym found.2 ∙ ap (part_at scope ss) same_place ∙ is) in
          subst (λ (m : Node). Contains (pieces_below u r (path ++ (0 + j) ∷ []) m.0 m.1) p) same_node (subst (λ k. Contains (pieces_below u r (path ++ k ∷ []) found.1.0 found.1.1) p) (sym same) found.3)))
      owned path scope (some_of ss) = alone path scope (some_of ss)
      owned path scope (implies s t) = alone path scope (implies s t)
      owned path scope (iff s t) = alone path scope (iff s t)
      owned path scope (for_all name s body) =
          let n = size_of u s in
          let none : List ℕ = [] in
          let ps : ValueId → List Piece = λ v. pieces_below u r (path ++ v.0 ∷ []) (scope ++ (s, v) ∷ []) body in
          let gs : ValueId → List GroundAxiom = λ v. node_axioms u r (path ++ v.0 ∷ []) (scope ++ (s, v) ∷ []) body in
          let os : ValueId → List (List ℕ) = λ v. owners u number r (path ++ v.0 ∷ []) (scope ++ (s, v) ∷ []) body in
          let under : ValueId → List ℕ = λ v. parts_under u number (scope ++ (s, v) ∷ []) body in
          let big = flat_map ps (values_below n) in
          let cs = clauses_of_all (node r path) (child_of r path) n in
          let lists = map under (values_below n) in
          let many : length lists ≡ n = length-map (values_below n) under ∙ many_values n in
          zip_append (Own big) (numbered_axioms r path 1 cs) (flat_map gs (values_below n)) (lists ++ none ∷ []) (flat_map os (values_below n))
          (numbered_zip (Own big) r path 1 cs (lists ++ none ∷ []) (many_clauses path n ∙ ap (λ k. k + 1) (sym many) ∙ sym (length-append lists (none ∷ []))) (λ j o clause is. value_way path scope s body n j o clause is))
          (zip_values (Own big) gs os n (λ v l.
          zip_wider (Own (ps v)) (Own big) (gs v) (os v) (λ g o c h.
          let i = All-contains (λ q. IsInside r (path ++ v.0 ∷ []) (cells_under u (scope ++ (s, v) ∷ []) body) q.name) (gs v) g (inside u r (path ++ v.0 ∷ []) (scope ++ (s, v) ∷ []) body) c in
          among_more (ps v) big g o (λ p k. value_there ps n v p l k)
          (λ p k t.
          let found = there_value ps n p k in
          let same = same_child r path v.0 found.0.0 (cells_under u (scope ++ (s, v) ∷ []) body) g.name p i (extends_of (path ++ found.0.0 ∷ []) (scope ++ (s, found.0) ∷ []) body p found.2) t in
          subst (λ j. Contains (ps (record { 0 = j })) p) (sym same) found.2) h)
          (owned (path ++ v.0 ∷ []) (scope ++ (s, v) ∷ []) body)))
      owned path scope (exists name s body) = alone path scope (exists name s body)
      owned path scope (counts c name s body) = alone path scope (counts c name s body)

      owned_parts : (path : List ℕ) (scope : Scope) (k : ℕ) (ss : Statements) (big : List Piece)
          → ((j : ℕ) (n : Node) → part_at scope ss j ≡ Some n → (p : Piece) → Contains (pieces_below u r (path ++ (k + j) ∷ []) n.0 n.1) p → Contains big p)
          → ((j : ℕ) (n : Node) → part_at scope ss j ≡ Some n → (x : Axiom) (cells : List ℕ) → IsInside r (path ++ (k + j) ∷ []) cells x → (p : Piece) → Contains big p → Touches x p → Contains (pieces_below u r (path ++ (k + j) ∷ []) n.0 n.1) p)
          → AllZip (Own big) (parts_axioms u r path scope k ss) (owners_of_parts u number r path scope k ss)
      owned_parts path scope k no_statements big f back = tt
      owned_parts path scope k (statement s ss) big f back =
          let here : k + 0 ≡ k = omega arith in
          let gs = node_axioms u r (path ++ k ∷ []) scope s in
          let os = owners u number r (path ++ k ∷ []) scope s in
          let cells = cells_under u scope s in
          zip_append (Own big) gs (parts_axioms u r path scope (k + 1) ss) os (owners_of_parts u number r path scope (k + 1) ss)
          (zip_wider (Own (pieces_below u r (path ++ k ∷ []) scope s)) (Own big) gs os (λ g o c h.
          let i = All-contains (λ q. IsInside r (path ++ k ∷ []) cells q.name) gs g (inside u r (path ++ k ∷ []) scope s) c in
          among_more (pieces_below u r (path ++ k ∷ []) scope s) big g o
          (λ p l. f 0 (scope, s) refl p (subst (λ j. Contains (pieces_below u r (path ++ j ∷ []) scope s) p) (sym here) l))
          (λ p l t. subst (λ j. Contains (pieces_below u r (path ++ j ∷ []) scope s) p) here (back 0 (scope, s) refl g.name cells (subst (λ j. IsInside r (path ++ j ∷ []) cells g.name) (sym here) i) p l t)) h)
          (owned (path ++ k ∷ []) scope s))
          (owned_parts path scope (k + 1) ss big
          (λ j n is p l. let e : k + 1 + j ≡ k + suc j = omega arith in f (suc j) n is p (subst (λ m. Contains (pieces_below u r (path ++ m ∷ []) n.0 n.1) p) e l))
          (λ j n is x cs i p l t.
          let e : k + 1 + j ≡ k + suc j = omega arith in
          subst (λ m. Contains (pieces_below u r (path ++ m ∷ []) n.0 n.1) p) (sym e) (back (suc j) n is x cs (subst (λ m. IsInside r (path ++ m ∷ []) cs x) e i) p l t)))

-- ---- rules

touched_rule : (r : ℕ) (steps cells : List ℕ) (x : Axiom) (p : Piece) → IsInside r steps cells x → Touches x p → p.path.rule ≡ r
touched_rule r steps cells (axiom_some c) p i t = absurd i
touched_rule r steps cells (axiom_one c v w) p i t = absurd i
touched_rule r steps cells (axiom_rule q) p i t = absurd i
touched_rule r steps cells (axiom_node q way n) p i (inl t) = t.0 ∙ sym i.0
touched_rule r steps cells (axiom_node q way n) p i (inr (m, number, t)) = t.0 ∙ sym i.0
touched_rule r steps cells (axiom_atom q way reads) p i t = t.0 ∙ sym i.0.0

module _ (u : Universe) (number : List ℕ → ℕ) where
  abbrev Below : ℕ → NamedStatement → List Piece
  Below r rule = pieces_below u r [] [] rule.states

  rule_owned : (r : ℕ) (rule : NamedStatement) (big : List Piece) → ((p : Piece) → Contains (Below r rule) p → Contains big p) → ((p : Piece) → Contains big p → p.path.rule ≡ r → Contains (Below r rule) p)
      → AllZip (AreOwners u number big) (rule_axioms u r rule) (parts_under u number [] rule.states ∷ owners u number r [] [] rule.states)
  rule_owned r rule big f back = (
    λ i. (
      λ c. let p = under_has u number r [] [] rule.states i c in (p.0, f p.0 p.1, p.2, (extends_of u number r [] [] rule.states p.0 p.1).0),
      λ h. has_under u number r [] [] rule.states i h.0 (back h.0 h.1 h.3) h.2,
    ),
    zip_wider (AreOwners u number (Below r rule)) (AreOwners u number big) (node_axioms u r [] [] rule.states) (owners u number r [] [] rule.states) (λ g o c h.
        let i = All-contains (λ q. IsInside r [] (cells_under u [] rule.states) q.name) (node_axioms u r [] [] rule.states) g (inside u r [] [] rule.states) c in
        among_more u number r (Below r rule) big g o f (λ p k t. back p k (touched_rule r [] (cells_under u [] rule.states) g.name p i t)) h)
        (owned u number r [] [] rule.states),
  )

  rules_owned : (r : ℕ) (rules : List NamedStatement) (big : List Piece)
      → ((j : ℕ) (rule : NamedStatement) → slice_get rules j ≡ Some rule → (p : Piece) → Contains (Below (r + j) rule) p → Contains big p)
      → ((j : ℕ) (rule : NamedStatement) → slice_get rules j ≡ Some rule → (p : Piece) → Contains big p → p.path.rule ≡ r + j → Contains (Below (r + j) rule) p)
      → AllZip (AreOwners u number big) (rules_axioms u r rules) (owners_of_rules u number r rules)
  rules_owned r [] big f back = tt
  rules_owned r (rule ∷ rules) big f back =
      let here : r + 0 ≡ r = omega arith in
      zip_append (AreOwners u number big) (rule_axioms u r rule) (rules_axioms u (r + 1) rules) (parts_under u number [] rule.states ∷ owners u number r [] [] rule.states) (owners_of_rules u number (r + 1) rules)
      (rule_owned r rule big (λ p h. f 0 rule refl p (subst (λ k. Contains (Below k rule) p) (sym here) h)) (λ p h e. subst (λ k. Contains (Below k rule) p) here (back 0 rule refl p h (e ∙ sym here))))
      (rules_owned (r + 1) rules big
      (λ j other is p h. let e : r + 1 + j ≡ r + suc j = omega arith in f (suc j) other is p (subst (λ k. Contains (Below k other) p) e h))
      (λ j other is p h same. let e : r + 1 + j ≡ r + suc j = omega arith in subst (λ k. Contains (Below k other) p) (sym e) (back (suc j) other is p h (same ∙ e))))

  -- the rule that a piece is of
  of_rule : (r : ℕ) (rules : List NamedStatement) (p : Piece) → Contains (pieces_from u r rules) p → (j : ℕ) × (rule : NamedStatement) × (slice_get rules j ≡ Some rule) × Contains (Below (r + j) rule) p
  of_rule r [] p h = absurd (contains_none p h)
  of_rule r (rule ∷ rules) p h = elim (Contains-append_cases (Below r rule) (pieces_from u (r + 1) rules) p h) [
    | inl first ↦ let e : r ≡ r + 0 = omega arith in (0, rule, refl, subst (λ k. Contains (Below k rule) p) e first)
    | inr later ↦
        let rest = of_rule (r + 1) rules p later in
        let e : r + 1 + rest.0 ≡ r + suc rest.0 = omega arith in
        (suc rest.0, rest.1, rest.2, subst (λ k. Contains (Below k rest.1) p) e rest.3)
  ]

pub owners_are_found : OwnersAreFound
owners_are_found sheet number =
    let u = sheet.universe in
    rules_owned u number 0 sheet.rules (pieces sheet)
    (λ j rule is p h. rules_listed u 0 sheet.rules j rule is p h)
    (λ j rule is p h same.
    let found = of_rule u number 0 sheet.rules p h in
    let own = extends_of u number (0 + found.0) [] [] found.1.states p found.3 in
    let places : 0 + found.0 ≡ 0 + j = sym own.0 ∙ same in
    let place : found.0 ≡ j = omega arith in
    let same_rule : found.1 ≡ rule = same_some (sym found.2 ∙ ap (slice_get sheet.rules) place ∙ is) in
    subst (λ (q : NamedStatement). Contains (pieces_below u (0 + j) [] [] q.states) p) same_rule (subst (λ k. Contains (pieces_below u k [] [] found.1.states) p) places found.3))
