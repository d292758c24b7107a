-- The clauses of counting quantifiers and of their counters are true under every assignment.
use Rattle.std.proofs.Common.{◌≡◌, ℕ, zero, suc, ◌-◌, ◌*◌, ◌/◌, ◌%◌, ◌<◌, ◌≤◌, ◌⊎◌, ◌↔◌, inl, inr, Bool, true, false, cond, nat_lt, List, [], ◌∷◌, ◌++◌, Option, None, Some, IsSomeAnd, arith, refl, sym, subst}
use Rattle.std.specs.Option.{option_map}
use Rattle.std.proofs.lemmas.Bool.{false≢true}
use Rattle.std.proofs.lemmas.Bool.Decides.{Decides-ltb}
use Rattle.std.proofs.lemmas.Option.{same_Some}
use Rattle.pc_laws.specs.Laws.{IsDecided}
use Rattle.pc_laws.proofs.Decide.{decide, decide_at_least}
use Rattle.pc_lemmas.proofs.Elements.{contains_first, contains_later}
use Rattle.pc_lemmas.proofs.Options.{some_and}
use Rattle.pc_sheet.specs.Sheet.{Universe, Sheet, Counting, no_more_than, no_fewer_than, of_first, Statement, compare, in_table, negation, all_of, some_of, implies, iff, for_all, exists, counts}
use Rattle.pc_sheet.specs.Truth.{Scope, AtLeast, Holds}
use Rattle.pc_sheet.specs.Sizes.{size_of}
use Rattle.pc_sheet.specs.Nodes.{Node, NodeHolds, child, node_at, bodies_of, threshold_of, counter_number, kind_of}
use Rattle.pc_sheet.specs.declared.ids.SortId.{SortId}
use Rattle.pc_sheet.specs.declared.ids.ValueId.{ValueId}
use Rattle.pc_sheet.proofs.Counters.{body_child, placed, quotient_below}
use Rattle.pc_accept.specs.Literals.{Literal, SymbolHolds, LiteralHolds, ClauseHolds}
use Rattle.pc_accept.specs.Rows.{Part, fixed, literal, clause_of, IsAtRow, counter_part, count_rows, counter_rows, rows_of_counter, rows_of_child, rows_below_kind, parent_of, last_of}
use Rattle.pc_accept.specs.Axioms.{child_of, signed_node, signed_child, IsClauseOfKind}
use Rattle.pc_accept.proofs.Children.{node_is, child_node_is}

-- ---- rows

module _ {L : Type 0} (H : L → Type 0) where
  abbrev pub PartHolds : Part L → Type 0
  PartHolds (fixed b) = b ≡ true
  PartHolds (literal l) = H l

  -- some part is true
  abbrev pub RowHolds : List (Part L) → Type 0
  RowHolds [] = ⊥
  RowHolds (p ∷ ps) = PartHolds p ⊎ RowHolds ps

  abbrev pub SomeHolds : List L → Type 0
  SomeHolds [] = ⊥
  SomeHolds (l ∷ ls) = H l ⊎ SomeHolds ls

  pub row_true : (row : List (Part L)) (clause : List L) → clause_of row ≡ Some clause → RowHolds row → SomeHolds clause
  row_true [] clause is h = absurd h
  row_true (fixed true ∷ ps) clause is h = absurd (cc)
  row_true (fixed false ∷ ps) clause is (inl h) = absurd (false≢true h)
  row_true (fixed false ∷ ps) clause is (inr h) = row_true ps clause is h
  row_true (literal l ∷ ps) clause is h = by (clause_of ps) (λ ls same later. row_true ps ls same later) is
    where
      by : (rest : Option (List L)) → ((ls : List L) → rest ≡ Some ls → RowHolds ps → SomeHolds ls) → option_map (λ ls. l ∷ ls) rest ≡ Some clause → SomeHolds clause
      by None each none = absurd (cc)
      by (Some ls) each made =
          subst SomeHolds (same_Some (l ∷ ls) clause made) (elim h [ inl here ↦ inl here | inr later ↦ inr (each ls refl later) ])

  -- each row is true
  abbrev pub RowsHold : List (List (Part L)) → Type 0
  RowsHold [] = Unit {0}
  RowsHold (row ∷ rows) = RowHolds row × RowsHold rows

  pub rows_true : (rows : List (List (Part L))) (i : ℕ) (clause : List L) → RowsHold rows → IsAtRow rows i clause → SomeHolds clause
  rows_true rows zero clause h at = absurd at
  rows_true [] (suc i) clause h at = absurd at
  rows_true (row ∷ rows) (suc zero) clause h at = row_true row clause at h.0
  rows_true (row ∷ rows) (suc (suc i)) clause h at = rows_true rows (suc i) clause h.1 at

-- ---- a counting quantifier and its counters

module _ (sheet : Sheet) (a : List ValueId) where
  pub some_literal : (clause : List Literal) → SomeHolds (LiteralHolds sheet a) clause → ClauseHolds sheet a clause
  some_literal [] h = absurd h
  some_literal (l ∷ ls) (inl h) = (l, contains_first l ls, h)
  some_literal (l ∷ ls) (inr h) = let later = some_literal ls h in (later.0, contains_later l ls later.0 later.1, later.2)

  module _ (r : ℕ) (path : List ℕ) (scope : Scope) (c : Counting) (name : List ℕ) (s : SortId) (body : Statement) (at : node_at sheet r path ≡ Some (scope, counts c name s body)) where
    abbrev u : Universe
    u = sheet.universe

    abbrev n : ℕ
    n = bodies_of c (size_of u s)

    abbrev m : ℕ
    m = threshold_of c

    -- the body under a value
    abbrev Body : ValueId → Type 0
    Body v = Holds u a (scope ++ (s, v) ∷ []) body

    abbrev True : Literal → Type 0
    True l = LiteralHolds sheet a l

    abbrev part : ℕ → ℕ → Bool → Part Literal
    part i j b = counter_part (signed_node r path) (signed_child r path) n m i j b

    through : (k : ℕ) (x : Node) → child u (scope, counts c name s body) k ≡ Some x → SymbolHolds sheet a (child_of r path k) ↔ NodeHolds u a x
    through k x is =
        let said = child_node_is sheet a r path scope (counts c name s body) at k in
        let P : Option Node → Type 0 = λ o. IsSomeAnd o (NodeHolds u a) in
        (λ h. subst P is (said.0 h), λ h. said.1 (subst P (sym is) h))

    body_is : (i : ℕ) → i < n → SymbolHolds sheet a (child_of r path i) ↔ Body (record { 0 = i })
    body_is i l = through i (scope ++ (s, record { 0 = i }) ∷ [], body) (body_child scope n m name s body i l)

    counter_is : (i j : ℕ) → i < n → j < m → SymbolHolds sheet a (child_of r path (counter_number n m (suc i) (suc j))) ↔ AtLeast Body (suc i) (suc j)
    counter_is i j l k = through (counter_number n m (suc i) (suc j)) (scope, counts (of_first m (suc i) (suc j)) name s body) (placed scope n m name s body i j l k)

    part_true : (i j : ℕ) → i ≤ n → j ≤ m → AtLeast Body i j → PartHolds True (part i j true)
    part_true i zero l k h = refl
    part_true zero (suc j) l k h = absurd h
    part_true (suc i) (suc j) l k h = (counter_is i j (omega arith) (omega arith)).1 h

    part_false : (i j : ℕ) → i ≤ n → j ≤ m → ¬ AtLeast Body i j → PartHolds True (part i j false)
    part_false i zero l k h = absurd (h tt)
    part_false zero (suc j) l k h = refl
    part_false (suc i) (suc j) l k h = λ t. h ((counter_is i j (omega arith) (omega arith)).0 t)

    counted : (i j : ℕ) → IsDecided (AtLeast Body i j)
    counted i j = decide_at_least Body (λ v. decide u a (scope ++ (s, v) ∷ []) body) i j

    -- the four rows of a counter
    counter_true : (i j : ℕ) → i < n → j < m → RowsHold True (counter_rows (signed_node r path) (signed_child r path) n m i j)
    counter_true i j l k =
        (first, (second, (third, (fourth, tt))))
      where
        off : AtLeast Body (suc i) (suc j) → AtLeast Body i (suc j) ⊎ (AtLeast Body i j × Body (record { 0 = i }))
        off h = h

        first : RowHolds True (part (suc i) (suc j) false ∷ part i (suc j) true ∷ literal (signed_child r path i true) ∷ [])
        first = elim (counted (suc i) (suc j)) [
          | inr none ↦ inl (part_false (suc i) (suc j) (omega arith) (omega arith) none)
          | inl some ↦ elim (off some) [
            | inl before ↦ inr (inl (part_true i (suc j) (omega arith) (omega arith) before))
            | inr here ↦ inr (inr (inl ((body_is i l).1 here.1)))
          ]
        ]

        second : RowHolds True (part (suc i) (suc j) false ∷ part i (suc j) true ∷ part i j true ∷ [])
        second = elim (counted (suc i) (suc j)) [
          | inr none ↦ inl (part_false (suc i) (suc j) (omega arith) (omega arith) none)
          | inl some ↦ elim (off some) [
            | inl before ↦ inr (inl (part_true i (suc j) (omega arith) (omega arith) before))
            | inr here ↦ inr (inr (inl (part_true i j (omega arith) (omega arith) here.0)))
          ]
        ]

        third : RowHolds True (part (suc i) (suc j) true ∷ part i (suc j) false ∷ [])
        third = elim (counted i (suc j)) [
          | inl before ↦ inl (part_true (suc i) (suc j) (omega arith) (omega arith) (inl before))
          | inr none ↦ inr (inl (part_false i (suc j) (omega arith) (omega arith) none))
        ]

        fourth : RowHolds True (part (suc i) (suc j) true ∷ part i j false ∷ literal (signed_child r path i false) ∷ [])
        fourth = elim (counted i j) [
          | inr none ↦ inr (inl (part_false i j (omega arith) (omega arith) none))
          | inl fewer ↦ elim (decide u a (scope ++ (s, record { 0 = i }) ∷ []) body) [
            | inl here ↦ inl (part_true (suc i) (suc j) (omega arith) (omega arith) (inr (fewer, here)))
            | inr not_here ↦ inr (inr (inl (λ t. not_here ((body_is i l).0 t))))
          ]
        ]

    -- the two rows of the node, which is the last counter or its negation
    at_least_true : Holds u a scope (counts c name s body) ↔ AtLeast Body n m → RowsHold True (count_rows (signed_node r path) (signed_child r path) n m false)
    at_least_true says =
        let p = node_is sheet a r path scope (counts c name s body) at in
        elim (counted n m) [
          | inl many ↦ (inr (inl (part_true n m (omega arith) (omega arith) many)), (inl (p.1 (says.1 many)), tt))
          | inr few ↦ (inl (λ t. few (says.0 (p.0 t))), (inr (inl (part_false n m (omega arith) (omega arith) few)), tt))
        ]

    at_most_true : Holds u a scope (counts c name s body) ↔ (¬ AtLeast Body n m) → RowsHold True (count_rows (signed_node r path) (signed_child r path) n m true)
    at_most_true says =
        let p = node_is sheet a r path scope (counts c name s body) at in
        elim (counted n m) [
          | inl many ↦ (inl (λ t. says.0 (p.0 t) many), (inr (inl (part_true n m (omega arith) (omega arith) many)), tt))
          | inr few ↦ (inr (inl (part_false n m (omega arith) (omega arith) few)), (inl (p.1 (says.1 few)), tt))
        ]

    -- the rows of a child by its number
    of_number : (q : ℕ) (b : Bool) → nat_lt q (n * m) ≡ b → RowsHold True (cond b (counter_rows (signed_node r path) (signed_child r path) n m (q / m) (q % m)) [])
    of_number q false is = tt
    of_number q true is = let below = (Decides-ltb q (n * m)).0 is in let place = quotient_below q n m below in counter_true (q / m) (q % m) place.0 place.1

    pub child_true : (k : ℕ) → RowsHold True (rows_of_child (signed_node r path) (signed_child r path) n m k)
    child_true k = by (nat_lt k n)
      where
        by : (b : Bool) → RowsHold True (cond b [] (rows_of_counter (signed_node r path) (signed_child r path) n m (k - n)))
        by true = tt
        by false = of_number (k - n) (nat_lt (k - n) (n * m)) refl

  -- ---- by the statement

  none : (i : ℕ) (clause : List Literal) → IsAtRow [] i clause → ClauseHolds sheet a clause
  none zero clause h = absurd h
  none (suc i) clause h = absurd h

  -- a counter's, by the statement above it
  pub below_true : (r : ℕ) (path : List ℕ) (scope : Scope) (s : Statement) → node_at sheet r path ≡ Some (scope, s) → (k i : ℕ) (clause : List Literal)
      → IsAtRow (rows_below_kind (signed_node r path) (signed_child r path) (kind_of sheet.universe s) k) i clause → ClauseHolds sheet a clause
  below_true r path scope (compare left op right) at k i clause h = none i clause h
  below_true r path scope (in_table t xs) at k i clause h = none i clause h
  below_true r path scope (negation s) at k i clause h = none i clause h
  below_true r path scope (all_of ss) at k i clause h = none i clause h
  below_true r path scope (some_of ss) at k i clause h = none i clause h
  below_true r path scope (implies s t) at k i clause h = none i clause h
  below_true r path scope (iff s t) at k i clause h = none i clause h
  below_true r path scope (for_all name s body) at k i clause h = none i clause h
  below_true r path scope (exists name s body) at k i clause h = none i clause h
  below_true r path scope (counts (no_more_than n) name s body) at k i clause h =
      some_literal clause (rows_true (LiteralHolds sheet a) (rows_of_child (signed_node r path) (signed_child r path) (size_of sheet.universe s) (suc n) k) i clause
      (child_true r path scope (no_more_than n) name s body at k) h)
  below_true r path scope (counts (no_fewer_than n) name s body) at k i clause h =
      some_literal clause (rows_true (LiteralHolds sheet a) (rows_of_child (signed_node r path) (signed_child r path) (size_of sheet.universe s) n k) i clause
      (child_true r path scope (no_fewer_than n) name s body at k) h)
  below_true r path scope (counts (of_first m p q) name s body) at k i clause h = none i clause h

  -- a counting quantifier's clauses
  pub count_true : (r : ℕ) (path : List ℕ) (scope : Scope) (c : Counting) (name : List ℕ) (s : SortId) (body : Statement) → node_at sheet r path ≡ Some (scope, counts c name s body)
      → (i : ℕ) (clause : List Literal) → IsClauseOfKind sheet r path (kind_of sheet.universe (counts c name s body)) i clause → ClauseHolds sheet a clause
  count_true r path scope (no_more_than n) name s body at i clause h =
      some_literal clause (rows_true (LiteralHolds sheet a) (count_rows (signed_node r path) (signed_child r path) (size_of sheet.universe s) (suc n) true) i clause
      (at_most_true r path scope (no_more_than n) name s body at (λ t. t, λ t. t)) h)
  count_true r path scope (no_fewer_than n) name s body at i clause h =
      some_literal clause (rows_true (LiteralHolds sheet a) (count_rows (signed_node r path) (signed_child r path) (size_of sheet.universe s) n false) i clause
      (at_least_true r path scope (no_fewer_than n) name s body at (λ t. t, λ t. t)) h)
  count_true r path scope (of_first m p q) name s body at i clause h =
      let above = some_and (node_at sheet r (parent_of path)) (λ n. IsAtRow (rows_below_kind (signed_node r (parent_of path)) (signed_child r (parent_of path)) (kind_of sheet.universe n.1) (last_of path)) i clause) h in
      below_true r (parent_of path) above.0.0 above.0.1 above.1 (last_of path) i clause above.2
