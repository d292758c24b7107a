-- What an axiom says that tells what a node means: one of its literals is the node's, and the others are of what comes before it: pairs, the
-- node's children, and, where it is a counter, earlier children of its quantifier.
use Rattle.std.proofs.Common.{◌≡◌, ℕ, zero, suc, ◌+◌, ◌-◌, ◌*◌, ◌/◌, ◌%◌, ◌<◌, ◌≤◌, ◌⊎◌, inl, inr, Bool, true, false, cond, List, [], ◌∷◌, ◌++◌, map, Option, None, Some, All, Contains, arith, ap, refl, sym, ◌∙◌, subst}
use Rattle.std.specs.Option.{option_map}
use Rattle.std.proofs.lemmas.Bool.{cases_lt}
use Rattle.std.proofs.lemmas.Nat.{div-add-mod'}
use Rattle.std.proofs.lemmas.Option.{same_Some}
use Rattle.std.proofs.lemmas.List.Elements.{All-contains, Contains-push_cases, Contains-append_cases, Contains-append_right}
use Rattle.pc_sheet.specs.Sheet.{Universe, Sheet, no_more_than, no_fewer_than, of_first, Statement, compare, in_table, negation, all_of, some_of, implies, iff, for_all, exists, counts}
use Rattle.pc_sheet.specs.Truth.{Scope}
use Rattle.pc_sheet.specs.Sizes.{size_of}
use Rattle.pc_sheet.specs.WellSorted.{parts_in}
use Rattle.pc_sheet.specs.declared.ids.SortId.{SortId}
use Rattle.pc_sheet.specs.declared.ids.Entry.{Entry}
use Rattle.pc_sheet.specs.Nodes.{Node, node_at, kind_of, counter_number}
use Rattle.pc_sheet.proofs.Counters.{test_true, test_false, row_below, quotient_below, number_is}
use Rattle.pc_accept.specs.Literals.{Symbol, pair, node, Literal, positive, negative}
use Rattle.pc_accept.specs.Axioms.{Axiom, axiom_some, axiom_one, axiom_rule, axiom_node, axiom_atom, each_below, clauses_of_all, clauses_of_some, clauses_of_node, child_of, signed_node, signed_child, negated_entry, IsAtNumber, IsClauseOfKind, IsClauseOf}
use Rattle.pc_accept.specs.Rows.{Part, fixed, literal, clause_of, IsAtRow, counter_part, count_rows, counter_rows, rows_of_counter, rows_of_child, rows_below_kind, parent_of, last_of}
use Rattle.pc_accept.proofs.AxiomsTrue.{numbered}
use Rattle.pc_lemmas.proofs.Elements.{contains_first, contains_cases, contains_none, contains_mapped}
use Rattle.pc_lemmas.proofs.Options.{some_and, same_some}
use Rattle.pc_ground.proofs.Lists.{there_each}
use Rattle.pc_ground.proofs.Rows.{PartIn, RowIn, clause_in, parent_is, last_is}
use Rattle.pc_components.proofs.Symbols.{none_or_last}
use Rattle.pc_kept.specs.Kept.{IsNode}
use Rattle.pc_kept.specs.ByPolarity.{meant_by}
use Rattle.pc_kept.proofs.Settled.{same_steps, no_longer}

-- what comes before a node
abbrev pub IsBefore : Symbol → Symbol → Type 0
IsBefore (pair c v) x = ⊥
IsBefore (node r path) x =
    (¬ IsNode x)
    ⊎ (((k : ℕ) × (x ≡ child_of r path k))
    ⊎ ((up : List ℕ) × (q : ℕ) × (k : ℕ) × (path ≡ up ++ k ∷ []) × (q < k) × (x ≡ child_of r up q)))

-- it isn't itself
pub not_itself : (r : ℕ) (path : List ℕ) → IsBefore (node r path) (node r path) → ⊥
not_itself r path (inl no_node) = no_node tt
not_itself r path (inr (inl (k, is))) = no_longer r path [] k (sym is)
not_itself r path (inr (inr (up, q, k, path_is, less, is))) =
    let ends : k ≡ q = sym (last_is up k) ∙ ap last_of (sym path_is ∙ same_steps r path (up ++ q ∷ []) is) ∙ last_is up q in
    omega (arith, less, ends)

-- one literal is of the node, and each other of something before it
abbrev pub Tells : Symbol → List Literal → Type 0
Tells p clause = (o : Literal) × Contains clause o × (o.what ≡ p) × ((l : Literal) → Contains clause l → (l ≡ o) ⊎ IsBefore p l.what)

-- ---- a node's own clauses

-- of a list of clauses that begins with one, and of one clause for each child with one more
first_of : (P : List Literal → Type 0) (d : List Literal) (ds : List (List Literal)) → P d → ((clause : List Literal) → Contains ds clause → P clause) → (clause : List Literal) → Contains (d ∷ ds) clause → P clause
first_of P d ds h rest clause has = elim (contains_cases d ds clause has) [ inl same ↦ subst P same h | inr later ↦ rest clause later ]

none_of : (P : List Literal → Type 0) (clause : List Literal) → Contains [] clause → P clause
none_of P clause has = absurd (contains_none clause has)

each_of : (P : List Literal → Type 0) (f : ℕ → List Literal) (n : ℕ) (last : List Literal) → ((k : ℕ) → P (f k)) → P last → (clause : List Literal) → Contains (each_below n f ++ last ∷ []) clause → P clause
each_of P f n last each h clause has = elim (Contains-push_cases (each_below n f) last clause has) [
  | inl early ↦ let k = there_each n f clause early in subst P k.2 (each k.0)
  | inr same ↦ subst P same h
]

module _ (p : Symbol) where
  abbrev AreBefore : List Literal → Type 0
  AreBefore ls = (l : Literal) → Contains ls l → IsBefore p l.what

  headed : (o : Literal) (ls : List Literal) → o.what ≡ p → AreBefore ls → Tells p (o ∷ ls)
  headed o ls is rest = (o, contains_first o ls, is, λ l has. elim (contains_cases o ls l has) [ inl same ↦ inl (sym same) | inr later ↦ inr (rest l later) ])

  nothing : AreBefore []
  nothing l has = absurd (contains_none l has)

  and_more : (m : Literal) (ls : List Literal) → IsBefore p m.what → AreBefore ls → AreBefore (m ∷ ls)
  and_more m ls h rest l has = elim (contains_cases m ls l has) [ inl same ↦ subst (λ (k : Literal). IsBefore p k.what) same h | inr later ↦ rest l later ]

  one : (m : Literal) → IsBefore p m.what → AreBefore (m ∷ [])
  one m h = and_more m [] h nothing

  two : (m n : Literal) → IsBefore p m.what → IsBefore p n.what → AreBefore (m ∷ n ∷ [])
  two m n h g = and_more m (n ∷ []) h (one n g)

  all_before : (n : ℕ) (f : ℕ → Literal) → ((k : ℕ) → IsBefore p (f k).what) → AreBefore (each_below n f)
  all_before n f each l has = let k = there_each n f l has in subst (λ (m : Literal). IsBefore p m.what) k.2 (each k.0)

  -- ---- rows

  abbrev RowTells : List (Part Literal) → Type 0
  RowTells [] = ⊥
  RowTells (fixed b ∷ ps) = ⊥
  RowTells (literal o ∷ ps) = (o.what ≡ p) × RowIn (IsBefore p) ps

  abbrev RowsTell : List (List (Part Literal)) → Type 0
  RowsTell [] = Unit {0}
  RowsTell (row ∷ rows) = RowTells row × RowsTell rows

  row_clause : (row : List (Part Literal)) (clause : List Literal) → RowTells row → clause_of row ≡ Some clause → Tells p clause
  row_clause [] clause h is = absurd h
  row_clause (fixed b ∷ ps) clause h is = absurd h
  row_clause (literal o ∷ ps) clause h is = by (clause_of ps) (λ ls same. clause_in (IsBefore p) ps ls h.1 same) is
    where
      by : (rest : Option (List Literal)) → ((ls : List Literal) → rest ≡ Some ls → All (λ l. IsBefore p l.what) ls) → option_map (λ ls. o ∷ ls) rest ≡ Some clause → Tells p clause
      by None each none = absurd (cc)
      by (Some ls) each made = subst (Tells p) (same_Some (o ∷ ls) clause made) (headed o ls h.0 (λ l has. All-contains (λ (k : Literal). IsBefore p k.what) ls l (each ls refl) has))

  at_row : (rows : List (List (Part Literal))) (i : ℕ) (clause : List Literal) → RowsTell rows → IsAtRow rows i clause → Tells p clause
  at_row rows zero clause h at = absurd at
  at_row [] (suc i) clause h at = absurd at
  at_row (row ∷ rows) (suc zero) clause h at = row_clause row clause h.0 at
  at_row (row ∷ rows) (suc (suc i)) clause h at = at_row rows (suc i) clause h.1 at

module _ (r : ℕ) (path : List ℕ) where
  abbrev here : Symbol
  here = node r path

  child : (k : ℕ) → IsBefore here (child_of r path k)
  child k = inr (inl (k, refl))

  all_tell : (n : ℕ) (clause : List Literal) → Contains (clauses_of_all here (child_of r path) n) clause → Tells here clause
  all_tell n =
      let c = child_of r path in
      each_of (Tells here) (λ k. negative here ∷ positive (c k) ∷ []) n (positive here ∷ each_below n (λ k. negative (c k)))
      (λ k. headed here (negative here) (positive (c k) ∷ []) refl (one here (positive (c k)) (child k)))
      (headed here (positive here) (each_below n (λ k. negative (c k))) refl (all_before here n (λ k. negative (c k)) child))

  some_tell : (n : ℕ) (clause : List Literal) → Contains (clauses_of_some here (child_of r path) n) clause → Tells here clause
  some_tell n =
      let c = child_of r path in
      each_of (Tells here) (λ k. positive here ∷ negative (c k) ∷ []) n (negative here ∷ each_below n (λ k. positive (c k)))
      (λ k. headed here (positive here) (negative (c k) ∷ []) refl (one here (negative (c k)) (child k)))
      (headed here (negative here) (each_below n (λ k. positive (c k))) refl (all_before here n (λ k. positive (c k)) child))

  node_tells : (u : Universe) (s : Statement) (clause : List Literal) → Contains (clauses_of_node here (child_of r path) u s) clause → Tells here clause
  node_tells u (compare left op right) = none_of (Tells here)
  node_tells u (in_table t xs) = none_of (Tells here)
  node_tells u (negation s) =
      let c = child_of r path 0 in
      let P = Tells here in
      let d1 : List Literal = negative here ∷ negative c ∷ [] in
      let d2 : List Literal = positive here ∷ positive c ∷ [] in
      first_of P d1 (d2 ∷ []) (headed here (negative here) (negative c ∷ []) refl (one here (negative c) (child 0)))
      (first_of P d2 [] (headed here (positive here) (positive c ∷ []) refl (one here (positive c) (child 0))) (none_of P))
  node_tells u (all_of ss) = all_tell (parts_in ss)
  node_tells u (some_of ss) = some_tell (parts_in ss)
  node_tells u (implies s t) =
      let x = child_of r path 0 in
      let y = child_of r path 1 in
      let P = Tells here in
      let d1 : List Literal = negative here ∷ negative x ∷ positive y ∷ [] in
      let d2 : List Literal = positive here ∷ positive x ∷ [] in
      let d3 : List Literal = positive here ∷ negative y ∷ [] in
      first_of P d1 (d2 ∷ d3 ∷ []) (headed here (negative here) (negative x ∷ positive y ∷ []) refl (two here (negative x) (positive y) (child 0) (child 1)))
      (first_of P d2 (d3 ∷ []) (headed here (positive here) (positive x ∷ []) refl (one here (positive x) (child 0)))
      (first_of P d3 [] (headed here (positive here) (negative y ∷ []) refl (one here (negative y) (child 1))) (none_of P)))
  node_tells u (iff s t) =
      let x = child_of r path 0 in
      let y = child_of r path 1 in
      let P = Tells here in
      let d1 : List Literal = negative here ∷ negative x ∷ positive y ∷ [] in
      let d2 : List Literal = negative here ∷ positive x ∷ negative y ∷ [] in
      let d3 : List Literal = positive here ∷ positive x ∷ positive y ∷ [] in
      let d4 : List Literal = positive here ∷ negative x ∷ negative y ∷ [] in
      first_of P d1 (d2 ∷ d3 ∷ d4 ∷ []) (headed here (negative here) (negative x ∷ positive y ∷ []) refl (two here (negative x) (positive y) (child 0) (child 1)))
      (first_of P d2 (d3 ∷ d4 ∷ []) (headed here (negative here) (positive x ∷ negative y ∷ []) refl (two here (positive x) (negative y) (child 0) (child 1)))
      (first_of P d3 (d4 ∷ []) (headed here (positive here) (positive x ∷ positive y ∷ []) refl (two here (positive x) (positive y) (child 0) (child 1)))
      (first_of P d4 [] (headed here (positive here) (negative x ∷ negative y ∷ []) refl (two here (negative x) (negative y) (child 0) (child 1))) (none_of P))))
  node_tells u (for_all name s body) = all_tell (size_of u s)
  node_tells u (exists name s body) = some_tell (size_of u s)
  node_tells u (counts (no_more_than n) name s body) = none_of (Tells here)
  node_tells u (counts (no_fewer_than n) name s body) = none_of (Tells here)
  node_tells u (counts (of_first m i j) name s body) = none_of (Tells here)

  -- ---- counting quantifiers

  part_before : (n m i j : ℕ) (b : Bool) → PartIn (IsBefore here) (counter_part (signed_node r path) (signed_child r path) n m i j b)
  part_before n m i zero b = tt
  part_before n m zero (suc j) b = tt
  part_before n m (suc i) (suc j) b = child (counter_number n m (suc i) (suc j))

  count_tells : (n m : ℕ) (at_most : Bool) → RowsTell here (count_rows (signed_node r path) (signed_child r path) n m at_most)
  count_tells n m true = ((refl, (part_before n m n m false, tt)), ((refl, (part_before n m n m true, tt)), tt))
  count_tells n m false = ((refl, (part_before n m n m true, tt)), ((refl, (part_before n m n m false, tt)), tt))

-- ---- counters, by their numbers among the children of their quantifiers

module _ (r : ℕ) (up : List ℕ) (k : ℕ) where
  abbrev counter : Symbol
  counter = child_of r up k

  sibling : (q : ℕ) → q < k → IsBefore counter (child_of r up q)
  sibling q less = inr (inr (up, q, k, refl, less, refl))

  module _ (n m : ℕ) where
    abbrev part : ℕ → ℕ → Bool → Part Literal
    part = counter_part (signed_node r up) (signed_child r up) n m

    counter_tells : (i j : ℕ) → i < n → j < m → counter_number n m (suc i) (suc j) ≡ k → RowsTell counter (counter_rows (signed_node r up) (signed_child r up) n m i j)
    counter_tells i j l h is = (
      (own, (earlier i (suc j) true (omega arith) (omega (arith, h)), (body, tt))),
      (
        (own, (earlier i (suc j) true (omega arith) (omega (arith, h)), (earlier i j true (omega arith) (omega (arith, h)), tt))),
        ((own, (earlier i (suc j) false (omega arith) (omega (arith, h)), tt)), ((own, (earlier i j false (omega arith) (omega (arith, h)), (body, tt))), tt)),
      ),
    )
      where
        own : child_of r up (counter_number n m (suc i) (suc j)) ≡ counter
        own = ap (child_of r up) is

        body : IsBefore counter (child_of r up i)
        body = sibling i (omega (arith, l, is, number_is n m i j))

        earlier : (a b : ℕ) (sign : Bool) → a ≤ i → b ≤ m → PartIn (IsBefore counter) (part a b sign)
        earlier a zero sign low fits = tt
        earlier zero (suc b) sign low fits = tt
        earlier (suc a) (suc b) sign low fits =
            let less = row_below a b i m (omega (arith, low)) (omega (arith, fits)) in
            sibling (counter_number n m (suc a) (suc b)) (omega (arith, less, is, number_is n m a b, number_is n m i j))

    child_tells : RowsTell counter (rows_of_child (signed_node r up) (signed_child r up) n m k)
    child_tells = elim (cases_lt k n) [
      | inl low ↦ subst (RowsTell counter) (sym (ap (λ b. cond b [] (rows_of_counter (signed_node r up) (signed_child r up) n m (k - n))) (test_true k n low))) tt
      | inr high ↦ subst (RowsTell counter) (sym (ap (λ b. cond b [] (rows_of_counter (signed_node r up) (signed_child r up) n m (k - n))) (test_false k n high))) (of_counter (k - n) (omega (arith, high)))
    ]
      where
        of_counter : (q : ℕ) → n + q ≡ k → RowsTell counter (rows_of_counter (signed_node r up) (signed_child r up) n m q)
        of_counter q is = elim (cases_lt q (n * m)) [
          | inl low ↦
              let place = quotient_below q n m low in
              let at : counter_number n m (suc (q / m)) (suc (q % m)) ≡ k = number_is n m (q / m) (q % m) ∙ ap (λ x. n + x) (div-add-mod' q m) ∙ is in
              subst (RowsTell counter) (sym (ap (λ b. cond b (counter_rows (signed_node r up) (signed_child r up) n m (q / m) (q % m)) []) (test_true q (n * m) low)))
              (counter_tells (q / m) (q % m) place.0 place.1 at)
          | inr high ↦ subst (RowsTell counter) (sym (ap (λ b. cond b (counter_rows (signed_node r up) (signed_child r up) n m (q / m) (q % m)) []) (test_false q (n * m) high))) tt
        ]

  below_tells : (u : Universe) (s : Statement) → RowsTell counter (rows_below_kind (signed_node r up) (signed_child r up) (kind_of u s) k)
  below_tells u (compare left op right) = tt
  below_tells u (in_table t xs) = tt
  below_tells u (negation s) = tt
  below_tells u (all_of ss) = tt
  below_tells u (some_of ss) = tt
  below_tells u (implies s t) = tt
  below_tells u (iff s t) = tt
  below_tells u (for_all name s body) = tt
  below_tells u (exists name s body) = tt
  below_tells u (counts (no_more_than b) name s body) = child_tells (size_of u s) (suc b)
  below_tells u (counts (no_fewer_than b) name s body) = child_tells (size_of u s) b
  below_tells u (counts (of_first m i j) name s body) = tt

-- ---- axioms

module _ (sheet : Sheet) (r : ℕ) (path : List ℕ) where
  by_number : (s : Statement) (i : ℕ) (clause : List Literal) → IsAtNumber (clauses_of_node (node r path) (child_of r path) sheet.universe s) i clause → Tells (node r path) clause
  by_number s i clause h = node_tells r path sheet.universe s clause (numbered (clauses_of_node (node r path) (child_of r path) sheet.universe s) i clause h)

  of_counter : (scope : Scope) (m j k : ℕ) (name : List ℕ) (s : SortId) (body : Statement) → node_at sheet r path ≡ Some (scope, counts (of_first m j k) name s body)
      → (i : ℕ) (clause : List Literal) → IsClauseOfKind sheet r path (kind_of sheet.universe (counts (of_first m j k) name s body)) i clause → Tells (node r path) clause
  of_counter scope m j k name s body at i clause h = elim (none_or_last path) [
    | inl none ↦
        let same : parent_of path ≡ path = ap parent_of none ∙ sym none in
        let node_same : n.0 ≡ (scope, counts (of_first m j k) name s body) = same_some (sym n.1 ∙ ap (node_at sheet r) same ∙ at) in
        let rows : Node → List (List (Part Literal)) = λ x. rows_below_kind (signed_node r up) (signed_child r up) (kind_of sheet.universe x.1) (last_of path) in
        at_row (node r path) [] i clause tt (subst (λ x. IsAtRow (rows x) i clause) node_same n.2)
    | inr end ↦
        let front : up ≡ end.0 = ap parent_of end.2 ∙ parent_is end.0 end.1 in
        let last : last_of path ≡ end.1 = ap last_of end.2 ∙ last_is end.0 end.1 in
        let is : child_of r up (last_of path) ≡ node r path = ap (λ xs. child_of r xs (last_of path)) front ∙ ap (child_of r end.0) last ∙ ap (node r) (sym end.2) in
        let all = rows_below_kind (signed_node r up) (signed_child r up) (kind_of sheet.universe n.0.1) (last_of path) in
        at_row (node r path) all i clause (subst (λ p. RowsTell p all) is (below_tells r up (last_of path) sheet.universe n.0.1)) n.2
  ]
    where
      up : List ℕ
      up = parent_of path

      n : (n : Node) × (node_at sheet r (parent_of path) ≡ Some n) × IsAtRow (rows_below_kind (signed_node r (parent_of path)) (signed_child r (parent_of path)) (kind_of sheet.universe n.1) (last_of path)) i clause
      n = some_and (node_at sheet r (parent_of path)) (λ n. IsAtRow (rows_below_kind (signed_node r (parent_of path)) (signed_child r (parent_of path)) (kind_of sheet.universe n.1) (last_of path)) i clause) h

  by_statement : (scope : Scope) (s : Statement) → node_at sheet r path ≡ Some (scope, s) → (i : ℕ) (clause : List Literal) → IsClauseOfKind sheet r path (kind_of sheet.universe s) i clause → Tells (node r path) clause
  by_statement scope (compare left op right) at i clause h = by_number (compare left op right) i clause h
  by_statement scope (in_table t xs) at i clause h = by_number (in_table t xs) i clause h
  by_statement scope (negation s) at i clause h = by_number (negation s) i clause h
  by_statement scope (all_of ss) at i clause h = by_number (all_of ss) i clause h
  by_statement scope (some_of ss) at i clause h = by_number (some_of ss) i clause h
  by_statement scope (implies s t) at i clause h = by_number (implies s t) i clause h
  by_statement scope (iff s t) at i clause h = by_number (iff s t) i clause h
  by_statement scope (for_all name s body) at i clause h = by_number (for_all name s body) i clause h
  by_statement scope (exists name s body) at i clause h = by_number (exists name s body) i clause h
  by_statement scope (counts (no_more_than b) name s body) at i clause h =
      let n = size_of sheet.universe s in
      at_row (node r path) (count_rows (signed_node r path) (signed_child r path) n (suc b) true) i clause (count_tells r path n (suc b) true) h
  by_statement scope (counts (no_fewer_than b) name s body) at i clause h =
      let n = size_of sheet.universe s in
      at_row (node r path) (count_rows (signed_node r path) (signed_child r path) n b false) i clause (count_tells r path n b false) h
  by_statement scope (counts (of_first m j k) name s body) at i clause h = of_counter scope m j k name s body at i clause h

  atom_tells : (reads : List Entry) (truth : Bool) (clause : List Literal) → clause ≡ map negated_entry reads ++ (record { what = node r path; sign = truth }) ∷ [] → Tells (node r path) clause
  atom_tells reads truth clause is =
      let end : Literal = record { what = node r path; sign = truth } in
      let before : Literal → Type 0 = λ l. (l ≡ end) ⊎ IsBefore (node r path) l.what in
      subst (Tells (node r path)) (sym is) (
        end,
        Contains-append_right (map negated_entry reads) (end ∷ []) end (contains_first end []),
        refl,
        λ l has. elim (Contains-append_cases (map negated_entry reads) (end ∷ []) l has) [
          | inl read ↦ let e = contains_mapped negated_entry reads l read in subst before e.2 (inr (inl (λ h. h)))
          | inr last ↦ elim (contains_cases end [] l last) [ inl same ↦ inl (sym same) | inr none ↦ absurd (contains_none l none) ]
        ],
      )

pub axiom_tells : (sheet : Sheet) (x : Axiom) (clause : List Literal) → IsClauseOf sheet x clause → (p : Symbol) → meant_by x ≡ Some p → Tells p clause
axiom_tells sheet (axiom_some c) clause is p h = absurd (cc)
axiom_tells sheet (axiom_one c v w) clause is p h = absurd (cc)
axiom_tells sheet (axiom_rule r) clause is p h = absurd (cc)
axiom_tells sheet (axiom_node r path i) clause is p h =
    let n = some_and (node_at sheet r path) (λ n. IsClauseOfKind sheet r path (kind_of sheet.universe n.1) i clause) is in
    subst (λ q. Tells q clause) (same_some h) (by_statement sheet r path n.0.0 n.0.1 n.1 i clause n.2)
axiom_tells sheet (axiom_atom r path reads) clause is p h = subst (λ q. Tells q clause) (same_some h) (atom_tells sheet r path reads is.truth clause is.is)
