-- How many axioms a node has with all under it, and whose they are.
use Rattle.std.proofs.Common.{◌≡◌, ℕ, zero, suc, ◌+◌, ◌-◌, ◌^◌, ◌<◌, Bool, true, false, not, List, [], ◌∷◌, ◌++◌, append_assoc, map, length, refl, ap, sym, ◌∙◌, subst, arith}
use Rattle.std.specs.List.{flat_map, range_with_len}
use Rattle.std.proofs.lemmas.List.{map-append, length-append, length-map}
use Rattle.std.proofs.lemmas.List.FromFn.{length-map-range_with_len}
use Rattle.pc_sheet.specs.WellSorted.{parts_in}
use Rattle.pc_sheet.specs.Sheet.{Universe, Counting, no_more_than, no_fewer_than, of_first, Statement, Statements, no_statements, statement, compare, in_table, negation, all_of, some_of, implies, iff, for_all, exists, counts}
use Rattle.pc_sheet.specs.Truth.{Scope}
use Rattle.pc_sheet.specs.Sizes.{size_of}
use Rattle.pc_sheet.specs.Cells.{values_below}
use Rattle.pc_sheet.specs.Readings.{Leaf, leaves_of}
use Rattle.pc_sheet.specs.Nodes.{bodies_of, threshold_of, kind_of}
use Rattle.pc_sheet.specs.declared.ids.SortId.{SortId}
use Rattle.pc_sheet.specs.declared.ids.ValueId.{ValueId}
use Rattle.pc_accept.specs.Literals.{Literal}
use Rattle.pc_accept.specs.Axioms.{each_below, signed_node, signed_child}
use Rattle.pc_accept.specs.Rows.{count_rows, counter_rows}
use Rattle.pc_ground.specs.declared.owners.Span.{Span}
use Rattle.pc_ground.specs.Ground.{GroundAxiom, one_axiom, one_axioms, cell_axioms, leaf_axiom, numbered_axioms, own_axioms, row_axioms, count_axioms, counter_axioms, counters_axioms, node_axioms, parts_axioms}
use Rattle.pc_ground.specs.Variables.{count_nodes, count_all}
use Rattle.pc_ground.specs.ByNumber.{Clause, counted_literal, row_clauses, count_clauses, counter_clauses, counters_clauses, leaf_by_number, joined_clauses, pairs_with, literals_of, lit, roots, root_at, roots_of_values, node_clauses, parts_clauses}
use Rattle.pc_ground.specs.Owners.{span, of_one, times, ones, piece_count, piece_count_of_parts, cells_spans, cells_times}

-- ---- how many

numbered_many : (r : ℕ) (path : List ℕ) (i : ℕ) (cs : List (List Literal)) → length (numbered_axioms r path i cs) ≡ length cs
numbered_many r path i [] = refl
numbered_many r path i (c ∷ cs) = ap suc (numbered_many r path (i + 1) cs)

own_many : (r : ℕ) (path : List ℕ) (n : ℕ) (f : ℕ → List Literal) (x : List Literal) → length (numbered_axioms r path 1 (each_below n f ++ x ∷ [])) ≡ n + 1
own_many r path n f x =
    let a = length-append (each_below n f) (x ∷ []) in
    let b = length-map-range_with_len f 0 n in
    let c = numbered_many r path 1 (each_below n f ++ x ∷ []) in
    omega (arith, a, b, c)

append_many : {X Y : Type 0} (a b : List X) (x y : List Y) → length a ≡ length x → length b ≡ length y → length (a ++ b) ≡ length (x ++ y)
append_many a b x y e f = let h = length-append a b in let g = length-append x y in omega (arith, e, f, h, g)

flat_many : {A X Y : Type 0} (f : A → List X) (g : A → List Y) → ((v : A) → length (f v) ≡ length (g v)) → (vs : List A) → length (flat_map f vs) ≡ length (flat_map g vs)
flat_many f g e [] = refl
flat_many f g e (v ∷ vs) = append_many (f v) (flat_map f vs) (g v) (flat_map g vs) (e v) (flat_many f g e vs)

many_values : (n : ℕ) → length (values_below n) ≡ n
many_values zero = refl
many_values (suc n) = let last : ValueId = record { 0 = n } in let rest = many_values n in let a = length-append (values_below n) (last ∷ []) in omega (arith, a, rest)

-- ---- rows: which of them are clauses doesn't depend on their literals

module _ (r : ℕ) (path : List ℕ) (p n c : ℕ) where
  rows_many : (k m : ℕ) (at_most : Bool) → length (row_axioms r path 1 (count_rows (signed_node r path) (signed_child r path) k m at_most)) ≡ length (row_clauses (count_rows (lit p) (counted_literal p n c) k m at_most))
  rows_many zero zero true = refl
  rows_many zero zero false = refl
  rows_many zero (suc m) true = refl
  rows_many zero (suc m) false = refl
  rows_many (suc k) zero true = refl
  rows_many (suc k) zero false = refl
  rows_many (suc k) (suc m) true = refl
  rows_many (suc k) (suc m) false = refl

  counter_many : (m i j : ℕ) → length (counter_axioms r path n m i j) ≡ length (counter_clauses p n c m i j)
  counter_many m zero zero = refl
  counter_many m zero (suc j) = refl
  counter_many m (suc i) zero = refl
  counter_many m (suc i) (suc j) = refl

  counters_many : (m : ℕ) → length (counters_axioms r path n m) ≡ length (counters_clauses p n c m)
  counters_many m =
      flat_many (λ i. flat_map (counter_axioms r path n m i) (range_with_len 0 m)) (λ i. flat_map (counter_clauses p n c m i) (range_with_len 0 m))
      (λ i. flat_many (counter_axioms r path n m i) (counter_clauses p n c m i) (counter_many m i) (range_with_len 0 m)) (range_with_len 0 n)

  count_many : (u : Universe) (k : Counting) (name : List ℕ) (s : SortId) (body : Statement)
      → length (count_axioms u r path (counts k name s body)) ≡ length (count_clauses p n c (kind_of u (counts k name s body)))
  count_many u (no_more_than k) name s body = rows_many (size_of u s) (suc k) true
  count_many u (no_fewer_than k) name s body = rows_many (size_of u s) k false
  count_many u (of_first m i j) name s body = refl

module _ (u : Universe) where
  many_roots : (p : ℕ) (ss : Statements) → length (roots u p ss) ≡ parts_in ss
  many_roots p no_statements = refl
  many_roots p (statement s ss) = let rest = many_roots (p + count_nodes u s) ss in omega (arith, rest)

  joined_many : (p n : ℕ) (b : Bool) (cs : List ℕ) → length cs ≡ n → length (joined_clauses p b cs) ≡ n + 1
  joined_many p n b cs e =
      let last : Clause = lit p b ∷ literals_of (not b) cs in
      let a = length-append (pairs_with (lit p (not b)) b cs) (last ∷ []) in
      let c = length-map cs (λ c. lit p (not b) ∷ lit c b ∷ []) in
      omega (arith, a, c, e)

  module _ (sizes : List ℕ) (r : ℕ) where
    leaves_many : (path : List ℕ) (p : ℕ) (ls : List Leaf) → length (map (leaf_axiom r path) ls) ≡ length (map (leaf_by_number sizes p) ls)
    leaves_many path p ls = length-map ls (leaf_axiom r path) ∙ sym (length-map ls (leaf_by_number sizes p))

    mutual
      pub as_many : (path : List ℕ) (scope : Scope) (s : Statement) (p : ℕ) → length (node_axioms u r path scope s) ≡ length (node_clauses u sizes p scope s)
      as_many path scope (compare left op right) p = leaves_many path p (leaves_of u scope (compare left op right))
      as_many path scope (in_table t xs) p = leaves_many path p (leaves_of u scope (in_table t xs))
      as_many path scope (negation s) p = ap (λ k. suc (suc k)) (as_many (path ++ 0 ∷ []) scope s (p + 1))
      as_many path scope (all_of ss) p =
          append_many (own_axioms u r path (all_of ss)) (parts_axioms u r path scope 0 ss) (joined_clauses p true (roots u (p + 1) ss)) (parts_clauses u sizes (p + 1) scope ss)
          (own_many r path (parts_in ss) _ _ ∙ sym (joined_many p (parts_in ss) true (roots u (p + 1) ss) (many_roots (p + 1) ss))) (as_many_parts path scope 0 ss (p + 1))
      as_many path scope (some_of ss) p =
          append_many (own_axioms u r path (some_of ss)) (parts_axioms u r path scope 0 ss) (joined_clauses p false (roots u (p + 1) ss)) (parts_clauses u sizes (p + 1) scope ss)
          (own_many r path (parts_in ss) _ _ ∙ sym (joined_many p (parts_in ss) false (roots u (p + 1) ss) (many_roots (p + 1) ss))) (as_many_parts path scope 0 ss (p + 1))
      as_many path scope (implies s t) p =
          let q = p + 1 + count_nodes u s in
          ap (λ k. suc (suc (suc k))) (append_many (node_axioms u r (path ++ 0 ∷ []) scope s) (node_axioms u r (path ++ 1 ∷ []) scope t) (node_clauses u sizes (p + 1) scope s) (node_clauses u sizes q scope t)
          (as_many (path ++ 0 ∷ []) scope s (p + 1)) (as_many (path ++ 1 ∷ []) scope t q))
      as_many path scope (iff s t) p =
          let q = p + 1 + count_nodes u s in
          ap (λ k. suc (suc (suc (suc k)))) (append_many (node_axioms u r (path ++ 0 ∷ []) scope s) (node_axioms u r (path ++ 1 ∷ []) scope t) (node_clauses u sizes (p + 1) scope s) (node_clauses u sizes q scope t)
          (as_many (path ++ 0 ∷ []) scope s (p + 1)) (as_many (path ++ 1 ∷ []) scope t q))
      as_many path scope (for_all name s body) p =
          let f : ValueId → List GroundAxiom = λ v. node_axioms u r (path ++ v.0 ∷ []) (scope ++ (s, v) ∷ []) body in
          let g : ValueId → List Clause = λ v. node_clauses u sizes (root_at (p + 1) (count_nodes u body) v) (scope ++ (s, v) ∷ []) body in
          append_many (own_axioms u r path (for_all name s body)) (flat_map f (values_below (size_of u s))) (joined_clauses p true (roots_of_values (p + 1) (count_nodes u body) (size_of u s))) (flat_map g (values_below (size_of u s)))
          (own_many r path (size_of u s) _ _ ∙ sym (joined_many p (size_of u s) true (roots_of_values (p + 1) (count_nodes u body) (size_of u s)) (length-map (values_below (size_of u s)) (root_at (p + 1) (count_nodes u body)) ∙ many_values (size_of u s))))
          (flat_many f g (λ v. as_many (path ++ v.0 ∷ []) (scope ++ (s, v) ∷ []) body (root_at (p + 1) (count_nodes u body) v)) (values_below (size_of u s)))
      as_many path scope (exists name s body) p =
          let f : ValueId → List GroundAxiom = λ v. node_axioms u r (path ++ v.0 ∷ []) (scope ++ (s, v) ∷ []) body in
          let g : ValueId → List Clause = λ v. node_clauses u sizes (root_at (p + 1) (count_nodes u body) v) (scope ++ (s, v) ∷ []) body in
          append_many (own_axioms u r path (exists name s body)) (flat_map f (values_below (size_of u s))) (joined_clauses p false (roots_of_values (p + 1) (count_nodes u body) (size_of u s))) (flat_map g (values_below (size_of u s)))
          (own_many r path (size_of u s) _ _ ∙ sym (joined_many p (size_of u s) false (roots_of_values (p + 1) (count_nodes u body) (size_of u s)) (length-map (values_below (size_of u s)) (root_at (p + 1) (count_nodes u body)) ∙ many_values (size_of u s))))
          (flat_many f g (λ v. as_many (path ++ v.0 ∷ []) (scope ++ (s, v) ∷ []) body (root_at (p + 1) (count_nodes u body) v)) (values_below (size_of u s)))
      as_many path scope (counts k name s body) p =
          let n = bodies_of k (size_of u s) in
          let c = count_nodes u body in
          let f : ValueId → List GroundAxiom = λ v. node_axioms u r (path ++ v.0 ∷ []) (scope ++ (s, v) ∷ []) body in
          let g : ValueId → List Clause = λ v. node_clauses u sizes (root_at (p + 1) c v) (scope ++ (s, v) ∷ []) body in
          let counters = counters_axioms r path n (threshold_of k) in
          let clauses = counters_clauses p n c (threshold_of k) in
          append_many (count_axioms u r path (counts k name s body)) (flat_map f (values_below n) ++ counters) (count_clauses p n c (kind_of u (counts k name s body))) (flat_map g (values_below n) ++ clauses)
          (count_many r path p n c u k name s body)
          (append_many (flat_map f (values_below n)) counters (flat_map g (values_below n)) clauses
          (flat_many f g (λ v. as_many (path ++ v.0 ∷ []) (scope ++ (s, v) ∷ []) body (root_at (p + 1) c v)) (values_below n)) (counters_many r path p n c (threshold_of k)))

      as_many_parts : (path : List ℕ) (scope : Scope) (k : ℕ) (ss : Statements) (p : ℕ) → length (parts_axioms u r path scope k ss) ≡ length (parts_clauses u sizes p scope ss)
      as_many_parts path scope k no_statements p = refl
      as_many_parts path scope k (statement s ss) p =
          append_many (node_axioms u r (path ++ k ∷ []) scope s) (parts_axioms u r path scope (k + 1) ss) (node_clauses u sizes p scope s) (parts_clauses u sizes (p + count_nodes u s) scope ss)
          (as_many (path ++ k ∷ []) scope s p) (as_many_parts path scope (k + 1) ss (p + count_nodes u s))

-- ---- one owner

counted : (gs : List GroundAxiom) (i : ℕ) → times (length gs) (span i 1) ≡ of_one i gs
counted [] i = refl
counted (g ∷ gs) i = ap (λ xs. span i 1 ∷ xs) (counted gs i)

-- as many as clauses were added
pub piece_owned : (u : Universe) (sizes : List ℕ) (r : ℕ) (path : List ℕ) (scope : Scope) (s : Statement) (p i before after count : ℕ) (cs ds : List Clause) (old now : List Span) → before ≡ length cs → ds ≡ cs ++ node_clauses u sizes p scope s
    → after ≡ length ds → count ≡ after - before → now ≡ old ++ times count (span i 1) → now ≡ old ++ of_one i (node_axioms u r path scope s)
piece_owned u sizes r path scope s p i before after count cs ds old now b d a c added =
    let whole : length ds ≡ length cs + length (node_clauses u sizes p scope s) = ap length d ∙ length-append cs (node_clauses u sizes p scope s) in
    let same = as_many u sizes r path scope s p in
    let e : count ≡ length (node_axioms u r path scope s) = omega (arith, whole, same, a, b, c) in
    added ∙ ap (λ k. old ++ times k (span i 1)) e ∙ ap (λ xs. old ++ xs) (counted (node_axioms u r path scope s) i)

-- ---- cells

same_range : (f : ℕ → GroundAxiom) (i a n : ℕ) → of_one i (map f (range_with_len a n)) ≡ times n (span i 1)
same_range f i a zero = refl
same_range f i a (suc n) = ap (λ xs. span i 1 ∷ xs) (same_range f i (a + 1) n)

same_ones : (c i v n : ℕ) → of_one i (one_axioms c v n) ≡ ones n (span i 1)
same_ones c i v zero = refl
same_ones c i v (suc n) =
    map-append (λ g. span i 1) (map (one_axiom c v) (range_with_len (v + 1) n)) (one_axioms c (v + 1) n)
    ∙ ap (λ xs. xs ++ of_one i (one_axioms c (v + 1) n)) (same_range (one_axiom c v) i (v + 1) n) ∙ ap (λ xs. times n (span i 1) ++ xs) (same_ones c i (v + 1) n)

pub cells_counted : (c : ℕ) (ns : List ℕ) → cells_times c ns ≡ cells_spans c ns
cells_counted c [] = refl
cells_counted c (n ∷ ns) =
    ap (λ xs. (span c 1 ∷ xs) ++ cells_times (c + 1) ns) (sym (same_ones c c 0 n)) ∙ ap (λ xs. of_one c (cell_axioms c n) ++ xs) (cells_counted (c + 1) ns)

-- ---- spans that are added one after another

times_end : (n : ℕ) (x : Span) → times n x ++ x ∷ [] ≡ times (n + 1) x
times_end zero x = refl
times_end (suc n) x = ap (λ xs. x ∷ xs) (times_end n x) ∙ (let e : suc (n + 1) ≡ suc n + 1 = omega arith in ap (λ k. times k x) e)

pub time_more : (n : ℕ) (x : Span) (old before now : List Span) → before ≡ old ++ times n x → now ≡ before ++ x ∷ [] → now ≡ old ++ times (n + 1) x
time_more n x old before now so added = added ∙ ap (λ xs. xs ++ x ∷ []) so ∙ append_assoc old (times n x) (x ∷ []) ∙ ap (λ xs. old ++ xs) (times_end n x)

pub ones_more : (size v : ℕ) (x : Span) (before now end : List Span) → v < size → before ++ ones (size - v) x ≡ end → now ≡ before ++ times (size - 1 - v) x → now ++ ones (size - (v + 1)) x ≡ end
ones_more size v x before now end l so added =
    let k = size - (v + 1) in
    let e : size - 1 - v ≡ k = omega arith in
    let f : suc k ≡ size - v = omega arith in
    ap (λ xs. xs ++ ones k x) (added ∙ ap (λ n. before ++ times n x) e) ∙ append_assoc before (times k x) (ones k x) ∙ ap (λ n. before ++ ones n x) f ∙ so

-- ---- room for a joint conjunction's parts

pub joint_room : (u : Universe) (s : Statement) (ss : Statements) (p : ℕ) → s ≡ all_of ss → p + count_nodes u s < 2 ^ 32 → p + 1 + count_all u ss < 2 ^ 32
joint_room u s ss p e l = let h : p + (1 + count_all u ss) < 2 ^ 32 = subst (λ x. p + count_nodes u x < 2 ^ 32) e l in omega (arith, h)

pub disjoint_room : (u : Universe) (s : Statement) (ss : Statements) (p : ℕ) → s ≡ some_of ss → p + count_nodes u s < 2 ^ 32 → p + 1 + count_all u ss < 2 ^ 32
disjoint_room u s ss p e l = let h : p + (1 + count_all u ss) < 2 ^ 32 = subst (λ x. p + count_nodes u x < 2 ^ 32) e l in omega (arith, h)

pub joint_pieces : (u : Universe) (s : Statement) (ss : Statements) (j : ℕ) → s ≡ all_of ss → j + piece_count u s < 2 ^ 32 → j + piece_count_of_parts u ss < 2 ^ 32
joint_pieces u s ss j e l = subst (λ x. j + piece_count u x < 2 ^ 32) e l
