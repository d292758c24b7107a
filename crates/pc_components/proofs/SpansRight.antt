-- The spans of the ground, read in the numbers of the parts of cells and pieces, are the axioms' owners.
use Rattle.std.proofs.Common.{◌≡◌, ℕ, zero, suc, ◌+◌, ◌*◌, ◌<◌, ◌≤◌, inl, inr, List, [], ◌∷◌, ◌++◌, map, take, drop, length, append_assoc, refl, ap, sym, ◌∙◌, subst, arith}
use Rattle.std.specs.List.{flat_map, range_with_len}
use Rattle.std.proofs.Math.Nat.{mul-le-mul_right}
use Rattle.std.proofs.lemmas.Bool.{cases_eq}
use Rattle.std.proofs.lemmas.List.{map-append, length-append, length-map, drop-drop}
use Rattle.pc_sheet.specs.Sheet.{Universe, NamedStatement, Statement, Statements, no_statements, statement, compare, in_table, negation, all_of, some_of, implies, iff, for_all, exists, counts}
use Rattle.pc_sheet.specs.Truth.{Scope}
use Rattle.pc_sheet.specs.Sizes.{size_of}
use Rattle.pc_sheet.specs.Cells.{values_below}
use Rattle.pc_sheet.specs.declared.ids.ValueId.{ValueId}
use Rattle.pc_parts.specs.Leaves.{cells_under}
use Rattle.pc_ground.specs.declared.owners.Span.{Span}
use Rattle.pc_ground.specs.Ground.{GroundAxiom, cell_axioms, node_axioms}
use Rattle.pc_ground.specs.Owners as ground
use Rattle.pc_ground.specs.Owners.{span, no_groups, cells_spans, piece_count, piece_count_of_parts, piece_count_of_rules, spans_of_children, instance_at, span_at, spans, spans_of_parts, spans_of_values, spans_of_rules}
use Rattle.pc_ground.specs.PieceCells.{piece_cells, piece_cells_of_parts, piece_cells_of_rules}
use Rattle.pc_ground.proofs.Lists.{flat_push}
use Rattle.pc_components.specs.inside.Owners.{of_one, parts_of_children, owners, owners_of_parts, owners_of_rules, owners_of_cells}
use Rattle.pc_components.specs.inside.Spans.{row_of, AreWithin}

-- ---- lists

take_front : (xs ys : List ℕ) → take (length xs) (xs ++ ys) ≡ xs
take_front [] ys = refl
take_front (x ∷ xs) ys = ap (λ zs. x ∷ zs) (take_front xs ys)

pub drop_front : (xs ys : List ℕ) → drop (length xs) (xs ++ ys) ≡ ys
drop_front [] ys = refl
drop_front (x ∷ xs) ys = drop_front xs ys

flat_length : {X : Type 0} (f : ValueId → List X) (c : ℕ) → ((v : ValueId) → length (f v) ≡ c) → (n : ℕ) → length (flat_map f (values_below n)) ≡ n * c
flat_length f c e zero = omega arith
flat_length f c e (suc n) =
    let last : ValueId = record { 0 = n } in
    let a = ap length (flat_push f n) ∙ length-append (flat_map f (values_below n)) (f last) in
    let b = flat_length f c e n in
    let d = e last in
    omega (arith, a, b, d)

-- a map over what is made from values
flat_mapped : {X Y : Type 0} (m : X → Y) (g : ValueId → List X) (h : ValueId → List Y) (n : ℕ) → ((v : ValueId) → v.0 < n → map m (g v) ≡ h v) → map m (flat_map g (values_below n)) ≡ flat_map h (values_below n)
flat_mapped m g h zero e = refl
flat_mapped m g h (suc n) e =
    let last : ValueId = record { 0 = n } in
    ap (map m) (flat_push g n) ∙ map-append m (flat_map g (values_below n)) (g last) ∙ ap (λ xs. xs ++ map m (g last)) (flat_mapped m g h n (λ v l. e v (omega arith)))
    ∙ ap (λ xs. flat_map h (values_below n) ++ xs) (e last (omega arith)) ∙ sym (flat_push h n)

map_flat : {X : Type 0} (g : ValueId → X) (vs : List ValueId) → map g vs ≡ flat_map (λ v. g v ∷ []) vs
map_flat g [] = refl
map_flat g (v ∷ vs) = ap (λ xs. g v ∷ xs) (map_flat g vs)

each_mapped : {X Y : Type 0} (m : X → Y) (g : ValueId → X) (h : ValueId → Y) (n : ℕ) → ((v : ValueId) → v.0 < n → m (g v) ≡ h v) → map m (map g (values_below n)) ≡ map h (values_below n)
each_mapped m g h n e =
    ap (map m) (map_flat g (values_below n)) ∙ flat_mapped m (λ v. g v ∷ []) (λ v. h v ∷ []) n (λ v l. ap (λ y. y ∷ []) (e v l)) ∙ sym (map_flat h (values_below n))

-- ---- how many pieces

module _ (u : Universe) where
  mutual
    pieces_counted : (scope : Scope) (s : Statement) → length (piece_cells u scope s) ≡ piece_count u s
    pieces_counted scope (compare left op right) = refl
    pieces_counted scope (in_table t xs) = refl
    pieces_counted scope (negation s) = refl
    pieces_counted scope (all_of ss) = parts_counted scope ss
    pieces_counted scope (some_of ss) = refl
    pieces_counted scope (implies s t) = refl
    pieces_counted scope (iff s t) = refl
    pieces_counted scope (for_all name s body) = flat_length (λ v. piece_cells u (scope ++ (s, v) ∷ []) body) (piece_count u body) (λ v. pieces_counted (scope ++ (s, v) ∷ []) body) (size_of u s)
    pieces_counted scope (exists name s body) = refl
    pieces_counted scope (counts c name s body) = refl

    parts_counted : (scope : Scope) (ss : Statements) → length (piece_cells_of_parts u scope ss) ≡ piece_count_of_parts u ss
    parts_counted scope no_statements = refl
    parts_counted scope (statement s ss) =
        let a = length-append (piece_cells u scope s) (piece_cells_of_parts u scope ss) in
        let b = pieces_counted scope s in
        let c = parts_counted scope ss in
        omega (arith, a, b, c)

  pub rules_counted : (rules : List NamedStatement) → length (piece_cells_of_rules u rules) ≡ piece_count_of_rules u rules
  rules_counted [] = refl
  rules_counted (rule ∷ rules) =
      let a = length-append (piece_cells u [] rule.states) (piece_cells_of_rules u rules) in
      let b = pieces_counted [] rule.states in
      let c = rules_counted rules in
      omega (arith, a, b, c)

  -- ---- the numbers from a place on, where those of some pieces come first

  module _ (number : List ℕ → ℕ) (ns : List ℕ) where
    first_row : (xs ys : List (List ℕ)) (at c : ℕ) → length xs ≡ c → drop at ns ≡ map number (xs ++ ys) → row_of ns (span at c) ≡ map number xs
    first_row xs ys at c count so =
        let e : c ≡ length (map number xs) = sym count ∙ sym (length-map xs number) in
        ap (take c) (so ∙ map-append number xs ys) ∙ ap (λ k. take k (map number xs ++ map number ys)) e ∙ take_front (map number xs) (map number ys)

    next_row : (xs ys : List (List ℕ)) (at c : ℕ) → length xs ≡ c → drop at ns ≡ map number (xs ++ ys) → drop (at + c) ns ≡ map number ys
    next_row xs ys at c count so =
        let e : c ≡ length (map number xs) = sym count ∙ sym (length-map xs number) in
        sym (drop-drop c at ns) ∙ ap (drop c) (so ∙ map-append number xs ys) ∙ ap (λ k. drop k (map number xs ++ map number ys)) e ∙ drop_front (map number xs) (map number ys)

    apart : (xs ys zs : List (List ℕ)) (at : ℕ) → drop at ns ≡ map number ((xs ++ ys) ++ zs) → drop at ns ≡ map number (xs ++ (ys ++ zs))
    apart xs ys zs at so = so ∙ ap (map number) (append_assoc xs ys zs)

    -- those of an instance
    instance_there : (f : ValueId → List (List ℕ)) (c : ℕ) → ((v : ValueId) → length (f v) ≡ c) → (n j : ℕ) (after : List (List ℕ)) → drop j ns ≡ map number (flat_map f (values_below n) ++ after)
        → (v : ValueId) → v.0 < n → (rest : List (List ℕ)) × (drop (instance_at j c v) ns ≡ map number (f v ++ rest))
    instance_there f c e zero j after so v l = absurd (omega (arith, l))
    instance_there f c e (suc n) j after so v l =
        let last : ValueId = record { 0 = n } in
        let all = apart (flat_map f (values_below n)) (f last) after j (so ∙ ap (λ xs. map number (xs ++ after)) (flat_push f n)) in
        elim (cases_eq n v.0) [
          | inl same ↦ (after, subst (λ k. drop (j + k * c) ns ≡ map number (f (record { 0 = k }) ++ after)) same (next_row (flat_map f (values_below n)) (f last ++ after) j (n * c) (flat_length f c e n) all))
          | inr other ↦ instance_there f c e n j (f last ++ after) all v (omega (arith, l))
        ]

    one_row : (j i : ℕ) (gs : List GroundAxiom) → row_of ns (span j 1) ≡ i ∷ [] → map (row_of ns) (ground.of_one j gs) ≡ of_one i gs
    one_row j i [] e = refl
    one_row j i (g ∷ gs) e = ap (λ r. r ∷ map (row_of ns) (ground.of_one j gs)) e ∙ ap (λ rs. (i ∷ []) ∷ rs) (one_row j i gs e)

    children_read : (scope : Scope) (ss : Statements) (j : ℕ) (after : List (List ℕ)) → drop j ns ≡ map number (piece_cells_of_parts u scope ss ++ after) → map (row_of ns) (spans_of_children u j ss) ≡ parts_of_children u number scope ss
    children_read scope no_statements j after so = refl
    children_read scope (statement s ss) j after so =
        let xs = piece_cells u scope s in
        let ys = piece_cells_of_parts u scope ss in
        let all = apart xs ys after j so in
        let count = pieces_counted scope s in
        ap (λ r. r ∷ map (row_of ns) (spans_of_children u (j + piece_count u s) ss)) (first_row xs (ys ++ after) j (piece_count u s) count all)
        ∙ ap (λ rs. map number xs ∷ rs) (children_read scope ss (j + piece_count u s) after (next_row xs (ys ++ after) j (piece_count u s) count all))

    three : (xs ys : List Span) (j : ℕ) (fs hs : List (List ℕ)) → map (row_of ns) xs ≡ fs → map (row_of ns) ys ≡ hs → map (row_of ns) ((xs ++ no_groups j ∷ []) ++ ys) ≡ (fs ++ [] ∷ []) ++ hs
    three xs ys j fs hs h g =
        map-append (row_of ns) (xs ++ no_groups j ∷ []) ys ∙ ap (λ z. z ++ map (row_of ns) ys) (map-append (row_of ns) xs (no_groups j ∷ []))
        ∙ ap (λ z. (z ++ [] ∷ []) ++ map (row_of ns) ys) h ∙ ap (λ z. (fs ++ [] ∷ []) ++ z) g

    module _ (r : ℕ) where
      piece_read : (path : List ℕ) (scope : Scope) (s : Statement) (j : ℕ) (after : List (List ℕ)) → drop j ns ≡ map number (cells_under u scope s ∷ after)
          → map (row_of ns) (ground.of_one j (node_axioms u r path scope s)) ≡ of_one (number (cells_under u scope s)) (node_axioms u r path scope s)
      piece_read path scope s j after so = one_row j (number (cells_under u scope s)) (node_axioms u r path scope s) (first_row (cells_under u scope s ∷ []) after j 1 refl so)

      mutual
        read : (path : List ℕ) (scope : Scope) (s : Statement) (j : ℕ) (after : List (List ℕ)) → drop j ns ≡ map number (piece_cells u scope s ++ after) → map (row_of ns) (spans u j r path scope s) ≡ owners u number r path scope s
        read path scope (compare left op right) j after so = piece_read path scope (compare left op right) j after so
        read path scope (in_table t xs) j after so = piece_read path scope (in_table t xs) j after so
        read path scope (negation s) j after so = piece_read path scope (negation s) j after so
        read path scope (all_of ss) j after so =
            three (spans_of_children u j ss) (spans_of_parts u j r path scope 0 ss) j (parts_of_children u number scope ss) (owners_of_parts u number r path scope 0 ss)
            (children_read scope ss j after so) (parts_read path scope 0 ss j after so)
        read path scope (some_of ss) j after so = piece_read path scope (some_of ss) j after so
        read path scope (implies s t) j after so = piece_read path scope (implies s t) j after so
        read path scope (iff s t) j after so = piece_read path scope (iff s t) j after so
        read path scope (for_all name s body) j after so =
            let n = size_of u s in
            let c = piece_count u body in
            let f : ValueId → List (List ℕ) = λ v. piece_cells u (scope ++ (s, v) ∷ []) body in
            let there = instance_there f c (λ v. pieces_counted (scope ++ (s, v) ∷ []) body) n j after so in
            let own : ValueId → List (List ℕ) = λ v. owners u number r (path ++ v.0 ∷ []) (scope ++ (s, v) ∷ []) body in
            three (map (span_at j c) (values_below n)) (spans_of_values u j r path scope s body n) j (map (λ v. map number (f v)) (values_below n)) (flat_map own (values_below n))
            (each_mapped (row_of ns) (span_at j c) (λ v. map number (f v)) n (λ v l. let h = there v l in first_row (f v) h.0 (instance_at j c v) c (pieces_counted (scope ++ (s, v) ∷ []) body) h.1))
            (flat_mapped (row_of ns) (λ v. spans u (instance_at j c v) r (path ++ v.0 ∷ []) (scope ++ (s, v) ∷ []) body) own n
            (λ v l. let h = there v l in read (path ++ v.0 ∷ []) (scope ++ (s, v) ∷ []) body (instance_at j c v) h.0 h.1))
        read path scope (exists name s body) j after so = piece_read path scope (exists name s body) j after so
        read path scope (counts c name s body) j after so = piece_read path scope (counts c name s body) j after so

        parts_read : (path : List ℕ) (scope : Scope) (k : ℕ) (ss : Statements) (j : ℕ) (after : List (List ℕ)) → drop j ns ≡ map number (piece_cells_of_parts u scope ss ++ after)
            → map (row_of ns) (spans_of_parts u j r path scope k ss) ≡ owners_of_parts u number r path scope k ss
        parts_read path scope k no_statements j after so = refl
        parts_read path scope k (statement s ss) j after so =
            let xs = piece_cells u scope s in
            let ys = piece_cells_of_parts u scope ss in
            let all = apart xs ys after j so in
            let next = next_row xs (ys ++ after) j (piece_count u s) (pieces_counted scope s) all in
            let here = spans u j r (path ++ k ∷ []) scope s in
            let later = spans_of_parts u (j + piece_count u s) r path scope (k + 1) ss in
            map-append (row_of ns) here later ∙ ap (λ z. z ++ map (row_of ns) later) (read (path ++ k ∷ []) scope s j (ys ++ after) all)
            ∙ ap (λ z. owners u number r (path ++ k ∷ []) scope s ++ z) (parts_read path scope (k + 1) ss (j + piece_count u s) after next)

    pub rules_read : (r : ℕ) (rules : List NamedStatement) (j : ℕ) → drop j ns ≡ map number (piece_cells_of_rules u rules) → map (row_of ns) (spans_of_rules u j r rules) ≡ owners_of_rules u number r rules
    rules_read r [] j so = refl
    rules_read r (rule ∷ rules) j so =
        let xs = piece_cells u [] rule.states in
        let ys = piece_cells_of_rules u rules in
        let c = piece_count u rule.states in
        let count = pieces_counted [] rule.states in
        let own = spans u j r [] [] rule.states in
        let later = spans_of_rules u (j + c) (r + 1) rules in
        map-append (row_of ns) (span j c ∷ own) later
        ∙ ap (λ z. (z ∷ map (row_of ns) own) ++ map (row_of ns) later) (first_row xs ys j c count so)
        ∙ ap (λ z. (map number xs ∷ z) ++ map (row_of ns) later) (read r [] [] rule.states j ys so)
        ∙ ap (λ z. (map number xs ∷ owners u number r [] [] rule.states) ++ z) (rules_read (r + 1) rules (j + c) (next_row xs ys j c count so))

    -- the cells' axioms
    pub cells_read : (cell_number : ℕ → ℕ) (c : ℕ) (sizes : List ℕ) → ((d : ℕ) → d < c + length sizes → row_of ns (span d 1) ≡ cell_number d ∷ []) → map (row_of ns) (cells_spans c sizes) ≡ owners_of_cells cell_number c sizes
    cells_read cell_number c [] h = refl
    cells_read cell_number c (n ∷ sizes) h =
        map-append (row_of ns) (ground.of_one c (cell_axioms c n)) (cells_spans (c + 1) sizes)
        ∙ ap (λ z. z ++ map (row_of ns) (cells_spans (c + 1) sizes)) (one_row c (cell_number c) (cell_axioms c n) (h c (omega arith)))
        ∙ ap (λ z. of_one (cell_number c) (cell_axioms c n) ++ z) (cells_read cell_number (c + 1) sizes (λ d l. h d (omega (arith, l))))

pub number_there : (f : ℕ → ℕ) (a n d : ℕ) (ys : List ℕ) → d < n → take 1 (drop d (map f (range_with_len a n) ++ ys)) ≡ f (a + d) ∷ []
number_there f a zero d ys l = absurd (omega (arith, l))
number_there f a (suc n) zero ys l = let e : a ≡ a + 0 = omega arith in ap (λ k. f k ∷ []) e
number_there f a (suc n) (suc d) ys l = let e : a + 1 + d ≡ a + suc d = omega arith in number_there f (a + 1) n d ys (omega (arith, l)) ∙ ap (λ k. f k ∷ []) e

-- ---- they are of the groups that there are

module _ (N : ℕ) where
  within_one : (j : ℕ) → j + 1 ≤ N → (gs : List GroundAxiom) → AreWithin N (ground.of_one j gs)
  within_one j l [] = tt
  within_one j l (g ∷ gs) = (l, within_one j l gs)

  within_append : (xs ys : List Span) → AreWithin N xs → AreWithin N ys → AreWithin N (xs ++ ys)
  within_append [] ys h g = g
  within_append (x ∷ xs) ys h g = (h.0, within_append xs ys h.1 g)

  within_flat : (f : ValueId → List Span) (n : ℕ) → ((v : ValueId) → v.0 < n → AreWithin N (f v)) → AreWithin N (flat_map f (values_below n))
  within_flat f zero h = tt
  within_flat f (suc n) h =
      let last : ValueId = record { 0 = n } in
      subst (AreWithin N) (sym (flat_push f n)) (within_append (flat_map f (values_below n)) (f last) (within_flat f n (λ v l. h v (omega arith))) (h last (omega arith)))

  instance_within : (j c n v : ℕ) → j + n * c ≤ N → v < n → j + v * c + c ≤ N
  instance_within j c n v h l =
      let below : v + 1 ≤ n = omega arith in
      let room = mul-le-mul_right c below in
      omega (arith, room, h)

  module _ (u : Universe) where
    children_within : (ss : Statements) (j : ℕ) → j + piece_count_of_parts u ss ≤ N → AreWithin N (spans_of_children u j ss)
    children_within no_statements j l = tt
    children_within (statement s ss) j l = (omega (arith, l), children_within ss (j + piece_count u s) (omega (arith, l)))

    module _ (r : ℕ) where
      mutual
        within : (path : List ℕ) (scope : Scope) (s : Statement) (j : ℕ) → j + piece_count u s ≤ N → AreWithin N (spans u j r path scope s)
        within path scope (compare left op right) j l = within_one j l (node_axioms u r path scope (compare left op right))
        within path scope (in_table t xs) j l = within_one j l (node_axioms u r path scope (in_table t xs))
        within path scope (negation s) j l = within_one j l (node_axioms u r path scope (negation s))
        within path scope (all_of ss) j l =
            within_append (spans_of_children u j ss ++ no_groups j ∷ []) (spans_of_parts u j r path scope 0 ss)
            (within_append (spans_of_children u j ss) (no_groups j ∷ []) (children_within ss j l) (omega (arith, l), tt)) (parts_within path scope 0 ss j l)
        within path scope (some_of ss) j l = within_one j l (node_axioms u r path scope (some_of ss))
        within path scope (implies s t) j l = within_one j l (node_axioms u r path scope (implies s t))
        within path scope (iff s t) j l = within_one j l (node_axioms u r path scope (iff s t))
        within path scope (for_all name s body) j l =
            let n = size_of u s in
            let c = piece_count u body in
            within_append (map (span_at j c) (values_below n) ++ no_groups j ∷ []) (spans_of_values u j r path scope s body n)
            (within_append (map (span_at j c) (values_below n)) (no_groups j ∷ [])
            (subst (AreWithin N) (sym (map_flat (span_at j c) (values_below n))) (within_flat (λ v. span_at j c v ∷ []) n (λ v below. (instance_within j c n v.0 l below, tt)))) (omega (arith, l), tt))
            (within_flat (λ v. spans u (instance_at j c v) r (path ++ v.0 ∷ []) (scope ++ (s, v) ∷ []) body) n
            (λ v below. within (path ++ v.0 ∷ []) (scope ++ (s, v) ∷ []) body (instance_at j c v) (instance_within j c n v.0 l below)))
        within path scope (exists name s body) j l = within_one j l (node_axioms u r path scope (exists name s body))
        within path scope (counts c name s body) j l = within_one j l (node_axioms u r path scope (counts c name s body))

        parts_within : (path : List ℕ) (scope : Scope) (k : ℕ) (ss : Statements) (j : ℕ) → j + piece_count_of_parts u ss ≤ N → AreWithin N (spans_of_parts u j r path scope k ss)
        parts_within path scope k no_statements j l = tt
        parts_within path scope k (statement s ss) j l =
            within_append (spans u j r (path ++ k ∷ []) scope s) (spans_of_parts u (j + piece_count u s) r path scope (k + 1) ss)
            (within (path ++ k ∷ []) scope s j (omega (arith, l))) (parts_within path scope (k + 1) ss (j + piece_count u s) (omega (arith, l)))

    rules_within : (r : ℕ) (rules : List NamedStatement) (j : ℕ) → j + piece_count_of_rules u rules ≤ N → AreWithin N (spans_of_rules u j r rules)
    rules_within r [] j l = tt
    rules_within r (rule ∷ rules) j l =
        within_append (span j (piece_count u rule.states) ∷ spans u j r [] [] rule.states) (spans_of_rules u (j + piece_count u rule.states) (r + 1) rules)
        (omega (arith, l), within r [] [] rule.states j (omega (arith, l))) (rules_within (r + 1) rules (j + piece_count u rule.states) (omega (arith, l)))

    cells_within : (c : ℕ) (sizes : List ℕ) → c + length sizes ≤ N → AreWithin N (cells_spans c sizes)
    cells_within c [] l = tt
    cells_within c (n ∷ sizes) l = within_append (ground.of_one c (cell_axioms c n)) (cells_spans (c + 1) sizes) (within_one c (omega (arith, l)) (cell_axioms c n)) (cells_within (c + 1) sizes (omega (arith, l)))

    pub all_within : (sizes : List ℕ) (rules : List NamedStatement) → length sizes + piece_count_of_rules u rules ≤ N → AreWithin N (cells_spans 0 sizes ++ spans_of_rules u (length sizes) 0 rules)
    all_within sizes rules l = within_append (cells_spans 0 sizes) (spans_of_rules u (length sizes) 0 rules) (cells_within 0 sizes (omega (arith, l))) (rules_within 0 rules (length sizes) l)
