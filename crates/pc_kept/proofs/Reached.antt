-- What a rule's path leads to is well sorted under values of its scope, or is a counter of a counting quantifier that is.
use Rattle.std.proofs.Common.{◌≡◌, ℕ, zero, suc, ◌+◌, ◌-◌, ◌*◌, ◌/◌, ◌%◌, ◌<◌, ◌⊎◌, inl, inr, cond, nat_lt, List, [], ◌∷◌, ◌++◌, append_assoc, Option, None, Some, slice_get, arith, ap, refl, sym, ◌∙◌, subst}
use Rattle.std.proofs.lemmas.Bool.{cases_lt}
use Rattle.std.proofs.lemmas.Nat.{div-add-mod'}
use Rattle.std.proofs.lemmas.List.Elements.{All-contains}
use Rattle.pc_sheet.specs.Sheet.{Universe, Sheet, Counting, no_more_than, no_fewer_than, of_first, Statement, Statements, no_statements, statement, compare, in_table, negation, all_of, some_of, implies, iff, for_all, exists, counts}
use Rattle.pc_sheet.specs.Truth.{Scope}
use Rattle.pc_sheet.specs.Sizes.{size_of}
use Rattle.pc_sheet.specs.Meanings.{GivesValues}
use Rattle.pc_sheet.specs.Nodes.{Node, part_at, one_of_two, bodies_of, threshold_of, counter_number, counted_child, child, node_from, root_of, node_at}
use Rattle.pc_sheet.specs.WellSorted.{Variables, IsBound, IsWellSorted, AreWellSorted}
use Rattle.pc_sheet.specs.WellFormed.{IsWellFormed, IsWellFormedRule}
use Rattle.pc_sheet.specs.declared.ids.SortId.{SortId}
use Rattle.pc_sheet.specs.declared.ids.ValueId.{ValueId}
use Rattle.pc_sheet.proofs.Counters.{test_true, test_false, quotient_below, number_is, body_child, later_child, counter_there}
use Rattle.pc_lemmas.proofs.Options.{same_some}
use Rattle.pc_parts.proofs.ReadWithin.{gives_more}
use Rattle.pc_ground.proofs.Walking.{child_is}
use Rattle.pc_components.proofs.Inside.{rule_of_node}
use Rattle.pc_components.proofs.PartFor.{slice_contains}

module _ (u : Universe) where
  abbrev pub IsSorted : Node → Type 0
  IsSorted n = (vs : Variables) × IsWellSorted u vs n.1 × GivesValues u n.0 vs

  -- the child of number k of that statement, where it is a counter
  pub record IsCounter (n : Node) (k : ℕ) (to : Node) : Type 0 where
    pub c : Counting
    pub name : List ℕ
    pub s : SortId
    pub body : Statement
    pub i : ℕ
    pub j : ℕ
    pub counts' : n.1 ≡ counts c name s body
    pub low : i < bodies_of c (size_of u s)
    pub few : j < threshold_of c
    pub number : k ≡ counter_number (bodies_of c (size_of u s)) (threshold_of c) (suc i) (suc j)
    pub is : to.1 ≡ counts (of_first (threshold_of c) (suc i) (suc j)) name s body

  all_bodies : (c : Counting) (n : ℕ) → IsBound c → bodies_of c n ≡ n
  all_bodies (no_more_than k) n h = refl
  all_bodies (no_fewer_than k) n h = refl
  all_bodies (of_first m i j) n h = absurd h

  none_some : {X : Type 0} {x : X} → None ≡ Some x → ⊥
  none_some e = absurd (cc)

  part_sorted : (scope : Scope) (vs : Variables) (ss : Statements) → AreWellSorted u vs ss → GivesValues u scope vs → (k : ℕ) (to : Node) → part_at scope ss k ≡ Some to → IsSorted to
  part_sorted scope vs no_statements h given k to at = absurd (none_some at)
  part_sorted scope vs (statement s ss) h given zero to at = subst IsSorted (same_some at) (vs, h.0, given)
  part_sorted scope vs (statement s ss) h given (suc k) to at = part_sorted scope vs ss h.1 given k to at

  two_sorted : (scope : Scope) (vs : Variables) (s t : Statement) → IsWellSorted u vs s → IsWellSorted u vs t → GivesValues u scope vs → (k : ℕ) (to : Node) → one_of_two scope s t k ≡ Some to → IsSorted to
  two_sorted scope vs s t h g given zero to at = subst IsSorted (same_some at) (vs, h, given)
  two_sorted scope vs s t h g given (suc zero) to at = subst IsSorted (same_some at) (vs, g, given)
  two_sorted scope vs s t h g given (suc (suc k)) to at = absurd (none_some at)

  body_sorted : (scope : Scope) (vs : Variables) (name : List ℕ) (s : SortId) (body : Statement) → IsWellSorted u (vs ++ (name, s) ∷ []) body → GivesValues u scope vs
      → (k : ℕ) (to : Node) → cond (nat_lt k (size_of u s)) (Some (scope ++ (s, record { 0 = k }) ∷ [], body)) None ≡ Some to → IsSorted to
  body_sorted scope vs name s body h given k to at = elim (cases_lt k (size_of u s)) [
    | inl low ↦
        let v : ValueId = record { 0 = k } in
        subst IsSorted (same_some (sym (ap (λ b. cond b (Some (scope ++ (s, v) ∷ [], body)) None) (test_true k (size_of u s) low)) ∙ at)) (vs ++ (name, s) ∷ [], h, gives_more u scope vs name s v low given)
    | inr high ↦ let v : ValueId = record { 0 = k } in absurd (none_some (sym (ap (λ b. cond b (Some (scope ++ (s, v) ∷ [], body)) None) (test_false k (size_of u s) high)) ∙ at))
  ]

  counted_sorted : (scope : Scope) (vs : Variables) (c : Counting) (name : List ℕ) (s : SortId) (body : Statement) → IsBound c → IsWellSorted u (vs ++ (name, s) ∷ []) body → GivesValues u scope vs
      → (k : ℕ) (to : Node) → counted_child scope (bodies_of c (size_of u s)) (threshold_of c) name s body k ≡ Some to → IsSorted to ⊎ IsCounter (scope, counts c name s body) k to
  counted_sorted scope vs c name s body bound h given k to at = elim (cases_lt k n) [
    | inl low ↦
        let v : ValueId = record { 0 = k } in
        let size = all_bodies c (size_of u s) bound in
        inl (subst IsSorted (same_some (sym (body_child scope n m name s body k low) ∙ at)) (vs ++ (name, s) ∷ [], h, gives_more u scope vs name s v (omega (arith, low, size)) given))
    | inr high ↦
        let q = k - n in
        let later = sym (later_child scope n m name s body k high) ∙ at in
        elim (cases_lt q (n * m)) [
          | inl low ↦
              let place = quotient_below q n m low in
              let whole : n + q ≡ k = omega (arith, high) in
              inr (record {
                c = c;
                name = name;
                s = s;
                body = body;
                i = q / m;
                j = q % m;
                counts' = refl;
                low = place.0;
                few = place.1;
                number = sym (number_is n m (q / m) (q % m) ∙ ap (λ x. n + x) (div-add-mod' q m) ∙ whole);
                is = ap (λ (x : Node). x.1) (same_some (sym later ∙ counter_there scope n m name s body q low));
              })
          | inr none ↦
              let made : Node = (scope, counts (of_first m (suc (q / m)) (suc (q % m))) name s body) in
              absurd (none_some (sym (ap (λ b. cond b (Some made) None) (test_false q (n * m) none)) ∙ later))
        ]
  ]
    where
      n : ℕ
      n = bodies_of c (size_of u s)

      m : ℕ
      m = threshold_of c

  child_sorted : (scope : Scope) (vs : Variables) (s : Statement) → IsWellSorted u vs s → GivesValues u scope vs → (k : ℕ) (to : Node) → child u (scope, s) k ≡ Some to → IsSorted to ⊎ IsCounter (scope, s) k to
  child_sorted scope vs (compare left op right) h given k to at = absurd (none_some at)
  child_sorted scope vs (in_table t xs) h given k to at = absurd (none_some at)
  child_sorted scope vs (negation s) h given zero to at = inl (subst IsSorted (same_some at) (vs, h, given))
  child_sorted scope vs (negation s) h given (suc k) to at = absurd (none_some at)
  child_sorted scope vs (all_of ss) h given k to at = inl (part_sorted scope vs ss h.1 given k to at)
  child_sorted scope vs (some_of ss) h given k to at = inl (part_sorted scope vs ss h.1 given k to at)
  child_sorted scope vs (implies s t) h given k to at = inl (two_sorted scope vs s t h.0 h.1 given k to at)
  child_sorted scope vs (iff s t) h given k to at = inl (two_sorted scope vs s t h.0 h.1 given k to at)
  child_sorted scope vs (for_all name s body) h given k to at = inl (body_sorted scope vs name s body h.1 given k to at)
  child_sorted scope vs (exists name s body) h given k to at = inl (body_sorted scope vs name s body h.1 given k to at)
  child_sorted scope vs (counts c name s body) h given k to at = counted_sorted scope vs c name s body h.0 h.2 given k to at

  -- a counter has no children
  no_child : (scope : Scope) (m i j : ℕ) (name : List ℕ) (s : SortId) (body : Statement) (k : ℕ) → child u (scope, counts (of_first m i j) name s body) k ≡ None
  no_child scope m i j name s body k =
      let made : Node = (scope, counts (of_first 0 (suc ((k - 0) / 0)) (suc ((k - 0) % 0))) name s body) in
      later_child scope 0 0 name s body k (omega arith) ∙ ap (λ b. cond b (Some made) None) (test_false (k - 0) (0 * 0) (omega arith))

-- a counter of the quantifier that is above the path's end
abbrev pub IsCounterAt : Sheet → ℕ → List ℕ → Type 0
IsCounterAt sheet r path =
    (up : List ℕ) × (from : Node) × (k : ℕ) × (to : Node) × (path ≡ up ++ k ∷ []) × (node_at sheet r up ≡ Some from) × IsCounter sheet.universe from k to

module _ (sheet : Sheet) (r : ℕ) where
  walk : (ks at : List ℕ) (from : Node) → node_at sheet r at ≡ Some from → IsSorted sheet.universe from → (n : Node) → node_from sheet.universe (Some from) ks ≡ Some n → IsSorted sheet.universe n ⊎ IsCounterAt sheet r (at ++ ks)
  walk [] at from is sorted n h = inl (subst (IsSorted sheet.universe) (same_some h) sorted)
  walk (k ∷ ks) at from is sorted n h = by (child sheet.universe from k) refl (λ to next more. walk ks (at ++ k ∷ []) to next more n) h
    where
      counter : (to : Node) → IsCounter sheet.universe from k to → (js : List ℕ) → node_from sheet.universe (Some to) js ≡ Some n → IsCounterAt sheet r (at ++ k ∷ js)
      counter to c [] h' = (at, from, k, to, refl, is, c)
      counter to c (j ∷ js) h' =
          let u = sheet.universe in
          let none : child u to j ≡ None = ap (λ s. child u (to.0, s) j) c.is ∙ no_child u to.0 (threshold_of c.c) (suc c.i) (suc c.j) c.name c.s c.body j in
          absurd (none_some u (sym (ap (λ o. node_from u o js) none) ∙ h'))

      by : (o : Option Node) → child sheet.universe from k ≡ o
          → ((to : Node) → node_at sheet r (at ++ k ∷ []) ≡ Some to → IsSorted sheet.universe to → node_from sheet.universe (Some to) ks ≡ Some n → IsSorted sheet.universe n ⊎ IsCounterAt sheet r ((at ++ k ∷ []) ++ ks))
          → node_from sheet.universe o ks ≡ Some n → IsSorted sheet.universe n ⊎ IsCounterAt sheet r (at ++ k ∷ ks)
      by None e rest h' = absurd (none_some sheet.universe h')
      by (Some to) e rest h' = elim (child_sorted sheet.universe from.0 sorted.0 from.1 sorted.1 sorted.2 k to e) [
        | inl more ↦ subst (λ xs. IsSorted sheet.universe n ⊎ IsCounterAt sheet r xs) (append_assoc at (k ∷ []) ks) (rest to (child_is sheet r at from k is ∙ e) more h')
        | inr c ↦ inr (counter to c ks h')
      ]

pub reached : (sheet : Sheet) → IsWellFormed sheet → (r : ℕ) (path : List ℕ) (n : Node) → node_at sheet r path ≡ Some n → IsSorted sheet.universe n ⊎ IsCounterAt sheet r path
reached sheet formed r path n at =
    let u = sheet.universe in
    let rule = rule_of_node u (slice_get sheet.rules r) path n at in
    let sorted = (All-contains (IsWellFormedRule u) sheet.rules rule.0 formed.rules.each (slice_contains sheet.rules r rule.0 rule.1)).sorted in
    walk sheet r path [] ([], rule.0.states) (ap (λ o. node_from u (root_of o) []) rule.1) ([], sorted, tt) n rule.2
