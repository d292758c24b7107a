-- What is counted, and the children of counting quantifiers.
use Rattle.std.proofs.Common.{◌≡◌, ℕ, zero, suc, ◌+◌, ◌-◌, ◌*◌, ◌/◌, ◌%◌, ◌<◌, ◌≤◌, ◌↔◌, inl, inr, Bool, true, false, MatchBool, IsTrue, cond, nat_lt, List, [], ◌∷◌, Option, None, Some, arith, refl, ap, sym, ◌∙◌, subst}
use Rattle.std.proofs.lemmas.Bool.{cases_lt}
use Rattle.pc_sheet.specs.Sheet.{Universe, Statement, of_first, counts}
use Rattle.pc_sheet.specs.Truth.{Scope, AtLeast, CountHolds}
use Rattle.pc_sheet.specs.Sizes.{size_of}
use Rattle.pc_sheet.specs.Views.{counting_of}
use Rattle.pc_sheet.specs.Nodes.{Node, child, threshold_of, counter_child, counted_child, node_from}
use Rattle.pc_sheet.specs.declared.ids.SortId.{SortId}
use Rattle.pc_sheet.specs.declared.ids.ValueId.{ValueId}
use Rattle.pc_sheet.specs.declared.ids.Entry.{Entry}
use Rattle.pc_sheet.specs.declared.nodes.NodeKind.{NodeKind}
use Rattle.pc_sheet.specs.declared.nodes.NodeKind.TheVariants.{Counter}
use Rattle.pc_sheet.proofs.Counters.{test_false, later_child, counter_there}
use Rattle.pc_logic.specs.inside.Found.{kind_in}
use Rattle.pc_logic.specs.Outcome.{outcome_at}

-- ---- how many values are such

module _ (P : ValueId → Type 0) where
  -- of the first i, so many
  abbrev pub AreFound : ℕ → ℕ → Type 0
  AreFound i found = (j : ℕ) → AtLeast P i j ↔ (j ≤ found)

  pub found_none : AreFound 0 0
  found_none zero = (λ h. omega arith, λ l. tt)
  found_none (suc j) = (λ h. absurd h, λ l. absurd (omega arith))

  pub found_more : (i found : ℕ) → AreFound i found → P (record { 0 = i }) → AreFound (suc i) (suc found)
  found_more i found h p zero = (λ t. omega arith, λ l. tt)
  found_more i found h p (suc j) = (
    λ t. elim t [ inl before ↦ (let l = (h (suc j)).0 before in omega arith) | inr here ↦ (let l = (h j).0 here.0 in omega arith) ],
    λ l. inr ((h j).1 (omega arith), p),
  )

  pub found_same : (i found : ℕ) → AreFound i found → ¬ P (record { 0 = i }) → AreFound (suc i) found
  found_same i found h n zero = (λ t. omega arith, λ l. tt)
  found_same i found h n (suc j) = (λ t. elim t [ inl before ↦ (h (suc j)).0 before | inr here ↦ absurd (n here.1) ], λ l. inl ((h (suc j)).1 l))

  found_to : (i found now : ℕ) → AreFound i found → P (record { 0 = i }) → now ≡ found + 1 → AreFound (i + 1) now
  found_to i found now h p is =
      let here : suc i ≡ i + 1 = omega arith in
      let more : suc found ≡ now = omega arith in
      subst (λ k. AreFound k now) here (subst (AreFound (suc i)) more (found_more i found h p))

  found_still : (i found now : ℕ) → AreFound i found → ¬ P (record { 0 = i }) → now ≡ found → AreFound (i + 1) now
  found_still i found now h n is = let here : suc i ≡ i + 1 = omega arith in subst (λ k. AreFound k now) here (subst (AreFound (suc i)) (sym is) (found_same i found h n))

  pub found_next : (i found now : ℕ) (b : Bool) → AreFound i found → IsTrue b ↔ P (record { 0 = i }) → now ≡ cond b (found + 1) found → AreFound (i + 1) now
  found_next i found now true h says is = found_to i found now h (says.0 refl) is
  found_next i found now false h says is = found_still i found now h (λ p. absurd (cc (says.1 p))) is

  pub as_counted : (n found : ℕ) → AreFound n found → (b : Bool) (k : ℕ) → MatchBool b (found ≤ k) (k ≤ found) ↔ CountHolds (counting_of b k) P n
  as_counted n found h true k = (
    λ l t. absurd (let more = (h (suc k)).0 t in omega arith),
    λ few. elim (cases_lt k found) [ inl l ↦ absurd (few ((h (suc k)).1 (omega arith))) | inr l ↦ l ],
  )
  as_counted n found h false k = (λ l. (h k).1 l, λ t. (h k).0 t)

-- ---- children

pub count_child : (u : Universe) (scope : Scope) (b : Bool) (n : ℕ) (name : List ℕ) (s : SortId) (body : Statement) (k : ℕ)
    → child u (scope, counts (counting_of b n) name s body) k ≡ counted_child scope (size_of u s) (threshold_of (counting_of b n)) name s body k
count_child u scope true n name s body k = refl
count_child u scope false n name s body k = refl

module _ (u : Universe) (scope : Scope) (n m : ℕ) (name : List ℕ) (s : SortId) (body : Statement) where
  pub no_counter : (q : ℕ) (steps : List ℕ) → n * m ≤ q → node_from u (counter_child scope n m name s body q) steps ≡ None
  no_counter q steps l = ap (λ b. node_from u (cond b (Some (scope, counts (of_first m (suc (q / m)) (suc (q % m))) name s body)) None) steps) (test_false q (n * m) l)

  none_below : (i j k : ℕ) → child u (scope, counts (of_first m i j) name s body) k ≡ None
  none_below i j k = later_child scope 0 0 name s body k (omega arith) ∙ ap (λ b. cond b (Some (scope, counts (of_first 0 (suc ((k - 0) / 0)) (suc ((k - 0) % 0))) name s body)) None) (test_false (k - 0) (0 * 0) (omega arith))

  pub below_counter : (q k : ℕ) (ks : List ℕ) → node_from u (counter_child scope n m name s body q) (k ∷ ks) ≡ None
  below_counter q k ks = by (nat_lt q (n * m))
    where
      by : (b : Bool) → node_from u (cond b (Some (scope, counts (of_first m (suc (q / m)) (suc (q % m))) name s body)) None) (k ∷ ks) ≡ None
      by true = ap (λ o. node_from u o ks) (none_below (suc (q / m)) (suc (q % m)) k)
      by false = refl

  pub counter_kind : (q : ℕ) → q < n * m → kind_in u (node_from u (counter_child scope n m name s body q) []) ≡ Some (Counter (suc (q / m)) (suc (q % m)))
  counter_kind q l = ap (λ o. kind_in u (node_from u o [])) (counter_there scope n m name s body q l)

  -- a counter is no atom, whose truth is given by reads
  pub outcome_of_counter : (reads : List Entry) (q : ℕ) (steps : List ℕ) (kind : NodeKind) → kind_in u (node_from u (counter_child scope n m name s body q) steps) ≡ Some kind
      → outcome_at u reads (node_from u (counter_child scope n m name s body q) steps) ≡ Some false
  outcome_of_counter reads q [] kind is = by (nat_lt q (n * m)) is
    where
      by : (b : Bool) → kind_in u (node_from u (cond b (Some (scope, counts (of_first m (suc (q / m)) (suc (q % m))) name s body)) None) []) ≡ Some kind
          → outcome_at u reads (node_from u (cond b (Some (scope, counts (of_first m (suc (q / m)) (suc (q % m))) name s body)) None) []) ≡ Some false
      by true e = refl
      by false e = absurd (cc)
  outcome_of_counter reads q (k ∷ ks) kind is = absurd (let none = ap (kind_in u) (below_counter q k ks) in cc)

  pub no_outcome : (reads : List Entry) (q : ℕ) (steps : List ℕ) → kind_in u (node_from u (counter_child scope n m name s body q) steps) ≡ None
      → outcome_at u reads (node_from u (counter_child scope n m name s body q) steps) ≡ None
  no_outcome reads q steps is = by (node_from u (counter_child scope n m name s body q) steps) is
    where
      by : (o : Option Node) → kind_in u o ≡ None → outcome_at u reads o ≡ None
      by None e = refl
      by (Some node) e = absurd (cc)
