-- What is kept by what is stored of a sheet is kept of the sheet.
use Rattle.std.proofs.Common.{◌≡◌, ℕ, zero, suc, ◌+◌, ◌<◌, ◌≤◌, inl, inr, Bool, false, List, [], ◌∷◌, map, sum, sum_by, take, Option, None, Some, slice_get, Contains, arith, ap, refl, sym, ◌∙◌, subst}
use Rattle.pc_sheet.specs.Sheet.{Universe, Sheet}
use Rattle.pc_sheet.specs.Entailment.{cell_sizes}
use Rattle.pc_sheet.specs.Nodes.{Node, child, root_of}
use Rattle.pc_accept.specs.Literals.{Symbol, pair, node, Literal, opposite}
use Rattle.pc_lemmas.proofs.Elements.{contains_map, contains_mapped}
use Rattle.pc_ground.specs.Variables.{variables, number, number_from, nodes_before, nodes_of_rule}
use Rattle.pc_ground.specs.Ground.{GroundAxiom, axioms, lit_of, clause_of_axiom, clauses}
use Rattle.pc_ground.specs.Naming.{name_of, names_of}
use Rattle.pc_components.specs.PartAxioms.{IsUsed}
use Rattle.pc_components.proofs.PartFor.{slice_map}
use Rattle.std.proofs.lemmas.List.Sums.{sum_by-cons}
use Rattle.std.proofs.lemmas.List.Elements.{All-contains, Contains-append_cases}
use Rattle.pc_sheet.specs.WellFormed.{IsEntryOf}
use Rattle.pc_accept.specs.Axioms.{Axiom, axiom_some, axiom_one, axiom_rule, axiom_node, axiom_atom, negated_entry, pair_of, IsClauseOf}
use Rattle.pc_lemmas.proofs.Options.{some_and, same_some}
use Rattle.pc_lemmas.proofs.Elements.{contains_cases, contains_none}
use Rattle.pc_ground.proofs.OfAxioms.{all_right}
use Rattle.pc_ground.proofs.Symbols.{symbols_are_variables}
use Rattle.pc_components.proofs.PartFor.{slice_contains, its_place}
use Rattle.pc_components.proofs.Symbols.{rule_symbols}
use Rattle.pc_kept.specs.Kept.{IsOfNode}
use Rattle.pc_lits.specs.declared.literal.Lit.{Lit}
use Rattle.pc_solver.specs.Forced.{IsForced}
use Rattle.pc_lits.specs.Values.{MakesTrue}
use Rattle.pc_kept.specs.Kept.{IsAmong, IsNode, IsLeftOut}
use Rattle.pc_kept.specs.ByPolarity.{meant_by, IsNamedBy, IsBannedOut}
use Rattle.pc_kept.specs.Stored.{IsOwnStored, IsNamedStored, IsBannedOutStored, AreUnnamedStored, IsLeftOutStored}
use Rattle.pc_kept.specs.Laws.{KeptByWhatIsStored}

no_less : (u : Universe) (p : ℕ) (o : Option Node) (path : List ℕ) → p ≤ number_from u p o path
no_less u p None [] = omega arith
no_less u p None (k ∷ ks) = omega arith
no_less u p (Some n) [] = omega arith
no_less u p (Some n) (k ∷ ks) = let rest = no_less u (p + 1 + nodes_before u n.1 k) (child u n k) ks in omega (arith, rest)

-- nodes are numbered after pairs
pub node_number : (sheet : Sheet) (x : Symbol) → IsNode x → sum (cell_sizes sheet.universe) ≤ number sheet x
node_number sheet (pair c v) h = absurd h
node_number sheet (node r path) h = let rest = no_less sheet.universe (sum (cell_sizes sheet.universe) + sum_by (nodes_of_rule sheet.universe) (take r sheet.rules)) (root_of (slice_get sheet.rules r)) path in omega (arith, rest)

pub pair_early : (sizes : List ℕ) (c n w : ℕ) → slice_get sizes c ≡ Some n → w < n → sum (take c sizes) + w < sum sizes
pair_early [] c n w at low = absurd (cc)
pair_early (m ∷ ms) zero n w at low = let same : m ≡ n = cc in let all : sum (m ∷ ms) ≡ m + sum ms = sum_by-cons (λ x. x) m ms in let none : sum (take zero (m ∷ ms)) ≡ 0 = refl in omega (arith, low, same, all, none)
pair_early (m ∷ ms) (suc c) n w at low = let rest = pair_early ms c n w at low in let all : sum (m ∷ ms) ≡ m + sum ms = sum_by-cons (λ x. x) m ms in let front : sum (m ∷ take c ms) ≡ m + sum (take c ms) = sum_by-cons (λ x. x) m (take c ms) in omega (arith, rest, all, front)

-- a variable of a node's axiom that is numbered after the pairs is a node
pub late_node : (sheet : Sheet) (x : Axiom) → IsOfNode x → (clause : List Literal) → IsClauseOf sheet x clause → (l : Literal) → Contains clause l → sum (cell_sizes sheet.universe) ≤ number sheet l.what → IsNode l.what
late_node sheet (axiom_some c) h clause is l has high = absurd h
late_node sheet (axiom_one c v w) h clause is l has high = absurd h
late_node sheet (axiom_rule r) h clause is l has high = absurd h
late_node sheet (axiom_node r path i) h clause is l has high =
    rule_symbols IsNode sheet r path (λ steps. tt) i clause is l has
late_node sheet (axiom_atom r path reads) h clause is l has high =
    let end : Literal = record { what = node r path; sign = is.truth } in
    elim (Contains-append_cases (map negated_entry reads) (end ∷ []) l (subst (λ d. Contains d l) is.is has)) [
      | inl read ↦
          let e = contains_mapped negated_entry reads l read in
          let n = some_and (slice_get (cell_sizes sheet.universe) e.0.cell.0) (λ n. e.0.value.0 < n) (All-contains (IsEntryOf sheet.universe) reads e.0 is.each e.1) in
          let early = pair_early (cell_sizes sheet.universe) e.0.cell.0 n.0 e.0.value.0 n.1 n.2 in
          let late : sum (cell_sizes sheet.universe) ≤ number sheet (pair_of e.0) = subst (λ (m : Literal). sum (cell_sizes sheet.universe) ≤ number sheet m.what) (sym e.2) high in
          absurd (omega (arith, early, late))
      | inr last ↦ elim (contains_cases end [] l last) [
        | inl is_end ↦ subst (λ (m : Literal). IsNode m.what) is_end tt
        | inr nothing ↦ absurd (contains_none l nothing)
      ]
    ]

module _ (sheet : Sheet) where
  abbrev pairs : ℕ
  pairs = sum (cell_sizes sheet.universe)

  -- what is left out by what is stored is left out
  left_out : (kept : List ℕ) (k : ℕ) (g : GroundAxiom) → slice_get (axioms sheet) k ≡ Some g → IsLeftOutStored pairs (clauses sheet) (names_of sheet) kept k → IsLeftOut sheet kept g
  left_out kept k g at out =
      let of_node = out.of_node g.name (slice_map name_of (axioms sheet) k g at) in (
        of_node,
        elim (out.why (clause_of_axiom sheet g) (slice_map (clause_of_axiom sheet) (axioms sheet) k g at)) [
          | inl (l, has, forced) ↦
              let m = contains_mapped (lit_of sheet) g.clause l has in
              inl (m.0, m.1, subst (IsForced (IsAmong (clauses sheet) kept)) (sym m.2) forced)
          | inr (inr (l, has, high, none, (meanings, mean, forced))) ↦
              let m = contains_mapped (lit_of sheet) g.clause l has in
              let same : l.variable.0 ≡ number sheet m.0.what = ap (λ (q : Lit). q.variable.0) (sym m.2) in
              let is = All-contains (λ q. IsClauseOf sheet q.name q.clause) (axioms sheet) g (all_right sheet) (slice_contains (axioms sheet) k g at) in
              let is_node = late_node sheet g.name of_node g.clause is m.0 m.1 (subst (λ n. pairs ≤ n) same high) in
              inr (inr (
                m.0,
                m.1,
                is_node,
                subst (λ n. ¬ IsUsed (clauses sheet) kept n) same none,
                (meanings, λ j q j_in q_at. mean j q.name j_in (slice_map name_of (axioms sheet) j q q_at), subst (IsForced (IsAmong (clauses sheet) meanings)) (sym m.2) forced),
              ))
          | inr (inl none) ↦ inr (inl (λ l has is_node. none (lit_of sheet l) (contains_map (lit_of sheet) g.clause l has) (node_number sheet l.what is_node)))
        ],
      )

  -- the axiom with that name says what a variable there means only where that is the variable's symbol
  own_symbol : (k : ℕ) (g : GroundAxiom) → slice_get (axioms sheet) k ≡ Some g → (x : Symbol) → Contains (variables sheet) x → IsOwnStored (names_of sheet) k (number sheet x) → meant_by g.name ≡ Some x
  own_symbol k g at x x_in (a, a_at, s, means, s_at) =
      let name : g.name ≡ a = same_some (sym (slice_map name_of (axioms sheet) k g at) ∙ a_at) in
      let symbol : s ≡ x = same_some (sym s_at ∙ its_place sheet (λ z. false) x x_in) in
      ap meant_by name ∙ means ∙ ap Some symbol

  -- what is named is named by what is stored
  named_stored : (kept : List ℕ) (l : Literal) → IsNamedBy sheet kept l → IsNamedStored (clauses sheet) (names_of sheet) kept (lit_of sheet l)
  named_stored kept l (k, g, k_in, at, has, other) = (
    k,
    clause_of_axiom sheet g,
    k_in,
    slice_map (clause_of_axiom sheet) (axioms sheet) k g at,
    contains_map (lit_of sheet) g.clause l has,
    λ own. other (own_symbol k g at l.what (symbols_are_variables sheet g (slice_contains (axioms sheet) k g at) l has) own),
  )

  -- what is banned by what is stored is a node, and no kept axiom names its opposite
  unnamed : (banned : List (Option Bool)) (kept : List ℕ) → AreUnnamedStored (clauses sheet) (names_of sheet) banned kept
      → (l : Literal) → Contains (variables sheet) l.what → MakesTrue banned (lit_of sheet l) → IsNode l.what × (¬ IsNamedBy sheet kept (opposite l))
  unnamed banned kept h l there bans =
      let so = h (lit_of sheet l) l.what (its_place sheet (λ z. false) l.what there) bans in
      (so.0, λ named. so.1 (named_stored kept (opposite l) named))

  banned_out : (banned : List (Option Bool)) (kept : List ℕ) → AreUnnamedStored (clauses sheet) (names_of sheet) banned kept
      → (k : ℕ) (g : GroundAxiom) → slice_get (axioms sheet) k ≡ Some g → IsBannedOutStored (clauses sheet) (names_of sheet) banned k → IsBannedOut sheet kept banned g
  banned_out banned kept h k g at (clause, clause_at, l, has, own, bans) =
      let same : clause ≡ clause_of_axiom sheet g = same_some (sym clause_at ∙ slice_map (clause_of_axiom sheet) (axioms sheet) k g at) in
      let m = contains_mapped (lit_of sheet) g.clause l (subst (λ c. Contains c l) same has) in
      let m_there = symbols_are_variables sheet g (slice_contains (axioms sheet) k g at) m.0 m.1 in
      let m_bans = subst (MakesTrue banned) (sym m.2) bans in
      let m_own = own_symbol k g at m.0.what m_there (subst (IsOwnStored (names_of sheet) k) (ap (λ (q : Lit). q.variable.0) (sym m.2)) own) in
      (m.0, (m.1, m_own), m_bans, (unnamed banned kept h m.0 m_there m_bans).1)

pub kept_by_what_is_stored : KeptByWhatIsStored
kept_by_what_is_stored sheet banned used kept order h only = record {
  among = h.among;
  each = λ k g k_used at. elim (h.each k k_used) [
    | inl stays ↦ inl stays
    | inr (inl out) ↦ inr (inl (left_out sheet kept k g at out))
    | inr (inr out) ↦ inr (inr (banned_out sheet banned kept only k g at out))
  ];
  order = h.order order;
  only = unnamed sheet banned kept only;
}
