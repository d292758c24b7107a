-- What contains no kept axiom, no literal that they force and no banned one contains no axiom of the part.
use Rattle.std.proofs.Common.{◌≡◌, ℕ, inl, inr, List, [], ◌∷◌, map, Contains, sym, subst}
use Rattle.std.proofs.lemmas.List.Elements.{All-contains, Contains-append_right}
use Rattle.pc_sheet.specs.Sheet.{Sheet}
use Rattle.pc_sheet.specs.WellFormed.{IsWellFormed}
use Rattle.pc_laws.proofs.SomeAssignment.{some_assignment}
use Rattle.pc_accept.specs.Literals.{node, Literal}
use Rattle.pc_accept.specs.Axioms.{Axiom, axiom_some, axiom_one, axiom_rule, axiom_node, axiom_atom, negated_entry, IsClauseOf}
use Rattle.pc_accept.proofs.AxiomsTrue.{other_axioms_true}
use Rattle.pc_lemmas.proofs.Elements.{contains_first, contains_map}
use Rattle.pc_ground.specs.Variables.{number}
use Rattle.pc_lits.specs.declared.literal.Lit.{Lit}
use Rattle.pc_lits.specs.Clauses.{IsSubclause}
use Rattle.pc_ground.specs.Ground.{GroundAxiom, axioms, lit_of, clause_of_axiom, clauses}
use Rattle.pc_components.specs.PartAxioms.{AreVariablesOf}
use Rattle.pc_solver.specs.Forced.{IsForced}
use Rattle.pc_ground.proofs.OfAxioms.{all_right}
use Rattle.pc_components.proofs.PartFor.{slice_contains}
use Rattle.pc_components.proofs.Symbols.{rule_symbols}
use Rattle.pc_kept.specs.ByPolarity.{KeptByPolarityAreKept, KeptAreByPolarity, NoneIsContainedByPolarity}
use Rattle.pc_kept.specs.Kept.{IsAmong, IsNode, IsOfNode, IsLeftOut}
use Rattle.pc_kept.proofs.BySymbol.{axiom_at}

-- it names a node
names_node : (sheet : Sheet) → IsWellFormed sheet → (x : Axiom) → IsOfNode x → (clause : List Literal) → IsClauseOf sheet x clause → (l : Literal) × Contains clause l × IsNode l.what
names_node sheet formed (axiom_some c) h clause is = absurd h
names_node sheet formed (axiom_one c v w) h clause is = absurd h
names_node sheet formed (axiom_rule r) h clause is = absurd h
names_node sheet formed (axiom_node r path i) h clause is =
    let base = some_assignment sheet.universe formed.universe in
    let l = other_axioms_true sheet base.0 base.1 (axiom_node r path i) clause tt is in
    (l.0, l.1, rule_symbols IsNode sheet r path (λ steps. tt) i clause is l.0 l.1)
names_node sheet formed (axiom_atom r path reads) h clause is =
    let end : Literal = record { what = node r path; sign = is.truth } in
    (end, subst (λ d. Contains d end) (sym is.is) (Contains-append_right (map negated_entry reads) (end ∷ []) end (contains_first end [])), tt)

module _ (sheet : Sheet) (formed : IsWellFormed sheet) (kept own : List ℕ) (vars : AreVariablesOf (clauses sheet) kept own)
    (clause : List Lit) (over : (l : Lit) → Contains clause l → Contains own l.variable.0) (avoids : (l : Lit) → Contains clause l → ¬ IsForced (IsAmong (clauses sheet) kept) l) where
  -- a clause over the kept axioms' variables without a literal that they force contains no axiom that is left out
  left_out : (g : GroundAxiom) → Contains (axioms sheet) g → IsLeftOut sheet kept g → ((l : Literal) → Contains g.clause l → Contains clause (lit_of sheet l)) → ⊥
  left_out g g_in out in_clause = elim out.1 [
    | inl started ↦ avoids (lit_of sheet started.0) (in_clause started.0 started.1) started.2
    | inr (inl unneeded) ↦
        let is = All-contains (λ q. IsClauseOf sheet q.name q.clause) (axioms sheet) g (all_right sheet) g_in in
        let l = names_node sheet formed g.name out.0 g.clause is in
        unneeded l.0 l.1 l.2 ((vars.exact (number sheet l.0.what)).0 (over (lit_of sheet l.0) (in_clause l.0 l.1)))
    | inr (inr constant) ↦ constant.3 ((vars.exact (number sheet constant.0.what)).0 (over (lit_of sheet constant.0) (in_clause constant.0 constant.1)))
  ]

-- the literals of an axiom whose clause lies within another one
within_clause : (sheet : Sheet) (clause axiom_clause : List Lit) (g : GroundAxiom) → clause_of_axiom sheet g ≡ axiom_clause → IsSubclause axiom_clause clause → (l : Literal) → Contains g.clause l → Contains clause (lit_of sheet l)
within_clause sheet clause axiom_clause g is inside l has = inside (lit_of sheet l) (subst (λ c. Contains c (lit_of sheet l)) is (contains_map (lit_of sheet) g.clause l has))

pub none_is_contained_by_polarity : NoneIsContainedByPolarity
none_is_contained_by_polarity sheet formed used kept own banned are vars clause over avoids free none k axiom_clause k_used at inside =
    let found = axiom_at sheet k axiom_clause at in
    let in_clause = within_clause sheet clause axiom_clause found.0 found.2 inside in
    elim (are.each k found.0 k_used found.1) [
      | inl stays ↦ none k axiom_clause stays at inside
      | inr (inl out) ↦ left_out sheet formed kept own vars clause over avoids found.0 (slice_contains (axioms sheet) k found.0 found.1) out in_clause
      | inr (inr out) ↦ free (lit_of sheet out.0) (in_clause out.0 out.1.0) out.2
    ]

-- where nothing is banned
pub kept_by_polarity_are_kept : KeptByPolarityAreKept
kept_by_polarity_are_kept sheet used kept banned none are = record {
  among = are.among;
  each = λ k g k_used at. elim (are.each k g k_used at) [
    | inl stays ↦ inl stays
    | inr (inl out) ↦ inr out
    | inr (inr out) ↦ absurd (none (lit_of sheet out.0) out.2)
  ];
  order = are.order;
}

pub kept_are_by_polarity : KeptAreByPolarity
kept_are_by_polarity sheet used kept banned none are = record {
  among = are.among;
  each = λ k g k_used at. elim (are.each k g k_used at) [ inl stays ↦ inl stays | inr out ↦ inr (inl out) ];
  order = are.order;
  only = λ l there is. absurd (none (lit_of sheet l) is);
}
