-- Axioms by number: their clauses, what they mean, and the ranks of variables.
use Rattle.std.proofs.Common.{◌≡◌, ℕ, ◌≤◌, ◌⊎◌, inl, inr, Bool, false, not, List, [], sum, Contains, Option, None, Some, slice_get, ap, refl, sym, ◌∙◌, subst}
use Rattle.std.proofs.lemmas.Bool.{cases_eq}
use Rattle.std.proofs.lemmas.List.Elements.{All-contains}
use Rattle.pc_lits.specs.declared.literal.Lit.{Lit}
use Rattle.pc_lits.specs.Literals.{negated}
use Rattle.pc_sheet.specs.Sheet.{Sheet}
use Rattle.pc_sheet.specs.Entailment.{cell_sizes}
use Rattle.pc_accept.specs.Literals.{Symbol, pair, node, Literal}
use Rattle.pc_accept.specs.Axioms.{Axiom, axiom_some, axiom_one, axiom_rule, axiom_node, axiom_atom, IsClauseOf}
use Rattle.pc_lemmas.proofs.Elements.{contains_map, contains_mapped}
use Rattle.pc_lemmas.proofs.Options.{same_some}
use Rattle.pc_ground.specs.Variables.{variables, number}
use Rattle.pc_ground.specs.Ground.{GroundAxiom, axioms, lit_of, clause_of_axiom}
use Rattle.pc_ground.proofs.OfAxioms.{all_right}
use Rattle.pc_ground.proofs.Symbols.{symbols_are_variables}
use Rattle.pc_components.proofs.PartFor.{slice_contains, its_place}
use Rattle.pc_kept.specs.Kept.{IsNode}
use Rattle.pc_kept.specs.ByPolarity.{meant_by}
use Rattle.pc_kept.proofs.FromStored.{node_number}
use Rattle.pc_kept.proofs.Meant.{IsBefore, not_itself, Tells, axiom_tells}
use Rattle.pc_kept.proofs.Ranks.{rank_of}

pub none_some : {X : Type 0} {x : X} → None ≡ Some x → ⊥
none_some e = absurd (cc)

-- what an axiom means is a node
pub meant_node : (x : Axiom) (s : Symbol) → meant_by x ≡ Some s → IsNode s
meant_node (axiom_some c) s h = absurd (none_some h)
meant_node (axiom_one c v w) s h = absurd (none_some h)
meant_node (axiom_rule r) s h = absurd (none_some h)
meant_node (axiom_node r path i) s h = subst IsNode (same_some h) tt
meant_node (axiom_atom r path reads) s h = subst IsNode (same_some h) tt

never_before : (p : Symbol) → IsBefore p p → ⊥
never_before (pair c v) h = h
never_before (node r path) h = not_itself r path h

module _ (sheet : Sheet) where
  -- ---- clauses

  abbrev of_axiom : Option GroundAxiom → List Lit
  of_axiom None = []
  of_axiom (Some g) = clause_of_axiom sheet g

  abbrev pub clause_at : ℕ → List Lit
  clause_at k = of_axiom (slice_get (axioms sheet) k)

  pub clause_is : (k : ℕ) (g : GroundAxiom) → slice_get (axioms sheet) k ≡ Some g → clause_at k ≡ clause_of_axiom sheet g
  clause_is k g at = ap of_axiom at

  pub literal_at : (k : ℕ) (g : GroundAxiom) → slice_get (axioms sheet) k ≡ Some g → (l : Lit) → Contains (clause_at k) l → (m : Literal) × Contains g.clause m × (lit_of sheet m ≡ l)
  literal_at k g at l has = contains_mapped (lit_of sheet) g.clause l (subst (λ c. Contains c l) (clause_is k g at) has)

  pub at_literal : (k : ℕ) (g : GroundAxiom) → slice_get (axioms sheet) k ≡ Some g → (m : Literal) → Contains g.clause m → Contains (clause_at k) (lit_of sheet m)
  at_literal k g at m has = subst (λ c. Contains c (lit_of sheet m)) (sym (clause_is k g at)) (contains_map (lit_of sheet) g.clause m has)

  -- ---- variables

  pub same_symbol : (x y : Symbol) → Contains (variables sheet) x → Contains (variables sheet) y → number sheet x ≡ number sheet y → x ≡ y
  same_symbol x y h g e = same_some (sym (its_place sheet (λ z. false) x h) ∙ ap (slice_get (variables sheet)) e ∙ its_place sheet (λ z. false) y g)

  pub same_literal : (l m : Literal) → Contains (variables sheet) l.what → Contains (variables sheet) m.what → lit_of sheet l ≡ lit_of sheet m → l ≡ m
  same_literal l m h g e =
      let make : Symbol → Bool → Literal = λ x b. record { what = x; sign = b } in
      ap (λ x. make x l.sign) (same_symbol l.what m.what h g (ap (λ (k : Lit). k.variable.0) e)) ∙ ap (make m.what) (ap (λ (k : Lit). k.sign) e)

  -- the literal of that symbol with the other sign is the opposite one
  pub opposite_of : (o : Literal) (x : Symbol) (l : Lit) → o.what ≡ x → number sheet x ≡ l.variable.0 → o.sign ≡ not l.sign → lit_of sheet o ≡ negated l
  opposite_of o x l what is signs =
      let make : ℕ → Bool → Lit = λ n b. record { variable = record { 0 = n }; sign = b } in
      ap (λ n. make n o.sign) (ap (number sheet) what ∙ is) ∙ ap (make l.variable.0) signs

  abbrev rank_at : Option Symbol → ℕ
  rank_at None = 0
  rank_at (Some x) = rank_of sheet x

  abbrev pub rank : ℕ → ℕ
  rank n = rank_at (slice_get (variables sheet) n)

  pub rank_is : (x : Symbol) → Contains (variables sheet) x → rank (number sheet x) ≡ rank_of sheet x
  rank_is x h = ap rank_at (its_place sheet (λ z. false) x h)

  -- ---- meanings

  -- the axiom says what the variable's node means
  abbrev pub IsOwn : ℕ → ℕ → Type 0
  IsOwn k x = (g : GroundAxiom) × (slice_get (axioms sheet) k ≡ Some g) × (s : Symbol) × (meant_by g.name ≡ Some s) × (number sheet s ≡ x)

  one_meant : (k : ℕ) (g : GroundAxiom) → slice_get (axioms sheet) k ≡ Some g → (x : ℕ) (o : IsOwn k x) → meant_by g.name ≡ Some o.2
  one_meant k g at x o = ap (λ (q : GroundAxiom). meant_by q.name) (same_some (sym at ∙ o.1)) ∙ o.3

  pub is_own : (k x : ℕ) → IsOwn k x ⊎ (¬ IsOwn k x)
  is_own k x = by (slice_get (axioms sheet) k) refl
    where
      of : (g : GroundAxiom) → slice_get (axioms sheet) k ≡ Some g → (m : Option Symbol) → meant_by g.name ≡ m → IsOwn k x ⊎ (¬ IsOwn k x)
      of g e None n = inr (λ h. none_some (sym n ∙ one_meant k g e x h))
      of g e (Some s) n = elim (cases_eq (number sheet s) x) [
        | inl is ↦ inl (g, e, s, n, is)
        | inr other ↦ inr (λ h. other (ap (number sheet) (same_some (sym n ∙ one_meant k g e x h)) ∙ h.4))
      ]

      by : (o : Option GroundAxiom) → slice_get (axioms sheet) k ≡ o → IsOwn k x ⊎ (¬ IsOwn k x)
      by None e = inr (λ h. none_some (sym e ∙ h.1))
      by (Some g) e = of g e (meant_by g.name) refl

  pub own_late : (k x : ℕ) → IsOwn k x → sum (cell_sizes sheet.universe) ≤ x
  own_late k x o = subst (λ n. sum (cell_sizes sheet.universe) ≤ n) o.4 (node_number sheet o.2 (meant_node o.0.name o.2 o.3))

  pub one_own : (k x y : ℕ) → IsOwn k x → IsOwn k y → x ≡ y
  one_own k x y o p = sym o.4 ∙ ap (number sheet) (same_some (sym o.3 ∙ one_meant k o.0 o.1 y p)) ∙ p.4

  pub own_in : (k x : ℕ) (o : IsOwn k x) → Contains (axioms sheet) o.0
  own_in k x o = slice_contains (axioms sheet) k o.0 o.1

  pub own_clause : (k x : ℕ) (o : IsOwn k x) → IsClauseOf sheet o.0.name o.0.clause
  own_clause k x o = All-contains (λ q. IsClauseOf sheet q.name q.clause) (axioms sheet) o.0 (all_right sheet) (own_in k x o)

  pub own_tells : (k x : ℕ) (o : IsOwn k x) → Tells o.2 o.0.clause
  own_tells k x o = axiom_tells sheet o.0.name o.0.clause (own_clause k x o) o.2 o.3

  pub own_there : (k x : ℕ) (o : IsOwn k x) → Contains (variables sheet) o.2
  own_there k x o = let tells = own_tells k x o in subst (Contains (variables sheet)) tells.2 (symbols_are_variables sheet o.0 (own_in k x o) tells.0 tells.1)

  own_literal : (k x : ℕ) (o : IsOwn k x) (l : Lit) → Contains (clause_at k) l → l.variable.0 ≡ x → l ≡ lit_of sheet (own_tells k x o).0
  own_literal k x o l has is =
      let m = literal_at k o.0 o.1 l has in
      let m_there = symbols_are_variables sheet o.0 (own_in k x o) m.0 m.1 in
      let what : m.0.what ≡ o.2 = same_symbol m.0.what o.2 m_there (own_there k x o) (ap (λ (q : Lit). q.variable.0) m.2 ∙ is ∙ sym o.4) in
      elim ((own_tells k x o).3 m.0 m.1) [
        | inl same ↦ sym m.2 ∙ ap (lit_of sheet) same
        | inr before ↦ absurd (never_before o.2 (subst (IsBefore o.2) what before))
      ]

  pub one_literal : (k x : ℕ) → IsOwn k x → (l m : Lit) → Contains (clause_at k) l → Contains (clause_at k) m → l.variable.0 ≡ x → m.variable.0 ≡ x → l ≡ m
  one_literal k x o l m l_in m_in l_is m_is = own_literal k x o l l_in l_is ∙ sym (own_literal k x o m m_in m_is)
