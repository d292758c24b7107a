-- Of each node some axiom says what it means and is true by the node's literal alone: with the node's other truth it is false.
use Rattle.std.proofs.Common.{◌≡◌, ◌≢◌, ℕ, suc, ◌↔◌, ◌⊎◌, inl, inr, Bool, true, false, not, List, [], ◌∷◌, Contains, Some, ap, refl, sym, ◌∙◌, subst}
use Rattle.std.proofs.lemmas.Bool.{cases_eq}
use Rattle.std.proofs.Math.Bool.{not-not}
use Rattle.std.proofs.lemmas.List.Elements.{All-contains}
use Rattle.pc_sheet.specs.Sheet.{Sheet}
use Rattle.pc_sheet.specs.Entailment.{IsAssignment}
use Rattle.pc_sheet.specs.WellFormed.{IsWellFormed}
use Rattle.pc_sheet.specs.Sizes.{size_of}
use Rattle.pc_sheet.specs.Nodes.{Node, node_at, bodies_of, threshold_of, counter_number}
use Rattle.pc_sheet.specs.declared.ids.ValueId.{ValueId}
use Rattle.pc_accept.specs.Literals.{Symbol, pair, node, Literal, SymbolHolds}
use Rattle.pc_accept.specs.Axioms.{Axiom, axiom_some, axiom_one, axiom_rule, axiom_node, axiom_atom, child_of, IsClauseOf}
use Rattle.pc_lemmas.proofs.Elements.{contains_first, contains_later, contains_cases, contains_none}
use Rattle.pc_lemmas.proofs.Options.{same_some}
use Rattle.pc_ground.specs.Ground.{GroundAxiom, axioms}
use Rattle.pc_ground.proofs.OfAxioms.{all_right}
use Rattle.pc_components.proofs.OwnAlone.{no_pair}
use Rattle.pc_kept.specs.ByPolarity.{meant_by}
use Rattle.pc_kept.specs.Settled.{IsMadeBy}
use Rattle.pc_kept.proofs.Settled.{same_steps, nodes_are_settled}
use Rattle.pc_kept.proofs.CountersSettled.{counters_are_settled}
use Rattle.pc_kept.proofs.Meant.{IsBefore, not_itself, axiom_tells}
use Rattle.pc_kept.proofs.Reached.{reached}

-- ---- which symbols are the same

rule_of : Symbol → ℕ
rule_of (pair c v) = 0
rule_of (node r path) = r

same_rule : (q r : ℕ) (xs ys : List ℕ) → node q xs ≡ node r ys → q ≡ r
unfolding rule_of
same_rule q r xs ys e = ap rule_of e

one_path : (xs ys : List ℕ) → (xs ≡ ys) ⊎ (xs ≢ ys)
one_path [] [] = inl refl
one_path [] (y ∷ ys) = inr (λ e. absurd (cc))
one_path (x ∷ xs) [] = inr (λ e. absurd (cc))
one_path (x ∷ xs) (y ∷ ys) = elim (cases_eq x y) [
  | inl first ↦ elim (one_path xs ys) [
    | inl rest ↦ inl (ap (λ z. z ∷ xs) first ∙ ap (λ zs. y ∷ zs) rest)
    | inr other ↦ inr (λ e. other (let h : xs ≡ ys = cc in h))
  ]
  | inr other ↦ inr (λ e. other (let h : x ≡ y = cc in h))
]

module _ (r : ℕ) (path : List ℕ) where
  abbrev here : Symbol
  here = node r path

  is_here : (x : Symbol) → (x ≡ here) ⊎ (x ≢ here)
  is_here (pair c v) = inr (λ e. no_pair (sym e))
  is_here (node q at) = elim (cases_eq q r) [
    | inl rules ↦ elim (one_path at path) [
      | inl paths ↦ inl (ap (λ i. node i at) rules ∙ ap (node r) paths)
      | inr other ↦ inr (λ e. other (same_steps r at path (ap (λ i. node i at) (sym rules) ∙ e)))
    ]
    | inr other ↦ inr (λ e. other (same_rule q r at path e))
  ]

  means_it : (x : Axiom) → (meant_by x ≡ Some here) ⊎ (meant_by x ≢ Some here)
  means_it (axiom_some c) = inr (λ e. absurd (cc))
  means_it (axiom_one c v w) = inr (λ e. absurd (cc))
  means_it (axiom_rule q) = inr (λ e. absurd (cc))
  means_it (axiom_node q at i) = elim (is_here (node q at)) [ inl same ↦ inl (ap Some same) | inr other ↦ inr (λ e. other (same_some e)) ]
  means_it (axiom_atom q at reads) = elim (is_here (node q at)) [ inl same ↦ inl (ap Some same) | inr other ↦ inr (λ e. other (same_some e)) ]

-- ---- false clauses

same_or_not : (b c : Bool) → (b ≡ c) ⊎ (b ≡ not c)
same_or_not true true = inl refl
same_or_not true false = inr refl
same_or_not false true = inr refl
same_or_not false false = inl refl

abbrev IsFailed : (Symbol → Bool) → List Literal → Type 0
IsFailed value clause = (l : Literal) → Contains clause l → value l.what ≡ not l.sign

made_or_failed : (value : Symbol → Bool) (clause : List Literal) → IsMadeBy value clause ⊎ IsFailed value clause
made_or_failed value [] = inr (λ l has. absurd (contains_none l has))
made_or_failed value (l ∷ ls) = elim (same_or_not (value l.what) l.sign) [
  | inl is ↦ inl (l, contains_first l ls, is)
  | inr fails ↦ elim (made_or_failed value ls) [
    | inl m ↦ inl (m.0, contains_later l ls m.0 m.1, m.2)
    | inr rest ↦ inr (λ m has. elim (contains_cases l ls m has) [ inl same ↦ subst (λ (k : Literal). value k.what ≡ not k.sign) same fails | inr later ↦ rest m later ])
  ]
]

module _ (value : Symbol → Bool) (r : ℕ) (path : List ℕ) where
  abbrev Failing : List GroundAxiom → Type 0
  Failing gs = (g : GroundAxiom) × Contains gs g × (meant_by g.name ≡ Some (node r path)) × IsFailed value g.clause

  look : (gs : List GroundAxiom) → Failing gs ⊎ ((g : GroundAxiom) → Contains gs g → meant_by g.name ≡ Some (node r path) → IsMadeBy value g.clause)
  look [] = inr (λ g has. absurd (contains_none g has))
  look (g ∷ gs) = elim (look gs) [
    | inl found ↦ inl (found.0, contains_later g gs found.0 found.1, found.2, found.3)
    | inr rest ↦ elim (means_it r path g.name) [
      | inl means ↦ elim (made_or_failed value g.clause) [
        | inl made ↦ inr (λ h has m. elim (contains_cases g gs h has) [ inl same ↦ subst (λ (q : GroundAxiom). IsMadeBy value q.clause) same made | inr later ↦ rest h later m ])
        | inr fails ↦ inl (g, contains_first g gs, means, fails)
      ]
      | inr other ↦ inr (λ h has m. elim (contains_cases g gs h has) [ inl same ↦ absurd (other (subst (λ (q : GroundAxiom). meant_by q.name ≡ Some (node r path)) (sym same) m)) | inr later ↦ rest h later m ])
    ]
  ]

-- ---- the other truth of one node

abbrev turned_by : {x p : Symbol} → (x ≡ p) ⊎ (x ≢ p) → Bool → Bool
turned_by (inl same) b = not b
turned_by (inr other) b = b

here_turned : {p : Symbol} (d : (p ≡ p) ⊎ (p ≢ p)) (b : Bool) → turned_by d b ≡ not b
here_turned (inl same) b = refl
here_turned (inr other) b = absurd (other refl)

there_not : {x p : Symbol} (d : (x ≡ p) ⊎ (x ≢ p)) (b : Bool) → x ≢ p → turned_by d b ≡ b
there_not (inl same) b apart = absurd (apart same)
there_not (inr other) b apart = refl

same_not : (b c : Bool) → not b ≡ not c → b ≡ c
same_not b c e = sym (not-not b) ∙ ap not e ∙ not-not c

module _ (sheet : Sheet) (formed : IsWellFormed sheet) (a : List ValueId) (assigned : IsAssignment sheet.universe a) (value : Symbol → Bool) (right : (x : Symbol) → (value x ≡ true) ↔ SymbolHolds sheet a x)
    (r : ℕ) (path : List ℕ) (n : Node) (at : node_at sheet r path ≡ Some n) where
  abbrev turned : Symbol → Bool
  turned x = turned_by (is_here r path x) (value x)

  there : turned (node r path) ≡ not (value (node r path))
  there = here_turned (is_here r path (node r path)) (value (node r path))

  others : (x : Symbol) → x ≢ node r path → turned x ≡ value x
  others x apart = there_not (is_here r path x) (value x) apart

  not_all : ¬ ((g : GroundAxiom) → Contains (axioms sheet) g → meant_by g.name ≡ Some (node r path) → IsMadeBy turned g.clause)
  not_all all = elim (reached sheet formed r path n at) [
    | inl sorted ↦ nodes_are_settled sheet a assigned value right r path n.0 sorted.0 n.1 at sorted.1 sorted.2 turned there others all
    | inr counter ↦
        let up = counter.0 in
        let from = counter.1 in
        let c = counter.6 in
        let size = bodies_of c.c (size_of sheet.universe c.s) in
        let few = threshold_of c.c in
        let spot = child_of r up (counter_number size few (suc c.i) (suc c.j)) in
        let is : node r path ≡ spot = ap (node r) counter.4 ∙ ap (child_of r up) c.number in
        counters_are_settled sheet a assigned value right r up from.0 c.c c.name c.s c.body (counter.5 ∙ ap (λ s. Some (from.0, s)) c.counts') size few refl refl c.i c.j c.low c.few turned
        (subst (λ p. turned p ≡ not (value p)) is there) (subst (λ p. (x : Symbol) → x ≢ p → turned x ≡ value x) is others)
        (subst (λ p. (g : GroundAxiom) → Contains (axioms sheet) g → meant_by g.name ≡ Some p → IsMadeBy turned g.clause) is all)
  ]

  -- an axiom that the node's literal alone makes true
  pub alone : (g : GroundAxiom) × Contains (axioms sheet) g × (meant_by g.name ≡ Some (node r path))
      × ((o : Literal) × Contains g.clause o × (o.what ≡ node r path) × (value (node r path) ≡ o.sign) × ((l : Literal) → Contains g.clause l → l ≢ o → value l.what ≡ not l.sign))
  alone = elim (look turned r path (axioms sheet)) [
    | inr all ↦ absurd (not_all all)
    | inl (g, g_in, means, fails) ↦
        let is = All-contains (λ q. IsClauseOf sheet q.name q.clause) (axioms sheet) g (all_right sheet) g_in in
        let tells = axiom_tells sheet g.name g.clause is (node r path) means in
        let o = tells.0 in
        let o_fails : turned (node r path) ≡ not o.sign = subst (λ p. turned p ≡ not o.sign) tells.2 (fails o tells.1) in
        let apart : (l : Literal) → IsBefore (node r path) l.what → l.what ≢ node r path = λ l before same. not_itself r path (subst (IsBefore (node r path)) same before) in (
          g,
          g_in,
          means,
          (
            o,
            tells.1,
            tells.2,
            same_not (value (node r path)) o.sign (sym there ∙ o_fails),
            λ l has other. elim (tells.3 l has) [
              | inl same ↦ absurd (other same)
              | inr before ↦ sym (others l.what (apart l before)) ∙ fails l has
            ],
          ),
        )
  ]
