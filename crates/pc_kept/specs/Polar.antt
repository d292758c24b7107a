-- Axioms that say what variables mean, and when some of them needn't be kept: those whose own literals no kept axiom asks for.
use Rattle.std.specs.Prelude.{◌≡◌, ◌≢◌, ℕ, ◌<◌, ◌⊎◌, Bool, true, false, List, Contains}
use Rattle.pc_lits.specs.declared.literal.Lit.{Lit}
use Rattle.pc_lits.specs.declared.literal.Var.{Var}
use Rattle.pc_lits.specs.Literals.{negated}
use Rattle.pc_lits.specs.Truth.{lit_true, IsTrueUnder}
use Rattle.pc_solver.specs.Forced.{IsForced}

-- the axioms' clauses by number, which of them say what which variable means, which variables are so given, and which axioms are kept
module _ (clause : ℕ → List Lit) (IsOwn : ℕ → ℕ → Type 0) (IsNode : ℕ → Type 0) (IsKept : ℕ → Type 0) where
  -- a kept axiom that doesn't say what the literal's variable means has the literal
  abbrev pub IsNamed : Lit → Type 0
  IsNamed l = (k : ℕ) × IsKept k × Contains (clause k) l × (¬ IsOwn k l.variable.0)

  -- a kept axiom has a literal of the variable
  abbrev pub IsMentioned : ℕ → Type 0
  IsMentioned x = (k : ℕ) × IsKept k × (l : Lit) × Contains (clause k) l × (l.variable.0 ≡ x)

  abbrev pub IsKeptClause : List Lit → Type 0
  IsKeptClause c = (k : ℕ) × IsKept k × (clause k ≡ c)

  -- Left out, where these are the right values: unit propagation over the kept clauses makes a literal true; or no kept axiom
  -- mentions a node of it; or a literal of a node that none mentions is true anyway; or the opposite of its own literal isn't named.
  abbrev pub IsSpared : (Var → Bool) → ℕ → Type 0
  IsSpared right k =
      ((l : Lit) × Contains (clause k) l × IsForced IsKeptClause l)
      ⊎ (((l : Lit) → Contains (clause k) l → IsNode l.variable.0 → ¬ IsMentioned l.variable.0)
      ⊎ (((l : Lit) × Contains (clause k) l × (¬ IsMentioned l.variable.0) × (lit_true right l ≡ true))
      ⊎ ((l : Lit) × Contains (clause k) l × IsOwn k l.variable.0 × (¬ IsNamed (negated l)))))

  -- What is asked of the values v, which make the kept clauses true, and of the right values, over the nodes that are `IsIn`.
  pub record AreValues (IsIn : ℕ → Type 0) (rank : ℕ → ℕ) (v right : Var → Bool) : Type 0 where
    pub met : (k : ℕ) → IsKept k → IsTrueUnder v (clause k)
    -- the same of what is no node
    pub is_node : (x : ℕ) → IsNode x ⊎ (¬ IsNode x)
    pub same : (x : Var) → ¬ IsNode x.0 → v x ≡ right x
    -- an axiom says what one variable means, a node, by one literal of it and by nodes of lower rank
    pub is_own : (k x : ℕ) → IsOwn k x ⊎ (¬ IsOwn k x)
    pub own_node : (k x : ℕ) → IsOwn k x → IsNode x
    pub one_own : (k x y : ℕ) → IsOwn k x → IsOwn k y → x ≡ y
    pub one_literal : (k x : ℕ) → IsOwn k x → (l m : Lit) → Contains (clause k) l → Contains (clause k) m → l.variable.0 ≡ x → m.variable.0 ≡ x → l ≡ m
    pub lower : (k x : ℕ) → IsOwn k x → IsIn x → (l : Lit) → Contains (clause k) l → IsNode l.variable.0 → l.variable.0 ≢ x → IsIn l.variable.0 × (rank l.variable.0 < rank x)
    -- the right values make it true
    pub meant : (k x : ℕ) → IsOwn k x → IsIn x → IsTrueUnder right (clause k)
    -- and where they make a literal of a node false, it is so by an axiom of its, which is kept or left out
    pub settled : (l : Lit) → IsIn l.variable.0 → IsNode l.variable.0 → lit_true right l ≡ false
        → (k : ℕ) × IsOwn k l.variable.0 × Contains (clause k) (negated l) × ((m : Lit) → Contains (clause k) m → m ≢ negated l → lit_true right m ≡ false) × (IsKept k ⊎ IsSpared right k)

-- then what is named or forced is right where it is true
abbrev pub NamedLiteralsAreRight : Type 0
NamedLiteralsAreRight =
    (clause : ℕ → List Lit) (own : ℕ → ℕ → Bool) (node kept inside : ℕ → Bool) (rank : ℕ → ℕ) (v right : Var → Bool)
    → AreValues clause (λ k x. own k x ≡ true) (λ x. node x ≡ true) (λ k. kept k ≡ true) (λ x. inside x ≡ true) rank v right → (l : Lit) → inside l.variable.0 ≡ true → node l.variable.0 ≡ true
    → IsNamed clause (λ k x. own k x ≡ true) (λ x. node x ≡ true) (λ k. kept k ≡ true) l ⊎ IsForced (IsKeptClause clause (λ k x. own k x ≡ true) (λ x. node x ≡ true) (λ k. kept k ≡ true)) l
    → lit_true v l ≡ true → lit_true right l ≡ true
