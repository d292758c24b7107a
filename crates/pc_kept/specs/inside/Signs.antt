-- What is known of names by their signs, and of a choice by polarity, while it is looked at.
use Rattle.std.specs.Prelude.{◌≡◌, ℕ, ◌<◌, ◌^◌, ◌⊎◌, Bool, true, cond, List, Option, Some, All, length, slice_get}
use Rattle.pc_lits.specs.declared.literal.Lit.{Lit}
use Rattle.pc_lits.specs.Literals.{negated}
use Rattle.pc_lits.specs.Values.{MakesTrue}
use Rattle.pc_accept.specs.Literals.{Symbol}
use Rattle.pc_axiom_names.specs.Listed.{NameLists}
use Rattle.pc_kept.specs.Kept.{IsNode}
use Rattle.pc_kept.specs.Stored.{IsBannedOutStored}
use Rattle.pc_kept.specs.inside.Checks.{IsNamed, IsFine}

-- the clauses and the names are of one sheet: each clause has a name, and so has each variable
pub record IsStored (store : List (List Lit)) (names : NameLists) : Type 0 where
  pub not_many : length store < 2 ^ 32
  pub named : length names.axioms ≡ length store
  pub within : All (All (λ l. l.variable.0 < length names.variables)) store

-- the literal is among the named ones: the variables of the positive ones, and of the negative ones
abbrev pub IsSigned : List (Option Bool) → List (Option Bool) → Lit → Type 0
IsSigned positives negatives l = IsNamed (cond l.sign positives negatives) l.variable.0

-- the axiom may be left out by polarity, or anyway
abbrev pub MayGo : ℕ → List (List Lit) → NameLists → List (Option Bool) → List (Option Bool) → List (Option Bool) → List (Option Bool) → ℕ → Type 0
MayGo pairs store names values constants named banned k = IsBannedOutStored store names banned k ⊎ IsFine pairs store names.axioms values constants named k

-- each axiom without a mark may be left out
abbrev pub MayAllGo : ℕ → List (List Lit) → NameLists → List (Option Bool) → List (Option Bool) → List (Option Bool) → List (Option Bool) → List ℕ → List Bool → Type 0
MayAllGo pairs store names values constants named banned used marks =
    (j k : ℕ) → slice_get used j ≡ Some k → (slice_get marks j ≡ Some true) ⊎ MayGo pairs store names values constants named banned k

-- a banned literal of that variable is of a node, and its opposite isn't named
abbrev pub IsUnnamedAt : NameLists → List (Option Bool) → List (Option Bool) → List (Option Bool) → ℕ → Type 0
IsUnnamedAt names positives negatives banned x = (l : Lit) (s : Symbol) → l.variable.0 ≡ x → slice_get names.variables x ≡ Some s → MakesTrue banned l → IsNode s × (¬ IsSigned positives negatives (negated l))
