-- When an axiom's clause was written.
use Rattle.std.specs.Prelude.{◌≡◌, ℕ, Bool, not, MatchBool, List, [], ◌∷◌, ◌++◌, slice_get, Some}
use Rattle.pc_sheet.specs.Sheet.{Sheet}
use Rattle.pc_sheet.specs.declared.nodes.NodeKind.{NodeKind}
use Rattle.pc_sheet.specs.declared.nodes.NodePath.{NodePath}
use Rattle.pc_accept.specs.Literals.{Symbol, node, Literal}
use Rattle.pc_accept.specs.Axioms.{Axiom, child_of, clauses_of_kind, IsClauseOf, IsAtNumber, each_below}
use Rattle.pc_accept.specs.Rows.{Part, clause_of, IsAtRow}
use Rattle.pc_checker.specs.Drafts.{Draft}
use Rattle.pc_cert.specs.Numbered.{StartsWith}

-- more symbols are numbered, and the clause is such a one; or there is no such clause
pub record IsWritten (IsSuch : List Literal → Type 0) (old new : Draft) (good : Bool) : Type 0 where
  pub grows : StartsWith old.symbols new.symbols
  pub clause : MatchBool good (IsSuch new.clause) ((c : List Literal) → ¬ IsSuch c)

-- the axiom's clause
abbrev pub IsAxiomWritten : Sheet → Axiom → Draft → Draft → Bool → Type 0
IsAxiomWritten sheet a = IsWritten (IsClauseOf sheet a)

-- the clause of that number, from 1
abbrev pub IsNumberWritten : List (List Literal) → ℕ → Draft → Draft → Bool → Type 0
IsNumberWritten clauses i = IsWritten (IsAtNumber clauses i)

-- the clause of that number, from 1, of the node to which the path leads, which is of that kind
abbrev pub IsKindWritten : NodePath → NodeKind → ℕ → Draft → Draft → Bool → Type 0
IsKindWritten path kind i = IsNumberWritten (clauses_of_kind (node path.rule path.steps.items) (child_of path.rule path.steps.items) kind) i

-- the clause of a row
abbrev pub IsRowWritten : List (Part Literal) → Draft → Draft → Bool → Type 0
IsRowWritten row = IsWritten (λ c. clause_of row ≡ Some c)

-- the clause of the row of that number, from 1
abbrev pub IsRowNumberWritten : List (List (Part Literal)) → ℕ → Draft → Draft → Bool → Type 0
IsRowNumberWritten rows i = IsWritten (IsAtRow rows i)

-- the clause of that place, from 0
abbrev pub IsBlockWritten : List (List Literal) → ℕ → Draft → Draft → Bool → Type 0
IsBlockWritten blocks j = IsWritten (λ c. slice_get blocks j ≡ Some c)

-- each child's clause, in which the child has this sign and the node the other, and then one of all children, in which the
-- node has this sign and each child the other
abbrev pub clauses_of_many : Symbol → (ℕ → Symbol) → Bool → ℕ → List (List Literal)
clauses_of_many p child sign n =
    each_below n (λ k. (record { what = p; sign = not sign }) ∷ (record { what = child k; sign = sign }) ∷ []) ++
    ((record { what = p; sign = sign }) ∷ each_below n (λ k. record { what = child k; sign = not sign })) ∷ []
