-- Where a step leads to no child.
use Rattle.std.proofs.Common.{◌≡◌, ℕ, zero, suc, ◌+◌, ◌<◌, ◌≤◌, Option, None, Some, IsSome, List, [], ◌∷◌, ◌++◌, length, take, drop, get_or, refl, ◌∙◌, ap, subst, arith}
use Rattle.std.proofs.lemmas.Bool.{false≢true}
use Rattle.std.specs.Option.{option_map}
use Rattle.pc_sheet.specs.Sheet.{Universe, Sheet}
use Rattle.pc_sheet.specs.Nodes.{Node, node_from, node_at, child, kind_of, kind_at, children_of}
use Rattle.pc_sheet.specs.declared.nodes.NodeKind.{NodeKind}
use Rattle.pc_sheet.proofs.ChildrenCounted.{counted}

appended : (u : Universe) (o : Option Node) (xs ys : List ℕ) → node_from u o (xs ++ ys) ≡ node_from u (node_from u o xs) ys
appended u None xs ys = refl
appended u (Some node) [] ys = refl
appended u (Some node) (x ∷ xs) ys = appended u (child u node x) xs ys

gone : (u : Universe) (o : Option Node) (more : List ℕ) → (IsSome o → ⊥) → IsSome (node_from u o more) → ⊥
gone u None more none is = false≢true is
gone u (Some node) more none is = none refl

beyond_from : (u : Universe) (o : Option Node) (r : Option NodeKind) (k : ℕ) (more : List ℕ) → r ≡ option_map (λ node. kind_of u node.1) o → ((kind : NodeKind) → r ≡ Some kind → children_of kind ≤ k) → IsSome (node_from u o (k ∷ more)) → ⊥
beyond_from u None r k more same few is = false≢true is
beyond_from u (Some node) r k more same few is =
    let count = few (kind_of u node.1) same in
    gone u (child u node k) more (λ some. let below = (counted u node k).0 some in absurd (omega (arith, below, count))) is

pub beyond : (sheet : Sheet) (rule : ℕ) (steps : List ℕ) (r : Option NodeKind) → r ≡ kind_at sheet rule steps → (k : ℕ) (more : List ℕ) → ((kind : NodeKind) → r ≡ Some kind → children_of kind ≤ k) → IsSome (node_at sheet rule (steps ++ k ∷ more)) → ⊥
beyond sheet rule steps r same k more few is =
    beyond_from sheet.universe (node_at sheet rule steps) r k more same few (subst (λ o. IsSome o) (appended sheet.universe _ steps (k ∷ more)) is)

-- a list around one of its places
pub around : (xs : List ℕ) (i : ℕ) → i < length xs → xs ≡ take i xs ++ get_or xs i 0 ∷ drop (i + 1) xs
around [] i inside = absurd (omega (arith, inside))
around (x ∷ xs) zero inside = refl
around (x ∷ xs) (suc i) inside = let e : suc i + 1 ≡ suc (i + 1) = omega arith in rw e (ap (λ ys. x ∷ ys) (around xs i (omega (arith, inside))))

pub no_kind : (r : Option NodeKind) → r ≡ None → (k : ℕ) (kind : NodeKind) → r ≡ Some kind → children_of kind ≤ k
no_kind r none k kind some = absurd (clash r none kind some)
  where
    clash : (r : Option NodeKind) → r ≡ None → (kind : NodeKind) → r ≡ Some kind → ⊥
    clash r e kind f = cc

pub few_kind : (r : Option NodeKind) (found : NodeKind) → r ≡ Some found → (count : ℕ) → count ≡ children_of found → count < 4294967296 → (k : ℕ) → 4294967296 ≤ k → (kind : NodeKind) → r ≡ Some kind → children_of kind ≤ k
few_kind r found is count exact few k large kind some =
    let same : found ≡ kind = one r found kind is some in
    omega (arith, exact ∙ ap children_of same, few, large)
  where
    one : (r : Option NodeKind) (a b : NodeKind) → r ≡ Some a → r ≡ Some b → a ≡ b
    one r a b e f = cc
