-- Clauses of counters, by the node above them.
use Rattle.std.proofs.Common.{◌≡◌, ℕ, zero, suc, ◌+◌, ◌*◌, ◌<◌, Bool, false, ◌↔◌, List, [], ◌∷◌, ◌++◌, Option, None, Some, IsSomeAnd, refl, ap, sym, ◌∙◌, subst}
use Rattle.std.specs.Option.{option_map}
use Rattle.std.proofs.lemmas.Option.{same_Some, none-some}
use Rattle.pc_sheet.specs.Sheet.{Sheet}
use Rattle.pc_sheet.specs.Nodes.{Node, node_at, kind_of, kind_at, children_of}
use Rattle.pc_sheet.specs.declared.nodes.NodeKind.{NodeKind}
use Rattle.pc_sheet.specs.declared.nodes.NodeKind.TheVariants.{Count, Counter}
use Rattle.pc_accept.specs.Literals.{Literal}
use Rattle.pc_accept.specs.Rows.{Part, IsAtRow, rows_below_kind, rows_of_child, parent_of, last_of}
use Rattle.pc_accept.specs.Axioms.{signed_node, signed_child, IsClauseOfKind}
use Rattle.pc_checker.specs.Drafts.{Draft}
use Rattle.pc_checker.specs.inside.Written.{IsWritten, IsRowNumberWritten}
use Rattle.pc_checker.proofs.AxiomLemmas.{grows_none, match_along}

-- ---- paths

parent_of_longer : (path : List ℕ) (k : ℕ) → parent_of (path ++ k ∷ []) ≡ path
parent_of_longer [] k = refl
parent_of_longer (x ∷ []) k = refl
parent_of_longer (x ∷ y ∷ ys) k = ap (λ zs. x ∷ zs) (parent_of_longer (y ∷ ys) k)

last_of_longer : (path : List ℕ) (k : ℕ) → last_of (path ++ k ∷ []) ≡ k
last_of_longer [] k = refl
last_of_longer (x ∷ []) k = refl
last_of_longer (x ∷ y ∷ ys) k = last_of_longer (y ∷ ys) k

-- ---- rows

pub no_row : (i : ℕ) (c : List Literal) → ¬ IsAtRow [] i c
no_row zero c is = is
no_row (suc i) c is = is

module _ (sheet : Sheet) (r : ℕ) where
  abbrev rows : List ℕ → ℕ → NodeKind → List (List (Part Literal))
  rows above k kind = rows_below_kind (signed_node r above) (signed_child r above) kind k

  -- what the definition asks for, by the node above
  abbrev IsByAbove : List ℕ → ℕ → ℕ → List Literal → Option Node → Type 0
  IsByAbove above k i c o = IsSomeAnd o (λ n. IsAtRow (rows above k (kind_of sheet.universe n.1)) i c)

  by_above : (above : List ℕ) (k : ℕ) (kind : NodeKind) (i : ℕ) (c : List Literal) (o : Option Node) → option_map (λ (n : Node). kind_of sheet.universe n.1) o ≡ Some kind
      → IsAtRow (rows above k kind) i c ↔ IsByAbove above k i c o
  by_above above k kind i c None at = absurd (none-some kind at)
  by_above above k kind i c (Some n) at =
      let same : kind_of sheet.universe n.1 ≡ kind = same_Some (kind_of sheet.universe n.1) kind at in
      (λ h. subst (λ x. IsAtRow (rows above k x) i c) (sym same) h, λ h. subst (λ x. IsAtRow (rows above k x) i c) same h)

  no_above : (above : List ℕ) (k i : ℕ) (c : List Literal) (o : Option Node) → option_map (λ (n : Node). kind_of sheet.universe n.1) o ≡ None → ¬ IsByAbove above k i c o
  no_above above k i c None at h = h
  no_above above k i c (Some n) at h = none-some (kind_of sheet.universe n.1) (sym at)

  -- the counter of that path, where its clause is by these rows
  by_kind : (above : List ℕ) (k : ℕ) (kind : NodeKind) → kind_at sheet r above ≡ Some kind → (i j l : ℕ) (old new : Draft) (good : Bool) → IsRowNumberWritten (rows above k kind) i old new good
      → IsWritten (IsClauseOfKind sheet r (above ++ k ∷ []) (Counter j l) i) old new good
  by_kind above k kind at i j l old new good w =
      let back : (c : List Literal) → IsAtRow (rows above k kind) i c ↔ IsByAbove above k i c (node_at sheet r above) = λ c. by_above above k kind i c (node_at sheet r above) at in
      let all : IsWritten (λ c. IsByAbove above k i c (node_at sheet r above)) old new good = record {
        grows = w.grows;
        clause = match_along good _ _ _ _ (back new.clause).0 (λ none c is. none c ((back c).1 is)) w.clause;
      } in
      subst (λ (x : List ℕ). IsWritten (λ c. IsByAbove x (last_of (above ++ k ∷ [])) i c (node_at sheet r x)) old new good) (sym (parent_of_longer above k))
      (subst (λ (n : ℕ). IsWritten (λ c. IsByAbove above n i c (node_at sheet r above)) old new good) (sym (last_of_longer above k)) all)

  -- where there is no node above
  by_none : (above : List ℕ) (k : ℕ) → kind_at sheet r above ≡ None → (i j l : ℕ) (old : Draft) → IsWritten (IsClauseOfKind sheet r (above ++ k ∷ []) (Counter j l) i) old old false
  by_none above k at i j l old = record {
    grows = grows_none old.symbols;
    clause = λ c is.
        let so : IsByAbove (parent_of (above ++ k ∷ [])) (last_of (above ++ k ∷ [])) i c (node_at sheet r (parent_of (above ++ k ∷ []))) = is in
        no_above above (last_of (above ++ k ∷ [])) i c (node_at sheet r above) at (subst (λ (x : List ℕ). IsByAbove x (last_of (above ++ k ∷ [])) i c (node_at sheet r x)) (parent_of_longer above k) so);
  }

  -- where the node above has no such rows
  by_other : (above : List ℕ) (k : ℕ) (kind : NodeKind) → kind_at sheet r above ≡ Some kind → rows above k kind ≡ [] → (i j l : ℕ) (old : Draft)
      → IsWritten (IsClauseOfKind sheet r (above ++ k ∷ []) (Counter j l) i) old old false
  by_other above k kind at none i j l old =
      by_kind above k kind at i j l old old false
      (record { grows = grows_none old.symbols; clause = λ c is. no_row i c (subst (λ (x : List (List (Part Literal))). IsAtRow x i c) none is) })

  module _ (path above : List ℕ) (k : ℕ) (is : path ≡ above ++ k ∷ []) (i j l : ℕ) (old : Draft) where
    abbrev Written : List ℕ → Draft → Bool → Type 0
    Written p new good = IsWritten (IsClauseOfKind sheet r p (Counter j l) i) old new good

    pub none_above : kind_at sheet r above ≡ None → Written path old false
    none_above at = subst (λ (p : List ℕ). Written p old false) (sym is) (by_none above k at i j l old)

    pub other_above : (kind : NodeKind) → kind_at sheet r above ≡ Some kind → rows_below_kind (signed_node r above) (signed_child r above) kind k ≡ [] → Written path old false
    other_above kind at none = subst (λ (p : List ℕ). Written p old false) (sym is) (by_other above k kind at none i j l old)

    pub count_above : (kind : NodeKind) (at_most : Bool) (n m : ℕ) → kind_at sheet r above ≡ Some kind → kind ≡ Count at_most n m → (new : Draft) (good : Bool)
        → IsRowNumberWritten (rows_of_child (signed_node r above) (signed_child r above) n m k) i old new good → Written path new good
    count_above kind at_most n m at same new good w =
        subst (λ (p : List ℕ). Written p new good) (sym is) (by_kind above k (Count at_most n m) (at ∙ ap Some same) i j l old new good w)

  -- a counter is no rule's root
  pub by_root : (i j l : ℕ) (old : Draft) → kind_at sheet r [] ≡ Some (Counter j l) → IsWritten (IsClauseOfKind sheet r [] (Counter j l) i) old old false
  by_root i j l old at = record {
    grows = grows_none old.symbols;
    clause = λ c is. no_row i c ((by_above [] 0 (Counter j l) i c (node_at sheet r []) at).1 is);
  }

pub few_counted : (kind : NodeKind) (at_most : Bool) (n m : ℕ) → kind ≡ Count at_most n m → children_of kind < 4294967296 → n + n * m < 4294967296
few_counted kind at_most n m same few = subst (λ k. children_of k < 4294967296) same few
