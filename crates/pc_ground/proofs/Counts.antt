-- What a counting quantifier's parts are, and the cells that they read.
use Rattle.std.proofs.Common.{◌≡◌, ℕ, suc, ◌+◌, ◌*◌, ◌^◌, ◌<◌, ◌≤◌, Bool, true, false, List, [], ◌∷◌, ◌++◌, length, length-append, ap, sym, subst, ◌∙◌, arith}
use Rattle.std.specs.List.{flat_map}
use Rattle.pc_sheet.specs.Limits.{most_depth}
use Rattle.pc_sheet.specs.Sheet.{Universe, Statement, counts}
use Rattle.pc_sheet.specs.Truth.{Scope}
use Rattle.pc_sheet.specs.Sizes.{size_of}
use Rattle.pc_sheet.specs.Cells.{values_below}
use Rattle.pc_sheet.specs.Nodes.{threshold_of}
use Rattle.pc_sheet.specs.Views.{counting_of}
use Rattle.pc_sheet.specs.WellFormed.{IsWellFormedUniverse}
use Rattle.pc_sheet.specs.WellSorted.{IsBound}
use Rattle.pc_sheet.specs.declared.ids.SortId.{SortId}
use Rattle.pc_parts.specs.Leaves.{cells_under}
use Rattle.pc_ground.specs.ByNumber.{IsSortedIn}
use Rattle.pc_ground.specs.Variables.{count_nodes}
use Rattle.pc_ground.proofs.Adding.{size_some}

pub record IsCountSorted (u : Universe) (n : ℕ) (b : Bool) (k : ℕ) (s : SortId) (body : Statement) : Type 0 where
  pub bound : IsBound (counting_of b k)
  pub sort : s.0 < length u.sorts
  pub some : 1 ≤ size_of u s
  pub depth : n < most_depth
  pub sorted : IsSortedIn u (n + 1) body

count_parts : (u : Universe) → IsWellFormedUniverse u → (n : ℕ) (b : Bool) (k : ℕ) (name : List ℕ) (s : SortId) (body : Statement) → IsSortedIn u n (counts (counting_of b k) name s body) → IsCountSorted u n b k s body
count_parts u formed n b k name s body h =
    let new = h.2.1 in
    let longer = length-append h.0 ((name, s) ∷ []) in
    record {
      bound = h.2.0;
      sort = new.sort;
      some = size_some u formed s new.sort;
      depth = subst (λ m. m < most_depth) h.1 new.depth;
      sorted = (h.0 ++ (name, s) ∷ [], longer ∙ ap (λ m. m + 1) h.1, h.2.2);
    }

pub sorted_count : (u : Universe) → IsWellFormedUniverse u → (n : ℕ) (x body : Statement) (b : Bool) (k : ℕ) (name : List ℕ) (s : SortId) → x ≡ counts (counting_of b k) name s body → IsSortedIn u n x → IsCountSorted u n b k s body
sorted_count u formed n x body b k name s e h = count_parts u formed n b k name s body (subst (IsSortedIn u n) e h)

-- room for the bodies and the counters
pub count_room : (u : Universe) (x body : Statement) (b : Bool) (k : ℕ) (name : List ℕ) (s : SortId) (m p : ℕ) → x ≡ counts (counting_of b k) name s body → m ≡ threshold_of (counting_of b k) → p + count_nodes u x < 2 ^ 32
    → p + 1 + (size_of u s * count_nodes u body + size_of u s * m) < 2 ^ 32
count_room u x body true k name s m p e is l =
    let h : p + (1 + (size_of u s * count_nodes u body + size_of u s * suc k)) < 2 ^ 32 = subst (λ y. p + count_nodes u y < 2 ^ 32) e l in
    subst (λ j. p + 1 + (size_of u s * count_nodes u body + size_of u s * j) < 2 ^ 32) (sym is) (omega (arith, h))
count_room u x body false k name s m p e is l =
    let h : p + (1 + (size_of u s * count_nodes u body + size_of u s * k)) < 2 ^ 32 = subst (λ y. p + count_nodes u y < 2 ^ 32) e l in
    subst (λ j. p + 1 + (size_of u s * count_nodes u body + size_of u s * j) < 2 ^ 32) (sym is) (omega (arith, h))

pub count_read : (u : Universe) (scope : Scope) (x body : Statement) (b : Bool) (k : ℕ) (name : List ℕ) (s : SortId) → x ≡ counts (counting_of b k) name s body
    → flat_map (λ v. cells_under u (scope ++ (s, v) ∷ []) body) (values_below (size_of u s)) ≡ cells_under u scope x
count_read u scope x body true k name s e = sym (ap (cells_under u scope) e)
count_read u scope x body false k name s e = sym (ap (cells_under u scope) e)
