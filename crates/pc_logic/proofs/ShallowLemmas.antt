-- Rules of a book have few quantifiers around one place.
use Rattle.std.proofs.Common.{◌+◌, ◌≤◌, List, [], ◌∷◌, ◌++◌, map, length, get_or, arith}
use Rattle.std.proofs.lemmas.List.{length-append}
use Rattle.pc_sheet.specs.Sheet.{Universe, Statement, Statements, no_statements, statement, compare, in_table, negation, all_of, some_of, implies, iff, for_all, exists, counts}
use Rattle.pc_sheet.specs.Truth.{depth_of, greatest_depth}
use Rattle.pc_sheet.specs.Views.{rule_of}
use Rattle.pc_sheet.specs.WellFormed.{AreWellFormedRules}
use Rattle.pc_sheet.specs.WellSorted.{Variables, IsWellSorted, AreWellSorted}
use Rattle.pc_sheet.specs.declared.formula.Rule.{Rule}
use Rattle.pc_logic.specs.Bounded.{AreShallow}
use Rattle.pc_books.proofs.BookLemmas.{All-unmap}

-- a well-sorted statement has a place for each of its quantifiers
mutual
  pub depth_within : (u : Universe) (vs : Variables) (s : Statement) → length vs ≤ 16 → IsWellSorted u vs s → length vs + depth_of s ≤ 16
  depth_within u vs (compare left op right) l h = omega arith
  depth_within u vs (in_table t xs) l h = omega arith
  depth_within u vs (negation s) l h = depth_within u vs s l h
  depth_within u vs (all_of ss) l h = depths_within u vs ss l h.1
  depth_within u vs (some_of ss) l h = depths_within u vs ss l h.1
  depth_within u vs (implies s t) l h = let a = depth_within u vs s l h.0 in let b = depth_within u vs t l h.1 in omega (arith, a, b)
  depth_within u vs (iff s t) l h = let a = depth_within u vs s l h.0 in let b = depth_within u vs t l h.1 in omega (arith, a, b)
  depth_within u vs (for_all name s body) l h =
      let more = length-append vs ((name, s) ∷ []) in
      let rest = depth_within u (vs ++ (name, s) ∷ []) body (omega (arith, more, h.0.depth)) h.1 in
      omega (arith, more, rest)
  depth_within u vs (exists name s body) l h =
      let more = length-append vs ((name, s) ∷ []) in
      let rest = depth_within u (vs ++ (name, s) ∷ []) body (omega (arith, more, h.0.depth)) h.1 in
      omega (arith, more, rest)
  depth_within u vs (counts c name s body) l h =
      let more = length-append vs ((name, s) ∷ []) in
      let rest = depth_within u (vs ++ (name, s) ∷ []) body (omega (arith, more, h.1.depth)) h.2 in
      omega (arith, more, rest)

  depths_within : (u : Universe) (vs : Variables) (ss : Statements) → length vs ≤ 16 → AreWellSorted u vs ss → length vs + greatest_depth ss ≤ 16
  depths_within u vs no_statements l h = omega arith
  depths_within u vs (statement s ss) l h = let a = depth_within u vs s l h.0 in let b = depths_within u vs ss l h.1 in omega (arith, a, b)

pub shallow_of : (u : Universe) (rs : List Rule) → AreWellFormedRules u (map rule_of rs) → AreShallow rs
shallow_of u rs h = All-unmap (λ r. depth_of r.states ≤ 16) rule_of rs (λ k d l. let deep = depth_within u [] (get_or (map rule_of rs) k d).states (omega arith) (h.each k d l).sorted in omega (arith, deep))
