-- What the line of a rule declares.
use Rattle.std.proofs.Common.{◌≡◌, inl, inr, ℕ, ◌<◌, ◌≤◌, List, [], length, map, Contains, arith, ap, ◌∙◌, sym, subst, refl}
use Rattle.std.proofs.lemmas.Bool.{cases_lt}
use Rattle.pc_name.specs.Names.{IsName}
use Rattle.pc_syntax.specs.Tree as tree
use Rattle.pc_sheet.specs.Nesting.{nesting_of}
use Rattle.pc_sheet.specs.Sheet.{Sheet, NamedStatement, with_rule}
use Rattle.pc_sheet.specs.WellFormed.{IsWellFormed, rule_name}
use Rattle.pc_sheet.specs.WellSorted.{IsWellSorted}
use Rattle.pc_elaborate.specs.declared.fault.SortFault.{SortFault}
use Rattle.pc_elaborate.specs.declared.fault.SortFault.TheVariants.{DuplicateName, Limit}
use Rattle.pc_sheet.specs.declared.limits.Limited.TheVariants.{Rules}
use Rattle.pc_elaborate.specs.Elaboration.{IsStatement}
use Rattle.pc_elaborate.specs.Tests.{no_test}
use Rattle.pc_sortcheck.specs.Declaring.{Declares}
use Rattle.pc_sortcheck.specs.DeclarationFaults.{IsDeclarationFault, IsRuleFault}
use Rattle.pc_sortcheck.proofs.WithRule.{with_one_rule}

module _ (s : Sheet) (n : List ℕ) (f : tree.Formula) (r : NamedStatement) (stands : IsStatement s.universe [] f r.states) (sorted : IsWellSorted s.universe [] r.states) (sound : (e : SortFault) → ¬ IsRuleFault s f no_test e) where
  few_rules : length s.rules < 1024
  few_rules = elim (cases_lt (length s.rules) 1024) [
    | inl h ↦ h
    | inr h ↦ absurd (sound (Limit Rules) (inr ((r.states, stands, sorted), inl ((λ k. (let z : ⊥ = omega arith in z)), refl))))
  ]

  pub name_taken : Contains (map rule_name s.rules) n → IsDeclarationFault s (tree.rule n f) DuplicateName
  name_taken there = inr ((r.states, stands, sorted), inr (few_rules, inl ((λ fresh. fresh there), refl)))

  pub rule_formed : r.name ≡ n → IsWellFormed s → IsName n → ¬ Contains (map rule_name s.rules) n → nesting_of r.states ≤ 128 → IsWellFormed (with_rule s r)
  rule_formed p h name fresh nesting = with_one_rule s r h (subst IsName (sym p) name) few_rules (subst (λ m. ¬ Contains (map rule_name s.rules) m) (sym p) fresh) sorted nesting

  pub rule_declared : (new : Sheet) → r.name ≡ n → new ≡ with_rule s r → IsWellFormed (with_rule s r) → Declares s (tree.rule n f) new
  rule_declared new p is h = ((r.states, stands, is ∙ ap (λ m. with_rule s (record { name = m; states = r.states })) p), subst IsWellFormed (sym is) h)
