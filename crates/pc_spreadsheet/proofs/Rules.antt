-- Rules that a command line adds.
use Rattle.std.proofs.Common.{◌≡◌, ◌≢◌, ℕ, ◌<◌, ◌≤◌, List, [], ◌∷◌, length, map, AllPairs, get_or, arith, sym, subst}
use Rattle.std.proofs.lemmas.List.{length-append, map-append}
use Rattle.std.proofs.lemmas.List.Quantifiers.{all_pairs_push}
use Rattle.std.proofs.lemmas.List.Elements.{All-push, All-map}
use Rattle.pc_name.specs.Names.{IsName}
use Rattle.pc_syntax.specs.Tree.{Formula}
use Rattle.pc_sheet.specs.Sheet.{Sheet, NamedStatement, with_rule}
use Rattle.pc_sheet.specs.Views.{rule_of}
use Rattle.pc_sheet.specs.declared.formula.Rule.{Rule}
use Rattle.pc_sheet.specs.Nesting.{nesting_of}
use Rattle.pc_sheet.specs.WellFormed.{IsWellFormed, IsWellFormedRule, rule_name}
use Rattle.pc_sheet.specs.WellSorted.{IsWellSorted}
use Rattle.pc_elaborate.specs.declared.fault.SortFault.{SortFault}
use Rattle.pc_elaborate.specs.Elaboration.{IsStatement}
use Rattle.pc_elaborate.specs.Tests.{no_test}
use Rattle.pc_sortcheck.specs.DeclarationFaults.{IsRuleFault}
use Rattle.pc_books.specs.RuleNames.{IsNewName}
use Rattle.pc_spreadsheet.specs.Tasks.{IsRuleOf, IsNewRule}
use Rattle.pc_spreadsheet.proofs.Telling.{below_limit}

formed_rule : (book : Sheet) (n : List ℕ) (r : NamedStatement) (m : ℕ) → r.name ≡ n → IsName n → IsWellSorted book.universe [] r.states → nesting_of r.states ≡ m → m ≤ 128 → IsWellFormedRule book.universe r
formed_rule book n r m named name sorted same within = record { named = subst IsName (sym named) name; sorted = sorted; nesting = omega (arith, same, within) }

-- the rule that was found in the book
pub found_rule : (sheet book : Sheet) (n : List ℕ) (f : Formula) (r : NamedStatement) (m : ℕ) → book ≡ sheet → r.name ≡ n → IsName n → nesting_of r.states ≡ m → m ≤ 128 → IsStatement book.universe [] f r.states × IsWellSorted book.universe [] r.states → ((e : SortFault) → ¬ IsRuleFault book f no_test e) → IsRuleOf sheet n f r
found_rule sheet book n f r m same named name nested within told none =
    subst (λ (b : Sheet). IsRuleOf b n f r) same record { name = named; states = told.0; formed = formed_rule book n r m named name told.1 nested within; room = below_limit book f (r.states, told.0, told.1) none }

pub formed_with : (sheet : Sheet) (n : List ℕ) (f : Formula) (r : NamedStatement) → IsWellFormed sheet → IsNewRule sheet n f r → IsWellFormed (with_rule sheet r)
formed_with sheet n f r formed new = record {
  universe = formed.universe;
  rules = record {
    limit = omega (arith, new.0.room, length-append sheet.rules (r ∷ []));
    each = All-push (IsWellFormedRule sheet.universe) sheet.rules r formed.rules.each new.0.formed;
    different = subst (λ ns. AllPairs (λ x y. x ≢ y) ns) (sym (map-append rule_name sheet.rules (r ∷ [])))
        (all_pairs_push (λ x y. x ≢ y) (map rule_name sheet.rules) r.name formed.rules.different (All-map (λ n. n ≢ r.name) rule_name sheet.rules (subst (IsNewName sheet.rules) (sym new.0.name) new.1)));
  };
  entries = formed.entries;
}
