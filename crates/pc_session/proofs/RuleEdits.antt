-- Edits of rules.
use Rattle.std.proofs.Common.{◌≡◌, ◌≢◌, ℕ, ◌<◌, ◌≤◌, List, [], ◌∷◌, length, map, get_or, take, drop, suc, AllPairs, Some, arith, ap, sym, ◌∙◌, subst}
use Rattle.std.proofs.lemmas.List.{length-append, length-map, map-append}
use Rattle.std.proofs.lemmas.List.Quantifiers.{all_pairs_push}
use Rattle.std.proofs.lemmas.List.Elements.{All-append, All-drop, All-push, All-map, All-take}
use Rattle.std.proofs.lemmas.List.Sums.{sum_by-remove}
use Rattle.pc_sheet.specs.Sheet.{Sheet, NamedStatement, with_rule}
use Rattle.pc_sheet.specs.Truth.{Holds}
use Rattle.pc_sheet.specs.Views.{rule_of}
use Rattle.pc_sheet.specs.Weight.{weight, rule_weight}
use Rattle.pc_sheet.specs.MaximalSets.{AreRulesConsistent}
use Rattle.pc_sheet.specs.WellFormed.{IsWellFormed, IsWellFormedRule, rule_name}
use Rattle.pc_sheet.specs.declared.formula.Rule.{Rule}
use Rattle.pc_books.specs.Edits.{without_rule}
use Rattle.pc_cache.specs.Rows.{TargetRow}
use Rattle.pc_world_list.specs.Worlds.{WorldView}
use Rattle.pc_theory.specs.Theories.{TheoryView}
use Rattle.pc_theory.proofs.Lists.{map_at, within_at}
use Rattle.pc_session.proofs.Places.{at_get, get_at}
use Rattle.pc_theory.proofs.OfRules.{base_here, consistent_by}
use Rattle.pc_session.specs.Causes.{IsLoadCause}
use Rattle.pc_session.specs.inside.Refusals.{IsSameRefusal}
use Rattle.pc_session.specs.inside.Sessions.{IsSession}
use Rattle.pc_session.specs.Rules.{IsRuleCause, IsAddCause, IsDropCause}
use Rattle.pc_books.specs.RuleNames.{IsNewName, IsRuleAt}
use Rattle.pc_session.specs.declared.refused.LoadRefused.{LoadRefused}
use Rattle.pc_session.specs.declared.refused.LoadRefused.TheVariants as load
use Rattle.pc_session.specs.declared.refused.EditRefused.{EditRefused}
use Rattle.pc_session.specs.declared.refused.EditRefused.TheVariants as edit

-- ---- names

pub rule_at : (rules : List Rule) (name : List ℕ) (k : ℕ) (r : Rule) → k < length rules → r ≡ get_or rules k r → r.name ≡ name → IsRuleAt (map rule_of rules) name k
rule_at rules name k r below is named =
    let at = map_at rule_of rules k r (get_at rules k r below ∙ ap Some (sym is)) in
    (omega (arith, below, length-map rules rule_of), λ d. (let of : NamedStatement → List ℕ = λ x. x.name in ap of (at_get (map rule_of rules) k (rule_of r) d at)) ∙ named)

-- a rule of the name stands at no place
pub not_new : (rules : List NamedStatement) (name : List ℕ) (k : ℕ) → IsRuleAt rules name k → ¬ IsNewName rules name
not_new rules name k at new =
    let there = within_at rules k at.0 in
    new k there.0 at.0 (at.1 there.0)

-- ---- one rule more

pub formed_with_rule : (sheet : Sheet) (r : NamedStatement) → IsWellFormed sheet → IsWellFormedRule sheet.universe r → length sheet.rules < 1024 → IsNewName sheet.rules r.name → IsWellFormed (with_rule sheet r)
formed_with_rule sheet r formed is few new = record {
  universe = formed.universe;
  rules = record {
    limit = omega (arith, few, length-append sheet.rules (r ∷ []));
    each = All-push (IsWellFormedRule sheet.universe) sheet.rules r formed.rules.each is;
    different = subst (λ ns. AllPairs (λ x y. x ≢ y) ns) (sym (map-append rule_name sheet.rules (r ∷ []))) (all_pairs_push (λ x y. x ≢ y) (map rule_name sheet.rules) r.name formed.rules.different (All-map (λ n. n ≢ r.name) rule_name sheet.rules new));
  };
  entries = formed.entries;
}

-- ---- one rule less

pub less_weight : (sheet : Sheet) (k : ℕ) → k < length sheet.rules → weight (without_rule sheet k) ≤ weight sheet
less_weight sheet k below = let there = within_at sheet.rules k below in omega (arith, sum_by-remove (rule_weight sheet.universe) sheet.rules k there.0 below)

pub still_consistent : (sheet : Sheet) (k : ℕ) → AreRulesConsistent sheet → AreRulesConsistent (without_rule sheet k)
still_consistent sheet k (a, assigns, fits) =
    let P : NamedStatement → Type 0 = λ rule. Holds sheet.universe a [] rule.states in
    (a, assigns, All-append P (take k sheet.rules) (drop (suc k) sheet.rules) (All-take P k sheet.rules fits) (All-drop P (suc k) sheet.rules fits))

-- ---- causes

pub same_cause : (sheet : Sheet) (budget : ℕ) (loaded : LoadRefused) (refused : EditRefused) → IsSameRefusal loaded refused → IsLoadCause sheet budget loaded → IsRuleCause sheet budget refused
same_cause sheet budget load.TooLarge refused same cause = subst (IsRuleCause sheet budget) (sym same) cause
same_cause sheet budget (load.Inconsistent refutation) refused same cause = subst (IsRuleCause sheet budget) (sym same) cause
same_cause sheet budget (load.Spent book spending) refused same cause = subst (IsRuleCause sheet budget) (sym same) cause
same_cause sheet budget load.Memory refused same cause = subst (IsRuleCause sheet budget) (sym same) tt

pub add_cause : (sheet : Sheet) (rule : NamedStatement) (budget : ℕ) (refused : EditRefused) → IsNewName sheet.rules rule.name → IsRuleCause (with_rule sheet rule) budget refused → IsAddCause sheet rule budget refused
add_cause sheet rule budget edit.NoEntry new cause = cause
add_cause sheet rule budget edit.DuplicateRule new cause = absurd cause
add_cause sheet rule budget edit.NoRule new cause = cause
add_cause sheet rule budget edit.TooLarge new cause = (new, cause)
add_cause sheet rule budget (edit.Inconsistent refutation) new cause = (new, cause.0, cause.1, cause.2)
add_cause sheet rule budget (edit.Spent book spending) new cause = (new, cause.0, cause.1, cause.2)
add_cause sheet rule budget edit.Memory new cause = tt

pub drop_cause : (sheet : Sheet) (name : List ℕ) (budget : ℕ) (k : ℕ) (refused : EditRefused) → IsRuleAt sheet.rules name k → weight sheet ≤ 4000000 → AreRulesConsistent sheet → IsRuleCause (without_rule sheet k) budget refused
    → IsDropCause sheet name budget refused
drop_cause sheet name budget k edit.NoEntry at light consistent cause = cause
drop_cause sheet name budget k edit.DuplicateRule at light consistent cause = cause
drop_cause sheet name budget k edit.NoRule at light consistent cause = absurd cause
drop_cause sheet name budget k edit.TooLarge at light consistent cause = omega (arith, light, cause, less_weight sheet k at.0)
drop_cause sheet name budget k (edit.Inconsistent refutation) at light consistent cause = cause.2 (still_consistent sheet k consistent)
drop_cause sheet name budget k (edit.Spent book spending) at light consistent cause = (k, at, cause.1, cause.2)
drop_cause sheet name budget k edit.Memory at light consistent cause = tt

pub same_new : (rules named : List NamedStatement) (text name : List ℕ) → rules ≡ named → text ≡ name → IsNewName rules text → IsNewName named name
same_new rules named text name are is new = subst (λ rs. IsNewName rs name) are (subst (IsNewName rules) is new)

pub same_at : (rules named : List NamedStatement) (text name : List ℕ) (k : ℕ) → rules ≡ named → text ≡ name → IsRuleAt rules text k → IsRuleAt named name k
same_at rules named text name k are is at = subst (λ rs. IsRuleAt rs name k) are (subst (λ n. IsRuleAt rules n k) is at)

pub add_cause_of : (sheet book : Sheet) (rule : NamedStatement) (budget : ℕ) (refused : EditRefused) → IsNewName sheet.rules rule.name → book ≡ with_rule sheet rule → IsRuleCause book budget refused → IsAddCause sheet rule budget refused
add_cause_of sheet book rule budget refused new is cause = add_cause sheet rule budget refused new (subst (λ b. IsRuleCause b budget refused) is cause)

pub drop_cause_of : (sheet book : Sheet) (name : List ℕ) (budget : ℕ) (k : ℕ) (refused : EditRefused) → IsRuleAt sheet.rules name k → weight sheet ≤ 4000000 → AreRulesConsistent sheet → book ≡ without_rule sheet k → IsRuleCause book budget refused
    → IsDropCause sheet name budget refused
drop_cause_of sheet book name budget k refused at light consistent is cause = drop_cause sheet name budget k refused at light consistent (subst (λ b. IsRuleCause b budget refused) is cause)

pub consistent_in : (sheet : Sheet) (theory : TheoryView) (worlds : List (List WorldView)) (rows : List TargetRow) → IsSession sheet theory worlds rows → AreRulesConsistent sheet
consistent_in sheet theory worlds rows session = consistent_by sheet theory.base (base_here sheet theory.base session.known.base)
