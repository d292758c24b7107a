use Rattle.std.proofs.Common.{◌≡◌, ◌<◌, ◌≤◌, length, IfErr, None, OnOk, refl, sym, subst}
use Rattle.std.proofs.lemmas.Result.{on_ok_weaker, on_err_weaker}
use Rattle.pc_sheet.specs.Sheet.{with_rule}
use Rattle.pc_sheet.specs.Views.{rule_of}
use Rattle.pc_sheet.specs.Weight.{weight}
use Rattle.pc_sheet.specs.MaximalSets.{AreRulesConsistent}
use Rattle.pc_sheet.specs.WellFormed.{IsWellFormedRule}
use Rattle.pc_session.specs.Arena.{IsWithinSpent}
use Rattle.pc_session.specs.Rules.{IsAddCause}
use Rattle.pc_books.specs.RuleNames.{IsNewName}
use Rattle.pc_session.specs.Views.{IsTallyOf, SessionView, counts_of}
use Rattle.pc_session.proofs.Viewing.{kept_after, still_seen}
use Rattle.pc_session.proofs.session.Session.add_rule.Goals as goal

pub add_rule-requires-clause-rule : goal.add_rule-requires-clause-rule
add_rule-requires-clause-rule c =
    let P : SessionView → Type 0 = λ v. IsWellFormedRule v.sheet.universe (rule_of c.args.rule) in
    subst P (sym c.self.view_is) c.requires.rule

pub add_rule-requires-clause-few : goal.add_rule-requires-clause-few
add_rule-requires-clause-few c =
    let P : SessionView → Type 0 = λ v. length v.sheet.rules < 1024 in
    subst P (sym c.self.view_is) c.requires.few

pub invariant_of-self : goal.invariant_of-self
invariant_of-self c =
    kept_after c.add_rule.result c.self.inside.state c.add_rule.new.state c.add_rule.ensures.loaded (λ l. l.state) (on_ok_weaker c.add_rule.result (λ l. l.chosen) c.add_rule.ensures.loaded) c.add_rule.ensures.kept c.self.invariant

pub returns-clause-unchanged : goal.returns-clause-unchanged
returns-clause-unchanged c =
    on_err_weaker c.add_rule.result (still_seen c.self.inside.budget c.self.inside.state c.add_rule.new.state _ c.self.view_is) c.add_rule.ensures.kept

pub returns-clause-refused : goal.returns-clause-refused
returns-clause-refused c =
    let P : SessionView → Type 0 = λ v. IfErr c.add_rule.result (IsAddCause v.sheet (rule_of c.args.rule) v.budget) in
    subst P c.self.view_is c.add_rule.ensures.refused

pub returns-clause-budget : goal.returns-clause-budget
returns-clause-budget c =
    let P : SessionView → Type 0 = λ v. c.self.inside.budget ≡ v.budget in
    subst P c.self.view_is refl

pub returns-clause-duplicate : goal.returns-clause-duplicate
returns-clause-duplicate c h =
    let P : SessionView → Type 0 = λ v. ¬ IsNewName v.sheet.rules c.args.rule.name in
    c.add_rule.ensures.duplicate (subst P (sym c.self.view_is) h)

pub returns-clause-sheet : goal.returns-clause-sheet
returns-clause-sheet c =
    let P : SessionView → Type 0 = λ v. OnOk c.add_rule.result (c.add_rule.new.state.book ≡ with_rule v.sheet (rule_of c.args.rule)) in
    subst P c.self.view_is (on_ok_weaker c.add_rule.result (λ l. l.book) c.add_rule.ensures.loaded)

pub returns-clause-light : goal.returns-clause-light
returns-clause-light c =
    on_ok_weaker c.add_rule.result (λ l. subst (λ b. weight b ≤ 4000000) (sym l.book) l.light) c.add_rule.ensures.loaded

pub returns-clause-consistent : goal.returns-clause-consistent
returns-clause-consistent c =
    on_ok_weaker c.add_rule.result (λ l. subst AreRulesConsistent (sym l.book) l.consistent) c.add_rule.ensures.loaded

pub returns-clause-spends : goal.returns-clause-spends
returns-clause-spends c =
    let P : SessionView → Type 0 = λ v. OnOk c.add_rule.result (IsTallyOf c.add_rule.new.state.book None v.budget (counts_of c.add_rule.new.state.tally)) in
    subst P c.self.view_is (on_ok_weaker c.add_rule.result (λ l. subst (λ b. IsTallyOf b None c.self.inside.budget (counts_of c.add_rule.new.state.tally)) (sym l.book) l.spends) c.add_rule.ensures.loaded)

pub returns-clause-steps : goal.returns-clause-steps
returns-clause-steps c =
    on_ok_weaker c.add_rule.result (λ l. l.steps) c.add_rule.ensures.loaded

pub returns-clause-bytes : goal.returns-clause-bytes
returns-clause-bytes c =
    let new = c.add_rule.new.state in
    on_ok_weaker c.add_rule.result (λ l. subst (λ b. IsWithinSpent b None new.theory.components (counts_of new.tally) 0 new.cache.bytes) (sym l.book) l.bytes) c.add_rule.ensures.loaded
