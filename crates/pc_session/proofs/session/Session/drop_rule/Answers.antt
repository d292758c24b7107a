use Rattle.std.proofs.Common.{◌≡◌, IfErr, None, OnOk, refl, sym, subst}
use Rattle.std.proofs.lemmas.Result.{on_ok_weaker, on_err_weaker}
use Rattle.pc_session.specs.Arena.{IsWithinSpent}
use Rattle.pc_session.specs.Rules.{IsDropCause, IsDropped}
use Rattle.pc_books.specs.RuleNames.{IsNewName}
use Rattle.pc_session.specs.Views.{IsTallyOf, SessionView, counts_of}
use Rattle.pc_session.proofs.Viewing.{kept_after, still_seen}
use Rattle.pc_session.proofs.session.Session.drop_rule.Goals as goal

pub invariant_of-self : goal.invariant_of-self
invariant_of-self c =
    kept_after c.drop_rule.result c.self.inside.state c.drop_rule.new.state c.drop_rule.ensures.loaded (λ l. l.2.state) (on_ok_weaker c.drop_rule.result (λ l. l.2.chosen) c.drop_rule.ensures.loaded) c.drop_rule.ensures.kept c.self.invariant

pub returns-clause-unchanged : goal.returns-clause-unchanged
returns-clause-unchanged c =
    on_err_weaker c.drop_rule.result (still_seen c.self.inside.budget c.self.inside.state c.drop_rule.new.state _ c.self.view_is) c.drop_rule.ensures.kept

pub returns-clause-refused : goal.returns-clause-refused
returns-clause-refused c =
    let P : SessionView → Type 0 = λ v. IfErr c.drop_rule.result (IsDropCause v.sheet c.args.name.now v.budget) in
    subst P c.self.view_is c.drop_rule.ensures.refused

pub returns-clause-budget : goal.returns-clause-budget
returns-clause-budget c =
    let P : SessionView → Type 0 = λ v. c.self.inside.budget ≡ v.budget in
    subst P c.self.view_is refl

pub returns-clause-no_rule : goal.returns-clause-no_rule
returns-clause-no_rule c h =
    let P : SessionView → Type 0 = λ v. IsNewName v.sheet.rules c.args.name.now in
    c.drop_rule.ensures.no_rule (subst P (sym c.self.view_is) h)

pub returns-clause-sheet : goal.returns-clause-sheet
returns-clause-sheet c =
    let P : SessionView → Type 0 = λ v. OnOk c.drop_rule.result (IsDropped v.sheet c.args.name.now c.drop_rule.new.state.book) in
    subst P c.self.view_is (on_ok_weaker c.drop_rule.result (λ l. (l.0, l.1, l.2.book)) c.drop_rule.ensures.loaded)

pub returns-clause-spends : goal.returns-clause-spends
returns-clause-spends c =
    let P : SessionView → Type 0 = λ v. OnOk c.drop_rule.result (IsTallyOf c.drop_rule.new.state.book None v.budget (counts_of c.drop_rule.new.state.tally)) in
    subst P c.self.view_is (on_ok_weaker c.drop_rule.result (λ l. subst (λ b. IsTallyOf b None c.self.inside.budget (counts_of c.drop_rule.new.state.tally)) (sym l.2.book) l.2.spends) c.drop_rule.ensures.loaded)

pub returns-clause-steps : goal.returns-clause-steps
returns-clause-steps c =
    on_ok_weaker c.drop_rule.result (λ l. l.2.steps) c.drop_rule.ensures.loaded

pub returns-clause-bytes : goal.returns-clause-bytes
returns-clause-bytes c =
    let new = c.drop_rule.new.state in
    on_ok_weaker c.drop_rule.result (λ l. subst (λ b. IsWithinSpent b None new.theory.components (counts_of new.tally) 0 new.cache.bytes) (sym l.2.book) l.2.bytes) c.drop_rule.ensures.loaded
