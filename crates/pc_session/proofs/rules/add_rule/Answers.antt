use Rattle.std.proofs.Common.{OnErr, OnOk, subst, sym}
use Rattle.std.proofs.lemmas.Result.{IfErr-weaker, err_from_is_err_and}
use Rattle.pc_sheet.specs.Sheet.{Sheet}
use Rattle.pc_sheet.specs.Views.{rule_of}
use Rattle.pc_session.specs.inside.Loaded.{IsLoaded}
use Rattle.pc_session.specs.inside.States.{IsSame}
use Rattle.pc_session.specs.Rules.{IsAddCause, IsRuleCause}
use Rattle.pc_session.specs.declared.refused.EditRefused.{EditRefused}
use Rattle.pc_session.specs.declared.refused.EditRefused.TheVariants.{DuplicateRule}
use Rattle.pc_session.proofs.RuleEdits.{add_cause_of}
use Rattle.pc_session.proofs.Viewing.{on_err, same_err, same_itself}
use Rattle.pc_session.proofs.rules.add_rule.Goals as goal

pub returns-in_err-book-clause-kept : goal.returns-in_err-book-clause-kept
returns-in_err-book-clause-kept c =
    let s = c.args.state.now in
    on_err c.from_residual.result (subst (λ (b : Sheet). IsSame s (record s { book = b })) (sym c.in_err-book.ensures.same) (same_itself s))

pub returns-in_err-book-clause-refused : goal.returns-in_err-book-clause-refused
returns-in_err-book-clause-refused c = let p = err_from_is_err_and c.from_residual.result c.from_residual.ensures.1 in rw (p.1, p.2) (c.in_err-book.ensures.refused c.args.budget)

pub returns-in_err-book-clause-duplicate : goal.returns-in_err-book-clause-duplicate
returns-in_err-book-clause-duplicate c not_new =
    let p = err_from_is_err_and c.from_residual.result c.from_residual.ensures.1 in rw (p.1, p.2) (same_err {E = EditRefused} _ DuplicateRule (c.in_err-book.ensures.duplicate not_new))

pub returns-clause-kept : goal.returns-clause-kept
returns-clause-kept c =
    let s = c.args.state.now in
    subst (λ (b : Sheet). OnErr c.replace.result (IsSame (record s { book = b }) c.replace.new.state)) c.in_ok-book.ensures.same c.replace.ensures.kept

pub returns-clause-refused : goal.returns-clause-refused
returns-clause-refused c =
    IfErr-weaker c.replace.result (IsRuleCause c.in_ok-book.book c.args.budget) (IsAddCause c.args.state.now.book (rule_of c.args.rule) c.args.budget)
    (λ refused cause. add_cause_of c.args.state.now.book c.in_ok-book.book (rule_of c.args.rule) c.args.budget refused c.in_ok-book.ensures.new c.in_ok-book.ensures.book cause) c.replace.ensures.refused

pub returns-clause-duplicate : goal.returns-clause-duplicate
returns-clause-duplicate c not_new = absurd (not_new c.in_ok-book.ensures.new)

pub returns-clause-loaded : goal.returns-clause-loaded
returns-clause-loaded c = subst (λ b. OnOk c.replace.result (IsLoaded b c.args.budget c.replace.new.state)) c.in_ok-book.ensures.book c.replace.ensures.loaded
