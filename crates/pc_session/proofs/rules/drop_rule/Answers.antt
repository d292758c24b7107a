use Rattle.std.proofs.Common.{map, refl, subst}
use Rattle.std.proofs.lemmas.Result.{IfErr-weaker, on_ok_weaker}
use Rattle.pc_sheet.specs.Views.{rule_of}
use Rattle.pc_session.specs.inside.Loaded.{IsLoaded}
use Rattle.pc_session.specs.Rules.{IsDropCause, IsRuleCause}
use Rattle.pc_session.proofs.RuleEdits.{consistent_in, drop_cause_of, not_new, same_at}
use Rattle.pc_session.proofs.Viewing.{on_err, same_itself}
use Rattle.pc_session.proofs.rules.drop_rule.Goals as goal

pub without_rule-requires : goal.without_rule-requires
without_rule-requires c = (same_at (map rule_of c.rules.result.now) c.args.state.now.book.rules c.args.name.now c.args.name.now c.in-Some.place c.rules.ensures refl c.in-Some.ensures.found).0

pub returns-in_err-book-clause-kept : goal.returns-in_err-book-clause-kept
returns-in_err-book-clause-kept c = on_err c.from_residual.result (same_itself c.args.state.now)

pub returns-in_err-book-clause-no_rule : goal.returns-in_err-book-clause-no_rule
returns-in_err-book-clause-no_rule c new =
    absurd (not_new c.args.state.now.book.rules c.args.name.now c.in-Some.place (same_at (map rule_of c.rules.result.now) c.args.state.now.book.rules c.args.name.now c.args.name.now c.in-Some.place c.rules.ensures refl c.in-Some.ensures.found) new)

pub returns-clause-no_rule : goal.returns-clause-no_rule
returns-clause-no_rule c new =
    absurd (not_new c.args.state.now.book.rules c.args.name.now c.in-Some.place (same_at (map rule_of c.rules.result.now) c.args.state.now.book.rules c.args.name.now c.args.name.now c.in-Some.place c.rules.ensures refl c.in-Some.ensures.found) new)

pub returns-clause-refused : goal.returns-clause-refused
returns-clause-refused c =
    let s = c.args.state.now in
    let at = same_at (map rule_of c.rules.result.now) s.book.rules c.args.name.now c.args.name.now c.in-Some.place c.rules.ensures refl c.in-Some.ensures.found in
    IfErr-weaker c.replace.result (IsRuleCause c.in_ok-book.book c.args.budget) (IsDropCause s.book c.args.name.now c.args.budget)
    (λ refused cause. drop_cause_of s.book c.in_ok-book.book c.args.name.now c.args.budget c.in-Some.place refused at c.requires.state.light (consistent_in s.book s.theory s.worlds.items s.cache.rows c.requires.state) c.in_ok-book.ensures cause) c.replace.ensures.refused

pub returns-clause-loaded : goal.returns-clause-loaded
returns-clause-loaded c =
    let at = same_at (map rule_of c.rules.result.now) c.args.state.now.book.rules c.args.name.now c.args.name.now c.in-Some.place c.rules.ensures refl c.in-Some.ensures.found in
    on_ok_weaker c.replace.result (λ loaded. (c.in-Some.place, at, subst (λ b. IsLoaded b c.args.budget c.replace.new.state) c.in_ok-book.ensures loaded)) c.replace.ensures.loaded
