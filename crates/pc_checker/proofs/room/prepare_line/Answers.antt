use Rattle.std.proofs.Common.{List, ◌∷◌, [], ◌++◌, ap, ◌∙◌, subst}
use Rattle.pc_lits.specs.declared.literal.Lit.{Lit}
use Rattle.pc_cert.specs.ReadFor.{IsPartOver}
use Rattle.pc_checker.specs.LineClauses.{HasSame}
use Rattle.pc_checker.specs.Made.{blocks_said}
use Rattle.pc_checker.proofs.RoomLemmas.{step_prepared}
use Rattle.pc_checker.proofs.room.prepare_line.Goals as goal

pub returns-in_ok-push-in-Step-clause-prepared : goal.returns-in_ok-push-in-Step-clause-prepared
returns-in_ok-push-in-Step-clause-prepared c =
    let once = c.in_ok-once-in-Step.once.items in
    let same = subst (HasSame once) c.deref.ensures.value c.in_ok-once-in-Step.ensures.same in
    step_prepared c.args.book.now (blocks_said c.args.book.now c.args.sets.now) c.args.draft.now.symbols c.args.part.now _ c.in-Step.clause.items once c.args.clauses.now c.push-in-Step.new.self c.in-Step.is
    (subst (IsPartOver c.args.book.now c.args.draft.now.symbols) c.in-Step.is c.requires.over) same same
    (c.in_ok-push-in-Step.ensures ∙ ap (λ (ls : List Lit). c.args.clauses.now ++ ls ∷ []) c.deref-in-Step.ensures.value)
