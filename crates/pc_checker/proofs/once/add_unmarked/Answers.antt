use Rattle.std.proofs.Common.{◌++◌, ◌∷◌, [], List, Option, Bool, sym, ◌∙◌, subst}
use Rattle.std.proofs.lemmas.Bool.{not-true, not-false}
use Rattle.pc_checker.specs.inside.Once.{AreGathered}
use Rattle.pc_checker.proofs.MarkLemmas.{same_sign, other_sign}
use Rattle.pc_checker.proofs.OnceLemmas.{other_gathered, again_gathered, new_gathered}
use Rattle.pc_checker.proofs.once.add_unmarked.Goals as goal

pub returns-then-is_positive-sign-clause-added : goal.returns-then-is_positive-sign-clause-added
returns-then-is_positive-sign-clause-added c = λ before lits g.
    other_gathered c.args.sign before lits c.args.lit c.args.marks.now c.args.once.now.items g (λ same. other_sign _ _ (not-true _ c.if-is_positive-sign.true) (c.is_positive.ensures ∙ same))

pub returns-then-is_true-clause-added : goal.returns-then-is_true-clause-added
returns-then-is_true-clause-added c = λ before lits g.
    again_gathered c.args.sign before lits c.args.lit c.args.marks.now c.args.once.now.items g c.requires (sym c.is_positive.ensures ∙ same_sign _ _ (not-false _ c.if-is_positive-sign.false)) (c.is_true.ensures.0 c.if-is_true.true)

pub returns-clause-added : goal.returns-clause-added
returns-clause-added c = λ before lits g.
    let more = lits ++ c.args.lit ∷ [] in
    let new = new_gathered c.args.sign before lits c.args.lit c.args.marks.now c.args.once.now.items g c.requires (sym c.is_positive.ensures ∙ same_sign _ _ (not-false _ c.if-is_positive-sign.false)) in
    subst (λ (marks : List (Option Bool)). AreGathered c.args.sign before more marks c.push.new.self.items) (sym c.assign.ensures)
    (subst (AreGathered c.args.sign before more _) (sym c.in_ok-push.ensures.items) new)
