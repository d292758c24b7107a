use Rattle.std.proofs.Common.{◌++◌, ◌∷◌, [], cond, take, ap, sym, ◌∙◌}
use Rattle.std.proofs.lemmas.List.{take_more_set}
use Rattle.pc_session.proofs.chosen.add_if.Goals as goal

pub returns-clause-added : goal.returns-clause-added
returns-clause-added c =
    take_more_set c.args.numbers.now.items c.args.count c.args.number c.requires
    ∙ ap (λ b. take c.args.count c.args.numbers.now.items ++ cond b (c.args.number ∷ []) []) (sym c.if-not-mark.false)
