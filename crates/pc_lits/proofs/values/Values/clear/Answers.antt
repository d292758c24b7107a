use Rattle.std.proofs.Common.{ap, ◌∙◌, None, arith, sym, length, replicate}
use Rattle.pc_lits.proofs.StampLemmas.{shown-stale, shown-blank, length-shown}
use Rattle.pc_lits.proofs.values.Values.clear.Goals as goal

pub returns-then-self : goal.returns-then-self
returns-then-self c =
    rw (c.fill.ensures.items (λ y same. same), c.self.inside.cells.ok.0)
    (shown-blank 1 (length c.self.inside.cells.items) _ (omega arith) ∙ ap (λ n. replicate n None) (sym (length-shown c.self.inside.present c.self.inside.cells.items) ∙ ap length c.self.view_is))

pub returns-else-self : goal.returns-else-self
returns-else-self c =
    shown-stale _ c.self.inside.cells.items (λ k d within. omega (arith, c.self.invariant.not_later k d within))
    ∙ ap (λ n. replicate n None) (sym (length-shown c.self.inside.present c.self.inside.cells.items) ∙ ap length c.self.view_is)
