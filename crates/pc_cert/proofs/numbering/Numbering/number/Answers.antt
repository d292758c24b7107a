use Rattle.std.proofs.Common.{ℕ, List, All, map, ap, sym, subst, ◌∙◌}
use Rattle.pc_cert.specs.Links.{symbol_in, IsLinkIn}
use Rattle.pc_cert.proofs.KeyLemmas.{key_links, key_numbered, links_still, on_err, symbols_still}
use Rattle.pc_cert.proofs.numbering.Numbering.number.Goals as goal

pub returns-in_err-place-clause-err : goal.returns-in_err-place-clause-err
returns-in_err-place-clause-err c = on_err _ (ap (λ (fs : List (List ℕ)). map (symbol_in fs) c.self.inside.links) c.in_err-place.ensures.err ∙ c.self.view_is)

pub invariant_of-self-in_err-number : goal.invariant_of-self-in_err-number
invariant_of-self-in_err-number c =
    subst (All (IsLinkIn c.place.new.self)) (sym c.in_err-number.ensures.err)
    (links_still c.self.inside.fronts c.place.new.self c.parted-parts.result.0.now c.in_ok-place.place c.in_ok-place.ensures.ok c.self.inside.links c.self.invariant)

pub returns-in_err-number-clause-err : goal.returns-in_err-number-clause-err
returns-in_err-number-clause-err c =
    on_err _
    (ap (map (symbol_in c.place.new.self)) c.in_err-number.ensures.err
    ∙ symbols_still c.self.inside.fronts c.place.new.self c.parted-parts.result.0.now c.in_ok-place.place c.in_ok-place.ensures.ok c.self.inside.links c.self.invariant
    ∙ c.self.view_is)

pub invariant_of-self-2 : goal.invariant_of-self-2
invariant_of-self-2 c =
    key_links c.self.inside.fronts c.place.new.self c.parted-parts.result.0.now c.in_ok-place.place c.in_ok-place.ensures.ok c.args.key.now c.parted-parts.result.1 c.parted-parts.ensures c.requires c.recall_different.ensures
    c.self.inside.links c.number.new.self c.in_ok-number.number c.self.invariant c.in_ok-number.ensures.ok

pub returns-clause-ok : goal.returns-clause-ok
returns-clause-ok c =
    key_numbered c.self.inside.fronts c.place.new.self c.parted-parts.result.0.now c.in_ok-place.place c.in_ok-place.ensures.ok c.args.key.now c.parted-parts.result.1 c.parted-parts.ensures c.requires c.recall_different.ensures
    c.self.inside.links c.number.new.self c.in_ok-number.number c.self.invariant c.in_ok-number.ensures.ok c.args.self.now c.self.view_is
