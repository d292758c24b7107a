use Rattle.std.proofs.Common.{All, sym, subst}
use Rattle.pc_cert.specs.Keys.{symbol_by}
use Rattle.pc_cert.specs.ReadFor.{IsNamedIn}
use Rattle.pc_checker.proofs.DraftLemmas.{pushed_within, written}
use Rattle.pc_checker.proofs.draft.ClauseDraft.push.Goals as goal

pub invariant_of-self : goal.invariant_of-self
invariant_of-self c = subst (λ names. All (IsNamedIn names) c.self.inside.lits.items) (sym c.in_err-number.ensures.err) c.self.invariant

pub invariant_of-self-2 : goal.invariant_of-self-2
invariant_of-self-2 c =
    subst (All (IsNamedIn c.number.new.self)) (sym c.in_ok-push.ensures.items)
    (pushed_within c.self.inside.names c.number.new.self c.self.inside.lits.items (symbol_by c.args.key.now) (record { variable = record { 0 = c.in_ok-number.number }; sign = c.args.sign })
    c.in_ok-number.ensures.ok c.self.invariant)

pub returns : goal.returns
returns c =
    written c.self.inside.names c.number.new.self c.self.inside.lits.items (symbol_by c.args.key.now) (record { variable = record { 0 = c.in_ok-number.number }; sign = c.args.sign })
    c.in_ok-number.ensures.ok c.self.invariant c.push.new.self.items c.args.self.now c.self.view_is c.in_ok-push.ensures.items
