use Rattle.std.proofs.Common.{ℕ, ◌+◌, List, [], ◌∷◌, ◌++◌, refl, sym, subst, arith}
use Rattle.pc_cert.specs.Keys.{AreNumberedAs}
use Rattle.pc_cert.specs.Links.{Link}
use Rattle.pc_cert.proofs.KeyLemmas.{below_more, first_numbered, numbers_behind}
use Rattle.pc_cert.proofs.links.number_below.Goals as goal

pub loop-last-init : goal.loop-last-init
loop-last-init c = subst (λ ns. AreNumberedAs c.args.links.now c.args.links.now [] ns) (sym c.new-numbers.ensures.items) refl

pub returns-in_err-number-clause-err : goal.returns-in_err-number-clause-err
returns-in_err-number-clause-err c =
    let link : ℕ → Link = λ k. record { front = c.args.front; last = k } in
    first_numbered _ link c.args.links.now c.number.new.self c.args.count c.loop-last.last c.loop-last.numbers.items (omega (arith, c.loop-last-test.true))
    (subst (λ ls. AreNumberedAs c.args.links.now ls (numbers_behind c.args.front c.loop-last.last) c.loop-last.numbers.items) (sym c.in_err-number.ensures.err) c.loop-last.invariant)

pub returns-in_err-push-clause-err : goal.returns-in_err-push-clause-err
returns-in_err-push-clause-err c =
    let ns : List ℕ = c.loop-last.numbers.items ++ c.in_ok-number.number ∷ [] in
    let link : ℕ → Link = λ k. record { front = c.args.front; last = k } in
    first_numbered _ link c.args.links.now c.number.new.self c.args.count (c.loop-last.last + 1) ns (omega (arith, c.loop-last-test.true))
    (below_more c.args.front c.args.links.now c.loop-last.links c.number.new.self c.loop-last.last c.loop-last.numbers.items ns c.in_ok-number.number c.loop-last.invariant c.in_ok-number.ensures.ok refl)

pub loop-last-preserved : goal.loop-last-preserved
loop-last-preserved c =
    below_more c.args.front c.args.links.now c.loop-last.links c.number.new.self c.loop-last.last c.loop-last.numbers.items c.push.new.self.items c.in_ok-number.number c.loop-last.invariant c.in_ok-number.ensures.ok
    c.in_ok-push.ensures.items
