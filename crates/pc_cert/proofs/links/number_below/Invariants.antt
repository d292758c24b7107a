use Rattle.pc_accept.specs.Axioms.{each_below}
use Rattle.pc_cert.specs.Keys.{AreNumberedAs}
use Rattle.pc_cert.proofs.links.number_below.Given as goal

abbrev pub invariant-loop-last : goal.invariant-loop-last
invariant-loop-last l = AreNumberedAs l.fn.links l.links (each_below l.last (λ k. record { front = l.front; last = k })) l.numbers.items
