use Rattle.std.proofs.Common.{ℕ, List, get_or, ap, sym, ◌∙◌, arith}
use Rattle.std.proofs.lemmas.List.Elements.{Contains-get_or}
use Rattle.pc_log.specs.inside.Bits.{bit}
use Rattle.pc_log.proofs.PlaceLemmas.{next_is, place_bit, bit_within}
use Rattle.pc_log.proofs.bit_set.BitSet.next.Goals as goal

pub next_bit-requires-clause-some : goal.next_bit-requires-clause-some
next_bit-requires-clause-some c =
    let place : ℕ = get_or c.args.self.now c.args.index 0 in
    rw c.deref.ensures.value (place, c.requires.later, place_bit c.self.inside.words.items c.args.self.now place c.self.view_is (Contains-get_or c.args.self.now c.args.index 0 c.requires.within))

pub returns-clause-value : goal.returns-clause-value
returns-clause-value c =
    next_is c.self.inside.words.items c.args.self.now c.args.index c.args.from c.next_bit.result c.self.view_is c.requires.within c.requires.later c.requires.earlier
    (ap (λ (ws : List ℕ). bit ws c.next_bit.result) (sym c.deref.ensures.value) ∙ c.next_bit.ensures.has) c.next_bit.ensures.from
    (λ p after has. c.next_bit.ensures.first p after (ap (λ (ws : List ℕ). bit ws p) c.deref.ensures.value ∙ has))

pub returns-clause-small : goal.returns-clause-small
returns-clause-small c =
    omega (
      arith,
      c.self.invariant.few,
      bit_within c.self.inside.words.items c.next_bit.result (ap (λ (ws : List ℕ). bit ws c.next_bit.result) (sym c.deref.ensures.value) ∙ c.next_bit.ensures.has),
    )
