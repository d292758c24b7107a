use Rattle.std.proofs.Common.{ℕ, ◌/◌, List, length, ap, ◌∙◌, arith}
use Rattle.pc_log.specs.inside.Bits.{places_below}
use Rattle.pc_log.proofs.PlaceLemmas.{number_is, number_within, place_within, rank_here}
use Rattle.pc_log.proofs.bit_set.BitSet.before.Goals as goal

pub index-requires : goal.index-requires
index-requires c = omega (arith, place_within c.self.inside.words.items c.args.self.now c.args.place c.self.view_is c.requires, c.self.invariant.ranks_are.size)

pub count_to-requires-clause-count : goal.count_to-requires-clause-count
count_to-requires-clause-count c =
    rw c.deref.ensures.value (rank_here c.self.inside.words.items c.self.inside.ranks.items (c.args.place / 64) c.index.result.now c.self.invariant
    (omega (arith, place_within c.self.inside.words.items c.args.self.now c.args.place c.self.view_is c.requires)) c.index.ensures)

pub count_to-requires-clause-few : goal.count_to-requires-clause-few
count_to-requires-clause-few c = omega (arith, place_within c.self.inside.words.items c.args.self.now c.args.place c.self.view_is c.requires, c.self.invariant.few)

pub returns-clause-number : goal.returns-clause-number
returns-clause-number c =
    c.count_to.ensures ∙ ap (λ (ws : List ℕ). length (places_below ws c.args.place)) c.deref.ensures.value ∙ number_is c.self.inside.words.items c.args.self.now c.args.place c.self.view_is c.requires

pub returns-clause-within : goal.returns-clause-within
returns-clause-within c =
    omega (arith, c.count_to.ensures, ap (λ (ws : List ℕ). length (places_below ws c.args.place)) c.deref.ensures.value, number_within c.self.inside.words.items c.args.self.now c.args.place c.self.view_is c.requires)
