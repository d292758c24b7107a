use Rattle.std.proofs.Common.{arith}
use Rattle.std.proofs.lemmas.Bool.Decides.{Decides-eqb}
use Rattle.pc_cert.proofs.KeyLemmas.{fronts_stay_different, front_numbered}
use Rattle.pc_cert.proofs.fronts.Fronts.place.Goals as goal

pub invariant_of-self-2 : goal.invariant_of-self-2
invariant_of-self-2 c = fronts_stay_different _ Decides-eqb c.self.inside.keys.keys c.insert_full.new.self.keys c.in_ok-front.front c.in_ok-place.ensures.keys c.self.invariant (omega (arith, c.len.ensures.len))

pub returns-clause-ok : goal.returns-clause-ok
returns-clause-ok c =
    front_numbered _ Decides-eqb c.self.inside.keys.keys c.insert_full.new.self.keys c.in_ok-front.front c.in_ok-place.ensures.keys c.args.front.now c.in_ok-front.ensures.items c.args.self.now c.in_ok-place.place
    c.in_ok-place.ensures.stored.0 c.self.view_is c.in_ok-place.ensures.stored.1 c.in_ok-place.ensures.stored.2
