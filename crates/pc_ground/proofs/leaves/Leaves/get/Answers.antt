use Rattle.std.proofs.Common.{◌≡◌, ◌<◌, Some, slice_get, arith, length, refl, subst}
use Rattle.std.proofs.lemmas.Option.{slice_get_read}
use Rattle.pc_ground.proofs.LeavesAdded.{as_many, zip_at}
use Rattle.pc_ground.proofs.leaves.Leaves.get.Goals as goal

pub get-requires : goal.get-requires
get-requires c = omega (arith, c.requires, as_many c.self.inside.reads c.self.inside.truths.items c.args.self.now c.self.view_is c.self.invariant, c.self.invariant)

pub index-requires : goal.index-requires
index-requires c = omega (arith, c.requires, as_many c.self.inside.reads c.self.inside.truths.items c.args.self.now c.self.view_is c.self.invariant, c.self.inside.truths.ok.0)

pub returns : goal.returns
returns c =
    let truths = c.self.inside.truths.items in
    let within : c.args.index < length truths = omega (arith, c.requires, as_many c.self.inside.reads truths c.args.self.now c.self.view_is c.self.invariant) in
    let truth : slice_get truths c.args.index ≡ Some c.index.result.now = slice_get_read truths (length truths) c.args.index c.index.result.now refl within c.index.ensures in
    subst (λ ls. slice_get ls c.args.index ≡ Some (c.get.result.now, c.index.result.now)) c.self.view_is (zip_at c.self.inside.reads truths c.args.index c.get.result.now c.index.result.now c.get.ensures truth)
