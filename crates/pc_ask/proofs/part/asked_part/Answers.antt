use Rattle.std.proofs.Common.{◌≡◌, ◌-◌, ap, arith, length}
use Rattle.std.proofs.lemmas.List.{length-map}
use Rattle.std.proofs.lemmas.Result.{IfOk-weaker}
use Rattle.pc_ground.specs.GroundView.{Grounded}
use Rattle.pc_parts.specs.Leaves.{cells_of}
use Rattle.pc_parts.specs.Pieces.{pieces}
use Rattle.pc_components.specs.View.{IsPartOfPiece}
use Rattle.pc_ask.specs.inside.Parts.{IsAskedOver}
use Rattle.pc_ask.proofs.Which.{asked_over}
use Rattle.pc_ask.proofs.part.asked_part.Goals as goal

pub returns : goal.returns
returns c =
    let book = c.args.book.now in
    let k = length c.args.ground.now.reads - 1 in
    let last : k ≡ length (pieces book) - 1 = (let all = ap (λ (g : Grounded). length g.reads) c.requires.ground in let mapped = length-map (pieces book) (cells_of book.universe) in omega (arith, all, mapped)) in
    IfOk-weaker c.find_last_part.result (λ part. IsPartOfPiece book k part.cells.items part.variables.items) (λ part. IsAskedOver book part.cells.items part.variables.items)
    (λ part is. asked_over book k part.cells.items part.variables.items last is) c.find_last_part.ensures
