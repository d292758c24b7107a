use Rattle.std.proofs.Common.{◌≡◌, ◌-◌, ◌<◌, ap, arith, length, subst, sym, ◌∙◌}
use Rattle.std.specs.Prelude.{IfOk, slice_get}
use Rattle.pc_ground.specs.GroundView.{Grounded}
use Rattle.pc_parts.specs.Components.{all_relabeled, pairs_of}
use Rattle.pc_components.specs.View.{IsPartOfPiece}
use Rattle.pc_components.proofs.AskedLabels.{labels_asked, labels_kept, some_pieces}
use Rattle.pc_components.proofs.piece_part.find_last_part.Goals as goal

pub overflow_sub-last : goal.overflow_sub-last
overflow_sub-last c =
    let a = c.requires.asked in
    let some = subst (λ (g : Grounded). 0 < length g.reads) (sym c.requires.ground) (some_pieces a.0 a.1 c.args.book.now a.2) in
    let many = c.len-last.ensures in
    let same = ap length c.reads.ensures in
    omega (arith, some, many, same)

pub get-requires : goal.get-requires
get-requires c =
    let a = c.requires.asked in
    let some = subst (λ (g : Grounded). 0 < length g.reads) (sym c.requires.ground) (some_pieces a.0 a.1 c.args.book.now a.2) in
    let many = c.len-last.ensures in
    let same = ap length c.reads.ensures in
    let again = ap length c.reads-2.ensures in
    omega (arith, some, many, same, again)

pub by_labels-requires-clause-labels : goal.by_labels-requires-clause-labels
by_labels-requires-clause-labels c =
    let a = c.requires.asked in
    let rows = c.reads-2.result.now in
    let reads = c.get.result.now in
    let last : c.len-last.result - 1 ≡ length rows - 1 =
    (let many = c.len-last.ensures in let same = ap length c.reads.ensures in let again = ap length c.reads-2.ensures in omega (arith, many, same, again)) in
    c.deref.ensures.value ∙ c.tie_all.ensures ∙ ap (all_relabeled (pairs_of reads)) (c.in_ok-labels.ensures ∙ labels_kept a.0 a.3 c.args.components.now a.4)
    ∙ sym (labels_asked a.0 a.1 c.args.book.now a.2 rows reads (c.reads-2.ensures ∙ ap (λ (g : Grounded). g.reads) c.requires.ground) (ap (slice_get rows) (sym last) ∙ c.get.ensures))

pub part_of_piece-requires-clause-piece : goal.part_of_piece-requires-clause-piece
part_of_piece-requires-clause-piece c =
    let a = c.requires.asked in
    let some = subst (λ (g : Grounded). 0 < length g.reads) (sym c.requires.ground) (some_pieces a.0 a.1 c.args.book.now a.2) in
    let many = c.len-last.ensures in
    let same = ap length c.reads.ensures in
    omega (arith, some, many, same)

pub returns : goal.returns
returns c =
    let last : c.len-last.result - 1 ≡ length c.args.ground.now.reads - 1 = (let many = c.len-last.ensures in let same = ap length c.reads.ensures in omega (arith, many, same)) in
    subst (λ k. IfOk c.part_of_piece.result (λ part. IsPartOfPiece c.args.book.now k part.cells.items part.variables.items)) last c.part_of_piece.ensures
