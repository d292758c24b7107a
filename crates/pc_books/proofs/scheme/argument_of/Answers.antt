use Rattle.std.proofs.Common.{arith, ◌≡◌, ◌-◌, ◌<◌, ◌∙◌, Some, IsSomeAnd, slice_get, length, map, ap, refl, sym, subst}
use Rattle.std.proofs.lemmas.List.{length-map}
use Rattle.pc_sheet.specs.Sizes.{product, size_of}
use Rattle.pc_books.specs.SchemeView.{universe_of}
use Rattle.pc_books.specs.Tuples.{tuple_at}
use Rattle.pc_books.proofs.RankLemmas.{as_many}
use Rattle.pc_books.proofs.TupleLemmas.{placed, tuple_within}
use Rattle.pc_books.proofs.scheme.argument_of.Goals as goal

pub overflow_sub-cell : goal.overflow_sub-cell
overflow_sub-cell c =
    let s = c.args.scheme.now in
    (placed (universe_of s) s.families.items s.cells c.family_at.result c.args.cell c.index-family.result.now c.cells_are_numbered_in_order.ensures refl c.index-family.ensures c.family_at.ensures.within c.requires.sound.counted c.family_at.ensures.after c.family_at.ensures.before).after

pub part_at-requires-clause-place : goal.part_at-requires-clause-place
part_at-requires-clause-place c =
    let s = c.args.scheme.now in
    let p = placed (universe_of s) s.families.items s.cells c.family_at.result c.args.cell c.index-family.result.now c.cells_are_numbered_in_order.ensures refl c.index-family.ensures c.family_at.ensures.within c.requires.sound.counted c.family_at.ensures.after c.family_at.ensures.before in
    subst (λ ss. c.args.cell - c.index-family.result.now.first < product (map (size_of (universe_of s)) ss)) (sym c.deref.ensures.value) p.before

pub part_at-requires-clause-part : goal.part_at-requires-clause-part
part_at-requires-clause-part c =
    let s = c.args.scheme.now in
    let d = c.index-family.result.now in
    let p = placed (universe_of s) s.families.items s.cells c.family_at.result c.args.cell d c.cells_are_numbered_in_order.ensures refl c.index-family.ensures c.family_at.ensures.within c.requires.sound.counted c.family_at.ensures.after c.family_at.ensures.before in
    let sizes = map (size_of (universe_of s)) d.sorts.items in
    let many = as_many sizes (tuple_at sizes (c.args.cell - d.first)) (tuple_within sizes (c.args.cell - d.first) p.before) in
    let within : c.args.i < length (tuple_at sizes (c.args.cell - d.first)) = subst (λ o. IsSomeAnd o (λ applied. c.args.i < length applied.arguments)) p.is c.requires.argument in
    omega (arith, within, many, length-map d.sorts.items (size_of (universe_of s)), ap length c.deref.ensures.value)

pub returns : goal.returns
returns c =
    let s = c.args.scheme.now in
    let d = c.index-family.result.now in
    let p = placed (universe_of s) s.families.items s.cells c.family_at.result c.args.cell d c.cells_are_numbered_in_order.ensures refl c.index-family.ensures c.family_at.ensures.within c.requires.sound.counted c.family_at.ensures.after c.family_at.ensures.before in
    subst (λ o. IsSomeAnd o (λ applied. slice_get applied.arguments c.args.i ≡ Some c.part_at.result)) (sym p.is)
    (ap (λ ss. slice_get (tuple_at (map (size_of (universe_of s)) ss) (c.args.cell - d.first)) c.args.i) (sym c.deref.ensures.value) ∙ c.part_at.ensures)
