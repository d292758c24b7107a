use Rattle.std.proofs.Common.{◌≡◌, IsSomeAnd, refl, sym, subst}
use Rattle.pc_books.specs.SchemeView.{universe_of}
use Rattle.pc_books.proofs.TupleLemmas.{some_family, placed}
use Rattle.pc_books.proofs.scheme.family_of_cell.Goals as goal

pub returns : goal.returns
returns c =
    let s = c.args.scheme.now in
    let k = c.family_at.result in
    let d = some_family s.families.items k c.family_at.ensures.within in
    let p = placed (universe_of s) s.families.items s.cells k c.args.cell d.0 c.cells_are_numbered_in_order.ensures refl d.1 c.family_at.ensures.within c.requires.sound.counted c.family_at.ensures.after c.family_at.ensures.before in
    subst (λ o. IsSomeAnd o (λ applied. record { 0 = k } ≡ applied.family)) (sym p.is) refl
