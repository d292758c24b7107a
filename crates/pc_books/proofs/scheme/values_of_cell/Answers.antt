use Rattle.std.proofs.Common.{arith, ◌<◌, ◌∙◌, sym, ap, length, Some}
use Rattle.std.proofs.Math.ListN.{get_or-map}
use Rattle.std.proofs.lemmas.List.{length-map}
use Rattle.pc_books.specs.SchemeView.{universe_of, family_of}
use Rattle.pc_books.proofs.CountLemmas.{size_at}
use Rattle.pc_books.proofs.scheme.values_of_cell.Goals as goal

pub returns-clause-exact : goal.returns-clause-exact
returns-clause-exact c =
    let s = c.args.scheme.now in
    let u = universe_of s in
    let i = c.family_at-family.result in
    let d = c.index.result.now in
    let within : i < length u.families = omega (arith, c.family_at-family.ensures.within, length-map s.families.items family_of) in
    size_at u u.families i c.args.cell (family_of d) within (ap family_of c.index.ensures ∙ sym (get_or-map family_of s.families.items i d)) c.family_at-family.ensures.after c.family_at-family.ensures.before
    ∙ ap Some (sym c.size_of.ensures.exact)
