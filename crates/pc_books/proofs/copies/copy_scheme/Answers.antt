use Rattle.std.proofs.Common.{◌∙◌, ap, map}
use Rattle.pc_books.specs.SchemeView.{universe_of, sort_of, table_of}
use Rattle.pc_books.specs.Sound.{counted_of}
use Rattle.pc_books.proofs.CountLemmas.{families_same, counted_copy}
use Rattle.pc_books.proofs.copies.copy_scheme.Goals as goal

pub returns-clause-universe : goal.returns-clause-universe
returns-clause-universe c =
    let sorts = c.in_ok-sorts.ensures ∙ ap (map sort_of) c.deref.ensures.value in
    let tables = c.in_ok-tables.ensures ∙ ap (map table_of) c.deref-2.ensures.value in
    let families = families_same c.in_ok-families.families.items c.args.scheme.now.families.items (c.in_ok-families.ensures ∙ ap (map counted_of) c.deref-3.ensures.value) in
    λ i. record { sorts = sorts i; tables = tables i; families = families i }

pub returns-clause-counted : goal.returns-clause-counted
returns-clause-counted c =
    let s = c.args.scheme.now in
    counted_copy (universe_of s) 0 c.in_ok-families.families.items s.families.items s.cells (c.in_ok-families.ensures ∙ ap (map counted_of) c.deref-3.ensures.value) c.requires
