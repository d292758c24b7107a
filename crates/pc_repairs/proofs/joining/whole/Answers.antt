use Rattle.std.proofs.Common.{◌≡◌, List, All, AllPairs, length, map, arith, ap, sym, ◌∙◌, subst}
use Rattle.std.specs.List.Sorted.{IsPermutation}
use Rattle.pc_sheet.specs.Sheet.{Sheet}
use Rattle.pc_sheet.specs.Sizes.{product}
use Rattle.pc_sheet.specs.Entailment.{IsSublist}
use Rattle.pc_sheet.specs.WellFormed.{IsWellFormed}
use Rattle.pc_sheet.specs.declared.ids.Entry.{Entry}
use Rattle.pc_world_list.specs.Worlds.{WorldView, set_of, AreExact}
use Rattle.pc_repairs.specs.Listed.{ComesFirst}
use Rattle.pc_repairs.specs.inside.Joining.{IsCapped, IsSized, many_sets}
use Rattle.pc_repairs.specs.declared.part_sets.PartSets.{PartSets}
use Rattle.pc_repairs.proofs.Exact.{all_sublists, are_apart}
use Rattle.pc_repairs.proofs.Joined.{all_sized, are_whole, joined_exact, none_whole, worlds_are}
use Rattle.pc_repairs.proofs.joining.whole.Goals as goal

pub returns-then-count_choices-gt-MOST_SETS : goal.returns-then-count_choices-gt-MOST_SETS
returns-then-count_choices-gt-MOST_SETS g c =
    let sheet = g.C.Choices.sheet c.args.view.now in
    let formed : IsWellFormed sheet = subst IsWellFormed c.book-book.ensures c.well_formed-2.ensures in
    let fitting = c.fitting-fitting.result.now in
    let fit = c.fitting-fitting.ensures in
    let qs = c.in_ok-parts.parts.items in
    let are = c.in_ok-parts.ensures in
    none_whole sheet formed fitting fit qs are c.count_choices.result (subst (λ (ps : List PartSets). IsCapped c.count_choices.result (product (map many_sets ps))) c.deref.ensures.value c.count_choices.ensures) c.if-count_choices-gt-MOST_SETS.true

pub join_parts-requires : goal.join_parts-requires
join_parts-requires g c =
    let sheet = g.C.Choices.sheet c.args.view.now in
    let formed : IsWellFormed sheet = subst IsWellFormed c.book-book.ensures c.well_formed-2.ensures in
    let fitting = c.fitting-fitting.result.now in
    let fit = c.fitting-fitting.ensures in
    let qs = c.in_ok-parts.parts.items in
    let are = c.in_ok-parts.ensures in
    subst (λ (ps : List PartSets). All (IsSized (length fitting)) ps) (sym c.deref-2.ensures.value) (all_sized sheet formed fitting fit qs are)

pub ordered-requires-clause-sublists : goal.ordered-requires-clause-sublists
ordered-requires-clause-sublists g c =
    let sheet = g.C.Choices.sheet c.args.view.now in
    let formed : IsWellFormed sheet = subst IsWellFormed c.book-book.ensures c.well_formed-2.ensures in
    let fitting = c.fitting-fitting.result.now in
    let fit = c.fitting-fitting.ensures in
    let qs = c.in_ok-parts.parts.items in
    let are = c.in_ok-parts.ensures in
    let worlds = c.in_ok-worlds.worlds in
    let made = worlds_are sheet c.book-book.result.now c.entries.result.now c.deref-3.result.now c.in_ok-all.all.items c.deref-2.result.now qs fitting worlds c.book-book.ensures c.entries.ensures.items c.in_ok-worlds.ensures c.deref-3.ensures.value c.in_ok-all.ensures c.deref-2.ensures.value in
    let entries_of : Sheet → List Entry = λ s. s.entries in
    subst (λ (es : List Entry). All (λ w. IsSublist es w.entries) worlds) (sym (c.entries-2.ensures.items ∙ ap entries_of c.book-book.ensures)) (all_sublists sheet worlds (subst (λ (ws : List WorldView). AreExact sheet ws) (sym made) (joined_exact sheet formed fitting fit qs are)))

pub ordered-requires-clause-apart : goal.ordered-requires-clause-apart
ordered-requires-clause-apart g c =
    let sheet = g.C.Choices.sheet c.args.view.now in
    let formed : IsWellFormed sheet = subst IsWellFormed c.book-book.ensures c.well_formed-2.ensures in
    let fitting = c.fitting-fitting.result.now in
    let fit = c.fitting-fitting.ensures in
    let qs = c.in_ok-parts.parts.items in
    let are = c.in_ok-parts.ensures in
    let worlds = c.in_ok-worlds.worlds in
    let made = worlds_are sheet c.book-book.result.now c.entries.result.now c.deref-3.result.now c.in_ok-all.all.items c.deref-2.result.now qs fitting worlds c.book-book.ensures c.entries.ensures.items c.in_ok-worlds.ensures c.deref-3.ensures.value c.in_ok-all.ensures c.deref-2.ensures.value in
    are_apart sheet worlds (subst (λ (ws : List WorldView). AreExact sheet ws) (sym made) (joined_exact sheet formed fitting fit qs are))

pub returns : goal.returns
returns g c =
    let sheet = g.C.Choices.sheet c.args.view.now in
    let formed : IsWellFormed sheet = subst IsWellFormed c.book-book.ensures c.well_formed-2.ensures in
    let fitting = c.fitting-fitting.result.now in
    let fit = c.fitting-fitting.ensures in
    let qs = c.in_ok-parts.parts.items in
    let are = c.in_ok-parts.ensures in
    let worlds = c.in_ok-worlds.worlds in
    let made = worlds_are sheet c.book-book.result.now c.entries.result.now c.deref-3.result.now c.in_ok-all.all.items c.deref-2.result.now qs fitting worlds c.book-book.ensures c.entries.ensures.items c.in_ok-worlds.ensures c.deref-3.ensures.value c.in_ok-all.ensures c.deref-2.ensures.value in
    let entries_of : Sheet → List Entry = λ s. s.entries in
    let sorted = c.in_ok-ordered.field-0 in
    are_whole sheet formed fitting fit qs are c.count_choices.result (subst (λ (ps : List PartSets). IsCapped c.count_choices.result (product (map many_sets ps))) c.deref.ensures.value c.count_choices.ensures) (omega (arith, c.if-count_choices-gt-MOST_SETS.false))
    sorted (subst (λ (ws : List WorldView). IsPermutation ws sorted) made c.in_ok-ordered.ensures.worlds)
    (subst (λ (es : List Entry). AllPairs (ComesFirst es) (map set_of sorted)) (c.entries-2.ensures.items ∙ ap entries_of c.book-book.ensures) c.in_ok-ordered.ensures.order)
