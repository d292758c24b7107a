use Rattle.std.proofs.Common.{arith, ℕ, ◌≡◌, ◌+◌, ◌-◌, ◌<◌, ◌/◌, ◌%◌, ◌∙◌, Some, slice_get, length, map, drop, get_or, ap, sym, subst}
use Rattle.std.proofs.Math.ListN.{get_or-map}
use Rattle.std.proofs.lemmas.List.{drop-map, get_or_default, length-map, take_rest}
use Rattle.pc_sheet.specs.Sizes.{product, size_of}
use Rattle.pc_sheet.specs.declared.ids.SortId.{SortId}
use Rattle.pc_books.proofs.BookLemmas.{size_small}
use Rattle.pc_books.specs.SchemeView.{universe_of}
use Rattle.pc_books.specs.Tuples.{tuple_at}
use Rattle.pc_books.proofs.TupleLemmas.{some_later, rest_below, part_below, part_first, part_after}
use Rattle.pc_books.proofs.scheme.part_at.Goals as goal

pub nonzero_rem-rest : goal.nonzero_rem-rest
nonzero_rem-rest c =
    let size = size_of (universe_of c.args.scheme.now) in
    let sizes = map size c.args.sorts.now in
    let j = c.loop-j.j in
    let within : j < length sizes = omega (arith, length-map c.args.sorts.now size, c.loop-j-test.true, c.requires.part) in
    let later : c.count_tuples-later.result ≡ product (drop (j + 1) sizes) = c.count_tuples-later.ensures.exact ∙ ap (λ xs. product (map size xs)) (take_rest c.args.sorts.now (j + 1)) ∙ ap product (sym (drop-map size (j + 1) c.args.sorts.now)) in
    omega (arith, later, some_later sizes c.loop-j.rest j within c.loop-j.invariant.below)

pub loop-j-preserved : goal.loop-j-preserved
loop-j-preserved c =
    let size = size_of (universe_of c.args.scheme.now) in
    let sizes = map size c.args.sorts.now in
    let l = c.loop-j in
    let within : l.j < length sizes = omega (arith, length-map c.args.sorts.now size, c.loop-j-test.true, c.requires.part) in
    let later : c.count_tuples-later.result ≡ product (drop (l.j + 1) sizes) = c.count_tuples-later.ensures.exact ∙ ap (λ xs. product (map size xs)) (take_rest c.args.sorts.now (l.j + 1)) ∙ ap product (sym (drop-map size (l.j + 1) c.args.sorts.now)) in
    record {
      part = ap (λ p. slice_get (tuple_at (drop (l.j + 1) sizes) (l.rest % p)) (c.args.i - (l.j + 1))) later ∙ sym (part_after sizes l.rest l.j within c.args.i c.loop-j-test.true) ∙ l.invariant.part;
      below = subst (λ p. l.rest % p < product (drop (l.j + 1) sizes)) (sym later) (rest_below sizes l.rest l.j within l.invariant.below);
    }

pub overflow_cast-result : goal.overflow_cast-result
overflow_cast-result c =
    let size = size_of (universe_of c.args.scheme.now) in
    let sizes = map size c.args.sorts.now in
    let l = c.loop-j in
    let within : l.j < length sizes = omega (arith, length-map c.args.sorts.now size, l.auto.j-end, c.requires.part) in
    let same : c.args.i ≡ l.j = omega (arith, l.auto.j-end, c.loop-j-test.false) in
    let later : c.count_tuples-later-2.result ≡ product (drop (l.j + 1) sizes) = c.count_tuples-later-2.ensures.exact ∙ ap (λ xs. product (map size xs)) (take_rest c.args.sorts.now (c.args.i + 1)) ∙ ap product (sym (drop-map size (c.args.i + 1) c.args.sorts.now)) ∙ ap (λ k. product (drop (k + 1) sizes)) same in
    let part = part_below sizes l.rest l.j within l.invariant.below in
    let first : SortId = record { 0 = 0 } in
    let inside : l.j < length c.args.sorts.now = omega (arith, length-map c.args.sorts.now size, within) in
    let at : get_or sizes l.j 0 ≡ size (get_or c.args.sorts.now l.j first) = get_or_default sizes l.j 0 (size first) within ∙ get_or-map size c.args.sorts.now l.j first in
    let small = size_small c.args.scheme.now (get_or c.args.sorts.now l.j first) c.requires.sound in
    let quotient : l.rest / c.count_tuples-later-2.result ≡ l.rest / product (drop (l.j + 1) sizes) = ap (λ p. l.rest / p) later in
    omega (arith, part, at, small, quotient)

pub returns : goal.returns
returns c =
    let size = size_of (universe_of c.args.scheme.now) in
    let sizes = map size c.args.sorts.now in
    let l = c.loop-j in
    let within : l.j < length sizes = omega (arith, length-map c.args.sorts.now size, l.auto.j-end, c.requires.part) in
    let same : c.args.i ≡ l.j = omega (arith, l.auto.j-end, c.loop-j-test.false) in
    let none : c.args.i - l.j ≡ 0 = omega (arith, same) in
    let later : c.count_tuples-later-2.result ≡ product (drop (l.j + 1) sizes) = c.count_tuples-later-2.ensures.exact ∙ ap (λ xs. product (map size xs)) (take_rest c.args.sorts.now (c.args.i + 1)) ∙ ap product (sym (drop-map size (c.args.i + 1) c.args.sorts.now)) ∙ ap (λ k. product (drop (k + 1) sizes)) same in
    sym l.invariant.part ∙ ap (slice_get (tuple_at (drop l.j sizes) l.rest)) none ∙ part_first sizes l.rest l.j within
    ∙ ap (λ (p : ℕ). Some (record { 0 = l.rest / p })) (sym later)
