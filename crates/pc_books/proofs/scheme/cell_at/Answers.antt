use Rattle.std.proofs.Common.{arith, refl}
use Rattle.pc_books.specs.SchemeView.{universe_of}
use Rattle.pc_books.proofs.RankLemmas.{fitting, not_fitting}
use Rattle.pc_books.proofs.scheme.cell_at.Goals as goal

pub overflow_add-result : goal.overflow_add-result
overflow_add-result c =
    let s = c.args.scheme.now in
    let h = c.in-Some.ensures.lookup in
    let f = fitting (universe_of s) c.args.family c.args.args.now s.families.items c.deref.result.now c.from.result s.cells c.in-Some.decl.now refl c.deref.ensures.value c.from.ensures h.1 h.3.0 c.requires.sound.counted
    c.deref-2.result.now c.deref-2.ensures.value c.in-Some-rank_of.rank c.in-Some-rank_of.ensures.exact in
    omega (arith, f.within, c.requires.sound.few_cells)

pub returns-in-None-clause-exact : goal.returns-in-None-clause-exact
returns-in-None-clause-exact c =
    let s = c.args.scheme.now in
    let h = c.in-Some.ensures.lookup in
    not_fitting (universe_of s) c.args.family c.args.args.now s.families.items c.deref.result.now c.from.result s.cells c.in-Some.decl.now refl c.deref.ensures.value c.from.ensures h.1 h.3.0 c.requires.sound.counted
    c.deref-2.result.now c.deref-2.ensures.value c.in-None.ensures.exact

pub returns-in-Some-rank_of-clause-exact : goal.returns-in-Some-rank_of-clause-exact
returns-in-Some-rank_of-clause-exact c =
    let s = c.args.scheme.now in
    let h = c.in-Some.ensures.lookup in
    let f = fitting (universe_of s) c.args.family c.args.args.now s.families.items c.deref.result.now c.from.result s.cells c.in-Some.decl.now refl c.deref.ensures.value c.from.ensures h.1 h.3.0 c.requires.sound.counted
    c.deref-2.result.now c.deref-2.ensures.value c.in-Some-rank_of.rank c.in-Some-rank_of.ensures.exact in
    (f.application, f.number)

pub returns-in-Some-rank_of-clause-within : goal.returns-in-Some-rank_of-clause-within
returns-in-Some-rank_of-clause-within c =
    let s = c.args.scheme.now in
    let h = c.in-Some.ensures.lookup in
    let f = fitting (universe_of s) c.args.family c.args.args.now s.families.items c.deref.result.now c.from.result s.cells c.in-Some.decl.now refl c.deref.ensures.value c.from.ensures h.1 h.3.0 c.requires.sound.counted
    c.deref-2.result.now c.deref-2.ensures.value c.in-Some-rank_of.rank c.in-Some-rank_of.ensures.exact in
    f.within
