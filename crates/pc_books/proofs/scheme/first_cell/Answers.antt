use Rattle.std.proofs.Common.{arith, ◌≤◌, length}
use Rattle.pc_books.specs.SchemeView.{universe_of}
use Rattle.pc_books.proofs.CountLemmas.{read_counts, count_past}
use Rattle.pc_books.proofs.scheme.first_cell.Goals as goal

pub returns-in-None-clause-exact : goal.returns-in-None-clause-exact
returns-in-None-clause-exact c =
    let s = c.args.scheme.now in
    let past : length s.families.items ≤ c.args.family.0 = omega (arith, c.in-None.ensures.lookup.3) in
    count_past (universe_of s) s.families.items s.cells c.args.family.0 past c.requires.counted

pub returns-in-Some-clause-exact : goal.returns-in-Some-clause-exact
returns-in-Some-clause-exact c =
    let s = c.args.scheme.now in
    let h = c.in-Some.ensures.lookup in
    (read_counts (universe_of s) s.families.items c.deref.result.now s.cells c.args.family.0 c.from.result c.in-Some.decl.now c.deref.ensures.value c.from.ensures h.1 h.3.0 c.requires.counted).0

pub returns-in-Some-clause-small : goal.returns-in-Some-clause-small
returns-in-Some-clause-small c =
    let s = c.args.scheme.now in
    let h = c.in-Some.ensures.lookup in
    let counts = read_counts (universe_of s) s.families.items c.deref.result.now s.cells c.args.family.0 c.from.result c.in-Some.decl.now c.deref.ensures.value c.from.ensures h.1 h.3.0 c.requires.counted in
    omega (arith, counts.1, c.requires.few_cells)
