use Rattle.std.proofs.Common.{◌≡◌, ◌∙◌, ap, ap₂, map, sym, subst, length, List}
use Rattle.std.proofs.lemmas.List.{with_items_is}
use Rattle.pc_sheet.specs.Sheet.{Universe, Table}
use Rattle.pc_sheet.specs.WellFormed.{IsWellFormedUniverse}
use Rattle.pc_books.specs.DeclarationsView.{IsTableOf}
use Rattle.pc_books.specs.Edits.{tables_with}
use Rattle.pc_books.specs.SchemeView.{universe_of, table_of}
use Rattle.pc_books.specs.Sound.{AreCounted}
use Rattle.pc_books.proofs.RowLemmas.{counts_with, names_with}
use Rattle.pc_books.proofs.declarations.Declarations.add_row.Goals as goal

pub invariant_of-self-2 : goal.invariant_of-self-2
invariant_of-self-2 c =
    let b = c.self.inside in
    let u = universe_of b.scheme in
    let place = c.args.table.0 in
    let row = c.args.values.now in
    let formed = subst (λ (v : Universe). IsWellFormedUniverse (record v { tables = tables_with v.tables place row })) (sym c.self.view_is) c.requires.formed in
    let count : length c.add_row.new.tables ≡ b.scheme.tables.len = c.add_row.auto.tables ∙ ap length c.deref_mut.ensures.value ∙ sym b.scheme.tables.ok.0 in
    let written = with_items_is b.scheme.tables c.add_row.new.tables count in
    let tables = ap (map table_of) written ∙ c.in_ok-add_row.ensures.ok ∙ ap₂ (λ ts k. tables_with (map table_of ts) k row) c.deref_mut.ensures.value c.from.ensures in
    let universe = ap (λ (ts : List Table). record u { tables = ts }) tables in
    record {
      well_formed = subst IsWellFormedUniverse (sym universe) formed;
      counted = subst (λ v. AreCounted v 0 b.scheme.families.items b.scheme.cells) (sym universe) (counts_with u (tables_with u.tables place row) 0 b.scheme.families.items b.scheme.cells c.self.invariant.counted);
      named = subst (λ v. IsTableOf v b.names) (sym universe) (names_with u place row b.names c.self.invariant.named);
    }
