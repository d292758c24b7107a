use Rattle.std.proofs.Common.{◌≡◌, ℕ, length, arith, ap, ◌∙◌, sym, subst, ◌++◌, ◌∷◌, []}
use Rattle.std.specs.Map.{keys_of}
use Rattle.std.proofs.lemmas.List.{length-map}
use Rattle.pc_sheet.specs.WellFormed.{IsWellFormedUniverse, AreDifferent}
use Rattle.pc_books.specs.DeclarationsView.{IsTableOf}
use Rattle.pc_books.specs.Edits.{table_from}
use Rattle.pc_books.specs.inside.NameTable.{named_texts}
use Rattle.pc_books.specs.SchemeView.{universe_of, table_of}
use Rattle.pc_books.specs.Sound.{AreCounted}
use Rattle.pc_books.specs.declared.scheme.TableDecl.{TableDecl}
use Rattle.pc_books.specs.declared.names.Named.TheVariants as named
use Rattle.pc_books.proofs.EditLemmas.{counts_beside, table_added}
use Rattle.pc_books.proofs.NamesLemmas.{distinct_from, more_tables, table_key, table_adds, table_grows}
use Rattle.pc_books.proofs.declarations.Declarations.add_table.Goals as goal

pub add_all-requires : goal.add_all-requires
add_all-requires c =
    let b = c.self.inside in
    let u = universe_of b.scheme in
    let table = table_from c.args.name c.args.sorts.items in
    let formed = subst (λ v. IsWellFormedUniverse (more_tables v table)) (sym c.self.view_is) c.requires in
    let place : c.len.result ≡ length u.tables = omega (arith, c.len.ensures, length-map b.scheme.tables.items table_of) in
    let keys : named_texts c.in_ok-keys.keys.items ≡ table_key u table = c.in_ok-keys.ensures ∙ ap (λ (k : ℕ). (c.args.name, named.Table (record { 0 = k })) ∷ []) place in
    let grown = table_grows u (more_tables u table) b.names _ (table_adds u table) c.self.invariant.named formed.different in
    distinct_from _ (subst (λ k. AreDifferent (keys_of (b.names ++ k))) (sym keys) grown.different)

pub invariant_of-self-2 : goal.invariant_of-self-2
invariant_of-self-2 c =
    let b = c.self.inside in
    let u = universe_of b.scheme in
    let table = table_from c.args.name c.args.sorts.items in
    let formed = subst (λ v. IsWellFormedUniverse (more_tables v table)) (sym c.self.view_is) c.requires in
    let place : c.len.result ≡ length u.tables = omega (arith, c.len.ensures, length-map b.scheme.tables.items table_of) in
    let keys : named_texts c.in_ok-keys.keys.items ≡ table_key u table = c.in_ok-keys.ensures ∙ ap (λ (k : ℕ). (c.args.name, named.Table (record { 0 = k })) ∷ []) place in
    let grown = table_grows u (more_tables u table) b.names _ (table_adds u table) c.self.invariant.named formed.different in
    let names = c.in_ok-add_all.ensures.ok ∙ ap (λ k. b.names ++ k) keys in
    let declared : TableDecl = record { name = c.args.name; sorts = c.args.sorts; rows = c.new-rows.result } in
    let pushed : c.push.new.self.items ≡ b.scheme.tables.items ++ declared ∷ [] = (rw c.unwrap.ensures at c.push.ensures.items) ∙ ap (λ xs. xs ++ declared ∷ []) c.in_ok-reserve.ensures.items in
    let seen : table_of declared ≡ table = λ i. record { name = c.args.name; sorts = c.args.sorts.items; rows = c.new-rows.ensures i } in
    let universe = table_added b.scheme c.push.new.self declared pushed ∙ ap (more_tables u) seen in
    record {
      well_formed = subst IsWellFormedUniverse (sym universe) formed;
      counted = subst (λ v. AreCounted v 0 b.scheme.families.items b.scheme.cells) (sym universe) (counts_beside u table 0 b.scheme.families.items b.scheme.cells c.self.invariant.counted);
      named = subst (λ v. IsTableOf v c.add_all.new.self) (sym universe) (subst (IsTableOf (more_tables u table)) (sym names) grown);
    }
