use Rattle.std.proofs.Common.{◌≡◌, length, ap, ◌∙◌, sym, subst, ◌++◌, ◌∷◌, []}
use Rattle.std.specs.Map.{keys_of}
use Rattle.pc_sheet.specs.Sheet.{Universe}
use Rattle.pc_sheet.specs.WellSorted.{names_of_values}
use Rattle.pc_sheet.specs.WellFormed.{IsWellFormedUniverse, AreDifferent}
use Rattle.pc_books.specs.DeclarationsView.{IsTableOf}
use Rattle.pc_books.specs.Named.{sort_keys}
use Rattle.pc_books.specs.inside.NameTable.{named_texts}
use Rattle.pc_books.specs.SchemeView.{universe_of, sort_of, values_of}
use Rattle.pc_books.specs.Sound.{AreCounted}
use Rattle.pc_books.proofs.EditLemmas.{counts_stay, sort_added}
use Rattle.pc_books.proofs.NamesLemmas.{distinct_from, more_sorts, sort_adds, table_grows}
use Rattle.pc_books.proofs.declarations.Declarations.add_sort.Goals as goal

pub add_all-requires : goal.add_all-requires
add_all-requires c =
    let b = c.self.inside in
    let u = universe_of b.scheme in
    let sort = sort_of c.args.declared in
    let formed = subst (λ v. IsWellFormedUniverse (more_sorts v sort)) (sym c.self.view_is) c.requires.formed in
    let keys : named_texts c.args.keys.items ≡ sort_keys (record { 0 = length u.sorts }) c.args.declared.name (names_of_values (values_of c.args.declared.values)) =
    c.requires.keys ∙ ap (λ (v : Universe). sort_keys (record { 0 = length v.sorts }) c.args.declared.name (names_of_values (values_of c.args.declared.values))) (sym c.self.view_is) in
    let grown = table_grows u (more_sorts u sort) b.names _ (sort_adds u sort) c.self.invariant.named formed.different in
    distinct_from _ (subst (λ k. AreDifferent (keys_of (b.names ++ k))) (sym keys) grown.different)

pub invariant_of-self-2 : goal.invariant_of-self-2
invariant_of-self-2 c =
    let b = c.self.inside in
    let u = universe_of b.scheme in
    let sort = sort_of c.args.declared in
    let formed = subst (λ v. IsWellFormedUniverse (more_sorts v sort)) (sym c.self.view_is) c.requires.formed in
    let keys : named_texts c.args.keys.items ≡ sort_keys (record { 0 = length u.sorts }) c.args.declared.name (names_of_values (values_of c.args.declared.values)) =
    c.requires.keys ∙ ap (λ (v : Universe). sort_keys (record { 0 = length v.sorts }) c.args.declared.name (names_of_values (values_of c.args.declared.values))) (sym c.self.view_is) in
    let grown = table_grows u (more_sorts u sort) b.names _ (sort_adds u sort) c.self.invariant.named formed.different in
    let table = c.in_ok-add_all.ensures.ok ∙ ap (λ k. b.names ++ k) keys in
    let pushed : c.push.new.self.items ≡ b.scheme.sorts.items ++ c.args.declared ∷ [] = (rw c.unwrap.ensures at c.push.ensures.items) ∙ ap (λ xs. xs ++ c.args.declared ∷ []) c.in_ok-reserve.ensures.items in
    let universe = sort_added b.scheme c.push.new.self c.args.declared pushed in
    record {
      well_formed = subst IsWellFormedUniverse (sym universe) formed;
      counted = subst (λ v. AreCounted v 0 b.scheme.families.items b.scheme.cells) (sym universe) (counts_stay u sort 0 b.scheme.families.items b.scheme.cells c.self.invariant.well_formed.families c.self.invariant.counted);
      named = subst (λ v. IsTableOf v c.add_all.new.self) (sym universe) (subst (IsTableOf (more_sorts u sort)) (sym table) grown);
    }
