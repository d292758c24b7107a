use Rattle.std.proofs.Common.{◌≡◌, ◌+◌, ℕ, length, map, arith, ap, ◌∙◌, refl, sym, subst, ◌++◌, ◌∷◌, []}
use Rattle.std.specs.Map.{keys_of}
use Rattle.std.proofs.lemmas.List.{length-map}
use Rattle.pc_sheet.specs.Sizes.{size_of, cells_in, product}
use Rattle.pc_sheet.specs.WellFormed.{IsWellFormedUniverse, AreDifferent}
use Rattle.pc_books.specs.DeclarationsView.{IsTableOf}
use Rattle.pc_books.specs.Edits.{family_from}
use Rattle.pc_books.specs.inside.NameTable.{named_texts}
use Rattle.pc_books.specs.SchemeView.{universe_of, family_of}
use Rattle.pc_books.specs.Sound.{AreCounted}
use Rattle.pc_books.specs.declared.names.Named.TheVariants as named
use Rattle.pc_books.specs.declared.scheme.FamilyDecl.{FamilyDecl}
use Rattle.pc_books.proofs.BookLemmas.{sound_of}
use Rattle.pc_books.proofs.CountLemmas.{total_is}
use Rattle.pc_books.proofs.EditLemmas.{counts_push, counts_same, family_added, few_together, last_family}
use Rattle.pc_books.proofs.NamesLemmas.{distinct_from, more_families, new_key, family_adds, table_grows}
use Rattle.pc_books.proofs.declarations.Declarations.add_family.Goals as goal

pub count_tuples-cells-requires-clause-sound : goal.count_tuples-cells-requires-clause-sound
count_tuples-cells-requires-clause-sound c = sound_of c.self.inside.scheme c.self.invariant.well_formed c.self.invariant.counted

pub count_tuples-cells-requires-clause-arity : goal.count_tuples-cells-requires-clause-arity
count_tuples-cells-requires-clause-arity c =
    let family = family_from c.args.name c.args.sorts.items c.args.result_sort in
    let formed = subst (λ v. IsWellFormedUniverse (more_families v family)) (sym c.self.view_is) c.requires in
    let arity = (last_family (universe_of c.self.inside.scheme) family formed).arity in
    omega (arith, arity, ap length c.deref.ensures.value)

pub overflow_add-self : goal.overflow_add-self
overflow_add-self c =
    let b = c.self.inside in
    let u = universe_of b.scheme in
    let family = family_from c.args.name c.args.sorts.items c.args.result_sort in
    let formed = subst (λ v. IsWellFormedUniverse (more_families v family)) (sym c.self.view_is) c.requires in
    let few = few_together u family formed in
    let total = total_is u 0 b.scheme.families.items b.scheme.cells c.self.invariant.counted in
    omega (arith, few, total, c.count_tuples-cells.ensures.small)

pub add_all-requires : goal.add_all-requires
add_all-requires c =
    let b = c.self.inside in
    let u = universe_of b.scheme in
    let family = family_from c.args.name c.args.sorts.items c.args.result_sort in
    let formed = subst (λ v. IsWellFormedUniverse (more_families v family)) (sym c.self.view_is) c.requires in
    let place : c.len.result ≡ length u.families = omega (arith, c.len.ensures, length-map b.scheme.families.items family_of) in
    let keys : named_texts c.in_ok-keys.keys.items ≡ new_key u family = c.in_ok-keys.ensures ∙ ap (λ (k : ℕ). (c.args.name, named.Family (record { 0 = k })) ∷ []) place in
    let grown = table_grows u (more_families u family) b.names _ (family_adds u family) c.self.invariant.named formed.different in
    distinct_from _ (subst (λ k. AreDifferent (keys_of (b.names ++ k))) (sym keys) grown.different)

pub invariant_of-self-2 : goal.invariant_of-self-2
invariant_of-self-2 c =
    let b = c.self.inside in
    let u = universe_of b.scheme in
    let family = family_from c.args.name c.args.sorts.items c.args.result_sort in
    let formed = subst (λ v. IsWellFormedUniverse (more_families v family)) (sym c.self.view_is) c.requires in
    let place : c.len.result ≡ length u.families = omega (arith, c.len.ensures, length-map b.scheme.families.items family_of) in
    let keys : named_texts c.in_ok-keys.keys.items ≡ new_key u family = c.in_ok-keys.ensures ∙ ap (λ (k : ℕ). (c.args.name, named.Family (record { 0 = k })) ∷ []) place in
    let grown = table_grows u (more_families u family) b.names _ (family_adds u family) c.self.invariant.named formed.different in
    let table = c.in_ok-add_all.ensures.ok ∙ ap (λ k. b.names ++ k) keys in
    let tuples = c.count_tuples-cells.result in
    let declared : FamilyDecl = record { name = c.args.name; sorts = c.args.sorts; result_sort = c.args.result_sort; first = b.scheme.cells; cells = tuples } in
    let pushed : c.push.new.self.items ≡ b.scheme.families.items ++ declared ∷ [] = (rw c.unwrap.ensures at c.push.ensures.items) ∙ ap (λ xs. xs ++ declared ∷ []) c.in_ok-reserve.ensures.items in
    let universe = family_added b.scheme c.push.new.self declared (b.scheme.cells + tuples) pushed in
    let exact : tuples ≡ cells_in (more_families u family) family = c.count_tuples-cells.ensures.exact ∙ ap (λ ss. product (map (size_of u) ss)) c.deref.ensures.value in
    let counted = counts_push (more_families u family) 0 b.scheme.families.items b.scheme.cells declared (counts_same u family 0 b.scheme.families.items b.scheme.cells c.self.invariant.counted) refl exact in
    record {
      well_formed = subst IsWellFormedUniverse (sym universe) formed;
      counted = subst (λ v. AreCounted v 0 c.push.new.self.items (b.scheme.cells + tuples)) (sym universe) (subst (λ ds. AreCounted (more_families u family) 0 ds (b.scheme.cells + tuples)) (sym pushed) counted);
      named = subst (λ v. IsTableOf v c.add_all.new.self) (sym universe) (subst (IsTableOf (more_families u family)) (sym table) grown);
    }
