-- What the lines of a table and of its rows declare.
use Rattle.std.proofs.Common.{◌≡◌, inl, inr, ℕ, zero, suc, ◌<◌, List, [], ◌∷◌, Option, None, Some, slice_get, IsSomeAnd, length, map, arith, ap, ◌∙◌, sym, subst, refl}
use Rattle.pc_name.specs.Names.{IsName}
use Rattle.pc_syntax.specs.Tree as tree
use Rattle.pc_sheet.specs.Sheet.{Sheet, Universe, Table}
use Rattle.pc_sheet.specs.Sizes.{size_of}
use Rattle.pc_sheet.specs.Entailment.{AreWithin}
use Rattle.pc_sheet.specs.WellFormed.{IsWellFormed}
use Rattle.pc_sheet.specs.declared.ids.SortId.{SortId}
use Rattle.pc_sheet.specs.declared.ids.TableId.{TableId}
use Rattle.pc_sheet.specs.declared.ids.ValueId.{ValueId}
use Rattle.pc_books.specs.Edits.{table_from, with_table, with_row}
use Rattle.pc_elaborate.specs.declared.fault.SortFault.TheVariants.{Limit}
use Rattle.pc_sheet.specs.declared.limits.Limited.TheVariants.{Rows}
use Rattle.pc_elaborate.specs.Elaboration.{IsTableNamed, AreValuesOf}
use Rattle.pc_elaborate.proofs.Values.{value_below, as_many_values}
use Rattle.pc_sortcheck.specs.Declaring.{Declares, AreSortsNamed}
use Rattle.pc_sortcheck.specs.DeclarationFaults.{IsDeclarationFault, HasRoomForRow}
use Rattle.pc_sortcheck.specs.inside.Fits.{TableFits, AreRowOf}
use Rattle.pc_sortcheck.proofs.FoundSorts.{as_many_sorts, sorts_declared}
use Rattle.pc_sortcheck.proofs.WithTable.{with_one_table}
use Rattle.pc_sortcheck.proofs.WithRow.{with_one_row}

-- ---- a table

module _ (s : Sheet) (n : List ℕ) (names : List (List ℕ)) (ss : List SortId) (named : AreSortsNamed s.universe names ss) where
  pub table_formed : (m : List ℕ) → m ≡ n → IsWellFormed s → s.rules ≡ [] → IsName n → TableFits s n names → IsWellFormed (with_table s (table_from m ss))
  table_formed m p h none name fits =
      let long = as_many_sorts s.universe names ss named in
      let formed = with_one_table s n ss h none name (record { fresh = fits.fresh; tables = fits.tables; some = omega (arith, long, fits.some); limit = omega (arith, long, fits.limit) }) (sorts_declared s.universe names ss named) in
      subst IsWellFormed (sym (ap (λ (a : List ℕ). with_table s (table_from a ss)) p)) formed

  pub table_declared : (new : Sheet) (m : List ℕ) → m ≡ n → new ≡ with_table s (table_from m ss) → IsWellFormed (with_table s (table_from m ss)) → Declares s (tree.table n names) new
  table_declared new m p is h = ((ss, named, is ∙ ap (λ (a : List ℕ). with_table s (table_from a ss)) p), subst IsWellFormed (sym is) h)

-- ---- a row

module _ (u : Universe) where
  values_within : (ss : List SortId) (xs : List tree.Value) (vs : List ValueId) → AreValuesOf u ss xs vs → AreWithin (map (size_of u) ss) vs
  values_within [] [] [] h = tt
  values_within [] [] (v ∷ vs) h = absurd h
  values_within [] (x ∷ xs) vs h = absurd h
  values_within (s ∷ ss) [] vs h = absurd h
  values_within (s ∷ ss) (x ∷ xs) [] h = absurd h
  values_within (s ∷ ss) (x ∷ xs) (v ∷ vs) h = (value_below u s x v h.0, values_within ss xs vs h.1)

  row_within : (t : TableId) (values : List tree.Value) (vs : List ValueId) → AreRowOf u t values vs → IsSomeAnd (slice_get u.tables t.0) (λ d. AreWithin (map (size_of u) d.sorts) vs)
  row_within t values vs h = by (slice_get u.tables t.0) h.1
    where
      by : (o : Option Table) → IsSomeAnd o (λ d. d.sorts ≡ h.0) → IsSomeAnd o (λ d. AreWithin (map (size_of u) d.sorts) vs)
      by None k = k
      by (Some d) k = subst (λ ss. AreWithin (map (size_of u) ss) vs) (sym k) (values_within h.0 values vs h.2)

table_below : (ts : List Table) (k : ℕ) (n : List ℕ) → IsSomeAnd (slice_get ts k) (λ d. d.name ≡ n) → k < length ts
table_below [] k n h = absurd h
table_below (t ∷ ts) zero n h = omega arith
table_below (t ∷ ts) (suc k) n h = let r = table_below ts k n h in omega (arith, r)

pub named_table : (u : Universe) (n : List ℕ) (t : TableId) → IsTableNamed u n t → t.0 < length u.tables
named_table u n t h = table_below u.tables t.0 n h

module _ (s : Sheet) (n : List ℕ) (values : List tree.Value) (t : TableId) (named : IsTableNamed s.universe n t) where
  pub row_formed : (vs : List ValueId) → IsWellFormed s → s.rules ≡ [] → AreRowOf s.universe t values vs → HasRoomForRow s.universe t vs → IsWellFormed (with_row s t vs)
  row_formed vs h none row room = with_one_row s t vs h none (named_table s.universe n t named) (row_within s.universe t values vs row) room

  pub row_declared : (new : Sheet) (vs : List ValueId) → AreRowOf s.universe t values vs → new ≡ with_row s t vs → IsWellFormed (with_row s t vs) → Declares s (tree.row n values) new
  row_declared new vs row is h = ((t, row.0, vs, (named, row.1), row.2, is), subst IsWellFormed (sym is) h)

  pub no_room : (vs : List ValueId) → AreRowOf s.universe t values vs → ¬ HasRoomForRow s.universe t vs → IsDeclarationFault s (tree.row n values) (Limit Rows)
  no_room vs row full = inr ((t, named), (t, row.0, (named, row.1), inr (as_many_values s.universe row.0 values vs row.2, inr ((vs, row.2), (vs, row.2, inl (full, refl))))))
