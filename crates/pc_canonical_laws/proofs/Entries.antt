-- The declarations of a book's entries give these entries.
use Rattle.std.proofs.Common.{◌≡◌, ◌≢◌, ℕ, ◌<◌, Bool, true, false, cond, not, ◌&&◌, List, [], ◌∷◌, ◌++◌, length, map, All, AllPairs, Option, None, Some, IsSomeAnd, arith, refl, sym, subst, ap, ap₂, ◌∙◌, filter}
use Rattle.std.specs.Prelude.{◌==◌}
use Rattle.std.specs.List.{list_any}
use Rattle.std.proofs.lemmas.Bool.{and_left, or_from, or_parts}
use Rattle.std.proofs.lemmas.List.{length-append}
use Rattle.std.proofs.lemmas.List.Elements.{All-contains, filter-append}
use Rattle.pc_sheet.specs.Sheet.{Universe, Family, NamedStatement, Sheet}
use Rattle.pc_sheet.specs.Sizes.{argument_sorts, result_sort_of, size_of}
use Rattle.pc_sheet.specs.Entailment.{AreWithin, cell_sizes}
use Rattle.pc_sheet.specs.WellFormed.{is_of_cell, entries_of, IsWellFormedUniverse, AreWellFormedRules, AreWellFormedEntries, IsEntryOf, IsWellFormed}
use Rattle.pc_sheet.specs.declared.ids.CellId.{CellId}
use Rattle.pc_sheet.specs.declared.ids.Entry.{Entry}
use Rattle.pc_books.specs.Edits.{added_to, agrees_with, entered_to, is_same_entry}
use Rattle.pc_books.proofs.EntryLemmas.{found_standing}
use Rattle.pc_elaborate.specs.Elaboration.{IsCell, IsEntryNamed}
use Rattle.pc_syntax.specs.Tree.{Declared}
use Rattle.pc_sortcheck.specs.Declaring.{Makes, Declares, DeclareAll}
use Rattle.pc_writer.specs.Spelling.{application_of, family_of, name_of, sort_of}
use Rattle.pc_writer.specs.SheetText.{is_later}
use Rattle.pc_writer.proofs.CellLemmas.{cell_is, cell_is_application, arguments_within, entered_cell, entered_value}
use Rattle.pc_canonical_laws.specs.Declarations.{written_cell, written_value, also_declaration, enter_declaration, entry_declaration, entry_declarations}
use Rattle.pc_canonical_laws.specs.Declared.{declared_in, without_entries}
use Rattle.pc_canonical_laws.proofs.Chain.{DeclareEach, behind_declared, numbered_alike}
use Rattle.pc_canonical_laws.proofs.Sublists.{kept_each, kept_pairs, kept_here, pairs_before, front_kept, one_more}
use Rattle.pc_canonical_laws.proofs.Numbered.{number_at}
use Rattle.pc_canonical_laws.proofs.Values.{value_stands, values_stand}

-- ---- the cell of an entry

name_found : (found : Option Family) (P : Family → Type 0) → IsSomeAnd found P → IsSomeAnd found (λ f. f.name ≡ name_of found)
name_found None P there = there
name_found (Some f) P there = refl

sorts_found : (found : Option Family) (P : Family → Type 0) → IsSomeAnd found P → IsSomeAnd found (λ f. f.sorts ≡ argument_sorts found)
sorts_found None P there = there
sorts_found (Some f) P there = refl

result_found : (found : Option Family) (P : Family → Type 0) → IsSomeAnd found P → IsSomeAnd found (λ f. f.result_sort ≡ result_sort_of found)
result_found None P there = there
result_found (Some f) P there = refl

module _ (u : Universe) where
  pub cell_stands : (c : CellId) → c.0 < length (cell_sizes u) → IsCell u (written_cell u c) c (sort_of u c)
  cell_stands c below =
      let Fits : Family → Type 0 = λ f. AreWithin (map (size_of u) f.sorts) (application_of u c).arguments in
      let there = cell_is_application u c below in
      record {
        family = (application_of u c).family;
        sorts = argument_sorts (family_of u c);
        arguments = (application_of u c).arguments;
        named = name_found (family_of u c) Fits there;
        takes = sorts_found (family_of u c) Fits there;
        given = values_stand u u.tables u.families (argument_sorts (family_of u c)) (application_of u c).arguments (arguments_within u c below);
        number = sym (number_at u c.0 (application_of u c) (cell_is u c below));
        gives = result_found (family_of u c) Fits there;
      }

  pub entry_stands : (e : Entry) → IsEntryOf u e → IsEntryNamed u (written_cell u e.cell) (written_value u (sort_of u e.cell) e.value) e
  entry_stands e is = record {
    sort = sort_of u e.cell;
    cell = cell_stands e.cell (entered_cell u e is);
    value = value_stands u (sort_of u e.cell) e.value (entered_value u e is (sort_of u e.cell) refl);
  }

-- ---- entries that are new

-- none of the cell stands
none_agrees : (e : Entry) (es : List Entry) → list_any (is_of_cell e.cell) es ≡ false → filter (agrees_with e) es ≡ es
none_agrees e [] none = refl
none_agrees e (f ∷ es) none =
    let parts = or_parts (is_of_cell e.cell f) (list_any (is_of_cell e.cell) es) none in
    ap₂ (λ (b : Bool) (fs : List Entry). cond (not (b && not (f.value.0 == e.value.0))) (f ∷ fs) fs) parts.0 (none_agrees e es parts.1)

none_same : (e : Entry) (es : List Entry) → list_any (is_of_cell e.cell) es ≡ false → list_any (is_same_entry e) es ≡ false
none_same e [] none = refl
none_same e (f ∷ es) none =
    let parts = or_parts (is_of_cell e.cell f) (list_any (is_of_cell e.cell) es) none in
    or_from (is_same_entry e f) (list_any (is_same_entry e) es) (and_left (f.cell.0 == e.cell.0) (f.value.0 == e.value.0) parts.0) (none_same e es parts.1)

first_entered : (e : Entry) (es : List Entry) → list_any (is_of_cell e.cell) es ≡ false → es ++ e ∷ [] ≡ entered_to es e
first_entered e es none =
    ap (λ b. cond b es (es ++ e ∷ [])) (sym (none_same e es none)) ∙ ap (λ fs. added_to fs e) (sym (none_agrees e es none))

later_added : (e : Entry) (es : List Entry) → All (λ f. f ≢ e) es → es ++ e ∷ [] ≡ added_to es e
later_added e es others = by (list_any (is_same_entry e) es) refl
  where
    by : (b : Bool) → list_any (is_same_entry e) es ≡ b → es ++ e ∷ [] ≡ cond b es (es ++ e ∷ [])
    by true stands = absurd (All-contains (λ f. f ≢ e) es e others (found_standing e es stands) refl)
    by false stands = refl

-- ---- one after another

module _ (u : Universe) (rules : List NamedStatement) (all : List Entry) (formed : IsWellFormedUniverse u) (rules_formed : AreWellFormedRules u rules) (entries : AreWellFormedEntries u all) where
  abbrev with_entries : List Entry → Sheet
  with_entries es = record { universe = u; rules = rules; entries = es }

  first_entries : (before after : List Entry) → all ≡ before ++ after → AreWellFormedEntries u before
  first_entries before after is = record {
    each = kept_each (IsEntryOf u) before all (front_kept all before after is) entries.each;
    distinct = kept_pairs (λ e f. e ≢ f) before all (front_kept all before after is) entries.distinct;
    few = λ c.
        let parts = ap (λ es. length (entries_of c es)) is ∙ ap length (filter-append (is_of_cell c) before after) ∙ length-append (entries_of c before) (entries_of c after) in
        let most = entries.few c in
        omega (arith, parts, most);
  }

  entry_made : (before : List Entry) (e : Entry) (after : List Entry) → all ≡ before ++ e ∷ after → Makes (with_entries before) (entry_declaration u before e) (with_entries (before ++ e ∷ []))
  entry_made before e after is = by (is_later before e) refl
    where
      stands : IsEntryNamed u (written_cell u e.cell) (written_value u (sort_of u e.cell) e.value) e
      stands = entry_stands u e (kept_here (IsEntryOf u) all before e after is entries.each)

      others : All (λ f. f ≢ e) before
      others = pairs_before (λ e f. e ≢ f) before e after (subst (λ es. AllPairs (λ e f. e ≢ f) es) is entries.distinct)

      by : (b : Bool) → is_later before e ≡ b → Makes (with_entries before) (cond b (also_declaration u e) (enter_declaration u e)) (with_entries (before ++ e ∷ []))
      by true later = (e, stands, ap with_entries (later_added e before others))
      by false first = (e, stands, ap with_entries (first_entered e before first))

  entry_declared : (before : List Entry) (e : Entry) (after : List Entry) → all ≡ before ++ e ∷ after → Declares (with_entries before) (entry_declaration u before e) (with_entries (before ++ e ∷ []))
  entry_declared before e after is = (
    entry_made before e after is,
    record { universe = formed; rules = rules_formed; entries = first_entries (before ++ e ∷ []) after (one_more all before e after is) },
  )

  pub entries_declared : DeclareEach (with_entries []) (entry_declarations u all) (with_entries all)
  entries_declared = behind_declared all (λ before after. with_entries before) (entry_declaration u) entry_declared all [] refl

pub entries_given : (s : Sheet) → IsWellFormed s → (ds : List (ℕ × Declared)) → map declared_in ds ≡ entry_declarations s.universe s.entries → DeclareAll (without_entries s) ds s
entries_given s formed ds are =
    numbered_alike (without_entries s) s (entry_declarations s.universe s.entries) ds are (entries_declared s.universe s.rules s.entries formed.universe formed.rules formed.entries)
