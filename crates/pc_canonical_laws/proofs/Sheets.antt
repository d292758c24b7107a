-- The canonical text of a sheet is read as its declarations.
use Rattle.std.proofs.Common.{◌≡◌, ℕ, Bool, true, false, cond, not, ◌||◌, List, [], ◌∷◌, ◌++◌, map, codes, slice_index_or, refl, subst, sym, ap, ◌∙◌}
use Rattle.std.proofs.lemmas.Bool.{or_left, or_right}
use Rattle.std.proofs.lemmas.List.{append_assoc, map-append}
use Rattle.std.proofs.lemmas.List.Elements.{All-get_or, Contains-append_right}
use Rattle.std.specs.List.{flat_map, AllByRecursion}
use Rattle.std.specs.Str.Lines.{lines}
use Rattle.pc_sheet.specs.Sheet.{Sheet, Universe, Values, listed, range, NamedStatement}
use Rattle.pc_sheet.specs.Sizes.{size_of}
use Rattle.pc_sheet.specs.Entailment.{AreWithin}
use Rattle.pc_sheet.specs.WellFormed.{AreWellFormedValues, IsWellFormedUniverse, IsWellFormedTable, IsWellFormedFamily, IsWellFormedRule, AreWellFormedRules, IsEntryOf, AreWellFormedEntries, IsWellFormed}
use Rattle.pc_sheet.specs.WellSorted.{names_of_values}
use Rattle.pc_sheet.specs.declared.ids.SortId.{SortId}
use Rattle.pc_sheet.specs.declared.ids.Entry.{Entry}
use Rattle.pc_syntax.specs.Tree.{Declared}
use Rattle.pc_syntax.specs.Line.{LineForm, heading, declares, begins}
use Rattle.pc_syntax.specs.Sheet.{may_stand, AreStanding, whole, IsSheet}
use Rattle.pc_writer.specs.Counted.{has_counting, rule_counts}
use Rattle.pc_writer.specs.SheetText.{sort_line, table_line, row_line, row_lines, family_line, rule_line, is_later, entry_line, entry_lines, has_several, needs_second, version, universe_lines, sheet_lines, sheet_text}
use Rattle.pc_writer.proofs.LaterEntries.{later_behind}
use Rattle.pc_canonical_laws.specs.Declarations.{values_declaration, sort_declaration, table_declaration, row_declaration, row_declarations, family_declaration, rule_declaration, also_declaration, enter_declaration, entry_declaration, entry_declarations, universe_declarations, declarations_of, numbered_declarations}
use Rattle.pc_canonical_laws.proofs.CountedTrees.{counts_alike}
use Rattle.pc_canonical_laws.proofs.Lines.{heading_reads_back, begin_reads_back, values_read_back, table_reads_back, row_reads_back, family_reads_back, rule_reads_back, entry_reads_back}
use Rattle.pc_canonical_laws.proofs.Spelled.{family_named, table_named, sort_named, in_sort}
use Rattle.pc_canonical_laws.proofs.Standing.{AreDeclared, declared_append, declared_unbroken, unbroken_append, declared_map, declared_each, declared_behind, declared_flat_map, all_append, all_map, all_flat_map, all_behind, IsBegun, IsOfUniverse, MayFollow, stand_before_rules, stand_anywhere, numbered_by_line, has_begin}
use Rattle.pc_canonical_laws.proofs.Unbroken.{AreUnbroken, lines_are}

-- ---- which declarations may stand where

values_of_universe : (n : List ℕ) (v : Values) → IsOfUniverse (values_declaration n v)
values_of_universe n (listed names) = refl
values_of_universe n (range low high) = refl

all_of_universe : (u : Universe) → AllByRecursion IsOfUniverse (universe_declarations u)
all_of_universe u =
    let rows = flat_map (row_declarations u) u.tables in
    let families = map (family_declaration u) u.families in
    let tables = map (table_declaration u) u.tables in
    all_append IsOfUniverse (map sort_declaration u.sorts) (tables ++ (rows ++ families)) (all_map IsOfUniverse sort_declaration u.sorts (λ s. values_of_universe s.name s.values))
    (all_append IsOfUniverse tables (rows ++ families) (all_map IsOfUniverse (table_declaration u) u.tables (λ t. refl))
    (all_append IsOfUniverse rows families (all_flat_map IsOfUniverse (row_declarations u) u.tables (λ t. all_map IsOfUniverse (row_declaration u t) t.rows (λ r. refl))) (all_map IsOfUniverse (family_declaration u) u.families (λ f. refl))))

-- a rule that counts makes the version the second one
module _ (u : Universe) (second : Bool) where
  rule_follows : (r : NamedStatement) → (rule_counts r ≡ true → second ≡ true) → MayFollow second (rule_declaration u r)
  rule_follows r needs = record { outside = refl; version = ap (λ b. not b || second) (counts_alike u [] r.states) ∙ by (rule_counts r) refl }
    where
      by : (b : Bool) → rule_counts r ≡ b → (not b || second) ≡ true
      by true is = needs is
      by false is = refl

  rules_follow : (rules : List NamedStatement) → (has_counting rules ≡ true → second ≡ true) → AllByRecursion (MayFollow second) (map (rule_declaration u) rules)
  rules_follow [] needs = tt
  rules_follow (r ∷ rules) needs = (
    rule_follows r (λ is. needs (or_left (rule_counts r) (has_counting rules) is)),
    rules_follow rules (λ is. needs (or_right (rule_counts r) (has_counting rules) is)),
  )

  -- and so does a later entry of a cell
  entry_follows : (older : List Entry) (e : Entry) (after : List Entry) → (has_several (older ++ e ∷ after) ≡ true → second ≡ true) → MayFollow second (entry_declaration u older e)
  entry_follows older e after needs = by (is_later older e) refl
    where
      by : (b : Bool) → is_later older e ≡ b → MayFollow second (cond b (also_declaration u e) (enter_declaration u e))
      by true later = record { outside = refl; version = needs (later_behind older e after later) }
      by false first = record { outside = refl; version = refl }

  entries_follow : (es : List Entry) → (has_several es ≡ true → second ≡ true) → AllByRecursion (MayFollow second) (entry_declarations u es)
  entries_follow es needs =
      all_behind (MayFollow second) (entry_declaration u) es (λ older e after is. entry_follows older e after (λ several. needs (ap has_several is ∙ several))) [] es refl

-- ---- each line of a well-formed sheet

module _ (u : Universe) (formed : IsWellFormedUniverse u) where
  sorts_declared : AreDeclared (map sort_line u.sorts) (map sort_declaration u.sorts)
  sorts_declared = declared_map (record { name = []; values = listed [] }) sort_line sort_declaration u.sorts (λ i below.
      let s = slice_index_or u.sorts i (record { name = []; values = listed [] }) in
      let id : SortId = record { 0 = i } in
      values_read_back s.name s.values (sort_named u formed id below) (All-get_or (λ sort. AreWellFormedValues sort.values) u.sorts i (record { name = []; values = listed [] }) below formed.sorts)
      (λ m there. in_sort u formed id m below (Contains-append_right (s.name ∷ []) (names_of_values s.values) m there)))

  tables_declared : AreDeclared (map (table_line u) u.tables) (map (table_declaration u) u.tables)
  tables_declared = declared_map (record { name = []; sorts = []; rows = [] }) (table_line u) (table_declaration u) u.tables (λ i below.
      table_reads_back u formed (slice_index_or u.tables i (record { name = []; sorts = []; rows = [] })) (table_named u formed (record { 0 = i }) below) (All-get_or (IsWellFormedTable u) u.tables i (record { name = []; sorts = []; rows = [] }) below formed.tables))

  rows_declared : AreDeclared (flat_map (row_lines u) u.tables) (flat_map (row_declarations u) u.tables)
  rows_declared = declared_flat_map (record { name = []; sorts = []; rows = [] }) (row_lines u) (row_declarations u) u.tables (λ i below.
      let t = slice_index_or u.tables i (record { name = []; sorts = []; rows = [] }) in
      let well : IsWellFormedTable u t = All-get_or (IsWellFormedTable u) u.tables i (record { name = []; sorts = []; rows = [] }) below formed.tables in
      declared_each (AreWithin (map (size_of u) t.sorts)) (row_line u t) (row_declaration u t) t.rows (λ vs within. row_reads_back u formed t vs (table_named u formed (record { 0 = i }) below) well.some_argument within) well.rows)

  families_declared : AreDeclared (map (family_line u) u.families) (map (family_declaration u) u.families)
  families_declared = declared_map (record { name = []; sorts = []; result_sort = record { 0 = 0 } }) (family_line u) (family_declaration u) u.families (λ i below.
      family_reads_back u formed (slice_index_or u.families i (record { name = []; sorts = []; result_sort = record { 0 = 0 } })) (family_named u formed (record { 0 = i }) below) (All-get_or (IsWellFormedFamily u) u.families i (record { name = []; sorts = []; result_sort = record { 0 = 0 } }) below formed.families))

  universe_declared : AreDeclared (universe_lines u) (universe_declarations u)
  universe_declared = declared_append _ _ _ _ sorts_declared (declared_append _ _ _ _ tables_declared (declared_append _ _ _ _ rows_declared families_declared))

  rules_declared : (rules : List NamedStatement) → AreWellFormedRules u rules → AreDeclared (map (rule_line u) rules) (map (rule_declaration u) rules)
  rules_declared rules well = declared_each (IsWellFormedRule u) (rule_line u) (rule_declaration u) rules (λ r each. rule_reads_back u r formed each) well.each

  entries_declared : (entries : List Entry) → AreWellFormedEntries u entries → AreDeclared (entry_lines u entries) (entry_declarations u entries)
  entries_declared entries well = declared_behind (IsEntryOf u) (entry_line u) (entry_declaration u) (entry_reads_back u formed) [] entries well.each

-- ---- the whole text

-- the forms of the lines of a sheet of this version
forms_of : ℕ → List Declared → List LineForm
forms_of n ds = heading n ∷ (map declares ds ++ begins ∷ [])

heading_stands : (b : Bool) → may_stand [] (heading (cond b 2 1)) ≡ true
heading_stands true = refl
heading_stands false = refl

begun : (b : Bool) → IsBegun b (heading (cond b 2 1) ∷ [])
begun true = record { begun = refl; version = refl }
begun false = record { begun = refl; version = refl }

part_forms : (first second third : List Declared) (end : List LineForm) → map declares first ++ (map declares second ++ (map declares third ++ end)) ≡ map declares (first ++ (second ++ third)) ++ end
part_forms first second third end = simp (map-append, append_assoc)

module _ (s : Sheet) (well : IsWellFormed s) where
  all_unbroken : AreUnbroken (sheet_lines s)
  all_unbroken =
      let u = s.universe in
      let rules = map (rule_line u) s.rules in
      let entries = entry_lines u s.entries in (
        (heading_reads_back s).whole,
        unbroken_append (universe_lines u) (rules ++ (entries ++ codes "begin" ∷ [])) (declared_unbroken _ _ (universe_declared u well.universe))
            (unbroken_append rules (entries ++ codes "begin" ∷ []) (declared_unbroken _ _ (rules_declared u well.universe s.rules well.rules))
            (unbroken_append entries (codes "begin" ∷ []) (declared_unbroken _ _ (entries_declared u well.universe s.entries well.entries)) (begin_reads_back.whole, tt))),
      )

  all_stand : AreStanding [] (sheet_lines s) (forms_of (version s) (declarations_of s))
  unfolding forms_of
  all_stand =
      let u = s.universe in
      let second = needs_second s in
      let first = heading (version s) in
      let rules = map (rule_declaration u) s.rules in
      let entries = entry_declarations u s.entries in
      let behind_entries : (before : List LineForm) → IsBegun second before → AreStanding before (codes "begin" ∷ []) (begins ∷ []) = λ before is. (begin_reads_back.is, is.begun, tt) in
      let behind_rules = λ (before : List LineForm) (is : IsBegun second before). stand_anywhere second _ _ (entries_declared u well.universe s.entries well.entries) (entries_follow u second s.entries (or_left (has_several s.entries) (has_counting s.rules))) before is _ _ behind_entries in
      let behind_universe = λ (before : List LineForm) (is : IsBegun second before). stand_anywhere second _ _ (rules_declared u well.universe s.rules well.rules) (rules_follow u second s.rules (or_right (has_several s.entries) (has_counting s.rules))) before is _ _ behind_rules in
      let standing = stand_before_rules second _ _ (universe_declared u well.universe) (all_of_universe u) (first ∷ []) (begun second) refl _ _ behind_universe in
      ((heading_reads_back s).is, heading_stands second, subst (AreStanding (first ∷ []) _) (part_forms (universe_declarations u) rules entries (begins ∷ [])) standing)

  pub sheet_reads_back : IsSheet (sheet_text s) (numbered_declarations s)
  unfolding forms_of
  sheet_reads_back =
      let ds = declarations_of s in
      let n = version s in
      let forms = forms_of n ds in
      let standing : AreStanding [] (lines (sheet_text s)) forms = subst (λ ls. AreStanding [] ls forms) (sym (lines_are (sheet_lines s) all_unbroken)) all_stand in
      subst (λ l. IsSheet (sheet_text s) l) (numbered_by_line ds 2) (whole forms standing (has_begin (heading n ∷ map declares ds)))
