-- Trimmed lines make accepted certificates.
use Rattle.std.proofs.Common.{◌≡◌, inl, inr, ℕ, zero, suc, ◌+◌, ◌-◌, ◌<◌, ◌^◌, List, [], ◌∷◌, ◌++◌, map, length, get_or, Contains, refl, ap, sym, ◌∙◌, subst, arith}
use Rattle.std.proofs.lemmas.List.{length-map, get_or-map}
use Rattle.std.proofs.lemmas.List.Elements.{All-contains, Contains-append_left, Contains-append_right, All-contains_itself}
use Rattle.pc_lits.specs.declared.literal.Lit.{Lit}
use Rattle.pc_lemmas.proofs.Elements.{contains_first, contains_map, contains_mapped}
use Rattle.pc_laws.proofs.Contained.{all_contained, sub_contained}
use Rattle.pc_log.specs.Lines.{LogLine}
use Rattle.pc_log.specs.Trimmed.{IsTrimmed}
use Rattle.pc_log.specs.Derivations.{clause_of_line, IsDerivation}
use Rattle.pc_log.specs.Laws.{TrimmingKeepsDerivations}
use Rattle.pc_sheet.specs.Sheet.{Sheet}
use Rattle.pc_sheet.specs.Entailment.{IsAssignment, Fits, HasAll}
use Rattle.pc_sheet.specs.WellFormed.{IsEntryOf}
use Rattle.pc_sheet.specs.declared.ids.ValueId.{ValueId}
use Rattle.pc_sheet.specs.declared.ids.Entry.{Entry}
use Rattle.pc_sheet.specs.declared.ids.Target.{Target}
use Rattle.pc_accept.specs.Literals.{Literal}
use Rattle.pc_accept.specs.Axioms.{negated_entry}
use Rattle.pc_accept.specs.Accepts.{DerivesBeside, literal_of_target, value_of_entry, AreInCellOrder, AreShown, FitsOthers, Accepts}
use Rattle.pc_ground.specs.Ground.{clauses, lit_of}
use Rattle.pc_ground.specs.Naming.{names_of}
use Rattle.pc_ground.specs.Laws.{ClausesAreOfAxioms, SymbolsAreVariables, VariablesHaveTheirPlaces, PairsAreVariables}
use Rattle.pc_reason.specs.Derivation.{literal_named, line_named, AreLinesNamedBeside, entries_from}
use Rattle.pc_reason.specs.Reasons.{Justification, certificate_of}
use Rattle.pc_reason.specs.Targets.{IsTargetIn}
use Rattle.pc_reason.specs.Refutations.{certificate_against}
use Rattle.pc_reason.specs.Written.{AcceptedReasonsAreWritable, AcceptedRefutationsAreWritable, DerivedLinesAreWritable}
use Rattle.pc_justify_laws.specs.Found.{clause_at_place, IsDerivedBeside, AreBlocksNamed, IsOfTarget}
use Rattle.pc_justify_laws.specs.Laws.{clauses_named, TrimmedLinesJustify, TrimmedLinesRefute, TrimmedLinesDeriveBeside, TrimmedLinesAreAgainst}
use Rattle.pc_justify_laws.proofs.Named.{literal_back, no_blocks, named_derivation}
use Rattle.pc_justify_laws.proofs.Moved.{trimmed_named, trimmed_blocks, some_lines, last_clause, no_longer}

-- ---- an assignment, cell by cell

values_back : (c : ℕ) (vs : List ValueId) → map value_of_entry (entries_from c vs) ≡ vs
values_back c [] = refl
values_back c (v ∷ vs) = ap (λ ws. v ∷ ws) (values_back (c + 1) vs)

cell_at : (c : ℕ) (vs : List ValueId) (k : ℕ) (d : Entry) → k < length (entries_from c vs) → (get_or (entries_from c vs) k d).cell.0 ≡ c + k
cell_at c [] k d below = absurd (omega arith)
cell_at c (v ∷ vs) zero d below = omega arith
cell_at c (v ∷ vs) (suc k) d below = omega (arith, cell_at (c + 1) vs k d (omega arith))

in_cell_order : (vs : List ValueId) → AreInCellOrder (entries_from 0 vs)
in_cell_order vs = record { cells = λ k d below. omega (arith, cell_at 0 vs k d below) }

-- ---- the derivation

module _ (of_axioms : ClausesAreOfAxioms) (symbols : SymbolsAreVariables) (places : VariablesHaveTheirPlaces) (trims : TrimmingKeepsDerivations)
    (sheet : Sheet) (blocks : List (List Literal)) (log lines : List LogLine) (last : ℕ) (found : IsDerivedBeside sheet (length blocks) log last) (trimmed : IsTrimmed log last [] lines) where
  abbrev name : Lit → Literal
  name = literal_named (names_of sheet)

  abbrev found_clause : List Lit
  found_clause = clause_at_place (clauses sheet) log last

  pub are_named : AreLinesNamedBeside (length blocks) (names_of sheet) lines
  are_named = trimmed_named log lines last trimmed (length blocks) (names_of sheet) found.named

  derived : IsDerivation (clauses sheet) lines
  derived = trims (clauses sheet) log last [] lines found.stands found.derivation (record { good = λ i line at. absurd (cc); earlier = λ i line at. absurd (cc) }) trimmed

  ends : get_or (clauses_named sheet lines) (length (clauses_named sheet lines) - 1) [] ≡ map name found_clause
  ends =
      let own = map (clause_of_line (clauses sheet)) lines in
      let many : length (clauses_named sheet lines) ≡ length lines = length-map own (map name) ∙ length-map lines (clause_of_line (clauses sheet)) in
      let some = some_lines log lines last trimmed in
      ap (λ n. get_or (clauses_named sheet lines) (n - 1) []) many
      ∙ get_or-map (map name) own (length lines - 1) [] [] (omega (arith, some, length-map lines (clause_of_line (clauses sheet))))
      ∙ ap (map name) (last_clause log lines last trimmed (clauses sheet) found.stands)

  -- the lines derive a clause of these literals, where each of the line's clause is one by name
  pub derives : AreBlocksNamed sheet blocks lines → (allowed : List Literal) → ((m : Lit) → Contains found_clause m → Contains allowed (name m)) → DerivesBeside sheet blocks (map (line_named (names_of sheet)) lines) allowed
  derives are allowed within = record {
    clauses = clauses_named sheet lines;
    derivation = named_derivation of_axioms symbols places sheet blocks lines derived are_named are;
    ends = record {
      some_line = omega (arith, some_lines log lines last trimmed, length-map (map (clause_of_line (clauses sheet)) lines) (map name), length-map lines (clause_of_line (clauses sheet)));
      within = λ l has. let m = contains_mapped name found_clause l (subst (λ c. Contains c l) ends has) in subst (Contains allowed) m.2 (within m.0 m.1);
    };
  }

  -- no number of theirs is too long
  pub few_lines : length log < 10 ^ 18 → length (map (line_named (names_of sheet)) lines) < 10 ^ 18
  few_lines few = omega (arith, few, no_longer log lines last trimmed, length-map lines (line_named (names_of sheet)))

-- ---- a target

module _ (places : VariablesHaveTheirPlaces) (pairs : PairsAreVariables) (sheet : Sheet) (t : Target) (support : List Entry) (is_target : IsTargetIn sheet.universe t)
    (entries : (e : Entry) → Contains support e → IsEntryOf sheet.universe e) where
  abbrev allowed_for : List Literal
  allowed_for = map negated_entry support ++ literal_of_target t ∷ []

  target_allowed : (m : Lit) → m ≡ lit_of sheet (literal_of_target t) → Contains allowed_for (literal_named (names_of sheet) m)
  target_allowed m is =
      let back = literal_back sheet (places sheet) (literal_of_target t) (pairs sheet t.cell t.value is_target) in
      subst (Contains allowed_for) (sym (ap (literal_named (names_of sheet)) is ∙ back))
      (Contains-append_right (map negated_entry support) (literal_of_target t ∷ []) (literal_of_target t) (contains_first (literal_of_target t) []))

  entry_allowed : (m : Lit) (e : Entry) → Contains support e → m ≡ lit_of sheet (negated_entry e) → Contains allowed_for (literal_named (names_of sheet) m)
  entry_allowed m e has is =
      let back = literal_back sheet (places sheet) (negated_entry e) (pairs sheet e.cell e.value (entries e has)) in
      subst (Contains allowed_for) (sym (ap (literal_named (names_of sheet)) is ∙ back))
      (Contains-append_left (map negated_entry support) (literal_of_target t ∷ []) (negated_entry e) (contains_map negated_entry support e has))

  pub allowed : (clause : List Lit) → IsOfTarget sheet support t clause → (m : Lit) → Contains clause m → Contains allowed_for (literal_named (names_of sheet) m)
  allowed clause of m has = elim (of m has) [ inl is ↦ target_allowed m is | inr e ↦ entry_allowed m e.0 e.1 e.2 ]

pub trimmed_lines_justify : ClausesAreOfAxioms → SymbolsAreVariables → PairsAreVariables → VariablesHaveTheirPlaces → TrimmingKeepsDerivations → AcceptedReasonsAreWritable → TrimmedLinesJustify
trimmed_lines_justify of_axioms symbols pairs places trims writable sheet t support shown log lines last formed names is_target least shows few found of trimmed =
    let among : (e : Entry) → Contains support e → Contains sheet.entries e = sub_contained sheet.entries support least.supports.among in
    let entries : (e : Entry) → Contains support e → IsEntryOf sheet.universe e = λ e has. All-contains (IsEntryOf sheet.universe) sheet.entries e formed.entries.each (among e has) in
    let back : map value_of_entry (entries_from 0 shown) ≡ shown = values_back 0 shown in
    let j : Justification = record { support = support; shown = shown; lines = lines } in
    let named = are_named of_axioms symbols places trims sheet [] log lines last found trimmed in
    let accepted : Accepts sheet (certificate_of (names_of sheet) t j) = record {
      shown = record {
        entered = all_contained (Contains sheet.entries) support sheet.entries among (All-contains_itself sheet.entries);
        in_order = in_cell_order shown;
        assigns = subst (IsAssignment sheet.universe) (sym back) shows.assigns;
        has = subst (λ a. HasAll a support) (sym back) shows.has;
        fits = subst (Fits sheet) (sym back) shows.fits;
      };
      derives = derives of_axioms symbols places trims sheet [] log lines last found trimmed (no_blocks sheet lines named) (map negated_entry support ++ literal_of_target t ∷ [])
          (allowed places pairs sheet t support is_target entries (clause_at_place (clauses sheet) log last) of);
    } in
    record {
      least = least;
      named = named;
      accepted = accepted;
      written = writable sheet (names_of sheet) t j formed names is_target named (omega (arith, few, no_longer log lines last trimmed)) accepted;
    }

no_literal : (m : Lit) → Contains [] m → ⊥
no_literal m has = omega (arith, has.1)

pub trimmed_lines_refute : ClausesAreOfAxioms → SymbolsAreVariables → VariablesHaveTheirPlaces → TrimmingKeepsDerivations → AcceptedRefutationsAreWritable → TrimmedLinesRefute
trimmed_lines_refute of_axioms symbols places trims writable sheet log lines last names few found empty trimmed =
    let named = are_named of_axioms symbols places trims sheet [] log lines last found trimmed in
    let accepted : Accepts sheet (certificate_against (names_of sheet) lines) = record {
      no_uses = refl;
      no_values = refl;
      derives = derives of_axioms symbols places trims sheet [] log lines last found trimmed (no_blocks sheet lines named) [] (λ m has. absurd (no_literal m (subst (λ c. Contains c m) empty has)));
    } in
    (named, accepted, writable sheet (names_of sheet) lines names named (omega (arith, few, no_longer log lines last trimmed)) accepted)

-- ---- beside given sets

pub trimmed_lines_derive_beside : ClausesAreOfAxioms → SymbolsAreVariables → VariablesHaveTheirPlaces → TrimmingKeepsDerivations → DerivedLinesAreWritable → TrimmedLinesDeriveBeside
trimmed_lines_derive_beside of_axioms symbols places trims writable sheet blocks log lines last names few found are empty trimmed =
    let named = are_named of_axioms symbols places trims sheet blocks log lines last found trimmed in
    let derived =
    derives of_axioms symbols places trims sheet blocks log lines last found trimmed (trimmed_blocks log lines last trimmed sheet blocks are) []
    (λ m has. absurd (no_literal m (subst (λ c. Contains c m) empty has)))
    in
    record {
      named = named;
      derives = derived;
      written = writable sheet (names_of sheet) blocks lines [] names named derived;
      few = few_lines of_axioms symbols places trims sheet blocks log lines last found trimmed few;
    }

-- ---- against a rule

pub trimmed_lines_are_against : ClausesAreOfAxioms → SymbolsAreVariables → PairsAreVariables → VariablesHaveTheirPlaces → TrimmingKeepsDerivations → DerivedLinesAreWritable → TrimmedLinesAreAgainst
trimmed_lines_are_against of_axioms symbols pairs places trims writable sheet r support shown log lines last formed names rule among shows few found of trimmed =
    let within : (e : Entry) → Contains support e → Contains sheet.entries e = sub_contained sheet.entries support among in
    let entries : (e : Entry) → Contains support e → IsEntryOf sheet.universe e = λ e has. All-contains (IsEntryOf sheet.universe) sheet.entries e formed.entries.each (within e has) in
    let back : map value_of_entry (entries_from 0 shown) ≡ shown = values_back 0 shown in
    let named = are_named of_axioms symbols places trims sheet [] log lines last found trimmed in
    let by_name : (e : Entry) → Contains support e → literal_named (names_of sheet) (lit_of sheet (negated_entry e)) ≡ negated_entry e =
    λ e has. literal_back sheet (places sheet) (negated_entry e) (pairs sheet e.cell e.value (entries e has))
    in
    let derived =
    derives of_axioms symbols places trims sheet [] log lines last found trimmed (no_blocks sheet lines named) (map negated_entry support)
    (λ m has. (
    let e = of m has in
    subst (Contains (map negated_entry support)) (sym (ap (literal_named (names_of sheet)) e.2 ∙ by_name e.0 e.1)) (contains_map negated_entry support e.0 e.1)
    ))
    in
    let is_shown : AreShown sheet (FitsOthers sheet r) support (entries_from 0 shown) = record {
      entered = all_contained (Contains sheet.entries) support sheet.entries within (All-contains_itself sheet.entries);
      in_order = in_cell_order shown;
      assigns = subst (IsAssignment sheet.universe) (sym back) shows.assigns;
      has = subst (λ a. HasAll a support) (sym back) shows.has;
      fits = subst (FitsOthers sheet r) (sym back) shows.fits;
    } in
    record {
      named = named;
      accepted = record { rule = rule; shown = is_shown; derives = derived };
      written = writable sheet (names_of sheet) [] lines (map negated_entry support) names named derived;
      few = few_lines of_axioms symbols places trims sheet [] log lines last found trimmed few;
    }
