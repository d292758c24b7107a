-- Trimmed lines are those on which the last line rests, moved.
use Rattle.std.proofs.Common.{◌≡◌, ℕ, zero, suc, ◌-◌, ◌<◌, ◌≤◌, inl, inr, List, [], Some, map, length, get_or, slice_get, All, Contains, refl, ap, sym, ◌∙◌, subst, arith}
use Rattle.std.proofs.lemmas.List.{length-map, get_or-map}
use Rattle.std.proofs.lemmas.List.Elements.{All-contains}
use Rattle.std.proofs.lemmas.Option.{slice_get-get_or, get_or_from_slice_get, slice_get_within}
use Rattle.std.proofs.lemmas.Bool.{cases_lt}
use Rattle.pc_lits.specs.declared.literal.Var.{Var}
use Rattle.pc_lits.specs.declared.literal.Lit.{Lit}
use Rattle.pc_log.specs.Lines.{LogLine, AxiomLine, BlockLine, StepLine}
use Rattle.pc_log.specs.Rests.{Rests, on_itself}
use Rattle.pc_log.specs.Trimmed.{moved, IsTrimmed}
use Rattle.pc_log.specs.Derivations.{clause_of_line, IsDerivation}
use Rattle.pc_sheet.specs.Sheet.{Sheet}
use Rattle.pc_axiom_names.specs.Listed.{NameLists}
use Rattle.pc_ground.specs.Variables.{variable_count}
use Rattle.pc_ground.specs.Ground.{axioms, clauses}
use Rattle.pc_ground.specs.Ground as ground
use Rattle.pc_ground.specs.Naming.{name_of, names_of}
use Rattle.pc_ground.specs.Laws.{VariablesHaveTheirPlaces}
use Rattle.pc_accept.specs.Literals.{Literal}
use Rattle.pc_reason.specs.Derivation.{IsLineNamedBeside, AreLinesNamedBeside}
use Rattle.pc_justify_laws.specs.Found.{clause_at_place, RestsOnNamedBeside, AreBlocksNamed, HasBlocksBelow, StepsAreOver}
use Rattle.pc_justify_laws.specs.Laws.{OwnLinesAreNamed, OwnLinesAreNamedBeside}

-- names and clauses don't depend on where a line stands
moved_named : (sets : ℕ) (names : NameLists) (to : ℕ → ℕ) (line : LogLine) → IsLineNamedBeside sets names line → IsLineNamedBeside sets names (moved to line)
moved_named sets names to (AxiomLine n) named = named
moved_named sets names to (BlockLine n c) named = named
moved_named sets names to (StepLine c hints learned) named = named

-- a moved line is a block where it was one
moved_block : (to : ℕ → ℕ) (line : LogLine) (n : ℕ) (c : List Lit) → moved to line ≡ BlockLine n c → line ≡ BlockLine n c
moved_block to (AxiomLine m) n c is = absurd (cc)
moved_block to (BlockLine m d) n c is = is
moved_block to (StepLine d hints learned) n c is = absurd (cc)

moved_clause : (given : List (List Lit)) (to : ℕ → ℕ) (line : LogLine) → clause_of_line given (moved to line) ≡ clause_of_line given line
moved_clause given to (AxiomLine n) = refl
moved_clause given to (BlockLine n c) = refl
moved_clause given to (StepLine c hints learned) = refl

module _ (log lines : List LogLine) (last : ℕ) (trimmed : IsTrimmed log last [] lines) where
  -- what stands at this place, moved, was a line on which the last one rests
  moved_from : (p : ℕ) → p < length lines → (i : ℕ) × (line : LogLine) × Rests log last i × (slice_get log i ≡ Some line) × (slice_get lines p ≡ Some (moved trimmed.to line))
  moved_from p below =
      let from = trimmed.only p (omega arith) below in
      let line : LogLine = get_or log from.0 (AxiomLine 0) in
      let at : slice_get log from.0 ≡ Some line = slice_get-get_or log from.0 (AxiomLine 0) from.1 in
      (from.0, line, from.2, at, subst (λ (n : ℕ). slice_get lines n ≡ Some (moved trimmed.to line)) from.3 (trimmed.stands from.0 line from.2 at))

  pub trimmed_named : (sets : ℕ) (names : NameLists) → RestsOnNamedBeside sets names log last → AreLinesNamedBeside sets names lines
  trimmed_named sets names named p d below =
      let from = moved_from p below in
      subst (IsLineNamedBeside sets names) (sym (get_or_from_slice_get lines p (moved trimmed.to from.1) d from.4)) (moved_named sets names trimmed.to from.1 (named from.0 from.1 from.2 from.3))

  -- a block among them was one in the log
  block_before : (p n : ℕ) (c : List Lit) → slice_get lines p ≡ Some (BlockLine n c) → (i : ℕ) × (slice_get log i ≡ Some (BlockLine n c))
  block_before p n c at =
      let from = moved_from p (slice_get_within lines p (BlockLine n c) at) in
      let is : moved trimmed.to from.1 ≡ BlockLine n c = cc in
      (from.0, from.3 ∙ ap Some (moved_block trimmed.to from.1 n c is))

  pub trimmed_blocks : (sheet : Sheet) (blocks : List (List Literal)) → AreBlocksNamed sheet blocks log → AreBlocksNamed sheet blocks lines
  trimmed_blocks sheet blocks are = record {
    given = λ p n c at. (let was = block_before p n c at in are.given was.0 n c was.1);
    over = λ p n c at. (let was = block_before p n c at in are.over was.0 n c was.1);
  }

  -- there is a last line, and it has the clause of the line that was trimmed
  pub some_lines : 0 < length lines
  some_lines = omega (arith, trimmed.ends)

  pub last_clause : (given : List (List Lit)) → last < length log → get_or (map (clause_of_line given) lines) (length lines - 1) [] ≡ clause_at_place given log last
  last_clause given stands =
      let line : LogLine = get_or log last (AxiomLine 0) in
      let at : slice_get log last ≡ Some line = slice_get-get_or log last (AxiomLine 0) stands in
      let there : slice_get lines (trimmed.to last) ≡ Some (moved trimmed.to line) = trimmed.stands last line on_itself at in
      let end : length lines - 1 ≡ trimmed.to last = omega (arith, trimmed.ends) in
      let is_last : get_or lines (length lines - 1) (AxiomLine 0) ≡ moved trimmed.to line =
      ap (λ n. get_or lines n (AxiomLine 0)) end ∙ get_or_from_slice_get lines (trimmed.to last) (moved trimmed.to line) (AxiomLine 0) there in
      get_or-map (clause_of_line given) lines (length lines - 1) (AxiomLine 0) [] (omega (arith, trimmed.ends))
      ∙ ap (clause_of_line given) is_last ∙ moved_clause given trimmed.to line ∙ sym (get_or-map (clause_of_line given) log last (AxiomLine 0) [] stands)

  -- where the line at this place was
  from : (p : ℕ) → p < length lines → (i : ℕ) × (i < length log) × Rests log last i × (trimmed.to i ≡ p)
  from p below = trimmed.only p (omega arith) below

  rises : (p : ℕ) (below : p < length lines) (next : suc p < length lines) → (from p below).0 < (from (suc p) next).0
  rises p below next =
      let f = from p below in
      let g = from (suc p) next in
      elim (cases_lt f.0 g.0) [
        | inl less ↦ less
        | inr not_less ↦ elim (cases_lt g.0 f.0) [
          | inl more ↦ absurd (omega (arith, trimmed.ordered g.0 f.0 g.2 f.2 more, f.3, g.3))
          | inr neither ↦ let same : f.0 ≡ g.0 = omega arith in absurd (omega (arith, ap trimmed.to same, f.3, g.3))
        ]
      ]

  -- it stood no earlier
  stood : (p : ℕ) (below : p < length lines) → p ≤ (from p below).0
  stood zero below = omega arith
  stood (suc p) below =
      let earlier : p < length lines = omega arith in
      omega (arith, stood p earlier, rises p earlier below)

  -- there are no more lines than in the log
  pub no_longer : length lines ≤ length log
  no_longer =
      let end : length lines - 1 < length lines = omega (arith, trimmed.ends) in
      omega (arith, stood (length lines - 1) end, (from (length lines - 1) end).1, end)

-- ---- the log of a solver

module _ (places : VariablesHaveTheirPlaces) (sheet : Sheet) (sets : ℕ) (own : List Var) (log : List LogLine) (derived : IsDerivation (clauses sheet) log) (below_sets : HasBlocksBelow sets log)
    (few : All (λ v. v.0 < variable_count sheet) own) (over : StepsAreOver own log) where
  own_named : (i : ℕ) (line : LogLine) → slice_get log i ≡ Some line → IsLineNamedBeside sets (names_of sheet) line
  own_named i (AxiomLine n) at =
      let below : n < length (clauses sheet) = derived.good i (AxiomLine n) at in
      omega (arith, below, length-map (axioms sheet) (ground.clause_of_axiom sheet), length-map (axioms sheet) name_of)
  own_named i (BlockLine n c) at = below_sets i n c at
  own_named i (StepLine c hints learned) at = λ k d below.
      let has : Contains own (get_or c k d).variable = over i c hints learned at k d below in
      let small : (get_or c k d).variable.0 < variable_count sheet = All-contains (λ (v : Var). v.0 < variable_count sheet) own (get_or c k d).variable few has in
      omega (arith, small, (places sheet).count)

pub own_lines_are_named_beside : VariablesHaveTheirPlaces → OwnLinesAreNamedBeside
own_lines_are_named_beside places sheet sets own log last derived below_sets few over i line rests at = own_named places sheet sets own log derived below_sets few over i line at

pub own_lines_are_named : VariablesHaveTheirPlaces → OwnLinesAreNamed
own_lines_are_named places sheet own log last derived no_block few over i line rests at = own_named places sheet 0 own log derived (λ j n c is. absurd (no_block j n c is)) few over i line at
