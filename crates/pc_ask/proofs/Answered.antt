-- What is found over an asked sheet is its answer.
use Rattle.std.proofs.Common.{◌≡◌, ◌↔◌, ℕ, ◌≤◌, ◌+◌, ◌*◌, ◌<◌, ◌^◌, List, [], filter, length, Option, None, Some, slice_get, All, Contains, arith, ap, sym, ◌∙◌, subst}
use Rattle.std.specs.List.{AllZip}
use Rattle.std.proofs.Math.Nat.{mul-le-mul_right}
use Rattle.std.proofs.lemmas.List.Elements.{All-contains, All-filter}
use Rattle.pc_laws.specs.Laws.{DifferentSublistsAreOrdered}
use Rattle.pc_lemmas.proofs.Elements.{all_from, kept_is}
use Rattle.pc_lemmas.proofs.Options.{same_some}
use Rattle.pc_lits.specs.declared.literal.Var.{Var}
use Rattle.pc_lits.specs.declared.tally.Tally.{Tally}
use Rattle.pc_log.specs.Lines.{LogLine}
use Rattle.pc_log.specs.declared.log.StepId.{StepId}
use Rattle.pc_accept.specs.Sets.{those_in}
use Rattle.pc_sheet.specs.Limits.{most_cells, most_entries}
use Rattle.pc_sheet.specs.Sheet.{Sheet, Statement}
use Rattle.pc_sheet.specs.Entailment.{Shows}
use Rattle.pc_sheet.specs.WellFormed.{IsEntryOf, IsWellFormed}
use Rattle.pc_sheet.specs.declared.ids.ValueId.{ValueId}
use Rattle.pc_sheet.specs.declared.ids.Entry.{Entry}
use Rattle.pc_ground.specs.Ground.{clauses}
use Rattle.pc_ground.specs.Grounded.{grounded}
use Rattle.pc_parts.specs.Parts.{Part}
use Rattle.pc_parts.proofs.ByReads.{truth_is_by_reads}
use Rattle.pc_parts.proofs.LeafReads.{leaves_read_the_cells}
use Rattle.pc_world_list.specs.Chosen.{chosen_parts}
use Rattle.pc_reason.specs.Fitting.{IsFitting}
use Rattle.pc_accept.specs.Asked.{IsLeastForStatement, asked}
use Rattle.pc_problem.specs.Laws.{PartsAreSearched}
use Rattle.pc_solver.specs.Solver.{SolverView}
use Rattle.pc_solver.specs.Spending.{GoesOnFor, SpendsIn}
use Rattle.pc_theory.proofs.Lists.{few_filtered}
use Rattle.pc_repairs.specs.inside.Joining.{IsPartSets, IsSized, joined_by}
use Rattle.pc_repairs.specs.declared.part_sets.PartSets.{PartSets}
use Rattle.pc_repairs.proofs.Cells.{value_below}
use Rattle.pc_repairs.proofs.Joined.{all_sized}
use Rattle.pc_repairs.proofs.WholeSearch.{no_sets, nothing_done}
use Rattle.pc_ask.specs.Asking.{AreReadSizes, IsAskedPart, IsDeniedAt, Reads}
use Rattle.pc_ask.specs.declared.finding.Found.{Found}
use Rattle.pc_ask.specs.declared.narrowing.Choosing.{Choosing}
use Rattle.pc_ask.specs.declared.narrowing.Narrowed.{Narrowed}
use Rattle.pc_ask.specs.inside.Answered.{IsSearchOf, SearchSays}
use Rattle.pc_ask.specs.inside.Choices.{ways_of, IsChoosing, IsNarrowedTo, tried_of}
use Rattle.pc_ask.specs.inside.Finding.{FindSays}
use Rattle.pc_ask.specs.inside.Narrowing.{LacksWitness, IsNarrowed}
use Rattle.pc_ask.specs.inside.Parts.{IsAskable, IsAsked, IsTask}
use Rattle.pc_ask.specs.inside.Reading.{AreCandidates, AreLastReads, is_on_some, is_read}
use Rattle.pc_ask.proofs.Least.{none_implied, is_least, support_denied, support_shown}
use Rattle.pc_ask.proofs.Searched.{no_part, own_spends, searched_part, searched_whole, still_asked, within_more}
use Rattle.pc_ask.proofs.Tied.{on_asked}
use Rattle.pc_ask.proofs.Reading.{all_cover, all_fit, last_reads, many_choices, many_entries, reading}

-- the parts that are read have few cells and long assignments
pub read_sized : (sheet : Sheet) → IsWellFormed sheet → (fitting : List ValueId) → IsFitting sheet fitting → (reads : List ℕ) (qs : List PartSets) → AllZip (IsPartSets sheet) (chosen_parts sheet) qs
    → (sets : List PartSets) → sets ≡ filter (is_read reads) qs → All (IsSized (length fitting)) sets
read_sized sheet formed fitting fit reads qs zip sets are =
    subst (All (IsSized (length fitting))) (sym are) (All-filter (is_read reads) (IsSized (length fitting)) qs (all_sized sheet formed fitting fit qs zip))

-- ---- what is asked about

module _ (sheet book : Sheet) (formed : IsWellFormed book) (entries : List Entry) (fitting : List ValueId) (chosen : List PartSets) (k : AreCandidates sheet book entries fitting chosen) where
  -- each is an entry of the part that has what is asked
  entry_askable : IsWellFormed sheet → (f : Statement) → book ≡ asked sheet f → (e : Entry) → Contains entries e → IsAskable book e
  entry_askable own f is e c =
      let known = kept_is (is_on_some (filter (is_read k.reads) k.qs)) book.entries e (subst (λ es. Contains es e) k.entries_are c) in
      record {
        value = value_below book.universe e (All-contains (IsEntryOf book.universe) book.entries e formed.entries.each known.0);
        on = subst (λ (b : Sheet). IsWellFormed b → AreLastReads b k.reads → (q : Part) → IsAskedPart b q → Contains q.cells e.cell.0) (sym is)
            (λ w last q h. on_asked sheet f w own leaves_read_the_cells k.reads last k.qs k.zip e known.1 q h) formed k.last;
      }

  pub choosing_is : IsWellFormed sheet → (f : Statement) → book ≡ asked sheet f → (c : Choosing) → c.task.book.now ≡ book → c.task.ground.now ≡ grounded book → length (clauses book) < 2 ^ 32
      → c.entries.now ≡ entries → c.fitting.now ≡ fitting → c.parts.now ≡ chosen → length book.entries ≤ most_entries * most_cells → IsChoosing c
  choosing_is own f is c book_at ground_at few_axioms entries_at fitting_at parts_at few =
      let task : IsTask book c.task.ground.now = record { formed = formed; ground_is = ground_at; few = few_axioms; sheet = sheet; f = f; is = is; fitting = fitting; fit = k.fit } in
      record {
        sized = subst (λ v. All (IsSized (length v)) c.parts.now) (sym fitting_at) (read_sized sheet own fitting k.fit k.reads k.qs k.zip c.parts.now (parts_at ∙ k.parts_are));
        task = subst (λ (s : Sheet). IsTask s c.task.ground.now) (sym book_at) task;
        askable = subst (λ (s : Sheet). All (IsAskable s) c.entries.now) (sym book_at)
            (all_from (IsAskable book) c.entries.now (λ e at. entry_askable own f is e (subst (λ es. Contains es e) entries_at at)));
        few = omega (arith, few, ap length entries_at, ap length k.entries_are, few_filtered (is_on_some (filter (is_read k.reads) k.qs)) book.entries);
      }

-- ---- what is found

module _ (sheet : Sheet) (formed : IsWellFormed sheet) (f : Statement) (book : Sheet) (book_is : book ≡ asked sheet f) (book_formed : IsWellFormed book) (entries : List Entry) (fitting : List ValueId) (chosen : List PartSets) (k : AreCandidates sheet book entries fitting chosen) where
  abbrev sets : List PartSets
  sets = filter (is_read k.reads) k.qs

  abbrev all : List (List ValueId)
  all = joined_by fitting sets

  abbrev on : List Entry
  on = filter (is_on_some sets) sheet.entries

  reads_are : (c : ℕ) → Contains k.reads c ↔ Reads sheet.universe f c
  reads_are = last_reads leaves_read_the_cells sheet f book book_is book_formed k.reads k.last

  entries_same : book.entries ≡ sheet.entries
  entries_same = ap (λ (s : Sheet). s.entries) book_is

  module _ (c : Choosing) (book_at : c.task.book.now ≡ book) (entries_at : c.entries.now ≡ entries) (all_at : ways_of c ≡ joined_by fitting chosen) where
    on_are : c.entries.now ≡ on
    on_are = entries_at ∙ (k.entries_are ∙ ap (filter (is_on_some sets)) entries_same)

    all_are : ways_of c ≡ all
    all_are = all_at ∙ ap (joined_by fitting) k.parts_are

    none_found : LacksWitness c.task.book.now c.entries.now (ways_of c) (length c.entries.now) [] → LacksWitness book on all (length on) []
    none_found h = subst (λ es. LacksWitness book es all (length es) []) on_are (subst (λ l. LacksWitness book c.entries.now l (length c.entries.now) []) all_are (subst (λ s. LacksWitness s c.entries.now (ways_of c) (length c.entries.now) []) book_at h))

    narrowed_found : (log : List LogLine) (n : Narrowed) → IsNarrowedTo c 0 log n → IsNarrowed book on all 0 n.kept.items log n.witness
    narrowed_found log n h =
        subst (λ es. IsNarrowed book es all 0 n.kept.items log n.witness) on_are
        (subst (λ l. IsNarrowed book c.entries.now l 0 n.kept.items log n.witness) all_are (subst (λ s. IsNarrowed s c.entries.now (ways_of c) 0 n.kept.items log n.witness) book_at h))

    pub found_says : DifferentSublistsAreOrdered → (log : List LogLine) (o : Option Found) → FindSays c log o → SearchSays sheet f log o
    found_says ordered log None h =
        none_implied sheet f book book_is formed.entries.distinct (is_on_some sets) all (all_fit sheet formed fitting k.fit f k.reads reads_are k.qs k.zip) (all_cover sheet formed fitting k.fit f k.reads reads_are k.qs k.zip)
        (reading sheet formed fitting k.fit f k.reads reads_are k.qs k.zip truth_is_by_reads) (none_found h)
    found_says ordered log (Some found) (n, narrowed, found_of) =
        let h = narrowed_found log n narrowed in
        let shown_is : h.witness.shown ≡ found.shown = same_some (sym h.witness.at ∙ (ap (λ (l : List (List ValueId)). slice_get l n.witness.way) (sym all_are) ∙ found_of.shown_is)) in
        let support_is : those_in sheet.entries n.kept.items ≡ found.support.items = ap (λ (s : Sheet). those_in s.entries n.kept.items) (sym (book_at ∙ book_is)) ∙ sym found_of.support_is in
        let fits = all_fit sheet formed fitting k.fit f k.reads reads_are k.qs k.zip in
        let covers = all_cover sheet formed fitting k.fit f k.reads reads_are k.qs k.zip in
        let reads = reading sheet formed fitting k.fit f k.reads reads_are k.qs k.zip truth_is_by_reads in
        record {
          least = subst (λ s. IsLeastForStatement sheet s f) support_is (is_least sheet f book book_is formed.entries.distinct (is_on_some sets) all fits covers reads n.kept.items log n.witness h ordered);
          shown = subst (Shows sheet found.support.items) shown_is
              (subst (λ s. Shows sheet s h.witness.shown) support_is (support_shown sheet f book book_is formed.entries.distinct (is_on_some sets) all fits covers reads n.kept.items log n.witness h));
          denied = subst (λ (s : Sheet). IsDeniedAt s found.support.items log found.last) book_is
              (subst (λ (l : StepId). IsDeniedAt book found.support.items log l) (sym found_of.last_is)
              (subst (λ s. IsDeniedAt book s log n.witness.line) support_is (support_denied sheet f book book_is formed.entries.distinct (is_on_some sets) all fits covers reads n.kept.items log n.witness h)));
        }

    -- so many calls are few enough
    calls_within : (n many : ℕ) → AreReadSizes sheet f n many → tried_of c * (length c.entries.now + 1) ≤ many * (n + 2) + 1
    calls_within n many h =
        let es : length c.entries.now ≡ n = ap length on_are ∙ sym (many_entries sheet formed fitting k.fit f k.reads reads_are k.qs k.zip n many h) in
        let ms : length (ways_of c) ≡ many = ap length all_are ∙ sym (many_choices sheet formed fitting k.fit f k.reads reads_are k.qs k.zip n many h) in
        by (tried_of c) many (length c.entries.now) n (subst (λ m. tried_of c ≤ m) ms (omega arith)) es
      where
        by : (tried m e n : ℕ) → tried ≤ m → e ≡ n → tried * (e + 1) ≤ m * (n + 2) + 1
        by tried m e n few is =
            let first : tried * (e + 1) ≤ m * (e + 1) = mul-le-mul_right (e + 1) few in
            let same : m * (e + 1) ≡ m * (n + 1) = ap (λ x. m * (x + 1)) is in
            omega (arith, first, same)

-- ---- what is spent

-- before anything is asked
pub nothing_asked : (sheet book : Sheet) (t : Tally) (log : List LogLine) → log ≡ [] → IsSearchOf sheet book t t log
nothing_asked sheet book t log none = record {
  whole = (0, nothing_done book [] (no_sets book) 0 t log none);
  part = (0, no_part book 0 t log none);
  within = λ f entries sets is sizes. nothing_done book [] (no_sets book) (sets * (entries + 2) + 1) t log none;
}

-- by what is asked of the candidates
pub all_asked : PartsAreSearched → (sheet : Sheet) → IsWellFormed sheet → (book : Sheet) → IsWellFormed book → (entries : List Entry) (fitting : List ValueId) (chosen : List PartSets) → AreCandidates sheet book entries fitting chosen
    → (c : Choosing) → IsTask c.task.book.now c.task.ground.now → c.task.book.now ≡ book → c.entries.now ≡ entries → ways_of c ≡ joined_by fitting chosen
    → (s new : SolverView) (before after : Tally) (log grown : List LogLine) → log ≡ [] → IsAsked c.task.book.now c.task.variables.now s []
    → GoesOnFor (tried_of c * (length c.entries.now + 1)) s new before after log grown → IsSearchOf sheet book before after grown
all_asked parts sheet formed book book_formed entries fitting chosen k c task book_at entries_at all_at s new before after log grown none is_asked goes =
    let own : List Var = c.task.variables.now in
    let calls : ℕ = tried_of c * (length c.entries.now + 1) in
    let task_here : IsTask book c.task.ground.now = subst (λ (b : Sheet). IsTask b c.task.ground.now) book_at task in
    let asked_here : IsAsked book own s [] = subst (λ (b : Sheet). IsAsked b own s []) book_at is_asked in
    let goes_here : GoesOnFor calls s new before after [] grown = subst (λ l. GoesOnFor calls s new before after l grown) none goes in
    let asked_new : IsAsked book own new grown = still_asked book own s [] asked_here calls new before after grown goes_here in
    let spends : SpendsIn (length own) calls before after [] grown = own_spends book own s [] asked_here calls new before after grown goes_here in
    record {
      whole = (calls, searched_whole parts book c.task.ground.now task_here own new grown asked_new calls before after spends);
      part = (calls, searched_part parts book c.task.ground.now task_here own new grown asked_new calls before after spends);
      within = λ f n many is sizes.
          searched_whole parts book c.task.ground.now task_here own new grown asked_new (many * (n + 2) + 1) before after
          (within_more own calls (many * (n + 2) + 1) before after [] grown (calls_within sheet formed f book is book_formed entries fitting chosen k c book_at entries_at all_at n many sizes) spends);
    }
