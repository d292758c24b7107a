-- What is found of all parts is found of the sheet.
use Rattle.std.proofs.Common.{◌≡◌, ◌≢◌, ℕ, zero, suc, ◌+◌, ◌<◌, ◌≤◌, ◌^◌, List, [], ◌∷◌, length, sum_by, get_or, All, AllPairs, Contains, Option, None, Some, slice_get, IsSomeAnd, refl, ap, sym, ◌∙◌, subst, arith}
use Rattle.std.proofs.lemmas.List.Sums.{sum_by-cons}
use Rattle.pc_lemmas.proofs.Elements.{contains_mapped}
use Rattle.pc_log.specs.Lines.{LogLine}
use Rattle.pc_log.specs.declared.trimming.Span.{Span}
use Rattle.pc_sheet.specs.Sheet.{Sheet}
use Rattle.pc_sheet.specs.Entailment.{cell_sizes}
use Rattle.pc_sheet.specs.MaximalSets.{AreRulesConsistent}
use Rattle.pc_sheet.specs.WellFormed.{IsWellFormed}
use Rattle.pc_sheet.specs.declared.ids.CellId.{CellId}
use Rattle.pc_sheet.specs.declared.ids.ValueId.{ValueId}
use Rattle.pc_sheet.specs.declared.ids.Target.{Target}
use Rattle.pc_accept.specs.Laws.{CertificatesAreSound}
use Rattle.pc_ground.specs.GroundView.{Grounded}
use Rattle.pc_ground.specs.Grounded.{grounded}
use Rattle.pc_ground.specs.Naming.{names_of}
use Rattle.pc_parts.specs.Parts.{IsDivision}
use Rattle.pc_parts.specs.Components.{parts_of}
use Rattle.pc_parts.specs.Laws.{DivisionsDivide}
use Rattle.pc_components.specs.View.{Kept, number_of, AreComponentsOf}
use Rattle.pc_kept.specs.Components.{AreKeptOf}
use Rattle.pc_kept.specs.ByPolarity.{NoneIsContainedByPolarity}
use Rattle.pc_justify_laws.specs.Laws.{NamesAreOfTheirSheet}
use Rattle.pc_reason.specs.Targets.{IsTargetIn}
use Rattle.pc_log.specs.Spans.{lines_of_span}
use Rattle.pc_reason.specs.Refutations.{certificate_against, RefutesRules}
use Rattle.pc_justify_laws.specs.Reasons.{IsRowFor}
use Rattle.pc_cache.specs.Rows.{TargetRow, row_after}
use Rattle.pc_world_list.specs.Worlds.{WorldView}
use Rattle.pc_solver.specs.Solver.{SuspendedView}
use Rattle.pc_solver.specs.declared.stop.Stop.{Stop}
use Rattle.pc_solver.specs.declared.stop.Stop.TheVariants.{Spent, Memory}
use Rattle.pc_search.specs.Parts.{AreWorldsOf}
use Rattle.pc_reason.specs.Fitting.{IsFitting}
use Rattle.pc_theory.specs.Theories.{rules_alone, IsTheory}
use Rattle.pc_theory.specs.inside.Tasks.{AreSearchedParts, IsReady}
use Rattle.pc_theory.specs.Spendings.{placed_of, learned_of, calls_of, LearnsWithin, IsSpentOn, IsSpendingOf, IsLawful}
use Rattle.pc_theory.specs.inside.Starting.{ArePlaces, AreStarted, HaltSays, halt_of}
use Rattle.pc_theory.specs.inside.Searching.{AreSearched, StopPlaces}
use Rattle.pc_theory.specs.Books.{IsFoundIn}
use Rattle.pc_theory.specs.declared.spending.PartSpending.{PartSpending}
use Rattle.pc_theory.specs.declared.spending.Spending.{Spending}
use Rattle.pc_theory.proofs.Lists.{at_within, within_at, place_of, zip_from}
use Rattle.pc_theory.proofs.Parted.{as_many, part_is, number_within, few_kept}
use Rattle.pc_theory.proofs.OfRules.{grounded_alone, clauses_alone, division_alone, components_alone, chosen_alone, named_alone, base_alone}
use Rattle.pc_theory.proofs.OfWhole.{searched_parts, spent_whole}

-- ---- the base

pub base_fits : DivisionsDivide → (sheet : Sheet) (g : Grounded) (kept : Kept) (spent : ℕ) (base : List ValueId) (parts : List PartSpending) (solvers : List SuspendedView) → IsReady sheet g kept → AreStarted sheet kept spent base parts solvers
    → length parts ≡ length kept.cells → IsFitting sheet base
base_fits divide sheet g kept spent base parts solvers ready are many = record {
  assigns = are.assigns;
  fits = ((divide sheet (parts_of sheet) ready.division).fits base).1 (λ part has.
      let p = place_of (parts_of (rules_alone sheet)) part has in
      are.fits p.0 part (omega (arith, p.2, many, as_many sheet kept ready.components)) p.1);
}

-- ---- the spending

pub spending_of : NoneIsContainedByPolarity → (sheet : Sheet) (g : Grounded) (kept : Kept) (spent : ℕ) (parts : List PartSpending) (s : Spending) → IsReady sheet g kept → ArePlaces sheet kept spent parts → s.parts.items ≡ parts → s.tally.placed ≡ spent
    → s.tally.learned ≡ sum_by learned_of parts → s.tally.calls ≡ sum_by calls_of parts → IsSpendingOf sheet None s
spending_of none sheet g kept spent parts s ready are is placed learned calls =
    let each_there : All (IsSpentOn sheet None ready.whole) parts = λ i d below. spent_whole none sheet ready.formed ready.whole kept ready.whole_are ready.chosen None (get_or parts i d) (are.each i d below) in
    let each : All (IsSpentOn sheet None ready.whole) s.parts.items = subst (All (IsSpentOn sheet None ready.whole)) (sym is) each_there in
    let different : AllPairs (λ x y. x.part ≢ y.part) s.parts.items =
    subst (AllPairs (λ x y. x.part ≢ y.part)) (sym is) (λ i j d less below same. absurd (omega (arith, less, are.numbered i d (omega (arith, less, below)), are.numbered j d below, same)))
    in
    record {
      kept = ready.whole;
      are = ready.whole_are;
      placed = placed ∙ (are.sum ∙ ap (sum_by placed_of) (sym is));
      learned = learned ∙ ap (sum_by learned_of) (sym is);
      calls = calls ∙ ap (sum_by calls_of) (sym is);
      each = each;
      different = different;
    }

within_each : (xs : List PartSpending) → All (λ x. LearnsWithin x.tally) xs → sum_by learned_of xs ≤ sum_by placed_of xs + sum_by calls_of xs
within_each [] all = omega arith
within_each (x ∷ xs) all =
    let here = all zero x (omega arith) in
    let rest = within_each xs (λ k d l. all (suc k) d (omega (arith, l))) in
    omega (arith, sum_by-cons learned_of x xs, sum_by-cons placed_of x xs, sum_by-cons calls_of x xs, here, rest)

within_all : (sheet : Sheet) (kept : Kept) (spent : ℕ) (parts : List PartSpending) (s : Spending) → ArePlaces sheet kept spent parts → s.tally.placed ≡ spent → s.tally.learned ≡ sum_by learned_of parts → s.tally.calls ≡ sum_by calls_of parts
    → LearnsWithin s.tally
within_all sheet kept spent parts s are placed learned calls = omega (arith, within_each parts (λ i d below. (are.each i d below).spent.spare), are.sum, placed, learned, calls)

-- where all that may be was placed
pub lawful_spent : NoneIsContainedByPolarity → (sheet : Sheet) (g : Grounded) (kept : Kept) (budget spent : ℕ) (parts : List PartSpending) (s : Spending) → IsReady sheet g kept → (spent ≡ budget) × ArePlaces sheet kept spent parts → s.parts.items ≡ parts
    → s.tally.placed ≡ spent → s.tally.limit ≡ budget → s.tally.learned ≡ sum_by learned_of parts → s.tally.calls ≡ sum_by calls_of parts → IsLawful sheet None budget s
lawful_spent none sheet g kept budget spent parts s ready says is placed limited learned calls = record {
  of_sheet = spending_of none sheet g kept spent parts s ready says.1 is placed learned calls;
  limited = limited;
  all_placed = placed ∙ says.0;
}

-- ---- all parts

module _ (sheet : Sheet) (g : Grounded) (kept : Kept) (ready : IsReady sheet g kept) (worlds : List (List WorldView)) (changes : List TargetRow) (spent : ℕ) (parts : List PartSpending)
    (searched : AreSearched sheet kept (length kept.cells) worlds changes spent parts) where
  cell_within : (t : Target) → IsTargetIn sheet.universe t → t.cell.0 < length (cell_sizes sheet.universe)
  cell_within t is = by (slice_get (cell_sizes sheet.universe) t.cell.0) refl is
    where
      by : (o : Option ℕ) → slice_get (cell_sizes sheet.universe) t.cell.0 ≡ o → IsSomeAnd o (λ n. t.value.0 < n) → t.cell.0 < length (cell_sizes sheet.universe)
      by None at h = absurd h
      by (Some n) at h = at_within (cell_sizes sheet.universe) t.cell.0 n at

  answered : (t : Target) → IsTargetIn sheet.universe t → IsRowFor sheet t (row_after changes t None)
  answered t is =
      let there = ready.components.numbers t.cell.0 (cell_within t is) in
      let i = there.0 in
      let part = there.2.0 in
      let within = number_within sheet kept ready.components i part there.2.1 in
      let cells = within_at kept.cells i within in
      let are = part_is sheet kept ready.components i cells.0 cells.1 part there.2.1 in
      let on = contains_mapped number_of cells.0 t.cell.0 (subst (λ cs. Contains cs t.cell.0) are there.2.2) in
      let make : ℕ → CellId = λ n. record { 0 = n } in
      searched.answered t is i cells.0 within cells.1 (subst (Contains cells.0) (ap make on.2) on.1)

  pub found_in : NoneIsContainedByPolarity → (budget : ℕ) (base : List ValueId) (s : Spending) → IsFitting sheet base → s.parts.items ≡ parts → s.tally.placed ≡ spent → s.tally.learned ≡ sum_by learned_of parts → s.tally.calls ≡ sum_by calls_of parts
      → s.tally.limit ≡ budget → IsFoundIn sheet kept budget base worlds changes s
  found_in none budget base s is_base is placed learned calls limit = record {
    base_is = is_base;
    worlds_of = zip_from (AreWorldsOf sheet) [] (parts_of (rules_alone sheet)) worlds (omega (arith, searched.count, as_many sheet kept ready.components))
        (λ j p below at. searched.worlds_of j p (omega (arith, below, searched.count)) at);
    answered = answered;
    few_steps = λ t k is. omega (arith, searched.only t k is, learned, calls);
    targets = searched.targets;
    limit = limit;
    spends = spending_of none sheet g kept spent parts s ready searched.places is placed learned calls;
    spare = within_all sheet kept spent parts s searched.places placed learned calls;
  }

-- ---- a theory

pub theory_of : (sheet : Sheet) (g : Grounded) (whole kept : Kept) (base : List ValueId) → IsReady sheet g kept → AreComponentsOf (rules_alone sheet) whole → AreKeptOf (rules_alone sheet) whole kept → IsFitting sheet base
    → IsTheory (rules_alone sheet) (record { ground = g; components = whole; searched = kept; base = base })
theory_of sheet g whole kept base ready whole_are chosen is_base = record {
  ground = ready.ground_is ∙ sym (grounded_alone sheet);
  few = subst (λ cs. length cs < 2 ^ 32) (sym (clauses_alone sheet)) ready.few;
  named = named_alone sheet ready.named;
  components = whole_are;
  searched = chosen;
  division = division_alone sheet ready.division;
  base = base_alone sheet base is_base;
}

pub ready_of : NamesAreOfTheirSheet → (sheet : Sheet) (g : Grounded) (whole kept : Kept) → IsWellFormed sheet → g ≡ grounded sheet → length g.clauses < 2 ^ 32 → AreComponentsOf sheet whole → AreKeptOf sheet whole kept → IsDivision sheet (parts_of sheet)
    → IsReady sheet g kept
ready_of names sheet g whole kept formed is few components chosen division = record {
  formed = formed;
  ground_is = is;
  few = subst (λ x. length x.clauses < 2 ^ 32) is few;
  named = names sheet formed;
  components = searched_parts (rules_alone sheet) whole kept (components_alone sheet whole components) (chosen_alone sheet whole kept chosen);
  whole = whole;
  whole_are = components_alone sheet whole components;
  chosen = chosen_alone sheet whole kept chosen;
  division = division;
}

pub few_enough : (sheet : Sheet) (kept : Kept) → AreSearchedParts (rules_alone sheet) kept → length (cell_sizes sheet.universe) ≤ 4096 → length kept.cells ≤ 4097
few_enough sheet kept are few = omega (arith, few_kept sheet kept are, few)

-- ---- inconsistent rules

pub refuted_rules : CertificatesAreSound → (sheet : Sheet) (lines : List LogLine) (span : Span) → RefutesRules sheet (names_of sheet) lines span → ¬ AreRulesConsistent sheet
refuted_rules sound sheet lines span refutes consistent = sound sheet (certificate_against (names_of sheet) (lines_of_span lines span)) refutes.accepted consistent.0 consistent.1 consistent.2

-- whatever components they are told of
pub found_for : (sheet : Sheet) (a b : Kept) (budget : ℕ) (base : List ValueId) (worlds : List (List WorldView)) (changes : List TargetRow) (s : Spending) → IsFoundIn sheet a budget base worlds changes s → IsFoundIn sheet b budget base worlds changes s
found_for sheet a b budget base worlds changes s h = record {
  base_is = h.base_is;
  worlds_of = h.worlds_of;
  answered = h.answered;
  few_steps = h.few_steps;
  targets = h.targets;
  limit = h.limit;
  spends = h.spends;
  spare = h.spare;
}

-- a stop, as the halt that it is
pub stop_halts : (sheet : Sheet) (kept : Kept) (budget spent : ℕ) (parts : List PartSpending) (stop : Stop) → StopPlaces sheet kept budget spent parts stop → HaltSays sheet kept budget spent parts (halt_of stop)
stop_halts sheet kept budget spent parts Spent h = h
stop_halts sheet kept budget spent parts Memory h = h
