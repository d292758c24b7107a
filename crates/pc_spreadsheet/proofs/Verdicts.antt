-- That a command line has one verdict at most.
use Rattle.std.proofs.Common.{◌≡◌, ℕ, Bool, ◌<◌, List, [], length, Contains, Option, Some, None, refl, sym, ap, ap₂, subst, arith, inl, inr, ◌∙◌}
use Rattle.pc_syntax.specs.Fault.{Fault, not_utf8, too_deep, syntax, wrong_version}
use Rattle.pc_syntax.specs.Tree.{Cell, Value, Formula, Asked, enter, also, asks_enter, asks_also, asks_clear, asks_clear_one, asks_rule, asks_drop, asks_budget, asks_show, asks_grid, asks_json, asks_why, asks_dump, asks_repairs, asks_prove_repairs, asks_whynot, asks_ask, not}
use Rattle.pc_syntax.specs.Command.{CommandReading, no_command, asks, at_fault, IsCommandReading}
use Rattle.pc_sheet.specs.Sheet.{Sheet, Statement, some_of, no_statements, negation, NamedStatement, with_rule}
use Rattle.pc_accept.specs.Asked.{ask_name, denial, asked}
use Rattle.pc_sheet.specs.MaximalSets.{AreRulesConsistent}
use Rattle.pc_laws.proofs.Different.{exact_as_long}
use Rattle.pc_world_list.specs.FewSets.{HasFewSets, HasManySets}
use Rattle.pc_sheet.specs.Weight.{weight}
use Rattle.pc_sheet.specs.WellFormed.{IsWellFormed}
use Rattle.pc_sheet.specs.declared.ids.CellId.{CellId}
use Rattle.pc_sheet.specs.declared.ids.SortId.{SortId}
use Rattle.pc_sheet.specs.declared.ids.ValueId.{ValueId}
use Rattle.pc_sheet.specs.declared.ids.Entry.{Entry}
use Rattle.pc_elaborate.specs.declared.fault.SortFault.{SortFault}
use Rattle.pc_elaborate.specs.declared.fault.SortFault.TheVariants as sort_fault
use Rattle.pc_sheet.specs.declared.limits.Limited.TheVariants as limited
use Rattle.pc_elaborate.specs.Elaboration.{IsCell, StandsForValue, IsEntryNamed, IsCellNamed}
use Rattle.pc_elaborate.specs.FormulaFaults.{IsValueFault, IsSortedFormula}
use Rattle.pc_elaborate.specs.Laws.{HaveOneOutcome, TreesHaveOneOutcome}
use Rattle.pc_elaborate.specs.Tests.{no_test, test}
use Rattle.pc_sortcheck.specs.DeclarationFaults.{HasRoomForEntry, IsDeclarationFault, IsRuleFault}
use Rattle.pc_refusals.specs.declared.refusal.Refusal.{Refusal}
use Rattle.pc_refusals.specs.declared.refusal.Refusal.TheVariants.{NotUtf8, Syntax, TooDeep}
use Rattle.pc_load.specs.Refusals.{IsSortRefusal}
use Rattle.pc_load.proofs.OneRefusal.{one_refusal, some_is}
use Rattle.pc_spreadsheet.specs.Judgement.{Verdict, nothing, does, refuses, contradicts, IsVerdictOn}
use Rattle.pc_spreadsheet.specs.Refused.{IsAskedFault, IsRefusalOf, by_fault, without_entry, without_that, of_old_name, of_no_rule, too_large, too_many_sets, too_many_for, of_rule_ask, too_large_asked, MakesContradiction, contradicting, IsRefused, for_utf8, for_depth, for_syntax, for_asked}
use Rattle.pc_spreadsheet.specs.Tasks.{State, IsLight, Task, enters, enters_beside, clears, removes, adds, drops, shows, why_page, whynot_page, ask_page, HasEntryOf, IsRuleOf, IsDenialRule, IsTaskOf, entering, entering_beside, clearing, removing, adding, dropping, budgeting, asking, showing, showing_grid, showing_json, dumping, listing, proving, doubting, inquiring}
use Rattle.pc_spreadsheet.specs.Tasks as tasks
use Rattle.pc_spreadsheet.proofs.Places.{not_new, one_place}
use Rattle.pc_spreadsheet.specs.Laws.{LinesHaveOneVerdict}

-- ---- cells, entries and rules

abbrev entry_of : CellId → ValueId → Entry
entry_of cell value = record { cell = cell; value = value }

abbrev rule_from : List ℕ → Statement → NamedStatement
rule_from name states = record { name = name; states = states }

-- some rule
abbrev no_rule : NamedStatement
no_rule = record { name = []; states = some_of no_statements }

-- the page that says why the cell has the value or not
abbrev asked_why : Entry → Bool → Task
asked_why e holds = shows (why_page (record { cell = e.cell; value = e.value; holds = holds }))

-- the page that says why it doesn't follow that the cell has the value
abbrev asked_whynot : Entry → Bool → Task
asked_whynot e holds = shows (whynot_page (record { cell = e.cell; value = e.value; holds = holds }))

-- the page that says whether the formula is implied
abbrev asked_page : Sheet → Statement → Task
asked_page sheet f = shows (ask_page (asked sheet f))

same_denied : (s t : Statement) → negation s ≡ negation t → s ≡ t
same_denied s t same = cc

abbrev pair_of : CellId → SortId → CellId × SortId
pair_of cell sort = (cell, sort)

test_never : {Passes : Type 0} {fault : SortFault} → Passes → (e : SortFault) → ¬ test Passes fault no_test e
test_never passes e (inl fails) = fails.0 passes
test_never passes e (inr rest) = rest.1

test_same : {Passes : Type 0} {fault : SortFault} (e f : SortFault) → test Passes fault no_test e → test Passes fault no_test f → e ≡ f
test_same e f (inl x) (inl y) = x.1 ∙ sym y.1
test_same e f (inl x) (inr y) = absurd y.1
test_same e f (inr x) y = absurd x.1

-- there are few maximal sets or many
few_or_many : (sheet : Sheet) → HasFewSets sheet → HasManySets sheet → ⊥
few_or_many sheet few many = absurd (omega (arith, exact_as_long _ few.0 many.0 few.1 many.1, few.2, many.2))

module _ (sheet : Sheet) (one : HaveOneOutcome sheet.universe) (formed : IsWellFormed sheet) where
  pair_is : (c : Cell) (k l : CellId) (s t : SortId) → IsCell sheet.universe c k s → IsCell sheet.universe c l t → pair_of k s ≡ pair_of l t
  pair_is c k l s t first second = (one.cells c).one (pair_of k s) (pair_of l t) first second

  cell_is : (c : Cell) (k l : CellId) → IsCellNamed sheet.universe c k → IsCellNamed sheet.universe c l → k ≡ l
  cell_is c k l first second = ap (λ (p : CellId × SortId). p.0) (pair_is c k l first.0 second.0 first.1 second.1)

  cell_never : (c : Cell) (k : CellId) (s : SortId) → IsCell sheet.universe c k s → (e : SortFault) → ¬ IsAskedFault sheet (asks_clear c) e
  cell_never c k s is e = (one.cells c).never (k, s) is e

  entry_is : (c : Cell) (v : Value) (e f : Entry) → IsEntryNamed sheet.universe c v e → IsEntryNamed sheet.universe c v f → e ≡ f
  entry_is c v e f first second =
      let pairs = pair_is c e.cell f.cell first.sort second.sort first.cell second.cell in
      let sorts : first.sort ≡ second.sort = ap (λ (p : CellId × SortId). p.1) pairs in
      let value : StandsForValue sheet.universe second.sort v e.value = subst (λ (s : SortId). StandsForValue sheet.universe s v e.value) sorts first.value in
      ap₂ entry_of (ap (λ (p : CellId × SortId). p.0) pairs) ((one.values second.sort v).one e.value f.value value second.value)

  entry_never : (c : Cell) (v : Value) (e : Entry) → IsEntryNamed sheet.universe c v e → (f : SortFault) → ¬ IsDeclarationFault sheet (enter c v) f
  entry_never c v e named f (inl fails) = (one.cells c).never (e.cell, named.sort) named.cell f fails
  entry_never c v e named f (inr fails) =
      let sorts : fails.1.1 ≡ named.sort = ap (λ (p : CellId × SortId). p.1) (pair_is c fails.1.0 e.cell fails.1.1 named.sort fails.1.2 named.cell) in
      (one.values named.sort v).never e.value named.value f (subst (λ (s : SortId). IsValueFault sheet.universe s v f) sorts fails.1.3)

  entry_same : (c : Cell) (v : Value) (e f : SortFault) → IsDeclarationFault sheet (enter c v) e → IsDeclarationFault sheet (enter c v) f → e ≡ f
  entry_same c v e f (inl x) (inl y) = (one.cells c).same e f x y
  entry_same c v e f (inl x) (inr y) = absurd ((one.cells c).never (y.1.0, y.1.1) y.1.2 e x)
  entry_same c v e f (inr x) (inl y) = absurd ((one.cells c).never (x.1.0, x.1.1) x.1.2 f y)
  entry_same c v e f (inr x) (inr y) =
      let sorts : x.1.1 ≡ y.1.1 = ap (λ (p : CellId × SortId). p.1) (pair_is c x.1.0 y.1.0 x.1.1 y.1.1 x.1.2 y.1.2) in
      (one.values y.1.1 v).same e f (subst (λ (s : SortId). IsValueFault sheet.universe s v e) sorts x.1.3) y.1.3

  -- the entry that is further entered is the named one
  further_never : (c : Cell) (v : Value) (e : Entry) → IsEntryNamed sheet.universe c v e → HasRoomForEntry sheet e → (f : SortFault) → ¬ IsDeclarationFault sheet (also c v) f
  further_never c v e named room f (inl fails) = entry_never c v e named f fails
  further_never c v e named room f (inr fails) = test_never (subst (HasRoomForEntry sheet) (entry_is c v e fails.1.0 named fails.1.1) room) f fails.1.2

  further_same : (c : Cell) (v : Value) (e f : SortFault) → IsDeclarationFault sheet (also c v) e → IsDeclarationFault sheet (also c v) f → e ≡ f
  further_same c v e f (inl x) (inl y) = entry_same c v e f x y
  further_same c v e f (inl x) (inr y) = absurd (entry_never c v y.0.0 y.0.1 e x)
  further_same c v e f (inr x) (inl y) = absurd (entry_never c v x.0.0 x.0.1 f y)
  further_same c v e f (inr x) (inr y) = test_same e f (subst (λ (d : Entry). test (HasRoomForEntry sheet d) (sort_fault.Limit limited.Entries) no_test e) (entry_is c v x.1.0 y.1.0 x.1.1 y.1.1) x.1.2) y.1.2

  rule_never : (f : Formula) → IsSortedFormula sheet.universe [] f → length sheet.rules < 1024 → (e : SortFault) → ¬ IsRuleFault sheet f no_test e
  rule_never f sorted few e (inl fails) = (one.formulas f).never sorted.0 (sorted.1, sorted.2) e fails
  rule_never f sorted few e (inr fails) = test_never few e fails.1

  rule_same : (g : Formula) (e f : SortFault) → IsRuleFault sheet g no_test e → IsRuleFault sheet g no_test f → e ≡ f
  rule_same g e f (inl x) (inl y) = (one.formulas g).same e f x y
  rule_same g e f (inl x) (inr y) = absurd ((one.formulas g).never y.0.0 (y.0.1, y.0.2) e x)
  rule_same g e f (inr x) (inl y) = absurd ((one.formulas g).never x.0.0 (x.0.1, x.0.2) f y)
  rule_same g e f (inr x) (inr y) = test_same e f x.1 y.1

  statement_is : (n : List ℕ) (f : Formula) (r q : NamedStatement) → IsRuleOf sheet n f r → IsRuleOf sheet n f q → r ≡ q
  statement_is n f r q first second = ap₂ rule_from (first.name ∙ sym second.name) ((one.formulas f).one r.states q.states (first.states, first.formed.sorted) (second.states, second.formed.sorted))

  rule_of_never : (n : List ℕ) (f : Formula) (r : NamedStatement) → IsRuleOf sheet n f r → (e : SortFault) → ¬ IsRuleFault sheet f no_test e
  rule_of_never n f r is e = rule_never f (r.states, is.states, is.formed.sorted) is.room e

  denied_is : (f : Formula) (s t : Statement) → IsDenialRule sheet f s → IsDenialRule sheet f t → s ≡ t
  denied_is f s t first second = same_denied s t (ap (λ (r : NamedStatement). r.states) (statement_is ask_name (not f) (denial s) (denial t) first second))

  light_or_heavy : (n : List ℕ) (f : Formula) (r q : NamedStatement) → IsRuleOf sheet n f r → IsRuleOf sheet n f q → 4000000 < weight (with_rule sheet r) → ¬ IsLight (with_rule sheet q)
  light_or_heavy n f r q first second heavy = λ light. absurd (omega (arith, subst (λ (s : NamedStatement). 4000000 < weight (with_rule sheet s)) (statement_is n f r q first second) heavy, light))

  -- ---- what a command asks

  fault_same : (a : Asked) (e f : SortFault) → IsAskedFault sheet a e → IsAskedFault sheet a f → e ≡ f
  fault_same (asks_enter c v) e f x y = entry_same c v e f x y
  fault_same (asks_also c v) e f x y = further_same c v e f x y
  fault_same (asks_clear_one c v) e f x y = entry_same c v e f x y
  fault_same (asks_why c v holds) e f x y = entry_same c v e f x y
  fault_same (asks_clear c) e f x y = (one.cells c).same e f x y
  fault_same (asks_rule n g) e f x y = rule_same g e f x y
  fault_same (asks_budget n) e f x y = test_same e f x y
  fault_same (asks_drop n) e f x y = absurd x
  fault_same asks_show e f x y = absurd x
  fault_same asks_grid e f x y = absurd x
  fault_same asks_json e f x y = absurd x
  fault_same asks_dump e f x y = absurd x
  fault_same asks_repairs e f x y = absurd x
  fault_same asks_prove_repairs e f x y = absurd x
  fault_same (asks_whynot c v) e f x y = entry_same c v e f x y
  fault_same (asks_ask g) e f x y = rule_same (not g) e f x y

  task_never : {a : Asked} {task : Task} → IsTaskOf sheet a task → (e : SortFault) → ¬ IsAskedFault sheet a e
  task_never (entering {c = c} {v = v} d named) e = entry_never c v d named e
  task_never (entering_beside {c = c} {v = v} d named room) e = further_never c v d named room e
  task_never (removing {c = c} {v = v} d named stands) e = entry_never c v d named e
  task_never (clearing {c = c} k named has) e = cell_never c k named.0 named.1 e
  task_never (adding {n = n} {f = f} r new light consistent) e = rule_of_never n f r new.0 e
  task_never (dropping place at) e = λ fails. fails
  task_never (budgeting within) e = test_never within e
  task_never (asking {c = c} {v = v} t named holds) e = entry_never c v (tasks.entry_of_target t) named e
  task_never showing e = λ fails. fails
  task_never showing_grid e = λ fails. fails
  task_never showing_json e = λ fails. fails
  task_never dumping e = λ fails. fails
  task_never listing e = λ fails. fails
  task_never (proving few) e = λ fails. fails
  task_never (doubting {c = c} {v = v} t named holds few) e = entry_never c v (tasks.entry_of_target t) named e
  task_never (inquiring {f = f} s new light) e = rule_of_never ask_name (not f) (denial s) new.0 e

  contradiction_never : {a : Asked} {r : NamedStatement} → MakesContradiction sheet a r → (e : SortFault) → ¬ IsAskedFault sheet a e
  contradiction_never (contradicting {n = n} {f = f} r new light never) e = rule_of_never n f r new.0 e

  -- two tasks are one
  task_is : {a : Asked} {s t : Task} → IsTaskOf sheet a s → IsTaskOf sheet a t → s ≡ t
  task_is (entering {c = c} {v = v} d x) (entering e y) = ap enters (entry_is c v d e x y)
  task_is (entering_beside {c = c} {v = v} d x room) (entering_beside e y room') = ap enters_beside (entry_is c v d e x y)
  task_is (removing {c = c} {v = v} d x stands) (removing e y stands') = ap removes (entry_is c v d e x y)
  task_is (clearing {c = c} k x has) (clearing l y has') = ap clears (cell_is c k l x y)
  task_is (adding {n = n} {f = f} r x light consistent) (adding q y light' consistent') = ap adds (statement_is n f r q x.0 y.0)
  task_is (dropping {n = n} i x) (dropping j y) = ap drops (one_place sheet n no_rule i j formed x y)
  task_is (budgeting x) (budgeting y) = refl
  task_is (asking {c = c} {v = v} t x holds) (asking u y holding) =
      ap₂ asked_why (entry_is c v (tasks.entry_of_target t) (tasks.entry_of_target u) x y) (holds ∙ sym holding)
  task_is showing showing = refl
  task_is showing_grid showing_grid = refl
  task_is showing_json showing_json = refl
  task_is dumping dumping = refl
  task_is listing listing = refl
  task_is (proving few) (proving few') = refl
  task_is (doubting {c = c} {v = v} t x holds few) (doubting u y holding few') =
      ap₂ asked_whynot (entry_is c v (tasks.entry_of_target t) (tasks.entry_of_target u) x y) (holds ∙ sym holding)
  task_is (inquiring {f = f} s x light) (inquiring t y light') = ap (asked_page sheet) (denied_is f s t x.0 y.0)

  -- two refusals are one
  refusal_is : {a : Asked} {q r : Refusal} → IsRefusalOf sheet a q → IsRefusalOf sheet a r → q ≡ r
  refusal_is {a = a} {q = q} {r = r} (by_fault e fails tells) (by_fault f failing telling) = one_refusal f q r (subst (λ (g : SortFault). IsSortRefusal g q) (fault_same a e f fails failing) tells) telling
  refusal_is (by_fault e fails tells) (without_entry {c = c} k named lacks) = absurd (cell_never c k named.0 named.1 e fails)
  refusal_is (by_fault e fails tells) (without_that {c = c} {v = v} d named lacks) = absurd (entry_never c v d named e fails)
  refusal_is (by_fault e fails tells) (of_old_name {n = n} {f = f} r is has) = absurd (rule_of_never n f r is e fails)
  refusal_is (by_fault e fails tells) (of_no_rule lacks) = absurd fails
  refusal_is (by_fault e fails tells) (too_large {n = n} {f = f} r new heavy) = absurd (rule_of_never n f r new.0 e fails)
  refusal_is (by_fault e fails tells) (too_many_sets many) = absurd fails
  refusal_is (by_fault e fails tells) (too_many_for {c = c} {v = v} d named many) = absurd (entry_never c v d named e fails)
  refusal_is (by_fault e fails tells) (of_rule_ask {f = f} s is has) = absurd (rule_of_never ask_name (not f) (denial s) is e fails)
  refusal_is (by_fault e fails tells) (too_large_asked {f = f} s new heavy) = absurd (rule_of_never ask_name (not f) (denial s) new.0 e fails)
  refusal_is (without_entry {c = c} k named lacks) (by_fault e fails tells) = absurd (cell_never c k named.0 named.1 e fails)
  refusal_is (without_entry k named lacks) (without_entry l named' lacks') = refl
  refusal_is (without_that {c = c} {v = v} d named lacks) (by_fault e fails tells) = absurd (entry_never c v d named e fails)
  refusal_is (without_that d named lacks) (without_that e named' lacks') = refl
  refusal_is (of_old_name {n = n} {f = f} r is has) (by_fault e fails tells) = absurd (rule_of_never n f r is e fails)
  refusal_is (of_old_name r is has) (of_old_name q is' has') = refl
  refusal_is (of_old_name r is has) (too_large q new heavy) = absurd (has new.1)
  refusal_is (of_no_rule lacks) (by_fault e fails tells) = absurd fails
  refusal_is (of_no_rule lacks) (of_no_rule lacks') = refl
  refusal_is (too_large {n = n} {f = f} r new heavy) (by_fault e fails tells) = absurd (rule_of_never n f r new.0 e fails)
  refusal_is (too_large r new heavy) (of_old_name q is has) = absurd (has new.1)
  refusal_is (too_large r new heavy) (too_large q new' heavy') = refl
  refusal_is (too_many_sets many) (by_fault e fails tells) = absurd fails
  refusal_is (too_many_sets many) (too_many_sets many') = refl
  refusal_is (too_many_for {c = c} {v = v} d named many) (by_fault e fails tells) = absurd (entry_never c v d named e fails)
  refusal_is (too_many_for d named many) (too_many_for e named' many') = refl
  refusal_is (of_rule_ask {f = f} s is has) (by_fault e fails tells) = absurd (rule_of_never ask_name (not f) (denial s) is e fails)
  refusal_is (of_rule_ask s is has) (of_rule_ask t is' has') = refl
  refusal_is (of_rule_ask s is has) (too_large_asked t new heavy) = absurd (has new.1)
  refusal_is (too_large_asked {f = f} s new heavy) (by_fault e fails tells) = absurd (rule_of_never ask_name (not f) (denial s) new.0 e fails)
  refusal_is (too_large_asked s new heavy) (of_rule_ask t is has) = absurd (has new.1)
  refusal_is (too_large_asked s new heavy) (too_large_asked t new' heavy') = refl

  -- what can be done isn't refused
  task_or_refusal : {a : Asked} {t : Task} {q : Refusal} → IsTaskOf sheet a t → IsRefusalOf sheet a q → ⊥
  task_or_refusal task (by_fault e fails tells) = task_never task e fails
  task_or_refusal (clearing {c = c} k named has) (without_entry l named' lacks) = lacks (subst (HasEntryOf sheet) (cell_is c k l named named') has)
  task_or_refusal (removing {c = c} {v = v} d named stands) (without_that e named' lacks) = lacks (subst (Contains sheet.entries) (entry_is c v d e named named') stands)
  task_or_refusal (adding r new light consistent) (of_old_name q is has) = has new.1
  task_or_refusal (adding {n = n} {f = f} r new light consistent) (too_large q new' heavy) = light_or_heavy n f q r new'.0 new.0 heavy light
  task_or_refusal (dropping {n = n} place at) (of_no_rule lacks) = not_new sheet.rules n place no_rule at lacks
  task_or_refusal (proving few) (too_many_sets many) = few_or_many sheet few many
  task_or_refusal (doubting t named holds few) (too_many_for e named' many) = few_or_many sheet few many
  task_or_refusal (inquiring s new light) (of_rule_ask t is has) = has new.1
  task_or_refusal (inquiring {f = f} s new light) (too_large_asked t new' heavy) = light_or_heavy ask_name (not f) (denial t) (denial s) new'.0 new.0 heavy light

  -- a contradiction is neither
  task_or_contradiction : {a : Asked} {t : Task} {r : NamedStatement} → IsTaskOf sheet a t → MakesContradiction sheet a r → ⊥
  task_or_contradiction (adding {n = n} {f = f} q new light consistent) (contradicting r new' light' never) =
      never (subst (λ (s : NamedStatement). AreRulesConsistent (with_rule sheet s)) (statement_is n f q r new.0 new'.0) consistent)
  task_or_contradiction (entering e named) makes = elim makes [ ]
  task_or_contradiction (entering_beside e named room) makes = elim makes [ ]
  task_or_contradiction (removing e named stands) makes = elim makes [ ]
  task_or_contradiction (clearing k named has) makes = elim makes [ ]
  task_or_contradiction (dropping place at) makes = elim makes [ ]
  task_or_contradiction (budgeting within) makes = elim makes [ ]
  task_or_contradiction (asking t named holds) makes = elim makes [ ]
  task_or_contradiction showing makes = elim makes [ ]
  task_or_contradiction showing_grid makes = elim makes [ ]
  task_or_contradiction showing_json makes = elim makes [ ]
  task_or_contradiction dumping makes = elim makes [ ]
  task_or_contradiction listing makes = elim makes [ ]
  task_or_contradiction (proving few) makes = elim makes [ ]
  task_or_contradiction (doubting t named holds few) makes = elim makes [ ]
  task_or_contradiction (inquiring s new light) makes = elim makes [ ]

  refusal_or_contradiction : {a : Asked} {q : Refusal} {r : NamedStatement} → IsRefusalOf sheet a q → MakesContradiction sheet a r → ⊥
  refusal_or_contradiction (by_fault e fails tells) makes = contradiction_never makes e fails
  refusal_or_contradiction (of_old_name q is has) (contradicting r new light never) = has new.1
  refusal_or_contradiction (too_large {n = n} {f = f} q new heavy) (contradicting r new' light never) = light_or_heavy n f q r new.0 new'.0 heavy light
  refusal_or_contradiction (without_entry k named lacks) makes = elim makes [ ]
  refusal_or_contradiction (without_that e named lacks) makes = elim makes [ ]
  refusal_or_contradiction (of_no_rule lacks) makes = elim makes [ ]
  refusal_or_contradiction (too_many_sets many) makes = elim makes [ ]
  refusal_or_contradiction (too_many_for e named many) makes = elim makes [ ]
  refusal_or_contradiction (of_rule_ask s is has) makes = elim makes [ ]
  refusal_or_contradiction (too_large_asked s new heavy) makes = elim makes [ ]

  contradiction_is : {a : Asked} {q r : NamedStatement} → MakesContradiction sheet a q → MakesContradiction sheet a r → q ≡ r
  contradiction_is (contradicting {n = n} {f = f} q new light never) (contradicting r new' light' never') = statement_is n f q r new.0 new'.0

-- ---- a line

-- how a command is judged
data Kind (sheet : Sheet) (a : Asked) : Verdict → Type 0 where
  by_task : (task : Task) → IsTaskOf sheet a task → Kind sheet a (does task)
  by_refusal : (why : Refusal) → IsRefusalOf sheet a why → Kind sheet a (refuses why)
  by_contradiction : (r : NamedStatement) → MakesContradiction sheet a r → Kind sheet a (contradicts r)

module _ (sheet : Sheet) (one : HaveOneOutcome sheet.universe) (formed : IsWellFormed sheet) where
  same_kind : (a : Asked) {x y : Verdict} → Kind sheet a x → Kind sheet a y → x ≡ y
  same_kind a (by_task s is) (by_task t other) = ap does (task_is sheet one formed is other)
  same_kind a (by_task s is) (by_refusal r other) = absurd (task_or_refusal sheet one formed is other)
  same_kind a (by_task s is) (by_contradiction r other) = absurd (task_or_contradiction sheet one formed is other)
  same_kind a (by_refusal q is) (by_task t other) = absurd (task_or_refusal sheet one formed other is)
  same_kind a (by_refusal q is) (by_refusal r other) = ap refuses (refusal_is sheet one formed is other)
  same_kind a (by_refusal q is) (by_contradiction r other) = absurd (refusal_or_contradiction sheet one formed is other)
  same_kind a (by_contradiction q is) (by_task t other) = absurd (task_or_contradiction sheet one formed other is)
  same_kind a (by_contradiction q is) (by_refusal r other) = absurd (refusal_or_contradiction sheet one formed other is)
  same_kind a (by_contradiction q is) (by_contradiction r other) = ap contradicts (contradiction_is sheet one formed is other)

abbrev text_refusal : Fault → Option Refusal
text_refusal not_utf8 = Some NotUtf8
text_refusal too_deep = Some TooDeep
text_refusal syntax = Some Syntax
text_refusal wrong_version = None

-- how a reading is judged
abbrev IsJudged : Sheet → CommandReading → Verdict → Type 0
IsJudged sheet no_command nothing = Unit {0}
IsJudged sheet no_command verdict = ⊥
IsJudged sheet (asks a) verdict = Kind sheet a verdict
IsJudged sheet (at_fault e) (refuses why) = text_refusal e ≡ Some why
IsJudged sheet (at_fault e) verdict = ⊥

record Judged (state : State) (line : List ℕ) (verdict : Verdict) : Type 0 where
  reading : CommandReading
  is : IsCommandReading line reading
  judged : IsJudged state.sheet reading verdict

judged_refusal : (state : State) (line : List ℕ) (why : Refusal) → IsRefused state line why → Judged state line (refuses why)
judged_refusal state line NotUtf8 (for_utf8 is) = record { reading = at_fault not_utf8; is = is; judged = refl }
judged_refusal state line TooDeep (for_depth is) = record { reading = at_fault too_deep; is = is; judged = refl }
judged_refusal state line Syntax (for_syntax is) = record { reading = at_fault syntax; is = is; judged = refl }
judged_refusal state line why (for_asked a reading is) = record { reading = asks a; is = reading; judged = by_refusal why is }

judged : (state : State) (line : List ℕ) (verdict : Verdict) → IsVerdictOn state line verdict → Judged state line verdict
judged state line nothing is = record { reading = no_command; is = is; judged = tt }
judged state line (does task) is = record { reading = asks is.0; is = is.1; judged = by_task task is.2 }
judged state line (refuses why) is = judged_refusal state line why is
judged state line (contradicts r) is = record { reading = asks is.0; is = is.1; judged = by_contradiction r is.2 }

same_judged : (sheet : Sheet) → HaveOneOutcome sheet.universe → IsWellFormed sheet → (r : CommandReading) (x y : Verdict) → IsJudged sheet r x → IsJudged sheet r y → x ≡ y
same_judged sheet one formed no_command nothing nothing first second = refl
same_judged sheet one formed no_command nothing (does t) first second = absurd second
same_judged sheet one formed no_command nothing (refuses w) first second = absurd second
same_judged sheet one formed no_command nothing (contradicts w) first second = absurd second
same_judged sheet one formed no_command (does s) y first second = absurd first
same_judged sheet one formed no_command (refuses v) y first second = absurd first
same_judged sheet one formed no_command (contradicts v) y first second = absurd first
same_judged sheet one formed (asks a) x y first second = same_kind sheet one formed a first second
same_judged sheet one formed (at_fault e) (refuses v) (refuses w) first second = ap refuses (some_is v w (sym first ∙ second))
same_judged sheet one formed (at_fault e) (refuses v) nothing first second = absurd second
same_judged sheet one formed (at_fault e) (refuses v) (does t) first second = absurd second
same_judged sheet one formed (at_fault e) (refuses v) (contradicts t) first second = absurd second
same_judged sheet one formed (at_fault e) nothing y first second = absurd first
same_judged sheet one formed (at_fault e) (does s) y first second = absurd first
same_judged sheet one formed (at_fault e) (contradicts s) y first second = absurd first

pub one_verdict : ((line : List ℕ) (q r : CommandReading) → IsCommandReading line q → IsCommandReading line r → q ≡ r) → TreesHaveOneOutcome → LinesHaveOneVerdict
one_verdict readings outcomes = λ state. λ formed. λ line. λ x. λ y. λ first. λ second.
    let one = judged state line x first in
    let other = judged state line y second in
    let same : one.reading ≡ other.reading = readings line one.reading other.reading one.is other.is in
    same_judged state.sheet (outcomes state.sheet.universe formed.universe) formed other.reading x y (subst (λ (r : CommandReading). IsJudged state.sheet r x) same one.judged) other.judged
