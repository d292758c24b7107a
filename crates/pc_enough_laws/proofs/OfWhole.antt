-- What is spent on a whole sheet is less than enough.
use Rattle.std.proofs.Common.{◌≡◌, ℕ, zero, suc, ◌+◌, ◌*◌, ◌-◌, ◌^◌, ◌<◌, ◌≤◌, inl, inr, Bool, true, List, [], ◌∷◌, map, length, get_or, sum, sum_by, All, Contains, Some, slice_get, refl, ap, sym, ◌∙◌, subst, arith, zero-add}
use Rattle.std.specs.Prelude.{slice_index_or}
use Rattle.std.specs.List.{range_with_len}
use Rattle.std.proofs.Math.Nat.{pow-suc, one-le-pow}
use Rattle.std.proofs.lemmas.Bool.{cases_lt}
use Rattle.std.proofs.lemmas.Nat.{mul-le}
use Rattle.std.proofs.lemmas.Option.{slice_get-get_or, get_or_from_slice_get, slice_get_within}
use Rattle.std.proofs.lemmas.List.FromFn.{get_or-range_with_len, length-range_with_len, length-map-range_with_len}
use Rattle.std.proofs.lemmas.List.Sums.{sum_by-le}
use Rattle.pc_lits.specs.declared.literal.Lit.{Lit}
use Rattle.pc_lits.specs.declared.literal.Var.{Var}
use Rattle.pc_lits.specs.declared.tally.Tally.{Tally}
use Rattle.pc_lits.specs.Literals.{negated}
use Rattle.pc_log.specs.Lines.{LogLine}
use Rattle.pc_lemmas.proofs.Elements.{contains_first, contains_cases, contains_none, contains_map, contains_mapped}
use Rattle.pc_sheet.specs.Sheet.{Universe, Sheet, NamedStatement}
use Rattle.pc_sheet.specs.Entailment.{cell_sizes}
use Rattle.pc_sheet.specs.WellFormed.{IsWellFormed}
use Rattle.pc_laws.proofs.SomeAssignment.{family_sizes}
use Rattle.pc_accept.specs.Literals.{Literal, positive, node}
use Rattle.pc_ground.specs.Variables.{pair_at, nodes_of_rule, variable_count}
use Rattle.pc_ground.specs.Ground.{GroundAxiom, some_axiom, one_axioms, node_axioms, root_axiom, axioms, lit_of, clause_of_axiom, clauses}
use Rattle.pc_ground.proofs.Lists.{each_there, there_each}
use Rattle.pc_components.proofs.Inside.{rule_there}
use Rattle.pc_components.proofs.PartFor.{contains_slice, slice_map}
use Rattle.pc_components.proofs.Symbols.{cell_there}
use Rattle.pc_problem.specs.Laws.{problem_of}
use Rattle.pc_problem.proofs.Made.{literal_below, at_slice}
use Rattle.pc_solver.specs.Clauses.{used_clauses}
use Rattle.pc_solver.specs.Solver.{clauses_used}
use Rattle.pc_solver.specs.Spending.{marked}
use Rattle.pc_theory.specs.WholeSpendings.{all_axioms, all_variables, variable_of, IsWholeLog, IsWholeSpending}
use Rattle.pc_enough_laws.specs.Laws.{WholeSpendingsLearnFew, EnoughIsNeverSpentWhole}
use Rattle.pc_enough_laws.proofs.Given.{HasGiven, not_both}
use Rattle.pc_enough_laws.proofs.Learning.{learn_most, logs_learn_few}

is_number : (n k : ℕ) → k < n → Contains (range_with_len 0 n) k
is_number n k l = (k, omega (arith, l, length-range_with_len 0 n), get_or-range_with_len 0 n k k l ∙ zero-add k)

many : (sheet : Sheet) → length (all_variables sheet) ≡ variable_count sheet
many sheet = length-map-range_with_len variable_of 0 (variable_count sheet)

-- ---- an axiom whose literals are all positive

no_sizes : (ns : List ℕ) → length ns ≤ 0 → sum ns ≡ 0
no_sizes [] h = refl
no_sizes (n ∷ ns) h = absurd (omega (arith, h))

first_rule : (u : Universe) (rules : List NamedStatement) → 1 ≤ sum_by (nodes_of_rule u) rules → (rule : NamedStatement) × (slice_get rules 0 ≡ Some rule)
first_rule u [] h = absurd (omega (arith, h))
first_rule u (rule ∷ rules) h = (rule, refl)

module _ (sheet : Sheet) where
  from_positive : (g : GroundAxiom) → Contains (axioms sheet) g → ((l : Literal) → Contains g.clause l → l.sign ≡ true) → (l : Literal) → Contains g.clause l → HasGiven sheet (all_axioms sheet) (all_variables sheet)
  from_positive g there all_positive l has =
      let clause = clause_of_axiom sheet g in
      let place = contains_slice (axioms sheet) g there in
      let at : slice_get (clauses sheet) place.0 ≡ Some clause = slice_map (clause_of_axiom sheet) (axioms sheet) place.0 g place.1 in
      let in_used : Contains (all_axioms sheet) place.0 = is_number (length (clauses sheet)) place.0 (slice_get_within (clauses sheet) place.0 clause at) in
      let signed : (m : Lit) → Contains clause m → m.sign ≡ true = λ m h. let k = contains_mapped (lit_of sheet) g.clause m h in ap (λ (x : Lit). x.sign) (sym k.2) ∙ all_positive k.0 k.1 in (
        clause,
        subst (Contains (used_clauses (clauses sheet) (all_axioms sheet))) (get_or_from_slice_get (clauses sheet) place.0 clause [] at) (contains_map (λ n. slice_index_or (clauses sheet) n []) (all_axioms sheet) place.0 in_used),
        record {
          over = λ m h.
              contains_map variable_of (range_with_len 0 (variable_count sheet)) m.variable.0
              (is_number (variable_count sheet) m.variable.0 (literal_below sheet clause m (at_slice (clauses sheet) place.0 clause at) h));
          plain = λ t. not_both t.0.sign (signed t.0 t.1) (signed (negated t.0) t.2);
        },
        lit_of sheet l,
        contains_map (lit_of sheet) g.clause l has,
      )

  whole_has : IsWellFormed sheet → 1 ≤ variable_count sheet → HasGiven sheet (all_axioms sheet) (all_variables sheet)
  whole_has formed some = elim (cases_lt 0 (length (cell_sizes sheet.universe))) [
    | inl low ↦
        let sizes = cell_sizes sheet.universe in
        let n = get_or sizes 0 0 in
        let at : slice_get sizes 0 ≡ Some n = slice_get-get_or sizes 0 0 low in
        let one : 0 < n = family_sizes sheet.universe formed.universe sheet.universe.families formed.universe.families 0 0 low in
        let g = some_axiom 0 n in
        from_positive g (cell_there sheet 0 n at g (contains_first g (one_axioms 0 0 n)))
        (λ l h. let e = there_each n (λ v. positive (pair_at 0 v)) l h in ap (λ (x : Literal). x.sign) (sym e.2)) (positive (pair_at 0 0)) (each_there n (λ v. positive (pair_at 0 v)) 0 one)
    | inr none ↦
        let no_pairs = no_sizes (cell_sizes sheet.universe) none in
        let rule = first_rule sheet.universe sheet.rules (omega (arith, some, no_pairs)) in
        let g = root_axiom 0 in
        let only = positive (node 0 []) in
        from_positive g (rule_there sheet 0 rule.0 rule.1 g (contains_first g (node_axioms sheet.universe 0 [] [] rule.0.states)))
        (λ l h. elim (contains_cases only [] l h) [ inl is ↦ ap (λ (x : Literal). x.sign) (sym is) | inr past ↦ absurd (contains_none l past) ]) only (contains_first only [])
  ]

-- ---- what is learned

three_logs : (logs : List (List LogLine)) (most : ℕ) → All (λ log. marked log ≤ most) logs → length logs ≤ 3 → sum_by marked logs ≤ 3 * most
three_logs logs most each few =
    let total : sum_by marked logs ≤ length logs * most = sum_by-le marked most logs each in
    let product : length logs * most ≤ 3 * most = mul-le (length logs) most 3 most few (omega arith) in
    omega (arith, total, product)

next_power : (v : ℕ) → 3 ^ (v + 1) ≡ 3 ^ v * 3
next_power v = let next : v + 1 ≡ suc v = omega arith in rw next (pow-suc 3 v)

pub whole_learns_few : WholeSpendingsLearnFew
whole_learns_few sheet logs tally spent =
    let v = variable_count sheet in
    let each : All (λ log. marked log ≤ 3 ^ v) logs = λ k d l.
    let log = get_or logs k d in
    let good : IsWholeLog sheet log = spent.lawful k d l in
    subst (λ n. marked log ≤ 3 ^ n) (many sheet) (learn_most (all_variables sheet) (clauses_used (problem_of sheet (all_axioms sheet) (all_variables sheet) [])) log good.lawful.over_own good.lawful.new) in
    omega (arith, three_logs logs (3 ^ v) each spent.few_logs, next_power v, spent.learned)

learns_less : (sheet : Sheet) → IsWellFormed sheet → 1 ≤ variable_count sheet → (logs : List (List LogLine)) (tally : Tally) → IsWholeSpending sheet logs tally → tally.learned < 3 ^ (variable_count sheet + 1)
learns_less sheet formed some logs tally spent =
    let v = variable_count sheet in
    let given = whole_has sheet formed some in
    let one : 1 ≤ 3 ^ v = one-le-pow v 3 (omega arith) in
    let each : All (λ log. marked log ≤ 3 ^ v - 1) logs = λ k d l.
    let log = get_or logs k d in
    let good : IsWholeLog sheet log = spent.lawful k d l in
    let less : marked log < 3 ^ v = subst (λ n. marked log < 3 ^ n) (many sheet) (logs_learn_few (problem_of sheet (all_axioms sheet) (all_variables sheet) []) given.0 given.1 given.2 good.blocks log good.lawful) in
    omega (arith, less) in
    omega (arith, one, three_logs logs (3 ^ v - 1) each spent.few_logs, next_power v, spent.learned)

pub never_spent_whole : EnoughIsNeverSpentWhole
never_spent_whole sheet formed most logs tally few some enough spent =
    let v = variable_count sheet in
    elim (cases_lt 0 v) [
      | inl one ↦
          let x = tally.learned + tally.calls in
          let all = 3 ^ (v + 1) + most in
          let below : x + 1 ≤ all = omega (arith, learns_less sheet formed one logs tally spent.spending, few) in
          let product : v * (x + 1) ≤ v * all = mul-le v (x + 1) v all (omega arith) below in
          let split : v * (x + 1) ≡ v * x + v = omega arith in
          absurd (omega (arith, one, product, split, spent.spending.placed, spent.all_placed, enough))
      | inr none ↦
          let zero_v : v ≡ 0 = omega (arith, none) in
          let nothing : v * (tally.learned + tally.calls) ≡ 0 = subst (λ n. n * (tally.learned + tally.calls) ≡ 0) (sym zero_v) (omega arith) in
          absurd (omega (arith, nothing, spent.spending.placed, spent.all_placed, some))
    ]
