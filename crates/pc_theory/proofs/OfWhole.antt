-- What searches spend that take the kept ones of the parts' axioms is lawful for all of them.
use Rattle.std.proofs.Common.{◌≡◌, ℕ, ◌+◌, ◌*◌, ◌<◌, ◌≤◌, Bool, true, inl, List, [], ◌∷◌, map, length, get_or, All, Contains, Option, Some, slice_get, ap, sym, ◌∙◌, subst, arith}
use Rattle.std.specs.List.{AllZip}
use Rattle.std.proofs.lemmas.List.{length-map}
use Rattle.std.proofs.lemmas.List.Elements.{All-contains}
use Rattle.std.proofs.lemmas.Option.{slice_get_within, slice_get-get_or, get_or_from_slice_get}
use Rattle.std.proofs.Math.Nat.{mul-le-mul_left}
use Rattle.pc_lemmas.proofs.Elements.{all_from, contains_map, contains_mapped, zip_weaker}
use Rattle.pc_lits.specs.declared.literal.Var.{Var}
use Rattle.pc_lits.specs.declared.literal.Lit.{Lit}
use Rattle.pc_log.specs.Lines.{LogLine}
use Rattle.pc_lits.specs.Clauses.{IsSubclause}
use Rattle.pc_sheet.specs.Sheet.{Sheet}
use Rattle.pc_sheet.specs.WellFormed.{IsWellFormed}
use Rattle.pc_sheet.specs.declared.ids.CellId.{CellId}
use Rattle.pc_ground.specs.Ground.{axioms, clauses, clause_of_axiom, lit_of}
use Rattle.pc_parts.specs.Parts.{Part}
use Rattle.pc_parts.specs.Components.{parts_of}
use Rattle.pc_components.specs.PartAxioms.{AreAxiomsOf, AreVariablesOf, IsUsed}
use Rattle.pc_components.specs.View.{Kept, number_of, variable_number, AreComponentsOf}
use Rattle.pc_problem.specs.Laws.{problem_of}
use Rattle.pc_problem.proofs.Made.{of_number}
use Rattle.pc_solver.specs.Forced.{IsForcedNext, AreForced, IsForced}
use Rattle.pc_solver.specs.New.{IsLearnedAt, AreNewClauses}
use Rattle.pc_solver.specs.Clauses.{used_clauses, IsOverOwn}
use Rattle.pc_solver.specs.Solver.{IsLawfulLog, IsSolverLog}
use Rattle.pc_lits.specs.Values.{MakesTrue}
use Rattle.pc_kept.specs.Kept.{IsAmong}
use Rattle.pc_kept.specs.ByPolarity.{AreKeptByPolarity, NoneIsContainedByPolarity}
use Rattle.pc_kept.specs.Components.{AreKeptOf}
use Rattle.pc_kept.proofs.MarkedLemmas.{no_more_ordered}
use Rattle.pc_theory.specs.Theories.{rules_alone, IsPartNumbered}
use Rattle.pc_theory.specs.Spendings.{IsGoodLog, IsPartSpending, IsSpentOn}
use Rattle.pc_theory.specs.inside.Tasks.{IsKeptOf, AreSearchedParts}
use Rattle.pc_theory.specs.inside.Spent.{IsSearchedLog, IsSearchedSpending, IsSearchedOn}
use Rattle.pc_theory.specs.declared.spending.PartSpending.{PartSpending}
use Rattle.pc_theory.proofs.Lists.{at_within, within_at, zip_at, zip_length}
use Rattle.pc_theory.proofs.OfRules.{axioms_here, variables_here, kept_here}

-- ---- the parts with the axioms that searches take

zip_joined : {X Y Z : Type 0} (R : X → Y → Type 0) (S : Y → Z → Type 0) (xs : List X) (ys : List Y) (zs : List Z) → AllZip R xs ys → AllZip S ys zs → AllZip (λ x z. (y : Y) × R x y × S y z) xs zs
zip_joined R S [] [] [] h g = tt
zip_joined R S [] [] (z ∷ zs) h g = absurd g
zip_joined R S [] (y ∷ ys) zs h g = absurd h
zip_joined R S (x ∷ xs) [] zs h g = absurd h
zip_joined R S (x ∷ xs) (y ∷ ys) [] h g = absurd g
zip_joined R S (x ∷ xs) (y ∷ ys) (z ∷ zs) h g = ((y, h.0, g.0), zip_joined R S xs ys zs h.1 g.1)

pub searched_parts : (sheet : Sheet) (whole kept : Kept) → AreComponentsOf sheet whole → AreKeptOf sheet whole kept → AreSearchedParts sheet kept
searched_parts sheet whole kept are chosen = record {
  cells = ap (map (map number_of)) chosen.cells ∙ are.cells;
  axioms = zip_joined (AreAxiomsOf sheet) (AreKeptByPolarity sheet kept.banned) (parts_of sheet) whole.axioms kept.axioms are.axioms chosen.axioms;
  variables = chosen.variables;
  many_numbers = ap length chosen.numbers ∙ are.many_numbers;
  numbers = λ c below. let n = are.numbers c below in (n.0, ap (λ ns. slice_get ns c) chosen.numbers ∙ n.1, n.2);
}

none_made : (l : Lit) → MakesTrue [] l → ⊥
none_made l h = absurd (cc)

-- all axioms may be taken
pub all_searched : (sheet : Sheet) (whole : Kept) → AreComponentsOf sheet whole → AreSearchedParts sheet whole
all_searched sheet whole are = record {
  cells = are.cells;
  axioms = zip_weaker (AreAxiomsOf sheet) (IsKeptOf sheet whole.banned)
      (λ part used h. (used, h, record { among = λ k has. has; each = λ k g has at. inl has; order = h.order; only = λ l there bans. absurd (none_made (lit_of sheet l) (subst (λ bs. MakesTrue bs (lit_of sheet l)) are.banned bans)) })) (parts_of sheet) whole.axioms are.axioms;
  variables = are.variables;
  many_numbers = are.many_numbers;
  numbers = are.numbers;
}

-- ---- one part

placed_more : (a b n p : ℕ) → a ≤ b → p ≤ a * n → p ≤ b * n
placed_more a b n p few h =
    let more : n * a ≤ n * b = mul-le-mul_left n few in
    let one : a * n ≡ n * a = grind arith in
    let two : b * n ≡ n * b = grind arith in
    omega (arith, h, more, one, two)

-- the variables of some of its axioms are some of its variables
module _ (store : List (List Lit)) (used kept : List ℕ) (among : (k : ℕ) → Contains kept k → Contains used k) (own taken : List Var) (variables : AreVariablesOf store used (map variable_number own))
    (taken_are : AreVariablesOf store kept (map variable_number taken)) where
  number_there : (x : ℕ) → Contains (map variable_number taken) x → Contains (map variable_number own) x
  number_there x h = let u = (taken_are.exact x).0 h in (variables.exact x).1 (u.0, among u.0 u.1, u.2, u.3, u.4, u.5, u.6)

  variable_there : (v : Var) → Contains taken v → Contains own v
  variable_there v h = of_number own v.0 (number_there v.0 (contains_map variable_number taken v h))

  pub no_more : length taken ≤ length own
  no_more = omega (arith, no_more_ordered (map variable_number taken) (map variable_number own) taken_are.order variables.order number_there, length-map taken variable_number, length-map own variable_number)

forced_there : (store : List (List Lit)) (kept : List ℕ) (trues : List Lit) → AreForced (IsAmong store kept) trues → AreForced (Contains (used_clauses store kept)) trues
forced_there store kept [] h = tt
forced_there store kept (l ∷ trues) h = (
  (h.0.0, subst (Contains (used_clauses store kept)) (get_or_from_slice_get store h.0.1.0 h.0.0 [] h.0.1.2) (contains_map (λ n. get_or store n []) kept h.0.1.0 h.0.1.1), h.0.2, h.0.3),
  forced_there store kept trues h.1,
)

module _ (none : NoneIsContainedByPolarity) (sheet : Sheet) (formed : IsWellFormed sheet) (part : Part) (used kept : List ℕ) (own taken : List Var) (axioms_are : AreAxiomsOf sheet part used) (banned : List (Option Bool)) (kept_are : AreKeptByPolarity sheet banned used kept)
    (variables : AreVariablesOf (clauses sheet) used (map variable_number own)) (taken_are : AreVariablesOf (clauses sheet) kept (map variable_number taken)) where
  -- the clause of a used number
  used_at : (clause : List Lit) → Contains (used_clauses (clauses sheet) used) clause → (k : ℕ) × Contains used k × (slice_get (clauses sheet) k ≡ Some clause)
  used_at clause has =
      let u = contains_mapped (λ n. get_or (clauses sheet) n []) used clause has in
      let g = (axioms_are.exact u.0).0 u.1 in
      let below = slice_get_within (axioms sheet) u.0 g.0 g.1 in
      (u.0, u.1, slice_get-get_or (clauses sheet) u.0 [] (omega (arith, below, length-map (axioms sheet) (clause_of_axiom sheet))) ∙ ap Some u.2)

  kept_there : (k : ℕ) (clause : List Lit) → Contains kept k → slice_get (clauses sheet) k ≡ Some clause → Contains (used_clauses (clauses sheet) kept) clause
  kept_there k clause has at = subst (Contains (used_clauses (clauses sheet) kept)) (get_or_from_slice_get (clauses sheet) k clause [] at) (contains_map (λ n. get_or (clauses sheet) n []) kept k has)

  module _ (blocks : List (List Lit)) (log : List LogLine) (h : IsSolverLog (problem_of sheet kept taken banned) blocks log) where
    no_axiom : (i : ℕ) (clause axiom_clause : List Lit) → IsLearnedAt log i clause → Contains (used_clauses (clauses sheet) used) axiom_clause → ¬ IsSubclause axiom_clause clause
    no_axiom i clause axiom_clause at has =
        let u = used_at axiom_clause has in
        none sheet formed used kept (map variable_number taken) banned kept_are taken_are clause
        (λ l there. contains_map variable_number taken l.variable (All-contains (λ (m : Lit). Contains taken m.variable) clause l (h.over_own i clause at.0 true at.1) there))
        (λ l there forced. h.avoids i clause at l there (forced.0, forced_there (clauses sheet) kept forced.0 forced.1, forced.2))
        (λ l there bans. h.free i clause at l there bans)
        (λ k c k_in c_at. h.new.no_axiom i clause c at (kept_there k c k_in c_at))
        u.0 axiom_clause u.1 u.2

    lawful_whole : IsLawfulLog (problem_of sheet used own []) blocks log
    lawful_whole = record {
      derivation = h.derivation;
      axioms = λ i number at. kept_are.among number (h.axioms i number at);
      blocks_are = h.blocks_are;
      over_own = λ i clause hints learned at. all_from (λ (l : Lit). Contains own l.variable) clause
          (λ l has. variable_there (clauses sheet) used kept kept_are.among own taken variables taken_are l.variable (All-contains (λ (m : Lit). Contains taken m.variable) clause l (h.over_own i clause hints learned at) has));
      new = record { no_tautology = h.new.no_tautology; no_axiom = no_axiom; no_learned = h.new.no_learned; no_block_line = h.new.no_block_line };
    }

  good_whole : (log : List LogLine) → IsSearchedLog sheet part kept taken banned log → IsGoodLog sheet part used own log
  good_whole log h = record { blocks = h.blocks; lawful = lawful_whole h.blocks log h.lawful; of_sets = h.of_sets }

  pub part_whole : (s : PartSpending) → IsSearchedSpending sheet part kept taken banned s → IsPartSpending sheet part used own s
  part_whole s h =
      let few = no_more (clauses sheet) used kept kept_are.among own taken variables taken_are in
      record {
        placed = placed_more (length taken) (length own) (s.tally.learned + s.tally.calls) s.tally.placed few h.placed;
        few_calls = h.few_calls;
        few_logs = h.few_logs;
        learned = h.learned;
        logs = λ i d below. good_whole (get_or s.logs.items i d) (h.logs i d below);
      }

-- ---- a part of that number

pub spent_whole : NoneIsContainedByPolarity → (sheet : Sheet) → IsWellFormed sheet → (whole kept : Kept) → AreComponentsOf (rules_alone sheet) whole → AreKeptOf (rules_alone sheet) whole kept → (touched : Option CellId) (s : PartSpending)
    → IsSearchedOn sheet touched kept s → IsSpentOn sheet touched whole s
spent_whole none sheet formed whole kept are chosen touched s on =
    let alone = rules_alone sheet in
    let i = s.part in
    let many_axioms = zip_length (AreKeptByPolarity alone kept.banned) whole.axioms kept.axioms chosen.axioms in
    let used = within_at whole.axioms i (omega (arith, at_within kept.axioms i on.used on.used_are, many_axioms)) in
    let many = zip_length (λ us os. AreVariablesOf (clauses alone) us (map variable_number os)) whole.axioms whole.variables are.variables in
    let own = within_at whole.variables i (omega (arith, at_within whole.axioms i used.0 used.1, many)) in
    let axioms_are = zip_at (AreAxiomsOf alone) (parts_of alone) whole.axioms i on.part used.0 are.axioms on.numbered used.1 in
    let kept_are = zip_at (AreKeptByPolarity alone kept.banned) whole.axioms kept.axioms i used.0 on.used chosen.axioms used.1 on.used_are in
    let variables = zip_at (λ us os. AreVariablesOf (clauses alone) us (map variable_number os)) whole.axioms whole.variables i used.0 own.0 are.variables used.1 own.1 in
    let taken_are = zip_at (λ us os. AreVariablesOf (clauses alone) us (map variable_number os)) kept.axioms kept.variables i on.used on.own chosen.variables on.used_are on.own_are in
    record {
      part = on.part;
      used = used.0;
      own = own.0;
      numbered = on.numbered;
      used_are = used.1;
      own_are = own.1;
      is_touched = on.is_touched;
      spent = part_whole none sheet formed on.part used.0 on.used own.0 on.own (axioms_here sheet on.part used.0 axioms_are) kept.banned (kept_here sheet kept.banned used.0 on.used kept_are) (variables_here sheet used.0 (map variable_number own.0) variables)
          (variables_here sheet on.used (map variable_number on.own) taken_are) s on.spent;
    }
