-- Spendings with a log, of the sheet in which a and b are equal and of two pairs.
use Rattle.std.proofs.Common.{◌≡◌, ◌≢◌, ℕ, zero, suc, ◌+◌, ◌<◌, ◌≤◌, ◌↔◌, inl, inr, Bool, true, ◌&&◌, ltb, List, [], ◌∷◌, Option, None, Some, All, AllPairs, Contains, length, map, sum_by, slice_get, get_or, arith, ap, refl, sym, ◌∙◌, subst}
use Rattle.std.specs.List.{AllZip, range_with_len}
use Rattle.std.proofs.lemmas.Bool.Decides.{Decides-ltb, Decides-by_and}
use Rattle.std.proofs.lemmas.Option.{slice_get_within, slice_get-get_or, get_or_from_slice_get}
use Rattle.std.proofs.lemmas.List.Elements.{All-from_recursion, All-nil, All-cons, All-head, All-contains}
use Rattle.std.proofs.lemmas.List.FromFn.{length-range_with_len, get_or-range_with_len}
use Rattle.pc_lits.specs.declared.literal.Var.{Var}
use Rattle.pc_lits.specs.declared.literal.Lit.{Lit}
use Rattle.pc_log.specs.Lines.{LogLine, AxiomLine}
use Rattle.pc_sheet.specs.Sheet.{Sheet}
use Rattle.pc_sheet.specs.declared.ids.CellId.{CellId}
use Rattle.pc_laws.specs.Examples.{red, green, entry, equal_cells, two_pairs, equals}
use Rattle.pc_lemmas.proofs.Elements.{contains_first, contains_cases, contains_none, contains_map}
use Rattle.pc_accept.specs.Axioms.{Axiom, axiom_rule}
use Rattle.pc_parts.specs.Pieces.{Piece, piece}
use Rattle.pc_parts.specs.Parts.{Part}
use Rattle.pc_parts.specs.Components.{parts_of}
use Rattle.pc_ground.specs.Ground.{GroundAxiom, axioms, clauses, root_axiom}
use Rattle.pc_components.specs.PartAxioms.{IsAtOrUnder, IsAxiomOfPart, OfSomePiece, AreAxiomsOf, IsUsed, AreVariablesOf}
use Rattle.pc_components.specs.View.{Kept, IsInPart, AreComponentsOf, variable_number}
use Rattle.pc_solver.specs.Solver.{clauses_used}
use Rattle.pc_solver.specs.Spending.{marked}
use Rattle.pc_problem.specs.Laws.{problem_of}
use Rattle.pc_theory.specs.Theories.{rules_alone}
use Rattle.pc_theory.specs.Spendings.{IsSetOf, IsGoodLog, IsPartSpending, IsTouched, IsSpentOn, IsLawful, placed_of, learned_of, calls_of}
use Rattle.pc_theory.specs.declared.spending.PartSpending.{PartSpending}
use Rattle.pc_theory.specs.declared.spending.Spending.{Spending}
use Rattle.pc_worked_laws.specs.Logs.{equal_clauses, all_axioms, all_variables, good_log, with_hint_missing, with_tautology, with_axiom_learned, with_clause_twice, with_large_block}
use Rattle.pc_worked_laws.specs.Trails.{plus}
use Rattle.pc_worked_laws.specs.Spendings.{IsOfLog, WorkedLogSpendings}
use Rattle.pc_worked_laws.proofs.SpendingsHold.{on_first, numbered, is_numbered, whole, sets}
use Rattle.pc_worked_laws.proofs.LogsHold.{below_there, there_below, hint_missing, learned_tautology, learned_axiom, learned_twice, of_no_set, of_red}

-- ---- the one part of the equal cells

abbrev rules : Sheet
rules = rules_alone equal_cells

abbrev pair_piece : Piece
pair_piece = piece 0 [] [] (equals 0 1)

one_piece : (P : Piece → Type 0) → P pair_piece → OfSomePiece whole P
one_piece P is = (pair_piece, contains_first pair_piece [], is)

abbrev IsOfWhole : GroundAxiom → Type 0
IsOfWhole g = IsAxiomOfPart whole g.name

each_axiom : All IsOfWhole (axioms rules)
each_axiom =
    let first : Contains {X = ℕ} (0 ∷ 1 ∷ []) 0 = contains_first 0 (1 ∷ []) in
    let second : Contains {X = ℕ} (0 ∷ 1 ∷ []) 1 = (1, omega arith, refl) in
    let root : OfSomePiece whole (λ p. p.path.rule ≡ 0) = one_piece (λ p. p.path.rule ≡ 0) refl in
    let leaf : OfSomePiece whole (IsAtOrUnder 0 []) = one_piece (IsAtOrUnder 0 []) (refl, [], refl) in
    All-from_recursion IsOfWhole (axioms rules) (first, (first, (second, (second, (root, (leaf, (leaf, (leaf, (leaf, tt)))))))))

no_axiom : GroundAxiom
no_axiom = root_axiom 0

nine : length (axioms rules) ≡ 9
nine = refl

exact_axioms : (k : ℕ) → Contains all_axioms k ↔ ((g : GroundAxiom) × (slice_get (axioms rules) k ≡ Some g) × IsOfWhole g)
exact_axioms k = (
  λ c.
      let less : k < length (axioms rules) = omega (arith, there_below 9 k c, nine) in
      (get_or (axioms rules) k no_axiom, slice_get-get_or (axioms rules) k no_axiom less, each_axiom k no_axiom less),
  λ (g, at, is). below_there 9 k (omega (arith, slice_get_within (axioms rules) k g at, nine)),
)

in_order : (n : ℕ) → AllPairs (λ j k. j < k) (range_with_len 0 n)
in_order n i j d below within =
    let less : j < n = omega (arith, within, length-range_with_len 0 n) in
    omega (arith, below, get_or-range_with_len 0 n i d (omega (arith, below, less)), get_or-range_with_len 0 n j d less)

axioms_of_whole : AreAxiomsOf rules whole all_axioms
axioms_of_whole = record { exact = exact_axioms; order = in_order 9 }

abbrev IsLow : Lit → Type 0
IsLow l = l.variable.0 < 5

abbrev are_low : List Lit → Bool
are_low [] = true
are_low (l ∷ ls) = ltb l.variable.0 5 && are_low ls

abbrev all_low : List (List Lit) → Bool
all_low [] = true
all_low (c ∷ cs) = are_low c && all_low cs

low_variables : All (All IsLow) equal_clauses
low_variables =
    (Decides-by_and are_low (All IsLow) all_low
    (λ c. Decides-by_and (λ (l : Lit). ltb l.variable.0 5) IsLow are_low (λ l. Decides-ltb l.variable.0 5) refl (λ _ _. refl) c)
    refl (λ _ _. refl) equal_clauses).0 refl

used_variable : (x : ℕ) → x < 5 → IsUsed equal_clauses all_axioms x
used_variable zero less = (0, below_there 9 0 (omega arith), _, refl, plus 0, (0, omega arith, refl), refl)
used_variable (suc zero) less = (0, below_there 9 0 (omega arith), _, refl, plus 1, (1, omega arith, refl), refl)
used_variable (suc (suc zero)) less = (2, below_there 9 2 (omega arith), _, refl, plus 2, (0, omega arith, refl), refl)
used_variable (suc (suc (suc zero))) less = (2, below_there 9 2 (omega arith), _, refl, plus 3, (1, omega arith, refl), refl)
used_variable (suc (suc (suc (suc zero)))) less = (4, below_there 9 4 (omega arith), _, refl, plus 4, (0, omega arith, refl), refl)
used_variable (suc (suc (suc (suc (suc x))))) less = absurd (omega (arith, less))

variable_used : (x : ℕ) → IsUsed equal_clauses all_axioms x → x < 5
variable_used x (k, c, clause, at, l, there, is) =
    let low : All IsLow clause = subst (All IsLow) (get_or_from_slice_get equal_clauses k clause clause at) (low_variables k clause (slice_get_within equal_clauses k clause at)) in
    let less : l.variable.0 < 5 = All-contains IsLow clause l low there in
    omega (arith, less, is)

variables_of_whole : AreVariablesOf (clauses rules) all_axioms (map variable_number all_variables)
variables_of_whole = record { exact = λ x. (λ c. used_variable x (there_below 5 x c), λ u. below_there 5 x (variable_used x u)); order = in_order 5 }

abbrev kept : Kept
kept = record { cells = ((record { 0 = 0 }) ∷ (record { 0 = 1 }) ∷ []) ∷ []; axioms = all_axioms ∷ []; variables = all_variables ∷ []; numbers = 0 ∷ 0 ∷ []; banned = [] }

numbered_cells : (c : ℕ) → c < 2 → (i : ℕ) × (slice_get kept.numbers c ≡ Some i) × IsInPart rules c i
numbered_cells zero less = (0, refl, (whole, refl, (0, omega arith, refl)))
numbered_cells (suc zero) less = (0, refl, (whole, refl, (1, omega arith, refl)))
numbered_cells (suc (suc c)) less = absurd (omega (arith, less))

components : AreComponentsOf rules kept
components = record {
  cells = refl;
  axioms = (axioms_of_whole, tt);
  variables = (variables_of_whole, tt);
  many_numbers = refl;
  numbers = numbered_cells;
  banned = refl;
}

-- ---- the lawful spending

abbrev of_whole : List LogLine → Type 0
of_whole log = IsGoodLog equal_cells whole all_axioms all_variables log

good : of_whole good_log
good = of_red (IsSetOf equal_cells whole) ((sets.exact (entry 0 red ∷ [])).0 (contains_first (entry 0 red ∷ []) ((entry 1 green ∷ []) ∷ [])))

spent : (p : PartSpending) → p.tally.placed ≡ 5 → p.tally.learned ≡ 1 → p.tally.calls ≡ 2 → p.logs.items ≡ good_log ∷ [] → IsPartSpending equal_cells whole all_axioms all_variables p
spent p placed learned calls logs = record {
  placed = omega (arith, placed, learned, calls);
  few_calls = λ all exact. few _ p.tally.calls calls;
  few_logs = omega (arith, ap length logs);
  learned = ap (sum_by marked) logs ∙ sym learned;
  logs = subst (All of_whole) (sym logs) (All-cons of_whole good_log [] good (All-nil of_whole));
}
  where
    few : (most calls : ℕ) → calls ≡ 2 → calls ≤ most + 2
    few most calls is = omega (arith, is)

abbrev none_touched : Option CellId
none_touched = None

alone : {X : Type 0} (R : X → X → Type 0) (x : X) → AllPairs R (x ∷ [])
alone R x i j d below within = absurd (omega (arith, below, within))

lawful : (touched : Option CellId) (s : Spending) → IsTouched touched whole → IsOfLog s good_log → IsLawful equal_cells touched 5 s
lawful touched s is h =
    let p = h.only in
    let on : IsSpentOn equal_cells touched kept p =
    record {
      part = whole;
      used = all_axioms;
      own = all_variables;
      numbered = ap (slice_get (parts_of rules)) h.number;
      used_are = ap (slice_get kept.axioms) h.number;
      own_are = ap (slice_get kept.variables) h.number;
      is_touched = is;
      spent = spent p h.spent.placed_is h.spent.learned_is h.spent.calls_is h.logs_are;
    }
    in
    record {
      of_sheet = record {
        kept = kept;
        are = components;
        placed = omega (arith, ap (sum_by placed_of) h.parts, h.spent.placed_is, h.counts.placed_is);
        learned = omega (arith, ap (sum_by learned_of) h.parts, h.spent.learned_is, h.counts.learned_is);
        calls = omega (arith, ap (sum_by calls_of) h.parts, h.spent.calls_is, h.counts.calls_is);
        each = subst (All (IsSpentOn equal_cells touched kept)) (sym h.parts) (All-cons (IsSpentOn equal_cells touched kept) p [] on (All-nil (IsSpentOn equal_cells touched kept)));
        different = subst (AllPairs (λ (x y : PartSpending). x.part ≢ y.part)) (sym h.parts) (alone (λ (x y : PartSpending). x.part ≢ y.part) p);
      };
      limited = h.limit_is;
      all_placed = h.counts.placed_is;
    }

-- ---- unlawful spendings

-- what the log of a lawful spending is
first_log : (sheet : Sheet) (s : Spending) (log : List LogLine) (h : IsOfLog s log) (l : IsLawful sheet None 5 s)
    → (part : Part) × (part ≡ numbered sheet 0) × (used : List ℕ) × (own : List Var) × AreAxiomsOf (rules_alone sheet) part used × IsGoodLog sheet part used own log
first_log sheet s log h l =
    let on = on_first sheet None 5 s h.only [] h.parts l in (
      on.part,
      is_numbered sheet h.only.part 0 on.part h.number on.numbered,
      on.used,
      on.own,
      zip_at (AreAxiomsOf (rules_alone sheet)) (parts_of (rules_alone sheet)) l.of_sheet.kept.axioms h.only.part on.part on.used l.of_sheet.are.axioms on.numbered on.used_are,
      All-head (IsGoodLog sheet on.part on.used on.own) log [] (subst (All (IsGoodLog sheet on.part on.used on.own)) h.logs_are on.spent.logs),
    )
  where
    none : {X : Type 0} (x : X) (k : ℕ) → slice_get [] k ≡ Some x → ⊥
    none x k at = let less = slice_get_within [] k x at in omega (arith, less)

    zip_at : {X Y : Type 0} (R : X → Y → Type 0) (xs : List X) (ys : List Y) (k : ℕ) (x : X) (y : Y) → AllZip R xs ys → slice_get xs k ≡ Some x → slice_get ys k ≡ Some y → R x y
    zip_at R [] ys k x y zip at also = absurd (none x k at)
    zip_at R (z ∷ zs) [] k x y zip at also = absurd zip
    zip_at R (z ∷ zs) (w ∷ ws) zero x y zip at also =
        let first : z ≡ x = cc in
        let second : w ≡ y = cc in
        subst (λ v. R v y) first (subst (R z) second zip.0)
    zip_at R (z ∷ zs) (w ∷ ws) (suc k) x y zip at also = zip_at R zs ws k x y zip.1 at also

step_not_good : (s : Spending) → IsOfLog s with_hint_missing → ¬ IsLawful equal_cells None 5 s
step_not_good s h l =
    let (part, is, used, own, are, log) = first_log equal_cells s with_hint_missing h l in
    hint_missing (problem_of equal_cells used own []) log.blocks refl log.lawful

tautology_learned : (s : Spending) → IsOfLog s with_tautology → ¬ IsLawful equal_cells None 5 s
tautology_learned s h l =
    let (part, is, used, own, are, log) = first_log equal_cells s with_tautology h l in
    learned_tautology (clauses_used (problem_of equal_cells used own [])) log.lawful.new

clause_twice : (s : Spending) → IsOfLog s with_clause_twice → ¬ IsLawful equal_cells None 5 s
clause_twice s h l =
    let (part, is, used, own, are, log) = first_log equal_cells s with_clause_twice h l in
    learned_twice (clauses_used (problem_of equal_cells used own [])) log.lawful.new

axiom_learned : (s : Spending) → IsOfLog s with_axiom_learned → ¬ IsLawful equal_cells None 5 s
axiom_learned s h l =
    let (part, is, used, own, are, log) = first_log equal_cells s with_axiom_learned h l in
    let there : Contains used 4 = (are.exact 4).1 (root_axiom 0, refl, subst (λ (p : Part). OfSomePiece p (λ q. q.path.rule ≡ 0)) (sym is) (one_piece (λ q. q.path.rule ≡ 0) refl)) in
    learned_axiom (clauses_used (problem_of equal_cells used own [])) (contains_map (λ n. get_or (clauses equal_cells) n []) used 4 there) log.lawful.new

block_of_no_set : (s : Spending) → IsOfLog s with_large_block → ¬ IsLawful equal_cells None 5 s
block_of_no_set s h l =
    let (part, is, used, own, are, log) = first_log equal_cells s with_large_block h l in
    of_no_set (IsSetOf equal_cells whole) (problem_of equal_cells used own []) (λ set. (sets.exact set).1) (subst (λ (p : Part). IsGoodLog equal_cells p used own with_large_block) is log)

abbrev name_or : Option GroundAxiom → Axiom
name_or None = axiom_rule 0
name_or (Some g) = g.name

-- of the first pair alone
first_rule : (p : Piece) → Contains (numbered two_pairs.sheet 0).pieces p → p.path.rule ≡ 0
first_rule p c = elim (contains_cases pair_piece [] p c) [
  | inl is ↦ let rule : Piece → ℕ = λ (q : Piece). q.path.rule in ap rule (sym is)
  | inr none ↦ absurd (contains_none p none)
]

another_part : (s : Spending) → IsOfLog s (AxiomLine 13 ∷ []) → ¬ IsLawful two_pairs.sheet None 5 s
another_part s h l =
    let (part, is, used, own, are, log) = first_log two_pairs.sheet s (AxiomLine 13 ∷ []) h l in
    let (g, at, of_part) = (are.exact 13).0 (log.lawful.axioms 0 13 refl) in
    let (p, c, rule) = subst (IsAxiomOfPart (numbered two_pairs.sheet 0)) (sym (ap name_or at)) (subst (λ (q : Part). IsAxiomOfPart q g.name) is of_part) in
    let first = first_rule p c in
    omega (arith, rule, first)

four_logs : (s : Spending) (p : PartSpending) → s.parts.items ≡ p ∷ [] → length p.logs.items ≡ 4 → ¬ IsLawful equal_cells None 5 s
four_logs s p are four l =
    let on = on_first equal_cells None 5 s p [] are l in
    omega (arith, on.spent.few_logs, four)

pub log_spendings : WorkedLogSpendings
log_spendings = record {
  lawful = λ s h. lawful None s tt h;
  by_an_edit = λ s h. lawful (Some (record { 0 = 1 })) s (1, omega arith, refl) h;
  step_not_good = step_not_good;
  axiom_of_another_part = another_part;
  block_of_no_set = block_of_no_set;
  tautology_learned = tautology_learned;
  learned_twice = clause_twice;
  axiom_learned = axiom_learned;
  another_sum_learned = λ s p are one two l. omega (arith, l.of_sheet.learned, ap (sum_by learned_of) are, one, two);
  another_sum_of_calls = λ s p q are one other sum l. omega (arith, l.of_sheet.calls, ap (sum_by calls_of) are, one, other, sum);
  four_logs = four_logs;
}
