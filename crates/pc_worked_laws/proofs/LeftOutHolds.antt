-- Axioms of small sheets that are left out, and others that aren't, by computing.
use Rattle.std.proofs.Common.{◌≡◌, ◌≢◌, ℕ, zero, suc, ◌+◌, ◌<◌, inl, inr, Bool, true, false, not, ◌&&◌, ◌||◌, ◌==◌, arith, List, [], ◌∷◌, ◌++◌, get_or, Option, None, Some, slice_get, All, Contains, ap, refl, sym, ◌∙◌, subst}
use Rattle.std.specs.Bool.{Decides}
use Rattle.std.proofs.lemmas.Bool.{false≢true}
use Rattle.std.proofs.lemmas.Bool.Decides.{Decides-eqb, Decides-like, Decides-or}
use Rattle.std.proofs.lemmas.List.Elements.{All-nil, All-cons, All-contains, Contains-append_cases}
use Rattle.std.proofs.lemmas.Option.{get_or_from_slice_get}
use Rattle.pc_lits.specs.declared.literal.Lit.{Lit}
use Rattle.pc_lits.specs.declared.literal.Var.{Var}
use Rattle.pc_lits.specs.Literals.{negated}
use Rattle.pc_lits.specs.Truth.{lit_true, clause_true, IsTrueUnder}
use Rattle.pc_sheet.specs.Sheet.{Sheet}
use Rattle.pc_accept.specs.Axioms.{axiom_rule}
use Rattle.pc_accept.specs.Literals.{Symbol, pair, node, Literal, positive, negative}
use Rattle.pc_ground.specs.Ground.{GroundAxiom, axioms, lit_of, clauses}
use Rattle.pc_ground.specs.Variables.{number}
use Rattle.pc_ground.specs.Worked.{twice}
use Rattle.pc_components.specs.PartAxioms.{IsUsed}
use Rattle.pc_solver.specs.Forced.{IsForced}
use Rattle.pc_kept.specs.Kept.{IsAmong, IsNode, IsOfNode, IsUnneeded, AreMeanings, IsConstant, IsLeftOut, AreKept}
use Rattle.pc_kept.proofs.ForcedTrue.{always_true}
use Rattle.pc_laws.specs.Weights.{of_one_rule}
use Rattle.pc_lemmas.proofs.Elements.{contains_first, contains_later, contains_cases, contains_none}
use Rattle.pc_worked_laws.specs.LeftOut.{all_of_twice, always, never, true_by_part, WorkedTwice, WorkedConstants}
use Rattle.pc_worked_laws.proofs.Computing.{both}
use Rattle.pc_worked_laws.proofs.Numbers.{has_number, there, not_there, every, every_is, rise, in_order}
use Rattle.pc_worked_laws.proofs.Deciding.{any_lit, any_decides}

-- ---- used variables

abbrev names : ℕ → Option (List Lit) → Bool
names x None = false
names x (Some clause) = any_lit (λ l. l.variable.0 == x) clause

abbrev Names : ℕ → Option (List Lit) → Type 0
Names x o = (clause : List Lit) × (o ≡ Some clause) × (l : Lit) × Contains clause l × (l.variable.0 ≡ x)

abbrev clause_or : Option (List Lit) → List Lit → List Lit
clause_or None d = d
clause_or (Some clause) d = clause

same_clause : (c d : List Lit) → Some c ≡ Some d → c ≡ d
same_clause c d is = ap (λ o. clause_or o c) is

names_decides : (x : ℕ) (o : Option (List Lit)) → Decides (names x o) (Names x o)
names_decides x None = (λ e. absurd (false≢true e), λ h. absurd (none_some h.0 h.1))
  where
    none_some : (clause : List Lit) → None ≡ Some clause → ⊥
    none_some clause is = cc
names_decides x (Some clause) =
    let found = any_decides (λ l. l.variable.0 == x) (λ l. l.variable.0 ≡ x) (λ l. Decides-eqb l.variable.0 x) clause in
    Decides-like (names x (Some clause))
    (λ h. (clause, refl, h.0, h.1, h.2))
    (λ h. (h.2, subst (λ c. Contains c h.2) (sym (same_clause clause h.0 h.1)) h.3, h.4)) found

-- ---- values of the variables

abbrev value : List Bool → Var → Bool
value bs v = get_or bs v.0 false

module _ (store : List (List Lit)) where
  abbrev uses : List ℕ → ℕ → Bool
  uses [] x = false
  uses (k ∷ ks) x = names x (slice_get store k) || uses ks x

  uses_decides : (ks : List ℕ) (x : ℕ) → Decides (uses ks x) (IsUsed store ks x)
  uses_decides [] x = (λ e. absurd (false≢true e), λ h. absurd (contains_none h.0 h.1))
  uses_decides (k ∷ ks) x =
      Decides-like (uses (k ∷ ks) x)
      (λ h. elim h [ inl here ↦ (k, contains_first k ks, here.0, here.1, here.2, here.3, here.4) | inr later ↦ (later.0, contains_later k ks later.0 later.1, later.2, later.3, later.4, later.5, later.6) ])
      (λ h. elim (contains_cases k ks h.0 h.1) [ inl is ↦ inl (subst (λ j. Names x (slice_get store j)) (sym is) (h.2, h.3, h.4, h.5, h.6)) | inr later ↦ inr (h.0, later, h.2, h.3, h.4, h.5, h.6) ])
      (Decides-or (names x (slice_get store k)) (uses ks x) (names_decides x (slice_get store k)) (uses_decides ks x))

  named : (ks : List ℕ) (x : ℕ) → uses ks x ≡ true → IsUsed store ks x
  named ks x is = (uses_decides ks x).0 is

  not_named : (ks : List ℕ) (x : ℕ) → uses ks x ≡ false → ¬ IsUsed store ks x
  not_named ks x fails h = false≢true (sym fails ∙ (uses_decides ks x).1 h)

  abbrev meets : List Bool → ℕ → Bool
  meets bs k = clause_true (value bs) (get_or store k [])

  -- some values make all of the clauses true, and it false
  not_forced : (bs : List Bool) (ks : List ℕ) (l : Lit) → every (meets bs) ks ≡ true → lit_true (value bs) l ≡ false → ¬ IsForced (IsAmong store ks) l
  not_forced bs ks l all fails h = false≢true (sym fails ∙ always_true (IsAmong store ks) (value bs) met l h)
    where
      met : (clause : List Lit) → IsAmong store ks clause → IsTrueUnder (value bs) clause
      met clause (k, has, at) = subst (IsTrueUnder (value bs)) (get_or_from_slice_get store k clause [] at) (every_is (meets bs) ks all k has)

  -- it is a clause by itself
  forced : (ks : List ℕ) (k : ℕ) (l : Lit) → has_number ks k ≡ true → slice_get store k ≡ Some (l ∷ []) → IsForced (IsAmong store ks) l
  forced ks k l has at = (l ∷ [], ((l ∷ [], (k, there ks k has, at), contains_first l [], others), tt), contains_first l [])
    where
      others : (m : Lit) → Contains (l ∷ []) m → m ≢ l → Contains [] (negated m)
      others m stands other = elim (contains_cases l [] m stands) [ inl is ↦ absurd (other (sym is)) | inr none ↦ absurd (contains_none m none) ]

-- ---- axioms and their literals

abbrev none : GroundAxiom
none = record { name = axiom_rule 0; clause = [] }

abbrev ground : Sheet → ℕ → GroundAxiom
ground sheet k = get_or (axioms sheet) k none

abbrev is_node : Symbol → Bool
is_node (pair c v) = false
is_node (node r path) = true

node_passes : (s : Symbol) (b : Bool) → not (is_node s) || b ≡ true → IsNode s → b ≡ true
node_passes (pair c v) b is of = absurd of
node_passes (node r path) b is of = is

-- each literal passes
abbrev each_literal : (Literal → Bool) → List Literal → Bool
each_literal p [] = true
each_literal p (l ∷ ls) = p l && each_literal p ls

literal_passes : (p : Literal → Bool) (ls : List Literal) → each_literal p ls ≡ true → (l : Literal) → Contains ls l → p l ≡ true
literal_passes p [] all l has = absurd (contains_none l has)
literal_passes p (x ∷ xs) all l has =
    let parts = both (p x) (each_literal p xs) all in
    elim (contains_cases x xs l has) [ inl is ↦ subst (λ y. p y ≡ true) is parts.0 | inr later ↦ literal_passes p xs parts.1 l later ]

false_from : (b : Bool) → not b ≡ true → b ≡ false
false_from true is = absurd (false≢true is)
false_from false is = refl

module _ (sheet : Sheet) (kept : List ℕ) where
  abbrev is_named : Literal → Bool
  is_named l = uses (clauses sheet) kept (number sheet l.what)

  abbrev is_false : List Bool → Literal → Bool
  is_false bs l = not (lit_true (value bs) (lit_of sheet l))

  -- no node of its is named by a kept axiom
  unneeded : (g : GroundAxiom) → each_literal (λ l. not (is_node l.what) || not (is_named l)) g.clause ≡ true → IsUnneeded sheet kept g
  unneeded g all l has of = not_named (clauses sheet) kept (number sheet l.what) (false_from (is_named l) (node_passes l.what (not (is_named l)) (literal_passes (λ m. not (is_node m.what) || not (is_named m)) g.clause all l has) of))

  -- some node of its is, none of its literals is forced, and each node that isn't named is no constant
  stays : (g : GroundAxiom) (bs : List Bool) → every (meets (clauses sheet) bs) kept ≡ true → each_literal (is_false bs) g.clause ≡ true
      → (l : Literal) → Contains g.clause l → IsNode l.what → is_named l ≡ true
      → ((m : Literal) → Contains g.clause m → IsNode m.what → ¬ IsUsed (clauses sheet) kept (number sheet m.what) → (meanings : List ℕ) → AreMeanings sheet meanings → ¬ IsForced (IsAmong (clauses sheet) meanings) (lit_of sheet m))
      → ¬ IsLeftOut sheet kept g
  stays g bs met fails l has of is no_constant left = elim left.1 [
    | inl from_start ↦ not_forced (clauses sheet) bs kept (lit_of sheet from_start.0) met (false_from (lit_true (value bs) (lit_of sheet from_start.0)) (literal_passes (is_false bs) g.clause fails from_start.0 from_start.1)) from_start.2
    | inr other ↦ elim other [
      | inl unnamed ↦ unnamed l has of (named (clauses sheet) kept (number sheet l.what) is)
      | inr constant ↦ no_constant constant.0 constant.1 constant.2 constant.3 constant.4.0 constant.4.1 constant.4.2
    ]
  ]

  -- all nodes of its are named
  stays_named : (g : GroundAxiom) (bs : List Bool) → every (meets (clauses sheet) bs) kept ≡ true → each_literal (is_false bs) g.clause ≡ true
      → (l : Literal) → Contains g.clause l → IsNode l.what → each_literal (λ m. not (is_node m.what) || is_named m) g.clause ≡ true → ¬ IsLeftOut sheet kept g
  stays_named g bs met fails l has of all =
      let by : (m : Literal) → Contains g.clause m → IsNode m.what → is_named m ≡ true = λ m stands of_node. node_passes m.what (is_named m) (literal_passes (λ x. not (is_node x.what) || is_named x) g.clause all m stands) of_node in
      stays g bs met fails l has of (by l has of)
      (λ m stands of_node unused meanings are forced. unused (named (clauses sheet) kept (number sheet m.what) (by m stands of_node)))

  abbrev AreLeft : List ℕ → Type 0
  AreLeft left = All (λ k. IsLeftOut sheet kept (ground sheet k)) left

  are_kept : (used left : List ℕ) → every (has_number used) kept ≡ true → every (has_number (kept ++ left)) used ≡ true → rise kept ≡ true → AreLeft left → AreKept sheet used kept
  are_kept used left within covered rising left_out = record {
    among = λ k has. there used k (every_is (has_number used) kept within k has);
    each = λ k g has at.
        elim (Contains-append_cases kept left k (there (kept ++ left) k (every_is (has_number (kept ++ left)) used covered k has))) [
          | inl is_kept ↦ inl is_kept
          | inr is_left ↦ inr (subst (IsLeftOut sheet kept) (get_or_from_slice_get (axioms sheet) k g none at) (All-contains (λ j. IsLeftOut sheet kept (ground sheet j)) left k left_out is_left))
        ];
    order = in_order kept rising;
  }

  must_stay : (used : List ℕ) (k : ℕ) → has_number used k ≡ true → has_number kept k ≡ false → slice_get (axioms sheet) k ≡ Some (ground sheet k)
      → ¬ IsLeftOut sheet kept (ground sheet k) → ¬ AreKept sheet used kept
  must_stay used k has lacks at stays h = elim (h.each k (ground sheet k) (there used k has) at) [ inl is_kept ↦ not_there kept k lacks is_kept | inr left ↦ stays left ]

-- ---- a = red | a = red

abbrev root : Literal
root = positive (node 0 [])

abbrev second_part : Literal
second_part = positive (node 0 (1 ∷ []))

module _ (sheet : Sheet) (kept : List ℕ) where
  abbrev IsLeft : ℕ → Type 0
  IsLeft k = IsLeftOut sheet kept (ground sheet k)

two_left : (P : ℕ → Type 0) (j k : ℕ) → P j → P k → All P (j ∷ k ∷ [])
two_left P j k p q = All-cons P j (k ∷ []) p (All-cons P k [] q (All-nil P))

abbrev few_kept : List ℕ
few_kept = 0 ∷ 1 ∷ 2 ∷ []

abbrev without_truth : List ℕ
without_truth = 0 ∷ 1 ∷ 2 ∷ 5 ∷ 6 ∷ 7 ∷ 8 ∷ 9 ∷ []

-- a is green, and no part is true; the rule's node as it is
abbrev green_values : Bool → List Bool
green_values rule = false ∷ true ∷ rule ∷ false ∷ false ∷ []

-- under these all clauses but the rule's are true
under_meanings : (meanings : List ℕ) → AreMeanings twice meanings → (clause : List Lit) → IsAmong (clauses twice) meanings clause → IsTrueUnder (value (green_values false)) clause
under_meanings meanings are clause (k, has, at) = by k has at
  where
    true_at : (k : ℕ) → slice_get (clauses twice) k ≡ Some clause → meets (clauses twice) (green_values false) k ≡ true → IsTrueUnder (value (green_values false)) clause
    true_at k at met = subst (IsTrueUnder (value (green_values false))) (get_or_from_slice_get (clauses twice) k clause [] at) met

    by : (k : ℕ) → Contains meanings k → slice_get (clauses twice) k ≡ Some clause → IsTrueUnder (value (green_values false)) clause
    by zero has at = true_at 0 at refl
    by (suc zero) has at = true_at 1 at refl
    by (suc (suc zero)) has at = absurd (are 2 (ground twice 2) has refl)
    by (suc (suc (suc zero))) has at = true_at 3 at refl
    by (suc (suc (suc (suc zero)))) has at = true_at 4 at refl
    by (suc (suc (suc (suc (suc zero))))) has at = true_at 5 at refl
    by (suc (suc (suc (suc (suc (suc zero)))))) has at = true_at 6 at refl
    by (suc (suc (suc (suc (suc (suc (suc zero))))))) has at = true_at 7 at refl
    by (suc (suc (suc (suc (suc (suc (suc (suc zero)))))))) has at = true_at 8 at refl
    by (suc (suc (suc (suc (suc (suc (suc (suc (suc zero))))))))) has at = true_at 9 at refl
    by (suc (suc (suc (suc (suc (suc (suc (suc (suc (suc k)))))))))) has at = absurd (none_is at)
      where
        none_is : None ≡ Some clause → ⊥
        none_is is = cc

-- of the clause that some part is true no literal is forced by what nodes mean, but for the rule's
no_constant : (m : Literal) → Contains (ground twice 5).clause m → ¬ IsUsed (clauses twice) few_kept (number twice m.what) → (meanings : List ℕ) → AreMeanings twice meanings → ¬ IsForced (IsAmong (clauses twice) meanings) (lit_of twice m)
no_constant m has unused meanings are forced =
    let is_true = always_true (IsAmong (clauses twice) meanings) (value (green_values false)) (under_meanings meanings are) (lit_of twice m) forced in
    let test : Literal → Bool = λ x. uses (clauses twice) few_kept (number twice x.what) || not (lit_true (value (green_values false)) (lit_of twice x)) in
    by (uses (clauses twice) few_kept (number twice m.what)) (lit_true (value (green_values false)) (lit_of twice m)) (λ is. unused (named (clauses twice) few_kept (number twice m.what) is)) is_true (literal_passes test (ground twice 5).clause refl m has)
  where
    by : (b c : Bool) → ¬ (b ≡ true) → c ≡ true → (b || not c) ≡ true → ⊥
    by true c unused is either = unused refl
    by false true unused is either = false≢true either
    by false false unused is either = false≢true is

pub worked_twice : WorkedTwice
worked_twice = record {
  all = are_kept twice all_of_twice all_of_twice [] refl refl refl (All-nil (IsLeft twice all_of_twice));
  true_from_start = are_kept twice without_truth all_of_twice (3 ∷ 4 ∷ []) refl refl refl (two_left (IsLeft twice without_truth) 3 4 (from_start 3 (0, omega arith, refl)) (from_start_too 4 (0, omega arith, refl)));
  rule_alone = must_stay twice few_kept all_of_twice 5 refl refl refl
      (stays twice few_kept (ground twice 5) (green_values true) refl refl (negative (node 0 [])) (0, omega arith, refl) tt refl (λ m has of. no_constant m has));
  half_a_part = must_stay twice (0 ∷ 1 ∷ 2 ∷ 5 ∷ 6 ∷ 7 ∷ 8 ∷ []) all_of_twice 9 refl refl refl
      (stays_named twice (0 ∷ 1 ∷ 2 ∷ 5 ∷ 6 ∷ 7 ∷ 8 ∷ []) (ground twice 9) (false ∷ true ∷ true ∷ false ∷ true ∷ []) refl refl (negative (node 0 (1 ∷ []))) (1, omega arith, refl) tt refl);
  without_rule = must_stay twice (0 ∷ 1 ∷ 3 ∷ 4 ∷ 5 ∷ 6 ∷ 7 ∷ 8 ∷ 9 ∷ []) all_of_twice 2 refl refl refl (λ left. left.0);
  without_cell = must_stay twice (1 ∷ 2 ∷ 3 ∷ 4 ∷ 5 ∷ 6 ∷ 7 ∷ 8 ∷ 9 ∷ []) all_of_twice 0 refl refl refl (λ left. left.0);
  unneeded = are_kept twice few_kept (0 ∷ 1 ∷ 2 ∷ 6 ∷ 7 ∷ []) (6 ∷ 7 ∷ []) refl refl refl
      (two_left (IsLeft twice few_kept) 6 7 (tt, inr (inl (unneeded twice few_kept (ground twice 6) refl))) (tt, inr (inl (unneeded twice few_kept (ground twice 7) refl))));
  needed = must_stay twice (0 ∷ 1 ∷ 2 ∷ 6 ∷ []) (0 ∷ 1 ∷ 2 ∷ 6 ∷ 7 ∷ []) 7 refl refl refl
      (stays_named twice (0 ∷ 1 ∷ 2 ∷ 6 ∷ []) (ground twice 7) (false ∷ true ∷ true ∷ true ∷ false ∷ []) refl refl (negative (node 0 (0 ∷ []))) (1, omega arith, refl) tt refl);
  not_used = λ h. not_there (0 ∷ 1 ∷ 2 ∷ []) 3 refl (h.among 3 (there (0 ∷ 1 ∷ 2 ∷ 3 ∷ []) 3 refl));
  turned = λ h. let less : 2 < 1 = h.order 1 2 0 (omega arith) (omega arith) in absurd (omega (arith, less));
}
  where
    from_start : (k : ℕ) → Contains (ground twice 3).clause root → IsLeftOut twice without_truth (ground twice 3)
    from_start k has = (tt, inl (root, has, forced (clauses twice) without_truth 2 (lit_of twice root) refl refl))

    from_start_too : (k : ℕ) → Contains (ground twice 4).clause root → IsLeftOut twice without_truth (ground twice 4)
    from_start_too k has = (tt, inl (root, has, forced (clauses twice) without_truth 2 (lit_of twice root) refl refl))

-- ---- constants

abbrev all_of_part : List ℕ
all_of_part = 0 ∷ 1 ∷ 2 ∷ 3 ∷ 4 ∷ 5 ∷ 6 ∷ 7 ∷ 8 ∷ []

-- what the second part means
part_means : AreMeanings true_by_part (8 ∷ [])
part_means k g has at = elim (contains_cases 8 [] k has) [
  | inl is ↦ subst (λ (x : GroundAxiom). IsOfNode x.name) (ap (λ j. get_or (axioms true_by_part) j none) is ∙ get_or_from_slice_get (axioms true_by_part) k g none at) tt
  | inr nothing ↦ absurd (contains_none k nothing)
]

true_part : AreKept true_by_part all_of_part few_kept
true_part =
    let P = IsLeft true_by_part few_kept in
    let start : IsForced (IsAmong (clauses true_by_part) few_kept) (lit_of true_by_part root) = forced (clauses true_by_part) few_kept 2 (lit_of true_by_part root) refl refl in
    let constant : IsConstant true_by_part few_kept (ground true_by_part 5) =
    (second_part, (2, omega arith, refl), tt, not_named (clauses true_by_part) few_kept 4 refl, (8 ∷ [], part_means, forced (clauses true_by_part) (8 ∷ []) 8 (lit_of true_by_part second_part) refl refl)) in
    are_kept true_by_part few_kept all_of_part (3 ∷ 4 ∷ 5 ∷ 6 ∷ 7 ∷ 8 ∷ []) refl refl refl
    (All-cons P 3 (4 ∷ 5 ∷ 6 ∷ 7 ∷ 8 ∷ []) (tt, inl (root, (0, omega arith, refl), start))
    (All-cons P 4 (5 ∷ 6 ∷ 7 ∷ 8 ∷ []) (tt, inl (root, (0, omega arith, refl), start))
    (All-cons P 5 (6 ∷ 7 ∷ 8 ∷ []) (tt, inr (inr constant))
    (All-cons P 6 (7 ∷ 8 ∷ []) (tt, inr (inl (unneeded true_by_part few_kept (ground true_by_part 6) refl)))
    (two_left P 7 8 (tt, inr (inl (unneeded true_by_part few_kept (ground true_by_part 7) refl))) (tt, inr (inl (unneeded true_by_part few_kept (ground true_by_part 8) refl))))))))

pub worked_constants : WorkedConstants
worked_constants = record {
  true_part = true_part;
  true_rule = are_kept (of_one_rule always) few_kept (0 ∷ 1 ∷ 2 ∷ 3 ∷ []) (3 ∷ []) refl refl refl
      (All-cons (IsLeft (of_one_rule always) few_kept) 3 [] (tt, inl (positive (node 0 []), (0, omega arith, refl), forced (clauses (of_one_rule always)) few_kept 2 (lit_of (of_one_rule always) (positive (node 0 []))) refl refl)) (All-nil (IsLeft (of_one_rule always) few_kept)));
  false_rule = must_stay (of_one_rule never) few_kept (0 ∷ 1 ∷ 2 ∷ 3 ∷ []) 3 refl refl refl
      (stays_named (of_one_rule never) few_kept (ground (of_one_rule never) 3) (true ∷ false ∷ true ∷ []) refl refl (negative (node 0 [])) (0, omega arith, refl) tt refl);
}
