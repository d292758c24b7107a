-- What an evaluation tells: under scopes that agree on the variables that it read, the truth is the same.
use Rattle.std.proofs.Common.{◌≡◌, ℕ, zero, suc, ◌+◌, ◌<◌, ◌≤◌, ◌↔◌, inl, inr, Bool, true, false, cond, IsTrue, List, [], ◌∷◌, ◌++◌, None, length, map, get_or, slice_get, Contains, MatchBool, Vec, Global, rules, arith, ap, ◌∙◌, sym, subst, refl}
use Rattle.std.proofs.lemmas.Bool.{cases_lt}
use Rattle.pc_name.specs.declared.sign.Op.{Op}
use Rattle.pc_name.specs.declared.sign.Sign.{Sign}
use Rattle.pc_sheet.specs.Sheet.{Universe, Item, variable, constant, number, cell, Items, no_items, item, Sum, Statement, compare, in_table, all_of, some_of, for_all, exists, counts}
use Rattle.pc_sheet.specs.Sizes.{rows_of, result_sort_of, cell_number, size_of}
use Rattle.pc_sheet.specs.Truth.{Scope, meaning, meaning_of_variable, places, place_of, value_or_first, settled, added, number_of, total, sum_meaning, Compares, Holds}
use Rattle.pc_sheet.specs.Views.{added_of, counting_of, item_of, items_of, statement_of, statements_of, sum_of}
use Rattle.pc_sheet.specs.declared.formula.Formula.{Formula, Compare, InTable, the_lemmas}
use Rattle.pc_sheet.specs.declared.formula.Side.{Side}
use Rattle.pc_sheet.specs.declared.formula.Term.{Term}
use Rattle.pc_sheet.specs.declared.ids.SortId.{SortId}
use Rattle.pc_sheet.specs.declared.ids.TableId.{TableId}
use Rattle.pc_sheet.specs.declared.ids.ValueId.{ValueId}
use Rattle.pc_sheet.specs.declared.meaning.Meaning.{Meaning}
use Rattle.pc_sheet.specs.declared.meaning.Meaning.TheVariants.{Whole, Value}
use Rattle.pc_logic.proofs.CountingLemmas.{AreFound, found_none, found_more, found_same, found_next, as_counted}
use Rattle.pc_logic.proofs.Parts.{AllHold-from_each, AllHold_at, SomeHolds-from_one, none_holds}
use Rattle.pc_logic.specs.inside.Marks.{IsMarked, ItemIsMarked, ItemsAreMarked, AddedAreMarked, SumIsMarked, Keeps, KeepsBelow, Agree, Tells, FindsUnder}

-- ---- marks

pub keeps_then : (a b c : List Bool) → Keeps a b → Keeps b c → Keeps a c
keeps_then a b c f g = λ k h. g k (f k h)

mutual
  pub item_kept : (m n : List Bool) → Keeps m n → (x : Item) → ItemIsMarked m x → ItemIsMarked n x
  item_kept m n f (variable k) h = f k h
  item_kept m n f (constant s v) h = tt
  item_kept m n f (number z) h = tt
  item_kept m n f (cell g xs) h = items_kept m n f xs h

  items_kept : (m n : List Bool) → Keeps m n → (xs : Items) → ItemsAreMarked m xs → ItemsAreMarked n xs
  items_kept m n f no_items h = tt
  items_kept m n f (item x xs) h = (item_kept m n f x h.0, items_kept m n f xs h.1)

added_kept : (m n : List Bool) → Keeps m n → (xs : List (Sign × Item)) → AddedAreMarked m xs → AddedAreMarked n xs
added_kept m n f [] h = tt
added_kept m n f (x ∷ xs) h = (item_kept m n f x.1 h.0, added_kept m n f xs h.1)

pub sum_kept : (m n : List Bool) → Keeps m n → (s : Sum) → SumIsMarked m s → SumIsMarked n s
sum_kept m n f s h = (item_kept m n f s.first h.0, added_kept m n f s.rest h.1)

-- what is marked before the i-th element
abbrev pub TermsBefore : List Bool → List Term → ℕ → Type 0
TermsBefore m ts i = (j : ℕ) (d : Term) → j < i → ItemIsMarked m (item_of (get_or ts j d))

abbrev pub AddedBefore : List Bool → List (Sign × Term) → ℕ → Type 0
AddedBefore m xs i = (j : ℕ) (d : Sign × Term) → j < i → ItemIsMarked m (item_of (get_or xs j d).1)

pub terms_from_each : (m : List Bool) (ts : List Term) → TermsBefore m ts (length ts) → ItemsAreMarked m (items_of (map item_of ts))
terms_from_each m [] h = tt
terms_from_each m (t ∷ ts) h = (h 0 t (omega arith), terms_from_each m ts (λ j d l. h (suc j) d (omega arith)))

pub added_from_each : (m : List Bool) (xs : List (Sign × Term)) → AddedBefore m xs (length xs) → AddedAreMarked m (map added_of xs)
added_from_each m [] h = tt
added_from_each m (x ∷ xs) h = (h 0 x (omega arith), added_from_each m xs (λ j d l. h (suc j) d (omega arith)))

get_any : {A : Type 0} (xs : List A) (k : ℕ) (d e : A) → k < length xs → get_or xs k d ≡ get_or xs k e
get_any [] k d e l = absurd (omega arith)
get_any (x ∷ xs) zero d e l = refl
get_any (x ∷ xs) (suc k) d e l = get_any xs k d e (omega arith)

pub terms_next : (m n : List Bool) (ts : List Term) (i : ℕ) (e t : Term) → Keeps m n → i < length ts → t ≡ get_or ts i e → TermsBefore m ts i → ItemIsMarked n (item_of t) → TermsBefore n ts (i + 1)
terms_next m n ts i e t f l is before here j d below = elim (cases_lt j i) [
  | inl earlier ↦ item_kept m n f (item_of (get_or ts j d)) (before j d earlier)
  | inr later ↦
      let same : i ≡ j = omega arith in
      subst (λ k. ItemIsMarked n (item_of (get_or ts k d))) same (subst (λ x. ItemIsMarked n (item_of x)) (is ∙ get_any ts i e d l) here)
]

pub added_next : (m n : List Bool) (xs : List (Sign × Term)) (i : ℕ) (e p : Sign × Term) → Keeps m n → i < length xs → p ≡ get_or xs i e → AddedBefore m xs i → ItemIsMarked n (item_of p.1) → AddedBefore n xs (i + 1)
added_next m n xs i e p f l is before here j d below = elim (cases_lt j i) [
  | inl earlier ↦ item_kept m n f (item_of (get_or xs j d).1) (before j d earlier)
  | inr later ↦
      let same : i ≡ j = omega arith in
      subst (λ k. ItemIsMarked n (item_of (get_or xs k d).1)) same (subst (λ x. ItemIsMarked n (item_of x.1)) (is ∙ get_any xs i e d l) here)
]

-- ---- scopes that agree

agree_kept : (m n : List Bool) (scope other : Scope) → KeepsBelow (length scope) m n → Agree n scope other → Agree m scope other
agree_kept m n scope other f g = (g.0, λ k l h. g.1 k l (f k l h))

get_past : (xs : Scope) (k : ℕ) → length xs ≤ k → slice_get xs k ≡ None
get_past [] k l = refl
get_past (x ∷ xs) zero l = absurd (omega arith)
get_past (x ∷ xs) (suc k) l = get_past xs k (omega arith)

same_at : (m : List Bool) (scope other : Scope) → Agree m scope other → (k : ℕ) → IsMarked m k → slice_get scope k ≡ slice_get other k
same_at m scope other g k h = elim (cases_lt k (length scope)) [
  | inl l ↦ g.1 k l h
  | inr l ↦ get_past scope k l ∙ sym (get_past other k (let same = g.0 in omega arith))
]

at_more : (xs ys : Scope) (x y : SortId × ValueId) (k : ℕ) → length xs ≡ length ys → k < length xs → slice_get xs k ≡ slice_get ys k → slice_get (xs ++ x ∷ []) k ≡ slice_get (ys ++ y ∷ []) k
at_more [] ys x y k e l is = absurd (omega arith)
at_more (a ∷ xs) [] x y k e l is = absurd (omega arith)
at_more (a ∷ xs) (b ∷ ys) x y zero e l is = is
at_more (a ∷ xs) (b ∷ ys) x y (suc k) e l is = at_more xs ys x y k (omega arith) (omega arith) is

at_last : (xs ys : Scope) (x : SortId × ValueId) → length xs ≡ length ys → slice_get (xs ++ x ∷ []) (length xs) ≡ slice_get (ys ++ x ∷ []) (length xs)
at_last [] [] x e = refl
at_last [] (b ∷ ys) x e = absurd (omega arith)
at_last (a ∷ xs) [] x e = absurd (omega arith)
at_last (a ∷ xs) (b ∷ ys) x e = at_last xs ys x (omega arith)

longer : (xs : Scope) (x : SortId × ValueId) → length (xs ++ x ∷ []) ≡ length xs + 1
longer [] x = refl
longer (y ∷ xs) x = let rest = longer xs x in omega arith

same_length : (xs ys : Scope) (x y : SortId × ValueId) → length xs ≡ length ys → length (xs ++ x ∷ []) ≡ length (ys ++ y ∷ [])
same_length xs ys x y e = longer xs x ∙ ap (λ n. n + 1) e ∙ sym (longer ys y)

agree_more : (m : List Bool) (scope other : Scope) (x : SortId × ValueId) → Agree m scope other → Agree m (scope ++ x ∷ []) (other ++ x ∷ [])
agree_more m scope other x g = (
  same_length scope other x x g.0,
  λ k l h. elim (cases_lt k (length scope)) [
    | inl below ↦ at_more scope other x x k g.0 below (g.1 k below h)
    | inr past ↦
        let len = longer scope x in
        let last : length scope ≡ k = omega arith in
        subst (λ n. slice_get (scope ++ x ∷ []) n ≡ slice_get (other ++ x ∷ []) n) last (at_last scope other x g.0)
  ],
)

-- the own variable wasn't read
agree_apart : (m : List Bool) (scope other : Scope) (x y : SortId × ValueId) → ¬ IsMarked m (length scope) → Agree m scope other → Agree m (scope ++ x ∷ []) (other ++ y ∷ [])
agree_apart m scope other x y n g = (
  same_length scope other x y g.0,
  λ k l h. elim (cases_lt k (length scope)) [
    | inl below ↦ at_more scope other x y k g.0 below (g.1 k below h)
    | inr past ↦
        let len = longer scope x in
        let last : k ≡ length scope = omega arith in
        absurd (n (subst (IsMarked m) last h))
  ],
)

-- ---- what items stand for

module _ (u : Universe) (a : List ValueId) (m : List Bool) (scope other : Scope) (g : Agree m scope other) where
  mutual
    same_meaning : (x : Item) → ItemIsMarked m x → meaning u a scope x ≡ meaning u a other x
    same_meaning (variable j) h = ap meaning_of_variable (same_at m scope other g j h)
    same_meaning (constant s v) h = refl
    same_meaning (number z) h = refl
    same_meaning (cell f xs) h = ap (λ ps. Value (result_sort_of (slice_get u.families f.0)) (value_or_first (slice_get a (cell_number u f ps)))) (same_places xs h)

    same_places : (xs : Items) → ItemsAreMarked m xs → places u a scope xs ≡ places u a other xs
    same_places no_items h = refl
    same_places (item x xs) h = λ i. place_of (same_meaning x h.0 i) ∷ same_places xs h.1 i

  same_total : (xs : List (Sign × Item)) (z : Meaning) → AddedAreMarked m xs → total u a scope z xs ≡ total u a other z xs
  same_total [] z h = refl
  same_total (x ∷ xs) z h =
      same_total xs (Whole (added (number_of z) x.0 (number_of (settled u (meaning u a scope x.1))))) h.1
      ∙ ap (λ n. total u a other (Whole (added (number_of z) x.0 (number_of (settled u n)))) xs) (same_meaning x.1 h.0)

  same_sum : (s : Sum) → SumIsMarked m s → sum_meaning u a scope s ≡ sum_meaning u a other s
  same_sum s h = same_total s.rest (settled u (meaning u a scope s.first)) h.1 ∙ ap (λ n. total u a other (settled u n) s.rest) (same_meaning s.first h.0)

-- ---- what is told of statements

module _ (u : Universe) (a : List ValueId) where
  pub tells_kept : (m n : List Bool) (scope : Scope) (s : Statement) (is : Bool) → KeepsBelow (length scope) m n → Tells u a m scope s is → Tells u a n scope s is
  tells_kept m n scope s is f h = λ other g. h other (agree_kept m n scope other f g)

  pub tells_compare : (m : List Bool) (scope : Scope) (left right : Sum) (op : Op) (is : Bool) → SumIsMarked m left → SumIsMarked m right
      → IsTrue is ↔ Compares op (sum_meaning u a scope left) (sum_meaning u a scope right) → Tells u a m scope (compare left op right) is
  tells_compare m scope left right op is l r h other g =
      let one = same_sum u a m scope other g left l in
      let two = same_sum u a m scope other g right r in
      subst (λ y. IsTrue is ↔ Compares op (sum_meaning u a other left) y) two (subst (λ x. IsTrue is ↔ Compares op x (sum_meaning u a scope right)) one h)

  pub tells_in_table : (m : List Bool) (scope : Scope) (t : TableId) (xs : Items) (is : Bool) → ItemsAreMarked m xs
      → IsTrue is ↔ Contains (rows_of (slice_get u.tables t.0)) (places u a scope xs) → Tells u a m scope (in_table t xs) is
  tells_in_table m scope t xs is l h other g = subst (λ ps. IsTrue is ↔ Contains (rows_of (slice_get u.tables t.0)) ps) (same_places u a m scope other g xs l) h

-- ---- conjunctions and disjunctions

no_truth : {A : Type 0} → IsTrue false → A
no_truth z = absurd (cc)

module _ (u : Universe) (a : List ValueId) (m : List Bool) (scope : Scope) (fs : List Formula) where
  -- the parts before the i-th all are true, or all false
  abbrev pub PartsTell : Bool → ℕ → Type 0
  PartsTell is i = (k : ℕ) (d : Formula) → k < i → Tells u a m scope (statement_of (get_or fs k d)) is

  pub tells_all : (i : ℕ) → length fs ≤ i → PartsTell true i → Tells u a m scope (all_of (statements_of (map statement_of fs))) true
  tells_all i l h other g = (λ z. AllHold-from_each u a other fs (λ k d b. (h k d (omega arith) other g).0 refl), λ z. refl)

  pub tells_not_all : (k : ℕ) (d f : Formula) → k < length fs → f ≡ get_or fs k d → Tells u a m scope (statement_of f) false → Tells u a m scope (all_of (statements_of (map statement_of fs))) false
  tells_not_all k d f l is h other g = (λ z. no_truth z, λ y. (h other g).1 (subst (λ x. Holds u a other (statement_of x)) (sym is) (AllHold_at u a other fs k d l y)))

  pub tells_some : (k : ℕ) (d f : Formula) → k < length fs → f ≡ get_or fs k d → Tells u a m scope (statement_of f) true → Tells u a m scope (some_of (statements_of (map statement_of fs))) true
  tells_some k d f l is h other g = (λ z. SomeHolds-from_one u a other fs k d l (subst (λ x. Holds u a other (statement_of x)) is ((h other g).0 refl)), λ z. refl)

  pub tells_none : (i : ℕ) → length fs ≤ i → PartsTell false i → Tells u a m scope (some_of (statements_of (map statement_of fs))) false
  tells_none i l h other g = (λ z. no_truth z, λ y. absurd (none_holds u a other fs (λ k d b x. no_truth ((h k d (omega arith) other g).1 x)) y))

-- ---- quantifiers

-- one of so many marks that isn't set
pub unmarked : (m : List Bool) (k : ℕ) → k < length m → get_or m k false ≡ false → ¬ IsMarked m k
unmarked [] k l e h = absurd (omega arith)
unmarked (x ∷ m) zero l e h = no_truth (sym e ∙ h)
unmarked (x ∷ m) (suc k) l e h = unmarked m k (omega arith) e h

-- as many as there are, or none
found_all_or_none : (P : ValueId → Type 0) (is : Bool) → ((v : ValueId) → IsTrue is ↔ P v) → (n : ℕ) → AreFound P n (cond is n 0)
found_all_or_none P true says zero = found_none P
found_all_or_none P false says zero = found_none P
found_all_or_none P true says (suc n) = found_more P n n (found_all_or_none P true says n) ((says (record { 0 = n })).0 refl)
found_all_or_none P false says (suc n) = found_same P n 0 (found_all_or_none P false says n) (λ y. no_truth ((says (record { 0 = n })).1 y))

module _ (u : Universe) (a : List ValueId) (m : List Bool) (scope : Scope) (s : SortId) (body : Statement) where
  -- the truth of the body under one more value
  abbrev pub TellsAt : ValueId → Bool → Type 0
  TellsAt v is = Tells u a m (scope ++ (s, v) ∷ []) body is

  -- under each value before the i-th it is the same
  abbrev pub ValuesTell : Bool → ℕ → Type 0
  ValuesTell is i = (v : ValueId) → v.0 < i → TellsAt v is

  told_at : (v : ValueId) (is : Bool) → TellsAt v is → (other : Scope) → Agree m scope other → IsTrue is ↔ Holds u a (other ++ (s, v) ∷ []) body
  told_at v is h other g = h (other ++ (s, v) ∷ []) (agree_more m scope other (s, v) g)

  -- the own variable wasn't read
  told_of_all : (v : ValueId) (is : Bool) → TellsAt v is → ¬ IsMarked m (length scope) → (w : ValueId) (other : Scope) → Agree m scope other → IsTrue is ↔ Holds u a (other ++ (s, w) ∷ []) body
  told_of_all v is h n w other g = h (other ++ (s, w) ∷ []) (agree_apart m scope other (s, v) (s, w) n g)

  pub tells_each : (i : ℕ) → size_of u s ≤ i → ValuesTell true i → Tells u a m scope (for_all [] s body) true
  tells_each i l h other g = (λ z v b. (told_at v true (h v (omega arith)) other g).0 refl, λ z. refl)

  pub tells_not_each : (v : ValueId) → v.0 < size_of u s → TellsAt v false → Tells u a m scope (for_all [] s body) false
  tells_not_each v l h other g = (λ z. no_truth z, λ y. (told_at v false h other g).1 (y v l))

  pub tells_each_unread : (v : ValueId) → TellsAt v true → ¬ IsMarked m (length scope) → Tells u a m scope (for_all [] s body) true
  tells_each_unread v h n other g = (λ z w b. (told_of_all v true h n w other g).0 refl, λ z. refl)

  pub tells_one : (v : ValueId) → v.0 < size_of u s → TellsAt v true → Tells u a m scope (exists [] s body) true
  tells_one v l h other g = (λ z. (v, l, (told_at v true h other g).0 refl), λ z. refl)

  pub tells_not_one : (i : ℕ) → size_of u s ≤ i → ValuesTell false i → Tells u a m scope (exists [] s body) false
  tells_not_one i l h other g = (λ z. no_truth z, λ y. (told_at y.0 false (h y.0 (let b = y.1 in omega arith)) other g).1 y.2)

  pub tells_one_unread : (v : ValueId) → TellsAt v false → ¬ IsMarked m (length scope) → Tells u a m scope (exists [] s body) false
  tells_one_unread v h n other g = (λ z. no_truth z, λ y. (told_of_all v false h n y.0 other g).1 y.2)

  pub finds_unread : (v : ValueId) (is : Bool) (n found : ℕ) → TellsAt v is → ¬ IsMarked m (length scope) → n ≡ size_of u s → found ≡ cond is n 0 → FindsUnder u a m scope s body (size_of u s) found
  finds_unread v is n found h apart size many other g =
      let P : ValueId → Type 0 = λ w. Holds u a (other ++ (s, w) ∷ []) body in
      subst (AreFound P (size_of u s)) (ap (λ k. cond is k 0) (sym size) ∙ sym many) (found_all_or_none P is (λ w. told_of_all v is h apart w other g) (size_of u s))

  pub tells_count : (found : ℕ) (b : Bool) (k : ℕ) (name : List ℕ) (is : Bool) → FindsUnder u a m scope s body (size_of u s) found → IsTrue is ↔ MatchBool b (found ≤ k) (k ≤ found)
      → Tells u a m scope (counts (counting_of b k) name s body) is
  tells_count found b k name is h says other g =
      let said = as_counted (λ v. Holds u a (other ++ (s, v) ∷ []) body) (size_of u s) found (h other g) b k in
      (λ z. said.0 (says.0 z), λ y. says.1 (said.1 y))

module _ (u : Universe) (a : List ValueId) (m n : List Bool) (scope : Scope) (s : SortId) (body : Statement) (keeps : KeepsBelow (length scope + 1) m n) where
  kept_at : (v : ValueId) (is : Bool) → TellsAt u a m scope s body v is → TellsAt u a n scope s body v is
  kept_at v is h = tells_kept u a m n (scope ++ (s, v) ∷ []) body is (subst (λ k. KeepsBelow k m n) (sym (longer scope (s, v))) keeps) h

  pub values_next : (is : Bool) (i : ℕ) → ValuesTell u a m scope s body is i → TellsAt u a n scope s body (record { 0 = i }) is → ValuesTell u a n scope s body is (i + 1)
  values_next is i h here v l = elim (cases_lt v.0 i) [
    | inl earlier ↦ kept_at v is (h v earlier)
    | inr later ↦
        let same : i ≡ v.0 = omega arith in
        subst (λ k. TellsAt u a n scope s body (record { 0 = k }) is) same here
  ]

  pub finds_next : (is : Bool) (i found now : ℕ) → FindsUnder u a m scope s body i found → TellsAt u a n scope s body (record { 0 = i }) is → now ≡ cond is (found + 1) found
      → FindsUnder u a n scope s body (i + 1) now
  finds_next is i found now h here e other g =
      found_next (λ v. Holds u a (other ++ (s, v) ∷ []) body) i found now is (h other (agree_kept m n scope other (λ k l y. keeps k (omega arith) y) g))
      (told_at u a n scope s body (record { 0 = i }) is here other g) e

-- ---- the declared formulas

statement_of-Compare : (l r : Side) (op : Op) → statement_of (Compare l op r) ≡ compare (sum_of l) op (sum_of r)
statement_of-Compare l r op = search (rules, the_lemmas)

statement_of-InTable : (t : TableId) (v : Vec Term Global) → statement_of (InTable t v) ≡ in_table t (items_of (map item_of v.items))
statement_of-InTable t v = search (rules, the_lemmas)

module _ (u : Universe) (a : List ValueId) (m n : List Bool) (scope : Scope) (f : Formula) where
  pub told_compare : (l r : Side) (op : Op) (x y : Meaning) (is : Bool) → f ≡ Compare l op r → Keeps m n → SumIsMarked m (sum_of l) → SumIsMarked n (sum_of r)
      → x ≡ sum_meaning u a scope (sum_of l) → y ≡ sum_meaning u a scope (sum_of r) → IsTrue is ↔ Compares op x y → Tells u a n scope (statement_of f) is
  told_compare l r op x y is e keeps left right one two says =
      let truth = subst (λ z. IsTrue is ↔ Compares op (sum_meaning u a scope (sum_of l)) z) two (subst (λ z. IsTrue is ↔ Compares op z y) one says) in
      subst (λ s. Tells u a n scope s is) (sym (ap statement_of e ∙ statement_of-Compare l r op)) (tells_compare u a n scope (sum_of l) (sum_of r) op is (sum_kept m n keeps (sum_of l) left) right truth)

  pub told_in_table : (t : TableId) (v : Vec Term Global) (xs ys : List Term) (is : Bool) → f ≡ InTable t v → xs ≡ v.items → ys ≡ v.items → ItemsAreMarked n (items_of (map item_of xs))
      → IsTrue is ↔ Contains (rows_of (slice_get u.tables t.0)) (places u a scope (items_of (map item_of ys))) → Tells u a n scope (statement_of f) is
  told_in_table t v xs ys is e one two marked says =
      let items : List Term → Items = λ ts. items_of (map item_of ts) in
      let truth = subst (λ z. IsTrue is ↔ Contains (rows_of (slice_get u.tables t.0)) (places u a scope (items z))) two says in
      subst (λ s. Tells u a n scope s is) (sym (ap statement_of e ∙ statement_of-InTable t v)) (tells_in_table u a n scope t (items v.items) is (subst (λ z. ItemsAreMarked n (items z)) one marked) truth)
