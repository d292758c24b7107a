-- Consistency and maximal sets of small sheets, by computing.
use Rattle.std.proofs.Common.{◌≡◌, ◌≢◌, ℕ, ◌⊎◌, inl, inr, Bool, true, false, not, ◌&&◌, ◌||◌, ◌==◌, arith, List, [], ◌∷◌, Option, None, Some, Contains, All, AllPairs, ap, refl, sym, ◌∙◌, subst}
use Rattle.std.specs.Bool.{Decides}
use Rattle.std.proofs.lemmas.Bool.{false≢true}
use Rattle.std.proofs.lemmas.Bool.Decides.{Decides-eqb, Decides-like, Decides-not, Decides-and, Decides-or, Decides-by_and}
use Rattle.std.proofs.lemmas.List.Elements.{All-nil, All-cons, All-contains}
use Rattle.std.proofs.lemmas.List.Kept.{AllPairs-cons}
use Rattle.pc_sheet.specs.Sheet.{Sheet}
use Rattle.pc_sheet.specs.Entailment.{cell_sizes, AreWithin, HasTarget, IsConsistent, IsSublist, IsSupport, IsLess, IsLeastSupport}
use Rattle.pc_sheet.specs.MaximalSets.{ListsExactly, IsContained, IsMaximalSet}
use Rattle.pc_sheet.specs.declared.ids.ValueId.{ValueId}
use Rattle.pc_sheet.specs.declared.ids.Entry.{Entry}
use Rattle.pc_sheet.specs.declared.ids.Target.{Target}
use Rattle.pc_sheet.specs.WellFormed.{AreDifferent}
use Rattle.pc_laws.specs.Laws.{IsExcluded}
use Rattle.pc_lemmas.proofs.Elements.{contains_first, contains_later, contains_cases, contains_none, all_from}
use Rattle.pc_laws.proofs.Contained.{sub_none}
use Rattle.pc_laws.proofs.Evaluating.{supports, supports_decides}
use Rattle.pc_laws.proofs.EachEntry.{by_each_entry}
use Rattle.pc_laws.proofs.Order.{irreflexive, transitive}

-- ---- the same entries

abbrev is_entry : Entry → Entry → Bool
is_entry x y = (x.cell.0 == y.cell.0) && (x.value.0 == y.value.0)

entry_decides : (x y : Entry) → Decides (is_entry x y) (x ≡ y)
entry_decides x y =
    let make : ℕ → ℕ → Entry = λ c v. record { cell = record { 0 = c }; value = record { 0 = v } } in
    let cell : Entry → ℕ = λ e. e.cell.0 in
    let value : Entry → ℕ = λ e. e.value.0 in
    Decides-like (is_entry x y) (λ h. ap (λ c. make c x.value.0) h.0 ∙ ap (make y.cell.0) h.1) (λ is. (ap cell is, ap value is))
    (Decides-and (x.cell.0 == y.cell.0) (x.value.0 == y.value.0) (Decides-eqb x.cell.0 y.cell.0) (Decides-eqb x.value.0 y.value.0))

abbrev pub is_among : List Entry → Entry → Bool
is_among [] e = false
is_among (x ∷ xs) e = is_entry x e || is_among xs e

pub among_decides : (xs : List Entry) (e : Entry) → Decides (is_among xs e) (Contains xs e)
among_decides [] e = (λ e. absurd (false≢true e), λ c. absurd (contains_none e c))
among_decides (x ∷ xs) e =
    Decides-like (is_among (x ∷ xs) e)
    (λ h. elim h [ inl is ↦ subst (Contains (x ∷ xs)) is (contains_first x xs) | inr later ↦ contains_later x xs e later ])
    (contains_cases x xs e) (Decides-or (is_entry x e) (is_among xs e) (entry_decides x e) (among_decides xs e))

pub has : (xs : List Entry) (e : Entry) → is_among xs e ≡ true → Contains xs e
has xs e is = (among_decides xs e).0 is

pub lacks : (xs : List Entry) (e : Entry) → is_among xs e ≡ false → ¬ Contains xs e
lacks xs e fails c = false≢true (sym fails ∙ (among_decides xs e).1 c)

abbrev pub is_list : List Entry → List Entry → Bool
is_list [] [] = true
is_list [] (y ∷ ys) = false
is_list (x ∷ xs) [] = false
is_list (x ∷ xs) (y ∷ ys) = is_entry x y && is_list xs ys

first_same : (x y : Entry) (xs ys : List Entry) → x ∷ xs ≡ y ∷ ys → x ≡ y
first_same x y xs ys is = cc

rest_same : (x y : Entry) (xs ys : List Entry) → x ∷ xs ≡ y ∷ ys → xs ≡ ys
rest_same x y xs ys is = cc

list_decides : (xs ys : List Entry) → Decides (is_list xs ys) (xs ≡ ys)
list_decides [] [] = (λ e. refl, λ e. refl)
list_decides [] (y ∷ ys) = (λ e. absurd (false≢true e), λ e. cc)
list_decides (x ∷ xs) [] = (λ e. absurd (false≢true e), λ e. cc)
list_decides (x ∷ xs) (y ∷ ys) =
    Decides-like (is_list (x ∷ xs) (y ∷ ys)) (λ h. ap (λ z. z ∷ xs) h.0 ∙ ap (λ zs. y ∷ zs) h.1) (λ is. (first_same x y xs ys is, rest_same x y xs ys is))
    (Decides-and (is_entry x y) (is_list xs ys) (entry_decides x y) (list_decides xs ys))

pub list_is : (xs ys : List Entry) → is_list xs ys ≡ true → xs ≡ ys
list_is xs ys is = (list_decides xs ys).0 is

pub other_list : (xs ys : List Entry) → is_list xs ys ≡ false → xs ≢ ys
other_list xs ys fails is = false≢true (sym fails ∙ (list_decides xs ys).1 is)

abbrev pub are_among : List Entry → List Entry → Bool
are_among t [] = true
are_among t (e ∷ es) = is_among t e && are_among t es

among_all : (t s : List Entry) → Decides (are_among t s) (All (Contains t) s)
among_all t s = Decides-by_and (is_among t) (Contains t) (are_among t) (λ e. among_decides t e) refl (λ _ _. refl) s

pub contained : (s t : List Entry) → are_among t s ≡ true → IsContained s t
contained s t is e c = All-contains (Contains t) s e ((among_all t s).0 is) c

pub not_contained : (s t : List Entry) → are_among t s ≡ false → ¬ IsContained s t
not_contained s t fails h = false≢true (sym fails ∙ (among_all t s).1 (all_from (Contains t) s h))

-- ---- lists of lists

abbrev pub is_listed : List (List Entry) → List Entry → Bool
is_listed [] s = false
is_listed (x ∷ xs) s = is_list x s || is_listed xs s

pub listed_decides : (xs : List (List Entry)) (s : List Entry) → Decides (is_listed xs s) (Contains xs s)
listed_decides [] s = (λ e. absurd (false≢true e), λ c. absurd (contains_none_list s c))
  where
    contains_none_list : (s : List Entry) → ¬ Contains [] s
    contains_none_list s h = absurd (omega (arith, h.1))
listed_decides (x ∷ xs) s =
    Decides-like (is_listed (x ∷ xs) s)
    (λ h. elim h [ inl is ↦ subst (Contains (x ∷ xs)) is (contains_first x xs) | inr later ↦ contains_later x xs s later ])
    (contains_cases x xs s) (Decides-or (is_list x s) (is_listed xs s) (list_decides x s) (listed_decides xs s))

abbrev are_different : List (List Entry) → Bool
are_different [] = true
are_different (x ∷ xs) = not (is_listed xs x) && are_different xs

pub both : (x y : Bool) → x && y ≡ true → (x ≡ true) × (y ≡ true)
both true y e = (refl, e)
both false y e = absurd (false≢true e)

pub either : (x y : Bool) → x || y ≡ true → (x ≡ true) ⊎ (y ≡ true)
either true y e = inl refl
either false y e = inr e

pairs_nil : {X : Type 0} (R : X → X → Type 0) → AllPairs R []
pairs_nil R i j d below within = absurd (omega (arith, below, within))

different : (xs : List (List Entry)) → are_different xs ≡ true → AllPairs (λ x y. x ≢ y) xs
different [] is = pairs_nil (λ x y. x ≢ y)
different (x ∷ xs) is =
    let parts = both (not (is_listed xs x)) (are_different xs) is in
    AllPairs-cons (λ x y. x ≢ y) x xs
    (all_from (λ y. x ≢ y) xs (λ y c same. (Decides-not (is_listed xs x) (listed_decides xs x)).0 parts.0 (subst (Contains xs) (sym same) c)))
    (different xs parts.1)

-- ---- different entries

abbrev are_others : Entry → List Entry → Bool
are_others e [] = true
are_others e (f ∷ fs) = not ((e.cell.0 == f.cell.0) && (e.value.0 == f.value.0)) && are_others e fs

abbrev pub are_distinct : List Entry → Bool
are_distinct [] = true
are_distinct (e ∷ es) = are_others e es && are_distinct es

others : (e : Entry) (fs : List Entry) → are_others e fs ≡ true → All (λ f. e ≢ f) fs
others e [] is = All-nil (λ f. e ≢ f)
others e (f ∷ fs) is =
    let parts = both (not ((e.cell.0 == f.cell.0) && (e.value.0 == f.value.0))) (are_others e fs) is in
    let cell : Entry → ℕ = λ x. x.cell.0 in
    let value : Entry → ℕ = λ x. x.value.0 in
    let decides = Decides-and (e.cell.0 == f.cell.0) (e.value.0 == f.value.0) (Decides-eqb e.cell.0 f.cell.0) (Decides-eqb e.value.0 f.value.0) in
    All-cons (λ f. e ≢ f) f fs (λ same. (Decides-not ((e.cell.0 == f.cell.0) && (e.value.0 == f.value.0)) decides).0 parts.0 (ap cell same, ap value same)) (others e fs parts.1)

pub distinct : (es : List Entry) → are_distinct es ≡ true → AreDifferent es
distinct [] is = pairs_nil (λ e f. e ≢ f)
distinct (e ∷ es) is =
    let parts = both (are_others e es) (are_distinct es) is in
    AllPairs-cons (λ e f. e ≢ f) e es (others e es parts.0) (distinct es parts.1)

-- ---- sublists

abbrev pub is_sublist : List Entry → List Entry → Bool
is_sublist [] [] = true
is_sublist [] (y ∷ ys) = false
is_sublist (x ∷ xs) [] = true
is_sublist (x ∷ xs) (y ∷ ys) = is_sublist xs (y ∷ ys) || (is_entry x y && is_sublist xs ys)

pub sublist : (xs ys : List Entry) → is_sublist xs ys ≡ true → IsSublist xs ys
sublist [] [] is = refl
sublist [] (y ∷ ys) is = absurd (false≢true is)
sublist (x ∷ xs) [] is = sub_none (x ∷ xs)
sublist (x ∷ xs) (y ∷ ys) is = elim (either (is_sublist xs (y ∷ ys)) (is_entry x y && is_sublist xs ys) is) [
  | inl without ↦ inl (sublist xs (y ∷ ys) without)
  | inr within ↦
      let parts = both (is_entry x y) (is_sublist xs ys) within in
      inr (ys, ap (λ z. z ∷ ys) (sym ((entry_decides x y).0 parts.0)), sublist xs ys parts.1)
]

-- what passes for each sublist
abbrev pub passes : List Entry → (List Entry → Bool) → Bool
passes [] p = p []
passes (x ∷ xs) p = passes xs p && passes xs (λ s. p (x ∷ s))

pub passed : (xs : List Entry) (p : List Entry → Bool) → passes xs p ≡ true → (s : List Entry) → IsSublist xs s → p s ≡ true
passed [] p is s h = subst (λ o. p o ≡ true) (sym h) is
passed (x ∷ xs) p is s (inl h) = passed xs p (both (passes xs p) (passes xs (λ s. p (x ∷ s))) is).0 s h
passed (x ∷ xs) p is s (inr (rest, same, h)) =
    subst (λ o. p o ≡ true) (sym same) (passed xs (λ s. p (x ∷ s)) (both (passes xs p) (passes xs (λ s. p (x ∷ s))) is).1 rest h)

-- ---- a sheet whose first cell has so many values

-- that the first cell hasn't a value beyond these
abbrev beyond : ℕ → Target
beyond n = record { cell = record { 0 = 0 }; value = record { 0 = n }; holds = false }

not_had : (n : ℕ) (ns : List ℕ) (a : List ValueId) → AreWithin (n ∷ ns) a → HasTarget a (beyond n)
not_had n ns [] w = absurd w
not_had n ns (v ∷ vs) w = λ is. let number : Option ValueId → ℕ = number_or_none in omega (arith, w.0, ap number is)
  where
    number_or_none : Option ValueId → ℕ
    number_or_none (Some v) = v.0
    number_or_none None = 0

module _ (sheet : Sheet) (n : ℕ) (ns : List ℕ) (sizes : cell_sizes sheet.universe ≡ n ∷ ns) where
  abbrev pub consistent : List Entry → Bool
  consistent s = supports sheet (beyond n) s

  pub consistent_decides : (s : List Entry) → Decides (consistent s) (IsConsistent sheet s)
  consistent_decides s =
      Decides-like (consistent s) (λ h. h.0) (λ h. (h, λ a shows. not_had n ns a (subst (λ sizes. AreWithin sizes a) sizes shows.assigns))) (supports_decides sheet (beyond n) s)

  pub is_consistent : (s : List Entry) → consistent s ≡ true → IsConsistent sheet s
  is_consistent s is = (consistent_decides s).0 is

  pub not_consistent : (s : List Entry) → consistent s ≡ false → ¬ IsConsistent sheet s
  not_consistent s fails h = false≢true (sym fails ∙ (consistent_decides s).1 h)

  -- ---- maximal sets

  abbrev is_excluded : List Entry → Entry → Bool
  is_excluded s e = is_among s e || not (consistent (e ∷ s))

  abbrev are_excluded : List Entry → List Entry → Bool
  are_excluded s [] = true
  are_excluded s (e ∷ es) = is_excluded s e && are_excluded s es

  excluded_decides : (s : List Entry) (es : List Entry) → Decides (are_excluded s es) (All (IsExcluded sheet s) es)
  excluded_decides s es =
      Decides-by_and (is_excluded s) (IsExcluded sheet s) (are_excluded s)
      (λ e. Decides-or (is_among s e) (not (consistent (e ∷ s))) (among_decides s e) (Decides-not (consistent (e ∷ s)) (consistent_decides (e ∷ s))))
      refl (λ _ _. refl) es

  abbrev pub is_maximal : List Entry → Bool
  is_maximal s = consistent s && are_excluded s sheet.entries

  maximal_decides : AreDifferent sheet.entries → (s : List Entry) → IsSublist sheet.entries s → Decides (is_maximal s) (IsMaximalSet sheet s)
  maximal_decides distinct s sub =
      let law = by_each_entry sheet s distinct sub in
      Decides-like (is_maximal s) law.1 law.0 (Decides-and (consistent s) (are_excluded s sheet.entries) (consistent_decides s) (excluded_decides s sheet.entries))

  pub not_maximal : are_distinct sheet.entries ≡ true → (s : List Entry) → is_maximal s ≡ false → ¬ IsMaximalSet sheet s
  not_maximal apart s fails m = false≢true (sym fails ∙ (maximal_decides (distinct sheet.entries apart) s m.among).1 m)

  abbrev all_maximal : List (List Entry) → Bool
  all_maximal [] = true
  all_maximal (s ∷ ss) = (is_sublist sheet.entries s && is_maximal s) && all_maximal ss

  each_maximal : AreDifferent sheet.entries → (ss : List (List Entry)) → all_maximal ss ≡ true → All (IsMaximalSet sheet) ss
  each_maximal distinct [] is = All-nil (IsMaximalSet sheet)
  each_maximal distinct (s ∷ ss) is =
      let parts = both (is_sublist sheet.entries s && is_maximal s) (all_maximal ss) is in
      let first = both (is_sublist sheet.entries s) (is_maximal s) parts.0 in
      All-cons (IsMaximalSet sheet) s ss ((maximal_decides distinct s (sublist sheet.entries s first.0)).0 first.1) (each_maximal distinct ss parts.1)

  abbrev is_none_or_listed : List (List Entry) → List Entry → Bool
  is_none_or_listed ss s = not (is_maximal s) || is_listed ss s

  -- these and no others, each once
  abbrev pub are_listed : List (List Entry) → Bool
  are_listed ss = are_distinct sheet.entries && (are_different ss && (all_maximal ss && passes sheet.entries (is_none_or_listed ss)))

  no_other : AreDifferent sheet.entries → (ss : List (List Entry)) → passes sheet.entries (is_none_or_listed ss) ≡ true → (s : List Entry) → IsMaximalSet sheet s → Contains ss s
  no_other apart ss is s m =
      elim (either (not (is_maximal s)) (is_listed ss s) (passed sheet.entries (is_none_or_listed ss) is s m.among)) [
        | inl none ↦ absurd ((Decides-not (is_maximal s) (maximal_decides apart s m.among)).0 none m)
        | inr there ↦ (listed_decides ss s).0 there
      ]

  pub lists : (ss : List (List Entry)) → are_listed ss ≡ true → ListsExactly (List Entry) (IsMaximalSet sheet) ss
  lists ss is =
      let parts = both (are_distinct sheet.entries) (are_different ss && (all_maximal ss && passes sheet.entries (is_none_or_listed ss))) is in
      let more = both (are_different ss) (all_maximal ss && passes sheet.entries (is_none_or_listed ss)) parts.1 in
      let last = both (all_maximal ss) (passes sheet.entries (is_none_or_listed ss)) more.1 in
      let apart = distinct sheet.entries parts.0 in
      record {
        exact = λ s. (All-contains (IsMaximalSet sheet) ss s (each_maximal apart ss last.0), no_other apart ss last.1 s);
        different = different ss more.0;
      }

-- ---- supports

abbrev pub is_support : Sheet → List Entry → Target → Bool
is_support sheet s t = is_sublist sheet.entries s && supports sheet t s

pub support : (sheet : Sheet) (s : List Entry) (t : Target) → is_support sheet s t ≡ true → IsSupport sheet s t
support sheet s t is =
    let parts = both (is_sublist sheet.entries s) (supports sheet t s) is in
    let holds = (supports_decides sheet t s).0 parts.1 in
    record { among = sublist sheet.entries s parts.0; consistent = holds.0; entails = holds.1 }

pub not_less : (entries s t : List Entry) → IsLess entries s t → ¬ IsLess entries t s
not_less entries s t less more = irreflexive entries s (transitive entries s t s less more)

-- there is one least support
pub same_least : (sheet : Sheet) (s other : List Entry) (t : Target) → IsLeastSupport sheet s t → IsLeastSupport sheet other t → other ≡ s
same_least sheet s other t l h = elim (l.least other h.supports) [
  | inl same ↦ same
  | inr less ↦ elim (h.least s l.supports) [ inl same ↦ sym same | inr more ↦ absurd (not_less sheet.entries s other less more) ]
]

pub not_least : (sheet : Sheet) (s other : List Entry) (t : Target) → IsLeastSupport sheet s t → is_list other s ≡ false → ¬ IsLeastSupport sheet other t
not_least sheet s other t l fails h = other_list other s fails (same_least sheet s other t l h)
