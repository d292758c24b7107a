-- The numbers that are marked, and why they may be kept alone.
use Rattle.std.proofs.Common.{◌≡◌, ℕ, zero, suc, ◌+◌, ◌<◌, ◌≤◌, inl, inr, Bool, true, false, cond, List, [], ◌∷◌, ◌++◌, append_assoc, Option, None, Some, drop, slice_get, slice_index_or, length, All, AllPairs, Contains, arith, ap, refl, sym, ◌∙◌, subst}
use Rattle.std.proofs.lemmas.List.{get_or_default}
use Rattle.std.proofs.lemmas.List.Elements.{All-contains}
use Rattle.pc_lits.specs.declared.literal.Lit.{Lit}
use Rattle.pc_lemmas.proofs.Elements.{contains_first, contains_later, contains_cases, contains_none, all_from}
use Rattle.pc_axiom_names.specs.Listed.{NameLists}
use Rattle.pc_components.proofs.PartFor.{contains_slice}
use Rattle.pc_components.proofs.Placing.{item_first}
use Rattle.pc_lits.specs.Values.{MakesTrue}
use Rattle.pc_kept.specs.Stored.{AreMeaningsStored, IsLeftOutStored, AreKeptStored}
use Rattle.pc_kept.specs.inside.Checks.{marked, AreRight, IsNamed, AreNamed, IsFine, AreFine}
use Rattle.pc_kept.specs.inside.Signs.{MayAllGo}

pub marked_step : (ks : List ℕ) (marks : List Bool) (i k : ℕ) (b : Bool) (before now all : List ℕ) → slice_get ks i ≡ Some k → slice_get marks i ≡ Some b → now ≡ before ++ cond b (k ∷ []) []
    → before ++ marked (drop i ks) (drop i marks) ≡ all → now ++ marked (drop (i + 1) ks) (drop (i + 1) marks) ≡ all
marked_step ks marks i k b before now all at mark is so =
    ap (λ xs. xs ++ marked (drop (i + 1) ks) (drop (i + 1) marks)) is ∙ append_assoc before (cond b (k ∷ []) []) (marked (drop (i + 1) ks) (drop (i + 1) marks))
    ∙ ap (λ xs. before ++ xs) (one b (marked (drop (i + 1) ks) (drop (i + 1) marks))) ∙ ap (λ xs. before ++ xs) (sym (both ks marks i at mark)) ∙ so
  where
    one : (c : Bool) (rest : List ℕ) → cond c (k ∷ []) [] ++ rest ≡ cond c (k ∷ rest) rest
    one true rest = refl
    one false rest = refl

    both : (xs : List ℕ) (bs : List Bool) (j : ℕ) → slice_get xs j ≡ Some k → slice_get bs j ≡ Some b → marked (drop j xs) (drop j bs) ≡ cond b (k ∷ marked (drop (j + 1) xs) (drop (j + 1) bs)) (marked (drop (j + 1) xs) (drop (j + 1) bs))
    both xs bs j h m = ap (λ ys. marked ys (drop j bs)) (item_first xs j k h) ∙ ap (λ cs. marked (k ∷ drop (j + 1) xs) cs) (item_first bs j b m)

pub marked_in : (ks : List ℕ) (marks : List Bool) (k : ℕ) → Contains (marked ks marks) k → Contains ks k
marked_in [] marks k h = h
marked_in (x ∷ xs) [] k h = absurd (contains_none k h)
marked_in (x ∷ xs) (true ∷ marks) k h = elim (contains_cases x (marked xs marks) k h) [ inl same ↦ subst (Contains (x ∷ xs)) same (contains_first x xs) | inr later ↦ contains_later x xs k (marked_in xs marks k later) ]
marked_in (x ∷ xs) (false ∷ marks) k h = contains_later x xs k (marked_in xs marks k h)

pub is_marked : (ks : List ℕ) (marks : List Bool) (j k : ℕ) → slice_get ks j ≡ Some k → slice_get marks j ≡ Some true → Contains (marked ks marks) k
is_marked [] marks j k h m = absurd (cc)
is_marked (x ∷ xs) [] j k h m = absurd (cc)
is_marked (x ∷ xs) (true ∷ marks) zero k h m = let same : x ≡ k = cc in subst (Contains (x ∷ marked xs marks)) same (contains_first x (marked xs marks))
is_marked (x ∷ xs) (false ∷ marks) zero k h m = absurd (cc)
is_marked (x ∷ xs) (true ∷ marks) (suc j) k h m = contains_later x (marked xs marks) k (is_marked xs marks j k h m)
is_marked (x ∷ xs) (false ∷ marks) (suc j) k h m = is_marked xs marks j k h m

pub marked_within : (n : ℕ) (ks : List ℕ) (marks : List Bool) (kept : List ℕ) → kept ≡ marked ks marks → All (λ k. k < n) ks → All (λ k. k < n) kept
marked_within n ks marks kept is h = all_from (λ k. k < n) kept (λ k c. All-contains (λ j. j < n) ks k h (marked_in ks marks k (subst (λ xs. Contains xs k) is c)))

ahead : (x : ℕ) (xs : List ℕ) → AllPairs (λ j k. j < k) (x ∷ xs) → (y : ℕ) → Contains xs y → x < y
ahead x xs order y h = subst (λ z. x < z) h.2 (order 0 (suc h.0) y (omega arith) (omega (arith, h.1)))

rest_order : (x : ℕ) (xs : List ℕ) → AllPairs (λ j k. j < k) (x ∷ xs) → AllPairs (λ j k. j < k) xs
rest_order x xs order i m d below within = order (suc i) (suc m) d (omega arith) (omega arith)

one_order : (x : ℕ) (xs : List ℕ) → ((y : ℕ) → Contains xs y → x < y) → AllPairs (λ j k. j < k) xs → AllPairs (λ j k. j < k) (x ∷ xs)
one_order x xs h order zero zero d below within = absurd (omega arith)
one_order x xs h order zero (suc m) d below within = h (slice_index_or xs m d) (m, omega arith, get_or_default xs m (slice_index_or xs m d) d (omega arith))
one_order x xs h order (suc i) zero d below within = absurd (omega arith)
one_order x xs h order (suc i) (suc m) d below within = order i m d (omega arith) (omega arith)

pub marked_order : (ks : List ℕ) (marks : List Bool) → AllPairs (λ j k. j < k) ks → AllPairs (λ j k. j < k) (marked ks marks)
marked_order [] marks order = order
marked_order (x ∷ xs) [] order = λ i m d below within. absurd (omega arith)
marked_order (x ∷ xs) (true ∷ marks) order = one_order x (marked xs marks) (λ y c. ahead x xs order y (marked_in xs marks y c)) (marked_order xs marks (rest_order x xs order))
marked_order (x ∷ xs) (false ∷ marks) order = marked_order xs marks (rest_order x xs order)

-- of numbers in order there are no more than of others in order that have them all
pub no_more_ordered : (xs ys : List ℕ) → AllPairs (λ j k. j < k) xs → AllPairs (λ j k. j < k) ys → ((k : ℕ) → Contains xs k → Contains ys k) → length xs ≤ length ys
no_more_ordered [] ys low high h = omega arith
no_more_ordered (x ∷ xs) [] low high h = absurd (contains_none x (h x (contains_first x xs)))
no_more_ordered (x ∷ xs) (y ∷ ys) low high h =
    let rest = no_more_ordered xs ys (rest_order x xs low) (rest_order y ys high)
    (λ k has. elim (contains_cases y ys k (h k (contains_later x xs k has))) [
      | inl same ↦
          let above : x < k = ahead x xs low k has in
          elim (contains_cases y ys x (h x (contains_first x xs))) [
            | inl first ↦ absurd (omega (arith, above, same, first))
            | inr later ↦ (let after : y < x = ahead y ys high x later in absurd (omega (arith, above, same, after)))
          ]
      | inr later ↦ later
    ]) in
    omega (arith, rest)

-- what is fine by values and marks that are right is left out
fine_left : (pairs : ℕ) (store : List (List Lit)) (names : NameLists) (values constants named : List (Option Bool)) (kept : List ℕ)
    → AreRight store kept values → AreNamed store kept named → ((meanings : List ℕ) × AreMeaningsStored names.axioms meanings × AreRight store meanings constants)
    → (k : ℕ) → IsFine pairs store names.axioms values constants named k → IsLeftOutStored pairs store names kept k
fine_left pairs store names values constants named kept (trues, forced, right) each_named (meanings, mean, (always, forced_too, right_too)) k may = record {
  of_node = may.of_node;
  why = λ clause at. elim (may.why clause at) [
    | inl (l, has, holds) ↦ inl (l, has, (trues, forced, right l holds))
    | inr (inr (l, has, high, holds, out)) ↦ inr (inr (l, has, high, λ (n, n_in, c', c'_at, m, m_in, same). out (subst (IsNamed named) same (each_named n n_in c' c'_at m m_in)), (meanings, mean, (always, forced_too, right_too l holds))))
    | inr (inl none) ↦ inr (inl (λ l has high (n, n_in, c', c'_at, m, m_in, same). none l has high (subst (IsNamed named) same (each_named n n_in c' c'_at m m_in))))
  ];
}

pub fine_kept : (pairs : ℕ) (store : List (List Lit)) (names : NameLists) (values constants named : List (Option Bool)) (used : List ℕ) (marks : List Bool) (kept : List ℕ) → kept ≡ marked used marks
    → AreRight store kept values → AreNamed store kept named → ((meanings : List ℕ) × AreMeaningsStored names.axioms meanings × AreRight store meanings constants)
    → AreFine pairs store names.axioms values constants named used marks → AreKeptStored pairs store names [] used kept
fine_kept pairs store names values constants named used marks kept is right each_named meanings fine = record {
  among = λ k c. marked_in used marks k (subst (λ xs. Contains xs k) is c);
  each = λ k c. let j = contains_slice used k c in elim (fine j.0 k j.1) [
    | inl stays ↦ inl (subst (λ xs. Contains xs k) (sym is) (is_marked used marks j.0 k j.1 stays))
    | inr may ↦ inr (inl (fine_left pairs store names values constants named kept right each_named meanings k may))
  ];
  order = λ order. subst (AllPairs (λ j k. j < k)) (sym is) (marked_order used marks order);
}

-- the same by polarity
pub polar_kept : (pairs : ℕ) (store : List (List Lit)) (names : NameLists) (values constants named banned : List (Option Bool)) (used : List ℕ) (marks : List Bool) (kept : List ℕ) → kept ≡ marked used marks
    → AreRight store kept values → AreNamed store kept named → ((meanings : List ℕ) × AreMeaningsStored names.axioms meanings × AreRight store meanings constants)
    → MayAllGo pairs store names values constants named banned used marks → AreKeptStored pairs store names banned used kept
polar_kept pairs store names values constants named banned used marks kept is right each_named meanings fine = record {
  among = λ k c. marked_in used marks k (subst (λ xs. Contains xs k) is c);
  each = λ k c. let j = contains_slice used k c in elim (fine j.0 k j.1) [
    | inl stays ↦ inl (subst (λ xs. Contains xs k) (sym is) (is_marked used marks j.0 k j.1 stays))
    | inr (inl out) ↦ inr (inr out)
    | inr (inr may) ↦ inr (inl (fine_left pairs store names values constants named kept right each_named meanings k may))
  ];
  order = λ order. subst (AllPairs (λ j k. j < k)) (sym is) (marked_order used marks order);
}

-- and where more is banned
pub more_banned : (pairs : ℕ) (store : List (List Lit)) (names : NameLists) (less more : List (Option Bool)) (used kept : List ℕ) → ((m : Lit) → MakesTrue less m → MakesTrue more m)
    → AreKeptStored pairs store names less used kept → AreKeptStored pairs store names more used kept
more_banned pairs store names less more used kept grows h = record {
  among = h.among;
  each = λ k c. elim (h.each k c) [
    | inl stays ↦ inl stays
    | inr (inl out) ↦ inr (inl out)
    | inr (inr (clause, at, l, has, own, bans)) ↦ inr (inr (clause, at, l, has, own, grows l bans))
  ];
  order = h.order;
}

-- nothing is banned by no values
pub none_banned : (m : Lit) (more : List (Option Bool)) → MakesTrue [] m → MakesTrue more m
none_banned m more is = absurd (blank m.sign is)
  where
    blank : (b : Bool) → None ≡ Some b → ⊥
    blank b e = absurd (cc)

pub kept_within : (pairs n : ℕ) (store : List (List Lit)) (names : NameLists) (banned : List (Option Bool)) (used kept : List ℕ) → AreKeptStored pairs store names banned used kept → All (λ k. k < n) used → All (λ k. k < n) kept
kept_within pairs n store names banned used kept h all = all_from (λ k. k < n) kept (λ k c. All-contains (λ j. j < n) used k all (h.among k c))

pub all_kept : (pairs : ℕ) (store : List (List Lit)) (names : NameLists) (used kept : List ℕ) → kept ≡ used → AreKeptStored pairs store names [] used kept
all_kept pairs store names used kept is = record {
  among = λ k c. subst (λ xs. Contains xs k) is c;
  each = λ k c. inl (subst (λ xs. Contains xs k) (sym is) c);
  order = λ order. subst (AllPairs (λ j k. j < k)) (sym is) order;
}
