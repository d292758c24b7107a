-- Symbols that are found by hashing their keys, in two parts.
use Rattle.std.proofs.Common.{◌≡◌, ◌≢◌, ℕ, ◌+◌, ◌<◌, ◌≤◌, ◌^◌, ◌⊎◌, inl, inr, Bool, true, false, ◌&&◌, ◌||◌, if◌then◌else◌, List, [], ◌∷◌, ◌++◌, map, length, get_or, All, Contains, Result, Ok, Err, OnErr, Some, slice_get, Vec, Global, refl, ap, sym, ◌∙◌, subst, arith}
use Rattle.std.specs.Bool.{Decides}
use Rattle.std.specs.Cmp.Lexicographic.{pointwise}
use Rattle.std.specs.List.{list_any}
use Rattle.std.specs.Option.{option_map}
use Rattle.std.proofs.lemmas.Bool.{cases_order, or_cases, false≢true}
use Rattle.std.proofs.lemmas.Bool.Decides.{Decides-and, Decides-like}
use Rattle.std.proofs.lemmas.Option.{get_or_from_slice_get, slice_get-map, slice_get_within}
use Rattle.std.proofs.lemmas.List.{map-append, length-append, length-map, get_or-map, get_or_append_left, same_from_push}
use Rattle.std.proofs.lemmas.List.FromFn.{map-range_with_len_more}
use Rattle.std.proofs.lemmas.List.Elements.{All-head, All-tail, All-push, All-weaker, Contains-get_or}
use Rattle.std.proofs.lemmas.List.Quantifiers.{all_pairs_push}
use Rattle.std.proofs.lemmas.Slice.Eq.{slice_eq-Decides}
use Rattle.indexmap.specs.IndexSet.{insert_key}
use Rattle.pc_accept.specs.Literals.{Symbol, node}
use Rattle.pc_accept.specs.Axioms.{each_below}
use Rattle.pc_lemmas.proofs.Elements.{contains_first, contains_later, contains_cases, contains_map}
use Rattle.pc_cert.specs.Keys.{key_of, symbol_by, IsKey, IsNumberedAs, AreNumberedAs}
use Rattle.pc_cert.specs.Links.{Link, link_of, front_of, AreDifferent, key_in, symbol_in, IsLinkIn}
use Rattle.pc_cert.specs.Views.{AreSymbolsDistinct}

-- a key has some numbers
pub none_is_empty : (key : List ℕ) → IsKey key → length key ≡ 0 → ⊥
none_is_empty [] is none = absurd (omega (arith, ap length is))
none_is_empty (k ∷ key) is none = absurd (omega (arith, none))

-- what holds of an error, however it was answered
pub on_err : {T E P : Type 0} (r : Result T E) → P → OnErr r P
on_err (Ok x) p = tt
on_err (Err y) p = p

-- where memory ran out, some of the first are numbered
pub first_numbered : {T E A : Type 0} (r : Result T E) (f : ℕ → A) (old new : List A) (count j : ℕ) (ns : List ℕ) → j ≤ count → AreNumberedAs old new (each_below j f) ns
    → OnErr r ((i : ℕ) × (ms : List ℕ) × (i ≤ count) × AreNumberedAs old new (each_below i f) ms)
first_numbered (Ok x) f old new count j ns most are = tt
first_numbered (Err y) f old new count j ns most are = (j, ns, most, are)

-- ---- one more in a list of different ones

neither : (a b : Bool) → (a || b) ≡ false → (a ≡ false) × (b ≡ false)
neither true b h = absurd (false≢true (sym h))
neither false b h = (refl, h)

different_more : {A : Type 0} (xs : List A) (x : A) → ¬ Contains xs x → AreDifferent xs → length xs + 1 < 2 ^ 32 → AreDifferent (xs ++ x ∷ [])
different_more xs x new are few = record {
  different = all_pairs_push (λ x y. x ≢ y) xs x are.different (λ i d l same. new (subst (Contains xs) same (Contains-get_or xs i d l)));
  few = omega (arith, few, length-append xs (x ∷ []));
}

module _ {K A : Type 0} (view : K → A) (same : K → K → Bool) (decide : (k j : K) → Decides (same k j) (view k ≡ view j)) where
  found : (keys : List K) (k : K) → list_any (same k) keys ≡ true → Contains (map view keys) (view k)
  found [] k h = absurd (false≢true h)
  found (j ∷ keys) k h = elim (or_cases (same k j) (list_any (same k) keys) h) [
    | inl here ↦ subst (Contains (map view (j ∷ keys))) (sym ((decide k j).0 here)) (contains_first (view j) (map view keys))
    | inr later ↦ contains_later (view j) (map view keys) (view k) (found keys k later)
  ]

  absent : (keys : List K) (k : K) → list_any (same k) keys ≡ false → ¬ Contains (map view keys) (view k)
  absent [] k h there = absurd (omega (arith, there.1))
  absent (j ∷ keys) k h there =
      let parts = neither (same k j) (list_any (same k) keys) h in
      elim (contains_cases (view j) (map view keys) (view k) there) [
        | inl here ↦ false≢true (sym parts.0 ∙ (decide k j).1 (sym here))
        | inr later ↦ absent keys k parts.1 later
      ]

  -- the list after a key is inserted
  inserted_by : (b : Bool) (keys : List K) (k : K) → list_any (same k) keys ≡ b
      → (Contains (map view keys) (view k) × (insert_key same keys k ≡ keys)) ⊎ ((¬ Contains (map view keys) (view k)) × (insert_key same keys k ≡ keys ++ k ∷ []))
  inserted_by true keys k test = inl (found keys k test, ap (λ b. if b then keys else keys ++ k ∷ []) test)
  inserted_by false keys k test = inr (absent keys k test, ap (λ b. if b then keys else keys ++ k ∷ []) test)

  module _ (keys new : List K) (k : K) (is_new : new ≡ insert_key same keys k) where
    stays_different : AreDifferent (map view keys) → length keys + 1 < 2 ^ 32 → AreDifferent (map view new)
    stays_different are few = subst (λ ks. AreDifferent (map view ks)) (sym is_new) (elim (inserted_by (list_any (same k) keys) keys k refl) [
      | inl h ↦ subst (λ ks. AreDifferent (map view ks)) (sym h.1) are
      | inr h ↦ subst (λ ks. AreDifferent (map view ks)) (sym h.1)
          (subst AreDifferent (sym (map-append view keys (k ∷ []))) (different_more (map view keys) (view k) h.0 are (omega (arith, few, length-map keys view))))
    ])

    is_numbered : (seen : List A) (place : ℕ) (stored : K) → map view keys ≡ seen → slice_get new place ≡ Some stored → same k stored ≡ true → IsNumberedAs seen (map view new) (view k) place
    is_numbered seen place stored seen_as at is = record {
      at = slice_get-map view new place ∙ ap (option_map view) at ∙ ap Some (sym ((decide k stored).0 is));
      kept = elim (inserted_by (list_any (same k) keys) keys k refl) [
        | inl h ↦ inl (subst (λ (xs : List A). Contains xs (view k)) seen_as h.0, ap (map view) (is_new ∙ h.1) ∙ seen_as)
        | inr h ↦ inr (
          λ there. h.0 (subst (λ (xs : List A). Contains xs (view k)) (sym seen_as) there),
          ap (map view) (is_new ∙ h.1) ∙ map-append view keys (k ∷ []) ∙ ap (λ xs. xs ++ view k ∷ []) seen_as,
        )
      ];
    }

-- ---- fronts and links as they are stored

module _ (E : ℕ → ℕ → Bool) (decide : (v w : ℕ) → Decides (E v w) (v ≡ w)) where
  abbrev same_front : Vec ℕ Global → Vec ℕ Global → Bool
  same_front x y = pointwise E x.items y.items

  front_decides : (x y : Vec ℕ Global) → Decides (same_front x y) (front_of x ≡ front_of y)
  front_decides x y = slice_eq-Decides decide x.items y.items (pointwise E x.items y.items) refl

  abbrev same_link : ℕ × ℕ → ℕ × ℕ → Bool
  same_link x y = E x.0 y.0 && E x.1 y.1

  link_decides : (x y : ℕ × ℕ) → Decides (same_link x y) (link_of x ≡ link_of y)
  link_decides x y =
      Decides-like (same_link x y) (λ h. ap (λ n. record { front = n; last = x.1 }) h.0 ∙ ap (λ n. record { front = y.0; last = n }) h.1) (λ e. (ap (λ l. l.front) e, ap (λ l. l.last) e))
      (Decides-and (E x.0 y.0) (E x.1 y.1) (decide x.0 y.0) (decide x.1 y.1))

  module _ (keys new : List (Vec ℕ Global)) (k : Vec ℕ Global) (is_new : new ≡ insert_key same_front keys k) where
    pub fronts_stay_different : AreDifferent (map front_of keys) → length keys + 1 < 2 ^ 32 → AreDifferent (map front_of new)
    fronts_stay_different = stays_different front_of same_front front_decides keys new k is_new

    pub front_numbered : (front : List ℕ) → k.items ≡ front → (seen : List (List ℕ)) (place : ℕ) (stored : Vec ℕ Global) → map front_of keys ≡ seen → slice_get new place ≡ Some stored → same_front k stored ≡ true
        → IsNumberedAs seen (map front_of new) front place
    front_numbered front items seen place stored seen_as at is =
        subst (λ f. IsNumberedAs seen (map front_of new) f place) items (is_numbered front_of same_front front_decides keys new k is_new seen place stored seen_as at is)

  module _ (keys new : List (ℕ × ℕ)) (k : ℕ × ℕ) (is_new : new ≡ insert_key same_link keys k) where
    pub links_stay_different : AreDifferent (map link_of keys) → length keys + 1 < 2 ^ 32 → AreDifferent (map link_of new)
    links_stay_different = stays_different link_of same_link link_decides keys new k is_new

    pub link_numbered : (seen : List Link) (place : ℕ) (stored : ℕ × ℕ) → map link_of keys ≡ seen → slice_get new place ≡ Some stored → same_link k stored ≡ true → IsNumberedAs seen (map link_of new) (link_of k) place
    link_numbered seen place stored seen_as at is = is_numbered link_of same_link link_decides keys new k is_new seen place stored seen_as at is

-- ---- several numbers

pub none_numbered : {A : Type 0} (xs : List A) → AreNumberedAs xs xs [] []
none_numbered xs = refl

pub one_more_numbered : {A : Type 0} (old next new xs : List A) (ns : List ℕ) (x : A) (n : ℕ) → AreNumberedAs old next xs ns → IsNumberedAs next new x n → AreNumberedAs old new (xs ++ x ∷ []) (ns ++ n ∷ [])
one_more_numbered old next new [] [] x n are is = (new, subst (λ o. IsNumberedAs o new x n) are is, refl)
one_more_numbered old next new [] (m ∷ ns) x n are is = absurd are
one_more_numbered old next new (y ∷ xs) [] x n are is = absurd are
one_more_numbered old next new (y ∷ xs) (m ∷ ns) x n are is = (are.0, are.1, one_more_numbered are.0 next new xs ns x n are.2 is)

module _ (front : ℕ) where
  abbrev pub numbers_behind : ℕ → List Link
  numbers_behind j = each_below j (λ k. record { front = front; last = k })

  pub below_more : (old next new : List Link) (j : ℕ) (ns ms : List ℕ) (n : ℕ) → AreNumberedAs old next (numbers_behind j) ns → IsNumberedAs next new (record { front = front; last = j }) n → ms ≡ ns ++ n ∷ []
      → AreNumberedAs old new (numbers_behind (j + 1)) ms
  below_more old next new j ns ms n are is more =
      let f : ℕ → Link = λ k. record { front = front; last = k } in
      subst (AreNumberedAs old new (numbers_behind (j + 1))) (sym more)
      (subst (λ ls. AreNumberedAs old new ls (ns ++ n ∷ [])) (sym (map-range_with_len_more f 0 j j (let same : 0 + j ≡ j = omega arith in same))) (one_more_numbered old next new (numbers_behind j) ns (f j) n are is))

-- ---- symbols by fronts and links

module _ (fronts : List (List ℕ)) (all : AreDifferent fronts) where
  same_place : (i j : ℕ) → i < length fronts → j < length fronts → get_or fronts i [] ≡ get_or fronts j [] → i ≡ j
  same_place i j l m is = elim (cases_order i j) [
    | inl same ↦ same
    | inr (inl less) ↦ absurd (all.different i j [] less m is)
    | inr (inr more) ↦ absurd (all.different j i [] more l (sym is))
  ]

  same_link_in : (l m : Link) → IsLinkIn fronts l → IsLinkIn fronts m → symbol_in fronts l ≡ symbol_in fronts m → l ≡ m
  same_link_in l m is other same =
      let parts = same_from_push (get_or fronts l.front []) (get_or fronts m.front []) l.last m.last (is.key ∙ ap key_of same ∙ sym other.key) in
      let place : l.front ≡ m.front = same_place l.front m.front is.within other.within parts.0 in
      ap (λ n. record { front = n; last = l.last }) place ∙ ap (λ n. record { front = m.front; last = n }) parts.1

  link_there : (links : List Link) (l : Link) → All (IsLinkIn fronts) links → IsLinkIn fronts l → Contains (map (symbol_in fronts) links) (symbol_in fronts l) → Contains links l
  link_there [] l are is there = absurd (omega (arith, there.1))
  link_there (m ∷ links) l are is there = elim (contains_cases (symbol_in fronts m) (map (symbol_in fronts) links) (symbol_in fronts l) there) [
    | inl here ↦ subst (Contains (m ∷ links)) (same_link_in m l (All-head (IsLinkIn fronts) m links are) is here) (contains_first m links)
    | inr later ↦ contains_later m links l (link_there links l (All-tail (IsLinkIn fronts) m links are) is later)
  ]

  -- a link is numbered, and so is its symbol
  module _ (links more : List Link) (l : Link) (n : ℕ) (are : All (IsLinkIn fronts) links) (is : IsLinkIn fronts l) (numbered : IsNumberedAs links more l n) where
    links_in : All (IsLinkIn fronts) more
    links_in = elim numbered.kept [
      | inl h ↦ subst (All (IsLinkIn fronts)) (sym h.1) are
      | inr h ↦ subst (All (IsLinkIn fronts)) (sym h.1) (All-push (IsLinkIn fronts) links l are is)
    ]

    symbol_numbered : IsNumberedAs (map (symbol_in fronts) links) (map (symbol_in fronts) more) (symbol_in fronts l) n
    symbol_numbered = record {
      at = slice_get-map (symbol_in fronts) more n ∙ ap (option_map (symbol_in fronts)) numbered.at;
      kept = elim numbered.kept [
        | inl h ↦ inl (contains_map (symbol_in fronts) links l h.0, ap (map (symbol_in fronts)) h.1)
        | inr h ↦ inr (λ there. h.0 (link_there links l are is there), ap (map (symbol_in fronts)) h.1 ∙ map-append (symbol_in fronts) links (l ∷ []))
      ];
    }

  -- so are several of one front
  module _ (place : ℕ) (front : List ℕ) (at : slice_get fronts place ≡ Some front) where
    abbrev behind : ℕ → Link
    behind k = record { front = place; last = k }

    by_front : (k : ℕ) → key_in fronts (behind k) ≡ front ++ k ∷ []
    by_front k = ap (λ (f : List ℕ). f ++ k ∷ []) (get_or_from_slice_get fronts place front [] at)

    symbol_behind : (k : ℕ) → symbol_in fronts (behind k) ≡ symbol_by (front ++ k ∷ [])
    symbol_behind k = ap symbol_by (by_front k)

    pub link_is : (k : ℕ) → IsKey (front ++ k ∷ []) → IsLinkIn fronts (behind k)
    link_is k is = record { within = slice_get_within fronts place front at; key = subst IsKey (sym (by_front k)) is }

    pub several_in : ((k : ℕ) → IsKey (front ++ k ∷ [])) → (ks : List ℕ) (links more : List Link) (ns : List ℕ) → All (IsLinkIn fronts) links → AreNumberedAs links more (map behind ks) ns → All (IsLinkIn fronts) more
    several_in keys [] links more [] are same = subst (All (IsLinkIn fronts)) (sym same) are
    several_in keys [] links more (n ∷ ns) are h = absurd h
    several_in keys (k ∷ ks) links more [] are h = absurd h
    several_in keys (k ∷ ks) links more (n ∷ ns) are h = several_in keys ks h.0 more ns (links_in links h.0 (behind k) n are (link_is k (keys k)) h.1) h.2

    pub several_numbered : ((k : ℕ) → IsKey (front ++ k ∷ [])) → (ks : List ℕ) (links more : List Link) (ns : List ℕ) → All (IsLinkIn fronts) links → AreNumberedAs links more (map behind ks) ns
        → AreNumberedAs (map (symbol_in fronts) links) (map (symbol_in fronts) more) (map (λ k. symbol_by (front ++ k ∷ [])) ks) ns
    several_numbered keys [] links more [] are same = ap (map (symbol_in fronts)) same
    several_numbered keys [] links more (n ∷ ns) are h = absurd h
    several_numbered keys (k ∷ ks) links more [] are h = absurd h
    several_numbered keys (k ∷ ks) links more (n ∷ ns) are h =
        let is = link_is k (keys k) in (
          map (symbol_in fronts) h.0,
          subst (λ s. IsNumberedAs (map (symbol_in fronts) links) (map (symbol_in fronts) h.0) s n) (symbol_behind k) (symbol_numbered links h.0 (behind k) n are is h.1),
          several_numbered keys ks h.0 more ns (links_in links h.0 (behind k) n are is h.1) h.2,
        )

    pub one_in : (k : ℕ) (links more : List Link) (n : ℕ) → IsKey (front ++ k ∷ []) → All (IsLinkIn fronts) links → IsNumberedAs links more (behind k) n → All (IsLinkIn fronts) more
    one_in k links more n is are numbered = links_in links more (behind k) n are (link_is k is) numbered

    pub one_numbered : (k : ℕ) (links more : List Link) (n : ℕ) → IsKey (front ++ k ∷ []) → All (IsLinkIn fronts) links → IsNumberedAs links more (behind k) n
        → IsNumberedAs (map (symbol_in fronts) links) (map (symbol_in fronts) more) (symbol_by (front ++ k ∷ [])) n
    one_numbered k links more n is are numbered =
        subst (λ s. IsNumberedAs (map (symbol_in fronts) links) (map (symbol_in fronts) more) s n) (symbol_behind k) (symbol_numbered links more (behind k) n are (link_is k is) numbered)

  symbols_differ : (links : List Link) → All (IsLinkIn fronts) links → AreDifferent links → AreSymbolsDistinct (map (symbol_in fronts) links)
  symbols_differ links are other i j less within same =
      let none : Link = record { front = 0; last = 0 } in
      let long = length-map links (symbol_in fronts) in
      let high : j < length links = omega (arith, within, long) in
      let low : i < length links = omega (arith, less, high) in
      let one = get_or-map (symbol_in fronts) links i none (node 0 []) low in
      let two = get_or-map (symbol_in fronts) links j none (node 0 []) high in
      other.different i j none less high (same_link_in (get_or links i none) (get_or links j none) (are i none low) (are j none high) (sym one ∙ same ∙ two))

pub all_differ : (fronts : List (List ℕ)) (links : List Link) (symbols : List Symbol) → AreDifferent fronts → AreDifferent links → All (IsLinkIn fronts) links → map (symbol_in fronts) links ≡ symbols → AreSymbolsDistinct symbols
all_differ fronts links symbols all other are seen = subst AreSymbolsDistinct seen (symbols_differ fronts all links are other)

-- ---- more fronts change no symbol

module _ (fronts more : List (List ℕ)) (front : List ℕ) (place : ℕ) (numbered : IsNumberedAs fronts more front place) where
  front_still : (i : ℕ) → i < length fronts → get_or more i [] ≡ get_or fronts i []
  front_still i l = elim numbered.kept [
    | inl h ↦ ap (λ (fs : List (List ℕ)). get_or fs i []) h.1
    | inr h ↦ ap (λ (fs : List (List ℕ)). get_or fs i []) h.1 ∙ get_or_append_left fronts (front ∷ []) [] i l
  ]

  no_fewer : (i : ℕ) → i < length fronts → i < length more
  no_fewer i l = elim numbered.kept [
    | inl h ↦ subst (λ (fs : List (List ℕ)). i < length fs) (sym h.1) l
    | inr h ↦ subst (λ (fs : List (List ℕ)). i < length fs) (sym h.1) (omega (arith, l, length-append fronts (front ∷ [])))
  ]

  link_still : (l : Link) → IsLinkIn fronts l → IsLinkIn more l
  link_still l is = record {
    within = no_fewer l.front is.within;
    key = subst (λ (f : List ℕ). IsKey (f ++ l.last ∷ [])) (sym (front_still l.front is.within)) is.key;
  }

  pub links_still : (links : List Link) → All (IsLinkIn fronts) links → All (IsLinkIn more) links
  links_still links are = All-weaker (IsLinkIn fronts) (IsLinkIn more) link_still links are

  pub symbols_still : (links : List Link) → All (IsLinkIn fronts) links → map (symbol_in more) links ≡ map (symbol_in fronts) links
  symbols_still [] are = refl
  symbols_still (l ∷ links) are =
      let here : symbol_in more l ≡ symbol_in fronts l = ap (λ (f : List ℕ). symbol_by (f ++ l.last ∷ [])) (front_still l.front (All-head (IsLinkIn fronts) l links are).within) in
      ap (λ s. s ∷ map (symbol_in more) links) here ∙ ap (λ ss. symbol_in fronts l ∷ ss) (symbols_still links (All-tail (IsLinkIn fronts) l links are))

  -- a key is numbered
  module _ (key : List ℕ) (last : ℕ) (parted : key ≡ front ++ last ∷ []) (is : IsKey key) (all : AreDifferent more) (links after : List Link) (n : ℕ) (are : All (IsLinkIn fronts) links)
      (linked : IsNumberedAs links after (record { front = place; last = last }) n) where
    parted_key : IsKey (front ++ last ∷ [])
    parted_key = subst IsKey parted is

    pub key_links : All (IsLinkIn more) after
    key_links = one_in more all place front numbered.at last links after n parted_key (links_still links are) linked

    pub key_numbered : (seen : List Symbol) → map (symbol_in fronts) links ≡ seen → IsNumberedAs seen (map (symbol_in more) after) (symbol_by key) n
    key_numbered seen seen_as =
        subst (λ k. IsNumberedAs seen (map (symbol_in more) after) (symbol_by k) n) (sym parted)
        (subst (λ (ss : List Symbol). IsNumberedAs ss (map (symbol_in more) after) (symbol_by (front ++ last ∷ [])) n) (symbols_still links are ∙ seen_as)
        (one_numbered more all place front numbered.at last links after n parted_key (links_still links are) linked))

  -- a node's children are
  module _ (rule : ℕ) (path : List ℕ) (is_front : front ≡ 1 ∷ rule ∷ path) (all : AreDifferent more) (links after : List Link) (ks ns : List ℕ) (are : All (IsLinkIn fronts) links)
      (linked : AreNumberedAs links after (map (λ k. record { front = place; last = k }) ks) ns) where
    child_key : (k : ℕ) → IsKey (front ++ k ∷ [])
    child_key k = subst (λ (f : List ℕ). IsKey (f ++ k ∷ [])) (sym is_front) refl

    pub children_links : All (IsLinkIn more) after
    children_links = several_in more all place front numbered.at child_key ks links after ns (links_still links are) linked

    pub children_numbered : (seen : List Symbol) → map (symbol_in fronts) links ≡ seen → AreNumberedAs seen (map (symbol_in more) after) (map (λ k. node rule (path ++ k ∷ [])) ks) ns
    children_numbered seen seen_as =
        subst (λ (ss : List Symbol). AreNumberedAs ss (map (symbol_in more) after) (map (λ k. node rule (path ++ k ∷ [])) ks) ns) (symbols_still links are ∙ seen_as)
        (subst (λ (f : List ℕ). AreNumberedAs (map (symbol_in more) links) (map (symbol_in more) after) (map (λ k. symbol_by (f ++ k ∷ [])) ks) ns) is_front
        (several_numbered more all place front numbered.at child_key ks links after ns (links_still links are) linked))
