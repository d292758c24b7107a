-- The search gives each cell the first cell of its component as its label.
use Rattle.std.proofs.Common.{◌≡◌, ◌≢◌, ℕ, zero, suc, ◌+◌, ◌<◌, ◌≤◌, ◌⊎◌, inl, inr, ◌==◌, ◌&&◌, nat_lt, Bool, true, false, cond, List, [], ◌∷◌, ◌++◌, drop, replicate, length, get_or, set, Some, slice_get, Contains, eqb-true, eq-eqb, refl, ap, sym, ◌∙◌, subst, arith}
use Rattle.std.proofs.lemmas.Bool.{cases_eq, cases_lt, false≢true}
use Rattle.std.proofs.lemmas.Bool.Decides.{Decides-ltb}
use Rattle.std.proofs.lemmas.List.{drop_more, length-set, get_or-set_same, get_or-set_other, get_or_default, length_push, length-replicate, get_or-replicate}
use Rattle.std.proofs.lemmas.List.Elements.{Contains-append_left, Contains-append_right, Contains-append_cases}
use Rattle.std.proofs.lemmas.List.FromFn.{get_or-map-range_with_len, length-map-range_with_len}
use Rattle.std.proofs.lemmas.Option.{slice_get_within, slice_get-get_or, get_or_from_slice_get}
use Rattle.pc_parts.specs.Components.{label_of}
use Rattle.pc_lemmas.proofs.Elements.{contains_first, contains_later, contains_cases, contains_none}
use Rattle.pc_components.specs.Labels.{IsTiedBy, AreLabels}
use Rattle.pc_components.specs.Traversal.{Traversal, is_open, reached, all_reached, marked, row_visited, rows_visited, open_count, HasLabel, IsVisited, IsDone, IsTraversal, Nothing}
use Rattle.pc_components.specs.inside.Turned.{places_from, turned}
use Rattle.pc_components.specs.inside.Within.{AreBelow, AreAllBelow}
use Rattle.pc_components.proofs.TurnedMeans.{places_are, are_places}
use Rattle.pc_lemmas.proofs.Options.{same_some}

-- ---- whether a cell has a label

and_both : (a b : Bool) → (a && b) ≡ true → (a ≡ true) × (b ≡ true)
and_both true b e = (refl, e)
and_both false b e = absurd (false≢true e)

both_and : (a b : Bool) → a ≡ true → b ≡ true → (a && b) ≡ true
both_and true b e f = f
both_and false b e f = absurd (false≢true e)

open_is : (labels : List ℕ) (c : ℕ) → is_open labels c ≡ true → (c < length labels) × (label_of labels c ≡ length labels)
open_is labels c h =
    let two = and_both (nat_lt c (length labels)) (label_of labels c == length labels) h in
    ((Decides-ltb c (length labels)).0 two.0, eqb-true (label_of labels c) (length labels) two.1)

not_open : (labels : List ℕ) (c : ℕ) → c < length labels → is_open labels c ≡ false → HasLabel labels c
not_open labels c l h e = false≢true (sym h ∙ both_and (nat_lt c (length labels)) (label_of labels c == length labels) ((Decides-ltb c (length labels)).1 l) (eq-eqb (label_of labels c) (length labels) e))

-- ---- rows

pub place_of : {X : Type 0} (xs : List X) (x : X) → Contains xs x → (j : ℕ) × (slice_get xs j ≡ Some x)
place_of xs x (j, l, is) = (j, slice_get-get_or xs j x l ∙ ap Some is)

pub below_at : (n : ℕ) (row : List ℕ) → AreBelow n row → (c : ℕ) → Contains row c → c < n
below_at n [] h c there = absurd (contains_none c there)
below_at n (d ∷ ds) h c there = elim (contains_cases d ds c there) [ inl same ↦ subst (λ x. x < n) same h.0 | inr later ↦ below_at n ds h.1 c later ]

pub row_below : (n : ℕ) (rows : List (List ℕ)) → AreAllBelow n rows → (j : ℕ) (row : List ℕ) → slice_get rows j ≡ Some row → AreBelow n row
row_below n [] h j row at = absurd (cc)
row_below n (r ∷ rows) h zero row at = subst (AreBelow n) (same_some at) h.0
row_below n (r ∷ rows) h (suc j) row at = row_below n rows h.1 j row at

pub all_below : (n : ℕ) (row : List ℕ) → ((c : ℕ) → Contains row c → c < n) → AreBelow n row
all_below n [] h = tt
all_below n (c ∷ cs) h = (h c (contains_first c cs), all_below n cs (λ d k. h d (contains_later c cs d k)))

-- ---- one step

module _ (rows : List (List ℕ)) (n : ℕ) where
  abbrev Stays : Traversal → Traversal → Type 0
  Stays t s = (c : ℕ) → HasLabel t.labels c → label_of s.labels c ≡ label_of t.labels c

  module _ (k label : ℕ) (within : label < n) (InHand : ℕ → Type 0) where
    abbrev Is : Traversal → Type 0
    Is t = IsTraversal rows n k label InHand t

    -- a cell that has the label in hand
    with_label : (t : Traversal) → length t.labels ≡ n → (c : ℕ) → label_of t.labels c ≡ label → HasLabel t.labels c
    with_label t count c is e = absurd (omega (arith, is, e, count))

    abbrev opened : Traversal → ℕ → Traversal
    opened t d = record { labels = set t.labels d label; frontier = t.frontier ++ d ∷ []; visited = t.visited }

    module _ (t : Traversal) (g : Is t) (d : ℕ) (low : d < n) (none : label_of t.labels d ≡ length t.labels) (later : label ≤ d) (chained : (chain : List ℕ) × IsTiedBy rows d chain label) where
      here : (c : ℕ) → c ≡ d → label_of (set t.labels d label) c ≡ label
      here c same = ap (label_of (set t.labels d label)) same ∙ get_or-set_same t.labels d label 0 (let e = g.count in omega (arith, low, e))

      there : (c : ℕ) → c ≢ d → label_of (set t.labels d label) c ≡ label_of t.labels c
      there c other = get_or-set_other t.labels d c label 0 other

      long : length (set t.labels d label) ≡ length t.labels
      long = length-set t.labels d label

      pub open_stays : (c : ℕ) → HasLabel t.labels c → label_of (set t.labels d label) c ≡ label_of t.labels c
      open_stays c h = there c (λ same. h (ap (label_of t.labels) same ∙ none))

      kept_label : (c : ℕ) → HasLabel t.labels c → HasLabel (set t.labels d label) c
      kept_label c h e = h (sym (open_stays c h) ∙ e ∙ long)

      back : (c : ℕ) → HasLabel (set t.labels d label) c → (c ≡ d) ⊎ HasLabel t.labels c
      back c h = elim (cases_eq c d) [ inl same ↦ inl same | inr other ↦ inr (λ e. h (there c other ∙ e ∙ sym long)) ]

      pub open_is_right : Is (opened t d)
      open_is_right = record {
        count = long ∙ g.count;
        many = g.many;
        earlier = λ c l. kept_label c (g.earlier c l);
        right = λ c l h. elim (back c h) [
          | inl same ↦
              subst (λ x. (x ≤ c) × (chain : List ℕ) × IsTiedBy rows c chain x) (sym (here c same))
              (subst (λ x. (label ≤ x) × (chain : List ℕ) × IsTiedBy rows x chain label) (sym same) (later, chained.0, chained.1))
          | inr old ↦ subst (λ x. (x ≤ c) × (chain : List ℕ) × IsTiedBy rows c chain x) (sym (open_stays c old)) (g.right c l old)
        ];
        ahead = λ c o. was_or_is c o;
        done = λ c l h. elim (back c h) [
          | inl same ↦ inl (inl (Contains-append_right t.frontier (d ∷ []) c (subst (Contains (d ∷ [])) (sym same) (contains_first d []))))
          | inr old ↦ elim (g.done c l old) [
            | inl o ↦ inl (elim o [ inl f ↦ inl (Contains-append_left t.frontier (d ∷ []) c f) | inr hand ↦ inr hand ])
            | inr done ↦ inr done
          ]
        ];
        same = λ j row at v c hc e he.
            let old = g.same j row at v c hc e he in
            let other = g.same j row at v e he c hc in
            (kept_label c old.0, open_stays c old.0 ∙ old.1 ∙ sym (open_stays e other.0));
      }
        where
          was : (c : ℕ) → (c < n) × (label_of t.labels c ≡ label) → (c < n) × (label_of (set t.labels d label) c ≡ label)
          was c (l, is) = (l, open_stays c (with_label t g.count c is) ∙ is)

          was_or_is : (c : ℕ) → Contains (t.frontier ++ d ∷ []) c ⊎ InHand c → (c < n) × (label_of (set t.labels d label) c ≡ label)
          was_or_is c (inr hand) = was c (g.ahead c (inr hand))
          was_or_is c (inl f) = elim (Contains-append_cases t.frontier (d ∷ []) c f) [
            | inl old ↦ was c (g.ahead c (inl old))
            | inr last ↦ elim (contains_cases d [] c last) [ inl same ↦ (subst (λ x. x < n) same low, here c (sym same)) | inr nothing ↦ absurd (contains_none c nothing) ]
          ]

    -- ---- a row

    module _ (start : label < k) (cur : ℕ) (hand : InHand cur) (j : ℕ) (row : List ℕ) (at : slice_get rows j ≡ Some row) (has : Contains row cur) (row_low : (c : ℕ) → Contains row c → c < n) where
      record Goes (t s : Traversal) : Type 0 where
        pub is : Is s
        pub stays : Stays t s
        pub visited : s.visited ≡ t.visited

      reach : (t : Traversal) → Is t → (IsVisited t.visited j → ⊥) → (d : ℕ) → Contains row d → Goes t (reached label d t) × (label_of (reached label d t).labels d ≡ label)
      reach t g new d inside = by (is_open t.labels d) refl
        where
          by : (b : Bool) → is_open t.labels d ≡ b → Goes t (cond b (opened t d) t) × (label_of (cond b (opened t d) t).labels d ≡ label)
          by true e =
              let two = open_is t.labels d e in
              let later : label ≤ d = elim (cases_lt d k) [ inl early ↦ absurd (g.earlier d early two.1) | inr late ↦ omega arith ] in
              let mine = g.ahead cur (inr hand) in
              let r = g.right cur mine.0 (with_label t g.count cur mine.1) in
              let from_cur = subst (λ x. (chain : List ℕ) × IsTiedBy rows cur chain x) mine.1 (r.1, r.2) in
              let chained : (chain : List ℕ) × IsTiedBy rows d chain label = (cur ∷ from_cur.0, ((row, (j, slice_get_within rows j row at, get_or_from_slice_get rows j row row at), inside, has), from_cur.1)) in (
                record { is = open_is_right t g d (row_low d inside) two.1 later chained; stays = open_stays t g d (row_low d inside) two.1 later chained; visited = refl },
                get_or-set_same t.labels d label 0 two.0,
              )
          by false e = (
            record { is = g; stays = λ c h. refl; visited = refl },
            elim (g.done d (row_low d inside) (not_open t.labels d (let l = row_low d inside in let m = g.count in omega (arith, l, m)) e)) [
              | inl o ↦ (g.ahead d o).1
              | inr done ↦ absurd (new (done j row at inside))
            ],
          )

      reach_row : (t : Traversal) → Is t → (IsVisited t.visited j → ⊥) → (cs : List ℕ) → ((c : ℕ) → Contains cs c → Contains row c)
          → Goes t (all_reached label cs t) × ((c : ℕ) → Contains cs c → label_of (all_reached label cs t).labels c ≡ label)
      reach_row t g new [] among = (record { is = g; stays = λ c h. refl; visited = refl }, λ c h. absurd (contains_none c h))
      reach_row t g new (c ∷ cs) among =
          let one = reach t g new c (among c (contains_first c cs)) in
          let s = reached label c t in
          let more = reach_row s one.0.is (λ v. new (subst (λ vs. IsVisited vs j) one.0.visited v)) cs (λ d h. among d (contains_later c cs d h)) in
          let has_label : HasLabel s.labels c = with_label s one.0.is.count c one.1 in (
            record {
              is = more.0.is;
              stays = λ d h. more.0.stays d (λ e. h (sym (one.0.stays d h) ∙ e ∙ one.0.is.count ∙ sym g.count)) ∙ one.0.stays d h;
              visited = more.0.visited ∙ one.0.visited;
            },
            λ d h. elim (contains_cases c cs d h) [
              | inl same ↦ subst (λ x. label_of (all_reached label cs s).labels x ≡ label) same (more.0.stays c has_label ∙ one.1)
              | inr later ↦ more.1 d later
            ],
          )

      -- what is visited stays so
      abbrev pub More : Traversal → Traversal → Type 0
      More t s = (i : ℕ) → IsVisited t.visited i → IsVisited s.visited i

      visit : (t : Traversal) → Is t → Is (row_visited label j row t) × IsVisited (row_visited label j row t).visited j × More t (row_visited label j row t)
      visit t g = by (get_or t.visited j true) refl
        where
          short : j < length t.visited
          short = let l = slice_get_within rows j row at in let m = g.many in omega (arith, l, m)

          by : (b : Bool) → get_or t.visited j true ≡ b → Is (cond b t (marked j (all_reached label row t))) × IsVisited (cond b t (marked j (all_reached label row t))).visited j × More t (cond b t (marked j (all_reached label row t)))
          by true e = (g, get_or_default t.visited j false true short ∙ e, λ i v. v)
          by false e =
              let new : IsVisited t.visited j → ⊥ = λ v. false≢true (sym e ∙ get_or_default t.visited j true false short ∙ v) in
              let all = reach_row t g new row (λ c h. h) in
              let s = all_reached label row t in
              let h = all.0.is in
              let same_visited = all.0.visited in
              let fits : j < length s.visited = subst (λ vs. j < length vs) (sym same_visited) short in
              let mono : (i : ℕ) → IsVisited s.visited i → IsVisited (set s.visited j true) i =
              λ i v. elim (cases_eq i j) [
                | inl same ↦ ap (λ x. get_or (set s.visited j true) x false) same ∙ get_or-set_same s.visited j true false fits
                | inr other ↦ get_or-set_other s.visited j i true false other ∙ v
              ] in (
                record {
                  count = h.count;
                  many = length-set s.visited j true ∙ h.many;
                  earlier = h.earlier;
                  right = h.right;
                  ahead = h.ahead;
                  done = λ c l hc. elim (h.done c l hc) [ inl o ↦ inl o | inr done ↦ inr (λ i r there has'. mono i (done i r there has')) ];
                  same = λ i r there v c hc d hd. elim (cases_eq i j) [
                    | inl same ↦
                        let equal : r ≡ row = same_some (sym there ∙ ap (slice_get rows) same ∙ at) in
                        let lc = all.1 c (subst (λ x. Contains x c) equal hc) in
                        let ld = all.1 d (subst (λ x. Contains x d) equal hd) in
                        (with_label s h.count c lc, lc ∙ sym ld)
                    | inr other ↦ h.same i r there (sym (get_or-set_other s.visited j i true false other) ∙ v) c hc d hd
                  ];
                },
                get_or-set_same s.visited j true false fits,
                λ i v. mono i (subst (λ vs. IsVisited vs i) (sym same_visited) v),
              )

    -- ---- the rows of the cell in hand

    module _ (below : AreAllBelow n rows) (start : label < k) (cur : ℕ) (hand : InHand cur) where
      abbrev pub IsOf : ℕ → Type 0
      IsOf j = (row : List ℕ) × (slice_get rows j ≡ Some row) × Contains row cur

      pub visits : (t : Traversal) → Is t → (js : List ℕ) → ((j : ℕ) → Contains js j → IsOf j)
          → Is (rows_visited label rows js t) × ((j : ℕ) → Contains js j → IsVisited (rows_visited label rows js t).visited j) × ((i : ℕ) → IsVisited t.visited i → IsVisited (rows_visited label rows js t).visited i)
      visits t g [] are = (g, λ j h. absurd (contains_none j h), λ i v. v)
      visits t g (j ∷ js) are =
          let of = are j (contains_first j js) in
          let read : get_or rows j [] ≡ of.0 = get_or_from_slice_get rows j of.0 [] of.1 in
          let one = visit start cur hand j of.0 of.1 of.2 (below_at n of.0 (row_below n rows below j of.0 of.1)) t g in
          let s = row_visited label j (get_or rows j []) t in
          let s_is : Is s = subst (λ r. Is (row_visited label j r t)) (sym read) one.0 in
          let s_visited : IsVisited s.visited j = subst (λ r. IsVisited (row_visited label j r t).visited j) (sym read) one.1 in
          let s_more : (i : ℕ) → IsVisited t.visited i → IsVisited s.visited i = λ i v. subst (λ r. IsVisited (row_visited label j r t).visited i) (sym read) (one.2 i v) in
          let more = visits s s_is js (λ i h. are i (contains_later j js i h)) in (
            more.0,
            λ i h. elim (contains_cases j js i h) [ inl same ↦ subst (λ x. IsVisited (rows_visited label rows js s).visited x) same (more.2 j s_visited) | inr later ↦ more.1 i later ],
            λ i v. more.2 i (s_more i v),
          )

  -- ---- a cell is taken from the frontier, and gone on from

  abbrev pub mk : List ℕ → List ℕ → List Bool → Traversal
  mk ls fs vs = record { labels = ls; frontier = fs; visited = vs }

  module _ (k label : ℕ) (cur : ℕ) where
    abbrev InHand : ℕ → Type 0
    InHand c = c ≡ cur

    taken : (t : Traversal) (rest : List ℕ) → t.frontier ≡ rest ++ cur ∷ [] → IsTraversal rows n k label Nothing t → IsTraversal rows n k label InHand (record { labels = t.labels; frontier = rest; visited = t.visited })
    taken t rest split g = record {
      count = g.count;
      many = g.many;
      earlier = g.earlier;
      right = g.right;
      ahead = λ c o. elim o [
        | inl f ↦ g.ahead c (inl (whole c (Contains-append_left rest (cur ∷ []) c f)))
        | inr is ↦ g.ahead c (inl (whole c (Contains-append_right rest (cur ∷ []) c (subst (Contains (cur ∷ [])) (sym is) (contains_first cur [])))))
      ];
      done = λ c l h. elim (g.done c l h) [ inl o ↦ inl (was c o) | inr done ↦ inr done ];
      same = g.same;
    }
      where
        whole : (c : ℕ) → Contains (rest ++ cur ∷ []) c → Contains t.frontier c
        whole c h = subst (λ xs. Contains xs c) (sym split) h

        was : (c : ℕ) → Contains t.frontier c ⊎ Nothing c → Contains rest c ⊎ InHand c
        was c (inr none) = absurd none
        was c (inl f) = elim (Contains-append_cases rest (cur ∷ []) c (subst (λ xs. Contains xs c) split f)) [
          | inl early ↦ inl early
          | inr last ↦ elim (contains_cases cur [] c last) [ inl same ↦ inr (sym same) | inr none ↦ absurd (contains_none c none) ]
        ]

    put_down : (s : Traversal) → IsDone rows s cur → IsTraversal rows n k label InHand s → IsTraversal rows n k label Nothing s
    put_down s done g = record {
      count = g.count;
      many = g.many;
      earlier = g.earlier;
      right = g.right;
      ahead = λ c o. elim o [ inl f ↦ g.ahead c (inl f) | inr none ↦ absurd none ];
      done = λ c l h. elim (g.done c l h) [
        | inl o ↦ elim o [ inl f ↦ inl (inl f) | inr is ↦ inr (subst (IsDone rows s) (sym is) done) ]
        | inr d ↦ inr d
      ];
      same = g.same;
    }

  -- the places of the rows that have the cell
  places_at : (c : ℕ) (places : List ℕ) → c < n → slice_get (turned n rows) c ≡ Some places → places ≡ places_from 0 rows c
  places_at c places low at = sym (get_or_from_slice_get (turned n rows) c places [] at) ∙ get_or-map-range_with_len (places_from 0 rows) 0 n c c [] low (omega arith)

  pub places_low : (c : ℕ) (places : List ℕ) → c < n → slice_get (turned n rows) c ≡ Some places → AreBelow (length rows) places
  places_low c places low at =
      all_below (length rows) places (λ k there.
      let found = places_are 0 rows c k (subst (λ ps. Contains ps k) (places_at c places low at) there) in
      let l = slice_get_within rows found.0 found.2 found.3 in
      omega (arith, l, found.1))

  pub cell_low : (k label : ℕ) (t : Traversal) (cell : ℕ) (rest : List ℕ) → t.frontier ≡ rest ++ cell ∷ [] → IsTraversal rows n k label Nothing t → cell < n
  cell_low k label t cell rest split g = (g.ahead cell (inl (subst (λ xs. Contains xs cell) (sym split) (Contains-append_right rest (cell ∷ []) cell (contains_first cell []))))).0

  pub went_on : AreAllBelow n rows → (label : ℕ) → label < n → (t t' s : Traversal) (cell : ℕ) (places : List ℕ) → t'.labels ≡ t.labels → t.frontier ≡ t'.frontier ++ cell ∷ [] → t'.visited ≡ t.visited
      → slice_get (turned n rows) cell ≡ Some places → s ≡ rows_visited label rows places t' → IsTraversal rows n (label + 1) label Nothing t → IsTraversal rows n (label + 1) label Nothing s
  went_on below label within t t' s cell places labels split visited at is g =
      let low = cell_low (label + 1) label t cell t'.frontier split g in
      let same : mk t.labels t'.frontier t.visited ≡ t' = ap (λ ls. mk ls t'.frontier t.visited) (sym labels) ∙ ap (λ vs. mk t'.labels t'.frontier vs) (sym visited) in
      let h = subst (IsTraversal rows n (label + 1) label (λ c. c ≡ cell)) same (taken (label + 1) label cell t t'.frontier split g) in
      let known = places_at cell places low at in
      let are : (j : ℕ) → Contains places j → (row : List ℕ) × (slice_get rows j ≡ Some row) × Contains row cell =
      λ j there.
      let found = places_are 0 rows cell j (subst (λ ps. Contains ps j) known there) in
      let e : found.0 ≡ j = omega (arith, found.1) in
      (found.2, ap (slice_get rows) (sym e) ∙ found.3, found.4) in
      let all = visits (label + 1) label within (λ c. c ≡ cell) below (omega arith) cell refl t' h places are in
      let done : IsDone rows (rows_visited label rows places t') cell =
      λ j row there has. all.1 j (subst (λ ps. Contains ps j) (sym known) (let e : 0 + j ≡ j = omega arith in subst (Contains (places_from 0 rows cell)) e (are_places 0 rows cell j row there has))) in
      subst (IsTraversal rows n (label + 1) label Nothing) (sym is) (put_down (label + 1) label cell (rows_visited label rows places t') done all.0)

  pub cell_short : (k label : ℕ) (t : Traversal) (cell : ℕ) (rest : List ℕ) (rows_of : List (List ℕ)) → rows_of ≡ turned n rows → t.frontier ≡ rest ++ cell ∷ [] → IsTraversal rows n k label Nothing t → cell < length rows_of
  cell_short k label t cell rest rows_of is split g = let l = cell_low k label t cell rest split g in let m = length-map-range_with_len (places_from 0 rows) 0 n in let e = ap length is in omega (arith, l, m, e)

  -- ---- the start, the next start, and the end

  -- where no cell is left to go on from, any label may be in hand
  pub rested : (k label other : ℕ) (t : Traversal) → t.frontier ≡ [] → IsTraversal rows n k label Nothing t → IsTraversal rows n k other Nothing t
  rested k label other t empty g = record {
    count = g.count;
    many = g.many;
    earlier = g.earlier;
    right = g.right;
    ahead = λ c o. elim o [ inl f ↦ absurd (contains_none c (subst (λ xs. Contains xs c) empty f)) | inr none ↦ absurd none ];
    done = g.done;
    same = g.same;
  }

  none_there : (m j : ℕ) → get_or (replicate m false) j false ≡ false
  none_there zero j = refl
  none_there (suc m) zero = refl
  none_there (suc m) (suc j) = none_there m j

  pub at_start : IsTraversal rows n 0 0 Nothing (mk (replicate n n) [] (replicate (length rows) false))
  at_start = record {
    count = length-replicate n n;
    many = length-replicate (length rows) false;
    earlier = λ c l. absurd (omega arith);
    right = λ c l h. absurd (h (get_or-replicate n c n 0 l ∙ sym (length-replicate n n)));
    ahead = λ c o. elim o [ inl f ↦ absurd (contains_none c f) | inr none ↦ absurd none ];
    done = λ c l h. absurd (h (get_or-replicate n c n 0 l ∙ sym (length-replicate n n)));
    same = λ j row at v c hc d hd. absurd (false≢true (sym (none_there (length rows) j) ∙ v));
  }

  pub started : (first old : ℕ) → first < n → (t s : Traversal) → t.frontier ≡ [] → s ≡ reached first first t → IsTraversal rows n first old Nothing t → IsTraversal rows n (first + 1) first Nothing s
  started first old low t s empty is g = subst (IsTraversal rows n (first + 1) first Nothing) (sym is) (by (is_open t.labels first) refl)
    where
      again : IsTraversal rows n first first Nothing t
      again = rested first old first t empty g

      one_more : (u : Traversal) → IsTraversal rows n first first Nothing u → HasLabel u.labels first → IsTraversal rows n (first + 1) first Nothing u
      one_more u h has = record {
        count = h.count;
        many = h.many;
        earlier = λ c l. elim (cases_eq c first) [ inl same ↦ subst (HasLabel u.labels) (sym same) has | inr other ↦ h.earlier c (omega arith) ];
        right = h.right;
        ahead = h.ahead;
        done = h.done;
        same = h.same;
      }

      by : (b : Bool) → is_open t.labels first ≡ b
          → IsTraversal rows n (first + 1) first Nothing (cond b (record { labels = set t.labels first first; frontier = t.frontier ++ first ∷ []; visited = t.visited }) t)
      by true e =
          let two = open_is t.labels first e in
          let h = open_is_right first first low Nothing t again first low two.1 (omega arith) ([], refl) in
          one_more (record { labels = set t.labels first first; frontier = t.frontier ++ first ∷ []; visited = t.visited }) h
          (with_label first first low Nothing (record { labels = set t.labels first first; frontier = t.frontier ++ first ∷ []; visited = t.visited }) h.count first (get_or-set_same t.labels first first 0 two.0))
      by false e = one_more t again (not_open t.labels first (let c = g.count in omega (arith, low, c)) e)

  pub at_end : AreAllBelow n rows → (old : ℕ) (t : Traversal) → t.frontier ≡ [] → IsTraversal rows n n old Nothing t → AreLabels rows n t.labels
  at_end below old t empty g = record {
    count = g.count;
    tied = λ c l. let r = g.right c l (g.earlier c l) in (r.1, r.2);
    least = λ c l. (g.right c l (g.earlier c l)).0;
    same = λ row there c hc d hd.
        let j = place_of rows row there in
        let l = below_at n row (row_below n rows below j.0 row j.1) c hc in
        elim (g.done c l (g.earlier c l)) [
          | inl o ↦ elim o [ inl f ↦ absurd (contains_none c (subst (λ xs. Contains xs c) empty f)) | inr none ↦ absurd none ]
          | inr done ↦ (g.same j.0 row j.1 (done j.0 row j.1 hc) c hc d hd).1
        ];
  }

pub begun : (rows : List (List ℕ)) (n m : ℕ) → m ≡ length rows → (t : Traversal) → t ≡ record { labels = replicate n n; frontier = []; visited = replicate m false } → IsTraversal rows n 0 0 Nothing t × (t.frontier ≡ [])
begun rows n m many t is =
    let mk : List ℕ → List ℕ → List Bool → Traversal = λ ls fs vs. record { labels = ls; frontier = fs; visited = vs } in
    let same : mk (replicate n n) [] (replicate (length rows) false) ≡ t = ap (λ k. mk (replicate n n) [] (replicate k false)) (sym many) ∙ sym is in
    (subst (IsTraversal rows n 0 0 Nothing) same (at_start rows n), ap (λ (x : Traversal). x.frontier) is)

-- ---- rows at places

pub below_item : (n : ℕ) (row : List ℕ) (i d : ℕ) → AreBelow n row → i < length row → get_or row i d < n
below_item n [] i d h l = absurd (omega (arith, l))
below_item n (c ∷ cs) zero d h l = h.0
below_item n (c ∷ cs) (suc i) d h l = below_item n cs i d h.1 (omega (arith, l))

pub below_drop : (n : ℕ) (row : List ℕ) (i : ℕ) → AreBelow n (drop i row) → AreBelow n (drop (i + 1) row)
below_drop n [] zero h = tt
below_drop n [] (suc i) h = let e : suc (i + 1) ≡ suc i + 1 = omega arith in subst (λ k. AreBelow n (drop k [])) e tt
below_drop n (c ∷ cs) zero h = h.1
below_drop n (c ∷ cs) (suc i) h = let e : suc (i + 1) ≡ suc i + 1 = omega arith in subst (λ k. AreBelow n (drop k (c ∷ cs))) e (below_drop n cs i h)

pub row_more : (label : ℕ) (rows : List (List ℕ)) (places : List ℕ) (i d : ℕ) (row : List ℕ) (t s end : Traversal) → i < length places → slice_get rows (get_or places i d) ≡ Some row → s ≡ row_visited label (get_or places i d) row t
    → rows_visited label rows (drop i places) t ≡ end → rows_visited label rows (drop (i + 1) places) s ≡ end
row_more label rows places i d row t s end low at is so =
    let p = get_or places i d in
    ap (rows_visited label rows (drop (i + 1) places)) (is ∙ ap (λ r. row_visited label p r t) (sym (get_or_from_slice_get rows p row [] at)))
    ∙ sym (ap (λ js. rows_visited label rows js t) (drop_more places i d low)) ∙ so

-- ---- the search ends

weight : Traversal → ℕ
weight t = open_count (length t.labels) t.labels + length t.frontier

open_set : (n : ℕ) (labels : List ℕ) (d label : ℕ) → d < length labels → get_or labels d 0 ≡ n → label ≢ n → suc (open_count n (set labels d label)) ≡ open_count n labels
open_set n [] d label l e other = absurd (omega (arith, l))
open_set n (x ∷ xs) zero label l e other =
    ap (λ b. suc (cond b (suc (open_count n xs)) (open_count n xs))) (no label n other) ∙ sym (ap (λ b. cond b (suc (open_count n xs)) (open_count n xs)) (eq-eqb x n e))
  where
    no : (i j : ℕ) → i ≢ j → (i == j) ≡ false
    no i j h = by (i == j) refl
      where
        by : (b : Bool) → (i == j) ≡ b → (i == j) ≡ false
        by true e = absurd (h (eqb-true i j e))
        by false e = e
open_set n (x ∷ xs) (suc d) label l e other = by (x == n) (open_set n xs d label (omega (arith, l)) e other)
  where
    by : (b : Bool) → suc (open_count n (set xs d label)) ≡ open_count n xs → suc (cond b (suc (open_count n (set xs d label))) (open_count n (set xs d label))) ≡ cond b (suc (open_count n xs)) (open_count n xs)
    by true less = ap suc less
    by false less = less

module _ (label : ℕ) where
  abbrev Keeps : Traversal → Traversal → Type 0
  Keeps t s = (weight s ≡ weight t) × (length s.labels ≡ length t.labels)

  keeps_reach : (t : Traversal) → label ≢ length t.labels → (d : ℕ) → Keeps t (reached label d t)
  unfolding weight
  keeps_reach t other d = by (is_open t.labels d) refl
    where
      by : (b : Bool) → is_open t.labels d ≡ b → Keeps t (cond b (record { labels = set t.labels d label; frontier = t.frontier ++ d ∷ []; visited = t.visited }) t)
      by true e =
          let two = open_is t.labels d e in
          let long = length-set t.labels d label in
          let same : open_count (length (set t.labels d label)) (set t.labels d label) ≡ open_count (length t.labels) (set t.labels d label) = ap (λ n. open_count n (set t.labels d label)) long in
          let less = open_set (length t.labels) t.labels d label two.0 two.1 other in
          let more = length_push t.frontier d in
          (omega (arith, same, less, more), long)
      by false e = (refl, refl)

  keeps_all : (cs : List ℕ) (t : Traversal) → label ≢ length t.labels → Keeps t (all_reached label cs t)
  keeps_all [] t other = (refl, refl)
  keeps_all (c ∷ cs) t other =
      let one = keeps_reach t other c in
      let more = keeps_all cs (reached label c t) (λ e. other (e ∙ one.1)) in
      (more.0 ∙ one.0, more.1 ∙ one.1)

  keeps_row : (j : ℕ) (row : List ℕ) (t : Traversal) → label ≢ length t.labels → Keeps t (row_visited label j row t)
  unfolding weight
  keeps_row j row t other = by (get_or t.visited j true) (keeps_all row t other)
    where
      by : (b : Bool) → Keeps t (all_reached label row t) → Keeps t (cond b t (marked j (all_reached label row t)))
      by true k = (refl, refl)
      by false k = k

  keeps_rows : (rows : List (List ℕ)) (js : List ℕ) (t : Traversal) → label ≢ length t.labels → Keeps t (rows_visited label rows js t)
  keeps_rows rows [] t other = (refl, refl)
  keeps_rows rows (j ∷ js) t other =
      let one = keeps_row j (get_or rows j []) t other in
      let more = keeps_rows rows js (row_visited label j (get_or rows j []) t) (λ e. other (e ∙ one.1)) in
      (more.0 ∙ one.0, more.1 ∙ one.1)

-- one cell of the frontier less
pub shrinks : (label : ℕ) (rows : List (List ℕ)) (t t' s : Traversal) (cell : ℕ) (places : List ℕ) → label < length t.labels → t'.labels ≡ t.labels → t.frontier ≡ t'.frontier ++ cell ∷ [] → s ≡ rows_visited label rows places t'
    → open_count (length s.labels) s.labels + length s.frontier < open_count (length t.labels) t.labels + length t.frontier
unfolding weight
shrinks label rows t t' s cell places low labels split is =
    let other : label ≢ length t'.labels = λ e. (let m = ap length labels in absurd (omega (arith, low, e, m))) in
    let kept = (keeps_rows label rows places t' other).0 in
    let same : weight s ≡ weight t' = ap weight is ∙ kept in
    let counts : open_count (length t'.labels) t'.labels ≡ open_count (length t.labels) t.labels = ap (λ ls. open_count (length ls) ls) labels in
    let one : length t.frontier ≡ length t'.frontier + 1 = ap length split ∙ length_push t'.frontier cell in
    omega (arith, same, counts, one)
