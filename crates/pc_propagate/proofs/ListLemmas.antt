-- Linked lists, one place more or less.
use Rattle.std.proofs.Common.{◌+◌, ◌⊎◌, zero, suc, replicate, ◌≡◌, ◌≢◌, ℕ, ◌<◌, List, [], ◌∷◌, ◌++◌, ◌≤◌, ◌-◌, false, length-append, inl, inr, Option, Some, None, length, get_or, set, refl, sym, ap, ◌∙◌, subst, arith, ⊎_elim, cond, eqb}
use Rattle.std.proofs.lemmas.Bool.{cases_Bool, cases_eq, cases_lt, eqb-true, eq-eqb, false≢true}
use Rattle.std.proofs.lemmas.List.{set_past, get_or-replicate, length-replicate, length-set, get_or-set_same, get_or-set_other, get_or_append_left, get_or-append_right, get_or_past}
use Rattle.std.proofs.lemmas.Option.{slice_get-get_or, get_or_from_slice_get}
use Rattle.pc_propagate.specs.inside.Links.{emptied}
use Rattle.pc_propagate.specs.inside.Lists.{IsAmong, IsChain, last_from, EndsAt, AreLists}

-- a link of a place that isn't in the chain changes nothing
chain_frame : (nexts : List (Option ℕ)) (first : Option ℕ) (places : List ℕ) (q : ℕ) (v : Option ℕ) → IsChain nexts first places → (IsAmong q places → ⊥) → IsChain (set nexts q v) first places
chain_frame nexts first [] q v h out = h
chain_frame nexts first (p ∷ ps) q v h out = (
  h.0,
  h.1,
  subst (λ (f : Option ℕ). IsChain (set nexts q v) f ps) (sym (get_or-set_other nexts q p v None (λ same. out (inl (sym same)))))
      (chain_frame nexts (get_or nexts p None) ps q v h.2 (λ among. out (inr among))),
)

-- more places change nothing of a chain
chain_more : (nexts more : List (Option ℕ)) (first : Option ℕ) (places : List ℕ) → ((q : ℕ) → IsAmong q places → q < length nexts) → IsChain nexts first places → IsChain (nexts ++ more) first places
chain_more nexts more first [] within h = h
chain_more nexts more first (p ∷ ps) within h = (
  h.0,
  h.1,
  subst (λ (f : Option ℕ). IsChain (nexts ++ more) f ps) (sym (get_or_append_left nexts more None p (within p (inl refl))))
      (chain_more nexts more (get_or nexts p None) ps (λ q among. within q (inr among)) h.2),
)

-- nor do they the other way round
chain_less : (nexts more : List (Option ℕ)) (first : Option ℕ) (places : List ℕ) → ((q : ℕ) → IsAmong q places → q < length nexts) → IsChain (nexts ++ more) first places → IsChain nexts first places
chain_less nexts more first [] within h = h
chain_less nexts more first (p ∷ ps) within h = (
  h.0,
  h.1,
  subst (λ (f : Option ℕ). IsChain nexts f ps) (get_or_append_left nexts more None p (within p (inl refl)))
      (chain_less nexts more (get_or (nexts ++ more) p None) ps (λ q among. within q (inr among)) h.2),
)

-- past all lists comes none
past_last : (xs : List (Option ℕ)) (p : ℕ) → length xs ≤ p → get_or (xs ++ None ∷ []) p None ≡ None
past_last xs p past = get_or-append_right xs (None ∷ []) (length xs) p None refl past ∙ nothing (p - length xs)
  where
    nothing : (i : ℕ) → get_or {A = Option ℕ} (None ∷ []) i None ≡ None
    nothing zero = refl
    nothing (suc i) = refl

not_in : (more list_of : List (Option ℕ)) (p l : ℕ) → get_or (list_of ++ more) p None ≡ None → get_or (list_of ++ more) p None ≡ Some l → ⊥
not_in more list_of p l none some = cc

-- lists without places
pub lists_none : (firsts : List (Option ℕ)) (lasts : List ℕ) (nexts list_of : List (Option ℕ)) (count : ℕ) → firsts ≡ replicate count None → nexts ≡ [] → list_of ≡ [] → AreLists firsts lasts nexts list_of
lists_none firsts lasts nexts list_of count firsts_are nexts_are list_of_is = record {
  size = rw (nexts_are, list_of_is) refl;
  chain = λ l. [];
  linked = λ l below. rw firsts_are (get_or-replicate count l None None (omega (arith, below, ap length firsts_are, length-replicate {A = Option ℕ} count None)));
  ended = λ l below. tt;
  complete = λ l p is. absurd (nothing p l (subst (λ (xs : List (Option ℕ)). get_or xs p None ≡ Some l) list_of_is is));
  below = λ l p is. absurd (nothing p l (subst (λ (xs : List (Option ℕ)). get_or xs p None ≡ Some l) list_of_is is));
  sound = λ l p among. absurd among;
}
  where
    nothing : (p l : ℕ) → get_or {A = Option ℕ} [] p None ≡ Some l → ⊥
    nothing p l is = cc

-- a chain that begins with a place
open_chain : (nexts : List (Option ℕ)) (first : Option ℕ) (places : List ℕ) (place : ℕ) → IsChain nexts first places → first ≡ Some place
    → (rest : List ℕ) × (places ≡ place ∷ rest) × (IsAmong place rest → ⊥) × IsChain nexts (get_or nexts place None) rest
open_chain nexts first [] place h is = absurd (cc h)
open_chain nexts first (p ∷ ps) place h is =
    let same : p ≡ place = cc (h.0, is) in
    (ps, ap (λ (x : ℕ). x ∷ ps) same, subst (λ (x : ℕ). IsAmong x ps → ⊥) same h.1, subst (λ (x : ℕ). IsChain nexts (get_or nexts x None) ps) same h.2)

-- the first place of a list is one of it
pub first_in_list : (firsts : List (Option ℕ)) (lasts : List ℕ) (nexts list_of : List (Option ℕ)) (list place : ℕ) → AreLists firsts lasts nexts list_of → list < length firsts → get_or firsts list None ≡ Some place
    → (place < length list_of) × (get_or list_of place None ≡ Some list)
first_in_list firsts lasts nexts list_of list place h within is =
    let opened = open_chain nexts (get_or firsts list None) (h.chain list) place (h.linked list within) is in
    h.sound list place (subst (IsAmong place) (sym opened.1) (inl refl))

-- a list without a first place has none
pub no_first : (firsts : List (Option ℕ)) (lasts : List ℕ) (nexts list_of : List (Option ℕ)) (list : ℕ) → AreLists firsts lasts nexts list_of → list < length firsts → get_or firsts list None ≡ None
    → (place : ℕ) → get_or list_of place None ≡ Some list → ⊥
no_first firsts lasts nexts list_of list h within is place has = none_among (h.chain list) (h.linked list within) (h.complete list place has)
  where
    none_among : (places : List ℕ) → IsChain nexts (get_or firsts list None) places → IsAmong place places → ⊥
    none_among [] linked among = among
    none_among (p ∷ ps) linked among = absurd (cc (linked.0, is))

-- where a chain ends without its first place
ends_rest : (last place : ℕ) (rest : List ℕ) → EndsAt last (place ∷ rest) → EndsAt last rest
ends_rest last place [] h = tt
ends_rest last place (next ∷ rest) h = h

-- a list without its first place
pub lists_taken : (firsts : List (Option ℕ)) (lasts : List ℕ) (nexts list_of : List (Option ℕ)) (list place : ℕ) (next : Option ℕ) → AreLists firsts lasts nexts list_of → list < length firsts → get_or firsts list None ≡ Some place
    → next ≡ get_or nexts place None → AreLists (set firsts list next) lasts nexts (set list_of place None)
lists_taken firsts lasts nexts list_of list place next h within is next_is =
    let opened = open_chain nexts (get_or firsts list None) (h.chain list) place (h.linked list within) is in
    let rest = opened.0 in
    let found = first_in_list firsts lasts nexts list_of list place h within is in
    record {
      size = omega (arith, h.size, length-set list_of place None);
      chain = λ l. cond (eqb l list) rest (h.chain l);
      linked = λ l below. ⊎_elim
          (λ yes.
          let same : l ≡ list = eqb-true l list yes in
          rw (yes, same, get_or-set_same firsts list next None within, next_is) opened.3)
          (λ no.
          let other : l ≢ list = λ same. differ l no same in
          rw (no, get_or-set_other firsts list l next None other) (h.linked l (omega (arith, below, length-set firsts list next))))
          (cases_Bool (eqb l list));
      ended = λ l below. ⊎_elim
          (λ yes.
          let same : l ≡ list = eqb-true l list yes in
          rw (yes, same) (ends_rest (get_or lasts list 0) place rest (subst (EndsAt (get_or lasts list 0)) opened.1 (h.ended list within))))
          (λ no. rw no (h.ended l (omega (arith, below, length-set firsts list next))))
          (cases_Bool (eqb l list));
      complete = λ l p has. ⊎_elim
          (λ here. absurd (taken p (get_or-set_same list_of place None None found.0) l (subst (λ (n : ℕ). get_or (set list_of place None) n None ≡ Some l) here has)))
          (λ there.
          let was : get_or list_of p None ≡ Some l = sym (get_or-set_other list_of place p None None there) ∙ has in
          ⊎_elim
          (λ yes.
          let same : l ≡ list = eqb-true l list yes in
          rw yes (⊎_elim (λ at. absurd (there at)) (λ among. among) (subst (IsAmong p) (ap h.chain same ∙ opened.1) (h.complete l p was))))
          (λ no. rw no (h.complete l p was))
          (cases_Bool (eqb l list)))
          (cases_eq p place);
      below = λ l p has. ⊎_elim
          (λ here. absurd (taken p (get_or-set_same list_of place None None found.0) l (subst (λ (n : ℕ). get_or (set list_of place None) n None ≡ Some l) here has)))
          (λ there. omega (arith, length-set firsts list next, h.below l p (sym (get_or-set_other list_of place p None None there) ∙ has)))
          (cases_eq p place);
      sound = λ l p. ⊎_elim
          (λ yes. rw yes (λ among.
          let same : l ≡ list = eqb-true l list yes in
          let was = h.sound list p (subst (IsAmong p) (sym opened.1) (inr among)) in
          let other : p ≢ place = λ at. opened.2 (subst (λ (n : ℕ). IsAmong n rest) at among) in
          (omega (arith, was.0, length-set list_of place None), get_or-set_other list_of place p None None other ∙ was.1 ∙ ap Some (sym same))))
          (λ no. rw no (λ among.
          let was = h.sound l p among in
          let other : p ≢ place = λ at. differ l no (cc (was.1, found.1, ap (λ (n : ℕ). get_or list_of n None) at)) in
          (omega (arith, was.0, length-set list_of place None), get_or-set_other list_of place p None None other ∙ was.1)))
          (cases_Bool (eqb l list));
    }
  where
    differ : (l : ℕ) → eqb l list ≡ false → l ≡ list → ⊥
    differ l apart same = false≢true (sym apart ∙ eq-eqb l list same)

    taken : (p : ℕ) → get_or (set list_of place None) place None ≡ None → (l : ℕ) → get_or (set list_of place None) place None ≡ Some l → ⊥
    taken p none l some = cc

-- ---- a place more at the end

last_among : (first : ℕ) (rest : List ℕ) → IsAmong (last_from first rest) (first ∷ rest)
last_among first [] = inl refl
last_among first (next ∷ rest) = inr (last_among next rest)

among_left : (xs : List ℕ) (q place : ℕ) → IsAmong q xs → IsAmong q (xs ++ place ∷ [])
among_left [] q place among = absurd among
among_left (x ∷ xs) q place among = ⊎_elim (λ here. inl here) (λ there. inr (among_left xs q place there)) among

among_here : (xs : List ℕ) (place : ℕ) → IsAmong place (xs ++ place ∷ [])
among_here [] place = inl refl
among_here (x ∷ xs) place = inr (among_here xs place)

among_push : (xs : List ℕ) (q place : ℕ) → IsAmong q (xs ++ place ∷ []) → (q ≡ place) ⊎ IsAmong q xs
among_push [] q place among = ⊎_elim (λ here. inl here) (λ none. absurd none) among
among_push (x ∷ xs) q place among = ⊎_elim (λ here. inr (inl here)) (λ there. ⊎_elim (λ at. inl at) (λ was. inr (inr was)) (among_push xs q place there)) among

last_push : (first : ℕ) (rest : List ℕ) (place : ℕ) → place ≡ last_from first (rest ++ place ∷ [])
last_push first [] place = refl
last_push first (next ∷ rest) place = last_push next rest place

ends_push : (xs : List ℕ) (place : ℕ) → EndsAt place (xs ++ place ∷ [])
ends_push [] place = refl
ends_push (x ∷ xs) place = last_push x xs place

-- a chain with a place more, to which its last place leads
chain_pushed : (nexts : List (Option ℕ)) (first : Option ℕ) (p : ℕ) (ps : List ℕ) (place : ℕ) → IsChain nexts first (p ∷ ps) → (IsAmong place (p ∷ ps) → ⊥) → place < length nexts → last_from p ps < length nexts
    → IsChain (set (set nexts place None) (last_from p ps) (Some place)) first (p ∷ ps ++ place ∷ [])
chain_pushed nexts first p [] place h out room within = (
  h.0,
  λ among. ⊎_elim (λ same. out (inl (sym same))) (λ none. none) among,
  (
    get_or-set_same (set nexts place None) p (Some place) None (omega (arith, within, length-set nexts place None)),
    λ none. none,
    get_or-set_other (set nexts place None) p place (Some place) None (λ same. out (inl same)) ∙ get_or-set_same nexts place None None room,
  ),
)
chain_pushed nexts first p (q ∷ qs) place h out room within =
    let last = last_from q qs in
    let apart : p ≢ last = λ same. h.1 (subst (λ (n : ℕ). IsAmong n (q ∷ qs)) (sym same) (last_among q qs)) in
    let step : get_or (set (set nexts place None) last (Some place)) p None ≡ get_or nexts p None =
    get_or-set_other (set nexts place None) last p (Some place) None apart ∙ get_or-set_other nexts place p None None (λ same. out (inl (sym same))) in (
      h.0,
      λ among. ⊎_elim (λ same. out (inl (sym same))) (λ was. h.1 was) (among_push (q ∷ qs) p place among),
      subst (λ (f : Option ℕ). IsChain (set (set nexts place None) last (Some place)) f (q ∷ qs ++ place ∷ [])) (sym step)
          (chain_pushed nexts (get_or nexts p None) q qs place h.2 (λ among. out (inr among)) room within),
    )

-- a list with a place more, which was in none
lists_put : (firsts firsts2 : List (Option ℕ)) (lasts : List ℕ) (nexts nexts2 list_of : List (Option ℕ)) (list place : ℕ) (h : AreLists firsts lasts nexts list_of) → place < length list_of → get_or list_of place None ≡ None
    → list < length firsts → list < length lasts → length firsts2 ≡ length firsts → length nexts2 ≡ length nexts → IsChain nexts2 (get_or firsts2 list None) (h.chain list ++ place ∷ [])
    → ((l : ℕ) → l ≢ list → l < length firsts → IsChain nexts2 (get_or firsts2 l None) (h.chain l)) → AreLists firsts2 (set lasts list place) nexts2 (set list_of place (Some list))
lists_put firsts firsts2 lasts nexts nexts2 list_of list place h room free inside within firsts_size nexts_size linked others = record {
  size = omega (arith, h.size, length-set list_of place (Some list), nexts_size);
  chain = λ l. cond (eqb l list) (h.chain list ++ place ∷ []) (h.chain l);
  linked = λ l below. ⊎_elim (λ yes. let same : l ≡ list = eqb-true l list yes in rw (yes, same) linked) (λ no. rw no (others l (λ same. differ l no same) (omega (arith, below, firsts_size)))) (cases_Bool (eqb l list));
  ended = λ l below. ⊎_elim
      (λ yes.
      let same : l ≡ list = eqb-true l list yes in
      rw (yes, same, get_or-set_same lasts list place 0 within) (ends_push (h.chain list) place))
      (λ no.
      let other : l ≢ list = λ same. differ l no same in
      rw (no, get_or-set_other lasts list l place 0 other) (h.ended l (omega (arith, below, firsts_size))))
      (cases_Bool (eqb l list));
  complete = λ l p has. ⊎_elim
      (λ here.
      let same : l ≡ list = cc (has, ap (λ (n : ℕ). get_or (set list_of place (Some list)) n None) here, get_or-set_same list_of place (Some list) None room) in
      rw (eq-eqb l list same) (subst (λ (n : ℕ). IsAmong n (h.chain list ++ place ∷ [])) (sym here) (among_here (h.chain list) place)))
      (λ there.
      let was : get_or list_of p None ≡ Some l = sym (get_or-set_other list_of place p (Some list) None there) ∙ has in
      ⊎_elim
      (λ yes. let same : l ≡ list = eqb-true l list yes in rw yes (among_left (h.chain list) p place (subst (λ (n : ℕ). IsAmong p (h.chain n)) same (h.complete l p was))))
      (λ no. rw no (h.complete l p was))
      (cases_Bool (eqb l list)))
      (cases_eq p place);
  below = λ l p has. ⊎_elim
      (λ here.
      let same : l ≡ list = cc (has, ap (λ (n : ℕ). get_or (set list_of place (Some list)) n None) here, get_or-set_same list_of place (Some list) None room) in
      omega (arith, same, inside, firsts_size))
      (λ there. omega (arith, firsts_size, h.below l p (sym (get_or-set_other list_of place p (Some list) None there) ∙ has)))
      (cases_eq p place);
  sound = λ l p. ⊎_elim
      (λ yes. rw yes (λ among.
      let same : l ≡ list = eqb-true l list yes in
      ⊎_elim
      (λ here. (
        omega (arith, here, room, length-set list_of place (Some list)),
        ap (λ (n : ℕ). get_or (set list_of place (Some list)) n None) here ∙ get_or-set_same list_of place (Some list) None room ∙ ap Some (sym same),
      ))
      (λ there.
      let was = h.sound list p there in
      let other : p ≢ place = λ at. out_of_list list_of place free list p was.1 at in
      (omega (arith, was.0, length-set list_of place (Some list)), get_or-set_other list_of place p (Some list) None other ∙ was.1 ∙ ap Some (sym same)))
      (among_push (h.chain list) p place among)))
      (λ no. rw no (λ among.
      let was = h.sound l p among in
      let other : p ≢ place = λ at. out_of_list list_of place free l p was.1 at in
      (omega (arith, was.0, length-set list_of place (Some list)), get_or-set_other list_of place p (Some list) None other ∙ was.1)))
      (cases_Bool (eqb l list));
}
  where
    differ : (l : ℕ) → eqb l list ≡ false → l ≡ list → ⊥
    differ l apart same = false≢true (sym apart ∙ eq-eqb l list same)

    out_of_list : (list_of : List (Option ℕ)) (place : ℕ) → get_or list_of place None ≡ None → (l p : ℕ) → get_or list_of p None ≡ Some l → p ≡ place → ⊥
    out_of_list list_of place free l p was at = let e : get_or list_of p None ≡ get_or list_of place None = ap (λ (n : ℕ). get_or list_of n None) at in absurd (cc (was, free, e))

-- a place that is in no list is in no chain
outside : (firsts : List (Option ℕ)) (lasts : List ℕ) (nexts list_of : List (Option ℕ)) (place : ℕ) (h : AreLists firsts lasts nexts list_of) → get_or list_of place None ≡ None → (l : ℕ) → IsAmong place (h.chain l) → ⊥
outside firsts lasts nexts list_of place h free l among = let was = h.sound l place among in absurd (cc (was.1, free))

-- into a list without places
pub lists_put_first : (firsts : List (Option ℕ)) (lasts : List ℕ) (nexts list_of : List (Option ℕ)) (list place : ℕ) → AreLists firsts lasts nexts list_of → list < length firsts → list < length lasts → place < length list_of
    → get_or list_of place None ≡ None → get_or firsts list None ≡ None → AreLists (set firsts list (Some place)) (set lasts list place) (set nexts place None) (set list_of place (Some list))
lists_put_first firsts lasts nexts list_of list place h within also room free empty =
    lists_put firsts (set firsts list (Some place)) lasts nexts (set nexts place None) list_of list place h room free within also (length-set firsts list (Some place)) (length-set nexts place None)
    (alone (h.chain list) (h.linked list within))
    (λ l other below. subst (λ (f : Option ℕ). IsChain (set nexts place None) f (h.chain l)) (sym (get_or-set_other firsts list l (Some place) None other))
    (chain_frame nexts (get_or firsts l None) (h.chain l) place None (h.linked l below) (outside firsts lasts nexts list_of place h free l)))
  where
    alone : (chain : List ℕ) → IsChain nexts (get_or firsts list None) chain → IsChain (set nexts place None) (get_or (set firsts list (Some place)) list None) (chain ++ place ∷ [])
    alone [] linked = (get_or-set_same firsts list (Some place) None within, (λ none. none), get_or-set_same nexts place None None (omega (arith, room, h.size)))
    alone (p ∷ ps) linked = absurd (cc (linked.0, empty))

-- the last place of a list that has one is of it
pub last_in : (firsts : List (Option ℕ)) (lasts : List ℕ) (nexts list_of : List (Option ℕ)) (list last first : ℕ) → AreLists firsts lasts nexts list_of → list < length firsts → get_or firsts list None ≡ Some first
    → last ≡ get_or lasts list 0 → (last < length list_of) × (get_or list_of last None ≡ Some list)
last_in firsts lasts nexts list_of list last first h within some last_is = go (h.chain list) (h.linked list within) (h.ended list within) (λ q among. h.sound list q among)
  where
    go : (chain : List ℕ) → IsChain nexts (get_or firsts list None) chain → EndsAt (get_or lasts list 0) chain → ((q : ℕ) → IsAmong q chain → (q < length list_of) × (get_or list_of q None ≡ Some list))
        → (last < length list_of) × (get_or list_of last None ≡ Some list)
    go [] linked ended sound = absurd (cc (linked, some))
    go (p ∷ ps) linked ended sound =
        subst (λ (n : ℕ). (n < length list_of) × (get_or list_of n None ≡ Some list)) (sym (last_is ∙ ended)) (sound (last_from p ps) (last_among p ps))

-- into a list with places
pub lists_put_last : (firsts : List (Option ℕ)) (lasts : List ℕ) (nexts list_of : List (Option ℕ)) (list place last first : ℕ) → AreLists firsts lasts nexts list_of → list < length firsts → list < length lasts → place < length list_of
    → get_or list_of place None ≡ None → get_or firsts list None ≡ Some first → last ≡ get_or lasts list 0
    → AreLists firsts (set lasts list place) (set (set nexts place None) last (Some place)) (set list_of place (Some list))
lists_put_last firsts lasts nexts list_of list place last first h within also room free some last_is =
    lists_put firsts firsts lasts nexts (set (set nexts place None) last (Some place)) list_of list place h room free within also refl
    (length-set (set nexts place None) last (Some place) ∙ length-set nexts place None)
    (grown (h.chain list) (h.linked list within) (h.ended list within) (λ q among. h.sound list q among) (outside firsts lasts nexts list_of place h free list))
    (λ l other below. chain_frame (set nexts place None) (get_or firsts l None) (h.chain l) last (Some place)
    (chain_frame nexts (get_or firsts l None) (h.chain l) place None (h.linked l below) (outside firsts lasts nexts list_of place h free l))
    (λ among. other (one_list (h.sound l last among).1 (last_in firsts lasts nexts list_of list last first h within some last_is).1)))
  where
    one_list : {o : Option ℕ} {l m : ℕ} → o ≡ Some l → o ≡ Some m → l ≡ m
    one_list a b = cc (a, b)

    grown : (chain : List ℕ) → IsChain nexts (get_or firsts list None) chain → EndsAt (get_or lasts list 0) chain → ((q : ℕ) → IsAmong q chain → (q < length list_of) × (get_or list_of q None ≡ Some list)) → (IsAmong place chain → ⊥)
        → IsChain (set (set nexts place None) last (Some place)) (get_or firsts list None) (chain ++ place ∷ [])
    grown [] linked ended sound out = absurd (cc (linked, some))
    grown (p ∷ ps) linked ended sound out =
        let last_found = sound (last_from p ps) (last_among p ps) in
        subst (λ (n : ℕ). IsChain (set (set nexts place None) n (Some place)) (get_or firsts list None) (p ∷ ps ++ place ∷ [])) (sym (last_is ∙ ended))
        (chain_pushed nexts (get_or firsts list None) p ps place linked out (omega (arith, room, h.size)) (omega (arith, last_found.0, h.size)))

-- a place more, in no list
pub lists_added : (firsts : List (Option ℕ)) (lasts : List ℕ) (nexts list_of : List (Option ℕ)) → AreLists firsts lasts nexts list_of → AreLists firsts lasts (nexts ++ None ∷ []) (list_of ++ None ∷ [])
lists_added firsts lasts nexts list_of h = record {
  size = omega (arith, h.size, length-append nexts (None ∷ []), length-append list_of (None ∷ []));
  chain = h.chain;
  linked = λ l below. chain_more nexts (None ∷ []) (get_or firsts l None) (h.chain l) (λ q among. omega (arith, h.size, (h.sound l q among).0)) (h.linked l below);
  ended = h.ended;
  complete = λ l p has. ⊎_elim
      (λ old. h.complete l p (sym (get_or_append_left list_of (None ∷ []) None p old) ∙ has))
      (λ past. absurd (not_in (None ∷ []) list_of p l (past_last list_of p past) has))
      (cases_lt p (length list_of));
  below = λ l p has. ⊎_elim
      (λ old. h.below l p (sym (get_or_append_left list_of (None ∷ []) None p old) ∙ has))
      (λ past. absurd (not_in (None ∷ []) list_of p l (past_last list_of p past) has))
      (cases_lt p (length list_of));
  sound = λ l p among.
      let was = h.sound l p among in
      (omega (arith, was.0, length-append list_of (None ∷ [])), get_or_append_left list_of (None ∷ []) None p was.0 ∙ was.1);
}

-- the last place less, which is in no list
pub lists_dropped : (firsts : List (Option ℕ)) (lasts : List ℕ) (nexts : List (Option ℕ)) (next : Option ℕ) (list_of : List (Option ℕ)) → AreLists firsts lasts (nexts ++ next ∷ []) (list_of ++ None ∷ []) → AreLists firsts lasts nexts list_of
lists_dropped firsts lasts nexts next list_of h = record {
  size = same_size;
  chain = h.chain;
  linked = λ l below. chain_less nexts (next ∷ []) (get_or firsts l None) (h.chain l) (λ q among. omega (arith, same_size, within l q among)) (h.linked l below);
  ended = h.ended;
  complete = λ l p has. ⊎_elim
      (λ old. h.complete l p (get_or_append_left list_of (None ∷ []) None p old ∙ has))
      (λ past. absurd (one_of (get_or_past list_of p None past) has))
      (cases_lt p (length list_of));
  below = λ l p has. ⊎_elim
      (λ old. h.below l p (get_or_append_left list_of (None ∷ []) None p old ∙ has))
      (λ past. absurd (one_of (get_or_past list_of p None past) has))
      (cases_lt p (length list_of));
  sound = λ l p among. (within l p among, sym (get_or_append_left list_of (None ∷ []) None p (within l p among)) ∙ (h.sound l p among).1);
}
  where
    same_size : length nexts ≡ length list_of
    same_size = omega (arith, h.size, length-append nexts (next ∷ []), length-append list_of (None ∷ []))

    one_of : {o : Option ℕ} {l : ℕ} → o ≡ None → o ≡ Some l → ⊥
    one_of a b = cc (a, b)

    within : (l p : ℕ) → IsAmong p (h.chain l) → p < length list_of
    within l p among = ⊎_elim
        (λ old. old)
        (λ past. absurd (one_of (past_last list_of p past) (h.sound l p among).1))
        (cases_lt p (length list_of))

-- an element, read under another default
pub read_option : (xs : List (Option ℕ)) (i : ℕ) (x : Option ℕ) → i < length xs → x ≡ get_or xs i x → get_or xs i None ≡ x
read_option xs i x within read = get_or_from_slice_get xs i x None (slice_get-get_or xs i x within ∙ ap Some (sym read))

-- ---- all places are forgotten

-- the list is empty, or a place from `place` on is one of it
abbrev pub IsStillFirst : List (Option ℕ) → List (Option ℕ) → ℕ → ℕ → Type 0
IsStillFirst firsts list_of place list = (get_or firsts list None ≡ None) ⊎ ((p : ℕ) × (place ≤ p) × (p < length list_of) × (get_or list_of p None ≡ Some list))

pub still_at_first : (firsts : List (Option ℕ)) (lasts : List ℕ) (nexts list_of : List (Option ℕ)) → AreLists firsts lasts nexts list_of → (list : ℕ) → list < length firsts → IsStillFirst firsts list_of 0 list
still_at_first firsts lasts nexts list_of h list within = go (get_or firsts list None) refl
  where
    go : (o : Option ℕ) → get_or firsts list None ≡ o → IsStillFirst firsts list_of 0 list
    go None is = inl is
    go (Some place) is = let found = first_in_list firsts lasts nexts list_of list place h within is in inr (place, omega arith, found.0, found.1)

-- a place in no list
pub still_skipped : (firsts list_of : List (Option ℕ)) (place : ℕ) → get_or list_of place None ≡ None → (list : ℕ) → IsStillFirst firsts list_of place list → IsStillFirst firsts list_of (place + 1) list
still_skipped firsts list_of place none list h = ⊎_elim
    (λ empty. inl empty)
    (λ some. ⊎_elim
    (λ later. inr (some.0, omega (arith, later), some.2, some.3))
    (λ early.
    let same : some.0 ≡ place = omega (arith, early, some.1) in
    absurd (not_some none (ap (λ n. get_or list_of n None) (sym same) ∙ some.3)))
    (cases_lt place some.0))
    h
  where
    not_some : {o : Option ℕ} {l : ℕ} → o ≡ None → o ≡ Some l → ⊥
    not_some a b = cc (a, b)

-- the list of a place is emptied
pub still_emptied : (firsts list_of : List (Option ℕ)) (place first : ℕ) → get_or list_of place None ≡ Some first → first < length firsts
    → (list : ℕ) → IsStillFirst firsts list_of place list → IsStillFirst (set firsts first None) list_of (place + 1) list
still_emptied firsts list_of place first is within list h = ⊎_elim
    (λ same. inl (ap (λ n. get_or (set firsts first None) n None) same ∙ get_or-set_same firsts first None None within))
    (λ differs. ⊎_elim
    (λ empty. inl (get_or-set_other firsts first list None None differs ∙ empty))
    (λ some. ⊎_elim
    (λ later. inr (some.0, omega (arith, later), some.2, some.3))
    (λ early.
    let here : some.0 ≡ place = omega (arith, early, some.1) in
    absurd (differs (one_list (ap (λ n. get_or list_of n None) (sym here) ∙ some.3) is)))
    (cases_lt place some.0))
    h)
    (cases_eq list first)
  where
    one_list : {o : Option ℕ} {l m : ℕ} → o ≡ Some l → o ≡ Some m → l ≡ m
    one_list a b = cc (a, b)

-- the list of a place that is past all lists
pub still_past : (firsts list_of : List (Option ℕ)) (place first : ℕ) → get_or list_of place None ≡ Some first → (first < length firsts → ⊥)
    → (list : ℕ) → list < length firsts → IsStillFirst firsts list_of place list → IsStillFirst firsts list_of (place + 1) list
still_past firsts list_of place first is past list within h = ⊎_elim
    (λ empty. inl empty)
    (λ some. ⊎_elim
    (λ later. inr (some.0, omega (arith, later), some.2, some.3))
    (λ early.
    let here : some.0 ≡ place = omega (arith, early, some.1) in
    let same : list ≡ first = one_list (ap (λ n. get_or list_of n None) (sym here) ∙ some.3) is in
    absurd (past (subst (λ n. n < length firsts) same within)))
    (cases_lt place some.0))
    h
  where
    one_list : {o : Option ℕ} {l m : ℕ} → o ≡ Some l → o ≡ Some m → l ≡ m
    one_list a b = cc (a, b)

pub still_step : (firsts firsts2 list_of : List (Option ℕ)) (place : ℕ) (o : Option ℕ) → get_or list_of place None ≡ o → firsts2 ≡ emptied o firsts → ((list : ℕ) → list < length firsts → IsStillFirst firsts list_of place list)
    → (list : ℕ) → list < length firsts2 → IsStillFirst firsts2 list_of (place + 1) list
still_step firsts firsts2 list_of place None is emptied_is h list below = rw emptied_is (still_skipped firsts list_of place is list (h list (omega (arith, below, ap length emptied_is))))
still_step firsts firsts2 list_of place (Some first) is emptied_is h list below =
    let within : list < length firsts = omega (arith, below, ap length emptied_is, length-set firsts first None) in
    ⊎_elim
    (λ inside. rw emptied_is (still_emptied firsts list_of place first is inside list (h list within)))
    (λ past. rw (emptied_is, set_past firsts first None past) (still_past firsts list_of place first is (λ inside. omega (arith, inside, past)) list within (h list within)))
    (cases_lt first (length firsts))

pub lists_cleared : (firsts : List (Option ℕ)) (lasts : List ℕ) (nexts list_of old : List (Option ℕ)) (place : ℕ) → ((list : ℕ) → list < length firsts → IsStillFirst firsts old place list) → length old ≤ place → nexts ≡ [] → list_of ≡ [] → AreLists firsts lasts nexts list_of
lists_cleared firsts lasts nexts list_of old place h past nexts_are list_of_is = record {
  size = rw (nexts_are, list_of_is) refl;
  chain = λ l. [];
  linked = λ l below. ⊎_elim (λ empty. empty) (λ some. absurd (omega (arith, past, some.1, some.2))) (h l below);
  ended = λ l below. tt;
  complete = λ l p is. absurd (nothing p l (subst (λ (xs : List (Option ℕ)). get_or xs p None ≡ Some l) list_of_is is));
  below = λ l p is. absurd (nothing p l (subst (λ (xs : List (Option ℕ)). get_or xs p None ≡ Some l) list_of_is is));
  sound = λ l p among. absurd among;
}
  where
    nothing : (p l : ℕ) → get_or {A = Option ℕ} [] p None ≡ Some l → ⊥
    nothing p l is = cc
