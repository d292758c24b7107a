-- Lists of places as they are stored.
use Rattle.std.proofs.Common.{◌≡◌, ℕ, ◌+◌, ◌-◌, ◌<◌, ◌≤◌, ◌^◌, replicate, zero, suc, List, [], ◌∷◌, ◌++◌, Option, Some, None, IsSome, IfSome, option_to_list, map, length, get_or, set, take, refl, sym, ap, ◌∙◌, arith}
use Rattle.std.proofs.lemmas.List.{length-set, length-map, length-replicate, length-append, get_or-map, map-set, map-append, set-get_or, length_push, take-append-le, take_all, get_or_push}
use Rattle.pc_propagate.specs.declared.links.Place.{Place}
use Rattle.pc_propagate.specs.declared.links.Ends.{Ends}
use Rattle.pc_propagate.specs.inside.Links.{linked, firsts_of, lasts_of, nexts_of, lists_of}
use Rattle.pc_propagate.specs.inside.Lists.{ListsView, AreLists, AreLinked}
use Rattle.pc_propagate.proofs.ListLemmas.{IsStillFirst, lists_none, first_in_list, no_first, lists_taken, lists_put_first, lists_put_last, last_in, lists_added, lists_dropped, lists_cleared}

pub linked_on : (n : ℕ) → (n ≡ 0 → ⊥) → linked n ≡ Some (n - 1)
linked_on zero other = absurd (other refl)
linked_on (suc n) other = ap Some (omega arith)

pub linked_none : (n : ℕ) → n ≡ 0 → linked n ≡ None
linked_none n is = ap linked is

pub linked_after : (n m : ℕ) → m ≡ n + 1 → linked m ≡ Some n
linked_after n m is = linked_on m (λ none. absurd (omega (arith, is, none))) ∙ ap Some (omega (arith, is))

-- what is read of an element
pub read_map : {X Y : Type 0} (f : X → Y) (xs : List X) (i : ℕ) (x : X) (d : Y) → i < length xs → x ≡ get_or xs i x → get_or (map f xs) i d ≡ f x
read_map f xs i x d within read = get_or-map f xs i x d within ∙ ap f (sym read)

-- what stays of an element that is written
pub same_map : {X Y : Type 0} (f : X → Y) (xs : List X) (i : ℕ) (x y : X) (d : Y) → i < length xs → x ≡ get_or xs i x → f y ≡ f x → map f (set xs i y) ≡ map f xs
same_map f xs i x y d within read same =
    map-set f xs i y ∙ ap (set (map f xs) i) (same ∙ sym (read_map f xs i x d within read)) ∙ set-get_or (map f xs) i d

pub lists_same : (a a2 : List (Option ℕ)) (b b2 : List ℕ) (c c2 d d2 : List (Option ℕ)) → a2 ≡ a → b2 ≡ b → c2 ≡ c → d2 ≡ d → AreLists a b c d → AreLists a2 b2 c2 d2
lists_same a a2 b b2 c c2 d d2 p q r s h = rw (p, q, r, s) h

-- a place is in one of the lists
pub list_below : (ends : List Ends) (places : List Place) (place : ℕ) (p : Place) (list : Option ℕ) → AreLinked ends places → place < length places → p ≡ get_or places place p → list ≡ linked p.list → IfSome list (λ l. l < length ends)
list_below ends places place p None h within read is = tt
list_below ends places place p (Some l) h within read is =
    omega (arith, h.lists.below l place (read_map (λ (x : Place). linked x.list) places place p None within read ∙ sym is), length-map ends (λ (x : Ends). linked x.first))

-- the first place of a list, and that there is none
pub first_found : (ends : List Ends) (places : List Place) (list place : ℕ) (e : Ends) → AreLinked ends places → list < length ends → e ≡ get_or ends list e → linked e.first ≡ Some place
    → (place < length places) × (get_or (lists_of places) place None ≡ Some list)
first_found ends places list place e h within read some =
    let found = first_in_list (firsts_of ends) (lasts_of ends) (nexts_of places) (lists_of places) list place h.lists (omega (arith, within, length-map ends (λ (x : Ends). linked x.first)))
    (read_map (λ (x : Ends). linked x.first) ends list e None within read ∙ some) in
    (omega (arith, found.0, length-map places (λ (x : Place). linked x.list)), found.1)

pub none_found : (ends : List Ends) (places : List Place) (list : ℕ) (e : Ends) → AreLinked ends places → list < length ends → e ≡ get_or ends list e → linked e.first ≡ None
    → (place : ℕ) → get_or (lists_of places) place None ≡ Some list → ⊥
none_found ends places list e h within read none =
    no_first (firsts_of ends) (lasts_of ends) (nexts_of places) (lists_of places) list h.lists (omega (arith, within, length-map ends (λ (x : Ends). linked x.first)))
    (read_map (λ (x : Ends). linked x.first) ends list e None within read ∙ none)

-- a list without its first place
pub linked_taken : (ends : List Ends) (places : List Place) (list place : ℕ) (e : Ends) (p : Place) → AreLinked ends places → list < length ends → e ≡ get_or ends list e → linked e.first ≡ Some place → p ≡ get_or places place p
    → AreLinked (set ends list (record { first = p.next; last = e.last })) (set places place (record { next = p.next; list = 0 }))
linked_taken ends places list place e p h within read some at =
    let found = first_found ends places list place e h within read some in
    record {
      lists = lists_same _ _ _ _ _ _ _ _
          (map-set (λ (x : Ends). linked x.first) ends list (record { first = p.next; last = e.last }))
          (same_map (λ (x : Ends). x.last) ends list e (record { first = p.next; last = e.last }) 0 within read refl)
          (same_map (λ (x : Place). linked x.next) places place p (record { next = p.next; list = 0 }) None found.0 at refl)
          (map-set (λ (x : Place). linked x.list) places place (record { next = p.next; list = 0 }))
          (lists_taken (firsts_of ends) (lasts_of ends) (nexts_of places) (lists_of places) list place (linked p.next) h.lists (omega (arith, within, length-map ends (λ (x : Ends). linked x.first)))
          (read_map (λ (x : Ends). linked x.first) ends list e None within read ∙ some)
          (sym (read_map (λ (x : Place). linked x.next) places place p None found.0 at)));
      few_lists = omega (arith, h.few_lists, length-set ends list (record { first = p.next; last = e.last }));
      few_places = omega (arith, h.few_places, length-set places place (record { next = p.next; list = 0 }));
    }

-- what is seen of a place that is written
pub seen_written : (places : List Place) (place : ℕ) (q : Place) → lists_of (set places place q) ≡ set (lists_of places) place (linked q.list)
seen_written places place q = map-set (λ (x : Place). linked x.list) places place q

-- a place more, in a list without places
pub linked_put_first : (ends : List Ends) (places : List Place) (list place link number : ℕ) (e : Ends) → AreLinked ends places → list < length ends → place < length places
    → get_or (lists_of places) place None ≡ None → e ≡ get_or ends list e → e.first ≡ 0 → linked link ≡ Some place → linked number ≡ Some list
    → AreLinked (set ends list (record { first = link; last = place })) (set places place (record { next = 0; list = number }))
linked_put_first ends places list place link number e h within room free read none link_is number_is = record {
  lists = lists_same _ _ _ _ _ _ _ _
      (map-set (λ (x : Ends). linked x.first) ends list (record { first = link; last = place }) ∙ ap (set (firsts_of ends) list) link_is)
      (map-set (λ (x : Ends). x.last) ends list (record { first = link; last = place }))
      (map-set (λ (x : Place). linked x.next) places place (record { next = 0; list = number }))
      (map-set (λ (x : Place). linked x.list) places place (record { next = 0; list = number }) ∙ ap (set (lists_of places) place) number_is)
      (lists_put_first (firsts_of ends) (lasts_of ends) (nexts_of places) (lists_of places) list place h.lists
      (omega (arith, within, length-map ends (λ (x : Ends). linked x.first))) (omega (arith, within, length-map ends (λ (x : Ends). x.last))) (omega (arith, room, length-map places (λ (x : Place). linked x.list))) free
      (read_map (λ (x : Ends). linked x.first) ends list e None within read ∙ linked_none e.first none));
  few_lists = omega (arith, h.few_lists, length-set ends list (record { first = link; last = place }));
  few_places = omega (arith, h.few_places, length-set places place (record { next = 0; list = number }));
}

-- the last place of a list
pub last_found : (ends : List Ends) (places : List Place) (list : ℕ) (e : Ends) → AreLinked ends places → list < length ends → e ≡ get_or ends list e → (e.first ≡ 0 → ⊥)
    → (e.last < length places) × (get_or (lists_of places) e.last None ≡ Some list)
last_found ends places list e h within read some =
    let found = last_in (firsts_of ends) (lasts_of ends) (nexts_of places) (lists_of places) list e.last (e.first - 1) h.lists (omega (arith, within, length-map ends (λ (x : Ends). linked x.first)))
    (read_map (λ (x : Ends). linked x.first) ends list e None within read ∙ linked_on e.first some) (sym (read_map (λ (x : Ends). x.last) ends list e 0 within read)) in
    (omega (arith, found.0, length-map places (λ (x : Place). linked x.list)), found.1)

-- a place more, in a list with places
pub linked_put_last : (ends : List Ends) (places : List Place) (list place link number : ℕ) (e : Ends) (q : Place) → AreLinked ends places → list < length ends → place < length places
    → get_or (lists_of places) place None ≡ None → e ≡ get_or ends list e → (e.first ≡ 0 → ⊥) → linked link ≡ Some place → linked number ≡ Some list
    → q ≡ get_or (set places place (record { next = 0; list = number })) e.last q
    → AreLinked (set ends list (record { first = e.first; last = place })) (set (set places place (record { next = 0; list = number })) e.last (record { next = link; list = q.list }))
linked_put_last ends places list place link number e q h within room free read some link_is number_is at =
    let made : Place = record { next = 0; list = number } in
    let led : Place = record { next = link; list = q.list } in
    let found = last_found ends places list e h within read some in
    let inside : e.last < length (set places place made) = omega (arith, found.0, length-set places place made) in
    record {
      lists = lists_same _ _ _ _ _ _ _ _
          (same_map (λ (x : Ends). linked x.first) ends list e (record { first = e.first; last = place }) None within read refl)
          (map-set (λ (x : Ends). x.last) ends list (record { first = e.first; last = place }))
          (map-set (λ (x : Place). linked x.next) (set places place made) e.last led
          ∙ ap (λ (xs : List (Option ℕ)). set xs e.last (linked link)) (map-set (λ (x : Place). linked x.next) places place made)
          ∙ ap (set (set (nexts_of places) place None) e.last) link_is)
          (same_map (λ (x : Place). linked x.list) (set places place made) e.last q led None inside at refl
          ∙ map-set (λ (x : Place). linked x.list) places place made ∙ ap (set (lists_of places) place) number_is)
          (lists_put_last (firsts_of ends) (lasts_of ends) (nexts_of places) (lists_of places) list place e.last (e.first - 1) h.lists
          (omega (arith, within, length-map ends (λ (x : Ends). linked x.first))) (omega (arith, within, length-map ends (λ (x : Ends). x.last))) (omega (arith, room, length-map places (λ (x : Place). linked x.list))) free
          (read_map (λ (x : Ends). linked x.first) ends list e None within read ∙ linked_on e.first some) (sym (read_map (λ (x : Ends). x.last) ends list e 0 within read)));
      few_lists = omega (arith, h.few_lists, length-set ends list (record { first = e.first; last = place }));
      few_places = omega (arith, h.few_places, length-set (set places place made) e.last led, length-set places place made);
    }

pub seen_put_last : (places : List Place) (place link number list : ℕ) (last : ℕ) (q : Place) → place < length places → last < length places → linked number ≡ Some list
    → q ≡ get_or (set places place (record { next = 0; list = number })) last q
    → lists_of (set (set places place (record { next = 0; list = number })) last (record { next = link; list = q.list })) ≡ set (lists_of places) place (Some list)
seen_put_last places place link number list last q room found number_is at =
    let made : Place = record { next = 0; list = number } in
    let led : Place = record { next = link; list = q.list } in
    let inside : last < length (set places place made) = omega (arith, found, length-set places place made) in
    same_map (λ (x : Place). linked x.list) (set places place made) last q led None inside at refl ∙ map-set (λ (x : Place). linked x.list) places place made ∙ ap (set (lists_of places) place) number_is

-- the same numbers and lists are the same view
pub same_view : (n m : ℕ) (xs ys : List (Option ℕ)) → n ≡ m → xs ≡ ys → ◌≡◌ {A = ListsView} (record { count = n; list_of = xs }) (record { count = m; list_of = ys })
same_view n m xs ys a b = rw (a, b) refl

-- a place more, in no list
pub linked_added : (ends : List Ends) (places more : List Place) → more ≡ places ++ record { next = 0; list = 0 } ∷ [] → length places + 1 < 2 ^ 32 → AreLinked ends places → AreLinked ends more
linked_added ends places more is few h =
    let one : List Place = record { next = 0; list = 0 } ∷ [] in
    record {
      lists = lists_same _ _ _ _ _ _ _ _ refl refl
          (ap (map (λ (x : Place). linked x.next)) is ∙ map-append (λ (x : Place). linked x.next) places one)
          (ap (map (λ (x : Place). linked x.list)) is ∙ map-append (λ (x : Place). linked x.list) places one)
          (lists_added (firsts_of ends) (lasts_of ends) (nexts_of places) (lists_of places) h.lists);
      few_lists = h.few_lists;
      few_places = omega (arith, few, ap length is, length-append places one);
    }

pub seen_added : (places more : List Place) → more ≡ places ++ record { next = 0; list = 0 } ∷ [] → lists_of more ≡ lists_of places ++ None ∷ []
seen_added places more is = ap (map (λ (x : Place). linked x.list)) is ∙ map-append (λ (x : Place). linked x.list) places (record { next = 0; list = 0 } ∷ [])

push_front : {X : Type 0} (xs ys : List X) (x y : X) → xs ++ x ∷ [] ≡ ys ++ y ∷ [] → xs ≡ ys
push_front xs ys x y same =
    let size : length xs ≡ length ys = omega (arith, ap length same, length_push xs x, length_push ys y) in
    sym (front xs x) ∙ ap (take (length xs)) same ∙ ap (λ (n : ℕ). take n (ys ++ y ∷ [])) size ∙ front ys y
  where
    front : {X : Type 0} (xs : List X) (x : X) → take (length xs) (xs ++ x ∷ []) ≡ xs
    front xs x = take-append-le (length xs) xs (x ∷ []) (omega arith) ∙ take_all (length xs) xs (omega arith)

push_last : {X : Type 0} (xs ys : List X) (x y : X) → xs ++ x ∷ [] ≡ ys ++ y ∷ [] → x ≡ y
push_last {X = X} xs ys x y same =
    let size : length xs ≡ length ys = omega (arith, ap length same, length_push xs x, length_push ys y) in
    sym (get_or_push xs x x (length xs) refl) ∙ ap (λ (zs : List X). get_or zs (length xs) x) same ∙ get_or_push ys y x (length xs) (sym size)

-- and a place less
pub seen_dropped : (places front : List Place) (lists : List (Option ℕ)) (p : Place) → places ≡ front ++ p ∷ [] → lists_of places ≡ lists ++ None ∷ [] → (lists_of front ≡ lists) × (linked p.list ≡ None)
seen_dropped places front lists p split seen =
    let ends : lists_of front ++ linked p.list ∷ [] ≡ lists ++ None ∷ [] =
    sym (ap (map (λ (x : Place). linked x.list)) split ∙ map-append (λ (x : Place). linked x.list) front (p ∷ [])) ∙ seen in
    (push_front (lists_of front) lists (linked p.list) None ends, push_last (lists_of front) lists (linked p.list) None ends)

pub linked_dropped : (ends : List Ends) (places front : List Place) (lists : List (Option ℕ)) (p : Place) → places ≡ front ++ p ∷ [] → lists_of places ≡ lists ++ None ∷ [] → AreLinked ends places → AreLinked ends front
linked_dropped ends places front lists p split seen h = record {
  lists = lists_dropped (firsts_of ends) (lasts_of ends) (nexts_of front) (linked p.next) (lists_of front)
      (lists_same _ _ _ _ _ _ _ _ refl refl
      (sym (ap (map (λ (x : Place). linked x.next)) split ∙ map-append (λ (x : Place). linked x.next) front (p ∷ [])))
      (sym (ap (map (λ (x : Place). linked x.list)) split ∙ map-append (λ (x : Place). linked x.list) front (p ∷ [])
      ∙ ap (λ (o : Option ℕ). lists_of front ++ o ∷ []) (seen_dropped places front lists p split seen).1))
      h.lists);
  few_lists = h.few_lists;
  few_places = omega (arith, h.few_places, ap length split, length-append front (p ∷ []));
}

-- the same, where it isn't said that there was one
pub linked_popped : (ends : List Ends) (places front : List Place) (lists : List (Option ℕ)) (last : Option Place) → places ≡ front ++ option_to_list last → (0 < length places → IsSome last) → lists_of places ≡ lists ++ None ∷ []
    → AreLinked ends places → AreLinked ends front
linked_popped ends places front lists (Some p) split some seen h = linked_dropped ends places front lists p split seen h
linked_popped ends places front lists None split some seen h = absurd (cc (some (omega (arith, ap length seen, length_push {X = Option ℕ} lists None, length-map places (λ (x : Place). linked x.list)))))

pub seen_popped : (places front : List Place) (lists : List (Option ℕ)) (last : Option Place) → places ≡ front ++ option_to_list last → (0 < length places → IsSome last) → lists_of places ≡ lists ++ None ∷ [] → lists_of front ≡ lists
seen_popped places front lists (Some p) split some seen = (seen_dropped places front lists p split seen).0
seen_popped places front lists None split some seen = absurd (cc (some (omega (arith, ap length seen, length_push {X = Option ℕ} lists None, length-map places (λ (x : Place). linked x.list)))))

-- lists without places
pub linked_blank : (ends : List Ends) (places : List Place) (count : ℕ) → ends ≡ replicate count (record { first = 0; last = 0 }) → places ≡ [] → count < 2 ^ 32 → AreLinked ends places
linked_blank ends places count is none few = record {
  lists = lists_none (firsts_of ends) (lasts_of ends) (nexts_of places) (lists_of places) count
      (ap (map (λ (x : Ends). linked x.first)) is ∙ map_replicate count)
      (ap (map (λ (x : Place). linked x.next)) none) (ap (map (λ (x : Place). linked x.list)) none);
  few_lists = omega (arith, few, ap length is, length-replicate {A = Ends} count (record { first = 0; last = 0 }));
  few_places = omega (arith, ap length none);
}
  where
    map_replicate : (n : ℕ) → map (λ (x : Ends). linked x.first) (replicate n (record { first = 0; last = 0 })) ≡ replicate n None
    map_replicate zero = refl
    map_replicate (suc n) = ap (λ (xs : List (Option ℕ)). None ∷ xs) (map_replicate n)

-- lists that are empty, past the last place
pub linked_cleared : (ends : List Ends) (places old : List Place) (place : ℕ) → ((list : ℕ) → list < length (firsts_of ends) → IsStillFirst (firsts_of ends) (lists_of old) place list) → length old ≤ place → places ≡ [] → length ends < 2 ^ 32
    → AreLinked ends places
linked_cleared ends places old place left past none few = record {
  lists = lists_cleared (firsts_of ends) (lasts_of ends) (nexts_of places) (lists_of places) (lists_of old) place left (omega (arith, past, length-map old (λ (x : Place). linked x.list)))
      (ap (map (λ (x : Place). linked x.next)) none) (ap (map (λ (x : Place). linked x.list)) none);
  few_lists = few;
  few_places = omega (arith, ap length none);
}
