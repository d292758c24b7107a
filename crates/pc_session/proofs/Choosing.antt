-- Which parts have entries, as marks.
use Rattle.std.proofs.Common.{◌≡◌, ◌≢◌, ℕ, zero, suc, ◌+◌, ◌<◌, Bool, true, false, cond, List, [], ◌∷◌, ◌++◌, filter, map, length, get_or, set, take, replicate, Contains, Some, slice_get, arith, ap, refl, sym, ◌∙◌, subst}
use Rattle.std.proofs.lemmas.List.{length-map, length-take-le, append-nil, take_more}
use Rattle.std.proofs.lemmas.List.Elements.{filter-append, Contains-push}
use Rattle.pc_sheet.specs.Sheet.{Sheet}
use Rattle.pc_sheet.specs.declared.ids.CellId.{CellId}
use Rattle.pc_sheet.specs.declared.ids.Entry.{Entry}
use Rattle.pc_lemmas.proofs.Elements.{contains_none, kept}
use Rattle.pc_lemmas.proofs.Options.{same_some}
use Rattle.pc_parts.specs.Components.{parts_of}
use Rattle.pc_parts.specs.Parts.{Part}
use Rattle.pc_parts.specs.PartSheets.{is_on}
use Rattle.pc_parts.specs.Unions.{are_some, has_entries}
use Rattle.pc_parts.proofs.Joining.{contains_among, lacks_among}
use Rattle.pc_cache.specs.Rows.{TargetRow}
use Rattle.pc_world_list.specs.Choices.{AreCellsOf, AreSetsOf, IsChosen}
use Rattle.pc_world_list.specs.Chosen.{chosen_parts}
use Rattle.pc_components.specs.View.{number_of}
use Rattle.pc_justify_laws.specs.Edits.{IsEditOf, edited}
use Rattle.pc_justify_laws.proofs.OtherParts.{same_entries}
use Rattle.pc_theory.specs.Theories.{rules_alone, TheoryView, IsTheory, IsPartNumbered}
use Rattle.pc_theory.proofs.Lists.{none_some, at_within, zip_at, zip_length}
use Rattle.pc_theory.proofs.OfWhole.{all_searched}
use Rattle.pc_theory.proofs.Parted.{number_within}
use Rattle.pc_search.specs.Parts.{AreWorldsOf}
use Rattle.pc_world_list.specs.Worlds.{WorldView}
use Rattle.pc_session.specs.inside.Chosen.{AreChosen, places_from, places_of}
use Rattle.pc_session.specs.inside.Sessions.{IsSession}
use Rattle.pc_session.proofs.Placing.{apart_at}
use Rattle.pc_session.proofs.Places.{get_at}

-- ---- places of marks

module _ {X : Type 0} (f : X → Bool) where
  pub many_places : (xs : List X) (k : ℕ) → length (places_from k (map f xs)) ≡ length (filter f xs)
  many_places [] k = refl
  many_places (x ∷ xs) k = by (f x) (many_places xs (k + 1))
    where
      by : (b : Bool) → length (places_from (k + 1) (map f xs)) ≡ length (filter f xs) → length (cond b (k ∷ places_from (k + 1) (map f xs)) (places_from (k + 1) (map f xs))) ≡ length (cond b (x ∷ filter f xs) (filter f xs))
      by true rest = ap suc rest
      by false rest = rest

  -- the marked one at a place is the kept one there
  pub place_is : (xs : List X) (k i n : ℕ) → slice_get (places_from k (map f xs)) i ≡ Some n → (x : X) × (slice_get (filter f xs) i ≡ Some x) × ((j : ℕ) × (n ≡ k + j) × (slice_get xs j ≡ Some x))
  place_is [] k i n at = absurd (none_some at)
  place_is (x ∷ xs) k i n at = by (f x) (λ j there. place_is xs (k + 1) j n there) i at
    where
      by : (b : Bool) → ((i : ℕ) → slice_get (places_from (k + 1) (map f xs)) i ≡ Some n → (y : X) × (slice_get (filter f xs) i ≡ Some y) × ((j : ℕ) × (n ≡ k + 1 + j) × (slice_get xs j ≡ Some y))) → (i : ℕ) → slice_get (cond b (k ∷ places_from (k + 1) (map f xs)) (places_from (k + 1) (map f xs))) i ≡ Some n
          → (y : X) × (slice_get (cond b (x ∷ filter f xs) (filter f xs)) i ≡ Some y) × ((j : ℕ) × (n ≡ k + j) × (slice_get (x ∷ xs) j ≡ Some y))
      by true rest zero here = (x, refl, (0, omega (arith, same_some here), refl))
      by true rest (suc i) later = let r = rest i later in (r.0, r.1, (suc r.2.0, omega (arith, r.2.1), r.2.2))
      by false rest i later = let r = rest i later in (r.0, r.1, (suc r.2.0, omega (arith, r.2.1), r.2.2))

  -- one mark changes
  pub same_marks : (g : X → Bool) (xs : List X) → ((j : ℕ) (y : X) → slice_get xs j ≡ Some y → g y ≡ f y) → map f xs ≡ map g xs
  same_marks g [] same = refl
  same_marks g (x ∷ xs) same = ap (λ b. b ∷ map f xs) (sym (same 0 x refl)) ∙ ap (λ bs. g x ∷ bs) (same_marks g xs (λ j y at. same (suc j) y at))

  pub one_mark : (g : X → Bool) (xs : List X) (n : ℕ) (x : X) → slice_get xs n ≡ Some x → ((j : ℕ) (y : X) → j ≢ n → slice_get xs j ≡ Some y → g y ≡ f y) → set (map f xs) n (g x) ≡ map g xs
  one_mark g [] n x at same = absurd (none_some at)
  one_mark g (y ∷ ys) zero x at same =
      ap (λ z. g z ∷ map f ys) (sym (same_some at)) ∙ ap (λ bs. g y ∷ bs) (same_marks g ys (λ j z there. same (suc j) z (λ (is : suc j ≡ zero). omega (arith, is)) there))
  one_mark g (y ∷ ys) (suc n) x at same =
      ap (λ b. b ∷ set (map f ys) n (g x)) (sym (same 0 y (λ (is : zero ≡ suc n). omega (arith, is)) refl))
      ∙ ap (λ bs. g y ∷ bs) (one_mark g ys n x at (λ j z other there. same (suc j) z (λ (is : suc j ≡ suc n). other (omega (arith, is))) there))

-- ---- whether there are entries

pub some_kept : (f : Entry → Bool) (es : List Entry) (e : Entry) → Contains es e → f e ≡ true → are_some (filter f es) ≡ true
some_kept f es e there is = by (filter f es) (kept f es e there is)
  where
    by : (xs : List Entry) → Contains xs e → are_some xs ≡ true
    by [] h = absurd (contains_none e h)
    by (x ∷ xs) h = refl

pub none_kept : (f : Entry → Bool) (es : List Entry) → ((k : ℕ) (d : Entry) → k < length es → f (get_or es k d) ≡ false) → are_some (filter f es) ≡ false
none_kept f [] h = refl
none_kept f (e ∷ es) h = ap (λ b. are_some (cond b (e ∷ filter f es) (filter f es))) (h 0 e (omega arith)) ∙ none_kept f es (λ k d below. h (suc k) d (omega (arith, below)))

-- an entry more that isn't kept
not_kept : (f : Entry → Bool) (es : List Entry) (e : Entry) → f e ≡ false → filter f (es ++ e ∷ []) ≡ filter f es
not_kept f es e is = filter-append f es (e ∷ []) ∙ (ap (λ b. filter f es ++ cond b (e ∷ []) []) is ∙ append-nil (filter f es))

-- ---- the marks of a sheet's parts

module _ (sheet : Sheet) (theory : TheoryView) (known : IsTheory (rules_alone sheet) theory) where
  pub many_marks : (marks : List Bool) → AreChosen sheet marks → length marks ≡ length (parts_of (rules_alone sheet))
  many_marks marks are = ap length are ∙ length-map (parts_of sheet) (has_entries sheet)

  pub mark_within : (marks : List Bool) → AreChosen sheet marks → (number : ℕ) (part : Part) → IsPartNumbered (rules_alone sheet) number part → number < length marks
  mark_within marks are number part at = omega (arith, many_marks marks are, at_within (parts_of (rules_alone sheet)) number part at)

  pub many_chosen : (marks : List Bool) → AreChosen sheet marks → length (places_of marks) ≡ length (chosen_parts sheet)
  many_chosen marks are = ap (λ ms. length (places_of ms)) are ∙ many_places (has_entries sheet) (parts_of sheet) 0

  pub chosen_at : (marks : List Bool) → AreChosen sheet marks → (i number : ℕ) → slice_get (places_of marks) i ≡ Some number → (p : Part) × IsChosen sheet i p × IsPartNumbered (rules_alone sheet) number p
  chosen_at marks are i number at =
      let r = place_is (has_entries sheet) (parts_of sheet) 0 i number (ap (λ ms. slice_get (places_of ms) i) (sym are) ∙ at) in
      let here : number ≡ r.2.0 = omega (arith, r.2.1) in
      (r.0, r.1, subst (λ n. IsPartNumbered (rules_alone sheet) n r.0) (sym here) r.2.2)

  -- ---- an edit

  pub chosen_after : (c : CellId) (gone : Entry → Bool) (added : List Entry) → IsEditOf c gone added → (number : ℕ) (part : Part) → IsPartNumbered (rules_alone sheet) number part → Contains part.cells c.0
      → (marks after : List Bool) → AreChosen sheet marks → (book : Sheet) → book ≡ edited sheet gone added → after ≡ set marks number (has_entries book part) → AreChosen book after
  chosen_after c gone added is_edit number part at has marks after are book is_book =
      subst (λ b. after ≡ set marks number (has_entries b part) → AreChosen b after) (sym is_book)
      (λ after_is.
      after_is ∙ (ap (λ ms. set ms number (has_entries new part)) are
      ∙ one_mark (has_entries sheet) (has_entries new) (parts_of sheet) number part at
      (λ j q other there. ap are_some (same_entries q.cells c (apart_at sheet theory known number j part q at there (λ is. other (sym is)) c.0 has) gone sheet.entries added is_edit))))
    where
      new : Sheet
      new = edited sheet gone added

  -- ---- entries one after the other

  abbrev with_entries : List Entry → Sheet
  with_entries es = record sheet { entries = es }

  pub none_marked : AreChosen (with_entries []) (replicate (length (parts_of (rules_alone sheet))) false)
  none_marked = all_false (parts_of sheet)
    where
      all_false : (ps : List Part) → replicate (length ps) false ≡ map (has_entries (with_entries [])) ps
      all_false [] = refl
      all_false (p ∷ ps) = ap (λ bs. false ∷ bs) (all_false ps)

  pub mark_more : (es : List Entry) (e : Entry) (marks : List Bool) → AreChosen (with_entries es) marks → (own : ℕ) (q : Part) → IsPartNumbered (rules_alone sheet) own q → Contains q.cells e.cell.0 → AreChosen (with_entries (es ++ e ∷ [])) (set marks own true)
  mark_more es e marks are own q at has =
      ap (λ ms. set ms own true) are
      ∙ (ap (λ b. set (map (has_entries (with_entries es)) (parts_of sheet)) own b) (sym here)
      ∙ one_mark (has_entries (with_entries es)) (has_entries (with_entries (es ++ e ∷ []))) (parts_of sheet) own q at
      (λ j p other there. ap are_some (not_kept (is_on p.cells) es e (lacks_among p.cells e.cell.0 (apart_at sheet theory known own j q p at there (λ is. other (sym is)) e.cell.0 has)))))
    where
      here : has_entries (with_entries (es ++ e ∷ [])) q ≡ true
      here = some_kept (is_on q.cells) (es ++ e ∷ []) e (Contains-push es e) (contains_among q.cells e.cell.0 has)

-- ---- numbers of marked parts

places_push : (marks : List Bool) (b : Bool) (k : ℕ) → places_from k (marks ++ b ∷ []) ≡ places_from k marks ++ cond b ((k + length marks) ∷ []) []
places_push [] b k = ap (λ n. cond b (n ∷ []) []) (let is : k ≡ k + 0 = omega arith in is)
places_push (m ∷ ms) b k = by m (places_push ms b (k + 1))
  where
    same : places_from (k + 1) (ms ++ b ∷ []) ≡ places_from (k + 1) ms ++ cond b ((k + 1 + length ms) ∷ []) [] → places_from (k + 1) (ms ++ b ∷ []) ≡ places_from (k + 1) ms ++ cond b ((k + suc (length ms)) ∷ []) []
    same rest = rest ∙ ap (λ n. places_from (k + 1) ms ++ cond b (n ∷ []) []) (let is : k + 1 + length ms ≡ k + suc (length ms) = omega arith in is)

    by : (c : Bool) → places_from (k + 1) (ms ++ b ∷ []) ≡ places_from (k + 1) ms ++ cond b ((k + 1 + length ms) ∷ []) [] → cond c (k ∷ places_from (k + 1) (ms ++ b ∷ [])) (places_from (k + 1) (ms ++ b ∷ [])) ≡ cond c (k ∷ places_from (k + 1) ms) (places_from (k + 1) ms) ++ cond b ((k + suc (length ms)) ∷ []) []
    by true rest = ap (λ ns. k ∷ ns) (same rest)
    by false rest = same rest

-- the places of one mark more
pub places_more : (marks : List Bool) (n : ℕ) → n < length marks → places_of (take n marks) ++ cond (get_or marks n false) (n ∷ []) [] ≡ places_of (take (n + 1) marks)
places_more marks n below =
    ap (λ k. places_of (take n marks) ++ cond (get_or marks n false) (k ∷ []) []) (let is : n ≡ 0 + length (take n marks) = omega (arith, length-take-le n marks (omega (arith, below))) in is)
    ∙ (sym (places_push (take n marks) (get_or marks n false) 0) ∙ ap places_of (sym (take_more marks n false below)))

-- ---- what a session lends

pub place_within : (sheet : Sheet) (theory : TheoryView) → IsTheory (rules_alone sheet) theory → (marks : List Bool) → AreChosen sheet marks → (i : ℕ) → i < length (chosen_parts sheet) → i < length (places_of marks)
place_within sheet theory known marks are i below = omega (arith, below, many_chosen sheet theory known marks are)

module _ (sheet : Sheet) (theory : TheoryView) (worlds : List (List WorldView)) (rows : List TargetRow) (session : IsSession sheet theory worlds rows) (marks : List Bool) (are : AreChosen sheet marks) (i number : ℕ) (at : slice_get (places_of marks) i ≡ Some number) where
  chosen : (p : Part) × IsChosen sheet i p × IsPartNumbered (rules_alone sheet) number p
  chosen = chosen_at sheet theory session.known marks are i number at

  pub part_kept : number < length theory.components.cells
  part_kept = number_within sheet theory.components (all_searched (rules_alone sheet) theory.components session.known.components) number chosen.0 chosen.2

  pub cells_lent : (cells : List CellId) → ((p : Part) → IsPartNumbered (rules_alone sheet) number p → p.cells ≡ map number_of cells) → AreCellsOf sheet i cells
  cells_lent cells given = record { part = chosen.0; is = chosen.1; cells_are = sym (given chosen.0 chosen.2) }

  pub worlds_kept : number < length worlds
  worlds_kept = omega (arith, zip_length (AreWorldsOf sheet) (parts_of (rules_alone sheet)) worlds session.worlds_of, at_within (parts_of (rules_alone sheet)) number chosen.0 chosen.2)

  pub sets_lent : (ws : List WorldView) → ws ≡ get_or worlds number ws → AreSetsOf sheet i ws
  sets_lent ws is = record {
    part = chosen.0;
    is = chosen.1;
    exact = (zip_at (AreWorldsOf sheet) (parts_of (rules_alone sheet)) worlds number chosen.0 ws session.worlds_of chosen.2 (get_at worlds number ws worlds_kept ∙ ap (λ w. Some w) (sym is))).exact;
  }
