-- Lists that are emptied.
use Rattle.std.proofs.Common.{◌≡◌, ℕ, ◌+◌, ◌/◌, ◌<◌, ◌≤◌, ◌⊎◌, inl, inr, List, [], ◌∷◌, length, take, get_or, set, slice_get, refl, ap, sym, ◌∙◌, subst, arith, ⊎_elim}
use Rattle.std.specs.List.{Contains}
use Rattle.std.proofs.lemmas.Bool.{cases_eq, cases_lt}
use Rattle.std.proofs.lemmas.List.{length-set, get_or-set_same, get_or-set_other, get_or_default, get_or-take, length-take, get_or_past}
use Rattle.std.proofs.lemmas.Option.{slice_get_within}
use Rattle.pc_lits.specs.declared.literal.Lit.{Lit}
use Rattle.pc_propagate.specs.declared.watch_lists.Watch.{Watch}
use Rattle.pc_propagate.specs.Lists.{WatchListsView, list_in}
use Rattle.pc_propagate.specs.Bodies.{body_in}
use Rattle.pc_propagate.specs.Listed.{code_of, AreListed, AreListedIn, HaveGone}

abbrev Gone : WatchListsView → WatchListsView → ℕ → Type 0
Gone old new c = (list_in new c ≡ list_in old c) ⊎ (list_in new c ≡ [])

gone_on : (old mid new : WatchListsView) (c : ℕ) → Gone old mid c → Gone mid new c → Gone old new c
gone_on old mid new c first second = ⊎_elim
    (λ same. ⊎_elim (λ before. inl (same ∙ before)) (λ none. inr (same ∙ none)) first)
    (λ none. inr none)
    second

stays_gone : (mid new : WatchListsView) (c : ℕ) → list_in mid c ≡ [] → Gone mid new c → list_in new c ≡ []
stays_gone mid new c none second = ⊎_elim (λ same. same ∙ none) (λ is. is) second

pub gone_none : (old : WatchListsView) (clause : List Lit) → HaveGone (take 0 clause) old old
gone_none old clause = record {
  size = refl;
  room = refl;
  others = λ c. inl refl;
  emptied = λ l has. absurd (omega (arith, has.1));
}

one_gone : (mid new : WatchListsView) (list c : ℕ) → new ≡ record { lists = set mid.lists list []; room = set mid.room list 0 } → Gone mid new c
one_gone mid new list c is = ⊎_elim
    (λ same. ⊎_elim
    (λ inside. inr (ap (λ (v : WatchListsView). list_in v c) is ∙ ap (λ (i : ℕ). get_or (set mid.lists list []) i []) same ∙ get_or-set_same mid.lists list [] [] inside))
    (λ past. inr (ap (λ (v : WatchListsView). list_in v c) is ∙ get_or_past (set mid.lists list []) c [] (omega (arith, past, same, length-set {A = List Watch} mid.lists list []))))
    (cases_lt list (length mid.lists)))
    (λ other. inl (ap (λ (v : WatchListsView). list_in v c) is ∙ get_or-set_other mid.lists list c [] [] other))
    (cases_eq c list)

here_gone : (mid new : WatchListsView) (list : ℕ) → list < length mid.lists → new ≡ record { lists = set mid.lists list []; room = set mid.room list 0 } → list_in new list ≡ []
here_gone mid new list inside is = ap (λ (v : WatchListsView). list_in v list) is ∙ get_or-set_same mid.lists list [] [] inside

pub gone_more : (old mid new : WatchListsView) (clause : List Lit) (i list : ℕ) (d : Lit) → HaveGone (take i clause) old mid → i < length clause → list ≡ code_of (get_or clause i d) → list < length mid.lists
    → new ≡ record { lists = set mid.lists list []; room = set mid.room list 0 } → HaveGone (take (i + 1) clause) old new
gone_more old mid new clause i list d h within list_is inside is = record {
  size = omega (arith, h.size, ap (λ (v : WatchListsView). length v.lists) is, length-set {A = List Watch} mid.lists list []);
  room = omega (arith, h.room, ap (λ (v : WatchListsView). length v.room) is, length-set mid.room list 0);
  others = λ c. gone_on old mid new c (h.others c) (one_gone mid new list c is);
  emptied = λ l has.
      let below : has.0 < i + 1 = omega (arith, has.1, length-take (i + 1) clause) in
      let read : get_or clause has.0 l ≡ l = sym (get_or-take (i + 1) clause has.0 l below) ∙ has.2 in
      ⊎_elim
      (λ early. stays_gone mid new (code_of l) (h.emptied l (has.0, omega (arith, early, within, length-take i clause), get_or-take i clause has.0 l early ∙ read)) (one_gone mid new list (code_of l) is))
      (λ late.
      let same : i ≡ has.0 = omega (arith, late, below) in
      let code : code_of l ≡ list = ap code_of (sym read ∙ ap (λ (k : ℕ). get_or clause k l) (sym same) ∙ get_or_default clause i l d within) ∙ sym list_is in
      ap (list_in new) code ∙ here_gone mid new list inside is)
      (cases_lt has.0 i);
}

pub in_lists : (old mid : WatchListsView) (clause : List Lit) (i list : ℕ) (d : Lit) → AreListedIn (length old.lists) clause → HaveGone (take i clause) old mid → i < length clause → list ≡ code_of (get_or clause i d) → list < length mid.lists
in_lists old mid clause i list d range h within list_is =
    omega (arith, range (get_or clause i d) (i, within, get_or_default clause i (get_or clause i d) d within), list_is, h.size)

-- ---- clause after clause

-- The lists of the literals of the first clauses are empty.
pub record AreGone (bodies : List (List Lit)) (old new : WatchListsView) (count : ℕ) : Type 0 where
  pub size : length new.lists ≡ length old.lists
  pub room : length new.room ≡ length old.room
  pub others : (c : ℕ) → Gone old new c
  pub emptied : (n : ℕ) (l : Lit) → n < count → Contains (body_in bodies n) l → list_in new (code_of l) ≡ []

pub none_gone : (bodies : List (List Lit)) (old : WatchListsView) → AreGone bodies old old 0
none_gone bodies old = record { size = refl; room = refl; others = λ c. inl refl; emptied = λ n l below has. absurd (omega (arith, below)) }

pub next_gone : (bodies : List (List Lit)) (old mid new : WatchListsView) (count : ℕ) (clause : List Lit) → AreGone bodies old mid count → clause ≡ body_in bodies count → HaveGone clause mid new → AreGone bodies old new (count + 1)
next_gone bodies old mid new count clause h is g = record {
  size = g.size ∙ h.size;
  room = g.room ∙ h.room;
  others = λ c. gone_on old mid new c (h.others c) (g.others c);
  emptied = λ n l below has. ⊎_elim
      (λ early. stays_gone mid new (code_of l) (h.emptied n l early has) (g.others (code_of l)))
      (λ late. g.emptied l (subst (λ (b : List Lit). Contains b l) (ap (body_in bodies) (let e : n ≡ count = omega (arith, late, below) in e) ∙ sym is) has))
      (cases_lt n count);
}

pub all_gone : (bodies bodies2 : List (List Lit)) (old new : WatchListsView) (count : ℕ) → AreListed bodies old → AreGone bodies old new count → length bodies ≤ count → bodies2 ≡ [] → AreListed bodies2 new
all_gone bodies bodies2 old new count h g whole none = rw none (record {
  size = omega (arith, g.size, g.room, h.size);
  few = omega arith;
  in_range = λ m l has. absurd (omega (arith, has.1, ap length (get_or_past {X = List Lit} [] m [] (omega arith))));
  known = λ c j w at. absurd (omega (arith, slice_get_within (list_in new c) j w at, ap length (empty c)));
  listed = λ p number long. absurd (omega (arith, number));
  room = λ c inside. omega (arith, ap length (empty c));
})
  where
    nothing_from : (c : ℕ) (list : List Watch) → list ≡ list_in old c → list_in new c ≡ list → list_in new c ≡ []
    nothing_from c [] is same = same
    nothing_from c (w ∷ ws) is same =
        let k = h.known c 0 w (ap (λ (l : List Watch). slice_get l 0) (sym is)) in
        ap (list_in new) (sym k.stands.1) ∙ g.emptied (w.place / 2) k.stands.0 (omega (arith, k.number, whole)) k.stands.2

    empty : (c : ℕ) → list_in new c ≡ []
    empty c = ⊎_elim (λ same. nothing_from c (list_in old c) refl same) (λ none. none) (g.others c)
