-- Places that are linked in one list, and buckets of them.
use Rattle.std.proofs.Common.{◌≡◌, ℕ, zero, suc, ◌+◌, ◌-◌, ◌<◌, ◌≤◌, ◌==◌, true, false, cond, nat_lt, List, [], ◌∷◌, ◌++◌, map, append-nil, append_assoc, length, replicate, set, Some, slice_get, slice_index_or, eq-eqb, refl, ap, sym, ◌∙◌, subst, arith}
use Rattle.pc_components.specs.declared.turned.Link.{Link}
use Rattle.pc_components.specs.Links.{no_link, linked_from, AreLinked}
use Rattle.pc_components.specs.inside.Within.{AreBelow}
use Rattle.pc_components.specs.inside.Turned.{times, begins_with, with_first, placed}
use Rattle.pc_components.proofs.TurnedRight.{no_test}

abbrev at : List Link → ℕ → Link
at links n = slice_index_or links n no_link

-- ---- from a link on

one_less : (links : List Link) (m end : ℕ) → end ≤ m → linked_from links (suc m) end ≡ linked_from links m end
one_less links m end l = ap (λ b. cond b ((at links m).place ∷ linked_from links m (at links m).next) (linked_from links m end)) (no_test end (suc m) (λ e. omega (arith, l, e)))

fewer : (links : List Link) (d m k end : ℕ) → m ≡ k + d → end ≤ k → linked_from links m end ≡ linked_from links k end
fewer links zero m k end e l = ap (λ j. linked_from links j end) (let h : m ≡ k = omega (arith, e) in h)
fewer links (suc d) zero k end e l = absurd (omega (arith, e))
fewer links (suc d) (suc m) k end e l = one_less links m end (omega (arith, e, l)) ∙ fewer links d m k end (omega (arith, e)) l

pub next_before : (k : ℕ) (links : List Link) (n : ℕ) → AreLinked k links → n < length links → (at links n).next ≤ k + n
next_before k [] n h l = absurd (omega (arith, l))
next_before k (x ∷ xs) zero h l = omega (arith, h.0)
next_before k (x ∷ xs) (suc n) h l = let rest = next_before (k + 1) xs n h.1 (omega (arith, l)) in omega (arith, rest)

pub link_first : (links : List Link) (n : ℕ) → AreLinked 0 links → n < length links → linked_from links (length links) (suc n) ≡ (at links n).place ∷ linked_from links (length links) (at links n).next
link_first links n h l =
    let x = at links n in
    let before = next_before 0 links n h l in
    let low : x.next ≤ n = omega (arith, before) in
    fewer links (length links - suc n) (length links) (suc n) (suc n) (omega (arith, l)) (omega arith)
    ∙ ap (λ b. cond b (x.place ∷ linked_from links n x.next) (linked_from links n (suc n))) (eq-eqb (suc n) (suc n) refl)
    ∙ ap (λ ps. x.place ∷ ps) (sym (fewer links (length links - n) (length links) n x.next (omega (arith, l)) low))

none_from : (links : List Link) (m : ℕ) → linked_from links m 0 ≡ []
none_from links zero = refl
none_from links (suc m) = one_less links m 0 (omega arith) ∙ none_from links m

-- a look at the first place
pub first_is : (k : ℕ) (links : List Link) (end : ℕ) → AreLinked 0 links → 0 < end → end ≤ length links → ((at links (end - 1)).place == k) ≡ begins_with k (linked_from links (length links) end)
first_is k links zero h some l = absurd (omega (arith, some))
first_is k links (suc n) h some l =
    let e : suc n - 1 ≡ n = omega arith in
    ap (λ j. (at links j).place == k) e ∙ ap (begins_with k) (sym (link_first links n h (omega (arith, l))))

pub none_first : (k : ℕ) (links : List Link) (end : ℕ) → end ≡ 0 → nat_lt 0 end ≡ begins_with k (linked_from links (length links) end)
none_first k links end e = ap (nat_lt 0) e ∙ ap (begins_with k) (sym (ap (linked_from links (length links)) e ∙ none_from links (length links)))

-- ---- place after place

pub next_smaller : (links : List Link) (end : ℕ) → AreLinked 0 links → 0 < end → end ≤ length links → (at links (end - 1)).next < end
next_smaller links end h some l = let before = next_before 0 links (end - 1) h (omega (arith, some, l)) in omega (arith, before, some)

pub place_more : (links : List Link) (next : ℕ) (before now end : List ℕ) → AreLinked 0 links → 0 < next → next ≤ length links → before ++ linked_from links (length links) next ≡ end → now ≡ before ++ (at links (next - 1)).place ∷ []
    → now ++ linked_from links (length links) (at links (next - 1)).next ≡ end
place_more links zero before now end h some l so added = absurd (omega (arith, some))
place_more links (suc n) before now end h some l so added =
    let x = at links (suc n - 1) in
    let e : suc n - 1 ≡ n = omega arith in
    ap (λ ps. ps ++ linked_from links (length links) x.next) added ∙ append_assoc before (x.place ∷ []) (linked_from links (length links) x.next)
    ∙ ap (λ ps. before ++ ps) (ap (λ j. (at links j).place ∷ linked_from links (length links) (at links j).next) e ∙ sym (link_first links n h (omega (arith, l)))) ∙ so

pub all_appended : (links : List Link) (next : ℕ) (now end : List ℕ) → next ≡ 0 → now ++ linked_from links (length links) next ≡ end → now ≡ end
all_appended links next now end e so = sym (append-nil now) ∙ ap (λ ps. now ++ ps) (sym (ap (linked_from links (length links)) e ∙ none_from links (length links))) ∙ so

-- ---- one more link

front_at : (links : List Link) (x : Link) (n : ℕ) → n < length links → at (links ++ x ∷ []) n ≡ at links n
front_at [] x n l = absurd (omega (arith, l))
front_at (y ∷ ys) x zero l = refl
front_at (y ∷ ys) x (suc n) l = front_at ys x n (omega (arith, l))

last_at : (links : List Link) (x : Link) → at (links ++ x ∷ []) (length links) ≡ x
last_at [] x = refl
last_at (y ∷ ys) x = last_at ys x

kept : (links : List Link) (x : Link) (m end : ℕ) → m ≤ length links → linked_from (links ++ x ∷ []) m end ≡ linked_from links m end
kept links x zero end l = refl
kept links x (suc m) end l =
    let y = at links m in
    ap (λ (z : Link). cond (end == suc m) (z.place ∷ linked_from (links ++ x ∷ []) m z.next) (linked_from (links ++ x ∷ []) m end)) (front_at links x m (omega (arith, l)))
    ∙ ap (λ ps. cond (end == suc m) (y.place ∷ ps) (linked_from (links ++ x ∷ []) m end)) (kept links x m y.next (omega (arith, l)))
    ∙ ap (λ ps. cond (end == suc m) (y.place ∷ linked_from links m y.next) ps) (kept links x m end (omega (arith, l)))

module _ (links : List Link) (x : Link) where
  abbrev n : ℕ
  n = length links

  abbrev old : ℕ → List ℕ
  old = linked_from links n

  abbrev more : ℕ → List ℕ
  more = linked_from (links ++ x ∷ []) (suc n)

  old_same : (f : ℕ) → f ≤ n → more f ≡ old f
  old_same f l = one_less (links ++ x ∷ []) n f l ∙ kept links x n f (omega arith)

  new_first : more (suc n) ≡ x.place ∷ old x.next
  new_first =
      ap (λ b. cond b ((at (links ++ x ∷ []) n).place ∷ linked_from (links ++ x ∷ []) n (at (links ++ x ∷ []) n).next) (linked_from (links ++ x ∷ []) n (suc n))) (eq-eqb (suc n) (suc n) refl)
      ∙ ap (λ (y : Link). y.place ∷ linked_from (links ++ x ∷ []) n y.next) (last_at links x)
      ∙ ap (λ ps. x.place ∷ ps) (kept links x n x.next (omega arith))

  all_same : (fs : List ℕ) → AreBelow (n + 1) fs → map more fs ≡ map old fs
  all_same [] h = refl
  all_same (f ∷ fs) h = ap (λ b. b ∷ map more fs) (old_same f (omega (arith, h.0))) ∙ ap (λ bs. old f ∷ bs) (all_same fs h.1)

  placed_more : (i : ℕ) (fs : List ℕ) → slice_get fs i ≡ Some x.next → AreBelow (n + 1) fs → begins_with x.place (old x.next) ≡ false → map more (set fs i (suc n)) ≡ placed x.place i (map old fs)
  placed_more i [] there h e = absurd (cc)
  placed_more zero (f ∷ fs) there h e =
      let same : f ≡ x.next = cc in
      ap (λ b. b ∷ map more fs) (new_first ∙ sym (ap (λ c. cond c (old x.next) (x.place ∷ old x.next)) e) ∙ ap (λ g. with_first x.place (old g)) (sym same))
      ∙ ap (λ bs. with_first x.place (old f) ∷ bs) (all_same fs h.1)
  placed_more (suc i) (f ∷ fs) there h e = ap (λ b. b ∷ map more (set fs i (suc n))) (old_same f (omega (arith, h.0))) ∙ ap (λ bs. old f ∷ bs) (placed_more i fs there h.1 e)

longer : (links : List Link) (x : Link) → length (links ++ x ∷ []) ≡ suc (length links)
longer [] x = refl
longer (y ∷ ys) x = ap suc (longer ys x)

-- by what stands afterwards
pub placed_first : (k i f : ℕ) (links now : List Link) (firsts after : List ℕ) (end : ℕ) → slice_get firsts i ≡ Some f → AreBelow (length links + 1) firsts → begins_with k (linked_from links (length links) f) ≡ false
    → now ≡ links ++ (record { place = k; next = f }) ∷ [] → end ≡ length now → after ≡ set firsts i end
    → map (linked_from now (length now)) after ≡ placed k i (map (linked_from links (length links)) firsts)
placed_first k i f links now firsts after end there h e so is put =
    let x : Link = record { place = k; next = f } in
    let long : length now ≡ suc (length links) = ap length so ∙ longer links x in
    ap (map (linked_from now (length now))) (put ∙ ap (set firsts i) (is ∙ long))
    ∙ ap (λ m. map (linked_from now m) (set firsts i (suc (length links)))) long
    ∙ ap (λ (ls : List Link). map (linked_from ls (suc (length links))) (set firsts i (suc (length links)))) so
    ∙ placed_more links x i firsts there h e

module _ (g : ℕ → List ℕ) where
  pub placed_before : (k i : ℕ) (fs : List ℕ) (f : ℕ) → slice_get fs i ≡ Some f → begins_with k (g f) ≡ true → map g fs ≡ placed k i (map g fs)
  placed_before k i [] f there e = absurd (cc)
  placed_before k zero (z ∷ zs) f there e =
      let same : z ≡ f = cc in
      ap (λ b. b ∷ map g zs) (ap g same ∙ sym (ap (λ c. cond c (g f) (k ∷ g f)) e) ∙ ap (λ w. with_first k (g w)) (sym same))
  placed_before k (suc i) (z ∷ zs) f there e = ap (λ bs. g z ∷ bs) (placed_before k i zs f there e)

  pub placed_nowhere : (k i : ℕ) (fs : List ℕ) → length fs ≤ i → map g fs ≡ placed k i (map g fs)
  placed_nowhere k i [] l = refl
  placed_nowhere k zero (z ∷ zs) l = absurd (omega (arith, l))
  placed_nowhere k (suc i) (z ∷ zs) l = ap (λ bs. g z ∷ bs) (placed_nowhere k i zs (omega (arith, l)))

-- ---- what is always so

linked_push : (k : ℕ) (links : List Link) (x : Link) → AreLinked k links → x.next ≤ k + length links → AreLinked k (links ++ x ∷ [])
linked_push k [] x h l = (omega (arith, l), tt)
linked_push k (y ∷ ys) x h l = (h.0, linked_push (k + 1) ys x h.1 (omega (arith, l)))

below_set : (m w : ℕ) (fs : List ℕ) (i v : ℕ) → AreBelow m fs → m ≤ w → v < w → AreBelow w (set fs i v)
below_set m w [] i v h l b = tt
below_set m w (f ∷ fs) zero v h l b = (b, all_below fs h.1)
  where
    all_below : (gs : List ℕ) → AreBelow m gs → AreBelow w gs
    all_below [] k = tt
    all_below (g ∷ gs) k = (omega (arith, k.0, l), all_below gs k.1)
below_set m w (f ∷ fs) (suc i) v h l b = (omega (arith, h.0, l), below_set m w fs i v h.1 l b)

pub still_linked : (k i f : ℕ) (links now : List Link) (firsts after : List ℕ) (end : ℕ) → f ≤ length links → AreLinked 0 links × AreBelow (length links + 1) firsts
    → now ≡ links ++ (record { place = k; next = f }) ∷ [] → end ≡ length now → after ≡ set firsts i end → AreLinked 0 now × AreBelow (length now + 1) after
still_linked k i f links now firsts after end l h so is put =
    let x : Link = record { place = k; next = f } in
    let long : length now ≡ suc (length links) = ap length so ∙ longer links x in (
      subst (AreLinked 0) (sym so) (linked_push 0 links x h.0 (omega (arith, l))),
      subst (AreBelow (length now + 1)) (sym put) (below_set (length links + 1) (length now + 1) firsts i end h.1 (omega (arith, long)) (omega (arith, is))),
    )

pub below_at : (m : ℕ) (fs : List ℕ) (i f : ℕ) → AreBelow m fs → slice_get fs i ≡ Some f → f < m
below_at m [] i f h there = absurd (cc)
below_at m (g ∷ gs) zero f h there = let same : g ≡ f = cc in subst (λ x. x < m) same h.0
below_at m (g ∷ gs) (suc i) f h there = below_at m gs i f h.1 there

-- ---- none yet

all_empty : (count : ℕ) → map (linked_from [] 0) (replicate count 0) ≡ times count []
all_empty zero = refl
all_empty (suc n) = ap (λ bs. [] ∷ bs) (all_empty n)

pub none_linked : (count : ℕ) (links : List Link) (firsts : List ℕ) → links ≡ [] → firsts ≡ replicate count 0 → map (linked_from links (length links)) firsts ≡ times count []
none_linked count links firsts none e = ap (λ (ls : List Link). map (linked_from ls (length ls)) firsts) none ∙ ap (map (linked_from [] 0)) e ∙ all_empty count

none_below : (m count : ℕ) → AreBelow (m + 1) (replicate count 0)
none_below m zero = tt
none_below m (suc n) = (omega arith, none_below m n)

pub linked_first : (count : ℕ) (links : List Link) (firsts : List ℕ) → links ≡ [] → firsts ≡ replicate count 0 → AreLinked 0 links × AreBelow (length links + 1) firsts
linked_first count links firsts none e = (subst (AreLinked 0) (sym none) tt, subst (AreBelow (length links + 1)) (sym e) (none_below (length links) count))
