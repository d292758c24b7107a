-- Places rise with the numbers of variables and of axioms, so the last ones tell how many paths and rows all need.
use Rattle.std.proofs.Common.{◌≡◌, ℕ, zero, suc, ◌+◌, ◌-◌, ◌<◌, ◌≤◌, List, [], ◌∷◌, ◌++◌, map, length, take, drop, get_or, Some, slice_get, refl, ap, sym, ◌∙◌, arith, subst}
use Rattle.std.specs.List.{AllByRecursion}
use Rattle.std.proofs.lemmas.List.{map-append}
use Rattle.pc_sheet.specs.declared.ids.CellId.{CellId}
use Rattle.pc_sheet.specs.declared.ids.ValueId.{ValueId}
use Rattle.pc_axiom_names.specs.declared.kept.Stands.{Stands}
use Rattle.pc_axiom_names.specs.declared.kept.Stands.TheVariants.{Pair, Node}
use Rattle.pc_axiom_names.specs.declared.kept.KeptName.{KeptName}
use Rattle.pc_axiom_names.specs.declared.kept.KeptName.TheVariants.{Any, One, Rule, Node as Part, Atom}
use Rattle.pc_axiom_names.specs.Keeping.{AreRising, ArePlacesRising, IsStandsWithin, IsKeptWithin, IsKeptLast, paths_of, kept_paths, kept_rows}

-- ---- fewer and more of them

take_map : {X : Type 0} (f : X → ℕ) (xs : List X) (i : ℕ) → map f (take i xs) ≡ take i (map f xs)
take_map f [] zero = refl
take_map f [] (suc i) = refl
take_map f (x ∷ xs) zero = refl
take_map f (x ∷ xs) (suc i) = ap (λ ns. f x ∷ ns) (take_map f xs i)

rising_take : (m : ℕ) (ns : List ℕ) (i : ℕ) → AreRising m ns → AreRising m (take i ns)
rising_take m [] zero h = tt
rising_take m [] (suc i) h = tt
rising_take m (n ∷ ns) zero h = tt
rising_take m (zero ∷ ns) (suc i) h = rising_take m ns i h
rising_take m (suc k ∷ ns) (suc i) h = (h.0, rising_take (suc k) ns i h.1)

pub rising_first : {X : Type 0} (f : X → ℕ) (xs ys : List X) (i : ℕ) → ys ≡ take i xs → AreRising 0 (map f xs) → AreRising 0 (map f ys)
rising_first f xs ys i e h = subst (AreRising 0) (sym (ap (map f) e ∙ take_map f xs i)) (rising_take 0 (map f xs) i h)

pub places_first : (vs ws : List Stands) (xs ys : List KeptName) (i j : ℕ) → ws ≡ take i vs → ys ≡ take j xs → ArePlacesRising vs xs → ArePlacesRising ws ys
places_first vs ws xs ys i j w y h = (rising_first paths_of vs ws i w h.0, rising_first kept_paths xs ys j y h.1, rising_first kept_rows xs ys j y h.2)

pub places_copied : (vs ws : List Stands) (xs ys : List KeptName) → ws ≡ vs → ys ≡ xs → ArePlacesRising vs xs → ArePlacesRising ws ys
places_copied vs ws xs ys w y h = rw (w, y) h

rising_same : (m : ℕ) (ns : List ℕ) → AreRising m ns → AreRising m (ns ++ 0 ∷ [])
rising_same m [] h = tt
rising_same m (zero ∷ ns) h = rising_same m ns h
rising_same m (suc k ∷ ns) h = (h.0, rising_same (suc k) ns h.1)

rising_push : (m : ℕ) (ns : List ℕ) (k : ℕ) → m ≤ suc k → AllByRecursion (λ n. n ≤ suc k) ns → AreRising m ns → AreRising m (ns ++ suc k ∷ [])
rising_push m [] k l a h = (l, tt)
rising_push m (zero ∷ ns) k l a h = rising_push m ns k l a.1 h
rising_push m (suc j ∷ ns) k l a h = (h.0, rising_push (suc j) ns k a.0 a.1 h.1)

module _ {X : Type 0} (f : X → ℕ) where
  same_pushed : (xs : List X) (x : X) → f x ≡ 0 → AreRising 0 (map f xs) → AreRising 0 (map f (xs ++ x ∷ []))
  same_pushed xs x e h = subst (AreRising 0) (sym (map-append f xs (x ∷ []) ∙ ap (λ n. map f xs ++ n ∷ []) e)) (rising_same 0 (map f xs) h)

  pushed : (xs : List X) (x : X) (k : ℕ) → f x ≡ suc k → AllByRecursion (λ n. n ≤ suc k) (map f xs) → AreRising 0 (map f xs) → AreRising 0 (map f (xs ++ x ∷ []))
  pushed xs x k e a h = subst (AreRising 0) (sym (map-append f xs (x ∷ []) ∙ ap (λ n. map f xs ++ n ∷ []) e)) (rising_push 0 (map f xs) k (omega arith) a h)

-- ---- one more name

paths_below : (n k : ℕ) (vs : List Stands) → n ≤ suc k → AllByRecursion (IsStandsWithin n) vs → AllByRecursion (λ i. i ≤ suc k) (map paths_of vs)
paths_below n k [] l h = tt
paths_below n k (Pair c v ∷ vs) l h = (omega arith, paths_below n k vs l h.1)
paths_below n k (Node j ∷ vs) l h = let a = h.0 in (omega (arith, l, a), paths_below n k vs l h.1)

kept_paths_below : (n m k : ℕ) (xs : List KeptName) → n ≤ suc k → AllByRecursion (IsKeptWithin n m) xs → AllByRecursion (λ i. i ≤ suc k) (map kept_paths xs)
kept_paths_below n m k [] l h = tt
kept_paths_below n m k (Any c ∷ xs) l h = (omega arith, kept_paths_below n m k xs l h.1)
kept_paths_below n m k (One c v w ∷ xs) l h = (omega arith, kept_paths_below n m k xs l h.1)
kept_paths_below n m k (Rule r ∷ xs) l h = (omega arith, kept_paths_below n m k xs l h.1)
kept_paths_below n m k (Part j i ∷ xs) l h = let a = h.0 in (omega (arith, l, a), kept_paths_below n m k xs l h.1)
kept_paths_below n m k (Atom j r ∷ xs) l h = let a = h.0.0 in (omega (arith, l, a), kept_paths_below n m k xs l h.1)

kept_rows_below : (n m r : ℕ) (xs : List KeptName) → m ≤ suc r → AllByRecursion (IsKeptWithin n m) xs → AllByRecursion (λ i. i ≤ suc r) (map kept_rows xs)
kept_rows_below n m r [] l h = tt
kept_rows_below n m r (Any c ∷ xs) l h = (omega arith, kept_rows_below n m r xs l h.1)
kept_rows_below n m r (One c v w ∷ xs) l h = (omega arith, kept_rows_below n m r xs l h.1)
kept_rows_below n m r (Rule s ∷ xs) l h = (omega arith, kept_rows_below n m r xs l h.1)
kept_rows_below n m r (Part j i ∷ xs) l h = (omega arith, kept_rows_below n m r xs l h.1)
kept_rows_below n m r (Atom j s ∷ xs) l h = let a = h.0.1 in (omega (arith, l, a), kept_rows_below n m r xs l h.1)

pub pair_rises : (vs : List Stands) (xs : List KeptName) (c : CellId) (v : ValueId) → ArePlacesRising vs xs → ArePlacesRising (vs ++ Pair c v ∷ []) xs
pair_rises vs xs c v h = (same_pushed paths_of vs (Pair c v) refl h.0, h.1, h.2)

pub node_rises : (n k : ℕ) (vs : List Stands) (xs : List KeptName) → n ≤ k + 1 → AllByRecursion (IsStandsWithin n) vs → ArePlacesRising vs xs → ArePlacesRising (vs ++ Node k ∷ []) xs
node_rises n k vs xs l a h = (pushed paths_of vs (Node k) k refl (paths_below n k vs (omega (arith, l)) a) h.0, h.1, h.2)

pub axiom_rises : (n m : ℕ) (vs : List Stands) (xs : List KeptName) (x : KeptName) → IsKeptLast n m x → AllByRecursion (IsKeptWithin n m) xs → ArePlacesRising vs xs → ArePlacesRising vs (xs ++ x ∷ [])
axiom_rises n m vs xs (Any c) l a h = (h.0, same_pushed kept_paths xs (Any c) refl h.1, same_pushed kept_rows xs (Any c) refl h.2)
axiom_rises n m vs xs (One c v w) l a h = (h.0, same_pushed kept_paths xs (One c v w) refl h.1, same_pushed kept_rows xs (One c v w) refl h.2)
axiom_rises n m vs xs (Rule r) l a h = (h.0, same_pushed kept_paths xs (Rule r) refl h.1, same_pushed kept_rows xs (Rule r) refl h.2)
axiom_rises n m vs xs (Part k i) l a h = (h.0, pushed kept_paths xs (Part k i) k refl (kept_paths_below n m k xs l a) h.1, same_pushed kept_rows xs (Part k i) refl h.2)
axiom_rises n m vs xs (Atom k r) l a h = (h.0, pushed kept_paths xs (Atom k r) k refl (kept_paths_below n m k xs l.0 a) h.1, pushed kept_rows xs (Atom k r) r refl (kept_rows_below n m r xs l.1 a) h.2)

-- ---- what the last ones need is enough

stands_more : (n : ℕ) (v : Stands) → IsStandsWithin 0 v → IsStandsWithin n v
stands_more n (Pair c v) h = tt
stands_more n (Node k) h = absurd (omega (arith, h))

all_more : (n : ℕ) (vs : List Stands) → AllByRecursion (IsStandsWithin 0) vs → AllByRecursion (IsStandsWithin n) vs
all_more n [] h = tt
all_more n (v ∷ vs) h = (stands_more n v h.0, all_more n vs h.1)

within_last : (m : ℕ) (vs : List Stands) (i k : ℕ) → slice_get vs i ≡ Some (Node k) → AllByRecursion (IsStandsWithin 0) (drop (suc i) vs) → AreRising m (map paths_of vs) → (m ≤ suc k) × AllByRecursion (IsStandsWithin (suc k)) vs
within_last m [] i k at a h = absurd (cc)
within_last m (Pair c v ∷ vs) zero k at a h = absurd (cc)
within_last m (Node j ∷ vs) zero k at a h = let e : j ≡ k = (cc) in let l = h.0 in (omega (arith, e, l), (omega (arith, e), all_more (suc k) vs a))
within_last m (Pair c v ∷ vs) (suc i) k at a h = let r = within_last m vs i k at a h in (r.0, (tt, r.1))
within_last m (Node j ∷ vs) (suc i) k at a h =
    let r = within_last (suc j) vs i k at a h.1 in
    let l = h.0 in
    let u = r.0 in
    (omega (arith, l, u), (omega (arith, u), r.1))

get_some : {X : Type 0} (xs : List X) (i : ℕ) (d : X) → i < length xs → slice_get xs i ≡ Some (get_or xs i d)
get_some [] i d l = absurd (omega (arith, l))
get_some (x ∷ xs) zero d l = refl
get_some (x ∷ xs) (suc i) d l = get_some xs i d (omega (arith, l))

stand_all : (vs : List Stands) (i n : ℕ) (v : Stands) → slice_get vs i ≡ Some v → n ≡ paths_of v → 0 < n → AllByRecursion (IsStandsWithin 0) (drop (suc i) vs) → AreRising 0 (map paths_of vs) → AllByRecursion (IsStandsWithin n) vs
stand_all vs i n (Pair c v) at e l a h = absurd (omega (arith, e, l))
stand_all vs i n (Node k) at e l a h = subst (λ c. AllByRecursion (IsStandsWithin c) vs) (sym e) (within_last 0 vs i k at a h).1

-- from the end, the first variable that needs a path
pub stand_found : (vs : List Stands) (left n : ℕ) (d : Stands) → 0 < left → left ≤ length vs → n ≡ paths_of (get_or vs (left - 1) d) → 0 < n → AllByRecursion (IsStandsWithin 0) (drop left vs) → AreRising 0 (map paths_of vs)
    → AllByRecursion (IsStandsWithin n) vs
stand_found vs left n d some l e more a h =
    let on : left ≡ suc (left - 1) = omega (arith, some) in
    stand_all vs (left - 1) n (get_or vs (left - 1) d) (get_some vs (left - 1) d (omega (arith, some, l))) e more (subst (λ c. AllByRecursion (IsStandsWithin 0) (drop c vs)) on a) h

kept_more : (n m r : ℕ) (x : KeptName) → n ≤ m → IsKeptWithin n 0 x → IsKeptWithin m r x
kept_more n m r (Any c) l h = tt
kept_more n m r (One c v w) l h = tt
kept_more n m r (Rule s) l h = tt
kept_more n m r (Part k i) l h = omega (arith, l, h)
kept_more n m r (Atom k s) l h = let a = h.1 in absurd (omega (arith, a))

pub all_kept_more : (n m r : ℕ) (xs : List KeptName) → n ≤ m → AllByRecursion (IsKeptWithin n 0) xs → AllByRecursion (IsKeptWithin m r) xs
all_kept_more n m r [] l h = tt
all_kept_more n m r (x ∷ xs) l h = (kept_more n m r x l h.0, all_kept_more n m r xs l h.1)

kept_last : (a b n : ℕ) (xs : List KeptName) (i k r : ℕ) → slice_get xs i ≡ Some (Atom k r) → suc k ≤ n → AllByRecursion (IsKeptWithin n 0) (drop (suc i) xs) → AreRising a (map kept_paths xs) → AreRising b (map kept_rows xs) → (a ≤ n) × (b ≤ suc r) × AllByRecursion (IsKeptWithin n (suc r)) xs
kept_last a b n [] i k r at l w p q = absurd (cc)
kept_last a b n (Any c ∷ xs) zero k r at l w p q = absurd (cc)
kept_last a b n (One c v u ∷ xs) zero k r at l w p q = absurd (cc)
kept_last a b n (Rule s ∷ xs) zero k r at l w p q = absurd (cc)
kept_last a b n (Part j s ∷ xs) zero k r at l w p q = absurd (cc)
kept_last a b n (Atom j s ∷ xs) zero k r at l w p q =
    let e : j ≡ k = (cc) in
    let f : s ≡ r = (cc) in
    let u = p.0 in
    let t = q.0 in
    (omega (arith, e, l, u), omega (arith, f, t), ((omega (arith, e, l), omega (arith, f)), all_kept_more n n (suc r) xs (omega arith) w))
kept_last a b n (Any c ∷ xs) (suc i) k r at l w p q = let h = kept_last a b n xs i k r at l w p q in (h.0, h.1, (tt, h.2))
kept_last a b n (One c v u ∷ xs) (suc i) k r at l w p q = let h = kept_last a b n xs i k r at l w p q in (h.0, h.1, (tt, h.2))
kept_last a b n (Rule s ∷ xs) (suc i) k r at l w p q = let h = kept_last a b n xs i k r at l w p q in (h.0, h.1, (tt, h.2))
kept_last a b n (Part j s ∷ xs) (suc i) k r at l w p q =
    let h = kept_last (suc j) b n xs i k r at l w p.1 q in
    let u = p.0 in
    let t = h.0 in
    (omega (arith, u, t), h.1, (omega (arith, t), h.2))
kept_last a b n (Atom j s ∷ xs) (suc i) k r at l w p q =
    let h = kept_last (suc j) (suc s) n xs i k r at l w p.1 q.1 in
    let u = p.0 in
    let v = q.0 in
    let t = h.0 in
    let d = h.1 in
    (omega (arith, u, t), omega (arith, v, d), ((omega (arith, t), omega (arith, d)), h.2))

kept_all : (n r : ℕ) (xs : List KeptName) (i : ℕ) (x : KeptName) → slice_get xs i ≡ Some x → kept_paths x ≤ n → r ≡ kept_rows x → 0 < r → AllByRecursion (IsKeptWithin n 0) (drop (suc i) xs) → AreRising 0 (map kept_paths xs)
    → AreRising 0 (map kept_rows xs) → AllByRecursion (IsKeptWithin n r) xs
kept_all n r xs i (Any c) at l e more w p q = absurd (omega (arith, e, more))
kept_all n r xs i (One c v u) at l e more w p q = absurd (omega (arith, e, more))
kept_all n r xs i (Rule s) at l e more w p q = absurd (omega (arith, e, more))
kept_all n r xs i (Part k s) at l e more w p q = absurd (omega (arith, e, more))
kept_all n r xs i (Atom k s) at l e more w p q = subst (λ c. AllByRecursion (IsKeptWithin n c) xs) (sym e) (kept_last 0 0 n xs i k s at l w p q).2

-- from the end, the first axiom that needs a row
pub kept_found : (n m k r : ℕ) (xs : List KeptName) (left : ℕ) (d : KeptName) → 0 < left → left ≤ length xs → n ≤ m → k ≤ m → k ≡ kept_paths (get_or xs (left - 1) d) → r ≡ kept_rows (get_or xs (left - 1) d) → 0 < r
    → AllByRecursion (IsKeptWithin n 0) (drop left xs) → AreRising 0 (map kept_paths xs) → AreRising 0 (map kept_rows xs) → AllByRecursion (IsKeptWithin m r) xs
kept_found n m k r xs left d some l nm km f e more w p q =
    let on : left ≡ suc (left - 1) = omega (arith, some) in
    let w' = all_kept_more n m 0 (drop (suc (left - 1)) xs) nm (subst (λ c. AllByRecursion (IsKeptWithin n 0) (drop c xs)) on w) in
    kept_all m r xs (left - 1) (get_or xs (left - 1) d) (get_some xs (left - 1) d (omega (arith, some, l))) (omega (arith, f, km)) e more w' p q

all_from : {X : Type 0} (P : X → Type 0) (xs : List X) (i : ℕ) (d : X) → i < length xs → P (get_or xs i d) → AllByRecursion P (drop (suc i) xs) → AllByRecursion P (drop i xs)
all_from P [] i d l p a = absurd (omega (arith, l))
all_from P (x ∷ xs) zero d l p a = (p, a)
all_from P (x ∷ xs) (suc i) d l p a = all_from P xs i d (omega (arith, l)) p a

kept_without : (m : ℕ) (x : KeptName) → kept_paths x ≤ m → kept_rows x ≤ 0 → IsKeptWithin m 0 x
kept_without m (Any c) l z = tt
kept_without m (One c v u) l z = tt
kept_without m (Rule s) l z = tt
kept_without m (Part k s) l z = omega (arith, l)
kept_without m (Atom k s) l z = absurd (omega (arith, z))

-- one that needs none
pub kept_passed : (n m k r : ℕ) (xs : List KeptName) (left : ℕ) (d : KeptName) → 0 < left → left ≤ length xs → n ≤ m → k ≤ m → r ≤ 0 → k ≡ kept_paths (get_or xs (left - 1) d) → r ≡ kept_rows (get_or xs (left - 1) d)
    → AllByRecursion (IsKeptWithin n 0) (drop left xs) → AllByRecursion (IsKeptWithin m 0) (drop (left - 1) xs)
kept_passed n m k r xs left d some l nm km z f e w =
    let on : left ≡ suc (left - 1) = omega (arith, some) in
    let w' = all_kept_more n m 0 (drop (suc (left - 1)) xs) nm (subst (λ c. AllByRecursion (IsKeptWithin n 0) (drop c xs)) on w) in
    all_from (IsKeptWithin m 0) xs (left - 1) d (omega (arith, some, l)) (kept_without m (get_or xs (left - 1) d) (omega (arith, f, km)) (omega (arith, e, z))) w'
