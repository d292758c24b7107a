-- Names stay what they are when only as many paths and reads are kept as they need, and when these are copied.
use Rattle.std.proofs.Common.{◌≡◌, ℕ, zero, suc, ◌+◌, ◌<◌, ◌≤◌, List, [], ◌∷◌, ◌++◌, map, length, take, get_or, Some, slice_get, slice_index_or, refl, ap, ◌∙◌, arith, subst}
use Rattle.std.specs.List.{AllByRecursion}
use Rattle.pc_sheet.specs.declared.nodes.NodePath.{NodePath}
use Rattle.pc_sheet.specs.declared.ids.Entry.{Entry}
use Rattle.pc_accept.specs.Literals.{pair}
use Rattle.pc_accept.specs.Axioms.{axiom_some, axiom_one, axiom_rule}
use Rattle.pc_axiom_names.specs.declared.kept.Stands.{Stands}
use Rattle.pc_axiom_names.specs.declared.kept.Stands.TheVariants.{Pair, Node}
use Rattle.pc_axiom_names.specs.declared.kept.KeptName.{KeptName}
use Rattle.pc_axiom_names.specs.declared.kept.KeptName.TheVariants.{Any, One, Rule, Node as Part, Atom}
use Rattle.pc_axiom_names.specs.Listed.{NameLists, first_names}
use Rattle.pc_axiom_names.specs.Keeping.{ArePaths, rule_of, steps_of, symbol_in, axiom_in, IsStandsWithin, IsKeptWithin, AreNamesWithin, names_in}

-- ---- copies

-- the first so many, and one more
taken_next : {X : Type 0} (xs : List X) (i : ℕ) (x : X) → slice_get xs i ≡ Some x → take (suc i) xs ≡ take i xs ++ x ∷ []
taken_next [] i x at = absurd (cc)
taken_next (y ∷ ys) zero x at = let e : y ≡ x = (cc) in ap (λ z. z ∷ []) e
taken_next (y ∷ ys) (suc i) x at = ap (λ zs. y ∷ zs) (taken_next ys i x at)

pub taken : {X : Type 0} (xs : List X) (i : ℕ) (x : X) → slice_get xs i ≡ Some x → take (i + 1) xs ≡ take i xs ++ x ∷ []
taken xs i x at = let on : i + 1 ≡ suc i = omega arith in ap (λ n. take n xs) on ∙ taken_next xs i x at

paths_then : (ps qs : List NodePath) (i : ℕ) (p q : NodePath) → i < length ps → p ≡ get_or ps i p → q.rule ≡ p.rule → q.steps.items ≡ p.steps.items → ArePaths (take i ps) qs → ArePaths (take (suc i) ps) (qs ++ q ∷ [])
paths_then [] qs i p q l at r s h = absurd (omega (arith, l))
paths_then (x ∷ ps) [] zero p q l at r s h = (cc, cc, tt)
paths_then (x ∷ ps) (y ∷ qs) zero p q l at r s h = absurd h
paths_then (x ∷ ps) [] (suc i) p q l at r s h = absurd h
paths_then (x ∷ ps) (y ∷ qs) (suc i) p q l at r s h = (h.0, h.1, paths_then ps qs i p q (omega (arith, l)) at r s h.2)

pub paths_next : (ps qs : List NodePath) (i : ℕ) (p q : NodePath) → i < length ps → p ≡ get_or ps i p → q.rule ≡ p.rule → q.steps.items ≡ p.steps.items → ArePaths (take i ps) qs → ArePaths (take (i + 1) ps) (qs ++ q ∷ [])
paths_next ps qs i p q l at r s h = let on : suc i ≡ i + 1 = omega arith in subst (λ n. ArePaths (take n ps) (qs ++ q ∷ [])) on (paths_then ps qs i p q l at r s h)

path_copied : (ps qs : List NodePath) (k : ℕ) → ArePaths ps qs → (rule_of (slice_get qs k) ≡ rule_of (slice_get ps k)) × (steps_of (slice_get qs k) ≡ steps_of (slice_get ps k))
path_copied [] [] k h = (refl, refl)
path_copied [] (q ∷ qs) k h = absurd h
path_copied (p ∷ ps) [] k h = absurd h
path_copied (p ∷ ps) (q ∷ qs) zero h = (h.0, h.1)
path_copied (p ∷ ps) (q ∷ qs) (suc k) h = path_copied ps qs k h.2

many_copied : (ps qs : List NodePath) → ArePaths ps qs → length qs ≡ length ps
many_copied [] [] h = refl
many_copied [] (q ∷ qs) h = absurd h
many_copied (p ∷ ps) [] h = absurd h
many_copied (p ∷ ps) (q ∷ qs) h = ap suc (many_copied ps qs h.2)

module _ (ps qs : List NodePath) (rs : List (List Entry)) (h : ArePaths ps qs) where
  symbols_copied : (vs : List Stands) → map (symbol_in qs) vs ≡ map (symbol_in ps) vs
  symbols_copied [] = refl
  symbols_copied (Pair c v ∷ vs) = ap (λ xs. pair c v ∷ xs) (symbols_copied vs)
  symbols_copied (Node k ∷ vs) = let e = path_copied ps qs k h in let a = e.0 in let b = e.1 in let f = symbols_copied vs in cc

  axioms_copied : (xs : List KeptName) → map (axiom_in qs rs) xs ≡ map (axiom_in ps rs) xs
  axioms_copied [] = refl
  axioms_copied (Any c ∷ xs) = ap (λ ys. axiom_some c ∷ ys) (axioms_copied xs)
  axioms_copied (One c v w ∷ xs) = ap (λ ys. axiom_one c v w ∷ ys) (axioms_copied xs)
  axioms_copied (Rule r ∷ xs) = ap (λ ys. axiom_rule r ∷ ys) (axioms_copied xs)
  axioms_copied (Part k i ∷ xs) = let e = path_copied ps qs k h in let a = e.0 in let b = e.1 in let f = axioms_copied xs in cc
  axioms_copied (Atom k i ∷ xs) = let e = path_copied ps qs k h in let a = e.0 in let b = e.1 in let f = axioms_copied xs in cc

pub names_copied : (ps qs : List NodePath) (rs ss : List (List Entry)) (vs ws : List Stands) (xs ys : List KeptName) (names : NameLists) → ArePaths ps qs → ss ≡ rs → ws ≡ vs → ys ≡ xs → names_in ps rs vs xs ≡ names → names_in qs ss ws ys ≡ names
names_copied ps qs rs ss vs ws xs ys names h r v x is = rw (r, v, x) (let a = symbols_copied ps qs rs h vs in let b = axioms_copied ps qs rs h xs in cc)

pub within_copied : (ps qs : List NodePath) (rs ss : List (List Entry)) (vs ws : List Stands) (xs ys : List KeptName) → ArePaths ps qs → ss ≡ rs → ws ≡ vs → ys ≡ xs → AreNamesWithin ps rs vs xs → AreNamesWithin qs ss ws ys
within_copied ps qs rs ss vs ws xs ys h r v x is = rw (r, v, x, many_copied ps qs h) is

-- ---- fewer paths and reads

get_fewer : {X : Type 0} (xs : List X) (n k : ℕ) → k < n → slice_get (take n xs) k ≡ slice_get xs k
get_fewer [] zero k l = refl
get_fewer [] (suc n) k l = refl
get_fewer (x ∷ xs) zero k l = absurd (omega (arith, l))
get_fewer (x ∷ xs) (suc n) zero l = refl
get_fewer (x ∷ xs) (suc n) (suc k) l = get_fewer xs n k (omega (arith, l))

index_fewer : {X : Type 0} (xs : List X) (d : X) (n k : ℕ) → k < n → slice_index_or (take n xs) k d ≡ slice_index_or xs k d
index_fewer [] d zero k l = refl
index_fewer [] d (suc n) k l = refl
index_fewer (x ∷ xs) d zero k l = absurd (omega (arith, l))
index_fewer (x ∷ xs) d (suc n) zero l = refl
index_fewer (x ∷ xs) d (suc n) (suc k) l = index_fewer xs d n k (omega (arith, l))

place_first : {X : Type 0} (xs : List X) (n k : ℕ) → k < n → k < length xs → k < length (take n xs)
place_first [] n k l h = absurd (omega (arith, h))
place_first (x ∷ xs) zero k l h = absurd (omega (arith, l))
place_first (x ∷ xs) (suc n) zero l h = omega arith
place_first (x ∷ xs) (suc n) (suc k) l h = let rest = place_first xs n k (omega (arith, l)) (omega (arith, h)) in omega (arith, rest)

module _ (ps : List NodePath) (rs : List (List Entry)) (n m : ℕ) where
  symbol_fewer : (v : Stands) → IsStandsWithin n v → symbol_in (take n ps) v ≡ symbol_in ps v
  symbol_fewer (Pair c v) h = refl
  symbol_fewer (Node k) h = let e = get_fewer ps n k h in cc

  axiom_fewer : (a : KeptName) → IsKeptWithin n m a → axiom_in (take n ps) (take m rs) a ≡ axiom_in ps rs a
  axiom_fewer (Any c) h = refl
  axiom_fewer (One c v w) h = refl
  axiom_fewer (Rule r) h = refl
  axiom_fewer (Part k i) h = let e = get_fewer ps n k h in cc
  axiom_fewer (Atom k i) h = let e = get_fewer ps n k h.0 in let f = index_fewer rs [] m i h.1 in cc

  symbols_fewer : (vs : List Stands) (k : ℕ) → AllByRecursion (IsStandsWithin n) (take k vs) → map (symbol_in (take n ps)) (take k vs) ≡ take k (map (symbol_in ps) vs)
  symbols_fewer [] zero h = refl
  symbols_fewer [] (suc k) h = refl
  symbols_fewer (v ∷ vs) zero h = refl
  symbols_fewer (v ∷ vs) (suc k) h = let e = symbol_fewer v h.0 in let f = symbols_fewer vs k h.1 in cc

  axioms_fewer : (xs : List KeptName) (k : ℕ) → AllByRecursion (IsKeptWithin n m) (take k xs) → map (axiom_in (take n ps) (take m rs)) (take k xs) ≡ take k (map (axiom_in ps rs) xs)
  axioms_fewer [] zero h = refl
  axioms_fewer [] (suc k) h = refl
  axioms_fewer (x ∷ xs) zero h = refl
  axioms_fewer (x ∷ xs) (suc k) h = let e = axiom_fewer x h.0 in let f = axioms_fewer xs k h.1 in cc

  stands_more : (own : ℕ) (v : Stands) → own ≤ n → IsStandsWithin own v → IsStandsWithin n v
  stands_more own (Pair c v) l h = tt
  stands_more own (Node k) l h = omega (arith, l, h)

  all_more : (own : ℕ) (vs : List Stands) → own ≤ n → AllByRecursion (IsStandsWithin own) vs → AllByRecursion (IsStandsWithin n) vs
  all_more own [] l h = tt
  all_more own (v ∷ vs) l h = (stands_more own v l h.0, all_more own vs l h.1)

  -- the first so many names, with as many paths and rows as they need
  pub names_fewer : (qs : List NodePath) (ss : List (List Entry)) (own : ℕ) (vs ws : List Stands) (xs ys : List KeptName) (i j : ℕ) (names : NameLists) → own ≤ n → ws ≡ take i vs → ys ≡ take j xs
      → AllByRecursion (IsStandsWithin own) ws → AllByRecursion (IsKeptWithin n m) ys → qs ≡ take n ps → ss ≡ take m rs → names_in ps rs vs xs ≡ names → names_in qs ss ws ys ≡ first_names i j names
  names_fewer qs ss own vs ws xs ys i j names l w y h g q s e =
      let a = symbols_fewer vs i (all_more own (take i vs) l (subst (AllByRecursion (IsStandsWithin own)) w h)) in
      let b = axioms_fewer xs j (subst (AllByRecursion (IsKeptWithin n m)) y g) in
      rw (q, s, w, y, ← e) (let c = a in let d = b in cc)

  stand_first : (own : ℕ) (v : Stands) → own ≤ n → IsStandsWithin own v → IsStandsWithin (length ps) v → IsStandsWithin (length (take n ps)) v
  stand_first own (Pair c v) l h p = tt
  stand_first own (Node k) l h p = place_first ps n k (omega (arith, l, h)) p

  kept_first : (a : KeptName) → IsKeptWithin n m a → IsKeptWithin (length ps) (length rs) a → IsKeptWithin (length (take n ps)) (length (take m rs)) a
  kept_first (Any c) h p = tt
  kept_first (One c v w) h p = tt
  kept_first (Rule r) h p = tt
  kept_first (Part k i) h p = place_first ps n k h p
  kept_first (Atom k i) h p = (place_first ps n k h.0 p.0, place_first rs m i h.1 p.1)

  stands_first : (own : ℕ) (vs : List Stands) (i : ℕ) → own ≤ n → AllByRecursion (IsStandsWithin own) (take i vs) → AllByRecursion (IsStandsWithin (length ps)) vs → AllByRecursion (IsStandsWithin (length (take n ps))) (take i vs)
  stands_first own [] zero l h p = tt
  stands_first own [] (suc i) l h p = tt
  stands_first own (v ∷ vs) zero l h p = tt
  stands_first own (v ∷ vs) (suc i) l h p = (stand_first own v l h.0 p.0, stands_first own vs i l h.1 p.1)

  all_kept_first : (xs : List KeptName) (i : ℕ) → AllByRecursion (IsKeptWithin n m) (take i xs) → AllByRecursion (IsKeptWithin (length ps) (length rs)) xs → AllByRecursion (IsKeptWithin (length (take n ps)) (length (take m rs))) (take i xs)
  all_kept_first [] zero h p = tt
  all_kept_first [] (suc i) h p = tt
  all_kept_first (x ∷ xs) zero h p = tt
  all_kept_first (x ∷ xs) (suc i) h p = (kept_first x h.0 p.0, all_kept_first xs i h.1 p.1)

  -- their places are within what is left
  pub within_fewer : (qs : List NodePath) (ss : List (List Entry)) (own : ℕ) (vs ws : List Stands) (xs ys : List KeptName) (i j : ℕ) → own ≤ n → ws ≡ take i vs → ys ≡ take j xs → AllByRecursion (IsStandsWithin own) ws
      → AllByRecursion (IsKeptWithin n m) ys → qs ≡ take n ps → ss ≡ take m rs → AreNamesWithin ps rs vs xs → AreNamesWithin qs ss ws ys
  within_fewer qs ss own vs ws xs ys i j l w y h g q s p =
      let a = stands_first own vs i l (subst (AllByRecursion (IsStandsWithin own)) w h) p.0 in
      let b = all_kept_first xs j (subst (AllByRecursion (IsKeptWithin n m)) y g) p.1 in
      rw (q, s, w, y) (a, b)
