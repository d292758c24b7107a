-- One name after another.
use Rattle.std.proofs.Common.{◌≡◌, ◌↔◌, ℕ, zero, suc, ◌+◌, ◌<◌, ◌≤◌, Option, None, Some, List, [], ◌∷◌, ◌++◌, length, map, take, drop, get_or, refl, sym, ◌∙◌, ap, subst, arith}
use Rattle.std.proofs.lemmas.List.{take_all}
use Rattle.pc_cert.specs.Meaning.{AreNamedEach}

module _ {A B : Type 0} (Names : A → B → Type 0) where
  abbrev pub Are : List A → List B → Type 0
  Are xs ys = AreNamedEach Names xs ys

  -- a last one is the name's, behind those of the names before
  last_split : (xs : List A) (x : A) (ys : List B) → Are (xs ++ x ∷ []) ys → (zs : List B) × (y : B) × (ys ≡ zs ++ y ∷ []) × Are xs zs × Names x y
  last_split [] x [] all = absurd all
  last_split [] x (y ∷ []) all = ([], y, refl, tt, all.0)
  last_split [] x (y ∷ z ∷ zs) all = absurd all.1
  last_split (w ∷ ws) x [] all = absurd all
  last_split (w ∷ ws) x (y ∷ ys) all =
      let rest = last_split ws x ys all.1 in
      (y ∷ rest.0, rest.1, ap (λ l. y ∷ l) rest.2, (all.0, rest.3), rest.4)

  pub joined : (xs : List A) (x : A) (zs : List B) (y : B) → Are xs zs → Names x y → Are (xs ++ x ∷ []) (zs ++ y ∷ [])
  joined [] x [] y all is = (is, tt)
  joined [] x (z ∷ zs) y all is = absurd all
  joined (w ∷ ws) x [] y all is = absurd all
  joined (w ∷ ws) x (z ∷ zs) y all is = (all.0, joined ws x zs y all.1 is)

  same_some : (a b : B) → Some a ≡ Some b → a ≡ b
  same_some a b e = cc

  push_exact : (xs : List A) (x : A) (found : List B) (y : B) → ((ys : List B) → (ys ≡ found) ↔ Are xs ys) → ((z : B) → (Some y ≡ Some z) ↔ Names x z) → (ys : List B) → (ys ≡ found ++ y ∷ []) ↔ Are (xs ++ x ∷ []) ys
  push_exact xs x found y exact one ys = (
    λ e. subst (λ l. Are (xs ++ x ∷ []) l) (sym e) (joined xs x found y ((exact found).0 refl) ((one y).0 refl)),
    λ all. let s = last_split xs x ys all in
        s.2 ∙ ap (λ l. l ++ s.1 ∷ []) ((exact s.0).1 s.3) ∙ ap (λ z. found ++ z ∷ []) (sym (same_some y s.1 ((one s.1).1 s.4))),
  )

  pub stops : (xs : List A) (x : A) (more : List A) → ((z : B) → (None ≡ Some z) ↔ Names x z) → (ys : List B) → Are (xs ++ x ∷ more) ys → ⊥
  stops [] x more none [] all = all
  stops [] x more none (y ∷ ys) all = let e = (none y).1 all.0 in absurd (cc)
  stops (w ∷ ws) x more none [] all = all
  stops (w ∷ ws) x more none (y ∷ ys) all = stops ws x more none ys all.1

  module _ {T : Type 0} (f : T → A) where
    pub front : (xs : List T) (i : ℕ) (x : T) → i < length xs → x ≡ get_or xs i x → map f (take (i + 1) xs) ≡ map f (take i xs) ++ f x ∷ []
    front [] i x inside is = absurd (omega (arith, inside))
    front (t ∷ ts) zero x inside is = ap (λ y. f y ∷ []) (sym is)
    front (t ∷ ts) (suc i) x inside is = let e : suc i + 1 ≡ suc (i + 1) = omega arith in rw e (ap (λ ys. f t ∷ ys) (front ts i x (omega (arith, inside)) is))

    whole : (xs : List T) (i : ℕ) (x : T) → i < length xs → x ≡ get_or xs i x → map f xs ≡ map f (take i xs) ++ f x ∷ map f (drop (i + 1) xs)
    whole [] i x inside is = absurd (omega (arith, inside))
    whole (t ∷ ts) zero x inside is = ap (λ y. f y ∷ map f ts) (sym is)
    whole (t ∷ ts) (suc i) x inside is = let e : suc i + 1 ≡ suc (i + 1) = omega arith in rw e (ap (λ ys. f t ∷ ys) (whole ts i x (omega (arith, inside)) is))

    module _ (xs : List T) (i : ℕ) where
      pub one_more : (x : T) → i < length xs → x ≡ get_or xs i x → (found : List B) (y : B) (now : List B) → now ≡ found ++ y ∷ [] → ((ys : List B) → (ys ≡ found) ↔ Are (map f (take i xs)) ys) → ((z : B) → (Some y ≡ Some z) ↔ Names (f x) z) → (ys : List B) → (ys ≡ now) ↔ Are (map f (take (i + 1) xs)) ys
      one_more x inside is found y now pushed exact one ys =
          subst (λ l. (ys ≡ l) ↔ Are (map f (take (i + 1) xs)) ys) (sym pushed)
          (subst (λ l. (ys ≡ found ++ y ∷ []) ↔ Are l ys) (sym (front xs i x inside is)) (push_exact (map f (take i xs)) (f x) found y exact one ys))

      pub stopped : (x : T) → i < length xs → x ≡ get_or xs i x → ((z : B) → (None ≡ Some z) ↔ Names (f x) z) → (ys : List B) → (◌≡◌ {A = Option (List B)} None (Some ys)) ↔ Are (map f xs) ys
      stopped x inside is none ys =
          (λ e. absurd (cc), λ all. absurd (stops (map f (take i xs)) (f x) (map f (drop (i + 1) xs)) none ys (subst (λ l. Are l ys) (whole xs i x inside is) all)))

      pub fails : (x : T) → i < length xs → x ≡ get_or xs i x → ((z : B) → Names (f x) z → ⊥) → (ys : List B) → Are (map f xs) ys → ⊥
      fails x inside is never ys all =
          stops (map f (take i xs)) (f x) (map f (drop (i + 1) xs)) (λ z. (λ e. absurd (cc), λ n. absurd (never z n))) ys (subst (λ l. Are l ys) (whole xs i x inside is) all)

      pub finished : length xs ≤ i → (found : List B) → ((ys : List B) → (ys ≡ found) ↔ Are (map f (take i xs)) ys) → (ys : List B) → (Some found ≡ Some ys) ↔ Are (map f xs) ys
      finished over found exact ys =
          (λ e. subst (λ l. Are (map f l) ys) (take_all i xs over) ((exact ys).0 (sym (same_lists found ys e))), λ is. ap Some (sym ((exact ys).1 (subst (λ l. Are (map f l) ys) (sym (take_all i xs over)) is))))
        where
          same_lists : (a b : List B) → Some a ≡ Some b → a ≡ b
          same_lists a b e = cc

  pub starts : (found : List B) → found ≡ [] → (ys : List B) → (ys ≡ found) ↔ Are [] ys
  starts found empty [] = (λ e. tt, λ all. sym empty)
  starts found empty (y ∷ ys) = (λ e. absurd (not_empty y ys (e ∙ empty)), λ all. absurd all)
    where
      not_empty : (z : B) (zs : List B) → z ∷ zs ≡ [] → ⊥
      not_empty z zs e = absurd (cc)
