-- One reader after another over the texts of a list.
use Rattle.std.proofs.Common.{◌≡◌, ℕ, ◌+◌, ◌-◌, ◌<◌, zero, suc, List, [], ◌∷◌, ◌++◌, length, map, take, drop, get_or, Bor, refl, sym, ◌∙◌, ap, subst, arith}
use Rattle.std.proofs.lemmas.List.{take_rest}
use Rattle.pc_cert.specs.Texts.{AreAll}
use Rattle.pc_cert.specs.Trees.{seen}

module _ {A : Type 0} (X : List ℕ → A → Type 0) where
  pub all_push : (texts : List (List ℕ)) (xs : List A) (text : List ℕ) (x : A) → AreAll X texts xs → X text x → AreAll X (texts ++ text ∷ []) (xs ++ x ∷ [])
  all_push [] [] text x all is = (is, tt)
  all_push [] (y ∷ ys) text x all is = absurd all
  all_push (t ∷ ts) [] text x all is = absurd all
  all_push (t ∷ ts) (y ∷ ys) text x all is = (all.0, all_push ts ys text x all.1 is)

  pub all_stops : (before : List (List ℕ)) (text : List ℕ) (after : List (List ℕ)) → ((x : A) → X text x → ⊥) → (xs : List A) → AreAll X (before ++ text ∷ after) xs → ⊥
  all_stops [] text after none [] all = all
  all_stops [] text after none (x ∷ xs) all = none x all.0
  all_stops (t ∷ ts) text after none [] all = all
  all_stops (t ∷ ts) text after none (x ∷ xs) all = all_stops ts text after none xs all.1

-- the texts up to a place, with the text there and those behind it
seen_at : (texts : List (Bor (List ℕ))) (i : ℕ) (d : Bor (List ℕ)) → i < length texts → seen texts ≡ seen (take i texts) ++ (get_or texts i d).now ∷ seen (drop (i + 1) texts)
seen_at [] i d inside = absurd (omega (arith, inside))
seen_at (t ∷ ts) zero d inside = refl
seen_at (t ∷ ts) (suc i) d inside = let e : suc i + 1 ≡ suc (i + 1) = omega arith in rw e (ap (λ xs. t.now ∷ xs) (seen_at ts i d (omega (arith, inside))))

seen_front : (texts : List (Bor (List ℕ))) (i : ℕ) (d : Bor (List ℕ)) → i < length texts → seen (take (i + 1) texts) ≡ seen (take i texts) ++ (get_or texts i d).now ∷ []
seen_front [] i d inside = absurd (omega (arith, inside))
seen_front (t ∷ ts) zero d inside = refl
seen_front (t ∷ ts) (suc i) d inside = let e : suc i + 1 ≡ suc (i + 1) = omega arith in rw e (ap (λ xs. t.now ∷ xs) (seen_front ts i d (omega (arith, inside))))

module _ {A : Type 0} (X : List ℕ → A → Type 0) (texts : List (Bor (List ℕ))) (i : ℕ) (d : Bor (List ℕ)) (inside : i < length texts) where
  pub all_more : (xs : List A) (x : A) → AreAll X (seen (take i texts)) xs → X (get_or texts i d).now x → AreAll X (seen (take (i + 1) texts)) (xs ++ x ∷ [])
  all_more xs x all is = subst (λ ts. AreAll X ts (xs ++ x ∷ [])) (sym (seen_front texts i d inside)) (all_push X (seen (take i texts)) xs (get_or texts i d).now x all is)

  pub all_none : ((x : A) → X (get_or texts i d).now x → ⊥) → (xs : List A) → AreAll X (seen texts) xs → ⊥
  all_none none xs all = all_stops X (seen (take i texts)) (get_or texts i d).now (seen (drop (i + 1) texts)) none xs (subst (λ ts. AreAll X ts xs) (seen_at texts i d inside) all)

-- the same, where the text there is known
pub cut_at : (texts : List (Bor (List ℕ))) (i : ℕ) (d : Bor (List ℕ)) (text : List ℕ) → i < length texts → (get_or texts i d).now ≡ text → seen texts ≡ seen (take i texts) ++ text ∷ seen (take (length texts - (i + 1)) (drop (i + 1) texts))
cut_at texts i d text inside is =
    seen_at texts i d inside ∙ ap (λ t. seen (take i texts) ++ t ∷ seen (drop (i + 1) texts)) is ∙ ap (λ ts. seen (take i texts) ++ text ∷ seen ts) (sym (take_rest texts (i + 1)))

map_push : {A B : Type 0} (f : A → B) (xs : List A) (x : A) → map f (xs ++ x ∷ []) ≡ map f xs ++ f x ∷ []
map_push f [] x = refl
map_push f (y ∷ ys) x = ap (λ zs. f y ∷ zs) (map_push f ys x)

-- the same, where the values are seen by f
module _ {A B : Type 0} (X : List ℕ → B → Type 0) (f : A → B) (texts : List (Bor (List ℕ))) (i : ℕ) (d : Bor (List ℕ)) (inside : i < length texts) where
  pub all_more_seen : (xs : List A) (x : A) → AreAll X (seen (take i texts)) (map f xs) → X (get_or texts i d).now (f x) → AreAll X (seen (take (i + 1) texts)) (map f (xs ++ x ∷ []))
  all_more_seen xs x all is = subst (λ ys. AreAll X (seen (take (i + 1) texts)) ys) (sym (map_push f xs x)) (all_more X texts i d inside (map f xs) (f x) all is)
