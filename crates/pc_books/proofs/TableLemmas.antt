-- Look-ups by text in a map, and in the list that a clause sees of it.
use Rattle.std.proofs.Common.{◌≡◌, ◌∷◌, ◌++◌, ℕ, [], List, Bool, None, Some, cond, true, false, ap, refl, sym, subst, ◌∙◌, String, append_assoc}
use Rattle.std.proofs.lemmas.Slice.Eq.{bytes_eq-Decides}
use Rattle.std.specs.List.{IsDistinct, AllByRecursion, AllZip}
use Rattle.std.specs.Map.{lookup, keys_of}
use Rattle.std.specs.Str.{bytes_eq}
use Rattle.std.specs.String.{string_bytes, string_eq}
use Rattle.pc_books.specs.inside.NameTable.{named_texts}
use Rattle.pc_books.specs.declared.names.Named.{Named}

pub lookup-named_texts : {Z : Type 0} (q : List ℕ) (es : List (String Z × Named))
    → lookup (bytes_eq q) (named_texts es) ≡ lookup (λ k. bytes_eq q (string_bytes k)) es
lookup-named_texts q [] = refl
lookup-named_texts q (e ∷ es) = ap (λ t. cond (bytes_eq q (string_bytes e.0)) (Some e.1) t) (lookup-named_texts q es)

pub named_texts-push : {Z : Type 0} (es : List (String Z × Named)) (k : String Z) (n : Named)
    → named_texts (es ++ (k, n) ∷ []) ≡ named_texts es ++ (string_bytes k, n) ∷ []
named_texts-push [] k n = refl
named_texts-push (e ∷ es) k n = ap (λ t. (string_bytes e.0, e.1) ∷ t) (named_texts-push es k n)

apart : {Z : Type 0} (x : String Z) (es : List (String Z × Named))
    → AllByRecursion (λ y. string_eq x y ≡ false) (keys_of es) → AllByRecursion (λ y. bytes_eq (string_bytes x) y ≡ false) (keys_of (named_texts es))
apart x [] h = h
apart x (e ∷ es) h = (h.0, apart x es h.1)

pub distinct_texts : {Z : Type 0} (es : List (String Z × Named)) → IsDistinct string_eq (keys_of es) → IsDistinct bytes_eq (keys_of (named_texts es))
unfolding IsDistinct
distinct_texts [] h = tt
distinct_texts (e ∷ es) h = (apart e.0 es h.0, distinct_texts es h.1)

distinct_from : (x k : List ℕ) (v : Named) (xs ys : List (List ℕ × Named)) → AllByRecursion (λ y. bytes_eq x y ≡ false) (keys_of (xs ++ (k, v) ∷ ys)) → bytes_eq x k ≡ false
distinct_from x k v [] ys h = h.0
distinct_from x k v (e ∷ xs) ys h = distinct_from x k v xs ys h.1

turned : (x k : List ℕ) → bytes_eq x k ≡ false → bytes_eq k x ≡ false
turned x k h = by (bytes_eq k x) refl
  where
    by : (b : Bool) → bytes_eq k x ≡ b → b ≡ false
    by false e = refl
    by true e =
        let same : k ≡ x = (bytes_eq-Decides k x).0 e in
        sym ((bytes_eq-Decides x k).1 (sym same)) ∙ h

-- a name is not among those before it, where all are different
pub absent_before : (xs : List (List ℕ × Named)) (k : List ℕ) (v : Named) (ys : List (List ℕ × Named)) → IsDistinct bytes_eq (keys_of (xs ++ (k, v) ∷ ys)) → lookup (bytes_eq k) xs ≡ None
unfolding IsDistinct
absent_before [] k v ys h = refl
absent_before (e ∷ xs) k v ys h =
    let differs : bytes_eq k e.0 ≡ false = turned e.0 k (distinct_from e.0 k v xs ys h.0) in
    ap (λ b. cond b (Some e.1) (lookup (bytes_eq k) xs)) differs ∙ absent_before xs k v ys h.1

module _ {Z : Type 0} where
  -- the name that is added next is new
  pub next_is_new : (es : List (String Z × Named)) (rest more : List (String Z × Named)) (name : String Z) (named : Named) (all : List (List ℕ × Named))
      → named_texts es ++ named_texts rest ≡ all → rest ≡ (name, named) ∷ more → IsDistinct bytes_eq (keys_of all) → lookup (λ k. string_eq name k) es ≡ None
  next_is_new es rest more name named all texts is distinct =
      let split : named_texts es ++ (string_bytes name, named) ∷ named_texts more ≡ all = ap (λ r. named_texts es ++ named_texts r) (sym is) ∙ texts in
      sym (lookup-named_texts (string_bytes name) es)
      ∙ absent_before (named_texts es) (string_bytes name) named (named_texts more) (subst (λ t. IsDistinct bytes_eq (keys_of t)) (sym split) distinct)

  -- one more name stands in the table, and one less is to come
  pub one_added : (es fs rest more : List (String Z × Named)) (name : String Z) (named : Named) (all : List (List ℕ × Named))
      → named_texts es ++ named_texts rest ≡ all → rest ≡ (name, named) ∷ more → fs ≡ es ++ (name, named) ∷ [] → named_texts fs ++ named_texts more ≡ all
  one_added es fs rest more name named all texts is pushed =
      ap (λ t. named_texts t ++ named_texts more) pushed ∙ ap (λ t. t ++ named_texts more) (named_texts-push es name named)
      ∙ append_assoc (named_texts es) ((string_bytes name, named) ∷ []) (named_texts more)
      ∙ ap (λ r. named_texts es ++ named_texts r) (sym is) ∙ texts

  -- a table's clone has the same texts
  pub texts_of_clone : (C : String Z → String Z → Type 0) (D : Named → Named → Type 0) (es fs : List (String Z × Named)) → AllZip (λ p q. C p.0 q.0 × D p.1 q.1) es fs
      → ((a b : String Z) → C a b → string_bytes b ≡ string_bytes a) → ((a b : Named) → D a b → b ≡ a) → named_texts fs ≡ named_texts es
  texts_of_clone C D [] [] h texts named = refl
  texts_of_clone C D [] (f ∷ fs) h texts named = absurd h
  texts_of_clone C D (e ∷ es) [] h texts named = absurd h
  texts_of_clone C D (e ∷ es) (f ∷ fs) h texts named =
      λ i. (texts e.0 f.0 h.0.0 i, named e.1 f.1 h.0.1 i) ∷ texts_of_clone C D es fs h.1 texts named i
