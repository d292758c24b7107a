-- The clauses of a counter, that are added one after another.
use Rattle.std.proofs.Common.{◌≡◌, ℕ, zero, suc, ◌+◌, Bool, true, false, List, [], ◌∷◌, ◌++◌, map, refl, ap, sym, ◌∙◌, append_assoc, arith}
use Rattle.std.proofs.lemmas.List.{append-nil}
use Rattle.pc_lits.specs.declared.literal.Lit.{Lit}
use Rattle.pc_accept.specs.Rows.{Part, literal, clause_of, counter_part}
use Rattle.pc_ground.specs.ByNumber.{Clause, lit, counted_literal, row_clause, row_clauses, counter_clauses}
use Rattle.pc_ground.specs.RowView.{part_of}
use Rattle.pc_ground.specs.declared.counting.RowPart.{RowPart}

two_of : (x y : RowPart) (x' y' : Part Lit) → part_of x ≡ x' → part_of y ≡ y' → map part_of (x ∷ y ∷ []) ≡ x' ∷ y' ∷ []
two_of x y x' y' h g = ap (λ z. z ∷ part_of y ∷ []) h ∙ ap (λ z. x' ∷ z ∷ []) g

three_of : (x y w : RowPart) (x' y' w' : Part Lit) → part_of x ≡ x' → part_of y ≡ y' → part_of w ≡ w' → map part_of (x ∷ y ∷ w ∷ []) ≡ x' ∷ y' ∷ w' ∷ []
three_of x y w x' y' w' h g f = ap (λ z. z ∷ map part_of (y ∷ w ∷ [])) h ∙ ap (λ zs. x' ∷ zs) (two_of y w y' w' g f)

row_added : (store now : List Clause) (row row' : List (Part Lit)) → row ≡ row' → now ≡ store ++ row_clause (clause_of row) → now ≡ store ++ row_clause (clause_of row')
row_added store now row row' e is = is ∙ ap (λ r. store ++ row_clause (clause_of r)) e

four_added : (old a b c d : List Clause) (w x y z : List (Part Lit)) → a ≡ old ++ row_clause (clause_of w) → b ≡ a ++ row_clause (clause_of x) → c ≡ b ++ row_clause (clause_of y) → d ≡ c ++ row_clause (clause_of z)
    → d ≡ old ++ row_clauses (w ∷ x ∷ y ∷ z ∷ [])
four_added old a b c d w x y z h g f e =
    let p = row_clause (clause_of w) in
    let q = row_clause (clause_of x) in
    let r = row_clause (clause_of y) in
    let s = row_clause (clause_of z) in
    e ∙ ap (λ k. k ++ s) f ∙ ap (λ k. (k ++ r) ++ s) g ∙ ap (λ k. ((k ++ q) ++ r) ++ s) h
    ∙ append_assoc ((old ++ p) ++ q) r s ∙ append_assoc (old ++ p) q (r ++ s) ∙ append_assoc old p (q ++ (r ++ s))
    ∙ ap (λ k. old ++ (p ++ (q ++ (r ++ k)))) (sym (append-nil s))

module _ (p n c m i j : ℕ) where
  abbrev part : ℕ → ℕ → Bool → Part Lit
  part k l sign = counter_part (lit p) (counted_literal p n c) n m k l sign

  at : (k l k' l' : ℕ) (sign : Bool) (x : RowPart) → k ≡ k' → l ≡ l' → part_of x ≡ part k l sign → part_of x ≡ part k' l' sign
  at k l k' l' sign x e f h = h ∙ ap (λ y. part y l sign) e ∙ ap (λ y. part k' y sign) f

  pub counter_added : (is not before not_before fewer not_fewer last not_last : RowPart)
      → part_of is ≡ part (i + 1) (j + 1) true → part_of not ≡ part (i + 1) (j + 1) false → part_of before ≡ part i (j + 1) true → part_of not_before ≡ part i (j + 1) false
      → part_of fewer ≡ part i j true → part_of not_fewer ≡ part i j false → part_of last ≡ literal (counted_literal p n c i true) → part_of not_last ≡ literal (counted_literal p n c i false)
      → (old a b e d : List Clause) → a ≡ old ++ row_clause (clause_of (map part_of (not ∷ before ∷ last ∷ []))) → b ≡ a ++ row_clause (clause_of (map part_of (not ∷ before ∷ fewer ∷ [])))
      → e ≡ b ++ row_clause (clause_of (map part_of (is ∷ not_before ∷ []))) → d ≡ e ++ row_clause (clause_of (map part_of (is ∷ not_fewer ∷ not_last ∷ []))) → d ≡ old ++ counter_clauses p n c m i j
  counter_added is not before not_before fewer not_fewer last not_last h1 h2 h3 h4 h5 h6 h7 h8 old a b e d g1 g2 g3 g4 =
      let one : i + 1 ≡ suc i = omega arith in
      let two : j + 1 ≡ suc j = omega arith in
      let is' = at (i + 1) (j + 1) (suc i) (suc j) true is one two h1 in
      let not' = at (i + 1) (j + 1) (suc i) (suc j) false not one two h2 in
      let before' = at i (j + 1) i (suc j) true before refl two h3 in
      let not_before' = at i (j + 1) i (suc j) false not_before refl two h4 in
      four_added old a b e d
      (part (suc i) (suc j) false ∷ part i (suc j) true ∷ literal (counted_literal p n c i true) ∷ []) (part (suc i) (suc j) false ∷ part i (suc j) true ∷ part i j true ∷ [])
      (part (suc i) (suc j) true ∷ part i (suc j) false ∷ []) (part (suc i) (suc j) true ∷ part i j false ∷ literal (counted_literal p n c i false) ∷ [])
      (row_added old a _ _ (three_of not before last _ _ _ not' before' h7) g1) (row_added a b _ _ (three_of not before fewer _ _ _ not' before' h5) g2)
      (row_added b e _ _ (two_of is not_before _ _ is' not_before') g3) (row_added e d _ _ (three_of is not_fewer not_last _ _ _ is' h6 h8) g4)
