-- Rows of parts: their axioms, the symbols in them, and what values that make them true say.
use Rattle.std.proofs.Common.{◌≡◌, ℕ, zero, suc, ◌+◌, ◌-◌, ◌*◌, ◌/◌, ◌%◌, ◌<◌, ◌≤◌, inl, inr, Bool, true, false, cond, nat_lt, not, List, [], ◌∷◌, ◌++◌, Option, None, Some, slice_get, IsSomeAnd, All, Contains, refl, ap, sym, ◌∙◌, subst, arith, zero-add}
use Rattle.std.specs.Option.{option_map}
use Rattle.std.specs.List.{flat_map, range_with_len}
use Rattle.std.proofs.lemmas.Bool.{false≢true}
use Rattle.std.proofs.lemmas.Nat.{div-mul-add, mod-mul-add}
use Rattle.std.proofs.lemmas.Option.{same_Some}
use Rattle.std.proofs.lemmas.List.Elements.{All-nil, All-cons, All-append, Contains-append_left, Contains-append_right}
use Rattle.pc_lemmas.proofs.Elements.{contains_first, contains_later, contains_cases}
use Rattle.pc_sheet.specs.Nodes.{counter_number}
use Rattle.pc_sheet.proofs.Counters.{test_true, test_false, row_below, number_is}
use Rattle.pc_accept.specs.Literals.{Symbol, Literal}
use Rattle.pc_accept.specs.Rows.{Part, fixed, literal, clause_of, IsAtRow, counter_part, count_rows, counter_rows, rows_of_counter, rows_of_child, parent_of, last_of}
use Rattle.pc_accept.proofs.RowsTrue.{RowHolds, RowsHold}
use Rattle.pc_ground.specs.Ground.{GroundAxiom, row_axiom, row_axioms}
use Rattle.pc_ground.proofs.Made.{Makes, Meets}

-- ---- paths

pub parent_is : (path : List ℕ) (k : ℕ) → parent_of (path ++ k ∷ []) ≡ path
parent_is [] k = refl
parent_is (j ∷ []) k = refl
parent_is (j ∷ i ∷ is) k = ap (λ xs. j ∷ xs) (parent_is (i ∷ is) k)

pub last_is : (path : List ℕ) (k : ℕ) → last_of (path ++ k ∷ []) ≡ k
last_is [] k = refl
last_is (j ∷ []) k = refl
last_is (j ∷ i ∷ is) k = last_is (i ∷ is) k

-- ---- the rows of a counter, by its number

module _ {L : Type 0} (here : Bool → L) (child : ℕ → Bool → L) (n m : ℕ) where
  pub rows_at : (i j : ℕ) → i < n → j < m → rows_of_child here child n m (counter_number n m (suc i) (suc j)) ≡ counter_rows here child n m i j
  rows_at i j l k =
      let q = i * m + j in
      let at : n + q - n ≡ q = omega arith in
      ap (rows_of_child here child n m) (number_is n m i j)
      ∙ ap (λ b. cond b [] (rows_of_counter here child n m (n + q - n))) (test_false (n + q) n (omega arith))
      ∙ ap (rows_of_counter here child n m) at
      ∙ ap (λ b. cond b (counter_rows here child n m (q / m) (q % m)) []) (test_true q (n * m) (row_below i j n m l k))
      ∙ ap (λ x. counter_rows here child n m x (q % m)) (div-mul-add i m j k)
      ∙ ap (counter_rows here child n m i) (mod-mul-add i m j k)

-- ---- symbols

module _ (In : Symbol → Type 0) where
  abbrev pub PartIn : Part Literal → Type 0
  PartIn (fixed b) = Unit {0}
  PartIn (literal l) = In l.what

  abbrev pub RowIn : List (Part Literal) → Type 0
  RowIn [] = Unit {0}
  RowIn (p ∷ ps) = PartIn p × RowIn ps

  abbrev pub RowsIn : List (List (Part Literal)) → Type 0
  RowsIn [] = Unit {0}
  RowsIn (row ∷ rows) = RowIn row × RowsIn rows

  abbrev ClauseIn : List Literal → Type 0
  ClauseIn c = All (λ l. In l.what) c

  pub clause_in : (row : List (Part Literal)) (c : List Literal) → RowIn row → clause_of row ≡ Some c → ClauseIn c
  clause_in [] c h is = subst ClauseIn (same_Some [] c is) (All-nil (λ l. In l.what))
  clause_in (fixed true ∷ ps) c h is = absurd (cc)
  clause_in (fixed false ∷ ps) c h is = clause_in ps c h.1 is
  clause_in (literal l ∷ ps) c h is = by (clause_of ps) (λ ls same. clause_in ps ls h.1 same) is
    where
      by : (rest : Option (List Literal)) → ((ls : List Literal) → rest ≡ Some ls → ClauseIn ls) → option_map (λ ls. l ∷ ls) rest ≡ Some c → ClauseIn c
      by None each none = absurd (cc)
      by (Some ls) each made = subst ClauseIn (same_Some (l ∷ ls) c made) (All-cons (λ k. In k.what) l ls h.0 (each ls refl))

  pub rows_in : (r : ℕ) (path : List ℕ) (i : ℕ) (rows : List (List (Part Literal))) → RowsIn rows → All (λ g. ClauseIn g.clause) (row_axioms r path i rows)
  rows_in r path i [] h = All-nil (λ g. ClauseIn g.clause)
  rows_in r path i (row ∷ rows) h =
      All-append (λ g. ClauseIn g.clause) (row_axiom r path i (clause_of row)) (row_axioms r path (i + 1) rows) (by (clause_of row) refl) (rows_in r path (i + 1) rows h.1)
    where
      by : (o : Option (List Literal)) → clause_of row ≡ o → All (λ g. ClauseIn g.clause) (row_axiom r path i o)
      by None is = All-nil (λ g. ClauseIn g.clause)
      by (Some c) is = All-cons (λ g. ClauseIn g.clause) _ [] (clause_in row c h.0 is) (All-nil (λ g. ClauseIn g.clause))

-- ---- values that make the clauses true

module _ (value : Symbol → Bool) where
  abbrev pub Has : Literal → Type 0
  Has l = value l.what ≡ l.sign

  row_made : (row : List (Part Literal)) → ((c : List Literal) → clause_of row ≡ Some c → Makes value c) → RowHolds Has row
  row_made [] each = let made = each [] refl in absurd (omega (arith, made.1.1))
  row_made (fixed true ∷ ps) each = inl refl
  row_made (fixed false ∷ ps) each = inr (row_made ps each)
  row_made (literal l ∷ ps) each = by (clause_of ps) (λ f. row_made ps f) each
    where
      by : (rest : Option (List Literal)) → (((c : List Literal) → rest ≡ Some c → Makes value c) → RowHolds Has ps) → ((c : List Literal) → option_map (λ ls. l ∷ ls) rest ≡ Some c → Makes value c) → RowHolds Has (literal l ∷ ps)
      by None later made = inr (later (λ c none. absurd (cc)))
      by (Some ls) later made =
          let one = made (l ∷ ls) refl in
          elim (contains_cases l ls one.0 one.1) [
            | inl same ↦ inl (subst Has (sym same) one.2)
            | inr there ↦ inr (later (λ c is. subst (Makes value) (same_Some ls c is) (one.0, there, one.2)))
          ]

  pub rows_made : (r : ℕ) (path : List ℕ) (i : ℕ) (rows : List (List (Part Literal))) → Meets value (row_axioms r path i rows) → RowsHold Has rows
  rows_made r path i [] h = tt
  rows_made r path i (row ∷ rows) h = (
    row_made row (λ c is. by c (clause_of row) is (λ g has. h g (Contains-append_left (row_axiom r path i (clause_of row)) (row_axioms r path (i + 1) rows) g has))),
    rows_made r path (i + 1) rows (λ g has. h g (Contains-append_right (row_axiom r path i (clause_of row)) (row_axioms r path (i + 1) rows) g has)),
  )
    where
      by : (c : List Literal) (o : Option (List Literal)) → o ≡ Some c → Meets value (row_axiom r path i o) → Makes value c
      by c None is met = absurd (cc)
      by c (Some d) is met = subst (Makes value) (same_Some d c is) (met _ (0, omega arith, refl))
