-- The labels that the search gives are those of the sheet, and numbering first cells as they come gives the parts' numbers.
use Rattle.std.proofs.Common.{◌≡◌, ℕ, zero, suc, ◌+◌, ◌<◌, ◌≤◌, ◌==◌, Bool, true, false, cond, List, [], ◌∷◌, ◌++◌, map, take, length, get_or, Contains, eqb-true, eq-eqb, refl, ap, sym, ◌∙◌, subst, arith}
use Rattle.std.specs.List.{filter, range_with_len}
use Rattle.std.proofs.lemmas.List.{ext_get_or, map_push, take_more, take_all, length-take, get_or-map, get_or-take}
use Rattle.pc_sheet.specs.Sheet.{Sheet}
use Rattle.pc_sheet.specs.WellFormed.{IsWellFormed}
use Rattle.pc_parts.specs.Components.{label_of, labels_of, is_labeled}
use Rattle.pc_parts.specs.Leaves.{cells_of}
use Rattle.pc_parts.specs.Parts.{cell_count, AreNeighbours, IsChain}
use Rattle.pc_parts.specs.Pieces.{pieces}
use Rattle.pc_parts.proofs.LeafReads.{leaves_read_the_cells}
use Rattle.pc_parts.proofs.Labels.{label_joined, label_le, joined_label, label_there}
use Rattle.pc_lemmas.proofs.Elements.{contains_map, contains_mapped}
use Rattle.pc_components.specs.Labels.{AreTied, IsTiedBy, AreLabels}
use Rattle.pc_components.specs.inside.Numbers.{AreOwn, own_firsts}
use Rattle.pc_components.specs.inside.Owners.{place_in}

-- ---- labels

module _ (rows : List (List ℕ)) (n : ℕ) (labels : List ℕ) (are : AreLabels rows n labels) where
  -- what is chained has one label
  one_label : (c : ℕ) (chain : List ℕ) (d : ℕ) → IsTiedBy rows c chain d → label_of labels c ≡ label_of labels d
  one_label c [] d is = ap (label_of labels) is
  one_label c (m ∷ ms) d h = are.same h.0.0 h.0.1 c h.0.2 m h.0.3 ∙ one_label m ms d h.1

  pub own_labels : AreOwn labels
  own_labels = record {
    least = λ c l. are.least c (low c l);
    own = λ c l. let t = are.tied c (low c l) in sym (one_label c t.0 (label_of labels c) t.1);
  }
    where
      low : (c : ℕ) → c < length labels → c < n
      low c l = let e = are.count in omega (arith, l, e)

  module _ (sheet : Sheet) (formed : IsWellFormed sheet) (rows_are : rows ≡ map (cells_of sheet.universe) (pieces sheet)) (count : n ≡ cell_count sheet.universe) where
    neighbours : (c d : ℕ) → AreTied rows c d → AreNeighbours sheet c d
    neighbours c d (row, there, has_c, has_d) =
        let p = contains_mapped (cells_of sheet.universe) (pieces sheet) row (subst (λ rs. Contains rs row) rows_are there) in
        let read = λ (e : ℕ). leaves_read_the_cells sheet formed p.0 p.1 e in
        (p.0, p.1, (read c).0 (subst (λ r. Contains r c) (sym p.2) has_c), (read d).0 (subst (λ r. Contains r d) (sym p.2) has_d))

    chained : (c : ℕ) (chain : List ℕ) (d : ℕ) → IsTiedBy rows c chain d → IsChain sheet c chain d
    chained c [] d is = is
    chained c (m ∷ ms) d h = (neighbours c m h.0, chained m ms d h.1)

    tied : (c d : ℕ) → AreNeighbours sheet c d → label_of labels c ≡ label_of labels d
    tied c d (p, there, reads_c, reads_d) =
        let row = cells_of sheet.universe p in
        are.same row (subst (λ rs. Contains rs row) (sym rows_are) (contains_map (cells_of sheet.universe) (pieces sheet) p there)) c ((leaves_read_the_cells sheet formed p there c).1 reads_c) d
        ((leaves_read_the_cells sheet formed p there d).1 reads_d)

    chain_tied : (c : ℕ) (chain : List ℕ) (d : ℕ) → IsChain sheet c chain d → label_of labels c ≡ label_of labels d
    chain_tied c [] d is = ap (label_of labels) is
    chain_tied c (m ∷ ms) d h = tied c m h.0 ∙ chain_tied m ms d h.1

    pub labels_same : length (labels_of sheet) ≡ cell_count sheet.universe → labels ≡ labels_of sheet
    labels_same many = ext_get_or 0 labels (labels_of sheet) (are.count ∙ count ∙ sym many) (λ c l. one c (let e = are.count in omega (arith, l, e)))
      where
        one : (c : ℕ) → c < n → label_of labels c ≡ label_of (labels_of sheet) c
        one c l =
            let low : c < cell_count sheet.universe = subst (λ m. c < m) count l in
            let mine = are.least c l in
            let t = are.tied c l in
            let here : label_of labels c < cell_count sheet.universe = omega (arith, mine, low) in
            let a : label_of (labels_of sheet) c ≡ label_of (labels_of sheet) (label_of labels c) = joined_label sheet formed c (label_of labels c) (t.0, chained c t.0 (label_of labels c) t.1) in
            let b = label_le sheet formed (label_of labels c) here in
            let j = label_joined sheet formed c low in
            let d : label_of labels c ≡ label_of labels (label_of (labels_of sheet) c) = chain_tied c j.0 (label_of (labels_of sheet) c) j.1 in
            let there : label_of (labels_of sheet) c < n = (let k = label_there sheet formed c low in omega (arith, k, count)) in
            let e = are.least (label_of (labels_of sheet) c) there in
            omega (arith, a, b, d, e)

-- ---- numbers

-- the place of a number that passes is the count of those before it that do
place_counted : (p : ℕ → Bool) (a n k : ℕ) → k < n → p (a + k) ≡ true → place_in (filter p (range_with_len a n)) (a + k) ≡ length (filter p (range_with_len a k))
place_counted p a zero k l is = absurd (omega (arith, l))
place_counted p a (suc n) zero l is =
    let e : a + 0 ≡ a = omega arith in
    let here : p a ≡ true = ap p (sym e) ∙ is in
    ap (λ b. place_in (cond b (a ∷ filter p (range_with_len (a + 1) n)) (filter p (range_with_len (a + 1) n))) (a + 0)) here
    ∙ ap (λ b. cond b 0 (suc (place_in (filter p (range_with_len (a + 1) n)) (a + 0)))) (eq-eqb a (a + 0) (sym e))
place_counted p a (suc n) (suc k) l is = by (p a) (subst (λ m. place_in rest m ≡ length (filter p (range_with_len (a + 1) k))) e (place_counted p (a + 1) n k (omega (arith, l)) (ap p e ∙ is)))
  where
    e : a + 1 + k ≡ a + suc k
    e = omega arith

    rest : List ℕ
    rest = filter p (range_with_len (a + 1) n)

    no : (i j : ℕ) → (i ≡ j → ⊥) → (i == j) ≡ false
    no i j h = test (i == j) refl
      where
        test : (b : Bool) → (i == j) ≡ b → (i == j) ≡ false
        test true f = absurd (h (eqb-true i j f))
        test false f = f

    by : (b : Bool) → place_in rest (a + suc k) ≡ length (filter p (range_with_len (a + 1) k))
        → place_in (cond b (a ∷ rest) rest) (a + suc k) ≡ length (cond b (a ∷ filter p (range_with_len (a + 1) k)) (filter p (range_with_len (a + 1) k)))
    by true h = ap (λ b. cond b 0 (suc (place_in rest (a + suc k)))) (no a (a + suc k) (λ f. omega (arith, f))) ∙ ap suc h
    by false h = h

range_next : (a n : ℕ) → range_with_len a (suc n) ≡ range_with_len a n ++ (a + n) ∷ []
range_next a zero = let e : a ≡ a + 0 = omega arith in ap (λ i. i ∷ []) e
range_next a (suc n) = let e : a + 1 + n ≡ a + suc n = omega arith in ap (λ xs. a ∷ xs) (range_next (a + 1) n ∙ ap (λ i. range_with_len (a + 1) n ++ i ∷ []) e)

-- one more where the next number passes
count_next : (p : ℕ → Bool) (a n : ℕ) → length (filter p (range_with_len a (suc n))) ≡ length (filter p (range_with_len a n)) + cond (p (a + n)) 1 0
count_next p a zero = let e : a + 0 ≡ a = omega arith in by (p a) ∙ ap (λ m. cond (p m) 1 0) (sym e) ∙ zero_more (cond (p (a + 0)) 1 0)
  where
    by : (b : Bool) → length (cond b (a ∷ []) []) ≡ cond b 1 0
    by true = refl
    by false = refl

    zero_more : (m : ℕ) → m ≡ 0 + m
    zero_more m = omega arith
count_next p a (suc n) = by (p a) (count_next p (a + 1) n)
  where
    e : a + 1 + n ≡ a + suc n
    e = omega arith

    by : (b : Bool) → length (filter p (range_with_len (a + 1) (suc n))) ≡ length (filter p (range_with_len (a + 1) n)) + cond (p (a + 1 + n)) 1 0
        → length (cond b (a ∷ filter p (range_with_len (a + 1) (suc n))) (filter p (range_with_len (a + 1) (suc n)))) ≡ length (cond b (a ∷ filter p (range_with_len (a + 1) n)) (filter p (range_with_len (a + 1) n))) + cond (p (a + suc n)) 1 0
    by true h = let same = ap {B = ℕ} (λ m. cond (p m) 1 0) e in omega (arith, h, same)
    by false h = h ∙ ap (λ m. length (filter p (range_with_len (a + 1) n)) + cond (p m) 1 0) e

abbrev one_if : Bool → ℕ
one_if b = cond b 1 0

abbrev own_before : List ℕ → ℕ → List ℕ
own_before labels c = filter (λ d. is_labeled labels d d) (range_with_len 0 c)

pub counted : (labels : List ℕ) (c d count now : ℕ) → c < length labels → count ≡ length (filter (λ k. is_labeled labels k k) (range_with_len 0 c)) → now ≡ count + cond (get_or labels c d == c) 1 0
    → now ≡ length (filter (λ k. is_labeled labels k k) (range_with_len 0 (c + 1)))
counted labels c d count now low is so =
    let next : c + 1 ≡ suc c = omega arith in
    let zero_c : 0 + c ≡ c = omega arith in
    let h = count_next (λ k. is_labeled labels k k) 0 c in
    let here : one_if (is_labeled labels (0 + c) (0 + c)) ≡ one_if (get_or labels c d == c) = ap (λ k. one_if (is_labeled labels k k)) zero_c ∙ ap (λ l. one_if (l == c)) (default labels c 0 d low) in
    let goal : length (own_before labels (c + 1)) ≡ length (own_before labels (suc c)) = ap (λ m. length (own_before labels m)) next in
    omega (arith, is, so, h, here, goal)
  where
    default : (xs : List ℕ) (i a b : ℕ) → i < length xs → get_or xs i a ≡ get_or xs i b
    default [] i a b l = absurd (omega (arith, l))
    default (x ∷ xs) zero a b l = refl
    default (x ∷ xs) (suc i) a b l = default xs i a b (omega (arith, l))

pub numbered_next : (labels : List ℕ) → AreOwn labels → (c d count number : ℕ) (ns before now : List ℕ) → c < length labels → ns ≡ before → count ≡ length (filter (λ k. is_labeled labels k k) (range_with_len 0 c))
    → before ≡ map (place_in (own_firsts labels)) (take c labels) → number ≡ cond (get_or labels c d == c) count (get_or ns (get_or labels c d) 0) → now ≡ before ++ number ∷ []
    → now ≡ map (place_in (own_firsts labels)) (take (c + 1) labels)
numbered_next labels own c d count number ns before now low lent counts so is added =
    added ∙ ap (λ x. before ++ x ∷ []) right ∙ ap (λ xs. xs ++ f (get_or labels c d) ∷ []) so ∙ sym (map_push f (take c labels) (get_or labels c d)) ∙ ap (map f) (sym (take_more labels c d low))
  where
    f : ℕ → ℕ
    f l = place_in (own_firsts labels) l

    label : ℕ
    label = get_or labels c d

    default : (xs : List ℕ) (i a b : ℕ) → i < length xs → get_or xs i a ≡ get_or xs i b
    default [] i a b l = absurd (omega (arith, l))
    default (x ∷ xs) zero a b l = refl
    default (x ∷ xs) (suc i) a b l = default xs i a b (omega (arith, l))

    is_label : label ≡ label_of labels c
    is_label = default labels c d 0 low

    by : (b : Bool) → (label == c) ≡ b → cond b count (get_or before label 0) ≡ f label
    by true e =
        let same : label ≡ c = eqb-true label c e in
        let passes : is_labeled labels (0 + c) (0 + c) ≡ true = (let z : 0 + c ≡ c = omega arith in ap (λ k. is_labeled labels k k) z ∙ eq-eqb (label_of labels c) c (sym is_label ∙ same)) in
        counts ∙ sym (place_counted (λ k. is_labeled labels k k) 0 (length labels) c low passes) ∙ ap (place_in (own_firsts labels)) (let z : 0 + c ≡ c = omega arith in z ∙ sym same)
    by false e =
        let least = own.least c low in
        let earlier : label < c = strict (λ same. absurd (yes_no (sym (eq-eqb label c same) ∙ e))) (subst (λ l. l ≤ c) (sym is_label) least) in
        let short : label < length (take c labels) = (let t = length-take c labels in omega (arith, earlier, t, low)) in
        ap (λ ns. get_or ns label 0) so ∙ get_or-map f (take c labels) label 0 0 short ∙ ap f (get_or-take c labels label 0 earlier ∙ ap (label_of labels) is_label ∙ own.own c low ∙ sym is_label)
      where
        yes_no : true ≡ false → ⊥
        yes_no h = absurd (cc)

        strict : (label ≡ c → ⊥) → label ≤ c → label < c
        strict other l = omega (arith, l, other)

    right : number ≡ f label
    right = is ∙ ap (λ xs. cond (label == c) count (get_or xs label 0)) lent ∙ by (label == c) refl

pub all_numbered : (labels : List ℕ) (c : ℕ) (numbers : List ℕ) → length labels ≤ c → numbers ≡ map (place_in (own_firsts labels)) (take c labels) → numbers ≡ map (place_in (own_firsts labels)) labels
all_numbered labels c numbers all so = so ∙ ap (map (place_in (own_firsts labels))) (take_all c labels all)
