-- That a sheet has one listing of what can be kept together.
use Rattle.std.proofs.Common.{◌≡◌, ◌⊎◌, ◌↔◌, ℕ, zero, suc, List, [], ◌∷◌, ◌++◌, AllPairs, Contains, refl, sym, ◌∙◌, ap, subst, inl, inr, arith}
use Rattle.std.specs.List.{AllZip}
use Rattle.pc_lemmas.proofs.Elements.{contains_first, contains_later, contains_cases, contains_none}
use Rattle.pc_sheet.specs.Sheet.{Sheet}
use Rattle.pc_sheet.specs.declared.ids.Entry.{Entry}
use Rattle.pc_parts.specs.Parts.{Part}
use Rattle.pc_world_list.specs.Chosen.{chosen_parts}
use Rattle.pc_repairs.specs.Listed.{ComesFirst, ListedPart, IsListedPart, listing_text}
use Rattle.pc_afresh_laws.specs.Afresh.{ListingsAreOne}

-- ---- sets in their order

-- where a list is parted at two of its elements, they are the same, or one of them stands in front of the other
parted_twice : (xs ys zs ws : List Entry) (x y : Entry) → xs ++ x ∷ zs ≡ ys ++ y ∷ ws → (x ≡ y) ⊎ (Contains ys x ⊎ Contains xs y)
parted_twice [] [] zs ws x y e = inl (head_same x y zs ws e)
  where
    head_same : (a b : Entry) (us vs : List Entry) → a ∷ us ≡ b ∷ vs → a ≡ b
    head_same a b us vs same = cc
parted_twice [] (b ∷ bs) zs ws x y e = inr (inl (subst (Contains (b ∷ bs)) (sym (head_same x b zs (bs ++ y ∷ ws) e)) (contains_first b bs)))
  where
    head_same : (a b : Entry) (us vs : List Entry) → a ∷ us ≡ b ∷ vs → a ≡ b
    head_same a b us vs same = cc
parted_twice (a ∷ more) [] zs ws x y e = inr (inr (subst (Contains (a ∷ more)) (head_same a y (more ++ x ∷ zs) ws e) (contains_first a more)))
  where
    head_same : (a b : Entry) (us vs : List Entry) → a ∷ us ≡ b ∷ vs → a ≡ b
    head_same a b us vs same = cc
parted_twice (a ∷ more) (b ∷ others) zs ws x y e = elim (parted_twice more others zs ws x y (tail_same a b (more ++ x ∷ zs) (others ++ y ∷ ws) e)) [
  | inl same ↦ inl same
  | inr there ↦ elim there [
    | inl before ↦ inr (inl (contains_later b others x before))
    | inr before ↦ inr (inr (contains_later a more y before))
  ]
]
  where
    tail_same : (a b : Entry) (us vs : List Entry) → a ∷ us ≡ b ∷ vs → us ≡ vs
    tail_same a b us vs same = cc

module _ (entries : List Entry) where
  -- no two sets come first of each other
  not_both_first : (s t : List Entry) → ComesFirst entries s t → ComesFirst entries t s → ⊥
  not_both_first s t a b = by (parted_twice a.older b.older a.newer b.newer a.oldest b.oldest (sym a.order ∙ b.order))
    where
      by : (a.oldest ≡ b.oldest) ⊎ (Contains b.older a.oldest ⊎ Contains a.older b.oldest) → ⊥
      by (inl same) = b.lacks (subst (Contains s) same a.has)
      by (inr (inl before)) = a.lacks ((b.same a.oldest before).1 a.has)
      by (inr (inr before)) = b.lacks ((a.same b.oldest before).1 b.has)

  abbrev First : List Entry → List Entry → Type 0
  First s t = ComesFirst entries s t

  pairs_first : (x : List Entry) (xs : List (List Entry)) → AllPairs First (x ∷ xs) → (y : List Entry) → Contains xs y → First x y
  pairs_first x xs h y c = subst (λ z. First x z) c.2 (h zero (suc c.0) y (omega arith) (omega (arith, c.1)))

  pairs_rest : (x : List Entry) (xs : List (List Entry)) → AllPairs First (x ∷ xs) → AllPairs First xs
  pairs_rest x xs h i j d below within = h (suc i) (suc j) d (omega arith) (omega arith)

  -- lists of the same sets, each in that order, are one
  sets_same : (xs ys : List (List Entry)) → AllPairs First xs → AllPairs First ys → ((s : List Entry) → Contains xs s ↔ Contains ys s) → xs ≡ ys
  sets_same [] [] h k same = refl
  sets_same [] (y ∷ ys) h k same = absurd (contains_none y ((same y).1 (contains_first y ys)))
  sets_same (x ∷ xs) [] h k same = absurd (contains_none x ((same x).0 (contains_first x xs)))
  sets_same (x ∷ xs) (y ∷ ys) h k same =
      let first : x ≡ y = one (contains_cases y ys x ((same x).0 (contains_first x xs))) (contains_cases x xs y ((same y).1 (contains_first y ys))) in
      ap (λ z. z ∷ xs) first ∙ ap (λ zs. y ∷ zs) (sets_same xs ys (pairs_rest x xs h) (pairs_rest y ys k) (λ s. (forth first s, back first s)))
    where
      one : (y ≡ x) ⊎ Contains ys x → (x ≡ y) ⊎ Contains xs y → x ≡ y
      one (inl e) b = sym e
      one (inr later) (inl e) = e
      one (inr later) (inr other) = absurd (not_both_first y x (pairs_first y ys k x later) (pairs_first x xs h y other))

      not_itself : (s : List Entry) → First s s → ⊥
      not_itself s first = first.lacks first.has

      forth : x ≡ y → (s : List Entry) → Contains xs s → Contains ys s
      forth e s there = elim (contains_cases y ys s ((same s).0 (contains_later x xs s there))) [
        | inl is ↦ absurd (not_itself s (subst (λ z. First z s) (e ∙ is) (pairs_first x xs h s there)))
        | inr later ↦ later
      ]

      back : x ≡ y → (s : List Entry) → Contains ys s → Contains xs s
      back e s there = elim (contains_cases x xs s ((same s).1 (contains_later y ys s there))) [
        | inl is ↦ absurd (not_itself s (subst (λ z. First z s) (sym e ∙ is) (pairs_first y ys k s there)))
        | inr later ↦ later
      ]

-- ---- listed parts

abbrev a_listed : ℕ → List (List Entry) → ListedPart
a_listed cell sets = record { cell = record { 0 = cell }; sets = sets }

module _ (sheet : Sheet) where
  listed_same : (p : Part) (x y : ListedPart) → IsListedPart sheet p x → IsListedPart sheet p y → x ≡ y
  listed_same p x y a b = ap (λ (n : ℕ). a_listed n x.sets) cells ∙ ap (λ (ss : List (List Entry)). a_listed y.cell.0 ss) sets
    where
      head_same : (c d : ℕ) (cs ds : List ℕ) → c ∷ cs ≡ d ∷ ds → c ≡ d
      head_same c d cs ds same = cc

      cells : x.cell.0 ≡ y.cell.0
      cells = head_same x.cell.0 y.cell.0 a.later b.later (sym a.first ∙ b.first)

      sets : x.sets ≡ y.sets
      sets = sets_same sheet.entries x.sets y.sets a.order b.order (λ s. (λ there. (b.exact.exact s).1 ((a.exact.exact s).0 there), λ there. (a.exact.exact s).1 ((b.exact.exact s).0 there)))

  -- the listings of the same parts are one
  pub listing_same : (ps : List Part) (xs ys : List ListedPart) → AllZip (IsListedPart sheet) ps xs → AllZip (IsListedPart sheet) ps ys → xs ≡ ys
  listing_same [] [] [] a b = refl
  listing_same [] [] (y ∷ ys) a b = absurd b
  listing_same [] (x ∷ xs) ys a b = absurd a
  listing_same (p ∷ ps) [] ys a b = absurd a
  listing_same (p ∷ ps) (x ∷ xs) [] a b = absurd b
  listing_same (p ∷ ps) (x ∷ xs) (y ∷ ys) a b = ap (λ (z : ListedPart). z ∷ xs) (listed_same p x y a.0 b.0) ∙ ap (λ (zs : List ListedPart). y ∷ zs) (listing_same ps xs ys a.1 b.1)

-- ---- the listing

pub listings_are_one : ListingsAreOne
listings_are_one sheet x y a b = b.2 ∙ ap (listing_text sheet.universe) (sym (listing_same sheet (chosen_parts sheet) a.0 b.0 a.1 b.1)) ∙ sym a.2
