-- A list that keeps some elements of another, in their order, and what holds of it then.
use Rattle.std.proofs.Common.{◌≡◌, List, [], ◌∷◌, ◌++◌, All, AllPairs, Contains, arith, refl, sym, subst, ◌∙◌, append_assoc}
use Rattle.std.proofs.lemmas.List.Elements.{All-nil, All-cons, All-head, All-tail, All-contains, Contains-append_right}
use Rattle.pc_books.proofs.EntryLemmas.{pairs_head, pairs_tail, pairs_cons}

pub data Keeps (X : Type 0) : List X → List X → Type 0 where
  keeps_none : Keeps X [] []
  keeps_this : (x : X) (xs ys : List X) → Keeps X xs ys → Keeps X (x ∷ xs) (x ∷ ys)
  keeps_rest : (y : X) (xs ys : List X) → Keeps X xs ys → Keeps X xs (y ∷ ys)

module _ {X : Type 0} where
  pub keeps_nothing : (ys : List X) → Keeps X [] ys
  keeps_nothing [] = keeps_none
  keeps_nothing (y ∷ ys) = keeps_rest y [] ys (keeps_nothing ys)

  pub keeps_front : (xs ys : List X) → Keeps X xs (xs ++ ys)
  keeps_front [] ys = keeps_nothing ys
  keeps_front (x ∷ xs) ys = keeps_this x xs (xs ++ ys) (keeps_front xs ys)

  pub keeps_all : (xs : List X) → Keeps X xs xs
  keeps_all [] = keeps_none
  keeps_all (x ∷ xs) = keeps_this x xs xs (keeps_all xs)

  pub keeps_append : (ws zs cs ds : List X) → Keeps X ws zs → Keeps X cs ds → Keeps X (ws ++ cs) (zs ++ ds)
  keeps_append ws zs cs ds keeps_none rest = rest
  keeps_append ws zs cs ds (keeps_this x xs ys some) rest = keeps_this x (xs ++ cs) (ys ++ ds) (keeps_append xs ys cs ds some rest)
  keeps_append ws zs cs ds (keeps_rest y xs ys some) rest = keeps_rest y (xs ++ cs) (ys ++ ds) (keeps_append xs ys cs ds some rest)

  module _ (P : X → Type 0) where
    pub kept_each : (xs ys : List X) → Keeps X xs ys → All P ys → All P xs
    kept_each xs ys keeps_none each = each
    kept_each xs ys (keeps_this x ws zs some) each = All-cons P x ws (All-head P x zs each) (kept_each ws zs some (All-tail P x zs each))
    kept_each xs ys (keeps_rest y ws zs some) each = kept_each ws zs some (All-tail P y zs each)

    -- what stands between two parts
    pub kept_here : (all before : List X) (x : X) (after : List X) → all ≡ before ++ x ∷ after → All P all → P x
    kept_here all before x after is each = All-contains P all x each (subst (λ xs. Contains xs x) (sym is) (Contains-append_right before (x ∷ after) x (0, omega arith, refl)))

  module _ (R : X → X → Type 0) where
    pub kept_pairs : (xs ys : List X) → Keeps X xs ys → AllPairs R ys → AllPairs R xs
    kept_pairs xs ys keeps_none pairs = pairs
    kept_pairs xs ys (keeps_this x ws zs some) pairs = pairs_cons R x ws (kept_each (R x) ws zs some (pairs_head R x zs pairs)) (kept_pairs ws zs some (pairs_tail R x zs pairs))
    kept_pairs xs ys (keeps_rest y ws zs some) pairs = kept_pairs ws zs some (pairs_tail R y zs pairs)

    -- each that stands before an element and that element
    pub pairs_before : (before : List X) (x : X) (after : List X) → AllPairs R (before ++ x ∷ after) → All (λ y. R y x) before
    pairs_before [] x after pairs = All-nil (λ y. R y x)
    pairs_before (y ∷ ys) x after pairs =
        All-cons (λ z. R z x) y ys (All-contains (R y) (ys ++ x ∷ after) x (pairs_head R y (ys ++ x ∷ after) pairs) (Contains-append_right ys (x ∷ after) x (0, omega arith, refl)))
        (pairs_before ys x after (pairs_tail R y (ys ++ x ∷ after) pairs))

  pub front_kept : (all before after : List X) → all ≡ before ++ after → Keeps X before all
  front_kept all before after is = subst (Keeps X before) (sym is) (keeps_front before after)

  -- the first of what is left joins what went before
  pub one_more : (all before : List X) (x : X) (after : List X) → all ≡ before ++ x ∷ after → all ≡ (before ++ x ∷ []) ++ after
  one_more all before x after is = is ∙ sym (append_assoc before (x ∷ []) after)
