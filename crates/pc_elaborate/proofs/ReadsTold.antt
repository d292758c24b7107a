-- What counts of reads tell.
use Rattle.std.proofs.Common.{◌≡◌, ℕ, ◌+◌, ◌<◌, ◌≤◌, min, List, [], ◌∷◌, ◌++◌, length, map, take, get_or, arith, ap, ◌∙◌, sym, sum_by}
use Rattle.std.proofs.lemmas.List.{take_more, take_all, map-append}
use Rattle.std.proofs.lemmas.List.Sums.{sum_by-append}
use Rattle.pc_name.specs.declared.sign.Sign.{Sign}
use Rattle.pc_sheet.specs.Sheet as plain
use Rattle.pc_sheet.specs.Views.{item_of, items_of, added_of}
use Rattle.pc_sheet.specs.WellSorted.{reads_in, reads_in_items, reads_in_added}
use Rattle.pc_sheet.specs.declared.formula.Term.{Term}

reads_pushed : (xs : List plain.Item) (x : plain.Item) → reads_in_items (items_of (xs ++ x ∷ [])) ≡ reads_in_items (items_of xs) + reads_in x
reads_pushed [] x = omega arith
reads_pushed (y ∷ xs) x = let rest = reads_pushed xs x in omega (arith, rest)

pub capped : (a b c d : ℕ) → c ≡ min a 17 → d ≡ min b 17 → min (c + d) 17 ≡ min (a + b) 17
capped a b c d h k = omega (arith, h, k)

module _ (ts : List Term) where
  pub reads_more : (i n : ℕ) (t : Term) (m : ℕ) → n ≡ min (reads_in_items (items_of (map item_of (take i ts)))) 17 → t ≡ get_or ts i t → i < length ts → m ≡ min (reads_in (item_of t)) 17 → min (n + m) 17 ≡ min (reads_in_items (items_of (map item_of (take (i + 1) ts)))) 17
  reads_more i n t m h is l k =
      let all : map item_of (take (i + 1) ts) ≡ map item_of (take i ts) ++ item_of t ∷ [] = ap (map item_of) (take_more ts i t l ∙ ap (λ y. take i ts ++ y ∷ []) (sym is)) ∙ map-append item_of (take i ts) (t ∷ []) in
      capped _ _ n m h k ∙ ap (λ r. min r 17) (sym (reads_pushed (map item_of (take i ts)) (item_of t)) ∙ ap (λ xs. reads_in_items (items_of xs)) (sym all))

  pub reads_all : (i n : ℕ) → length ts ≤ i → n ≡ min (reads_in_items (items_of (map item_of (take i ts)))) 17 → n ≡ min (reads_in_items (items_of (map item_of ts))) 17
  reads_all i n l h = h ∙ ap (λ xs. min (reads_in_items (items_of (map item_of xs))) 17) (take_all i ts l)

module _ (first : ℕ) (ts : List (Sign × Term)) where
  abbrev pub reads_so_far : ℕ → ℕ
  reads_so_far i = min (first + sum_by reads_in_added (map added_of (take i ts))) 17

  pub added_reads_more : (i n : ℕ) (t : Sign × Term) (m : ℕ) → n ≡ reads_so_far i → t ≡ get_or ts i t → i < length ts → m ≡ min (reads_in (item_of t.1)) 17 → min (n + m) 17 ≡ reads_so_far (i + 1)
  added_reads_more i n t m h is l k =
      let all : map added_of (take (i + 1) ts) ≡ map added_of (take i ts) ++ added_of t ∷ [] = ap (map added_of) (take_more ts i t l ∙ ap (λ y. take i ts ++ y ∷ []) (sym is)) ∙ map-append added_of (take i ts) (t ∷ []) in
      let sum = sum_by-append reads_in_added (map added_of (take i ts)) (added_of t ∷ []) in
      let more : sum_by reads_in_added (map added_of (take (i + 1) ts)) ≡ sum_by reads_in_added (map added_of (take i ts)) + reads_in (item_of t.1) = ap (sum_by reads_in_added) all ∙ sum ∙ omega arith in
      omega (arith, h, k, more)

  pub added_reads_all : (i n : ℕ) → length ts ≤ i → n ≡ reads_so_far i → n ≡ min (first + sum_by reads_in_added (map added_of ts)) 17
  added_reads_all i n l h = h ∙ ap (λ xs. min (first + sum_by reads_in_added (map added_of xs)) 17) (take_all i ts l)

pub counted_more : (ts : List Term) (i n : ℕ) (t : Term) (m k : ℕ) → n ≡ min (reads_in_items (items_of (map item_of (take i ts)))) 17 → t ≡ get_or ts i t → i < length ts → m ≡ min (reads_in (item_of t)) 17 → k ≡ min (n + m) 17
    → k ≡ min (reads_in_items (items_of (map item_of (take (i + 1) ts)))) 17
counted_more ts i n t m k h is l each sum = sum ∙ reads_more ts i n t m h is l each
