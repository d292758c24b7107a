-- The generated sheet is well formed.
use Rattle.std.proofs.Common.{◌≡◌, ◌≢◌, ℕ, zero, suc, ◌<◌, ◌≤◌, ◌+◌, ◌*◌, ◌%◌, Bool, true, false, cond, not, eqb, ◌&&◌, List, [], ◌∷◌, ◌++◌, length, Some, pos, codes, replicate, slice_get, get_or, arith, refl, sym, ap, subst, inr, append_assoc, ◌∙◌}
use Rattle.std.proofs.lemmas.Int.{ints}
use Rattle.std.proofs.lemmas.Bool.{eqb-true, ne_eqb}
use Rattle.std.proofs.lemmas.List.Elements.{All-nil, All-cons, All-head, All-tail, All-append, All-push, All-weaker, All-from_recursion}
use Rattle.std.proofs.lemmas.List.Kept.{AllPairs-cons}
use Rattle.std.proofs.lemmas.List.Quantifiers.{all_pairs_push}
use Rattle.std.proofs.lemmas.Slice.Eq.{bytes_eq-Decides}
use Rattle.std.specs.Prelude.{All, AllPairs, Contains, IsSomeAnd}
use Rattle.std.specs.Str.{bytes_eq}
use Rattle.pc_name.specs.Names.{IsName}
use Rattle.pc_name.specs.declared.sign.Op.{Op}
use Rattle.pc_name.specs.declared.sign.Op.TheVariants.{Eq, Ne}
use Rattle.pc_sheet.specs.Sheet.{listed, range, Sort, compare}
use Rattle.pc_sheet.specs.Sizes.{size_of}
use Rattle.pc_sheet.specs.Entailment.{cell_sizes, HaveDistinctCells}
use Rattle.pc_sheet.specs.WellSorted.{Variables, IsNewVariable, IsValueOf, IsWellSorted, IsSmallNumber, IsEquality}
use Rattle.pc_sheet.specs.WellFormed.{AreDifferent, AreWellFormedValues, IsDeclaredSort, IsWellFormedTable, IsWellFormedFamily, IsWellFormedUniverse, IsWellFormedRule, AreWellFormedRules, is_of_cell, entries_of, IsEntryOf, IsWellFormed}
use Rattle.pc_sheet.specs.declared.ids.CellId.{CellId}
use Rattle.pc_sheet.specs.declared.ids.Entry.{Entry}
use Rattle.pc_books.proofs.EntryLemmas.{pairs_head, pairs_tail}
use Rattle.pc_gen.specs.Sheet.{sort, generated_universe, in_slot, chain, other, entry, block_entries, generated_entries, generated_sheet}
use Rattle.pc_name.proofs.Letters.{both, small_name}

-- ---- names

abbrev names : List (List ℕ)
names = codes "block" ∷ codes "slot" ∷ codes "color" ∷ codes "red" ∷ codes "green" ∷ codes "blue" ∷ codes "x" ∷ []

named : All IsName names
named = All-from_recursion IsName names (small_name _ _ refl refl refl, (small_name _ _ refl refl refl, (small_name _ _ refl refl refl, (small_name _ _ refl refl refl, (small_name _ _ refl refl refl, (small_name _ _ refl refl refl, (small_name _ _ refl refl refl, tt)))))))

-- texts that a test tells apart
apart : (a b : List ℕ) → bytes_eq a b ≡ false → a ≢ b
apart a b h e = let equal : bytes_eq a b ≡ true = (bytes_eq-Decides a b).1 e in cc

abbrev not_among : List ℕ → List (List ℕ) → Bool
not_among a [] = true
not_among a (b ∷ bs) = not (bytes_eq a b) && not_among a bs

abbrev all_apart : List (List ℕ) → Bool
all_apart [] = true
all_apart (a ∷ bs) = not_among a bs && all_apart bs

not_true : (b : Bool) → not b ≡ true → b ≡ false
not_true true h = absurd (cc)
not_true false h = refl

unlike : (a : List ℕ) (bs : List (List ℕ)) → not_among a bs ≡ true → All (λ b. a ≢ b) bs
unlike a [] h = All-nil (λ b. a ≢ b)
unlike a (b ∷ bs) h =
    let each = both (not (bytes_eq a b)) (not_among a bs) h in
    All-cons (λ b. a ≢ b) b bs (apart a b (not_true (bytes_eq a b) each.0)) (unlike a bs each.1)

different : (bs : List (List ℕ)) → all_apart bs ≡ true → AreDifferent bs
different [] h = λ i j d below within. absurd (omega (arith, within))
different (a ∷ bs) h =
    let each = both (not_among a bs) (all_apart bs) h in
    AllPairs-cons (λ x y. x ≢ y) a bs (unlike a bs each.0) (different bs each.1)

not_in : (a : List ℕ) (bs : List (List ℕ)) → not_among a bs ≡ true → ¬ Contains bs a
not_in a bs h there = unlike a bs h there.0 a there.1 (sym there.2)

-- ---- the universe

small : (k : ℕ) → k ≤ 1000000 → IsSmallNumber (pos k)
small k l = (omega (arith, ints), omega (arith, ints))

pub block_size : (n : ℕ) → 1 ≤ n → size_of (generated_universe n) (sort 0) ≡ n
block_size n some = omega (arith, ints)

pub get_replicate : (m i x : ℕ) (rest : List ℕ) → i < m → slice_get (replicate m x ++ rest) i ≡ Some x
get_replicate zero i x rest inside = absurd (omega (arith, inside))
get_replicate (suc m) zero x rest inside = refl
get_replicate (suc m) (suc i) x rest inside = get_replicate m i x rest (omega (arith, inside))

pub size_at : (n : ℕ) → 1 ≤ n → (c : ℕ) → c < 4 * n → slice_get (cell_sizes (generated_universe n)) c ≡ Some 3
size_at n some c inside = get_replicate (size_of (generated_universe n) (sort 0) * 4) c 3 [] (omega (arith, inside, block_size n some))

universe : (n : ℕ) → 1 ≤ n → n ≤ 256 → IsWellFormedUniverse (generated_universe n)
universe n some few =
    let u = generated_universe n in
    let P : Sort → Type 0 = λ s. AreWellFormedValues s.values in
    let size = block_size n some in
    let count : size_of u (sort 0) ≤ 256 = omega (arith, size) in
    let slots : AreWellFormedValues (range (pos 1) (pos 4)) = (small 1 (omega arith), small 4 (omega arith), omega (arith, ints), omega arith) in
    let colors : AreWellFormedValues (listed (codes "red" ∷ codes "green" ∷ codes "blue" ∷ [])) = (omega arith, omega arith) in
    let blocks : AreWellFormedValues (range (pos 1) (pos n)) = (small 1 (omega arith), small n (omega (arith, few)), omega (arith, ints), count) in
    record {
      named = named;
      different = different names refl;
      sort_limit = omega arith;
      sorts = All-from_recursion P u.sorts (blocks, (slots, (colors, tt)));
      table_limit = omega arith;
      tables = All-nil (IsWellFormedTable u);
      row_limit = omega arith;
      family_limit = omega arith;
      families = All-from_recursion (IsWellFormedFamily u) u.families (
        record {
          arity = omega arith;
          sorts = All-from_recursion (IsDeclaredSort u) (sort 0 ∷ sort 1 ∷ []) (omega arith, (omega arith, tt));
          result_sort = omega arith;
        },
        tt,
      );
      cell_limit = omega (arith, size, few);
    }

-- ---- the rules

abbrev bound : Variables
bound = (codes "b", sort 0) ∷ []

new_b : (n : ℕ) → IsNewVariable (generated_universe n) [] (codes "b") (sort 0)
new_b n = record { named = small_name _ _ refl refl refl; undeclared = not_in (codes "b") names refl; unbound = λ h. absurd (omega (arith, h.1)); sort = omega arith; depth = omega arith }

is_color : (n k : ℕ) → k < 4 → IsValueOf (generated_universe n) bound (sort 2) (in_slot k)
is_color n k inside = (refl, (refl, (refl, ((refl, inside), tt))), tt)

comparable : (n j k : ℕ) (op : Op) → j < 4 → k < 4 → IsEquality op → IsWellSorted (generated_universe n) bound (compare (in_slot j) op (in_slot k))
comparable n j k op first second equality = (inr (equality, (sort 2, is_color n j first, is_color n k second)), omega arith)

rules : (n : ℕ) → AreWellFormedRules (generated_universe n) (chain ∷ other ∷ [])
rules n =
    let u = generated_universe n in
    record {
      limit = omega arith;
      each = All-from_recursion (IsWellFormedRule u) (chain ∷ other ∷ []) (
        record {
          named = small_name _ _ refl refl refl;
          sorted = (new_b n, ((omega arith, omega arith), (comparable n 0 1 Eq (omega arith) (omega arith) tt, (comparable n 1 2 Eq (omega arith) (omega arith) tt, tt))));
          nesting = omega arith;
        },
        (
          record {
            named = small_name _ _ refl refl refl;
            sorted = (new_b n, comparable n 2 3 Ne (omega arith) (omega arith) tt);
            nesting = omega arith;
          },
          tt,
        ),
      );
      different = different (codes "chain" ∷ codes "other" ∷ []) refl;
    }

-- ---- the entries

module _ (n : ℕ) (some : 1 ≤ n) where
  one_entry : (c v : ℕ) → c < 4 * n → v < 3 → IsEntryOf (generated_universe n) (entry c v)
  one_entry c v inside below = subst (λ o. IsSomeAnd o (λ m. v < m)) (sym (size_at n some c inside)) below

  each_entry : (k : ℕ) → k ≤ n → All (IsEntryOf (generated_universe n)) (generated_entries k)
  each_entry zero within = All-nil (IsEntryOf (generated_universe n))
  each_entry (suc k) within =
      let P = IsEntryOf (generated_universe n) in
      let first = one_entry (4 * k) (suc k % 3) (omega (arith, within)) (omega arith) in
      let third = one_entry (4 * k + 2) (suc k * suc k % 3) (omega (arith, within)) (omega arith) in
      All-append P (generated_entries k) (block_entries k) (each_entry k (omega (arith, within))) (All-from_recursion P (block_entries k) (first, (third, tt)))

-- the cells of the first blocks
abbrev IsBefore : ℕ → Entry → Type 0
IsBefore k e = e.cell.0 < 4 * k

before_weaker : (k : ℕ) (e : Entry) → IsBefore k e → IsBefore (suc k) e
before_weaker k e h = omega (arith, h)

before : (k : ℕ) → All (IsBefore k) (generated_entries k)
before zero = All-nil (IsBefore zero)
before (suc k) =
    let P = IsBefore (suc k) in
    All-append P (generated_entries k) (block_entries k) (All-weaker (IsBefore k) P (before_weaker k) (generated_entries k) (before k)) (All-from_recursion P (block_entries k) (omega arith, (omega arith, tt)))

abbrev Unlike : Entry → Entry → Type 0
Unlike e f = e.cell ≢ f.cell

other_cell : (e : Entry) (c v : ℕ) → e.cell.0 < c → Unlike e (entry c v)
other_cell e c v less is = let same : e.cell.0 ≡ c = ap (λ (id : CellId). id.0) is in absurd (omega (arith, less, same))

distinct_cells : (k : ℕ) → HaveDistinctCells (generated_entries k)
distinct_cells zero = λ i j d below within. absurd (omega (arith, within))
distinct_cells (suc k) =
    let es = generated_entries k in
    let first = entry (4 * k) (suc k % 3) in
    let third = entry (4 * k + 2) (suc k * suc k % 3) in
    let one : AllPairs Unlike (es ++ first ∷ []) = all_pairs_push Unlike es first (distinct_cells k) (λ i d inside. other_cell (get_or es i d) (4 * k) (suc k % 3) (before k i d inside)) in
    let P : Entry → Type 0 = λ e. e.cell.0 < 4 * k + 2 in
    let earlier : All P (es ++ first ∷ []) = All-push P es first (All-weaker (IsBefore k) P (λ e h. omega (arith, h)) es (before k)) (omega arith) in
    let two : AllPairs Unlike ((es ++ first ∷ []) ++ third ∷ []) = all_pairs_push Unlike (es ++ first ∷ []) third one (λ i d inside. other_cell (get_or (es ++ first ∷ []) i d) (4 * k + 2) (suc k * suc k % 3) (earlier i d inside)) in
    subst (AllPairs Unlike) (append_assoc es (first ∷ []) (third ∷ [])) two

-- ---- one entry of each cell

-- none of the cell is among the others
none_of : (c : CellId) (es : List Entry) → All (λ f. c ≢ f.cell) es → length (entries_of c es) ≡ 0
none_of c [] others = refl
none_of c (f ∷ es) others =
    let other = All-head (λ f. c ≢ f.cell) f es others in
    let differ : eqb f.cell.0 c.0 ≡ false = ne_eqb f.cell.0 c.0 (λ same. other (ap (λ (n : ℕ). let x : CellId = record { 0 = n } in x) (sym same))) in
    ap (λ b. length (cond b (f ∷ entries_of c es) (entries_of c es))) differ ∙ none_of c es (All-tail (λ f. c ≢ f.cell) f es others)

one_each : (es : List Entry) → HaveDistinctCells es → (c : CellId) → length (entries_of c es) ≤ 1
one_each [] distinct c = omega arith
one_each (e ∷ es) distinct c = by (is_of_cell c e) refl (one_each es (pairs_tail (λ e f. e.cell ≢ f.cell) e es distinct) c)
  where
    by : (b : Bool) → eqb e.cell.0 c.0 ≡ b → length (entries_of c es) ≤ 1 → length (cond b (e ∷ entries_of c es) (entries_of c es)) ≤ 1
    by true is rest =
        let own : e.cell ≡ c = ap (λ (n : ℕ). let x : CellId = record { 0 = n } in x) (eqb-true e.cell.0 c.0 is) in
        let none = none_of c es (subst (λ d. All (λ f. d ≢ f.cell) es) own (pairs_head (λ e f. e.cell ≢ f.cell) e es distinct)) in
        omega (arith, none)
    by false is rest = rest

pub single : (k : ℕ) (c : CellId) → length (entries_of c (generated_entries k)) ≤ 1
single k = one_each (generated_entries k) (distinct_cells k)

distinct : (k : ℕ) → AreDifferent (generated_entries k)
distinct k = λ i j d order within same. distinct_cells k i j d order within (ap (λ (e : Entry). e.cell) same)

pub formed : (n : ℕ) → 1 ≤ n → n ≤ 256 → IsWellFormed (generated_sheet n)
formed n some few = record {
  universe = universe n some few;
  rules = rules n;
  entries = record {
    each = each_entry n some n (omega arith);
    distinct = distinct n;
    few = λ c. let one = single n c in omega (arith, one);
  };
}
