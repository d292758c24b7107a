-- What is well sorted in a well-formed universe can be spelled: each name is a name, and each number is short.
use Rattle.std.proofs.Common.{◌≡◌, ℕ, zero, suc, ◌-◌, ◌<◌, ◌≤◌, ◌^◌, Bool, true, false, cond, ℤ, pos, negsuc, ◌+ℤ◌, List, [], ◌∷◌, ◌++◌, length, map, All, Contains, Option, None, Some, slice_get, slice_index_or, IsSomeAnd, arith, refl, sym, subst, inl, inr}
use Rattle.std.proofs.lemmas.List.Elements.{All-contains, All-get_or, All-head, All-tail, Contains-get_or, Contains-append_left, Contains-append_right}
use Rattle.std.proofs.lemmas.Option.{unwrap_or-slice_get}
use Rattle.std.proofs.lemmas.Bool.{leb-true}
use Rattle.std.specs.Prelude.{T, leb, ltb}
use Rattle.std.specs.List.{flat_map}
use Rattle.std.specs.Int.Signed.{mag}
use Rattle.pc_name.specs.Names.{IsName}
use Rattle.pc_name.specs.declared.sign.Op.{Op}
use Rattle.pc_name.specs.declared.sign.Sign.{Sign}
use Rattle.pc_sheet.specs.Sheet.{Universe, Values, listed, range, Sort, Table, Item, Items, no_items, item, variable, constant, number, cell, Sum, Counting, no_more_than, no_fewer_than, of_first, Statement, Statements, no_statements, statement, compare, in_table, negation, all_of, some_of, implies, iff, for_all, exists, counts}
use Rattle.pc_sheet.specs.Sizes.{count_of, size_of, values_at}
use Rattle.pc_sheet.specs.WellFormed.{AreWellFormedValues, IsWellFormedUniverse, IsWellFormedTable}
use Rattle.pc_sheet.specs.WellSorted.{Variables, names_of_values, names_of_sort, name_of_table, name_of_family, declared_names, IsSmallNumber, IsOfSort, AreOfSorts, IsInteger, IsIntegerSum, IsValueOf, AreComparable, IsBound, IsWellSorted, AreWellSorted}
use Rattle.pc_sheet.specs.declared.ids.SortId.{SortId}
use Rattle.pc_sheet.specs.declared.ids.TableId.{TableId}
use Rattle.pc_sheet.specs.declared.ids.FamilyId.{FamilyId}
use Rattle.pc_sheet.specs.declared.ids.ValueId.{ValueId}
use Rattle.pc_writer.specs.FormulaText.{bound_of, sort_at, table_at, family_at, sort_name}
use Rattle.pc_writer.proofs.CellLemmas.{sort_there}
use Rattle.pc_writer.proofs.Names.{at_place, there_within}
use Rattle.pc_writer.proofs.Universe.{values_declared}
use Rattle.pc_canonical_laws.specs.ReadBack.{AreVariablesNamed}
use Rattle.pc_canonical_laws.proofs.Named.{HasArgument, IsShort, IsSpelledValue, IsSpelledItem, AreSpelledItems, AreSpelledParts, IsSpelledSum, IsSpelledStatement, AreSpelledStatements}

-- ---- numbers

passed : (b : Bool) → T b → b ≡ true
passed true test = refl
passed false test = absurd test

le_from_test : (a b : ℕ) → T (leb a b) → a ≤ b
le_from_test a b test = leb-true a b (passed (leb a b) test)

small_size : (z : ℤ) → IsSmallNumber z → mag z ≤ 1000000
small_size (pos n) small = le_from_test n 1000000 small.1.le
small_size (negsuc n) small = let within = le_from_test n 999999 small.0.le in omega (arith, within)

pub short_small : (z : ℤ) → IsSmallNumber z → IsShort z
short_small z small = let size = small_size z small in omega (arith, size)

-- a small number and a value's place in its sort
short_sum : (low : ℤ) (k : ℕ) → mag low ≤ 1000000 → k ≤ 256 → IsShort (low +ℤ pos k)
short_sum (pos l) k small few = omega (arith, small, few)
short_sum (negsuc l) k small few = go (ltb k (suc l))
  where
    go : (b : Bool) → mag (cond b (negsuc (suc l - suc k)) (pos (k - suc l))) < 10 ^ 17
    go true = omega (arith, small)
    go false = omega (arith, few)

-- what a quantifier may count
short_bound : (c : Counting) → IsBound c → bound_of c < 10 ^ 17
short_bound (no_more_than k) bound = omega (arith, bound)
short_bound (no_fewer_than k) bound = omega (arith, bound.1)
short_bound (of_first m i j) bound = absurd bound

-- ---- declared names

taken_apart : {A : Type 0} {C : Type 0} (found : Option A) (P : A → Type 0) → IsSomeAnd found P → ((x : A) → P x → C) → C
taken_apart None P there then = absurd there
taken_apart (Some x) P there then = then x there

seen_name : {A : Type 0} (name : A → List ℕ) (xs : List A) (i : ℕ) (d : A) → i < length xs → Contains (map name xs) (name (slice_index_or xs i d))
seen_name name [] i d below = absurd (omega (arith, below))
seen_name name (x ∷ xs) zero d below = (0, omega arith, refl)
seen_name name (x ∷ xs) (suc i) d below = let rest = seen_name name xs i d (omega arith) in Contains-append_right (name x ∷ []) (map name xs) (name (slice_index_or xs i d)) rest

sort_names : (sorts : List Sort) (i : ℕ) (d : Sort) (name : List ℕ) → i < length sorts → Contains (names_of_sort (slice_index_or sorts i d)) name → Contains (flat_map names_of_sort sorts) name
sort_names [] i d name below there = absurd (omega (arith, below))
sort_names (s ∷ sorts) zero d name below there = Contains-append_left (names_of_sort s) (flat_map names_of_sort sorts) name there
sort_names (s ∷ sorts) (suc i) d name below there = Contains-append_right (names_of_sort s) (flat_map names_of_sort sorts) name (sort_names sorts i d name (omega arith) there)

module _ (u : Universe) (formed : IsWellFormedUniverse u) where
  sorts_part : List (List ℕ)
  sorts_part = flat_map names_of_sort u.sorts

  tables_part : List (List ℕ)
  tables_part = map name_of_table u.tables

  families_part : List (List ℕ)
  families_part = map name_of_family u.families

  pub family_named : (f : FamilyId) → f.0 < length u.families → IsName (family_at u f).name
  unfolding sorts_part tables_part families_part
  family_named f below =
      let name = (family_at u f).name in
      All-contains IsName (declared_names u) name formed.named
      (Contains-append_right sorts_part (tables_part ++ families_part) name
      (Contains-append_right tables_part families_part name (seen_name name_of_family u.families f.0 (record { name = []; sorts = []; result_sort = record { 0 = 0 } }) below)))

  pub table_named : (t : TableId) → t.0 < length u.tables → IsName (table_at u t).name
  unfolding sorts_part tables_part families_part
  table_named t below =
      let name = (table_at u t).name in
      All-contains IsName (declared_names u) name formed.named
      (Contains-append_right sorts_part (tables_part ++ families_part) name
      (Contains-append_left tables_part families_part name (seen_name name_of_table u.tables t.0 (record { name = []; sorts = []; rows = [] }) below)))

  pub in_sort : (s : SortId) (name : List ℕ) → s.0 < length u.sorts → Contains (names_of_sort (sort_at u s)) name → IsName name
  unfolding sorts_part tables_part families_part
  in_sort s name below there =
      All-contains IsName (declared_names u) name formed.named
      (Contains-append_left sorts_part (tables_part ++ families_part) name (sort_names u.sorts s.0 (record { name = []; values = listed [] }) name below there))

  pub sort_named : (s : SortId) → s.0 < length u.sorts → IsName (sort_name u s)
  sort_named s below = in_sort s (sort_name u s) below (0, omega arith, refl)

  -- ---- values

  spelled_value : (v : Values) (k : ValueId) → AreWellFormedValues v → ((name : List ℕ) → Contains (names_of_values v) name → IsName name) → k.0 < count_of v → IsSpelledValue v k
  spelled_value (listed names) k well named below = subst IsName (sym (unwrap_or-slice_get names k.0 [])) (named (slice_index_or names k.0 []) (Contains-get_or names k.0 [] below))
  spelled_value (range low high) k well named below = short_sum low k.0 (small_size low well.0) (omega (arith, well.3, below))

  pub value_spelled : (s : SortId) (v : ValueId) → v.0 < size_of u s → IsSpelledValue (values_at u s) v
  value_spelled s v below =
      let there = sort_there u s v below in
      let at : AreWellFormedValues (sort_at u s).values = All-get_or (λ sort. AreWellFormedValues sort.values) u.sorts s.0 (record { name = []; values = listed [] }) there formed.sorts in
      let own = values_declared u s there in
      subst (λ vs. IsSpelledValue vs v) (sym own)
      (spelled_value (sort_at u s).values v at (λ name there_too. in_sort s name there (Contains-append_right (sort_name u s ∷ []) (names_of_values (sort_at u s).values) name there_too)) (subst (λ vs. v.0 < count_of vs) own below))

-- ---- items and statements

named_more : (vs : Variables) (n : List ℕ) (s : SortId) → AreVariablesNamed vs → IsName n → AreVariablesNamed (vs ++ (n, s) ∷ [])
named_more [] n s named last zero below = last
named_more [] n s named last (suc k) below = absurd (omega (arith, below))
named_more (v ∷ vs) n s named last zero below = named 0 (omega arith)
named_more (v ∷ vs) n s named last (suc k) below = named_more vs n s (λ j lt. named (suc j) (omega arith)) last k (omega arith)

module _ (u : Universe) (formed : IsWellFormedUniverse u) where
  -- a table has an argument, and so has each of its atoms
  has_argument : (t : TableId) (xs : Items) (vs : Variables) → IsSomeAnd (slice_get u.tables t.0) (λ table. AreOfSorts u vs xs table.sorts) → HasArgument xs
  has_argument t xs vs sorted =
      let below = there_within u.tables t.0 (λ table. AreOfSorts u vs xs table.sorts) sorted in
      let none : Table = record { name = []; sorts = []; rows = [] } in
      as_many xs (table_at u t).sorts (All-get_or (IsWellFormedTable u) u.tables t.0 none below formed.tables).some_argument (at_place u.tables t.0 none (λ table. AreOfSorts u vs xs table.sorts) sorted)
    where
      as_many : (ys : Items) (ss : List SortId) → 1 ≤ length ss → AreOfSorts u vs ys ss → HasArgument ys
      as_many no_items [] some all = absurd (omega (arith, some))
      as_many no_items (s ∷ ss) some all = absurd all
      as_many (item y ys) ss some all = tt

  module _ (vs : Variables) (named : AreVariablesNamed vs) where
    mutual
      spelled_item : (x : Item) (s : SortId) → IsOfSort u vs x s → IsSpelledItem u vs x
      spelled_item (variable k) s sorted = named k (there_within vs k (λ v. v.1 ≡ s) sorted)
      spelled_item (constant t v) s sorted = value_spelled u formed t v sorted.1
      spelled_item (number z) s sorted = absurd sorted
      spelled_item (cell f xs) s sorted = (
        family_named u formed f (there_within u.families f.0 (λ family. (family.result_sort ≡ s) × AreOfSorts u vs xs family.sorts) sorted),
        taken_apart (slice_get u.families f.0) (λ family. (family.result_sort ≡ s) × AreOfSorts u vs xs family.sorts) sorted (λ family both. spelled_items xs family.sorts both.1),
      )

      spelled_items : (xs : Items) (ss : List SortId) → AreOfSorts u vs xs ss → AreSpelledItems u vs xs
      spelled_items no_items ss sorted = tt
      spelled_items (item x xs) [] sorted = absurd sorted
      spelled_items (item x xs) (s ∷ ss) sorted = (spelled_item x s sorted.0, spelled_items xs ss sorted.1)

    spelled_integer : (x : Item) → IsInteger u vs x → IsSpelledItem u vs x
    spelled_integer (variable k) (s, sorted, ranges) = spelled_item (variable k) s sorted
    spelled_integer (constant t v) integer = absurd integer
    spelled_integer (number z) integer = short_small z integer
    spelled_integer (cell f xs) (s, sorted, ranges) = spelled_item (cell f xs) s sorted

    spelled_parts : (xs : List (Sign × Item)) → All (λ x. IsInteger u vs x.1) xs → AreSpelledParts u vs xs
    spelled_parts [] all = tt
    spelled_parts (x ∷ xs) all = (spelled_integer x.1 (All-head (λ y. IsInteger u vs y.1) x xs all), spelled_parts xs (All-tail (λ y. IsInteger u vs y.1) x xs all))

    spelled_sum : (sum : Sum) → IsIntegerSum u vs sum → IsSpelledSum u vs sum
    spelled_sum sum (first, rest, few) = (spelled_integer sum.first first, spelled_parts sum.rest rest)

    spelled_single : (sum : Sum) (s : SortId) → IsValueOf u vs s sum → IsSpelledSum u vs sum
    spelled_single sum s (single, sorted, names) = (spelled_item sum.first s sorted, subst (AreSpelledParts u vs) (sym single) tt)

    spelled_sides : (left : Sum) (op : Op) (right : Sum) → AreComparable u vs left op right → IsSpelledSum u vs left × IsSpelledSum u vs right
    spelled_sides left op right (inl (integers, others)) = (spelled_sum left integers, spelled_sum right others)
    spelled_sides left op right (inr (equality, (s, value, other))) = (spelled_single left s value, spelled_single right s other)

  mutual
    pub spelled_statement : (vs : Variables) → AreVariablesNamed vs → (s : Statement) → IsWellSorted u vs s → IsSpelledStatement u vs s
    spelled_statement vs named (compare left op right) sorted = spelled_sides vs named left op right sorted.0
    spelled_statement vs named (in_table t xs) sorted = (
      table_named u formed t (there_within u.tables t.0 (λ table. AreOfSorts u vs xs table.sorts) sorted.0),
      has_argument t xs vs sorted.0,
      taken_apart (slice_get u.tables t.0) (λ table. AreOfSorts u vs xs table.sorts) sorted.0 (λ table items. spelled_items vs named xs table.sorts items),
    )
    spelled_statement vs named (negation s) sorted = spelled_statement vs named s sorted
    spelled_statement vs named (all_of ss) sorted = (sorted.0.0, spelled_statements vs named ss sorted.1)
    spelled_statement vs named (some_of ss) sorted = (sorted.0.0, spelled_statements vs named ss sorted.1)
    spelled_statement vs named (implies s t) sorted = (spelled_statement vs named s sorted.0, spelled_statement vs named t sorted.1)
    spelled_statement vs named (iff s t) sorted = (spelled_statement vs named s sorted.0, spelled_statement vs named t sorted.1)
    spelled_statement vs named (for_all n s body) sorted =
        (sorted.0.named, sort_named u formed s sorted.0.sort, spelled_statement (vs ++ (n, s) ∷ []) (named_more vs n s named sorted.0.named) body sorted.1)
    spelled_statement vs named (exists n s body) sorted =
        (sorted.0.named, sort_named u formed s sorted.0.sort, spelled_statement (vs ++ (n, s) ∷ []) (named_more vs n s named sorted.0.named) body sorted.1)
    spelled_statement vs named (counts c n s body) sorted =
        (short_bound c sorted.0, sorted.1.named, sort_named u formed s sorted.1.sort, spelled_statement (vs ++ (n, s) ∷ []) (named_more vs n s named sorted.1.named) body sorted.2)

    spelled_statements : (vs : Variables) → AreVariablesNamed vs → (ss : Statements) → AreWellSorted u vs ss → AreSpelledStatements u vs ss
    spelled_statements vs named no_statements sorted = tt
    spelled_statements vs named (statement s ss) sorted = (spelled_statement vs named s sorted.0, spelled_statements vs named ss sorted.1)
