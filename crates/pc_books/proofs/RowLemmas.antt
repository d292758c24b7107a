-- Rows that are found by hashing, and a table with one more row.
use Rattle.std.proofs.Common.{◌≡◌, ◌≢◌, ℕ, zero, suc, ◌+◌, ◌<◌, ◌↔◌, inl, inr, Bool, true, false, ◌||◌, ◌==◌, cond, if◌then◌else◌, List, [], ◌∷◌, ◌++◌, map, take, drop, length, get_or, slice_get, slice_set, IsSomeAnd, Contains, Vec, Global, arith, ap, ◌∙◌, sym, subst, refl}
use Rattle.std.specs.Bool.{Decides}
use Rattle.std.specs.Cmp.Lexicographic.{pointwise}
use Rattle.std.specs.List.{list_any}
use Rattle.std.proofs.lemmas.Bool.{and_parts, and_from, eqb-true, eq-eqb, or_cases, or_left, or_right, false≢true, true≢false}
use Rattle.std.proofs.lemmas.List.{map-append, take-append-drop, drop_more, take_more}
use Rattle.std.proofs.lemmas.List.Elements.{All-contains, Contains-append_right}
use Rattle.std.proofs.lemmas.List.Quantifiers.{all_pairs_push}
use Rattle.std.proofs.lemmas.Slice.Eq.{slice_eq-Decides}
use Rattle.indexmap.specs.IndexSet.{insert_key}
use Rattle.pc_sheet.specs.Readings.{is_same_row}
use Rattle.pc_sheet.specs.Sheet.{Universe, Table}
use Rattle.pc_sheet.specs.WellFormed.{AreDifferent}
use Rattle.pc_sheet.specs.declared.ids.ValueId.{ValueId}
use Rattle.pc_books.specs.DeclarationsView.{IsTableOf}
use Rattle.pc_books.specs.Edits.{rows_with, tables_with}
use Rattle.pc_books.specs.Named.{IsNameOf}
use Rattle.pc_books.specs.RowView.{row_of}
use Rattle.pc_books.specs.SchemeView.{table_of}
use Rattle.pc_books.specs.Sound.{AreCounted}
use Rattle.pc_books.specs.declared.names.Named.{Named}
use Rattle.pc_books.specs.declared.names.Named.TheVariants as named
use Rattle.pc_books.specs.declared.scheme.FamilyDecl.{FamilyDecl}
use Rattle.pc_books.specs.declared.scheme.TableDecl.{TableDecl}
use Rattle.pc_books.proofs.EntryLemmas.{pairs_head, pairs_tail}

-- ---- tests

same_test : (b c : Bool) {P : Type 0} → Decides b P → Decides c P → b ≡ c
same_test true true p q = refl
same_test true false p q = absurd (true≢false (sym (q.1 (p.0 refl))))
same_test false true p q = absurd (true≢false (sym (p.1 (q.0 refl))))
same_test false false p q = refl

pub value_decides : (v w : ValueId) → Decides (v.0 == w.0) (v ≡ w)
value_decides v w = (λ e. ap (λ k. let x : ValueId = record { 0 = k } in x) (eqb-true v.0 w.0 e), λ h. eq-eqb v.0 w.0 (ap (λ x. x.0) h))

same_row_decides : (row vs : List ValueId) → Decides (is_same_row row vs) (row ≡ vs)
same_row_decides [] [] = (λ e. refl, λ h. refl)
same_row_decides [] (w ∷ ws) = (λ e. absurd (false≢true e), λ h. absurd (cc))
same_row_decides (v ∷ vs) [] = (λ e. absurd (false≢true e), λ h. absurd (cc))
same_row_decides (v ∷ vs) (w ∷ ws) = (
  λ e. let first : v ≡ w = (value_decides v w).0 (and_parts _ _ e).0 in let rest : vs ≡ ws = (same_row_decides vs ws).0 (and_parts _ _ e).1 in ap (λ x. x ∷ vs) first ∙ ap (λ xs. w ∷ xs) rest,
  λ h. let first : v ≡ w = cc in let rest : vs ≡ ws = cc in and_from _ _ ((value_decides v w).1 first) ((same_row_decides vs ws).1 rest),
)

turned : {b : Bool} {x y : List ValueId} → Decides b (x ≡ y) → Decides b (y ≡ x)
turned d = (λ e. sym (d.0 e), λ h. d.1 (sym h))

module _ (E : ValueId → ValueId → Bool) (decide : (v w : ValueId) → Decides (E v w) (v ≡ w)) where
  pub one_same : (q : List ValueId) (k : Vec ValueId Global) → pointwise E q k.items ≡ is_same_row k.items q
  one_same q k = same_test (pointwise E q k.items) (is_same_row k.items q) (slice_eq-Decides decide q k.items (pointwise E q k.items) refl) (turned (same_row_decides k.items q))

  pub any_same : (keys : List (Vec ValueId Global)) (q : List ValueId) → list_any (λ k. pointwise E q k.items) keys ≡ list_any (λ r. is_same_row r q) (map row_of keys)
  any_same [] q = refl
  any_same (k ∷ ks) q = ap (λ b. b || list_any (λ x. pointwise E q x.items) ks) (one_same q k) ∙ ap (λ b. is_same_row k.items q || b) (any_same ks q)

  -- a row that isn't there is the last one after it is inserted
  pub inserted : (keys new : List (Vec ValueId Global)) (k : Vec ValueId Global) (rows : List (List ValueId)) (row : List ValueId)
      → new ≡ insert_key (λ x y. pointwise E x.items y.items) keys k → k.items ≡ row → map row_of keys ≡ rows → list_any (λ r. is_same_row r row) rows ≡ false → map row_of new ≡ rows ++ row ∷ []
  inserted keys new k rows row is items view absent =
      let missing : list_any (λ x. pointwise E k.items x.items) keys ≡ false = any_same keys k.items ∙ ap (λ q. list_any (λ r. is_same_row r q) (map row_of keys)) items ∙ ap (list_any (λ r. is_same_row r row)) view ∙ absent in
      ap (map row_of) (is ∙ ap (λ b. if b then keys else keys ++ k ∷ []) missing)
      ∙ map-append row_of keys (k ∷ [])
      ∙ ap (λ xs. xs ++ k.items ∷ []) view
      ∙ ap (λ r. rows ++ r ∷ []) items

pub rows_decide : (rows : List (List ValueId)) (vs : List ValueId) → Decides (list_any (λ row. is_same_row row vs) rows) (Contains rows vs)
rows_decide [] vs = (λ e. absurd (false≢true e), λ h. absurd (omega (arith, h.1)))
rows_decide (row ∷ rows) vs = (
  λ e. elim (or_cases _ _ e) [
    | inl h ↦ (zero, omega arith, (same_row_decides row vs).0 h)
    | inr h ↦ let later = (rows_decide rows vs).0 h in (suc later.0, omega (arith, later.1), later.2)
  ],
  λ h. found h (rows_decide rows vs).1,
)
  where
    found : Contains (row ∷ rows) vs → (Contains rows vs → list_any (λ r. is_same_row r vs) rows ≡ true) → list_any (λ r. is_same_row r vs) (row ∷ rows) ≡ true
    found (zero, l, e) later = or_left _ _ ((same_row_decides row vs).1 e)
    found (suc k, l, e) later = or_right _ _ (later (k, omega arith, e))

absent_test : (rows : List (List ValueId)) (row : List ValueId) → ¬ Contains rows row → list_any (λ r. is_same_row r row) rows ≡ false
absent_test rows row h = by (list_any (λ r. is_same_row r row) rows) refl
  where
    by : (b : Bool) → list_any (λ r. is_same_row r row) rows ≡ b → b ≡ false
    by true e = absurd (h ((rows_decide rows row).0 e))
    by false e = refl

-- ---- one more row

pub stands : (rows : List (List ValueId)) (row : List ValueId) (found : Bool) → found ≡ list_any (λ r. is_same_row r row) rows → found ≡ true → rows ≡ rows_with rows row
stands rows row found is test = sym (ap (λ b. cond b rows (rows ++ row ∷ [])) (sym is ∙ test))

pub new_row : (rows : List (List ValueId)) (row : List ValueId) → list_any (λ r. is_same_row r row) rows ≡ false → rows ++ row ∷ [] ≡ rows_with rows row
new_row rows row absent = sym (ap (λ b. cond b rows (rows ++ row ∷ [])) absent)

pub different_push : (rows : List (List ValueId)) (row : List ValueId) → AreDifferent rows → list_any (λ r. is_same_row r row) rows ≡ false → AreDifferent (rows ++ row ∷ [])
different_push rows row different absent =
    all_pairs_push (λ x y. x ≢ y) rows row different (λ k d l same. false≢true (sym absent ∙ (rows_decide rows row).1 (k, l, at rows k d row l ∙ same)))
  where
    at : (rows : List (List ValueId)) (k : ℕ) (d e : List ValueId) → k < length rows → get_or rows k e ≡ get_or rows k d
    at [] k d e l = absurd (omega arith)
    at (r ∷ rs) zero d e l = refl
    at (r ∷ rs) (suc k) d e l = at rs k d e (omega arith)

-- ---- a copy, row by row

apart : (xs ys : List (List ValueId)) (x : List ValueId) → AreDifferent (xs ++ x ∷ ys) → ¬ Contains xs x
apart [] ys x h there = absurd (omega (arith, there.1))
apart (y ∷ xs) ys x h (zero, l, is) = All-contains (λ z. y ≢ z) (xs ++ x ∷ ys) x (pairs_head (λ a b. a ≢ b) y (xs ++ x ∷ ys) h) (Contains-append_right xs (x ∷ ys) x (0, omega arith, refl)) is
apart (y ∷ xs) ys x h (suc k, l, is) = apart xs ys x (pairs_tail (λ a b. a ≢ b) y (xs ++ x ∷ ys) h) (k, omega arith, is)

pub copied_more : (items : List (Vec ValueId Global)) (i : ℕ) (d : Vec ValueId Global) → i < length items → d ≡ get_or items i d → AreDifferent (map row_of items)
    → rows_with (map row_of (take i items)) d.items ≡ map row_of (take (i + 1) items)
copied_more items i d l is different =
    let front = take i items in
    let split : items ≡ front ++ d ∷ drop (i + 1) items = sym (take-append-drop i items) ∙ ap (λ xs. front ++ xs) (drop_more items i d l) ∙ ap (λ x. front ++ x ∷ drop (i + 1) items) (sym is) in
    let rows : map row_of items ≡ map row_of front ++ d.items ∷ map row_of (drop (i + 1) items) = ap (map row_of) split ∙ map-append row_of front (d ∷ drop (i + 1) items) in
    let absent = absent_test (map row_of front) d.items (apart (map row_of front) (map row_of (drop (i + 1) items)) d.items (subst AreDifferent rows different)) in
    sym (new_row (map row_of front) d.items absent)
    ∙ sym (map-append row_of front (d ∷ []))
    ∙ ap (map row_of) (ap (λ x. front ++ x ∷ []) is ∙ sym (take_more items i d l))

-- ---- in a table of a universe

pub row_set : (ts : List TableDecl) (k : ℕ) (d : TableDecl) (rows : List (List ValueId)) (row : List ValueId) → k < length ts → rows ≡ rows_with (get_or ts k d).rows row
    → map table_of (slice_set ts k (record { name = (get_or ts k d).name; sorts = (get_or ts k d).sorts; rows = rows })) ≡ tables_with (map table_of ts) k row
row_set [] k d rows row l is = absurd (omega arith)
row_set (t ∷ ts) zero d rows row l is = ap (λ rs. (let s : Table = record { name = t.name; sorts = t.sorts.items; rows = rs } in s) ∷ map table_of ts) is
row_set (t ∷ ts) (suc k) d rows row l is = ap (λ xs. table_of t ∷ xs) (row_set ts k d rows row (omega arith) is)

pub counts_with : (u : Universe) (tables : List Table) (n : ℕ) (ds : List FamilyDecl) (total : ℕ) → AreCounted u n ds total → AreCounted (record u { tables = tables }) n ds total
counts_with u tables n [] total counted = counted
counts_with u tables n (d ∷ ds) total counted = (counted.0, counted.1, counts_with u tables (n + d.cells) ds total counted.2)

same_name : (ts : List Table) (k : ℕ) (row : List ValueId) (i : ℕ) (name : List ℕ) → IsSomeAnd (slice_get (tables_with ts k row) i) (λ t. t.name ≡ name) ↔ IsSomeAnd (slice_get ts i) (λ t. t.name ≡ name)
same_name [] k row i name = (λ h. h, λ h. h)
same_name (t ∷ ts) zero row zero name = (λ h. h, λ h. h)
same_name (t ∷ ts) zero row (suc i) name = (λ h. h, λ h. h)
same_name (t ∷ ts) (suc k) row zero name = (λ h. h, λ h. h)
same_name (t ∷ ts) (suc k) row (suc i) name = same_name ts k row i name

pub names_with : (u : Universe) (k : ℕ) (row : List ValueId) (t : List (List ℕ × Named)) → IsTableOf u t → IsTableOf (record u { tables = tables_with u.tables k row }) t
names_with u k row t h = record { exact = λ name n. (λ there. (same name n).1 ((h.exact name n).0 there), λ is. (h.exact name n).1 ((same name n).0 is)); different = h.different }
  where
    same : (name : List ℕ) (n : Named) → IsNameOf (record u { tables = tables_with u.tables k row }) name n ↔ IsNameOf u name n
    same name (named.Sort s) = (λ h. h, λ h. h)
    same name (named.Table s) = same_name u.tables k row s.0 name
    same name (named.Family f) = (λ h. h, λ h. h)
    same name (named.Value s v) = (λ h. h, λ h. h)
