-- What is kept part by part.
use Rattle.std.proofs.Common.{◌≡◌, ℕ, zero, suc, ◌+◌, ◌<◌, ◌^◌, inl, inr, List, [], ◌∷◌, ◌++◌, map, length, drop, sum, All, Contains, Bool, Option, Some, slice_get, get_or, arith, ap, refl, sym, ◌∙◌, subst}
use Rattle.std.specs.List.{AllZip}
use Rattle.std.proofs.lemmas.Bool.{cases_lt}
use Rattle.std.proofs.lemmas.List.{length-map, get_or_append_left, get_or_push}
use Rattle.std.proofs.lemmas.List.Sums.{sum_by-cons}
use Rattle.std.proofs.lemmas.List.Elements.{All-contains}
use Rattle.std.proofs.lemmas.Option.{slice_get_within, get_or_from_slice_get}
use Rattle.pc_lits.specs.declared.literal.Lit.{Lit}
use Rattle.pc_lemmas.proofs.Elements.{all_from, contains_cases, contains_first, contains_later}
use Rattle.pc_lemmas.proofs.Options.{same_some}
use Rattle.pc_sheet.specs.Sheet.{Sheet}
use Rattle.pc_sheet.specs.Entailment.{cell_sizes}
use Rattle.pc_ground.specs.Ground.{axioms, clauses, clause_of_axiom}
use Rattle.pc_ground.specs.Naming.{names_of, name_of}
use Rattle.pc_ground.specs.Variables.{variable_count}
use Rattle.pc_axiom_names.specs.Listed.{NameLists}
use Rattle.pc_parts.specs.Components.{parts_of}
use Rattle.pc_components.specs.PartAxioms.{AreAxiomsOf}
use Rattle.pc_components.specs.View.{Kept, number_of, cells_of_part, AreComponentsOf}
use Rattle.pc_ground.proofs.Numbers.{have_their_places}
use Rattle.pc_components.proofs.Placing.{item_first}
use Rattle.pc_problem.proofs.Made.{literal_below}
use Rattle.pc_kept.specs.ByPolarity.{AreKeptByPolarity}
use Rattle.pc_kept.specs.Laws.{KeptByWhatIsStored}
use Rattle.pc_kept.proofs.MarkedLemmas.{kept_within}
use Rattle.pc_kept.specs.Stored.{AreKeptStored, AreUnnamedStored}
use Rattle.pc_kept.specs.inside.Checks.{IsRoom}
use Rattle.pc_kept.specs.inside.Signs.{IsStored}

-- ---- sums

pub sum_more : (xs : List ℕ) (i x count total : ℕ) → slice_get xs i ≡ Some x → count + sum (drop i xs) ≡ total → count + x + sum (drop (i + 1) xs) ≡ total
sum_more xs i x count total at so =
    let first : sum (drop i xs) ≡ sum (x ∷ drop (i + 1) xs) = ap sum (item_first xs i x at) in
    let all : sum (x ∷ drop (i + 1) xs) ≡ x + sum (drop (i + 1) xs) = sum_by-cons (λ n. n) x (drop (i + 1) xs) in
    omega (arith, so, first, all)

-- ---- two lists at a time

pub zip_of : {X Y : Type 0} (R : X → Y → Type 0) (d : Y) (xs : List X) (ys : List Y) → length ys ≡ length xs → ((i : ℕ) (x : X) → i < length xs → slice_get xs i ≡ Some x → R x (get_or ys i d)) → AllZip R xs ys
zip_of R d [] [] same h = tt
zip_of R d [] (y ∷ ys) same h = absurd (omega (arith, same))
zip_of R d (x ∷ xs) [] same h = absurd (omega (arith, same))
zip_of R d (x ∷ xs) (y ∷ ys) same h = (h zero x (omega arith) refl, zip_of R d xs ys (omega (arith, same)) (λ i z below at. h (suc i) z (omega (arith, below)) at))

zip_many : {X Y : Type 0} (R : X → Y → Type 0) (xs : List X) (ys : List Y) → AllZip R xs ys → length xs ≡ length ys
zip_many R [] [] h = refl
zip_many R [] (y ∷ ys) h = absurd h
zip_many R (x ∷ xs) [] h = absurd h
zip_many R (x ∷ xs) (y ∷ ys) h = omega (arith, zip_many R xs ys h.1)

zip_each : {X Y : Type 0} (R : X → Y → Type 0) (P : Y → Type 0) (xs : List X) (ys : List Y) → AllZip R xs ys → ((x : X) (y : Y) → R x y → P y) → (y : Y) → Contains ys y → P y
zip_each R P [] [] h f y has = absurd (omega (arith, has.1))
zip_each R P [] (z ∷ ys) h f y has = absurd h
zip_each R P (x ∷ xs) [] h f y has = absurd h
zip_each R P (x ∷ xs) (z ∷ ys) h f y has = elim (contains_cases z ys y has) [ inl same ↦ subst P same (f x z h.0) | inr later ↦ zip_each R P xs ys h.1 f y later ]

-- where the second list is known to be of another
zip_turned : {X Y Z : Type 0} (R : X → Y → Type 0) (S T : Y → Z → Type 0) (xs : List X) (ys : List Y) (zs : List Z) → ((x : X) (y : Y) (z : Z) → R x y → S y z → T y z) → AllZip R xs ys → AllZip S ys zs → AllZip T ys zs
zip_turned R S T [] [] [] f h g = tt
zip_turned R S T [] [] (z ∷ zs) f h g = absurd g
zip_turned R S T [] (y ∷ ys) zs f h g = absurd h
zip_turned R S T (x ∷ xs) [] zs f h g = absurd h
zip_turned R S T (x ∷ xs) (y ∷ ys) [] f h g = absurd g
zip_turned R S T (x ∷ xs) (y ∷ ys) (z ∷ zs) f h g = (f x y z h.0 g.0, zip_turned R S T xs ys zs f h.1 g.1)

-- what each of the first list has goes on to the second
pub zip_from : {X Y : Type 0} (R : X → Y → Type 0) (P : X → Type 0) (Q : Y → Type 0) (xs : List X) (ys : List Y) → AllZip R xs ys → ((x : X) → Contains xs x → P x) → ((x : X) (y : Y) → R x y → P x → Q y) → (y : Y) → Contains ys y → Q y
zip_from R P Q [] [] h p f y has = absurd (omega (arith, has.1))
zip_from R P Q [] (z ∷ ys) h p f y has = absurd h
zip_from R P Q (x ∷ xs) [] h p f y has = absurd h
zip_from R P Q (x ∷ xs) (z ∷ ys) h p f y has = elim (contains_cases z ys y has) [
  | inl same ↦ subst Q same (f x z h.0 (p x (contains_first x xs)))
  | inr later ↦ zip_from R P Q xs ys h.1 (λ w there. p w (contains_later x xs w there)) f y later
]

-- where each of the second list has a property too
zip_also : {X Y : Type 0} (R : X → Y → Type 0) (P : Y → Type 0) (xs : List X) (ys : List Y) → AllZip R xs ys → ((y : Y) → Contains ys y → P y) → AllZip (λ x y. R x y × P y) xs ys
zip_also R P [] [] h f = tt
zip_also R P [] (y ∷ ys) h f = absurd h
zip_also R P (x ∷ xs) [] h f = absurd h
zip_also R P (x ∷ xs) (y ∷ ys) h f = ((h.0, f y (contains_first y ys)), zip_also R P xs ys h.1 (λ z has. f z (contains_later y ys z has)))

-- what is kept of rows of numbers is as low as these
pub rows_in : (pairs n : ℕ) (store : List (List Lit)) (names : NameLists) (banned : List (Option Bool)) (rows kept : List (List ℕ)) → AllZip (AreKeptStored pairs store names banned) rows kept → All (All (λ k. k < n)) rows
    → All (All (λ k. k < n)) kept
rows_in pairs n store names banned rows kept h low =
    all_from (All (λ k. k < n)) kept
    (zip_from (AreKeptStored pairs store names banned) (All (λ k. k < n)) (All (λ k. k < n)) rows kept h (λ row has. All-contains (All (λ k. k < n)) rows row low has) (kept_within pairs n store names banned))

-- ---- one part more

pub all_row : (P : List ℕ → Type 0) (rows : List (List ℕ)) (i : ℕ) (row : List ℕ) → slice_get rows i ≡ Some row → All P rows → P row
all_row P rows i row at h = subst P (get_or_from_slice_get rows i row row at) (h i row (slice_get_within rows i row at))

pub each_more : (P : List ℕ → List ℕ → Type 0) (all rows now : List (List ℕ)) (i : ℕ) (used row : List ℕ) → length rows ≡ i → slice_get all i ≡ Some used → P used row → now ≡ rows ++ row ∷ []
    → ((j : ℕ) (us : List ℕ) → j < i → slice_get all j ≡ Some us → P us (get_or rows j [])) → (j : ℕ) (us : List ℕ) → j < i + 1 → slice_get all j ≡ Some us → P us (get_or now j [])
each_more P all rows now i used row count at is_kept is each j us below at_j = elim (cases_lt j i) [
  | inl early ↦
      let same : get_or now j [] ≡ get_or rows j [] = ap (λ rs. get_or rs j []) is ∙ get_or_append_left rows (row ∷ []) [] j (omega (arith, early, count)) in
      subst (P us) (sym same) (each j us early at_j)
  | inr late ↦
      let here : j ≡ i = omega (arith, below, late) in
      let same : get_or now j [] ≡ row = ap (λ rs. get_or rs j []) is ∙ get_or_push rows row [] j (omega (arith, count, here)) in
      let used_is : used ≡ us = same_some (sym at ∙ ap (slice_get all) (sym here) ∙ at_j) in
      subst (P us) (sym same) (subst (λ ks. P ks row) used_is is_kept)
]

-- ---- of a sheet

module _ (sheet : Sheet) where
  pub room : (n : ℕ) → n ≡ variable_count sheet → (values : List (Option Bool)) → length values ≡ n → (store : List (List Lit)) → store ≡ clauses sheet → IsRoom values store
  room n is values many store same =
      all_from (All (λ l. l.variable.0 < length values)) store
      (λ clause has. all_from (λ (l : Lit). l.variable.0 < length values) clause
      (λ l in_it. let below = literal_below sheet clause l (subst (λ cs. Contains cs clause) same has) in_it in omega (arith, below, is, many)))

  pub many_names : length (names_of sheet).axioms ≡ length (clauses sheet)
  many_names = length-map (axioms sheet) name_of ∙ sym (length-map (axioms sheet) (clause_of_axiom sheet))

  pub many_variables : length (names_of sheet).variables ≡ variable_count sheet
  many_variables = (have_their_places sheet).count

  -- what is stored of a sheet is of one sheet
  pub stored_of : (store : List (List Lit)) (names : NameLists) → store ≡ clauses sheet → names ≡ names_of sheet → length store < 2 ^ 32 → IsStored store names
  stored_of store names store_is names_are few = record {
    not_many = few;
    named = ap (λ (ns : NameLists). length ns.axioms) names_are ∙ many_names ∙ ap length (sym store_is);
    within =
        all_from (All (λ l. l.variable.0 < length names.variables)) store
        (λ clause has. all_from (λ (l : Lit). l.variable.0 < length names.variables) clause
        (λ l in_it.
        let below = literal_below sheet clause l (subst (λ cs. Contains cs clause) store_is has) in_it in
        let many = ap (λ (ns : NameLists). length ns.variables) names_are ∙ many_variables in
        omega (arith, below, many)));
  }

  module _ (whole : Kept) (are : AreComponentsOf sheet whole) where
    pub as_many : length whole.axioms ≡ length whole.cells
    as_many = omega (arith, zip_many (AreAxiomsOf sheet) (parts_of sheet) whole.axioms are.axioms, ap length are.cells, length-map whole.cells (map number_of), length-map (parts_of sheet) cells_of_part)

    pub within : All (All (λ k. k < length (clauses sheet))) whole.axioms
    within =
        all_from (All (λ k. k < length (clauses sheet))) whole.axioms
        (zip_each (AreAxiomsOf sheet) (All (λ k. k < length (clauses sheet))) (parts_of sheet) whole.axioms are.axioms
        (λ part used of. all_from (λ k. k < length (clauses sheet)) used
        (λ k has.
        let g = (of.exact k).0 has in
        let below = slice_get_within (axioms sheet) k g.0 g.1 in
        omega (arith, below, length-map (axioms sheet) (clause_of_axiom sheet)))))

    -- what is kept of each is kept of the sheet
    pub each_kept : KeptByWhatIsStored → (pairs : ℕ) (store : List (List Lit)) (names : NameLists) → pairs ≡ sum (cell_sizes sheet.universe) → store ≡ clauses sheet → names ≡ names_of sheet
        → (banned : List (Option Bool)) (rows : List (List ℕ)) → AllZip (AreKeptStored pairs store names banned) whole.axioms rows → ((kept : List ℕ) → Contains rows kept → AreUnnamedStored store names banned kept)
        → AllZip (AreKeptByPolarity sheet banned) whole.axioms rows
    each_kept law pairs store names pairs_are store_is names_are banned rows h only =
        let Both : ℕ → List (List Lit) → NameLists → Type 0 = λ n cs ns. AllZip (AreKeptStored n cs ns banned) whole.axioms rows × ((kept : List ℕ) → Contains rows kept → AreUnnamedStored cs ns banned kept) in
        let by_pairs : Both (sum (cell_sizes sheet.universe)) store names = subst (λ n. Both n store names) pairs_are (h, only) in
        let by_store : Both (sum (cell_sizes sheet.universe)) (clauses sheet) names = subst (λ cs. Both (sum (cell_sizes sheet.universe)) cs names) store_is by_pairs in
        let stored : Both (sum (cell_sizes sheet.universe)) (clauses sheet) (names_of sheet) = subst (λ (ns : NameLists). Both (sum (cell_sizes sheet.universe)) (clauses sheet) ns) names_are by_store in
        let S : List ℕ → List ℕ → Type 0 = AreKeptStored (sum (cell_sizes sheet.universe)) (clauses sheet) (names_of sheet) banned in
        let U : List ℕ → Type 0 = AreUnnamedStored (clauses sheet) (names_of sheet) banned in
        zip_turned (AreAxiomsOf sheet) (λ used kept. S used kept × U kept) (AreKeptByPolarity sheet banned) (parts_of sheet) whole.axioms rows
        (λ part used kept of is. law sheet banned used kept of.order is.0 is.1) are.axioms (zip_also S U whole.axioms rows stored.0 stored.1)

    -- and is few enough to be kept
    pub rows_within : (banned : List (Option Bool)) (rows : List (List ℕ)) → AllZip (AreKeptByPolarity sheet banned) whole.axioms rows → length (clauses sheet) < 2 ^ 32 → All (All (λ k. k < 2 ^ 32)) rows
    rows_within banned rows h few =
        all_from (All (λ k. k < 2 ^ 32)) rows
        (zip_each (λ used kept. All (λ k. k < length (clauses sheet)) used × AreKeptByPolarity sheet banned used kept) (All (λ k. k < 2 ^ 32)) whole.axioms rows (zip_with whole.axioms rows within h)
        (λ used kept both. all_from (λ k. k < 2 ^ 32) kept (λ k has. let below = All-contains (λ j. j < length (clauses sheet)) used k both.0 (both.1.among k has) in omega (arith, below, few))))
      where
        zip_with : (xs ys : List (List ℕ)) → All (All (λ k. k < length (clauses sheet))) xs → AllZip (AreKeptByPolarity sheet banned) xs ys
            → AllZip (λ used kept. All (λ k. k < length (clauses sheet)) used × AreKeptByPolarity sheet banned used kept) xs ys
        zip_with [] [] all g = tt
        zip_with [] (y ∷ ys) all g = absurd g
        zip_with (x ∷ xs) [] all g = absurd g
        zip_with (x ∷ xs) (y ∷ ys) all g = ((All-contains (All (λ k. k < length (clauses sheet))) (x ∷ xs) x all (contains_first x xs), g.0), zip_with xs ys (λ i d below. all (suc i) d (omega (arith, below))) g.1)

    pub rows_many : (banned : List (Option Bool)) (rows : List (List ℕ)) → AllZip (AreKeptByPolarity sheet banned) whole.axioms rows → length rows ≡ length whole.cells
    rows_many banned rows h = omega (arith, zip_many (AreKeptByPolarity sheet banned) whole.axioms rows h, as_many)
