-- The rows turned round are the cells, the axioms and the variables of the parts.
use Rattle.std.proofs.Common.{◌≡◌, ℕ, zero, suc, ◌+◌, ◌<◌, ◌≤◌, ◌^◌, ◌⊎◌, ◌↔◌, inl, inr, Bool, List, [], ◌∷◌, map, length, All, AllPairs, Contains, Option, Some, slice_get, refl, ap, sym, ◌∙◌, subst, arith}
use Rattle.std.specs.List.{filter, range_with_len, AllZip}
use Rattle.std.proofs.lemmas.List.{length-map}
use Rattle.std.proofs.lemmas.List.Elements.{All-contains}
use Rattle.std.proofs.lemmas.List.FromFn.{length-range_with_len, length-map-range_with_len}
use Rattle.std.proofs.lemmas.List.Kept.{AllPairs-filter}
use Rattle.pc_lits.specs.declared.literal.Lit.{Lit}
use Rattle.pc_lits.specs.declared.literal.Var.{Var}
use Rattle.pc_sheet.specs.Sheet.{Universe, Sheet}
use Rattle.pc_sheet.specs.WellFormed.{IsWellFormed}
use Rattle.pc_sheet.specs.declared.ids.CellId.{CellId}
use Rattle.pc_parts.specs.Components.{label_of, all_cells, labels_of, is_labeled, are_no_cells, part_of_first, parts_of}
use Rattle.pc_parts.specs.Leaves.{cells_of}
use Rattle.pc_parts.specs.Parts.{Part, cell_count, part_without_cells}
use Rattle.pc_parts.specs.Pieces.{Piece, pieces}
use Rattle.pc_lemmas.proofs.Elements.{contains_first, contains_later, contains_cases, contains_none, contains_map, contains_mapped, flat_there, there_flat}
use Rattle.pc_parts.proofs.Found.{range_order, of_part}
use Rattle.pc_ground.specs.Ground.{GroundAxiom, axioms, clauses, clause_of_axiom, lit_of}
use Rattle.pc_ground.specs.Variables.{variables, variable_count, number}
use Rattle.pc_ground.proofs.Numbers.{have_their_places}
use Rattle.pc_ground.proofs.Symbols.{symbols_are_variables}
use Rattle.pc_components.specs.inside.ClauseVariables.{variable_of, variables_at, variables_in}
use Rattle.pc_components.specs.Laws.{PartsAreInTheirGround}
use Rattle.pc_components.specs.inside.Numbers.{alone}
use Rattle.pc_components.specs.inside.Owners.{firsts_by, cell_number_by, owners_by}
use Rattle.pc_components.specs.PartAxioms.{IsAxiomOfPart, AreAxiomsOf, IsUsed, AreVariablesOf}
use Rattle.pc_components.specs.inside.PartNumbers.{HasNumbers}
use Rattle.pc_components.specs.inside.Turned.{places_from, turned}
use Rattle.pc_components.specs.inside.Within.{AreAllBelow}
use Rattle.pc_components.proofs.TraversalRight.{all_below}
use Rattle.pc_sheet.specs.Entailment.{cell_sizes}
use Rattle.pc_components.specs.View.{number_of, variable_number, cells_of_part, IsInPart, AreComponentsOf}
use Rattle.pc_lemmas.proofs.Options.{same_some}
use Rattle.pc_components.proofs.OwnedByParts.{slice_in, at_place, none_at, cell_part, cells_at, owners_are_parts}
use Rattle.pc_components.proofs.PartNumbersRight.{many_cells}
use Rattle.pc_components.proofs.RowsAdded.{variables_there}
use Rattle.pc_components.proofs.TurnedMeans.{places_are, are_places, in_order}

-- ---- lists by their places

pub place_of : {X : Type 0} (xs : List X) (x : X) → Contains xs x → (k : ℕ) × (slice_get xs k ≡ Some x)
place_of [] x h = absurd (contains_none x h)
place_of (y ∷ ys) x h = elim (contains_cases y ys x h) [
  | inl same ↦ (0, ap Some same)
  | inr later ↦ let found = place_of ys x later in (suc found.0, found.1)
]

pub within : {X : Type 0} (xs : List X) (k : ℕ) (x : X) → slice_get xs k ≡ Some x → k < length xs
within [] k x h = absurd (cc)
within (y ∷ ys) zero x h = omega arith
within (y ∷ ys) (suc k) x h = let l = within ys k x h in omega (arith, l)

pub item : {X : Type 0} (xs : List X) (k : ℕ) → k < length xs → (x : X) × (slice_get xs k ≡ Some x)
item [] k l = absurd (omega (arith, l))
item (y ∷ ys) zero l = (y, refl)
item (y ∷ ys) (suc k) l = item ys k (omega (arith, l))

pub mapped : {X Y : Type 0} (f : X → Y) (xs : List X) (k : ℕ) (x : X) → slice_get xs k ≡ Some x → slice_get (map f xs) k ≡ Some (f x)
mapped f [] k x h = absurd (cc)
mapped f (y ∷ ys) zero x h = let same : y ≡ x = same_some h in ap (λ z. Some (f z)) same
mapped f (y ∷ ys) (suc k) x h = mapped f ys k x h

unmapped : {X Y : Type 0} (f : X → Y) (xs : List X) (k : ℕ) (y : Y) → slice_get (map f xs) k ≡ Some y → (x : X) × (slice_get xs k ≡ Some x) × (f x ≡ y)
unmapped f [] k y h = absurd (cc)
unmapped f (x ∷ xs) zero y h = (x, refl, same_some h)
unmapped f (x ∷ xs) (suc k) y h = unmapped f xs k y h

range_at : (a n k : ℕ) → k < n → slice_get (range_with_len a n) k ≡ Some (a + k)
range_at a zero k l = absurd (omega (arith, l))
range_at a (suc n) zero l = let e : a ≡ a + 0 = omega arith in ap Some e
range_at a (suc n) (suc k) l = range_at (a + 1) n k (omega (arith, l)) ∙ (let e : a + 1 + k ≡ a + suc k = omega arith in ap Some e)

turned_at : (n : ℕ) (rows : List (List ℕ)) (i : ℕ) → i < n → slice_get (turned n rows) i ≡ Some (places_from 0 rows i)
turned_at n rows i l = mapped (places_from 0 rows) (range_with_len 0 n) i (0 + i) (range_at 0 n i l) ∙ (let e : 0 + i ≡ i = omega arith in ap (λ k. Some (places_from 0 rows k)) e)

turned_within : (n : ℕ) (rows : List (List ℕ)) (i : ℕ) (row : List ℕ) → slice_get (turned n rows) i ≡ Some row → i < n
turned_within n rows i row at = let l = within (turned n rows) i row at in omega (arith, l, length-map-range_with_len (places_from 0 rows) 0 n)

-- what is made from places, beside a list
zip_places : {X Y : Type 0} (R : X → Y → Type 0) (f : ℕ → Y) (xs : List X) (k : ℕ) → ((i : ℕ) (x : X) → slice_get xs i ≡ Some x → R x (f (k + i))) → AllZip R xs (map f (range_with_len k (length xs)))
zip_places R f [] k h = tt
zip_places R f (x ∷ xs) k h = (
  (let e : k + 0 ≡ k = omega arith in subst (λ j. R x (f j)) e (h 0 x refl)),
  zip_places R f xs (k + 1) (λ i y at. let e : k + suc i ≡ k + 1 + i = omega arith in subst (λ j. R y (f j)) e (h (suc i) y at)),
)

same_places : {X Y : Type 0} (f : ℕ → Y) (g : X → Y) (xs : List X) (k : ℕ) → ((i : ℕ) (x : X) → slice_get xs i ≡ Some x → f (k + i) ≡ g x) → map f (range_with_len k (length xs)) ≡ map g xs
same_places f g [] k h = refl
same_places f g (x ∷ xs) k h =
    let e : k ≡ k + 0 = omega arith in
    ap (λ y. y ∷ map f (range_with_len (k + 1) (length xs))) (ap f e ∙ h 0 x refl)
    ∙ ap (λ ys. g x ∷ ys) (same_places f g xs (k + 1) (λ i y at. (let d : k + 1 + i ≡ k + suc i = omega arith in ap f d) ∙ h (suc i) y at))

zip_left : {X Y : Type 0} (R : X → Y → Type 0) (xs : List X) (ys : List Y) (k : ℕ) (y : Y) → AllZip R xs ys → slice_get ys k ≡ Some y → (x : X) × (slice_get xs k ≡ Some x) × R x y
zip_left R [] [] k y h at = absurd (cc)
zip_left R [] (z ∷ ys) k y h at = absurd h
zip_left R (x ∷ xs) [] k y h at = absurd h
zip_left R (x ∷ xs) (z ∷ ys) zero y h at = (x, refl, subst (R x) (same_some at) h.0)
zip_left R (x ∷ xs) (z ∷ ys) (suc k) y h at = zip_left R xs ys k y h.1 at

zip_right : {X Y : Type 0} (R : X → Y → Type 0) (xs : List X) (ys : List Y) (k : ℕ) (x : X) → AllZip R xs ys → slice_get xs k ≡ Some x → (y : Y) × (slice_get ys k ≡ Some y) × R x y
zip_right R [] [] k x h at = absurd (cc)
zip_right R [] (z ∷ ys) k x h at = absurd h
zip_right R (z ∷ xs) [] k x h at = absurd h
zip_right R (z ∷ xs) (y ∷ ys) zero x h at = (y, refl, subst (λ w. R w y) (same_some at) h.0)
zip_right R (z ∷ xs) (y ∷ ys) (suc k) x h at = zip_right R xs ys k x h.1 at

zip_unmapped : {X Y Z : Type 0} (R : X → Z → Type 0) (g : Y → Z) (xs : List X) (ys : List Y) → AllZip R xs (map g ys) → AllZip (λ x y. R x (g y)) xs ys
zip_unmapped R g [] [] h = tt
zip_unmapped R g [] (y ∷ ys) h = absurd h
zip_unmapped R g (x ∷ xs) [] h = absurd h
zip_unmapped R g (x ∷ xs) (y ∷ ys) h = (h.0, zip_unmapped R g xs ys h.1)

-- ---- lists in order

ahead : (n : ℕ) (ns : List ℕ) → AllPairs (λ j k. j < k) (n ∷ ns) → (m : ℕ) → Contains ns m → n < m
ahead n ns order m h = subst (λ x. n < x) h.2 (order 0 (suc h.0) m (omega arith) (omega (arith, h.1)))

rest_order : (n : ℕ) (ns : List ℕ) → AllPairs (λ j k. j < k) (n ∷ ns) → AllPairs (λ j k. j < k) ns
rest_order n ns order = λ i j d below inside. order (suc i) (suc j) d (omega arith) (omega arith)

ordered_same : (xs ys : List ℕ) → AllPairs (λ j k. j < k) xs → AllPairs (λ j k. j < k) ys → ((x : ℕ) → Contains xs x → Contains ys x) → ((x : ℕ) → Contains ys x → Contains xs x) → xs ≡ ys
ordered_same [] [] p q f g = refl
ordered_same [] (y ∷ ys) p q f g = absurd (contains_none y (g y (contains_first y ys)))
ordered_same (x ∷ xs) [] p q f g = absurd (contains_none x (f x (contains_first x xs)))
ordered_same (x ∷ xs) (y ∷ ys) p q f g =
    let same : x ≡ y = heads (contains_cases y ys x (f x (contains_first x xs))) (contains_cases x xs y (g y (contains_first y ys))) in
    ap (λ z. z ∷ xs) same ∙ ap (λ zs. y ∷ zs) (ordered_same xs ys (rest_order x xs p) (rest_order y ys q)
    (λ z h. elim (contains_cases y ys z (f z (contains_later x xs z h))) [ inl e ↦ absurd (let l = ahead x xs p z h in omega (arith, l, same, e)) | inr t ↦ t ])
    (λ z h. elim (contains_cases x xs z (g z (contains_later y ys z h))) [ inl e ↦ absurd (let l = ahead y ys q z h in omega (arith, l, same, e)) | inr t ↦ t ]))
  where
    heads : (y ≡ x) ⊎ Contains ys x → (x ≡ y) ⊎ Contains xs y → x ≡ y
    heads (inl e) h = sym e
    heads (inr t) (inl e) = e
    heads (inr t) (inr s) = absurd (let l = ahead y ys q x t in let m = ahead x xs p y s in omega (arith, l, m))

-- ---- variables of clauses

clause_there : (store : List (List Lit)) (k x : ℕ) → Contains (variables_at store k) x → (clause : List Lit) × (slice_get store k ≡ Some clause) × Contains (map variable_of clause) x
clause_there [] k x h = absurd (contains_none x h)
clause_there (c ∷ cs) zero x h = (c, refl, h)
clause_there (c ∷ cs) (suc k) x h = clause_there cs k x h

used_there : (store : List (List Lit)) (used : List ℕ) (x : ℕ) → Contains (variables_in store used) x → IsUsed store used x
used_there store used x h =
    let a = there_flat (variables_at store) used x h in
    let b = clause_there store a.0 x a.2 in
    let c = contains_mapped variable_of b.0 x b.2 in
    (a.0, a.1, b.0, b.1, c.0, c.1, c.2)

there_used : (store : List (List Lit)) (used : List ℕ) (x : ℕ) → IsUsed store used x → Contains (variables_in store used) x
there_used store used x (k, there, clause, at, l, in_it, is) =
    flat_there (variables_at store) used k x there
    (subst (λ xs. Contains xs x) (sym (variables_there store k clause at)) (subst (Contains (map variable_of clause)) is (contains_map variable_of clause l in_it)))

range_has_below : (n x : ℕ) → Contains (range_with_len 0 n) x → x < n
range_has_below n x h =
    let found = place_of (range_with_len 0 n) x h in
    let l : found.0 < n = (let k = within (range_with_len 0 n) found.0 x found.1 in omega (arith, k, length-range_with_len 0 n)) in
    let is : 0 + found.0 ≡ x = same_some (sym (range_at 0 n found.0 l) ∙ found.1) in
    omega (arith, l, is)

used_below : (sheet : Sheet) (used : List ℕ) (x : ℕ) → IsUsed (clauses sheet) used x → x < variable_count sheet
used_below sheet used x (k, there, clause, at, l, in_it, is) =
    let a = unmapped (clause_of_axiom sheet) (axioms sheet) k clause at in
    let b = contains_mapped (lit_of sheet) a.0.clause l (subst (λ ls. Contains ls l) (sym a.2) in_it) in
    let c = symbols_are_variables sheet a.0 (slice_in (axioms sheet) k a.0 a.1) b.0 b.1 in
    let e : number sheet b.0.what ≡ x = ap (λ (m : Lit). m.variable.0) b.2 ∙ is in
    range_has_below (variable_count sheet) x (subst (λ xs. Contains xs x) (have_their_places sheet).places (subst (Contains (map (number sheet) (variables sheet))) e (contains_map (number sheet) (variables sheet) b.0.what c)))

pub parts_are_in_their_ground : PartsAreInTheirGround
parts_are_in_their_ground sheet part used own axs vars = (
  λ k h.
      let g = (axs.exact k).0 h in
      within (clauses sheet) k (clause_of_axiom sheet g.0) (mapped (clause_of_axiom sheet) (axioms sheet) k g.0 g.1),
  λ x h. used_below sheet used x ((vars.exact x).0 h),
)

pub variables_right : (sheet : Sheet) (axs : List (List ℕ)) (bound i : ℕ) (used : List ℕ) → bound ≡ variable_count sheet → slice_get axs i ≡ Some used
    → AreVariablesOf (clauses sheet) used (places_from 0 (turned bound (map (variables_in (clauses sheet)) axs)) i)
variables_right sheet axs bound i used bound_is at =
    let store = clauses sheet in
    let raw = map (variables_in store) axs in
    let here : slice_get raw i ≡ Some (variables_in store used) = mapped (variables_in store) axs i used at in
    record {
      exact = λ x. (
        λ h.
            let a = places_are 0 (turned bound raw) i x h in
            let l = turned_within bound raw a.0 a.2 a.3 in
            let row : a.2 ≡ places_from 0 raw a.0 = same_some (sym a.3 ∙ turned_at bound raw a.0 l) in
            let b = places_are 0 raw a.0 i (subst (λ r. Contains r i) row a.4) in
            let j : b.0 ≡ i = (let e = b.1 in omega (arith, e)) in
            let vs : b.2 ≡ variables_in store used = same_some (sym b.3 ∙ ap (slice_get raw) j ∙ here) in
            let is : a.0 ≡ x = (let e = a.1 in omega (arith, e)) in
            used_there store used x (subst (Contains (variables_in store used)) is (subst (λ r. Contains r a.0) vs b.4)),
        λ h.
            let below = used_below sheet used x h in
            let l : x < bound = omega (arith, below, bound_is) in
            let a = are_places 0 raw x i (variables_in store used) here (there_used store used x h) in
            let i_is : 0 + i ≡ i = omega arith in
            let x_is : 0 + x ≡ x = omega arith in
            subst (Contains (places_from 0 (turned bound raw) i)) x_is (are_places 0 (turned bound raw) i x (places_from 0 raw x) (turned_at bound raw x l) (subst (Contains (places_from 0 raw x)) i_is a)),
      );
      order = in_order 0 (turned bound raw) i;
    }

-- of any rows of axioms
pub variables_named : (sheet : Sheet) (bound : ℕ) (axs vars : List (List ℕ)) (store : List (List Lit)) (kept_axioms : List (List ℕ)) (kept_variables : List (List Var)) → bound ≡ variable_count sheet → store ≡ clauses sheet
    → vars ≡ turned (length axs) (turned bound (map (variables_in store) axs)) → kept_axioms ≡ axs → map (map variable_number) kept_variables ≡ vars
    → AllZip (λ used own. AreVariablesOf (clauses sheet) used (map variable_number own)) kept_axioms kept_variables
variables_named sheet bound axs vars store kept_axioms kept_variables bound_is store_is vars_is axs_is kept_is =
    let rows = turned bound (map (variables_in (clauses sheet)) axs) in
    let here : vars ≡ turned (length axs) rows = vars_is ∙ ap (λ cs. turned (length axs) (turned bound (map (variables_in cs) axs))) store_is in
    let named : AllZip (AreVariablesOf (clauses sheet)) axs vars =
    subst (AllZip (AreVariablesOf (clauses sheet)) axs) (sym here)
    (zip_places (AreVariablesOf (clauses sheet)) (places_from 0 rows) axs 0
    (λ i used at. let e : i ≡ 0 + i = omega arith in subst (λ k. AreVariablesOf (clauses sheet) used (places_from 0 rows k)) e (variables_right sheet axs bound i used bound_is at))) in
    zip_unmapped (AreVariablesOf (clauses sheet)) (map variable_number) kept_axioms kept_variables
    (subst (λ xs. AllZip (AreVariablesOf (clauses sheet)) xs (map (map variable_number) kept_variables)) (sym axs_is) (subst (AllZip (AreVariablesOf (clauses sheet)) axs) (sym kept_is) named))

-- ---- parts

module _ (sheet : Sheet) (formed : IsWellFormed sheet) where
  abbrev u : Universe
  u = sheet.universe

  abbrev labels : List ℕ
  labels = labels_of sheet

  abbrev part_of : ℕ → Part
  part_of f = part_of_first sheet labels f

  abbrev read_none : List Piece
  read_none = filter (λ p. are_no_cells (cells_of u p)) (pieces sheet)

  record AreCells (part : Part) : Type 0 where
    below : (c : ℕ) → Contains part.cells c → c < cell_count u
    order : AllPairs (λ c d. c < d) part.cells

  part_cells : (i : ℕ) (part : Part) → slice_get (parts_of sheet) i ≡ Some part → AreCells part
  part_cells i part at = elim (at_place part_of (firsts_by u labels) (part_without_cells read_none) i part at) [
    | inl f ↦ subst AreCells f.2 (record { below = λ c h. (of_part sheet formed f.0 c h).0; order = AllPairs-filter (λ c d. c < d) (is_labeled labels f.0) (all_cells u) (range_order 0 (cell_count u)) })
    | inr last ↦
        let none : part.cells ≡ [] = (none_at sheet formed read_none last.0 part last.2).1 in
        record { below = λ c h. absurd (contains_none c (subst (λ cs. Contains cs c) none h)); order = subst (AllPairs (λ c d. c < d)) (sym none) (λ j k d below inside. absurd (omega (arith, inside))) }
  ]

  module _ (cells_by : List ℕ) (are : cells_by ≡ map (cell_number_by u labels) (all_cells u)) where
    number_there : (c : ℕ) → c < cell_count u → slice_get cells_by c ≡ Some (cell_number_by u labels c)
    number_there c l =
        ap (λ ns. slice_get ns c) are ∙ mapped (cell_number_by u labels) (all_cells u) c (0 + c) (range_at 0 (cell_count u) c l) ∙ (let e : 0 + c ≡ c = omega arith in ap (λ k. Some (cell_number_by u labels k)) e)

    row_there : (c : ℕ) → c < cell_count u → slice_get (map alone cells_by) c ≡ Some (cell_number_by u labels c ∷ [])
    row_there c l = mapped alone cells_by c (cell_number_by u labels c) (number_there c l)

    many : length (map alone cells_by) ≡ cell_count u
    many = length-map cells_by alone ∙ ap length are ∙ length-map (all_cells u) (cell_number_by u labels) ∙ length-range_with_len 0 (cell_count u)

    pub part_of_number : (i : ℕ) (part : Part) → slice_get (parts_of sheet) i ≡ Some part → places_from 0 (map alone cells_by) i ≡ part.cells
    part_of_number i part at =
        let rows = map alone cells_by in
        let cells = part_cells i part at in
        ordered_same (places_from 0 rows i) part.cells (in_order 0 rows i) cells.order
        (λ c h.
        let a = places_are 0 rows i c h in
        let l : a.0 < cell_count u = (let k = within rows a.0 a.2 a.3 in omega (arith, k, many)) in
        let row : a.2 ≡ cell_number_by u labels a.0 ∷ [] = same_some (sym a.3 ∙ row_there a.0 l) in
        let e : cell_number_by u labels a.0 ≡ i = elim (contains_cases (cell_number_by u labels a.0) [] i (subst (λ r. Contains r i) row a.4)) [ inl same ↦ same | inr none ↦ absurd (contains_none i none) ] in
        let is : a.0 ≡ c = (let d = a.1 in omega (arith, d)) in
        subst (Contains part.cells) is ((cells_at sheet formed a.0 l i part at).0 e))
        (λ c h.
        let l = cells.below c h in
        let e = (cells_at sheet formed c l i part at).1 h in
        let is : 0 + c ≡ c = omega arith in
        subst (Contains (places_from 0 rows i)) is (are_places 0 rows i c (cell_number_by u labels c ∷ []) (row_there c l) (subst (Contains (cell_number_by u labels c ∷ [])) e (contains_first (cell_number_by u labels c) []))))

    in_its_part : (c : ℕ) → c < cell_count u → (i : ℕ) × (slice_get cells_by c ≡ Some i) × IsInPart sheet c i
    in_its_part c l =
        let i = cell_number_by u labels c in
        let part = part_of (label_of labels c) in
        let at = cell_part sheet formed c l in
        (i, number_there c l, (part, at, (cells_at sheet formed c l i part at).0 refl))

  pub axioms_right : (i : ℕ) (part : Part) → slice_get (parts_of sheet) i ≡ Some part → AreAxiomsOf sheet part (places_from 0 (owners_by sheet labels) i)
  axioms_right i part at =
      let os = owners_by sheet labels in
      let IsOwned : GroundAxiom → List ℕ → Type 0 = λ g row. (j : ℕ) (p : Part) → slice_get (parts_of sheet) j ≡ Some p → Contains row j ↔ IsAxiomOfPart p g.name in
      let owned = owners_are_parts sheet formed in
      record {
        exact = λ k. (
          λ h.
              let a = places_are 0 os i k h in
              let b = zip_left IsOwned (axioms sheet) os a.0 a.2 owned a.3 in
              let is : a.0 ≡ k = (let d = a.1 in omega (arith, d)) in
              (b.0, ap (slice_get (axioms sheet)) (sym is) ∙ b.1, (b.2 i part at).0 a.4),
          λ h.
              let b = zip_right IsOwned (axioms sheet) os k h.0 owned h.1 in
              let is : 0 + k ≡ k = omega arith in
              subst (Contains (places_from 0 os i)) is (are_places 0 os i k b.0 b.1 ((b.2 i part at).1 h.2)),
        );
        order = in_order 0 os i;
      }

  module _ (count bound : ℕ) (cells_by pieces_by : List ℕ) (own axs vars cells : List (List ℕ)) (has : HasNumbers sheet count cells_by pieces_by)
      (bound_is : bound ≡ variable_count sheet) (own_is : own ≡ owners_by sheet labels) (axs_is : axs ≡ turned count own)
      (vars_is : vars ≡ turned count (turned bound (map (variables_in (clauses sheet)) axs))) (cells_is : cells ≡ turned count (map alone cells_by)) where
    turned_length : (rows : List (List ℕ)) → length (turned count rows) ≡ count
    turned_length rows = length-map-range_with_len (places_from 0 rows) 0 count

    cells_kept : cells ≡ map cells_of_part (parts_of sheet)
    cells_kept =
        cells_is ∙ ap (λ n. turned n (map alone cells_by)) has.parts
        ∙ same_places (places_from 0 (map alone cells_by)) cells_of_part (parts_of sheet) 0
        (λ i part at. let e : 0 + i ≡ i = omega arith in ap (places_from 0 (map alone cells_by)) e ∙ part_of_number cells_by has.cells i part at)

    axioms_kept : AllZip (AreAxiomsOf sheet) (parts_of sheet) axs
    axioms_kept =
        subst (AllZip (AreAxiomsOf sheet) (parts_of sheet)) (sym (axs_is ∙ ap (turned count) own_is ∙ ap (λ n. turned n (owners_by sheet labels)) has.parts))
        (zip_places (AreAxiomsOf sheet) (places_from 0 (owners_by sheet labels)) (parts_of sheet) 0
        (λ i part at. let e : i ≡ 0 + i = omega arith in subst (λ k. AreAxiomsOf sheet part (places_from 0 (owners_by sheet labels) k)) e (axioms_right i part at)))

    many_axioms : length axs ≡ count
    many_axioms = ap length axs_is ∙ turned_length own

    variables_kept : AllZip (AreVariablesOf (clauses sheet)) axs vars
    variables_kept =
        let rows = turned bound (map (variables_in (clauses sheet)) axs) in
        subst (AllZip (AreVariablesOf (clauses sheet)) axs) (sym (vars_is ∙ ap (λ n. turned n rows) (sym many_axioms)))
        (zip_places (AreVariablesOf (clauses sheet)) (places_from 0 rows) axs 0
        (λ i used at. let e : i ≡ 0 + i = omega arith in subst (λ k. AreVariablesOf (clauses sheet) used (places_from 0 rows k)) e (variables_right sheet axs bound i used bound_is at)))

    module _ (kept_cells : List (List CellId)) (kept_axioms : List (List ℕ)) (kept_variables : List (List Var)) (kc : map (map number_of) kept_cells ≡ cells) (ka : kept_axioms ≡ axs) (kv : map (map variable_number) kept_variables ≡ vars) where
      pub all_right : (banned : List (Option Bool)) → banned ≡ [] → AreComponentsOf sheet (record { cells = kept_cells; axioms = kept_axioms; variables = kept_variables; numbers = cells_by; banned = banned })
      all_right banned none = record {
        cells = kc ∙ cells_kept;
        axioms = subst (AllZip (AreAxiomsOf sheet) (parts_of sheet)) (sym ka) axioms_kept;
        variables =
            zip_unmapped (AreVariablesOf (clauses sheet)) (map variable_number) kept_axioms kept_variables
            (subst (λ xs. AllZip (AreVariablesOf (clauses sheet)) xs (map (map variable_number) kept_variables)) (sym ka) (subst (AllZip (AreVariablesOf (clauses sheet)) axs) (sym kv) variables_kept));
        many_numbers = many_cells sheet count cells_by pieces_by has;
        numbers = in_its_part cells_by has.cells;
        banned = none;
      }

      cells_many : length kept_cells ≡ count
      cells_many = sym (length-map kept_cells (map number_of)) ∙ ap length kc ∙ ap length cells_is ∙ turned_length (map alone cells_by)

      axioms_many : length kept_axioms ≡ count
      axioms_many = ap length ka ∙ many_axioms

      variables_many : length kept_variables ≡ count
      variables_many = sym (length-map kept_variables (map variable_number)) ∙ ap length kv ∙ ap length vars_is ∙ turned_length (turned bound (map (variables_in (clauses sheet)) axs))

      pub as_many_axioms : length kept_cells ≡ length kept_axioms
      as_many_axioms = cells_many ∙ sym axioms_many

      pub as_many_variables : length kept_cells ≡ length kept_variables
      as_many_variables = cells_many ∙ sym variables_many

-- ---- the numbers fit

all_rows : (n : ℕ) (rows : List (List ℕ)) → ((row : List ℕ) → Contains rows row → (k : ℕ) → Contains row k → k < n) → AreAllBelow n rows
all_rows n [] h = tt
all_rows n (row ∷ rows) h = (all_below n row (h row (contains_first row rows)), all_rows n rows (λ r c. h r (contains_later row rows r c)))

-- rows turned round have places of the rows
pub turned_fit : (m n : ℕ) (rows : List (List ℕ)) → length rows ≤ m → AreAllBelow m (turned n rows)
turned_fit m n rows few =
    all_rows m (turned n rows) (λ row there k has.
    let i = contains_mapped (places_from 0 rows) (range_with_len 0 n) row there in
    let a = places_are 0 rows i.0 k (subst (λ r. Contains r k) (sym i.2) has) in
    let l = within rows a.0 a.2 a.3 in
    omega (arith, l, few, a.1))

pub cells_fit : (sheet : Sheet) (count : ℕ) (cells_by pieces_by : List ℕ) (cells : List (List ℕ)) → HasNumbers sheet count cells_by pieces_by → cells ≡ turned count (map alone cells_by) → length (cell_sizes sheet.universe) ≤ 4096 → AreAllBelow (2 ^ 16) cells
cells_fit sheet count cells_by pieces_by cells has is few =
    subst (AreAllBelow (2 ^ 16)) (sym is) (turned_fit (2 ^ 16) count (map alone cells_by) (let a = length-map cells_by alone in let b = many_cells sheet count cells_by pieces_by has in omega (arith, a, b, few)))

pub axioms_fit : (sheet : Sheet) → IsWellFormed sheet → (count : ℕ) (own axs : List (List ℕ)) → own ≡ owners_by sheet (labels_of sheet) → axs ≡ turned count own → length (clauses sheet) < 2 ^ 32 → AreAllBelow (2 ^ 32) axs
axioms_fit sheet formed count own axs own_is is few =
    let os = owners_by sheet (labels_of sheet) in
    let many = zip_length _ (axioms sheet) os (owners_are_parts sheet formed) in
    let clauses_many = length-map (axioms sheet) (clause_of_axiom sheet) in
    let own_many = ap length own_is in
    subst (AreAllBelow (2 ^ 32)) (sym is) (turned_fit (2 ^ 32) count own (omega (arith, many, clauses_many, own_many, few)))
  where
    zip_length : {X Y : Type 0} (R : X → Y → Type 0) (xs : List X) (ys : List Y) → AllZip R xs ys → length xs ≡ length ys
    zip_length R [] [] h = refl
    zip_length R [] (y ∷ ys) h = absurd h
    zip_length R (x ∷ xs) [] h = absurd h
    zip_length R (x ∷ xs) (y ∷ ys) h = ap suc (zip_length R xs ys h.1)

pub variables_fit : (count bound : ℕ) (raw vars : List (List ℕ)) → vars ≡ turned count (turned bound raw) → bound < 2 ^ 32 → AreAllBelow (2 ^ 32) vars
variables_fit count bound raw vars is few =
    subst (AreAllBelow (2 ^ 32)) (sym is) (turned_fit (2 ^ 32) count (turned bound raw) (let l = length-map-range_with_len (places_from 0 raw) 0 bound in omega (arith, l, few)))

-- of any rows
pub rows_fit : (n : ℕ) (rows : List (List ℕ)) → All (All (λ k. k < n)) rows → AreAllBelow n rows
rows_fit n rows h = all_rows n rows (λ row there k has. All-contains (λ j. j < n) row k (All-contains (All (λ j. j < n)) rows row h there) has)

pub many_named : (axs vars : List (List ℕ)) (rows : List (List ℕ)) (kept_variables : List (List Var)) → vars ≡ turned (length axs) rows → map (map variable_number) kept_variables ≡ vars → length axs ≡ length kept_variables
many_named axs vars rows kept_variables is kept_is =
    sym (length-map-range_with_len (places_from 0 rows) 0 (length axs)) ∙ sym (ap length is) ∙ sym (ap length kept_is) ∙ length-map kept_variables (map variable_number)
