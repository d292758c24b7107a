-- Steps of the tests of used entries and of values.
use Rattle.std.proofs.Common.{◌≡◌, ◌≢◌, ℕ, suc, ◌+◌, ◌<◌, ◌≤◌, inl, inr, List, [], ◌∷◌, ◌++◌, map, take, length, get_or, All, Option, None, Some, slice_get, IsSomeAnd, refl, ap, sym, ◌∙◌, subst, arith}
use Rattle.std.proofs.lemmas.Bool.{cases_order}
use Rattle.std.proofs.lemmas.Option.{slice_get-get_or, get_or_from_slice_get, slice_get_within}
use Rattle.std.proofs.lemmas.List.{take_all, take_more, map-append, length-append, length-map, length-take-le, get_or_append_left, get_or_push, get_or-map}
use Rattle.std.proofs.lemmas.List.Elements.{All-more}
use Rattle.pc_sheet.specs.Sheet.{Sheet, NamedStatement, no_statements, all_of}
use Rattle.pc_sheet.specs.Truth.{Holds}
use Rattle.pc_sheet.specs.Entailment.{cell_sizes, AreWithin, IsAssignment, RuleHolds, Fits}
use Rattle.pc_sheet.specs.WellFormed.{IsEntryOf}
use Rattle.pc_sheet.specs.declared.ids.ValueId.{ValueId}
use Rattle.pc_sheet.specs.declared.ids.Entry.{Entry}
use Rattle.pc_accept.specs.Accepts.{AreInCellOrder, value_of_entry}
use Rattle.pc_cert.specs.declared.cert.Said.{Said}
use Rattle.pc_cert.specs.Text.{entry_said}
use Rattle.pc_cert.specs.Views.{said_of}
use Rattle.pc_checker.specs.Verdicts.{Numbered, IsFirstWithout, IsFirstAstray, FitsBut}
use Rattle.pc_checker.proofs.ListLemmas.{cut_at, without_at}
use Rattle.pc_lemmas.proofs.Options.{some_and}

-- ---- entries

pub same_entry : (x y : Entry) → x.cell.0 ≡ y.cell.0 → x.value.0 ≡ y.value.0 → x ≡ y
same_entry x y c v =
    let make : ℕ → ℕ → Entry = λ m n. record { cell = record { 0 = m }; value = record { 0 = n } } in
    ap (λ m. make m x.value.0) c ∙ ap (make y.cell.0) v

pub same_value : (x y : ValueId) → x.0 ≡ y.0 → x ≡ y
same_value x y v = let make : ℕ → ValueId = λ n. record { 0 = n } in ap make v

abbrev pub first_value : ValueId
first_value = record { 0 = 0 }

abbrev pub first_entry : Entry
first_entry = record { cell = record { 0 = 0 }; value = first_value }

-- what a list of lines gives past its end, in a goal on its elements
abbrev pub no_said : Said
no_said = record { line = 0; entry = first_entry }

pub is_held : (values : List ValueId) (c j : ℕ) (v d : ValueId) → j ≡ c → c < length values → (get_or values j d).0 ≡ v.0 → slice_get values c ≡ Some v
is_held values c j v d at within same =
    slice_get-get_or values c d within ∙ ap Some (ap (λ i. get_or values i d) (sym at) ∙ same_value (get_or values j d) v same)

pub is_not_held : (values : List ValueId) (c j : ℕ) (v d : ValueId) → j ≡ c → (get_or values j d).0 ≢ v.0 → ¬ (slice_get values c ≡ Some v)
is_not_held values c j v d at other held =
    let number : ValueId → ℕ = λ x. x.0 in
    other (ap number (ap (λ i. get_or values i d) at ∙ get_or_from_slice_get values c v d held))

-- ---- rules

pub fits_each : (sheet : Sheet) (a : List ValueId) → ((k : ℕ) → k < length sheet.rules → RuleHolds sheet a k) → Fits sheet a
fits_each sheet a each k d within =
    subst (λ (o : Option NamedStatement). IsSomeAnd o (λ rule. Holds sheet.universe a [] rule.states)) (slice_get-get_or sheet.rules k d within) (each k within)

pub each_fits : (sheet : Sheet) (a : List ValueId) → Fits sheet a → (k : ℕ) → k < length sheet.rules → RuleHolds sheet a k
each_fits sheet a fits k within =
    let d : NamedStatement = record { name = []; states = all_of no_statements } in
    subst (λ (o : Option NamedStatement). IsSomeAnd o (λ rule. Holds sheet.universe a [] rule.states)) (sym (slice_get-get_or sheet.rules k d within)) (fits k d within)

pub fits_but : (sheet : Sheet) (left_out : Option ℕ) (a : List ValueId) → ((k : ℕ) → k < length sheet.rules → left_out ≢ Some k → RuleHolds sheet a k) → FitsBut sheet left_out a
fits_but sheet None a each = fits_each sheet a (λ k l. each k l (λ e. absurd (cc)))
fits_but sheet (Some r) a each = λ k l other. each k l (λ e. other (cc))

-- ---- the cells' order

in_order_push : (es : List Entry) (e : Entry) → AreInCellOrder es → e.cell.0 ≡ length es → AreInCellOrder (es ++ e ∷ [])
in_order_push es e order turn = record {
  cells = λ k d within. elim (cases_order k (length es)) [
    | inl same ↦ let cell : Entry → ℕ = λ x. x.cell.0 in ap cell (get_or_push es e d k (sym same)) ∙ turn ∙ sym same
    | inr (inl less) ↦ let cell : Entry → ℕ = λ x. x.cell.0 in ap cell (get_or_append_left es (e ∷ []) d k less) ∙ order.cells k d less
    | inr (inr more) ↦ absurd (omega (arith, within, length-append es (e ∷ [])))
  ];
}

-- one value more, whose turn it is
pub in_order_more : (values : List (Numbered Entry)) (i : ℕ) (d : Numbered Entry) → i < length values → AreInCellOrder (map entry_said (take i values)) → (get_or values i d).1.cell.0 ≡ i
    → AreInCellOrder (map entry_said (take (i + 1) values))
in_order_more values i d within order turn =
    let x = get_or values i d in
    let more : map entry_said (take (i + 1) values) ≡ map entry_said (take i values) ++ x.1 ∷ [] =
    ap (map entry_said) (take_more values i d within) ∙ map-append entry_said (take i values) (x ∷ [])
    in
    let count : length (map entry_said (take i values)) ≡ i = length-map (take i values) entry_said ∙ length-take-le i values (omega arith) in
    subst AreInCellOrder (sym more) (in_order_push (map entry_said (take i values)) x.1 order (turn ∙ sym count))

-- the value at which the loop stops
pub astray_at : (values : List (Numbered Entry)) (i : ℕ) (d : Numbered Entry) → i < length values → AreInCellOrder (map entry_said (take i values)) → (get_or values i d).1.cell.0 ≢ i
    → IsFirstAstray values (get_or values i d)
astray_at values i d within order other = record {
  before = take i values;
  after = _;
  are = cut_at values i d within;
  in_order = order;
  astray = λ same. other (same ∙ length-take-le i values (omega arith));
}

-- ---- assignments

-- values that are within the sizes, place by place
within_each : (sizes : List ℕ) (vs : List ValueId) → length vs ≡ length sizes → ((k : ℕ) (d : ValueId) → k < length vs → IsSomeAnd (slice_get sizes k) (λ n. (get_or vs k d).0 < n)) → AreWithin sizes vs
within_each [] [] same each = tt
within_each [] (v ∷ vs) same each = absurd (omega arith)
within_each (n ∷ sizes) [] same each = absurd (omega arith)
within_each (n ∷ sizes) (v ∷ vs) same each =
    (each 0 v (omega arith), within_each sizes vs (omega arith) (λ k d l. each (suc k) d (omega arith)))

some_along : {X : Type 0} (o q : Option X) (P Q : X → Type 0) → o ≡ q → ((x : X) → P x → Q x) → IsSomeAnd o P → IsSomeAnd q Q
some_along {X} o q P Q same f h = let a = some_and o P h in subst (λ (r : Option X). IsSomeAnd r Q) (sym a.1 ∙ same) (f a.0 a.2)

module _ (sheet : Sheet) (values : List (Numbered Entry)) (said : All (λ e. IsEntryOf sheet.universe e.1) values) (order : AreInCellOrder (map entry_said values)) where
  abbrev sizes : List ℕ
  sizes = cell_sizes sheet.universe

  abbrev es : List Entry
  es = map entry_said values

  -- the entry at a place
  at_place : (k : ℕ) → k < length values → IsSomeAnd (slice_get sizes k) (λ n. (get_or es k first_entry).value.0 < n)
  at_place k within =
      let x = get_or es k first_entry in
      let here : IsEntryOf sheet.universe x = subst (IsEntryOf sheet.universe) (sym (get_or-map entry_said values k (0, first_entry) first_entry within)) (said k (0, first_entry) within) in
      let cell : x.cell.0 ≡ k = order.cells k first_entry (omega (arith, length-map values entry_said)) in
      some_along (slice_get sizes x.cell.0) (slice_get sizes k) (λ n. x.value.0 < n) (λ n. x.value.0 < n) (ap (slice_get sizes) cell) (λ n l. l) here

  -- there are no more values than cells
  pub no_more : length values ≤ length sizes
  no_more = elim (cases_order (length sizes) (length values)) [
    | inl same ↦ omega arith
    | inr (inl less) ↦ let a = some_and (slice_get sizes (length sizes)) _ (at_place (length sizes) less) in absurd (omega (arith, slice_get_within sizes (length sizes) a.0 a.1))
    | inr (inr more) ↦ omega arith
  ]

  pub values_assign : length sizes ≤ length values → IsAssignment sheet.universe (map value_of_entry es)
  values_assign enough =
      let most = no_more in
      let count : length (map value_of_entry es) ≡ length values = length-map es value_of_entry ∙ length-map values entry_said in
      within_each sizes (map value_of_entry es) (omega arith)
      (λ k d l.
      let within : k < length values = omega arith in
      let same : get_or (map value_of_entry es) k d ≡ (get_or es k first_entry).value = get_or-map value_of_entry es k first_entry d (omega (arith, length-map values entry_said)) in
      let number : ValueId → ℕ = λ v. v.0 in
      some_along (slice_get sizes k) (slice_get sizes k) (λ n. (get_or es k first_entry).value.0 < n) (λ n. (get_or (map value_of_entry es) k d).0 < n) refl
      (λ n less. omega (arith, ap number same)) (at_place k within))

-- an assignment has as many values as there are cells
pub within_length : (ns : List ℕ) (vs : List ValueId) → AreWithin ns vs → length vs ≡ length ns
within_length [] [] h = refl
within_length [] (v ∷ vs) h = absurd h
within_length (n ∷ ns) [] h = absurd h
within_length (n ∷ ns) (v ∷ vs) h = ap suc (within_length ns vs h.1)

-- ---- the places at which loops over lines stop

pub stops_at : (P : Numbered Entry → Type 0) (said : List Said) (i : ℕ) → i < length said → All P (take i (map said_of said)) → ¬ P (said_of (get_or said i no_said))
    → IsFirstWithout P (map said_of said) (said_of (get_or said i no_said))
stops_at P said i within so fails =
    let same : get_or (map said_of said) i (0, first_entry) ≡ said_of (get_or said i no_said) = get_or-map said_of said i no_said (0, first_entry) within in
    subst (IsFirstWithout P (map said_of said)) same
    (without_at P (map said_of said) i (0, first_entry) (omega (arith, length-map said said_of)) so (λ p. fails (subst P same p)))

pub one_more : (P : Numbered Entry → Type 0) (said : List Said) (i : ℕ) → i < length said → All P (take i (map said_of said)) → P (said_of (get_or said i no_said))
    → All P (take (i + 1) (map said_of said))
one_more P said i within so here =
    let same : get_or (map said_of said) i (0, first_entry) ≡ said_of (get_or said i no_said) = get_or-map said_of said i no_said (0, first_entry) within in
    All-more P (map said_of said) i (0, first_entry) (omega (arith, length-map said said_of)) so (subst P (sym same) here)

pub all_of_them : (P : Numbered Entry → Type 0) (said : List Said) (i : ℕ) → length said ≤ i → All P (take i (map said_of said)) → All P (map said_of said)
all_of_them P said i past so = subst (All P) (take_all i (map said_of said) (omega (arith, length-map said said_of))) so

pub said_in_order : (values : List Said) (i : ℕ) → i < length values → AreInCellOrder (map entry_said (take i (map said_of values))) → (get_or values i no_said).entry.cell.0 ≡ i
    → AreInCellOrder (map entry_said (take (i + 1) (map said_of values)))
said_in_order values i within order turn =
    let same : get_or (map said_of values) i (0, first_entry) ≡ said_of (get_or values i no_said) = get_or-map said_of values i no_said (0, first_entry) within in
    let cell : Numbered Entry → ℕ = λ e. e.1.cell.0 in
    in_order_more (map said_of values) i (0, first_entry) (omega (arith, length-map values said_of)) order (ap cell same ∙ turn)

pub said_astray : (values : List Said) (i : ℕ) → i < length values → AreInCellOrder (map entry_said (take i (map said_of values))) → (get_or values i no_said).entry.cell.0 ≢ i
    → IsFirstAstray (map said_of values) (said_of (get_or values i no_said))
said_astray values i within order other =
    let same : get_or (map said_of values) i (0, first_entry) ≡ said_of (get_or values i no_said) = get_or-map said_of values i no_said (0, first_entry) within in
    let cell : Numbered Entry → ℕ = λ e. e.1.cell.0 in
    subst (IsFirstAstray (map said_of values)) same
    (astray_at (map said_of values) i (0, first_entry) (omega (arith, length-map values said_of)) order (λ is. other (sym (ap cell same) ∙ is)))
