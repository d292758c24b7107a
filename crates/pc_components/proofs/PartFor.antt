-- The axioms of a part stand for its sheet on its cells; and all axioms for the whole sheet on all cells.
use Rattle.std.proofs.Common.{◌≡◌, ℕ, zero, suc, ◌+◌, ◌<◌, if◌then◌else◌, inl, inr, Bool, true, false, not, List, [], ◌∷◌, map, length, get_or, Contains, Option, None, Some, slice_get, refl, ap, sym, ◌∙◌, arith, zero-add, subst}
use Rattle.std.specs.List.{range_with_len}
use Rattle.std.proofs.lemmas.Bool.{or_cases, or_left, or_right, false≢true}
use Rattle.std.proofs.lemmas.List.{get_or-map}
use Rattle.std.proofs.lemmas.List.Elements.{All-contains, Contains-append_left}
use Rattle.std.proofs.lemmas.List.FromFn.{get_or-range_with_len, length-range_with_len}
use Rattle.std.proofs.lemmas.Option.{slice_get-get_or, slice_get_within}
use Rattle.pc_lits.specs.declared.literal.Lit.{Lit}
use Rattle.pc_lits.specs.declared.literal.Var.{Var}
use Rattle.pc_lits.specs.Truth.{lit_true, clause_true, IsTrueUnder}
use Rattle.pc_sheet.specs.Sheet.{Universe, Sheet}
use Rattle.pc_sheet.specs.Entailment.{cell_sizes, IsAssignment, Fits}
use Rattle.pc_sheet.specs.WellFormed.{IsWellFormed}
use Rattle.pc_sheet.specs.declared.ids.ValueId.{ValueId}
use Rattle.pc_accept.specs.Literals.{Symbol, Literal}
use Rattle.pc_parts.specs.Parts.{Part, IsDivision}
use Rattle.pc_parts.specs.PartSheets.{sheet_of}
use Rattle.pc_parts.specs.Components.{all_cells}
use Rattle.pc_parts.proofs.Divided.{own_fits as own_fits_too}
use Rattle.pc_lemmas.proofs.Elements.{contains_first, contains_later, contains_cases, contains_none, all_from}
use Rattle.pc_ground.specs.Variables.{pair_at, pairs_from, nodes_from, variables, variable_count, number}
use Rattle.pc_ground.specs.Ground.{GroundAxiom, axioms, lit_of, clause_of_axiom, clauses}
use Rattle.pc_ground.specs.Laws.{var_of, HasTruths, MeetsAll}
use Rattle.pc_ground.proofs.Made.{Makes}
use Rattle.pc_ground.proofs.Numbers.{numbered_up, counted_up}
use Rattle.pc_ground.proofs.Same.{same_assignments}
use Rattle.pc_ground.proofs.Symbols.{symbols_are_variables, pair_there}
use Rattle.pc_components.specs.PartAxioms.{IsAxiomOfPart, AreAxiomsOf}
use Rattle.pc_components.specs.Used.{MeetsUsed, HasValues}
use Rattle.pc_components.specs.Laws.{PartAxiomsAreForTheirParts, AxiomsAreForTheirSheet}
use Rattle.pc_components.proofs.PartMet.{own, own_assigned, own_values, own_fits}
use Rattle.pc_components.proofs.Assigned.{same_assignment}
use Rattle.pc_components.proofs.PartMade.{truth, pair_truth, made}

-- ---- clauses by number, and by symbol

has_sign : (s b : Bool) → (if s then b else not b) ≡ true → b ≡ s
has_sign true b e = e
has_sign false true e = absurd (false≢true e)
has_sign false false e = refl

of_sign : (s b : Bool) → b ≡ s → (if s then b else not b) ≡ true
of_sign true b e = e
of_sign false b e = ap not e

module _ (sheet : Sheet) (v : Var → Bool) where
  abbrev pub value : Symbol → Bool
  value x = v (var_of sheet x)

  makes_of : (c : List Literal) → clause_true v (map (lit_of sheet) c) ≡ true → Makes value c
  makes_of [] e = absurd (false≢true e)
  makes_of (l ∷ ls) e = elim (or_cases (lit_true v (lit_of sheet l)) (clause_true v (map (lit_of sheet) ls)) e) [
    | inl here ↦ (l, contains_first l ls, has_sign l.sign (value l.what) here)
    | inr later ↦ let rest = makes_of ls later in (rest.0, contains_later l ls rest.0 rest.1, rest.2)
  ]

  of_makes : (c : List Literal) → Makes value c → clause_true v (map (lit_of sheet) c) ≡ true
  of_makes [] h = absurd (contains_none h.0 h.1)
  of_makes (l ∷ ls) (m, there, is) = elim (contains_cases l ls m there) [
    | inl same ↦ or_left (lit_true v (lit_of sheet l)) (clause_true v (map (lit_of sheet) ls)) (of_sign l.sign (value l.what) (subst (λ k. value k.what ≡ k.sign) (sym same) is))
    | inr later ↦ or_right (lit_true v (lit_of sheet l)) (clause_true v (map (lit_of sheet) ls)) (of_makes ls (m, later, is))
  ]

-- ---- places

pub slice_contains : {X : Type 0} (xs : List X) (k : ℕ) (x : X) → slice_get xs k ≡ Some x → Contains xs x
slice_contains [] k x h = absurd (cc)
slice_contains {X = X} (y ∷ ys) zero x h = let f : Option X → X = elim [ None ↦ y | Some z ↦ z ] in subst (Contains (y ∷ ys)) (ap f h) (contains_first y ys)
slice_contains (y ∷ ys) (suc k) x h = contains_later y ys x (slice_contains ys k x h)

pub contains_slice : {X : Type 0} (xs : List X) (x : X) → Contains xs x → (k : ℕ) × (slice_get xs k ≡ Some x)
contains_slice xs x h = (h.0, slice_get-get_or xs h.0 x h.1 ∙ ap Some h.2)

pub slice_map : {X Y : Type 0} (f : X → Y) (xs : List X) (k : ℕ) (x : X) → slice_get xs k ≡ Some x → slice_get (map f xs) k ≡ Some (f x)
slice_map f [] k x h = absurd (cc)
slice_map {X = X} f (y ∷ ys) zero x h = let g : Option X → X = elim [ None ↦ y | Some z ↦ z ] in ap (λ z. Some (f z)) (ap g h)
slice_map f (y ∷ ys) (suc k) x h = slice_map f ys k x h

pub same_clause : {x y : List Lit} → Some x ≡ Some y → x ≡ y
same_clause {x} {y} e = let f : Option (List Lit) → List Lit = elim [ None ↦ x | Some z ↦ z ] in ap f e

-- ---- truth values of symbols as those of variables

module _ (sheet : Sheet) (truth' : Symbol → Bool) where
  at_place : Option Symbol → Bool
  at_place None = false
  at_place (Some x) = truth' x

  numbered_truth : Var → Bool
  numbered_truth x = at_place (slice_get (variables sheet) x.0)

  pub its_place : (x : Symbol) → Contains (variables sheet) x → slice_get (variables sheet) (number sheet x) ≡ Some x
  its_place x (k, below, is) =
      let xs = variables sheet in
      let count = counted_up sheet in
      let within : k < variable_count sheet = omega (arith, below, count) in
      let there : get_or (map (number sheet) xs) k 0 ≡ number sheet (get_or xs k x) = get_or-map (number sheet) xs k x 0 below in
      let place : get_or (range_with_len 0 (variable_count sheet)) k 0 ≡ 0 + k = get_or-range_with_len 0 (variable_count sheet) k 0 within in
      let same : number sheet x ≡ k = ap (number sheet) (sym is) ∙ sym there ∙ ap (λ ns. get_or ns k 0) (numbered_up sheet) ∙ place ∙ zero-add k in
      ap (slice_get xs) same ∙ slice_get-get_or xs k x below ∙ ap Some is

  numbered_is : (x : Symbol) → Contains (variables sheet) x → numbered_truth (var_of sheet x) ≡ truth' x
  unfolding at_place numbered_truth
  numbered_is x there = ap at_place (its_place x there)

pub pair_in : (sheet : Sheet) (c n w : ℕ) → slice_get (cell_sizes sheet.universe) c ≡ Some n → w < n → Contains (variables sheet) (pair_at c w)
pair_in sheet c n w is below =
    let xs = pairs_from 0 (cell_sizes sheet.universe) in
    Contains-append_left xs (nodes_from sheet.universe 0 sheet.rules) (pair_at c w) (subst (λ i. Contains xs (pair_at i w)) (zero-add c) (pair_there (cell_sizes sheet.universe) 0 c n w is below))

-- ---- a part

module _ (sheet : Sheet) (formed : IsWellFormed sheet) (all : List Part) (division : IsDivision sheet all) (part : Part) (there : Contains all part) (used : List ℕ) (of : AreAxiomsOf sheet part used) where
  met : (v : Var → Bool) → MeetsUsed (clauses sheet) used v → (g : GroundAxiom) → Contains (axioms sheet) g → IsAxiomOfPart part g.name → Makes (value sheet v) g.clause
  met v h g g_there o =
      let k = contains_slice (axioms sheet) g g_there in
      makes_of sheet v g.clause (h k.0 ((of.exact k.0).1 (g, k.1, o)) (clause_of_axiom sheet g) (slice_map (clause_of_axiom sheet) (axioms sheet) k.0 g k.1))

  part_fits : (v : Var → Bool) → MeetsUsed (clauses sheet) used v → (a : List ValueId) × IsAssignment sheet.universe a × Fits (sheet_of sheet part) a × HasValues (cell_sizes sheet.universe) part.cells v a
  part_fits v h =
      let m = met v h in (
        own sheet formed all division part there (value sheet v) m,
        own_assigned sheet formed all division part there (value sheet v) m,
        own_fits sheet formed all division part there (value sheet v) m,
        λ c c_there n w is below. own_values sheet formed all division part there (value sheet v) m c c_there n w is below,
      )

  part_meets : (a : List ValueId) → IsAssignment sheet.universe a → Fits (sheet_of sheet part) a → (v : Var → Bool) × MeetsUsed (clauses sheet) used v × HasValues (cell_sizes sheet.universe) part.cells v a
  part_meets a assigned fits =
      let t = truth sheet all division part there a assigned fits in
      let v = numbered_truth sheet t in (
        v,
        λ k k_used clause is.
            let g = (of.exact k).0 k_used in
            let g_there = slice_contains (axioms sheet) k g.0 g.1 in
            let made_there = made sheet all division part there a assigned fits g.0 g_there g.2 in
            let makes : Makes (value sheet v) g.0.clause = (made_there.0, made_there.1, numbered_is sheet t made_there.0.what (symbols_are_variables sheet g.0 g_there made_there.0 made_there.1) ∙ made_there.2) in
            let clause_is : clause_of_axiom sheet g.0 ≡ clause = same_clause (sym (slice_map (clause_of_axiom sheet) (axioms sheet) k g.0 g.1) ∙ is) in
            subst (IsTrueUnder v) clause_is (of_makes sheet v g.0.clause makes),
        λ c c_there n w is below.
            let same = numbered_is sheet t (pair_at c w) (pair_in sheet c n w is below) in
            let right = pair_truth sheet all division part there a assigned fits (record { 0 = c }) (record { 0 = w }) in
            (λ e. right.0 (sym same ∙ e), λ h. same ∙ right.1 h),
      )

pub part_axioms_are_for_their_parts : PartAxiomsAreForTheirParts
part_axioms_are_for_their_parts sheet formed all division part there used of = record {
  fits = part_fits sheet formed all division part there used of;
  meets = part_meets sheet formed all division part there used of;
  by_cells = λ a b assigned _ agree fits. own_fits_too sheet all division part there a b assigned agree fits;
}

-- ---- the whole sheet

every_number : (xs : List (List Lit)) (k : ℕ) (x : List Lit) → slice_get xs k ≡ Some x → Contains (range_with_len 0 (length xs)) k
every_number xs k x is = let below = slice_get_within xs k x is in (k, omega (arith, below, length-range_with_len 0 (length xs)), get_or-range_with_len 0 (length xs) k k below ∙ zero-add k)

every_cell : (u : Universe) (c : ℕ) → c < length (cell_sizes u) → Contains (all_cells u) c
every_cell u c low = (c, omega (arith, low, length-range_with_len 0 (length (cell_sizes u))), get_or-range_with_len 0 (length (cell_sizes u)) c c low ∙ zero-add c)

pub axioms_are_for_their_sheet : AxiomsAreForTheirSheet
axioms_are_for_their_sheet sheet formed =
    let same = same_assignments sheet formed in
    let sizes = cell_sizes sheet.universe in
    let cells = all_cells sheet.universe in
    let used = range_with_len 0 (length (clauses sheet)) in
    let agree : (a : List ValueId) (v : Var → Bool) → HasTruths sheet a v → HasValues sizes cells v a = λ a v truths c c_there n w is below. truths (pair_at c w) (pair_in sheet c n w is below) in
    record {
      fits = λ v h.
          let all : MeetsAll sheet v = all_from (IsTrueUnder v) (clauses sheet) (λ clause there. let k = contains_slice (clauses sheet) clause there in h k.0 (every_number (clauses sheet) k.0 clause k.1) clause k.1) in
          let found = same.fits v all in
          (found.0, found.1, found.2, agree found.0 v found.3);
      meets = λ a assigned fits.
          let t = same.truths a in
          let all = same.meets a assigned fits t.0 t.1 in
          (t.0, λ k k_used clause is. All-contains (IsTrueUnder t.0) (clauses sheet) clause all (slice_contains (clauses sheet) k clause is), agree a t.0 t.1);
      by_cells = λ a b at_a at_b agree fits. subst (Fits sheet) (same_assignment sizes a b at_a at_b (λ c low. sym (agree c (every_cell sheet.universe c low)))) fits;
    }
