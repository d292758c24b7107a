-- Values of an assignment, and clauses by their numbers.
use Rattle.std.proofs.Common.{◌≡◌, ◌↔◌, ℕ, zero, suc, ◌<◌, Bool, true, List, [], ◌∷◌, map, length, get_or, All, Some, slice_get, slice_index_or, Contains, arith, ap, refl, sym, ◌∙◌, subst}
use Rattle.std.proofs.lemmas.List.{same_lists}
use Rattle.std.proofs.lemmas.List.Elements.{All-contains}
use Rattle.std.proofs.lemmas.Option.{slice_get-get_or, get_or_from_slice_get, same_Some}
use Rattle.pc_lits.specs.declared.literal.Var.{Var}
use Rattle.pc_lits.specs.declared.literal.Lit.{Lit}
use Rattle.pc_lits.specs.Truth.{IsTrueUnder}
use Rattle.pc_lemmas.proofs.Elements.{contains_map, contains_mapped}
use Rattle.pc_sheet.specs.Entailment.{AreWithin}
use Rattle.pc_sheet.specs.declared.ids.CellId.{CellId}
use Rattle.pc_sheet.specs.declared.ids.ValueId.{ValueId}
use Rattle.pc_components.specs.Pairs.{IsValueOfCell, pair_var}
use Rattle.pc_components.specs.Used.{MeetsUsed, HasValues}
use Rattle.pc_components.specs.View.{number_of}

pub within_length : (ns : List ℕ) (vs : List ValueId) → AreWithin ns vs → length vs ≡ length ns
within_length [] [] h = refl
within_length [] (v ∷ vs) h = absurd h
within_length (n ∷ ns) [] h = absurd h
within_length (n ∷ ns) (v ∷ vs) h = omega (arith, within_length ns vs h.1)

-- each cell has a value, one of its own
pub value_of : (ns : List ℕ) (vs : List ValueId) → AreWithin ns vs → (c : ℕ) → c < length ns → (x : ValueId) × (x.0 < slice_index_or ns c 0) × (slice_get vs c ≡ Some x)
value_of [] vs h c l = absurd (omega (arith, l))
value_of (n ∷ ns) [] h c l = absurd h
value_of (n ∷ ns) (v ∷ vs) h zero l = (v, h.0, refl)
value_of (n ∷ ns) (v ∷ vs) h (suc c) l = value_of ns vs h.1 c (omega arith)

pub same_assignment : (sizes : List ℕ) (a b : List ValueId) → AreWithin sizes a → AreWithin sizes b → ((c : ℕ) → c < length sizes → slice_get b c ≡ slice_get a c) → a ≡ b
same_assignment sizes a b wa wb same =
    let la = within_length sizes a wa in
    let lb = within_length sizes b wb in
    same_lists a b (la ∙ sym lb)
    (λ k d l. same_Some (get_or a k d) (get_or b k d) (sym (slice_get-get_or a k d l) ∙ sym (same k (omega arith)) ∙ slice_get-get_or b k d (omega arith)))

-- ---- values at cells, by their ids

-- the cell has the value whose pair is true
pub has_value : (sizes : List ℕ) (cells : List CellId) (v : Var → Bool) (a : List ValueId) → HasValues sizes (map number_of cells) v a
    → (c : CellId) (x : ValueId) → Contains cells c → IsValueOfCell sizes c x → (v (pair_var sizes c x) ≡ true) ↔ (slice_get a c.0 ≡ Some x)
has_value sizes cells v a h c x there below =
    let low : c.0 < length sizes = in_range sizes c.0 x.0 below in
    h c.0 (contains_map number_of cells c there) (slice_index_or sizes c.0 0) x.0 (slice_get-get_or sizes c.0 0 low) below
  where
    in_range : (ns : List ℕ) (k x : ℕ) → x < slice_index_or ns k 0 → k < length ns
    in_range [] k x l = absurd (omega (arith, l))
    in_range (n ∷ ns) zero x l = omega arith
    in_range (n ∷ ns) (suc k) x l = omega (arith, in_range ns k x l)

pub has_values : (sizes : List ℕ) (cells : List CellId) (v : Var → Bool) (a : List ValueId)
    → ((c : CellId) (x : ValueId) → Contains cells c → IsValueOfCell sizes c x → (v (pair_var sizes c x) ≡ true) ↔ (slice_get a c.0 ≡ Some x)) → HasValues sizes (map number_of cells) v a
has_values sizes cells v a h c there n w at below =
    let o = contains_mapped number_of cells c there in
    let make = λ (k : ℕ). let d : CellId = record { 0 = k } in d in
    let d : CellId = record { 0 = c } in
    let value : ValueId = record { 0 = w } in
    let same : o.0 ≡ d = ap make o.2 in
    h d value (subst (Contains cells) same o.1) (subst (λ m. w < m) (sym (get_or_from_slice_get sizes c n 0 at)) below)

-- what is read as two assignments gives them the same values
pub same_read : (sizes : List ℕ) (cells : List CellId) (v : Var → Bool) (a b : List ValueId) → AreWithin sizes a → HasValues sizes (map number_of cells) v a → HasValues sizes (map number_of cells) v b
    → (c : CellId) → c.0 < length sizes → Contains cells c → slice_get b c.0 ≡ slice_get a c.0
same_read sizes cells v a b within at_a at_b c below there =
    let x = value_of sizes a within c.0 below in
    (has_value sizes cells v b at_b c x.0 there x.1).0 ((has_value sizes cells v a at_a c x.0 there x.1).1 x.2) ∙ sym x.2

-- ---- clauses by their numbers

abbrev at_number : List (List Lit) → ℕ → List Lit
at_number store n = slice_index_or store n []

module _ (store : List (List Lit)) (used : List ℕ) (v : Var → Bool) where
  pub used_are_met : All (λ n. n < length store) used → MeetsUsed store used v → (c : List Lit) → Contains (map (λ n. slice_index_or store n []) used) c → IsTrueUnder v c
  used_are_met within h c there =
      let k = contains_mapped (at_number store) used c there in
      let low = All-contains (λ n. n < length store) used k.0 within k.1 in
      subst (IsTrueUnder v) k.2 (h k.0 k.1 (at_number store k.0) (slice_get-get_or store k.0 [] low))

  pub met_are_used : ((c : List Lit) → Contains (map (λ n. slice_index_or store n []) used) c → IsTrueUnder v c) → MeetsUsed store used v
  met_are_used h k there clause at = subst (IsTrueUnder v) (get_or_from_slice_get store k clause [] at) (h (at_number store k) (contains_map (at_number store) used k there))
