-- Values read from a solver.
use Rattle.std.proofs.Common.{◌≡◌, ◌≢◌, ◌↔◌, ◌⊎◌, inl, inr, ℕ, zero, suc, ◌<◌, Bool, true, false, List, [], ◌∷◌, length, get_or, set, Some, slice_get, slice_index_or, Contains, arith, ap, map, refl, sym, ◌∙◌, subst}
use Rattle.std.proofs.lemmas.Bool.{cases_lt, cases_eq, false≢true}
use Rattle.std.proofs.lemmas.List.{length-set, get_or-set_same, get_or-set_other}
use Rattle.std.proofs.lemmas.Option.{slice_get-get_or, slice_get_past, get_or_from_slice_get}
use Rattle.pc_lemmas.proofs.Elements.{contains_map, contains_mapped}
use Rattle.pc_ground.specs.Variables.{pair_number}
use Rattle.pc_lits.specs.declared.literal.Var.{Var}
use Rattle.pc_sheet.specs.Entailment.{AreWithin}
use Rattle.pc_sheet.specs.declared.ids.CellId.{CellId}
use Rattle.pc_sheet.specs.declared.ids.ValueId.{ValueId}
use Rattle.pc_components.specs.Pairs.{size_at, pair_var}
use Rattle.pc_components.specs.Used.{HasValues}
use Rattle.pc_components.specs.View.{number_of}
use Rattle.pc_parts.specs.Laws.{AgreeAt}
use Rattle.pc_theory.proofs.Lists.{place_of}

pub within_length : (ns : List ℕ) (vs : List ValueId) → AreWithin ns vs → length vs ≡ length ns
within_length [] [] h = refl
within_length [] (v ∷ vs) h = absurd h
within_length (n ∷ ns) [] h = absurd h
within_length (n ∷ ns) (v ∷ vs) h = omega (arith, within_length ns vs h.1)

pub within_set : (ns : List ℕ) (vs : List ValueId) (c : ℕ) (x : ValueId) → AreWithin ns vs → x.0 < slice_index_or ns c 0 → AreWithin ns (set vs c x)
within_set [] [] c x h l = tt
within_set [] (v ∷ vs) c x h l = absurd h
within_set (n ∷ ns) [] c x h l = absurd h
within_set (n ∷ ns) (v ∷ vs) zero x h l = (l, h.1)
within_set (n ∷ ns) (v ∷ vs) (suc c) x h l = (h.0, within_set ns vs c x h.1 l)

got_same : (vs : List ValueId) (c : ℕ) (x : ValueId) → c < length vs → slice_get (set vs c x) c ≡ Some x
got_same vs c x l = slice_get-get_or (set vs c x) c x (omega (arith, l, length-set vs c x)) ∙ ap Some (get_or-set_same vs c x x l)

pub got_other : (vs : List ValueId) (c k : ℕ) (x : ValueId) → k ≢ c → slice_get (set vs c x) k ≡ slice_get vs k
got_other vs c k x other = elim (cases_lt k (length vs)) [
  | inl l ↦ slice_get-get_or (set vs c x) k x (omega (arith, l, length-set vs c x)) ∙ ap Some (get_or-set_other vs c k x x other) ∙ sym (slice_get-get_or vs k x l)
  | inr m ↦ slice_get_past (set vs c x) k (omega (arith, m, length-set vs c x)) ∙ sym (slice_get_past vs k m)
]

value_there : (ns : List ℕ) (vs : List ValueId) → AreWithin ns vs → (c : ℕ) → c < length ns → (v : ValueId) × (slice_get vs c ≡ Some v) × (v.0 < slice_index_or ns c 0)
value_there [] vs h c below = absurd (omega (arith, below))
value_there (n ∷ ns) [] h c below = absurd h
value_there (n ∷ ns) (v ∷ vs) h zero below = (v, refl, h.0)
value_there (n ∷ ns) (v ∷ vs) h (suc c) below = value_there ns vs h.1 c (omega (arith, below))

size_there : (ns : List ℕ) (c w : ℕ) → w < slice_index_or ns c 0 → (n : ℕ) × (slice_get ns c ≡ Some n) × (w < n)
size_there [] c w below = absurd (omega (arith, below))
size_there (n ∷ ns) zero w below = (n, refl, below)
size_there (n ∷ ns) (suc c) w below = size_there ns c w below

module _ (sizes : List ℕ) (cells : List CellId) (v : Var → Bool) (a : List ValueId) (within : AreWithin sizes a) (reads : HasValues sizes (map number_of cells) v a) where
  has_value : (c : CellId) (x : ValueId) → Contains cells c → x.0 < size_at sizes c → (v (pair_var sizes c x) ≡ true) ↔ (slice_get a c.0 ≡ Some x)
  has_value c x there below = let n = size_there sizes c.0 x.0 below in reads c.0 (contains_map number_of cells c there) n.0 x.0 n.1 n.2

  -- the cell gets its value of a
  pub read_some : (shown : List ValueId) (c : CellId) (x : ValueId) → Contains cells c → x.0 < size_at sizes c → v (pair_var sizes c x) ≡ true → c.0 < length shown
      → (k : ℕ) → (slice_get shown k ≡ slice_get a k) ⊎ (k ≡ c.0) → slice_get (set shown c.0 x) k ≡ slice_get a k
  read_some shown c x there below is_true low k was =
      let here : slice_get (set shown c.0 x) c.0 ≡ slice_get a c.0 = got_same shown c.0 x low ∙ sym ((has_value c x there below).0 is_true) in
      elim (cases_eq k c.0) [
        | inl is ↦ subst (λ n. slice_get (set shown c.0 x) n ≡ slice_get a n) (sym is) here
        | inr other ↦ got_other shown c.0 k x other ∙ (elim was [ inl same ↦ same | inr is ↦ absurd (other is) ])
      ]

  -- it has one
  pub read_none : (c : CellId) → Contains cells c → c.0 < length sizes → ((x : ValueId) → x.0 < size_at sizes c → v (pair_var sizes c x) ≡ false) → ⊥
  read_none c there low none = let x = value_there sizes a within c.0 low in false≢true (sym (none x.0 x.2) ∙ (has_value c x.0 there x.2).1 x.1)

  -- then it has the values of a on all of the cells
  pub reads_all : (b : List ValueId) → ((k : ℕ) (d : CellId) → k < length cells → slice_get b (get_or cells k d).0 ≡ slice_get a (get_or cells k d).0) → AgreeAt (Contains (map number_of cells)) a b
  reads_all b same n on =
      let c = contains_mapped number_of cells n on in
      let p = place_of cells c.0 c.1 in
      let at : slice_get b c.0.0 ≡ slice_get a c.0.0 = subst (λ (d : CellId). slice_get b d.0 ≡ slice_get a d.0) (get_or_from_slice_get cells p.0 c.0 c.0 p.1) (same p.0 c.0 p.2) in
      subst (λ k. slice_get a k ≡ slice_get b k) c.2 (sym at)

-- what is off the cells stays
pub off_cells : (cells : List CellId) (c : CellId) (x : ValueId) (before now : List ValueId) → Contains cells c → AgreeAt (λ k. ¬ Contains (map number_of cells) k) before now
    → AgreeAt (λ k. ¬ Contains (map number_of cells) k) before (set now c.0 x)
off_cells cells c x before now there same k off =
    same k off ∙ sym (got_other now c.0 k x (λ is. off (subst (Contains (map number_of cells)) (sym is) (contains_map number_of cells c there))))

-- ---- sizes and variables

pub size_is : (sizes others : List ℕ) (c : CellId) (n : ℕ) → sizes ≡ others → slice_get others c.0 ≡ Some n → size_at sizes c ≡ n
size_is sizes others c n same at = ap (λ ns. slice_index_or ns c.0 0) same ∙ get_or_from_slice_get others c.0 n 0 at

pub var_is : (sizes : List ℕ) (c : CellId) (x : ValueId) (v : Var) → v.0 ≡ pair_number sizes c.0 x.0 → v ≡ pair_var sizes c x
var_is sizes c x v is = let make = λ (n : ℕ). let w : Var = record { 0 = n } in w in ap make is
