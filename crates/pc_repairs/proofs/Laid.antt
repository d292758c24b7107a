-- Values that take those of other assignments at some cells.
use Rattle.std.proofs.Common.{◌≡◌, ◌≢◌, ℕ, zero, suc, ◌+◌, ◌<◌, inl, inr, List, [], ◌∷◌, ◌++◌, length, get_or, map, set, take, drop, All, Contains, Some, slice_get, arith, ap, refl, sym, ◌∙◌, subst}
use Rattle.pc_sheet.specs.Entailment.{AreWithin}
use Rattle.pc_sheet.specs.declared.ids.CellId.{CellId}
use Rattle.pc_sheet.specs.declared.ids.ValueId.{ValueId}
use Rattle.pc_world_list.specs.Choices.{cell_number}
use Rattle.pc_lemmas.proofs.Elements.{contains_first, contains_later, contains_cases, contains_none}
use Rattle.pc_parts.proofs.Joining.{among_contains, contains_among}
use Rattle.pc_parts.specs.PartSheets.{is_among}
use Rattle.std.proofs.lemmas.Bool.{cases_Bool, false≢true}
use Rattle.std.proofs.lemmas.List.{append_assoc, append-nil, drop_more, length-set, take_more}
use Rattle.std.proofs.lemmas.List.Elements.{All-append, All-map, All-nil}
use Rattle.pc_world_list.specs.Worlds.{WorldView}
use Rattle.pc_repairs.specs.inside.Joining.{all_laid, blank, joined_by, laid_by_world, laid_over}
use Rattle.pc_repairs.specs.declared.part_sets.PartSets.{PartSets}

set_within : (sizes : List ℕ) (v own : List ValueId) (c : ℕ) → AreWithin sizes v → AreWithin sizes own → AreWithin sizes (set v c (get_or own c blank))
set_within [] [] own c w z = tt
set_within [] (x ∷ xs) own c w z = absurd w
set_within (n ∷ ns) [] own c w z = absurd w
set_within (n ∷ ns) (x ∷ xs) [] c w z = absurd z
set_within (n ∷ ns) (x ∷ xs) (y ∷ ys) zero w z = (z.0, w.1)
set_within (n ∷ ns) (x ∷ xs) (y ∷ ys) (suc c) w z = (w.0, set_within ns xs ys c w.1 z.1)

pub within_length : (sizes : List ℕ) (v : List ValueId) → AreWithin sizes v → length v ≡ length sizes
within_length [] [] w = refl
within_length [] (x ∷ xs) w = absurd w
within_length (n ∷ ns) [] w = absurd w
within_length (n ∷ ns) (x ∷ xs) w = ap suc (within_length ns xs w.1)

pub laid_within : (sizes : List ℕ) (v : List ValueId) (cells : List CellId) (own : List ValueId) → AreWithin sizes v → AreWithin sizes own → AreWithin sizes (laid_over v cells own)
laid_within sizes v [] own w z = w
laid_within sizes v (c ∷ cs) own w z = laid_within sizes (set v c.0 (get_or own c.0 blank)) cs own (set_within sizes v own c.0 w z) z

at_set_same : (v : List ValueId) (c : ℕ) (x : ValueId) → c < length v → slice_get (set v c x) c ≡ Some x
at_set_same [] c x below = absurd (omega (arith, below))
at_set_same (y ∷ ys) zero x below = refl
at_set_same (y ∷ ys) (suc c) x below = at_set_same ys c x (omega (arith, below))

at_set_other : (v : List ValueId) (c j : ℕ) (x : ValueId) → j ≢ c → slice_get (set v c x) j ≡ slice_get v j
at_set_other [] c j x other = refl
at_set_other (y ∷ ys) zero zero x other = absurd (other refl)
at_set_other (y ∷ ys) zero (suc j) x other = refl
at_set_other (y ∷ ys) (suc c) zero x other = refl
at_set_other (y ∷ ys) (suc c) (suc j) x other = at_set_other ys c j x (λ is. other (ap suc is))

at_get : (own : List ValueId) (c : ℕ) → c < length own → slice_get own c ≡ Some (get_or own c blank)
at_get [] c below = absurd (omega (arith, below))
at_get (y ∷ ys) zero below = refl
at_get (y ∷ ys) (suc c) below = at_get ys c (omega (arith, below))

-- elsewhere they stay
pub laid_there : (v : List ValueId) (cells : List CellId) (own : List ValueId) (x : ℕ) → ¬ Contains (map cell_number cells) x → slice_get (laid_over v cells own) x ≡ slice_get v x
laid_there v [] own x off = refl
laid_there v (c ∷ cs) own x off =
    laid_there (set v c.0 (get_or own c.0 blank)) cs own x (λ h. off (contains_later c.0 (map cell_number cs) x h))
    ∙ at_set_other v c.0 x (get_or own c.0 blank) (λ (is : x ≡ c.0). off (subst (Contains (map cell_number (c ∷ cs))) (sym is) (contains_first c.0 (map cell_number cs))))

-- at these cells they are those of the other
pub laid_here : (sizes : List ℕ) (v : List ValueId) (cells : List CellId) (own : List ValueId) (x : ℕ) → AreWithin sizes v → AreWithin sizes own → x < length sizes → Contains (map cell_number cells) x → slice_get (laid_over v cells own) x ≡ slice_get own x
laid_here sizes v [] own x w z below on = absurd (contains_none x on)
laid_here sizes v (c ∷ cs) own x w z below on = elim (cases_Bool (is_among (map cell_number cs) x)) [
  | inl later ↦ laid_here sizes (set v c.0 (get_or own c.0 blank)) cs own x (set_within sizes v own c.0 w z) z below (among_contains (map cell_number cs) x later)
  | inr no_later ↦ elim (contains_cases c.0 (map cell_number cs) x on) [
    | inl is ↦
        laid_there (set v c.0 (get_or own c.0 blank)) cs own x (λ h. false≢true (sym no_later ∙ contains_among (map cell_number cs) x h))
        ∙ subst (λ n. slice_get (set v c.0 (get_or own c.0 blank)) n ≡ slice_get own n) is
        (at_set_same v c.0 (get_or own c.0 blank) (omega (arith, is, below, within_length sizes v w)) ∙ sym (at_get own c.0 (omega (arith, is, below, within_length sizes own z))))
    | inr later ↦ absurd (false≢true (sym no_later ∙ contains_among (map cell_number cs) x later))
  ]
]

-- ---- lengths

pub laid_length : (v : List ValueId) (cells : List CellId) (own : List ValueId) → length (laid_over v cells own) ≡ length v
laid_length v [] own = refl
laid_length v (c ∷ cs) own = laid_length (set v c.0 (get_or own c.0 blank)) cs own ∙ length-set v c.0 (get_or own c.0 blank)

module _ (n : ℕ) (all : List (List ValueId)) (cells : List CellId) (long : All (λ v. length v ≡ n) all) where
  long_laid : (own : List ValueId) → All (λ v. length v ≡ n) (all_laid all cells own)
  long_laid own = All-map (λ v. length v ≡ n) (λ v. laid_over v cells own) all (λ k d below. laid_length (get_or all k d) cells own ∙ long k d below)

  pub long_by_world : (ws : List WorldView) → All (λ v. length v ≡ n) (laid_by_world all cells ws)
  long_by_world [] = All-nil (λ v. length v ≡ n)
  long_by_world (w ∷ ws) = All-append (λ v. length v ≡ n) (all_laid all cells w.shown) (laid_by_world all cells ws) (long_laid w.shown) (long_by_world ws)

-- ---- world by world

module _ (all : List (List ValueId)) (cells : List CellId) where
  laid_last : (ws : List WorldView) (w : WorldView) → laid_by_world all cells ws ++ all_laid all cells w.shown ≡ laid_by_world all cells (ws ++ w ∷ [])
  laid_last [] w = sym (append-nil (all_laid all cells w.shown))
  laid_last (v ∷ ws) w = append_assoc (all_laid all cells v.shown) (laid_by_world all cells ws) (all_laid all cells w.shown) ∙ ap (λ vs. all_laid all cells v.shown ++ vs) (laid_last ws w)

  pub laid_more : (ws : List WorldView) (i : ℕ) (own : List ValueId) → i < length ws → own ≡ (get_or ws i (record { entries = []; shown = [] })).shown → laid_by_world all cells (take i ws) ++ all_laid all cells own ≡ laid_by_world all cells (take (i + 1) ws)
  laid_more ws i own below is =
      let none : WorldView = record { entries = []; shown = [] } in
      ap (λ vs. laid_by_world all cells (take i ws) ++ all_laid all cells vs) is ∙ (laid_last (take i ws) (get_or ws i none) ∙ ap (laid_by_world all cells) (sym (take_more ws i none below)))

-- one part more
pub joined_one : (fitting : List ValueId) (parts : List PartSets) (k : ℕ) (r : PartSets) (all : List (List ValueId)) → k < length parts → r ≡ get_or parts k r → all ≡ joined_by fitting (drop (k + 1) parts)
    → laid_by_world all r.cells.now r.sets.now ≡ joined_by fitting (drop k parts)
joined_one fitting parts k r all below is joined =
    ap (λ vs. laid_by_world vs r.cells.now r.sets.now) joined ∙ sym (ap (joined_by fitting) (drop_more parts k r below ∙ ap (λ q. q ∷ drop (k + 1) parts) (sym is)))
