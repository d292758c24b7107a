-- Cells and values that names in a line stand for are of the universe.
use Rattle.std.proofs.Common.{◌≡◌, ℕ, zero, suc, ◌<◌, List, [], ◌∷◌, length, map, Option, None, Some, slice_get, IsSomeAnd, All, arith, sym, ◌∙◌, ap, subst}
use Rattle.std.specs.List.{AllByRecursion}
use Rattle.pc_formula.specs.Tree as tree
use Rattle.pc_formula.specs.Tree.{name_value, integer_value}
use Rattle.pc_sheet.specs.Sheet.{Universe, Family, Values, listed, range}
use Rattle.pc_sheet.specs.Sizes.{values_at, count_of, size_of, result_sort_of}
use Rattle.pc_sheet.specs.Entailment.{AreWithin, cell_sizes}
use Rattle.pc_sheet.specs.Cells.{Application, IsApplication, size_of_cell, cells, CellsAreNumberedInOrder}
use Rattle.pc_sheet.specs.WellFormed.{IsEntryOf}
use Rattle.pc_sheet.specs.declared.ids.SortId.{SortId}
use Rattle.pc_sheet.specs.declared.ids.CellId.{CellId}
use Rattle.pc_sheet.specs.declared.ids.FamilyId.{FamilyId}
use Rattle.pc_sheet.specs.declared.ids.ValueId.{ValueId}
use Rattle.pc_sheet.specs.declared.ids.Entry.{Entry}
use Rattle.pc_elaborate.specs.Elaboration.{StandsForValue, IsValueAmong, AreValuesOf, TakesArguments, IsCell, IsCellNamed}
use Rattle.pc_cert.specs.Claims.{WrittenPair, IsPairNamed}
use Rattle.pc_cert.specs.Meaning.{AreNamedEach}

-- ---- what a list has at a place

get_below : {X : Type 0} (xs : List X) (k : ℕ) (x : X) → slice_get xs k ≡ Some x → k < length xs
get_below [] k x h = absurd (cc)
get_below (y ∷ ys) zero x h = omega arith
get_below (y ∷ ys) (suc k) x h = let r = get_below ys k x h in omega (arith, r)

get_map : {X Y : Type 0} (f : X → Y) (xs : List X) (k : ℕ) (x : X) → slice_get xs k ≡ Some x → slice_get (map f xs) k ≡ Some (f x)
get_map f [] k x h = absurd (cc)
get_map f (y ∷ ys) zero x h = let same : y ≡ x = cc in ap (λ z. Some (f z)) same
get_map f (y ∷ ys) (suc k) x h = get_map f ys k x h

-- each element of a list, by its place
pub each_at : {X : Type 0} (P : X → Type 0) (xs : List X) → AllByRecursion P xs → All P xs
each_at P [] all k d inside = absurd (omega (arith, inside))
each_at P (x ∷ xs) all zero d inside = all.0
each_at P (x ∷ xs) all (suc k) d inside = each_at P xs all.1 k d (omega (arith, inside))

-- what each image has, each element has as its image
pub each_image : {X Y : Type 0} (f : X → Y) (P : Y → Type 0) (xs : List X) → AllByRecursion P (map f xs) → AllByRecursion (λ x. P (f x)) xs
each_image f P [] all = tt
each_image f P (x ∷ xs) all = (all.0, each_image f P xs all.1)

-- ---- values and cells

module _ (u : Universe) where
  value_below : (s : SortId) (x : tree.Value) (v : ValueId) → StandsForValue u s x v → v.0 < size_of u s
  value_below s x v h = among (values_at u s) x h
    where
      among : (vs : Values) (x : tree.Value) → IsValueAmong vs x v → v.0 < count_of vs
      among (listed ns) (name_value n) h = get_below ns v.0 n h
      among (listed ns) (integer_value z) h = absurd h
      among (range low high) (name_value n) h = absurd h
      among (range low high) (integer_value z) h = h.1

  values_within : (ss : List SortId) (xs : List tree.Value) (vs : List ValueId) → AreValuesOf u ss xs vs → AreWithin (map (size_of u) ss) vs
  values_within [] [] [] h = tt
  values_within [] [] (v ∷ vs) h = h
  values_within [] (x ∷ xs) vs h = absurd h
  values_within (s ∷ ss) [] vs h = absurd h
  values_within (s ∷ ss) (x ∷ xs) [] h = h
  values_within (s ∷ ss) (x ∷ xs) (v ∷ vs) h = (value_below s x v h.0, values_within ss xs vs h.1)

  applied : (f : FamilyId) (ss : List SortId) (xs : List tree.Value) (vs : List ValueId) → TakesArguments u f ss → AreValuesOf u ss xs vs → IsApplication u (record { family = f; arguments = vs })
  applied f ss xs vs takes given = by (slice_get u.families f.0) takes
    where
      by : (o : Option Family) → IsSomeAnd o (λ d. d.sorts ≡ ss) → IsSomeAnd o (λ d. AreWithin (map (size_of u) d.sorts) vs)
      by None h = h
      by (Some d) h = subst (λ ts. AreWithin (map (size_of u) ts) vs) (sym h) (values_within ss xs vs given)

  result_is : (o : Option Family) (s : SortId) → IsSomeAnd o (λ d. d.result_sort ≡ s) → result_sort_of o ≡ s
  result_is None s h = absurd h
  result_is (Some d) s h = h

  module _ (ordered : CellsAreNumberedInOrder) where
    -- the cell has as many values as its sort
    cell_size : (w : tree.Cell) (c : CellId) (s : SortId) → IsCell u w c s → slice_get (cell_sizes u) c.0 ≡ Some (size_of u s)
    cell_size w c s h =
        let a : Application = record { family = h.family; arguments = h.arguments } in
        let stands = ap (slice_get (cells u)) h.number ∙ (ordered u).stands a (applied h.family h.sorts w.args h.arguments h.takes h.given) in
        let size = get_map (size_of_cell u) (cells u) c.0 a stands in
        subst (λ sizes. slice_get sizes c.0 ≡ Some (size_of u s)) (ordered u).sizes (size ∙ ap (λ t. Some (size_of u t)) (result_is (slice_get u.families h.family.0) s h.gives))

    pub cell_below : (w : tree.Cell) (c : CellId) → IsCellNamed u w c → c.0 < length (cell_sizes u)
    cell_below w c h = get_below (cell_sizes u) c.0 _ (cell_size w c h.0 h.1)

    -- a value of the cell's sort makes an entry
    pub is_an_entry : (w : tree.Cell) (x : tree.Value) (s : SortId) (e : Entry) → IsCell u w e.cell s → StandsForValue u s x e.value → IsEntryOf u e
    is_an_entry w x s e cell value = subst (λ o. IsSomeAnd o (λ n. e.value.0 < n)) (sym (cell_size w e.cell s cell)) (value_below s x e.value value)

    pub entry_named : (p : WrittenPair) (e : Entry) → IsPairNamed u p e → IsEntryOf u e
    entry_named p e h = is_an_entry p.cell p.value h.sort e h.cell h.value

    pub entries_named : (ps : List WrittenPair) (es : List Entry) → AreNamedEach (IsPairNamed u) ps es → AllByRecursion (IsEntryOf u) es
    entries_named [] [] h = tt
    entries_named [] (e ∷ es) h = absurd h
    entries_named (p ∷ ps) [] h = tt
    entries_named (p ∷ ps) (e ∷ es) h = (entry_named p e h.0, entries_named ps es h.1)
