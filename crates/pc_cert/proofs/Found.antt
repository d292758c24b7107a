-- What is found, from what is told of the cell and of its values.
use Rattle.std.proofs.Common.{◌≡◌, ◌↔◌, Option, Some, None, Result, Ok, Err, sym, ◌∙◌, ap, subst}
use Rattle.pc_formula.specs.Tree.{Cell, Value}
use Rattle.pc_sheet.specs.Sheet.{Universe}
use Rattle.pc_sheet.specs.declared.ids.SortId.{SortId}
use Rattle.pc_sheet.specs.declared.ids.CellId.{CellId}
use Rattle.pc_sheet.specs.declared.ids.ValueId.{ValueId}
use Rattle.pc_sheet.specs.declared.ids.Entry.{Entry}
use Rattle.pc_elaborate.specs.declared.fault.SortFault.{SortFault}
use Rattle.pc_elaborate.specs.Elaboration.{IsCell, StandsForValue, IsCellNamed}
use Rattle.pc_elaborate.specs.FormulaFaults.{IsCellFault, IsValueFault}
use Rattle.pc_elaborate.specs.Outcome.{IsFoundOrFault, TellsFound, sort_of_cell}
use Rattle.pc_cert.specs.Meaning.{AreValuesNamed}
use Rattle.pc_cert.specs.Claims.{IsPairNamed}

no_error : {A E : Type 0} (r : Result A E) (a : A) (e : E) → r ≡ Ok a → r ≡ Err e → ⊥
no_error r a e p q = cc

same_ok : {A E : Type 0} (r : Result A E) (a b : A) → r ≡ Ok a → r ≡ Ok b → a ≡ b
same_ok r a b p q = cc

same_some : {A : Type 0} (a b : A) → Some a ≡ Some b → a ≡ b
same_some a b e = cc

same_entry : (id : CellId) (x : ValueId) (o : Entry) → id ≡ o.cell → x ≡ o.value → record { cell = id; value = x } ≡ o
same_entry id x o a b =
    let first : record { cell = id; value = x } ≡ record { cell = o.cell; value = x } = ap (λ (i : CellId). record { cell = i; value = x }) a in
    let second : record { cell = o.cell; value = x } ≡ record { cell = o.cell; value = o.value } = ap (λ (y : ValueId). record { cell = o.cell; value = y }) b in
    first ∙ second

abbrev pub triple : CellId → ValueId → ValueId → CellId × ValueId × ValueId
triple i x y = (i, x, y)

same_three : (id o : CellId) (x a y b : ValueId) → id ≡ o → x ≡ a → y ≡ b → triple id x y ≡ triple o a b
same_three id o x a y b k l m = ap (λ i. triple i x y) k ∙ ap (λ z. triple o z y) l ∙ ap (λ z. triple o a z) m

-- what is not found stands for nothing
pub none_is : {A : Type 0} (P : A → Type 0) → ((x : A) → P x → ⊥) → (x : A) → (None ≡ Some x) ↔ P x
none_is P never x = (λ e. absurd (cc), λ p. absurd (never x p))

-- the same of what three things stand for
pub none_are : {A B C : Type 0} (P : A → B → C → Type 0) → ((x : A) (y : B) (z : C) → P x y z → ⊥) → (x : A) (y : B) (z : C) → (◌≡◌ {A = Option (A × B × C)} None (Some (x, y, z))) ↔ P x y z
none_are P never x y z = (λ e. absurd (cc), λ p. absurd (never x y z p))

module _ (u : Universe) where
  abbrev pub TellsCell : Cell → Result CellId SortFault → Type 0
  TellsCell c r = TellsFound (λ id. IsCell u c id (sort_of_cell u id)) (IsCellFault u c) r

  abbrev pub TellsValue : CellId → Value → Result ValueId SortFault → Type 0
  TellsValue id v r = TellsFound (StandsForValue u (sort_of_cell u id) v) (IsValueFault u (sort_of_cell u id) v) r

  abbrev pub HasSort : Cell → Type 0
  HasSort c = (id : CellId) (s : SortId) → IsCell u c id s → s ≡ sort_of_cell u id

  at_sort : (c : Cell) → HasSort c → (id : CellId) (s : SortId) → IsCell u c id s → IsCell u c id (sort_of_cell u id)
  at_sort c sorts id s is = subst (λ t. IsCell u c id t) (sorts id s is) is

  told : {A : Type 0} (P : A → Type 0) (F : SortFault → Type 0) (r : Result A SortFault) (x : A) → r ≡ Ok x → IsFoundOrFault P F r → P x
  told P F r x e is = subst (λ q. IsFoundOrFault P F q) e is

  pub cell_never : (c : Cell) (r : Result CellId SortFault) (e : SortFault) → TellsCell c r → HasSort c → r ≡ Err e → (id : CellId) (s : SortId) → IsCell u c id s → ⊥
  cell_never c r e tells sorts fails id s is = no_error r id e (tells.only id (at_sort c sorts id s is)) fails

  pub cell_is : (c : Cell) (r : Result CellId SortFault) (id : CellId) → TellsCell c r → HasSort c → r ≡ Ok id → (other : CellId) → (Some id ≡ Some other) ↔ IsCellNamed u c other
  cell_is c r id tells sorts found other = (
    λ e. subst (λ o. IsCellNamed u c o) (same_some id other e) (sort_of_cell u id, told _ (IsCellFault u c) r id found tells.told),
    λ is. ap Some (same_ok r id other found (tells.only other (at_sort c sorts other is.0 is.1))),
  )

  module _ (c : Cell) (r : Result CellId SortFault) (id : CellId) (tells : TellsCell c r) (sorts : HasSort c) (found : r ≡ Ok id) where
    the_cell : (other : CellId) (s : SortId) → IsCell u c other s → id ≡ other
    the_cell other s is = same_ok r id other found (tells.only other (at_sort c sorts other s is))

    -- a value of the cell's sort, as one of the sort of the cell that was found
    of_found : (v : Value) (other : CellId) (s : SortId) (x : ValueId) → IsCell u c other s → StandsForValue u s v x → StandsForValue u (sort_of_cell u id) v x
    of_found v other s x is value = subst (λ o. StandsForValue u (sort_of_cell u o) v x) (sym (the_cell other s is)) (subst (λ t. StandsForValue u t v x) (sorts other s is) value)

    pub value_never : (v : Value) (q : Result ValueId SortFault) (e : SortFault) → TellsValue id v q → q ≡ Err e → (other : CellId) (s : SortId) (x : ValueId) → IsCell u c other s → StandsForValue u s v x → ⊥
    value_never v q e tells_value fails other s x is value = no_error q x e (tells_value.only x (of_found v other s x is value)) fails

    pub entry_is : (v : Value) (q : Result ValueId SortFault) (x : ValueId) → TellsValue id v q → q ≡ Ok x → (e : Entry) → (◌≡◌ {A = Option Entry} (Some (record { cell = id; value = x })) (Some e)) ↔ IsPairNamed u (record { cell = c; value = v }) e
    entry_is v q x tells_value known e = (
      λ same. subst (λ o. IsPairNamed u (record { cell = c; value = v }) o) (same_some _ e same)
          (record { sort = sort_of_cell u id; cell = told _ (IsCellFault u c) r id found tells.told; value = told _ (IsValueFault u (sort_of_cell u id) v) q x known tells_value.told }),
      λ is. ap Some (same_entry id x e (the_cell e.cell is.sort is.cell) (same_ok q x e.value known (tells_value.only e.value (of_found v e.cell is.sort e.value is.cell is.value)))),
    )

    pub values_are : (v w : Value) (q p : Result ValueId SortFault) (x y : ValueId) → TellsValue id v q → q ≡ Ok x → TellsValue id w p → p ≡ Ok y → (o : CellId) (a b : ValueId) → (Some (triple id x y) ≡ Some (triple o a b)) ↔ AreValuesNamed u c v w o a b
    values_are v w q p x y tells_v known_v tells_w known_w o a b = (
      λ same. three (same_some (triple id x y) (triple o a b) same),
      λ is. ap Some (same_three id o x a y b (the_cell o is.sort is.cell)
          (same_ok q x a known_v (tells_v.only a (of_found v o is.sort a is.cell is.first_value)))
          (same_ok p y b known_w (tells_w.only b (of_found w o is.sort b is.cell is.second_value)))),
    )
      where
        here : AreValuesNamed u c v w id x y
        here = record { sort = sort_of_cell u id; cell = told _ (IsCellFault u c) r id found tells.told; first_value = told _ (IsValueFault u (sort_of_cell u id) v) q x known_v tells_v.told; second_value = told _ (IsValueFault u (sort_of_cell u id) w) p y known_w tells_w.told }

        three : triple id x y ≡ triple o a b → AreValuesNamed u c v w o a b
        three e = subst (λ t. AreValuesNamed u c v w t.0 t.1 t.2) e here
