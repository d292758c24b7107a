-- Sets that are handed on in their order.
use Rattle.std.proofs.Common.{◌≡◌, ℕ, ◌≤◌, List, [], ◌∷◌, length, map, take, AllPairs, ap, refl, sym, ◌∙◌, subst}
use Rattle.std.proofs.lemmas.List.{take_all}
use Rattle.pc_sheet.specs.declared.ids.Entry.{Entry}
use Rattle.pc_world_list.specs.Worlds.{WorldView, set_of}
use Rattle.pc_repairs.specs.Listed.{ComesFirst}
use Rattle.pc_repairs.specs.Listings.{aged_set}
use Rattle.pc_repairs.specs.inside.Ages.{world_of}
use Rattle.pc_repairs.specs.declared.ordering.Aged.{Aged}

pub sets_of_aged : (aged : List Aged) → map set_of (map world_of aged) ≡ map aged_set aged
sets_of_aged [] = refl
sets_of_aged (a ∷ later) = ap (λ ss. aged_set a ∷ ss) (sets_of_aged later)

pub all_sorted : (items lent : List Aged) (i : ℕ) (sorted : List WorldView) → length lent ≤ i → lent ≡ items → sorted ≡ map world_of (take i lent) → sorted ≡ map world_of items
all_sorted items lent i sorted past same is = is ∙ (ap (map world_of) (take_all i lent past) ∙ ap (λ (xs : List Aged). map world_of xs) same)

pub in_order_sorted : (entries : List Entry) (items : List Aged) (sorted : List WorldView) → sorted ≡ map world_of items → AllPairs (ComesFirst entries) (map aged_set items) → AllPairs (ComesFirst entries) (map set_of sorted)
in_order_sorted entries items sorted is order = subst (λ ss. AllPairs (ComesFirst entries) ss) (sym (ap (map set_of) is ∙ sets_of_aged items)) order
