use Rattle.std.proofs.Common.{◌≡◌, ℕ, ◌+◌, ◌≤◌, [], ◌∷◌, List, Some, length, map, take, slice_get, arith, ap, sym, ◌∙◌, subst}
use Rattle.std.specs.List.{AllZip}
use Rattle.std.proofs.lemmas.List.{map-append, take_all}
use Rattle.std.proofs.lemmas.Option.{slice_get-get_or}
use Rattle.pc_sheet.specs.Sheet.{Sheet}
use Rattle.pc_parts.specs.Parts.{Part}
use Rattle.pc_theory.proofs.Lists.{zip_length}
use Rattle.pc_world_list.specs.Choices.{IsChosen}
use Rattle.pc_world_list.specs.Chosen.{chosen_parts}
use Rattle.pc_repairs.specs.Listed.{IsListedPart}
use Rattle.pc_repairs.specs.Listings.{part_listed}
use Rattle.pc_repairs.specs.inside.Joining.{IsPartSets}
use Rattle.pc_repairs.specs.declared.listing.ListingPart.{ListingPart}
use Rattle.pc_repairs.specs.declared.part_sets.PartSets.{PartSets}
use Rattle.pc_repairs.proofs.ListedParts.{lent_at}
use Rattle.pc_repairs.proofs.Written.{zip_more}
use Rattle.pc_repairs.proofs.listing.Listing.new.Goals as goal

pub listing_part-requires : goal.listing_part-requires
listing_part-requires g c =
    let sheet = g.C.Choices.sheet c.args.view.now in
    let lent = c.in_ok-lent.lent.items in
    let i = c.loop-part.part-index in
    let r = c.part-item.result in
    let at : slice_get lent i ≡ Some r = ap (λ (xs : List PartSets). slice_get xs i) (sym c.deref-part-items.ensures.value) ∙ (slice_get-get_or c.deref-part-items.result.now i r c.loop-part-test.true ∙ ap (λ x. Some x) (sym c.part-item.is)) in
    let h = lent_at sheet lent c.in_ok-lent.ensures i r at in
    subst (λ (b : Sheet). (p : Part) × (k : ℕ) × IsChosen b k p × IsPartSets b p r) (sym c.book-book.ensures) (h.0, i, h.1, h.2)

pub loop-part-preserved : goal.loop-part-preserved
loop-part-preserved g c =
    let sheet = g.C.Choices.sheet c.args.view.now in
    let lent = c.in_ok-lent.lent.items in
    let i = c.loop-part.part-index in
    let r = c.part-item.result in
    let at : slice_get lent i ≡ Some r = ap (λ (xs : List PartSets). slice_get xs i) (sym c.deref-part-items.ensures.value) ∙ (slice_get-get_or c.deref-part-items.result.now i r c.loop-part-test.true ∙ ap (λ x. Some x) (sym c.part-item.is)) in
    let h = lent_at sheet lent c.in_ok-lent.ensures i r at in
    let l = c.in_ok-listed.listed in
    let items = c.loop-part.parts.items in
    let listed : IsListedPart sheet h.0 (part_listed l) =
    subst (λ (b : Sheet). IsListedPart b h.0 (part_listed l)) c.book-book.ensures (c.in_ok-listed.ensures h.0 i (subst (λ (b : Sheet). IsChosen b i h.0) (sym c.book-book.ensures) h.1) (subst (λ (b : Sheet). IsPartSets b h.0 r) (sym c.book-book.ensures) h.2)) in
    subst (λ ls. AllZip (IsListedPart sheet) (take (i + 1) (chosen_parts sheet)) ls) (sym (ap (λ (xs : List ListingPart). map part_listed xs) c.in_ok-push.ensures.items ∙ map-append part_listed items (l ∷ [])))
    (zip_more (IsListedPart sheet) (chosen_parts sheet) (map part_listed items) i h.0 (part_listed l) h.1 c.loop-part.invariant listed)

pub returns : goal.returns
returns g c =
    let sheet = g.C.Choices.sheet c.args.view.now in
    let lent = c.in_ok-lent.lent.items in
    let many = zip_length (IsPartSets sheet) (chosen_parts sheet) lent c.in_ok-lent.ensures in
    let past : length (chosen_parts sheet) ≤ c.loop-part.part-index = omega (arith, many, c.loop-part-test.false, ap length c.deref-part-items.ensures.value) in
    subst (λ ps. AllZip (IsListedPart sheet) ps (map part_listed c.loop-part.parts.items)) (take_all c.loop-part.part-index (chosen_parts sheet) past) c.loop-part.invariant
