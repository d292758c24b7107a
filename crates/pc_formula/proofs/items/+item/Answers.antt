use Rattle.std.proofs.Common.{◌≡◌, [], ◌∷◌, ◌++◌, false, true, length, map, sym, ◌∙◌, ap, subst, subst₂, arith, rules}
use Rattle.std.proofs.lemmas.Result.{err_from_is_err_and}
use Rattle.std.proofs.lemmas.List.{map_push}
use Rattle.pc_formula.specs.declared.tree.ItemTree.TheVariants.{Named}
use Rattle.pc_formula.specs.Tree.{item_of, named, no_item, items_of}
use Rattle.pc_formula.specs.Front.{Reads}
use Rattle.pc_formula.specs.Value.{Listed}
use Rattle.pc_formula.specs.Side.{DerivesItem}
use Rattle.pc_formula.proofs.ItemViews.{item_of-Named}
use Rattle.pc_formula.proofs.Lists.{Lists, lists_none, lists_stuck, lists_end, lists_next, ends_list, goes_on_list}
use Rattle.pc_formula.proofs.Sides.{items_read, items_none, item_bare, item_applied, item_applied_none, item_again}
use Rattle.pc_formula.proofs.Numerals.{false_not}
use Rattle.pc_formula.proofs.items.+item.Goals as goal

-- ---- item

pub item-returns-then-not-take_sign-clause-ok : goal.item-returns-then-not-take_sign-clause-ok
item-returns-then-not-take_sign-clause-ok t c =
    let kept = c.if-not-take_sign.ensures in
    let seen : item_of (Named c.in_ok-name.name c.new-args.result) ≡ named c.in-Some.text.now no_item =
    item_of-Named _ _ ∙ ap (λ l. named c.in_ok-name.name (items_of (map item_of l))) c.new-args.ensures.items ∙ ap (λ n. named n no_item) c.in_ok-name.ensures in
    subst₂ (Reads DerivesItem 1 c.args.words.now) (sym seen) (sym kept.0) (item_bare _ _ _ c.in-Some.ensures.0 kept.1)

pub item-returns-in_err-args-clause-err : goal.item-returns-in_err-args-clause-err
item-returns-in_err-args-clause-err t c = λ refused.
    let p = err_from_is_err_and c.from_residual-in_err-args.result c.from_residual-in_err-args.ensures.1 in
    item_applied_none _ _ _ c.in-Some.ensures.0 _ c.if-not-take_sign.ensures (c.in_err-args.ensures.err (cc))

pub item-returns-then-not-stops_at-clause-err : goal.item-returns-then-not-stops_at-clause-err
item-returns-then-not-stops_at-clause-err t c = λ refused. item_again _ _ _ c.in-Some.ensures.0 _ c.if-not-take_sign.ensures _ _ c.in_ok-args.ensures.ok (false_not _ c.stops_at.ensures.1 c.if-not-stops_at.true)

pub item-returns-clause-ok : goal.item-returns-clause-ok
item-returns-clause-ok t c =
    let seen : item_of (Named c.in_ok-name.name c.in_ok-args.args) ≡ named c.in-Some.text.now (items_of (map item_of c.in_ok-args.args.items)) =
    item_of-Named _ _ ∙ ap (λ n. named n (items_of (map item_of c.in_ok-args.args.items))) c.in_ok-name.ensures in
    subst (λ i. Reads DerivesItem 1 c.args.words.now i c.items.new.words) (sym seen)
    (item_applied _ _ _ c.in-Some.ensures.0 _ c.if-not-take_sign.ensures _ _ c.in_ok-args.ensures.ok (c.stops_at.ensures.0 c.if-not-stops_at.false))

-- ---- items

pub items-returns-in_err-next-clause-err : goal.items-returns-in_err-next-clause-err
items-returns-in_err-next-clause-err t c = λ refused.
    let p = err_from_is_err_and c.from_residual.result c.from_residual.ensures.1 in
    items_none _ (lists_none DerivesItem 1 (omega arith) _ _ _ c.items.invariant.lists (c.in_err-next.ensures.err (cc)))

pub items-returns-in_err-goes_on-clause-err : goal.items-returns-in_err-goes_on-clause-err
items-returns-in_err-goes_on-clause-err t c = λ refused.
    let p = err_from_is_err_and c.from_residual-in_err-goes_on.result c.from_residual-in_err-goes_on.ensures.1 in
    let stuck = c.in_err-goes_on.ensures.err (cc) in
    items_none _ (lists_stuck DerivesItem 1 (omega arith) _ _ _ c.items.invariant.lists _ _ c.in_ok-next.ensures.ok stuck.0 stuck.1)

pub items-returns-then-not-branch-clause-ok : goal.items-returns-then-not-branch-clause-ok
items-returns-then-not-branch-clause-ok t c =
    let stop : c.in_ok-goes_on.field-0 ≡ false = search rules in
    let items : c.push.new.self.items ≡ c.items.found.items ++ c.in_ok-next.next ∷ [] = search rules in
    items_read _ _ _
    (subst (λ l. Reads (Listed DerivesItem) 0 c.args.words.now l c.goes_on.new.words) (sym (ap (map item_of) items ∙ map_push item_of c.items.found.items c.in_ok-next.next))
    (lists_end DerivesItem 1 (omega arith) _ _ _ c.items.invariant.lists _ _ c.in_ok-next.ensures.ok _ (ends_list _ _ _ c.in_ok-goes_on.ensures.ok stop)))

pub items-items-preserved : goal.items-items-preserved
items-items-preserved t c =
    let more : c.in_ok-goes_on.field-0 ≡ true = search rules in
    let items : c.push.new.self.items ≡ c.items.found.items ++ c.in_ok-next.next ∷ [] = search rules in
    record {
      lists = subst (λ l. Lists DerivesItem c.args.words.now l c.goes_on.new.words) (sym (ap (map item_of) items ∙ map_push item_of c.items.found.items c.in_ok-next.next))
          (lists_next DerivesItem 1 (omega arith) _ _ _ c.items.invariant.lists _ _ c.in_ok-next.ensures.ok _ (goes_on_list _ _ _ c.in_ok-goes_on.ensures.ok more));
      shorter = omega (arith, c.items.invariant.shorter, c.in_ok-next.ensures.shorter, ap length c.in_ok-goes_on.ensures.ok);
    }
