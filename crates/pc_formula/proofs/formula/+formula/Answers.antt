use Rattle.std.proofs.Common.{◌≡◌, [], ◌∷◌, ◌++◌, length, map, sym, ap, ◌∙◌, subst, arith, rules, subst₂}
use Rattle.std.proofs.lemmas.Result.{IfOk-weaker, err_from_is_err_and}
use Rattle.pc_formula.specs.declared.tree.FormulaTree.{FormulaTree}
use Rattle.std.proofs.lemmas.List.{length_push, map_push, length-map}
use Rattle.pc_token.specs.declared.token.Kind.TheVariants.{Open}
use Rattle.pc_formula.specs.Word.{sign}
use Rattle.pc_formula.specs.Tree.{formula_of}
use Rattle.pc_formula.specs.Grammar.{whole, iffs, imps, joined, by_or, by_and, unary, joint, of_parts, quantified, Derives}
use Rattle.pc_formula.specs.Front.{Reads, ReadsNone}
use Rattle.pc_formula.proofs.Joining.{Joins, joins_next, joins_end, joins_none, join_one, joins_two, join_none, join_none_right, of_many}
use Rattle.pc_formula.proofs.Readings.{imp_reads_one, imp_reads_two, imp_none_right, iff_reads_one, iff_reads_two, iff_none_right, iff_none_third}
use Rattle.pc_formula.proofs.Unaries.{not_reads, not_none, group_reads, group_none, group_unclosed, group_goes_on}
use Rattle.pc_formula.proofs.Quantifiers.{none_read, one_read, plain_reads, plain_none, unbound_none, quantified_none, quantified_reads_as}
use Rattle.pc_formula.proofs.Numerals.{false_not}
use Rattle.pc_formula.proofs.Views.{formula_of-Iff, formula_of-Implies, formula_of-Or, formula_of-And, formula_of-Not}
use Rattle.pc_formula.proofs.formula.+formula.Goals as goal

-- ---- iff

pub iff-returns-then-not-take_sign-clause-ok : goal.iff-returns-then-not-take_sign-clause-ok
iff-returns-then-not-take_sign-clause-ok t c =
    let kept = c.if-not-take_sign.ensures in
    subst (λ ws. Reads (Derives iffs) 7 c.args.words.now (formula_of c.in_ok-first.first) ws) (sym kept.0) (iff_reads_one _ _ _ c.in_ok-first.ensures.ok kept.1)

pub iff-returns-then-take_sign-clause-err : goal.iff-returns-then-take_sign-clause-err
iff-returns-then-take_sign-clause-err t c = λ refused.
    let left = subst (λ ws. Reads (Derives imps) 6 c.args.words.now (formula_of c.in_ok-first.first) ws) c.if-not-take_sign.ensures c.in_ok-first.ensures.ok in
    iff_none_third _ _ _ _ _ _ left c.in_ok-second.ensures.ok c.if-take_sign.ensures

pub iff-returns-clause-ok : goal.iff-returns-clause-ok
iff-returns-clause-ok t c =
    let left = subst (λ ws. Reads (Derives imps) 6 c.args.words.now (formula_of c.in_ok-first.first) ws) c.if-not-take_sign.ensures c.in_ok-first.ensures.ok in
    let kept = c.if-take_sign.ensures in
    let seen = formula_of-Iff c.in_ok-new.field-0 c.in_ok-new-2.field-0 _ _ c.in_ok-new.ensures.ok c.in_ok-new-2.ensures.ok in
    subst₂ (Reads (Derives iffs) 7 c.args.words.now) (sym seen) (sym kept.0) (iff_reads_two _ _ _ _ _ left c.in_ok-second.ensures.ok kept.1)

pub iff-returns-in_err-second-clause-err : goal.iff-returns-in_err-second-clause-err
iff-returns-in_err-second-clause-err t c = λ refused.
    let p = err_from_is_err_and c.from_residual-in_err-second.result c.from_residual-in_err-second.ensures.1 in
    let left = subst (λ ws. Reads (Derives imps) 6 c.args.words.now (formula_of c.in_ok-first.first) ws) c.if-not-take_sign.ensures c.in_ok-first.ensures.ok in
    iff_none_right _ _ _ left (c.in_err-second.ensures.err (cc))

-- ---- imp

pub imp-returns-then-not-take_sign-clause-ok : goal.imp-returns-then-not-take_sign-clause-ok
imp-returns-then-not-take_sign-clause-ok t c =
    let kept = c.if-not-take_sign.ensures in
    subst (λ ws. Reads (Derives imps) 6 c.args.words.now (formula_of c.in_ok-left.left) ws) (sym kept.0) (imp_reads_one _ _ _ c.in_ok-left.ensures.ok kept.1)

pub imp-returns-clause-ok : goal.imp-returns-clause-ok
imp-returns-clause-ok t c =
    let left = subst (λ ws. Reads (Derives (joined by_or)) 5 c.args.words.now (formula_of c.in_ok-left.left) ws) c.if-not-take_sign.ensures c.in_ok-left.ensures.ok in
    let seen = formula_of-Implies c.in_ok-new.field-0 c.in_ok-new-2.field-0 _ _ c.in_ok-new.ensures.ok c.in_ok-new-2.ensures.ok in
    subst (λ f. Reads (Derives imps) 6 c.args.words.now f c.imp.new.words) (sym seen) (imp_reads_two _ _ _ _ _ left c.in_ok-right.ensures.ok)

pub imp-returns-in_err-right-clause-err : goal.imp-returns-in_err-right-clause-err
imp-returns-in_err-right-clause-err t c = λ refused.
    let p = err_from_is_err_and c.from_residual-in_err-right.result c.from_residual-in_err-right.ensures.1 in
    let left = subst (λ ws. Reads (Derives (joined by_or)) 5 c.args.words.now (formula_of c.in_ok-left.left) ws) c.if-not-take_sign.ensures c.in_ok-left.ensures.ok in
    imp_none_right _ _ _ left (c.in_err-right.ensures.err (cc))

-- ---- or

pub or-returns-in_err-first-clause-err : goal.or-returns-in_err-first-clause-err
or-returns-in_err-first-clause-err t c = λ refused.
    let p = err_from_is_err_and c.from_residual.result c.from_residual.ensures.1 in
    join_none by_or _ (c.in_err-first.ensures.err (cc))

pub or-returns-then-not-take_sign-clause-ok : goal.or-returns-then-not-take_sign-clause-ok
or-returns-then-not-take_sign-clause-ok t c =
    let kept = c.if-not-take_sign.ensures in
    subst (λ ws. Reads (Derives (joined by_or)) 5 c.args.words.now (formula_of c.in_ok-first.first) ws) (sym kept.0) (join_one by_or _ _ _ c.in_ok-first.ensures.ok kept.1)

pub or-returns-in_err-second-clause-err : goal.or-returns-in_err-second-clause-err
or-returns-in_err-second-clause-err t c = λ refused.
    let p = err_from_is_err_and c.from_residual-in_err-second.result c.from_residual-in_err-second.ensures.1 in
    join_none_right by_or _ _ _ _ c.in_ok-first.ensures.ok c.if-not-take_sign.ensures (c.in_err-second.ensures.err (cc))

pub or-parts-init : goal.or-parts-init
or-parts-init t c =
    let two = joins_two by_or c.args.words.now _ _ _ _ _ c.in_ok-first.ensures.ok c.if-not-take_sign.ensures c.in_ok-second.ensures.ok in
    let items : c.in_ok-parts.parts.items ≡ c.in_ok-first.first ∷ c.in_ok-second.second ∷ [] = search rules in
    record {
      joins = subst (λ ts. Joins by_or c.args.words.now (map formula_of ts) c.and-2.new.words) (sym items) two;
      many = omega (arith, ap length items);
      shorter = omega (arith, c.in_ok-first.ensures.shorter, c.in_ok-second.ensures.shorter, ap length c.if-not-take_sign.ensures);
    }

pub or-returns-in_err-part-clause-err : goal.or-returns-in_err-part-clause-err
or-returns-in_err-part-clause-err t c = λ refused.
    let p = err_from_is_err_and c.from_residual-in_err-part.result c.from_residual-in_err-part.ensures.1 in
    joins_none by_or _ _ _ _ c.parts.invariant.joins c.parts-test.ensures (c.in_err-part.ensures.err (cc))

pub or-parts-preserved : goal.or-parts-preserved
or-parts-preserved t c =
    let more = joins_next by_or c.args.words.now _ _ _ _ _ c.parts.invariant.joins c.parts-test.ensures c.in_ok-part.ensures.ok in
    let items : c.push.new.self.items ≡ c.parts.parts.items ++ c.in_ok-part.part ∷ [] = search rules in
    record {
      joins = subst (λ fs. Joins by_or c.args.words.now fs c.and-in-parts.new.words) (sym (ap (map formula_of) items ∙ map_push formula_of c.parts.parts.items c.in_ok-part.part)) more;
      many = omega (arith, ap length items ∙ length_push c.parts.parts.items c.in_ok-part.part, c.parts.invariant.many);
      shorter = omega (arith, c.in_ok-part.ensures.shorter, ap length c.parts-test.ensures, c.parts.invariant.shorter);
    }

pub or-returns-clause-ok : goal.or-returns-clause-ok
or-returns-clause-ok t c =
    let kept = c.parts-test.ensures in
    let node = joins_end by_or c.args.words.now _ _ c.parts.invariant.joins kept.1 in
    let many : of_parts by_or (map formula_of c.parts.parts.items) ≡ joint by_or (map formula_of c.parts.parts.items) = of_many by_or _ (omega (arith, length-map c.parts.parts.items formula_of, c.parts.invariant.many)) in
    subst₂ (Reads (Derives (joined by_or)) 5 c.args.words.now) (many ∙ sym (formula_of-Or c.parts.parts)) (sym kept.0) node

-- ---- and

pub and-returns-in_err-first-clause-err : goal.and-returns-in_err-first-clause-err
and-returns-in_err-first-clause-err t c = λ refused.
    let p = err_from_is_err_and c.from_residual.result c.from_residual.ensures.1 in
    join_none by_and _ (c.in_err-first.ensures.err (cc))

pub and-returns-then-not-take_sign-clause-ok : goal.and-returns-then-not-take_sign-clause-ok
and-returns-then-not-take_sign-clause-ok t c =
    let kept = c.if-not-take_sign.ensures in
    subst (λ ws. Reads (Derives (joined by_and)) 4 c.args.words.now (formula_of c.in_ok-first.first) ws) (sym kept.0) (join_one by_and _ _ _ c.in_ok-first.ensures.ok kept.1)

pub and-returns-in_err-second-clause-err : goal.and-returns-in_err-second-clause-err
and-returns-in_err-second-clause-err t c = λ refused.
    let p = err_from_is_err_and c.from_residual-in_err-second.result c.from_residual-in_err-second.ensures.1 in
    join_none_right by_and _ _ _ _ c.in_ok-first.ensures.ok c.if-not-take_sign.ensures (c.in_err-second.ensures.err (cc))

pub and-parts-init : goal.and-parts-init
and-parts-init t c =
    let two = joins_two by_and c.args.words.now _ _ _ _ _ c.in_ok-first.ensures.ok c.if-not-take_sign.ensures c.in_ok-second.ensures.ok in
    let items : c.in_ok-parts.parts.items ≡ c.in_ok-first.first ∷ c.in_ok-second.second ∷ [] = search rules in
    record {
      joins = subst (λ ts. Joins by_and c.args.words.now (map formula_of ts) c.unary-2.new.words) (sym items) two;
      many = omega (arith, ap length items);
      shorter = omega (arith, c.in_ok-first.ensures.shorter, c.in_ok-second.ensures.shorter, ap length c.if-not-take_sign.ensures);
    }

pub and-returns-in_err-part-clause-err : goal.and-returns-in_err-part-clause-err
and-returns-in_err-part-clause-err t c = λ refused.
    let p = err_from_is_err_and c.from_residual-in_err-part.result c.from_residual-in_err-part.ensures.1 in
    joins_none by_and _ _ _ _ c.parts.invariant.joins c.parts-test.ensures (c.in_err-part.ensures.err (cc))

pub and-parts-preserved : goal.and-parts-preserved
and-parts-preserved t c =
    let more = joins_next by_and c.args.words.now _ _ _ _ _ c.parts.invariant.joins c.parts-test.ensures c.in_ok-part.ensures.ok in
    let items : c.push.new.self.items ≡ c.parts.parts.items ++ c.in_ok-part.part ∷ [] = search rules in
    record {
      joins = subst (λ fs. Joins by_and c.args.words.now fs c.unary-in-parts.new.words) (sym (ap (map formula_of) items ∙ map_push formula_of c.parts.parts.items c.in_ok-part.part)) more;
      many = omega (arith, ap length items ∙ length_push c.parts.parts.items c.in_ok-part.part, c.parts.invariant.many);
      shorter = omega (arith, c.in_ok-part.ensures.shorter, ap length c.parts-test.ensures, c.parts.invariant.shorter);
    }

pub and-returns-clause-ok : goal.and-returns-clause-ok
and-returns-clause-ok t c =
    let kept = c.parts-test.ensures in
    let node = joins_end by_and c.args.words.now _ _ c.parts.invariant.joins kept.1 in
    let many : of_parts by_and (map formula_of c.parts.parts.items) ≡ joint by_and (map formula_of c.parts.parts.items) = of_many by_and _ (omega (arith, length-map c.parts.parts.items formula_of, c.parts.invariant.many)) in
    subst₂ (Reads (Derives (joined by_and)) 4 c.args.words.now) (many ∙ sym (formula_of-And c.parts.parts)) (sym kept.0) node

-- ---- unary

pub unary-returns-then-take_sign-clause-ok : goal.unary-returns-then-take_sign-clause-ok
unary-returns-then-take_sign-clause-ok t c =
    let seen = formula_of-Not c.in_ok-new.field-0 _ c.in_ok-new.ensures.ok in
    subst (λ f. Reads (Derives unary) 3 c.args.words.now f c.unary.new.words) (sym seen) (not_reads _ _ _ _ c.if-take_sign.ensures c.in_ok-inner.ensures.ok)

pub unary-returns-then-take_sign-2-clause-ok : goal.unary-returns-then-take_sign-2-clause-ok
unary-returns-then-take_sign-2-clause-ok t c =
    let opened : c.args.words.now ≡ sign Open ∷ c.take_sign-2.new.self = grind arith in
    group_reads _ _ opened _ _ c.in_ok-inner-2.ensures.ok _ c.if-not-take_sign.ensures (c.stops_at.ensures.0 c.if-not-stops_at.false)

pub unary-returns-then-not-stops_at-clause-err : goal.unary-returns-then-not-stops_at-clause-err
unary-returns-then-not-stops_at-clause-err t c = λ refused.
    let opened : c.args.words.now ≡ sign Open ∷ c.take_sign-2.new.self = grind arith in
    group_goes_on _ _ opened _ _ c.in_ok-inner-2.ensures.ok _ c.if-not-take_sign.ensures (false_not _ c.stops_at.ensures.1 c.if-not-stops_at.true)

pub unary-returns-in_err-inner-clause-err : goal.unary-returns-in_err-inner-clause-err
unary-returns-in_err-inner-clause-err t c = λ refused.
    let p = err_from_is_err_and c.from_residual.result c.from_residual.ensures.1 in
    not_none _ _ c.if-take_sign.ensures (c.in_err-inner.ensures.err (cc))

pub unary-returns-in_err-inner-2-clause-err : goal.unary-returns-in_err-inner-2-clause-err
unary-returns-in_err-inner-2-clause-err t c = λ refused.
    let p = err_from_is_err_and c.from_residual-in_err-inner-2.result c.from_residual-in_err-inner-2.ensures.1 in
    let opened : c.args.words.now ≡ sign Open ∷ c.take_sign-2.new.self = grind arith in
    group_none _ _ opened (c.in_err-inner-2.ensures.err (cc))

pub unary-returns-then-not-take_sign-clause-err : goal.unary-returns-then-not-take_sign-clause-err
unary-returns-then-not-take_sign-clause-err t c = λ refused.
    let opened : c.args.words.now ≡ sign Open ∷ c.take_sign-2.new.self = grind arith in
    group_unclosed _ _ opened _ _ c.in_ok-inner-2.ensures.ok c.if-not-take_sign.ensures.1

-- ---- read_formula

pub read_formula-returns-in_default-clause-ok : goal.read_formula-returns-in_default-clause-ok
read_formula-returns-in_default-clause-ok t c =
    let kept = none_read _ _ _ c.in_ok-quantifier.ensures.ok c.in_default.is in
    IfOk-weaker c.iff.result (λ (f : FormulaTree). Reads (Derives iffs) 7 c.read_quantifier.new.words (formula_of f) c.iff.new.words) (λ (f : FormulaTree). Reads (Derives whole) 7 c.args.words.now (formula_of f) c.iff.new.words)
    (λ f r. plain_reads _ kept.1 _ _ (subst (λ ws. Reads (Derives iffs) 7 ws (formula_of f) c.iff.new.words) kept.0 r)) c.iff.ensures.ok

pub read_formula-returns-in_default-clause-err : goal.read_formula-returns-in_default-clause-err
read_formula-returns-in_default-clause-err t c = λ refused.
    let kept = none_read _ _ _ c.in_ok-quantifier.ensures.ok c.in_default.is in
    plain_none _ kept.1 (subst (ReadsNone (Derives iffs) 7) kept.0 (c.iff.ensures.err refused))

pub read_formula-returns-in_err-quantifier-clause-err : goal.read_formula-returns-in_err-quantifier-clause-err
read_formula-returns-in_err-quantifier-clause-err t c = λ refused.
    let p = err_from_is_err_and c.from_residual.result c.from_residual.ensures.1 in
    c.in_err-quantifier.ensures.err (cc)

pub read_formula-returns-in_err-variable-clause-err : goal.read_formula-returns-in_err-variable-clause-err
read_formula-returns-in_err-variable-clause-err t c = λ refused.
    let p = err_from_is_err_and c.from_residual-in_err-variable.result c.from_residual-in_err-variable.ensures.1 in
    let read = one_read _ _ _ c.in-Some.quantifier c.in_ok-quantifier.ensures.ok c.in-Some.is in
    unbound_none _ _ _ read (c.in_err-variable.ensures.err (cc))

pub read_formula-returns-in_err-body-clause-err : goal.read_formula-returns-in_err-body-clause-err
read_formula-returns-in_err-body-clause-err t c = λ refused.
    let p = err_from_is_err_and c.from_residual-in_err-body.result c.from_residual-in_err-body.ensures.1 in
    let read = one_read _ _ _ c.in-Some.quantifier c.in_ok-quantifier.ensures.ok c.in-Some.is in
    quantified_none _ _ _ read _ _ _ c.in_ok-variable.ensures.ok (c.in_err-body.ensures.err (cc))

pub read_formula-returns-clause-ok : goal.read_formula-returns-clause-ok
read_formula-returns-clause-ok t c =
    let read = one_read _ _ _ c.in-Some.quantifier c.in_ok-quantifier.ensures.ok c.in-Some.is in
    let seen = c.quantified.ensures ∙ ap (λ f. quantified c.in-Some.quantifier c.in_ok-variable.variable c.in_ok-variable.sort (formula_of f)) c.in_ok-body-2.ensures.ok in
    quantified_reads_as _ _ _ read _ _ _ c.in_ok-variable.ensures.ok _ _ _ c.in_ok-body.ensures.ok seen
