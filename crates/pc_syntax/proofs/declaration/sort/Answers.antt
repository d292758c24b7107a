use Rattle.std.proofs.Common.{refl, subst, sym, List, ℕ, ℤ, w64, to_z, of_z, ◌≡◌, ◌<◌, ◌∷◌, length, rules, arith, ◌∙◌, ap}
use Rattle.std.proofs.lemmas.Result.{err_from_is_err_and}
use Rattle.std.proofs.lemmas.Int.{to_z-of_z}
use Rattle.pc_formula.specs.Word.{name}
use Rattle.pc_syntax.specs.Line.{IsRangeDeclared}
use Rattle.pc_syntax.proofs.ReadLine.{differs}
use Rattle.pc_syntax.proofs.Sorts.{no_names, no_sort, no_range, a_range}
use Rattle.pc_syntax.proofs.declaration.sort.Goals as goal

pub returns-then-not-is_empty-clause-none : goal.returns-then-not-is_empty-clause-none
returns-then-not-is_empty-clause-none c = λ refused.
    let first = c.in-Some.ensures.0 ∙ ap (λ l. name c.in-Some.text.now ∷ l) c.if-not-take_sign.ensures in
    let size : 0 < length c.in_ok-values.values.items = search rules in
    no_sort c.args.words.now c.take_sign.new.self c.names.new.words c.in-Some.text.now c.in_ok-values.values.items first c.in_ok-values.ensures.told c.in_ok-values.ensures.all (λ e. absurd (omega (arith, size, ap length e))) (differs _ _ c.is_empty.ensures c.if-is_empty.false)

pub returns-in_err-low-clause-none : goal.returns-in_err-low-clause-none
returns-in_err-low-clause-none c = λ refused.
    let first = c.in-Some.ensures.0 ∙ ap (λ l. name c.in-Some.text.now ∷ l) c.if-not-take_sign.ensures in
    let size : length c.in_ok-values.values.items ≡ 0 = search rules in
    let p = err_from_is_err_and c.from_residual-in_err-low.result c.from_residual-in_err-low.ensures.1 in
    no_range c.args.words.now c.take_sign.new.self c.names.new.words c.in-Some.text.now c.in_ok-values.values.items first c.in_ok-values.ensures.told c.in_ok-values.ensures.all (no_names _ size) (differs _ _ c.is_empty.ensures c.if-is_empty.false) (c.in_err-low.ensures.none (cc))

pub returns-clause-told : goal.returns-clause-told
returns-clause-told c =
    let first = c.in-Some.ensures.0 ∙ ap (λ l. name c.in-Some.text.now ∷ l) c.if-not-take_sign.ensures in
    let size : length c.in_ok-values.values.items ≡ 0 = search rules in
    let told = a_range c.args.words.now c.take_sign.new.self c.names.new.words c.in-Some.text.now c.in_ok-values.values.items first c.in_ok-values.ensures.told c.in_ok-values.ensures.all (no_names _ size) c.in_ok-low.low c.in_ok-low.high c.in_ok-low.ensures.told in
    let low : to_z w64 (of_z w64 c.in_ok-low.low) ≡ c.in_ok-low.low = to_z-of_z w64 c.in_ok-low.low (search rules) in
    let high : to_z w64 (of_z w64 c.in_ok-low.high) ≡ c.in_ok-low.high = to_z-of_z w64 c.in_ok-low.high (search rules) in (
      refl,
      subst (λ (n : List ℕ). IsRangeDeclared c.args.words.now n (to_z w64 (of_z w64 c.in_ok-low.low)) (to_z w64 (of_z w64 c.in_ok-low.high))) (sym c.in_ok-name.ensures)
          (subst (λ (l : ℤ). IsRangeDeclared c.args.words.now c.in-Some.text.now l (to_z w64 (of_z w64 c.in_ok-low.high))) (sym low) (subst (λ (h : ℤ). IsRangeDeclared c.args.words.now c.in-Some.text.now c.in_ok-low.low h) (sym high) told.1)),
    )
