use Rattle.std.proofs.Common.{sym, subst, w64, rules}
use Rattle.std.proofs.lemmas.Int.{to_z-of_z}
use mir.Val.{SFits}
use Rattle.pc_formula.specs.Tree.{name_value, integer_value}
use Rattle.pc_formula.specs.Front.{Reads}
use Rattle.pc_formula.specs.Value.{DerivesInt, DerivesValue}
use Rattle.pc_formula.proofs.ValueForms.{value_name_reads, value_int_reads}
use Rattle.pc_formula.proofs.values.read_value.Goals as goal

pub returns-in-Some-clause-ok : goal.returns-in-Some-clause-ok
returns-in-Some-clause-ok c = subst (λ n. Reads DerivesValue 0 c.args.words.now (name_value n) c.take_name.new.self) (sym c.in_ok-name.ensures) (value_name_reads _ _ _ c.in-Some.ensures.0)

pub returns-in-Some-read_integer-clause-ok : goal.returns-in-Some-read_integer-clause-ok
returns-in-Some-read_integer-clause-ok c =
    let kept = c.in_default.ensures in
    let fits : SFits w64 c.in-Some-read_integer.value = search rules in
    let read = subst (λ ws. Reads DerivesInt 0 ws c.in-Some-read_integer.value c.read_integer.new.words) kept.0 c.in-Some-read_integer.ensures in
    subst (λ z. Reads DerivesValue 0 c.args.words.now (integer_value z) c.read_integer.new.words) (sym (to_z-of_z w64 c.in-Some-read_integer.value fits)) (value_int_reads _ _ _ kept.1 read)
