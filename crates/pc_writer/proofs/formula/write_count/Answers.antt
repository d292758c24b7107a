use Rattle.std.proofs.Common.{◌∙◌, ap, sym, rules, w32, SFits}
use Rattle.std.proofs.lemmas.Int.{to_z-of_z}
use Rattle.std.specs.Fmt.{signed_decimal}
use Rattle.pc_writer.proofs.InTurn.{Writes-then, Writes-cut, Writes-same}
use Rattle.pc_writer.proofs.Statements.{count_parts}
use Rattle.pc_writer.proofs.formula.write_count.Goals as goal

pub returns-in_err-write_text : goal.returns-in_err-write_text
returns-in_err-write_text g c =
    let parts = count_parts c.args.book.now.universe c.args.at_most c.args.bound c.args.name.now c.args.sort in
    Writes-same (sym parts) (Writes-cut c.from_residual.result _ c.from_residual.ensures.0 (Writes-same (c.as_bytes.ensures.value ∙ c.count_word.ensures) c.in_err-write_text.ensures))

pub returns-in_err-write_number : goal.returns-in_err-write_number
returns-in_err-write_number g c =
    let parts = count_parts c.args.book.now.universe c.args.at_most c.args.bound c.args.name.now c.args.sort in
    let fits : SFits w32 c.from.result = search rules in
    let bound = ap signed_decimal (to_z-of_z w32 c.from.result fits ∙ c.from.ensures) in
    Writes-same (sym parts) (Writes-then (Writes-same (c.as_bytes.ensures.value ∙ c.count_word.ensures) c.in_ok-write_text.ensures) (Writes-cut c.from_residual-in_err-write_number.result _ c.from_residual-in_err-write_number.ensures.0 (Writes-same bound c.in_err-write_number.ensures)))

pub returns : goal.returns
returns g c =
    let parts = count_parts c.args.book.now.universe c.args.at_most c.args.bound c.args.name.now c.args.sort in
    let fits : SFits w32 c.from.result = search rules in
    let bound = ap signed_decimal (to_z-of_z w32 c.from.result fits ∙ c.from.ensures) in
    Writes-same (sym parts) (Writes-then (Writes-same (c.as_bytes.ensures.value ∙ c.count_word.ensures) c.in_ok-write_text.ensures) (Writes-then (Writes-same bound c.in_ok-write_number.ensures) c.write_quantifier.ensures))
