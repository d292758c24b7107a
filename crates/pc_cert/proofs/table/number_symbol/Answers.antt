use Rattle.std.proofs.Common.{◌≡◌, length, arith}
use Rattle.pc_cert.proofs.Numbered.{kept_pushed, kept_found}
use Rattle.pc_cert.proofs.table.number_symbol.Goals as goal

pub returns-in_ok-push-clause-kept : goal.returns-in_ok-push-clause-kept
returns-in_ok-push-clause-kept c = λ kept.
    let next : c.in_ok-number.number ≡ length c.args.table.now.symbols.items = omega (arith, c.if-number-len.true, c.len.ensures) in
    kept_pushed c.args.table.now.symbols.items c.args.symbol c.args.table.now.names c.number_symbol.new.self c.in_ok-number.number kept c.in_ok-number.ensures c.push.new.self.items next c.in_ok-push.ensures.items

pub returns-else-number-len-clause-kept : goal.returns-else-number-len-clause-kept
returns-else-number-len-clause-kept c = λ kept.
    kept_found c.args.table.now.symbols.items c.args.symbol c.args.table.now.names c.number_symbol.new.self c.in_ok-number.number kept c.in_ok-number.ensures (λ e. omega (arith, e, c.if-number-len.false, c.len.ensures))
