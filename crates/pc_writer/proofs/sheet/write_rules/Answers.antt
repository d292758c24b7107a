use Rattle.std.proofs.Common.{arith, map, ap, length}
use Rattle.std.proofs.lemmas.List.{length-map}
use Rattle.pc_sheet.specs.Views.{rule_of}
use Rattle.pc_sheet.specs.WellFormed.{IsWellFormedRule}
use Rattle.pc_writer.specs.SheetText.{ended, rule_line}
use Rattle.pc_writer.proofs.Names.{line_at, holds_at}
use Rattle.pc_writer.proofs.InPieces.{cut_in_piece, one_more_piece, all_pieces}
use Rattle.pc_writer.proofs.InTurn.{Writes-then, Writes-front}
use Rattle.pc_writer.proofs.sheet.write_rules.Goals as goal

pub write_rule-requires : goal.write_rule-requires
write_rule-requires g c =
    let u = c.args.book.now.universe in
    holds_at rule_of c.args.book.now.rules c.rules-rule-items.result.now c.rules-rule-items.ensures c.loop-rule.rule-index c.rule-item.result (omega arith) c.rule-item.is (IsWellFormedRule u) c.requires.rules.each

pub returns-in_err-write_rule : goal.returns-in_err-write_rule
returns-in_err-write_rule g c =
    let u = c.args.book.now.universe in
    let rules = c.rules-rule-items.result.now in
    let is = line_at rule_of c.args.book.now.rules rules c.rules-rule-items.ensures c.loop-rule.rule-index c.rule-item.result (omega arith) c.rule-item.is (rule_line u) in
    cut_in_piece ended (map (rule_line u) c.args.book.now.rules) c.loop-rule.rule-index _ is c.loop-rule.invariant c.from_residual.result c.from_residual.ensures.0 (Writes-front _ c.in_err-write_rule.ensures)

pub returns-in_err-write_text : goal.returns-in_err-write_text
returns-in_err-write_text g c =
    let u = c.args.book.now.universe in
    let rules = c.rules-rule-items.result.now in
    let is = line_at rule_of c.args.book.now.rules rules c.rules-rule-items.ensures c.loop-rule.rule-index c.rule-item.result (omega arith) c.rule-item.is (rule_line u) in
    cut_in_piece ended (map (rule_line u) c.args.book.now.rules) c.loop-rule.rule-index _ is c.loop-rule.invariant c.from_residual-in_err-write_text.result c.from_residual-in_err-write_text.ensures.0 (Writes-then c.in_ok-write_rule.ensures c.in_err-write_text.ensures)

pub loop-rule-preserved : goal.loop-rule-preserved
loop-rule-preserved g c =
    let u = c.args.book.now.universe in
    let rules = c.rules-rule-items.result.now in
    let is = line_at rule_of c.args.book.now.rules rules c.rules-rule-items.ensures c.loop-rule.rule-index c.rule-item.result (omega arith) c.rule-item.is (rule_line u) in
    one_more_piece ended (map (rule_line u) c.args.book.now.rules) c.loop-rule.rule-index _ is c.loop-rule.invariant (Writes-then c.in_ok-write_rule.ensures c.in_ok-write_text.ensures)

pub returns : goal.returns
returns g c =
    let u = c.args.book.now.universe in
    let rules = c.rules-rule-items.result.now in
    all_pieces ended (map (rule_line u) c.args.book.now.rules) c.loop-rule.rule-index (omega (arith, length-map c.args.book.now.rules (rule_line u), ap length c.rules-rule-items.ensures, length-map rules rule_of)) c.loop-rule.invariant
