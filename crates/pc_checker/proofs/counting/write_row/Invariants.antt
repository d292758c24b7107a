use Rattle.std.proofs.Common.{◌≡◌, ◌++◌, drop, map}
use Rattle.std.specs.Option.{option_map}
use Rattle.pc_accept.specs.Rows.{clause_of}
use Rattle.pc_cert.specs.Numbered.{StartsWith}
use Rattle.pc_checker.specs.inside.RowParts.{part_of}
use Rattle.pc_checker.proofs.counting.write_row.Given as goal

abbrev pub invariant-loop-part : goal.invariant-loop-part
invariant-loop-part l = record {
  grows : StartsWith l.fn.draft.symbols l.draft.symbols;
  rest : option_map (λ ls. l.draft.clause ++ ls) (clause_of (map (part_of l.path.rule l.path.steps.items) (drop l.part-index l.row))) ≡ clause_of (map (part_of l.path.rule l.path.steps.items) l.row);
}
