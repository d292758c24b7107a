-- What derives the empty clause refutes the rules.
use Rattle.std.proofs.Common.{◌<◌, ◌^◌, List, [], length}
use Rattle.pc_log.specs.Lines.{LogLine}
use Rattle.pc_log.specs.Spans.{IsSpanOf, lines_of_span}
use Rattle.pc_log.specs.Trimmed.{IsTrimmed}
use Rattle.pc_log.specs.declared.log.StepId.{StepId}
use Rattle.pc_log.specs.declared.trimming.Span.{Span}
use Rattle.pc_sheet.specs.Sheet.{Sheet}
use Rattle.pc_sheet.specs.WellFormed.{IsWellFormed}
use Rattle.pc_ground.specs.Naming.{names_of}
use Rattle.pc_justify_laws.specs.Laws.{NamesAreOfTheirSheet, TrimmedLinesRefute}
use Rattle.pc_reason.specs.Refutations.{RefutesRules}
use Rattle.pc_theory.specs.inside.Calling.{IsEmptyAt}

pub refuted_at : TrimmedLinesRefute → NamesAreOfTheirSheet → (sheet : Sheet) (log kept : List LogLine) (last : StepId) (span : Span) → IsWellFormed sheet → IsEmptyAt sheet log last → length log < 10 ^ 18
    → IsSpanOf kept span → IsTrimmed log last.0 [] (lines_of_span kept span) → RefutesRules sheet (names_of sheet) kept span
refuted_at refute names sheet log kept last span formed empty few lies trimmed =
    let r = refute sheet log (lines_of_span kept span) last.0 (names sheet formed) few empty.derived empty.empty trimmed in
    record { lies = lies; named = r.0; accepted = r.1; written = r.2 }
