-- Why texts are refused, and how that is told.
use Rattle.std.specs.Prelude.{ℕ, List, [], ◌++◌, codes, decimal}
use Rattle.std.specs.declared.option.Option.{Option}
use Rattle.std.specs.declared.option.Option.TheVariants.{Some, None}
use Rattle.pc_refusals.specs.declared.refusal.Refusal.{Refusal}
use Rattle.pc_refusals.specs.declared.refusal.Refusal.TheVariants.{NotUtf8, Syntax, NoBegin, WrongVersion, UnknownName, DuplicateName, WrongArity, WrongSort, NotAValue, EmptySort, Limit, TooManySets, TooLarge, Inconsistent, Spent, NoEntry, DuplicateRule, NoRule, TooDeep}
use Rattle.pc_refusals.specs.declared.refusal.Counts.{Counts}
use Rattle.pc_sheet.specs.declared.limits.Limited.{Limited}
use Rattle.pc_sheet.specs.declared.limits.Limited.TheVariants.{Sorts, Values, Number, Tables, Families, Arity, Cells, Rows, Rules, Count, Depth, Reads, Entries, Budget}
use Rattle.pc_refusals.specs.declared.refusal.SheetRefusal.{SheetRefusal}
use Rattle.pc_refusals.specs.declared.refusal.LoadFault.{LoadFault}
use Rattle.pc_refusals.specs.declared.refusal.LoadFault.TheVariants as load_fault

-- the number and the word of a refusal
abbrev pub words_of : Refusal → List ℕ
words_of NotUtf8 = codes "1 not-utf8"
words_of Syntax = codes "2 syntax"
words_of NoBegin = codes "3 no-begin"
words_of WrongVersion = codes "4 wrong-version"
words_of UnknownName = codes "5 unknown-name"
words_of DuplicateName = codes "6 duplicate-name"
words_of WrongArity = codes "7 wrong-arity"
words_of WrongSort = codes "8 wrong-sort"
words_of NotAValue = codes "9 not-a-value"
words_of EmptySort = codes "10 empty-sort"
words_of (Limit limited) = codes "11 limit"
words_of TooManySets = codes "11 limit"
words_of TooLarge = codes "12 too-large"
words_of Inconsistent = codes "13 inconsistent"
words_of (Spent counts) = codes "14 spent"
words_of NoEntry = codes "16 no-entry"
words_of DuplicateRule = codes "17 duplicate-rule"
words_of NoRule = codes "18 no-rule"
words_of TooDeep = codes "21 too-deep"

-- what a limit is put on
abbrev pub limit_word_of : Limited → List ℕ
limit_word_of Sorts = codes "sorts"
limit_word_of Values = codes "values"
limit_word_of Number = codes "number"
limit_word_of Tables = codes "tables"
limit_word_of Families = codes "families"
limit_word_of Arity = codes "arity"
limit_word_of Cells = codes "cells"
limit_word_of Rows = codes "rows"
limit_word_of Rules = codes "rules"
limit_word_of Count = codes "count"
limit_word_of Depth = codes "depth"
limit_word_of Reads = codes "reads"
limit_word_of Entries = codes "entries"
limit_word_of Budget = codes "budget"

-- what a search has spent: literals placed, clauses learned and calls of solvers
abbrev pub counts_text : Counts → List ℕ
counts_text counts = codes " placed=" ++ (decimal counts.placed ++ (codes " learned=" ++ (decimal counts.learned ++ (codes " calls=" ++ decimal counts.calls))))

-- what is told further: what a limit is put on, or what was spent
abbrev pub further_text : Refusal → List ℕ
further_text (Limit limited) = codes " " ++ limit_word_of limited
further_text TooManySets = codes " sets"
further_text (Spent counts) = counts_text counts
further_text refusal = []

-- the line that a sheet's refusal is for, where it is for one
abbrev pub refused_line_text : Option ℕ → List ℕ
refused_line_text None = []
refused_line_text (Some number) = codes " line " ++ decimal number

-- how a refusal is told in a line that begins so, with the line of the sheet that it is for, where it is for one
abbrev pub told_text : List ℕ → Refusal → Option ℕ → List ℕ
told_text beginning refusal line = beginning ++ (words_of refusal ++ (refused_line_text line ++ (further_text refusal ++ codes "\n")))

-- how a refused command is told
abbrev pub refusal_text : Refusal → List ℕ
refusal_text refusal = told_text (codes "refused ") refusal None

-- how a refused sheet is told
abbrev pub sheet_refusal_text : SheetRefusal → List ℕ
sheet_refusal_text refused = told_text (codes "sheet refused ") refused.refusal refused.line

-- why a text gives no sheet: a refusal that the text has, or want of memory
abbrev pub RefusesBy : (SheetRefusal → Type 0) → LoadFault → Type 0
RefusesBy Has (load_fault.Refused why) = Has why
RefusesBy Has load_fault.Memory = Unit {0}
