-- The canonical text of a statement reads back as that statement.
use Rattle.std.proofs.Common.{[], subst, sym}
use Rattle.std.proofs.lemmas.List.{append-nil}
use Rattle.pc_sheet.specs.Sheet.{Universe, Statement}
use Rattle.pc_sheet.specs.Nesting.{nesting_of}
use Rattle.pc_sheet.specs.WellFormed.{IsWellFormedUniverse}
use Rattle.pc_sheet.specs.WellSorted.{Variables, IsWellSorted}
use Rattle.pc_writer.specs.FormulaText.{statement_text}
use Rattle.pc_canonical_laws.specs.Tree.{statement_tree}
use Rattle.pc_canonical_laws.specs.ReadBack.{AreVariablesNamed, ReadsAsFormula}
use Rattle.pc_canonical_laws.proofs.Counting.{nests_as_counted}
use Rattle.pc_canonical_laws.proofs.Cuts.{Cuts, done, splits_from_cuts}
use Rattle.pc_canonical_laws.proofs.Cutting.{nothing}
use Rattle.pc_canonical_laws.proofs.CuttingStatements.{CutsAs, cut_statement}
use Rattle.pc_canonical_laws.proofs.Deriving.{derive_whole}
use Rattle.pc_canonical_laws.proofs.Spelled.{spelled_statement}
use Rattle.pc_canonical_laws.proofs.Words.{statement_words}

pub reads_back : (u : Universe) (vs : Variables) (s : Statement) → IsWellFormedUniverse u → AreVariablesNamed vs → IsWellSorted u vs s → ReadsAsFormula (statement_text u vs s) (statement_tree u vs s) (nesting_of s)
unfolding CutsAs
reads_back u vs s formed named sorted =
    let spelled = spelled_statement u formed vs named s sorted in
    let text = statement_text u vs s in
    let words = statement_words u vs s [] in
    let cuts : Cuts text words = subst (λ t. Cuts t words) (append-nil text) (cut_statement u vs s spelled [] [] nothing done) in
    let found = splits_from_cuts text words cuts in
    record { words = words; spells = record { tokens = found.0; splits = found.1; words = sym found.2 }; is = derive_whole u vs s spelled; nests = nests_as_counted u vs s spelled }
