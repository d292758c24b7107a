-- What is told of a line of a sheet.
use Rattle.std.proofs.Common.{◌≡◌, ℕ, Result, Ok, Err, List}
use Rattle.std.specs.Str.{IsUtf8}
use Rattle.pc_formula.specs.Word.{Word}
use Rattle.pc_syntax.specs.declared.fault.LineFault.{LineFault}
use Rattle.pc_syntax.specs.declared.line.LineTree.{LineTree}
use Rattle.pc_syntax.specs.Spelling.{IsNothing, IsSpelled}
use Rattle.pc_syntax.specs.Line.{LineForm, IsForm, IsBegin, IsLine, empty_line, begin_line, spelled_line, HasForm}
use Rattle.pc_syntax.specs.Told.{IsFormTold, IsLineTold}
use Rattle.pc_syntax.proofs.ReadLine.{spelled, faulty}

module _ (text line : List ℕ) (same : text ≡ line) (utf8 : IsUtf8 line) (some : IsNothing line → ⊥) (other : IsBegin line → ⊥) where
  words_back : (f : LineForm) → IsLine line f → (ws : List Word) × IsSpelled line ws × ((form : LineForm) × IsForm ws form)
  words_back f (empty_line n) = absurd (some n)
  words_back f (begin_line b) = absurd (other b)
  words_back f (spelled_line ws s is) = (ws, s, (f, is))

  pub line_told : (r : Result LineTree LineFault) → IsFormTold text r → IsLineTold line r
  line_told (Ok t) s = spelled_line s.words (spelled text line same utf8 some _ s) s.is
  line_told (Err f) none = faulty text line same utf8 some f (λ ws. (form : LineForm) × IsForm ws form) (HasForm line) (λ h. words_back h.0 h.1) none
