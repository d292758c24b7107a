use Rattle.std.proofs.Common.{◌≡◌, ◌≤◌, ℕ, List, length, rules, sym, subst}
use Rattle.pc_lines.specs.Lines.{line_text_of, length_of}
use Rattle.pc_lines.proofs.Ends.{text_of-short}
use Rattle.pc_lines.proofs.reader.LineReader.text.Goals as goal

pub returns-clause-short : goal.returns-clause-short
returns-clause-short c =
    let is : c.text.result.now ≡ line_text_of c.args.self.now.line = search rules in
    subst (λ (l : List ℕ). length l ≤ length_of c.args.self.now.line) (sym is) (text_of-short c.args.self.now.line)
