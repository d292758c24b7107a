-- Examples of the lines of a text.
use Rattle.std.specs.Prelude.{◌≡◌, [], ◌∷◌, ◌++◌, codes}
use Rattle.std.specs.Str.Lines.{lines}
use Rattle.pc_lines.specs.Lines.{lines_of}

pub record LineExamples : Type 0 where
  pub none : lines [] ≡ []
  pub one : lines (codes "a" ++ 10 ∷ []) ≡ codes "a" ∷ []
  -- a last line without a line feed
  pub last : lines (codes "a" ++ 10 ∷ codes "b") ≡ codes "a" ∷ codes "b" ∷ []
  pub empty : lines (codes "a" ++ 10 ∷ 10 ∷ codes "b") ≡ codes "a" ∷ [] ∷ codes "b" ∷ []
  pub empty_alone : lines (10 ∷ []) ≡ [] ∷ []
  -- one carriage return before a line feed isn't part of the line
  pub returns : lines (codes "a" ++ 13 ∷ 10 ∷ 13 ∷ 10 ∷ codes "b") ≡ codes "a" ∷ [] ∷ codes "b" ∷ []
  pub two_returns : lines (codes "a" ++ 13 ∷ 13 ∷ 10 ∷ []) ≡ (codes "a" ++ 13 ∷ []) ∷ []
  -- any other is
  pub return_within : lines (codes "a" ++ 13 ∷ codes "b" ++ 10 ∷ []) ≡ (codes "a" ++ 13 ∷ codes "b") ∷ []
  pub return_first : lines (10 ∷ 13 ∷ codes "a") ≡ [] ∷ (13 ∷ codes "a") ∷ []
  pub return_last : lines (codes "a" ++ 10 ∷ 13 ∷ []) ≡ codes "a" ∷ (13 ∷ []) ∷ []
  -- the same lines with their ends
  pub ended : lines_of (codes "a" ++ 13 ∷ 10 ∷ 10 ∷ codes "b") ≡ (codes "a" ++ 13 ∷ 10 ∷ []) ∷ (10 ∷ []) ∷ codes "b" ∷ []
