-- What is at fault in a line, taken by itself.
use Rattle.std.specs.Prelude.{ℕ, List}
use Rattle.std.specs.Str.{IsUtf8}
use Rattle.pc_syntax.specs.Spelling.{IsTooDeep}

-- what may be at fault
pub data Fault : Type 0 where
  not_utf8 : Fault
  too_deep : Fault
  syntax : Fault
  wrong_version : Fault

-- The first fault of a line by itself, where HasForm says that it has a form of the grammar. A line that doesn't split
-- into tokens has no form and isn't too deep.
pub data IsAtFault (line : List ℕ) (HasForm : Type 0) : Fault → Type 0 where
  no_text : (IsUtf8 line → ⊥) → IsAtFault line HasForm not_utf8
  deep : IsTooDeep line → IsAtFault line HasForm too_deep
  formless : IsUtf8 line → (IsTooDeep line → ⊥) → (HasForm → ⊥) → IsAtFault line HasForm syntax
