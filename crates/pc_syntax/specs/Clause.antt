-- What stands behind the word that starts a line, where sheets and commands share it.
use Rattle.std.specs.Prelude.{◌≡◌, ℕ, List, ◌∷◌}
use Rattle.pc_token.specs.declared.token.Kind.TheVariants.{Colon}
use Rattle.pc_formula.specs.Word.{Word, name, sign}
use Rattle.pc_formula.specs.Tree.{Formula}
use Rattle.pc_formula.specs.Grammar.{IsFormula}

-- NAME : FORMULA
pub record IsRule (ws : List Word) (n : List ℕ) (f : Formula) : Type 0 where
  pub rest : List Word
  pub words : ws ≡ name n ∷ sign Colon ∷ rest
  pub formula : IsFormula rest f
