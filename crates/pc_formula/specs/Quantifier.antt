-- What starts a quantified formula, as derivations over words.
use Rattle.std.specs.Prelude.{ℕ, pos, Bool, true, false, List, ◌∷◌, codes}
use Rattle.pc_formula.specs.declared.quantifier.Quantifier.{Quantifier}
use Rattle.pc_formula.specs.declared.quantifier.Quantifier.TheVariants.{ForAll, Exists, Count}
use Rattle.pc_formula.specs.Word.{Word, reserved}
use Rattle.pc_formula.specs.Value.{DerivesNumber}

-- the word that starts a counting quantifier: at most, or else at least, so many
abbrev pub count_word : Bool → List ℕ
count_word true = codes "atmost"
count_word false = codes "atleast"

-- QUANTIFIER = forall | exists | atmost NUMBER | atleast NUMBER
pub data DerivesQuantifier : List Word → Quantifier → List Word → Type 0 where
  for_every : {rest : List Word} → DerivesQuantifier (reserved (codes "forall") ∷ rest) ForAll rest
  for_some : {rest : List Word} → DerivesQuantifier (reserved (codes "exists") ∷ rest) Exists rest
  for_so_many : {ws rest : List Word} {n : ℕ} (at_most : Bool) → DerivesNumber ws n rest → DerivesQuantifier (reserved (count_word at_most) ∷ ws) (Count at_most (pos n)) rest
