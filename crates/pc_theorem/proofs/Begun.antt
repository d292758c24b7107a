-- A run of the words that were read.
use Rattle.std.proofs.Common.{◌≡◌, ◌⊎◌, ℕ, List, subst, inl}
use Rattle.pc_refusals.specs.declared.status.Status.{Status}
use Rattle.pc_refusals.specs.Events.{ShelfWords, SourceWords, SinkWords}
use Rattle.pc_spreadsheet.specs.Allowed.{Notes}
use Rattle.pc_theorem.specs.Run.{IsRunOf}
use Rattle.pc_theorem.specs.Starting.{IsWithoutWords}

module _ {I H O : Type 0} (h : ShelfWords H) (i : SourceWords I) (o : SinkWords O) (shelf shelf' : H) (input input' : I) (output output' : O) where
  abbrev IsRun : List (List ℕ) → Status → Notes → Notes → Type 0
  IsRun = IsRunOf h i o shelf shelf' input input' output output'

  pub of_words : (words behind : List (List ℕ)) (status : Status) (notes noted : Notes) → words ≡ behind → IsRun words status notes noted → IsRun behind status notes noted ⊎ IsWithoutWords h i o shelf shelf' input input' output output' status notes noted
  of_words words behind status notes noted same is = inl (subst (λ (ws : List (List ℕ)). IsRun ws status notes noted) same is)
