-- Lines of one word that are commands.
use Rattle.std.proofs.Common.{◌≡◌, ℕ, zero, suc, ◌<◌, ◌≤◌, true, List, [], ◌∷◌, length, ⊎_elim, arith}
use Rattle.std.specs.Prelude.{slice_index}
use Rattle.pc_token.specs.Token.{is_blank}
use Rattle.pc_formula.specs.Word.{name, nesting}
use Rattle.pc_syntax.specs.Tree.{Asked}
use Rattle.pc_syntax.specs.Spelling.{IsNothing, IsSpelled}
use Rattle.pc_syntax.specs.Command.{IsCommand, IsCommandReading, asks, spelled_command, IsDeepAsk}
use Rattle.pc_canonical_laws.proofs.Counting.{levels_are}
use Rattle.pc_canonical_laws.proofs.Cuts.{Cuts, cuts_utf8}
use Rattle.pc_canonical_laws.proofs.Lines.{has_words}

module _ (word : List ℕ) (cuts : Cuts word (name word ∷ [])) (long : 0 < length word) (starts : is_blank (slice_index word 0) ≡ true → ⊥) (no_remark : slice_index word 0 ≡ 59 → ⊥) where
  says_something : IsNothing word → ⊥
  says_something none = ⊎_elim (λ blanks. starts (blanks 0 (omega arith) long)) (λ comment. remark comment.0 comment.1 comment.2) none.empty
    where
      remark : (at : ℕ) → ((i : ℕ) → 0 ≤ i → i < at → is_blank (slice_index word i) ≡ true) → slice_index word at ≡ 59 → ⊥
      remark zero blanks here = no_remark here
      remark (suc at) blanks here = starts (blanks 0 (omega arith) (omega arith))

  no_level : nesting (name word ∷ []) ≡ 0
  no_level = levels_are (name word ∷ [])

  spelled : IsSpelled word (name word ∷ [])
  spelled = record {
    split = record { utf8 = cuts_utf8 word (name word ∷ []) cuts; something = says_something; has = has_words word (name word ∷ []) cuts };
    within = omega (arith, no_level);
  }

  shallow : ¬ IsDeepAsk (name word ∷ [])
  shallow deep = omega (arith, no_level, deep.deep)

  -- the command that the word is
  pub one_word : (a : Asked) → IsCommand (name word ∷ []) a → IsCommandReading word (asks a)
  one_word a is = spelled_command (name word ∷ []) spelled is shallow
