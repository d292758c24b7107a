-- What the program does with what came of reading its words.
use Rattle.std.specs.Prelude.{◌≡◌, ◌≢◌, ◌⊎◌, ℕ, List, [], ◌∷◌, Result, Ok, Err}
use Rattle.std.specs.declared.io.ErrorKind.{ErrorKind}
use Rattle.std.specs.declared.io.ErrorKind.TheVariants.{OutOfMemory}
use Rattle.pc_port.specs.Port.{Rose}
use Rattle.pc_refusals.specs.Endings.{memory_text, TellsAtEnd}
use Rattle.pc_refusals.specs.declared.status.Status.{Status}
use Rattle.pc_refusals.specs.declared.status.Status.TheVariants.{WriteFault, Memory}
use Rattle.pc_refusals.specs.Events.{Outside, ShelfWords, SourceWords, SinkWords, outside_of}
use Rattle.pc_spreadsheet.specs.Allowed.{Notes}
use Rattle.pc_theorem.specs.Run.{AreLeft, IsRunOf}

-- What came of it: the words, of which the first is the program's own name; that memory was wanting for them; or that they can't be read, as where
-- one isn't UTF-8.
pub data WordsRead : Type 0 where
  read : List (List ℕ) → WordsRead
  lacked_memory : WordsRead
  unreadable : WordsRead

abbrev pub of_error : ErrorKind → WordsRead
of_error OutOfMemory = lacked_memory
of_error kind = unreadable

abbrev pub words_read : {A E : Type 0} → (A → List (List ℕ)) → (E → ErrorKind) → Result A E → WordsRead
words_read words_of kind_of (Ok words) = read (words_of words)
words_read words_of kind_of (Err e) = of_error (kind_of e)

-- the words behind the program's own name
abbrev pub behind_name : List (List ℕ) → List (List ℕ)
behind_name [] = []
behind_name (name ∷ words) = words

-- memory was wanting for the words: that was told at the end, and nothing else happened
pub record LacksWords (status : Status) (notes noted : Notes) (before after : Outside) : Type 0 where
  pub told : TellsAtEnd Memory memory_text status before.output after.output
  pub fault : status ≡ WriteFault → Rose before.output_faults after.output_faults
  pub no_fault : status ≢ WriteFault → after.output_faults ≡ before.output_faults
  pub else_same : after ≡ record before { output = after.output; output_faults = after.output_faults }
  pub none_noted : noted ≡ notes

-- what devices tell of themselves, and which they are before and after
module _ {I H O : Type 0} (h : ShelfWords H) (i : SourceWords I) (o : SinkWords O) (shelf shelf' : H) (input input' : I) (output output' : O) where
  -- memory was wanting for the words
  abbrev pub IsWithoutWords : Status → Notes → Notes → Type 0
  IsWithoutWords status notes noted = LacksWords status notes noted (outside_of h i o shelf input output) (outside_of h i o shelf' input' output') × AreLeft h i o shelf shelf' input input' output output'

  -- The words behind the name are run, or memory was wanting for them. Where they can't be read it is a run without words.
  abbrev pub StartsSo : WordsRead → Status → Notes → Notes → Type 0
  StartsSo (read words) status notes noted = IsRunOf h i o shelf shelf' input input' output output' (behind_name words) status notes noted ⊎ IsWithoutWords status notes noted
  StartsSo lacked_memory status notes noted = IsWithoutWords status notes noted
  StartsSo unreadable status notes noted = IsRunOf h i o shelf shelf' input input' output output' [] status notes noted
