-- How the command lines of an input were answered, in what was taken of it and what was to be printed.
use Rattle.std.specs.Prelude.{◌≡◌, ℕ, ◌<◌, ◌≤◌, ◌⊎◌, List, [], ◌++◌, length, All}
use Rattle.std.specs.declared.option.Option.{Option}
use Rattle.std.specs.Io.KnownBytes.{Consumes, IsAtEnd}
use Rattle.pc_lines.specs.Lines.{lines_of, IsWholeLine, IsOpenLine, IsLongStart}
use Rattle.pc_lines.specs.Lines as a_line
use Rattle.pc_port.specs.declared.TheConstants.{CHUNK}
use Rattle.pc_refusals.specs.declared.status.Status.{Status}
use Rattle.pc_refusals.specs.Endings.{Printing, printed, too_long_text}
use Rattle.pc_refusals.specs.Stages.{IsLine}
use Rattle.pc_transcript.specs.declared.TheConstants.{LINE_LIMIT, MAX_LINES}
use Rattle.pc_transcript.specs.Answer.{Answer, answer_text}
use Rattle.pc_transcript.specs.Transcript.{Transcript, Legal, lines, input_of, output_of, status_of, IsCompleteLine}

-- Nothing more was taken. Of what was still to come a reader holds so much, no more than one read gives.
pub record IsReadAhead (rest source' : Option (List ℕ)) : Type 0 where
  pub held : List ℕ
  pub more : Consumes rest source' held
  pub few : length held ≤ CHUNK

-- Each line up to the end of the input was answered, and this was to be printed.
pub record AnswersAll {S : Type 0} (Allows : S → List ℕ → Answer → S → Type 0) (start end : S) (status : Status) (text : Printing) (source source' : Option (List ℕ)) : Type 0 where
  pub transcript : Transcript
  pub legal : Legal Allows start transcript end
  pub commands : List ℕ
  pub taken : Consumes source source' commands
  pub at_end : IsAtEnd source'
  pub all : lines transcript ≡ lines_of commands
  pub each : All (IsLine LINE_LIMIT) (lines transcript)
  pub count : length transcript ≤ MAX_LINES
  pub text_is : text ≡ printed (output_of transcript) []
  pub status_is : status ≡ status_of transcript

-- The complete lines that were taken were answered, and the start of another was read.
pub record AnswersTaken {S : Type 0} (Allows : S → List ℕ → Answer → S → Type 0) (start end : S) (text : Printing) (source source' : Option (List ℕ)) : Type 0 where
  pub transcript : Transcript
  pub legal : Legal Allows start transcript end
  pub whole : All (IsWholeLine LINE_LIMIT) (lines transcript)
  pub count : length transcript ≤ MAX_LINES
  pub begun : List ℕ
  pub open_line : IsOpenLine LINE_LIMIT begun
  pub taken : Consumes source source' (input_of transcript ++ begun)
  pub text_is : text ≡ printed (output_of transcript) []

-- the next line is longer than a line may be, or is one line more than there may be
abbrev pub IsLineTooMuch : ℕ → List ℕ → Type 0
IsLineTooMuch count begun = IsLongStart LINE_LIMIT begun ⊎ ((count ≡ MAX_LINES) × IsLine LINE_LIMIT begun)

-- The lines before one that passes a limit were answered, and then that it does.
pub record StopsAtLimit {S : Type 0} (Allows : S → List ℕ → Answer → S → Type 0) (start end : S) (text : Printing) (source source' : Option (List ℕ)) : Type 0 where
  pub transcript : Transcript
  pub legal : Legal Allows start transcript end
  pub whole : All (IsWholeLine LINE_LIMIT) (lines transcript)
  pub count : length transcript ≤ MAX_LINES
  pub begun : List ℕ
  pub passes : IsLineTooMuch (length transcript) begun
  pub rest : Option (List ℕ)
  pub taken : Consumes source rest (input_of transcript ++ begun)
  pub ahead : IsReadAhead rest source'
  pub text_is : text ≡ printed (output_of transcript) too_long_text

-- The lines before one were answered, and then that one was to be.
pub record AnswersSome {S : Type 0} (Allows : S → List ℕ → Answer → S → Type 0) (start end : S) (text : Printing) (source source' : Option (List ℕ)) : Type 0 where
  pub transcript : Transcript
  pub state : S
  pub legal : Legal Allows start transcript state
  pub whole : All (IsWholeLine LINE_LIMIT) (lines transcript)
  pub count : length transcript < MAX_LINES
  pub line : List ℕ
  pub rest : Option (List ℕ)
  pub complete : IsCompleteLine line rest
  pub answer : Answer
  pub allowed : Allows state (a_line.line_text_of line) answer end
  pub taken : Consumes source rest (input_of transcript ++ line)
  pub ahead : IsReadAhead rest source'
  pub text_is : text ≡ printed (output_of transcript) (answer_text answer)
