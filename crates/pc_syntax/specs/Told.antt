-- What the readers tell.
use Rattle.std.specs.Prelude.{◌≡◌, ℕ, ◌<◌, ◌≤◌, ◌⊎◌, codes, List, Vec, Result, Ok, Err, Option, Some, None}
use Rattle.std.specs.declared.alloc.Global.{Global}
use Rattle.pc_token.specs.declared.token.Token.{Token}
use Rattle.pc_token.specs.Line.{IsOneName}
use Rattle.pc_formula.specs.Word.{Word, words_of, HasWords, nesting, most_nesting}
use Rattle.pc_formula.specs.declared.refusal.Refusal.{Refusal}
use Rattle.pc_formula.specs.declared.refusal.Refusal.TheVariants as refusal
use Rattle.pc_syntax.specs.declared.fault.LineFault.{LineFault}
use Rattle.pc_syntax.specs.declared.fault.LineFault.TheVariants as line_fault
use Rattle.pc_syntax.specs.declared.line.LineTree.{LineTree}
use Rattle.pc_syntax.specs.declared.line.LineTree.TheVariants as tree
use Rattle.pc_syntax.specs.declared.sheet.Part.{Part}
use Rattle.pc_syntax.specs.declared.sheet.Part.TheVariants as part
use Rattle.pc_syntax.specs.declared.tree.Command.{Command}
use Rattle.pc_syntax.specs.declared.tree.CommandFault.{CommandFault}
use Rattle.pc_syntax.specs.declared.tree.CommandFault.TheVariants as command_fault
use Rattle.pc_syntax.specs.declared.tree.SheetTree.{SheetTree}
use Rattle.pc_syntax.specs.declared.tree.SheetFault.{SheetFault}
use Rattle.pc_syntax.specs.declared.tree.SheetFault.TheVariants as sheet_fault
use Rattle.pc_syntax.specs.Fault.{Fault, not_utf8, too_deep, syntax, wrong_version, IsAtFault}
use Rattle.pc_syntax.specs.Tree.{Declared, Asked, declared_of, asked_of, sheet_of}
use Rattle.pc_syntax.specs.Line.{LineForm, nothing, heading, declares, begins, IsForm, IsLine, HasForm}
use Rattle.pc_syntax.specs.Command.{CommandReading, no_command, asks, at_fault, IsCommand, IsDeepAsk, IsCommandReading}
use Rattle.pc_syntax.specs.Part.{Takes, IsAtFaultIn}
use Rattle.pc_syntax.specs.Sheet.{SheetReading, sheet, fault_at, no_begin, IsSheetReading}

-- ---- commands

-- what a command's tree, or none, is read from
abbrev pub reading_of : Option Command → CommandReading
reading_of None = no_command
reading_of (Some c) = asks (asked_of c)

-- the command line is read as what is answered
abbrev pub IsCommandTold : List ℕ → Result (Option Command) CommandFault → Type 0
IsCommandTold line (Ok None) = IsCommandReading line no_command
IsCommandTold line (Ok (Some c)) = IsCommandReading line (asks (asked_of c))
IsCommandTold line (Err command_fault.NotUtf8) = IsCommandReading line (at_fault not_utf8)
IsCommandTold line (Err command_fault.TooDeep) = IsCommandReading line (at_fault too_deep)
IsCommandTold line (Err command_fault.Syntax) = IsCommandReading line (at_fault syntax)
IsCommandTold line (Err command_fault.Memory) = Unit {0}

-- this reading is answered, unless memory ran out
abbrev pub TellsCommand : Result (Option Command) CommandFault → CommandReading → Type 0
TellsCommand (Ok None) r = r ≡ no_command
TellsCommand (Ok (Some c)) r = r ≡ asks (asked_of c)
TellsCommand (Err command_fault.NotUtf8) r = r ≡ at_fault not_utf8
TellsCommand (Err command_fault.TooDeep) r = r ≡ at_fault too_deep
TellsCommand (Err command_fault.Syntax) r = r ≡ at_fault syntax
TellsCommand (Err command_fault.Memory) r = Unit {0}

-- ---- sheets

-- the text is read as what is answered
abbrev pub IsSheetTold : List ℕ → Result SheetTree SheetFault → Type 0
IsSheetTold text (Ok t) = IsSheetReading text (sheet (sheet_of t))
IsSheetTold text (Err (sheet_fault.NotUtf8 n)) = IsSheetReading text (fault_at n not_utf8)
IsSheetTold text (Err (sheet_fault.TooDeep n)) = IsSheetReading text (fault_at n too_deep)
IsSheetTold text (Err (sheet_fault.Syntax n)) = IsSheetReading text (fault_at n syntax)
IsSheetTold text (Err (sheet_fault.WrongVersion n)) = IsSheetReading text (fault_at n wrong_version)
IsSheetTold text (Err sheet_fault.NoBegin) = IsSheetReading text no_begin
IsSheetTold text (Err sheet_fault.Memory) = Unit {0}

-- this reading is answered, unless memory ran out
abbrev pub TellsSheet : Result SheetTree SheetFault → SheetReading → Type 0
TellsSheet (Ok t) r = r ≡ sheet (sheet_of t)
TellsSheet (Err (sheet_fault.NotUtf8 n)) r = r ≡ fault_at n not_utf8
TellsSheet (Err (sheet_fault.TooDeep n)) r = r ≡ fault_at n too_deep
TellsSheet (Err (sheet_fault.Syntax n)) r = r ≡ fault_at n syntax
TellsSheet (Err (sheet_fault.WrongVersion n)) r = r ≡ fault_at n wrong_version
TellsSheet (Err sheet_fault.NoBegin) r = r ≡ no_begin
TellsSheet (Err sheet_fault.Memory) r = Unit {0}

-- ---- within the crate

-- the fault of a line whose words were refused
abbrev pub line_fault_of : Refusal → LineFault
line_fault_of refusal.Syntax = line_fault.Syntax
line_fault_of refusal.Memory = line_fault.Memory

-- the fault that is told of a command line
abbrev pub command_fault_of : LineFault → CommandFault
command_fault_of line_fault.NotUtf8 = command_fault.NotUtf8
command_fault_of line_fault.TooDeep = command_fault.TooDeep
command_fault_of line_fault.Syntax = command_fault.Syntax
command_fault_of line_fault.Memory = command_fault.Memory

-- the fault that is told of a sheet where the line with this number has it
abbrev pub sheet_fault_of : LineFault → ℕ → SheetFault
sheet_fault_of line_fault.NotUtf8 n = sheet_fault.NotUtf8 n
sheet_fault_of line_fault.TooDeep n = sheet_fault.TooDeep n
sheet_fault_of line_fault.Syntax n = sheet_fault.Syntax n
sheet_fault_of line_fault.Memory n = sheet_fault.Memory

-- the same where the line may not stand in the part
abbrev pub misplaced_as : Part → LineForm → ℕ → SheetFault
misplaced_as part.Heading (heading v) n = sheet_fault.WrongVersion n
misplaced_as p f n = sheet_fault.Syntax n

-- the form that a line's tree stands for
abbrev pub form_of : LineTree → LineForm
form_of tree.Nothing = nothing
form_of (tree.Heading n) = heading n
form_of (tree.Declares d) = declares (declared_of d)
form_of tree.Begins = begins

-- the text splits into words that don't go too deep and are so
pub record Spells (text : List ℕ) (P : List Word → Type 0) : Type 0 where
  pub words : List Word
  pub has : HasWords text words
  pub within : nesting words ≤ most_nesting
  pub is : P words

-- the text splits into words that go too deep
pub record SpellsTooDeep (text : List ℕ) : Type 0 where
  pub words : List Word
  pub has : HasWords text words
  pub deep : most_nesting < nesting words

-- the text has this fault, where its words are not so
abbrev pub SpellsNone : List ℕ → LineFault → (List Word → Type 0) → Type 0
SpellsNone text line_fault.NotUtf8 P = ⊥
SpellsNone text line_fault.TooDeep P = SpellsTooDeep text
SpellsNone text line_fault.Syntax P = (ws : List Word) → HasWords text ws → (nesting ws ≤ most_nesting) × (P ws → ⊥)
SpellsNone text line_fault.Memory P = Unit {0}

-- the words of these tokens are those of the text, or it has that fault
abbrev pub AreTokensTold : List ℕ → Result (Vec Token Global) LineFault → Type 0
AreTokensTold text (Ok found) = Spells text (λ ws. ws ≡ words_of text found.items)
AreTokensTold text (Err f) = SpellsNone text f (λ ws. Unit {0})

-- the text spells what is answered, or has that fault
abbrev pub IsFormTold : List ℕ → Result LineTree LineFault → Type 0
IsFormTold text (Ok t) = Spells text (λ ws. IsForm ws (form_of t))
IsFormTold text (Err f) = SpellsNone text f (λ ws. (form : LineForm) × IsForm ws form)

-- the words are a command, or they ask a formula and go too deep for that
abbrev pub IsHeard : List Word → Type 0
IsHeard ws = ((a : Asked) × IsCommand ws a) ⊎ IsDeepAsk ws

abbrev pub IsAskedTold : List ℕ → Result Command LineFault → Type 0
IsAskedTold text (Ok c) = Spells text (λ ws. IsCommand ws (asked_of c) × (¬ IsDeepAsk ws))
IsAskedTold text (Err line_fault.TooDeep) = SpellsTooDeep text ⊎ Spells text IsDeepAsk
IsAskedTold text (Err f) = SpellsNone text f IsHeard

-- the line's one token is a command that takes no memory
abbrev pub IsLone : List ℕ → Type 0
IsLone line = IsOneName line (codes "show") ⊎ (IsOneName line (codes "grid") ⊎ IsOneName line (codes "dump"))

-- what is at fault, unless memory ran out
abbrev pub Means : LineFault → (Fault → Type 0) → Type 0
Means line_fault.NotUtf8 P = P not_utf8
Means line_fault.TooDeep P = P too_deep
Means line_fault.Syntax P = P syntax
Means line_fault.Memory P = Unit {0}

-- what is at fault in the line with this number, unless memory ran out
abbrev pub Blames : SheetFault → ℕ → (Fault → Type 0) → Type 0
Blames (sheet_fault.NotUtf8 m) n P = (m ≡ n) × P not_utf8
Blames (sheet_fault.TooDeep m) n P = (m ≡ n) × P too_deep
Blames (sheet_fault.Syntax m) n P = (m ≡ n) × P syntax
Blames (sheet_fault.WrongVersion m) n P = (m ≡ n) × P wrong_version
Blames sheet_fault.NoBegin n P = ⊥
Blames sheet_fault.Memory n P = Unit {0}

-- the line is what is answered, or has that fault
abbrev pub IsLineTold : List ℕ → Result LineTree LineFault → Type 0
IsLineTold line (Ok t) = IsLine line (form_of t)
IsLineTold line (Err f) = Means f (λ e. IsAtFault line (HasForm line) e)

-- the line leads to what is answered, or has that fault in the part
abbrev pub IsLineTaken : Part → ℕ → List ℕ → List (ℕ × Declared) → List (ℕ × Declared) → Result Part SheetFault → Type 0
IsLineTaken part number line old new (Ok next) = Takes part number line next old new
IsLineTaken part number line old new (Err f) = Blames f number (λ e. IsAtFaultIn part line e)
