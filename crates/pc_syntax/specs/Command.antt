-- The forms of a command line.
use Rattle.std.specs.Prelude.{◌≡◌, ℕ, ◌<◌, ◌⊎◌, List, [], ◌∷◌, codes}
use Rattle.pc_token.specs.Line.{IsOneName}
use Rattle.pc_token.specs.declared.token.Kind.TheVariants.{Equal}
use Rattle.pc_formula.specs.Word.{Word, name, nesting}
use Rattle.pc_formula.specs.Value.{DerivesNumber, DerivesCell}
use Rattle.pc_formula.specs.Equation.{equality, IsEquation}
use Rattle.pc_formula.specs.Grammar.{IsFormula}
use Rattle.pc_syntax.specs.Spelling.{IsNothing, IsSpelled}
use Rattle.pc_syntax.specs.Fault.{Fault, too_deep, IsAtFault}
use Rattle.pc_syntax.specs.Tree.{Asked, asks_enter, asks_also, asks_clear, asks_clear_one, asks_rule, asks_drop, asks_budget, asks_show, asks_grid, asks_json, asks_why, asks_dump, asks_repairs, asks_prove_repairs, asks_whynot, asks_ask}
use Rattle.pc_syntax.specs.Clause.{IsRule}

-- the word that starts a command; `clear` starts two, which differ by what stands behind it
abbrev pub command_keyword : Asked → List ℕ
command_keyword (asks_enter c v) = codes "enter"
command_keyword (asks_also c v) = codes "also"
command_keyword (asks_clear c) = codes "clear"
command_keyword (asks_clear_one c v) = codes "clear"
command_keyword (asks_rule n f) = codes "rule"
command_keyword (asks_drop n) = codes "drop"
command_keyword (asks_budget n) = codes "budget"
command_keyword asks_show = codes "show"
command_keyword asks_grid = codes "grid"
command_keyword asks_json = codes "json"
command_keyword (asks_why c v holds) = codes "why"
command_keyword asks_dump = codes "dump"
command_keyword asks_repairs = codes "repairs"
command_keyword asks_prove_repairs = codes "prove"
command_keyword (asks_whynot c v) = codes "whynot"
command_keyword (asks_ask f) = codes "ask"

-- what stands behind the word
abbrev pub FollowsCommand : Asked → List Word → Type 0
FollowsCommand (asks_enter c v) ws = IsEquation ws Equal c v
FollowsCommand (asks_also c v) ws = IsEquation ws Equal c v
FollowsCommand (asks_clear c) ws = DerivesCell ws c []
FollowsCommand (asks_clear_one c v) ws = IsEquation ws Equal c v
FollowsCommand (asks_rule n f) ws = IsRule ws n f
FollowsCommand (asks_drop n) ws = ws ≡ name n ∷ []
FollowsCommand (asks_budget n) ws = DerivesNumber ws n []
FollowsCommand asks_show ws = ws ≡ []
FollowsCommand asks_grid ws = ws ≡ []
FollowsCommand asks_json ws = ws ≡ []
FollowsCommand (asks_why c v holds) ws = IsEquation ws (equality holds) c v
FollowsCommand asks_dump ws = ws ≡ []
FollowsCommand asks_repairs ws = ws ≡ []
FollowsCommand asks_prove_repairs ws = ws ≡ name (codes "repairs") ∷ []
FollowsCommand (asks_whynot c v) ws = IsEquation ws Equal c v
FollowsCommand (asks_ask f) ws = IsFormula ws f

-- the words are a command, all of them
pub record IsCommand (ws : List Word) (a : Asked) : Type 0 where
  pub rest : List Word
  pub words : ws ≡ name (command_keyword a) ∷ rest
  pub follows : FollowsCommand a rest

-- The most words of a line that asks a formula at which the formula goes a level down: two fewer than of other lines, since the rule that
-- denies it has a sign and a parenthesis more.
abbrev pub most_asked_nesting : ℕ
most_asked_nesting = 126

-- the words ask a formula and go too deep for that
pub record IsDeepAsk (ws : List Word) : Type 0 where
  pub rest : List Word
  pub words : ws ≡ name (codes "ask") ∷ rest
  pub deep : most_asked_nesting < nesting ws

-- the line is blank or a comment, or it is a command, or it asks a formula and goes too deep for that
pub data HasCommand (line : List ℕ) : Type 0 where
  no_words : IsNothing line → HasCommand line
  some_words : (ws : List Word) (a : Asked) → IsSpelled line ws → IsCommand ws a → HasCommand line
  deep_words : (ws : List Word) → IsSpelled line ws → IsDeepAsk ws → HasCommand line

-- what a command line is
pub data CommandReading : Type 0 where
  no_command : CommandReading
  asks : Asked → CommandReading
  at_fault : Fault → CommandReading

-- the command line is read as nothing, as a command, or as one with this first fault
pub data IsCommandReading (line : List ℕ) : CommandReading → Type 0 where
  empty_command : IsNothing line → IsCommandReading line no_command
  spelled_command : {a : Asked} (ws : List Word) → IsSpelled line ws → IsCommand ws a → ¬ IsDeepAsk ws → IsCommandReading line (asks a)
  deep_command : (ws : List Word) → IsSpelled line ws → IsDeepAsk ws → IsCommandReading line (at_fault too_deep)
  faulty_command : {e : Fault} → IsAtFault line (HasCommand line) e → IsCommandReading line (at_fault e)

-- a command line that takes no memory: blank, a comment, or the one token `show`, `grid` or `dump`
abbrev pub TakesNoMemory : List ℕ → Type 0
TakesNoMemory line = IsNothing line ⊎ (IsOneName line (codes "show") ⊎ (IsOneName line (codes "grid") ⊎ IsOneName line (codes "dump")))

-- a command that starts with the word, and what stands behind that
abbrev pub Asks : List ℕ → Asked → List Word → Type 0
Asks start a ws = (command_keyword a ≡ start) × FollowsCommand a ws

-- the commands that are one word
abbrev pub IsAlone : Asked → Type 0
IsAlone asks_show = Unit {0}
IsAlone asks_grid = Unit {0}
IsAlone asks_json = Unit {0}
IsAlone asks_dump = Unit {0}
IsAlone asks_repairs = Unit {0}
IsAlone a = ⊥
