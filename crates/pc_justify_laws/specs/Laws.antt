-- What a search derives is accepted.
use Rattle.std.specs.Prelude.{◌≡◌, ℕ, ◌<◌, ◌^◌, List, [], map, length, All}
use Rattle.pc_sheet.specs.Sheet.{Sheet}
use Rattle.pc_sheet.specs.Entailment.{IsSublist, Shows, IsLeastSupport}
use Rattle.pc_sheet.specs.WellFormed.{IsWellFormed}
use Rattle.pc_sheet.specs.declared.ids.ValueId.{ValueId}
use Rattle.pc_sheet.specs.declared.ids.Entry.{Entry}
use Rattle.pc_sheet.specs.declared.ids.Target.{Target}
use Rattle.pc_lits.specs.declared.literal.Var.{Var}
use Rattle.pc_log.specs.Lines.{LogLine}
use Rattle.pc_log.specs.Trimmed.{IsTrimmed}
use Rattle.pc_log.specs.Derivations.{clause_of_line, IsDerivation}
use Rattle.pc_accept.specs.Literals.{Literal}
use Rattle.pc_accept.specs.Accepts as accepts
use Rattle.pc_accept.specs.Accepts.{DerivesBeside, AcceptsAgainst, Accepts}
use Rattle.pc_accept.specs.Laws.{ShowsOthers}
use Rattle.pc_ground.specs.Variables.{variable_count}
use Rattle.pc_ground.specs.Ground.{clauses}
use Rattle.pc_ground.specs.Naming.{names_of}
use Rattle.pc_reason.specs.Derivation.{literal_named, line_named, AreLinesNamedBeside, AreLinesNamed, entries_from}
use Rattle.pc_reason.specs.Reasons.{Justifies}
use Rattle.pc_reason.specs.Targets.{IsTargetIn}
use Rattle.pc_accept.specs.Writable.{AreLinesBeside, AreLinesOf, IsWritableCertificate}
use Rattle.pc_reason.specs.Refutations.{certificate_against}
use Rattle.pc_reason.specs.Written.{AreOfSheet}
use Rattle.pc_justify_laws.specs.Found.{clause_at_place, RestsOnNamedBeside, RestsOnNamed, IsDerivedBeside, IsDerivedAt, AreBlocksNamed, IsOfTarget, IsOfEntries, HasBlocksBelow, HasNoBlock, StepsAreOver}

-- the names of the lines' clauses
abbrev pub clauses_named : Sheet → List LogLine → List (List Literal)
clauses_named sheet lines = map (map (literal_named (names_of sheet))) (map (clause_of_line (clauses sheet)) lines)

-- a derivation from the sheet's clauses by number is one by name
abbrev pub NamedLinesDerive : Type 0
NamedLinesDerive = (sheet : Sheet) (lines : List LogLine) → IsDerivation (clauses sheet) lines → AreLinesNamed (names_of sheet) lines
    → accepts.AreLineClauses sheet (map (line_named (names_of sheet)) lines) (clauses_named sheet lines)

-- What a line that derives a target from its least support rests on, trimmed into an empty log, justifies the target: named, it makes an
-- accepted certificate, with whatever fitting assignment has the support. It can be written where the names are of what the sheet has.
abbrev pub TrimmedLinesJustify : Type 0
TrimmedLinesJustify = (sheet : Sheet) (t : Target) (support : List Entry) (shown : List ValueId) (log lines : List LogLine) (last : ℕ)
    → IsWellFormed sheet → AreOfSheet sheet (names_of sheet) → IsTargetIn sheet.universe t → IsLeastSupport sheet support t → Shows sheet support shown
    → length log < 10 ^ 18 → IsDerivedAt sheet log last → IsOfTarget sheet support t (clause_at_place (clauses sheet) log last) → IsTrimmed log last [] lines
    → Justifies sheet (names_of sheet) t (record { support = support; shown = shown; lines = lines })

-- what a line with the empty clause rests on makes an accepted certificate of inconsistency
abbrev pub TrimmedLinesRefute : Type 0
TrimmedLinesRefute = (sheet : Sheet) (log lines : List LogLine) (last : ℕ)
    → AreOfSheet sheet (names_of sheet) → length log < 10 ^ 18 → IsDerivedAt sheet log last → clause_at_place (clauses sheet) log last ≡ [] → IsTrimmed log last [] lines
    → AreLinesNamed (names_of sheet) lines × Accepts sheet (certificate_against (names_of sheet) lines) × IsWritableCertificate sheet (certificate_against (names_of sheet) lines)

-- Beside these clauses the lines, by name, derive the empty clause; all that they name is the sheet's, and their numbers aren't too long.
pub record RefuteBeside (sheet : Sheet) (blocks : List (List Literal)) (lines : List LogLine) : Type 0 where
  pub named : AreLinesNamedBeside (length blocks) (names_of sheet) lines
  pub derives : DerivesBeside sheet blocks (map (line_named (names_of sheet)) lines) []
  pub written : AreLinesBeside sheet (length blocks) 0 (map (line_named (names_of sheet)) lines)
  pub few : length (map (line_named (names_of sheet)) lines) < 10 ^ 18

-- what a line with the empty clause rests on, beside the clauses that the log's blocks are
abbrev pub TrimmedLinesDeriveBeside : Type 0
TrimmedLinesDeriveBeside = (sheet : Sheet) (blocks : List (List Literal)) (log lines : List LogLine) (last : ℕ)
    → AreOfSheet sheet (names_of sheet) → length log < 10 ^ 18 → IsDerivedBeside sheet (length blocks) log last → AreBlocksNamed sheet blocks log
    → clause_at_place (clauses sheet) log last ≡ [] → IsTrimmed log last [] lines → RefuteBeside sheet blocks lines

-- By name, the lines are accepted against a rule of these entries, with this assignment; all that they name is the sheet's.
pub record DeriveAgainst (sheet : Sheet) (r : ℕ) (support : List Entry) (shown : List ValueId) (lines : List LogLine) : Type 0 where
  pub named : AreLinesNamed (names_of sheet) lines
  pub accepted : AcceptsAgainst sheet r support (entries_from 0 shown) (map (line_named (names_of sheet)) lines)
  pub written : AreLinesOf sheet 0 (map (line_named (names_of sheet)) lines)
  pub few : length (map (line_named (names_of sheet)) lines) < 10 ^ 18

-- what a line rests on whose clause lies within the negated entries, where an assignment has them and makes the other rules true
abbrev pub TrimmedLinesAreAgainst : Type 0
TrimmedLinesAreAgainst = (sheet : Sheet) (r : ℕ) (support : List Entry) (shown : List ValueId) (log lines : List LogLine) (last : ℕ)
    → IsWellFormed sheet → AreOfSheet sheet (names_of sheet) → r < length sheet.rules → IsSublist sheet.entries support → ShowsOthers sheet r support shown
    → length log < 10 ^ 18 → IsDerivedAt sheet log last → IsOfEntries sheet support (clause_at_place (clauses sheet) log last) → IsTrimmed log last [] lines
    → DeriveAgainst sheet r support shown lines

-- in a derivation whose blocks have numbers below a bound, and whose steps are over variables of the sheet, each line has names
abbrev pub OwnLinesAreNamedBeside : Type 0
OwnLinesAreNamedBeside = (sheet : Sheet) (sets : ℕ) (own : List Var) (log : List LogLine) (last : ℕ) → IsDerivation (clauses sheet) log → HasBlocksBelow sets log
    → All (λ v. v.0 < variable_count sheet) own → StepsAreOver own log → RestsOnNamedBeside sets (names_of sheet) log last

-- in a derivation without blocks whose steps are over variables of the sheet each line has names
abbrev pub OwnLinesAreNamed : Type 0
OwnLinesAreNamed = (sheet : Sheet) (own : List Var) (log : List LogLine) (last : ℕ) → IsDerivation (clauses sheet) log → HasNoBlock log
    → All (λ v. v.0 < variable_count sheet) own → StepsAreOver own log → RestsOnNamed (names_of sheet) log last

-- variables and axioms are named by what the sheet has
abbrev pub NamesAreOfTheirSheet : Type 0
NamesAreOfTheirSheet = (sheet : Sheet) → IsWellFormed sheet → AreOfSheet sheet (names_of sheet)
