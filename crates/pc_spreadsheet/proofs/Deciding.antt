-- What the reading of a line shows of its answer.
use Rattle.std.proofs.Common.{◌≡◌, ℕ, ◌≤◌, List, [], ◌∷◌, Err, Option, None, refl, sym, ap, ap₂, subst, arith, inl, inr, ◌∙◌}
use Rattle.std.proofs.lemmas.List.Sums.{count_by-le-length}
use Rattle.pc_token.specs.declared.token.Kind.TheVariants.{Name}
use Rattle.pc_token.specs.Line.{IsOneName}
use Rattle.pc_formula.specs.Word.{Word, name, word, HasWords, nests, nesting}
use Rattle.pc_syntax.specs.declared.tree.CommandFault.{CommandFault}
use Rattle.pc_syntax.specs.declared.tree.CommandFault.TheVariants as command_fault
use Rattle.pc_syntax.specs.Spelling.{IsSpelled}
use Rattle.pc_syntax.specs.Tree.{Asked, asks_show, asks_grid, asks_dump}
use Rattle.pc_syntax.specs.Command.{CommandReading, no_command, asks, IsCommandReading, IsDeepAsk, empty_command, spelled_command, command_keyword, FollowsCommand, TakesNoMemory}
use Rattle.pc_syntax.specs.Told.{IsCommandTold}
use Rattle.pc_refusals.specs.declared.refusal.Refusal.{Refusal}
use Rattle.pc_transcript.specs.declared.machine.Reply.TheVariants.{Silent, Accepted, Shown, Refused, Memory}
use Rattle.pc_transcript.specs.Answer.{Answer, silent, IsToldBehind, IsAnswer, CanBeTold}
use Rattle.pc_sheet.specs.Sheet.{Sheet}
use Rattle.pc_spreadsheet.specs.Refused.{for_utf8, for_depth, for_syntax, for_asked}
use Rattle.pc_spreadsheet.specs.Tasks.{State}
use Rattle.pc_spreadsheet.specs.Pages.{IsPage, CanShow, IsCertificateAgainst, kind_of}
use Rattle.pc_spreadsheet.specs.Allowed.{Notes, Allows, RefusesLine, as_judged, as_contradiction, as_spent, as_proof_spent, as_ask_spent}
use Rattle.pc_spreadsheet.specs.Commands.{Told, MayWantMemory, Obeys, RefusesAsked, judged, contradicted, spent, proof_spent, ask_spent, reply_to}

-- ---- lines that are no command

pub silent_line : (old : State × Notes) (line : List ℕ) (answer : Answer) → IsCommandReading line no_command → answer ≡ silent → Allows old line answer old
silent_line old line answer reading is = rw is (reading, refl)

pub faulty_line : (old : State × Notes) (line : List ℕ) (fault : CommandFault) (answer : Answer) → IsCommandTold line (Err fault) → (TakesNoMemory line → fault ≡ command_fault.Memory → ⊥) → IsAnswer IsPage IsCertificateAgainst old.0 (reply_to fault) answer → Allows old line answer old
faulty_line old line command_fault.NotUtf8 answer told takes is = rw is.2 (as_judged (for_utf8 told) is.1 refl)
faulty_line old line command_fault.TooDeep answer told takes is = rw is.2 (as_judged (for_depth told) is.1 refl)
faulty_line old line command_fault.Syntax answer told takes is = rw is.2 (as_judged (for_syntax told) is.1 refl)
faulty_line old line command_fault.Memory answer told takes is = rw is (λ none. takes none refl, refl)

-- ---- lines of one name

one_name_has : (text n : List ℕ) → word Name n ≡ name n → IsOneName text n → HasWords text (name n ∷ [])
one_name_has text n known one = record {
  tokens = one.0 ∷ [];
  splits = one.1;
  words = ap (λ w. w ∷ []) (sym known) ∙ sym (ap₂ (λ k s. word k s ∷ []) one.2 one.3);
}

-- a line of the one name that starts a command, among spelled lines
lone_reading : (line : List ℕ) (ws : List Word) (a : Asked) → IsSpelled line ws → word Name (command_keyword a) ≡ name (command_keyword a) → FollowsCommand a [] → IsOneName line (command_keyword a) → IsCommandReading line (asks a)
lone_reading line ws a spelled known follows one =
    let few : nesting (name (command_keyword a) ∷ []) ≤ 1 = count_by-le-length nests (name (command_keyword a) ∷ []) in
    spelled_command (name (command_keyword a) ∷ []) record {
      split = record { utf8 = spelled.split.utf8; something = spelled.split.something; has = one_name_has line (command_keyword a) known one };
      within = omega (arith, few);
    } record { rest = []; words = refl; follows = follows } (λ (d : IsDeepAsk (name (command_keyword a) ∷ [])). absurd (omega (arith, few, d.deep)))

-- ---- commands that may want memory

abbrev WantsIn : Sheet → CommandReading → Type 0
WantsIn sheet (asks a) = MayWantMemory sheet a
WantsIn sheet reading = ⊥

-- one of these wants none
showing_wants : (sheet : Sheet) → ¬ MayWantMemory sheet asks_show
showing_wants sheet may = elim may.2 [ ]

grid_wants : (sheet : Sheet) → ¬ MayWantMemory sheet asks_grid
grid_wants sheet may = elim may.2 [ ]

dumping_wants : (sheet : Sheet) → ¬ MayWantMemory sheet asks_dump
dumping_wants sheet may = elim may.2 [ ]

module _ (sheet : Sheet) (line : List ℕ) (a : Asked) (may : MayWantMemory sheet a) (only : (r : CommandReading) → IsCommandReading line r → r ≡ asks a) where
  lone : (ws : List Word) → IsSpelled line ws → ¬ TakesNoMemory line
  lone ws spelled takes = elim takes [
    | inl n ↦ subst (WantsIn sheet) (sym (only no_command (empty_command n))) may
    | inr names ↦ elim names [
      | inl show ↦ showing_wants sheet (subst (WantsIn sheet) (sym (only (asks asks_show) (lone_reading line ws asks_show spelled refl refl show))) may)
      | inr others ↦ elim others [
        | inl grid ↦ grid_wants sheet (subst (WantsIn sheet) (sym (only (asks asks_grid) (lone_reading line ws asks_grid spelled refl refl grid))) may)
        | inr dump ↦ dumping_wants sheet (subst (WantsIn sheet) (sym (only (asks asks_dump) (lone_reading line ws asks_dump spelled refl refl dump))) may)
      ]
    ]
  ]

takes_memory : (sheet : Sheet) (line : List ℕ) (a : Asked) → MayWantMemory sheet a → IsCommandReading line (asks a) → ((r : CommandReading) → IsCommandReading line r → r ≡ asks a) → ¬ TakesNoMemory line
takes_memory sheet line a may (spelled_command ws spelled is shallow) only = lone sheet line a may only ws spelled

-- ---- commands

no_more : (proof : Option Sheet) (more : List ℕ) → proof ≡ None → IsToldBehind IsCertificateAgainst proof more → more ≡ []
no_more proof more none follows = subst (λ (p : Option Sheet). IsToldBehind IsCertificateAgainst p more) none follows

refused_line : (old new : State × Notes) (line : List ℕ) (a : Asked) (why : Refusal) (proof : Option Sheet) (more : List ℕ) → IsCommandReading line (asks a) → RefusesAsked old a why proof new → IsToldBehind IsCertificateAgainst proof more → RefusesLine old line why more new
refused_line old new line a why proof more reading (judged is none same) follows = as_judged (for_asked a reading is) (no_more proof more none follows) same
refused_line old new line a why proof more reading (contradicted r makes is shows same) follows =
    as_contradiction r (a, reading, makes) (subst (λ (p : Option Sheet). IsToldBehind IsCertificateAgainst p more) shows follows) is same
refused_line old new line a why proof more reading (spent counts spends is none same) follows = as_spent counts (a, reading, spends) is (no_more proof more none follows) same
refused_line old new line a why proof more reading (proof_spent counts spends is none same) follows = as_proof_spent counts (a, reading, spends) is (no_more proof more none follows) same
refused_line old new line a why proof more reading (ask_spent counts spends is none same) follows = as_ask_spent counts (a, reading, spends) is (no_more proof more none follows) same

pub obeyed_line : (old new : State × Notes) (line : List ℕ) (a : Asked) (reply : Told) (answer : Answer) → IsCommandReading line (asks a) → ((r : CommandReading) → IsCommandReading line r → r ≡ asks a)
    → Obeys old a reply new → IsAnswer IsPage IsCertificateAgainst new.0 reply answer → Allows old line answer new
obeyed_line old new line a Accepted answer reading only does is = rw is (does.0, (a, reading, does.1), does.2, does.3)
obeyed_line old new line a (Shown page) answer reading only does is = rw is.2 (kind_of page, (a, reading, does.0), subst (λ (s : State × Notes). IsPage page s.0 is.0) does.2 is.1, does.2)
obeyed_line old new line a (Refused why proof) answer reading only does is = rw is.2 (refused_line old new line a why proof is.0 reading does is.1)
obeyed_line old new line a Memory answer reading only does is = rw is (takes_memory old.0.sheet line a does.0 reading only, does.1)
obeyed_line old new line a Silent answer reading only does is = absurd does

-- a page that is shown can be
pub can_be_told : (old new : State × Notes) (a : Asked) (reply : Told) → Obeys old a reply new → CanBeTold CanShow new.0 reply
can_be_told old new a (Shown page) does = subst (λ (s : State × Notes). CanShow page s.0) (sym does.2) does.1
can_be_told old new a Accepted does = tt
can_be_told old new a (Refused why proof) does = tt
can_be_told old new a Memory does = tt
can_be_told old new a Silent does = tt

pub fault_can_be_told : (state : State) (fault : CommandFault) → CanBeTold CanShow state (reply_to fault)
fault_can_be_told state command_fault.NotUtf8 = tt
fault_can_be_told state command_fault.TooDeep = tt
fault_can_be_told state command_fault.Syntax = tt
fault_can_be_told state command_fault.Memory = tt
