-- A run that replays an input refuses no sheet but the input's, and so none from which a run starts with budget enough.
use Rattle.std.proofs.Common.{◌≡◌, ◌≢◌, ℕ, ◌≤◌, inl, inr, List, ◌++◌, Some, None, Option, refl, ◌∙◌, ap, subst, append_assoc}
use Rattle.std.specs.Io.KnownBytes.{Consumes, IsAtEnd}
use Rattle.pc_words.specs.Words.{replays, FitsWords}
use Rattle.pc_words.specs.Laws.{WordsFitOneRequest}
use Rattle.pc_refusals.specs.declared.refusal.SheetRefusal.{SheetRefusal}
use Rattle.pc_refusals.specs.declared.status.Status.{Status}
use Rattle.pc_refusals.specs.declared.status.Status.TheVariants.{SheetRefused}
use Rattle.pc_refusals.specs.Events.{Outside, Event, Happened}
use Rattle.pc_refusals.specs.Stages.{Stage}
use Rattle.pc_refusals.specs.Runs.{Ran}
use Rattle.pc_run_laws.proofs.FlatLemmas.{happened-split}
use Rattle.pc_transcript.specs.Course.{IsSheetTaken, FromInput, awaits_sheet, keeps_sheet, has_sheet, Replay, needs_room, from_input}
use Rattle.pc_spreadsheet.specs.Tasks.{State, Starts}
use Rattle.pc_spreadsheet.specs.Allowed.{Notes, Allows, RefusesText}
use Rattle.pc_replay.specs.Course as asked
use Rattle.pc_run_laws.specs.Complete.{HasEnoughFor, TextsOfEnoughAreOpened}
use Rattle.pc_run_laws.specs.Runs.{FaultlessRunsAreAnswered}
use Rattle.pc_run_laws.specs.Inputs.{BeginsWithSheet, InputsHaveOneSheetPart, ReplaysOfEnoughAreAnswered}
use Rattle.pc_run_laws.proofs.Ending.{by_words}
use Rattle.pc_run_laws.proofs.Opening.{Refuses, of_sheet, of_run}
use Rattle.pc_run_laws.proofs.Running.{some_budget}

-- ---- what was taken of a known input

-- so much of it is left
record IsLeft (bytes taken : List ℕ) (input : Option (List ℕ)) : Type 0 where
  rest : List ℕ
  left : input ≡ Some rest
  is : bytes ≡ taken ++ rest

known_left : (bytes taken : List ℕ) (input : Option (List ℕ)) → Consumes (Some bytes) input taken → IsLeft bytes taken input
known_left bytes taken None takes = absurd takes
known_left bytes taken (Some rest) takes = record { rest = rest; left = refl; is = takes }

left_of : (bytes taken : List ℕ) (a m : Outside) → a.input ≡ Some bytes → Consumes a.input m.input taken → IsLeft bytes taken m.input
left_of bytes taken a m known takes = known_left bytes taken m.input (subst (λ (i : Option (List ℕ)). Consumes i m.input taken) known takes)

begins : (text bytes : List ℕ) (taken : List Event) (a b : Outside) → a.input ≡ Some bytes → IsSheetTaken text taken → Happened taken a b → BeginsWithSheet text bytes
begins text bytes taken a b known is happened = elim is.ends [
  | inl w ↦
      let h = subst (λ (es : List Event). Happened es a b) w.2 happened in
      let l = left_of bytes text a h.0 known h.1.1 in
      record { rest = l.rest; is = l.is; part = record { earlier = is.earlier; last = is.last; is = is.is; others = is.others; ends = inl (w.0, w.1) } }
  | inr w ↦
      let h = subst (λ (es : List Event). Happened es a b) w.1 happened in
      let l = left_of bytes text a h.0 known h.1.1 in
      record { rest = l.rest; is = l.is; part = record { earlier = is.earlier; last = is.last; is = is.is; others = is.others; ends = inr (w.0, subst IsAtEnd l.left h.1.2) } }
]

-- ---- the input's sheet

module _ (budget : ℕ) where
  -- the sheet's part of the input was taken, and its text may be refused
  record IsInputRefusal (events : List Event) : Type 0 where
    text : List ℕ
    taken : List Event
    more : List Event
    why : SheetRefusal
    said : List ℕ
    old : Notes
    new : Notes
    takes : IsSheetTaken text taken
    are : events ≡ taken ++ more
    refuses : RefusesText budget text why said old new

  longer : (events more : List Event) → IsInputRefusal events → IsInputRefusal (events ++ more)
  longer events more r = record {
    text = r.text;
    taken = r.taken;
    more = r.more ++ more;
    why = r.why;
    said = r.said;
    old = r.old;
    new = r.new;
    takes = r.takes;
    are = ap (λ (es : List Event). es ++ more) r.are ∙ append_assoc r.taken r.more more;
    refuses = r.refuses;
  }

  of_input : (notes : Notes) (events : List Event) (stage : Stage) (notes' : Notes) → FromInput (Starts budget) (RefusesText budget) Allows notes events stage notes' → Refuses IsInputRefusal events stage
  of_input notes events stage notes' (awaits_sheet earlier others small is) = tt
  of_input notes events stage notes' (keeps_sheet text front small is) = tt
  of_input notes events stage notes' (has_sheet text taken more takes from is) =
      of_sheet IsInputRefusal budget text events more (λ why said old new has. record { text = text; taken = taken; more = more; why = why; said = said; old = old; new = new; takes = takes; are = is; refuses = has }) notes stage notes' from

  of_replay : (notes : Notes) (events : List Event) (stage : Stage) (notes' : Notes) → Replay (Starts budget) (RefusesText budget) Allows notes events stage notes' → Refuses IsInputRefusal events stage
  of_replay notes events stage notes' (needs_room is) = tt
  of_replay notes events stage notes' (from_input from) = of_input notes events stage notes' from

  not_this : InputsHaveOneSheetPart → TextsOfEnoughAreOpened → 1 ≤ budget → (text bytes : List ℕ) (state : State) (events spare : List Event) (a b : Outside) → a.input ≡ Some bytes → BeginsWithSheet text bytes → Starts budget text state → HasEnoughFor budget text
      → Happened (events ++ spare) a b → IsInputRefusal events → ⊥
  not_this one opened some text bytes state events spare a b known begun starts enough happened r =
      let apart : events ++ spare ≡ r.taken ++ (r.more ++ spare) = ap (λ (es : List Event). es ++ spare) r.are ∙ append_assoc r.taken r.more spare in
      let two = happened-split r.taken (r.more ++ spare) a b (subst (λ (es : List Event). Happened es a b) apart happened) in
      let same : r.text ≡ text = one r.text text bytes (begins r.text bytes r.taken a two.0 known r.takes two.1) begun in
      opened budget text state some starts enough r.why r.said r.old r.new (subst (λ (t : List ℕ). RefusesText budget t r.why r.said r.old r.new) same r.refuses)

not_refused : WordsFitOneRequest → InputsHaveOneSheetPart → TextsOfEnoughAreOpened → (words : List (List ℕ)) (text bytes : List ℕ) (budget : ℕ) (state : State) (status : Status) (notes notes' : Notes) (a b : Outside) → FitsWords words record { mode = replays; budget = budget }
    → a.input ≡ Some bytes → BeginsWithSheet text bytes → Starts budget text state → HasEnoughFor budget text → (most : ℕ) → Ran (asked.Course words notes) most status notes' a b → status ≢ SheetRefused
not_refused fit one opened words text bytes budget state status notes notes' a b fits known begun starts enough most ran e =
    not_this budget one opened (some_budget words record { mode = replays; budget = budget } fits) text bytes state ran.events ran.spare a b known begun starts enough ran.happened
    (of_run (IsInputRefusal budget) (longer budget) (asked.Course words notes) (by_words fit words record { mode = replays; budget = budget } fits notes tt (of_replay budget notes)) ran.events status notes' ran.run e)

pub replays_end : WordsFitOneRequest → InputsHaveOneSheetPart → TextsOfEnoughAreOpened → FaultlessRunsAreAnswered → ReplaysOfEnoughAreAnswered
replays_end fit one opened answered words text bytes budget state status notes notes' before after fits known begun starts enough runs calm short =
    answered words record { mode = replays; budget = budget } status notes notes' before after fits tt runs calm short
    (not_refused fit one opened words text bytes budget state status notes notes' before after fits known begun starts enough runs.0 runs.2)
