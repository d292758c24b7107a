-- Runs over journals: what they take in is within its limits.
use Rattle.std.proofs.Common.{◌≡◌, ℕ, ◌≤◌, List, [], ◌∷◌, ◌++◌, length, sym, ◌∙◌, ap, arith, drop}
use Rattle.std.specs.List.{list_any}
use Rattle.pc_collab.specs.declared.TheConstants.{JOURNAL_LIMIT}
use Rattle.pc_collab.specs.Journal.{Post}
use Rattle.pc_refusals.specs.declared.refusal.SheetRefusal.{SheetRefusal}
use Rattle.pc_refusals.specs.Events.{Event, took, took_rest, gave, told, input_failed, shelf_failed, output_failed}
use Rattle.pc_refusals.specs.Stages.{Intake, rest_within, Stage, takes, PassesLimit}
use Rattle.pc_transcript.specs.Answer.{Answer, is_refused as was_refused, is_no_memory}
use Rattle.pc_journal.specs.Course as journal
use Rattle.pc_journal.specs.Course.{AnswersHeld, MergeBoth, MergeText, Merge, PostText, Posts}
use Rattle.pc_run_laws.specs.Flat.{taken_of}
use Rattle.pc_run_laws.proofs.CourseLimits.{nothing_there, first_is, EndsOtherwise, StaysWithin}
use Rattle.pc_run_laws.proofs.Within.{not_too_long, worse_otherwise}

-- ---- all of the input

-- so much of an input passes no limit that it is within
pub rest_within_limit : (limit : ℕ) (text : List ℕ) (event : Event) → length text ≤ limit → took text ≡ event → PassesLimit (rest_within limit) event → ⊥
rest_within_limit limit text (took bytes) few is passes = omega (arith, few, ap length (ap taken_of is), passes.0)
rest_within_limit limit text (took_rest bytes) few is passes = passes
rest_within_limit limit text (gave name given) few is passes = passes
rest_within_limit limit text (told piece) few is passes = passes
rest_within_limit limit text input_failed few is passes = passes
rest_within_limit limit text (shelf_failed name) few is passes = passes
rest_within_limit limit text output_failed few is passes = passes

-- nor does all of it
pub whole_rest_within : (limit : ℕ) (text : List ℕ) (event : Event) → took_rest text ≡ event → PassesLimit (rest_within limit) event → ⊥
whole_rest_within limit text (took bytes) is passes = absurd (cc is)
whole_rest_within limit text (took_rest bytes) is passes = passes
whole_rest_within limit text (gave name given) is passes = passes
whole_rest_within limit text (told piece) is passes = passes
whole_rest_within limit text input_failed is passes = passes
whole_rest_within limit text (shelf_failed name) is passes = passes
whole_rest_within limit text output_failed is passes = passes

-- ---- what both modes begin with

module _ {N : Type 0} where
  -- what comes behind takes in nothing
  input_within : (Rest : List Post → List Event → Stage → N → Type 0) → ((a : List Post) (events : List Event) (intake : Intake) (n : N) → Rest a events (takes intake) n → ⊥)
      → (notes notes' : N) (events earlier later : List Event) (event : Event) (intake : Intake) (stage : Stage) (n m : N) → journal.FromInput Rest notes events stage n → (Other : List Post → List Event → Stage → N → Type 0) → ((a : List Post) (events : List Event) (intake : Intake) (n : N) → Other a events (takes intake) n → ⊥)
      → journal.FromInput Other notes' earlier (takes intake) m → events ≡ earlier ++ event ∷ later → PassesLimit intake event → ⊥
  input_within Rest none notes notes' events earlier later event intake stage n m so Other also (journal.has_journal text a more small reads late is) e passes = also a more intake m late
  input_within Rest none notes notes' events earlier later event intake stage n m (journal.awaits_journal is) Other also (journal.awaits_journal late_is) e passes = nothing_there earlier later event (sym is ∙ e)
  input_within Rest none notes notes' events earlier later event intake stage n m (journal.needs_memory some few is) Other also (journal.awaits_journal late_is) e passes =
      rest_within_limit JOURNAL_LIMIT some event few (first_is (took some) event [] later (sym is ∙ e ∙ ap (λ (es : List Event). es ++ event ∷ later) late_is)) passes
  input_within Rest none notes notes' events earlier later event intake stage n m (journal.is_refused text line fault small first is) Other also (journal.awaits_journal late_is) e passes =
      whole_rest_within JOURNAL_LIMIT text event (first_is (took_rest text) event [] later (sym is ∙ e ∙ ap (λ (es : List Event). es ++ event ∷ later) late_is)) passes
  input_within Rest none notes notes' events earlier later event intake stage n m (journal.has_journal text a more small reads so is) Other also (journal.awaits_journal late_is) e passes =
      whole_rest_within JOURNAL_LIMIT text event (first_is (took_rest text) event more later (sym is ∙ e ∙ ap (λ (es : List Event). es ++ event ∷ later) late_is)) passes

  input_otherwise : (Rest : List Post → List Event → Stage → N → Type 0) → ((a : List Post) (events : List Event) (stage : Stage) (n : N) → Rest a events stage n → EndsOtherwise stage)
      → (notes : N) (events : List Event) (stage : Stage) (n : N) → journal.FromInput Rest notes events stage n → EndsOtherwise stage
  input_otherwise Rest so notes events stage n (journal.awaits_journal is) = tt
  input_otherwise Rest so notes events stage n (journal.needs_memory some few is) = tt
  input_otherwise Rest so notes events stage n (journal.is_refused text line fault small first is) = λ e. absurd (cc e)
  input_otherwise Rest so notes events stage n (journal.has_journal text a more small reads h is) = so a more stage n h

  pub file_stays : (lack file : List ℕ) (Rest : List ℕ → List Event → Stage → N → Type 0)
      → ((text text' : List ℕ) (events earlier later : List Event) (event : Event) (intake : Intake) (stage : Stage) (n m : N) → Rest text events stage n → Rest text' earlier (takes intake) m → events ≡ earlier ++ event ∷ later → PassesLimit intake event → ⊥)
      → ((text : List ℕ) (events : List Event) (stage : Stage) (n : N) → Rest text events stage n → EndsOtherwise stage) → (notes : N) → StaysWithin (journal.FromFile lack file Rest notes)
  file_stays lack file Rest stays ends notes = record { within = within; otherwise = otherwise }
    where
      within : (events earlier later : List Event) (event : Event) (intake : Intake) (stage : Stage) (n m : N) → journal.FromFile lack file Rest notes events stage n → journal.FromFile lack file Rest notes earlier (takes intake) m → events ≡ earlier ++ event ∷ later → PassesLimit intake event → ⊥
      within events earlier later event intake stage n m (journal.needs_file_memory is) late e passes = nothing_there earlier later event (sym is ∙ e)
      within events earlier later event intake stage n m (journal.awaits_file is) late e passes = nothing_there earlier later event (sym is ∙ e)
      within events earlier later event intake stage n m (journal.has_file text more small so is) (journal.awaits_file late_is) e passes =
          not_too_long file text event small (first_is (gave file text) event more later (sym is ∙ e ∙ ap (λ (es : List Event). es ++ event ∷ later) late_is)) passes
      within events earlier later event intake stage n m (journal.has_file text more small so is) (journal.has_file text' more' small' late late_is) e passes =
          stays text text' more more' later event intake stage n m so late (ap (drop 1) (sym is ∙ e ∙ ap (λ (es : List Event). es ++ event ∷ later) late_is)) passes

      otherwise : (events : List Event) (stage : Stage) (n : N) → journal.FromFile lack file Rest notes events stage n → EndsOtherwise stage
      otherwise events stage n (journal.needs_file_memory is) = tt
      otherwise events stage n (journal.awaits_file is) = tt
      otherwise events stage n (journal.has_file text more small so is) = ends text more stage n so

-- ---- the mode that merges

both_take_nothing : (a b : List Post) (events : List Event) (intake : Intake) (u : Unit {0}) → MergeBoth a b events (takes intake) u → ⊥
both_take_nothing a b events intake u so = elim so [ ]

both_otherwise : (a b : List Post) (events : List Event) (stage : Stage) (u : Unit {0}) → MergeBoth a b events stage u → EndsOtherwise stage
both_otherwise a b events stage u (journal.needs_memory_for_both is) = tt
both_otherwise a b events stage u (journal.differs author number differ is) = λ e. absurd (cc e)
both_otherwise a b events stage u (journal.is_merged merged merge is) = λ e. absurd (cc e)

text_within : (text text' : List ℕ) (events earlier later : List Event) (event : Event) (intake : Intake) (stage : Stage) (u v : Unit {0}) → MergeText text events stage u → MergeText text' earlier (takes intake) v → events ≡ earlier ++ event ∷ later → PassesLimit intake event → ⊥
text_within text text' events earlier later event intake stage u v (journal.needs_memory_for_text is) late e passes = nothing_there earlier later event (sym is ∙ e)
text_within text text' events earlier later event intake stage u v (journal.text_is_refused line fault first is) late e passes = nothing_there earlier later event (sym is ∙ e)
text_within text text' events earlier later event intake stage u v (journal.text_is_journal a reads so) (journal.text_is_journal a' reads' late) e passes =
    input_within (MergeBoth a) (both_take_nothing a) tt tt events earlier later event intake stage tt tt so (MergeBoth a') (both_take_nothing a') late e passes

text_otherwise : (text : List ℕ) (events : List Event) (stage : Stage) (u : Unit {0}) → MergeText text events stage u → EndsOtherwise stage
text_otherwise text events stage u (journal.needs_memory_for_text is) = tt
text_otherwise text events stage u (journal.text_is_refused line fault first is) = λ e. absurd (cc e)
text_otherwise text events stage u (journal.text_is_journal a reads so) = input_otherwise (MergeBoth a) (both_otherwise a) tt events stage tt so

pub merge_stays : (file : List ℕ) → StaysWithin (Merge file)
merge_stays file = file_stays _ file MergeText text_within text_otherwise tt

-- ---- the mode that answers posts

held_take_nothing : {S : Type 0} (Allows : S → List ℕ → Answer → S → Type 0) (start : S) (held : List (List ℕ)) (events : List Event) (intake : Intake) (end : S) → AnswersHeld Allows start held events (takes intake) end → ⊥
held_take_nothing Allows start held events intake end so = elim so [ ]

held_otherwise : {S : Type 0} (Allows : S → List ℕ → Answer → S → Type 0) (start : S) (held : List (List ℕ)) (events : List Event) (stage : Stage) (end : S) → AnswersHeld Allows start held events stage end → EndsOtherwise stage
held_otherwise Allows start held events stage end (journal.has_answer t mid line rest answer legal so allowed is) = tt
held_otherwise Allows start held events stage end (journal.has_all t legal all is) = worse_otherwise (list_any (λ pair. is_no_memory pair.1) t) (list_any (λ pair. was_refused pair.1) t)

module _ {S N : Type 0} (IsSheet : List ℕ → S → Type 0) (Refuses : List ℕ → SheetRefusal → List ℕ → N → N → Type 0) (Allows : S × N → List ℕ → Answer → S × N → Type 0) where
  posts_within : (notes : N) (text text' : List ℕ) (events earlier later : List Event) (event : Event) (intake : Intake) (stage : Stage) (n m : N) → PostText IsSheet Refuses Allows notes text events stage n → PostText IsSheet Refuses Allows notes text' earlier (takes intake) m
      → events ≡ earlier ++ event ∷ later → PassesLimit intake event → ⊥
  posts_within notes text text' events earlier later event intake stage n m (journal.needs_sheet_memory is) late e passes = nothing_there earlier later event (sym is ∙ e)
  posts_within notes text text' events earlier later event intake stage n m (journal.sheet_is_refused why more has is) late e passes = nothing_there earlier later event (sym is ∙ e)
  posts_within notes text text' events earlier later event intake stage n m (journal.has_sheet start end is so) (journal.has_sheet start' end' is' late) e passes =
      input_within (journal.AnswersPosts Allows (start, notes)) (λ a es i x h. held_take_nothing Allows (start, notes) _ es i x h) (start, notes) (start', notes) events earlier later event intake stage (end, n) (end', m) so
      (journal.AnswersPosts Allows (start', notes)) (λ a es i x h. held_take_nothing Allows (start', notes) _ es i x h) late e passes

  posts_otherwise : (notes : N) (text : List ℕ) (events : List Event) (stage : Stage) (n : N) → PostText IsSheet Refuses Allows notes text events stage n → EndsOtherwise stage
  posts_otherwise notes text events stage n (journal.needs_sheet_memory is) = tt
  posts_otherwise notes text events stage n (journal.sheet_is_refused why more has is) = λ e. absurd (cc e)
  posts_otherwise notes text events stage n (journal.has_sheet start end is so) = input_otherwise (journal.AnswersPosts Allows (start, notes)) (λ a es st x h. held_otherwise Allows (start, notes) _ es st x h) (start, notes) events stage (end, n) so

  pub posts_stay : (file : List ℕ) (notes : N) → StaysWithin (Posts IsSheet Refuses Allows file notes)
  posts_stay file notes = file_stays _ file (PostText IsSheet Refuses Allows notes) (posts_within notes) (posts_otherwise notes) notes
