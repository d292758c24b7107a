-- Runs over journals: no fault is on their courses.
use Rattle.std.proofs.Common.{ℕ, List, [], ◌∷◌, sym, subst}
use Rattle.std.specs.List.{list_any}
use Rattle.pc_refusals.specs.declared.refusal.SheetRefusal.{SheetRefusal}
use Rattle.pc_refusals.specs.declared.status.Status.TheVariants.{Done, SheetRefused}
use Rattle.pc_refusals.specs.Events.{Event}
use Rattle.pc_refusals.specs.Stages.{Stage}
use Rattle.pc_transcript.specs.Answer.{Answer, is_refused as was_refused, is_no_memory}
use Rattle.pc_transcript.specs.Transcript.{Transcript}
use Rattle.pc_collab.specs.Journal.{Post}
use Rattle.pc_journal.specs.Course as journal
use Rattle.pc_journal.specs.PostLines.{lines_of_posts}
use Rattle.pc_journal.specs.Course.{answers_told, AnswersHeld, MergeBoth, MergeText, Merge, PostText, Posts}
use Rattle.pc_run_laws.proofs.CauseLemmas.{AreCalm, IsFine, EndsFine, worse_fine}

refused_fine : IsFine SheetRefused
refused_fine = ((λ e. absurd (cc e)), (λ e. absurd (cc e)))

done_fine : IsFine Done
done_fine = ((λ e. absurd (cc e)), (λ e. absurd (cc e)))

module _ {N : Type 0} where
  file_calmly : (lack file : List ℕ) (Rest : List ℕ → List Event → Stage → N → Type 0) → ((text : List ℕ) (events : List Event) (stage : Stage) (notes : N) → Rest text events stage notes → AreCalm events × EndsFine stage)
      → (notes : N) (events : List Event) (stage : Stage) (notes' : N) → journal.FromFile lack file Rest notes events stage notes' → AreCalm events × EndsFine stage
  file_calmly lack file Rest so notes events stage notes' (journal.needs_file_memory is) = (subst AreCalm (sym is) tt, tt)
  file_calmly lack file Rest so notes events stage notes' (journal.awaits_file is) = (subst AreCalm (sym is) tt, tt)
  file_calmly lack file Rest so notes events stage notes' (journal.has_file text more small h is) =
      let rest = so text more stage notes' h in
      (subst AreCalm (sym is) (tt, rest.0), rest.1)

  input_calmly : (Rest : List Post → List Event → Stage → N → Type 0) → ((a : List Post) (events : List Event) (stage : Stage) (notes : N) → Rest a events stage notes → AreCalm events × EndsFine stage)
      → (notes : N) (events : List Event) (stage : Stage) (notes' : N) → journal.FromInput Rest notes events stage notes' → AreCalm events × EndsFine stage
  input_calmly Rest so notes events stage notes' (journal.awaits_journal is) = (subst AreCalm (sym is) tt, tt)
  input_calmly Rest so notes events stage notes' (journal.needs_memory some few is) = (subst AreCalm (sym is) (tt, tt), tt)
  input_calmly Rest so notes events stage notes' (journal.is_refused text line fault small first is) = (subst AreCalm (sym is) (tt, tt), refused_fine)
  input_calmly Rest so notes events stage notes' (journal.has_journal text a more small reads h is) =
      let rest = so a more stage notes' h in
      (subst AreCalm (sym is) (tt, rest.0), rest.1)

-- ---- the mode that merges

both_calmly : (a b : List Post) (events : List Event) (stage : Stage) (u : Unit {0}) → MergeBoth a b events stage u → AreCalm events × EndsFine stage
both_calmly a b events stage u (journal.needs_memory_for_both is) = (subst AreCalm (sym is) tt, tt)
both_calmly a b events stage u (journal.differs author number differ is) = (subst AreCalm (sym is) tt, refused_fine)
both_calmly a b events stage u (journal.is_merged merged merge is) = (subst AreCalm (sym is) tt, done_fine)

text_calmly : (text : List ℕ) (events : List Event) (stage : Stage) (u : Unit {0}) → MergeText text events stage u → AreCalm events × EndsFine stage
text_calmly text events stage u (journal.needs_memory_for_text is) = (subst AreCalm (sym is) tt, tt)
text_calmly text events stage u (journal.text_is_refused line fault first is) = (subst AreCalm (sym is) tt, refused_fine)
text_calmly text events stage u (journal.text_is_journal a reads h) = input_calmly (MergeBoth a) (both_calmly a) tt events stage tt h

pub merge_calmly : (file : List ℕ) (events : List Event) (stage : Stage) (u : Unit {0}) → Merge file events stage u → AreCalm events × EndsFine stage
merge_calmly file events stage u h = file_calmly _ file MergeText text_calmly tt events stage u h

-- ---- the mode that answers posts

answers_calm : (t : Transcript) → AreCalm (answers_told t)
answers_calm [] = tt
answers_calm (pair ∷ more) = (tt, answers_calm more)

held_calmly : {S : Type 0} (Allows : S → List ℕ → Answer → S → Type 0) (start : S) (held : List (List ℕ)) (events : List Event) (stage : Stage) (end : S) → AnswersHeld Allows start held events stage end → AreCalm events × EndsFine stage
held_calmly Allows start held events stage end (journal.has_answer t mid line rest answer legal holds allowed is) = (subst AreCalm (sym is) (answers_calm t), tt)
held_calmly Allows start held events stage end (journal.has_all t legal are is) = (subst AreCalm (sym is) (answers_calm t), worse_fine (list_any (λ pair. is_no_memory pair.1) t) (list_any (λ pair. was_refused pair.1) t))

module _ {S N : Type 0} (IsSheet : List ℕ → S → Type 0) (Refuses : List ℕ → SheetRefusal → List ℕ → N → N → Type 0) (Allows : S × N → List ℕ → Answer → S × N → Type 0) where
  post_calmly : (notes : N) (text : List ℕ) (events : List Event) (stage : Stage) (notes' : N) → PostText IsSheet Refuses Allows notes text events stage notes' → AreCalm events × EndsFine stage
  post_calmly notes text events stage notes' (journal.needs_sheet_memory is) = (subst AreCalm (sym is) tt, tt)
  post_calmly notes text events stage notes' (journal.sheet_is_refused why more has is) = (subst AreCalm (sym is) tt, refused_fine)
  post_calmly notes text events stage notes' (journal.has_sheet start end is h) =
      input_calmly (journal.AnswersPosts Allows (start, notes)) (λ a. held_calmly Allows (start, notes) (lines_of_posts a)) (start, notes) events stage (end, notes') h

  pub posts_calmly : (file : List ℕ) (notes : N) (events : List Event) (stage : Stage) (notes' : N) → Posts IsSheet Refuses Allows file notes events stage notes' → AreCalm events × EndsFine stage
  posts_calmly file notes events stage notes' h = file_calmly _ file (PostText IsSheet Refuses Allows notes) (post_calmly notes) notes events stage notes' h
