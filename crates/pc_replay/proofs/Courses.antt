-- What a run did, by its words.
use Rattle.std.proofs.Common.{◌≡◌, ◌≢◌, ◌≤◌, ℕ, List, [], refl, sym, subst, arith, Option}
use Rattle.pc_port.specs.Port.{Rose}
use Rattle.pc_port.specs.Shelf.{Files}
use Rattle.pc_words.specs.Words.{Request, FitOnly, FitNothing}
use Rattle.pc_refusals.specs.declared.status.Status.{Status}
use Rattle.pc_refusals.specs.declared.status.Status.TheVariants.{WriteFault, Usage, Memory}
use Rattle.pc_refusals.specs.Endings.{TellsAtEnd, memory_text}
use Rattle.pc_refusals.specs.Events.{Outside, Event, streams, outside}
use Rattle.pc_refusals.specs.Stages.{ends_with}
use Rattle.pc_refusals.specs.Runs.{Comes, on_course, without_memory, Ran}
use Rattle.pc_refusals.proofs.RunLemmas.{tells_last}
use Rattle.pc_refusals.proofs.Rans.{ran_by, ran_more}
use Rattle.pc_judge.specs.Course.{CheckOf}
use Rattle.pc_spreadsheet.specs.Allowed.{Notes}
use Rattle.pc_words.specs.Words.{checks, merges}
use Rattle.pc_journal.specs.Course.{Merge}
use Rattle.pc_replay.specs.Course.{usage_text, CourseIn, Course, without_fit, needs_memory, as_asked, most_ahead, IsMostAhead, Runs}

-- a check notes nothing
pub checks_for : (file : List ℕ) (budget : ℕ) (status : Status) (notes : Notes) (a b : Outside) → Ran (CheckOf file) 0 status tt a b → Ran (CourseIn (checks file) budget notes) 0 status notes a b
checks_for file budget status notes a b r = ran_more (CheckOf file) (CourseIn (checks file) budget notes) (λ (u : Unit {0}). notes) (λ events stage u c. (c, refl)) 0 status tt a b r

-- nor does a merge
pub merges_for : (file : List ℕ) (budget : ℕ) (status : Status) (notes : Notes) (a b : Outside) → Ran (Merge file) 0 status tt a b → Ran (CourseIn (merges file) budget notes) 0 status notes a b
merges_for file budget status notes a b r = ran_more (Merge file) (CourseIn (merges file) budget notes) (λ (u : Unit {0}). notes) (λ events stage u c. (c, refl)) 0 status tt a b r

module _ (words : List (List ℕ)) (status : Status) (notes notes' : Notes) where
  pub runs_as_asked : (request : Request) (a b : Outside) → FitOnly words request → Ran (CourseIn request.mode request.budget notes) (most_ahead request.mode) status notes' a b → Runs words status notes notes' a b
  runs_as_asked request a b only r =
      let fits = (only request).1 refl in
      let same_most : IsMostAhead words (most_ahead request.mode) = λ other fits_too. subst (λ (x : Request). most_ahead request.mode ≤ most_ahead x.mode) (sym ((only other).0 fits_too)) (omega arith) in (
        most_ahead request.mode,
        same_most,
        ran_more (CourseIn request.mode request.budget notes) (Course words notes) (λ (x : Notes). x) (λ events stage x c. as_asked request fits c) (most_ahead request.mode) status notes' a b r,
      )

module _ (words : List (List ℕ)) (result : Status) (notes : Notes) (k : Option Files) (a : List (List ℕ)) (f : ℕ) (l : Option (List ℕ)) (n : ℕ) (g g' : Option (List ℕ)) (m m' : ℕ) (rose : result ≡ WriteFault → Rose m m') (kept : result ≢ WriteFault → m' ≡ m) where
  -- one line alone is told
  tells_alone : (at : Status) (line : List ℕ) → Comes (Course words notes) [] (ends_with line at) notes → at ≢ WriteFault → TellsAtEnd at line result g g' → Runs words result notes notes (outside k a f (streams l n g m)) (outside k a f (streams l n g' m'))
  tells_alone at line comes other tells =
      let last = tells_last (Course words notes) [] at result line notes l n g g' m m' comes tells other rose kept in (
        0,
        (λ request fits. omega arith),
        ran_by (Course words notes) 0 result notes last.last (outside k a f (streams l n g m)) (outside k a f (streams l n g' m')) last.run (last.happened (outside k a f (streams l n g m))),
      )

  pub runs_without_fit : FitNothing words → TellsAtEnd Usage usage_text result g g' → Runs words result notes notes (outside k a f (streams l n g m)) (outside k a f (streams l n g' m'))
  runs_without_fit none tells = tells_alone Usage usage_text (on_course (without_fit none refl)) (λ e. absurd (cc e)) tells

  pub runs_without_memory : ¬ FitNothing words → TellsAtEnd Memory memory_text result g g' → Runs words result notes notes (outside k a f (streams l n g m)) (outside k a f (streams l n g' m'))
  runs_without_memory some tells = tells_alone Memory memory_text (without_memory memory_text (needs_memory some refl)) (λ e. absurd (cc e)) tells
