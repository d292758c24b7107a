-- How a run of commands goes on from a file's sheet.
use Rattle.std.proofs.Common.{◌≡◌, ℕ, List, [], ◌∷◌, ◌++◌, ◌≤◌, length, refl, sym, subst, Option}
use Rattle.std.specs.Io.KnownBytes.{prepend_known}
use Rattle.pc_port.specs.Shelf.{Files}
use Rattle.pc_port.specs.declared.TheConstants.{CHUNK}
use Rattle.pc_lines.specs.declared.TheConstants.{SHEET_LIMIT}
use Rattle.pc_lines.specs.Files.{TakesFile}
use Rattle.pc_refusals.specs.declared.refusal.SheetRefusal.{SheetRefusal}
use Rattle.pc_refusals.specs.declared.status.Status.{Status}
use Rattle.pc_refusals.specs.Events.{gave, Happened, streams, around, outside}
use Rattle.pc_refusals.specs.Stages.{ends_with}
use Rattle.pc_refusals.specs.Runs.{Ran}
use Rattle.pc_refusals.proofs.EventLemmas.{happened-append}
use Rattle.pc_refusals.proofs.RunLemmas.{comes-more, run-more}
use Rattle.pc_refusals.proofs.Rans.{gave_does, tells}
use Rattle.pc_transcript.specs.Answer.{Answer}
use Rattle.pc_transcript.specs.Course.{FromSheet, Edit, has_file}
use Rattle.pc_transcript.specs.inside.SoFar.{GoesOn, by_line, by_run}
use Rattle.pc_transcript.proofs.Courses.{left_more, spare_of}
use Rattle.pc_transcript.proofs.Ends.{holds_nothing}

module _ {S N : Type 0} (IsSheet : List ℕ → S → Type 0) (Refuses : List ℕ → SheetRefusal → List ℕ → N → N → Type 0) (Allows : S × N → List ℕ → Answer → S × N → Type 0) (notes : N) (file : List ℕ) (k k' : Option Files) (a a' : List (List ℕ)) (f f' : ℕ) where
  -- the file was taken, and the run went on from it
  pub edits_from : (result : Status) (notes' : N) (sheet : List ℕ) (held : List ℕ) (l l' : Option (List ℕ)) (n n' : ℕ) (g g' : Option (List ℕ)) (m m' : ℕ) → held ≡ [] → k' ≡ k → f' ≡ f → TakesFile k file a a' sheet → length sheet ≤ SHEET_LIMIT
      → GoesOn (FromSheet IsSheet Refuses Allows sheet notes) result notes' (prepend_known held l) (streams l n g m) (streams l' n' g' m')
      → Ran (Edit IsSheet Refuses Allows file notes) CHUNK result notes' (outside k a f (streams l n g m)) (outside k' a' f' (streams l' n' g' m'))
  edits_from result notes' sheet held l l' n n' g g' m m' none same same_too takes small (by_line line ending comes not_write not_read unread unfailed told rose kept) =
      let s = streams l n g m in
      let first = gave file sheet ∷ [] in
      subst (λ (x : Option (List ℕ)). Ran (Edit IsSheet Refuses Allows file notes) CHUNK result notes' (outside k a f s) (outside k' a' f' (streams x n' g' m'))) (sym unread)
      (subst (λ (x : ℕ). Ran (Edit IsSheet Refuses Allows file notes) CHUNK result notes' (outside k a f s) (outside k' a' f' (streams l x g' m'))) (sym unfailed)
      (tells k k' a a' f f' (Edit IsSheet Refuses Allows file notes) CHUNK first ending result line notes' l l n n g g' m m'
      (comes-more (FromSheet IsSheet Refuses Allows sheet notes) (Edit IsSheet Refuses Allows file notes) first (λ (x : N). x) (λ events stage x c. has_file sheet events small c refl) [] (ends_with line ending) notes' comes)
      (outside k' a' f' s, gave_does k k' a a' f f' s file sheet same takes.once same_too takes.whole, refl) not_write told rose kept))
  edits_from result notes' sheet held l l' n n' g g' m m' none same same_too takes small (by_run ran) =
      let s = streams l n g m in
      let o = outside k' a' f' s in
      let first = gave file sheet ∷ [] in
      let gives : Happened first (outside k a f s) o = (o, gave_does k k' a a' f f' s file sheet same takes.once same_too takes.whole, refl) in
      let from : Happened ran.events o (around o (streams ran.rest n' g' m')) = subst (λ (x : Option (List ℕ)). Happened ran.events (around o (streams x n g m)) (around o (streams ran.rest n' g' m'))) (holds_nothing held l none) (ran.happened o) in
      let run = run-more (FromSheet IsSheet Refuses Allows sheet notes) (Edit IsSheet Refuses Allows file notes) first (λ (x : N). x) (λ events stage x c. has_file sheet events small c refl) ran.events result notes' ran.run in
      spare_of (Edit IsSheet Refuses Allows file notes) result notes' (outside k a f s) l' n' g' m' o (first ++ ran.events) run ran.rest (happened-append first ran.events (outside k a f s) o (around o (streams ran.rest n' g' m')) gives from) (left_more first ran.events ran.rest l' ran.is_left)
