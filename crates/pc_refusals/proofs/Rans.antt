-- What runs did: whatever their course, at their file, and from one course to another.
use Rattle.std.proofs.Common.{◌≡◌, ◌≢◌, ℕ, List, [], ◌∷◌, ◌++◌, refl, sym, ◌∙◌, ap, subst, Option, Some, IfSome, Err}
use Rattle.std.proofs.lemmas.List.{append-nil}
use Rattle.pc_port.specs.Port.{Rose}
use Rattle.pc_port.specs.Shelf.{Files, file_named}
use Rattle.pc_lines.specs.Files.{TakesFile, TakesLongFile, FileGives}
use Rattle.pc_lines.specs.declared.file.SheetStop.{SheetStop}
use Rattle.pc_lines.specs.declared.file.SheetStop.TheVariants.{Failed, TooLong, Memory}
use Rattle.pc_refusals.specs.declared.status.Status.{Status}
use Rattle.pc_refusals.specs.declared.status.Status.TheVariants as status
use Rattle.pc_refusals.specs.declared.status.Status.TheVariants.{ReadFault, WriteFault}
use Rattle.pc_refusals.specs.Endings.{too_long_text, TellsAtEnd}
use Rattle.pc_refusals.specs.Files.{TellsFileStop}
use Rattle.pc_refusals.specs.Events.{Outside, Event, gave, shelf_failed, Does, Happened, Streams, streams, around, outside}
use Rattle.pc_refusals.specs.Stages.{Stage, sheet_file, takes, needs, ends_with}
use Rattle.pc_refusals.specs.Runs.{nothing, Comes, past_limit, without_memory, Run, read_failed_at_file, Ran}
use Rattle.pc_refusals.specs.Did.{Did}
use Rattle.pc_refusals.proofs.EventLemmas.{happened-append}
use Rattle.pc_refusals.proofs.RunLemmas.{tells_last, run-more}

-- a run that reads nothing ahead
pub ran_by : {N : Type 0} (Course : List Event → Stage → N → Type 0) (most : ℕ) (status : Status) (notes : N) (events : List Event) (a b : Outside) → Run Course events status notes → Happened events a b → Ran Course most status notes a b
ran_by Course most status notes events a b run happened = record {
  events = events;
  run = run;
  spare = [];
  is_spare = nothing;
  happened = subst (λ (es : List Event). Happened es a b) (sym (append-nil events)) happened;
}

-- a run of one course is one of another
pub ran_more : {N M : Type 0} (Course : List Event → Stage → N → Type 0) (Other : List Event → Stage → M → Type 0) (to : N → M) (more : (events : List Event) (stage : Stage) (notes : N) → Course events stage notes → Other events stage (to notes)) (most : ℕ) (status : Status) (notes : N) (a b : Outside)
    → Ran Course most status notes a b → Ran Other most status (to notes) a b
ran_more Course Other to more most status notes a b r = record { events = r.events; run = run-more Course Other [] to more r.events status notes r.run; spare = r.spare; is_spare = r.is_spare; happened = r.happened }

module _ (k k' : Option Files) (a a' : List (List ℕ)) (f f' : ℕ) where
  -- the shelf gave its file
  pub gave_does : (s : Streams) (file text : List ℕ) → k' ≡ k → a' ≡ a ++ file ∷ [] → f' ≡ f → IfSome k (λ files. file_named file files ≡ Some text) → Does (gave file text) (outside k a f s) (outside k' a' f' s)
  gave_does s file text kept once same is =
      subst (λ (x : Option Files). Does (gave file text) (outside k a f s) (outside x a' f' s)) (sym kept) (subst (λ (x : List (List ℕ)). Does (gave file text) (outside k a f s) (outside k x f' s)) (sym once) (subst (λ (x : ℕ). Does (gave file text) (outside k a f s) (outside k (a ++ file ∷ []) x s)) (sym same) (refl, is)))

  -- the shelf as it was
  unasked : (s : Streams) → k' ≡ k → a' ≡ a → f' ≡ f → outside k' a' f' s ≡ outside k a f s
  unasked s kept none same = ap (λ (x : Option Files). outside x a' f' s) kept ∙ ap (λ (x : List (List ℕ)). outside k x f' s) none ∙ ap (λ (x : ℕ). outside k a x s) same

  module _ {N : Type 0} (Course : List Event → Stage → N → Type 0) (most : ℕ) where
    -- a line that ends the run is told
    pub tells : (events : List Event) (status result : Status) (line : List ℕ) (notes : N) (l l' : Option (List ℕ)) (n n' : ℕ) (g g' : Option (List ℕ)) (m m' : ℕ) → Comes Course events (ends_with line status) notes
        → Happened events (outside k a f (streams l n g m)) (outside k' a' f' (streams l' n' g m)) → status ≢ WriteFault → TellsAtEnd status line result g g' → (result ≡ WriteFault → Rose m m') → (result ≢ WriteFault → m' ≡ m)
        → Ran Course most result notes (outside k a f (streams l n g m)) (outside k' a' f' (streams l' n' g' m'))
    tells events status result line notes l l' n n' g g' m m' comes happened not_write told rose kept =
        let last = tells_last Course events status result line notes l' n' g g' m m' comes told not_write rose kept in
        ran_by Course most result notes (events ++ last.last) (outside k a f (streams l n g m)) (outside k' a' f' (streams l' n' g' m')) last.run
        (happened-append events last.last (outside k a f (streams l n g m)) (outside k' a' f' (streams l' n' g m)) (outside k' a' f' (streams l' n' g' m')) happened (last.happened (outside k' a' f' (streams l' n' g m))))

    -- the shelf gave its file, and the run went on from its text
    pub ran_from_file : (file text : List ℕ) (Rest : List Event → Stage → N → Type 0) (more : (events : List Event) (stage : Stage) (notes : N) → Rest events stage notes → Course (gave file text ∷ events) stage notes) (result : Status) (notes : N) (s s' : Streams)
        → k' ≡ k → f' ≡ f → TakesFile k file a a' text → Did Rest result notes s s' → Ran Course most result notes (outside k a f s) (outside k' a' f' s')
    ran_from_file file text Rest more result notes s s' same same_too from did =
        let o = outside k' a' f' s in
        let first = gave file text ∷ [] in
        let gives : Happened first (outside k a f s) o = (o, gave_does s file text same from.once same_too from.whole, refl) in
        ran_by Course most result notes (first ++ did.events) (outside k a f s) (outside k' a' f' s') (run-more Rest Course first (λ (x : N). x) more did.events result notes did.run) (happened-append first did.events (outside k a f s) o (around o s') gives (did.happened o))

    -- the run takes the file first, and has this line where there is no memory for it
    module _ (lack file : List ℕ) (notes : N) (awaits : Course [] (takes (sheet_file file)) notes) (lacks : Course [] (needs lack) notes) (l : Option (List ℕ)) (n : ℕ) (g g' : Option (List ℕ)) (m m' : ℕ) (result : Status) (rose : result ≡ WriteFault → Rose m m') (kept : result ≢ WriteFault → m' ≡ m) (same : k' ≡ k) where
      pub lacks_memory : a' ≡ a → f' ≡ f → TellsAtEnd status.Memory lack result g g' → Ran Course most result notes (outside k a f (streams l n g m)) (outside k' a' f' (streams l n g' m'))
      lacks_memory none same_too told = tells [] status.Memory result lack notes l l n n g g' m m' (without_memory lack lacks) (unasked (streams l n g m) same none same_too) (λ e. absurd (cc e)) told rose kept

      -- the shelf gives no sheet's text
      pub ends_at_file : (stop : SheetStop) → FileGives k file (Err stop) a a' → (stop ≡ Failed → Rose f f') → (stop ≢ Failed → f' ≡ f) → TellsFileStop lack stop result g g' → Ran Course most result notes (outside k a f (streams l n g m)) (outside k' a' f' (streams l n g' m'))
      ends_at_file Failed once fails same_too told =
          let s = streams l n g m in
          let after = outside k' a' f' s in
          let does : Does (shelf_failed file) (outside k a f s) after =
          subst (λ (x : Option Files). Does (shelf_failed file) (outside k a f s) (outside x a' f' s)) (sym same) (subst (λ (x : List (List ℕ)). Does (shelf_failed file) (outside k a f s) (outside k x f' s)) (sym once) (refl, fails refl))
          in
          let quiet : m' ≡ m = kept (λ e. absurd (cc (told.0, e))) in
          subst (λ (x : Option (List ℕ)). Ran Course most result notes (outside k a f s) (outside k' a' f' (streams l n x m'))) (sym told.1)
          (subst (λ (x : ℕ). Ran Course most result notes (outside k a f s) (outside k' a' f' (streams l n g x))) (sym quiet)
          (subst (λ (x : Status). Ran Course most x notes (outside k a f s) after) (sym told.0) (ran_by Course most ReadFault notes (shelf_failed file ∷ []) (outside k a f s) after (read_failed_at_file [] file awaits refl) (after, does, refl))))
      ends_at_file TooLong long fails same_too told =
          let s = streams l n g m in
          tells (gave file long.text ∷ []) status.TooLong result too_long_text notes l l n n g g' m m' (past_limit [] (sheet_file file) (gave file long.text) awaits (refl, long.long) refl)
          (outside k' a' f' s, gave_does s file long.text same long.takes.once (same_too (λ e. absurd (cc e))) long.takes.whole, refl) (λ e. absurd (cc e)) told rose kept
      ends_at_file Memory none fails same_too told = lacks_memory none (same_too (λ e. absurd (cc e))) told
