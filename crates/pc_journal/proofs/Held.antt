-- Lines that are held, answered one after another.
use Rattle.std.proofs.Common.{◌≡◌, ℕ, Bool, false, List, [], ◌∷◌, ◌++◌, take, refl, sym, ◌∙◌, ap, subst, Option}
use Rattle.std.specs.List.{list_any}
use Rattle.std.proofs.lemmas.List.{map_push}
use Rattle.pc_port.specs.Port.{Rose}
use Rattle.pc_lines.specs.Lines.{line_text_of}
use Rattle.pc_refusals.specs.declared.status.Status.{Status}
use Rattle.pc_refusals.specs.declared.status.Status.TheVariants.{WriteFault}
use Rattle.pc_refusals.specs.Events.{Event, told, output_failed, Happened, streams, around}
use Rattle.pc_refusals.specs.Runs.{goes_on, on_course, Run, ended, write_failed}
use Rattle.pc_refusals.proofs.EventLemmas.{happened-append, happened-push, told_does, write_fails_does}
use Rattle.pc_transcript.specs.declared.serve.Marks.{Marks}
use Rattle.pc_transcript.specs.Answer.{Answer, Serves, ServesInPart, answer_text, is_refused, is_no_memory}
use Rattle.pc_transcript.specs.Transcript.{lines, worse_of, status_of}
use Rattle.pc_transcript.proofs.Progress.{Legal-push, any-push, lines-push}
use Rattle.pc_journal.specs.Course.{answers_told, AnswersHeld, has_answer, has_all}
use Rattle.pc_refusals.specs.Did.{Did}
use Rattle.pc_journal.specs.inside.Progress.{Progress}

module _ {S : Type 0} (Allows : S → List ℕ → Answer → S → Type 0) (start : S) where
  pub starts : (marks : Marks) (sink : Option (List ℕ)) → marks.refused ≡ false → marks.no_memory ≡ false → Progress Allows start start marks [] sink sink
  starts marks sink refused no_memory = record { transcript = []; legal = refl; lines_are = refl; refused = refused; no_memory = no_memory; happened = λ o l n m. refl }

  -- one more line
  pub one_more : (old new : S) (marks marks' : Marks) (done : List (List ℕ)) (line : List ℕ) (sink g g' : Option (List ℕ)) → Progress Allows start old marks done sink g → Serves Allows old new (line_text_of line) marks marks' g g' → Progress Allows start new marks' (done ++ line ∷ []) sink g'
  one_more old new marks marks' done line sink g g' p serves =
      let t = p.transcript in
      record {
        transcript = t ++ (line, serves.answer) ∷ [];
        legal = Legal-push Allows start old new t line serves.answer p.legal serves.allowed;
        lines_are = lines-push t line serves.answer ∙ ap (λ (ls : List (List ℕ)). ls ++ line ∷ []) p.lines_are;
        refused = any-push (λ (pair : List ℕ × Answer). is_refused pair.1) t (line, serves.answer) marks.refused marks'.refused p.refused serves.marked.refused;
        no_memory = any-push (λ (pair : List ℕ × Answer). is_no_memory pair.1) t (line, serves.answer) marks.no_memory marks'.no_memory p.no_memory serves.marked.no_memory;
        happened = λ o l n m. subst (λ (es : List Event). Happened es (around o (streams l n sink m)) (around o (streams l n g' m))) (sym (map_push (λ (pair : List ℕ × Answer). told (answer_text pair.1)) t (line, serves.answer)))
            (happened-push (answers_told t) (told (answer_text serves.answer)) (around o (streams l n sink m)) (around o (streams l n g m)) (around o (streams l n g' m)) (p.happened o l n m) (told_does o l n g g' m m (answer_text serves.answer) refl serves.written));
      }

  -- all lines are answered
  pub all_answered : (state : S) (marks : Marks) (held : List (List ℕ)) (status : Status) (l : Option (List ℕ)) (n : ℕ) (sink g : Option (List ℕ)) (m m' : ℕ) → Progress Allows start state marks held sink g → status ≡ worse_of marks.no_memory marks.refused → m' ≡ m
      → Did (AnswersHeld Allows start held) status state (streams l n sink m) (streams l n g m')
  all_answered state marks held status l n sink g m m' p is same =
      let t = p.transcript in
      let status_is : status ≡ status_of t = is ∙ ap (λ (b : Bool). worse_of b marks.refused) p.no_memory ∙ ap (λ (b : Bool). worse_of (list_any (λ pair. is_no_memory pair.1) t) b) p.refused in
      record {
        events = answers_told t;
        run = subst (λ (s : Status). Run (AnswersHeld Allows start held) (answers_told t) s state) (sym status_is) (ended (on_course (has_all t p.legal p.lines_are refl)));
        happened = λ o. subst (λ (x : ℕ). Happened (answers_told t) (around o (streams l n sink m)) (around o (streams l n g x))) (sym same) (p.happened o l n m);
      }

  -- an answer was written in part
  pub cut : (old new : S) (marks : Marks) (held done : List (List ℕ)) (line : List ℕ) (rest : List (List ℕ)) (l : Option (List ℕ)) (n : ℕ) (sink g g' : Option (List ℕ)) (m m' : ℕ) → held ≡ done ++ line ∷ rest → Progress Allows start old marks done sink g
      → ServesInPart Allows old new (line_text_of line) g g' → Rose m m' → Did (AnswersHeld Allows start held) WriteFault new (streams l n sink m) (streams l n g' m')
  cut old new marks held done line rest l n sink g g' m m' are p serves rose =
      let t = p.transcript in
      let piece = answer_text serves.answer in
      let part = serves.written in
      let last = told (take part.count piece) ∷ output_failed ∷ [] in
      let holds : held ≡ lines t ++ line ∷ rest = are ∙ ap (λ (ls : List (List ℕ)). ls ++ line ∷ rest) (sym p.lines_are) in
      record {
        events = answers_told t ++ last;
        run = write_failed (answers_told t) _ piece part.count (on_course (has_answer t old line rest serves.answer p.legal holds serves.allowed refl)) goes_on refl;
        happened = λ o. happened-append (answers_told t) last (around o (streams l n sink m)) (around o (streams l n g m)) (around o (streams l n g' m')) (p.happened o l n m)
            (around o (streams l n g' m), told_does o l n g g' m m (take part.count piece) refl part.front, (around o (streams l n g' m'), write_fails_does o l n g' m m' rose, refl));
      }
