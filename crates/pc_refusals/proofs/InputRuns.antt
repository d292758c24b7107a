-- How a run ends at an input that it takes to its end, whatever its course.
use Rattle.std.proofs.Common.{◌≡◌, ◌≢◌, ◌≤◌, ℕ, List, [], ◌∷◌, length, refl, sym, subst, Option}
use Rattle.std.specs.Io.KnownBytes.{Consumes}
use Rattle.pc_port.specs.Port.{Rose}
use Rattle.pc_refusals.specs.declared.input.InputStop.{InputStop}
use Rattle.pc_refusals.specs.declared.input.InputStop.TheVariants.{Failed, TooLong, Memory}
use Rattle.pc_refusals.specs.declared.status.Status.{Status}
use Rattle.pc_refusals.specs.declared.status.Status.TheVariants as status
use Rattle.pc_refusals.specs.declared.status.Status.TheVariants.{ReadFault, WriteFault}
use Rattle.pc_refusals.specs.Endings.{TellsAtEnd, memory_text, too_long_text}
use Rattle.pc_refusals.specs.Inputs.{TakesAll, TakesSome, StopsInput, TellsInputStop}
use Rattle.pc_refusals.specs.Events.{Outside, Event, took, took_rest, input_failed, Happened, streams, around}
use Rattle.pc_refusals.specs.Stages.{rest_within, Stage, takes, needs, ends_with}
use Rattle.pc_refusals.specs.Runs.{Comes, past_limit, without_memory, Run, read_failed}
use Rattle.pc_refusals.specs.Did.{Did}
use Rattle.pc_refusals.proofs.EventLemmas.{took_does, took_rest_does, read_fails_does}
use Rattle.pc_refusals.proofs.Dids.{ends_at, ended}

-- all of it was taken
pub taken_all : (limit : ℕ) (text : List ℕ) (l l' : Option (List ℕ)) (n n' : ℕ) (g : Option (List ℕ)) (m : ℕ) → TakesAll limit text l l' → n' ≡ n → (o : Outside) → Happened (took_rest text ∷ []) (around o (streams l n g m)) (around o (streams l' n' g m))
taken_all limit text l l' n n' g m whole same o = (around o (streams l' n' g m), took_rest_does o l l' n n' g m text same whole.taken whole.end, refl)

module _ {N : Type 0} (Course : List Event → Stage → N → Type 0) (limit : ℕ) (notes : N) (awaits : Course [] (takes (rest_within limit)) notes) (lacks : (some : List ℕ) → length some ≤ limit → Course (took some ∷ []) (needs memory_text) notes) (l l' : Option (List ℕ)) (n n' : ℕ) (g g' : Option (List ℕ)) (m m' : ℕ) (result : Status) (rose : result ≡ WriteFault → Rose m m') (kept : result ≢ WriteFault → m' ≡ m) where
  -- so much was taken, and then a line was told that ends the run
  some_told : (text : List ℕ) (status : Status) (line : List ℕ) → Comes Course (took text ∷ []) (ends_with line status) notes → status ≢ WriteFault → status ≢ ReadFault → Consumes l l' text → n' ≡ n → TellsAtEnd status line result g g' → Did Course result notes (streams l n g m) (streams l' n' g' m')
  some_told text status line comes no_write no_read taken same told =
      ended Course (streams l n g m) (took text ∷ []) result notes l' n' g g' m m' (ends_at Course (took text ∷ []) status result line notes g g' comes no_write no_read told) (λ o. (around o (streams l' n' g m), took_does o l l' n n' g m text same taken, refl)) rose kept

  pub lacks_memory : TakesSome limit l l' → n' ≡ n → TellsAtEnd status.Memory memory_text result g g' → Did Course result notes (streams l n g m) (streams l' n' g' m')
  lacks_memory some same told = some_told some.text status.Memory memory_text (without_memory memory_text (lacks some.text some.small)) (λ e. absurd (cc e)) (λ e. absurd (cc e)) some.taken same told

  -- it wasn't taken to its end
  pub ends_at_input : (why : InputStop) → StopsInput limit why l l' → TellsInputStop why result g g' → (why ≡ Failed → Rose n n') → (why ≢ Failed → n' ≡ n) → Did Course result notes (streams l n g m) (streams l' n' g' m')
  ends_at_input Failed some told fails same =
      let quiet : m' ≡ m = kept (λ e. absurd (cc (told.0, e))) in
      subst (λ (x : Option (List ℕ)). Did Course result notes (streams l n g m) (streams l' n' x m')) (sym told.1)
      (subst (λ (x : ℕ). Did Course result notes (streams l n g m) (streams l' n' g x)) (sym quiet) record {
        events = took some.text ∷ input_failed ∷ [];
        run = subst (λ (s : Status). Run Course (took some.text ∷ input_failed ∷ []) s notes) (sym told.0) (read_failed [] (rest_within limit) some.text awaits some.small refl);
        happened = λ o. (around o (streams l' n g m), took_does o l l' n n g m some.text refl some.taken, (around o (streams l' n' g m), read_fails_does o l' n n' g m (fails refl), refl));
      })
  ends_at_input TooLong passes told fails same = some_told passes.text status.TooLong too_long_text (past_limit [] (rest_within limit) (took passes.text) awaits (passes.long, passes.few) refl) (λ e. absurd (cc e)) (λ e. absurd (cc e)) passes.taken (same (λ e. absurd (cc e))) told
  ends_at_input Memory some told fails same = lacks_memory some (same (λ e. absurd (cc e))) told
