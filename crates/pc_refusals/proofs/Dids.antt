-- From what was told to what a run did.
use Rattle.std.proofs.Common.{◌≡◌, ◌≢◌, ℕ, List, ◌++◌, Option}
use Rattle.pc_port.specs.Port.{Rose}
use Rattle.pc_refusals.specs.declared.status.Status.{Status}
use Rattle.pc_refusals.specs.declared.status.Status.TheVariants.{ReadFault, WriteFault}
use Rattle.pc_refusals.specs.Endings.{TellsAtEnd}
use Rattle.pc_refusals.specs.Events.{Outside, Event, Happened, Streams, streams, around}
use Rattle.pc_refusals.specs.Stages.{Stage, ends_with}
use Rattle.pc_refusals.specs.Runs.{Comes}
use Rattle.pc_refusals.proofs.EventLemmas.{happened-append}
use Rattle.pc_refusals.proofs.RunLemmas.{tells_last, comes-more, run-more}
use Rattle.pc_refusals.specs.Did.{Ends, Did}

-- a line was told where the run came to it
pub ends_at : {N : Type 0} (Course : List Event → Stage → N → Type 0) (events : List Event) (status result : Status) (line : List ℕ) (notes : N) (g g' : Option (List ℕ))
    → Comes Course events (ends_with line status) notes → status ≢ WriteFault → status ≢ ReadFault → TellsAtEnd status line result g g' → Ends Course events result notes g g'
ends_at Course events status result line notes g g' comes no_write no_read told = record { status = status; line = line; comes = comes; no_write = no_write; no_read = no_read; told = told }

pub ended : {N : Type 0} (Course : List Event → Stage → N → Type 0) (before : Streams) (events : List Event) (result : Status) (notes : N) (l : Option (List ℕ)) (n : ℕ) (g g' : Option (List ℕ)) (m m' : ℕ)
    → Ends Course events result notes g g' → ((o : Outside) → Happened events (around o before) (around o (streams l n g m))) → (result ≡ WriteFault → Rose m m') → (result ≢ WriteFault → m' ≡ m) → Did Course result notes before (streams l n g' m')
ended Course before events result notes l n g g' m m' e happened rose kept =
    let last = tells_last Course events e.status result e.line notes l n g g' m m' e.comes e.told e.no_write rose kept in
    record {
      events = events ++ last.last;
      run = last.run;
      happened = λ o. happened-append events last.last (around o before) (around o (streams l n g m)) (around o (streams l n g' m')) (happened o) (last.happened o);
    }

-- what a run of one course did is what one of another did, after what came before
module _ {N M : Type 0} (Course : List Event → Stage → N → Type 0) (Other : List Event → Stage → M → Type 0) (first : List Event) (f : N → M) (more : (events : List Event) (stage : Stage) (notes : N) → Course events stage notes → Other (first ++ events) stage (f notes)) where
  pub ends_more : (events : List Event) (result : Status) (notes : N) (g g' : Option (List ℕ)) → Ends Course events result notes g g' → Ends Other (first ++ events) result (f notes) g g'
  ends_more events result notes g g' e = record { status = e.status; line = e.line; comes = comes-more Course Other first f more events _ notes e.comes; no_write = e.no_write; no_read = e.no_read; told = e.told }

  pub did_more : (result : Status) (notes : N) (before mid after : Streams) → ((o : Outside) → Happened first (around o before) (around o mid)) → Did Course result notes mid after → Did Other result (f notes) before after
  did_more result notes before mid after happened d = record {
    events = first ++ d.events;
    run = run-more Course Other first f more d.events result notes d.run;
    happened = λ o. happened-append first d.events (around o before) (around o mid) (around o after) (happened o) (d.happened o);
  }
