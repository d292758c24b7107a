-- From the events of a check to what it says by its status.
use Rattle.std.proofs.Common.{◌≡◌, ◌≢◌, ℕ, ◌+◌, ◌<◌, ◌≤◌, List, [], ◌∷◌, ◌++◌, length, refl, sym, ◌∙◌, ap, subst, inl, inr, take, append-nil, Option, arith}
use Rattle.std.specs.Io.KnownBytes.{Consumes, Appends, IsAtEnd}
use Rattle.std.proofs.KnownBytes.{Consumes-nil, Consumes-trans}
use Rattle.pc_port.specs.Port.{Rose}
use Rattle.pc_port.specs.declared.TheConstants.{CHUNK}
use Rattle.pc_cert.specs.declared.TheConstants.{CERT_LIMIT}
use Rattle.pc_refusals.specs.declared.status.Status.{Status}
use Rattle.pc_refusals.specs.declared.status.Status.TheVariants.{ReadFault, WriteFault}
use Rattle.pc_refusals.specs.Endings.{Printing, printed}
use Rattle.pc_lines.specs.Files.{AsksOnce, TakesFile}
use Rattle.pc_refusals.specs.Events.{Outside, Event, took, took_rest, gave, told, input_failed, shelf_failed, output_failed, Does, Happened}
use Rattle.pc_refusals.specs.Stages.{Intake, rest_within, sheet_file, takes, tells, ends_with, CanBegin, PassesLimit}
use Rattle.pc_refusals.specs.Runs.{HasTook, last_or, IsOutput, EndsTelling, IsSpare, nothing, ahead, goes_on, ends_so, Comes, on_course, past_limit, without_memory, Run, ended, ended_with, read_failed, read_failed_at_file, write_failed, Ran}
use Rattle.pc_refusals.proofs.EventLemmas.{last_or-append}
use Rattle.pc_run_laws.specs.Flat.{told_in}
use Rattle.pc_run_laws.proofs.FlatLemmas.{told_together, happened-split}
use Rattle.pc_run_laws.proofs.BackToStatus.{told-append, told_alone, cut_alone}
use Rattle.pc_run_laws.proofs.EditsToStatus.{asks_nothing, is_gave, gave_alone, has_took-split}
use Rattle.pc_judge.specs.Course as check
use Rattle.pc_judge.specs.Course.{CheckOf}
use Rattle.pc_run_laws.specs.Checks.{Checks, lacks_file, lacks_memory_for_file, has_long_file, refuses_file, fails_in_certificate, lacks_memory_for_check, has_long_certificate, judges, Checked}
use Rattle.pc_run_laws.proofs.Sentences.{not_told}
use Rattle.pc_run_laws.proofs.Demonstrating.{all_printed}

-- ---- what was read ahead: nothing

none_held : (most : ℕ) (held : List ℕ) → most ≡ 0 → length held ≤ most → held ≡ []
none_held most [] zero few = refl
none_held most (x ∷ held) zero few = absurd (omega (arith, zero, few))

-- behind a run nothing was asked for, told or counted, and nothing more taken; where nothing had been, the input is as it was
record StaysBehind (events : List Event) (mid b : Outside) : Type 0 where
  asked : b.asked ≡ mid.asked
  output : b.output ≡ mid.output
  taken : Consumes mid.input b.input []
  alone : (HasTook events → ⊥) → b.input ≡ mid.input
  quiet : (EndsTelling events → ⊥) → b ≡ mid

behind : (events spare : List Event) (mid b : Outside) → IsSpare 0 events spare → Happened spare mid b → StaysBehind events mid b
behind events spare mid b nothing happened = record {
  asked = ap (λ (o : Outside). o.asked) happened;
  output = ap (λ (o : Outside). o.output) happened;
  taken = subst (λ (o : Outside). Consumes mid.input o.input []) (sym happened) (Consumes-nil mid.input);
  alone = λ none. ap (λ (o : Outside). o.input) happened;
  quiet = λ none. happened;
}
behind events spare mid b (ahead held few telling some) happened = record {
  asked = ap (λ (o : Outside). o.asked) happened.2 ∙ ap (λ (o : Outside). o.asked) happened.1.0;
  output = ap (λ (o : Outside). o.output) happened.2 ∙ ap (λ (o : Outside). o.output) happened.1.0;
  taken = subst (λ (o : Outside). Consumes mid.input o.input []) (sym happened.2) (subst (λ (xs : List ℕ). Consumes mid.input happened.0.input xs) (none_held 0 held refl few) happened.1.1);
  alone = λ none. absurd (none some);
  quiet = λ none. absurd (none telling);
}

-- what passes the limit of all the input is some bytes that were taken
pub is_rest : (limit : ℕ) (event : Event) → PassesLimit (rest_within limit) event → (bytes : List ℕ) × (event ≡ took bytes) × (limit < length bytes) × (length bytes ≤ limit + CHUNK)
is_rest limit (took bytes) passes = (bytes, refl, passes.0, passes.1)
is_rest limit (took_rest bytes) passes = absurd passes
is_rest limit (gave name text) passes = absurd passes
is_rest limit (told piece) passes = absurd passes
is_rest limit input_failed passes = absurd passes
is_rest limit (shelf_failed name) passes = absurd passes
is_rest limit output_failed passes = absurd passes

-- bytes that were taken before nothing more was
no_more : (l m r : Option (List ℕ)) (bytes : List ℕ) → Consumes l m bytes → Consumes m r [] → Consumes l r bytes
no_more l m r bytes first rest = subst (λ (xs : List ℕ). Consumes l r xs) (append-nil bytes) (Consumes-trans l m r bytes [] first rest)

module _ (file : List ℕ) where
  given : (text : List ℕ) (a x b : Outside) → Does (gave file text) a x → b.asked ≡ x.asked → TakesFile a.kept file a.asked b.asked text
  given text a x b does still = record { once = still ∙ ap (λ (o : Outside). o.asked) does.0; whole = does.1 }

  -- behind the file so much of the input was taken
  took_so : (a x mid b : Outside) (text bytes : List ℕ) → Does (gave file text) a x → Happened (took bytes ∷ []) x mid → Consumes mid.input b.input [] → Consumes a.input b.input bytes
  took_so a x mid b text bytes does happened rest =
      no_more a.input mid.input b.input bytes
      (subst (λ (l : Option (List ℕ)). Consumes l mid.input bytes) (ap (λ (o : Outside). o.input) does.0) (subst (λ (o : Outside). Consumes x.input o.input bytes) (sym happened.2) happened.1.1))
      rest

  asks_once : (text : Printing) (status : Status) (a b : Outside) → Checks file text a b status → AsksOnce file a.asked b.asked
  asks_once text status a b (lacks_file lacks rose same) = inr lacks.once
  asks_once text status a b (lacks_memory_for_file lacks) = lacks.asks
  asks_once text status a b (has_long_file long) = inr long.takes.takes.once
  asks_once text status a b (refuses_file sheet why taking small has none unread is) = inr taking.once
  asks_once text status a b (fails_in_certificate sheet reads some rose same is) = inr reads.takes.once
  asks_once text status a b (lacks_memory_for_check sheet reads some is) = inr reads.takes.once
  asks_once text status a b (has_long_certificate sheet reads passes is) = inr reads.takes.once
  asks_once text status a b (judges sheet certificate rest what reads all none judged is) = inr reads.takes.once

  -- ---- the last piece

  record Last (line : List ℕ) (status : Status) (said : List ℕ) (a b : Outside) : Type 0 where
    none_said : said ≡ []
    checks : Checks file (printed [] line) a b status
    read : status ≢ ReadFault
    written : status ≢ WriteFault

  -- what comes behind the events before the last piece
  record Behind (events : List Event) (mid b : Outside) : Type 0 where
    asked : b.asked ≡ mid.asked
    taken : Consumes mid.input b.input []
    alone : (HasTook events → ⊥) → b.input ≡ mid.input

  last_piece : (events : List Event) (line : List ℕ) (status : Status) (u : Unit {0}) (a mid b : Outside) → Comes (CheckOf file) events (ends_with line status) u → Happened events a mid → Behind events mid b → Last line status (told_in events) a b
  last_piece events line status u a mid b (on_course (check.is_refused text why small has none is)) happened rest =
      let h = subst (λ (es : List Event). Happened es a mid) is happened in
      record {
        none_said = ap told_in is;
        checks = refuses_file text why (given text a h.0 b h.1 (rest.asked ∙ ap (λ (o : Outside). o.asked) h.2)) small has none (rest.alone (λ some. gave_alone file text (subst HasTook is some)) ∙ ap (λ (o : Outside). o.input) h.2 ∙ ap (λ (o : Outside). o.input) h.1.0) refl;
        read = λ e. absurd (cc e);
        written = λ e. absurd (cc e);
      }
  last_piece events line status u a mid b (on_course (check.is_judged text sheet certificate what small reads few judged is)) happened rest =
      let h = subst (λ (es : List Event). Happened es a mid) is happened in
      let x = h.0 in
      let y = h.2.0 in
      let still : b.asked ≡ x.asked = rest.asked ∙ asks_nothing (took_rest certificate ∷ []) x mid refl h.2 in
      record {
        none_said = ap told_in is;
        checks = judges sheet certificate mid.input what
            (record { text = text; takes = given text a x b h.1 still; small = small; reads = reads })
            (record {
              taken = subst (λ (l : Option (List ℕ)). Consumes l mid.input certificate) (ap (λ (o : Outside). o.input) h.1.0) (subst (λ (o : Outside). Consumes x.input o.input certificate) (sym h.2.2) h.2.1.1);
              end = subst (λ (o : Outside). IsAtEnd o.input) (sym h.2.2) h.2.1.2;
              small = few;
            })
            rest.taken judged refl;
        read = not_told what ReadFault (λ e. absurd (cc e)) (λ e. absurd (cc e));
        written = not_told what WriteFault (λ e. absurd (cc e)) (λ e. absurd (cc e));
      }
  last_piece events line status u a mid b (past_limit before intake event (check.awaits_file none) passes is) happened rest =
      let got = is_gave file event passes in
      let text = got.0 in
      let events_are : events ≡ gave file text ∷ [] = is ∙ ap (λ (es : List Event). es ++ event ∷ []) none ∙ ap (λ (e : Event). e ∷ []) got.1 in
      let h = subst (λ (es : List Event). Happened es a mid) events_are happened in
      record {
        none_said = ap told_in events_are;
        checks = has_long_file record {
          takes = record { text = text; takes = given text a h.0 b h.1 (rest.asked ∙ ap (λ (o : Outside). o.asked) h.2); long = got.2 };
          unread = rest.alone (λ some. gave_alone file text (subst HasTook events_are some)) ∙ ap (λ (o : Outside). o.input) h.2 ∙ ap (λ (o : Outside). o.input) h.1.0;
          text_is = refl;
        };
        read = λ e. absurd (cc e);
        written = λ e. absurd (cc e);
      }
  last_piece events line status u a mid b (past_limit before intake event (check.awaits_certificate text sheet small reads before_is) passes is) happened rest =
      let got = is_rest CERT_LIMIT event passes in
      let bytes = got.0 in
      let events_are : events ≡ gave file text ∷ took bytes ∷ [] = is ∙ ap (λ (es : List Event). es ++ event ∷ []) before_is ∙ ap (λ (e : Event). gave file text ∷ e ∷ []) got.1 in
      let h = subst (λ (es : List Event). Happened es a mid) events_are happened in
      let x = h.0 in
      let still : b.asked ≡ x.asked = rest.asked ∙ asks_nothing (took bytes ∷ []) x mid refl h.2 in
      record {
        none_said = ap told_in events_are;
        checks = has_long_certificate sheet (record { text = text; takes = given text a x b h.1 still; small = small; reads = reads })
            (record { text = bytes; taken = took_so a x mid b text bytes h.1 h.2 rest.taken; long = got.2; few = got.3 }) refl;
        read = λ e. absurd (cc e);
        written = λ e. absurd (cc e);
      }
  last_piece events line status u a mid b (without_memory same (check.needs_file_memory is)) happened rest =
      let h = subst (λ (es : List Event). Happened es a mid) is happened in
      record {
        none_said = ap told_in is;
        checks = lacks_memory_for_file record { asks = inl (rest.asked ∙ ap (λ (o : Outside). o.asked) h); unread = rest.alone (λ some. subst HasTook is some) ∙ ap (λ (o : Outside). o.input) h; text_is = refl };
        read = λ e. absurd (cc e);
        written = λ e. absurd (cc e);
      }
  last_piece events line status u a mid b (without_memory same (check.needs_sheet_memory text small is)) happened rest =
      let h = subst (λ (es : List Event). Happened es a mid) is happened in
      record {
        none_said = ap told_in is;
        checks = lacks_memory_for_file record {
          asks = inr (given text a h.0 b h.1 (rest.asked ∙ ap (λ (o : Outside). o.asked) h.2)).once;
          unread = rest.alone (λ some. gave_alone file text (subst HasTook is some)) ∙ ap (λ (o : Outside). o.input) h.2 ∙ ap (λ (o : Outside). o.input) h.1.0;
          text_is = refl;
        };
        read = λ e. absurd (cc e);
        written = λ e. absurd (cc e);
      }
  last_piece events line status u a mid b (without_memory same (check.needs_memory text sheet some small reads few is)) happened rest =
      let h = subst (λ (es : List Event). Happened es a mid) is happened in
      let x = h.0 in
      let still : b.asked ≡ x.asked = rest.asked ∙ asks_nothing (took some ∷ []) x mid refl h.2 in
      record {
        none_said = ap told_in is;
        checks = lacks_memory_for_check sheet (record { text = text; takes = given text a x b h.1 still; small = small; reads = reads })
            (record { text = some; taken = took_so a x mid b text some h.1 h.2 rest.taken; small = few }) refl;
        read = λ e. absurd (cc e);
        written = λ e. absurd (cc e);
      }

  -- ---- where a read failed

  at_file : (before : List Event) (name : List ℕ) (events : List Event) (u : Unit {0}) (a b : Outside) → CheckOf file before (takes (sheet_file name)) u → events ≡ before ++ shelf_failed name ∷ [] → Happened events a b → Checked file ReadFault a b
  at_file before name events u a b (check.awaits_file none) is happened =
      let events_are : events ≡ shelf_failed file ∷ [] = is ∙ ap (λ (es : List Event). es ++ shelf_failed file ∷ []) none in
      let h = subst (λ (es : List Event). Happened es a b) events_are happened in
      let once = ap (λ (o : Outside). o.asked) h.2 ∙ ap (λ (o : Outside). o.asked) h.1.0 in
      record {
        text = printed [] [];
        course = inl (lacks_file record { once = once; unread = ap (λ (o : Outside). o.input) h.2 ∙ ap (λ (o : Outside). o.input) h.1.0; text_is = refl }
            (subst (λ (o : Outside). Rose a.shelf_faults o.shelf_faults) (sym h.2) h.1.1) (ap (λ (o : Outside). o.input_faults) h.2 ∙ ap (λ (o : Outside). o.input_faults) h.1.0));
        written = subst (λ (xs : List ℕ). Appends a.output b.output xs) (ap told_in events_are) (told_together events a b happened);
        asks = inr once;
      }

  at_input : (before : List Event) (begun : List ℕ) (limit : ℕ) (events : List Event) (u : Unit {0}) (a b : Outside) → CheckOf file before (takes (rest_within limit)) u → length begun ≤ limit → events ≡ before ++ took begun ∷ input_failed ∷ [] → Happened events a b → Checked file ReadFault a b
  at_input before begun limit events u a b (check.awaits_certificate text sheet small reads before_is) few is happened =
      let events_are : events ≡ gave file text ∷ took begun ∷ input_failed ∷ [] = is ∙ ap (λ (es : List Event). es ++ took begun ∷ input_failed ∷ []) before_is in
      let h = subst (λ (es : List Event). Happened es a b) events_are happened in
      let x = h.0 in
      let y = h.2.0 in
      let z = h.2.2.0 in
      let still : b.asked ≡ x.asked = asks_nothing (took begun ∷ input_failed ∷ []) x b refl h.2 in
      let input_is : b.input ≡ y.input = ap (λ (o : Outside). o.input) h.2.2.2 ∙ ap (λ (o : Outside). o.input) h.2.2.1.0 in
      let first : y.input_faults ≡ a.input_faults = ap (λ (o : Outside). o.input_faults) h.2.1.0 ∙ ap (λ (o : Outside). o.input_faults) h.1.0 in
      let taking = given text a x b h.1 still in
      record {
        text = printed [] [];
        course = inl (fails_in_certificate sheet (record { text = text; takes = taking; small = small; reads = reads })
            (record { text = begun; taken = subst (λ (l : Option (List ℕ)). Consumes l b.input begun) (ap (λ (o : Outside). o.input) h.1.0) (subst (λ (l : Option (List ℕ)). Consumes x.input l begun) (sym input_is) h.2.1.1); small = few })
            (subst (λ (n : ℕ). Rose n b.input_faults) first (subst (λ (o : Outside). Rose y.input_faults o.input_faults) (sym h.2.2.2) h.2.2.1.1))
            (ap (λ (o : Outside). o.shelf_faults) h.2.2.2 ∙ ap (λ (o : Outside). o.shelf_faults) h.2.2.1.0 ∙ ap (λ (o : Outside). o.shelf_faults) h.2.1.0 ∙ ap (λ (o : Outside). o.shelf_faults) h.1.0)
            refl);
        written = subst (λ (xs : List ℕ). Appends a.output b.output xs) (ap told_in events_are) (told_together events a b happened);
        asks = inr taking.once;
      }

  at_fault : (before : List Event) (intake : Intake) (begun : List ℕ) (events : List Event) (u : Unit {0}) (a b : Outside) → CheckOf file before (takes intake) u → CanBegin intake begun → events ≡ before ++ took begun ∷ input_failed ∷ [] → Happened events a b → Checked file ReadFault a b
  at_fault before intake begun events u a b (check.awaits_file none) can is happened = absurd can
  at_fault before intake begun events u a b (check.awaits_certificate text sheet small reads before_is) can is happened =
      at_input before begun CERT_LIMIT events u a b (check.awaits_certificate text sheet small reads before_is) can is happened

  -- ---- the whole

  tells_nothing : (events : List Event) (piece : List ℕ) (u : Unit {0}) → Comes (CheckOf file) events (tells piece) u → ⊥
  tells_nothing events piece u (on_course h) = elim h [ ]

  two_last : (xs : List Event) (x y : Event) → xs ++ x ∷ y ∷ [] ≡ (xs ++ x ∷ []) ++ y ∷ []
  two_last [] x y = refl
  two_last (z ∷ xs) x y = ap (λ (es : List Event). z ∷ es) (two_last xs x y)

  not_output : (events before : List Event) (x : Event) → events ≡ before ++ x ∷ [] → (IsOutput x → ⊥) → EndsTelling events → ⊥
  not_output events before x is other telling = other (subst IsOutput (ap (last_or (took [])) is ∙ last_or-append (took []) before (x ∷ [])) telling)

  by_run : (events : List Event) (status : Status) (u : Unit {0}) (a mid b : Outside) → Run (CheckOf file) events status u → Happened events a mid → StaysBehind events mid b → Checked file status a b
  by_run events status u a mid b (ended (on_course h)) happened rest = elim h [ ]
  by_run events status u a mid b (ended_with before line comes is) happened rest =
      let tail = told line ∷ [] in
      let two = happened-split before tail a mid (subst (λ (es : List Event). Happened es a mid) is happened) in
      let m = two.0 in
      let input_is : mid.input ≡ m.input = ap (λ (o : Outside). o.input) two.2.2 ∙ ap (λ (o : Outside). o.input) two.2.1.0 in
      let last = last_piece before line status u a m b comes two.1 record {
        asked = rest.asked ∙ asks_nothing tail m mid refl two.2;
        taken = subst (λ (l : Option (List ℕ)). Consumes l b.input []) input_is rest.taken;
        alone = λ none. rest.alone (λ some. elim (has_took-split before tail (subst HasTook is some)) [
          | inl w ↦ none w
          | inr w ↦ told_alone line w
        ]) ∙ input_is;
      } in
      let said : told_in events ≡ line = ap told_in is ∙ told-append before tail ∙ ap (λ (xs : List ℕ). xs ++ (line ++ [])) last.none_said ∙ append-nil line in
      let whole : Appends a.output b.output line = subst (λ (l : Option (List ℕ)). Appends a.output l line) (sym rest.output) (subst (λ (xs : List ℕ). Appends a.output mid.output xs) said (told_together events a mid happened)) in
      record {
        text = printed [] line;
        course = inl last.checks;
        written = all_printed status a.output b.output [] line last.written whole;
        asks = asks_once (printed [] line) status a b last.checks;
      }
  by_run events status u a mid b (read_failed before intake begun h can is) happened rest =
      let same = rest.quiet (not_output events (before ++ took begun ∷ []) input_failed (is ∙ two_last before (took begun) input_failed) (λ w. w)) in
      at_fault before intake begun events u a b h can is (subst (λ (o : Outside). Happened events a o) (sym same) happened)
  by_run events status u a mid b (read_failed_at_file before name h is) happened rest =
      let same = rest.quiet (not_output events before (shelf_failed name) is (λ w. w)) in
      at_file before name events u a b h is (subst (λ (o : Outside). Happened events a o) (sym same) happened)
  by_run events status u a mid b (write_failed before stage piece count comes goes_on is) happened rest = absurd (tells_nothing before piece u comes)
  by_run events status u a mid b (write_failed before stage line count comes (ends_so wanted) is) happened rest =
      let tail = told (take count line) ∷ output_failed ∷ [] in
      let two = happened-split before tail a mid (subst (λ (es : List Event). Happened es a mid) is happened) in
      let m = two.0 in
      let input_is : mid.input ≡ m.input = ap (λ (o : Outside). o.input) two.2.2.2 ∙ ap (λ (o : Outside). o.input) two.2.2.1.0 ∙ ap (λ (o : Outside). o.input) two.2.1.0 in
      let last = last_piece before line wanted u a m b comes two.1 record {
        asked = rest.asked ∙ asks_nothing tail m mid refl two.2;
        taken = subst (λ (l : Option (List ℕ)). Consumes l b.input []) input_is rest.taken;
        alone = λ none. rest.alone (λ some. elim (has_took-split before tail (subst HasTook is some)) [
          | inl w ↦ none w
          | inr w ↦ cut_alone (take count line) w
        ]) ∙ input_is;
      } in
      let said : told_in events ≡ take count line = ap told_in is ∙ told-append before tail ∙ ap (λ (xs : List ℕ). xs ++ (take count line ++ [])) last.none_said ∙ append-nil (take count line) in
      let part : Appends a.output b.output (take count line) = subst (λ (l : Option (List ℕ)). Appends a.output l (take count line)) (sym rest.output) (subst (λ (xs : List ℕ). Appends a.output mid.output xs) said (told_together events a mid happened)) in
      record {
        text = printed [] line;
        course = inr (refl, record { status = wanted; read = last.read; checks = last.checks });
        written = record { count = count; written = part };
        asks = asks_once (printed [] line) wanted a b last.checks;
      }

pub checked : (file : List ℕ) (status : Status) (a b : Outside) → Ran (CheckOf file) 0 status tt a b → Checked file status a b
checked file status a b ran =
    let two = happened-split ran.events ran.spare a b ran.happened in
    by_run file ran.events status tt a two.0 b ran.run two.1 (behind ran.events ran.spare two.0 b ran.is_spare two.2)
