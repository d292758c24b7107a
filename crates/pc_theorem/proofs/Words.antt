-- From the laws below: runs keep their word, those over journals and demonstrations too.
use Rattle.pc_elaborate.specs.Laws.{TreesHaveOneOutcome}
use Rattle.pc_accept.specs.Laws.{CertificatesAreSound}
use Rattle.pc_afresh_laws.specs.Afresh.{StartsAreOpen, AnswersKeepOpen, TranscriptsKeepOpen, DumpsStartAgain}
use Rattle.pc_cert_laws.specs.ReadBack.{CertificatesReadBack}
use Rattle.pc_collab.specs.ReadBack.{JournalsReadBack}
use Rattle.pc_run_laws.specs.Asking.{EnoughByEntries}
use Rattle.pc_run_laws.specs.Flat.{EventsAddUp}
use Rattle.pc_display.specs.OneDisplay.{SheetHasOneDisplay}
use Rattle.pc_gen.specs.Laws.{GeneratedTextsReadBack, GeneratedSheetsWeigh}
use Rattle.pc_judge.specs.Laws.{AcceptedTextIsAccepts, JudgementsAreOne}
use Rattle.pc_load.specs.Laws.{TextsHaveOneOutcome}
use Rattle.pc_cert.specs.Readings.{LinesHaveOneForm, FormsSayOneThing, WhatIsReadIsBare}
use Rattle.pc_run_laws.specs.Statuses.{DoneIsSo, SomeAreRefused, SheetsAreRefused}
use Rattle.pc_run_laws.specs.ByStatus.{UsageIsOfWords, WordsAreTold, CertificatesAreRefused, MemoryIsWanted}
use Rattle.pc_sheet.specs.Cells.{CellsAreNumberedInOrder}
use Rattle.pc_sortcheck.specs.Laws.{SheetsAreWellFormed}
use Rattle.pc_words.specs.Laws.{WordsFitOneRequest}
use Rattle.pc_theorem.specs.Laws.{RunsKeepTheirWord}
use Rattle.pc_theorem.proofs.Answering.{PagesAreTold, RefutationsAreTold, session, refuses_sheet}
use Rattle.pc_theorem.proofs.Checked.{proved}
use Rattle.pc_theorem.proofs.Clearing.{CommandsHaveOneReading, all_cleared}
use Rattle.pc_theorem.proofs.Endings.{FirstsAreCleared, OnlySpentIsTold}
use Rattle.pc_theorem.proofs.Listed.{ListingsAreTold}
use Rattle.pc_theorem.proofs.Pages.{tells, refutes}
use Rattle.pc_theorem.proofs.Refused.{only_spent}
use Rattle.pc_theorem.proofs.Whole.{LinesAreAnswered, SheetsAreRefusedSo, AcceptedIsProved, runs_keep_their_word}

module _ (sums : EventsAddUp) (one : WordsFitOneRequest) (on_done : DoneIsSo) (on_some : SomeAreRefused) (on_sheet : SheetsAreRefused) (on_certificate : CertificatesAreRefused) (on_memory : MemoryIsWanted) (on_usage : UsageIsOfWords) (on_unfit : WordsAreTold) where
  module _ (first : StartsAreOpen) (keep : AnswersKeepOpen) (keep_all : TranscriptsKeepOpen) (formed : SheetsAreWellFormed) (ordered : CellsAreNumberedInOrder) (by_entries : EnoughByEntries) (read : CommandsHaveOneReading) where
    module _ (again : DumpsStartAgain) (one_display : SheetHasOneDisplay) (listings : ListingsAreTold) (texts_back : CertificatesReadBack) (one_form : LinesHaveOneForm) (one_thing : FormsSayOneThing) (bare : WhatIsReadIsBare) where
      module _ (sound : CertificatesAreSound) (accepts : AcceptedTextIsAccepts) (one_verdict : JudgementsAreOne) (journals_back : JournalsReadBack) (trees : TreesHaveOneOutcome) (one_outcome : TextsHaveOneOutcome) (generated_back : GeneratedTextsReadBack) (weigh : GeneratedSheetsWeigh) where
        pages : PagesAreTold
        pages = tells texts_back one_form one_thing bare one_display again listings

        refuted : RefutationsAreTold
        refuted = refutes texts_back one_form one_thing bare

        answered : LinesAreAnswered
        answered = session ordered by_entries pages refuted keep

        refused : SheetsAreRefusedSo
        refused = refuses_sheet ordered by_entries pages refuted formed

        is_proved : AcceptedIsProved
        is_proved = proved formed sound one_form one_thing

        cleared : FirstsAreCleared
        cleared blocks few = all_cleared read keep_all trees blocks few

        spent : OnlySpentIsTold
        spent blocks some few = only_spent formed one_outcome generated_back weigh blocks some few

        pub word : RunsKeepTheirWord
        word = runs_keep_their_word sums one first keep formed journals_back one_outcome accepts one_verdict answered refused is_proved cleared spent on_done on_some on_sheet on_certificate on_memory on_usage on_unfit
