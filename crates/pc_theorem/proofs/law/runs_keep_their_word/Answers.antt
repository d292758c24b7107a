use Rattle.pc_theorem.proofs.Listed.{listings_are_told}
use Rattle.pc_theorem.proofs.Words.{word}
use Rattle.pc_theorem.proofs.law.runs_keep_their_word.Goals as goal

pub returns : goal.returns
returns c =
    word c.events_add_up.ensures c.words_fit_one_request.ensures c.all_lines_are_answered.ensures.done c.all_lines_are_answered.ensures.some_refused c.refused_sheets_are_told.ensures c.certificates_are_refused_in_checks.ensures c.memory_is_told_where_wanted.ensures
    c.usage_is_told_of_words.ensures.only c.usage_is_told_of_words.ensures.whenever c.states_stay_open.ensures.starts c.states_stay_open.ensures.answers c.transcripts_stay_open.ensures c.sheets_are_well_formed.ensures c.cells_are_numbered_in_order.ensures c.entries_say_what_is_enough.ensures c.one_reading.ensures.command
    c.dumps_start_again.ensures c.sheet_has_one_display.ensures (listings_are_told c.parts_are_found.ensures c.parts_are_a_division.ensures c.parts_are_determined.ensures c.maximal_sets_are_unions.ensures) c.texts_read_back.ensures c.certificates_have_one_reading.ensures.form c.certificates_have_one_reading.ensures.saying c.what_is_read_is_for_the_sheet.ensures.bare
    c.certificates_are_sound.ensures c.told_accepted_is_accepts.ensures c.judgements_are_one.ensures c.journals_read_back.ensures c.trees_have_one_outcome.ensures c.texts_have_one_outcome.ensures c.generated_texts_read_back.ensures c.generated_sheets_weigh.ensures
