use Rattle.std.proofs.Common.{refl}
use Rattle.pc_writer.proofs.InTurn.{Writes-same}
use Rattle.pc_spreadsheet.specs.Pages.{implied, by_none}
use Rattle.pc_spreadsheet.proofs.pages.write_page.Goals as goal

pub returns-in-Why : goal.returns-in-Why
returns-in-Why g c = rw c.in-Why.is c.show_why.ensures

pub returns-in-Proof : goal.returns-in-Proof
returns-in-Proof g c = rw c.in-Proof.is c.write_repairs.ensures

pub returns-in-Unimplied : goal.returns-in-Unimplied
returns-in-Unimplied g c = rw c.in-Unimplied.is c.write_unimplied.ensures

pub returns-in-Implied : goal.returns-in-Implied
returns-in-Implied g c = rw c.in-Implied.is (_, implied (rw c.in-Implied.is at c.requires) refl, c.write_text-in-Implied.ensures)

pub returns-in-Listed : goal.returns-in-Listed
returns-in-Listed g c = rw c.in-Listed.is (c.in-Listed.text.items, rw c.in-Listed.is at c.requires, Writes-same c.as_slice.ensures.value c.write_text.ensures)

pub returns-in-Answered : goal.returns-in-Answered
returns-in-Answered g c = rw c.in-Answered.is c.write_answer.ensures

pub returns-in-Unanswered : goal.returns-in-Unanswered
returns-in-Unanswered g c =
    let says = rw c.in-Unanswered.is at c.requires in
    rw c.in-Unanswered.is (_, (says.0, says.1, by_none says.2 refl), c.write_text-in-Unanswered.ensures)
