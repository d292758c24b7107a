use Rattle.pc_parts.specs.Components.{parts_of}
use Rattle.pc_theory.specs.Theories.{rules_alone}
use Rattle.pc_theory.proofs.OwnParts.{on_by_number}
use Rattle.pc_session.proofs.chosen.is_on.Goals as goal

pub returns : goal.returns
returns c p at =
    let h = c.part_of.ensures.has in
    on_by_number (parts_of (rules_alone c.args.book.now)) c.requires.theory.division.apart c.args.entry c.part_of.result h.0 h.1 h.2 c.args.part p at
