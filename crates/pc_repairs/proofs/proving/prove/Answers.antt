use Rattle.std.proofs.Common.{arith, sym, subst}
use Rattle.pc_ground.specs.Naming.{names_of}
use Rattle.pc_world_list.specs.SetCertificates.{SetParts, AreCertified}
use Rattle.pc_repairs.proofs.Certified.{certified}
use Rattle.pc_repairs.proofs.proving.prove.Goals as goal

pub trim-requires : goal.trim-requires
trim-requires c = c.requires.refuted.stands

pub returns-clause-certified : goal.returns-clause-certified
returns-clause-certified c =
    subst (λ (p : SetParts). AreCertified c.args.book.now (names_of c.args.book.now) p) (sym c.new.ensures)
    (certified c.variables_have_their_places.ensures c.pairs_are_variables.ensures c.own_lines_are_named_beside.ensures c.trimmed_lines_derive_beside.ensures c.names_are_of_their_sheet.ensures c.args.book.now c.well_formed-2.ensures
    c.args.sets c.requires.exact c.args.claim c.requires.right c.args.log.now c.requires.lawful c.args.last c.requires.refuted (omega (arith, c.few_lines.ensures)) (omega (arith, c.len.ensures, c.if-len-ge1000000000000000000.false))
    c.trim.new.into c.in_ok-span.span c.in_ok-span.ensures.span c.in_ok-span.ensures.lines)
