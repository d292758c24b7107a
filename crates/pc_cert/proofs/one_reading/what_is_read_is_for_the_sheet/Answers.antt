use Rattle.pc_cert.proofs.ForTheSheet.{what_is_read, bare_text}
use Rattle.pc_cert.proofs.Speaks.{what_is_read_speaks}
use Rattle.pc_cert.proofs.one_reading.what_is_read_is_for_the_sheet.Goals as goal

pub returns-clause-read : goal.returns-clause-read
returns-clause-read c = what_is_read c.cells_are_numbered_in_order.ensures

pub returns-clause-bare : goal.returns-clause-bare
returns-clause-bare c = bare_text c.cells_are_numbered_in_order.ensures

pub returns-clause-speaks : goal.returns-clause-speaks
returns-clause-speaks c = what_is_read_speaks c.cells_are_numbered_in_order.ensures
