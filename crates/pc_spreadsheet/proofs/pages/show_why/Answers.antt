use Rattle.std.proofs.Common.{refl}
use Rattle.pc_spreadsheet.specs.Pages.{certified, not_implied}
use Rattle.pc_spreadsheet.proofs.pages.show_why.Goals as goal

pub returns-in-None : goal.returns-in-None
returns-in-None g c = (_, not_implied c.in-None.ensures.right refl, c.write_text.ensures)

pub returns-in-Some : goal.returns-in-Some
returns-in-Some g c =
    let implied = c.in-Some.ensures.right.justifies.least in
    let certificate = c.write_why.ensures.reason (_, implied.supports) in
    (_, certified certificate.0 certificate.1 refl, certificate.2)
