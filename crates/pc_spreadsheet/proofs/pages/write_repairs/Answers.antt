use Rattle.std.proofs.Common.{ap, subst}
use Rattle.pc_accept.specs.Accepts.{Claim}
use Rattle.pc_world_list.specs.SetCertificates.{claim_on_sets}
use Rattle.pc_spreadsheet.specs.Pages.{IsCertificateOnSets}
use Rattle.pc_spreadsheet.proofs.pages.write_repairs.Goals as goal

pub returns : goal.returns
returns g c =
    let written = c.write_proof.ensures in
    (written.0, subst (λ (k : Claim). IsCertificateOnSets c.args.session.now.sheet k written.0) (ap claim_on_sets c.requires.0) written.1, written.2)
