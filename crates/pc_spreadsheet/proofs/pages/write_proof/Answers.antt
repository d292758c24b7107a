use Rattle.std.proofs.Common.{sym, subst, map}
use Rattle.std.specs.Prelude.{AllPairs}
use Rattle.pc_sheet.specs.Sheet.{Sheet}
use Rattle.pc_world_list.specs.Worlds.{set_of}
use Rattle.pc_world_list.specs.FewSets.{AreMaximalSets}
use Rattle.pc_world_list.specs.SetCertificates.{claim_on_sets}
use Rattle.pc_repairs.specs.Listed.{ComesFirst}
use Rattle.pc_cert_text.specs.CertificateText.{certificate_text}
use Rattle.pc_spreadsheet.specs.Pages.{IsCertificateOnSets}
use Rattle.pc_spreadsheet.proofs.Proving.{on_sets}
use Rattle.pc_spreadsheet.proofs.pages.write_proof.Goals as goal

pub returns : goal.returns
returns g c =
    let written = c.write_sets.ensures in
    let worlds = c.args.proof.now.worlds in
    let claim = claim_on_sets c.args.proof.now.claim in
    let text = certificate_text c.book.result.now written.0 in
    let maximal = subst (λ (s : Sheet). AreMaximalSets s (map set_of worlds)) (sym c.book.ensures) c.requires.sets in
    let order = subst (λ (s : Sheet). AllPairs (ComesFirst s.entries) (map set_of worlds)) (sym c.book.ensures) c.requires.order in
    let says = on_sets c.book.result.now claim written.0 worlds written.1 written.2 maximal order in
    (text, subst (λ (s : Sheet). IsCertificateOnSets s claim text) c.book.ensures says, written.3)
