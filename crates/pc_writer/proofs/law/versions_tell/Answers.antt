use Rattle.pc_writer.proofs.VersionLemmas.{version_tells}
use Rattle.pc_writer.proofs.law.versions_tell.Goals as goal

pub returns : goal.returns
returns c = version_tells
