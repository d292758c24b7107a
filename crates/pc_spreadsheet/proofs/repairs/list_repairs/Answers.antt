use Rattle.pc_spreadsheet.specs.inside.Repairs.{by_listing, for_memory}
use Rattle.pc_spreadsheet.proofs.Proving.{appended}
use Rattle.pc_spreadsheet.proofs.repairs.list_repairs.Goals as goal

pub returns-in-Ok : goal.returns-in-Ok
returns-in-Ok c = by_listing _ (appended c.args.session.now.sheet _ _ _ c.new-text.ensures c.in-Ok.ensures.listed)

pub returns-in-Err-Failed : goal.returns-in-Err-Failed
returns-in-Err-Failed c = for_memory

pub returns : goal.returns
returns c = for_memory
