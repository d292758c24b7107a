use Rattle.std.proofs.Common.{refl}
use Rattle.pc_session.proofs.LoadedBook.{is_loaded}
use Rattle.pc_session.proofs.loading.load_state.Goals as goal

pub returns-in_ok-cache-in-Ok-clause-loaded : goal.returns-in_ok-cache-in-Ok-clause-loaded
returns-in_ok-cache-in-Ok-clause-loaded c =
    is_loaded c.args.book c.args.budget c.new-patch.result c.search_book.new.patch c.in-Ok.field-0.spending
    _ refl refl c.in-Ok.ensures.light c.in-Ok.ensures.found c.in_ok-cache-in-Ok.ensures.places c.in_ok-cache-in-Ok.ensures.rows c.in_ok-cache-in-Ok.ensures.chosen c.new-patch.ensures c.in_ok-cache-in-Ok.ensures.bytes c.in-Ok.ensures.bytes

pub refused_load-requires : goal.refused_load-requires
refused_load-requires c = (c.args.budget, c.in-Err.ensures.fault)

pub returns-in-Err-clause-refused : goal.returns-in-Err-clause-refused
returns-in-Err-clause-refused c = c.refused_load.ensures c.args.budget c.in-Err.ensures.fault
