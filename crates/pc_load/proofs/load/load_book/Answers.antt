use Rattle.pc_load.proofs.Loading.{none_with}
use Rattle.pc_load.proofs.load.load_book.Goals as goal

pub returns : goal.returns
returns c = none_with c.args.text.now c.read_book.result c.texts_have_one_outcome.ensures c.read_book.ensures
