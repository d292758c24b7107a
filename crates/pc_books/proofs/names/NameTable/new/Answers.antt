use Rattle.pc_books.proofs.TableLemmas.{distinct_texts}
use Rattle.pc_books.proofs.names.NameTable.new.Goals as goal

pub invariant_of-result : goal.invariant_of-result
invariant_of-result c = distinct_texts _ c.new.ensures.unique
