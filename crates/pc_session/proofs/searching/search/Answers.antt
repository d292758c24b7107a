use Rattle.pc_session.proofs.searching.search.Goals as goal

pub find_reasons-requires-clause-worlds : goal.find_reasons-requires-clause-worlds
find_reasons-requires-clause-worlds c = c.requires.left c.in-None.is
