use Rattle.std.proofs.Common.{map, string_bytes}
use Rattle.pc_words.proofs.Decided.{fit_some, fit_none}
use Rattle.pc_words.proofs.reading.fit.Goals as goal

pub returns-in-Some : goal.returns-in-Some
returns-in-Some c = fit_some (map string_bytes c.args.words.now) c.parts_of.result c.in-Some.parts c.request_from.result c.is_some.result c.parts_of.ensures c.in-Some.is c.request_from.ensures c.is_some.ensures

pub returns-in-None : goal.returns-in-None
returns-in-None c = fit_none (map string_bytes c.args.words.now) c.parts_of.result c.parts_of.ensures c.in-None.is
