use Rattle.std.proofs.Common.{ap, ◌∙◌}
use Rattle.pc_ground.specs.Pushed.{cut_to}
use Rattle.pc_ground.specs.contracts.ground.Ground.{the_view}
use Rattle.pc_ground.proofs.Pushed.{cut_made, ground_cut, size_within}
use Rattle.pc_ground.proofs.ground.Ground.pop_rule.Goals as goal

pub cut-requires-clause-clauses : goal.cut-requires-clause-clauses
cut-requires-clause-clauses c = (size_within c.requires.0 c.requires.1 c.args.size _ (c.self.view_is ∙ c.requires.2) c.requires.3).0

pub cut-requires-clause-reads : goal.cut-requires-clause-reads
cut-requires-clause-reads c = (size_within c.requires.0 c.requires.1 c.args.size _ (c.self.view_is ∙ c.requires.2) c.requires.3).1

pub returns : goal.returns
returns c s r is many =
    cut_made c.args.size (the_view c.self.inside) c.cut.new.clauses c.cut.new.names c.cut.new.owners.items c.cut.new.reads c.cut.ensures.clauses c.cut.ensures.names c.cut.ensures.owners c.cut.ensures.reads
    ∙ ap (cut_to c.args.size) (c.self.view_is ∙ is) ∙ ground_cut s r c.args.size many
