use Rattle.std.proofs.Common.{sym, ◌∙◌}
use Rattle.std.proofs.lemmas.Option.{none-some}
use Rattle.pc_checker.proofs.AxiomLemmas.{atom_missing, atom_written}
use Rattle.pc_checker.proofs.ReadLemmas.{reads_within}
use Rattle.pc_checker.proofs.taken.write_atom.Goals as goal

pub have_distinct_cells-requires : goal.have_distinct_cells-requires
have_distinct_cells-requires c = reads_within c.args.book.now.universe c.args.reads.now c.args.marks.now c.requires.marks c.requires.reads

pub returns-in-None-clause-written : goal.returns-in-None-clause-written
returns-in-None-clause-written c =
    atom_missing c.args.book.now c.args.path.now.rule c.args.path.now.steps.items c.args.reads.now c.args.draft.now
    (λ is gives. none-some is (sym c.in-None.is ∙ (c.eval_partial.ensures.truth is).1 gives))

pub returns-in_ok-push_node-in-Some-clause-written : goal.returns-in_ok-push_node-in-Some-clause-written
returns-in_ok-push_node-in-Some-clause-written c =
    atom_written c.args.book.now c.args.path.now.rule c.args.path.now.steps.items c.args.reads.now c.in-Some.truth c.args.draft.now c.write_reads.new.draft c.push_node.new.self c.requires.blank c.requires.reads
    ((c.eval_partial.ensures.truth c.in-Some.truth).0 c.in-Some.is) c.in_ok-write_reads-in-Some.ensures (rw c.deref.ensures.value at c.in_ok-push_node-in-Some.ensures)
