use Rattle.pc_display.proofs.Marked as marked
use Rattle.pc_display.proofs.law.marks_show_conflicts.Goals as goal

pub returns : goal.returns
returns c = marked.marks_show_conflicts
