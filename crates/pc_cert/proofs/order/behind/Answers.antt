use Rattle.std.proofs.Common.{refl, ap}
use Rattle.pc_cert.specs.Order.{empty_line, heading_line, set_line, use_line, value_line, end_line, kind_of_written}
use Rattle.pc_cert.specs.Trees.{line_of}
use Rattle.pc_cert.proofs.Ordered.{behind_other, behind_numbered}
use Rattle.pc_cert.proofs.order.behind.Goals as goal

pub returns-in-Nothing : goal.returns-in-Nothing
returns-in-Nothing c = λ before e may. behind_other c.args.order.now before empty_line _ e (ap (λ t. kind_of_written (line_of t)) c.in-Nothing.is) refl

pub returns-in-Heading : goal.returns-in-Heading
returns-in-Heading c = λ before e may. behind_other c.args.order.now before heading_line _ e (ap (λ t. kind_of_written (line_of t)) c.in-Heading.is) refl

pub returns-in-Begins : goal.returns-in-Begins
returns-in-Begins c = λ before e may. behind_other c.args.order.now before set_line _ e (ap (λ t. kind_of_written (line_of t)) c.in-Begins.is) refl

pub returns-in-Uses : goal.returns-in-Uses
returns-in-Uses c = λ before e may. behind_other c.args.order.now before use_line _ e (ap (λ t. kind_of_written (line_of t)) c.in-Uses.is) refl

pub returns-in-Assigns : goal.returns-in-Assigns
returns-in-Assigns c = λ before e may. behind_other c.args.order.now before value_line _ e (ap (λ t. kind_of_written (line_of t)) c.in-Assigns.is) refl

pub returns-in-Ends : goal.returns-in-Ends
returns-in-Ends c = λ before e may. behind_other c.args.order.now before end_line _ e (ap (λ t. kind_of_written (line_of t)) c.in-Ends.is) refl

pub returns-in-Derives : goal.returns-in-Derives
returns-in-Derives c = λ before e may. behind_numbered c.args.order.now before _ _ e (ap (λ t. kind_of_written (line_of t)) c.in-Derives.is) may
