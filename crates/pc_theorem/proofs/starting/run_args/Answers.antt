use Rattle.std.proofs.Common.{◌∙◌, ap, inr, map, string_bytes}
use Rattle.pc_theorem.proofs.Begun.{of_words}
use Rattle.pc_theorem.proofs.starting.run_args.Goals as goal

pub returns-in-Ok : goal.returns-in-Ok
returns-in-Ok g c = of_words _ _ _ _ _ _ _ _ _ _ _ _ _ _ (ap (map string_bytes) c.deref.ensures.value ∙ c.in-Ok.ensures) c.run.ensures

pub returns-in-Err : goal.returns-in-Err
returns-in-Err g c = inr c.tell_lacking.ensures
