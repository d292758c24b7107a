-- Where a run begins and ends.
use Rattle.pc_refusals.specs.Events.{Outside}

-- what is outside at a moment, and what is noted by then
pub record Moment (N : Type 0) : Type 0 where
  pub outside : Outside
  pub notes : N

abbrev pub moment : {N : Type 0} → Outside → N → Moment N
moment outside notes = record { outside = outside; notes = notes }
