-- The causes of a run's statuses, by the counts of faults: whatever the course, where no fault is on it and it ends in none.
use Rattle.std.specs.Prelude.{◌≡◌, ◌≢◌, ◌⊎◌, List, [], ◌∷◌, ◌++◌}
use Rattle.pc_port.specs.Port.{Rose}
use Rattle.pc_refusals.specs.declared.status.Status.{Status}
use Rattle.pc_refusals.specs.declared.status.Status.TheVariants.{ReadFault, WriteFault}
use Rattle.pc_refusals.specs.Events.{Outside, Event, input_failed, shelf_failed, output_failed}

-- A read fault is told exactly where one of the two that are read was at fault, and the other one wasn't; a write fault exactly where the output was. What the shelf keeps stays.
pub record HasCauses (status : Status) (a b : Outside) : Type 0 where
  pub read_fault : status ≡ ReadFault → (Rose a.input_faults b.input_faults × (b.shelf_faults ≡ a.shelf_faults)) ⊎ (Rose a.shelf_faults b.shelf_faults × (b.input_faults ≡ a.input_faults))
  pub no_read_fault : status ≢ ReadFault → (b.input_faults ≡ a.input_faults) × (b.shelf_faults ≡ a.shelf_faults)
  pub write_fault : status ≡ WriteFault → Rose a.output_faults b.output_faults
  pub no_write_fault : status ≢ WriteFault → b.output_faults ≡ a.output_faults
  pub kept : b.kept ≡ a.kept

abbrev pub IsFault : Event → Type 0
IsFault input_failed = Unit {0}
IsFault (shelf_failed name) = Unit {0}
IsFault output_failed = Unit {0}
IsFault event = ⊥

-- behind a fault nothing more is taken, asked for, told or tried again
abbrev pub FaultsComeLast : List Event → Type 0
FaultsComeLast events = (before after : List Event) (event : Event) → IsFault event → events ≡ before ++ event ∷ after → after ≡ []
