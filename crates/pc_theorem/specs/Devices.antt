-- What devices keep to themselves, whether or not they tell their bytes.
use Rattle.std.specs.Prelude.{◌≡◌, ◌≢◌, ℕ, List, Option}
use Rattle.pc_port.specs.Port.{Rose}
use Rattle.pc_port.specs.Shelf.{Files}
use Rattle.pc_refusals.specs.declared.status.Status.{Status}
use Rattle.pc_refusals.specs.declared.status.Status.TheVariants.{ReadFault, WriteFault}
use Rattle.pc_replay.specs.Run.{AskForFile, AskForInput, ReadsAtFault}

-- The shelf keeps its files, and without the name of one it is left as it was; so is the input in a mode that doesn't read it. A fault is told
-- exactly where that device was at fault.
pub record AreUsedAsAsked {I H O : Type 0} (words : List (List ℕ)) (status : Status) (kept : H → Option Files) (shelf_faults : H → ℕ) (input_faults : I → ℕ) (output_faults : O → ℕ) (shelf shelf' : H) (input input' : I) (output output' : O) : Type 0 where
  pub files_kept : kept shelf' ≡ kept shelf
  pub shelf_left : ¬ AskForFile words → shelf' ≡ shelf
  pub input_left : ¬ AskForInput words → input' ≡ input
  pub read_fault : status ≡ ReadFault → ReadsAtFault words input_faults input input' (shelf_faults shelf) (shelf_faults shelf')
  pub no_read_fault : status ≢ ReadFault → (input_faults input' ≡ input_faults input) × (shelf_faults shelf' ≡ shelf_faults shelf)
  pub write_fault : status ≡ WriteFault → Rose (output_faults output) (output_faults output')
  pub no_write_fault : status ≢ WriteFault → output_faults output' ≡ output_faults output
