-- Tests that go in order: the first that fails decides the fault.
use Rattle.std.specs.Prelude.{◌≡◌, ◌⊎◌}
use Rattle.pc_elaborate.specs.declared.fault.SortFault.{SortFault}

-- no test is left
abbrev pub no_test : SortFault → Type 0
no_test e = ⊥

-- a test with this fault, and then the rest
abbrev pub test : Type 0 → SortFault → (SortFault → Type 0) → SortFault → Type 0
test Passes fault rest e = ((¬ Passes) × (e ≡ fault)) ⊎ (Passes × rest e)

-- a part that has faults of its own, and then the rest
abbrev pub part : Type 0 → (SortFault → Type 0) → (SortFault → Type 0) → SortFault → Type 0
part Passes Fails rest e = Fails e ⊎ (Passes × rest e)
