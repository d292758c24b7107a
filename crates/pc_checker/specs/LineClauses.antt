-- The clauses of lines, where lines share them.
use Rattle.std.specs.Prelude.{◌≡◌, ◌↔◌, ℕ, ◌<◌, List, [], map, length, slice_index_or, All, Contains}
use Rattle.pc_lits.specs.declared.literal.Lit.{Lit}
use Rattle.pc_axiom_names.specs.Views.{axiom_of}
use Rattle.pc_cert.specs.declared.cert.CertPart.{CertPart}
use Rattle.pc_cert.specs.declared.cert.CertPart.TheVariants.{Axiom, Step, Block}

-- the stored clauses at these places
abbrev pub clauses_by : List (List Lit) → List ℕ → List (List Lit)
clauses_by stored places = map (λ place. slice_index_or stored place []) places

-- each place is one of the store's
abbrev pub AreStored : List (List Lit) → List ℕ → Type 0
AreStored stored places = All (λ place. place < length stored) places

-- the same literals, however often each
abbrev pub HasSame : List Lit → List Lit → Type 0
HasSame clause other = (m : Lit) → Contains clause m ↔ Contains other m

-- both lines take the same axiom, or the clause of the same set
abbrev pub TakeSame : CertPart → CertPart → Type 0
TakeSame (Axiom a) (Axiom b) = axiom_of a ≡ axiom_of b
TakeSame (Axiom a) (Step clause hints) = ⊥
TakeSame (Axiom a) (Block j) = ⊥
TakeSame (Step clause hints) p = ⊥
TakeSame (Block i) (Axiom a) = ⊥
TakeSame (Block i) (Step clause hints) = ⊥
TakeSame (Block i) (Block j) = i ≡ j
