-- What a read of a shelf gives, and what it changes.
use Rattle.std.specs.Prelude.{◌≡◌, ◌≢◌, ◌≤◌, ℕ, List, [], ◌∷◌, ◌++◌, length, take, Some, IfSome, option_map, Result, Ok, Err, MatchResult}
use Rattle.std.specs.declared.option.Option.{Option}
use Rattle.std.specs.Map.{lookup}
use Rattle.std.specs.Str.{bytes_eq}
use Rattle.pc_port.specs.Port.{Rose}
use Rattle.pc_port.specs.declared.shelf.ShelfFault.{ShelfFault}
use Rattle.pc_port.specs.declared.shelf.ShelfFault.TheVariants.{Failed, Memory}
use Rattle.pc_port.specs.declared.shelf.TheConstants.{READ_LIMIT}

-- files, each a name and its bytes
abbrev pub Files : Type 0
Files = List (List ℕ × List ℕ)

-- the bytes of the first file of that name
abbrev pub file_named : List ℕ → Files → Option (List ℕ)
file_named name files = lookup (λ other. bytes_eq other name) files

-- the part of a file that one read gives: its first 4,194,305 bytes, or all of it where it is shorter
abbrev pub readable : List ℕ → List ℕ
readable bytes = take READ_LIMIT bytes

-- a read of a name gave the readable part of that file, where the files are told
abbrev pub GivesFile : Option Files → List ℕ → List ℕ → Type 0
GivesFile kept name bytes = IfSome kept (λ files. option_map readable (file_named name files) ≡ Some bytes)

-- what a read leaves in the buffer: the file at `Ok`, nothing at a fault
abbrev pub ShelfGives : {T : Type 0} → Option Files → List ℕ → Result T ShelfFault → List ℕ → Type 0
ShelfGives kept name outcome bytes = MatchResult outcome (λ _. (length bytes ≤ READ_LIMIT) × GivesFile kept name bytes) (λ _. bytes ≡ [])

-- the names asked for, after a read of a name: want of memory leaves them as they were
abbrev pub asked_after : {T : Type 0} → Result T ShelfFault → List (List ℕ) → List ℕ → List (List ℕ)
asked_after (Ok x) asked name = asked ++ name ∷ []
asked_after (Err Failed) asked name = asked ++ name ∷ []
asked_after (Err Memory) asked name = asked

-- the count of faults rises exactly where the read answers `Failed`
pub record HasShelfCause {T : Type 0} (before after : ℕ) (outcome : Result T ShelfFault) : Type 0 where
  pub later : before ≤ after
  pub failed : outcome ≡ Err Failed → Rose before after
  pub kept : outcome ≢ Err Failed → after ≡ before
