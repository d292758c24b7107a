-- The values that sources, sinks and shelves in memory stand for.
use Rattle.std.specs.Prelude.{◌≡◌, ◌⊎◌, ◌<◌, ℕ, ◌+◌, ◌-◌, List, [], length, Contains, IsNone, Result, Ok, Err}
use Rattle.pc_port.specs.Port.{one_more}
use Rattle.pc_port.specs.Shelf.{Files, file_named}
use Rattle.pc_port.specs.declared.shelf.ShelfFault.{ShelfFault}
use Rattle.pc_port.specs.declared.shelf.ShelfFault.TheVariants.{Failed, Memory}

-- a source: the bytes still to come, the most that a call gives, the numbers of the calls that fail, and how many calls and faults there were
pub record SourceState : Type 0 where
  pub left : List ℕ
  pub most : ℕ
  pub fails : List ℕ
  pub calls : ℕ
  pub faults : ℕ

-- the next call is one of those that fail
abbrev pub SourceFails : SourceState → Type 0
SourceFails s = Contains s.fails (s.calls + 1)

-- a source of these bytes that has made no call yet
pub record IsNewSource (bytes : List ℕ) (most : ℕ) (fails : List ℕ) (s : SourceState) : Type 0 where
  pub left : s.left ≡ bytes
  pub most_is : s.most ≡ most
  pub fails_are : s.fails ≡ fails
  pub calls : s.calls ≡ 0
  pub faults : s.faults ≡ 0

-- the same source one call later, whatever it gave
pub record SourceGoesOn (before after : SourceState) : Type 0 where
  pub most : after.most ≡ before.most
  pub fails : after.fails ≡ before.fails
  pub calls : after.calls ≡ one_more before.calls

-- a sink: the bytes written so far, the room that it was made with, the numbers of the calls that fail, and how many calls and faults there were
pub record SinkState : Type 0 where
  pub given : List ℕ
  pub room : ℕ
  pub fails : List ℕ
  pub calls : ℕ
  pub faults : ℕ

-- an empty sink that has made no call yet
pub record IsNewSink (room : ℕ) (fails : List ℕ) (s : SinkState) : Type 0 where
  pub given : s.given ≡ []
  pub room_is : s.room ≡ room
  pub fails_are : s.fails ≡ fails
  pub calls : s.calls ≡ 0
  pub faults : s.faults ≡ 0

-- the room that is left
abbrev pub room_left : SinkState → ℕ
room_left s = s.room - length s.given

-- the next write of so many bytes is one of the calls that fail, or is longer than the room that is left
abbrev pub SinkFails : SinkState → ℕ → Type 0
SinkFails s size = (room_left s < size) ⊎ Contains s.fails (s.calls + 1)

-- the same sink one call later, whatever it took
pub record SinkGoesOn (before after : SinkState) : Type 0 where
  pub room : after.room ≡ before.room
  pub fails : after.fails ≡ before.fails
  pub calls : after.calls ≡ one_more before.calls

-- a sink in lent room: the bytes written so far, the room that was lent, and how many faults there were
pub record RoomState : Type 0 where
  pub given : List ℕ
  pub room : ℕ
  pub faults : ℕ

-- an empty sink in so much lent room
pub record IsNewRoom (room : ℕ) (s : RoomState) : Type 0 where
  pub given : s.given ≡ []
  pub room_is : s.room ≡ room
  pub faults : s.faults ≡ 0

-- a shelf: its files, the names that were read, the numbers of the calls that fail, and how many calls and faults there were
pub record ShelfState : Type 0 where
  pub files : Files
  pub asked : List (List ℕ)
  pub fails : List ℕ
  pub calls : ℕ
  pub faults : ℕ

-- a shelf of these files that has made no call yet
pub record IsNewShelf (files : Files) (fails : List ℕ) (s : ShelfState) : Type 0 where
  pub files_are : s.files ≡ files
  pub asked : s.asked ≡ []
  pub fails_are : s.fails ≡ fails
  pub calls : s.calls ≡ 0
  pub faults : s.faults ≡ 0

-- the next read of this name is one of the calls that fail, or finds no such file
abbrev pub ShelfFails : ShelfState → List ℕ → Type 0
ShelfFails s name = IsNone (file_named name s.files) ⊎ Contains s.fails (s.calls + 1)

-- the same shelf one call later, whatever it gave
pub record ShelfGoesOn (before after : ShelfState) : Type 0 where
  pub files : after.files ≡ before.files
  pub fails : after.fails ≡ before.fails
  pub calls : after.calls ≡ one_more before.calls

-- what a read answers: at `Ok` it doesn't fail, at `Failed` it does, and `Memory` says nothing
abbrev pub ShelfAnswers : {T : Type 0} → Result T ShelfFault → Type 0 → Type 0
ShelfAnswers (Ok x) fails = ¬ fails
ShelfAnswers (Err Failed) fails = fails
ShelfAnswers (Err Memory) fails = Unit {0}

-- the count of faults after a read: one more at `Failed`
abbrev pub faults_after : {T : Type 0} → Result T ShelfFault → ℕ → ℕ
faults_after (Ok x) faults = faults
faults_after (Err Failed) faults = one_more faults
faults_after (Err Memory) faults = faults
