use Rattle.std.proofs.Common.{◌≡◌, drop}
use Rattle.pc_port.specs.Shelf.{file_named}
use Rattle.pc_port.specs.Files.{plain_files}
use Rattle.pc_port.proofs.memory_shelf.find.Given as goal

abbrev pub invariant-loop-file : goal.invariant-loop-file
invariant-loop-file l = file_named l.name (plain_files l.files) ≡ file_named l.name (plain_files (drop l.file-index l.files))
