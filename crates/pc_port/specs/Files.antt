-- Files and names as the plain lists of their bytes.
use Rattle.std.specs.Prelude.{ℕ, List, [], ◌∷◌, Vec, String, string_bytes, map}
use Rattle.std.specs.declared.alloc.Global.{Global}
use Rattle.pc_port.specs.Shelf.{Files}

-- files by the bytes of their names and their contents
abbrev pub plain_files : List (String Global × Vec ℕ Global) → Files
plain_files [] = []
plain_files (file ∷ files) = (string_bytes file.0, file.1.items) ∷ plain_files files

-- names by their bytes
abbrev pub plain_names : List (String Global) → List (List ℕ)
plain_names names = map string_bytes names
