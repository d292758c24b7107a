-- What a read of a shelf's file shows of all that the file has.
use Rattle.std.proofs.Common.{◌≡◌, ℕ, List, [], ◌∷◌, ◌++◌, ◌≤◌, ◌<◌, length, take, refl, sym, ap, ◌∙◌, arith, inl, inr, Option, Some, None, IfSome, Result, Ok, Err, length-take}
use Rattle.std.specs.Option.{option_map}
use Rattle.std.proofs.lemmas.List.{take_all}
use Rattle.pc_port.specs.Shelf.{Files, file_named, readable, GivesFile, asked_after}
use Rattle.pc_port.specs.declared.shelf.ShelfFault.{ShelfFault}
use Rattle.pc_port.specs.declared.shelf.ShelfFault.TheVariants.{Failed, Memory}
use Rattle.pc_port.specs.declared.shelf.TheConstants.{READ_LIMIT}
use Rattle.pc_lines.specs.declared.TheConstants.{SHEET_LIMIT}
use Rattle.pc_lines.specs.Files.{AsksOnce, TakesLongFile}

some_is : (xs ys : List ℕ) → Some xs ≡ Some ys → xs ≡ ys
some_is xs ys same = cc same

-- a read that gave no more than a sheet may have gave all of the file
all_of : (found : Option (List ℕ)) (bytes : List ℕ) → option_map readable found ≡ Some bytes → length bytes ≤ SHEET_LIMIT → found ≡ Some bytes
all_of None bytes gives small = absurd (cc gives)
all_of (Some text) bytes gives small =
    let same : take READ_LIMIT text ≡ bytes = some_is (take READ_LIMIT text) bytes gives in
    let short : length text ≤ READ_LIMIT = omega (arith, length-take READ_LIMIT text, ap length same, small) in
    ap (λ (l : List ℕ). Some l) (sym (take_all READ_LIMIT text short) ∙ same)

pub small_file : (kept : Option Files) (file bytes : List ℕ) → GivesFile kept file bytes → length bytes ≤ SHEET_LIMIT → IfSome kept (λ files. file_named file files ≡ Some bytes)
small_file None file bytes gives small = tt
small_file (Some files) file bytes gives small = all_of (file_named file files) bytes gives small

-- a read that gave more gave it of a file that has more
more_of : (files : Files) (file : List ℕ) (asked asked' : List (List ℕ)) (found : Option (List ℕ)) (bytes : List ℕ) → asked' ≡ asked ++ file ∷ [] → file_named file files ≡ found → option_map readable found ≡ Some bytes → SHEET_LIMIT < length bytes
    → TakesLongFile (Some files) file asked asked'
more_of files file asked asked' None bytes once is gives long = absurd (cc gives)
more_of files file asked asked' (Some text) bytes once is gives long =
    let same : take READ_LIMIT text ≡ bytes = some_is (take READ_LIMIT text) bytes gives in
    record { text = text; takes = record { once = once; whole = is }; long = omega (arith, length-take READ_LIMIT text, ap length same, long) }

pub long_file : (kept : Option Files) (file : List ℕ) (asked asked' : List (List ℕ)) (bytes : List ℕ) → asked' ≡ asked ++ file ∷ [] → GivesFile kept file bytes → SHEET_LIMIT < length bytes → TakesLongFile kept file asked asked'
long_file None file asked asked' bytes once gives long = record { text = bytes; takes = record { once = once; whole = tt }; long = long }
long_file (Some files) file asked asked' bytes once gives long = more_of files file asked asked' (file_named file files) bytes once refl gives long

-- a shelf that was read once was asked once
pub asks_once : {T : Type 0} (outcome : Result T ShelfFault) (file : List ℕ) (asked asked' : List (List ℕ)) → asked' ≡ asked_after outcome asked file → AsksOnce file asked asked'
asks_once (Ok x) file asked asked' is = inr is
asks_once (Err Failed) file asked asked' is = inr is
asks_once (Err Memory) file asked asked' is = inl is
