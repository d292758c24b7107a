-- The universe that declarations stand for, and what they keep beside it.
use Rattle.std.specs.Prelude.{◌↔◌, ℕ, List, Contains}
use Rattle.std.specs.Map.{keys_of}
use Rattle.pc_sheet.specs.Sheet.{Universe}
use Rattle.pc_sheet.specs.WellFormed.{IsWellFormedUniverse, AreDifferent}
use Rattle.pc_books.specs.Named.{IsNameOf}
use Rattle.pc_books.specs.SchemeView.{universe_of}
use Rattle.pc_books.specs.Sound.{AreCounted}
use Rattle.pc_books.specs.declared.names.Named.{Named}
use Rattle.pc_books.specs.declared.declarations.Declarations.TheInside.{Inside}

-- the table has each declared name once, with what it stands for
pub record IsTableOf (u : Universe) (t : List (List ℕ × Named)) : Type 0 where
  pub exact : (name : List ℕ) (named : Named) → Contains t (name, named) ↔ IsNameOf u name named
  pub different : AreDifferent (keys_of t)

-- a well-formed universe, with right counts of cells and a right table of names
pub record AreKeptDeclarations (d : Inside) : Type 0 where
  pub well_formed : IsWellFormedUniverse (universe_of d.scheme)
  pub counted : AreCounted (universe_of d.scheme) 0 d.scheme.families.items d.scheme.cells
  pub named : IsTableOf (universe_of d.scheme) d.names
