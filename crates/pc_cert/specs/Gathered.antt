-- What was read of a certificate, after lines that say this.
use Rattle.std.specs.Prelude.{◌≡◌, ℕ, List, [], ◌∷◌, ◌++◌, map, length}
use Rattle.std.specs.Option.{option_map}
use Rattle.pc_sheet.specs.Sheet.{Sheet, Universe}
use Rattle.pc_sheet.specs.declared.ids.Entry.{Entry}
use Rattle.pc_cert.specs.Written.{WrittenLine, SaidLine}
use Rattle.pc_cert.specs.Claims.{WrittenPair, IsPairNamed}
use Rattle.pc_cert.specs.Meaning.{IsSaidLine}
use Rattle.pc_cert.specs.Order.{kind_of, sets_in}
use Rattle.pc_cert.specs.Text.{claim_in, in_front, sets_from, uses_from, values_from, has_claim_or_entry, after_from, parts_from}
use Rattle.pc_cert.specs.Views.{claim_of, set_of, said_of, numbered_part_of, places_of, AppearInOrder}
use Rattle.pc_cert.specs.Numbered.{AreSymbolNumbers}
use Rattle.pc_cert.specs.declared.cert.Said.{Said}
use Rattle.pc_cert.specs.declared.draft.Draft.{Draft}

pub record IsGathered (ls : List SaidLine) (d : Draft) : Type 0 where
  pub claim : option_map claim_of d.claim ≡ claim_in ls
  pub sets : map set_of d.sets.items ≡ sets_from 1 ls
  pub uses : map said_of d.uses.items ≡ uses_from 1 (in_front ls)
  pub values : map said_of d.values.items ≡ values_from 1 (in_front ls)
  pub after : d.after ≡ after_from has_claim_or_entry 1 0 (in_front ls)
  pub parts : map (numbered_part_of d.table.names) d.lines.items ≡ parts_from 1 ls
  pub appear : AppearInOrder 0 (places_of d.lines.items) (length d.table.names)
  pub kept : AreSymbolNumbers d.table

-- an entry more was said, by the line of this number, which names it so
pub record IsSaidNext (u : Universe) (p : WrittenPair) (number : ℕ) (old new : List Said) : Type 0 where
  pub entry : Entry
  pub named : IsPairNamed u p entry
  pub pushed : new ≡ old ++ (record { line = number; entry = entry }) ∷ []

-- a line more, which says this of the sheet
pub record AddsLine (sheet : Sheet) (form : WrittenLine) (ls : List SaidLine) (d : Draft) : Type 0 where
  pub line : SaidLine
  pub named : IsSaidLine sheet (sets_in (map kind_of ls)) form line
  pub gathered : IsGathered (ls ++ line ∷ []) d
