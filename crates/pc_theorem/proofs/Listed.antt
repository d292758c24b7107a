-- That a sheet has one listing, whose sets make up the maximal sets.
use Rattle.std.proofs.Common.{◌≡◌, ℕ, List, [], ◌∷◌, Contains, sym, ◌∙◌, ap, subst}
use Rattle.std.specs.List.{AllZip}
use Rattle.pc_sheet.specs.Sheet.{Sheet}
use Rattle.pc_sheet.specs.MaximalSets.{IsMaximalSet}
use Rattle.pc_sheet.specs.declared.ids.Entry.{Entry}
use Rattle.pc_parts.specs.Parts.{Part}
use Rattle.pc_parts.specs.Components.{parts_of, PartsAreFound}
use Rattle.pc_parts.specs.PartSheets.{sheet_of}
use Rattle.pc_parts.specs.Unions.{parts_with_entries, MaximalSetsAreUnions}
use Rattle.pc_parts.specs.Laws.{PartsAreADivision, PartsAreDetermined}
use Rattle.pc_repairs.specs.Listed.{ListedPart, IsListedPart, listing_text}
use Rattle.pc_repairs.specs.ListedSheet.{IsListed}
use Rattle.pc_afresh_laws.specs.Afresh.{IsOpen}
use Rattle.pc_afresh_laws.proofs.Listings.{listing_same}
use Rattle.pc_theorem.specs.Theorem.{IsTheText}
use Rattle.pc_theorem.specs.Sets.{IsTheListing}

-- ---- listed parts

module _ (sheet : Sheet) where
  abbrev Chosen : Part → List Entry → Type 0
  Chosen part own = IsMaximalSet (sheet_of sheet part) own

  abbrev Among : ListedPart → List Entry → Type 0
  Among listed own = Contains listed.sets own

  -- one maximal set of each part is one listed set of each listed part
  chosen_listed : (ps : List Part) (ls : List ListedPart) (choices : List (List Entry)) → AllZip (IsListedPart sheet) ps ls → AllZip Chosen ps choices → AllZip Among ls choices
  chosen_listed [] [] [] a b = tt
  chosen_listed [] [] (c ∷ cs) a b = absurd b
  chosen_listed [] (l ∷ ls) cs a b = absurd a
  chosen_listed (p ∷ ps) [] cs a b = absurd a
  chosen_listed (p ∷ ps) (l ∷ ls) [] a b = absurd b
  chosen_listed (p ∷ ps) (l ∷ ls) (c ∷ cs) a b = ((a.0.exact.exact c).1 b.0, chosen_listed ps ls cs a.1 b.1)

  listed_chosen : (ps : List Part) (ls : List ListedPart) (choices : List (List Entry)) → AllZip (IsListedPart sheet) ps ls → AllZip Among ls choices → AllZip Chosen ps choices
  listed_chosen [] [] [] a b = tt
  listed_chosen [] [] (c ∷ cs) a b = absurd b
  listed_chosen [] (l ∷ ls) cs a b = absurd a
  listed_chosen (p ∷ ps) [] cs a b = absurd a
  listed_chosen (p ∷ ps) (l ∷ ls) [] a b = absurd b
  listed_chosen (p ∷ ps) (l ∷ ls) (c ∷ cs) a b = ((a.0.exact.exact c).0 b.0, listed_chosen ps ls cs a.1 b.1)

-- ---- the listing

-- what is listed is the sheet's listing, which has no other
abbrev pub ListingsAreTold : Type 0
ListingsAreTold = (sheet : Sheet) (text : List ℕ) → IsOpen sheet → IsListed sheet text → IsTheText IsTheListing sheet text

module _ (found : PartsAreFound) (division : PartsAreADivision) (determined : PartsAreDetermined) (unions : MaximalSetsAreUnions) where
  is_listing : (sheet : Sheet) (text : List ℕ) → IsOpen sheet → IsListed sheet text → IsTheListing sheet text
  is_listing sheet text is (listing, each, told) =
      let are = found sheet is.formed in
      let all = unions sheet (parts_of sheet) (division sheet (parts_of sheet) is.formed are) is.consistent is.formed.entries in
      record {
        parts = parts_of sheet;
        are = are;
        listing = listing;
        each = each;
        told = told;
        unions = λ s. (
          λ maximal. let c = (all.maximal s).0 maximal in (c.0, chosen_listed sheet (parts_with_entries sheet (parts_of sheet)) listing c.0 each c.1, c.2),
          λ union. (all.maximal s).1 (union.0, listed_chosen sheet (parts_with_entries sheet (parts_of sheet)) listing union.0 each union.1, union.2),
        );
      }

  one_listing : (sheet : Sheet) (x y : List ℕ) → IsTheListing sheet x → IsTheListing sheet y → y ≡ x
  one_listing sheet x y a b =
      let parts : b.parts ≡ a.parts = determined sheet b.parts a.parts b.are a.are in
      let each = subst (λ (ps : List Part). AllZip (IsListedPart sheet) (parts_with_entries sheet ps) b.listing) parts b.each in
      let same = listing_same sheet (parts_with_entries sheet a.parts) a.listing b.listing a.each each in
      b.told ∙ ap (listing_text sheet.universe) (sym same) ∙ sym a.told

  pub listings_are_told : ListingsAreTold
  listings_are_told sheet text is says = let first = is_listing sheet text is says in record { is = first; only = λ other also. one_listing sheet text other first also }
