-- Formulas that the entries of small sheets imply, and such as they don't.
use Rattle.std.specs.Prelude.{[], ◌∷◌}
use Rattle.pc_sheet.specs.Sheet.{Sheet, negation}
use Rattle.pc_sheet.specs.declared.ids.Entry.{Entry}
use Rattle.pc_laws.specs.Examples.{red, green, entry, is_color, equals, chain, effect_of_two}
use Rattle.pc_laws.specs.Weights.{both, either}
use Rattle.pc_accept.specs.SetExamples.{two_ends}
use Rattle.pc_accept.specs.Asked.{EntailsStatement, SupportsStatement, IsStatementImplied, IsLeastForStatement}

abbrev pub a : Entry
a = entry 0 red

abbrev pub b : Entry
b = entry 1 red

-- ---- a = red and b = red are entered, which make c red

abbrev pub causes : Sheet
causes = effect_of_two.sheet

pub record WorkedFormulas : Type 0 where
  -- c = red: by both together, and by neither alone
  pub together : IsLeastForStatement causes (a ∷ b ∷ []) (is_color 2 red)
  pub not_first : ¬ SupportsStatement causes (a ∷ []) (is_color 2 red)
  pub not_second : ¬ SupportsStatement causes (b ∷ []) (is_color 2 red)
  -- a = red & b = red: by both as well
  pub both_together : IsLeastForStatement causes (a ∷ b ∷ []) (both (is_color 0 red) (is_color 1 red))
  -- a = red | b = red: by each alone, and least is the older one
  pub by_one : IsLeastForStatement causes (a ∷ []) (either (is_color 0 red) (is_color 1 red))
  pub by_newer : SupportsStatement causes (b ∷ []) (either (is_color 0 red) (is_color 1 red))
  pub newer_not_least : ¬ IsLeastForStatement causes (b ∷ []) (either (is_color 0 red) (is_color 1 red))
  -- b = red -> c = red: by a alone, though it says nothing of a
  pub conditional : IsLeastForStatement causes (a ∷ []) (either (negation (is_color 1 red)) (is_color 2 red))
  -- c = red | c = green: without any entry
  pub by_none : IsLeastForStatement causes [] (either (is_color 2 red) (is_color 2 green))
  pub not_implied : ¬ IsStatementImplied causes (is_color 2 green)

-- ---- where a = b and b = c, a = red and c = green are entered

pub record WorkedClashes : Type 0 where
  -- a = c: by the rules alone
  pub by_rules : IsLeastForStatement two_ends [] (equals 0 2)
  -- b = red by the one entry, and b = green by the other
  pub by_first : IsLeastForStatement two_ends (entry 0 red ∷ []) (is_color 1 red)
  pub by_last : IsLeastForStatement two_ends (entry 2 green ∷ []) (is_color 1 green)
  -- what both together entail isn't implied: they are inconsistent
  pub not_both : ¬ IsStatementImplied two_ends (both (is_color 1 red) (is_color 1 green))
  pub not_other : ¬ IsStatementImplied two_ends (negation (equals 0 2))
  pub inconsistent : ¬ SupportsStatement two_ends two_ends.entries (is_color 1 red)
  pub entailed : EntailsStatement two_ends two_ends.entries (negation (equals 0 2))
  -- without entries neither a formula nor its opposite
  pub undecided : ¬ IsStatementImplied (chain []) (is_color 0 red)
  pub nor_opposite : ¬ IsStatementImplied (chain []) (negation (is_color 0 red))
