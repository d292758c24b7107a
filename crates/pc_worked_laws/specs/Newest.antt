-- Where a = b and b = c, a = red is entered and then c = red: the newest entry on which two supports differ decides which one is less.
use Rattle.std.specs.Prelude.{List, [], ◌∷◌}
use Rattle.pc_sheet.specs.Sheet.{Sheet}
use Rattle.pc_sheet.specs.Entailment.{IsSupport, IsLess, IsLeastSupport}
use Rattle.pc_sheet.specs.declared.ids.Entry.{Entry}
use Rattle.pc_laws.specs.Examples.{red, entry, target, chain_with_older_reason}

abbrev pub ends_red : Sheet
ends_red = chain_with_older_reason.sheet

abbrev pub older : List Entry
older = entry 0 red ∷ []

abbrev pub newer : List Entry
newer = entry 2 red ∷ []

abbrev pub both_ends : List Entry
both_ends = entry 0 red ∷ entry 2 red ∷ []

pub record NewestDecides : Type 0 where
  -- each of the three supports b = red
  pub older_supports : IsSupport ends_red older (target 1 red)
  pub newer_supports : IsSupport ends_red newer (target 1 red)
  pub both_support : IsSupport ends_red both_ends (target 1 red)
  -- these differ in the newest entry alone
  pub less : IsLess ends_red.entries older both_ends
  pub not_greater : ¬ IsLess ends_red.entries both_ends older
  -- these differ in a = red alone, which only the second has
  pub less_by_the_older : IsLess ends_red.entries newer both_ends
  -- the newest entry on which these differ is c = red, though they differ on a = red too
  pub less_by_the_newest : IsLess ends_red.entries older newer
  pub not_itself : ¬ IsLess ends_red.entries older older
  pub least : IsLeastSupport ends_red older (target 1 red)
  pub both_not_least : ¬ IsLeastSupport ends_red both_ends (target 1 red)
  pub newer_not_least : ¬ IsLeastSupport ends_red newer (target 1 red)
