-- The newest entry on which two supports differ decides.
use Rattle.std.proofs.Common.{[], ◌∷◌, refl, Some}
use Rattle.std.proofs.lemmas.List.Elements.{All-head}
use Rattle.pc_sheet.specs.Entailment.{IsLess, IsLeastSupport}
use Rattle.pc_laws.specs.Examples.{IsShownFor, red, entry, target}
use Rattle.pc_lemmas.proofs.Elements.{contains_later, contains_none}
use Rattle.pc_laws.proofs.Finding.{computed}
use Rattle.pc_laws.proofs.Order.{irreflexive}
use Rattle.pc_worked_laws.specs.Newest.{NewestDecides, ends_red, older, newer, both_ends}
use Rattle.pc_worked_laws.proofs.Computing.{lacks, has, support, not_less, not_least}

less_both : IsLess ends_red.entries older both_ends
less_both = record {
  older = entry 0 red ∷ [];
  newest = entry 2 red;
  newer = [];
  order = refl;
  lacks = lacks older (entry 2 red) refl;
  has = has both_ends (entry 2 red) refl;
  agree = λ e c. absurd (contains_none e c);
}

less_newer : IsLess ends_red.entries older newer
less_newer = record {
  older = entry 0 red ∷ [];
  newest = entry 2 red;
  newer = [];
  order = refl;
  lacks = lacks older (entry 2 red) refl;
  has = has newer (entry 2 red) refl;
  agree = λ e c. absurd (contains_none e c);
}

newer_less : IsLess ends_red.entries newer both_ends
newer_less = record {
  older = [];
  newest = entry 0 red;
  newer = entry 2 red ∷ [];
  order = refl;
  lacks = lacks newer (entry 0 red) refl;
  has = has both_ends (entry 0 red) refl;
  agree = λ e c. (λ h. contains_later (entry 0 red) newer e h, λ h. c);
}

least : IsLeastSupport ends_red older (target 1 red)
least = All-head (λ p. IsShownFor ends_red p.0 p.1) (target 1 red, Some older) [] (computed ends_red ((target 1 red, Some older) ∷ []) refl)

pub newest_decides : NewestDecides
newest_decides = record {
  older_supports = support ends_red older (target 1 red) refl;
  newer_supports = support ends_red newer (target 1 red) refl;
  both_support = support ends_red both_ends (target 1 red) refl;
  less = less_both;
  not_greater = not_less ends_red.entries older both_ends less_both;
  less_by_the_older = newer_less;
  less_by_the_newest = less_newer;
  not_itself = irreflexive ends_red.entries older;
  least = least;
  both_not_least = not_least ends_red older both_ends (target 1 red) least refl;
  newer_not_least = not_least ends_red older newer (target 1 red) least refl;
}
