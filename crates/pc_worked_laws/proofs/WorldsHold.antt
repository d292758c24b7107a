-- Small sheets with their worlds.
use Rattle.std.proofs.Common.{◌≡◌, false, true, List, [], ◌∷◌, Option, None, Some, map, ℕ, arith, ap, refl, sym, ◌∙◌}
use Rattle.std.proofs.lemmas.Bool.{false≢true}
use Rattle.std.proofs.lemmas.List.Elements.{All-nil, All-cons, All-head}
use Rattle.pc_sheet.specs.Sheet.{Sheet, NamedStatement}
use Rattle.pc_sheet.specs.Truth.{Holds}
use Rattle.pc_sheet.specs.Entailment.{HasEntry, Shows}
use Rattle.pc_sheet.specs.MaximalSets.{ListsExactly, IsMaximalSet}
use Rattle.pc_sheet.specs.declared.ids.ValueId.{ValueId}
use Rattle.pc_sheet.specs.declared.ids.Entry.{Entry}
use Rattle.pc_laws.specs.Examples.{red, green, entry, equal_cells, never_red}
use Rattle.pc_lemmas.proofs.Elements.{contains_first}
use Rattle.pc_world_list.specs.Worlds.{WorldView, set_of, AreExact}
use Rattle.pc_worked_laws.specs.Worlds.{world, with_red, with_green, WorkedWorlds}
use Rattle.pc_worked_laws.proofs.Computing.{is_listed, listed_decides, not_maximal, lists}

-- ---- assignments

abbrev ShowsWorld : Sheet → WorldView → Type 0
ShowsWorld sheet w = Shows sheet w.entries w.shown

abbrev HoldsAt : Sheet → List ValueId → NamedStatement → Type 0
HoldsAt sheet a rule = Holds sheet.universe a [] rule.states

red_shown : ShowsWorld equal_cells with_red
red_shown = record {
  assigns = (omega arith, (omega arith, tt));
  fits = All-cons (HoldsAt equal_cells (red ∷ red ∷ [])) _ [] (refl, refl) (All-nil (HoldsAt equal_cells (red ∷ red ∷ [])));
  has = All-cons (HasEntry (red ∷ red ∷ [])) (entry 0 red) [] refl (All-nil (HasEntry (red ∷ red ∷ [])));
}

green_shown : ShowsWorld equal_cells with_green
green_shown = record {
  assigns = (omega arith, (omega arith, tt));
  fits = All-cons (HoldsAt equal_cells (green ∷ green ∷ [])) _ [] (refl, refl) (All-nil (HoldsAt equal_cells (green ∷ green ∷ [])));
  has = All-cons (HasEntry (green ∷ green ∷ [])) (entry 1 green) [] refl (All-nil (HasEntry (green ∷ green ∷ [])));
}

abbrev number : ValueId → ℕ
number v = v.0

abbrev number_at : Option ValueId → ℕ
number_at None = 2
number_at (Some v) = v.0

nothing_shown : ShowsWorld never_red.sheet (world [] (green ∷ []))
nothing_shown = record {
  assigns = (omega arith, tt);
  fits = All-cons (HoldsAt never_red.sheet (green ∷ [])) _ [] (refl, λ is. omega (arith, ap number is)) (All-nil (HoldsAt never_red.sheet (green ∷ [])));
  has = All-nil (HasEntry (green ∷ []));
}

-- ---- lists of sets

abbrev sets : List WorldView → List (List Entry)
sets worlds = map set_of worlds

largest : ListsExactly (List Entry) (IsMaximalSet equal_cells) ((entry 0 red ∷ []) ∷ (entry 1 green ∷ []) ∷ [])
largest = lists equal_cells 2 (2 ∷ []) refl ((entry 0 red ∷ []) ∷ (entry 1 green ∷ []) ∷ []) refl

largest_turned : ListsExactly (List Entry) (IsMaximalSet equal_cells) ((entry 1 green ∷ []) ∷ (entry 0 red ∷ []) ∷ [])
largest_turned = lists equal_cells 2 (2 ∷ []) refl ((entry 1 green ∷ []) ∷ (entry 0 red ∷ []) ∷ []) refl

nothing_largest : ListsExactly (List Entry) (IsMaximalSet never_red.sheet) ([] ∷ [])
nothing_largest = lists never_red.sheet 2 [] refl ([] ∷ []) refl

-- a maximal set is missing
missing : (sheet : Sheet) (worlds : List WorldView) (s : List Entry) → IsMaximalSet sheet s → is_listed (sets worlds) s ≡ false → ¬ AreExact sheet worlds
missing sheet worlds s m fails h = false≢true (sym fails ∙ (listed_decides (sets worlds) s).1 ((h.sets.exact s).1 m))

-- a set isn't maximal
too_many : (worlds : List WorldView) (s : List Entry) → ¬ IsMaximalSet equal_cells s → is_listed (sets worlds) s ≡ true → ¬ AreExact equal_cells worlds
too_many worlds s none is h = none ((h.sets.exact s).0 ((listed_decides (sets worlds) s).0 is))

green_largest : IsMaximalSet equal_cells (entry 1 green ∷ [])
green_largest = (largest_turned.exact (entry 1 green ∷ [])).0 (contains_first (entry 1 green ∷ []) ((entry 0 red ∷ []) ∷ []))

nothing_is_largest : IsMaximalSet never_red.sheet []
nothing_is_largest = (nothing_largest.exact []).0 (contains_first [] [])

twice : ¬ AreExact equal_cells (with_red ∷ with_green ∷ with_red ∷ [])
twice h = h.sets.different 0 2 [] (omega arith) (omega arith) refl

lacks_entry : ¬ AreExact equal_cells (world (entry 0 red ∷ []) (green ∷ green ∷ []) ∷ with_green ∷ [])
lacks_entry h =
    let shows = All-head (ShowsWorld equal_cells) (world (entry 0 red ∷ []) (green ∷ green ∷ [])) (with_green ∷ []) h.shown in
    omega (arith, ap number_at (All-head (HasEntry (green ∷ green ∷ [])) (entry 0 red) [] shows.has))

breaks_rule : ¬ AreExact equal_cells (world (entry 0 red ∷ []) (red ∷ green ∷ []) ∷ with_green ∷ [])
breaks_rule h =
    let shows = All-head (ShowsWorld equal_cells) (world (entry 0 red ∷ []) (red ∷ green ∷ [])) (with_green ∷ []) h.shown in
    omega (arith, ap number (All-head (HoldsAt equal_cells (red ∷ green ∷ [])) _ [] shows.fits).1)

pub worlds : WorkedWorlds
worlds = record {
  exact = record { sets = largest; shown = All-cons (ShowsWorld equal_cells) with_red (with_green ∷ []) red_shown (All-cons (ShowsWorld equal_cells) with_green [] green_shown (All-nil (ShowsWorld equal_cells))) };
  turned = record { sets = largest_turned; shown = All-cons (ShowsWorld equal_cells) with_green (with_red ∷ []) green_shown (All-cons (ShowsWorld equal_cells) with_red [] red_shown (All-nil (ShowsWorld equal_cells))) };
  one_missing = missing equal_cells (with_red ∷ []) (entry 1 green ∷ []) green_largest refl;
  one_twice = twice;
  too_large = too_many (with_red ∷ with_green ∷ world (entry 0 red ∷ entry 1 green ∷ []) (red ∷ green ∷ []) ∷ []) (entry 0 red ∷ entry 1 green ∷ []) (not_maximal equal_cells 2 (2 ∷ []) refl refl (entry 0 red ∷ entry 1 green ∷ []) refl) refl;
  not_maximal = too_many (with_red ∷ with_green ∷ world [] (red ∷ red ∷ []) ∷ []) [] (not_maximal equal_cells 2 (2 ∷ []) refl refl [] refl) refl;
  entry_not_had = lacks_entry;
  rule_broken = breaks_rule;
  empty_set = record { sets = nothing_largest; shown = All-cons (ShowsWorld never_red.sheet) (world [] (green ∷ [])) [] nothing_shown (All-nil (ShowsWorld never_red.sheet)) };
  not_none = missing never_red.sheet [] [] nothing_is_largest refl;
}
