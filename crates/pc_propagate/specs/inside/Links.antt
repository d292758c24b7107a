-- Links between numbered places.
use Rattle.std.specs.Prelude.{ℕ, List, Option, Some, None, map, slice_set, zero, suc}
use Rattle.pc_propagate.specs.declared.links.Place.{Place}
use Rattle.pc_propagate.specs.declared.links.Ends.{Ends}

-- A link is one more than the number to which it leads, and 0 leads to none.
abbrev pub linked : ℕ → Option ℕ
linked zero = None
linked (suc number) = Some number

-- the first place of each list
abbrev pub firsts_of : List Ends → List (Option ℕ)
firsts_of ends = map (λ e. linked e.first) ends

-- the last place of each list that has one
abbrev pub lasts_of : List Ends → List ℕ
lasts_of ends = map (λ e. e.last) ends

-- the place after each place
abbrev pub nexts_of : List Place → List (Option ℕ)
nexts_of places = map (λ p. linked p.next) places

-- the list of each place
abbrev pub lists_of : List Place → List (Option ℕ)
lists_of places = map (λ p. linked p.list) places

-- the first places, where this list is emptied
abbrev pub emptied : Option ℕ → List (Option ℕ) → List (Option ℕ)
emptied None firsts = firsts
emptied (Some list) firsts = slice_set firsts list None
