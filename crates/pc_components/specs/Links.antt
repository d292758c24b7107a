-- Places that are linked in one list.
use Rattle.std.specs.Prelude.{ℕ, zero, suc, ◌+◌, ◌≤◌, ◌==◌, cond, List, [], ◌∷◌, slice_index_or}
use Rattle.pc_components.specs.declared.turned.Link.{Link}

abbrev pub no_link : Link
no_link = record { place = 0; next = 0 }

-- The places from the link that ends there on, among the first m links.
abbrev pub linked_from : List Link → ℕ → ℕ → List ℕ
linked_from links zero end = []
linked_from links (suc m) end = cond (end == suc m) ((slice_index_or links m no_link).place ∷ linked_from links m (slice_index_or links m no_link).next) (linked_from links m end)

-- each is linked with one before it; k stand before the first
abbrev pub AreLinked : ℕ → List Link → Type 0
AreLinked k [] = Unit {0}
AreLinked k (link ∷ links) = (link.next ≤ k) × AreLinked (k + 1) links
