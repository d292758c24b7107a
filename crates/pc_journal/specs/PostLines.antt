-- A journal's posts as command lines.
use Rattle.std.specs.Prelude.{ℕ, List, [], ◌∷◌, ◌++◌, codes, map}
use Rattle.pc_collab.specs.Journal.{Post}

-- the command lines of a journal: the texts of its posts, and `show` at last
abbrev pub lines_of_posts : List Post → List (List ℕ)
lines_of_posts posts = map (λ p. p.text) posts ++ codes "show" ∷ []
