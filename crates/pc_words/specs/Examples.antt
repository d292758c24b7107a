-- Worked words: what they ask for, or that they fit nothing.
use Rattle.std.specs.Prelude.{ℕ, List, [], ◌∷◌, codes}
use Rattle.pc_words.specs.Words.{Mode, replays, edits, checks, merges, posts, demonstrates, usual_budget, FitsWords, FitNothing}

abbrev ask : List (List ℕ) → Mode → ℕ → Type 0
ask words mode budget = FitsWords words (record { mode = mode; budget = budget })

-- words that fit
pub record FitWorked : Type 0 where
  pub replay : ask (codes "replay" ∷ []) replays usual_budget
  pub edit : ask (codes "edit" ∷ codes "k.sheet" ∷ []) (edits (codes "k.sheet")) usual_budget
  pub check : ask (codes "check" ∷ codes "k.sheet" ∷ []) (checks (codes "k.sheet")) usual_budget
  pub merge : ask (codes "merge" ∷ codes "a.journal" ∷ []) (merges (codes "a.journal")) usual_budget
  pub posts_on : ask (codes "posts" ∷ codes "k.sheet" ∷ []) (posts (codes "k.sheet")) usual_budget
  pub budget_of_posts : ask (codes "posts" ∷ codes "k.sheet" ∷ codes "--budget=7" ∷ []) (posts (codes "k.sheet")) 7
  pub demo : ask (codes "demo" ∷ codes "200" ∷ []) (demonstrates 200) usual_budget
  pub zeros : ask (codes "demo" ∷ codes "007" ∷ []) (demonstrates 7) usual_budget
  pub most_blocks : ask (codes "demo" ∷ codes "256" ∷ []) (demonstrates 256) usual_budget
  pub budget_behind : ask (codes "replay" ∷ codes "--budget" ∷ codes "50" ∷ []) replays 50
  pub budget_before : ask (codes "--budget=50" ∷ codes "replay" ∷ []) replays 50
  pub budget_between : ask (codes "edit" ∷ codes "--budget" ∷ codes "1" ∷ codes "k.sheet" ∷ []) (edits (codes "k.sheet")) 1
  pub most_budget : ask (codes "demo" ∷ codes "3" ∷ codes "--budget=1000000000000" ∷ []) (demonstrates 3) 1000000000000
  pub named_as_a_mode : ask (codes "edit" ∷ codes "replay" ∷ []) (edits (codes "replay")) usual_budget

-- words that don't
pub record NothingWorked : Type 0 where
  pub none : FitNothing []
  pub other : FitNothing (codes "run" ∷ [])
  pub too_many : FitNothing (codes "replay" ∷ codes "x" ∷ [])
  pub no_file : FitNothing (codes "edit" ∷ [])
  pub empty_file : FitNothing (codes "edit" ∷ [] ∷ [])
  pub dashed_file : FitNothing (codes "check" ∷ codes "-f" ∷ [])
  pub no_number : FitNothing (codes "demo" ∷ [])
  pub too_large : FitNothing (codes "demo" ∷ codes "257" ∷ [])
  pub zero : FitNothing (codes "demo" ∷ codes "0" ∷ [])
  pub four_digits : FitNothing (codes "demo" ∷ codes "0003" ∷ [])
  pub budget_of_check : FitNothing (codes "check" ∷ codes "f" ∷ codes "--budget" ∷ codes "9" ∷ [])
  pub budget_of_merge : FitNothing (codes "merge" ∷ codes "f" ∷ codes "--budget=9" ∷ [])
  pub merge_of_none : FitNothing (codes "merge" ∷ [])
  pub posts_of_dashed : FitNothing (codes "posts" ∷ codes "-f" ∷ [])
  pub budget_twice : FitNothing (codes "--budget=9" ∷ codes "replay" ∷ codes "--budget=9" ∷ [])
  pub no_budget : FitNothing (codes "replay" ∷ codes "--budget" ∷ [])
  pub empty_budget : FitNothing (codes "replay" ∷ codes "--budget=" ∷ [])
  pub zero_budget : FitNothing (codes "replay" ∷ codes "--budget=0" ∷ [])
  pub signed_budget : FitNothing (codes "replay" ∷ codes "--budget" ∷ codes "+9" ∷ [])
  pub larger_budget : FitNothing (codes "replay" ∷ codes "--budget=1000000000001" ∷ [])
  pub long_budget : FitNothing (codes "replay" ∷ codes "--budget=00000000000009" ∷ [])
  pub dashes : FitNothing (codes "--" ∷ codes "replay" ∷ [])
  pub help : FitNothing (codes "--help" ∷ [])

abbrev pub WordsAreWorked : Type 0
WordsAreWorked = FitWorked × NothingWorked
