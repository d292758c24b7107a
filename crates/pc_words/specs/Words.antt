-- What the words behind the program's own name ask for.
use Rattle.std.specs.Prelude.{◌≡◌, ◌≢◌, ◌≤◌, ◌⊎◌, ◌↔◌, ℕ, List, [], ◌∷◌, ◌++◌, codes, length}
use Rattle.std.specs.Str.Parse.{IsNumeral, digits_value}

-- ---- single words

-- a word that names a file: it has a byte, and the first isn't `-`
abbrev pub IsFileName : List ℕ → Type 0
IsFileName [] = ⊥
IsFileName (first ∷ rest) = first ≢ 45

-- a number from 1 to `most`, in decimal and in `digits` digits at most; it may begin with zeros
pub record IsNumber (digits most : ℕ) (word : List ℕ) (n : ℕ) : Type 0 where
  pub numeral : IsNumeral 10 word
  pub short : length word ≤ digits
  pub value : n ≡ digits_value 10 word
  pub some : 1 ≤ n
  pub within : n ≤ most

-- ---- modes

-- what a run is for
pub data Mode : Type 0 where
  replays : Mode
  edits : List ℕ → Mode
  checks : List ℕ → Mode
  merges : List ℕ → Mode
  posts : List ℕ → Mode
  demonstrates : ℕ → Mode

-- the words of a mode: `replay`, `edit FILE`, `check FILE`, `merge FILE`, `posts FILE`, or `demo N` with N from 1 to 256
abbrev pub AreOfMode : List (List ℕ) → Mode → Type 0
AreOfMode words replays = words ≡ codes "replay" ∷ []
AreOfMode words (edits file) = (words ≡ codes "edit" ∷ file ∷ []) × IsFileName file
AreOfMode words (checks file) = (words ≡ codes "check" ∷ file ∷ []) × IsFileName file
AreOfMode words (merges file) = (words ≡ codes "merge" ∷ file ∷ []) × IsFileName file
AreOfMode words (posts file) = (words ≡ codes "posts" ∷ file ∷ []) × IsFileName file
AreOfMode words (demonstrates n) = (digits : List ℕ) × (words ≡ codes "demo" ∷ digits ∷ []) × IsNumber 3 256 digits n

-- the option goes with every mode but `check` and `merge`
abbrev pub TakesBudget : Mode → Type 0
TakesBudget (checks file) = ⊥
TakesBudget (merges file) = ⊥
TakesBudget mode = Unit {0}

-- ---- the option

-- how many literals a search may place where the words don't say
abbrev pub usual_budget : ℕ
usual_budget = 100000000

-- `--budget K` or `--budget=K`
abbrev pub AreOption : List (List ℕ) → List ℕ → Type 0
AreOption words number = (words ≡ codes "--budget" ∷ number ∷ []) ⊎ (words ≡ (codes "--budget=" ++ number) ∷ [])

-- the option with K from 1 to 10^12
abbrev pub AreBudget : List (List ℕ) → ℕ → Type 0
AreBudget words budget = (number : List ℕ) × AreOption words number × IsNumber 13 1000000000000 number budget

-- ---- all words

-- what is asked for: the mode, and the budget of each search
pub record Request : Type 0 where
  pub mode : Mode
  pub budget : ℕ

-- the words of the mode, and the option somewhere among them
pub record FitWithBudget (words : List (List ℕ)) (request : Request) : Type 0 where
  pub before : List (List ℕ)
  pub option : List (List ℕ)
  pub after : List (List ℕ)
  pub all : words ≡ before ++ (option ++ after)
  pub mode : AreOfMode (before ++ after) request.mode
  pub takes : TakesBudget request.mode
  pub budget : AreBudget option request.budget

-- the words of the mode alone
abbrev pub FitWithoutBudget : List (List ℕ) → Request → Type 0
FitWithoutBudget words request = AreOfMode words request.mode × (request.budget ≡ usual_budget)

-- the words fit: this is what they ask for
abbrev pub FitsWords : List (List ℕ) → Request → Type 0
FitsWords words request = FitWithoutBudget words request ⊎ FitWithBudget words request

-- they ask for something
abbrev pub FitSomething : List (List ℕ) → Type 0
FitSomething words = (request : Request) × FitsWords words request

-- for this and for nothing else
abbrev pub FitOnly : List (List ℕ) → Request → Type 0
FitOnly words request = (other : Request) → (FitsWords words other ↔ (other ≡ request))

-- for nothing: the words don't fit
abbrev pub FitNothing : List (List ℕ) → Type 0
FitNothing words = (request : Request) → ¬ FitsWords words request
