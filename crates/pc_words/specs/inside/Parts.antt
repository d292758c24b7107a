-- The request that words fit, found step by step; the same as `Fits`.
use Rattle.std.specs.Prelude.{ℕ, Bool, true, false, ◌==◌, ◌&&◌, List, [], ◌∷◌, ◌++◌, Option, Some, None, option_map, option_and_then, codes, length, take, drop, nat_eq, nat_lt, nat_le, not, if◌then◌else◌}
use Rattle.std.specs.Str.{all_ascii_digits, bytes_eq}
use Rattle.std.specs.Str.Parse.{digits_value}
use Rattle.std.specs.List.{position_or_len, starts_with}
use Rattle.pc_words.specs.Words.{Mode, replays, edits, checks, merges, posts, demonstrates, Request, usual_budget}

-- ---- single words

-- a word that starts with `-`
abbrev pub is_option : List ℕ → Bool
is_option [] = false
is_option (first ∷ rest) = first == 45

abbrev pub is_file_name : List ℕ → Bool
is_file_name [] = false
is_file_name (first ∷ rest) = not (first == 45)

abbrev pub within : ℕ → ℕ → Option ℕ
within most value = if nat_le 1 value && nat_le value most then Some value else None

-- digits, from one on to this many
abbrev pub is_short_numeral : ℕ → List ℕ → Bool
is_short_numeral digits word = nat_lt 0 (length word) && (all_ascii_digits word && nat_le (length word) digits)

-- the number that the word writes within these bounds
abbrev pub number_of : ℕ → ℕ → List ℕ → Option ℕ
number_of digits most word = if is_short_numeral digits word then within most (digits_value 10 word) else None

-- ---- the parts of words

-- what stands for the mode, for its word and for the budget
pub record Parts : Type 0 where
  pub mode : List ℕ
  pub word : Option (List ℕ)
  pub budget : Option (List ℕ)

-- one or two words beside the option
abbrev pub plain_parts : List (List ℕ) → Option (List ℕ) → Option Parts
plain_parts [] budget = None
plain_parts (mode ∷ []) budget = Some (record { mode = mode; word = None; budget = budget })
plain_parts (mode ∷ word ∷ []) budget = Some (record { mode = mode; word = Some word; budget = budget })
plain_parts (mode ∷ word ∷ more ∷ rest) budget = None

-- the word behind `--budget` is its value
abbrev pub valued_parts : List (List ℕ) → List (List ℕ) → Option Parts
valued_parts before [] = None
valued_parts before (value ∷ after) = plain_parts (before ++ after) (Some value)

abbrev pub is_attached : List ℕ → Bool
is_attached word = starts_with nat_eq word (codes "--budget=")

-- the words from the first one on that starts with `-`
abbrev pub option_parts : List (List ℕ) → List (List ℕ) → Option Parts
option_parts before [] = plain_parts before None
option_parts before (word ∷ rest) =
    if bytes_eq word (codes "--budget") then valued_parts before rest
    else if is_attached word then plain_parts (before ++ rest) (Some (drop 9 word)) else None

abbrev pub option_place : List (List ℕ) → ℕ
option_place words = position_or_len is_option words

abbrev pub parts_of : List (List ℕ) → Option Parts
parts_of words = option_parts (take (option_place words) words) (drop (option_place words) words)

-- ---- what the parts ask for

-- the mode of a file, where the word names one
abbrev pub file_mode : (List ℕ → Mode) → List ℕ → Option Mode
file_mode mode word = if is_file_name word then Some (mode word) else None

abbrev pub lone_mode : List ℕ → Option Mode
lone_mode mode = if bytes_eq mode (codes "replay") then Some replays else None

abbrev pub demo_of : List ℕ → Option Mode
demo_of word = option_map demonstrates (number_of 3 256 word)

abbrev pub mode_with : List ℕ → List ℕ → Option Mode
mode_with mode word =
    if bytes_eq mode (codes "edit") then file_mode edits word
    else if bytes_eq mode (codes "check") then file_mode checks word
    else if bytes_eq mode (codes "merge") then file_mode merges word
    else if bytes_eq mode (codes "posts") then file_mode posts word
    else if bytes_eq mode (codes "demo") then demo_of word
    else None

abbrev pub mode_from : List ℕ → Option (List ℕ) → Option Mode
mode_from mode None = lone_mode mode
mode_from mode (Some word) = mode_with mode word

abbrev pub takes_budget : Mode → Bool
takes_budget (checks file) = false
takes_budget (merges file) = false
takes_budget mode = true

abbrev pub with_number : Mode → List ℕ → Option Request
with_number mode number = option_map (λ budget. record { mode = mode; budget = budget }) (number_of 13 1000000000000 number)

abbrev pub with_budget : Option (List ℕ) → Mode → Option Request
with_budget None mode = Some (record { mode = mode; budget = usual_budget })
with_budget (Some number) mode = if takes_budget mode then with_number mode number else None

abbrev pub request_from : Parts → Option Request
request_from p = option_and_then (with_budget p.budget) (mode_from p.mode p.word)

abbrev pub request_for : List (List ℕ) → Option Request
request_for words = option_and_then request_from (parts_of words)
