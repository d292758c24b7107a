-- Modes and budgets, as they are found and as they are meant.
use Rattle.std.proofs.Common.{◌≡◌, ℕ, Bool, true, false, List, [], ◌∷◌, Some, None, Option, codes, arith, refl, sym, ap, ◌∙◌, subst}
use Rattle.std.proofs.lemmas.Bool.Decides.{nat_tests}
use Rattle.std.proofs.lemmas.Slice.Eq.{bytes_eq-Decides}
use Rattle.std.specs.Prelude.{if◌then◌else◌, option_map, option_and_then}
use Rattle.std.specs.Str.{bytes_eq}
use Rattle.pc_words.specs.Words.{Mode, replays, edits, checks, merges, posts, demonstrates, Request, usual_budget, IsFileName, IsNumber, AreOfMode, TakesBudget}
use Rattle.pc_words.specs.inside.Parts.{is_file_name, file_mode, number_of, plain_parts, lone_mode, demo_of, mode_with, takes_budget, with_budget, request_from}
use Rattle.pc_words.proofs.Numbers.{number_sound, number_complete}

-- ---- single words

file_sound : (word : List ℕ) → is_file_name word ≡ true → IsFileName word
file_sound [] h = absurd (cc)
file_sound (first ∷ rest) h = grind (arith, nat_tests)

file_complete : (word : List ℕ) → IsFileName word → is_file_name word ≡ true
file_complete [] h = absurd h
file_complete (first ∷ rest) h = grind (arith, nat_tests)

same : (word text : List ℕ) → bytes_eq word text ≡ true → word ≡ text
same word text h = (bytes_eq-Decides word text).0 h

-- ---- modes

lone_sound : (word : List ℕ) (m : Mode) → lone_mode word ≡ Some m → AreOfMode (word ∷ []) m
lone_sound word m h = by (bytes_eq word (codes "replay")) refl h
  where
    by : (b : Bool) → bytes_eq word (codes "replay") ≡ b → (if b then Some replays else None) ≡ Some m → AreOfMode (word ∷ []) m
    by true e h = let is : replays ≡ m = cc in subst (AreOfMode (word ∷ [])) is (ap (λ w. w ∷ []) (same word (codes "replay") e))
    by false e h = absurd (cc)

demo_sound : (word : List ℕ) (m : Mode) → demo_of word ≡ Some m → AreOfMode (codes "demo" ∷ word ∷ []) m
demo_sound word m h = by (number_of 3 256 word) refl h
  where
    by : (o : Option ℕ) → number_of 3 256 word ≡ o → option_map demonstrates o ≡ Some m → AreOfMode (codes "demo" ∷ word ∷ []) m
    by None e h = absurd (cc)
    by (Some n) e h = let is : demonstrates n ≡ m = cc in subst (AreOfMode (codes "demo" ∷ word ∷ [])) is (word, refl, number_sound 3 256 word n e)

-- the mode of a file, where the word names one
of_file : (mode word : List ℕ) (make : List ℕ → Mode) (m : Mode) → (IsFileName word → AreOfMode (mode ∷ word ∷ []) (make word))
    → file_mode make word ≡ Some m → AreOfMode (mode ∷ word ∷ []) m
of_file mode word make m are h = by (is_file_name word) refl h
  where
    by : (b : Bool) → is_file_name word ≡ b → (if b then Some (make word) else None) ≡ Some m → AreOfMode (mode ∷ word ∷ []) m
    by true e h = let is : make word ≡ m = cc in subst (AreOfMode (mode ∷ word ∷ [])) is (are (file_sound word e))
    by false e h = absurd (cc)

pair : (mode word text : List ℕ) → mode ≡ text → (mode ∷ word ∷ []) ≡ (text ∷ word ∷ [])
pair mode word text e = ap (λ w. w ∷ word ∷ []) e

with_sound : (mode word : List ℕ) (m : Mode) → mode_with mode word ≡ Some m → AreOfMode (mode ∷ word ∷ []) m
with_sound mode word m h = by (bytes_eq mode (codes "edit")) refl (bytes_eq mode (codes "check")) refl (bytes_eq mode (codes "merge")) refl (bytes_eq mode (codes "posts")) refl (bytes_eq mode (codes "demo")) refl h
  where
    by : (b : Bool) → bytes_eq mode (codes "edit") ≡ b → (c : Bool) → bytes_eq mode (codes "check") ≡ c → (d : Bool) → bytes_eq mode (codes "merge") ≡ d → (e : Bool) → bytes_eq mode (codes "posts") ≡ e → (f : Bool) → bytes_eq mode (codes "demo") ≡ f
        → (if b then file_mode edits word else if c then file_mode checks word else if d then file_mode merges word else if e then file_mode posts word else if f then demo_of word else None) ≡ Some m
        → AreOfMode (mode ∷ word ∷ []) m
    by true b c p d q e r f s h = of_file mode word edits m (λ is. (pair mode word (codes "edit") (same mode (codes "edit") b), is)) h
    by false b true p d q e r f s h = of_file mode word checks m (λ is. (pair mode word (codes "check") (same mode (codes "check") p), is)) h
    by false b false p true q e r f s h = of_file mode word merges m (λ is. (pair mode word (codes "merge") (same mode (codes "merge") q), is)) h
    by false b false p false q true r f s h = of_file mode word posts m (λ is. (pair mode word (codes "posts") (same mode (codes "posts") r), is)) h
    by false b false p false q false r true s h = subst (λ t. AreOfMode (t ∷ word ∷ []) m) (sym (same mode (codes "demo") s)) (demo_sound word m h)
    by false b false p false q false r false s h = absurd (cc)

-- ---- budgets

-- what the request says of the budget that stands in the words
abbrev pub IsBudgetOf : Option (List ℕ) → Request → Type 0
IsBudgetOf None r = r.budget ≡ usual_budget
IsBudgetOf (Some number) r = TakesBudget r.mode × IsNumber 13 1000000000000 number r.budget

takes_sound : (m : Mode) → takes_budget m ≡ true → TakesBudget m
takes_sound replays h = tt
takes_sound (edits file) h = tt
takes_sound (checks file) h = absurd (cc)
takes_sound (merges file) h = absurd (cc)
takes_sound (posts file) h = tt
takes_sound (demonstrates n) h = tt

takes_complete : (m : Mode) → TakesBudget m → takes_budget m ≡ true
takes_complete replays h = refl
takes_complete (edits file) h = refl
takes_complete (checks file) h = absurd h
takes_complete (merges file) h = absurd h
takes_complete (posts file) h = refl
takes_complete (demonstrates n) h = refl

pub record Told (m : Mode) (number : Option (List ℕ)) (r : Request) : Type 0 where
  pub mode : m ≡ r.mode
  pub budget : IsBudgetOf number r

budget_sound : (budget : Option (List ℕ)) (m : Mode) (r : Request) → with_budget budget m ≡ Some r → Told m budget r
budget_sound None m r h = let is : record { mode = m; budget = usual_budget } ≡ r = cc in subst (Told m None) is (record { mode = refl; budget = refl })
budget_sound (Some number) m r h = by (takes_budget m) refl (number_of 13 1000000000000 number) refl h
  where
    by : (b : Bool) → takes_budget m ≡ b → (o : Option ℕ) → number_of 13 1000000000000 number ≡ o
        → (if b then option_map (λ (n : ℕ). let q : Request = record { mode = m; budget = n } in q) o else None) ≡ Some r → Told m (Some number) r
    by true e None f h = absurd (cc)
    by true e (Some n) f h =
        let q : Request = record { mode = m; budget = n } in
        let is : q ≡ r = cc in
        subst (Told m (Some number)) is (record { mode = refl; budget = (takes_sound m e, number_sound 13 1000000000000 number n f) })
    by false e o f h = absurd (cc)

budget_complete : (budget : Option (List ℕ)) (r : Request) → IsBudgetOf budget r → with_budget budget r.mode ≡ Some r
budget_complete None r h = ap (λ (n : ℕ). let q : Request = record { mode = r.mode; budget = n } in Some q) (sym h)
budget_complete (Some number) r h = rw (takes_complete r.mode h.0, number_complete 13 1000000000000 number r.budget h.1) refl

-- ---- the words beside the option

from_mode : (o : Option Mode) (budget : Option (List ℕ)) (r : Request) (P : Mode → Type 0) → ((m : Mode) → o ≡ Some m → P m) → option_and_then (with_budget budget) o ≡ Some r → P r.mode × IsBudgetOf budget r
from_mode None budget r P is h = absurd (cc)
from_mode (Some m) budget r P is h = let told = budget_sound budget m r h in (subst P told.mode (is m refl), told.budget)

pub plain_sound : (ws : List (List ℕ)) (budget : Option (List ℕ)) (r : Request) → option_and_then request_from (plain_parts ws budget) ≡ Some r → AreOfMode ws r.mode × IsBudgetOf budget r
plain_sound [] budget r h = absurd (cc)
plain_sound (w ∷ []) budget r h = from_mode (lone_mode w) budget r (AreOfMode (w ∷ [])) (lone_sound w) h
plain_sound (w ∷ v ∷ []) budget r h = from_mode (mode_with w v) budget r (AreOfMode (w ∷ v ∷ [])) (with_sound w v) h
plain_sound (w ∷ v ∷ u ∷ rest) budget r h = absurd (cc)

found : (ws : List (List ℕ)) (budget : Option (List ℕ)) (m : Mode) → AreOfMode ws m → option_and_then request_from (plain_parts ws budget) ≡ with_budget budget m
found ws budget replays is = rw is refl
found ws budget (edits file) is = rw (is.0, file_complete file is.1) refl
found ws budget (checks file) is = rw (is.0, file_complete file is.1) refl
found ws budget (merges file) is = rw (is.0, file_complete file is.1) refl
found ws budget (posts file) is = rw (is.0, file_complete file is.1) refl
found ws budget (demonstrates n) is = rw (is.1, number_complete 3 256 is.0 n is.2) refl

pub plain_complete : (ws : List (List ℕ)) (budget : Option (List ℕ)) (r : Request) → AreOfMode ws r.mode → IsBudgetOf budget r → option_and_then request_from (plain_parts ws budget) ≡ Some r
plain_complete ws budget r is told = found ws budget r.mode is ∙ budget_complete budget r told
