-- Hints by number, and the clauses that they name.
use Rattle.std.proofs.Common.{◌≡◌, ℕ, zero, suc, ◌-◌, ◌<◌, ◌≤◌, ◌↔◌, List, [], ◌∷◌, length, get_or, All, Some, slice_get, refl, ap, sym, ◌∙◌, arith}
use Rattle.std.proofs.lemmas.Option.{slice_get-get_or}
use Rattle.std.proofs.lemmas.List.{length-map, get_or-map}
use Rattle.std.proofs.lemmas.List.Elements.{All-weaker, All-map, All-head, All-tail}
use Rattle.pc_lits.specs.declared.literal.Lit.{Lit}
use Rattle.pc_lits.specs.Hints.{clauses_at}
use Rattle.pc_cert.specs.Text.{place_meant}
use Rattle.pc_checker.specs.inside.Numbers.{IsNumberUpTo, places_of}
use Rattle.pc_checker.specs.inside.Parts.{places_meant}
use Rattle.pc_checker.proofs.ListLemmas.{all_mapped}

-- a number means an earlier place exactly where it is one of those from 1
meant : (place n : ℕ) → place_meant place n < place → IsNumberUpTo place n
meant place zero less = absurd (omega arith)
meant place (suc n) less = (omega arith, omega arith)

means : (place n : ℕ) → IsNumberUpTo place n → place_meant place n < place
means place zero is = absurd (omega arith)
means place (suc n) is = omega arith

same_place : (place n : ℕ) → IsNumberUpTo place n → place_meant place n ≡ n - 1
same_place place zero is = absurd (omega arith)
same_place place (suc n) is = omega arith

pub earlier : (place : ℕ) (numbers : List ℕ) → All (IsNumberUpTo place) numbers ↔ All (λ h. h < place) (places_meant place numbers)
earlier place numbers = (
  λ h. All-map (λ h. h < place) (place_meant place) numbers (All-weaker (IsNumberUpTo place) (λ n. place_meant place n < place) (means place) numbers h),
  λ h. All-weaker (λ n. place_meant place n < place) (IsNumberUpTo place) (meant place) numbers (all_mapped (λ h. h < place) (place_meant place) numbers h),
)

pub same_places : (place : ℕ) (numbers : List ℕ) → All (IsNumberUpTo place) numbers → places_meant place numbers ≡ places_of numbers
same_places place [] all = refl
same_places place (n ∷ numbers) all =
    let first = same_place place n (All-head (IsNumberUpTo place) n numbers all) in
    let rest = same_places place numbers (All-tail (IsNumberUpTo place) n numbers all) in
    cc

pub up_to_more : (place count : ℕ) (numbers : List ℕ) → place ≤ count → All (IsNumberUpTo place) numbers → All (IsNumberUpTo count) numbers
up_to_more place count numbers less all = All-weaker (IsNumberUpTo place) (IsNumberUpTo count) (λ n is. (is.0, omega arith)) numbers all

-- the clause that is looked up is that of the hint
pub hinted_clause : (clauses : List (List Lit)) (numbers : List ℕ) (i d : ℕ) (c : List Lit) → All (IsNumberUpTo (length clauses)) numbers → i < length numbers
    → slice_get clauses (get_or numbers i d - 1) ≡ Some c → slice_get (clauses_at clauses (places_of numbers)) i ≡ Some c
hinted_clause clauses numbers i d c all within at =
    let n = get_or numbers i d in
    let is = all i d within in
    let less : n - 1 < length clauses = omega (arith, is.0, is.1) in
    let minus : ℕ → ℕ = λ n. n - 1 in
    let look : ℕ → List Lit = λ p. get_or clauses p [] in
    let count = length-map numbers minus in
    let here : get_or (clauses_at clauses (places_of numbers)) i [] ≡ look (get_or (places_of numbers) i d) = get_or-map look (places_of numbers) i d [] (omega arith) in
    let place : get_or (places_of numbers) i d ≡ n - 1 = get_or-map minus numbers i d d within in
    slice_get-get_or (clauses_at clauses (places_of numbers)) i [] (omega (arith, count, length-map (places_of numbers) look)) ∙ ap Some (here ∙ ap look place) ∙ sym (slice_get-get_or clauses (n - 1) [] less) ∙ at

-- the clauses that hints name are so where all are
pub hints_are : (P : List Lit → Type 0) (clauses : List (List Lit)) (numbers : List ℕ) → All (IsNumberUpTo (length clauses)) numbers → All P clauses → All P (clauses_at clauses (places_of numbers))
hints_are P clauses numbers within all =
    let minus : ℕ → ℕ = λ n. n - 1 in
    let below : All (λ h. h < length clauses) (places_of numbers) =
    All-map (λ h. h < length clauses) minus numbers (All-weaker (IsNumberUpTo (length clauses)) (λ n. n - 1 < length clauses) (λ n is. omega arith) numbers within)
    in
    All-map P (λ p. get_or clauses p []) (places_of numbers) (λ k d l. all (get_or (places_of numbers) k d) [] (below k d l))

pub length-places : (clauses : List (List Lit)) (numbers : List ℕ) → length (clauses_at clauses (places_of numbers)) ≡ length numbers
length-places clauses numbers =
    let minus : ℕ → ℕ = λ n. n - 1 in
    let look : ℕ → List Lit = λ p. get_or clauses p [] in
    length-map (places_of numbers) look ∙ length-map numbers minus

pub all_below : (place count : ℕ) (places : List ℕ) → place ≤ count → All (λ h. h < place) places → All (λ h. h < count) places
all_below place count places less all = All-weaker (λ h. h < place) (λ h. h < count) (λ h l. omega arith) places all
