-- Pieces written one after another, at bytes that are told or not.
use Rattle.std.proofs.Common.{◌≡◌, ℕ, List, [], ◌∷◌, ◌++◌, suc, zero-add, Option, refl, sym, ◌∙◌, ap, take, drop, ◌+◌, ◌-◌, ◌≤◌, length, arith, min, subst, take-append-drop}
use Rattle.std.proofs.lemmas.List.{take-append-le, take_min, take_rest, drop-take, take-take}
use Rattle.std.proofs.KnownBytes.{Appends-nil, Appends-trans}
use Rattle.std.specs.Io.KnownBytes.{Appends}
use Rattle.pc_port.specs.Port.{AppendsFront}

-- a front, and then the front of the rest
pub front_goes_on : (xs : List ℕ) (at n : ℕ) → take at xs ++ take n (take (length xs - at) (drop at xs)) ≡ take (at + n) xs
front_goes_on xs at n =
    ap (λ (l : List ℕ). take at xs ++ take n l) (take_rest xs at)
    ∙ ap (λ (l : List ℕ). take at xs ++ l) (sym (drop-take at n xs))
    ∙ ap (λ (l : List ℕ). l ++ drop at (take (at + n) xs)) (sym (take-take at (at + n) xs (omega arith)))
    ∙ take-append-drop at (take (at + n) xs)

take-append-add : (xs ys : List ℕ) (n : ℕ) → take (length xs + n) (xs ++ ys) ≡ xs ++ take n ys
take-append-add [] ys n = rw zero-add refl
take-append-add (x ∷ xs) ys n =
    let next : suc (length xs) + n ≡ suc (length xs + n) = omega arith in
    ap (λ (k : ℕ). take k (x ∷ (xs ++ ys))) next ∙ ap (λ (l : List ℕ). x ∷ l) (take-append-add xs ys n)

-- a piece that was cut short, and nothing of the next
pub front_of_first : (a b : Option (List ℕ)) (bs cs : List ℕ) → AppendsFront a b bs → AppendsFront a b (bs ++ cs)
front_of_first a b bs cs part =
    let n = min part.count (length bs) in
    let le : min part.count (length bs) ≤ length bs = omega arith in
    let same : take (min part.count (length bs)) (bs ++ cs) ≡ take part.count bs = take-append-le (min part.count (length bs)) bs cs le ∙ take_min part.count bs in
    record { count = min part.count (length bs); front = subst (λ (l : List ℕ). Appends a b l) (sym same) part.front }

-- a piece, and then a front of the next
pub front_of_second : (a b c : Option (List ℕ)) (bs cs : List ℕ) → Appends a b bs → AppendsFront b c cs → AppendsFront a c (bs ++ cs)
front_of_second a b c bs cs first part =
    let both : Appends a c (bs ++ take part.count cs) = Appends-trans a b c bs (take part.count cs) first part.front in
    record { count = length bs + part.count; front = subst (λ (l : List ℕ). Appends a c l) (sym (take-append-add bs cs part.count)) both }

-- nothing was written
pub front_of_none : (a : Option (List ℕ)) (bs : List ℕ) → AppendsFront a a bs
front_of_none a bs = record { count = 0; front = Appends-nil a }
