-- What is enough for two parts is enough for a whole with one more variable than either.
use Rattle.std.proofs.Common.{◌≡◌, ℕ, zero, suc, ◌+◌, ◌*◌, ◌^◌, ◌<◌, ◌≤◌, [], ◌∷◌, length, sum_by, arith, ap, sym, refl, subst}
use Rattle.std.proofs.Math.Nat.{pow-suc, pow-le-pow_right, one-le-pow}
use Rattle.std.proofs.lemmas.Nat.{mul-le}
use Rattle.std.proofs.lemmas.List.Sums.{sum_by-cons}
use Rattle.pc_enough_laws.specs.Amounts.{enough, enough_of, entries_of, targets_of, EnoughAddsUp, EnoughGrows, WorkedEnough}

-- what the calls amount to
abbrev calls : ℕ → ℕ → ℕ
calls n t = 2 ^ n * (t + 1) * (n + 2)

calls_grow : (n m t u : ℕ) → n ≤ m → t ≤ u → calls n t ≤ calls m u
calls_grow n m t u h k = mul-le (2 ^ n * (t + 1)) (n + 2) (2 ^ m * (u + 1)) (m + 2) (mul-le (2 ^ n) (t + 1) (2 ^ m) (u + 1) (pow-le-pow_right (omega arith) h) (omega (arith, k))) (omega (arith, h))

pub grows : EnoughGrows
grows v w n m t u h k l =
    mul-le v (3 ^ (v + 1) + calls n t + 2) w (3 ^ (w + 1) + calls m u + 2) h
    (let powers : 3 ^ (v + 1) ≤ 3 ^ (w + 1) = pow-le-pow_right (omega arith) (omega (arith, h)) in omega (arith, powers, calls_grow n m t u k l))

-- with one more entry the calls are twice as many
calls_double : (n m t u : ℕ) → n ≤ m → t ≤ u → 2 * calls n t ≤ calls (suc m) u
calls_double n m t u h k =
    let power : 2 ^ suc m ≡ 2 ^ m * 2 = pow-suc 2 m in
    let more = calls_grow n m t u h k in
    let wider : 2 ^ m * (u + 1) * (m + 2) ≤ 2 ^ m * (u + 1) * (suc m + 2) = mul-le (2 ^ m * (u + 1)) (m + 2) (2 ^ m * (u + 1)) (suc m + 2) (omega arith) (omega arith) in
    let twice : 2 ^ suc m * (u + 1) * (suc m + 2) ≡ 2 * (2 ^ m * (u + 1) * (suc m + 2)) = rw power (omega arith) in
    omega (arith, more, wider, twice)

-- with no entry on the one side
calls_without : (n t u : ℕ) → calls n t + 2 * (u + 1) ≤ calls n (t + u) + 2
calls_without n t u =
    let some : 1 ≤ 2 ^ n = one-le-pow n 2 (omega arith) in
    let added : 1 * u * 2 ≤ 2 ^ n * u * (n + 2) = mul-le (1 * u) 2 (2 ^ n * u) (n + 2) (mul-le 1 u (2 ^ n) u some (omega arith)) (omega arith) in
    let split : 2 ^ n * (t + u + 1) * (n + 2) ≡ 2 ^ n * (t + 1) * (n + 2) + 2 ^ n * u * (n + 2) = omega arith in
    omega (arith, added, split)

calls_joined : (n m t u : ℕ) → calls n t + calls m u ≤ calls (n + m) (t + u) + 2
calls_joined n zero t u =
    let single : calls zero u ≡ 2 * (u + 1) = omega arith in
    let none : n + zero ≡ n = omega arith in
    let moved : calls (n + zero) (t + u) ≡ calls n (t + u) = ap (λ k. calls k (t + u)) none in
    omega (arith, calls_without n t u, single, moved)
calls_joined zero (suc m) t u =
    let single : calls zero t ≡ 2 * (t + 1) = omega arith in
    let other = calls_without (suc m) u t in
    let turned : calls (suc m) (u + t) ≡ calls (suc m) (t + u) = let same : u + t ≡ t + u = omega arith in ap (calls (suc m)) same in
    let none : zero + suc m ≡ suc m = omega arith in
    let moved : calls (zero + suc m) (t + u) ≡ calls (suc m) (t + u) = ap (λ k. calls k (t + u)) none in
    omega (arith, other, turned, moved, single)
calls_joined (suc n) (suc m) t u =
    let left = calls_double (suc n) (n + suc m) t (t + u) (omega arith) (omega arith) in
    let right = calls_double (suc m) (n + suc m) u (t + u) (omega arith) (omega arith) in
    let same : suc n + suc m ≡ suc (n + suc m) = omega arith in
    let moved : calls (suc n + suc m) (t + u) ≡ calls (suc (n + suc m)) (t + u) = ap (λ k. calls k (t + u)) same in
    omega (arith, left, right, moved)

two : (v w n m t u : ℕ) → 1 ≤ w → v ≤ w → enough v n t + enough w m u ≤ enough (suc w) (n + m) (t + u)
two v w n m t u some below =
    let power = 3 ^ (w + 1) in
    let p = power + calls n t + 2 in
    let q = power + calls m u + 2 in
    let r = 3 ^ (suc w + 1) + calls (n + m) (t + u) + 2 in
    let larger : enough v n t ≤ w * p = grows v w n n t t below (omega arith) (omega arith) in
    let higher : 2 ≤ w + 1 = omega (arith, some) in
    let positive : 0 < 3 = omega arith in
    let nine : 3 ^ 2 ≤ power = pow-le-pow_right positive higher in
    let triple : 3 ^ (suc w + 1) ≡ power * 3 = let next : suc w + 1 ≡ suc (w + 1) = omega arith in rw next (pow-suc 3 (w + 1)) in
    let fits : p + q ≤ r = omega (arith, nine, triple, calls_joined n m t u) in
    let product : w * (p + q) ≤ suc w * r = mul-le w (p + q) (suc w) r (omega arith) fits in
    let split : w * (p + q) ≡ w * p + w * q = omega arith in
    omega (arith, larger, product, split)

pub adds_up : EnoughAddsUp
adds_up most first [] some all =
    let within : first.variables ≤ most = all zero first (omega arith) in
    let alone = first ∷ [] in
    let es : first.entries ≡ sum_by entries_of alone = omega (arith, sum_by-cons entries_of first []) in
    let ts : first.targets ≡ sum_by targets_of alone = omega (arith, sum_by-cons targets_of first []) in
    let one = grows first.variables (most + 0) first.entries (sum_by entries_of alone) first.targets (sum_by targets_of alone) (omega (arith, within)) (omega (arith, es)) (omega (arith, ts)) in
    omega (arith, sum_by-cons enough_of first [], one)
adds_up most first (next ∷ others) some all =
    let within : first.variables ≤ most = all zero first (omega arith) in
    let rest = adds_up most next others some (λ k d l. all (suc k) d (omega (arith, l))) in
    let entries = sum_by entries_of (next ∷ others) in
    let targets = sum_by targets_of (next ∷ others) in
    let joined = two first.variables (most + length others) first.entries entries first.targets targets (omega (arith, some)) (omega (arith, within)) in
    let wider : suc (most + length others) ≡ most + length (next ∷ others) = omega arith in
    let es : sum_by entries_of (first ∷ next ∷ others) ≡ first.entries + entries = sum_by-cons entries_of first (next ∷ others) in
    let ts : sum_by targets_of (first ∷ next ∷ others) ≡ first.targets + targets = sum_by-cons targets_of first (next ∷ others) in
    let ss : sum_by enough_of (first ∷ next ∷ others) ≡ enough_of first + sum_by enough_of (next ∷ others) = sum_by-cons enough_of first (next ∷ others) in
    subst (λ e. sum_by enough_of (first ∷ next ∷ others) ≤ enough (most + length (next ∷ others)) e (sum_by targets_of (first ∷ next ∷ others))) (sym es)
    (subst (λ t. sum_by enough_of (first ∷ next ∷ others) ≤ enough (most + length (next ∷ others)) (first.entries + entries) t) (sym ts)
    (subst (λ w. sum_by enough_of (first ∷ next ∷ others) ≤ enough w (first.entries + entries) (first.targets + targets)) wider (omega (arith, ss, rest, joined))))

pub enough_worked : WorkedEnough
enough_worked = record { no_entry = refl; two_entries = refl; three_entries = refl; no_variable = refl }
