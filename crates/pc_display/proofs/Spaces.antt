-- So many spaces, 64 at a time.
use Rattle.std.proofs.Common.{◌≡◌, ℕ, ◌+◌, ◌-◌, ◌*◌, ◌/◌, ◌%◌, ◌<◌, ◌≤◌, ◌++◌, take, replicate, arith, ap, ◌∙◌}
use Rattle.std.proofs.lemmas.List.{replicate-append-replicate, take-replicate}

pub spaces_more : (k : ℕ) → replicate {A = ℕ} (64 * k) 32 ++ replicate 64 32 ≡ replicate (64 * (k + 1)) 32
spaces_more k =
    let more : 64 * k + 64 ≡ 64 * (k + 1) = omega arith in
    replicate-append-replicate {A = ℕ} (64 * k) 64 32 ∙ ap (λ n. replicate {A = ℕ} n 32) more

pub spaces_cut : (k n : ℕ) → k < n / 64 → replicate {A = ℕ} (64 * k) 32 ++ (replicate 64 32 ++ replicate (n - (64 * k + 64)) 32) ≡ replicate n 32
spaces_cut k n below =
    let within : 64 * k + 64 ≤ n = omega (arith, below) in
    let whole : 64 * k + (64 + (n - (64 * k + 64))) ≡ n = omega (arith, within) in
    ap (λ xs. replicate {A = ℕ} (64 * k) 32 ++ xs) (replicate-append-replicate {A = ℕ} 64 (n - (64 * k + 64)) 32)
    ∙ replicate-append-replicate {A = ℕ} (64 * k) (64 + (n - (64 * k + 64))) 32
    ∙ ap (λ m. replicate {A = ℕ} m 32) whole

pub spaces_end : (k n : ℕ) → k ≡ n / 64 → replicate {A = ℕ} (64 * k) 32 ++ take (n % 64) (replicate 64 32) ≡ replicate n 32
spaces_end k n last =
    let few : n % 64 ≤ 64 = omega arith in
    let whole : 64 * k + n % 64 ≡ n = omega (arith, last) in
    ap (λ xs. replicate {A = ℕ} (64 * k) 32 ++ xs) (take-replicate {X = ℕ} (n % 64) 64 32 few)
    ∙ replicate-append-replicate {A = ℕ} (64 * k) (n % 64) 32
    ∙ ap (λ m. replicate {A = ℕ} m 32) whole
