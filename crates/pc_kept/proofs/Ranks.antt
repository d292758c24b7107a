-- Ranks of nodes: what comes before a node has a lower one. Of two nodes at different depths the deeper one has the lower rank, else the one with
-- the lower last step.
use Rattle.std.proofs.Common.{◌≡◌, ℕ, suc, ◌+◌, ◌-◌, ◌*◌, ◌<◌, inl, inr, List, [], ◌∷◌, length, Contains, arith, ap, sym, ◌∙◌}
use Rattle.std.proofs.Math.Nat.{suc-mul}
use Rattle.std.proofs.lemmas.List.{length-append}
use Rattle.pc_sheet.specs.Sheet.{Sheet}
use Rattle.pc_accept.specs.Literals.{Symbol, pair, node}
use Rattle.pc_accept.specs.Rows.{last_of}
use Rattle.pc_lemmas.proofs.Elements.{contains_cases, contains_none}
use Rattle.pc_ground.specs.Variables.{variables}
use Rattle.pc_ground.proofs.Rows.{last_is}
use Rattle.pc_kept.specs.Kept.{IsNode}
use Rattle.pc_kept.proofs.Meant.{IsBefore}

-- more than each
abbrev total : (Symbol → ℕ) → List Symbol → ℕ
total f [] = 1
total f (x ∷ xs) = f x + total f xs

below_total : (f : Symbol → ℕ) (xs : List Symbol) (x : Symbol) → Contains xs x → f x < total f xs
below_total f [] x has = absurd (contains_none x has)
below_total f (y ∷ ys) x has = elim (contains_cases y ys x has) [
  | inl same ↦ let is : f y ≡ f x = ap f same in let more = some_more f ys in omega (arith, is, more)
  | inr later ↦ let rest = below_total f ys x later in omega (arith, rest)
]
  where
    some_more : (f : Symbol → ℕ) (xs : List Symbol) → 0 < total f xs
    some_more f [] = omega arith
    some_more f (x ∷ xs) = let rest = some_more f xs in omega (arith, rest)

abbrev depth : Symbol → ℕ
depth (pair c v) = 0
depth (node r path) = length path

abbrev last_step : Symbol → ℕ
last_step (pair c v) = 0
last_step (node r path) = last_of path

deeper_below : (most d few k last : ℕ) → d + 1 < most → k < few → (most - (d + 1)) * few + k < (most - d) * few + last
deeper_below most d few k last deep small =
    let e = most - (d + 1) in
    let one : most - d ≡ suc e = omega (arith, deep) in
    let times : (most - d) * few ≡ suc e * few = ap (λ n. n * few) one in
    let more : e * few + few ≡ suc e * few = rw suc-mul (omega arith) in
    omega (arith, times, more, small)

module _ (sheet : Sheet) where
  pub rank_of : Symbol → ℕ
  rank_of x = (total depth (variables sheet) - depth x) * total last_step (variables sheet) + last_step x

  pub ranked : (p x : Symbol) → Contains (variables sheet) x → IsNode x → IsBefore p x → rank_of x < rank_of p
  unfolding rank_of
  ranked (pair c v) x x_in a_node before = absurd before
  ranked (node r path) x x_in a_node (inl no_node) = absurd (no_node a_node)
  ranked (node r path) x x_in a_node (inr (inl (k, is))) =
      let most = total depth (variables sheet) in
      let few = total last_step (variables sheet) in
      let longer : depth x ≡ length path + 1 = ap depth is ∙ length-append path (k ∷ []) in
      let last : last_step x ≡ k = ap last_step is ∙ last_is path k in
      let deep = below_total depth (variables sheet) x x_in in
      let small = below_total last_step (variables sheet) x x_in in
      let same : (most - depth x) * few ≡ (most - (length path + 1)) * few = ap (λ d. (most - d) * few) longer in
      let less = deeper_below most (length path) few k (last_of path) (omega (arith, deep, longer)) (omega (arith, small, last)) in
      omega (arith, same, last, less)
  ranked (node r path) x x_in a_node (inr (inr (up, q, k, path_is, low, is))) =
      let most = total depth (variables sheet) in
      let few = total last_step (variables sheet) in
      let x_long : depth x ≡ length up + 1 = ap depth is ∙ length-append up (q ∷ []) in
      let p_long : length path ≡ length up + 1 = ap length path_is ∙ length-append up (k ∷ []) in
      let x_last : last_step x ≡ q = ap last_step is ∙ last_is up q in
      let p_last : last_of path ≡ k = ap last_of path_is ∙ last_is up k in
      let same : (most - depth x) * few ≡ (most - length path) * few = ap (λ d. (most - d) * few) (x_long ∙ sym p_long) in
      omega (arith, same, x_last, p_last, low)
