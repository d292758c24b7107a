-- A watch that goes to another list.
use Rattle.std.proofs.Common.{◌≡◌, Bool, ℕ, ◌+◌, ◌-◌, ◌<◌, ◌≤◌, ◌==◌, true, false, cond, eqb-true, eq-eqb, List, [], ◌∷◌, ◌++◌, length, drop, get_or, set, refl, ap, sym, ◌∙◌, arith, ⊎_elim, length-append}
use Rattle.std.specs.List.{swap, swap_remove, sum_by}
use Rattle.std.proofs.lemmas.Bool.{cases_eq}
use Rattle.std.proofs.lemmas.List.{length-set, length-take, length-drop, get_or-set_same, get_or-set_other, get_or-drop, drop-set-lt, drop-set-add}
use Rattle.std.proofs.lemmas.List.Sums.{sum_by-set}
use Rattle.std.proofs.lemmas.List.Edits.{swap_is}
use Rattle.pc_lits.specs.declared.literal.Lit.{Lit}
use Rattle.pc_propagate.specs.declared.watch_lists.Watch.{Watch}
use Rattle.pc_propagate.specs.Listed.{code_of, no_literal, unwatched, spare}

-- one where two numbers are the same
abbrev pub bit : ℕ → ℕ → ℕ
bit c d = cond (c == d) 1 0

pub bit_same : (c d : ℕ) → c ≡ d → bit c d ≡ 1
bit_same c d same = ap (λ b. cond b 1 0) (eq-eqb c d same)

bit_other : (c d : ℕ) → (c ≡ d → ⊥) → bit c d ≡ 0
bit_other c d other = by (c == d) refl
  where
    by : (b : Bool) → (c == d) ≡ b → bit c d ≡ 0
    by true is = absurd (other (eqb-true c d is))
    by false is = ap (λ b. cond b 1 0) is

length-swap_remove : (l : List Watch) (i : ℕ) (w : Watch) → i < length l → length (swap_remove l i w) + 1 ≡ length l
length-swap_remove l i w within = omega (arith, within, length-take (length l - 1) (set l i (get_or l (length l - 1) w)), length-set l i (get_or l (length l - 1) w))

-- how many watches a list has, once one has left a list
pub length_left : (lists : List (List Watch)) (c d i : ℕ) (w : Watch) → c < length lists → i < length (get_or lists c [])
    → length (get_or (set lists c (swap_remove (get_or lists c []) i w)) d []) + bit c d ≡ length (get_or lists d [])
length_left lists c d i w within place = ⊎_elim
    (λ same. omega (
      arith,
      bit_same c d same,
      length-swap_remove (get_or lists c []) i w place,
      ap length (ap (λ (k : ℕ). get_or (set lists c (swap_remove (get_or lists c []) i w)) k []) (sym same) ∙ get_or-set_same lists c (swap_remove (get_or lists c []) i w) [] within),
      ap (λ (k : ℕ). length (get_or lists k [])) same,
    ))
    (λ other. omega (arith, bit_other c d other, ap length (get_or-set_other lists c d (swap_remove (get_or lists c []) i w) [] (λ is. other (sym is)))))
    (cases_eq c d)

-- and once one has come to a list
pub length_come : (lists : List (List Watch)) (c d : ℕ) (w : Watch) → c < length lists
    → length (get_or (set lists c (get_or lists c [] ++ w ∷ [])) d []) ≡ length (get_or lists d []) + bit c d
length_come lists c d w within = ⊎_elim
    (λ same. omega (
      arith,
      bit_same c d same,
      length-append (get_or lists c []) (w ∷ []),
      ap length (ap (λ (k : ℕ). get_or (set lists c (get_or lists c [] ++ w ∷ [])) k []) (sym same) ∙ get_or-set_same lists c (get_or lists c [] ++ w ∷ []) [] within),
      ap (λ (k : ℕ). length (get_or lists k [])) same,
    ))
    (λ other. omega (arith, bit_other c d other, ap length (get_or-set_other lists c d (get_or lists c [] ++ w ∷ []) [] (λ is. other (sym is)))))
    (cases_eq c d)

-- a watched and an unwatched literal of a clause change their places
pub drop_swap : (body : List Lit) (own k : ℕ) → own < 2 → 2 ≤ k → k < length body → drop 2 (swap body own k) ≡ set (drop 2 body) (k - 2) (get_or body own no_literal)
drop_swap body own k first second within =
    let at : k ≡ 2 + (k - 2) = omega arith in
    let x = get_or body k no_literal in
    let y = get_or body own no_literal in
    ap (drop 2) (sym (swap_is body own k no_literal (omega (arith, first, second, within)) within))
    ∙ ap (λ (j : ℕ). drop 2 (set (set body own x) j y)) at
    ∙ drop-set-add 2 (set body own x) (k - 2) y
    ∙ ap (λ (ls : List Lit). set ls (k - 2) y) (drop-set-lt 2 body own x first)

pub unwatched_swap : (body : List Lit) (own k d : ℕ) → own < 2 → 2 ≤ k → k < length body
    → unwatched d (swap body own k) + bit (code_of (get_or body k no_literal)) d ≡ unwatched d body + bit (code_of (get_or body own no_literal)) d
unwatched_swap body own k d first second within =
    let f : Lit → ℕ = λ l. bit (code_of l) d in
    let read : get_or (drop 2 body) (k - 2) no_literal ≡ get_or body k no_literal = get_or-drop 2 body (k - 2) no_literal ∙ ap (λ (j : ℕ). get_or body j no_literal) (let e : 2 + (k - 2) ≡ k = omega arith in e) in
    let sums = sum_by-set f (drop 2 body) (k - 2) (get_or body own no_literal) no_literal (omega (arith, second, within, length-drop 2 body)) in
    ap (λ (ls : List Lit). sum_by f ls + f (get_or body k no_literal)) (drop_swap body own k first second within)
    ∙ ap (λ (l : Lit). sum_by f (set (drop 2 body) (k - 2) (get_or body own no_literal)) + f l) (sym read)
    ∙ sums

pub spare_swap : (bodies : List (List Lit)) (n own k d : ℕ) → n < length bodies → own < 2 → 2 ≤ k → k < length (get_or bodies n [])
    → spare (set bodies n (swap (get_or bodies n []) own k)) d + bit (code_of (get_or (get_or bodies n []) k no_literal)) d
    ≡ spare bodies d + bit (code_of (get_or (get_or bodies n []) own no_literal)) d
spare_swap bodies n own k d inside first second within =
    omega (arith, sum_by-set (unwatched d) bodies n (swap (get_or bodies n []) own k) [] inside, unwatched_swap (get_or bodies n []) own k d first second within)
