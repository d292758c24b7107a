-- What a walk along the variables tells.
use Rattle.std.proofs.Common.{◌≡◌, ℕ, zero, suc, ◌+◌, ◌<◌, ◌≤◌, List, [], ◌∷◌, ◌++◌, Some, slice_get, length, map, take, get_or, Contains, arith, ap, ◌∙◌, sym, subst, inl, inr, Bool, true, false}
use Rattle.std.proofs.lemmas.List.{take_more, take_all, map-append}
use Rattle.std.proofs.lemmas.List.Elements.{Contains-push_cases}
use Rattle.std.specs.Str.{bytes_eq}
use Rattle.std.proofs.lemmas.Slice.Eq.{bytes_eq-Decides}
use Rattle.pc_sheet.specs.WellSorted.{variable_name}
use Rattle.pc_elaborate.specs.declared.scope.Variable.{Variable}
use Rattle.pc_elaborate.specs.FormulaFaults.{IsAround}
use Rattle.pc_elaborate.specs.Told.{variable_of, variables_of}

pub variable_at : (vs : List Variable) (k : ℕ) (v : Variable) (n : List ℕ) → v ≡ get_or vs k v → k < length vs → v.name.now ≡ n → slice_get (variables_of vs) k ≡ Some (n, v.sort)
variable_at [] k v n is l same = absurd (omega arith)
variable_at (w ∷ vs) zero v n is l same = ap (λ (x : Variable). Some (variable_of x)) (sym is) ∙ ap (λ m. Some (m, v.sort)) same
variable_at (w ∷ vs) (suc k) v n is l same = variable_at vs k v n is (omega arith) same

pub not_bound_more : (vs : List Variable) (k : ℕ) (v : Variable) (n : List ℕ) → v ≡ get_or vs k v → k < length vs → ¬ IsAround (variables_of (take k vs)) n → (v.name.now ≡ n → ⊥) → ¬ IsAround (variables_of (take (k + 1) vs)) n
not_bound_more vs k v n is l before differ h =
    let names : map variable_name (variables_of (take (k + 1) vs)) ≡ map variable_name (variables_of (take k vs)) ++ v.name.now ∷ [] =
    ap (λ ws. map variable_name (variables_of ws)) (take_more vs k v l ∙ ap (λ y. take k vs ++ y ∷ []) (sym is)) ∙ ap (map variable_name) (map-append variable_of (take k vs) (v ∷ [])) ∙ map-append variable_name (variables_of (take k vs)) (variable_of v ∷ []) in
    elim (Contains-push_cases (map variable_name (variables_of (take k vs))) v.name.now n (subst (λ ns. Contains ns n) names h)) [ inl a ↦ before a | inr b ↦ differ b ]

pub not_bound_at_all : (vs : List Variable) (k : ℕ) (n : List ℕ) → length vs ≤ k → ¬ IsAround (variables_of (take k vs)) n → ¬ IsAround (variables_of vs) n
not_bound_at_all vs k n l h = subst (λ ws. ¬ IsAround (variables_of ws) n) (take_all k vs l) h

pub same_name : (b : Bool) (n m : List ℕ) → b ≡ bytes_eq n m → b ≡ true → n ≡ m
same_name b n m is holds = (bytes_eq-Decides n m).0 (sym is ∙ holds)

pub other_name : (b : Bool) (n m : List ℕ) → b ≡ bytes_eq n m → b ≡ false → n ≡ m → ⊥
other_name b n m is differs same = let e = (bytes_eq-Decides n m).1 same in absurd (cc)
