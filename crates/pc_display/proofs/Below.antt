-- The lists of numbered things one after another, and their texts, the first of them written so far.
use Rattle.std.proofs.Common.{◌≡◌, ℕ, zero, suc, ◌+◌, ◌<◌, List, [], ◌∷◌, ◌++◌, Option, Result, Ok, Err, IsErr, arith, sym, ◌∙◌, ap, subst, append_assoc, append-nil, inl, inr}
use Rattle.std.specs.List.{flat_map}
use Rattle.std.proofs.lemmas.Bool.{cases_eq}
use Rattle.std.proofs.lemmas.List.Concat.{flat_map-append}
use Rattle.pc_writer.specs.Writes.{Writes}
use Rattle.pc_writer.proofs.InTurn.{Writes-then, Writes-cut}

module _ {X : Type 0} (below : ℕ → List X) (item : ℕ → X) (more : (n : ℕ) → below (suc n) ≡ below n ++ item n ∷ []) where
  module _ {A : Type 0} (list : X → List A) where
    pub one_more : (n : ℕ) → flat_map list (below (suc n)) ≡ flat_map list (below n) ++ list (item n)
    one_more n = ap (flat_map list) (more n) ∙ flat_map-append list (below n) (item n ∷ []) ∙ ap (λ xs. flat_map list (below n) ++ xs) (append-nil (list (item n)))

    -- what comes behind the one of that number
    pub rest_of : (i n : ℕ) → i < n → (rest : List A) × (flat_map list (below n) ≡ flat_map list (below i) ++ (list (item i) ++ rest))
    rest_of i zero lt = absurd (omega (arith, lt))
    rest_of i (suc n) lt =
        elim (cases_eq i n) [
          | inl same ↦ let P : ℕ → Type 0 = λ m. (rest : List A) × (flat_map list (below (suc n)) ≡ flat_map list (below m) ++ (list (item m) ++ rest)) in
              subst P (sym same) ([], one_more n ∙ ap (λ xs. flat_map list (below n) ++ xs) (sym (append-nil (list (item n)))))
          | inr other ↦
              let before = rest_of i n (omega arith) in (
                before.0 ++ list (item n),
                one_more n ∙ ap (λ xs. xs ++ list (item n)) before.1
                    ∙ append_assoc (flat_map list (below i)) (list (item i) ++ before.0) (list (item n))
                    ∙ ap (λ xs. flat_map list (below i) ++ xs) (append_assoc (list (item i)) before.0 (list (item n))),
              )
        ]

  module _ (text : X → List ℕ) {S T F : Type 0} {given : S → Option (List ℕ)} {faults : S → ℕ} {first second third : S} {done : T} (i : ℕ) (before : Writes {E = F} given faults first second (Ok done) (flat_map text (below i))) where
    pub cut_within : {U D E : Type 0} {fault : E} (n : ℕ) (outcome : Result U D) → i < n → IsErr outcome → Writes {T = T} given faults second third (Err fault) (text (item i)) → Writes given faults first third outcome (flat_map text (below n))
    cut_within n outcome lt fails cut =
        let rest = rest_of text i n lt in
        subst (Writes given faults first third outcome) (sym rest.1) (Writes-then before (Writes-cut outcome rest.0 fails cut))

    pub one_more_written : {written : T} → Writes {E = F} given faults second third (Ok written) (text (item i)) → Writes {E = F} given faults first third (Ok written) (flat_map text (below (i + 1)))
    one_more_written {written = written} there =
        let same : i + 1 ≡ suc i = omega arith in
        subst (Writes given faults first third (Ok written)) (sym (ap (λ n. flat_map text (below n)) same ∙ one_more text i)) (Writes-then before there)
