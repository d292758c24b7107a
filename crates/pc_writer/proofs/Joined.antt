-- Texts written one after another with a separator between each two.
use Rattle.std.proofs.Common.{◌≡◌, ℕ, zero, suc, ◌+◌, ◌≤◌, List, [], ◌∷◌, ◌++◌, length, take, drop, slice_get, Option, Some, Result, Ok, Err, IsErr, arith, sym, ◌∙◌, ap, subst, append_assoc}
use Rattle.std.specs.List.{flat_map}
use Rattle.std.proofs.lemmas.List.{take_all}
use Rattle.pc_sheet.proofs.Cells.{some_same}
use Rattle.pc_writer.specs.Spelling.{joined}
use Rattle.pc_writer.specs.Separator.{separator_at}
use Rattle.pc_writer.specs.Writes.{Writes}
use Rattle.pc_writer.proofs.InTurn.{Writes-then, Writes-cut}
use Rattle.pc_writer.proofs.InPieces.{flat_map-take_more, flat_map-whole}

module _ (separator : List ℕ) where
  joined-more : (texts : List (List ℕ)) (i : ℕ) (text : List ℕ) → slice_get texts i ≡ Some text → joined separator (take (suc i) texts) ≡ joined separator (take i texts) ++ (separator_at separator i ++ text)
  joined-more [] i text is = absurd (cc)
  joined-more (x ∷ texts) zero text is = flat_map-take_more (λ t. t) (x ∷ texts) zero text is
  joined-more (x ∷ texts) (suc i) text is =
      ap (λ rest. x ++ rest) (flat_map-take_more (λ t. separator ++ t) texts i text is) ∙ sym (append_assoc x (flat_map (λ t. separator ++ t) (take i texts)) (separator ++ text))

  -- what comes after the text of that number
  abbrev after : List (List ℕ) → ℕ → List ℕ
  after texts i = flat_map (λ t. separator ++ t) (drop (suc i) texts)

  joined-whole : (texts : List (List ℕ)) (i : ℕ) (text : List ℕ) → slice_get texts i ≡ Some text → joined separator texts ≡ joined separator (take i texts) ++ (separator_at separator i ++ (text ++ after texts i))
  joined-whole [] i text is = absurd (cc)
  joined-whole (x ∷ texts) zero text is = ap (λ t. t ++ flat_map (λ o. separator ++ o) texts) (some_same is)
  joined-whole (x ∷ texts) (suc i) text is =
      ap (λ rest. x ++ rest) (flat_map-whole (λ t. separator ++ t) texts i text is)
      ∙ ap (λ rest. x ++ (flat_map (λ t. separator ++ t) (take i texts) ++ rest)) (append_assoc separator text (after texts i))
      ∙ sym (append_assoc x (flat_map (λ t. separator ++ t) (take i texts)) (separator ++ (text ++ after texts i)))

module _ {S T F : Type 0} {given : S → Option (List ℕ)} {faults : S → ℕ} {first second third : S} {done : T} (separator : List ℕ) (texts : List (List ℕ)) (i : ℕ) (text : List ℕ) (is : slice_get texts i ≡ Some text) (before : Writes {E = F} given faults first second (Ok done) (joined separator (take i texts))) where
  pub cut_in_separator : {U D E : Type 0} {fault : E} (outcome : Result U D) → IsErr outcome → Writes {T = T} given faults second third (Err fault) (separator_at separator i) → Writes given faults first third outcome (joined separator texts)
  cut_in_separator outcome fails cut =
      subst (Writes given faults first third outcome) (sym (joined-whole separator texts i text is)) (Writes-then before (Writes-cut outcome (text ++ after separator texts i) fails cut))

  module _ {fourth : S} {separated : T} (between : Writes {E = F} given faults second third (Ok separated) (separator_at separator i)) where
    pub cut_in_text : {U D E : Type 0} {fault : E} (outcome : Result U D) → IsErr outcome → Writes {T = T} given faults third fourth (Err fault) text → Writes given faults first fourth outcome (joined separator texts)
    cut_in_text outcome fails cut =
        subst (Writes given faults first fourth outcome) (sym (joined-whole separator texts i text is)) (Writes-then before (Writes-then between (Writes-cut outcome (after separator texts i) fails cut)))

    pub one_more_text : {written : T} → Writes {E = F} given faults third fourth (Ok written) text → Writes {E = F} given faults first fourth (Ok written) (joined separator (take (i + 1) texts))
    one_more_text {written = written} there =
        let same : i + 1 ≡ suc i = omega arith in
        let next : joined separator (take (i + 1) texts) ≡ joined separator (take i texts) ++ (separator_at separator i ++ text) = ap (λ n. joined separator (take n texts)) same ∙ joined-more separator texts i text is in
        subst (Writes given faults first fourth (Ok written)) (sym next) (Writes-then before (Writes-then between there))

pub all_texts : {S T E : Type 0} {given : S → Option (List ℕ)} {faults : S → ℕ} {first last : S} {outcome : Result T E} (separator : List ℕ) (texts : List (List ℕ)) (n : ℕ) → length texts ≤ n
    → Writes given faults first last outcome (joined separator (take n texts)) → Writes given faults first last outcome (joined separator texts)
all_texts {given = given} {faults = faults} {first = first} {last = last} {outcome = outcome} separator texts n within written =
    subst (λ ts. Writes given faults first last outcome (joined separator ts)) (take_all n texts within) written
