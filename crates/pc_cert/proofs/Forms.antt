-- Which forms start with a word.
use Rattle.std.proofs.Common.{◌≡◌, ℕ, ◌≤◌, Bool, false, List, [], ◌∷◌, Bor, IfOk, Result, codes, refl, sym, ◌∙◌, ap, subst, arith}
use Rattle.std.specs.Prelude.{bytes_eq}
use Rattle.std.specs.Char.{digit_value}
use Rattle.pc_formula.specs.declared.refusal.Refusal.{Refusal}
use Rattle.pc_cert.specs.Written.{nothing, heading, claims, begins, uses, assigns, derives, ends, WrittenLine}
use Rattle.pc_cert.specs.Claims.{WrittenPair, WrittenClaim, written_implied, written_inconsistent, written_repairs, written_unimplied, written_against, IsClaim, IsDenial, SpellsPair, IsClaimForm}
use Rattle.pc_cert.specs.Texts.{IsNumberText}
use Rattle.pc_cert.specs.Words.{texts_of, SpellsThis, IsNameText}
use Rattle.pc_cert.specs.Line.{IsCertificateForm, IsCertificateLine}
use Rattle.pc_cert.specs.Trees.{line_of, seen}
use Rattle.pc_cert.specs.declared.tree.LineTree.{LineTree}
use Rattle.pc_cert.proofs.Words.{starts_otherwise, heads, tails}
use Rattle.pc_cert.proofs.Spelling.{if_ok_more}

not_empty : {A : Type 0} (x : A) (xs : List A) → x ∷ xs ≡ [] → ⊥
not_empty x xs e = absurd (cc)

not_digit : (c : ℕ) (cs : List ℕ) (n : ℕ) → 10 ≤ digit_value c → IsNumberText (c ∷ cs) n → ⊥
not_digit c cs n large is = omega (arith, large, is.digits.1.0)

no_number : (c : ℕ) (cs : List ℕ) (rest : List (List ℕ)) (number : List ℕ) (more : List (List ℕ)) (n : ℕ) → 10 ≤ digit_value c → (c ∷ cs) ∷ rest ≡ number ∷ more → IsNumberText number n → ⊥
no_number c cs rest number more n large e is = not_digit c cs n large (subst (λ t. IsNumberText t n) (sym (heads (c ∷ cs) number rest more e)) is)

-- a claim's line starts with `claim`
claim_starts : (line : List ℕ) (texts : List (List ℕ)) (c : WrittenClaim) → IsClaimForm line texts c → (more : List (List ℕ)) × (texts ≡ codes "claim" ∷ more)
claim_starts line texts (written_implied p holds) is = (is.0.more, is.0.is)
claim_starts line texts written_inconsistent is = (_, is)
claim_starts line texts written_repairs is = (_, is)
claim_starts line texts (written_unimplied p) is = (is.0.more, is.0.is)
claim_starts line texts (written_against n) is = (_, is.0)

-- no claim starts with another word
other_claim : (line word : List ℕ) (rest : List (List ℕ)) (c : WrittenClaim) → bytes_eq word (codes "claim") ≡ false → IsClaimForm line (word ∷ rest) c → ⊥
other_claim line word rest c other is = let starts = claim_starts line (word ∷ rest) c is in starts_otherwise word (codes "claim") rest starts.0 other starts.1

pub only_claims : (line : List ℕ) (rest : List (List ℕ)) → ((c : WrittenClaim) → IsClaimForm line (codes "claim" ∷ rest) c → ⊥) → (f : WrittenLine) → IsCertificateForm line (codes "claim" ∷ rest) f → ⊥
only_claims line rest none nothing is = not_empty (codes "claim") rest is
only_claims line rest none heading is = starts_otherwise (codes "claim") (codes "certificate") rest _ refl is.are
only_claims line rest none (claims c) is = none c is
only_claims line rest none begins is = starts_otherwise (codes "claim") (codes "set") rest _ refl is
only_claims line rest none (uses p) is = starts_otherwise (codes "claim") (codes "use") rest _ refl is.0.is
only_claims line rest none (assigns p) is = starts_otherwise (codes "claim") (codes "value") rest _ refl is.0.is
only_claims line rest none (derives n part) is = no_number 99 (codes "laim") rest is.number is.more n (omega arith) is.are is.counts
only_claims line rest none ends is = starts_otherwise (codes "claim") (codes "end") rest _ refl is

-- what a claim's line may claim
pub only_these_claims : (line : List ℕ) (rest : List (List ℕ)) → (rest ≡ codes "inconsistent" ∷ [] → ⊥) → (rest ≡ codes "repairs" ∷ [] → ⊥) → ((q : WrittenPair × Bool) → SpellsThis IsClaim line q → ⊥)
    → ((p : WrittenPair) → SpellsThis IsDenial line p → ⊥) → ((n : List ℕ) → rest ≡ codes "against" ∷ n ∷ [] → IsNameText n → ⊥) → (c : WrittenClaim) → IsClaimForm line (codes "claim" ∷ rest) c → ⊥
only_these_claims line rest inconsistent repairs target denial against (written_implied p holds) is = target (p, holds) is.1
only_these_claims line rest inconsistent repairs target denial against written_inconsistent is = inconsistent (tails (codes "claim") (codes "claim") rest (codes "inconsistent" ∷ []) is)
only_these_claims line rest inconsistent repairs target denial against written_repairs is = repairs (tails (codes "claim") (codes "claim") rest (codes "repairs" ∷ []) is)
only_these_claims line rest inconsistent repairs target denial against (written_unimplied p) is = denial p is.1
only_these_claims line rest inconsistent repairs target denial against (written_against n) is = against n (tails (codes "claim") (codes "claim") rest (codes "against" ∷ n ∷ []) is.0) is.1

pub only_sets : (line : List ℕ) (rest : List (List ℕ)) → (rest ≡ [] → ⊥) → (f : WrittenLine) → IsCertificateForm line (codes "set" ∷ rest) f → ⊥
only_sets line rest none nothing is = not_empty (codes "set") rest is
only_sets line rest none heading is = starts_otherwise (codes "set") (codes "certificate") rest _ refl is.are
only_sets line rest none (claims c) is = other_claim line (codes "set") rest c refl is
only_sets line rest none begins is = none (tails (codes "set") (codes "set") rest [] is)
only_sets line rest none (uses p) is = starts_otherwise (codes "set") (codes "use") rest _ refl is.0.is
only_sets line rest none (assigns p) is = starts_otherwise (codes "set") (codes "value") rest _ refl is.0.is
only_sets line rest none (derives n part) is = no_number 115 (codes "et") rest is.number is.more n (omega arith) is.are is.counts
only_sets line rest none ends is = starts_otherwise (codes "set") (codes "end") rest _ refl is

pub only_uses : (line : List ℕ) (rest : List (List ℕ)) → ((p : WrittenPair) → SpellsPair line (codes "use") p → ⊥) → (f : WrittenLine) → IsCertificateForm line (codes "use" ∷ rest) f → ⊥
only_uses line rest none nothing is = not_empty (codes "use") rest is
only_uses line rest none heading is = starts_otherwise (codes "use") (codes "certificate") rest _ refl is.are
only_uses line rest none (claims c) is = other_claim line (codes "use") rest c refl is
only_uses line rest none begins is = starts_otherwise (codes "use") (codes "set") rest _ refl is
only_uses line rest none (uses p) is = none p is.1
only_uses line rest none (assigns p) is = starts_otherwise (codes "use") (codes "value") rest _ refl is.0.is
only_uses line rest none (derives n part) is = no_number 117 (codes "se") rest is.number is.more n (omega arith) is.are is.counts
only_uses line rest none ends is = starts_otherwise (codes "use") (codes "end") rest _ refl is

pub only_values : (line : List ℕ) (rest : List (List ℕ)) → ((p : WrittenPair) → SpellsPair line (codes "value") p → ⊥) → (f : WrittenLine) → IsCertificateForm line (codes "value" ∷ rest) f → ⊥
only_values line rest none nothing is = not_empty (codes "value") rest is
only_values line rest none heading is = starts_otherwise (codes "value") (codes "certificate") rest _ refl is.are
only_values line rest none (claims c) is = other_claim line (codes "value") rest c refl is
only_values line rest none begins is = starts_otherwise (codes "value") (codes "set") rest _ refl is
only_values line rest none (uses p) is = starts_otherwise (codes "value") (codes "use") rest _ refl is.0.is
only_values line rest none (assigns p) is = none p is.1
only_values line rest none (derives n part) is = no_number 118 (codes "alue") rest is.number is.more n (omega arith) is.are is.counts
only_values line rest none ends is = starts_otherwise (codes "value") (codes "end") rest _ refl is

-- what is told of any line with these texts
pub told_at : (line : List ℕ) (texts : List (List ℕ)) (r : Result LineTree Refusal) → texts_of line ≡ texts → IfOk r (λ t. (l : List ℕ) → IsCertificateForm l texts (line_of t)) → IfOk r (λ t. IsCertificateLine line (line_of t))
told_at line texts r same told = if_ok_more r _ _ (λ t is. subst (λ ts. IsCertificateForm line ts (line_of t)) (sym same) (is line)) told

-- the texts of a line, from its first one and those behind it
pub texts_are : (line : List ℕ) (found read : List (Bor (List ℕ))) (first : Bor (List ℕ)) (rest : List (Bor (List ℕ))) (word : List ℕ) → seen found ≡ texts_of line → read ≡ found → read ≡ first ∷ rest → first.now ≡ word → texts_of line ≡ word ∷ seen rest
texts_are line found read first rest word same is parted starts = sym same ∙ ap seen (sym is ∙ parted) ∙ ap (λ w. w ∷ seen rest) starts
