-- What the steps of the reading tell of the words.
use Rattle.std.proofs.Common.{◌≡◌, ◌↔◌, IsTrue, ℕ, Bool, false, List, Some, None, Option, Bor, option_map, is_some, refl, sym, ap, subst, ◌∙◌}
use Rattle.std.specs.Option.{IsSome}
use Rattle.std.specs.Prelude.{option_and_then}
use Rattle.pc_words.specs.declared.asked.Request.{Request as FoundRequest}
use Rattle.pc_words.specs.declared.parting.Parts.{Parts as FoundParts}
use Rattle.pc_words.specs.View.{request_of}
use Rattle.pc_words.specs.Words.{Request, FitsWords, FitSomething, FitOnly}
use Rattle.pc_words.specs.inside.Parts.{Parts, parts_of, request_from, request_for}
use Rattle.pc_words.specs.inside.Seen.{seen}
use Rattle.pc_words.proofs.Fitting.{sound, complete, one_request, nothing}

-- the parts of words that fit, and what they ask for
pub record Parted (words : List (List ℕ)) (r : Request) : Type 0 where
  pub parts : Parts
  pub are : parts_of words ≡ Some parts
  pub ask : request_from parts ≡ Some r

module _ (words : List (List ℕ)) where
  decided : (asked : Option FoundRequest) (b : Bool) → request_for words ≡ option_map request_of asked → b ≡ is_some asked → IsTrue b ↔ FitSomething words
  decided None b e is = (λ t. absurd (cc), λ f. absurd (nothing words e f.0 f.1))
  decided (Some x) b e is = (λ t. (request_of x, sound words (request_of x) e), λ f. is)

  pub fit_some : (found : Option FoundParts) (parts : FoundParts) (asked : Option FoundRequest) (b : Bool) → option_map seen found ≡ parts_of words → found ≡ Some parts
      → option_map request_of asked ≡ request_from (seen parts) → b ≡ is_some asked → IsTrue b ↔ FitSomething words
  fit_some found parts asked b seen_is is asked_is b_is =
      let there : parts_of words ≡ Some (seen parts) = sym seen_is ∙ ap (option_map seen) is in
      decided asked b (ap (option_and_then request_from) there ∙ sym asked_is) b_is

  pub fit_none : (found : Option FoundParts) → option_map seen found ≡ parts_of words → found ≡ None → IsTrue false ↔ FitSomething words
  fit_none found seen_is is =
      let there : parts_of words ≡ None = sym seen_is ∙ ap (option_map seen) is in
      (λ t. absurd (cc), λ f. absurd (nothing words (ap (option_and_then request_from) there) f.0 f.1))

  pub parted : (r : Request) → FitsWords words r → Parted words r
  parted r fits = by (parts_of words) refl (complete words r fits)
    where
      by : (o : Option Parts) → parts_of words ≡ o → option_and_then request_from o ≡ Some r → Parted words r
      by None e h = absurd (cc)
      by (Some p) e h = record { parts = p; are = e; ask = h }

  -- the request that is found is the only one
  pub told : (r : Request) → FitsWords words r → (p q : Parts) → request_from p ≡ Some r → q ≡ p → (asked : Option FoundRequest) (x : FoundRequest) → option_map request_of asked ≡ request_from q → asked ≡ Some x
      → FitOnly words (request_of x)
  told r fits p q ask same asked x asked_is is =
      let found : Some (request_of x) ≡ Some r = sym (ap (option_map request_of) is) ∙ asked_is ∙ ap request_from same ∙ ask in
      let this : r ≡ request_of x = cc in
      let here : FitsWords words (request_of x) = subst (FitsWords words) this fits in
      λ other. (λ f. one_request words other (request_of x) f here, λ e. subst (FitsWords words) (sym e) here)

pub same_parts : (p : Parts) (mode : List ℕ) (word budget : Option (List ℕ)) → mode ≡ p.mode → word ≡ p.word → budget ≡ p.budget → record { mode = mode; word = word; budget = budget } ≡ p
same_parts p mode word budget e f g = λ i. record { mode = e i; word = f i; budget = g i }

pub some_from : (o : Option (Bor (List ℕ))) (t : List ℕ) → option_map (λ s. s.now) o ≡ Some t → IsSome o
some_from None t h = absurd (cc)
some_from (Some x) t h = refl

pub mode_is : (o : Option (Bor (List ℕ))) (x : Bor (List ℕ)) (t : List ℕ) → option_map (λ s. s.now) o ≡ Some t → o ≡ Some x → x.now ≡ t
mode_is o x t h is = let e : Some x.now ≡ Some t = sym (ap (option_map (λ (s : Bor (List ℕ)). s.now)) is) ∙ h in cc

none_some : (r : Request) → None ≡ Some r → ⊥
none_some r h = cc

pub some_asked : (asked : Option FoundRequest) (q p : Parts) (r : Request) → option_map request_of asked ≡ request_from q → q ≡ p → request_from p ≡ Some r → IsSome asked
some_asked None q p r h same ask = absurd (none_some r (h ∙ ap request_from same ∙ ask))
some_asked (Some x) q p r h same ask = refl
