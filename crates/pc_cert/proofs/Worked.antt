-- The examples of lines.
use Rattle.std.proofs.Common.{rules, refl, sym, subst, ◌≡◌, ℕ, List, [], ◌∷◌, ◌++◌, codes, inl, inr, ⊎_elim, arith}
use Rattle.std.specs.Str.Parse.{digits_value}
use Rattle.pc_sheet.specs.Sheet.{Sheet}
use Rattle.pc_sheet.specs.declared.ids.Entry.{Entry}
use Rattle.pc_cert.specs.Views.{AppearInOrder}
use Rattle.pc_cert.specs.Examples.{LineExamples, SetExamples, ViewExamples}
use Rattle.pc_cert.specs.Texts.{IsNumberText}
use Rattle.pc_cert.specs.Line.{IsDerivationForm, IsPartForm, IsStep}
use Rattle.pc_cert.specs.Written.{WrittenPart, WrittenLiteral, written_some, written_one, written_rule, written_node_clause, written_atom, written_step, written_block}
use Rattle.pc_cert.proofs.Words.{starts_otherwise, tails}

one : IsNumberText (codes "1") 1
one = record { digits = search rules; short = search rules; value = refl }

two : IsNumberText (codes "2") 2
two = record { digits = search rules; short = search rules; value = refl }

nought : IsNumberText (codes "0") 0
nought = record { digits = search rules; short = search rules; value = refl }

padded : IsNumberText (codes "01") 1
padded = record { digits = search rules; short = search rules; value = refl }

second : IsNumberText (codes "02") 2
second = record { digits = search rules; short = search rules; value = refl }

only_one : (number : List ℕ) → codes "certificate" ∷ codes "2" ∷ [] ≡ codes "certificate" ∷ number ∷ [] → IsNumberText number 1 → ⊥
only_one number e v =
    let second : number ≡ codes "2" = cc in
    let is : 1 ≡ digits_value 10 number = v.value in
    let value : 1 ≡ digits_value 10 (codes "2") = subst (λ x. 1 ≡ digits_value 10 x) second is in
    cc

nothing_written : (p : WrittenPart) → IsPartForm [] p → ⊥
nothing_written p h = absurd (cc (h.are))

no_parts : (xs ys : List (List ℕ)) → [] ≡ xs ++ codes ":" ∷ ys → ⊥
no_parts [] ys e = absurd (cc)
no_parts (x ∷ xs) ys e = absurd (cc)

no_step : (ls : List WrittenLiteral) (hints : List ℕ) → IsStep [] ls hints → ⊥
no_step ls hints h = no_parts h.literals h.hints h.parted

no_colon_written : (p : WrittenPart) → IsPartForm (codes "step" ∷ []) p → ⊥
no_colon_written (written_step ls hints) h = let none = sym (tails (codes "step") (codes "step") [] h.more h.are) in no_step ls hints (subst (λ x. IsStep x ls hints) none h.follows)
no_colon_written (written_some c) h = starts_otherwise (codes "step") (codes "some") _ _ refl h.are
no_colon_written (written_one c v w) h = starts_otherwise (codes "step") (codes "one") _ _ refl h.are
no_colon_written (written_rule n) h = starts_otherwise (codes "step") (codes "rule") _ _ refl h.are
no_colon_written (written_node_clause p i) h = starts_otherwise (codes "step") (codes "node") _ _ refl h.are
no_colon_written (written_atom p reads) h = starts_otherwise (codes "step") (codes "atom") _ _ refl h.are
no_colon_written (written_block j) h = starts_otherwise (codes "step") (codes "block") _ _ refl h.are

alone : (p : WrittenPart) → IsDerivationForm (codes "1" ∷ []) 1 p → ⊥
alone p h = let none = sym (tails (codes "1") h.number [] h.more h.are) in nothing_written p (subst (λ x. IsPartForm x p) none h.is)

before_step : (p : WrittenPart) → IsDerivationForm (codes "1" ∷ codes "step" ∷ []) 1 p → ⊥
before_step p h = let none = sym (tails (codes "1") h.number (codes "step" ∷ []) h.more h.are) in no_colon_written p (subst (λ x. IsPartForm x p) none h.is)

pub line_examples : LineExamples
line_examples = record {
  empty = refl;
  first = record { number = codes "1"; are = refl; version = one };
  by_value = record { number = codes "01"; are = refl; version = padded };
  second_version = λ h. only_one h.number h.are h.version;
  none_holds = refl;
  all_sets = refl;
  set = refl;
  no_set = λ h. cc;
  of_set = record { number = codes "1"; more = codes "block" ∷ codes "02" ∷ []; are = refl; counts = one; is = record { more = codes "02" ∷ []; are = refl; follows = record { number = codes "02"; are = refl; is_number = second } } };
  last = refl;
  not_last = λ h. cc;
  empty_step = record { number = codes "2"; more = codes "step" ∷ codes ":" ∷ codes "1" ∷ []; are = refl; counts = two; is = record { more = codes ":" ∷ codes "1" ∷ []; are = refl; follows = record { literals = []; hints = codes "1" ∷ []; parted = refl; first = tt; clause = tt; lines = (one, tt) } } };
  zero_hint = record { number = codes "2"; more = codes "step" ∷ codes ":" ∷ codes "0" ∷ []; are = refl; counts = two; is = record { more = codes ":" ∷ codes "0" ∷ []; are = refl; follows = record { literals = []; hints = codes "0" ∷ []; parted = refl; first = tt; clause = tt; lines = (nought, tt) } } };
  no_hints = record { number = codes "1"; more = codes "step" ∷ codes ":" ∷ []; are = refl; counts = one; is = record { more = codes ":" ∷ []; are = refl; follows = record { literals = []; hints = []; parted = refl; first = tt; clause = tt; lines = tt } } };
  no_colon = λ p h. before_step p h;
  no_word = λ p h. alone p h;
}

none_skipped : AppearInOrder 0 (1 ∷ []) 2 → ⊥
none_skipped h = ⊎_elim (λ l. absurd (omega (arith, l.0))) (λ r. absurd (omega (arith, r.0))) h

pub view_examples : ViewExamples
view_examples = record {
  numbered = inr (refl, inr (refl, inl (omega arith, inr (refl, refl))));
  skipped = λ h. none_skipped h;
  memory = λ sheet text. tt;
}

pub set_examples : (sheet : Sheet) (e : Entry) → SetExamples sheet e
set_examples sheet e = record {
  sets = refl;
  own = refl;
  named = (refl, omega arith);
  not_nought = λ k h. omega (arith, h.0);
  not_third = λ k h. omega (arith, h.0, h.1);
}
