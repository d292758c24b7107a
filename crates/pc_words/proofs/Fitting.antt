-- The request that is found is the one that the words fit.
use Rattle.std.proofs.Common.{◌≡◌, ℕ, Bool, true, false, List, [], ◌∷◌, ◌++◌, Some, None, codes, length, take, drop, arith, refl, sym, ap, ◌∙◌, subst, inl, inr, append-nil, take-append-drop}
use Rattle.std.proofs.Math.Seq.{take-length, drop-length, take-append_seam, drop-append_seam}
use Rattle.std.proofs.lemmas.Bool.Decides.{nat_tests}
use Rattle.std.proofs.lemmas.Slice.Eq.{bytes_eq-Decides}
use Rattle.std.proofs.lemmas.Str.Parse.{digit_from_value}
use Rattle.std.specs.Prelude.{if◌then◌else◌, option_and_then}
use Rattle.std.specs.Str.{bytes_eq}
use Rattle.pc_words.specs.Words.{Mode, replays, edits, checks, merges, posts, demonstrates, Request, IsFileName, IsNumber, AreOfMode, AreOption, FitWithBudget, FitsWords, FitNothing}
use Rattle.pc_words.specs.inside.Parts.{is_option, is_attached, plain_parts, valued_parts, option_parts, option_place, parts_of, request_from, request_for}
use Rattle.pc_words.proofs.Modes.{plain_sound, plain_complete}

-- ---- what is found fits

attached_is : (word : List ℕ) → is_attached word ≡ true → word ≡ codes "--budget=" ++ drop 9 word
attached_is word h = sym (ap (λ t. t ++ drop 9 word) ((bytes_eq-Decides (codes "--budget=") (take 9 word)).0 h) ∙ take-append-drop 9 word)

valued_sound : (before : List (List ℕ)) (word : List ℕ) (rest : List (List ℕ)) (r : Request) → word ≡ codes "--budget" → option_and_then request_from (valued_parts before rest) ≡ Some r → FitsWords (before ++ (word ∷ rest)) r
valued_sound before word [] r is h = absurd (cc)
valued_sound before word (value ∷ after) r is h =
    let told = plain_sound (before ++ after) (Some value) r h in
    inr (record {
      before = before;
      option = word ∷ value ∷ [];
      after = after;
      all = refl;
      mode = told.0;
      takes = told.1.0;
      budget = (value, inl (ap (λ w. w ∷ value ∷ []) is), told.1.1);
    })

option_sound : (before rest : List (List ℕ)) (r : Request) → option_and_then request_from (option_parts before rest) ≡ Some r → FitsWords (before ++ rest) r
option_sound before [] r h =
    let told = plain_sound before None r h in
    subst (λ ws. FitsWords ws r) (sym (append-nil before)) (inl told)
option_sound before (word ∷ rest) r h = by (bytes_eq word (codes "--budget")) refl (is_attached word) refl h
  where
    by : (b : Bool) → bytes_eq word (codes "--budget") ≡ b → (c : Bool) → is_attached word ≡ c
        → option_and_then request_from (if b then valued_parts before rest else if c then plain_parts (before ++ rest) (Some (drop 9 word)) else None) ≡ Some r → FitsWords (before ++ (word ∷ rest)) r
    by true e c f h = valued_sound before word rest r ((bytes_eq-Decides word (codes "--budget")).0 e) h
    by false e true f h =
        let told = plain_sound (before ++ rest) (Some (drop 9 word)) r h in
        inr (record {
          before = before;
          option = word ∷ [];
          after = rest;
          all = refl;
          mode = told.0;
          takes = told.1.0;
          budget = (drop 9 word, inr (ap (λ w. w ∷ []) (attached_is word f)), told.1.1);
        })
    by false e false f h = absurd (cc)

pub sound : (words : List (List ℕ)) (r : Request) → request_for words ≡ Some r → FitsWords words r
sound words r h =
    let place = option_place words in
    subst (λ ws. FitsWords ws r) (take-append-drop place words) (option_sound (take place words) (drop place words) r h)

-- ---- what fits is found

-- none of the words starts with `-`
abbrev pub AllPlain : List (List ℕ) → Type 0
AllPlain [] = Unit {0}
AllPlain (w ∷ ws) = (is_option w ≡ false) × AllPlain ws

pub plain_front : (before after : List (List ℕ)) → AllPlain (before ++ after) → AllPlain before
plain_front [] after all = tt
plain_front (w ∷ ws) after all = (all.0, plain_front ws after all.1)

pub plain_back : (before after : List (List ℕ)) → AllPlain (before ++ after) → AllPlain after
plain_back [] after all = all
plain_back (w ∷ ws) after all = plain_back ws after all.1

plain_file : (word : List ℕ) → IsFileName word → is_option word ≡ false
plain_file [] h = absurd h
plain_file (first ∷ rest) h = grind (arith, nat_tests)

pub plain_number : (digits most : ℕ) (word : List ℕ) (n : ℕ) → IsNumber digits most word n → is_option word ≡ false
plain_number digits most [] n is = refl
plain_number digits most (first ∷ rest) n is =
    let range = digit_from_value first is.numeral.1.0 in
    grind (arith, nat_tests, range.0)

pub plain_words : (ws : List (List ℕ)) (m : Mode) → AreOfMode ws m → AllPlain ws
plain_words ws replays is = subst AllPlain (sym is) (refl, tt)
plain_words ws (edits file) is = subst AllPlain (sym is.0) (refl, (plain_file file is.1, tt))
plain_words ws (checks file) is = subst AllPlain (sym is.0) (refl, (plain_file file is.1, tt))
plain_words ws (merges file) is = subst AllPlain (sym is.0) (refl, (plain_file file is.1, tt))
plain_words ws (posts file) is = subst AllPlain (sym is.0) (refl, (plain_file file is.1, tt))
plain_words ws (demonstrates n) is = subst AllPlain (sym is.1) (refl, (plain_number 3 256 is.0 n is.2, tt))

place_none : (ws : List (List ℕ)) → AllPlain ws → option_place ws ≡ length ws
place_none [] all = refl
place_none (w ∷ ws) all = rw (all.0, place_none ws all.1) (omega arith)

place_at : (before : List (List ℕ)) (option : List ℕ) (rest : List (List ℕ)) → AllPlain before → is_option option ≡ true → option_place (before ++ (option ∷ rest)) ≡ length before
place_at [] option rest all is = rw is refl
place_at (w ∷ ws) option rest all is = rw (all.0, place_at ws option rest all.1 is) (omega arith)

parts_at : (before : List (List ℕ)) (option : List ℕ) (rest : List (List ℕ)) → AllPlain before → is_option option ≡ true → parts_of (before ++ (option ∷ rest)) ≡ option_parts before (option ∷ rest)
parts_at before option rest all is = rw (place_at before option rest all is, take-append_seam before (option ∷ rest), drop-append_seam before (option ∷ rest)) refl

pub parts_plain : (ws : List (List ℕ)) → AllPlain ws → parts_of ws ≡ plain_parts ws None
parts_plain ws all = rw (place_none ws all, take-length ws, drop-length ws) refl

module _ (before after : List (List ℕ)) (number : List ℕ) (plain : AllPlain before) where
  pub detached_parts : parts_of (before ++ (codes "--budget" ∷ number ∷ after)) ≡ plain_parts (before ++ after) (Some number)
  detached_parts = parts_at before (codes "--budget") (number ∷ after) plain refl

  pub attached_parts : parts_of (before ++ ((codes "--budget=" ++ number) ∷ after)) ≡ plain_parts (before ++ after) (Some number)
  attached_parts = parts_at before (codes "--budget=" ++ number) after plain refl

with_option : (words : List (List ℕ)) (r : Request) (told : FitWithBudget words r) (number : List ℕ) → AreOption told.option number → IsNumber 13 1000000000000 number r.budget → request_for words ≡ Some r
with_option words r told number option is =
    let plain = plain_front told.before told.after (plain_words (told.before ++ told.after) r.mode told.mode) in
    elim option [
      | inl e ↦ ap request_for (told.all ∙ ap (λ o. told.before ++ (o ++ told.after)) e) ∙ ap (option_and_then request_from) (detached_parts told.before told.after number plain) ∙ plain_complete (told.before ++ told.after) (Some number) r told.mode (told.takes, is)
      | inr e ↦ ap request_for (told.all ∙ ap (λ o. told.before ++ (o ++ told.after)) e) ∙ ap (option_and_then request_from) (attached_parts told.before told.after number plain) ∙ plain_complete (told.before ++ told.after) (Some number) r told.mode (told.takes, is)
    ]

pub complete : (words : List (List ℕ)) (r : Request) → FitsWords words r → request_for words ≡ Some r
complete words r (inl told) = ap (option_and_then request_from) (parts_plain words (plain_words words r.mode told.0)) ∙ plain_complete words None r told.0 told.1
complete words r (inr told) = with_option words r told told.budget.0 told.budget.1 told.budget.2

-- ---- so words fit one request at most, and what isn't found doesn't fit

some_same : (x y : Request) → Some x ≡ Some y → x ≡ y
some_same x y h = cc

pub one_request : (words : List (List ℕ)) (x y : Request) → FitsWords words x → FitsWords words y → x ≡ y
one_request words x y first second = some_same x y (sym (complete words x first) ∙ complete words y second)

pub nothing : (words : List (List ℕ)) → request_for words ≡ None → FitNothing words
nothing words h = λ r fits. let found = complete words r fits in absurd (cc)
