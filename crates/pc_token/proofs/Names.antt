-- A name grows by a character, and where it ends.
use Rattle.std.proofs.Common.{◌≡◌, ℕ, ◌+◌, ◌-◌, ◌<◌, ◌≤◌, Bool, true, false, List, [], ◌∷◌, ◌++◌, length, take, drop, arith, sym, ◌∙◌, ap, subst}
use Rattle.std.proofs.lemmas.List.{append_assoc, append-nil, length-drop, length-take-le, drop-drop, take-append-drop, take_at, length-append}
use Rattle.std.proofs.lemmas.Str.{encodes-append, length-encode, len_utf8_bounds, encode_same, IsUtf8-drop, IsCharBoundary-past_char}
use Rattle.std.specs.Prelude.{slice_range, encode_utf8}
use Rattle.std.specs.Char.{len_utf8}
use Rattle.std.specs.Str.{encode_utf8_all, IsUtf8, IsCharBoundary}
use Rattle.std.specs.List.{AllByRecursion}
use Rattle.pc_name.specs.Names.{starts_name, continues_name, HasNameCharacters}

-- a slice, and what follows it
pub slice_split : (line : List ℕ) (start end : ℕ) → start ≤ end → drop start line ≡ slice_range line start end ++ drop end line
slice_split line start end after =
    let there : start + (end - start) ≡ end = omega arith in
    sym (take-append-drop (end - start) (drop start line)) ∙ ap (λ l. slice_range line start end ++ l) (drop-drop (end - start) start line ∙ ap (λ n. drop n line) there)

-- a slice that grows by the text after it
slice_more : (line : List ℕ) (start end : ℕ) (text more : List ℕ) → start ≤ end → end ≤ length line → drop end line ≡ text ++ more → slice_range line start (end + length text) ≡ slice_range line start end ++ text
slice_more line start end text more after within is =
    let front = slice_range line start end in
    let whole : drop start line ≡ (front ++ text) ++ more = slice_split line start end after ∙ ap (λ l. front ++ l) is ∙ sym (append_assoc front text more) in
    let count : length (front ++ text) ≡ (end + length text) - start = omega (arith, length-append front text, length-take-le (end - start) (drop start line) (omega (arith, length-drop start line))) in
    ap (λ l. take ((end + length text) - start) l) whole ∙ take_at (front ++ text) more ((end + length text) - start) count

all_push : (p : ℕ → Bool) (cs : List ℕ) (c : ℕ) → AllByRecursion (λ d. p d ≡ true) cs → p c ≡ true → AllByRecursion (λ d. p d ≡ true) (cs ++ c ∷ [])
all_push p [] c all one = (one, tt)
all_push p (d ∷ cs) c all one = (all.0, all_push p cs c all.1 one)

-- the name that has been read up to a place
pub record NameSoFar (line : List ℕ) (start end : ℕ) : Type 0 where
  pub after : start < end
  pub name : HasNameCharacters (slice_range line start end)
  pub boundary : IsCharBoundary line end

-- one character at a place, of n bytes
pub record CharAt (line : List ℕ) (at c n : ℕ) : Type 0 where
  pub utf8 : IsUtf8 line
  pub here : IsCharBoundary line at
  pub more : (rest : List ℕ) × (drop at line ≡ encode_utf8 c ++ rest)
  pub size : n ≡ len_utf8 c

module _ (line : List ℕ) (start c n : ℕ) where
  past_char : CharAt line start c n → IsCharBoundary line (start + n)
  past_char one = subst (λ k. IsCharBoundary line (start + k)) (sym one.size) (IsCharBoundary-past_char line one.more.0 start c one.here.0 (IsUtf8-drop line start one.utf8 one.here) one.more.1)

  -- the first character alone is a name
  pub first_char : CharAt line start c n → starts_name c ≡ true → NameSoFar line start (start + n)
  first_char one starts =
      let count : length (encode_utf8 c) ≡ (start + n) - start = omega (arith, length-encode c, one.size) in
      record {
        after = omega (arith, one.size, len_utf8_bounds c);
        name = (c, [], ap (λ l. take ((start + n) - start) l) one.more.1 ∙ take_at (encode_utf8 c) one.more.0 ((start + n) - start) count ∙ sym (append-nil (encode_utf8 c)), starts, tt);
        boundary = past_char one;
      }

-- a further character goes on with it
pub next_char : (line : List ℕ) (start end c n : ℕ) → NameSoFar line start end → CharAt line end c n → continues_name c ≡ true → NameSoFar line start (end + n)
next_char line start end c n so_far one continues =
    let name = so_far.name in
    let grown : slice_range line start (end + n) ≡ slice_range line start end ++ encode_utf8 c = ap (λ k. slice_range line start (end + k)) (one.size ∙ sym (length-encode c)) ∙ slice_more line start end (encode_utf8 c) one.more.0 (omega (arith, so_far.after)) one.here.0 one.more.1 in
    let last : encode_utf8_all name.1 ++ encode_utf8 c ≡ encode_utf8_all (name.1 ++ c ∷ []) = ap (λ l. encode_utf8_all name.1 ++ l) (sym (append-nil (encode_utf8 c))) ∙ sym (encodes-append name.1 (c ∷ [])) in
    record {
      after = omega (arith, so_far.after);
      name = (name.0, name.1 ++ c ∷ [], grown ∙ ap (λ l. l ++ encode_utf8 c) name.2 ∙ append_assoc (encode_utf8 name.0) (encode_utf8_all name.1) (encode_utf8 c) ∙ ap (λ l. encode_utf8 name.0 ++ l) last, name.3, all_push continues_name name.1 c name.4 continues);
      boundary = past_char line end c n one;
    }

-- no character stands at the end
pub no_char_at_end : (line : List ℕ) (at c : ℕ) (more : List ℕ) → at ≡ length line → drop at line ≡ encode_utf8 c ++ more → ⊥
no_char_at_end line at c more end is = absurd (omega (arith, length-drop at line, ap length is, length-append (encode_utf8 c) more, length-encode c, len_utf8_bounds c))

-- the one character that stands at a place fails the test
pub only_char : (p : ℕ → Bool) (text : List ℕ) (d : ℕ) → ((rest : List ℕ) × (text ≡ encode_utf8 d ++ rest)) → p d ≡ false → (c : ℕ) (more : List ℕ) → text ≡ encode_utf8 c ++ more → p c ≡ false
only_char p text d at fails c more is = ap p (sym (encode_same d c at.0 more (sym at.1 ∙ is)).0) ∙ fails
