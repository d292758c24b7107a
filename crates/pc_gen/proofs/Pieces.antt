-- The text as its pieces are added.
use Rattle.std.proofs.Common.{◌≡◌, ℕ, suc, ◌+◌, List, [], ◌∷◌, ◌++◌, codes, is_ok, refl, sym, ap, ◌∙◌, append_assoc, append-nil, add-one}
use Rattle.std.proofs.lemmas.List.Concat.{flat_map-append}
use Rattle.std.specs.Fmt.{decimal}
use Rattle.std.specs.List.{flat_map}
use Rattle.std.specs.Prelude.{Result, Ok, Err, OnOk, if◌then◌else◌}
use Rattle.pc_gen.specs.Text.{up_to, head_lines, block_lines, ended, generated_text}

abbrev later_lines : List ℕ
later_lines = codes "sort slot = 1 .. 4\nsort color = red green blue\ncell x(block, slot) : color\nrule chain : forall b:block . x(b, 1) = x(b, 2) & x(b, 2) = x(b, 3)\nrule other : forall b:block . x(b, 3) != x(b, 4)\n"

abbrev block_line : ℕ → List ℕ
block_line n = codes "sort block = 1 .. " ++ (decimal n ++ codes "\n")

three : (t a b c : List ℕ) → ((t ++ a) ++ b) ++ c ≡ t ++ (a ++ (b ++ c))
three t a b c = append_assoc (t ++ a) b c ∙ append_assoc t a (b ++ c)

head_text : (n : ℕ) → codes "sheet 1\n" ++ (block_line n ++ later_lines) ≡ flat_map ended (head_lines n)
head_text n = refl

pub head_pushed : (n : ℕ) {E : Type 0} (r : Result (Unit {0}) E) (old first second third line : List ℕ) → line ≡ block_line n → first ≡ old ++ codes "sheet 1\n" → second ≡ first ++ line
    → third ≡ (if is_ok r then second ++ later_lines else second) → OnOk r (third ≡ old ++ flat_map ended (head_lines n))
head_pushed n (Err e) old first second third line l f s t = tt
head_pushed n (Ok x) old first second third line l f s t =
    t ∙ ap (λ z. z ++ later_lines) (s ∙ ap (λ z. z ++ line) f ∙ ap (λ z. (old ++ codes "sheet 1\n") ++ z) l)
    ∙ three old (codes "sheet 1\n") (block_line n) later_lines ∙ ap (λ z. old ++ z) (head_text n)

-- the entries of the first blocks
abbrev pub blocks_text : ℕ → List ℕ
blocks_text k = flat_map ended (flat_map block_lines (up_to k))

pub more_blocks : (k : ℕ) → blocks_text (k + 1) ≡ blocks_text k ++ flat_map ended (block_lines (k + 1))
more_blocks k = rw add-one (
    ap (flat_map ended) (flat_map-append block_lines (up_to k) (suc k ∷ []) ∙ ap (λ z. flat_map block_lines (up_to k) ++ z) (append-nil (block_lines (suc k))))
    ∙ flat_map-append ended (flat_map block_lines (up_to k)) (block_lines (suc k)))

pub whole_text : (n : ℕ) → (flat_map ended (head_lines n) ++ blocks_text n) ++ codes "begin\n" ≡ generated_text n
whole_text n = sym (
    flat_map-append ended (head_lines n) (flat_map block_lines (up_to n) ++ codes "begin" ∷ [])
    ∙ ap (λ z. flat_map ended (head_lines n) ++ z) (flat_map-append ended (flat_map block_lines (up_to n)) (codes "begin" ∷ []))
    ∙ sym (append_assoc (flat_map ended (head_lines n)) (blocks_text n) (codes "begin\n")))

pub next_block : (n k : ℕ) (old new : List ℕ) → old ≡ flat_map ended (head_lines n) ++ blocks_text k → new ≡ old ++ flat_map ended (block_lines (k + 1)) → new ≡ flat_map ended (head_lines n) ++ blocks_text (k + 1)
next_block n k old new is added =
    added ∙ ap (λ z. z ++ flat_map ended (block_lines (k + 1))) is
    ∙ append_assoc (flat_map ended (head_lines n)) (blocks_text k) (flat_map ended (block_lines (k + 1)))
    ∙ ap (λ z. flat_map ended (head_lines n) ++ z) (sym (more_blocks k))

pub last_line : (n k : ℕ) (old new items : List ℕ) → k ≡ n → old ≡ flat_map ended (head_lines n) ++ blocks_text k → new ≡ old ++ codes "begin\n" → items ≡ new → items ≡ generated_text n
last_line n k old new items whole is added same =
    same ∙ added ∙ ap (λ z. z ++ codes "begin\n") (is ∙ ap (λ j. flat_map ended (head_lines n) ++ blocks_text j) whole) ∙ whole_text n
