-- Words that are neither one nor two have no parts.
use Rattle.std.proofs.Common.{◌≡◌, ◌≤◌, ◌+◌, ◌++◌, ◌∙◌, Bool, true, false, arith, ℕ, List, [], ◌∷◌, None, Option, String, Global, string_bytes, map, length, refl, sym}
use Rattle.std.proofs.lemmas.List.{length-map}
use Rattle.std.proofs.Math.ListN.{length-append}
use Rattle.pc_words.specs.inside.Parts.{is_option, option_place, plain_parts}

pub not_two : (ws : List (List ℕ)) (budget : Option (List ℕ)) → ¬ (length ws ≡ 1) → ¬ (length ws ≡ 2) → None ≡ plain_parts ws budget
not_two [] budget one two = refl
not_two (w ∷ []) budget one two = absurd (one refl)
not_two (w ∷ v ∷ []) budget one two = absurd (two refl)
not_two (w ∷ v ∷ u ∷ rest) budget one two = refl

-- the same of words before the option and behind it
pub not_parted : (before after : List (String Global)) (budget : Option (List ℕ)) → ¬ (length before + length after ≡ 1) → ¬ (length before + length after ≡ 2)
    → None ≡ plain_parts (map string_bytes before ++ map string_bytes after) budget
not_parted before after budget one two =
    let lengths : length (map string_bytes before ++ map string_bytes after) ≡ length before + length after = simp (length-append, length-map) refl in
    not_two _ budget (λ e. one (sym lengths ∙ e)) (λ e. two (sym lengths ∙ e))

pub place_within : (ws : List (List ℕ)) → option_place ws ≤ length ws
place_within [] = omega arith
place_within (w ∷ ws) = by (is_option w) refl (place_within ws)
  where
    by : (b : Bool) → is_option w ≡ b → option_place ws ≤ length ws → option_place (w ∷ ws) ≤ length (w ∷ ws)
    by true e within = rw e (omega arith)
    by false e within = rw e (omega (arith, within))
