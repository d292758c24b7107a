-- What a text may be about.
use Rattle.std.proofs.Common.{◌≡◌, ℕ, Bool, true, false, List, [], ◌∷◌, ◌++◌, codes, sym, ◌∙◌, ap}
use Rattle.std.specs.List.{onto_first}
use Rattle.std.specs.Prelude.{cond, ◌==◌}
use Rattle.pc_cert.specs.Written.{WrittenSymbol, written_pair, written_node}
use Rattle.pc_cert.specs.Claims.{WrittenPair}
use Rattle.pc_cert.specs.Texts.{is_path, IsReadText, IsSymbolText, pieces_of}
use Rattle.pc_cert.proofs.Words.{heads}

absent : (b : Bool) → b ≡ false → b ≡ true → ⊥
absent b e f = cc

-- a first piece that starts with `@` is the start of the text
onto_marked : (b : ℕ) (parts : List (List ℕ)) (rule : List ℕ) (numbers : List (List ℕ)) → onto_first b parts ≡ (codes "@" ++ rule) ∷ numbers → b ≡ 64
onto_marked b [] rule numbers e = heads b 64 [] rule (heads (b ∷ []) (64 ∷ rule) [] numbers e)
onto_marked b (p ∷ ps) rule numbers e = heads b 64 p rule (heads (b ∷ p) (64 ∷ rule) ps numbers e)

marked : (slash : Bool) (b : ℕ) (parts : List (List ℕ)) (rule : List ℕ) (numbers : List (List ℕ)) → cond slash ([] ∷ parts) (onto_first b parts) ≡ (codes "@" ++ rule) ∷ numbers → b ≡ 64
marked true b parts rule numbers e = let none = heads [] (64 ∷ rule) parts numbers e in absurd (cc)
marked false b parts rule numbers e = onto_marked b parts rule numbers e

pub path_is_marked : (text rule : List ℕ) (numbers : List (List ℕ)) → pieces_of text ≡ (codes "@" ++ rule) ∷ numbers → is_path text ≡ true
path_is_marked [] rule numbers e = let none = heads [] (64 ∷ rule) [] numbers e in absurd (cc)
path_is_marked (b ∷ bs) rule numbers e = ap (λ c. c == 64) (marked (b == 47) b (pieces_of bs) rule numbers e)

pub only_reads : (text : List ℕ) (b : Bool) → b ≡ is_path text → b ≡ false → ((p : WrittenPair) → IsReadText text p → ⊥) → (s : WrittenSymbol) → IsSymbolText text s → ⊥
only_reads text b same stays none (written_pair p) is = none p is.1
only_reads text b same stays none (written_node p) is = absent (is_path text) (sym same ∙ stays) (path_is_marked text p.rule is.numbers is.pieces)
