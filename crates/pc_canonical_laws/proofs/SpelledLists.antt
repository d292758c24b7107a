-- Names, values and lists in parentheses: their texts are cut into words that derive them.
use Rattle.std.proofs.Common.{◌≡◌, ℕ, ◌+◌, ◌≤◌, ℤ, pos, negsuc, ◌+ℤ◌, List, [], ◌∷◌, ◌++◌, length, codes, slice_get, arith, refl, subst, sym, ap, ◌∙◌}
use Rattle.std.proofs.lemmas.List.{append_assoc, append-nil}
use Rattle.std.specs.Prelude.{unwrap_or}
use Rattle.std.specs.List.{flat_map}
use Rattle.pc_name.specs.Names.{IsName}
use Rattle.pc_sheet.specs.Sheet.{Values, listed, range}
use Rattle.pc_sheet.specs.declared.ids.ValueId.{ValueId}
use Rattle.pc_token.specs.declared.token.Kind.TheVariants.{Open, Close, Comma}
use Rattle.pc_formula.specs.Word.{Word, name, sign, HasShortNames}
use Rattle.pc_formula.specs.Value.{DerivesName, a_name, DerivesValue, by_name, by_integer, Listed, last, next, InParentheses, enclosed, Arguments, no_argument, arguments}
use Rattle.pc_writer.specs.Spelling.{joined, text_among}
use Rattle.pc_writer.specs.FormulaText.{parenthesized, in_parentheses}
use Rattle.pc_canonical_laws.specs.Declarations.{value_among}
use Rattle.pc_canonical_laws.proofs.Counting.{levels, integer_levels}
use Rattle.pc_canonical_laws.proofs.Cuts.{Cuts}
use Rattle.pc_canonical_laws.proofs.Cutting.{Ends, opened, closed, comma, cut_name, cut_integer}
use Rattle.pc_canonical_laws.proofs.Deriving.{derive_integer}
use Rattle.pc_canonical_laws.proofs.Named.{IsSpelledValue}
use Rattle.pc_canonical_laws.proofs.Signs.{cut_open, cut_close, cut_comma, cut_tight_comma}
use Rattle.pc_canonical_laws.proofs.Words.{integer_words}

-- before further words the text is cut into words that derive the thing, go at most so many levels down, and have short names
pub record Spells {A : Type 0} (X : List Word → A → List Word → Type 0) (text : List ℕ) (a : A) (deep : ℕ) : Type 0 where
  pub words : List Word → List Word
  pub cuts : (more : List ℕ) (ws : List Word) → Ends more → Cuts more ws → Cuts (text ++ more) (words ws)
  pub derives : (rest : List Word) → X (words rest) a rest
  pub shallow : (rest : List Word) → levels (words rest) ≤ deep + levels rest
  pub short : (rest : List Word) → HasShortNames rest → HasShortNames (words rest)

-- each text that of the thing at its place, with no level down
abbrev pub SpellAll : {A : Type 0} → (List Word → A → List Word → Type 0) → List (List ℕ) → List A → Type 0
SpellAll X [] [] = Unit {0}
SpellAll X [] (a ∷ all) = ⊥
SpellAll X (text ∷ texts) [] = ⊥
SpellAll X (text ∷ texts) (a ∷ all) = Spells X text a 0 × SpellAll X texts all

-- ---- one name or value

pub spell_name : (text : List ℕ) → IsName text → Spells DerivesName text text 0
spell_name text named = record {
  words = λ ws. name text ∷ ws;
  cuts = λ more ws ends cuts. cut_name text more ws named ends cuts;
  derives = λ rest. a_name text;
  shallow = λ rest. omega arith;
  short = λ rest few. (named.within, few);
}

integer_short : (z : ℤ) (rest : List Word) → HasShortNames rest → HasShortNames (integer_words z rest)
integer_short (pos n) rest few = (tt, few)
integer_short (negsuc n) rest few = (tt, (tt, few))

pub spell_value : (v : Values) (k : ValueId) → IsSpelledValue v k → Spells DerivesValue (text_among v k) (value_among v k) 0
spell_value (listed names) k spelled =
    let text = unwrap_or (slice_get names k.0) [] in
    record {
      words = λ ws. name text ∷ ws;
      cuts = λ more ws ends cuts. cut_name text more ws spelled ends cuts;
      derives = λ rest. by_name (a_name text);
      shallow = λ rest. omega arith;
      short = λ rest few. (spelled.within, few);
    }
spell_value (range low high) k spelled =
    let z = low +ℤ pos k.0 in
    record {
      words = λ ws. integer_words z ws;
      cuts = λ more ws ends cuts. cut_integer z more ws spelled ends cuts;
      derives = λ rest. by_integer (derive_integer z rest spelled);
      shallow = λ rest. omega (arith, integer_levels z rest);
      short = λ rest few. integer_short z rest few;
    }

-- ---- in parentheses

-- a text that is a comma between two others
pub record Separates (separator : List ℕ) : Type 0 where
  pub cut : (more : List ℕ) (ws : List Word) → Cuts more ws → Cuts (separator ++ more) (sign Comma ∷ ws)
  pub ends : (more : List ℕ) → Ends (separator ++ more)

pub comma_blank : Separates (codes ", ")
comma_blank = record { cut = λ more ws cuts. cut_comma cuts; ends = λ more. comma }

pub comma_alone : Separates (codes ",")
comma_alone = record { cut = λ more ws cuts. cut_tight_comma cuts; ends = λ more. comma }

-- up to the parenthesis that closes them
record SpellsListed {A : Type 0} (X : List Word → A → List Word → Type 0) (text : List ℕ) (all : List A) : Type 0 where
  pub words : List Word → List Word
  pub cuts : (more : List ℕ) (ws : List Word) → Cuts more ws → Cuts (text ++ 41 ∷ more) (words ws)
  pub derives : (rest : List Word) → Listed X (words rest) all rest
  pub shallow : (rest : List Word) → levels (words rest) ≤ levels rest
  pub short : (rest : List Word) → HasShortNames rest → HasShortNames (words rest)

-- texts in parentheses with the separator between them, or nothing where there are none
abbrev pub separated : List ℕ → List (List ℕ) → List ℕ
separated separator [] = []
separated separator (text ∷ texts) = codes "(" ++ (joined separator (text ∷ texts) ++ codes ")")

module _ {A : Type 0} (X : List Word → A → List Word → Type 0) (separator : List ℕ) (separates : Separates separator) where
  spell_listed : (text : List ℕ) (a : A) (texts : List (List ℕ)) (all : List A) → Spells X text a 0 → SpellAll X texts all → SpellsListed X (joined separator (text ∷ texts)) (a ∷ all)
  spell_listed text a [] [] own others = record {
    words = λ ws. own.words (sign Close ∷ ws);
    cuts = λ more ws cuts. subst (λ l. Cuts (l ++ 41 ∷ more) (own.words (sign Close ∷ ws))) (sym (append-nil text)) (own.cuts (41 ∷ more) (sign Close ∷ ws) closed (cut_close cuts));
    derives = λ rest. last (own.derives (sign Close ∷ rest));
    shallow = λ rest. let flat = own.shallow (sign Close ∷ rest) in omega (arith, flat);
    short = λ rest few. own.short (sign Close ∷ rest) (tt, few);
  }
  spell_listed text a [] (b ∷ all) own others = absurd others
  spell_listed text a (t ∷ texts) [] own others = absurd others
  spell_listed text a (t ∷ texts) (b ∷ all) own others =
      let behind = spell_listed t b texts all others.0 others.1 in
      let behind_text = t ++ flat_map (λ other. separator ++ other) texts in
      record {
        words = λ ws. own.words (sign Comma ∷ behind.words ws);
        cuts = λ more ws cuts.
            subst (λ l. Cuts l (own.words (sign Comma ∷ behind.words ws))) (sym (append_assoc text ((separator ++ t) ++ flat_map (λ other. separator ++ other) texts) (41 ∷ more) ∙ ap (λ l. text ++ l) (ap (λ l. l ++ 41 ∷ more) (append_assoc separator t (flat_map (λ other. separator ++ other) texts)) ∙ append_assoc separator behind_text (41 ∷ more))))
            (own.cuts (separator ++ (behind_text ++ 41 ∷ more)) (sign Comma ∷ behind.words ws) (separates.ends (behind_text ++ 41 ∷ more)) (separates.cut (behind_text ++ 41 ∷ more) (behind.words ws) (behind.cuts more ws cuts)));
        derives = λ rest. next (own.derives (sign Comma ∷ behind.words rest)) (behind.derives rest);
        shallow = λ rest. let flat = own.shallow (sign Comma ∷ behind.words rest) in let flat_behind = behind.shallow rest in omega (arith, flat, flat_behind);
        short = λ rest few. own.short (sign Comma ∷ behind.words rest) (tt, behind.short rest few);
      }

  spell_between : (text : List ℕ) (texts : List (List ℕ)) (all : List A) → SpellAll X (text ∷ texts) all → Spells (InParentheses X) (codes "(" ++ (joined separator (text ∷ texts) ++ codes ")")) all 1
  spell_between text texts [] spelled = absurd spelled
  spell_between text texts (a ∷ all) spelled =
      let inner = spell_listed text a texts all spelled.0 spelled.1 in
      let inner_text = joined separator (text ∷ texts) in
      record {
        words = λ ws. sign Open ∷ inner.words ws;
        cuts = λ more ws ends cuts. cut_open (subst (λ l. Cuts l (inner.words ws)) (sym (append_assoc inner_text (codes ")") more)) (inner.cuts more ws cuts));
        derives = λ rest. enclosed (inner.derives rest);
        shallow = λ rest. let flat = inner.shallow rest in omega (arith, flat);
        short = λ rest few. (tt, inner.short rest few);
      }

  pub spell_separated : (texts : List (List ℕ)) (all : List A) → SpellAll X texts all → Spells (Arguments X) (separated separator texts) all 1
  spell_separated [] [] spelled = record { words = λ ws. ws; cuts = λ more ws ends cuts. cuts; derives = λ rest. no_argument; shallow = λ rest. omega arith; short = λ rest few. few }
  spell_separated [] (a ∷ all) spelled = absurd spelled
  spell_separated (text ∷ texts) all spelled =
      let inner = spell_between text texts all spelled in
      record { words = inner.words; cuts = inner.cuts; derives = λ rest. arguments (inner.derives rest); shallow = inner.shallow; short = inner.short }

module _ {A : Type 0} (X : List Word → A → List Word → Type 0) where
  pub spell_enclosed : (texts : List (List ℕ)) (all : List A) → 1 ≤ length texts → SpellAll X texts all → Spells (InParentheses X) (parenthesized texts) all 1
  spell_enclosed [] all some spelled = absurd (omega (arith, some))
  spell_enclosed (text ∷ texts) all some spelled = spell_between X (codes ", ") comma_blank text texts all spelled

  pub spell_arguments : (texts : List (List ℕ)) (all : List A) → SpellAll X texts all → Spells (Arguments X) (in_parentheses texts) all 1
  spell_arguments [] all spelled = spell_separated X (codes ", ") comma_blank [] all spelled
  spell_arguments (text ∷ texts) all spelled = spell_separated X (codes ", ") comma_blank (text ∷ texts) all spelled

pub ends_separated : (separator : List ℕ) (texts : List (List ℕ)) (more : List ℕ) → Ends more → Ends (separated separator texts ++ more)
ends_separated separator [] more ends = ends
ends_separated separator (text ∷ texts) more ends = opened

-- what stands behind a name with arguments or none
pub ends_parentheses : (texts : List (List ℕ)) (more : List ℕ) → Ends more → Ends (in_parentheses texts ++ more)
ends_parentheses [] more ends = ends
ends_parentheses (text ∷ texts) more ends = opened

pub some_parentheses : (texts : List (List ℕ)) → 1 ≤ length texts → in_parentheses texts ≡ parenthesized texts
some_parentheses [] some = absurd (omega (arith, some))
some_parentheses (text ∷ texts) some = refl
