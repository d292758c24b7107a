-- Each line of a certificate's text is read as what it says.
use Rattle.std.proofs.Common.{◌≡◌, ℕ, ◌<◌, ◌≤◌, ◌^◌, Bool, true, false, List, ◌∷◌, ◌++◌, length, codes, arith, refl, sym, ap, subst, ◌∙◌}
use Rattle.pc_name.specs.Names.{is_reserved, most_name_bytes, IsName}
use Rattle.pc_name.specs.declared.sign.Op.TheVariants.{Eq, Ne}
use Rattle.pc_sheet.specs.Sheet.{Sheet}
use Rattle.pc_sheet.specs.WellFormed.{IsWellFormed, IsEntryOf}
use Rattle.pc_sheet.specs.declared.ids.Entry.{Entry}
use Rattle.pc_token.specs.declared.token.Kind.{Kind}
use Rattle.pc_token.specs.declared.token.Kind.TheVariants.{Equal}
use Rattle.pc_formula.specs.Word.{Word, name, sign}
use Rattle.pc_formula.specs.Equation.{equality}
use Rattle.pc_sheet.specs.declared.ids.Target.{Target}
use Rattle.pc_accept.specs.Accepts.{Line, Claim, implied, inconsistent, repairs, unimplied, against, Certificate}
use Rattle.pc_accept.specs.Writable.{IsTargetOf, IsLineBeside, IsClaimOf}
use Rattle.pc_writer.specs.Spelling.{cell_text, value_text, sort_of, entry_text}
use Rattle.pc_canonical_laws.proofs.Cuts.{Cuts, blank}
use Rattle.pc_canonical_laws.proofs.Cutting.{Ends, space, cut_name}
use Rattle.pc_canonical_laws.proofs.CuttingStatements.{all_letters, letters}
use Rattle.pc_canonical_laws.proofs.Signs.{cut_op}
use Rattle.pc_canonical_laws.proofs.Unbroken.{is_line_end, cuts_unbroken}
use Rattle.pc_cert.specs.Written.{heading, claims, begins, uses, assigns, derives, ends, WrittenLine, SaidLine}
use Rattle.pc_cert.specs.Claims.{written_implied, written_inconsistent, written_repairs, written_unimplied, written_against, IsWordPair, IsDenial, StartsWithText}
use Rattle.pc_cert.specs.Words.{texts_of, SpellsThis}
use Rattle.pc_cert.specs.Line.{IsCertificateLine}
use Rattle.pc_cert.specs.Order.{kind_of, kind_of_written}
use Rattle.pc_cert.specs.Meaning.{IsSaidLine}
use Rattle.pc_cert_text.specs.CertificateText.{number_text, behind_blank, derivation_line_text, equality_text, claim_text, name_of_rule_at}
use Rattle.pc_cert_laws.specs.Said.{part_of}
use Rattle.pc_cert_laws.specs.ReadBack.{HasForm}
use Rattle.pc_cert_laws.proofs.Marks.{IsFree, free_join, IsWordText, number_text_is}
use Rattle.pc_cert_laws.proofs.Words.{texts_more, texts_last}
use Rattle.pc_canonical_laws.proofs.Entries.{entry_stands}
use Rattle.pc_cert_laws.proofs.Spelled.{pair_of, spelled_words, spell_entry}
use Rattle.pc_cert_laws.proofs.Standing.{rule_stands}
use Rattle.pc_cert_laws.proofs.Paths.{name_text_is, name_word}
use Rattle.pc_cert_laws.proofs.Parts.{line_reads, number_word}

-- behind so many sets, the line is one line, has a form, and says this by it
pub record ReadsAsLine (sheet : Sheet) (sets : ℕ) (line : List ℕ) (l : SaidLine) : Type 0 where
  pub form : WrittenLine
  pub is : IsCertificateLine line form
  pub same_kind : kind_of_written form ≡ kind_of l
  pub named : IsSaidLine sheet sets form l
  pub whole : IsFree is_line_end line

-- a word of small letters that is no reserved one
record IsPlainWord (word : List ℕ) : Type 0 where
  named : IsName word
  text : IsWordText word

plain : (b : ℕ) (bs : List ℕ) → all_letters (b ∷ bs) ≡ true → is_reserved (b ∷ bs) ≡ false → length (b ∷ bs) ≤ most_name_bytes → IsWordText (b ∷ bs) → IsPlainWord (b ∷ bs)
plain b bs small free short text = record { named = record { characters = letters b bs small; not_reserved = free; within = short }; text = text }

claim_word : IsPlainWord (codes "claim")
unfolding all_letters
claim_word = plain 99 (codes "laim") refl refl (omega arith) (record { solid = refl; whole = refl; some = omega arith })

not_word : IsPlainWord (codes "not")
unfolding all_letters
not_word = plain 110 (codes "ot") refl refl (omega arith) (record { solid = refl; whole = refl; some = omega arith })

use_word : IsPlainWord (codes "use")
unfolding all_letters
use_word = plain 117 (codes "se") refl refl (omega arith) (record { solid = refl; whole = refl; some = omega arith })

value_word : IsPlainWord (codes "value")
unfolding all_letters
value_word = plain 118 (codes "alue") refl refl (omega arith) (record { solid = refl; whole = refl; some = omega arith })

module _ (sheet : Sheet) (formed : IsWellFormed sheet) where
  -- ---- a word before a cell, a sign and a value

  record SaysEntry (line word : List ℕ) (k : Kind) (e : Entry) : Type 0 where
    starts : StartsWithText (texts_of line) word
    spelled : SpellsThis (IsWordPair word k) line (pair_of sheet.universe e)
    whole : IsFree is_line_end line

  says_entry : (word : List ℕ) → IsPlainWord word → (k : Kind) (middle : List ℕ) → ((more : List ℕ) (ws : List Word) → Cuts more ws → Cuts (middle ++ more) (sign k ∷ ws)) → ((more : List ℕ) → Ends (middle ++ more))
      → (e : Entry) → IsEntryOf sheet.universe e → SaysEntry (word ++ 32 ∷ (cell_text sheet.universe e.cell ++ (middle ++ value_text sheet.universe (sort_of sheet.universe e.cell) e.value))) word k e
  says_entry word is k middle cut stops e entered =
      let u = sheet.universe in
      let text = cell_text u e.cell ++ (middle ++ value_text u (sort_of u e.cell) e.value) in
      let entry = spell_entry u formed.universe e entered k middle cut stops in
      let all = name word ∷ entry.words in
      let cuts : Cuts (word ++ 32 ∷ text) all = cut_name word (32 ∷ text) entry.words is.named space (blank entry.cuts) in
      record {
        starts = record { more = texts_of text; is = texts_more word text is.text };
        spelled = record { words = all; spells = spelled_words (word ++ 32 ∷ text) all cuts (is.named.within, entry.short); is = record { rest = entry.words; are = refl; pair = entry.is } };
        whole = cuts_unbroken (word ++ 32 ∷ text) all cuts;
      }

  -- ---- `claim`, `not`, a cell, `=` and a value

  record SaysDenial (line : List ℕ) (e : Entry) : Type 0 where
    starts : StartsWithText (texts_of line) (codes "claim")
    spelled : SpellsThis IsDenial line (pair_of sheet.universe e)
    whole : IsFree is_line_end line

  equal_cut : (more : List ℕ) (ws : List Word) → Cuts more ws → Cuts (codes " = " ++ more) (sign Equal ∷ ws)
  equal_cut more ws cuts = cut_op cuts Eq

  equality_cut : (holds : Bool) (more : List ℕ) (ws : List Word) → Cuts more ws → Cuts (equality_text holds ++ more) (sign (equality holds) ∷ ws)
  equality_cut true more ws cuts = cut_op cuts Eq
  equality_cut false more ws cuts = cut_op cuts Ne

  equality_ends : (holds : Bool) (more : List ℕ) → Ends (equality_text holds ++ more)
  equality_ends true more = space
  equality_ends false more = space

  says_denial : (e : Entry) → IsEntryOf sheet.universe e → SaysDenial (codes "claim " ++ (codes "not " ++ entry_text sheet.universe e)) e
  says_denial e entered =
      let u = sheet.universe in
      let text = entry_text u e in
      let entry = spell_entry u formed.universe e entered Equal (codes " = ") equal_cut (λ more. space) in
      let all = name (codes "claim") ∷ name (codes "not") ∷ entry.words in
      let cuts : Cuts (codes "claim " ++ (codes "not " ++ text)) all =
      cut_name (codes "claim") (32 ∷ (codes "not " ++ text)) (name (codes "not") ∷ entry.words) claim_word.named space
      (blank (cut_name (codes "not") (32 ∷ text) entry.words not_word.named space (blank entry.cuts))) in
      record {
        starts = record { more = texts_of (codes "not " ++ text); is = texts_more (codes "claim") (codes "not " ++ text) claim_word.text };
        spelled = record {
          words = all;
          spells = spelled_words (codes "claim " ++ (codes "not " ++ text)) all cuts (claim_word.named.within, (not_word.named.within, entry.short));
          is = record { rest = entry.words; are = refl; pair = entry.is };
        };
        whole = cuts_unbroken (codes "claim " ++ (codes "not " ++ text)) all cuts;
      }

  module _ (sets : ℕ) where
    pub use_reads : (e : Entry) → IsEntryOf sheet.universe e → ReadsAsLine sheet sets (codes "use " ++ entry_text sheet.universe e) (uses e)
    use_reads e entered =
        let says = says_entry (codes "use") use_word Equal (codes " = ") equal_cut (λ more. space) e entered in
        record { form = uses (pair_of sheet.universe e); is = (says.starts, says.spelled); same_kind = refl; named = entry_stands sheet.universe e entered; whole = says.whole }

    pub value_reads : (e : Entry) → IsEntryOf sheet.universe e → ReadsAsLine sheet sets (codes "value " ++ entry_text sheet.universe e) (assigns e)
    value_reads e entered =
        let says = says_entry (codes "value") value_word Equal (codes " = ") equal_cut (λ more. space) e entered in
        record { form = assigns (pair_of sheet.universe e); is = (says.starts, says.spelled); same_kind = refl; named = entry_stands sheet.universe e entered; whole = says.whole }

    implied_reads : (t : Target) → IsTargetOf sheet t → ReadsAsLine sheet sets (claim_text sheet (implied t)) (claims (implied t))
    implied_reads t is =
        let e : Entry = record { cell = t.cell; value = t.value } in
        let says = says_entry (codes "claim") claim_word (equality t.holds) (equality_text t.holds) (equality_cut t.holds) (equality_ends t.holds) e is in
        let spelled = says.spelled in
        record {
          form = claims (written_implied (pair_of sheet.universe e) t.holds);
          is = (says.starts, record { words = spelled.words; spells = spelled.spells; is = spelled.is });
          same_kind = refl;
          named = (entry_stands sheet.universe e is, refl);
          whole = says.whole;
        }

    denial_reads : (t : Target) → IsTargetOf sheet t → t.holds ≡ true → ReadsAsLine sheet sets (claim_text sheet (unimplied t)) (claims (unimplied t))
    denial_reads t is holds =
        let u = sheet.universe in
        let e : Entry = record { cell = t.cell; value = t.value } in
        let says = says_denial e is in
        let same : codes "claim " ++ (codes "not " ++ entry_text u e) ≡ claim_text sheet (unimplied t) =
        ap (λ b. codes "claim not " ++ (cell_text u t.cell ++ (equality_text b ++ value_text u (sort_of u t.cell) t.value))) (sym holds) in
        subst (λ line. ReadsAsLine sheet sets line (claims (unimplied t))) same
        (record { form = claims (written_unimplied (pair_of u e)); is = (says.starts, says.spelled); same_kind = refl; named = (entry_stands u e is, holds); whole = says.whole })

    against_reads : (r : ℕ) → r < length sheet.rules → ReadsAsLine sheet sets (claim_text sheet (against r)) (claims (against r))
    against_reads r below =
        let own = name_of_rule_at sheet r in
        let own_word = name_word sheet formed r below in
        record {
          form = claims (written_against own);
          is = (
            texts_more (codes "claim") (codes "against " ++ own) claim_word.text
                ∙ ap (λ ts. codes "claim" ∷ ts) (texts_more (codes "against") own (record { solid = refl; whole = refl; some = omega arith }) ∙ ap (λ ts. codes "against" ∷ ts) (texts_last own own_word)),
            name_text_is sheet formed r below,
          );
          same_kind = refl;
          named = rule_stands sheet r below;
          whole = own_word.whole;
        }

    pub claim_reads : (c : Certificate) (claim : Claim) → IsClaimOf sheet c claim → HasForm claim → ReadsAsLine sheet sets (claim_text sheet claim) (claims claim)
    claim_reads c (implied t) is has = implied_reads t is.1
    claim_reads c inconsistent is has = record { form = claims written_inconsistent; is = refl; same_kind = refl; named = tt; whole = refl }
    claim_reads c repairs is has = record { form = claims written_repairs; is = refl; same_kind = refl; named = tt; whole = refl }
    claim_reads c (unimplied t) is has = denial_reads t is.1 has
    claim_reads c (against r) is has = against_reads r is.1

    pub set_reads : ReadsAsLine sheet sets (codes "set") begins
    set_reads = record { form = begins; is = refl; same_kind = refl; named = tt; whole = refl }

    -- ---- lines of the derivation

    pub derivation_reads : (n : ℕ) (l : Line) (place : ℕ) → n < 10 ^ 18 → place < 10 ^ 18 → sets < 10 ^ 18 → IsLineBeside sheet sets place l → ReadsAsLine sheet sets (number_text n ++ behind_blank (derivation_line_text sheet l)) (derives n (part_of l))
    derivation_reads n l place short few few_sets of =
        let part = line_reads sheet formed sets place l few few_sets of in
        let text = derivation_line_text sheet l in
        let word = number_word n short in
        record {
          form = derives n part.written;
          is = record {
            number = number_text n;
            more = texts_of text;
            are = texts_more (number_text n) text word;
            counts = number_text_is n short;
            is = record { more = part.more; are = part.are; follows = part.follows };
          };
          same_kind = refl;
          named = (refl, part.named);
          whole = free_join is_line_end (number_text n) (32 ∷ text) word.whole part.whole;
        }

    -- ---- the first line and the last one

    pub heading_reads : ReadsAsLine sheet sets (codes "certificate 1") heading
    heading_reads = record { form = heading; is = record { number = codes "1"; are = refl; version = record { digits = (omega arith, (omega arith, tt)); short = omega arith; value = refl } }; same_kind = refl; named = tt; whole = refl }

    pub end_reads : ReadsAsLine sheet sets (codes "end") ends
    end_reads = record { form = ends; is = refl; same_kind = refl; named = tt; whole = refl }
