-- The verdict on a derivation, from the lines that a scratch was prepared for.
use Rattle.std.proofs.Common.{◌≡◌, ℕ, ◌+◌, ◌<◌, ◌≤◌, Bool, true, false, MatchBool, IsTrue, List, [], ◌∷◌, ◌++◌, map, take, drop, length, get_or, All, Some, slice_get, refl, ap, sym, ◌∙◌, subst, zero-add, arith}
use Rattle.std.proofs.lemmas.List.{take_all, length-map, length-take-le, get_or-map, get_or-take}
use Rattle.pc_lits.specs.Hints.{clauses_at}
use Rattle.pc_lits.specs.declared.literal.Lit.{Lit}
use Rattle.pc_lits.specs.Steps.{IsGoodStep}
use Rattle.pc_sheet.specs.Sheet.{Sheet}
use Rattle.pc_accept.specs.Literals.{Symbol, Literal, opposite}
use Rattle.pc_accept.specs.Axioms.{IsClauseOf}
use Rattle.pc_accept.specs.Accepts as accepts
use Rattle.pc_accept.specs.Accepts.{IsLineClauseBeside, AreLineClausesBeside, EndsWithin}
use Rattle.pc_axiom_names.specs.Views.{axiom_of}
use Rattle.pc_axiom_names.specs.declared.axiom_name.AxiomName.TheVariants.{Any}
use Rattle.pc_cert.specs.Written.{CertificatePart}
use Rattle.pc_cert.specs.Text.{CertificateReading, line_of, lines_from}
use Rattle.pc_cert.specs.Views.{literal_of, part_of, numbered_part_of, AreSymbolsDistinct}
use Rattle.pc_cert.specs.declared.cert.CertPart.{CertPart}
use Rattle.pc_cert.specs.declared.cert.CertPart.TheVariants.{Axiom, Step, Block}
use Rattle.pc_cert.specs.declared.cert.CertLine.{CertLine}
use Rattle.pc_cert.specs.ReadFor.{IsNamedIn, IsPartOver}
use Rattle.pc_checker.specs.inside.Parts.{places_meant, IsGoodPart, AreGoodBelow, EndsAmong, fault_by}
use Rattle.pc_checker.specs.Verdicts.{Numbered, IsFirstAtFault, ClaimStands, blocks_in, IsVerdict}
use Rattle.pc_checker.proofs.ExactClauses.{IsExact}
use Rattle.pc_checker.proofs.ListLemmas.{cut_at}
use Rattle.pc_checker.proofs.HintLemmas.{all_below}
use Rattle.pc_checker.proofs.Derivations.{named_step, ends_named, kept_names, length-lines_from, line_at, same_line}

marked : (b : Bool) (P Q : Type 0) → IsTrue b → MatchBool b P Q → P
marked true P Q good is = is
marked false P Q good is = absurd (cc good)

unmarked : (b : Bool) (P Q : Type 0) → MatchBool b P Q → ¬ Q → IsTrue b
unmarked true P Q is never = refl
unmarked false P Q is never = absurd (never is)

-- what a list of lines gives past its end, in a goal on its elements
abbrev pub no_line : CertLine
no_line = record { line = 0; part = Axiom (Any (record { 0 = 0 })) }

module _ (sheet : Sheet) (blocks : List (List Literal)) (symbols more : List Symbol) (distinct : AreSymbolsDistinct (symbols ++ more)) (clauses : List (List Lit)) (axioms : List Bool) (lines : List CertLine)
    (count : length clauses ≡ length lines) (within : All (All (IsNamedIn (symbols ++ more))) clauses) (over : All (λ l. IsPartOver sheet symbols l.part) lines)
    (each : (i : ℕ) (d : CertLine) → i < length lines → IsExact sheet blocks (symbols ++ more) (get_or clauses i []) (get_or axioms i false) (get_or lines i d).part) where
  abbrev names : List Symbol
  names = symbols ++ more

  abbrev named_clauses : List (List Literal)
  named_clauses = map (map (literal_of names)) clauses

  abbrev parts : List (Numbered CertificatePart)
  parts = map (numbered_part_of symbols) lines

  abbrev no_part : Numbered CertificatePart
  no_part = numbered_part_of symbols no_line

  clause_at : (i : ℕ) → i < length lines → get_or named_clauses i [] ≡ map (literal_of names) (get_or clauses i [])
  clause_at i less = get_or-map (map (literal_of names)) clauses i [] [] (omega arith)

  -- ---- one line

  part_good : (i : ℕ) (part : CertPart) → i < length lines → IsPartOver sheet symbols part → IsExact sheet blocks names (get_or clauses i []) (get_or axioms i false) part
      → IsGoodPart clauses axioms i part → IsLineClauseBeside sheet blocks named_clauses i (line_of i (part_of symbols part)) (get_or named_clauses i [])
  part_good i (Axiom a) less is_over is good =
      subst (IsClauseOf sheet (axiom_of a)) (sym (clause_at i less)) (marked (get_or axioms i false) _ _ good is)
  part_good i (Step clause hints) less is_over is good =
      let here : i < length clauses = omega arith in
      let same : map (literal_of names) (get_or clauses i []) ≡ map (literal_of symbols) clause.items = ap (map (literal_of names)) is ∙ sym (kept_names symbols more clause.items is_over) in
      let places = places_meant i hints.items in
      let step = (named_step names distinct (get_or clauses i []) clauses places (all_below i (length clauses) places (omega arith) good.0) (within i [] here) within).0 good.1 in
      (clause_at i less ∙ same, good.0, subst (λ c. IsGoodStep opposite c (clauses_at named_clauses places)) same step)
  part_good i (Block j) less is_over is good = subst (λ c. slice_get blocks j ≡ Some c) (sym (clause_at i less)) (marked (get_or axioms i false) _ _ good is)

  good_part : (i : ℕ) (part : CertPart) → i < length lines → IsPartOver sheet symbols part → IsExact sheet blocks names (get_or clauses i []) (get_or axioms i false) part
      → (c : List Literal) → IsLineClauseBeside sheet blocks named_clauses i (line_of i (part_of symbols part)) c → IsGoodPart clauses axioms i part
  good_part i (Axiom a) less is_over is c h = unmarked (get_or axioms i false) _ _ is (λ none. none c h)
  good_part i (Step clause hints) less is_over is c h =
      let here : i < length clauses = omega arith in
      let same : map (literal_of names) (get_or clauses i []) ≡ map (literal_of symbols) clause.items = ap (map (literal_of names)) is ∙ sym (kept_names symbols more clause.items is_over) in
      let places = places_meant i hints.items in
      let both = named_step names distinct (get_or clauses i []) clauses places (all_below i (length clauses) places (omega arith) h.1) (within i [] here) within in
      (h.1, both.1 (subst (λ c. IsGoodStep opposite c (clauses_at named_clauses places)) (sym same) h.2))
  good_part i (Block j) less is_over is c h = unmarked (get_or axioms i false) _ _ is (λ none. none c h)

  part_at : (i : ℕ) → i < length lines → get_or parts i no_part ≡ numbered_part_of symbols (get_or lines i no_line)
  part_at i less = get_or-map (numbered_part_of symbols) lines i no_line no_part less

  -- ---- the lines before a place

  line_before : (k i : ℕ) (e : accepts.Line) → i < k → k ≤ length lines → get_or (lines_from 0 (take k parts)) i e ≡ line_of i (part_of symbols (get_or lines i no_line).part)
  line_before k i e less most =
      let count_parts : length (take k parts) ≡ k = length-take-le k parts (omega (arith, length-map lines (numbered_part_of symbols))) in
      let says : Numbered CertificatePart → accepts.Line = λ p. line_of i p.1 in
      let at : ℕ → accepts.Line = λ n. line_of n (get_or (take k parts) i no_part).1 in
      line_at 0 (take k parts) i no_part e (omega arith) ∙ ap at (zero-add i) ∙ ap says (get_or-take k parts i no_part less ∙ part_at i (omega arith))

  derivation_before : (k : ℕ) → k ≤ length lines → AreGoodBelow clauses axioms lines k → AreLineClausesBeside sheet blocks (lines_from 0 (take k parts)) (take k named_clauses)
  derivation_before k most good =
      let count_parts : length (take k parts) ≡ k = length-take-le k parts (omega (arith, length-map lines (numbered_part_of symbols))) in
      let count_lines : length (lines_from 0 (take k parts)) ≡ k = length-lines_from 0 (take k parts) ∙ count_parts in
      let count_clauses : length (take k named_clauses) ≡ k = length-take-le k named_clauses (omega (arith, length-map clauses (map (literal_of names)))) in
      record {
        count = count_clauses ∙ sym count_lines;
        each = λ i e l.
            let less : i < k = omega arith in
            let there : i < length lines = omega arith in
            let part = (get_or lines i no_line).part in
            let is = part_good i part there (over i no_line there) (each i no_line there) (good i no_line less) in
            let cut = same_line sheet blocks named_clauses (take k named_clauses) i (line_of i (part_of symbols part)) (get_or named_clauses i [])
            (λ j lower. sym (get_or-take k named_clauses j [] (omega arith))) is in
            subst (λ line. IsLineClauseBeside sheet blocks (take k named_clauses) i line (get_or (take k named_clauses) i [])) (sym (line_before k i e less most))
            (subst (IsLineClauseBeside sheet blocks (take k named_clauses) i (line_of i (part_of symbols part))) (sym (get_or-take k named_clauses i [] less)) cut);
      }

  -- ---- the first line at fault

  pub first_at_fault : (k : ℕ) → k < length lines → AreGoodBelow clauses axioms lines k → ((d : CertLine) → ¬ IsGoodPart clauses axioms k (get_or lines k d).part)
      → IsFirstAtFault sheet blocks parts (numbered_part_of symbols (get_or lines k no_line))
  first_at_fault k less good bad =
      let enough : k < length parts = omega (arith, length-map lines (numbered_part_of symbols)) in
      let count_parts : length (take k parts) ≡ k = length-take-le k parts (omega arith) in
      let x = numbered_part_of symbols (get_or lines k no_line) in
      let part = (get_or lines k no_line).part in
      record {
        before = take k parts;
        after = drop (k + 1) parts;
        are = cut_at parts k no_part enough ∙ ap (λ p. take k parts ++ p ∷ drop (k + 1) parts) (part_at k less);
        clauses = take k named_clauses;
        derivation = derivation_before k (omega arith) good;
        fault = λ c h.
            let here : IsLineClauseBeside sheet blocks (take k named_clauses) k (line_of k x.1) c = subst (λ n. IsLineClauseBeside sheet blocks (take k named_clauses) n (line_of n x.1) c) count_parts h in
            let whole = same_line sheet blocks (take k named_clauses) named_clauses k (line_of k x.1) c (λ j lower. get_or-take k named_clauses j [] lower) here in
            bad no_line (good_part k part less (over k no_line less) (each k no_line less) c whole);
      }

  -- ---- all lines

  pub derivation : AreGoodBelow clauses axioms lines (length lines) → AreLineClausesBeside sheet blocks (lines_from 0 parts) named_clauses
  derivation good =
      let n = length lines in
      let all = derivation_before n (omega arith) good in
      let same_clauses : take n named_clauses ≡ named_clauses = take_all n named_clauses (omega (arith, length-map clauses (map (literal_of names)))) in
      let same_parts : take n parts ≡ parts = take_all n parts (omega (arith, length-map lines (numbered_part_of symbols))) in
      subst (λ ps. AreLineClausesBeside sheet blocks (lines_from 0 ps) named_clauses) same_parts (subst (AreLineClausesBeside sheet blocks (lines_from 0 (take n parts))) same_clauses all)

  pub ends : (allowed : List Lit) (literals : List Literal) → All (IsNamedIn names) allowed → map (literal_of names) allowed ≡ literals
      → (EndsAmong clauses allowed → EndsWithin named_clauses literals) × (EndsWithin named_clauses literals → EndsAmong clauses allowed)
  ends allowed literals ok same =
      let both = ends_named names distinct clauses allowed within ok in
      (λ h. subst (EndsWithin named_clauses) same (both.0 h), λ h. both.1 (subst (EndsWithin named_clauses) (sym same) h))

-- the verdict on a line at fault
pub fault_verdict : (sheet : Sheet) (r : CertificateReading) (symbols : List Symbol) (line : ℕ) (part : CertPart) → ClaimStands sheet r r.claim → IsFirstAtFault sheet (blocks_in sheet r) r.parts (line, part_of symbols part)
    → IsVerdict sheet r (fault_by line part)
fault_verdict sheet r symbols line (Axiom a) stands at = (stands, (_, at, refl))
fault_verdict sheet r symbols line (Step clause hints) stands at = (stands, (_, at, refl))
fault_verdict sheet r symbols line (Block j) stands at = (stands, (_, at, refl))
