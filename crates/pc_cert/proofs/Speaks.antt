-- What is read in a sheet speaks of that sheet alone.
use Rattle.std.proofs.Common.{◌≡◌, ℕ, zero, suc, ◌+◌, ◌<◌, ◌≤◌, Bool, false, List, [], ◌∷◌, ◌++◌, length, map, Some, IsSomeAnd, slice_get, append_assoc, arith, refl, ap, sym, ◌∙◌, subst}
use Rattle.std.specs.Prelude.{cond}
use Rattle.std.proofs.lemmas.List.Sums.{sum_by-append, sum_by-cons}
use Rattle.std.specs.List.{AllByRecursion}
use Rattle.std.proofs.lemmas.Option.{same_Some}
use Rattle.pc_sheet.specs.Sheet.{Sheet, NamedStatement}
use Rattle.pc_sheet.specs.Cells.{CellsAreNumberedInOrder}
use Rattle.pc_sheet.specs.WellFormed.{IsEntryOf}
use Rattle.pc_accept.specs.Literals.{Symbol, pair, node, Literal}
use Rattle.pc_accept.specs.Axioms.{Axiom, axiom_some, axiom_one, axiom_rule, axiom_node, axiom_atom}
use Rattle.pc_accept.specs.Accepts as accepts
use Rattle.pc_cert.specs.Written.{nothing, heading, claims, begins, uses, assigns, derives, ends, WrittenLine, WrittenPart, WrittenSymbol, written_pair, written_node, WrittenLiteral, written_some, written_one, written_rule, written_node_clause, written_atom, written_step, written_block, CertificatePart, taken, derived, blocked, SaidLine}
use Rattle.pc_cert.specs.Claims.{WrittenClaim, written_implied, written_inconsistent, written_repairs, written_unimplied, written_against, IsClaimNamed}
use Rattle.pc_cert.specs.Order.{LineKind, empty_line, heading_line, use_line, value_line, numbered_line, end_line, set_line, kind_of, kind_of_claim, sets_in, is_set}
use Rattle.pc_cert.specs.Meaning.{AreNamedEach, IsSymbolNamed, IsLiteralNamed, IsAxiomNamed, IsPartNamed, IsSaidLine}
use Rattle.pc_cert.specs.Text.{CertificateReading, certificate, IsTextReading, whole, AllSay, SayTogether, in_front, sets_from, uses_from, values_from, parts_from, claim_in}
use Rattle.pc_cert.specs.Readings.{IsSheetSymbol, IsSheetAxiom, IsPartOverSheet, IsSheetClaim, IsSheetSet, SpeaksOf, WhatIsReadSpeaksOfTheSheet}
use Rattle.pc_cert.proofs.ReadEntries.{each_at, cell_below, is_an_entry, entry_named, entries_named}

pub rule_within : (rules : List NamedStatement) (name : List ℕ) (r : ℕ) → IsSomeAnd (slice_get rules r) (λ rule. rule.name ≡ name) → r < length rules
rule_within [] name r is = absurd is
rule_within (rule ∷ rules) name zero is = omega arith
rule_within (rule ∷ rules) name (suc r) is = let rest = rule_within rules name r is in omega (arith, rest)

-- ---- how many sets there are

no_set : (c : accepts.Claim) → is_set (kind_of_claim c) ≡ false
no_set (accepts.implied t) = refl
no_set accepts.inconsistent = refl
no_set accepts.repairs = refl
no_set (accepts.unimplied t) = refl
no_set (accepts.against r) = refl

other_kind : (k : LineKind) (ks : List LineKind) → is_set k ≡ false → sets_in ks ≡ sets_in (k ∷ ks)
other_kind k ks other =
    (let e : sets_in ks ≡ 0 + sets_in ks = omega arith in e) ∙ ap (λ (b : Bool). cond b 1 0 + sets_in ks) (sym other) ∙ sym (sum_by-cons (λ j. cond (is_set j) 1 0) k ks)

sets_counted : (n : ℕ) (ls : List SaidLine) → length (sets_from n ls) ≡ sets_in (map kind_of ls)
sets_counted n [] = refl
sets_counted n (claims c ∷ ls) = sets_counted (n + 1) ls ∙ other_kind (kind_of_claim c) (map kind_of ls) (no_set c)
sets_counted n (begins ∷ ls) =
    ap suc (sets_counted (n + 1) ls) ∙ (let e : suc (sets_in (map kind_of ls)) ≡ 1 + sets_in (map kind_of ls) = omega arith in e) ∙ sym (sum_by-cons (λ j. cond (is_set j) 1 0) set_line (map kind_of ls))
sets_counted n (nothing ∷ ls) = sets_counted (n + 1) ls ∙ other_kind empty_line (map kind_of ls) refl
sets_counted n (heading ∷ ls) = sets_counted (n + 1) ls ∙ other_kind heading_line (map kind_of ls) refl
sets_counted n (uses e ∷ ls) = sets_counted (n + 1) ls ∙ other_kind use_line (map kind_of ls) refl
sets_counted n (assigns e ∷ ls) = sets_counted (n + 1) ls ∙ other_kind value_line (map kind_of ls) refl
sets_counted n (derives m p ∷ ls) = sets_counted (n + 1) ls ∙ other_kind (numbered_line m) (map kind_of ls) refl
sets_counted n (ends ∷ ls) = sets_counted (n + 1) ls ∙ other_kind end_line (map kind_of ls) refl

-- ---- what lines speak of

module _ (sheet : Sheet) (ordered : CellsAreNumberedInOrder) where
  symbol_of : (w : WrittenSymbol) (s : Symbol) → IsSymbolNamed sheet w s → IsSheetSymbol sheet s
  symbol_of (written_pair p) (pair c v) is = entry_named sheet.universe ordered p (record { cell = c; value = v }) is
  symbol_of (written_node p) (node rule steps) is = is.leads
  symbol_of w s is = absurd is

  literals_of : (ws : List WrittenLiteral) (ls : List Literal) → AreNamedEach (IsLiteralNamed sheet) ws ls → AllByRecursion (λ l. IsSheetSymbol sheet l.what) ls
  literals_of [] [] is = tt
  literals_of [] (l ∷ ls) is = absurd is
  literals_of (w ∷ ws) [] is = tt
  literals_of (w ∷ ws) (l ∷ ls) is = (symbol_of w.what l.what is.0.what, literals_of ws ls is.1)

  axiom_of : (w : WrittenPart) (a : Axiom) → IsAxiomNamed sheet w a → IsSheetAxiom sheet a
  axiom_of (written_some c) (axiom_some id) is = cell_below sheet.universe ordered c id is
  axiom_of (written_one c v w) (axiom_one id first second) is = (
    is_an_entry sheet.universe ordered c v is.sort (record { cell = id; value = first }) is.cell is.first_value,
    is_an_entry sheet.universe ordered c w is.sort (record { cell = id; value = second }) is.cell is.second_value,
  )
  axiom_of (written_rule n) (axiom_rule r) is = rule_within sheet.rules n r is
  axiom_of (written_node_clause p i) (axiom_node r steps j) is = is.0.leads
  axiom_of (written_atom p reads) (axiom_atom r steps es) is = (is.0.leads, each_at (IsEntryOf sheet.universe) es (entries_named sheet.universe ordered reads es is.1))
  axiom_of w a is = absurd is

  claim_named : (w : WrittenClaim) (c : accepts.Claim) → IsClaimNamed sheet w c → IsSheetClaim sheet c
  claim_named (written_implied p holds) (accepts.implied t) is = entry_named sheet.universe ordered p (record { cell = t.cell; value = t.value }) is.0
  claim_named written_inconsistent accepts.inconsistent is = tt
  claim_named written_repairs accepts.repairs is = tt
  claim_named (written_unimplied p) (accepts.unimplied t) is = (entry_named sheet.universe ordered p (record { cell = t.cell; value = t.value }) is.0, is.1)
  claim_named (written_against n) (accepts.against r) is = rule_within sheet.rules n r is
  claim_named w c is = absurd is

  -- beside so many sets in all
  module _ (total : ℕ) where
    part_of : (sets : ℕ) → sets ≤ total → (w : WrittenPart) (p : CertificatePart) → IsPartNamed sheet sets w p → IsPartOverSheet sheet total p
    part_of sets most w (taken a) is = axiom_of w a is
    part_of sets most (written_step ls hints) (derived clause numbers) is = each_at (λ l. IsSheetSymbol sheet l.what) clause (literals_of ls clause is.0)
    part_of sets most (written_block j) (blocked k) is = omega (arith, most, is.1)
    part_of sets most w p is = absurd is

    abbrev IsLineOf : SaidLine → Type 0
    IsLineOf (claims c) = IsSheetClaim sheet c
    IsLineOf (uses e) = IsEntryOf sheet.universe e
    IsLineOf (assigns e) = IsEntryOf sheet.universe e
    IsLineOf (derives n p) = IsPartOverSheet sheet total p
    IsLineOf l = Unit {0}

    line_of : (sets : ℕ) → sets ≤ total → (f : WrittenLine) (l : SaidLine) → IsSaidLine sheet sets f l → IsLineOf l
    line_of sets most f nothing is = tt
    line_of sets most f heading is = tt
    line_of sets most f begins is = tt
    line_of sets most f ends is = tt
    line_of sets most (claims w) (claims c) is = claim_named w c is
    line_of sets most (uses p) (uses e) is = entry_named sheet.universe ordered p e is
    line_of sets most (assigns p) (assigns e) is = entry_named sheet.universe ordered p e is
    line_of sets most (derives n w) (derives m p) is = part_of sets most w p is.1
    line_of sets most f l is = absurd is

    at_most : (before more : List LineKind) → sets_in (before ++ more) ≤ total → sets_in before ≤ total
    at_most before more most = let all = sum_by-append (λ k. cond (is_set k) 1 0) before more in omega (arith, most, all)

    all_of : (before : List LineKind) (lines : List (List ℕ)) (ls : List SaidLine) → sets_in (before ++ map kind_of ls) ≤ total → AllSay sheet before lines ls → AllByRecursion IsLineOf ls
    all_of before [] [] most all = tt
    all_of before [] (l ∷ ls) most all = absurd all
    all_of before (line ∷ lines) [] most all = tt
    all_of before (line ∷ lines) (l ∷ ls) most all = (
      line_of (sets_in before) (at_most before (map kind_of (l ∷ ls)) most) all.0.form l all.0.named,
      all_of (before ++ kind_of l ∷ []) lines ls (subst (λ ks. sets_in ks ≤ total) (sym (append_assoc before (kind_of l ∷ []) (map kind_of ls))) most) all.1,
    )

    front_of : (ls : List SaidLine) → AllByRecursion IsLineOf ls → AllByRecursion IsLineOf (in_front ls)
    front_of [] all = tt
    front_of (begins ∷ ls) all = tt
    front_of (l ∷ ls) all = (all.0, front_of ls all.1)

    uses_of : (n : ℕ) (ls : List SaidLine) → AllByRecursion IsLineOf ls → AllByRecursion (λ p. IsEntryOf sheet.universe p.1) (uses_from n ls)
    uses_of n [] all = tt
    uses_of n (uses e ∷ ls) all = (all.0, uses_of (n + 1) ls all.1)
    uses_of n (l ∷ ls) all = uses_of (n + 1) ls all.1

    values_of : (n : ℕ) (ls : List SaidLine) → AllByRecursion IsLineOf ls → AllByRecursion (λ p. IsEntryOf sheet.universe p.1) (values_from n ls)
    values_of n [] all = tt
    values_of n (assigns e ∷ ls) all = (all.0, values_of (n + 1) ls all.1)
    values_of n (l ∷ ls) all = values_of (n + 1) ls all.1

    parts_of : (n : ℕ) (ls : List SaidLine) → AllByRecursion IsLineOf ls → AllByRecursion (λ p. IsPartOverSheet sheet total p.1) (parts_from n ls)
    parts_of n [] all = tt
    parts_of n (derives k p ∷ ls) all = (all.0, parts_of (n + 1) ls all.1)
    parts_of n (l ∷ ls) all = parts_of (n + 1) ls all.1

    sets_of : (n : ℕ) (ls : List SaidLine) → AllByRecursion IsLineOf ls → AllByRecursion (IsSheetSet sheet) (sets_from n ls)
    sets_of n [] all = tt
    sets_of n (begins ∷ ls) all =
        let own = front_of ls all.1 in (
          record {
            uses = each_at (λ p. IsEntryOf sheet.universe p.1) (uses_from (n + 1) (in_front ls)) (uses_of (n + 1) (in_front ls) own);
            values = each_at (λ p. IsEntryOf sheet.universe p.1) (values_from (n + 1) (in_front ls)) (values_of (n + 1) (in_front ls) own);
          },
          sets_of (n + 1) ls all.1,
        )
    sets_of n (l ∷ ls) all = sets_of (n + 1) ls all.1

    claim_of : (ls : List SaidLine) (c : accepts.Claim) → claim_in ls ≡ Some c → AllByRecursion IsLineOf ls → IsSheetClaim sheet c
    claim_of [] c is all = absurd (cc)
    claim_of (claims d ∷ ls) c is all = subst (IsSheetClaim sheet) (same_Some d c is) all.0
    claim_of (l ∷ ls) c is all = claim_of ls c is all.1

  speaks : (r : CertificateReading) (lines : List (List ℕ)) (ls : List SaidLine) → AllSay sheet [] lines ls → SayTogether ls r → SpeaksOf sheet r
  speaks r lines ls say together =
      let total = length r.sets in
      let count : sets_in (map kind_of ls) ≤ total = (let are = ap length together.sets in let counted = sets_counted 1 ls in omega (arith, are, counted)) in
      let all = all_of total [] lines ls count say in
      let own = front_of total ls all in
      record {
        claim = claim_of total ls r.claim together.claim all;
        sets = each_at (IsSheetSet sheet) r.sets (subst (AllByRecursion (IsSheetSet sheet)) (sym together.sets) (sets_of total 1 ls all));
        uses = each_at (λ p. IsEntryOf sheet.universe p.1) r.uses (subst (λ ps. AllByRecursion (λ p. IsEntryOf sheet.universe p.1) ps) (sym together.uses) (uses_of total 1 (in_front ls) own));
        values = each_at (λ p. IsEntryOf sheet.universe p.1) r.values (subst (λ ps. AllByRecursion (λ p. IsEntryOf sheet.universe p.1) ps) (sym together.values) (values_of total 1 (in_front ls) own));
        parts = each_at (λ p. IsPartOverSheet sheet total p.1) r.parts (subst (λ ps. AllByRecursion (λ p. IsPartOverSheet sheet total p.1) ps) (sym together.parts) (parts_of total 1 ls all));
      }

  by_text : (text : List ℕ) (r : CertificateReading) → IsTextReading sheet text (certificate r) → SpeaksOf sheet r
  by_text text r (whole ls all closed together) = speaks r _ ls all together

pub what_is_read_speaks : CellsAreNumberedInOrder → WhatIsReadSpeaksOfTheSheet
what_is_read_speaks ordered sheet text r is = by_text sheet ordered text r is
