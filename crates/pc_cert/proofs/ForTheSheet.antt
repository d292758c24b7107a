-- What is read for a sheet is of that sheet.
use Rattle.std.proofs.Common.{◌≡◌, ℕ, ◌+◌, ◌<◌, ◌≤◌, List, [], ◌∷◌, ◌++◌, length, map, Some, Ok, arith, refl, sym, ◌∙◌, subst, inl, inr}
use Rattle.std.specs.List.{AllByRecursion}
use Rattle.std.specs.Str.Lines.{lines}
use Rattle.std.proofs.lemmas.Option.{same_Some}
use Rattle.pc_sheet.specs.Sheet.{Sheet}
use Rattle.pc_sheet.specs.Entailment.{cell_sizes}
use Rattle.pc_sheet.specs.Cells.{CellsAreNumberedInOrder}
use Rattle.pc_sheet.specs.WellFormed.{IsEntryOf}
use Rattle.pc_accept.specs.Literals.{Symbol}
use Rattle.pc_accept.specs.Axioms.{Axiom, axiom_some, axiom_one, axiom_rule, axiom_node, axiom_atom}
use Rattle.pc_accept.specs.Accepts as accepts
use Rattle.pc_axiom_names.specs.declared.axiom_name.AxiomName.{AxiomName}
use Rattle.pc_axiom_names.specs.declared.axiom_name.AxiomName.TheVariants as name
use Rattle.pc_axiom_names.specs.Views.{axiom_of}
use Rattle.pc_cert.specs.declared.cert.Cert.{Cert}
use Rattle.pc_cert.specs.declared.cert.CertLine.{CertLine}
use Rattle.pc_cert.specs.declared.cert.SaidSet.{SaidSet}
use Rattle.pc_cert.specs.declared.cert.CertPart.{CertPart}
use Rattle.pc_cert.specs.declared.cert.CertPart.TheVariants as part
use Rattle.pc_cert.specs.Written.{nothing, heading, claims, begins, uses, assigns, derives, ends, WrittenLine, WrittenPart, written_some, written_one, written_atom, CertificatePart, taken, derived, blocked, SaidLine}
use Rattle.pc_cert.specs.Claims.{WrittenClaim, written_against, IsClaimNamed}
use Rattle.pc_cert.specs.Order.{LineKind, kind_of, sets_in}
use Rattle.pc_cert.specs.Meaning.{IsAxiomNamed, IsPartNamed, IsSaidLine}
use Rattle.pc_cert.specs.Text.{SetReading, CertificateReading, certificate, IsTextReading, whole, AllSay, SayTogether, in_front, sets_from, uses_from, values_from, parts_from, claim_in}
use Rattle.pc_cert.specs.Views.{IsCertTold, symbols_of, reading_of, said_of, set_of, part_of, numbered_part_of, place_of, places_in, places_of, AppearInOrder, AreInFirstOrder}
use Rattle.pc_cert.specs.ReadFor.{IsSaidOf, IsNamedIn, IsOverSheet, IsPartOver, IsSetSaidOf, IsBare, IsReadFor}
use Rattle.pc_cert.proofs.ReadEntries.{each_at, each_image, cell_below, is_an_entry, entry_named, entries_named}
use Rattle.pc_cert.proofs.ReadStanding.{no_sets_beside, bare_beside}
use Rattle.pc_cert.proofs.Speaks.{rule_within}

-- ---- places of literals

module _ (P : ℕ → Type 0) where
  front_all : (xs ys : List ℕ) → AllByRecursion P (xs ++ ys) → AllByRecursion P xs
  front_all [] ys all = tt
  front_all (x ∷ xs) ys all = (all.0, front_all xs ys all.1)

  back_all : (xs ys : List ℕ) → AllByRecursion P (xs ++ ys) → AllByRecursion P ys
  back_all [] ys all = all
  back_all (x ∷ xs) ys all = back_all xs ys all.1

-- no place is past the symbols
record AreBelow (n : ℕ) (ks : List ℕ) (all : ℕ) : Type 0 where
  first : n ≤ all
  each : AllByRecursion (λ k. k < all) ks

appear_below : (n : ℕ) (ks : List ℕ) (all : ℕ) → AppearInOrder n ks all → AreBelow n ks all
appear_below n [] all is = record { first = omega (arith, is); each = tt }
appear_below n (k ∷ ks) all (inl is) =
    let rest = appear_below n ks all is.1 in
    let low = rest.first in
    let here = is.0 in
    record { first = low; each = (omega (arith, low, here), rest.each) }
appear_below n (k ∷ ks) all (inr is) =
    let rest = appear_below (n + 1) ks all is.1 in
    let low = rest.first in
    let here = is.0 in
    record { first = omega (arith, low); each = (omega (arith, low, here), rest.each) }

module _ (sheet : Sheet) where
  -- ---- what a line says

  abbrev IsAxiomOver : Axiom → Type 0
  IsAxiomOver (axiom_some c) = c.0 < length (cell_sizes sheet.universe)
  IsAxiomOver (axiom_one c v w) = IsEntryOf sheet.universe (record { cell = c; value = v }) × IsEntryOf sheet.universe (record { cell = c; value = w })
  IsAxiomOver (axiom_rule r) = Unit {0}
  IsAxiomOver (axiom_node r p i) = Unit {0}
  IsAxiomOver (axiom_atom r p es) = AllByRecursion (IsEntryOf sheet.universe) es

  abbrev IsSaidPartOver : CertificatePart → Type 0
  IsSaidPartOver (taken a) = IsAxiomOver a
  IsSaidPartOver (derived ls hints) = Unit {0}
  IsSaidPartOver (blocked j) = Unit {0}

  abbrev IsClaimOver : accepts.Claim → Type 0
  IsClaimOver (accepts.against r) = r < length sheet.rules
  IsClaimOver c = Unit {0}

  abbrev IsLineOver : SaidLine → Type 0
  IsLineOver (claims c) = IsClaimOver c
  IsLineOver (uses e) = IsEntryOf sheet.universe e
  IsLineOver (assigns e) = IsEntryOf sheet.universe e
  IsLineOver (derives n p) = IsSaidPartOver p
  IsLineOver l = Unit {0}

  -- ---- the lists

  uses_over : (n : ℕ) (ls : List SaidLine) → AllByRecursion IsLineOver ls → AllByRecursion (λ p. IsEntryOf sheet.universe p.1) (uses_from n ls)
  uses_over n [] all = tt
  uses_over n (uses e ∷ ls) all = (all.0, uses_over (n + 1) ls all.1)
  uses_over n (l ∷ ls) all = uses_over (n + 1) ls all.1

  values_over : (n : ℕ) (ls : List SaidLine) → AllByRecursion IsLineOver ls → AllByRecursion (λ p. IsEntryOf sheet.universe p.1) (values_from n ls)
  values_over n [] all = tt
  values_over n (assigns e ∷ ls) all = (all.0, values_over (n + 1) ls all.1)
  values_over n (l ∷ ls) all = values_over (n + 1) ls all.1

  front_over : (ls : List SaidLine) → AllByRecursion IsLineOver ls → AllByRecursion IsLineOver (in_front ls)
  front_over [] all = tt
  front_over (begins ∷ ls) all = tt
  front_over (l ∷ ls) all = (all.0, front_over ls all.1)

  abbrev IsSetOver : SetReading → Type 0
  IsSetOver s = AllByRecursion (λ p. IsEntryOf sheet.universe p.1) s.uses × AllByRecursion (λ p. IsEntryOf sheet.universe p.1) s.values

  sets_over : (n : ℕ) (ls : List SaidLine) → AllByRecursion IsLineOver ls → AllByRecursion IsSetOver (sets_from n ls)
  sets_over n [] all = tt
  sets_over n (begins ∷ ls) all = let own = front_over ls all.1 in ((uses_over (n + 1) (in_front ls) own, values_over (n + 1) (in_front ls) own), sets_over (n + 1) ls all.1)
  sets_over n (l ∷ ls) all = sets_over (n + 1) ls all.1

  claim_over : (ls : List SaidLine) (c : accepts.Claim) → claim_in ls ≡ Some c → AllByRecursion IsLineOver ls → IsClaimOver c
  claim_over [] c is all = absurd (cc)
  claim_over (claims d ∷ ls) c is all = subst IsClaimOver (same_Some d c is) all.0
  claim_over (l ∷ ls) c is all = claim_over ls c is all.1

  parts_over : (n : ℕ) (ls : List SaidLine) → AllByRecursion IsLineOver ls → AllByRecursion (λ p. IsSaidPartOver p.1) (parts_from n ls)
  parts_over n [] all = tt
  parts_over n (derives k p ∷ ls) all = (all.0, parts_over (n + 1) ls all.1)
  parts_over n (l ∷ ls) all = parts_over (n + 1) ls all.1

  -- ---- the certificate

  axiom_over : (a : AxiomName) → IsAxiomOver (axiom_of a) → IsOverSheet sheet a
  axiom_over (name.Any c) is = is
  axiom_over (name.One c v w) is = is
  axiom_over (name.Rule r) is = tt
  axiom_over (name.Node p i) is = tt
  axiom_over (name.Atom p reads) is = each_at (IsEntryOf sheet.universe) reads.items is

  sets_said : (ss : List SaidSet) → AllByRecursion IsSetOver (map set_of ss) → AllByRecursion (IsSetSaidOf sheet) ss
  sets_said [] all = tt
  sets_said (s ∷ ss) all = (
    record {
      uses = each_at (IsSaidOf sheet) s.uses.items (each_image said_of (λ p. IsEntryOf sheet.universe p.1) s.uses.items all.0.0);
      values = each_at (IsSaidOf sheet) s.values.items (each_image said_of (λ p. IsEntryOf sheet.universe p.1) s.values.items all.0.1);
    },
    sets_said ss all.1,
  )

  module _ (symbols : List Symbol) where
    abbrev IsBelow : ℕ → Type 0
    IsBelow k = k < length symbols

    part_over : (p : CertPart) → IsSaidPartOver (part_of symbols p) → AllByRecursion IsBelow (places_in p) → IsPartOver sheet symbols p
    part_over (part.Axiom a) is below = axiom_over a is
    part_over (part.Block j) is below = tt
    part_over (part.Step clause hints) is below = each_at (IsNamedIn symbols) clause.items (each_image place_of IsBelow clause.items below)

    lines_over : (ls : List CertLine) → AllByRecursion (λ p. IsSaidPartOver p.1) (map (numbered_part_of symbols) ls) → AllByRecursion IsBelow (places_of ls) → AllByRecursion (λ l. IsPartOver sheet symbols l.part) ls
    lines_over [] all below = tt
    lines_over (l ∷ ls) all below = (part_over l.part all.0 (front_all IsBelow (places_in l.part) (places_of ls) below), lines_over ls all.1 (back_all IsBelow (places_in l.part) (places_of ls) below))

  bare_for : (r : CertificateReading) (ls : List SaidLine) (lines : List (List ℕ)) (c : accepts.Claim) → AllSay sheet [] lines ls → AllByRecursion IsLineOver ls → claim_in ls ≡ Some c → SayTogether ls r → IsBare sheet r c
  bare_for r ls lines (accepts.implied t) all over claimed together = together.sets ∙ no_sets_beside (accepts.implied t) refl sheet lines ls 1 all claimed
  bare_for r ls lines accepts.inconsistent all over claimed together =
      let none = bare_beside accepts.inconsistent refl sheet lines ls 1 all claimed in
      (together.sets ∙ no_sets_beside accepts.inconsistent refl sheet lines ls 1 all claimed, (together.uses ∙ none.0, together.values ∙ none.1))
  bare_for r ls lines accepts.repairs all over claimed together =
      let none = bare_beside accepts.repairs refl sheet lines ls 1 all claimed in
      (together.uses ∙ none.0, together.values ∙ none.1)
  bare_for r ls lines (accepts.unimplied t) all over claimed together =
      let none = bare_beside (accepts.unimplied t) refl sheet lines ls 1 all claimed in
      (together.uses ∙ none.0, together.values ∙ none.1)
  bare_for r ls lines (accepts.against k) all over claimed together =
      (together.sets ∙ no_sets_beside (accepts.against k) refl sheet lines ls 1 all claimed, claim_over ls (accepts.against k) claimed over)

  module _ (ordered : CellsAreNumberedInOrder) where
    taken_over : (w : WrittenPart) (a : Axiom) → IsAxiomNamed sheet w a → IsAxiomOver a
    taken_over (written_some c) (axiom_some id) is = cell_below sheet.universe ordered c id is
    taken_over (written_one c v w) (axiom_one id first second) is = (
      is_an_entry sheet.universe ordered c v is.sort (record { cell = id; value = first }) is.cell is.first_value,
      is_an_entry sheet.universe ordered c w is.sort (record { cell = id; value = second }) is.cell is.second_value,
    )
    taken_over w (axiom_rule r) is = tt
    taken_over w (axiom_node r p i) is = tt
    taken_over (written_atom p reads) (axiom_atom r steps es) is = entries_named sheet.universe ordered reads es is.1
    taken_over w a is = absurd is

    said_part_over : (sets : ℕ) (w : WrittenPart) (p : CertificatePart) → IsPartNamed sheet sets w p → IsSaidPartOver p
    said_part_over sets w (taken a) is = taken_over w a is
    said_part_over sets w (derived clause hints) is = tt
    said_part_over sets w (blocked j) is = tt

    said_claim_over : (w : WrittenClaim) (c : accepts.Claim) → IsClaimNamed sheet w c → IsClaimOver c
    said_claim_over (written_against n) (accepts.against r) is = rule_within sheet.rules n r is
    said_claim_over w (accepts.against r) is = absurd is
    said_claim_over w c is = tt

    line_over : (sets : ℕ) (f : WrittenLine) (l : SaidLine) → IsSaidLine sheet sets f l → IsLineOver l
    line_over sets f nothing is = tt
    line_over sets f heading is = tt
    line_over sets f begins is = tt
    line_over sets f ends is = tt
    line_over sets (claims w) (claims c) is = said_claim_over w c is
    line_over sets (uses p) (uses e) is = entry_named sheet.universe ordered p e is
    line_over sets (assigns p) (assigns e) is = entry_named sheet.universe ordered p e is
    line_over sets (derives n w) (derives m p) is = said_part_over sets w p is.1
    line_over sets f l is = absurd is

    all_over : (before : List LineKind) (lines : List (List ℕ)) (ls : List SaidLine) → AllSay sheet before lines ls → AllByRecursion IsLineOver ls
    all_over before [] [] all = tt
    all_over before [] (l ∷ ls) all = absurd all
    all_over before (line ∷ lines) [] all = tt
    all_over before (line ∷ lines) (l ∷ ls) all = (line_over (sets_in before) all.0.form l all.0.named, all_over (before ++ kind_of l ∷ []) lines ls all.1)

    read_for : (c : Cert) (lines : List (List ℕ)) (ls : List SaidLine) → AllSay sheet [] lines ls → SayTogether ls (reading_of c) → AreInFirstOrder (symbols_of c) (places_of c.lines.items) → IsReadFor sheet c
    read_for c lines ls all together numbered =
        let over = all_over [] lines ls all in
        let own = front_over ls over in
        let sets = subst (AllByRecursion IsSetOver) (sym together.sets) (sets_over 1 ls over) in
        let used = subst (λ ps. AllByRecursion (λ p. IsEntryOf sheet.universe p.1) ps) (sym together.uses) (uses_over 1 (in_front ls) own) in
        let valued = subst (λ ps. AllByRecursion (λ p. IsEntryOf sheet.universe p.1) ps) (sym together.values) (values_over 1 (in_front ls) own) in
        let said = subst (λ ps. AllByRecursion (λ p. IsSaidPartOver p.1) ps) (sym together.parts) (parts_over 1 ls over) in
        let below = appear_below 0 (places_of c.lines.items) (length (symbols_of c)) numbered.appear in
        record {
          sets = each_at (IsSetSaidOf sheet) c.sets.items (sets_said c.sets.items sets);
          uses = each_at (IsSaidOf sheet) c.uses.items (each_image said_of (λ p. IsEntryOf sheet.universe p.1) c.uses.items used);
          values = each_at (IsSaidOf sheet) c.values.items (each_image said_of (λ p. IsEntryOf sheet.universe p.1) c.values.items valued);
          distinct = numbered.different;
          parts = each_at (λ l. IsPartOver sheet (symbols_of c) l.part) c.lines.items (lines_over (symbols_of c) c.lines.items said below.each);
          bare = bare_for (reading_of c) ls lines (reading_of c).claim all over together.claim together;
        }

    by_text : (text : List ℕ) (c : Cert) → IsTextReading sheet text (certificate (reading_of c)) → AreInFirstOrder (symbols_of c) (places_of c.lines.items) → IsReadFor sheet c
    by_text text c (whole ls all closed together) numbered = read_for c _ ls all together numbered

pub what_is_read : CellsAreNumberedInOrder → (sheet : Sheet) (text : List ℕ) (c : Cert) → IsCertTold sheet text (Ok c) → IsReadFor sheet c
what_is_read ordered sheet text c told = by_text sheet ordered text c told.0 told.1

pub bare_text : CellsAreNumberedInOrder → (sheet : Sheet) (text : List ℕ) (r : CertificateReading) → IsTextReading sheet text (certificate r) → IsBare sheet r r.claim
bare_text ordered sheet text r (whole ls all closed together) = bare_for sheet r ls _ r.claim all (all_over sheet ordered [] (lines text) ls all) together.claim together
