-- Lines that are added to what was read.
use Rattle.std.proofs.Common.{◌≡◌, ◌↔◌, ℕ, suc, ◌+◌, ◌<◌, inl, inr, Bool, true, false, Result, Ok, Err, IfOk, MatchBool, Option, Some, None, List, [], ◌∷◌, ◌++◌, map, length, if◌then◌else◌, ◌≤◌, ◌==◌, append_assoc, refl, ap, ap₂, sym, ◌∙◌, subst, arith}
use Rattle.std.specs.Option.{option_map, option_or}
use Rattle.std.proofs.lemmas.List.{map-append, append-nil}
use Rattle.std.specs.Prelude.{Vec, vec_len}
use Rattle.std.specs.declared.alloc.Global.{Global}
use Rattle.pc_cert.specs.declared.cert.Said.{Said}
use Rattle.pc_cert.specs.declared.cert.SaidSet.{SaidSet}
use Rattle.pc_sheet.specs.Sheet.{Sheet}
use Rattle.pc_sheet.specs.declared.ids.Entry.{Entry}
use Rattle.pc_accept.specs.Literals.{Symbol}
use Rattle.pc_accept.specs.Accepts as accepts
use Rattle.pc_cert.specs.Written.{nothing, heading, claims, begins, uses, assigns, derives, ends, WrittenPart, CertificatePart, derived, SaidLine}
use Rattle.pc_cert.specs.Claims.{WrittenPair, WrittenClaim, IsPairNamed, IsClaimNamed}
use Rattle.pc_cert.specs.Meaning.{IsPartNamed, IsSaidLine}
use Rattle.pc_cert.specs.Order.{kind_of, sets_in}
use Rattle.pc_cert.specs.Text.{SetReading, claim_in, sets_from, uses_from, values_from, has_claim_or_entry, after_from, parts_from}
use Rattle.pc_cert.specs.Views.{claim_of, set_of, said_of, literal_of, place_of, part_of, numbered_part_of, places_in, places_of, AppearInOrder}
use Rattle.pc_cert.specs.Numbered.{StartsWith, AreSymbolNumbers, IsPartTaken}
use Rattle.pc_cert.specs.Gathered.{IsGathered, IsSaidNext, AddsLine}
use Rattle.pc_cert.specs.declared.cert.Claim.{Claim}
use Rattle.pc_cert.specs.declared.cert.CertLine.{CertLine}
use Rattle.pc_cert.specs.declared.cert.CertPart.{CertPart}
use Rattle.pc_cert.specs.declared.cert.CertPart.TheVariants.{Axiom, Step, Block}
use Rattle.pc_cert.specs.declared.draft.Draft.{Draft}
use Rattle.pc_cert.specs.declared.table.Table.{Table}
use Rattle.pc_lits.specs.declared.literal.Lit.{Lit}
use Rattle.pc_cert.proofs.Numbered.{appear_on, literal_still}
use Rattle.pc_cert.proofs.Words.{false_no_true}
use Rattle.pc_cert.proofs.Ordered.{numbers_equal}
use Rattle.pc_cert.proofs.Grown.{uses_on, values_on, parts_on, after_on, claim_on, BeginsNone, Quiet, plain_claim, plain_use, plain_value, set_over, made, grown, fresh, within, begun, sets_counted, quiet_grown, none_or_last, no_last}

or_none : {A : Type 0} (o : Option A) → option_or o None ≡ o
or_none None = refl
or_none (Some x) = refl

mapped_or : {A B : Type 0} (f : A → B) (o q : Option A) → option_map f (option_or o q) ≡ option_or (option_map f o) (option_map f q)
mapped_or f None q = refl
mapped_or f (Some x) q = refl

pushed : {A B : Type 0} (f : A → B) (xs : List A) (x : A) (now : List A) → now ≡ xs ++ x ∷ [] → map f now ≡ map f xs ++ f x ∷ []
pushed f xs x now e = ap (map f) e ∙ map-append f xs (x ∷ [])

nothing_more : {A : Type 0} (xs : List A) → xs ≡ xs ++ []
nothing_more xs = sym (append-nil xs)

-- how many sets began is how many were gathered
pub gathered_sets : (ls : List SaidLine) (d : Draft) (n : ℕ) → IsGathered ls d → n ≡ vec_len d.sets → n ≡ sets_in (map kind_of ls)
gathered_sets ls d n g is = is ∙ d.sets.ok.0 ∙ lengths d.sets.items ∙ ap length g.sets ∙ sets_counted 1 ls
  where
    lengths : (xs : List SaidSet) → length xs ≡ length (map set_of xs)
    lengths [] = refl
    lengths (x ∷ xs) = ap suc (lengths xs)

-- ---- one line more

module _ (ls : List SaidLine) (old new : Draft) (number : ℕ) (g : IsGathered ls old) (at : number ≡ length ls + 1) (l : SaidLine) where
  here : 1 + length ls ≡ number
  here = omega (arith, at)

  -- what every line may change
  record Changes : Type 0 where
    claim : option_map claim_of new.claim ≡ option_or (option_map claim_of old.claim) (claim_in (l ∷ []))
    parts : map (numbered_part_of new.table.names) new.lines.items ≡ map (numbered_part_of old.table.names) old.lines.items ++ parts_from number (l ∷ [])
    appear : AppearInOrder 0 (places_of new.lines.items) (length new.table.names)
    kept : AreSymbolNumbers new.table

  claimed_on : Changes → option_map claim_of new.claim ≡ claim_in (ls ++ l ∷ [])
  claimed_on c = c.claim ∙ ap (λ o. option_or o (claim_in (l ∷ []))) g.claim ∙ sym (claim_on ls l)

  parted_on : Changes → map (numbered_part_of new.table.names) new.lines.items ≡ parts_from 1 (ls ++ l ∷ [])
  parted_on c = c.parts ∙ ap (λ xs. xs ++ parts_from number (l ∷ [])) g.parts ∙ ap (λ n. parts_from 1 ls ++ parts_from n (l ∷ [])) (sym here) ∙ sym (parts_on 1 ls l)

  -- where no set began
  gathered_own : BeginsNone l → Changes → sets_from 1 ls ≡ [] → map set_of new.sets.items ≡ [] → map said_of new.uses.items ≡ map said_of old.uses.items ++ uses_from number (l ∷ [])
      → map said_of new.values.items ≡ map said_of old.values.items ++ values_from number (l ∷ []) → new.after ≡ (if has_claim_or_entry l then number + 1 else old.after) → IsGathered (ls ++ l ∷ []) new
  gathered_own plain c none sets used valued after =
      let f = fresh l plain 1 ls none in
      record {
        claim = claimed_on c;
        sets = sets ∙ sym f.2;
        uses = used ∙ ap (λ xs. xs ++ uses_from number (l ∷ [])) (g.uses ∙ ap (uses_from 1) f.0) ∙ ap (λ n. uses_from 1 ls ++ uses_from n (l ∷ [])) (sym here) ∙ sym (uses_on 1 ls l) ∙ ap (uses_from 1) (sym f.1);
        values = valued ∙ ap (λ xs. xs ++ values_from number (l ∷ [])) (g.values ∙ ap (values_from 1) f.0) ∙ ap (λ n. values_from 1 ls ++ values_from n (l ∷ [])) (sym here) ∙ sym (values_on 1 ls l) ∙ ap (values_from 1) (sym f.1);
        after = after ∙ ap (λ a. if has_claim_or_entry l then number + 1 else a) (g.after ∙ ap (after_from has_claim_or_entry 1 0) f.0)
            ∙ ap (λ n. if has_claim_or_entry l then n + 1 else after_from has_claim_or_entry 1 0 ls) (sym here) ∙ sym (after_on has_claim_or_entry 1 0 ls l) ∙ ap (after_from has_claim_or_entry 1 0) (sym f.1);
        parts = parted_on c;
        appear = c.appear;
        kept = c.kept;
      }

  -- the same of what is said in front of the sets
  record SameOwn : Type 0 where
    uses : map said_of new.uses.items ≡ map said_of old.uses.items
    values : map said_of new.values.items ≡ map said_of old.values.items
    after : new.after ≡ old.after

  -- where the last set goes on
  gathered_set : BeginsNone l → Changes → (ss : List SetReading) (s : SetReading) → sets_from 1 ls ≡ ss ++ s ∷ [] → map set_of new.sets.items ≡ ss ++ grown number l s ∷ [] → SameOwn → IsGathered (ls ++ l ∷ []) new
  gathered_set plain c ss s last sets own =
      let w = within l plain 1 ls ss s last in
      record {
        claim = claimed_on c;
        sets = sets ∙ ap (λ n. ss ++ grown n l s ∷ []) (sym here) ∙ sym w.0;
        uses = own.uses ∙ g.uses ∙ ap (uses_from 1) (sym w.1);
        values = own.values ∙ g.values ∙ ap (values_from 1) (sym w.1);
        after = own.after ∙ g.after ∙ ap (after_from has_claim_or_entry 1 0) (sym w.1);
        parts = parted_on c;
        appear = c.appear;
        kept = c.kept;
      }

  -- where the line says nothing of entries
  gathered_quiet : Quiet l → Changes → map set_of new.sets.items ≡ map set_of old.sets.items → map said_of new.uses.items ≡ map said_of old.uses.items → map said_of new.values.items ≡ map said_of old.values.items
      → (sets_from 1 ls ≡ [] → new.after ≡ (if has_claim_or_entry l then number + 1 else old.after)) → ((ss : List SetReading) (s : SetReading) → sets_from 1 ls ≡ ss ++ s ∷ [] → new.after ≡ old.after) → IsGathered (ls ++ l ∷ []) new
  gathered_quiet q c sets used valued first later = elim (none_or_last (sets_from 1 ls)) [
    | inl none ↦
        gathered_own q.plain c none (sets ∙ g.sets ∙ none) (used ∙ nothing_more _ ∙ ap (λ xs. map said_of old.uses.items ++ xs) (sym (q.uses number)))
        (valued ∙ nothing_more _ ∙ ap (λ xs. map said_of old.values.items ++ xs) (sym (q.values number))) (first none)
    | inr last ↦
        gathered_set q.plain c last.0 last.1 last.2 (sets ∙ g.sets ∙ last.2 ∙ ap (λ s. last.0 ++ s ∷ []) (sym (quiet_grown l q number last.1)))
        (record { uses = used; values = valued; after = later last.0 last.1 last.2 })
  ]

same_claim : (d : Draft) → option_map claim_of d.claim ≡ option_or (option_map claim_of d.claim) None
same_claim d = sym (or_none (option_map claim_of d.claim))

-- ---- lines that say nothing

quiet_nothing : Quiet nothing
quiet_nothing = record { plain = record { front = λ ls. refl; sets = λ n ls. refl; kind = refl }; uses = λ n. refl; values = λ n. refl; entry = refl }

quiet_heading : Quiet heading
quiet_heading = record { plain = record { front = λ ls. refl; sets = λ n ls. refl; kind = refl }; uses = λ n. refl; values = λ n. refl; entry = refl }

quiet_ends : Quiet ends
quiet_ends = record { plain = record { front = λ ls. refl; sets = λ n ls. refl; kind = refl }; uses = λ n. refl; values = λ n. refl; entry = refl }

quiet_part : (n : ℕ) (p : CertificatePart) → Quiet (derives n p)
quiet_part k p = record { plain = record { front = λ ls. refl; sets = λ n ls. refl; kind = refl }; uses = λ n. refl; values = λ n. refl; entry = refl }

module _ (sheet : Sheet) (ls : List SaidLine) (d : Draft) (number : ℕ) (g : IsGathered ls d) (at : number ≡ length ls + 1) where
  unchanged : (l : SaidLine) → claim_in (l ∷ []) ≡ None → parts_from number (l ∷ []) ≡ [] → Changes ls d d number g at l
  unchanged l claim parts = record { claim = same_claim d ∙ ap (option_or (option_map claim_of d.claim)) (sym claim); parts = nothing_more _ ∙ ap (λ xs. map (numbered_part_of d.table.names) d.lines.items ++ xs) (sym parts); appear = g.appear; kept = g.kept }

  adds : (l : SaidLine) → Quiet l → claim_in (l ∷ []) ≡ None → parts_from number (l ∷ []) ≡ [] → has_claim_or_entry l ≡ false → IsGathered (ls ++ l ∷ []) d
  adds l q claim parts none = gathered_quiet ls d d number g at l q (unchanged l claim parts) refl refl refl (λ e. ap (λ (b : Bool). if b then number + 1 else d.after) (sym none)) (λ ss s e. refl)

  pub adds_nothing : AddsLine sheet nothing ls d
  adds_nothing = record { line = nothing; named = tt; gathered = adds nothing quiet_nothing refl refl refl }

  pub adds_heading : AddsLine sheet heading ls d
  adds_heading = record { line = heading; named = tt; gathered = adds heading quiet_heading refl refl refl }

  pub adds_ends : AddsLine sheet ends ls d
  adds_ends = record { line = ends; named = tt; gathered = adds ends quiet_ends refl refl refl }

  pub adds_begins : IsGathered (ls ++ begins ∷ []) d → AddsLine sheet begins ls d
  adds_begins gathered = record { line = begins; named = tt; gathered = gathered }

-- ---- claims

module _ (sheet : Sheet) (w : WrittenClaim) (ls : List SaidLine) (old : Draft) (number : ℕ) where
  pub claim_adds : IsGathered ls old → number ≡ length ls + 1 → (c : Claim) → ((x : accepts.Claim) → (Some (claim_of c) ≡ Some x) ↔ IsClaimNamed sheet w x) → (claim : Option Claim) → claim ≡ option_or old.claim (Some c) → (after : ℕ)
      → (old.sets.items ≡ [] → after ≡ number + 1) → ((old.sets.items ≡ [] → ⊥) → after ≡ old.after)
      → AddsLine sheet (claims w) ls (record { claim = claim; sets = old.sets; uses = old.uses; values = old.values; after = after; table = old.table; lines = old.lines })
  claim_adds g at c exact claim same after first later =
      let new : Draft = record { claim = claim; sets = old.sets; uses = old.uses; values = old.values; after = after; table = old.table; lines = old.lines } in
      let l : SaidLine = claims (claim_of c) in
      let quiet : Quiet l = record { plain = plain_claim (claim_of c); uses = λ n. refl; values = λ n. refl; entry = refl } in
      let changes : Changes ls old new number g at l = record { claim = ap (option_map claim_of) same ∙ mapped_or claim_of old.claim (Some c); parts = nothing_more _; appear = g.appear; kept = g.kept } in
      record { line = l; named = (exact (claim_of c)).0 refl; gathered = gathered_quiet ls old new number g at l quiet changes refl refl refl (λ none. first (empty old.sets.items (g.sets ∙ none))) (λ ss s last. later (λ none. no_last ss s (sym (ap (map set_of) none) ∙ g.sets ∙ last))) }
    where
      empty : (xs : List SaidSet) → map set_of xs ≡ [] → xs ≡ []
      empty [] e = refl
      empty (x ∷ xs) e = absurd (cc)

-- ---- sets

pub set_more : (ls : List SaidLine) (old : Draft) (number : ℕ) → IsGathered ls old → number ≡ length ls + 1 → (set : SaidSet) (more : Vec SaidSet Global) → set_of set ≡ set_over number [] → more.items ≡ old.sets.items ++ set ∷ []
    → IsGathered (ls ++ begins ∷ []) (record { claim = old.claim; sets = more; uses = old.uses; values = old.values; after = old.after; table = old.table; lines = old.lines })
set_more ls old number g at set more is pushed_on =
    let new : Draft = record { claim = old.claim; sets = more; uses = old.uses; values = old.values; after = old.after; table = old.table; lines = old.lines } in
    let b = begun 1 ls in
    let changes : Changes ls old new number g at begins = record { claim = same_claim old; parts = nothing_more _; appear = g.appear; kept = g.kept } in
    record {
      claim = claimed_on ls old new number g at begins changes;
      sets = pushed set_of old.sets.items set more.items pushed_on ∙ ap₂ (λ xs x. xs ++ x ∷ []) g.sets (is ∙ ap (λ n. set_over n []) (let e : number ≡ 1 + length ls = omega (arith, at) in e)) ∙ sym b.0;
      uses = g.uses ∙ ap (uses_from 1) (sym b.1);
      values = g.values ∙ ap (values_from 1) (sym b.1);
      after = g.after ∙ ap (after_from has_claim_or_entry 1 0) (sym b.1);
      parts = parted_on ls old new number g at begins changes;
      appear = g.appear;
      kept = g.kept;
    }

-- ---- entries

module _ (sheet : Sheet) (p : WrittenPair) (ls : List SaidLine) (old : Draft) (number : ℕ) where
  -- in front of the sets
  module _ (sets : Vec SaidSet Global) (more : Vec Said Global) where
    pub use_adds : IsGathered ls old → number ≡ length ls + 1 → old.sets.items ≡ [] → sets.items ≡ [] → IsSaidNext sheet.universe p number old.uses.items more.items
        → AddsLine sheet (uses p) ls (record { claim = old.claim; sets = sets; uses = more; values = old.values; after = number + 1; table = old.table; lines = old.lines })
    use_adds g at none still next =
        let new : Draft = record { claim = old.claim; sets = sets; uses = more; values = old.values; after = number + 1; table = old.table; lines = old.lines } in
        let l : SaidLine = uses next.entry in
        let changes : Changes ls old new number g at l = record { claim = same_claim old; parts = nothing_more _; appear = g.appear; kept = g.kept } in
        record { line = l; named = next.named; gathered = gathered_own ls old new number g at l (plain_use next.entry) changes (sym g.sets ∙ ap (map set_of) none) (ap (map set_of) still) (pushed said_of old.uses.items (record { line = number; entry = next.entry }) more.items next.pushed) (nothing_more _) refl }

    pub value_adds : IsGathered ls old → number ≡ length ls + 1 → old.sets.items ≡ [] → sets.items ≡ [] → IsSaidNext sheet.universe p number old.values.items more.items
        → AddsLine sheet (assigns p) ls (record { claim = old.claim; sets = sets; uses = old.uses; values = more; after = number + 1; table = old.table; lines = old.lines })
    value_adds g at none still next =
        let new : Draft = record { claim = old.claim; sets = sets; uses = old.uses; values = more; after = number + 1; table = old.table; lines = old.lines } in
        let l : SaidLine = assigns next.entry in
        let changes : Changes ls old new number g at l = record { claim = same_claim old; parts = nothing_more _; appear = g.appear; kept = g.kept } in
        record { line = l; named = next.named; gathered = gathered_own ls old new number g at l (plain_value next.entry) changes (sym g.sets ∙ ap (map set_of) none) (ap (map set_of) still) (nothing_more _) (pushed said_of old.values.items (record { line = number; entry = next.entry }) more.items next.pushed) refl }

  -- in the last set
  module _ (g : IsGathered ls old) (at : number ≡ length ls + 1) (front : List SaidSet) (s : SaidSet) (last : old.sets.items ≡ front ++ s ∷ []) (more : Vec Said Global) (sets : Vec SaidSet Global) where
    last_read : sets_from 1 ls ≡ map set_of front ++ set_of s ∷ []
    last_read = sym g.sets ∙ pushed set_of front s old.sets.items last

    abbrev with_sets : Draft
    with_sets = record { claim = old.claim; sets = sets; uses = old.uses; values = old.values; after = old.after; table = old.table; lines = old.lines }

    pub use_in_set : IsSaidNext sheet.universe p number s.uses.items more.items → sets.items ≡ front ++ (record { line = s.line; uses = more; values = s.values; after = number + 1 }) ∷ [] → AddsLine sheet (uses p) ls with_sets
    use_in_set next put =
        let l : SaidLine = uses next.entry in
        let changes : Changes ls old with_sets number g at l = record { claim = same_claim old; parts = nothing_more _; appear = g.appear; kept = g.kept } in
        let now : SaidSet = record { line = s.line; uses = more; values = s.values; after = number + 1 } in
        let grows : set_of now ≡ grown number l (set_of s) =
        ap₂ (λ us vs. made s.line us vs (number + 1)) (pushed said_of s.uses.items (record { line = number; entry = next.entry }) more.items next.pushed) (nothing_more (map said_of s.values.items))
        in
        record { line = l; named = next.named; gathered = gathered_set ls old with_sets number g at l (plain_use next.entry) changes (map set_of front) (set_of s) last_read (pushed set_of front now sets.items put ∙ ap (λ x. map set_of front ++ x ∷ []) grows) (record { uses = refl; values = refl; after = refl }) }

    pub value_in_set : IsSaidNext sheet.universe p number s.values.items more.items → sets.items ≡ front ++ (record { line = s.line; uses = s.uses; values = more; after = number + 1 }) ∷ [] → AddsLine sheet (assigns p) ls with_sets
    value_in_set next put =
        let l : SaidLine = assigns next.entry in
        let changes : Changes ls old with_sets number g at l = record { claim = same_claim old; parts = nothing_more _; appear = g.appear; kept = g.kept } in
        let now : SaidSet = record { line = s.line; uses = s.uses; values = more; after = number + 1 } in
        let grows : set_of now ≡ grown number l (set_of s) =
        ap₂ (λ us vs. made s.line us vs (number + 1)) (nothing_more (map said_of s.uses.items)) (pushed said_of s.values.items (record { line = number; entry = next.entry }) more.items next.pushed)
        in
        record { line = l; named = next.named; gathered = gathered_set ls old with_sets number g at l (plain_value next.entry) changes (map set_of front) (set_of s) last_read (pushed set_of front now sets.items put ∙ ap (λ x. map set_of front ++ x ∷ []) grows) (record { uses = refl; values = refl; after = refl }) }

-- ---- parts

-- places below a number
abbrev Below : ℕ → List ℕ → Type 0
Below m [] = Unit {0}
Below m (k ∷ ks) = (k < m) × Below m ks

appear_most : (n : ℕ) (ks : List ℕ) (m : ℕ) → AppearInOrder n ks m → n ≤ m
appear_most n [] m is = omega (arith, is)
appear_most n (k ∷ ks) m is = elim is [
  | inl h ↦ appear_most n ks m h.1
  | inr h ↦ let most = appear_most (n + 1) ks m h.1 in omega (arith, most)
]

below : (n : ℕ) (ks : List ℕ) (m : ℕ) → AppearInOrder n ks m → Below m ks
below n [] m is = tt
below n (k ∷ ks) m is = elim is [
  | inl h ↦ let most = appear_most n ks m h.1 in (omega (arith, most, h.0), below n ks m h.1)
  | inr h ↦ let most = appear_most (n + 1) ks m h.1 in (omega (arith, most, h.0), below (n + 1) ks m h.1)
]

below_left : (m : ℕ) (ks js : List ℕ) → Below m (ks ++ js) → Below m ks
below_left m [] js is = tt
below_left m (k ∷ ks) js is = (is.0, below_left m ks js is.1)

below_right : (m : ℕ) (ks js : List ℕ) → Below m (ks ++ js) → Below m js
below_right m [] js is = is
below_right m (k ∷ ks) js is = below_right m ks js is.1

module _ (b c : List Symbol) (g : StartsWith b c) where
  lits_still : (lits : List Lit) → Below (length b) (map place_of lits) → map (literal_of b) lits ≡ map (literal_of c) lits
  lits_still [] is = refl
  lits_still (l ∷ ls) is = ap (λ k. k ∷ map (literal_of b) ls) (literal_still b c l g is.0) ∙ ap (λ ks. literal_of c l ∷ ks) (lits_still ls is.1)

  part_still : (p : CertPart) → Below (length b) (places_in p) → part_of b p ≡ part_of c p
  part_still (Axiom a) is = refl
  part_still (Step clause hints) is = ap (λ ls. derived ls hints.items) (lits_still clause.items is)
  part_still (Block j) is = refl

  lines_still : (lines : List CertLine) → Below (length b) (places_of lines) → map (numbered_part_of b) lines ≡ map (numbered_part_of c) lines
  lines_still [] is = refl
  lines_still (l ∷ ls) is =
      let first : numbered_part_of b l ≡ numbered_part_of c l = ap (λ p. (l.line, p)) (part_still l.part (below_left (length b) (places_in l.part) (places_of ls) is)) in
      ap (λ k. k ∷ map (numbered_part_of b) ls) first ∙ ap (λ ks. numbered_part_of c l ∷ ks) (lines_still ls (below_right (length b) (places_in l.part) (places_of ls) is))

places_on : (lines : List CertLine) (l : CertLine) → places_of (lines ++ l ∷ []) ≡ places_of lines ++ places_in l.part
places_on [] l = append-nil (places_in l.part)
places_on (k ∷ ks) l = ap (λ ps. places_in k.part ++ ps) (places_on ks l) ∙ sym (append_assoc (places_in k.part) (places_of ks) (places_in l.part))

pub part_adds : (sheet : Sheet) (w : WrittenPart) (place : ℕ) (ls : List SaidLine) (old : Draft) (number : ℕ) (table : Table) (q : CertPart) (more : Vec CertLine Global) → IsGathered ls old → number ≡ length ls + 1
    → (AreSymbolNumbers old.table → AreSymbolNumbers table) → (sets : ℕ) → sets ≡ vec_len old.sets → IsPartTaken sheet sets w old.table.names table.names q → more.items ≡ old.lines.items ++ (record { line = number; part = q }) ∷ []
    → AddsLine sheet (derives place w) ls (record { claim = old.claim; sets = old.sets; uses = old.uses; values = old.values; after = old.after; table = table; lines = more })
part_adds sheet w place ls old number table q more g at kept sets are took push =
    let new : Draft = record { claim = old.claim; sets = old.sets; uses = old.uses; values = old.values; after = old.after; table = table; lines = more } in
    let line : CertLine = record { line = number; part = q } in
    let l : SaidLine = derives place (part_of table.names q) in
    let still = lines_still old.table.names table.names took.grows old.lines.items (below 0 (places_of old.lines.items) (length old.table.names) g.appear) in
    let parted : map (numbered_part_of table.names) more.items ≡ map (numbered_part_of old.table.names) old.lines.items ++ (number, part_of table.names q) ∷ [] =
    pushed (numbered_part_of table.names) old.lines.items line more.items push ∙ ap (λ ps. ps ++ (number, part_of table.names q) ∷ []) (sym still)
    in
    let places : places_of more.items ≡ places_of old.lines.items ++ places_in q = ap places_of push ∙ places_on old.lines.items line in
    let appear = subst (λ ks. AppearInOrder 0 ks (length table.names)) (sym places) (appear_on 0 (places_of old.lines.items) (length old.table.names) (places_in q) (length table.names) g.appear took.appear) in
    let changes : Changes ls old new number g at l = record { claim = same_claim old; parts = parted; appear = appear; kept = kept g.kept } in
    let named = subst (λ n. IsPartNamed sheet n w (part_of table.names q)) (gathered_sets ls old sets g are) took.named in
    record { line = l; named = (refl, named); gathered = gathered_quiet ls old new number g at l (quiet_part place (part_of table.names q)) changes refl refl refl (λ e. refl) (λ ss s e. refl) }

pub no_items : {A : Type 0} (v : Vec A Global) → vec_len v ≡ 0 → v.items ≡ []
no_items v none = by v.items (sym v.ok.0 ∙ none)
  where
    by : {A : Type 0} (xs : List A) → length xs ≡ 0 → xs ≡ []
    by [] e = refl
    by (x ∷ xs) e = absurd (omega (arith, e))

pub is_none : {A : Type 0} (v : Vec A Global) (b : Bool) → b ≡ (vec_len v == 0) → b ≡ true → v.items ≡ []
is_none v b is goes = no_items v (numbers_equal (vec_len v) 0 (sym is ∙ goes))

pub is_some : {A : Type 0} (v : Vec A Global) (b : Bool) → b ≡ (vec_len v == 0) → b ≡ false → v.items ≡ [] → ⊥
is_some v b is stays none = false_no_true b stays (is ∙ ap (λ n. n == 0) (v.ok.0 ∙ ap length none))

-- ---- what stands for nothing

pub never : (sheet : Sheet) (p : WrittenPair) → ((x : Entry) → (◌≡◌ {A = Option Entry} None (Some x)) ↔ IsPairNamed sheet.universe p x) → (x : Entry) → IsPairNamed sheet.universe p x → ⊥
never sheet p exact x is = let e = (exact x).1 is in absurd (cc)

module _ (sheet : Sheet) (sets : ℕ) where
  pub no_claim : (w : WrittenClaim) → ((x : accepts.Claim) → (◌≡◌ {A = Option accepts.Claim} None (Some x)) ↔ IsClaimNamed sheet w x) → (l : SaidLine) → IsSaidLine sheet sets (claims w) l → ⊥
  no_claim w exact (claims c) is = let e = (exact c).1 is in absurd (cc)
  no_claim w exact l is = absurd is

  pub no_use : (p : WrittenPair) → ((x : Entry) → IsPairNamed sheet.universe p x → ⊥) → (l : SaidLine) → IsSaidLine sheet sets (uses p) l → ⊥
  no_use p none (uses e) is = none e is
  no_use p none l is = absurd is

  pub no_part : (w : WrittenPart) (place : ℕ) → ((p : CertificatePart) → IsPartNamed sheet sets w p → ⊥) → (l : SaidLine) → IsSaidLine sheet sets (derives place w) l → ⊥
  no_part w place none (derives m p) is = none p is.1
  no_part w place none l is = absurd is

  pub no_value : (p : WrittenPair) → ((x : Entry) → IsPairNamed sheet.universe p x → ⊥) → (l : SaidLine) → IsSaidLine sheet sets (assigns p) l → ⊥
  no_value p none (assigns e) is = none e is
  no_value p none l is = absurd is

-- what follows from either answer
pub both_more : (b : Bool) (P Q R S : Type 0) → (P → R) → (Q → S) → MatchBool b P Q → MatchBool b R S
both_more true P Q R S f g is = f is
both_more false P Q R S f g is = g is

pub either_more : {E : Type 0} (r : Result Bool E) (P Q R S : Type 0) → (P → R) → (Q → S) → IfOk r (λ b. MatchBool b P Q) → IfOk r (λ b. MatchBool b R S)
either_more (Ok true) P Q R S f g is = f is
either_more (Ok false) P Q R S f g is = g is
either_more (Err e) P Q R S f g is = tt
