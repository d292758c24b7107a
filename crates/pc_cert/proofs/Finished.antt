-- What a text is read as once all of its lines are taken.
use Rattle.std.proofs.Common.{◌≡◌, ℕ, ◌+◌, Bool, true, false, ◌&&◌, ◌||◌, Some, None, List, [], ◌∷◌, ◌++◌, map, length, append_assoc, refl, ap, sym, ◌∙◌, subst}
use Rattle.std.specs.Prelude.{Ok, Vec}
use Rattle.std.specs.declared.alloc.Global.{Global}
use Rattle.std.specs.Option.{option_map}
use Rattle.std.specs.Str.Lines.{lines}
use Rattle.std.proofs.lemmas.List.{append-nil}
use Rattle.std.proofs.lemmas.List.Folds.{list_any-append}
use Rattle.pc_sheet.specs.Sheet.{Sheet}
use Rattle.pc_accept.specs.Literals.{Symbol}
use Rattle.pc_cert.specs.Written.{nothing, heading, claims, begins, uses, assigns, derives, ends, SaidLine}
use Rattle.pc_cert.specs.Order.{LineKind, empty_line, heading_line, target_line, inconsistent_line, sets_line, set_line, use_line, value_line, numbered_line, end_line, kind_of, sets_in, may_stand, has, is_end, is_claim}
use Rattle.pc_cert.specs.Text.{AllSay, syntax, claim_in, parts_from, has_end, IsTextReading, fault_at, endless, whole, SayTogether}
use Rattle.pc_cert.specs.inside.Taken.{AreTaken}
use Rattle.pc_cert.specs.Views.{AreSymbolsDistinct, AppearInOrder, IsCertTold, claim_of, numbered_part_of, places_of, symbol_of, reading_of}
use Rattle.pc_cert.specs.declared.draft.Draft.{Draft}
use Rattle.pc_cert.specs.declared.order.Order.{Order}
use Rattle.pc_cert.specs.declared.cert.Cert.{Cert}
use Rattle.pc_cert.specs.declared.cert.Claim.{Claim}
use Rattle.pc_cert.specs.declared.cert.Symbol.{Symbol as SymbolRead}
use Rattle.pc_cert.proofs.Taken.{same_kind, same_count}

drop_false : (b : Bool) → (b || false) ≡ true → b ≡ true
drop_false true e = refl
drop_false false e = e

and_left : (a b : Bool) → (a && b) ≡ true → a ≡ true
and_left true b e = refl
and_left false b e = e

abbrev EndsClaimed : List LineKind → Type 0
EndsClaimed ks = has is_end ks ≡ true → has is_claim ks ≡ true

claim_stays : (before : List LineKind) (k : LineKind) → has is_claim before ≡ true → has is_claim (before ++ k ∷ []) ≡ true
claim_stays before k e = list_any-append is_claim before (k ∷ []) ∙ ap (λ b. b || has is_claim (k ∷ [])) e

one_more : (before : List LineKind) (k : LineKind) → may_stand before k ≡ true → EndsClaimed before → EndsClaimed (before ++ k ∷ [])
one_more before empty_line may all e = claim_stays before empty_line (all (drop_false (has is_end before) (sym (list_any-append is_end before (empty_line ∷ [])) ∙ e)))
one_more before heading_line may all e = claim_stays before heading_line (all (drop_false (has is_end before) (sym (list_any-append is_end before (heading_line ∷ [])) ∙ e)))
one_more before target_line may all e = claim_stays before target_line (all (drop_false (has is_end before) (sym (list_any-append is_end before (target_line ∷ [])) ∙ e)))
one_more before inconsistent_line may all e = claim_stays before inconsistent_line (all (drop_false (has is_end before) (sym (list_any-append is_end before (inconsistent_line ∷ [])) ∙ e)))
one_more before sets_line may all e = claim_stays before sets_line (all (drop_false (has is_end before) (sym (list_any-append is_end before (sets_line ∷ [])) ∙ e)))
one_more before set_line may all e = claim_stays before set_line (all (drop_false (has is_end before) (sym (list_any-append is_end before (set_line ∷ [])) ∙ e)))
one_more before use_line may all e = claim_stays before use_line (all (drop_false (has is_end before) (sym (list_any-append is_end before (use_line ∷ [])) ∙ e)))
one_more before value_line may all e = claim_stays before value_line (all (drop_false (has is_end before) (sym (list_any-append is_end before (value_line ∷ [])) ∙ e)))
one_more before (numbered_line n) may all e = claim_stays before (numbered_line n) (all (drop_false (has is_end before) (sym (list_any-append is_end before ((numbered_line n) ∷ [])) ∙ e)))
one_more before end_line may all e = claim_stays before end_line (and_left (has is_claim before) _ may)

module _ (sheet : Sheet) where
  all_claimed : (before : List LineKind) (done : List (List ℕ)) (ls : List SaidLine) → AllSay sheet before done ls → EndsClaimed before → EndsClaimed (before ++ map kind_of ls)
  all_claimed before [] [] all closed = subst EndsClaimed (sym (append-nil before)) closed
  all_claimed before [] (m ∷ ls) all closed = absurd all
  all_claimed before (d ∷ done) [] all closed = absurd all
  all_claimed before (d ∷ done) (m ∷ ls) all closed =
      let may : may_stand before (kind_of m) ≡ true = ap (may_stand before) (same_kind sheet (sets_in before) all.0.form m all.0.named) ∙ all.0.may in
      subst EndsClaimed (append_assoc before (kind_of m ∷ []) (map kind_of ls)) (all_claimed (before ++ kind_of m ∷ []) done ls all.1 (one_more before (kind_of m) may closed))

has_claim : (ls : List SaidLine) → has is_claim (map kind_of ls) ≡ true → claim_in ls ≡ None → ⊥
has_claim [] h none = absurd (cc)
has_claim (nothing ∷ ls) h none = has_claim ls h none
has_claim (heading ∷ ls) h none = has_claim ls h none
has_claim ((claims c) ∷ ls) h none = absurd (cc)
has_claim (begins ∷ ls) h none = has_claim ls h none
has_claim ((uses e) ∷ ls) h none = has_claim ls h none
has_claim ((assigns e) ∷ ls) h none = has_claim ls h none
has_claim ((derives m q) ∷ ls) h none = has_claim ls h none
has_claim (ends ∷ ls) h none = has_claim ls h none

module _ (sheet : Sheet) (text rest : List ℕ) (o : Order) (d : Draft) (number : ℕ) (taken : AreTaken sheet text rest o d number) (no_more : lines rest ≡ []) where
  are_lines : lines text ≡ taken.before
  are_lines = taken.parted ∙ ap (λ ls. taken.before ++ ls) no_more ∙ append-nil taken.before

  all_say : AllSay sheet [] (lines text) taken.says
  all_say = subst (λ ls. AllSay sheet [] ls taken.says) (sym are_lines) taken.all

  its_end : o.end ≡ has_end taken.says
  its_end = ap (λ (q : Order). q.end) taken.order

  pub unended : o.end ≡ false → IsTextReading sheet text (fault_at number syntax)
  unended stays =
      let place : number ≡ length (lines text) + 1 = taken.at ∙ ap (λ n. n + 1) (sym (same_count sheet [] (lines text) taken.says all_say)) in
      subst (λ n. IsTextReading sheet text (fault_at n syntax)) (sym place) (endless taken.says all_say (sym its_end ∙ stays))

  pub claimed : o.end ≡ true → d.claim ≡ None → ⊥
  claimed goes none =
      has_claim taken.says (all_claimed sheet [] taken.before taken.says taken.all (λ (e : false ≡ true). absurd (cc)) (sym its_end ∙ goes))
      (sym taken.gathered.claim ∙ ap (option_map claim_of) none)

  pub all_read : o.end ≡ true → (c : Claim) → d.claim ≡ Some c → (symbols : Vec SymbolRead Global) → symbols ≡ d.table.symbols → AreSymbolsDistinct d.table.names
      → IsCertTold sheet text (Ok (record { claim = c; sets = d.sets; uses = d.uses; values = d.values; after = d.after; symbols = symbols; lines = d.lines }))
  all_read goes c is symbols same distinct =
      let g = taken.gathered in
      let kept : d.table.names ≡ map symbol_of symbols.items = g.kept ∙ ap (λ (v : Vec SymbolRead Global). map symbol_of v.items) (sym same) in
      let parts = subst (λ (xs : List Symbol). map (numbered_part_of xs) d.lines.items ≡ parts_from 1 taken.says) kept g.parts in
      let cert : Cert = record { claim = c; sets = d.sets; uses = d.uses; values = d.values; after = d.after; symbols = symbols; lines = d.lines } in
      let together : SayTogether taken.says (reading_of cert) = record { claim = sym g.claim ∙ ap (option_map claim_of) is; sets = g.sets; uses = g.uses; values = g.values; after = g.after; parts = parts } in
      let appear = subst (λ (xs : List Symbol). AppearInOrder 0 (places_of d.lines.items) (length xs)) kept g.appear in
      (whole taken.says all_say (sym its_end ∙ goes) together, record { different = subst AreSymbolsDistinct kept distinct; appear = appear })
