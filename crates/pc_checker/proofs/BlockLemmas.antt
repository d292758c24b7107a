-- The clauses of sets, as they are written.
use Rattle.std.proofs.Common.{◌≡◌, ℕ, ◌+◌, ◌<◌, ◌≤◌, Bool, true, false, not, cond, List, [], ◌∷◌, ◌++◌, map, take, length, get_or, Contains, Some, slice_get, refl, ap, sym, ◌∙◌, subst, arith}
use Rattle.std.proofs.lemmas.List.{length-map, get_or-map, map-append, map_more, take_more}
use Rattle.std.proofs.lemmas.List.Elements.{filter-append}
use Rattle.std.proofs.lemmas.Option.{slice_get-get_or, slice_get_past}
use Rattle.pc_sheet.specs.Sheet.{Sheet}
use Rattle.pc_sheet.specs.declared.ids.Entry.{Entry}
use Rattle.pc_accept.specs.Literals.{Literal}
use Rattle.pc_accept.specs.Sets.{is_in, those_outside, positive_entry, block_of, GivenSet}
use Rattle.pc_accept.proofs.SetsSound.{in_contains, contains_in}
use Rattle.pc_cert.specs.declared.cert.SaidSet.{SaidSet}
use Rattle.pc_cert.specs.Text.{set_read}
use Rattle.pc_cert.specs.Views.{set_of}
use Rattle.pc_checker.specs.Drafts.{Draft, IsLiteralWritten, AreWritten}
use Rattle.pc_sheet.specs.declared.ids.ValueId.{ValueId}
use Rattle.pc_cert.specs.declared.cert.Said.{Said}
use Rattle.pc_checker.specs.Made.{entries_of, blocks_said, set_values, value_said}
use Rattle.pc_checker.proofs.RoomLemmas.{values_mapped}
use Rattle.pc_checker.specs.inside.Written.{IsBlockWritten}
use Rattle.pc_checker.proofs.DraftLemmas.{nothing_written, one_more_written, more_written}

module _ (set : List Entry) where
  block-append : (xs ys : List Entry) → block_of (xs ++ ys) set ≡ block_of xs set ++ block_of ys set
  block-append xs ys = ap (map positive_entry) (filter-append (λ e. not (is_in set e)) xs ys) ∙ map-append positive_entry (those_outside xs set) (those_outside ys set)

  outside_one : (e : Entry) → ¬ Contains set e → block_of (e ∷ []) set ≡ positive_entry e ∷ []
  outside_one e lacks = ap (λ b. map positive_entry (cond (not b) (e ∷ []) [])) (no_true (is_in set e) (λ is. lacks (in_contains set e is)))
    where
      no_true : (b : Bool) → (b ≡ true → ⊥) → b ≡ false
      no_true true never = absurd (never refl)
      no_true false never = refl

  inside_one : (e : Entry) → Contains set e → block_of (e ∷ []) set ≡ []
  inside_one e has = ap (λ b. map positive_entry (cond (not b) (e ∷ []) [])) (contains_in set e has)

  pub none_written : (d : Draft) (e : Entry) → Contains set e → AreWritten d d (block_of (e ∷ []) set)
  none_written d e has = subst (AreWritten d d) (sym (inside_one e has)) (nothing_written d)

  pub one_written : (d n : Draft) (e : Entry) → ¬ Contains set e → IsLiteralWritten d n (positive_entry e) → AreWritten d n (block_of (e ∷ []) set)
  one_written d n e lacks is = subst (AreWritten d n) (sym (outside_one e lacks)) (one_more_written d d n [] (positive_entry e) (nothing_written d) is)

  pub block_more : (a b c : Draft) (es : List Entry) (i : ℕ) (d : Entry) → i < length es → AreWritten a b (block_of (take i es) set) → AreWritten b c (block_of (get_or es i d ∷ []) set) → AreWritten a c (block_of (take (i + 1) es) set)
  block_more a b c es i d within w is =
      subst (AreWritten a c) (sym (ap (λ xs. block_of xs set) (take_more es i d within) ∙ block-append (take i es) (get_or es i d ∷ [])))
      (more_written a b c (block_of (take i es) set) (block_of (get_or es i d ∷ []) set) w is)

-- ---- the clause at a place

module _ (sheet : Sheet) (sets : List SaidSet) where
  abbrev of_set : GivenSet → List Literal
  of_set s = block_of sheet.entries s.uses

  count : length (blocks_said sheet sets) ≡ length sets
  count = length-map (map set_read (map set_of sets)) of_set ∙ length-map (map set_of sets) set_read ∙ length-map sets set_of

  block_at : (j : ℕ) (s : SaidSet) → j < length sets → s ≡ get_or sets j s → slice_get (blocks_said sheet sets) j ≡ Some (block_of sheet.entries (entries_of s.uses.items))
  block_at j s inside is =
      let first = length-map sets set_of in
      let second = length-map (map set_of sets) set_read in
      slice_get-get_or (blocks_said sheet sets) j [] (omega (arith, inside, count))
      ∙ ap Some (get_or-map of_set (map set_read (map set_of sets)) j (set_read (set_of s)) [] (omega (arith, inside, first, second))
      ∙ ap of_set (get_or-map set_read (map set_of sets) j (set_of s) (set_read (set_of s)) (omega (arith, inside, first)) ∙ ap set_read (get_or-map set_of sets j s (set_of s) inside ∙ ap set_of (sym is))))

  pub block_written : (j : ℕ) (s : SaidSet) (es : List Entry) (old new : Draft) → j < length sets → s ≡ get_or sets j s → es ≡ sheet.entries → old.clause ≡ [] → AreWritten old new (block_of es (entries_of s.uses.items))
      → IsBlockWritten (blocks_said sheet sets) j old new true
  block_written j s es old new inside is same blank w = record {
    grows = w.grows;
    clause = block_at j s inside is ∙ ap Some (sym (w.clause ∙ ap (λ ls. ls ++ block_of es (entries_of s.uses.items)) blank ∙ ap (λ xs. block_of xs (entries_of s.uses.items)) same));
  }

  pub no_block : (j : ℕ) (d : Draft) → length sets ≤ j → IsBlockWritten (blocks_said sheet sets) j d d false
  no_block j d past = record {
    grows = (nothing_written d).grows;
    clause = λ c is. absurd (cc (slice_get_past (blocks_said sheet sets) j (omega (arith, past, count)), is));
  }

-- ---- the values of sets

pub values_more : (sets : List SaidSet) (i : ℕ) (s : SaidSet) (said : List Said) (values : List ValueId) (before after : List (List ValueId)) → i < length sets → s ≡ get_or sets i s → before ≡ map set_values (take i sets)
    → after ≡ before ++ values ∷ [] → values ≡ map value_said said → said ≡ s.values.items → after ≡ map set_values (take (i + 1) sets)
values_more sets i s said values before after inside is so pushed are same =
    let here : values ≡ set_values s = are ∙ ap (map value_said) same ∙ values_mapped s.values.items in
    pushed ∙ ap (λ vs. vs ++ values ∷ []) so ∙ ap (λ v. map set_values (take i sets) ++ v ∷ []) (here ∙ ap set_values is) ∙ sym (map_more set_values sets i s inside)
