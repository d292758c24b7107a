-- All parts together need no more than the whole sheet, since each has a variable of its own.
use Rattle.std.proofs.Common.{◌≡◌, ◌≢◌, ℕ, zero, suc, ◌+◌, ◌-◌, ◌*◌, ◌<◌, ◌≤◌, inl, inr, Bool, true, false, cond, List, [], ◌∷◌, ◌++◌, length, get_or, map, sum_by, All, Contains, Option, None, Some, slice_get, arith, ap, sym, ◌∙◌, subst, length-append}
use Rattle.std.specs.Prelude.{AllPairs, sum}
use Rattle.std.specs.List.{AllZip, range_with_len, remove}
use Rattle.std.proofs.lemmas.Bool.{cases_lt, cases_eq}
use Rattle.std.proofs.lemmas.Option.{slice_get-get_or, get_or_from_slice_get}
use Rattle.std.proofs.lemmas.List.{length-map}
use Rattle.std.proofs.lemmas.List.Edits.{length-remove, get_or-remove_below, get_or-remove_above}
use Rattle.std.proofs.lemmas.List.Elements.{All-nil, All-cons, Contains-append_cases}
use Rattle.std.proofs.lemmas.List.FromFn.{length-range_with_len}
use Rattle.std.proofs.lemmas.List.Quantifiers.{all_pairs_remove}
use Rattle.std.proofs.lemmas.List.Sums.{sum_by-cons}
use Rattle.pc_lits.specs.declared.literal.Var.{Var}
use Rattle.pc_sheet.specs.Sheet.{Sheet}
use Rattle.pc_sheet.specs.Entailment.{cell_sizes}
use Rattle.pc_sheet.specs.WellFormed.{IsWellFormed}
use Rattle.pc_sheet.specs.declared.ids.CellId.{CellId}
use Rattle.pc_lemmas.proofs.Elements.{contains_first, contains_later, all_from, zip_made, zip_both}
use Rattle.pc_laws.proofs.Counting.{pairs_append}
use Rattle.pc_laws.proofs.Different.{fewer}
use Rattle.pc_enough_laws.specs.Amounts.{Amounts, enough, enough_of, entries_of, targets_of}
use Rattle.pc_enough_laws.proofs.Adding.{adds_up, grows}
use Rattle.pc_ground.specs.Variables.{variable_count}
use Rattle.pc_parts.specs.Parts.{Part, AreParts}
use Rattle.pc_parts.specs.Components.{parts_of}
use Rattle.pc_parts.specs.PartSheets.{entries_on}
use Rattle.pc_parts.proofs.Found.{parts_are_found}
use Rattle.pc_components.specs.View.{Kept, AreComponentsOf, variable_number}
use Rattle.pc_components.proofs.KeptRight.{parts_are_in_their_ground}
use Rattle.pc_components.proofs.OwnAlone.{parts_have_their_own_variables}
use Rattle.pc_theory.specs.Targets.{target_count}
use Rattle.pc_theory.specs.Theories.{rules_alone}
use Rattle.pc_theory.proofs.Lists.{at_contained, at_within, within_at, zip_at, zip_from, zip_length}
use Rattle.pc_enough_laws.specs.Enough.{amounts_of, is_touched, touched_amounts}
use Rattle.pc_enough_laws.specs.Laws.{PartsNeedNoMore}
use Rattle.pc_enough_laws.proofs.Owning.{AreOwn, OwnKept, known, own_there, own_differ}
use Rattle.pc_enough_laws.proofs.Differing.{parts_differ, targets_within, entries_within}

-- ---- lists

-- what is left stood at another place
left_there : {X : Type 0} (xs : List X) (i : ℕ) → i < length xs → (y : X) → Contains (remove xs i) y → (j : ℕ) × (j ≢ i) × (slice_get xs j ≡ Some y)
left_there xs i low y there =
    let many = length-remove xs i low in
    let k = there.0 in
    elim (cases_lt k i) [
      | inl below ↦ (k, (λ is. absurd (omega (arith, below, is))), slice_get-get_or xs k y (omega (arith, below, low)) ∙ ap Some (sym (get_or-remove_below xs i y k below low) ∙ there.2))
      | inr above ↦
          let within : k + 1 < length xs = omega (arith, many, there.1) in
          (k + 1, (λ is. absurd (omega (arith, above, is))), slice_get-get_or xs (k + 1) y within ∙ ap Some (sym (get_or-remove_above xs i y k (omega (arith, above)) low) ∙ there.2))
    ]

range_has : (a n x : ℕ) → a ≤ x → x < a + n → Contains (range_with_len a n) x
range_has a zero x h k = absurd (omega (arith, h, k))
range_has a (suc n) x h k = elim (cases_eq a x) [
  | inl is ↦ subst (Contains (a ∷ range_with_len (a + 1) n)) is (contains_first a (range_with_len (a + 1) n))
  | inr other ↦ contains_later a (range_with_len (a + 1) n) x (range_has (a + 1) n x (omega (arith, h, other)) (omega (arith, k)))
]

-- ---- amounts

fits_whole : (most n t : ℕ) (amounts : List Amounts) → All (λ a. (1 ≤ a.variables) × (a.variables + length amounts ≤ most + 1)) amounts → sum_by entries_of amounts ≤ n → sum_by targets_of amounts ≤ t
    → sum_by enough_of amounts ≤ enough most n t
fits_whole most n t [] all es ts = omega arith
fits_whole most n t (first ∷ others) all es ts =
    let here = all zero first (omega arith) in
    let each = most - length others in
    let whole : each + length others ≤ most = omega (arith, here.0, here.1) in
    let some : 1 ≤ each = omega (arith, here.0, here.1) in
    let below : All (λ (a : Amounts). a.variables ≤ each) (first ∷ others) = λ k d l. let h = all k d l in omega (arith, h.1) in
    let parts = adds_up each first others some below in
    let more = grows (each + length others) most (sum_by entries_of (first ∷ others)) n (sum_by targets_of (first ∷ others)) t whole es ts in
    omega (arith, parts, more)

module _ (sheet : Sheet) where
  on_part : Part → ℕ
  on_part p = length (entries_on p.cells sheet.entries)

  touched_less : (touched : Option CellId) (parts : List Part) (owns : List (List Var)) → sum_by enough_of (touched_amounts sheet touched parts owns) ≤ sum_by enough_of (touched_amounts sheet None parts owns)
  touched_less touched [] owns = omega arith
  touched_less touched (part ∷ parts) [] = omega arith
  touched_less touched (part ∷ parts) (own ∷ owns) = by (is_touched touched part) (touched_less touched parts owns)
    where
      by : (b : Bool) → sum_by enough_of (touched_amounts sheet touched parts owns) ≤ sum_by enough_of (touched_amounts sheet None parts owns)
          → sum_by enough_of (cond b (amounts_of sheet part own ∷ touched_amounts sheet touched parts owns) (touched_amounts sheet touched parts owns)) ≤ sum_by enough_of (amounts_of sheet part own ∷ touched_amounts sheet None parts owns)
      by true rest =
          omega (arith, sum_by-cons enough_of (amounts_of sheet part own) (touched_amounts sheet touched parts owns), sum_by-cons enough_of (amounts_of sheet part own) (touched_amounts sheet None parts owns), rest)
      by false rest = omega (arith, sum_by-cons enough_of (amounts_of sheet part own) (touched_amounts sheet None parts owns), rest)

  few_amounts : (parts : List Part) (owns : List (List Var)) → length (touched_amounts sheet None parts owns) ≤ length parts
  few_amounts [] owns = omega arith
  few_amounts (part ∷ parts) [] = omega arith
  few_amounts (part ∷ parts) (own ∷ owns) = omega (arith, few_amounts parts owns)

  few_entries : (parts : List Part) (owns : List (List Var)) → sum_by entries_of (touched_amounts sheet None parts owns) ≤ sum_by (λ (p : Part). length (entries_on p.cells sheet.entries)) parts
  few_entries [] owns = omega arith
  few_entries (part ∷ parts) [] = omega arith
  few_entries (part ∷ parts) (own ∷ owns) =
      omega (arith, sum_by-cons entries_of (amounts_of sheet part own) (touched_amounts sheet None parts owns), sum_by-cons (λ (p : Part). length (entries_on p.cells sheet.entries)) part parts, few_entries parts owns)

  few_targets : (parts : List Part) (owns : List (List Var)) → sum_by targets_of (touched_amounts sheet None parts owns) ≤ sum_by (λ (p : Part). target_count (cell_sizes sheet.universe) p.cells) parts
  few_targets [] owns = omega arith
  few_targets (part ∷ parts) [] = omega arith
  few_targets (part ∷ parts) (own ∷ owns) =
      omega (arith, sum_by-cons targets_of (amounts_of sheet part own) (touched_amounts sheet None parts owns), sum_by-cons (λ (p : Part). target_count (cell_sizes sheet.universe) p.cells) part parts, few_targets parts owns)

  each_amount : (P : Amounts → Type 0) (parts : List Part) (owns : List (List Var)) → AllZip (λ p own. P (amounts_of sheet p own)) parts owns → All P (touched_amounts sheet None parts owns)
  each_amount P [] owns h = All-nil P
  each_amount P (part ∷ parts) [] h = All-nil P
  each_amount P (part ∷ parts) (own ∷ owns) h = All-cons P (amounts_of sheet part own) (touched_amounts sheet None parts owns) h.0 (each_amount P parts owns h.1)

-- ---- each part's own variable

module _ (sheet : Sheet) (formed : IsWellFormed sheet) (kept : Kept) (are : AreComponentsOf (rules_alone sheet) kept) where
  -- a variable of the part that no other part has
  record IsPrivate (part : Part) (x : ℕ) : Type 0 where
    below : x < variable_count sheet
    alone : (other : Part) → Contains (parts_of sheet) other → (theirs : List ℕ) → AreOwn sheet other theirs → Contains theirs x → other ≡ part
    has : (own : List ℕ) → AreOwn sheet part own → Contains own x

  private : (part : Part) → Contains (parts_of sheet) part → (x : ℕ) × IsPrivate part x
  private part there =
      let all = parts_of sheet in
      let found : AreParts sheet all = parts_are_found sheet formed in
      let T = OwnKept sheet in
      let o = zip_both T T all kept.variables (known sheet kept are) (known sheet kept are) part there in
      let x = parts_have_their_own_variables sheet formed all found part there o.1.0 (map variable_number o.0) o.1.1 o.1.2 in (
        x.0,
        record {
          below = (parts_are_in_their_ground sheet part o.1.0 (map variable_number o.0) o.1.1 o.1.2).1 x.0 x.1;
          alone = λ other c theirs k. x.2 other c k.0 theirs k.1 k.2;
          has = λ own k. own_there sheet part (map variable_number o.0) own o.1 k x.0 x.1;
        },
      )

  privates : (xs : List ℕ) × AllZip IsPrivate (parts_of sheet) xs
  privates = zip_made IsPrivate (parts_of sheet) private

  same_place : (i j : ℕ) (part : Part) → slice_get (parts_of sheet) i ≡ Some part → slice_get (parts_of sheet) j ≡ Some part → i ≡ j
  same_place i j part at_i at_j =
      let all = parts_of sheet in
      let differ = parts_differ sheet formed in
      let in_i = at_within all i part at_i in
      let in_j = at_within all j part at_j in
      let one = get_or_from_slice_get all i part part at_i in
      let two = get_or_from_slice_get all j part part at_j in
      elim (cases_eq i j) [
        | inl is ↦ is
        | inr other ↦ elim (cases_lt i j) [
          | inl below ↦ absurd (differ i j part below in_j (one ∙ sym two))
          | inr above ↦ absurd (differ j i part (omega (arith, other, above)) in_i (two ∙ sym one))
        ]
      ]

  -- the part at the one place has the private variable of that at the other
  one_part : (i j x : ℕ) (part : Part) (own : List ℕ) → slice_get (parts_of sheet) i ≡ Some part → AreOwn sheet part own → Contains own x → slice_get privates.0 j ≡ Some x → j ≡ i
  one_part i j x part own at_i owns has at_j =
      let all = parts_of sheet in
      let xs = privates.0 in
      let q = within_at all j (omega (arith, at_within xs j x at_j, zip_length IsPrivate all xs privates.1)) in
      let p = zip_at IsPrivate all xs j q.0 x privates.1 q.1 at_j in
      let is : part ≡ q.0 = p.alone part (at_contained all i part at_i) own owns has in
      same_place j i part (q.1 ∙ ap Some (sym is)) at_i

  privates_differ : AllPairs (λ x y. x ≢ y) privates.0
  privates_differ = λ i j d below within is.
      let all = parts_of sheet in
      let xs = privates.0 in
      let x = get_or xs i d in
      let y = get_or xs j d in
      let at_i = slice_get-get_or xs i d (omega (arith, below, within)) in
      let at_j = slice_get-get_or xs j d within in
      let many = zip_length IsPrivate all xs privates.1 in
      let q = within_at all j (omega (arith, within, many)) in
      let own = zip_both (OwnKept sheet) (OwnKept sheet) all kept.variables (known sheet kept are) (known sheet kept are) q.0 (at_contained all j q.0 q.1) in
      let has : Contains (map variable_number own.0) y = (zip_at IsPrivate all xs j q.0 y privates.1 q.1 at_j).has (map variable_number own.0) own.1 in
      let same = one_part j i x q.0 (map variable_number own.0) q.1 own.1 (subst (Contains (map variable_number own.0)) (sym is) has) at_i in
      absurd (omega (arith, below, same))

  abbrev pub Bounded : Amounts → Type 0
  Bounded a = (1 ≤ a.variables) × (a.variables + length (parts_of sheet) ≤ variable_count sheet + 1)

  bounded : (i : ℕ) (part : Part) (own : List Var) → slice_get (parts_of sheet) i ≡ Some part → OwnKept sheet part own → Bounded (amounts_of sheet part own)
  bounded i part own at_i owns =
      let all = parts_of sheet in
      let xs = privates.0 in
      let many = zip_length IsPrivate all xs privates.1 in
      let low : i < length xs = omega (arith, at_within all i part at_i, many) in
      let x = within_at xs i low in
      let its = zip_at IsPrivate all xs i part x.0 privates.1 at_i x.1 in
      let numbers = map variable_number own in
      let has = its.has numbers owns in
      let left = remove xs i in
      let different : AllPairs (λ (m n : ℕ). m ≢ n) (numbers ++ left) =
      pairs_append (λ (m n : ℕ). m ≢ n) numbers left (own_differ sheet part numbers owns) (all_pairs_remove (λ (m n : ℕ). m ≢ n) xs i low privates_differ)
      (all_from (λ m. All (λ n. m ≢ n) left) numbers (λ m here. all_from (λ n. m ≢ n) left (λ n there is.
      let j = left_there xs i low n there in
      j.1 (one_part i j.0 n part numbers at_i owns (subst (Contains numbers) is here) j.2)))) in
      let within : (n : ℕ) → Contains (numbers ++ left) n → Contains (range_with_len 0 (variable_count sheet)) n = λ n there. elim (Contains-append_cases numbers left n there) [
        | inl here ↦ range_has 0 (variable_count sheet) n (omega arith) (let b = (parts_are_in_their_ground sheet part owns.0 numbers owns.1 owns.2).1 n here in omega (arith, b))
        | inr later ↦
            let j = left_there xs i low n later in
            let q = within_at all j.0 (omega (arith, at_within xs j.0 n j.2, many)) in
            range_has 0 (variable_count sheet) n (omega arith) (let b = (zip_at IsPrivate all xs j.0 q.0 n privates.1 q.1 j.2).below in omega (arith, b))
      ] in
      let few = fewer (numbers ++ left) (range_with_len 0 (variable_count sheet)) different within in
      (omega (arith, has.1, length-map own variable_number), omega (arith, few, length-append numbers left, length-map own variable_number, length-remove xs i low, length-range_with_len 0 (variable_count sheet), many))

  pub all_bounded : AllZip (λ part own. Bounded (amounts_of sheet part own)) (parts_of sheet) kept.variables
  all_bounded =
      let all = parts_of sheet in
      let T = OwnKept sheet in
      let many = zip_length T all kept.variables (known sheet kept are) in
      zip_from (λ part own. Bounded (amounts_of sheet part own)) [] all kept.variables many
      (λ i part below at_i.
      let own = get_or kept.variables i [] in
      bounded i part own at_i (zip_at T all kept.variables i part own (known sheet kept are) at_i (slice_get-get_or kept.variables i [] below)))

pub parts_need_no_more : PartsNeedNoMore
parts_need_no_more sheet formed touched kept are =
    let all = parts_of sheet in
    let amounts = touched_amounts sheet None all kept.variables in
    let few = few_amounts sheet all kept.variables in
    let each = each_amount sheet (Bounded sheet formed kept are) all kept.variables (all_bounded sheet formed kept are) in
    let bound : All (λ (a : Amounts). (1 ≤ a.variables) × (a.variables + length amounts ≤ variable_count sheet + 1)) amounts = λ k d l. let h = each k d l in (h.0, omega (arith, h.1, few)) in
    let whole = fits_whole (variable_count sheet) (length sheet.entries) (2 * sum (cell_sizes sheet.universe)) amounts bound
    (omega (arith, few_entries sheet all kept.variables, entries_within sheet formed)) (omega (arith, few_targets sheet all kept.variables, targets_within sheet formed)) in
    omega (arith, touched_less sheet touched all kept.variables, whole)
