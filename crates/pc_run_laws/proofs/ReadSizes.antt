-- The parts that a formula reads have one number of entries and one of sets, and these are few.
use Rattle.std.proofs.Common.{◌≡◌, ◌↔◌, ℕ, ◌+◌, ◌-◌, ◌*◌, ◌^◌, ◌≤◌, ◌||◌, inl, inr, Bool, true, false, cond, List, [], ◌∷◌, filter, length, map, get_or, AllPairs, Contains, arith, ap, refl, sym, ◌∙◌, subst, pow-add}
use Rattle.std.specs.List.{AllZip, list_any}
use Rattle.std.proofs.Math.Nat.{one-le-pow, pow-le-pow_right}
use Rattle.std.proofs.lemmas.Bool.{false≢true}
use Rattle.std.proofs.lemmas.List.Kept.{AllPairs-filter}
use Rattle.std.proofs.lemmas.Nat.{mul-le}
use Rattle.std.proofs.lemmas.Option.{slice_get-get_or}
use Rattle.pc_lemmas.proofs.Elements.{kept, kept_is, zip_made}
use Rattle.pc_sheet.specs.Sheet.{Universe, Sheet, Statement}
use Rattle.pc_sheet.specs.MaximalSets.{ListsExactly, IsMaximalSet, AreRulesConsistent}
use Rattle.pc_sheet.specs.Sizes.{product}
use Rattle.pc_sheet.specs.WellFormed.{IsWellFormed}
use Rattle.pc_sheet.specs.declared.ids.Entry.{Entry}
use Rattle.pc_laws.proofs.Different.{exact_as_long}
use Rattle.pc_laws.proofs.SomeAssignment.{some_assignment}
use Rattle.pc_parts.specs.Components.{parts_of}
use Rattle.pc_parts.specs.Leaves.{cells_of}
use Rattle.pc_parts.specs.Parts.{Part, AreApart, IsDivision, IsFiltered}
use Rattle.pc_parts.specs.PartSheets.{is_among, is_on, entries_on, sheet_of}
use Rattle.pc_parts.specs.Pieces.{pieces}
use Rattle.pc_parts.specs.Unions.{has_entries}
use Rattle.pc_parts.proofs.Dividing.{parts_are_a_division}
use Rattle.pc_parts.proofs.Divided.{apart_first, apart_rest}
use Rattle.pc_parts.proofs.Found.{parts_are_found}
use Rattle.pc_parts.proofs.Joining.{among_contains, contains_among}
use Rattle.pc_parts.proofs.LeafReads.{leaves_read_the_cells}
use Rattle.pc_components.proofs.AskedLabels.{some_pieces}
use Rattle.pc_world_list.specs.Chosen.{chosen_parts}
use Rattle.pc_accept.specs.Asked.{asked}
use Rattle.pc_ask.specs.Asking.{IsOnRead, Reads, ReadsPart}
use Rattle.pc_ask.proofs.Lists.{any_there, filtered_is, there_any}
use Rattle.pc_ask.proofs.Reading.{last_reads}
use Rattle.pc_ground.specs.Variables.{variable_count}
use Rattle.pc_enough_laws.proofs.Sets.{sets_few}
use Rattle.pc_run_laws.specs.Enough.{IsEnoughToAsk}
use Rattle.pc_run_laws.specs.Asking.{HasReadSizes, ReadSizesExist, enough_to_ask, EnoughByEntries}

-- ---- lists

filter_keeps : {X : Type 0} (P : X → Type 0) (test : X → Bool) (xs : List X) → ((x : X) → (test x ≡ true) ↔ P x) → IsFiltered P xs (filter test xs)
filter_keeps P test [] h = refl
filter_keeps {X = X} P test (x ∷ xs) h = by (test x) refl (filter_keeps P test xs h)
  where
    by : (b : Bool) → test x ≡ b → IsFiltered P xs (filter test xs) → IsFiltered P (x ∷ xs) (cond b (x ∷ filter test xs) (filter test xs))
    by true e rest = inr ((h x).0 e, filter test xs, refl, rest)
    by false e rest = inl (λ p. false≢true (sym e ∙ (h x).1 p), rest)

-- nothing passes both tests
filter_apart : {X : Type 0} (p q : X → Bool) (xs : List X) → ((x : X) → p x ≡ true → q x ≡ true → ⊥) → length (filter p xs) + length (filter q xs) ≤ length (filter (λ x. p x || q x) xs)
filter_apart p q [] apart = omega arith
filter_apart p q (x ∷ xs) apart = by (p x) (q x) (apart x) (filter_apart p q xs apart)
  where
    by : (b c : Bool) → (b ≡ true → c ≡ true → ⊥) → length (filter p xs) + length (filter q xs) ≤ length (filter (λ y. p y || q y) xs)
        → length (cond b (x ∷ filter p xs) (filter p xs)) + length (cond c (x ∷ filter q xs) (filter q xs)) ≤ length (cond (b || c) (x ∷ filter (λ y. p y || q y) xs) (filter (λ y. p y || q y) xs))
    by true true never rest = absurd (never refl refl)
    by true false never rest = omega (arith, rest)
    by false true never rest = omega (arith, rest)
    by false false never rest = rest

filter_few : {X : Type 0} (p : X → Bool) (xs : List X) → length (filter p xs) ≤ length xs
filter_few p [] = omega arith
filter_few p (x ∷ xs) = by (p x) (filter_few p xs)
  where
    by : (b : Bool) → length (filter p xs) ≤ length xs → length (cond b (x ∷ filter p xs) (filter p xs)) ≤ length (x ∷ xs)
    by true rest = omega (arith, rest)
    by false rest = omega (arith, rest)

-- ---- what a formula reads

module _ (sheet : Sheet) (f : Statement) where
  abbrev u : Universe
  u = sheet.universe

  abbrev AreReads : List ℕ → Type 0
  AreReads reads = (c : ℕ) → Contains reads c ↔ Reads u f c

  some_reads : IsWellFormed (asked sheet f) → (reads : List ℕ) × AreReads reads
  some_reads formed =
      let all : List (List ℕ) = map (cells_of u) (pieces (asked sheet f)) in
      let some = some_pieces sheet f (asked sheet f) refl in
      let reads = get_or all (length all - 1) [] in
      (reads, last_reads leaves_read_the_cells sheet f (asked sheet f) refl formed reads (slice_get-get_or all (length all - 1) [] (omega (arith, some))))

  module _ (formed : IsWellFormed sheet) (reads : List ℕ) (reads_are : AreReads reads) where
    abbrev is_read_part : Part → Bool
    is_read_part p = list_any (is_among reads) p.cells

    read_part : (p : Part) → (is_read_part p ≡ true) ↔ ReadsPart sheet f p
    read_part p = (
      λ h. let r = there_any (is_among reads) p.cells h in (r.0, r.1, (reads_are r.0).0 (among_contains reads r.0 r.2)),
      λ h. any_there (is_among reads) p.cells h.0 h.1 (contains_among reads h.0 ((reads_are h.0).1 h.2)),
    )

    abbrev read : List Part
    read = filter is_read_part (chosen_parts sheet)

    -- ---- entries

    abbrev is_on_some : List Part → Entry → Bool
    is_on_some ps e = list_any (λ (p : Part). is_on p.cells e) ps

    on_read : (e : Entry) → (is_on_some read e ≡ true) ↔ IsOnRead sheet f e
    on_read e = (
      λ is.
          let p = there_any (λ (p : Part). is_on p.cells e) read is in
          let known = kept_is is_read_part (chosen_parts sheet) p.0 p.1 in
          (p.0, known.0, (read_part p.0).0 known.1, among_contains p.0.cells e.cell.0 p.2),
      λ h. any_there (λ (p : Part). is_on p.cells e) read h.0 (kept is_read_part (chosen_parts sheet) h.0 h.1 ((read_part h.0).1 h.2)) (contains_among h.0.cells e.cell.0 h.3),
    )

    abbrev on : List Entry
    on = filter (is_on_some read) sheet.entries

    -- ---- sets

    abbrev IsExactOn : Part → List (List Entry) → Type 0
    IsExactOn part own = ListsExactly (List Entry) (IsMaximalSet (sheet_of sheet part)) own

    -- the same sheet without its rules, which aren't a part's
    abbrev ruleless : Sheet
    ruleless = record { universe = u; rules = []; entries = sheet.entries }

    ruleless_formed : IsWellFormed ruleless
    ruleless_formed = record { universe = formed.universe; rules = record { limit = omega arith; each = λ i d l. absurd (omega (arith, l)); different = λ i j d l m. absurd (omega (arith, m)) }; entries = formed.entries }

    ruleless_fits : AreRulesConsistent ruleless
    ruleless_fits = let a = some_assignment u formed.universe in (a.0, a.1, λ i d l. absurd (omega (arith, l)))

    own_sets : (part : Part) → (own : List (List Entry)) × IsExactOn part own × (length own ≤ 2 ^ length (entries_on part.cells sheet.entries))
    own_sets part =
        let found = sets_few ruleless ruleless_formed part in
        (found.0, record { exact = λ s. (λ has. ((found.1.exact s).0 has).1, λ is. (found.1.exact s).1 (ruleless_fits, is)); different = found.1.different }, found.2)

    sets_on : (ps : List Part) → (lists : List (List (List Entry))) × AllZip IsExactOn ps lists
    sets_on ps = zip_made IsExactOn ps (λ part c. let own = own_sets part in (own.0, own.1))

    as_many : (ps : List Part) (lists others : List (List (List Entry))) → AllZip IsExactOn ps lists → AllZip IsExactOn ps others → map length others ≡ map length lists
    as_many [] [] [] z w = refl
    as_many [] [] (m ∷ ms) z w = absurd w
    as_many [] (l ∷ ls) others z w = absurd z
    as_many (p ∷ ps) [] others z w = absurd z
    as_many (p ∷ ps) (l ∷ ls) [] z w = absurd w
    as_many (p ∷ ps) (l ∷ ls) (m ∷ ms) z w =
        ap (λ n. n ∷ map length ms) (exact_as_long (IsMaximalSet (sheet_of sheet p)) m l w.0 z.0) ∙ ap (λ ns. length l ∷ ns) (as_many ps ls ms z.1 w.1)

    -- nothing is on two parts
    on_apart : (p : Part) (ps : List Part) → AllPairs AreApart (p ∷ ps) → (e : Entry) → is_on p.cells e ≡ true → is_on_some ps e ≡ true → ⊥
    on_apart p ps apart e here later =
        let q = there_any (λ (r : Part). is_on r.cells e) ps later in
        apart_first p ps apart q.0 q.1 e.cell.0 (among_contains p.cells e.cell.0 here) (among_contains q.0.cells e.cell.0 q.2)

    few_choices : (ps : List Part) (lists : List (List (List Entry))) → AllPairs AreApart ps → AllZip IsExactOn ps lists → product (map length lists) ≤ 2 ^ length (filter (is_on_some ps) sheet.entries)
    few_choices [] [] apart z = one-le-pow (length (filter (is_on_some []) sheet.entries)) 2 (omega arith)
    few_choices [] (l ∷ ls) apart z = absurd z
    few_choices (p ∷ ps) [] apart z = absurd z
    few_choices (p ∷ ps) (l ∷ ls) apart z =
        let own = own_sets p in
        let here : ℕ = length (entries_on p.cells sheet.entries) in
        let later : ℕ = length (filter (is_on_some ps) sheet.entries) in
        let first : length l ≤ 2 ^ here = omega (arith, own.2, exact_as_long (IsMaximalSet (sheet_of sheet p)) l own.0 z.0 own.1) in
        let rest : product (map length ls) ≤ 2 ^ later = few_choices ps ls (apart_rest p ps apart) z.1 in
        let both : here + later ≤ length (filter (is_on_some (p ∷ ps)) sheet.entries) = filter_apart (is_on p.cells) (is_on_some ps) sheet.entries (on_apart p ps apart) in
        let wide : 2 ^ (here + later) ≤ 2 ^ length (filter (is_on_some (p ∷ ps)) sheet.entries) = pow-le-pow_right (omega arith) both in
        omega (arith, mul-le (length l) (product (map length ls)) (2 ^ here) (2 ^ later) first rest, pow-add 2 here later, wide)

    read_apart : AllPairs AreApart read
    read_apart =
        let division : IsDivision sheet (parts_of sheet) = parts_are_a_division sheet (parts_of sheet) formed (parts_are_found sheet formed) in
        AllPairs-filter AreApart is_read_part (chosen_parts sheet) (AllPairs-filter AreApart (has_entries sheet) (parts_of sheet) division.apart)

    pub sizes : HasReadSizes sheet f
    sizes =
        let all = sets_on read in
        record {
          entries = length on;
          sets = product (map length all.0);
          are = record {
            parts = read;
            read = filter_keeps (ReadsPart sheet f) is_read_part (chosen_parts sheet) read_part;
            lists = all.0;
            exact = all.1;
            sets_are = refl;
            on = on;
            on_read = filter_keeps (IsOnRead sheet f) (is_on_some read) sheet.entries on_read;
            entries_are = refl;
          };
          only = λ n m h.
              let parts_are : h.parts ≡ read = filtered_is (ReadsPart sheet f) is_read_part (chosen_parts sheet) h.parts (λ p c. read_part p) h.read in
              let exact : AllZip IsExactOn read h.lists = subst (λ ps. AllZip IsExactOn ps h.lists) parts_are h.exact in (
                h.entries_are ∙ ap length (filtered_is (IsOnRead sheet f) (is_on_some read) sheet.entries h.on (λ e c. on_read e) h.on_read),
                h.sets_are ∙ ap product (as_many read all.0 h.lists all.1 exact),
              );
          few_entries = filter_few (is_on_some read) sheet.entries;
          few_sets = few_choices read all.0 read_apart all.1;
        }

pub sizes_exist : ReadSizesExist
sizes_exist sheet f formed asked_formed = let reads = some_reads sheet f asked_formed in sizes sheet f formed reads.0 reads.1

-- ---- what is enough

more_calls : (v power sets entries n : ℕ) → entries ≤ n → sets ≤ 2 ^ entries → v * (power + (sets * (entries + 2) + 1)) ≤ v * (power + (2 ^ n * (n + 2) + 1))
more_calls v power sets entries n few few_sets =
    let wide : 2 ^ entries ≤ 2 ^ n = pow-le-pow_right (omega arith) few in
    let calls : sets * (entries + 2) ≤ 2 ^ n * (n + 2) = mul-le sets (entries + 2) (2 ^ n) (n + 2) (omega (arith, few_sets, wide)) (omega (arith, few)) in
    mul-le v (power + (sets * (entries + 2) + 1)) v (power + (2 ^ n * (n + 2) + 1)) (omega arith) (omega (arith, calls))

more_than_enough : (sheet : Sheet) (f : Statement) (budget n : ℕ) → (s : HasReadSizes sheet f) → s.entries ≤ n → enough_to_ask sheet f n ≤ budget → IsEnoughToAsk sheet f budget
more_than_enough sheet f budget n s few within =
    let v = variable_count (asked sheet f) in
    let less = more_calls v (3 ^ v) s.sets s.entries n few s.few_sets in
    (s.entries, s.sets, s.are, omega (arith, less, within))

pub enough_by_entries : EnoughByEntries
enough_by_entries = record {
  by_read = λ sheet f budget entries sets formed asked_formed are within.
      let s = sizes_exist sheet f formed asked_formed in
      let same = (s.only entries sets are).0 in
      more_than_enough sheet f budget entries s (omega (arith, same)) within;
  by_all = λ sheet f budget formed asked_formed within. let s = sizes_exist sheet f formed asked_formed in more_than_enough sheet f budget (length sheet.entries) s s.few_entries within;
}
