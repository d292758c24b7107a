-- Entries that are marked by cell and value.
use Rattle.std.proofs.Common.{◌≡◌, ℕ, ◌+◌, ◌*◌, ◌<◌, ◌≤◌, ⊎_elim, Bool, true, false, List, [], ◌∷◌, ◌++◌, take, length, get_or, set, slice_get, All, Contains, Option, None, Some, replicate, map, sym, ap, ◌∙◌, subst, arith}
use Rattle.std.specs.List.{flat_map}
use Rattle.std.proofs.lemmas.Bool.{cases_eq}
use Rattle.std.proofs.lemmas.Option.{slice_get-get_or, slice_get_within, get_or_from_slice_get}
use Rattle.std.proofs.lemmas.List.{take_more, map-append, length-replicate, length-set, get_or-set_same, get_or-set_other}
use Rattle.std.proofs.lemmas.Simd.{get_or-replicate}
use Rattle.pc_lemmas.proofs.Elements.{contains_none}
use Rattle.std.proofs.lemmas.List.Elements.{All-nil, All-append, All-replicate, All-head, All-tail, All-weaker, Contains-push, Contains-push_cases, Contains-append_left}
use Rattle.pc_sheet.specs.Sheet.{Values, listed, range, Sort, Family, Universe, Sheet}
use Rattle.pc_sheet.specs.Sizes.{size_of, cells_in, count_of, values_of_sort}
use Rattle.pc_sheet.specs.Entailment.{cell_sizes}
use Rattle.pc_sheet.specs.WellFormed.{IsWellFormedUniverse, IsWellFormedFamily, IsDeclaredSort, AreWellFormedValues, IsEntryOf}
use Rattle.pc_sheet.specs.declared.ids.SortId.{SortId}
use Rattle.pc_sheet.specs.declared.ids.Entry.{Entry}
use Rattle.pc_checker.specs.Entered.{pair_place, HasPlace, HasEachPair, AreMarkedBy, ArePairsMarked, AreUsesMarked, HavePlaces, SetsHavePlaces}
use Rattle.pc_cert.specs.declared.cert.Said.{Said}
use Rattle.pc_cert.specs.declared.cert.SaidSet.{SaidSet}
use Rattle.pc_cert.specs.Views.{said_of}
use Rattle.pc_cert.specs.Text.{entry_said}
use Rattle.pc_cert.specs.ReadFor.{IsSaidOf, IsSetSaidOf}
use Rattle.pc_checker.specs.Made.{entries_of}
use Rattle.pc_checker.proofs.ClaimLemmas.{no_said, same_entry}
use Rattle.pc_lemmas.proofs.Options.{some_and}

-- ---- how many values a cell has

few_of : (v : Values) → AreWellFormedValues v → count_of v ≤ 256
few_of (listed names) formed = formed.1
few_of (range low high) formed = formed.3

few_in_sort : (u : Universe) (s : SortId) → IsWellFormedUniverse u → IsDeclaredSort u s → size_of u s ≤ 256
few_in_sort u s formed declared =
    let d : Sort = record { name = []; values = listed [] } in
    let at : slice_get u.sorts s.0 ≡ Some (get_or u.sorts s.0 d) = slice_get-get_or u.sorts s.0 d declared in
    subst (λ v. count_of v ≤ 256) (sym (ap values_of_sort at)) (few_of (get_or u.sorts s.0 d).values (formed.sorts s.0 d declared))

abbrev IsFew : ℕ → Type 0
IsFew n = n ≤ 256

few_in_families : (u : Universe) (families : List Family) → All (λ f. IsFew (size_of u f.result_sort)) families → All IsFew (flat_map (λ f. replicate (cells_in u f) (size_of u f.result_sort)) families)
few_in_families u [] each = All-nil IsFew
few_in_families u (f ∷ fs) each =
    All-append IsFew (replicate (cells_in u f) (size_of u f.result_sort)) (flat_map (λ g. replicate (cells_in u g) (size_of u g.result_sort)) fs)
    (All-replicate IsFew (cells_in u f) (size_of u f.result_sort) (All-head (λ (g : Family). IsFew (size_of u g.result_sort)) f fs each))
    (few_in_families u fs (All-tail (λ (g : Family). IsFew (size_of u g.result_sort)) f fs each))

few_values : (u : Universe) → IsWellFormedUniverse u → All IsFew (cell_sizes u)
few_values u formed =
    few_in_families u u.families
    (All-weaker (IsWellFormedFamily u) (λ (f : Family). IsFew (size_of u f.result_sort)) (λ f is. few_in_sort u f.result_sort formed is.result_sort) u.families formed.families)

-- an entry of the sheet has a place where each pair of the sheet has one
pub entry_has_place : {X : Type 0} (u : Universe) (marks : List X) (e : Entry) → IsWellFormedUniverse u → length marks ≡ length (cell_sizes u) * 256 → IsEntryOf u e → HasPlace marks e
entry_has_place u marks e formed count is =
    let size = some_and (slice_get (cell_sizes u) e.cell.0) (λ n. e.value.0 < n) is in
    let within : e.cell.0 < length (cell_sizes u) = slice_get_within (cell_sizes u) e.cell.0 size.0 size.1 in
    let few : get_or (cell_sizes u) e.cell.0 0 ≤ 256 = few_values u formed e.cell.0 0 within in
    let same : get_or (cell_sizes u) e.cell.0 0 ≡ size.0 = get_or_from_slice_get (cell_sizes u) e.cell.0 size.0 0 size.1 in
    let less : e.value.0 < size.0 = size.2 in
    record { value = omega (arith, few, same, less); within = omega (arith, few, same, less, within, count) }

pub entries_have_places : {X : Type 0} (u : Universe) (marks : List X) (entries : List Entry) → IsWellFormedUniverse u → length marks ≡ length (cell_sizes u) * 256 → All (IsEntryOf u) entries → All (HasPlace marks) entries
entries_have_places u marks entries formed count each = All-weaker (IsEntryOf u) (HasPlace marks) (λ e is. entry_has_place u marks e formed count is) entries each

-- the used entries of a certificate, or of its sets, likewise
pub uses_have_places : {X : Type 0} (sheet : Sheet) (marks : List X) (uses : List Said) → IsWellFormedUniverse sheet.universe → HasEachPair sheet marks → All (IsSaidOf sheet) uses → HavePlaces marks uses
uses_have_places sheet marks uses formed count each = All-weaker (IsSaidOf sheet) (λ (s : Said). HasPlace marks s.entry) (λ s is. entry_has_place sheet.universe marks s.entry formed count is) uses each

pub sets_have_places : {X : Type 0} (sheet : Sheet) (marks : List X) (sets : List SaidSet) → IsWellFormedUniverse sheet.universe → HasEachPair sheet marks → All (IsSetSaidOf sheet) sets → SetsHavePlaces marks sets
sets_have_places sheet marks sets formed count each =
    All-weaker (IsSetSaidOf sheet) (λ (s : SaidSet). HavePlaces marks s.uses.items) (λ s is. uses_have_places sheet marks s.uses.items formed count is.uses) sets each

pub still_has_place : {X : Type 0} (old new : List X) (e : Entry) → length new ≡ length old → HasPlace old e → HasPlace new e
still_has_place old new e same has = record { value = has.value; within = omega (arith, same, has.within) }

pub still_have_places : {X : Type 0} (old new : List X) (uses : List Said) → length new ≡ length old → HavePlaces old uses → HavePlaces new uses
still_have_places old new uses same each = All-weaker (λ (s : Said). HasPlace old s.entry) (λ (s : Said). HasPlace new s.entry) (λ s has. still_has_place old new s.entry same has) uses each

pub sets_still_have_places : {X : Type 0} (old new : List X) (sets : List SaidSet) → length new ≡ length old → SetsHavePlaces old sets → SetsHavePlaces new sets
sets_still_have_places old new sets same each =
    All-weaker (λ (s : SaidSet). HavePlaces old s.uses.items) (λ (s : SaidSet). HavePlaces new s.uses.items) (λ s has. still_have_places old new s.uses.items same has) sets each

-- ---- marks

-- one entry more
pub pair_push : {X : Type 0} (other mark : X) (es : List Entry) (x : Entry) (marks : List X) → HasPlace marks x → AreMarkedBy other mark es marks → AreMarkedBy other mark (es ++ x ∷ []) (set marks (pair_place x) mark)
pair_push {X} other mark es x marks room are e has_place =
    let after : List X = set marks (pair_place x) mark in
    let before : HasPlace marks e = record { value = has_place.value; within = omega (arith, has_place.within, length-set marks (pair_place x) mark) } in
    ⊎_elim
    (λ at_same.
    let here : get_or after (pair_place e) other ≡ mark = ap (λ i. get_or after i other) at_same ∙ get_or-set_same marks (pair_place x) mark other room.within in
    let same : x ≡ e = same_entry x e (omega (arith, at_same, has_place.value, room.value)) (omega (arith, at_same, has_place.value, room.value)) in (
      λ is. subst (λ (y : Entry). Contains (es ++ x ∷ []) y) same (Contains-push es x),
      λ has. here,
    ))
    (λ elsewhere.
    let kept : get_or after (pair_place e) other ≡ get_or marks (pair_place e) other = get_or-set_other marks (pair_place x) (pair_place e) mark other elsewhere in (
      λ is. Contains-append_left es (x ∷ []) e ((are e before).0 (sym kept ∙ is)),
      λ has. kept ∙ ⊎_elim ((are e before).1) (λ same. absurd (elsewhere (ap pair_place (sym same)))) (Contains-push_cases es x e has),
    ))
    (cases_eq (pair_place e) (pair_place x))

-- the next entry is marked
pub pair_more : (entries : List Entry) (i j : ℕ) (d : Entry) (marks : List Bool) → i < length entries → j ≡ pair_place (get_or entries i d) → HasPlace marks (get_or entries i d)
    → ArePairsMarked (take i entries) marks → ArePairsMarked (take (i + 1) entries) (set marks j true)
pair_more entries i j d marks within at room are =
    let x = get_or entries i d in
    subst (λ (n : ℕ). ArePairsMarked (take (i + 1) entries) (set marks n true)) (sym at)
    (subst (λ (es : List Entry). ArePairsMarked es (set marks (pair_place x) true)) (sym (take_more entries i d within)) (pair_push false true (take i entries) x marks room are))

-- ---- used entries

-- where nothing is marked
pub no_uses_marked : (n : ℕ) → AreUsesMarked [] (replicate n None)
no_uses_marked n e has_place =
    let none : get_or (replicate n None) (pair_place e) None ≡ None = get_or-replicate {A = Option Bool} n (pair_place e) None None (omega (arith, has_place.within, length-replicate {A = Option Bool} n None)) in
    (λ is. absurd (cc (none, is)), λ has. absurd (contains_none e has))

entries_more : (uses : List Said) (i : ℕ) → i < length uses → entries_of (take (i + 1) uses) ≡ entries_of (take i uses) ++ (get_or uses i no_said).entry ∷ []
entries_more uses i within =
    ap entries_of (take_more uses i no_said within)
    ∙ ap (map entry_said) (map-append said_of (take i uses) (get_or uses i no_said ∷ []))
    ∙ map-append entry_said (map said_of (take i uses)) (said_of (get_or uses i no_said) ∷ [])

-- the next used entry is marked
pub use_more : (uses : List Said) (i : ℕ) (before after : List (Option Bool)) → i < length uses → after ≡ set before (pair_place (get_or uses i no_said).entry) (Some true) → HasPlace before (get_or uses i no_said).entry
    → AreUsesMarked (entries_of (take i uses)) before → AreUsesMarked (entries_of (take (i + 1) uses)) after
use_more uses i before after within is room are =
    let x = (get_or uses i no_said).entry in
    subst (AreUsesMarked (entries_of (take (i + 1) uses))) (sym is)
    (subst (λ (es : List Entry). AreUsesMarked es (set before (pair_place x) (Some true))) (sym (entries_more uses i within))
    (pair_push None (Some true) (entries_of (take i uses)) x before room are))
