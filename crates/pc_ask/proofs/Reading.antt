-- What a statement reads of a sheet's parts.
use Rattle.std.proofs.Common.{◌≡◌, ◌↔◌, ℕ, zero, suc, ◌-◌, ◌≤◌, ◌==◌, inl, inr, Bool, true, false, List, [], ◌∷◌, ◌++◌, filter, length, map, None, Some, slice_get, AllPairs, Contains, arith, eqb-true, eq-eqb, ap, refl, sym, ◌∙◌, subst, zero-add}
use Rattle.std.specs.List.{AllZip, flat_map, list_any}
use Rattle.std.proofs.lemmas.Bool.{cases_Bool, cases_lt, false≢true}
use Rattle.std.proofs.lemmas.List.{length-map, map-append}
use Rattle.std.proofs.lemmas.List.Elements.{All-contains, Contains-append_right}
use Rattle.std.proofs.lemmas.List.Kept.{AllPairs-filter}
use Rattle.pc_lemmas.proofs.Elements.{all_from, contains_first, contains_map, contains_mapped, contains_none, flat_there, there_flat, kept, kept_is}
use Rattle.pc_laws.proofs.Contained.{sub_contained}
use Rattle.pc_laws.proofs.Different.{exact_as_long}
use Rattle.pc_sheet.specs.Sheet.{Universe, Sheet, Statement, negation}
use Rattle.pc_sheet.specs.Entailment.{cell_sizes, HasEntry, IsAssignment, IsConsistent, IsSublist, Fits, Shows}
use Rattle.pc_sheet.specs.MaximalSets.{ListsExactly, IsMaximalSet}
use Rattle.pc_sheet.specs.Sizes.{product}
use Rattle.pc_sheet.specs.WellFormed.{IsEntryOf, IsWellFormed}
use Rattle.pc_sheet.specs.declared.ids.CellId.{CellId}
use Rattle.pc_sheet.specs.declared.ids.ValueId.{ValueId}
use Rattle.pc_sheet.specs.declared.ids.Entry.{Entry}
use Rattle.pc_components.proofs.AskedLabels.{last_is, pieces_pushed}
use Rattle.pc_components.proofs.Assigned.{within_length}
use Rattle.pc_parts.specs.Pieces.{Piece, piece, pieces, ReadsCell}
use Rattle.pc_parts.specs.Parts.{Part, AreApart, IsDivision}
use Rattle.pc_parts.specs.Leaves.{LeavesReadTheCells, cells_of}
use Rattle.pc_parts.specs.Laws.{AreDivided, AgreeAt, TruthIsByReads}
use Rattle.pc_parts.specs.Components.{parts_of}
use Rattle.pc_parts.specs.PartSheets.{is_among, is_on, entries_on, sheet_of}
use Rattle.pc_parts.specs.Unions.{are_some, has_entries}
use Rattle.pc_parts.proofs.Consistent.{has_entry_still, part_of}
use Rattle.pc_parts.proofs.Divided.{same_part}
use Rattle.pc_parts.proofs.Joining.{among_contains, contains_among, lacks_among, overlaid, overlaid_within, overlaid_here, overlaid_there}
use Rattle.pc_world_list.specs.Worlds.{set_of}
use Rattle.pc_world_list.specs.Choices.{cell_number}
use Rattle.pc_world_list.specs.Chosen.{chosen_parts}
use Rattle.pc_reason.specs.Fitting.{IsFitting}
use Rattle.pc_accept.specs.Asked.{EntailsStatement, asked}
use Rattle.pc_repairs.specs.inside.Joining.{IsPartSets, joined_by, many_sets}
use Rattle.pc_repairs.specs.declared.part_sets.PartSets.{PartSets}
use Rattle.pc_ask.specs.Asking.{AreReadSizes, IsOnRead, Reads, ReadsPart}
use Rattle.pc_ask.specs.inside.Reading.{is_cell_of, is_on_some, is_read}
use Rattle.pc_ask.proofs.Lists.{any_mapped, any_there, filtered_is, there_any, zip_along, zip_filtered, zip_there}
use Rattle.pc_ask.proofs.Chosen.{division_is, divided_is, joined_fit, joined_has, joined_many}

-- ---- the last piece of an asked sheet

last_reads_there : LeavesReadTheCells → (sheet : Sheet) (f : Statement) → IsWellFormed (asked sheet f) → (reads : List ℕ)
    → slice_get (map (cells_of sheet.universe) (pieces (asked sheet f))) (length (map (cells_of sheet.universe) (pieces (asked sheet f))) - 1) ≡ Some reads → (c : ℕ) → Contains reads c ↔ Reads sheet.universe f c
last_reads_there leaves sheet f formed reads at c =
    let u : Universe = sheet.universe in
    let pushed = pieces_pushed u f 0 sheet.rules in
    let last : Piece = piece pushed.0 [] [] (negation f) in
    let is : map (cells_of u) (pieces (asked sheet f)) ≡ map (cells_of u) (pieces sheet) ++ cells_of u last ∷ [] = ap (map (cells_of u)) pushed.1 ∙ map-append (cells_of u) (pieces sheet) (last ∷ []) in
    let same : cells_of u last ≡ reads = last_is (map (cells_of u) (pieces sheet)) (map (cells_of u) (pieces (asked sheet f))) (cells_of u last) reads is at in
    let there : Contains (pieces (asked sheet f)) last = subst (λ ps. Contains ps last) (sym pushed.1) (Contains-append_right (pieces sheet) (last ∷ []) last (contains_first last [])) in
    subst (λ cells. Contains cells c ↔ Reads u f c) same (leaves (asked sheet f) formed last there c)

pub last_reads : LeavesReadTheCells → (sheet : Sheet) (f : Statement) (book : Sheet) → book ≡ asked sheet f → IsWellFormed book → (reads : List ℕ)
    → slice_get (map (cells_of book.universe) (pieces book)) (length (map (cells_of book.universe) (pieces book)) - 1) ≡ Some reads → (c : ℕ) → Contains reads c ↔ Reads sheet.universe f c
last_reads leaves sheet f book is formed reads at =
    last_reads_there leaves sheet f (subst IsWellFormed is formed) reads (subst (λ (b : Sheet). slice_get (map (cells_of b.universe) (pieces b)) (length (map (cells_of b.universe) (pieces b)) - 1) ≡ Some reads) is at)

-- ---- beyond an assignment

none_beyond : (xs : List ValueId) (i : ℕ) → length xs ≤ i → slice_get xs i ≡ None
none_beyond [] i more = refl
none_beyond (x ∷ xs) zero more = absurd (omega (arith, more))
none_beyond (x ∷ xs) (suc i) more = none_beyond xs i (omega (arith, more))

some_entry : (es : List Entry) (e : Entry) → Contains es e → are_some es ≡ true
some_entry [] e c = absurd (contains_none e c)
some_entry (x ∷ xs) e c = refl

-- ---- the parts that are read

module _ (sheet : Sheet) (formed : IsWellFormed sheet) (fitting : List ValueId) (fit : IsFitting sheet fitting) (f : Statement) (reads : List ℕ) (reads_are : (c : ℕ) → Contains reads c ↔ Reads sheet.universe f c) where
  abbrev sizes : List ℕ
  sizes = cell_sizes sheet.universe

  abbrev parts : List Part
  parts = parts_of sheet

  division : IsDivision sheet (parts_of sheet)
  division = division_is sheet formed fitting fit

  divided : AreDivided sheet (parts_of sheet)
  divided = divided_is sheet formed fitting fit

  abbrev is_read_part : Part → Bool
  is_read_part p = list_any (is_among reads) p.cells

  read_part : (p : Part) → (is_read_part p ≡ true) ↔ ReadsPart sheet f p
  read_part p = (
    λ h. let r = there_any (is_among reads) p.cells h in (r.0, r.1, (reads_are r.0).0 (among_contains reads r.0 r.2)),
    λ h. any_there (is_among reads) p.cells h.0 h.1 (contains_among reads h.0 ((reads_are h.0).1 h.2)),
  )

  module _ (qs : List PartSets) (zip : AllZip (IsPartSets sheet) (chosen_parts sheet) qs) where
    abbrev read : List Part
    read = filter is_read_part (chosen_parts sheet)

    abbrev sets : List PartSets
    sets = filter (is_read reads) qs

    abbrev all : List (List ValueId)
    all = joined_by fitting sets

    part_same : (p : Part) (q : PartSets) → IsPartSets sheet p q → is_read_part p ≡ is_read reads q
    part_same p q are = ap (list_any (is_among reads)) (sym are.cells_are) ∙ any_mapped (is_among reads) cell_number q.cells.now

    read_zip : AllZip (IsPartSets sheet) read sets
    read_zip = zip_filtered (IsPartSets sheet) is_read_part (is_read reads) part_same (chosen_parts sheet) qs zip

    read_there : (p : Part) → Contains read p → Contains parts p
    read_there p c = (kept_is (has_entries sheet) parts p (kept_is is_read_part (chosen_parts sheet) p c).0).0

    read_apart : AllPairs AreApart read
    read_apart = AllPairs-filter AreApart is_read_part (chosen_parts sheet) (AllPairs-filter AreApart (has_entries sheet) parts division.apart)

    -- the part of a cell of one of the parts' sets
    on_part : (e : Entry) → is_on_some sets e ≡ true → (p : Part) × Contains read p × Contains p.cells e.cell.0
    on_part e is =
        let q = there_any (is_cell_of e.cell) sets is in
        let p = zip_there (IsPartSets sheet) read sets read_zip q.0 q.1 in
        let d = there_any (λ (d : CellId). d.0 == e.cell.0) q.0.cells.now q.2 in
        (p.0, p.1, subst (λ ns. Contains ns e.cell.0) p.2.cells_are (subst (Contains (map cell_number q.0.cells.now)) (eqb-true d.0.0 e.cell.0 d.2) (contains_map cell_number q.0.cells.now d.0 d.1)))

    on_read : (e : Entry) → (is_on_some sets e ≡ true) ↔ IsOnRead sheet f e
    on_read e = (
      λ is.
          let p = on_part e is in
          let known = kept_is is_read_part (chosen_parts sheet) p.0 p.1 in
          (p.0, known.0, (read_part p.0).0 known.1, p.2),
      λ h.
          let q = zip_along (IsPartSets sheet) read sets read_zip h.0 (kept is_read_part (chosen_parts sheet) h.0 h.1 ((read_part h.0).1 h.2)) in
          let d = contains_mapped cell_number q.0.cells.now e.cell.0 (subst (λ ns. Contains ns e.cell.0) (sym q.2.cells_are) h.3) in
          any_there (is_cell_of e.cell) sets q.0 q.1 (any_there (λ (d : CellId). d.0 == e.cell.0) q.0.cells.now d.0 d.1 (eq-eqb d.0.0 e.cell.0 d.2)),
    )

    -- ---- how many there are

    abbrev IsExactOn : Part → List (List Entry) → Type 0
    IsExactOn part own = ListsExactly (List Entry) (IsMaximalSet (sheet_of sheet part)) own

    many_same : (ps : List Part) (lists : List (List (List Entry))) (rs : List PartSets) → AllZip IsExactOn ps lists → AllZip (IsPartSets sheet) ps rs → map length lists ≡ map many_sets rs
    many_same [] [] [] z w = refl
    many_same [] [] (r ∷ rs) z w = absurd w
    many_same [] (l ∷ ls) rs z w = absurd z
    many_same (p ∷ ps) [] rs z w = absurd z
    many_same (p ∷ ps) (l ∷ ls) [] z w = absurd w
    many_same (p ∷ ps) (l ∷ ls) (r ∷ rs) z w =
        ap (λ n. n ∷ map length ls) (exact_as_long (IsMaximalSet (sheet_of sheet p)) l (map set_of r.sets.now) z.0 w.0.exact.sets ∙ length-map r.sets.now set_of)
        ∙ ap (λ ns. many_sets r ∷ ns) (many_same ps ls rs z.1 w.1)

    pub many_entries : (entries many : ℕ) → AreReadSizes sheet f entries many → entries ≡ length (filter (is_on_some sets) sheet.entries)
    many_entries entries many h = h.entries_are ∙ ap length (filtered_is (IsOnRead sheet f) (is_on_some sets) sheet.entries h.on (λ e c. on_read e) h.on_read)

    pub many_choices : (entries many : ℕ) → AreReadSizes sheet f entries many → many ≡ length all
    many_choices entries many h =
        let same : h.parts ≡ read = filtered_is (ReadsPart sheet f) is_read_part (chosen_parts sheet) h.parts (λ p c. read_part p) h.read in
        h.sets_are ∙ (ap product (many_same read h.lists sets (subst (λ ps. AllZip IsExactOn ps h.lists) same h.exact) read_zip) ∙ sym (joined_many fitting sets))

    -- ---- the assignments

    pub all_fit : (a : List ValueId) → Contains all a → IsAssignment sheet.universe a × Fits sheet a
    all_fit a c = joined_fit sheet formed fitting fit read sets read_there read_zip a c

    pub all_cover : (t : List Entry) → IsSublist sheet.entries t → IsConsistent sheet t → (a : List ValueId) × Contains all a × ((e : Entry) → Contains t e → is_on_some sets e ≡ true → HasEntry a e)
    all_cover t sub consistent =
        let h = joined_has sheet formed fitting fit t sub consistent read sets read_there read_apart read_zip in
        (h.0, h.1, λ e c is. let p = on_part e is in h.2 p.0 p.1 e c p.2)

    -- ---- entries elsewhere say nothing

    abbrev cells_in : Part → List ℕ
    cells_in p = p.cells

    abbrev read_cells : List ℕ
    read_cells = flat_map cells_in (filter is_read_part parts)

    cell_read : (p : Part) → Contains parts p → is_read_part p ≡ true → (x : ℕ) → Contains p.cells x → Contains read_cells x
    cell_read p there is x on = flat_there cells_in (filter is_read_part parts) p x (kept is_read_part parts p there is) on

    cell_unread : (p : Part) → Contains parts p → is_read_part p ≡ false → (x : ℕ) → Contains p.cells x → ¬ Contains read_cells x
    cell_unread p there lacks x on c =
        let q = there_flat cells_in (filter is_read_part parts) x c in
        let known = kept_is is_read_part parts q.0 q.1 in
        let same : q.0 ≡ p = same_part parts division.apart q.0 p known.0 there x q.2 on in
        false≢true (sym lacks ∙ (ap is_read_part (sym same) ∙ known.1))

    module _ (t : List Entry) (sub : IsSublist sheet.entries t) (b : List ValueId) (shown : Shows sheet t b) (a : List ValueId) (shows : Shows sheet (filter (is_on_some sets) t) a) where
      abbrev over : List ValueId
      over = overlaid read_cells 0 a b

      over_assigns : IsAssignment sheet.universe over
      over_assigns = overlaid_within sizes read_cells 0 a b shows.assigns shown.assigns

      over_here : (x : ℕ) → Contains read_cells x → slice_get over x ≡ slice_get a x
      over_here x c = overlaid_here sizes read_cells 0 a b x shows.assigns shown.assigns (ap (is_among read_cells) (zero-add x) ∙ contains_among read_cells x c)

      over_there : (x : ℕ) → ¬ Contains read_cells x → slice_get over x ≡ slice_get b x
      over_there x off = overlaid_there sizes read_cells 0 a b x shows.assigns shown.assigns (ap (is_among read_cells) (zero-add x) ∙ lacks_among read_cells x off)

      over_fits : Fits sheet over
      over_fits = (divided.fits over).1 (λ p there. elim (cases_Bool (is_read_part p)) [
        | inl is ↦ divided.own p there a over shows.assigns (λ x on. sym (over_here x (cell_read p there is x on))) ((divided.fits a).0 shows.fits p there)
        | inr lacks ↦ divided.own p there b over shown.assigns (λ x on. sym (over_there x (cell_unread p there lacks x on))) ((divided.fits b).0 shown.fits p there)
      ])

      over_entry : (e : Entry) → Contains t e → HasEntry over e
      over_entry e c =
          let entered = sub_contained sheet.entries t sub e c in
          let found = part_of sheet parts division e (All-contains (IsEntryOf sheet.universe) sheet.entries e formed.entries.each entered) in
          let p : Part = found.0 in
          let on = among_contains p.cells e.cell.0 found.2 in
          elim (cases_Bool (is_read_part p)) [
            | inl is ↦
                let chosen = kept (has_entries sheet) parts p found.1 (some_entry (entries_on p.cells sheet.entries) e (kept (is_on p.cells) sheet.entries e entered found.2)) in
                let counts = (on_read e).1 (p, chosen, (read_part p).0 is, on) in
                has_entry_still a over e (sym (over_here e.cell.0 (cell_read p found.1 is e.cell.0 on))) (All-contains (HasEntry a) (filter (is_on_some sets) t) e shows.has (kept (is_on_some sets) t e c counts))
            | inr lacks ↦ has_entry_still b over e (sym (over_there e.cell.0 (cell_unread p found.1 lacks e.cell.0 on))) (All-contains (HasEntry b) t e shown.has c)
          ]

      over_shows : Shows sheet t over
      over_shows = record { assigns = over_assigns; fits = over_fits; has = all_from (HasEntry over) t over_entry }

      over_read : AgreeAt (ReadsCell sheet.universe (piece 0 [] [] f)) over a
      over_read x is = elim (cases_lt x (length sizes)) [
        | inl low ↦
            let p = division.every_cell x low in
            over_here x (cell_read p.0 p.1 ((read_part p.0).1 (x, p.2, is)) x p.2)
        | inr high ↦
            none_beyond over x (omega (arith, within_length sizes over over_assigns, high)) ∙ sym (none_beyond a x (omega (arith, within_length sizes a shows.assigns, high)))
      ]

    pub reading : TruthIsByReads → (t : List Entry) → IsSublist sheet.entries t → IsConsistent sheet t → EntailsStatement sheet t f → EntailsStatement sheet (filter (is_on_some sets) t) f
    reading by_reads t sub (b, shown) entails a shows =
        (by_reads sheet.universe (piece 0 [] [] f) (over t sub b shown a shows) a (over_assigns t sub b shown a shows) (over_read t sub b shown a shows)).0
        (entails (over t sub b shown a shows) (over_shows t sub b shown a shows))
