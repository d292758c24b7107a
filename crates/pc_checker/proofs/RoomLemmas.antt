-- What room is made of: symbols in their order, and lines one after the other.
use Rattle.std.proofs.Common.{append-nil, Option, ◌≡◌, ℕ, ◌+◌, ◌<◌, inl, inr, Bool, false, List, [], ◌∷◌, ◌++◌, map, take, length, get_or, All, Contains, Some, slice_get, refl, ap, sym, ◌∙◌, subst, arith}
use Rattle.std.proofs.lemmas.Bool.{cases_order}
use Rattle.std.proofs.lemmas.List.{map_more, take-map, length-map, length-append, length-take-le, get_or-take, get_or-map, get_or_default, get_or_append_left, get_or_push}
use Rattle.std.proofs.lemmas.List.Elements.{All-weaker, All-push}
use Rattle.pc_sheet.specs.Sheet.{Sheet}
use Rattle.pc_lits.specs.declared.literal.Lit.{Lit}
use Rattle.pc_lits.specs.Values.{IsInRange}
use Rattle.pc_accept.specs.Literals.{Symbol, node, Literal}
use Rattle.pc_accept.specs.Axioms.{IsClauseOf, negated_entry}
use Rattle.pc_accept.specs.Accepts.{value_of_entry}
use Rattle.pc_axiom_names.specs.Views.{axiom_of}
use Rattle.pc_cert.specs.Text.{entry_said}
use Rattle.pc_cert.specs.Views.{said_of, symbol_of, symbol_at, AreSymbolsDistinct}
use Rattle.pc_cert.specs.declared.cert.Symbol.{Symbol as SymbolRead}
use Rattle.pc_cert.specs.declared.cert.Said.{Said}
use Rattle.pc_cert.specs.declared.cert.CertPart.{CertPart}
use Rattle.pc_cert.specs.declared.cert.CertPart.TheVariants.{Axiom, Step, Block}
use Rattle.pc_cert.specs.declared.cert.CertLine.{CertLine}
use Rattle.pc_cert.specs.ReadFor.{IsNamedIn, IsPartOver}
use Rattle.pc_checker.specs.LineClauses.{HasSame}
use Rattle.pc_checker.specs.Made.{IsPrepared, value_said}
use Rattle.pc_cert.specs.Keys.{IsNumberedAs}
use Rattle.pc_cert.specs.Numbered.{StartsWith}
use Rattle.pc_checker.specs.inside.Prepared.{IsLinePrepared, IsStepInRange, ArePrepared}
use Rattle.pc_checker.proofs.AxiomLemmas.{match_along}
use Rattle.pc_checker.proofs.SameClauses.{same_back, all_same}
use Rattle.pc_checker.proofs.DraftLemmas.{grows_on, named_still, names_still}

pub numbered_more : (symbols : List SymbolRead) (i : ℕ) (x : SymbolRead) (old new : List Symbol) (n : ℕ) → i < length symbols → x ≡ get_or symbols i x → AreSymbolsDistinct (map symbol_of symbols)
    → old ≡ map symbol_of (take i symbols) → IsNumberedAs old new (symbol_of x) n → new ≡ map symbol_of (take (i + 1) symbols)
numbered_more symbols i x old new n within is distinct so numbered =
    let all = map symbol_of symbols in
    let more : map symbol_of (take (i + 1) symbols) ≡ map symbol_of (take i symbols) ++ symbol_of x ∷ [] =
    map_more symbol_of symbols i x within ∙ ap (λ y. map symbol_of (take i symbols) ++ symbol_of y ∷ []) (sym is)
    in
    elim numbered.kept [
      | inr h ↦ h.1 ∙ ap (λ xs. xs ++ symbol_of x ∷ []) so ∙ sym more
      | inl h ↦
          let there : Contains (take i all) (symbol_of x) = subst (λ (xs : List Symbol). Contains xs (symbol_of x)) (so ∙ sym (take-map symbol_of i symbols)) h.0 in
          let k = there.0 in
          let enough : i < length all = omega (arith, length-map symbols symbol_of) in
          let less : k < i = omega (arith, there.1, length-take-le i all (omega arith)) in
          let first : symbol_at all k ≡ symbol_of x = get_or_default all k (node 0 []) (symbol_of x) (omega arith) ∙ sym (get_or-take i all k (symbol_of x) less) ∙ there.2 in
          let second : symbol_at all i ≡ symbol_of x = get_or-map symbol_of symbols i x (node 0 []) within ∙ ap symbol_of (sym is) in
          absurd (distinct k i less enough (first ∙ sym second))
    ]

pub uses_mapped : (uses : List Said) → map (λ (s : Said). negated_entry s.entry) uses ≡ map negated_entry (map entry_said (map said_of uses))
uses_mapped [] = refl
uses_mapped (s ∷ uses) = ap (λ ls. negated_entry s.entry ∷ ls) (uses_mapped uses)

pub values_mapped : (values : List Said) → map value_said values ≡ map value_of_entry (map entry_said (map said_of values))
values_mapped [] = refl
values_mapped (s ∷ values) = ap (λ vs. s.entry.value ∷ vs) (values_mapped values)

-- ---- lines

prepared_still : (sheet : Sheet) (blocks : List (List Literal)) (old new : List Symbol) (clause : List Lit) (good : Bool) (part : CertPart) → StartsWith old new → All (IsNamedIn old) clause → IsPrepared sheet blocks old clause good part → IsPrepared sheet blocks new clause good part
prepared_still sheet blocks old new clause good (Axiom a) g all is =
    match_along good _ _ _ _ (λ h. subst (IsClauseOf sheet (axiom_of a)) (names_still old new clause g all) h) (λ h. h) is
prepared_still sheet blocks old new clause good (Step c hints) g all is = is
prepared_still sheet blocks old new clause good (Block j) g all is =
    match_along good _ _ _ _ (λ h. subst (λ c. slice_get blocks j ≡ Some c) (names_still old new clause g all) h) (λ h. h) is

part_over : (sheet : Sheet) (old new : List Symbol) (part : CertPart) → StartsWith old new → IsPartOver sheet old part → IsPartOver sheet new part
part_over sheet old new (Axiom a) g over = over
part_over sheet old new (Step c hints) g over = named_still old new c.items g over
part_over sheet old new (Block j) g over = over

-- a line's part speaks of the sheet and of the symbols so far
pub line_over : (sheet : Sheet) (lines : List CertLine) (n : ℕ) (line : CertLine) (old new : List Symbol) → n < length lines → line ≡ get_or lines n line → StartsWith old new → All (λ l. IsPartOver sheet old l.part) lines
    → IsPartOver sheet new line.part
line_over sheet lines n line old new within is g over = part_over sheet old new line.part g (subst (λ (l : CertLine). IsPartOver sheet old l.part) (sym is) (over n line within))

part_in_range : (sheet : Sheet) (symbols : List Symbol) (marks : List (Option Bool)) (part : CertPart) → length marks ≡ length symbols → IsPartOver sheet symbols part → IsStepInRange marks part
part_in_range sheet symbols marks (Axiom a) count over = tt
part_in_range sheet symbols marks (Step c hints) count over = All-weaker (IsNamedIn symbols) (IsInRange marks) (λ l named. omega (arith, named, count)) c.items over
part_in_range sheet symbols marks (Block j) count over = tt

-- there is a mark for each of a line's variables
pub step_in_range : (sheet : Sheet) (lines : List CertLine) (n : ℕ) (line : CertLine) (symbols : List Symbol) (marks : List (Option Bool)) → n < length lines → line ≡ get_or lines n line → length marks ≡ length symbols
    → All (λ l. IsPartOver sheet symbols l.part) lines → IsStepInRange marks line.part
step_in_range sheet lines n line symbols marks within is count over =
    part_in_range sheet symbols marks line.part count (subst (λ (l : CertLine). IsPartOver sheet symbols l.part) (sym is) (over n line within))

-- a step is prepared by the same literals
pub step_prepared : (sheet : Sheet) (blocks : List (List Literal)) (names : List Symbol) (part step : CertPart) (c once : List Lit) (before after : List (List Lit)) → part ≡ step → All (IsNamedIn names) c
    → HasSame once c → IsPrepared sheet blocks names once false step → after ≡ before ++ once ∷ [] → IsLinePrepared sheet blocks part names names before after false
step_prepared sheet blocks names part step c once before after is over same prepared pushed =
    subst (λ p. IsLinePrepared sheet blocks p names names before after false) (sym is) (record {
      grows = ([], sym (append-nil names));
      clause = once;
      pushed = pushed;
      within = all_same (IsNamedIn names) c once (same_back once c same) over;
      prepared = prepared;
    })

pub prepared_more : (sheet : Sheet) (blocks : List (List Literal)) (lines : List CertLine) (n : ℕ) (line : CertLine) (symbols old new : List Symbol) (before after : List (List Lit)) (marks more : List Bool) (good : Bool) → n < length lines
    → line ≡ get_or lines n line → ArePrepared sheet blocks lines n symbols old before marks → IsLinePrepared sheet blocks line.part old new before after good → more ≡ marks ++ good ∷ []
    → ArePrepared sheet blocks lines (n + 1) symbols new after more
prepared_more sheet blocks lines n line symbols old new before after marks more good within is are one pushed =
    let count = are.count in
    let count_marks = are.marks in
    subst (λ bs. ArePrepared sheet blocks lines (n + 1) symbols new after bs) (sym pushed)
    (subst (λ cs. ArePrepared sheet blocks lines (n + 1) symbols new cs (marks ++ good ∷ [])) (sym one.pushed) (record {
      grows = grows_on symbols old new are.grows one.grows;
      count = omega (arith, length-append before (one.clause ∷ []));
      marks = omega (arith, length-append marks (good ∷ []));
      within = All-push (All (IsNamedIn new)) before one.clause (All-weaker (All (IsNamedIn old)) (All (IsNamedIn new)) (λ c all. named_still old new c one.grows all) before are.within) one.within;
      each = λ i d l. elim (cases_order i n) [
        | inl same ↦
            let clause : get_or (before ++ one.clause ∷ []) i [] ≡ one.clause = get_or_push before one.clause [] i (count ∙ sym same) in
            let mark : get_or (marks ++ good ∷ []) i false ≡ good = get_or_push marks good false i (count_marks ∙ sym same) in
            let here : line ≡ get_or lines i d = is ∙ get_or_default lines n line d within ∙ ap (λ j. get_or lines j d) (sym same) in
            let part_of_line : CertLine → CertPart = λ x. x.part in
            subst (λ c. IsPrepared sheet blocks new c (get_or (marks ++ good ∷ []) i false) (get_or lines i d).part) (sym clause)
            (subst (λ b. IsPrepared sheet blocks new one.clause b (get_or lines i d).part) (sym mark) (subst (IsPrepared sheet blocks new one.clause good) (ap part_of_line here) one.prepared))
        | inr (inl less) ↦
            let clause : get_or (before ++ one.clause ∷ []) i [] ≡ get_or before i [] = get_or_append_left before (one.clause ∷ []) [] i (omega arith) in
            let mark : get_or (marks ++ good ∷ []) i false ≡ get_or marks i false = get_or_append_left marks (good ∷ []) false i (omega arith) in
            subst (λ c. IsPrepared sheet blocks new c (get_or (marks ++ good ∷ []) i false) (get_or lines i d).part) (sym clause)
            (subst (λ b. IsPrepared sheet blocks new (get_or before i []) b (get_or lines i d).part) (sym mark)
            (prepared_still sheet blocks old new (get_or before i []) (get_or marks i false) (get_or lines i d).part one.grows (are.within i [] (omega arith)) (are.each i d less)))
        | inr (inr greater) ↦ absurd (omega arith)
      ];
    }))

-- lines that are prepared stay so where more symbols are numbered
pub prepared_grown : (sheet : Sheet) (blocks : List (List Literal)) (lines : List CertLine) (n : ℕ) (symbols old new : List Symbol) (clauses : List (List Lit)) (marks : List Bool) → StartsWith old new
    → ArePrepared sheet blocks lines n symbols old clauses marks → ArePrepared sheet blocks lines n symbols new clauses marks
prepared_grown sheet blocks lines n symbols old new clauses marks g are =
    let count = are.count in
    record {
      grows = grows_on symbols old new are.grows g;
      count = are.count;
      marks = are.marks;
      within = All-weaker (All (IsNamedIn old)) (All (IsNamedIn new)) (λ c all. named_still old new c g all) clauses are.within;
      each = λ i d l. prepared_still sheet blocks old new (get_or clauses i []) (get_or marks i false) (get_or lines i d).part g (are.within i [] (omega arith)) (are.each i d l);
    }
