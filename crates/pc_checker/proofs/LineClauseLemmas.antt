-- Clauses that stand at many places.
use Rattle.std.proofs.Common.{◌≡◌, ℕ, ◌<◌, Bool, false, List, [], ◌∷◌, ◌++◌, map, length, get_or, MatchBool, IfSome, IfNone, Option, None, Some, append-nil, slice_get, refl, ap, sym, ◌∙◌, subst, arith}
use Rattle.std.proofs.lemmas.List.{map-append, get_or-map, get_or_append_left, get_or_push, length-map}
use Rattle.std.proofs.lemmas.List.Elements.{All-head, All-tail}
use Rattle.std.proofs.lemmas.Option.{slice_get-get_or}
use Rattle.pc_lits.specs.declared.literal.Lit.{Lit}
use Rattle.pc_sheet.specs.Sheet.{Sheet}
use Rattle.pc_accept.specs.Literals.{Symbol, Literal}
use Rattle.pc_accept.specs.Axioms.{IsClauseOf}
use Rattle.pc_cert.specs.declared.cert.CertPart.{CertPart}
use Rattle.pc_cert.specs.declared.cert.CertPart.TheVariants.{Axiom, Step, Block}
use Rattle.pc_cert.specs.declared.cert.CertLine.{CertLine}
use Rattle.pc_checker.specs.LineClauses.{AreStored, TakeSame, clauses_by}
use Rattle.pc_checker.specs.Made.{IsPrepared}
use Rattle.pc_cert.specs.Views.{literal_of}
use Rattle.pc_checker.specs.inside.Prepared.{IsLinePrepared, IsRepeated, ArePrepared}

-- clauses that are stored later change nothing
stays : (stored more : List (List Lit)) (places : List ℕ) → AreStored stored places → clauses_by (stored ++ more) places ≡ clauses_by stored places
stays stored more [] within = refl
stays stored more (p ∷ ps) within =
    let P : ℕ → Type 0 = λ place. place < length stored in
    let here : get_or (stored ++ more) p [] ≡ get_or stored p [] = get_or_append_left stored more [] p (All-head P p ps within) in
    let rest = stays stored more ps (All-tail P p ps within) in
    λ i. here i ∷ rest i

pub one_pushed : (stored after : List (List Lit)) (places more : List ℕ) (clause : List Lit) (place : ℕ) → AreStored stored places → after ≡ stored ++ clause ∷ [] → place ≡ length stored → more ≡ places ++ place ∷ []
    → clauses_by after more ≡ clauses_by stored places ++ clause ∷ []
one_pushed stored after places more clause place within is last pushed =
    let new = stored ++ clause ∷ [] in
    let at : List (List Lit) → ℕ → List Lit = λ s p. get_or s p [] in
    let here : get_or new place [] ≡ clause = get_or_push stored clause [] place (sym last) in
    ap (λ s. clauses_by s more) is ∙ ap (clauses_by new) pushed ∙ map-append (at new) places (place ∷ [])
    ∙ ap (λ cs. cs ++ get_or new place [] ∷ []) (stays stored (clause ∷ []) places within) ∙ ap (λ c. clauses_by stored places ++ c ∷ []) here

pub one_repeated : (stored : List (List Lit)) (places more : List ℕ) (i place : ℕ) → i < length places → place ≡ get_or places i place → more ≡ places ++ place ∷ []
    → clauses_by stored more ≡ clauses_by stored places ++ get_or (clauses_by stored places) i [] ∷ []
one_repeated stored places more i place l is pushed =
    let at : ℕ → List Lit = λ p. get_or stored p [] in
    let same : get_or (clauses_by stored places) i [] ≡ at place = get_or-map at places i place [] l ∙ ap at (sym is) in
    ap (clauses_by stored) pushed ∙ map-append at places (place ∷ []) ∙ ap (λ c. clauses_by stored places ++ c ∷ []) (sym same)

pub clause_got : (stored : List (List Lit)) (places : List ℕ) (i place : ℕ) (clause : List Lit) → i < length places → place ≡ get_or places i place → place < length stored → slice_get stored place ≡ Some clause → slice_get (clauses_by stored places) i ≡ Some clause
clause_got stored places i place clause l is within found =
    let at : ℕ → List Lit = λ p. get_or stored p [] in
    let many : length (clauses_by stored places) ≡ length places = length-map places at in
    slice_get-get_or (clauses_by stored places) i [] (omega (arith, l, many)) ∙ ap Some (get_or-map at places i place [] l ∙ ap at (sym is)) ∙ sym (slice_get-get_or stored place [] within) ∙ found

-- ---- lines that take the same axiom

same_prepared : (sheet : Sheet) (blocks : List (List Literal)) (names : List Symbol) (clause : List Lit) (good : Bool) (p q : CertPart) → TakeSame p q → IsPrepared sheet blocks names clause good p → IsPrepared sheet blocks names clause good q
same_prepared sheet blocks names clause good (Axiom a) (Axiom b) same is = subst (λ x. MatchBool good (IsClauseOf sheet x (map (literal_of names) clause)) ((c : List Literal) → ¬ IsClauseOf sheet x c)) same is
same_prepared sheet blocks names clause good (Axiom a) (Step c hints) same is = absurd same
same_prepared sheet blocks names clause good (Axiom a) (Block j) same is = absurd same
same_prepared sheet blocks names clause good (Step c hints) q same is = absurd same
same_prepared sheet blocks names clause good (Block i) (Axiom a) same is = absurd same
same_prepared sheet blocks names clause good (Block i) (Step c hints) same is = absurd same
same_prepared sheet blocks names clause good (Block i) (Block j) same is = subst (λ x. IsPrepared sheet blocks names clause good (Block x)) same is

-- a line is prepared, by itself or as an earlier one
pub place_prepared : (sheet : Sheet) (blocks : List (List Literal)) (lines : List CertLine) (n : ℕ) (line : CertLine) (earlier : Option ℕ) (symbols old new : List Symbol) (before after : List (List Lit)) (marks : List Bool) (good : Bool) → line ≡ get_or lines n line
    → ArePrepared sheet blocks lines n symbols old before marks → IfSome earlier (λ j. (j < n) × ((d : CertLine) → TakeSame (get_or lines j d).part (get_or lines n d).part))
    → IfNone earlier (IsLinePrepared sheet blocks line.part old new before after good) → IfSome earlier (λ j. IsRepeated j marks old new before after good) → IsLinePrepared sheet blocks line.part old new before after good
place_prepared sheet blocks lines n line None symbols old new before after marks good is are same by_itself repeated = by_itself
place_prepared sheet blocks lines n line (Some j) symbols old new before after marks good is are same by_itself repeated =
    let count = are.count in
    let clause = get_or before j [] in
    let part_of_line : CertLine → CertPart = λ x. x.part in
    let takes : TakeSame (get_or lines j line).part line.part = subst (TakeSame (get_or lines j line).part) (ap part_of_line (sym is)) (same.1 line) in
    let stood : IsPrepared sheet blocks old clause good line.part =
    subst (λ b. IsPrepared sheet blocks old clause b line.part) (sym repeated.mark) (same_prepared sheet blocks old clause (get_or marks j false) (get_or lines j line).part line.part takes (are.each j line same.0))
    in
    subst (λ names. IsLinePrepared sheet blocks line.part old names before after good) (sym repeated.symbols) (record {
      grows = ([], sym (append-nil old));
      clause = clause;
      pushed = repeated.pushed;
      within = are.within j [] (omega (arith, same.0, count));
      prepared = stood;
    })
