-- The clauses of lines as they are written, from those that are stored.
use Rattle.std.proofs.Common.{◌≡◌, ℕ, zero, suc, ◌<◌, ◌≤◌, inl, inr, Bool, false, MatchBool, List, [], ◌∷◌, map, length, get_or, All, Some, slice_get, refl, ap, sym, ◌∙◌, subst, arith}
use Rattle.std.proofs.lemmas.Bool.{cases_order}
use Rattle.std.proofs.lemmas.List.{get_or_default, get_or_past}
use Rattle.pc_sheet.specs.Sheet.{Sheet}
use Rattle.pc_lits.specs.declared.literal.Lit.{Lit}
use Rattle.pc_accept.specs.Literals.{Symbol, Literal}
use Rattle.pc_accept.specs.Axioms.{IsClauseOf}
use Rattle.pc_axiom_names.specs.Views.{axiom_of}
use Rattle.pc_cert.specs.declared.cert.CertPart.{CertPart}
use Rattle.pc_cert.specs.declared.cert.CertPart.TheVariants.{Axiom, Step, Block}
use Rattle.pc_cert.specs.declared.cert.CertLine.{CertLine}
use Rattle.pc_cert.specs.Views.{literal_of}
use Rattle.pc_cert.specs.ReadFor.{IsNamedIn}
use Rattle.pc_checker.specs.LineClauses.{HasSame}
use Rattle.pc_checker.specs.Made.{IsPrepared}
use Rattle.pc_checker.proofs.SameClauses.{AreSame, same_itself, all_same}

-- a step's own literals, as often as it has each, and a clause of any other part
abbrev pub IsExact : Sheet → List (List Literal) → List Symbol → List Lit → Bool → CertPart → Type 0
IsExact sheet blocks names clause good (Axiom a) =
    MatchBool good (IsClauseOf sheet (axiom_of a) (map (literal_of names) clause)) ((c : List Literal) → ¬ IsClauseOf sheet (axiom_of a) c)
IsExact sheet blocks names clause good (Step c hints) = clause ≡ c.items
IsExact sheet blocks names clause good (Block j) =
    MatchBool good (slice_get blocks j ≡ Some (map (literal_of names) clause)) ((c : List Literal) → ¬ (slice_get blocks j ≡ Some c))

abbrev exact_clause : CertPart → List Lit → List Lit
exact_clause (Axiom a) stored = stored
exact_clause (Step c hints) stored = c.items
exact_clause (Block j) stored = stored

abbrev pub exact : List CertLine → List (List Lit) → List (List Lit)
exact [] clauses = []
exact (l ∷ ls) [] = []
exact (l ∷ ls) (c ∷ cs) = exact_clause l.part c ∷ exact ls cs

pub exact_count : (lines : List CertLine) (clauses : List (List Lit)) → length clauses ≡ length lines → length (exact lines clauses) ≡ length lines
exact_count [] clauses count = refl
exact_count (l ∷ ls) [] count = absurd (omega (arith, count))
exact_count (l ∷ ls) (c ∷ cs) count = ap suc (exact_count ls cs (omega (arith, count)))

exact_at : (lines : List CertLine) (clauses : List (List Lit)) (i : ℕ) (d : CertLine) → length clauses ≡ length lines → i < length lines → get_or (exact lines clauses) i [] ≡ exact_clause (get_or lines i d).part (get_or clauses i [])
exact_at [] clauses i d count less = absurd (omega (arith, less))
exact_at (l ∷ ls) [] i d count less = absurd (omega (arith, count))
exact_at (l ∷ ls) (c ∷ cs) zero d count less = refl
exact_at (l ∷ ls) (c ∷ cs) (suc i) d count less = exact_at ls cs i d (omega (arith, count)) (omega (arith, less))

module _ (sheet : Sheet) (blocks : List (List Literal)) (names : List Symbol) where
  clause_exact : (part : CertPart) (clause : List Lit) (good : Bool) → IsPrepared sheet blocks names clause good part → IsExact sheet blocks names (exact_clause part clause) good part
  clause_exact (Axiom a) clause good is = is
  clause_exact (Step c hints) clause good is = refl
  clause_exact (Block j) clause good is = is

  clause_same : (part : CertPart) (clause : List Lit) (good : Bool) → IsPrepared sheet blocks names clause good part → HasSame clause (exact_clause part clause)
  clause_same (Axiom a) clause good is = same_itself clause
  clause_same (Step c hints) clause good is = is
  clause_same (Block j) clause good is = same_itself clause

  abbrev AreAllPrepared : List CertLine → List (List Lit) → List Bool → Type 0
  AreAllPrepared lines clauses axioms = (i : ℕ) (d : CertLine) → i < length lines → IsPrepared sheet blocks names (get_or clauses i []) (get_or axioms i false) (get_or lines i d).part

  pub exact_each : (lines : List CertLine) (clauses : List (List Lit)) (axioms : List Bool) → length clauses ≡ length lines → AreAllPrepared lines clauses axioms
      → (i : ℕ) (d : CertLine) → i < length lines → IsExact sheet blocks names (get_or (exact lines clauses) i []) (get_or axioms i false) (get_or lines i d).part
  exact_each lines clauses axioms count each i d less =
      let part = (get_or lines i d).part in
      subst (λ c. IsExact sheet blocks names c (get_or axioms i false) part) (sym (exact_at lines clauses i d count less)) (clause_exact part (get_or clauses i []) (get_or axioms i false) (each i d less))

  here_same : (lines : List CertLine) (clauses : List (List Lit)) (axioms : List Bool) (i : ℕ) (d : CertLine) → length clauses ≡ length lines → AreAllPrepared lines clauses axioms → i < length lines
      → HasSame (get_or clauses i []) (get_or (exact lines clauses) i [])
  here_same lines clauses axioms i d count each less =
      subst (HasSame (get_or clauses i [])) (sym (exact_at lines clauses i d count less)) (clause_same (get_or lines i d).part (get_or clauses i []) (get_or axioms i false) (each i d less))

  pub exact_within : (lines : List CertLine) (clauses : List (List Lit)) (axioms : List Bool) (d : CertLine) → length clauses ≡ length lines → AreAllPrepared lines clauses axioms → All (All (IsNamedIn names)) clauses
      → All (All (IsNamedIn names)) (exact lines clauses)
  exact_within lines clauses axioms d count each within i e less =
      let many = exact_count lines clauses count in
      let there : i < length lines = omega (arith, less, many) in
      subst (All (IsNamedIn names)) (get_or_default (exact lines clauses) i [] e less)
      (all_same (IsNamedIn names) (get_or clauses i []) (get_or (exact lines clauses) i []) (here_same lines clauses axioms i d count each there) (within i [] (omega (arith, there, count))))

  pub exact_same : (lines : List CertLine) (clauses : List (List Lit)) (axioms : List Bool) (d : CertLine) → length clauses ≡ length lines → AreAllPrepared lines clauses axioms → AreSame clauses (exact lines clauses)
  exact_same lines clauses axioms d count each p =
      let full = exact lines clauses in
      let many = exact_count lines clauses count in
      let past : length lines ≤ p → HasSame (get_or clauses p []) (get_or full p []) = λ over.
      let one : get_or clauses p [] ≡ [] = get_or_past clauses p [] (omega (arith, over, count)) in
      let other : get_or full p [] ≡ [] = get_or_past full p [] (omega (arith, over, many)) in
      subst (HasSame (get_or clauses p [])) (one ∙ sym other) (same_itself (get_or clauses p []))
      in
      elim (cases_order p (length lines)) [
        | inl is ↦ past (omega arith)
        | inr (inl less) ↦ here_same lines clauses axioms p d count each less
        | inr (inr over) ↦ past (omega arith)
      ]
