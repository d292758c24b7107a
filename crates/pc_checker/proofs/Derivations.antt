-- From the numbers in a scratch to the lines of a certificate.
use Rattle.std.proofs.Common.{◌≡◌, ℕ, zero, suc, ◌+◌, ◌-◌, ◌<◌, ◌↔◌, inl, inr, Bool, List, [], ◌∷◌, ◌++◌, map, length, get_or, All, Contains, refl, ap, sym, ◌∙◌, subst, arith}
use Rattle.std.proofs.lemmas.Bool.{cases_order}
use Rattle.std.proofs.lemmas.List.{length-map, get_or-map, get_or_append_left}
use Rattle.std.proofs.lemmas.List.Elements.{All-contains, All-head, All-tail, Contains-get_or}
use Rattle.pc_lits.specs.declared.literal.Lit.{Lit}
use Rattle.pc_lits.specs.Literals.{negated}
use Rattle.pc_lits.specs.Steps.{IsGoodStep}
use Rattle.pc_lits.proofs.LitLemmas.{same_parts}
use Rattle.pc_lits.proofs.Renamed.{good_step_named}
use Rattle.pc_lemmas.proofs.Elements.{contains_map, contains_mapped}
use Rattle.pc_lits.specs.Hints.{clauses_at}
use Rattle.pc_sheet.specs.Sheet.{Sheet}
use Rattle.pc_accept.specs.Literals.{Symbol, node, Literal, opposite}
use Rattle.pc_accept.specs.Accepts as accepts
use Rattle.pc_accept.specs.Accepts.{IsLineClauseBeside, EndsWithin}
use Rattle.pc_cert.specs.Written.{CertificatePart}
use Rattle.pc_cert.specs.Text.{line_of, lines_from}
use Rattle.pc_cert.specs.Views.{symbol_at, literal_of, AreSymbolsDistinct}
use Rattle.pc_cert.specs.ReadFor.{IsNamedIn}
use Rattle.pc_checker.specs.inside.Parts.{EndsAmong}
use Rattle.pc_checker.specs.Verdicts.{Numbered}

-- ---- names

module _ (names : List Symbol) (distinct : AreSymbolsDistinct names) where
  same_symbol : (i j : ℕ) → i < length names → j < length names → symbol_at names i ≡ symbol_at names j → i ≡ j
  same_symbol i j l m same = elim (cases_order i j) [
    | inl is ↦ is
    | inr (inl less) ↦ absurd (distinct i j less m same)
    | inr (inr more) ↦ absurd (distinct j i more l (sym same))
  ]

  pub names_differ : (x y : Lit) → IsNamedIn names x → IsNamedIn names y → literal_of names x ≡ literal_of names y → x ≡ y
  names_differ x y l m same =
      let what : Literal → Symbol = λ k. k.what in
      let sign : Literal → Bool = λ k. k.sign in
      same_parts x y (same_symbol x.variable.0 y.variable.0 l m (ap what same)) (ap sign same)

  names_at : (clauses : List (List Lit)) (places : List ℕ) → All (λ h. h < length clauses) places
      → map (map (literal_of names)) (clauses_at clauses places) ≡ clauses_at (map (map (literal_of names)) clauses) places
  names_at clauses [] within = refl
  names_at clauses (h ∷ hs) within =
      let first : map (literal_of names) (get_or clauses h []) ≡ get_or (map (map (literal_of names)) clauses) h [] =
      sym (get_or-map (map (literal_of names)) clauses h [] [] (All-head (λ h. h < length clauses) h hs within))
      in
      let rest = names_at clauses hs (All-tail (λ h. h < length clauses) h hs within) in
      ap (λ c. c ∷ map (map (literal_of names)) (clauses_at clauses hs)) first ∙ ap (λ cs. get_or (map (map (literal_of names)) clauses) h [] ∷ cs) rest

  hinted : (clauses : List (List Lit)) (places : List ℕ) → All (λ h. h < length clauses) places → All (All (IsNamedIn names)) clauses
      → (c : List Lit) → Contains (clauses_at clauses places) c → (l : Lit) → Contains c l → IsNamedIn names l
  hinted clauses places within ok c has l in' =
      let look : ℕ → List Lit = λ h. get_or clauses h [] in
      let h = contains_mapped look places c has in
      let there : h.0 < length clauses = All-contains (λ h. h < length clauses) places h.0 within h.1 in
      All-contains (IsNamedIn names) c l (subst (All (IsNamedIn names)) h.2 (ok h.0 [] there)) in'

  -- a good step by number is one by name, and back
  pub named_step : (clause : List Lit) (clauses : List (List Lit)) (places : List ℕ) → All (λ h. h < length clauses) places → All (IsNamedIn names) clause → All (All (IsNamedIn names)) clauses
      → IsGoodStep negated clause (clauses_at clauses places) ↔ IsGoodStep opposite (map (literal_of names) clause) (clauses_at (map (map (literal_of names)) clauses) places)
  named_step clause clauses places within ok ok_clauses =
      let both = good_step_named negated opposite (literal_of names) (IsNamedIn names) names_differ (λ x. refl) (λ x h. h) clause (clauses_at clauses places)
      (λ l has. All-contains (IsNamedIn names) clause l ok has) (hinted clauses places within ok_clauses)
      in
      let at = names_at clauses places within in (
        λ h. subst (IsGoodStep opposite (map (literal_of names) clause)) at (both.0 h),
        λ h. both.1 (subst (IsGoodStep opposite (map (literal_of names) clause)) (sym at) h),
      )

  -- the last clause is among the allowed literals by number exactly where it is by name
  pub ends_named : (clauses : List (List Lit)) (allowed : List Lit) → All (All (IsNamedIn names)) clauses → All (IsNamedIn names) allowed
      → EndsAmong clauses allowed ↔ EndsWithin (map (map (literal_of names)) clauses) (map (literal_of names) allowed)
  ends_named clauses allowed ok ok_allowed =
      let n = length-map clauses (map (literal_of names)) in
      let last = get_or clauses (length clauses - 1) [] in
      let at : 0 < length clauses → get_or (map (map (literal_of names)) clauses) (length (map (map (literal_of names)) clauses) - 1) [] ≡ map (literal_of names) last =
      λ some. ap (λ m. get_or (map (map (literal_of names)) clauses) (m - 1) []) n ∙ get_or-map (map (literal_of names)) clauses (length clauses - 1) [] [] (omega arith)
      in (
        λ h. record {
          some_line = omega (arith, n, h.0);
          within = λ l has.
              let x = contains_mapped (literal_of names) last l (subst (λ c. Contains c l) (at h.0) has) in
              subst (Contains (map (literal_of names) allowed)) x.2 (contains_map (literal_of names) allowed x.0 (All-contains (Contains allowed) last x.0 h.1 x.1));
        },
        λ h.
            let some : 0 < length clauses = omega (arith, n, h.some_line) in (
              some,
              λ k d l.
                  let x = get_or last k d in
                  let has : Contains (map (literal_of names) last) (literal_of names x) = contains_map (literal_of names) last x (Contains-get_or last k d l) in
                  let y = contains_mapped (literal_of names) allowed (literal_of names x) (h.within (literal_of names x) (subst (λ c. Contains c (literal_of names x)) (sym (at some)) has)) in
                  let there : IsNamedIn names x = ok (length clauses - 1) [] (omega arith) k d l in
                  subst (Contains allowed) (names_differ y.0 x (All-contains (IsNamedIn names) allowed y.0 ok_allowed y.1) there y.2) y.1,
            ),
      )

-- symbols keep their numbers where more are added
pub kept_names : (symbols more : List Symbol) (clause : List Lit) → All (IsNamedIn symbols) clause → map (literal_of symbols) clause ≡ map (literal_of (symbols ++ more)) clause
kept_names symbols more [] ok = refl
kept_names symbols more (l ∷ ls) ok =
    let here : symbol_at (symbols ++ more) l.variable.0 ≡ symbol_at symbols l.variable.0 = get_or_append_left symbols more (node 0 []) l.variable.0 (All-head (IsNamedIn symbols) l ls ok) in
    let make : Symbol → Literal = λ x. record { what = x; sign = l.sign } in
    let first : literal_of symbols l ≡ literal_of (symbols ++ more) l = ap make (sym here) in
    let rest = kept_names symbols more ls (All-tail (IsNamedIn symbols) l ls ok) in
    cc

-- ---- lines

pub length-lines_from : (i : ℕ) (ps : List (Numbered CertificatePart)) → length (lines_from i ps) ≡ length ps
length-lines_from i [] = refl
length-lines_from i (p ∷ ps) = ap suc (length-lines_from (i + 1) ps)

pub line_at : (i : ℕ) (ps : List (Numbered CertificatePart)) (k : ℕ) (d : Numbered CertificatePart) (e : accepts.Line) → k < length ps → get_or (lines_from i ps) k e ≡ line_of (i + k) (get_or ps k d).1
line_at i [] k d e within = absurd (omega arith)
line_at i (p ∷ ps) zero d e within = let n : ℕ → accepts.Line = λ n. line_of n p.1 in ap n (let same : i ≡ i + 0 = omega arith in same)
line_at i (p ∷ ps) (suc k) d e within =
    let n : ℕ → accepts.Line = λ n. line_of n (get_or ps k d).1 in
    line_at (i + 1) ps k d e (omega arith) ∙ ap n (let same : (i + 1) + k ≡ i + suc k = omega arith in same)

-- the clause of a line rests on the clauses of earlier lines alone
same_clauses : (cs ds : List (List Literal)) (i : ℕ) (hints : List ℕ) → ((j : ℕ) → j < i → get_or cs j [] ≡ get_or ds j []) → All (λ h. h < i) hints → clauses_at cs hints ≡ clauses_at ds hints
same_clauses cs ds i [] same all = refl
same_clauses cs ds i (h ∷ hs) same all =
    let first = same h (All-head (λ h. h < i) h hs all) in
    let rest = same_clauses cs ds i hs same (All-tail (λ h. h < i) h hs all) in
    cc

pub same_line : (sheet : Sheet) (blocks cs ds : List (List Literal)) (i : ℕ) (line : accepts.Line) (c : List Literal) → ((j : ℕ) → j < i → get_or cs j [] ≡ get_or ds j [])
    → IsLineClauseBeside sheet blocks cs i line c → IsLineClauseBeside sheet blocks ds i line c
same_line sheet blocks cs ds i (accepts.taken x) c same h = h
same_line sheet blocks cs ds i (accepts.derived e hints) c same h = (h.0, h.1, subst (IsGoodStep opposite e) (same_clauses cs ds i hints same h.1) h.2)
same_line sheet blocks cs ds i (accepts.blocked j) c same h = h
