-- Banned literals: what is true where some variables have no value, and which logs have none.
use Rattle.std.proofs.Common.{◌≡◌, ◌⊎◌, inl, inr, ℕ, ◌<◌, Bool, true, false, not, ◌&&◌, List, [], ◌∷◌, ◌++◌, Option, Some, None, IsNone, IsSome, AllPairs, Contains, cond, eqb, length, take, refl, sym, ap, ◌∙◌, subst, slice_get, slice_index_or, arith}
use Rattle.std.specs.Bool.{OnFalse}
use Rattle.std.proofs.Math.Bool.{beq}
use Rattle.std.proofs.lemmas.Bool.{cases_Bool, and_parts, and_from, eqb-true, eq-eqb, false≢true}
use Rattle.std.proofs.lemmas.List.{get_or-take, length-take}
use Rattle.std.proofs.lemmas.List.Elements.{Contains-append_left, Contains-append_right, Contains-append_cases}
use Rattle.std.proofs.lemmas.Option.{get_or_from_slice_get, slice_get_within, slice_get-get_or}
use Rattle.pc_lits.specs.declared.literal.Var.{Var}
use Rattle.pc_lits.specs.declared.literal.Lit.{Lit}
use Rattle.pc_lits.specs.Literals.{negated}
use Rattle.pc_lits.specs.Truth.{lit_true}
use Rattle.pc_lits.specs.Values.{MakesTrue}
use Rattle.pc_lits.proofs.LitLemmas.{same_parts}
use Rattle.pc_lits.proofs.Sound.{true_literal, true_by}
use Rattle.pc_lemmas.proofs.Elements.{contains_first, contains_later, contains_cases, contains_none, contains_map, contains_mapped}
use Rattle.pc_log.specs.declared.log.StepId.{StepId}
use Rattle.pc_log.specs.Lines.{LogLine, StepLine}
use Rattle.pc_propagate.specs.declared.trail.TrailEntry.{TrailEntry}
use Rattle.pc_propagate.specs.Entries.{literals, falses, HasValue, Differ}
use Rattle.pc_propagate.specs.Propagation.{IsSettled}
use Rattle.pc_propagate.proofs.PlaceLemmas.{known_by_false, not_both, false_at_is}
use Rattle.pc_analyze.specs.FirstPoint.{IsBannedAt}
use Rattle.pc_analyze.proofs.PointLemmas.{nothing_banned}
use Rattle.pc_solver.specs.Answers.{truth_in}
use Rattle.pc_solver.specs.Banned.{banned_sign, HasNoBanned, AvoidBanned, AreAskable, IsLone, AreLone, is_valued, signed, unset_banned, trues_of}
use Rattle.pc_solver.specs.inside.Banning.{AreSet}
use Rattle.pc_solver.specs.inside.Search.{AreDecidedFree}
use Rattle.pc_solver.proofs.NewLemmas.{IsUnlearned, learned_was, learned_cases}

-- ---- signs

some_sign : (a b : Bool) → ◌≡◌ {A = Option Bool} (Some a) (Some b) → a ≡ b
some_sign a b e = cc

no_sign : (b : Bool) → ◌≡◌ {A = Option Bool} None (Some b) → ⊥
no_sign b e = cc

not_own : (b : Bool) → b ≡ not b → ⊥
not_own true e = false≢true (sym e)
not_own false e = false≢true e

-- the two signs are the same, or opposite
same_or_not : (a b : Bool) → (a ≡ b) ⊎ (a ≡ not b)
same_or_not true true = inl refl
same_or_not true false = inr refl
same_or_not false true = inr refl
same_or_not false false = inl refl

twice : (l : Lit) → negated (negated l) ≡ l
twice l = same_parts (negated (negated l)) l refl (back l.sign)
  where
    back : (b : Bool) → not (not b) ≡ b
    back true = refl
    back false = refl

-- of an open variable no literal is banned
pub open_askable : (banned : List (Option Bool)) (l : Lit) → banned_sign banned l.variable ≡ None → MakesTrue banned (negated l) → ⊥
open_askable banned l open_now is = no_sign (not l.sign) (sym open_now ∙ is)

-- a literal whose sign isn't the opposite of the banned one may be asked
pub sign_askable : (banned : List (Option Bool)) (l : Lit) (s : Bool) → banned_sign banned l.variable ≡ Some s → s ≡ l.sign → MakesTrue banned (negated l) → ⊥
sign_askable banned l s at same is = not_own l.sign (sym same ∙ some_sign s (not l.sign) (sym at ∙ is))

pub denies_by : (banned : List (Option Bool)) (l : Lit) (s : Bool) → banned_sign banned l.variable ≡ Some s → OnFalse (not (beq s l.sign)) (¬ MakesTrue banned (negated l))
denies_by banned l s at = by_signs s l.sign (sign_askable banned l s at)
  where
    by_signs : {P : Type 0} (a b : Bool) → (a ≡ b → P) → OnFalse (not (beq a b)) P
    by_signs true true f = f refl
    by_signs true false f = tt
    by_signs false true f = tt
    by_signs false false f = f refl

-- ---- which variables have values

valued_by : (trues : List Lit) (v : Var) (l : Lit) → Contains trues l → l.variable.0 ≡ v.0 → is_valued trues v ≡ true
valued_by trues v l has same = true_by (λ (m : Lit). eqb m.variable.0 v.0) trues l has (eq-eqb l.variable.0 v.0 same)

valued_from : (trues : List Lit) (v : Var) → is_valued trues v ≡ true → (l : Lit) × Contains trues l × (l.variable.0 ≡ v.0)
valued_from trues v is = let l = true_literal (λ (m : Lit). eqb m.variable.0 v.0) trues is in (l.0, l.1, eqb-true l.0.variable.0 v.0 l.2)

entry_valued : (entries : List TrailEntry) (v : Var) → is_valued (literals entries) v ≡ true → HasValue entries v
entry_valued entries v is =
    let l = valued_from (literals entries) v is in
    let e = contains_mapped (λ (x : TrailEntry). x.literal) entries l.0 l.1 in
    (e.0, e.1, ap (λ (m : Lit). m.variable.0) e.2 ∙ l.2)

valued_entry : (entries : List TrailEntry) (v : Var) → HasValue entries v → is_valued (literals entries) v ≡ true
valued_entry entries v has = valued_by (literals entries) v has.0.literal (contains_map (λ (x : TrailEntry). x.literal) entries has.0 has.1) has.2

unvalued : (entries : List TrailEntry) (v : Var) → ¬ HasValue entries v → is_valued (literals entries) v ≡ false
unvalued entries v none = elim (cases_Bool (is_valued (literals entries) v)) [ inl is ↦ absurd (none (entry_valued entries v is)) | inr no_value ↦ no_value ]

-- ---- the banned literals of the others

pub in_unset : (banned : List (Option Bool)) (trues : List Lit) (own : List Var) (l : Lit) → Contains (unset_banned banned trues own) l → (is_valued trues l.variable ≡ false) × MakesTrue banned l
in_unset banned trues [] l has = absurd (contains_none l has)
in_unset banned trues (v ∷ own) l has = elim (Contains-append_cases (cond (is_valued trues v) [] (signed v (banned_sign banned v))) (unset_banned banned trues own) l has) [
  | inl here ↦ of_first (is_valued trues v) (banned_sign banned v) refl refl here
  | inr later ↦ in_unset banned trues own l later
]
  where
    of_first : (b : Bool) (o : Option Bool) → is_valued trues v ≡ b → banned_sign banned v ≡ o → Contains (cond b [] (signed v o)) l → (is_valued trues l.variable ≡ false) × MakesTrue banned l
    of_first true o is at here = absurd (contains_none l here)
    of_first false None is at here = absurd (contains_none l here)
    of_first false (Some s) is at here = elim (contains_cases (record { variable = v; sign = s }) [] l here) [
      | inl same ↦ subst (λ (m : Lit). (is_valued trues m.variable ≡ false) × MakesTrue banned m) same (is, at)
      | inr none ↦ absurd (contains_none l none)
    ]

pub unset_has : (banned : List (Option Bool)) (trues : List Lit) (own : List Var) (v : Var) (s : Bool) → Contains own v → is_valued trues v ≡ false → banned_sign banned v ≡ Some s
    → Contains (unset_banned banned trues own) (record { variable = v; sign = s })
unset_has banned trues [] v s has is at = absurd (contains_none v has)
unset_has banned trues (w ∷ own) v s has is at = elim (contains_cases w own v has) [
  | inl same ↦ subst (λ (x : Var). Contains (unset_banned banned trues (x ∷ own)) (record { variable = v; sign = s })) (sym same) (of_first (is_valued trues v) (banned_sign banned v) is at)
  | inr later ↦ Contains-append_right (cond (is_valued trues w) [] (signed w (banned_sign banned w))) (unset_banned banned trues own) (record { variable = v; sign = s }) (unset_has banned trues own v s later is at)
]
  where
    of_first : (b : Bool) (o : Option Bool) → b ≡ false → o ≡ Some s → Contains (cond b [] (signed v o) ++ unset_banned banned trues own) (record { variable = v; sign = s })
    of_first true o is at = absurd (false≢true (sym is))
    of_first false None is at = absurd (no_sign s at)
    of_first false (Some t) is at =
        subst (λ (b : Bool). Contains ((record { variable = v; sign = b } ∷ []) ++ unset_banned banned trues own) (record { variable = v; sign = s })) (sym (some_sign t s at))
        (contains_first (record { variable = v; sign = s }) (unset_banned banned trues own))

-- where nothing is banned there are none
pub none_unset : (trues : List Lit) (own : List Var) → unset_banned [] trues own ≡ []
none_unset trues [] = refl
none_unset trues (v ∷ own) = of_first (is_valued trues v) (none_unset trues own)
  where
    of_first : (b : Bool) → unset_banned [] trues own ≡ [] → cond b [] (signed v (banned_sign [] v)) ++ unset_banned [] trues own ≡ []
    of_first true h = h
    of_first false h = h

pub no_trues : (own : List Var) → trues_of own [] [] ≡ []
no_trues own = none_unset [] own

-- ---- no literal is true together with its negation

apart : (banned : List (Option Bool)) (trues : List Lit) (own : List Var) → ((l : Lit) → Contains trues l → Contains trues (negated l) → ⊥)
    → (l : Lit) → Contains (trues_of own banned trues) l → Contains (trues_of own banned trues) (negated l) → ⊥
apart banned trues own clear l one two =
    elim (Contains-append_cases trues (unset_banned banned trues own) l one) [
      | inl first ↦ elim (Contains-append_cases trues (unset_banned banned trues own) (negated l) two) [
        | inl second ↦ clear l first second
        | inr second ↦ false≢true (sym (in_unset banned trues own (negated l) second).0 ∙ valued_by trues l.variable l first refl)
      ]
      | inr first ↦ elim (Contains-append_cases trues (unset_banned banned trues own) (negated l) two) [
        | inl second ↦ false≢true (sym (in_unset banned trues own l first).0 ∙ valued_by trues l.variable (negated l) second refl)
        | inr second ↦ not_own l.sign (some_sign l.sign (not l.sign) (sym (in_unset banned trues own l first).1 ∙ (in_unset banned trues own (negated l) second).1))
      ]
    ]

-- the negation of a literal that is true is false
pub true_false : (entries : List TrailEntry) (l : Lit) → Contains (literals entries) l → Contains (falses entries) (negated l)
true_false entries l has =
    let e = contains_mapped (λ (x : TrailEntry). x.literal) entries l has in
    subst (Contains (falses entries)) (ap negated e.2) (contains_map (λ (x : TrailEntry). negated x.literal) entries e.0 e.1)

-- no literal is true and false
pub never_both : (entries : List TrailEntry) (l : Lit) → AllPairs Differ entries → Contains (literals entries) l → Contains (falses entries) l → ⊥
never_both entries l different one other = not_both entries l different other (true_false entries l one)

pub trues_apart : (own : List Var) (banned : List (Option Bool)) (entries : List TrailEntry) → AllPairs Differ entries
    → (l : Lit) → Contains (trues_of own banned (literals entries)) l → Contains (trues_of own banned (literals entries)) (negated l) → ⊥
trues_apart own banned entries different =
    apart banned (literals entries) own (λ l one two. never_both entries l different one (subst (Contains (falses entries)) (twice l) (true_false entries (negated l) two)))

-- ---- their truth

-- the positive literal of the same variable
abbrev is_of : Lit → Lit → Bool
is_of m l = l.sign && eqb l.variable.0 m.variable.0

module _ (trues : List Lit) (clear : (l : Lit) → Contains trues l → Contains trues (negated l) → ⊥) where
  pub true_lit : (m : Lit) → Contains trues m → lit_true (truth_in trues) m ≡ true
  true_lit m has = by_sign m.sign refl
    where
      found : m.sign ≡ true → truth_in trues m.variable ≡ true
      found s = true_by (is_of m) trues m has (and_from m.sign (eqb m.variable.0 m.variable.0) s (eq-eqb m.variable.0 m.variable.0 refl))

      not_found : m.sign ≡ false → truth_in trues m.variable ≡ true → ⊥
      not_found s is =
          let l = true_literal (is_of m) trues is in
          let parts = and_parts l.0.sign (eqb l.0.variable.0 m.variable.0) l.2 in
          let same : l.0 ≡ negated m = same_parts l.0 (negated m) (eqb-true l.0.variable.0 m.variable.0 parts.1) (parts.0 ∙ sym (ap not s)) in
          clear m has (subst (Contains trues) same l.1)

      by_sign : (b : Bool) → m.sign ≡ b → lit_true (truth_in trues) m ≡ true
      by_sign true s = rw s (found s)
      by_sign false s = rw s (elim (cases_Bool (truth_in trues m.variable)) [ inl is ↦ absurd (not_found s is) | inr no_value ↦ ap not no_value ])

  -- a variable's value is the sign of its true literal
  pub value_is : (v : Var) (b : Bool) → Contains trues (record { variable = v; sign = b }) → b ≡ truth_in trues v
  value_is v true has = sym (true_lit (record { variable = v; sign = true }) has)
  value_is v false has = turned (truth_in trues v) (true_lit (record { variable = v; sign = false }) has)
    where
      turned : (b : Bool) → not b ≡ true → false ≡ b
      turned true h = absurd (false≢true h)
      turned false h = refl

pub value_some : (own : List Var) (banned : List (Option Bool)) (entries : List TrailEntry) (v : Var) (b : Bool) → AllPairs Differ entries → Contains (literals entries) (record { variable = v; sign = b })
    → b ≡ truth_in (trues_of own banned (literals entries)) v
value_some own banned entries v b different has =
    value_is (trues_of own banned (literals entries)) (trues_apart own banned entries different) v b
    (Contains-append_left (literals entries) (unset_banned banned (literals entries) own) (record { variable = v; sign = b }) has)

pub value_banned : (own : List Var) (banned : List (Option Bool)) (entries : List TrailEntry) (v : Var) (b : Bool) → AllPairs Differ entries → Contains own v → ¬ HasValue entries v → banned_sign banned v ≡ Some b
    → b ≡ truth_in (trues_of own banned (literals entries)) v
value_banned own banned entries v b different has none at =
    value_is (trues_of own banned (literals entries)) (trues_apart own banned entries different) v b
    (Contains-append_right (literals entries) (unset_banned banned (literals entries) own) (record { variable = v; sign = b }) (unset_has banned (literals entries) own v b has (unvalued entries v none) at))

pub value_none : (own : List Var) (banned : List (Option Bool)) (entries : List TrailEntry) (v : Var) → ¬ HasValue entries v → banned_sign banned v ≡ None → false ≡ truth_in (trues_of own banned (literals entries)) v
value_none own banned entries v none at = elim (cases_Bool (truth_in (trues_of own banned (literals entries)) v)) [ inl is ↦ absurd (found is) | inr no_value ↦ sym no_value ]
  where
    found : truth_in (trues_of own banned (literals entries)) v ≡ true → ⊥
    found is =
        let l = true_literal (is_of (record { variable = v; sign = true })) (trues_of own banned (literals entries)) is in
        let same : l.0.variable.0 ≡ v.0 = eqb-true l.0.variable.0 v.0 (and_parts l.0.sign (eqb l.0.variable.0 v.0) l.2).1 in
        elim (Contains-append_cases (literals entries) (unset_banned banned (literals entries) own) l.0 l.1) [
          | inl placed ↦ let e = contains_mapped (λ (x : TrailEntry). x.literal) entries l.0 placed in none (e.0, e.1, ap (λ (m : Lit). m.variable.0) e.2 ∙ same)
          | inr unset ↦ no_sign l.0.sign (sym at ∙ ap (λ n. slice_index_or banned n None) (sym same) ∙ (in_unset banned (literals entries) own l.0 unset).1)
        ]

-- ---- a settled clause over variables that are set

some_or_all : (P Q : Lit → Type 0) (xs : List Lit) → ((m : Lit) → Contains xs m → P m ⊎ Q m) → ((m : Lit) × Contains xs m × P m) ⊎ ((m : Lit) → Contains xs m → Q m)
some_or_all P Q [] f = inr (λ m has. absurd (contains_none m has))
some_or_all P Q (x ∷ xs) f = elim (f x (contains_first x xs)) [
  | inl p ↦ inl (x, contains_first x xs, p)
  | inr q ↦ elim (some_or_all P Q xs (λ m has. f m (contains_later x xs m has))) [
    | inl found ↦ inl (found.0, contains_later x xs found.0 found.1, found.2)
    | inr rest ↦ inr (λ m has. elim (contains_cases x xs m has) [ inl same ↦ subst Q same q | inr later ↦ rest m later ])
  ]
]

-- an entry's literal is this one, or its negation
one_of_two : (l m : Lit) → l.variable.0 ≡ m.variable.0 → (l ≡ m) ⊎ (negated l ≡ m)
one_of_two l m same = elim (same_or_not l.sign m.sign) [
  | inl alike ↦ inl (same_parts l m same alike)
  | inr other ↦ inr (same_parts (negated l) m same (ap not other ∙ back m.sign))
]
  where
    back : (b : Bool) → not (not b) ≡ b
    back true = refl
    back false = refl

valued : (entries : List TrailEntry) (m : Lit) → HasValue entries m.variable → Contains (literals entries) m ⊎ Contains (falses entries) m
valued entries m h = elim (one_of_two h.0.literal m h.2) [
  | inl same ↦ inl (subst (Contains (literals entries)) same (contains_map (λ (e : TrailEntry). e.literal) entries h.0 h.1))
  | inr other ↦ inr (subst (Contains (falses entries)) other (contains_map (λ (e : TrailEntry). negated e.literal) entries h.0 h.1))
]

module _ (own : List Var) (banned : List (Option Bool)) (entries : List TrailEntry) (all_set : AreSet own banned entries) where
  abbrev trues : List Lit
  trues = trues_of own banned (literals entries)

  -- the literal has no value, and its negation is banned
  abbrev IsHeld : Lit → Type 0
  IsHeld m = (¬ HasValue entries m.variable) × MakesTrue banned (negated m)

  placed_or_false : (m : Lit) → HasValue entries m.variable → Contains trues m ⊎ (Contains (falses entries) m ⊎ IsHeld m)
  placed_or_false m has = elim (valued entries m has) [
    | inl is_true ↦ inl (Contains-append_left (literals entries) (unset_banned banned (literals entries) own) m is_true)
    | inr is_false ↦ inr (inl is_false)
  ]

  unset_or_held : (m : Lit) → Contains own m.variable → ¬ HasValue entries m.variable → (o : Option Bool) → banned_sign banned m.variable ≡ o → IsSome o → Contains trues m ⊎ (Contains (falses entries) m ⊎ IsHeld m)
  unset_or_held m has none None at some = absurd (false≢true some)
  unset_or_held m has none (Some s) at some = elim (same_or_not s m.sign) [
    | inl alike ↦ inl (Contains-append_right (literals entries) (unset_banned banned (literals entries) own) m
        (subst (Contains (unset_banned banned (literals entries) own)) (same_parts (record { variable = m.variable; sign = s }) m refl alike) (unset_has banned (literals entries) own m.variable s has (unvalued entries m.variable none) at)))
    | inr other ↦ inr (inr (none, at ∙ ap Some other))
  ]

  one_way : (m : Lit) → Contains own m.variable → Contains trues m ⊎ (Contains (falses entries) m ⊎ IsHeld m)
  one_way m has = elim (all_set m.variable has) [
    | inl known ↦ placed_or_false m known
    | inr some ↦ elim (cases_Bool (is_valued (literals entries) m.variable)) [
      | inl is ↦ placed_or_false m (entry_valued entries m.variable is)
      | inr no_value ↦ unset_or_held m has (λ known. false≢true (sym no_value ∙ valued_entry entries m.variable known)) (banned_sign banned m.variable) refl some
    ]
  ]

  -- not each literal is false or held
  not_all : (clause : List Lit) → IsLone banned clause → IsSettled entries clause → ((m : Lit) → Contains clause m → Contains (falses entries) m ⊎ IsHeld m) → ⊥
  not_all clause lone settled each = elim (some_or_all IsHeld (Contains (falses entries)) clause (λ m has. elim (each m has) [ inl is_false ↦ inr is_false | inr held ↦ inl held ])) [
    | inl x ↦ x.2.0 (known_by_false entries (negated x.0) (settled.1 x.0 (
      x.1,
      (λ is_false. x.2.0 (known_by_false entries x.0 is_false)),
      λ m has other. elim (each m has) [ inl is_false ↦ is_false | inr held ↦ absurd (other (lone m x.0 has x.1 held.1 x.2.1)) ],
    )))
    | inr all_false ↦ settled.0 all_false
  ]

  pub settled_true : (clause : List Lit) → IsLone banned clause → IsSettled entries clause → ((m : Lit) → Contains clause m → Contains own m.variable) → (m : Lit) × Contains clause m × Contains (trues_of own banned (literals entries)) m
  settled_true clause lone settled over = elim (some_or_all (Contains trues) (λ m. Contains (falses entries) m ⊎ IsHeld m) clause (λ m has. one_way m (over m has))) [
    | inl found ↦ found
    | inr each ↦ absurd (not_all clause lone settled each)
  ]

-- ---- decisions

pub decided_take : (banned : List (Option Bool)) (entries : List TrailEntry) (n : ℕ) → AreDecidedFree banned entries → AreDecidedFree banned (take n entries)
decided_take banned entries n h place e at starts =
    let below : place < length (take n entries) = slice_get_within (take n entries) place e at in
    let under : place < n = omega (arith, below, length-take n entries) in
    let within : place < length entries = omega (arith, below, length-take n entries) in
    h place e (slice_get-get_or entries place e within ∙ ap Some (sym (get_or-take n entries place e under) ∙ get_or_from_slice_get (take n entries) place e e at)) starts

-- what a decision made false isn't banned
pub decided_at : (banned : List (Option Bool)) (entries : List TrailEntry) → AreDecidedFree banned entries → (place : ℕ) (e : TrailEntry) → slice_get entries place ≡ Some e → IsNone e.reason → ¬ IsBannedAt banned entries place
decided_at banned entries h place e at starts is =
    h place e at starts (subst (MakesTrue banned) (sym (false_at_is entries place is.0 e is.1) ∙ ap (λ (x : TrailEntry). negated x.literal) (get_or_from_slice_get entries place e e at)) is.2)

-- ---- logs

pub free_other : (banned : List (Option Bool)) (log : List LogLine) (line : LogLine) → IsUnlearned line → AvoidBanned banned log → AvoidBanned banned (log ++ line ∷ [])
free_other banned log line un h i clause at = h i clause (learned_was log line i clause un at)

pub free_learned : (banned : List (Option Bool)) (log : List LogLine) (clause : List Lit) (hints : List StepId) → AvoidBanned banned log → HasNoBanned banned clause → AvoidBanned banned (log ++ StepLine clause hints true ∷ [])
free_learned banned log clause hints h none i other at = elim (learned_cases log clause hints i other at) [ inl was ↦ h i other was | inr last ↦ subst (HasNoBanned banned) last.1 none ]

-- ---- lone clauses

-- where nothing is banned all are
pub lone_anyway : (axioms : List (List Lit)) (used : List ℕ) → AreLone [] axioms used
lone_anyway axioms used n has l m one two is also = absurd (nothing_banned (negated l) is)

pub asked_lone : (banned : List (Option Bool)) (clause : List Lit) → AreAskable banned clause → IsLone banned clause
asked_lone banned clause ask l m has also one two = absurd (ask l has one)
