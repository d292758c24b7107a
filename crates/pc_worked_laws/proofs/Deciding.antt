-- What short clauses are, by computing: whether they are settled, and whether they are good steps.
use Rattle.std.proofs.Common.{◌≡◌, ◌≢◌, ℕ, ◌*◌, ◌+◌, ◌⊎◌, inl, inr, Bool, true, false, not, ◌&&◌, ◌||◌, ◌==◌, arith, List, [], ◌∷◌, ◌++◌, Contains, ap, refl, sym, ◌∙◌, subst}
use Rattle.std.specs.Bool.{Decides}
use Rattle.std.proofs.lemmas.Bool.{false≢true}
use Rattle.std.proofs.lemmas.Bool.Decides.{Decides-eqb, Decides-like, Decides-not, Decides-and, Decides-or, Decides-by_and}
use Rattle.std.proofs.lemmas.List.Elements.{All-contains}
use Rattle.pc_lits.specs.declared.literal.Lit.{Lit}
use Rattle.pc_lits.specs.Literals.{negated}
use Rattle.pc_lits.specs.Steps.{IsTautology, IsLastOpen, Refutes, IsGoodStep}
use Rattle.pc_propagate.specs.declared.trail.TrailEntry.{TrailEntry}
use Rattle.pc_propagate.specs.Entries.{falses}
use Rattle.pc_propagate.specs.Propagation.{IsSettled}
use Rattle.pc_lits.specs.Clauses.{IsSubclause}
use Rattle.pc_lemmas.proofs.Elements.{contains_first, contains_later, contains_cases, contains_none, all_from}

-- what isn't so, where it is decided
pub isnt : (b : Bool) (P : Type 0) → Decides b P → b ≡ false → ¬ P
isnt b P decides fails h = false≢true (sym fails ∙ decides.1 h)

-- ---- literals

abbrev code_of : Bool → ℕ → ℕ
code_of true v = 2 * v + 1
code_of false v = 2 * v

abbrev code : Lit → ℕ
code l = code_of l.sign l.variable.0

abbrev lit_of : Bool → ℕ → Lit
lit_of s v = record { variable = record { 0 = v }; sign = s }

same_lit : (s t : Bool) (v w : ℕ) → code_of s v ≡ code_of t w → lit_of s v ≡ lit_of t w
same_lit true true v w is = ap (lit_of true) (omega (arith, is))
same_lit true false v w is = absurd (omega (arith, is))
same_lit false true v w is = absurd (omega (arith, is))
same_lit false false v w is = ap (lit_of false) (omega (arith, is))

abbrev is_lit : Lit → Lit → Bool
is_lit x y = code x == code y

lit_decides : (x y : Lit) → Decides (is_lit x y) (x ≡ y)
lit_decides x y = Decides-like (is_lit x y) (same_lit x.sign y.sign x.variable.0 y.variable.0) (ap code) (Decides-eqb (code x) (code y))

abbrev pub has_lit : List Lit → Lit → Bool
has_lit [] l = false
has_lit (x ∷ xs) l = is_lit x l || has_lit xs l

pub has_decides : (xs : List Lit) (l : Lit) → Decides (has_lit xs l) (Contains xs l)
has_decides [] l = (λ e. absurd (false≢true e), λ c. absurd (contains_none l c))
has_decides (x ∷ xs) l =
    Decides-like (has_lit (x ∷ xs) l)
    (λ h. elim h [ inl is ↦ subst (Contains (x ∷ xs)) is (contains_first x xs) | inr later ↦ contains_later x xs l later ])
    (contains_cases x xs l) (Decides-or (is_lit x l) (has_lit xs l) (lit_decides x l) (has_decides xs l))

-- ---- literals of a list with a property

abbrev pub any_lit : (Lit → Bool) → List Lit → Bool
any_lit p [] = false
any_lit p (l ∷ ls) = p l || any_lit p ls

abbrev pub HasSome : (Lit → Type 0) → List Lit → Type 0
HasSome P ls = (l : Lit) × Contains ls l × P l

pub any_decides : (p : Lit → Bool) (P : Lit → Type 0) → ((l : Lit) → Decides (p l) (P l)) → (ls : List Lit) → Decides (any_lit p ls) (HasSome P ls)
any_decides p P each [] = (λ e. absurd (false≢true e), λ h. absurd (contains_none h.0 h.1))
any_decides p P each (l ∷ ls) =
    Decides-like (any_lit p (l ∷ ls))
    (λ h. elim h [ inl is ↦ (l, contains_first l ls, is) | inr later ↦ (later.0, contains_later l ls later.0 later.1, later.2) ])
    (λ h. elim (contains_cases l ls h.0 h.1) [ inl is ↦ inl (subst P (sym is) h.2) | inr later ↦ inr (h.0, later, h.2) ])
    (Decides-or (p l) (any_lit p ls) (each l) (any_decides p P each ls))

abbrev all_lits : (Lit → Bool) → List Lit → Bool
all_lits p [] = true
all_lits p (l ∷ ls) = p l && all_lits p ls

all_decides : (p : Lit → Bool) (P : Lit → Type 0) → ((l : Lit) → Decides (p l) (P l)) → (ls : List Lit) → Decides (all_lits p ls) ((l : Lit) → Contains ls l → P l)
all_decides p P each ls =
    Decides-like (all_lits p ls) (λ all l c. All-contains P ls l all c) (all_from P ls) (Decides-by_and p P (all_lits p) each refl (λ _ _. refl) ls)

-- ---- clauses

abbrev pub is_within : List Lit → List Lit → Bool
is_within part whole = all_lits (has_lit whole) part

pub within_decides : (part whole : List Lit) → Decides (is_within part whole) (IsSubclause part whole)
within_decides part whole = all_decides (has_lit whole) (Contains whole) (has_decides whole) part

abbrev pub is_tautology : List Lit → Bool
is_tautology clause = any_lit (λ l. has_lit clause (negated l)) clause

pub tautology_decides : (clause : List Lit) → Decides (is_tautology clause) (IsTautology negated clause)
tautology_decides clause = any_decides (λ l. has_lit clause (negated l)) (λ l. Contains clause (negated l)) (λ l. has_decides clause (negated l)) clause

abbrev is_last_open : List Lit → List Lit → Lit → Bool
is_last_open so_far clause l = has_lit clause l && (not (has_lit so_far l) && all_lits (λ m. is_lit m l || has_lit so_far m) clause)

last_open_decides : (so_far clause : List Lit) (l : Lit) → Decides (is_last_open so_far clause l) (IsLastOpen negated so_far clause l)
last_open_decides so_far clause l =
    Decides-like (is_last_open so_far clause l)
    (λ h. (h.0, h.1.0, λ m c other. elim (h.1.1 m c) [ inl same ↦ absurd (other same) | inr is ↦ is ]))
    (λ h. (h.0, (h.1, λ m c. elim (which m) [ inl same ↦ inl same | inr other ↦ inr (h.2 m c other) ])))
    (Decides-and (has_lit clause l) (not (has_lit so_far l) && all_lits (λ m. is_lit m l || has_lit so_far m) clause) (has_decides clause l)
    (Decides-and (not (has_lit so_far l)) (all_lits (λ m. is_lit m l || has_lit so_far m) clause) (Decides-not (has_lit so_far l) (has_decides so_far l))
    (all_decides (λ m. is_lit m l || has_lit so_far m) (λ m. (m ≡ l) ⊎ Contains so_far m) (λ m. Decides-or (is_lit m l) (has_lit so_far m) (lit_decides m l) (has_decides so_far m)) clause)))
  where
    by : (m : Lit) (b : Bool) → Decides b (m ≡ l) → (m ≡ l) ⊎ (m ≢ l)
    by m true decides = inl (decides.0 refl)
    by m false decides = inr (λ same. false≢true (decides.1 same))

    which : (m : Lit) → (m ≡ l) ⊎ (m ≢ l)
    which m = by m (is_lit m l) (lit_decides m l)

-- ---- settled clauses

abbrev pub is_settled : List TrailEntry → List Lit → Bool
is_settled entries clause = not (is_within clause (falses entries)) && all_lits (λ l. not (is_last_open (falses entries) clause l) || has_lit (falses entries) (negated l)) clause

pub settled_decides : (entries : List TrailEntry) (clause : List Lit) → Decides (is_settled entries clause) (IsSettled entries clause)
settled_decides entries clause =
    let p : Lit → Bool = λ l. not (is_last_open (falses entries) clause l) || has_lit (falses entries) (negated l) in
    Decides-like (is_settled entries clause)
    (λ h. (h.0, λ l last. elim (h.1 l last.0) [ inl none ↦ absurd (none last) | inr is ↦ is ]))
    (λ h. (h.0, λ l c. by l (is_last_open (falses entries) clause l) (last_open_decides (falses entries) clause l) (h.1 l)))
    (Decides-and (not (is_within clause (falses entries))) (all_lits p clause) (Decides-not (is_within clause (falses entries)) (within_decides clause (falses entries)))
    (all_decides p (λ l. (¬ IsLastOpen negated (falses entries) clause l) ⊎ Contains (falses entries) (negated l))
    (λ l. Decides-or (not (is_last_open (falses entries) clause l)) (has_lit (falses entries) (negated l)) (Decides-not (is_last_open (falses entries) clause l) (last_open_decides (falses entries) clause l))
    (has_decides (falses entries) (negated l)))
    clause))
  where
    by : (l : Lit) (b : Bool) → Decides b (IsLastOpen negated (falses entries) clause l) → (IsLastOpen negated (falses entries) clause l → Contains (falses entries) (negated l))
        → (¬ IsLastOpen negated (falses entries) clause l) ⊎ Contains (falses entries) (negated l)
    by l true decides then = inr (then (decides.0 refl))
    by l false decides then = inl (λ last. false≢true (decides.1 last))

-- ---- good steps

abbrev refutes : List Lit → List (List Lit) → Bool
refutes so_far [] = false
refutes so_far (hint ∷ []) = is_within hint so_far
refutes so_far (hint ∷ next ∷ hints) = any_lit (λ l. is_last_open so_far hint l && refutes (so_far ++ negated l ∷ []) (next ∷ hints)) hint

refutes_decides : (so_far : List Lit) (hints : List (List Lit)) → Decides (refutes so_far hints) (Refutes negated so_far hints)
refutes_decides so_far [] = (λ e. absurd (false≢true e), λ h. absurd h)
refutes_decides so_far (hint ∷ []) = within_decides hint so_far
refutes_decides so_far (hint ∷ next ∷ hints) =
    Decides-like (refutes so_far (hint ∷ next ∷ hints)) (λ h. (h.0, h.2.0, h.2.1)) (λ h. (h.0, h.1.0, (h.1, h.2)))
    (any_decides (λ l. is_last_open so_far hint l && refutes (so_far ++ negated l ∷ []) (next ∷ hints)) (λ l. IsLastOpen negated so_far hint l × Refutes negated (so_far ++ negated l ∷ []) (next ∷ hints))
    (λ l. Decides-and (is_last_open so_far hint l) (refutes (so_far ++ negated l ∷ []) (next ∷ hints)) (last_open_decides so_far hint l) (refutes_decides (so_far ++ negated l ∷ []) (next ∷ hints)))
    hint)

abbrev is_none : List (List Lit) → Bool
is_none [] = true
is_none (c ∷ cs) = false

none_decides : (cs : List (List Lit)) → Decides (is_none cs) (cs ≡ [])
none_decides [] = (λ _. refl, λ _. refl)
none_decides (c ∷ cs) = (λ e. absurd (false≢true e), λ h. cc)

abbrev pub is_good_step : List Lit → List (List Lit) → Bool
is_good_step clause hints = (is_tautology clause && is_none hints) || (not (is_tautology clause) && refutes clause hints)

pub good_step_decides : (clause : List Lit) (hints : List (List Lit)) → Decides (is_good_step clause hints) (IsGoodStep negated clause hints)
good_step_decides clause hints =
    Decides-or (is_tautology clause && is_none hints) (not (is_tautology clause) && refutes clause hints)
    (Decides-and (is_tautology clause) (is_none hints) (tautology_decides clause) (none_decides hints))
    (Decides-and (not (is_tautology clause)) (refutes clause hints) (Decides-not (is_tautology clause) (tautology_decides clause)) (refutes_decides clause hints))
