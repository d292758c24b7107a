-- What lines say once one more stands behind them.
use Rattle.std.proofs.Common.{◌≡◌, ℕ, suc, ◌+◌, ◌⊎◌, inl, inr, Bool, false, Option, List, [], ◌∷◌, ◌++◌, map, length, if◌then◌else◌, append_assoc, refl, ap, ap₂, sym, ◌∙◌, arith}
use Rattle.std.specs.Prelude.{cond}
use Rattle.std.specs.Option.{option_or}
use Rattle.std.proofs.lemmas.List.{append-nil}
use Rattle.std.proofs.lemmas.List.Sums.{sum_by-cons}
use Rattle.pc_sheet.specs.declared.ids.Entry.{Entry}
use Rattle.pc_cert.specs.Written.{nothing, heading, claims, begins, uses, assigns, derives, ends, SaidLine}
use Rattle.pc_accept.specs.Accepts.{Claim, implied, inconsistent, repairs, unimplied, against}
use Rattle.pc_cert.specs.Order.{kind_of, kind_of_claim, is_set, sets_in}
use Rattle.pc_cert.specs.Text.{SetReading, claim_in, in_front, sets_from, uses_from, values_from, has_entry, after_from, parts_from}

-- ---- lists that lines give one after the other

abbrev next_number : (n m : ℕ) → n + 1 + m ≡ n + suc m
next_number n m = omega arith

module _ {A : Type 0} (F : ℕ → List SaidLine → List A) (none : (n : ℕ) → F n [] ≡ []) (first : (n : ℕ) (l : SaidLine) (ls : List SaidLine) → F n (l ∷ ls) ≡ F n (l ∷ []) ++ F (n + 1) ls) where
  given_on : (n : ℕ) (ls : List SaidLine) (l : SaidLine) → F n (ls ++ l ∷ []) ≡ F n ls ++ F (n + length ls) (l ∷ [])
  given_on n [] l = ap (λ m. F m (l ∷ [])) (let e : n ≡ n + 0 = omega arith in e) ∙ ap (λ xs. xs ++ F (n + 0) (l ∷ [])) (sym (none n))
  given_on n (k ∷ ls) l =
      first n k (ls ++ l ∷ []) ∙ ap (λ xs. F n (k ∷ []) ++ xs) (given_on (n + 1) ls l) ∙ sym (append_assoc (F n (k ∷ [])) (F (n + 1) ls) (F (n + 1 + length ls) (l ∷ [])))
      ∙ ap (λ xs. xs ++ F (n + 1 + length ls) (l ∷ [])) (sym (first n k ls)) ∙ ap (λ m. F n (k ∷ ls) ++ F m (l ∷ [])) (next_number n (length ls))

first_use : (n : ℕ) (l : SaidLine) (ls : List SaidLine) → uses_from n (l ∷ ls) ≡ uses_from n (l ∷ []) ++ uses_from (n + 1) ls
first_use n nothing ls = refl
first_use n heading ls = refl
first_use n (claims c) ls = refl
first_use n begins ls = refl
first_use n (uses e) ls = refl
first_use n (assigns e) ls = refl
first_use n (derives k p) ls = refl
first_use n ends ls = refl

first_value : (n : ℕ) (l : SaidLine) (ls : List SaidLine) → values_from n (l ∷ ls) ≡ values_from n (l ∷ []) ++ values_from (n + 1) ls
first_value n nothing ls = refl
first_value n heading ls = refl
first_value n (claims c) ls = refl
first_value n begins ls = refl
first_value n (uses e) ls = refl
first_value n (assigns e) ls = refl
first_value n (derives k p) ls = refl
first_value n ends ls = refl

first_part : (n : ℕ) (l : SaidLine) (ls : List SaidLine) → parts_from n (l ∷ ls) ≡ parts_from n (l ∷ []) ++ parts_from (n + 1) ls
first_part n nothing ls = refl
first_part n heading ls = refl
first_part n (claims c) ls = refl
first_part n begins ls = refl
first_part n (uses e) ls = refl
first_part n (assigns e) ls = refl
first_part n (derives k p) ls = refl
first_part n ends ls = refl

pub uses_on : (n : ℕ) (ls : List SaidLine) (l : SaidLine) → uses_from n (ls ++ l ∷ []) ≡ uses_from n ls ++ uses_from (n + length ls) (l ∷ [])
uses_on = given_on uses_from (λ n. refl) first_use

pub values_on : (n : ℕ) (ls : List SaidLine) (l : SaidLine) → values_from n (ls ++ l ∷ []) ≡ values_from n ls ++ values_from (n + length ls) (l ∷ [])
values_on = given_on values_from (λ n. refl) first_value

pub parts_on : (n : ℕ) (ls : List SaidLine) (l : SaidLine) → parts_from n (ls ++ l ∷ []) ≡ parts_from n ls ++ parts_from (n + length ls) (l ∷ [])
parts_on = given_on parts_from (λ n. refl) first_part

pub after_on : (test : SaidLine → Bool) (n d : ℕ) (ls : List SaidLine) (l : SaidLine) → after_from test n d (ls ++ l ∷ []) ≡ (if test l then n + length ls + 1 else after_from test n d ls)
after_on test n d [] l = ap (λ m. if test l then m else d) (let e : n + 1 ≡ n + 0 + 1 = omega arith in e)
after_on test n d (m ∷ ls) l =
    after_on test (n + 1) (if test m then n + 1 else d) ls l ∙ ap (λ k. if test l then k else after_from test (n + 1) (if test m then n + 1 else d) ls) (let e : n + 1 + length ls + 1 ≡ n + suc (length ls) + 1 = omega arith in e)

pub claim_on : (ls : List SaidLine) (l : SaidLine) → claim_in (ls ++ l ∷ []) ≡ option_or (claim_in ls) (claim_in (l ∷ []))
claim_on [] l = refl
claim_on (nothing ∷ ls) l = claim_on ls l
claim_on (heading ∷ ls) l = claim_on ls l
claim_on ((claims c) ∷ ls) l = refl
claim_on (begins ∷ ls) l = claim_on ls l
claim_on ((uses e) ∷ ls) l = claim_on ls l
claim_on ((assigns e) ∷ ls) l = claim_on ls l
claim_on ((derives k p) ∷ ls) l = claim_on ls l
claim_on (ends ∷ ls) l = claim_on ls l

-- ---- lines that begin no set

pub record BeginsNone (l : SaidLine) : Type 0 where
  pub front : (ls : List SaidLine) → in_front (l ∷ ls) ≡ l ∷ in_front ls
  pub sets : (n : ℕ) (ls : List SaidLine) → sets_from n (l ∷ ls) ≡ sets_from (n + 1) ls
  pub kind : is_set (kind_of l) ≡ false

-- a line begins a set or doesn't
data Shape : SaidLine → Type 0 where
  a_set : Shape begins
  another : (l : SaidLine) → BeginsNone l → Shape l

no_set : (c : Claim) → is_set (kind_of_claim c) ≡ false
no_set (implied t) = refl
no_set inconsistent = refl
no_set repairs = refl
no_set (unimplied t) = refl
no_set (against r) = refl

pub plain_claim : (c : Claim) → BeginsNone (claims c)
plain_claim c = record { front = λ ls. refl; sets = λ n ls. refl; kind = no_set c }

pub plain_use : (e : Entry) → BeginsNone (uses e)
plain_use e = record { front = λ ls. refl; sets = λ n ls. refl; kind = refl }

pub plain_value : (e : Entry) → BeginsNone (assigns e)
plain_value e = record { front = λ ls. refl; sets = λ n ls. refl; kind = refl }

shape : (l : SaidLine) → Shape l
shape nothing = another nothing (record { front = λ ls. refl; sets = λ n ls. refl; kind = refl })
shape heading = another heading (record { front = λ ls. refl; sets = λ n ls. refl; kind = refl })
shape (claims c) = another (claims c) (plain_claim c)
shape begins = a_set
shape (uses e) = another (uses e) (plain_use e)
shape (assigns e) = another (assigns e) (plain_value e)
shape (derives m p) = another (derives m p) (record { front = λ ls. refl; sets = λ n ls. refl; kind = refl })
shape ends = another ends (record { front = λ ls. refl; sets = λ n ls. refl; kind = refl })

-- ---- sets

-- the set whose line has this number, and whose other lines are these
abbrev pub set_over : ℕ → List SaidLine → SetReading
set_over n ls = record { line = n; uses = uses_from (n + 1) ls; values = values_from (n + 1) ls; after = after_from has_entry (n + 1) (n + 1) ls }

-- the set with the line of that number
abbrev pub grown : ℕ → SaidLine → SetReading → SetReading
grown m l s = record { line = s.line; uses = s.uses ++ uses_from m (l ∷ []); values = s.values ++ values_from m (l ∷ []); after = if has_entry l then m + 1 else s.after }

abbrev pub made : ℕ → List (ℕ × Entry) → List (ℕ × Entry) → ℕ → SetReading
made n us vs a = record { line = n; uses = us; values = vs; after = a }

set_on : (n : ℕ) (ls : List SaidLine) (l : SaidLine) → set_over n (ls ++ l ∷ []) ≡ grown (n + suc (length ls)) l (set_over n ls)
set_on n ls l =
    let m = n + 1 + length ls in
    ap (λ us. made n us (values_from (n + 1) (ls ++ l ∷ [])) (after_from has_entry (n + 1) (n + 1) (ls ++ l ∷ []))) (uses_on (n + 1) ls l)
    ∙ ap (λ vs. made n (uses_from (n + 1) ls ++ uses_from m (l ∷ [])) vs (after_from has_entry (n + 1) (n + 1) (ls ++ l ∷ []))) (values_on (n + 1) ls l)
    ∙ ap (made n (uses_from (n + 1) ls ++ uses_from m (l ∷ [])) (values_from (n + 1) ls ++ values_from m (l ∷ []))) (after_on has_entry (n + 1) (n + 1) ls l)
    ∙ ap (λ k. grown k l (set_over n ls)) (next_number n (length ls))

pub no_last : {A : Type 0} (xs : List A) (x : A) → [] ≡ xs ++ x ∷ [] → ⊥
no_last [] x e = absurd (cc)
no_last (y ∷ ys) x e = absurd (cc)

pub none_or_last : {A : Type 0} (xs : List A) → (xs ≡ []) ⊎ ((ys : List A) × (y : A) × (xs ≡ ys ++ y ∷ []))
none_or_last [] = inl refl
none_or_last (x ∷ xs) = elim (none_or_last xs) [
  | inl none ↦ inr ([], x, ap (λ l. x ∷ l) none)
  | inr last ↦ inr (x ∷ last.0, last.1, ap (λ l. x ∷ l) last.2)
]

module _ (l : SaidLine) (plain : BeginsNone l) where
  -- where no set began
  abbrev Fresh : ℕ → List SaidLine → Type 0
  Fresh n ls = (in_front ls ≡ ls) × (in_front (ls ++ l ∷ []) ≡ ls ++ l ∷ []) × (sets_from n (ls ++ l ∷ []) ≡ [])

  fresh_by : (n : ℕ) (k : SaidLine) (ls : List SaidLine) → Shape k → (sets_from (n + 1) ls ≡ [] → Fresh (n + 1) ls) → sets_from n (k ∷ ls) ≡ [] → Fresh n (k ∷ ls)
  fresh_by n k ls a_set more none = absurd (cc)
  fresh_by n k ls (another j p) more none =
      let rest = more (sym (p.sets n ls) ∙ none) in
      (p.front ls ∙ ap (λ xs. k ∷ xs) rest.0, p.front (ls ++ l ∷ []) ∙ ap (λ xs. k ∷ xs) rest.1, p.sets n (ls ++ l ∷ []) ∙ rest.2)

  pub fresh : (n : ℕ) (ls : List SaidLine) → sets_from n ls ≡ [] → Fresh n ls
  fresh n [] none = (refl, plain.front [], plain.sets n [])
  fresh n (k ∷ ls) none = fresh_by n k ls (shape k) (fresh (n + 1) ls) none

  -- where the last set goes on
  abbrev Within : ℕ → List SaidLine → List SetReading → SetReading → Type 0
  Within n ls ss s = (sets_from n (ls ++ l ∷ []) ≡ ss ++ grown (n + length ls) l s ∷ []) × (in_front (ls ++ l ∷ []) ≡ in_front ls)

  within_by : (n : ℕ) (k : SaidLine) (ls : List SaidLine) → Shape k → ((ss : List SetReading) (s : SetReading) → sets_from (n + 1) ls ≡ ss ++ s ∷ [] → Within (n + 1) ls ss s)
      → (ss : List SetReading) (s : SetReading) → sets_from n (k ∷ ls) ≡ ss ++ s ∷ [] → Within n (k ∷ ls) ss s
  within_by n k ls a_set more [] s e =
      let one : set_over n (in_front ls) ≡ s = cc in
      let none : sets_from (n + 1) ls ≡ [] = cc in
      let f = fresh (n + 1) ls none in
      (ap₂ (λ x xs. x ∷ xs) (ap (set_over n) f.1 ∙ set_on n ls l ∙ ap (grown (n + suc (length ls)) l) (ap (set_over n) (sym f.0) ∙ one)) f.2, refl)
  within_by n k ls a_set more (x ∷ ss) s e =
      let one : set_over n (in_front ls) ≡ x = cc in
      let others : sets_from (n + 1) ls ≡ ss ++ s ∷ [] = cc in
      let rest = more ss s others in
      (ap₂ (λ y ys. y ∷ ys) (ap (set_over n) rest.1 ∙ one) (rest.0 ∙ ap (λ m. ss ++ grown m l s ∷ []) (next_number n (length ls))), refl)
  within_by n k ls (another j p) more ss s e =
      let rest = more ss s (sym (p.sets n ls) ∙ e) in
      (p.sets n (ls ++ l ∷ []) ∙ rest.0 ∙ ap (λ m. ss ++ grown m l s ∷ []) (next_number n (length ls)), p.front (ls ++ l ∷ []) ∙ ap (λ xs. k ∷ xs) rest.1 ∙ sym (p.front ls))

  pub within : (n : ℕ) (ls : List SaidLine) (ss : List SetReading) (s : SetReading) → sets_from n ls ≡ ss ++ s ∷ [] → Within n ls ss s
  within n [] ss s e = absurd (no_last ss s e)
  within n (k ∷ ls) ss s e = within_by n k ls (shape k) (within (n + 1) ls) ss s e

-- where a set begins
abbrev Begun : ℕ → List SaidLine → Type 0
Begun n ls = (sets_from n (ls ++ begins ∷ []) ≡ sets_from n ls ++ set_over (n + length ls) [] ∷ []) × (in_front (ls ++ begins ∷ []) ≡ in_front ls)

begun_by : (n : ℕ) (k : SaidLine) (ls : List SaidLine) → Shape k → Begun (n + 1) ls → Begun n (k ∷ ls)
begun_by n k ls a_set rest = (
  ap₂ (λ y ys. y ∷ ys) (ap (set_over n) rest.1) (rest.0 ∙ ap (λ m. sets_from (n + 1) ls ++ set_over m [] ∷ []) (next_number n (length ls))),
  refl,
)
begun_by n k ls (another j p) rest = (
  p.sets n (ls ++ begins ∷ []) ∙ rest.0 ∙ ap₂ (λ xs m. xs ++ set_over m [] ∷ []) (sym (p.sets n ls)) (next_number n (length ls)),
  p.front (ls ++ begins ∷ []) ∙ ap (λ xs. k ∷ xs) rest.1 ∙ sym (p.front ls),
)

pub begun : (n : ℕ) (ls : List SaidLine) → Begun n ls
begun n [] = (ap (λ m. set_over m [] ∷ []) (let e : n ≡ n + 0 = omega arith in e), refl)
begun n (k ∷ ls) = begun_by n k ls (shape k) (begun (n + 1) ls)

-- ---- how many sets there are

counted_by : (n : ℕ) (k : SaidLine) (ls : List SaidLine) → Shape k → length (sets_from (n + 1) ls) ≡ sets_in (map kind_of ls) → length (sets_from n (k ∷ ls)) ≡ sets_in (map kind_of (k ∷ ls))
counted_by n k ls a_set rest = ap suc rest ∙ (let e : suc (sets_in (map kind_of ls)) ≡ 1 + sets_in (map kind_of ls) = omega arith in e) ∙ sym (sum_by-cons (λ j. cond (is_set j) 1 0) (kind_of begins) (map kind_of ls))
counted_by n k ls (another j p) rest =
    ap length (p.sets n ls) ∙ rest ∙ (let e : sets_in (map kind_of ls) ≡ 0 + sets_in (map kind_of ls) = omega arith in e) ∙ ap (λ (b : Bool). cond b 1 0 + sets_in (map kind_of ls)) (sym p.kind) ∙ sym (sum_by-cons (λ j. cond (is_set j) 1 0) (kind_of k) (map kind_of ls))

pub sets_counted : (n : ℕ) (ls : List SaidLine) → length (sets_from n ls) ≡ sets_in (map kind_of ls)
sets_counted n [] = refl
sets_counted n (k ∷ ls) = counted_by n k ls (shape k) (sets_counted (n + 1) ls)

-- ---- lines that say nothing of entries

pub record Quiet (l : SaidLine) : Type 0 where
  pub plain : BeginsNone l
  pub uses : (n : ℕ) → uses_from n (l ∷ []) ≡ []
  pub values : (n : ℕ) → values_from n (l ∷ []) ≡ []
  pub entry : has_entry l ≡ false

pub quiet_grown : (l : SaidLine) → Quiet l → (m : ℕ) (s : SetReading) → grown m l s ≡ s
quiet_grown l q m s =
    let after = if has_entry l then m + 1 else s.after in
    ap (λ us. made s.line us (s.values ++ values_from m (l ∷ [])) after) (ap (λ xs. s.uses ++ xs) (q.uses m) ∙ append-nil s.uses)
    ∙ ap (λ vs. made s.line s.uses vs after) (ap (λ xs. s.values ++ xs) (q.values m) ∙ append-nil s.values)
    ∙ ap (λ (b : Bool). made s.line s.uses s.values (if b then m + 1 else s.after)) q.entry
