-- What of the lines before decides which may stand next, once one more stands.
use Rattle.std.proofs.Common.{◌≡◌, ℕ, ◌+◌, Bool, true, false, ◌||◌, ◌&&◌, ◌==◌, List, [], ◌∷◌, ◌++◌, if◌then◌else◌, refl, ap, sym, ◌∙◌, subst, arith}
use Rattle.std.specs.Prelude.{count_by, cond}
use Rattle.std.proofs.lemmas.List.Sums.{sum_by-append}
use Rattle.std.proofs.lemmas.Bool.Decides.{nat_tests}
use Rattle.pc_cert.specs.Order.{LineKind, numbered_line, has, lacks, may_stand, has_value_since, is_text, is_heading, is_claim, is_on_sets, is_before_entries, is_set, is_value, is_numbered, is_end}
use Rattle.pc_cert.specs.Standing.{order_of}
use Rattle.pc_cert.specs.declared.order.Order.{Order}

swapped : (a b c : Bool) → (a || (b || c)) ≡ (b || (a || c))
swapped true true c = refl
swapped true false c = refl
swapped false b c = refl

has_on : (test : LineKind → Bool) (before : List LineKind) (k : LineKind) → has test (before ++ k ∷ []) ≡ (test k || has test before)
has_on test [] k = refl
has_on test (j ∷ js) k = ap (λ b. test j || b) (has_on test js k) ∙ swapped (test j) (test k) (has test js)

value_on : (so : Bool) (before : List LineKind) (k : LineKind) → has_value_since so (before ++ k ∷ []) ≡ (if is_set k then false else (is_value k || has_value_since so before))
value_on so [] k = refl
value_on so (j ∷ js) k = value_on (if is_set j then false else (is_value j || so)) js k

-- what it is behind one more line, and behind so many numbered lines
abbrev pub stepped : Order → LineKind → ℕ → Order
stepped o k last = record {
  some = is_text k || o.some;
  heading = is_heading k || o.heading;
  claim = is_claim k || o.claim;
  sets = is_on_sets k || o.sets;
  entries = is_before_entries k || o.entries;
  value = if is_set k then false else (is_value k || o.value);
  derivation = is_numbered k || o.derivation;
  end = is_end k || o.end;
  last = last;
}

order_on : (before : List LineKind) (k : LineKind) → stepped (order_of before) k (count_by is_numbered (before ++ k ∷ [])) ≡ order_of (before ++ k ∷ [])
order_on before k =
    let all = before ++ k ∷ [] in
    let o : Order = stepped (order_of before) k (count_by is_numbered all) in
    let some : Order = record o { some = has is_text all } in
    let heading : Order = record some { heading = has is_heading all } in
    let claim : Order = record heading { claim = has is_claim all } in
    let sets : Order = record claim { sets = has is_on_sets all } in
    let entries : Order = record sets { entries = has is_before_entries all } in
    let value : Order = record entries { value = has_value_since false all } in
    let derivation : Order = record value { derivation = has is_numbered all } in
    ap (λ (x : Bool). record o { some = x }) (sym (has_on is_text before k))
    ∙ ap (λ (x : Bool). record some { heading = x }) (sym (has_on is_heading before k))
    ∙ ap (λ (x : Bool). record heading { claim = x }) (sym (has_on is_claim before k))
    ∙ ap (λ (x : Bool). record claim { sets = x }) (sym (has_on is_on_sets before k))
    ∙ ap (λ (x : Bool). record sets { entries = x }) (sym (has_on is_before_entries before k))
    ∙ ap (λ (x : Bool). record entries { value = x }) (sym (value_on false before k))
    ∙ ap (λ (x : Bool). record value { derivation = x }) (sym (has_on is_numbered before k))
    ∙ ap (λ (x : Bool). record derivation { end = x }) (sym (has_on is_end before k))

abbrev counted : Bool → ℕ
counted b = cond b 1 0

count_on : (before : List LineKind) (k : LineKind) → count_by is_numbered (before ++ k ∷ []) ≡ count_by is_numbered before + counted (is_numbered k)
count_on before k =
    sum_by-append (λ j. counted (is_numbered j)) before (k ∷ []) ∙ ap (λ n. count_by is_numbered before + n) (let e : 0 + counted (is_numbered k) ≡ counted (is_numbered k) = omega arith in e)

-- behind a line that isn't numbered
pub behind_other : (o : Order) (before : List LineKind) (k w : LineKind) → o ≡ order_of before → w ≡ k → is_numbered k ≡ false → stepped o k o.last ≡ order_of (before ++ w ∷ [])
behind_other o before k w is same other =
    let none : count_by is_numbered before ≡ count_by is_numbered (before ++ k ∷ []) = (let all = count_on before k in let zero : counted (is_numbered k) ≡ 0 = ap counted other in omega (arith, all, zero)) in
    ap (λ p. stepped p k p.last) is ∙ ap (stepped (order_of before) k) none ∙ order_on before k ∙ ap (λ j. order_of (before ++ j ∷ [])) (sym same)

pub numbers_equal : (n m : ℕ) → (n == m) ≡ true → n ≡ m
numbers_equal n m e = grind (arith, nat_tests)

last_test : (a b : Bool) → (a && b) ≡ true → b ≡ true
last_test true b e = e
last_test false b e = absurd (cc)

-- behind a numbered line that may stand
pub behind_numbered : (o : Order) (before : List LineKind) (n : ℕ) (w : LineKind) → o ≡ order_of before → w ≡ numbered_line n → may_stand before w ≡ true → stepped o (numbered_line n) n ≡ order_of (before ++ w ∷ [])
behind_numbered o before n w is same may =
    let stands : may_stand before (numbered_line n) ≡ true = subst (λ k. may_stand before k ≡ true) same may in
    let next : n ≡ count_by is_numbered before + 1 = numbers_equal n _ (last_test (has is_claim before && lacks is_end before) _ stands) in
    let last : n ≡ count_by is_numbered (before ++ numbered_line n ∷ []) = next ∙ sym (count_on before (numbered_line n)) in
    ap (λ p. stepped p (numbered_line n) n) is ∙ ap (stepped (order_of before) (numbered_line n)) last ∙ order_on before (numbered_line n) ∙ ap (λ j. order_of (before ++ j ∷ [])) (sym same)
