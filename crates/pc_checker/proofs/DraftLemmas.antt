-- Clauses whose symbols get numbers as they come.
use Rattle.std.proofs.Common.{◌≡◌, ℕ, ◌+◌, ◌<◌, inl, inr, Bool, List, [], ◌∷◌, ◌++◌, map, take, length, get_or, slice_get, Some, All, append_assoc, refl, ap, sym, ◌∙◌, subst, arith}
use Rattle.std.proofs.lemmas.Option.{get_or_from_slice_get, slice_get_within}
use Rattle.std.proofs.lemmas.List.{map-append, length-append, append-nil, get_or_append_left, map_more}
use Rattle.std.proofs.lemmas.List.FromFn.{map-range_with_len_more}
use Rattle.std.proofs.lemmas.List.Elements.{All-append, All-cons, All-nil, All-weaker, All-push}
use Rattle.pc_lits.specs.declared.literal.Lit.{Lit}
use Rattle.pc_accept.specs.Literals.{Symbol, node, Literal}
use Rattle.pc_accept.specs.Axioms.{each_below}
use Rattle.pc_cert.specs.Views.{literal_of, symbol_at}
use Rattle.pc_cert.specs.ReadFor.{IsNamedIn}
use Rattle.pc_cert.specs.Keys.{IsNumberedAs, AreNumberedAs}
use Rattle.pc_checker.specs.Drafts.{Draft, lit_of, IsLiteralWritten, AreWritten}
use Rattle.pc_cert.specs.Numbered.{StartsWith}
use Rattle.pc_checker.proofs.Derivations.{kept_names}

pub grown : (old new : List Symbol) (x : Symbol) (n : ℕ) → IsNumberedAs old new x n → StartsWith old new
grown old new x n is = elim is.kept [ inl h ↦ ([], h.1 ∙ sym (append-nil old)) | inr h ↦ (x ∷ [], h.1) ]

pub grows_on : (a b c : List Symbol) → StartsWith a b → StartsWith b c → StartsWith a c
grows_on a b c g h = (g.0 ++ h.0, h.1 ∙ ap (λ xs. xs ++ h.0) g.1 ∙ append_assoc a g.0 h.0)

pub named_still : (old new : List Symbol) (lits : List Lit) → StartsWith old new → All (IsNamedIn old) lits → All (IsNamedIn new) lits
named_still old new lits g all =
    let longer : length new ≡ length old + length g.0 = ap length g.1 ∙ length-append old g.0 in
    All-weaker (IsNamedIn old) (IsNamedIn new) (λ l is. omega arith) lits all

pub names_still : (old new : List Symbol) (lits : List Lit) → StartsWith old new → All (IsNamedIn old) lits → map (literal_of old) lits ≡ map (literal_of new) lits
names_still old new lits g all = subst (λ (xs : List Symbol). map (literal_of old) lits ≡ map (literal_of xs) lits) (sym g.1) (kept_names old g.0 lits all)

module _ (old new : List Symbol) (lits : List Lit) (x : Symbol) (l : Lit) (is : IsNumberedAs old new x l.variable.0) (all : All (IsNamedIn old) lits) where
  pub pushed_within : All (IsNamedIn new) (lits ++ l ∷ [])
  pushed_within = All-push (IsNamedIn new) lits l (named_still old new lits (grown old new x l.variable.0 is) all) (slice_get_within new l.variable.0 x is.at)

  pub pushed : map (literal_of new) (lits ++ l ∷ []) ≡ map (literal_of old) lits ++ (record { what = x; sign = l.sign }) ∷ []
  pushed =
      let make : Symbol → Literal = λ y. record { what = y; sign = l.sign } in
      map-append (literal_of new) lits (l ∷ [])
      ∙ ap (λ ls. ls ++ literal_of new l ∷ []) (sym (names_still old new lits (grown old new x l.variable.0 is) all))
      ∙ ap (λ k. map (literal_of old) lits ++ k ∷ []) (ap make (get_or_from_slice_get new l.variable.0 x (node 0 []) is.at))

  pub written : (lits' : List Lit) (d : Draft) → record { symbols = old; clause = map (literal_of old) lits } ≡ d → lits' ≡ lits ++ l ∷ []
      → IsLiteralWritten d (record { symbols = new; clause = map (literal_of new) lits' }) (record { what = x; sign = l.sign })
  written lits' d view more =
      let new_draft : Draft = record { symbols = new; clause = map (literal_of new) lits' } in
      subst (λ (o : Draft). IsLiteralWritten o new_draft (record { what = x; sign = l.sign })) view
      (record { grows = grown old new x l.variable.0 is; clause = ap (map (literal_of new)) more ∙ pushed })

-- ---- the literals of several symbols that are numbered one after the other

pub grown_each : (xs : List Symbol) (old new : List Symbol) (ns : List ℕ) → AreNumberedAs old new xs ns → StartsWith old new
grown_each [] old new [] same = ([], same ∙ sym (append-nil old))
grown_each [] old new (n ∷ ns) h = absurd h
grown_each (x ∷ xs) old new [] h = absurd h
grown_each (x ∷ xs) old new (n ∷ ns) h = grows_on old h.0 new (grown old h.0 x n h.1) (grown_each xs h.0 new ns h.2)

still_within : (old new : List Symbol) (n : ℕ) → StartsWith old new → n < length old → n < length new
still_within old new n g within = let longer : length new ≡ length old + length g.0 = ap length g.1 ∙ length-append old g.0 in omega (arith, within, longer)

still_at : (old new : List Symbol) (x : Symbol) (n : ℕ) → StartsWith old new → slice_get old n ≡ Some x → symbol_at new n ≡ x
still_at old new x n g at =
    ap (λ (xs : List Symbol). symbol_at xs n) g.1 ∙ get_or_append_left old g.0 (node 0 []) n (slice_get_within old n x at) ∙ get_or_from_slice_get old n x (node 0 []) at

module _ (sign : Bool) (child : ℕ → Symbol) where
  abbrev signed_child : ℕ → Literal
  signed_child k = record { what = child k; sign = sign }

  each_within : (ks : List ℕ) (old new : List Symbol) (ns : List ℕ) → AreNumberedAs old new (map child ks) ns → All (IsNamedIn new) (map (lit_of sign) ns)
  each_within [] old new [] same = All-nil (IsNamedIn new)
  each_within [] old new (n ∷ ns) h = absurd h
  each_within (k ∷ ks) old new [] h = absurd h
  each_within (k ∷ ks) old new (n ∷ ns) h =
      All-cons (IsNamedIn new) (lit_of sign n) (map (lit_of sign) ns) (still_within h.0 new n (grown_each (map child ks) h.0 new ns h.2) (slice_get_within h.0 n (child k) h.1.at)) (each_within ks h.0 new ns h.2)

  each_named : (ks : List ℕ) (old new : List Symbol) (ns : List ℕ) → AreNumberedAs old new (map child ks) ns → map (literal_of new) (map (lit_of sign) ns) ≡ map signed_child ks
  each_named [] old new [] same = refl
  each_named [] old new (n ∷ ns) h = absurd h
  each_named (k ∷ ks) old new [] h = absurd h
  each_named (k ∷ ks) old new (n ∷ ns) h =
      let make : Symbol → Literal = λ y. record { what = y; sign = sign } in
      let here : literal_of new (lit_of sign n) ≡ signed_child k = ap make (still_at h.0 new (child k) n (grown_each (map child ks) h.0 new ns h.2) h.1.at) in
      ap (λ l. l ∷ map (literal_of new) (map (lit_of sign) ns)) here ∙ ap (λ ls. signed_child k ∷ ls) (each_named ks h.0 new ns h.2)

  module _ (ks : List ℕ) (old new : List Symbol) (ns : List ℕ) (are : AreNumberedAs old new (map child ks) ns) (lits : List Lit) (all : All (IsNamedIn old) lits) where
    grows_by : StartsWith old new
    grows_by = grown_each (map child ks) old new ns are

    -- the literals of before, whatever came of the others
    pub before_within : (kept : List Lit) → kept ≡ lits → All (IsNamedIn new) kept
    before_within kept same = subst (All (IsNamedIn new)) (sym same) (named_still old new lits grows_by all)

    pub children_within : (kept : List Lit) → kept ≡ lits ++ map (lit_of sign) ns → All (IsNamedIn new) kept
    children_within kept same =
        subst (All (IsNamedIn new)) (sym same) (All-append (IsNamedIn new) lits (map (lit_of sign) ns) (named_still old new lits grows_by all) (each_within ks old new ns are))

    pub children_written : (kept : List Lit) (d : Draft) → record { symbols = old; clause = map (literal_of old) lits } ≡ d → kept ≡ lits ++ map (lit_of sign) ns
        → AreWritten d (record { symbols = new; clause = map (literal_of new) kept }) (map signed_child ks)
    children_written kept d view same =
        let new_draft : Draft = record { symbols = new; clause = map (literal_of new) kept } in
        subst (λ (o : Draft). AreWritten o new_draft (map signed_child ks)) view (record {
          grows = grows_by;
          clause =
              ap (map (literal_of new)) same
              ∙ map-append (literal_of new) lits (map (lit_of sign) ns)
              ∙ ap (λ ls. ls ++ map (literal_of new) (map (lit_of sign) ns)) (sym (names_still old new lits grows_by all))
              ∙ ap (λ ls. map (literal_of old) lits ++ ls) (each_named ks old new ns are);
        })

-- ---- several literals

pub nothing_written : (d : Draft) → AreWritten d d []
nothing_written d = record { grows = ([], sym (append-nil d.symbols)); clause = sym (append-nil d.clause) }

pub one_more_written : (a b c : Draft) (ls : List Literal) (l : Literal) → AreWritten a b ls → IsLiteralWritten b c l → AreWritten a c (ls ++ l ∷ [])
one_more_written a b c ls l w is = record {
  grows = grows_on a.symbols b.symbols c.symbols w.grows is.grows;
  clause = is.clause ∙ ap (λ xs. xs ++ l ∷ []) w.clause ∙ append_assoc a.clause ls (l ∷ []);
}

pub more_written : (a b c : Draft) (ls ms : List Literal) → AreWritten a b ls → AreWritten b c ms → AreWritten a c (ls ++ ms)
more_written a b c ls ms w is = record {
  grows = grows_on a.symbols b.symbols c.symbols w.grows is.grows;
  clause = is.clause ∙ ap (λ xs. xs ++ ms) w.clause ∙ append_assoc a.clause ls ms;
}

-- the literals below a number, and one more
pub below_more_written : (a b c : Draft) (f : ℕ → Literal) (n : ℕ) → AreWritten a b (each_below n f) → IsLiteralWritten b c (f n) → AreWritten a c (each_below (n + 1) f)
below_more_written a b c f n w is =
    subst (AreWritten a c) (sym (map-range_with_len_more f 0 n n (let same : 0 + n ≡ n = omega arith in same))) (one_more_written a b c (each_below n f) (f n) w is)

-- the literals of a list's front, and one more
pub front_more_written : {X : Type 0} (a b c : Draft) (f : X → Literal) (xs : List X) (i : ℕ) (d : X) → i < length xs → AreWritten a b (map f (take i xs)) → IsLiteralWritten b c (f (get_or xs i d))
    → AreWritten a c (map f (take (i + 1) xs))
front_more_written a b c f xs i d within w is = subst (AreWritten a c) (sym (map_more f xs i d within)) (one_more_written a b c (map f (take i xs)) (f (get_or xs i d)) w is)
