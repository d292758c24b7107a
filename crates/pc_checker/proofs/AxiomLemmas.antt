-- Clauses of axioms that were written, literal by literal.
use Rattle.std.proofs.Common.{◌≡◌, ◌≢◌, ℕ, zero, suc, ◌+◌, ◌-◌, ◌<◌, ◌≤◌, ◌↔◌, Bool, true, false, not, MatchBool, List, [], ◌∷◌, ◌++◌, map, length, All, Option, None, Some, Result, Ok, Err, IfOk, slice_get, IsSomeAnd, ap, sym, ◌∙◌, subst, arith}
use Rattle.std.specs.Option.{option_map}
use Rattle.std.proofs.lemmas.Option.{slice_get-get_or, slice_get_past, same_Some, none-some}
use Rattle.std.proofs.lemmas.List.{length-append, append-nil, get_or_append_left, get_or_push}
use Rattle.std.proofs.lemmas.List.FromFn.{length-map-range_with_len, get_or-map-range_with_len}
use Rattle.pc_sheet.specs.Sheet.{Universe, Sheet, NamedStatement, no_statements, all_of}
use Rattle.pc_sheet.specs.Nodes.{Node, node_at, kind_of, kind_at}
use Rattle.pc_sheet.specs.Reads.{GiveTruth}
use Rattle.pc_sheet.specs.WellFormed.{IsEntryOf}
use Rattle.pc_sheet.specs.declared.ids.Entry.{Entry}
use Rattle.pc_sheet.specs.declared.nodes.NodeKind.{NodeKind}
use Rattle.pc_accept.specs.Literals.{Symbol, node, Literal, positive}
use Rattle.pc_accept.specs.Axioms.{axiom_rule, axiom_node, axiom_atom, each_below, IsAtNumber, IsClauseOfKind, negated_entry}
use Rattle.pc_checker.specs.Drafts.{Draft, IsLiteralWritten, AreWritten}
use Rattle.pc_cert.specs.Numbered.{StartsWith}
use Rattle.pc_checker.specs.inside.Written.{IsWritten, IsAxiomWritten, IsNumberWritten, clauses_of_many}
use Rattle.pc_lemmas.proofs.Options.{some_and}
use Rattle.pc_checker.proofs.DraftLemmas.{nothing_written, one_more_written, more_written}

pub grows_none : (names : List Symbol) → StartsWith names names
grows_none names = ([], sym (append-nil names))

-- what was written to an empty clause
pub written_clause : (old new : Draft) (ls : List Literal) → old.clause ≡ [] → AreWritten old new ls → new.clause ≡ ls
written_clause old new ls blank w = w.clause ∙ ap (λ xs. xs ++ ls) blank

pub one_written : (old new : Draft) (l : Literal) → IsLiteralWritten old new l → AreWritten old new (l ∷ [])
one_written old new l w = one_more_written old old new [] l (nothing_written old) w

pub match_along : (b : Bool) (P Q R S : Type 0) → (P → R) → (Q → S) → MatchBool b P Q → MatchBool b R S
match_along true P Q R S f g h = f h
match_along false P Q R S f g h = g h

-- ---- nodes with a clause for each child

module _ (p : Symbol) (child : ℕ → Symbol) (sign : Bool) (n : ℕ) where
  abbrev short : ℕ → List Literal
  short k = (record { what = p; sign = not sign }) ∷ (record { what = child k; sign = sign }) ∷ []

  abbrev long : List Literal
  long = (record { what = p; sign = sign }) ∷ each_below n (λ k. record { what = child k; sign = not sign })

  abbrev many : List (List Literal)
  many = clauses_of_many p child sign n

  count : length (each_below n short) ≡ n
  count = length-map-range_with_len short 0 n

  count_all : length many ≡ n + 1
  count_all = let m = count in omega (arith, length-append (each_below n short) (long ∷ []))

  short_at : (k : ℕ) → k < n → slice_get many k ≡ Some (short k)
  short_at k less =
      let m = count in
      let all = count_all in
      slice_get-get_or many k [] (omega arith) ∙ ap Some (get_or_append_left (each_below n short) (long ∷ []) [] k (omega arith) ∙ get_or-map-range_with_len short 0 n k k [] less (omega arith))

  long_at : slice_get many n ≡ Some long
  long_at = let all = count_all in slice_get-get_or many n [] (omega arith) ∙ ap Some (get_or_push (each_below n short) long [] n count)

  numbered : (number place : ℕ) (c : List Literal) → number ≡ suc place → slice_get many place ≡ Some c → IsAtNumber many number c
  numbered number place c same at = subst (λ i. IsAtNumber many i c) (sym same) at

  pub many_short : (number : ℕ) (old new : Draft) → old.clause ≡ [] → number ≢ 0 → number - 1 < n → AreWritten old new (short (number - 1)) → IsNumberWritten many number old new true
  many_short number old new blank some less w =
      let same : number ≡ suc (number - 1) = omega arith in
      record { grows = w.grows; clause = numbered number (number - 1) new.clause same (short_at (number - 1) less ∙ ap Some (sym (written_clause old new (short (number - 1)) blank w))) }

  pub many_long : (number : ℕ) (old mid new : Draft) → old.clause ≡ [] → number ≢ 0 → number - 1 ≡ n → IsLiteralWritten old mid (record { what = p; sign = sign })
      → AreWritten mid new (each_below n (λ k. record { what = child k; sign = not sign })) → IsNumberWritten many number old new true
  many_long number old mid new blank some same first w =
      let all : AreWritten old new long = more_written old mid new ((record { what = p; sign = sign }) ∷ []) (each_below n (λ k. record { what = child k; sign = not sign })) (one_written old mid (record { what = p; sign = sign }) first) w in
      record { grows = all.grows; clause = numbered number n new.clause (omega arith) (long_at ∙ ap Some (sym (written_clause old new long blank all))) }

  pub many_past : (number : ℕ) (old : Draft) → n < number - 1 → IsNumberWritten many number old old false
  many_past number old more =
      let all = count_all in
      record { grows = grows_none old.symbols; clause = λ c is. none number c (omega arith) is }
    where
      none : (number : ℕ) (c : List Literal) → n + 1 < number → ¬ IsAtNumber many number c
      none zero c l is = absurd is
      none (suc k) c l is = let all = count_all in none-some c (sym (slice_get_past many k (omega arith)) ∙ is)

-- ---- nodes by their kind

module _ (sheet : Sheet) (r : ℕ) (path : List ℕ) where
  abbrev u : Universe
  u = sheet.universe

  -- the clause of a node by its kind is the axiom's, and back
  axiom_by : (o : Option Node) (kind : NodeKind) (i : ℕ) (c : List Literal) → option_map (λ (n : Node). kind_of u n.1) o ≡ Some kind
      → IsClauseOfKind sheet r path kind i c ↔ IsSomeAnd o (λ n. IsClauseOfKind sheet r path (kind_of u n.1) i c)
  axiom_by None kind i c at = absurd (none-some kind at)
  axiom_by (Some n) kind i c at =
      let same : kind_of u n.1 ≡ kind = same_Some (kind_of u n.1) kind at in
      (λ h. subst (λ k. IsClauseOfKind sheet r path k i c) (sym same) h, λ h. subst (λ k. IsClauseOfKind sheet r path k i c) same h)

  pub node_written : (kind : NodeKind) (i : ℕ) (old new : Draft) (good : Bool) → kind_at sheet r path ≡ Some kind → IsWritten (IsClauseOfKind sheet r path kind i) old new good
      → IsAxiomWritten sheet (axiom_node r path i) old new good
  node_written kind i old new good at w = record {
    grows = w.grows;
    clause = match_along good _ _ _ _ (axiom_by (node_at sheet r path) kind i new.clause at).0 (λ none c is. none c ((axiom_by (node_at sheet r path) kind i c at).1 is)) w.clause;
  }

  no_clause : (o : Option Node) (i : ℕ) (c : List Literal) → option_map (λ (n : Node). kind_of u n.1) o ≡ None → ¬ IsSomeAnd o (λ n. IsClauseOfKind sheet r path (kind_of u n.1) i c)
  no_clause None i c at h = h
  no_clause (Some n) i c at h = none-some (kind_of u n.1) (sym at)

  pub node_missing : (i : ℕ) (old : Draft) → kind_at sheet r path ≡ None → IsAxiomWritten sheet (axiom_node r path i) old old false
  node_missing i old at = record { grows = grows_none old.symbols; clause = λ c is. no_clause (node_at sheet r path) i c at is }

-- ---- rules

pub rule_missing : (sheet : Sheet) (r : ℕ) (old : Draft) → length sheet.rules ≤ r → IsAxiomWritten sheet (axiom_rule r) old old false
rule_missing sheet r old past = record {
  grows = grows_none old.symbols;
  clause = λ c is. subst (λ (o : Option NamedStatement). IsSomeAnd o (λ named. c ≡ positive (node r []) ∷ [])) (slice_get_past sheet.rules r past) is;
}

pub rule_written : (sheet : Sheet) (r : ℕ) (old new : Draft) → r < length sheet.rules → old.clause ≡ [] → IsLiteralWritten old new (positive (node r [])) → IsAxiomWritten sheet (axiom_rule r) old new true
rule_written sheet r old new less blank w =
    let d : NamedStatement = record { name = []; states = all_of no_statements } in
    let all = one_written old new (positive (node r [])) w in
    record {
      grows = all.grows;
      clause = subst (λ (o : Option NamedStatement). IsSomeAnd o (λ named. new.clause ≡ positive (node r []) ∷ [])) (sym (slice_get-get_or sheet.rules r d less)) (written_clause old new (positive (node r []) ∷ []) blank all);
    }

-- ---- atoms

module _ (sheet : Sheet) (r : ℕ) (path : List ℕ) (reads : List Entry) where
  pub atom_missing : (old : Draft) → ((is : Bool) → ¬ IsSomeAnd (node_at sheet r path) (λ n. GiveTruth sheet.universe n.0 n.1 reads is)) → IsAxiomWritten sheet (axiom_atom r path reads) old old false
  atom_missing old none = record {
    grows = grows_none old.symbols;
    clause = λ c is. none is.truth (subst (λ (o : Option Node). IsSomeAnd o (λ n. GiveTruth sheet.universe n.0 n.1 reads is.truth)) (sym is.at) is.given);
  }

  pub atom_written : (is : Bool) (old mid new : Draft) → old.clause ≡ [] → All (IsEntryOf sheet.universe) reads → IsSomeAnd (node_at sheet r path) (λ n. GiveTruth sheet.universe n.0 n.1 reads is)
      → AreWritten old mid (map negated_entry reads) → IsLiteralWritten mid new (record { what = node r path; sign = is }) → IsAxiomWritten sheet (axiom_atom r path reads) old new true
  atom_written is old mid new blank each gives first w =
      let all = one_more_written old mid new (map negated_entry reads) (record { what = node r path; sign = is }) first w in
      let n = some_and (node_at sheet r path) (λ n. GiveTruth sheet.universe n.0 n.1 reads is) gives in
      record {
        grows = all.grows;
        clause = record {
          scope = n.0.0;
          states = n.0.1;
          at = n.1;
          each = each;
          truth = is;
          given = n.2;
          is = written_clause old new (map negated_entry reads ++ (record { what = node r path; sign = is }) ∷ []) blank all;
        };
      }

pub if_ok_then : {A E : Type 0} (r : Result A E) (P Q : A → Type 0) → ((a : A) → P a → Q a) → IfOk r P → IfOk r Q
if_ok_then (Ok a) P Q f h = f a h
if_ok_then (Err e) P Q f h = h
