-- Lemmas on what happens.
use Rattle.std.proofs.Common.{◌≡◌, ℕ, List, [], ◌∷◌, ◌++◌, refl, sym, subst, inl, inr, Option, Some, None, append_assoc, ◌∙◌, ap}
use Rattle.std.specs.Io.KnownBytes.{Consumes, Appends, IsAtEnd}
use Rattle.pc_port.specs.Port.{Rose}
use Rattle.pc_refusals.specs.Events.{Outside, Event, took, took_rest, told, input_failed, output_failed, Does, Happened, Streams, streams, around}
use Rattle.pc_refusals.specs.Runs.{HasTook, last_or, IsOutput, EndsTelling}

pub happened-append : (xs ys : List Event) (a b c : Outside) → Happened xs a b → Happened ys b c → Happened (xs ++ ys) a c
happened-append [] ys a b c first second = subst (λ (o : Outside). Happened ys o c) first second
happened-append (x ∷ xs) ys a b c first second = (first.0, first.1, happened-append xs ys first.0 b c first.2 second)

pub happened-one : (event : Event) (a b : Outside) → Does event a b → Happened (event ∷ []) a b
happened-one event a b does = (b, does, refl)

pub happened-push : (xs : List Event) (event : Event) (a b c : Outside) → Happened xs a b → Does event b c → Happened (xs ++ event ∷ []) a c
happened-push xs event a b c first does = happened-append xs (event ∷ []) a b c first (happened-one event b c does)

pub took_does : (o : Outside) (l l' : Option (List ℕ)) (n n' : ℕ) (g : Option (List ℕ)) (m : ℕ) (bytes : List ℕ) → n' ≡ n → Consumes l l' bytes → Does (took bytes) (around o (streams l n g m)) (around o (streams l' n' g m))
took_does o l l' n n' g m bytes same taken = subst (λ (k : ℕ). Does (took bytes) (around o (streams l n g m)) (around o (streams l' k g m))) (sym same) (refl, taken)

pub took_rest_does : (o : Outside) (l l' : Option (List ℕ)) (n n' : ℕ) (g : Option (List ℕ)) (m : ℕ) (bytes : List ℕ) → n' ≡ n → Consumes l l' bytes → IsAtEnd l' → Does (took_rest bytes) (around o (streams l n g m)) (around o (streams l' n' g m))
took_rest_does o l l' n n' g m bytes same taken end = subst (λ (k : ℕ). Does (took_rest bytes) (around o (streams l n g m)) (around o (streams l' k g m))) (sym same) (refl, taken, end)

pub told_does : (o : Outside) (l : Option (List ℕ)) (n : ℕ) (g g' : Option (List ℕ)) (m m' : ℕ) (piece : List ℕ) → m' ≡ m → Appends g g' piece → Does (told piece) (around o (streams l n g m)) (around o (streams l n g' m'))
told_does o l n g g' m m' piece same written = subst (λ (k : ℕ). Does (told piece) (around o (streams l n g m)) (around o (streams l n g' k))) (sym same) (refl, written)

pub read_fails_does : (o : Outside) (l : Option (List ℕ)) (n n' : ℕ) (g : Option (List ℕ)) (m : ℕ) → Rose n n' → Does input_failed (around o (streams l n g m)) (around o (streams l n' g m))
read_fails_does o l n n' g m rose = (refl, rose)

pub write_fails_does : (o : Outside) (l : Option (List ℕ)) (n : ℕ) (g : Option (List ℕ)) (m m' : ℕ) → Rose m m' → Does output_failed (around o (streams l n g m)) (around o (streams l n g m'))
write_fails_does o l n g m m' rose = (refl, rose)

-- what was consumed in one was consumed in two
pub Consumes-split : (a c : Option (List ℕ)) (xs ys : List ℕ) → Consumes a c (xs ++ ys) → (b : Option (List ℕ)) × Consumes a b xs × Consumes b c ys
Consumes-split None c xs ys p = (None, tt, tt)
Consumes-split (Some a) None xs ys p = absurd p
Consumes-split (Some a) (Some c) xs ys p = (Some (ys ++ c), p ∙ append_assoc xs ys c, refl)

pub has_took-left : (xs ys : List Event) → HasTook xs → HasTook (xs ++ ys)
has_took-left [] ys some = absurd some
has_took-left (x ∷ xs) ys some = elim some [
  | inl w ↦ inl w
  | inr w ↦ inr (has_took-left xs ys w)
]

pub has_took-right : (xs ys : List Event) → HasTook ys → HasTook (xs ++ ys)
has_took-right [] ys some = some
has_took-right (x ∷ xs) ys some = inr (has_took-right xs ys some)

pub last_or-append : (event : Event) (xs ys : List Event) → last_or event (xs ++ ys) ≡ last_or (last_or event xs) ys
last_or-append event [] ys = refl
last_or-append event (x ∷ xs) ys = last_or-append x xs ys

-- what ends in these ends as they do
pub ends-more : (first events : List Event) → EndsTelling events → EndsTelling (first ++ events)
ends-more first [] tells = absurd tells
ends-more first (x ∷ xs) tells = subst IsOutput (sym (last_or-append (took []) first (x ∷ xs))) tells
