-- What events come to where the devices tell their bytes.
use Rattle.std.proofs.Common.{◌≡◌, ℕ, List, [], ◌∷◌, ◌++◌, Option, Some, None, IfSome, refl, sym, ◌∙◌, ap, subst, append-nil}
use Rattle.std.specs.Io.KnownBytes.{Consumes, Appends, IsAtEnd}
use Rattle.std.proofs.lemmas.List.Concat.{flat_map-append}
use Rattle.pc_port.specs.Shelf.{Files, file_named}
use Rattle.pc_refusals.specs.declared.status.Status.{Status}
use Rattle.pc_refusals.specs.Events.{Outside, Event, took_rest, gave, Happened}
use Rattle.pc_refusals.specs.Runs.{IsSpare, nothing, ahead}
use Rattle.pc_run_laws.specs.Flat.{taken_in, told_in, told_of, EventsAddUp}
use Rattle.pc_theorem.specs.Theorem as page
use Rattle.pc_theorem.specs.Theorem.{IsTold}

-- ---- bytes

pub front_cancels : (xs ys zs : List ℕ) → xs ++ ys ≡ xs ++ zs → ys ≡ zs
front_cancels [] ys zs e = e
front_cancels (x ∷ xs) ys zs e = front_cancels xs ys zs (tail_same (xs ++ ys) (xs ++ zs) e)
  where
    tail_same : (us vs : List ℕ) → x ∷ us ≡ x ∷ vs → us ≡ vs
    tail_same us vs e = cc

-- nothing stands behind what was taken to the end
pub none_behind : (xs ys : List ℕ) → xs ≡ xs ++ ys → ys ≡ []
none_behind xs ys e = front_cancels xs ys [] (sym e ∙ sym (append-nil xs))

through : (input xs bytes : List ℕ) (m e : Option (List ℕ)) → Consumes (Some input) m xs → Consumes m e bytes → IsAtEnd e → input ≡ xs ++ bytes
through input xs bytes None e first second end = absurd first
through input xs bytes (Some l) None first second end = absurd second
through input xs bytes (Some l) (Some r) first second end = first ∙ ap (λ ys. xs ++ ys) (second ∙ ap (λ ys. bytes ++ ys) end ∙ append-nil bytes)

-- ---- events

pub split : (xs ys : List Event) (a b : Outside) → Happened (xs ++ ys) a b → (m : Outside) × Happened xs a m × Happened ys m b
split [] ys a b h = (a, refl, h)
split (x ∷ xs) ys a b h = let two = split xs ys h.0 b h.2 in (two.0, (h.0, h.1, two.1), two.2)

spare_is_quiet : (most : ℕ) (events spare : List Event) → IsSpare most events spare → told_in spare ≡ []
spare_is_quiet most events spare nothing = refl
spare_is_quiet most events spare (ahead held few telling some) = refl

pub told-append : (xs ys : List Event) → told_in (xs ++ ys) ≡ told_in xs ++ told_in ys
told-append xs ys = flat_map-append told_of xs ys

told_alone : (most : ℕ) (events spare : List Event) → IsSpare most events spare → told_in (events ++ spare) ≡ told_in events
told_alone most events spare quiet = told-append events spare ∙ ap (λ xs. told_in events ++ xs) (spare_is_quiet most events spare quiet) ∙ append-nil (told_in events)

-- the file that the shelf gave first
pub given_file : (file text : List ℕ) (more : List Event) (files : Files) (a b : Outside) → Happened (gave file text ∷ more) a b → a.kept ≡ Some files → file_named file files ≡ Some text
given_file file text more files a b h kept = subst (λ k. IfSome k (λ fs. file_named file fs ≡ Some text)) kept h.1.1

module _ (sums : EventsAddUp) where
  -- what was taken to the end is all that there was
  pub taken_all : (xs ys : List Event) (input bytes : List ℕ) (a b : Outside) → Happened (xs ++ took_rest bytes ∷ ys) a b → a.input ≡ Some input → input ≡ taken_in xs ++ bytes
  taken_all xs ys input bytes a b h is =
      let two = split xs (took_rest bytes ∷ ys) a b h in
      through input (taken_in xs) bytes two.0.input two.2.0.input (subst (λ i. Consumes i two.0.input (taken_in xs)) is (sums.taken xs a two.0 two.1)) two.2.1.1 two.2.1.2

  -- what was told is what was printed
  pub printed_is : (words : List (List ℕ)) (status : Status) (a b : Outside) (run : page.KnownRun) → IsTold words status a b run → (most : ℕ) (events spare : List Event) → IsSpare most events spare → Happened (events ++ spare) a b
      → run.printed ≡ told_in events
  printed_is words status a b run is most events spare quiet h =
      let told_so : Appends a.output b.output (told_in events) = subst (Appends a.output b.output) (told_alone most events spare quiet) (sums.told (events ++ spare) a b h) in
      front_cancels is.earlier run.printed (told_in events)
      (subst (λ o. Appends (Some is.earlier) o (told_in events)) is.given_after (subst (λ o. Appends o b.output (told_in events)) is.given_before told_so))
