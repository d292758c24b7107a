-- What events come to.
use Rattle.std.proofs.Common.{◌≡◌, ℕ, List, [], ◌∷◌, ◌++◌, refl, sym, ap, subst, Option}
use Rattle.std.specs.Io.KnownBytes.{Consumes, Appends}
use Rattle.std.proofs.KnownBytes.{Consumes-nil, Appends-nil, Consumes-trans, Appends-trans}
use Rattle.pc_refusals.specs.Events.{Outside, Event, took, took_rest, gave, told, input_failed, shelf_failed, output_failed, Does, Happened}
use Rattle.pc_run_laws.specs.Flat.{taken_of, told_of, taken_in, told_in}

same_input : (a b : Outside) → b.input ≡ a.input → Consumes a.input b.input []
same_input a b is = subst (λ (l : Option (List ℕ)). Consumes a.input l []) (sym is) (Consumes-nil a.input)

same_output : (a b : Outside) → b.output ≡ a.output → Appends a.output b.output []
same_output a b is = subst (λ (l : Option (List ℕ)). Appends a.output l []) (sym is) (Appends-nil a.output)

takes : (event : Event) (a b : Outside) → Does event a b → Consumes a.input b.input (taken_of event)
takes (took bytes) a b does = does.1
takes (took_rest bytes) a b does = does.1
takes (gave name text) a b does = same_input a b (ap (λ (o : Outside). o.input) does.0)
takes (told piece) a b does = same_input a b (ap (λ (o : Outside). o.input) does.0)
takes input_failed a b does = same_input a b (ap (λ (o : Outside). o.input) does.0)
takes (shelf_failed name) a b does = same_input a b (ap (λ (o : Outside). o.input) does.0)
takes output_failed a b does = same_input a b (ap (λ (o : Outside). o.input) does.0)

tells : (event : Event) (a b : Outside) → Does event a b → Appends a.output b.output (told_of event)
tells (took bytes) a b does = same_output a b (ap (λ (o : Outside). o.output) does.0)
tells (took_rest bytes) a b does = same_output a b (ap (λ (o : Outside). o.output) does.0)
tells (gave name text) a b does = same_output a b (ap (λ (o : Outside). o.output) does.0)
tells (told piece) a b does = does.1
tells input_failed a b does = same_output a b (ap (λ (o : Outside). o.output) does.0)
tells (shelf_failed name) a b does = same_output a b (ap (λ (o : Outside). o.output) does.0)
tells output_failed a b does = same_output a b (ap (λ (o : Outside). o.output) does.0)

pub taken_together : (events : List Event) (a b : Outside) → Happened events a b → Consumes a.input b.input (taken_in events)
taken_together [] a b happened = same_input a b (ap (λ (o : Outside). o.input) happened)
taken_together (event ∷ events) a b happened = Consumes-trans a.input happened.0.input b.input (taken_of event) (taken_in events) (takes event a happened.0 happened.1) (taken_together events happened.0 b happened.2)

pub told_together : (events : List Event) (a b : Outside) → Happened events a b → Appends a.output b.output (told_in events)
told_together [] a b happened = same_output a b (ap (λ (o : Outside). o.output) happened)
told_together (event ∷ events) a b happened = Appends-trans a.output happened.0.output b.output (told_of event) (told_in events) (tells event a happened.0 happened.1) (told_together events happened.0 b happened.2)

-- what happened one after another happened apart
pub happened-split : (xs ys : List Event) (a c : Outside) → Happened (xs ++ ys) a c → (b : Outside) × Happened xs a b × Happened ys b c
happened-split [] ys a c happened = (a, refl, happened)
happened-split (x ∷ xs) ys a c happened =
    let rest = happened-split xs ys happened.0 c happened.2 in
    (rest.0, (happened.0, happened.1, rest.1), rest.2)
