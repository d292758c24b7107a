-- The variables of a part, as they are kept.
use Rattle.std.proofs.Common.{◌≡◌, ◌≢◌, ℕ, cond, List, [], ◌∷◌, length, map, sum_by, Contains, Option, arith, ap, refl, ◌∙◌}
use Rattle.std.specs.Prelude.{AllPairs}
use Rattle.std.specs.List.{AllZip}
use Rattle.std.proofs.lemmas.List.{length-map}
use Rattle.pc_lits.specs.declared.literal.Var.{Var}
use Rattle.pc_sheet.specs.Sheet.{Sheet}
use Rattle.pc_sheet.specs.Entailment.{cell_sizes}
use Rattle.pc_sheet.specs.declared.ids.CellId.{CellId}
use Rattle.pc_laws.proofs.Different.{same_as_many}
use Rattle.pc_enough_laws.specs.Amounts.{Amounts, enough_of}
use Rattle.pc_ground.specs.Ground.{clauses}
use Rattle.pc_parts.specs.Parts.{Part}
use Rattle.pc_parts.specs.Components.{parts_of}
use Rattle.pc_parts.specs.PartSheets.{sheet_of}
use Rattle.pc_components.specs.PartAxioms.{IsUsed, AreAxiomsOf, AreVariablesOf}
use Rattle.pc_components.specs.View.{Kept, AreComponentsOf, variable_number}
use Rattle.pc_theory.specs.Targets.{target_count}
use Rattle.pc_theory.specs.Theories.{rules_alone}
use Rattle.pc_theory.proofs.OfRules.{axioms_here, variables_here}
use Rattle.pc_enough_laws.specs.Enough.{amounts_of, is_touched, touched_amounts, enough_for}

zip_through : {A B C : Type 0} (R : A → B → Type 0) (S : B → C → Type 0) (T : A → C → Type 0) → ((a : A) (b : B) (c : C) → R a b → S b c → T a c) → (xs : List A) (ys : List B) (zs : List C) → AllZip R xs ys → AllZip S ys zs → AllZip T xs zs
zip_through R S T f [] [] [] h k = tt
zip_through R S T f [] [] (c ∷ zs) h k = absurd k
zip_through R S T f [] (b ∷ ys) zs h k = absurd h
zip_through R S T f (a ∷ xs) [] zs h k = absurd h
zip_through R S T f (a ∷ xs) (b ∷ ys) [] h k = absurd k
zip_through R S T f (a ∷ xs) (b ∷ ys) (c ∷ zs) h k = (f a b c h.0 k.0, zip_through R S T f xs ys zs h.1 k.1)

-- these are the numbers of a part's variables
abbrev pub AreOwn : Sheet → Part → List ℕ → Type 0
AreOwn sheet part own = (used : List ℕ) × AreAxiomsOf sheet part used × AreVariablesOf (clauses sheet) used own

-- ... as they are kept
abbrev pub OwnKept : Sheet → Part → List Var → Type 0
OwnKept sheet part own = AreOwn sheet part (map variable_number own)

pub known : (sheet : Sheet) (kept : Kept) → AreComponentsOf (rules_alone sheet) kept → AllZip (OwnKept sheet) (parts_of sheet) kept.variables
known sheet kept are =
    zip_through (AreAxiomsOf (rules_alone sheet)) (λ used own. AreVariablesOf (clauses (rules_alone sheet)) used (map variable_number own)) (OwnKept sheet)
    (λ part used own axs vars. (used, axioms_here sheet part used axs, variables_here sheet used (map variable_number own) vars)) (parts_of sheet) kept.axioms kept.variables are.axioms are.variables

-- ---- a part's variables are determined

pub own_there : (sheet : Sheet) (part : Part) (own others : List ℕ) → AreOwn sheet part own → AreOwn sheet part others → (x : ℕ) → Contains own x → Contains others x
own_there sheet part own others h k x has =
    let u : IsUsed (clauses sheet) h.0 x = (h.2.exact x).0 has in
    (k.2.exact x).1 (u.0, (k.1.exact u.0).1 ((h.1.exact u.0).0 u.1), u.2, u.3, u.4, u.5, u.6)

pub own_differ : (sheet : Sheet) (part : Part) (own : List ℕ) → AreOwn sheet part own → AllPairs (λ (m n : ℕ). m ≢ n) own
own_differ sheet part own owns = λ j k d below within is. let less = owns.2.order j k d below within in absurd (omega (arith, less, is))

as_many : (sheet : Sheet) (part : Part) (own others : List Var) → OwnKept sheet part own → OwnKept sheet part others → length own ≡ length others
as_many sheet part own others h k =
    let ns = map variable_number own in
    let ms = map variable_number others in
    let same = same_as_many ns ms (own_differ sheet part ns h) (own_differ sheet part ms k) (λ x. (own_there sheet part ns ms h k x, own_there sheet part ms ns k h x)) in
    omega (arith, same, length-map own variable_number, length-map others variable_number)

same_amounts : (sheet : Sheet) (touched : Option CellId) (parts : List Part) (owns others : List (List Var)) → AllZip (OwnKept sheet) parts owns → AllZip (OwnKept sheet) parts others
    → touched_amounts sheet touched parts owns ≡ touched_amounts sheet touched parts others
same_amounts sheet touched [] owns others h k = refl
same_amounts sheet touched (part ∷ parts) [] others h k = absurd h
same_amounts sheet touched (part ∷ parts) (own ∷ owns) [] h k = absurd k
same_amounts sheet touched (part ∷ parts) (own ∷ owns) (other ∷ others) h k =
    let make : ℕ → Amounts = λ n. record { variables = n; entries = length (sheet_of sheet part).entries; targets = target_count (cell_sizes sheet.universe) part.cells } in
    let first : amounts_of sheet part own ≡ amounts_of sheet part other = ap make (as_many sheet part own other h.0 k.0) in
    let rest = same_amounts sheet touched parts owns others h.1 k.1 in
    ap (λ a. cond (is_touched touched part) (a ∷ touched_amounts sheet touched parts owns) (touched_amounts sheet touched parts owns)) first
    ∙ ap (λ xs. cond (is_touched touched part) (amounts_of sheet part other ∷ xs) xs) rest

-- so what is enough doesn't depend on how the parts are kept
pub same_enough : (sheet : Sheet) (touched : Option CellId) (kept other : Kept) → AreComponentsOf (rules_alone sheet) kept → AreComponentsOf (rules_alone sheet) other → enough_for sheet touched kept ≡ enough_for sheet touched other
same_enough sheet touched kept other h k = ap (sum_by enough_of) (same_amounts sheet touched (parts_of sheet) kept.variables other.variables (known sheet kept h) (known sheet other k))
