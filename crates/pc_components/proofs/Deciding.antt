-- Clauses that stand for a sheet on some cells decide consistency and entailment there.
use Rattle.std.proofs.Common.{◌≡◌, ℕ, ◌<◌, ◌↔◌, Bool, true, false, MatchBool, List, All, slice_get, refl, sym, ◌∙◌}
use Rattle.std.proofs.lemmas.Bool.{false≢true}
use Rattle.std.proofs.lemmas.List.Elements.{All-contains}
use Rattle.pc_lits.specs.declared.literal.Lit.{Lit}
use Rattle.pc_lits.specs.declared.literal.Var.{Var}
use Rattle.pc_sheet.specs.Sheet.{Sheet}
use Rattle.pc_sheet.specs.Entailment.{cell_sizes, HasEntry, HasAll}
use Rattle.pc_sheet.specs.declared.ids.ValueId.{ValueId}
use Rattle.pc_sheet.specs.declared.ids.Entry.{Entry}
use Rattle.pc_lemmas.proofs.Options.{some_and}
use Rattle.pc_lemmas.proofs.Elements.{all_from}
use Rattle.pc_ground.specs.Variables.{pair_number}
use Rattle.pc_components.specs.Used.{HasValues, AreFor, MakesEntries, IsEntryOn, Decide}
use Rattle.pc_components.specs.Laws.{ClausesDecide}

module _ (sheet : Sheet) (cells : List ℕ) (store : List (List Lit)) (used : List ℕ) (are : AreFor sheet cells store used) where
  abbrev sizes : List ℕ
  sizes = cell_sizes sheet.universe

  abbrev var_at : Entry → Var
  var_at e = record { 0 = pair_number sizes e.cell.0 e.value.0 }

  pair_is : (v : Var → Bool) (a : List ValueId) → HasValues sizes cells v a → (e : Entry) → IsEntryOn sheet.universe cells e → (v (var_at e) ≡ true) ↔ HasEntry a e
  pair_is v a h e on = let n = some_and (slice_get sizes e.cell.0) (λ n. e.value.0 < n) on.0 in h e.cell.0 on.1 n.0 e.value.0 n.1 n.2

  module _ (v : Var → Bool) (a : List ValueId) (h : HasValues sizes cells v a) (s : List Entry) (on : All (IsEntryOn sheet.universe cells) s) where
    makes : HasAll a s → MakesEntries sizes v s
    makes has = all_from (λ e. v (var_at e) ≡ true) s (λ e c. (pair_is v a h e (All-contains (IsEntryOn sheet.universe cells) s e on c)).1 (All-contains (HasEntry a) s e has c))

    has_all : MakesEntries sizes v s → HasAll a s
    has_all made = all_from (HasEntry a) s (λ e c. (pair_is v a h e (All-contains (IsEntryOn sheet.universe cells) s e on c)).0 (All-contains (λ f. v (var_at f) ≡ true) s e made c))

  target_made : (b : Bool) (x : Bool) {P : Type 0} → (x ≡ true) ↔ P → MatchBool b P (¬ P) → x ≡ b
  target_made true x i h = i.1 h
  target_made false true i h = absurd (h (i.0 refl))
  target_made false false i h = refl

  target_had : (b : Bool) (x : Bool) {P : Type 0} → (x ≡ true) ↔ P → x ≡ b → MatchBool b P (¬ P)
  target_had true x i h = i.0 h
  target_had false x i h = λ p. absurd (false≢true (sym h ∙ i.1 p))

  decides : Decide sheet cells store used
  decides = record {
    consistent = λ s on. (
      λ c. let m = are.meets c.0 c.1.assigns c.1.fits in (m.0, m.1, makes m.0 c.0 m.2 s on c.1.has),
      λ m. let f = are.fits m.0 m.1 in (f.0, record { assigns = f.1; fits = f.2; has = has_all m.0 f.0 f.3 s on m.2 }),
    );
    entails = λ s on t t_on. (
      λ h v met made.
          let f = are.fits v met in
          target_made t.holds (v (var_at (record { cell = t.cell; value = t.value }))) (pair_is v f.0 f.3 (record { cell = t.cell; value = t.value }) t_on)
          (h f.0 (record { assigns = f.1; fits = f.2; has = has_all v f.0 f.3 s on made })),
      λ h a shows.
          let m = are.meets a shows.assigns shows.fits in
          target_had t.holds (m.0 (var_at (record { cell = t.cell; value = t.value }))) (pair_is m.0 a m.2 (record { cell = t.cell; value = t.value }) t_on)
          (h m.0 m.1 (makes m.0 a m.2 s on shows.has)),
    );
  }

pub clauses_decide : ClausesDecide
clauses_decide sheet cells store used are = decides sheet cells store used are
