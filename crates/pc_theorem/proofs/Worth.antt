-- What an accepted certificate is worth, in the words of the page.
use Rattle.std.proofs.Common.{List, [], ◌∷◌, map, All, Contains}
use Rattle.std.proofs.lemmas.List.Elements.{All-contains}
use Rattle.std.specs.List.{AllZip}
use Rattle.pc_lemmas.proofs.Elements.{contains_first, contains_later, kept, kept_is}
use Rattle.pc_laws.proofs.Contained.{filter_sub}
use Rattle.pc_sheet.specs.Sheet.{Sheet}
use Rattle.pc_sheet.specs.WellFormed.{AreDifferent}
use Rattle.pc_sheet.specs.Entailment.{Fits}
use Rattle.pc_sheet.specs.declared.ids.ValueId.{ValueId}
use Rattle.pc_accept.specs.Sets.{is_in, those_in, GivenSet}
use Rattle.pc_accept.specs.Accepts.{Claim, implied, inconsistent, repairs, unimplied, against, Certificate, AreShown, AcceptsSets, AcceptsClaim}
use Rattle.pc_accept.specs.Laws.{IsInOrder, sets_in_order, IsWorth}
use Rattle.pc_accept.proofs.SetsSound.{in_contains, contains_in}
use Rattle.pc_spreadsheet.specs.Pages.{uses_of}
use Rattle.pc_theorem.specs.Theorem.{AreTheMaximalSets, IsSo}

module _ (sheet : Sheet) (different : AreDifferent sheet.entries) where
  in_order : (s : GivenSet) → All (Contains sheet.entries) s.uses → IsInOrder sheet.entries s.uses (those_in sheet.entries s.uses)
  in_order s entered = record {
    among = filter_sub (is_in s.uses) sheet.entries;
    same = λ e. (
      λ there. in_contains s.uses e (kept_is (is_in s.uses) sheet.entries e there).1,
      λ used. kept (is_in s.uses) sheet.entries e (All-contains (Contains sheet.entries) s.uses e entered used) (contains_in s.uses e used),
    );
  }

  all_in_order : (sets : List GivenSet) → ((s : GivenSet) → Contains sets s → All (Contains sheet.entries) s.uses) → AllZip (IsInOrder sheet.entries) (map uses_of sets) (sets_in_order sheet sets)
  all_in_order [] entered = tt
  all_in_order (s ∷ ss) entered = (in_order s (entered s (contains_first s ss)), all_in_order ss (λ t there. entered t (contains_later s ss t there)))

  -- of a certificate of sets
  maximal : (IsBarred : List ValueId → Type 0) (c : Certificate) → AcceptsSets sheet IsBarred c → IsWorth sheet c repairs → AreTheMaximalSets sheet (map uses_of c.sets)
  maximal IsBarred c accepted worth = record {
    ordered = sets_in_order sheet c.sets;
    order = all_in_order c.sets (λ s there. (All-contains (λ t. AreShown sheet (Fits sheet) t.uses t.values) c.sets s accepted.shown there).entered);
    exact = worth different;
  }

  pub is_so : (c : Certificate) (claim : Claim) → AcceptsClaim sheet c claim → IsWorth sheet c claim → IsSo sheet claim c.uses (map uses_of c.sets)
  is_so c (implied t) accepted worth = worth
  is_so c inconsistent accepted worth = λ some. worth some.0 some.1 some.2
  is_so c repairs accepted worth = maximal _ c accepted worth
  is_so c (unimplied t) accepted worth = (maximal _ c accepted worth.0, worth.1)
  is_so c (against r) accepted worth = worth
