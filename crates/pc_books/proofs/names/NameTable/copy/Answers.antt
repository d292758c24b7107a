use Rattle.std.proofs.Common.{◌≡◌, ◌∙◌, sym, subst}
use Rattle.std.specs.List.{IsDistinct}
use Rattle.std.specs.Map.{keys_of}
use Rattle.std.specs.Str.{bytes_eq}
use Rattle.pc_books.specs.inside.NameTable.{named_texts}
use Rattle.pc_books.proofs.TableLemmas.{texts_of_clone}
use Rattle.pc_books.proofs.names.NameTable.copy.Goals as goal

pub invariant_of-result : goal.invariant_of-result
invariant_of-result c =
    let same : named_texts c.in_ok-clone.field-0.entries ≡ named_texts c.self.inside.names.entries = texts_of_clone _ _ _ _ c.in_ok-clone.ensures.cases (λ a b h. h) (λ a b h. h) in
    subst (λ t. IsDistinct bytes_eq (keys_of t)) (sym same) c.self.invariant

pub returns : goal.returns
returns c = texts_of_clone _ _ _ _ c.in_ok-clone.ensures.cases (λ a b h. h) (λ a b h. h) ∙ c.self.view_is
