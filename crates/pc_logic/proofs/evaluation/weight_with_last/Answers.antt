use Rattle.std.proofs.Common.{◌≡◌, ◌+◌, ◌-◌, [], ◌∷◌, ◌++◌, drop, length, map, sum_by, take, ap, arith, length-append, sym, ◌∙◌}
use Rattle.std.proofs.lemmas.List.{drop-map, length-map, take_all}
use Rattle.std.proofs.lemmas.List.Prefix.{end_rest}
use Rattle.std.proofs.lemmas.List.Sums.{sum_by-cons}
use Rattle.pc_sheet.specs.Sheet.{Sheet, Universe}
use Rattle.pc_sheet.specs.Views.{rule_of}
use Rattle.pc_sheet.specs.Weight.{rule_weight}
use Rattle.pc_logic.specs.Cut.{cut}
use Rattle.pc_books.specs.SchemeView.{universe_of}
use Rattle.pc_logic.proofs.evaluation.weight_with_last.Goals as goal

pub returns : goal.returns
returns c s r is =
    let u = universe_of c.scheme.result.now in
    let xs = c.bounded_rules-rules.result.now in
    let items : map rule_of xs ≡ s.rules ++ r ∷ [] = c.bounded_rules-rules.ensures.items ∙ ap (λ (b : Sheet). b.rules) is in
    let same : u ≡ s.universe = c.scheme.ensures.universe ∙ ap (λ (b : Sheet). b.universe) is in
    let last : map rule_of (drop (length xs - 1) xs) ≡ r ∷ [] =
    sym (drop-map rule_of (length xs - 1) xs) ∙ ap (λ k. drop (k - 1) (map rule_of xs)) (sym (length-map xs rule_of)) ∙ end_rest (map rule_of xs) (r ∷ []) s.rules items in
    let many = ap length last in
    let mapped = length-map (drop (length xs - 1) xs) rule_of in
    let some : length (map rule_of xs) ≡ length s.rules + 1 = ap length items ∙ length-append s.rules (r ∷ []) in
    let all = length-map xs rule_of in
    let end : map rule_of (take (length xs - (length xs - 1)) (drop (length xs - 1) xs)) ≡ r ∷ [] =
    ap (map rule_of) (take_all (length xs - (length xs - 1)) (drop (length xs - 1) xs) (omega (arith, many, mapped, some, all))) ∙ last in
    let alone = sum_by-cons (rule_weight u) r [] in
    let one : sum_by (rule_weight u) (r ∷ []) ≡ rule_weight u r = omega (arith, alone) in
    let own : sum_by (rule_weight u) (map rule_of (take (length xs - (length xs - 1)) (drop (length xs - 1) xs))) ≡ rule_weight s.universe r = ap (sum_by (rule_weight u)) end ∙ one ∙ ap (λ (v : Universe). rule_weight v r) same in
    c.add_rules.ensures.exact ∙ ap (λ n. cut (c.args.before + n)) own
