use Rattle.std.proofs.Common.{map, string_bytes, option_map, ◌∙◌}
use Rattle.pc_words.proofs.Decided.{parted, told, same_parts, some_from, mode_is, some_asked}
use Rattle.pc_words.proofs.reading.read.Goals as goal

pub unwrap-requires : goal.unwrap-requires
unwrap-requires c =
    let fits = c.fit.ensures.0 c.if-not-fit.false in
    let here = parted (map string_bytes c.args.words.now) fits.0 fits.1 in
    let has = c.in-Ok.ensures.ok here.parts here.are in
    some_from c.get_str.result here.parts.mode (c.get_str.ensures ∙ has.mode)

pub unwrap-requires-in-Ok : goal.unwrap-requires-in-Ok
unwrap-requires-in-Ok c =
    let fits = c.fit.ensures.0 c.if-not-fit.false in
    let here = parted (map string_bytes c.args.words.now) fits.0 fits.1 in
    let has = c.in-Ok.ensures.ok here.parts here.are in
    let mode = mode_is c.get_str.result c.unwrap.result here.parts.mode (c.get_str.ensures ∙ has.mode) c.unwrap.ensures in
    let same = same_parts here.parts c.unwrap.result.now (option_map (λ s. s.now) c.get_str-in-Ok.result) (option_map (λ s. s.now) c.get_str-in-Ok-2.result) mode (c.get_str-in-Ok.ensures ∙ has.word) (c.get_str-in-Ok-2.ensures ∙ has.budget) in
    some_asked c.request_from.result _ here.parts fits.0 c.request_from.ensures same here.ask

pub returns-in-Ok-clause-ok : goal.returns-in-Ok-clause-ok
returns-in-Ok-clause-ok c =
    let fits = c.fit.ensures.0 c.if-not-fit.false in
    let here = parted (map string_bytes c.args.words.now) fits.0 fits.1 in
    let has = c.in-Ok.ensures.ok here.parts here.are in
    let mode = mode_is c.get_str.result c.unwrap.result here.parts.mode (c.get_str.ensures ∙ has.mode) c.unwrap.ensures in
    let same = same_parts here.parts c.unwrap.result.now (option_map (λ s. s.now) c.get_str-in-Ok.result) (option_map (λ s. s.now) c.get_str-in-Ok-2.result) mode (c.get_str-in-Ok.ensures ∙ has.word) (c.get_str-in-Ok-2.ensures ∙ has.budget) in
    told (map string_bytes c.args.words.now) fits.0 fits.1 here.parts _ here.ask same c.request_from.result c.unwrap-in-Ok.result c.request_from.ensures c.unwrap-in-Ok.ensures

pub returns-in-Ok-clause-usage : goal.returns-in-Ok-clause-usage
returns-in-Ok-clause-usage c =
    let fits = c.fit.ensures.0 c.if-not-fit.false in
    (λ bad. absurd (cc), λ none. absurd (none fits.0 fits.1))

pub returns-after-matches-2-clause-usage : goal.returns-after-matches-2-clause-usage
returns-after-matches-2-clause-usage c =
    let fits = c.fit.ensures.0 c.if-not-fit.false in
    (λ bad. absurd (cc), λ none. absurd (none fits.0 fits.1))
