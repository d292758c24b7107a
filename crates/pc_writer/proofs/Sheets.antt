-- The text of a sheet, part by part.
use Rattle.std.proofs.Common.{◌≡◌, [], ◌∷◌, ◌++◌, codes, map, ap, ◌∙◌}
use Rattle.std.specs.List.{flat_map}
use Rattle.pc_sheet.specs.Sheet.{Universe, Sheet}
use Rattle.pc_writer.specs.SheetText.{ended, lines_text, sort_line, table_line, row_lines, family_line, rule_line, entry_lines, heading_line, universe_lines, sheet_text}
use Rattle.pc_writer.proofs.InPieces.{lines-append}

pub universe_parts : (u : Universe) → lines_text (universe_lines u)
    ≡ lines_text (map sort_line u.sorts) ++ (lines_text (map (table_line u) u.tables) ++ (lines_text (flat_map (row_lines u) u.tables) ++ lines_text (map (family_line u) u.families)))
universe_parts u =
    let sorts = map sort_line u.sorts in
    let tables = map (table_line u) u.tables in
    let rows = flat_map (row_lines u) u.tables in
    let families = map (family_line u) u.families in
    lines-append sorts (tables ++ (rows ++ families))
    ∙ ap (λ t. lines_text sorts ++ t) (lines-append tables (rows ++ families) ∙ ap (λ t. lines_text tables ++ t) (lines-append rows families))

pub sheet_parts : (s : Sheet) → sheet_text s
    ≡ ended (heading_line s) ++ (lines_text (universe_lines s.universe) ++ (lines_text (map (rule_line s.universe) s.rules) ++ (lines_text (entry_lines s.universe s.entries) ++ ended (codes "begin"))))
sheet_parts s =
    let rules = map (rule_line s.universe) s.rules in
    let entries = entry_lines s.universe s.entries in
    let last = codes "begin" ∷ [] in
    ap (λ t. ended (heading_line s) ++ t) (
    lines-append (universe_lines s.universe) (rules ++ (entries ++ last))
    ∙ ap (λ t. lines_text (universe_lines s.universe) ++ t) (lines-append rules (entries ++ last) ∙ ap (λ t. lines_text rules ++ t) (lines-append entries last))
    )
