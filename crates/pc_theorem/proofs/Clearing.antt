-- What the lines of a demonstration ask, and what they leave of the generated sheet.
use Rattle.std.proofs.Common.{◌≡◌, ◌≢◌, ℕ, zero, suc, ◌+◌, ◌*◌, ◌%◌, ◌<◌, ◌≤◌, Bool, true, false, cond, not, ◌||◌, List, [], ◌∷◌, ◌++◌, map, codes, pos, refl, sym, ◌∙◌, ap, ap₂, subst, arith, eq-eqb}
use Rattle.std.specs.Prelude.{decimal}
use Rattle.std.specs.List.{list_any}
use Rattle.std.proofs.lemmas.Bool.{ne_eqb}
use Rattle.std.proofs.lemmas.Fmt.{decimal_digit}
use Rattle.std.proofs.lemmas.Int.{ints}
use Rattle.std.proofs.lemmas.List.Elements.{filter-append}
use Rattle.pc_sheet.specs.Sheet.{Sheet, Universe}
use Rattle.pc_sheet.specs.WellFormed.{is_of_cell, IsWellFormedUniverse}
use Rattle.pc_sheet.specs.declared.ids.SortId.{SortId}
use Rattle.pc_sheet.specs.declared.ids.CellId.{CellId}
use Rattle.pc_sheet.specs.declared.ids.Entry.{Entry}
use Rattle.pc_books.specs.Edits.{cleared, without_cell}
use Rattle.pc_token.specs.declared.token.Kind.TheVariants.{Open, Close, Comma}
use Rattle.pc_lines.specs.Lines.{line_text_of}
use Rattle.pc_formula.specs.Word.{Word, name, number, sign, nesting}
use Rattle.pc_formula.specs.Tree.{Cell, integer_value}
use Rattle.pc_formula.specs.Value.{DerivesCell, natural, by_integer, last, next, enclosed, arguments, a_cell}
use Rattle.pc_syntax.specs.Tree.{Asked, asks_clear}
use Rattle.pc_syntax.specs.Spelling.{IsSpelled}
use Rattle.pc_syntax.specs.Command.{CommandReading, no_command, IsCommandReading, asks, spelled_command, IsDeepAsk}
use Rattle.pc_elaborate.specs.Elaboration.{IsCellNamed}
use Rattle.pc_elaborate.specs.Laws.{TreesHaveOneOutcome}
use Rattle.pc_canonical_laws.proofs.Counting.{levels_are}
use Rattle.pc_canonical_laws.proofs.Cuts.{Cuts, done, blank, cuts_utf8}
use Rattle.pc_canonical_laws.proofs.Cutting as ends
use Rattle.pc_canonical_laws.proofs.Cutting.{cut_name, cut_digits}
use Rattle.pc_canonical_laws.proofs.Deriving.{derive_number}
use Rattle.pc_canonical_laws.proofs.Lines.{has_words}
use Rattle.pc_canonical_laws.proofs.Signs.{cut_comma, cut_open, cut_close}
use Rattle.pc_gen.specs.Text.{up_to}
use Rattle.pc_gen.specs.Sheet.{sort, generated_universe, entry, block_entries, generated_entries, generated_sheet}
use Rattle.pc_gen.proofs.Formed.{block_size}
use Rattle.pc_name.proofs.Letters.{small_name}
use Rattle.pc_refusals.specs.declared.status.Status.TheVariants.{Done}
use Rattle.pc_transcript.specs.Answer.{Answer, silent, accepted, shown, refused, no_memory, is_refused, is_no_memory}
use Rattle.pc_transcript.specs.Transcript.{Transcript, Legal, lines, worse_of, status_of}
use Rattle.pc_spreadsheet.specs.Tasks.{State, Task, clears, shows, PageKind, IsTaskOf, clearing, state_after}
use Rattle.pc_spreadsheet.specs.Allowed.{Notes, Allows}
use Rattle.pc_demo.specs.Summing.{clear_line, clear_lines}
use Rattle.pc_demo.proofs.ClearLines.{own_text, is_something}
use Rattle.pc_afresh_laws.specs.Afresh.{IsOpen, TranscriptsKeepOpen}
use Rattle.pc_theorem.specs.Demonstrations.{third_entries, without_firsts}

-- ---- a line that clears a block's first cell

-- the block's first cell, as it is written
abbrev first_cell : ℕ → Cell
first_cell n = record { name = codes "x"; args = integer_value (pos n) ∷ integer_value (pos 1) ∷ [] }

abbrev cell_words : ℕ → List Word
cell_words n = name (codes "x") ∷ sign Open ∷ number (decimal n) ∷ sign Comma ∷ number (decimal 1) ∷ sign Close ∷ []

abbrev clear_words : ℕ → List Word
clear_words n = name (codes "clear") ∷ cell_words n

module _ (n : ℕ) (few : n ≤ 256) where
  cuts_slot : Cuts (codes ", 1)") (sign Comma ∷ number (decimal 1) ∷ sign Close ∷ [])
  cuts_slot =
      let digit : Cuts (decimal 1 ++ codes ")") (number (decimal 1) ∷ sign Close ∷ []) = cut_digits 1 (codes ")") (sign Close ∷ []) (omega arith) ends.closed (cut_close done) in
      cut_comma (subst (λ (d : List ℕ). Cuts (d ++ codes ")") (number (decimal 1) ∷ sign Close ∷ [])) (decimal_digit 1 (omega arith)) digit)

  cuts_line : Cuts (clear_line n) (clear_words n)
  cuts_line =
      let block = cut_digits n (codes ", 1)") (sign Comma ∷ number (decimal 1) ∷ sign Close ∷ []) (omega (arith, few)) ends.comma cuts_slot in
      let cell : Cuts (codes "x(" ++ (decimal n ++ codes ", 1)")) (cell_words n) = cut_name (codes "x") (codes "(" ++ (decimal n ++ codes ", 1)")) _ (small_name _ _ refl refl refl) ends.opened (cut_open block) in
      cut_name (codes "clear") (32 ∷ (codes "x(" ++ (decimal n ++ codes ", 1)"))) (cell_words n) (small_name _ _ refl refl refl) ends.space (blank cell)

  one_level : nesting (clear_words n) ≡ 1
  one_level = levels_are (clear_words n)

  derives : DerivesCell (cell_words n) (first_cell n) []
  derives = a_cell (codes "x") (arguments (enclosed (next (by_integer (natural (derive_number n _ (omega (arith, few))))) (last (by_integer (natural (derive_number 1 _ (omega arith))))))))

  spelled : IsSpelled (clear_line n) (clear_words n)
  spelled = record {
    split = record { utf8 = cuts_utf8 (clear_line n) (clear_words n) cuts_line; something = is_something n; has = has_words (clear_line n) (clear_words n) cuts_line };
    within = omega (arith, one_level);
  }

  shallow : ¬ IsDeepAsk (clear_words n)
  shallow deep = omega (arith, one_level, deep.deep)

  reading : IsCommandReading (clear_line n) (asks (asks_clear (first_cell n)))
  reading = spelled_command (clear_words n) spelled (record { rest = cell_words n; words = refl; follows = derives }) shallow

  reads : IsCommandReading (line_text_of (clear_line n)) (asks (asks_clear (first_cell n)))
  reads = subst (λ (l : List ℕ). IsCommandReading l (asks (asks_clear (first_cell n)))) (sym (own_text n few)) reading

-- ---- the cell

-- the first one of block k + 1
abbrev at : ℕ → CellId
at k = record { 0 = 4 * k }

named : (blocks k : ℕ) → k < blocks → IsCellNamed (generated_universe blocks) (first_cell (suc k)) (at k)
named blocks k below =
    let size = block_size blocks (omega (arith, below)) in (
      sort 2,
      record {
        family = record { 0 = 0 };
        sorts = sort 0 ∷ sort 1 ∷ [];
        arguments = record { 0 = k } ∷ record { 0 = 0 } ∷ [];
        named = refl;
        takes = refl;
        given = ((omega (arith, ints), omega (arith, size, below)), ((omega (arith, ints), omega arith), tt));
        number = omega arith;
        gives = refl;
      },
    )

named_once : TreesHaveOneOutcome → (u : Universe) → IsWellFormedUniverse u → (c : Cell) (k l : CellId) → IsCellNamed u c k → IsCellNamed u c l → k ≡ l
named_once trees u formed c k l first second = ap (λ (p : CellId × SortId). p.0) (((trees u formed).cells c).one (k, first.0) (l, second.0) first.1 second.1)

-- ---- entries that are cleared

abbrev cleared_to : ℕ → List Entry → List Entry
cleared_to zero es = es
cleared_to (suc k) es = cleared (cleared_to k es) (at k)

cleared-append : (xs ys : List Entry) (c : CellId) → cleared (xs ++ ys) c ≡ cleared xs c ++ cleared ys c
cleared-append xs ys c = filter-append (λ (e : Entry). not (is_of_cell c e)) xs ys

all-append : (k : ℕ) (xs ys : List Entry) → cleared_to k (xs ++ ys) ≡ cleared_to k xs ++ cleared_to k ys
all-append zero xs ys = refl
all-append (suc k) xs ys = ap (λ (es : List Entry). cleared es (at k)) (all-append k xs ys) ∙ cleared-append (cleared_to k xs) (cleared_to k ys) (at k)

stays : (c v j : ℕ) (es : List Entry) → c ≢ 4 * j → cleared (entry c v ∷ es) (at j) ≡ entry c v ∷ cleared es (at j)
stays c v j es other = ap (λ (b : Bool). cond (not b) (entry c v ∷ cleared es (at j)) (cleared es (at j))) (ne_eqb c (4 * j) other)

goes : (v k : ℕ) (es : List Entry) → cleared (entry (4 * k) v ∷ es) (at k) ≡ cleared es (at k)
goes v k es = ap (λ (b : Bool). cond (not b) (entry (4 * k) v ∷ cleared es (at k)) (cleared es (at k))) (eq-eqb (4 * k) (4 * k) refl)

-- the one of the block's third cell
abbrev third : ℕ → Entry
third k = entry (4 * k + 2) (suc k * suc k % 3)

third_stays : (j k : ℕ) → cleared (third k ∷ []) (at j) ≡ third k ∷ []
third_stays j k = stays (4 * k + 2) (suc k * suc k % 3) j [] (λ e. omega (arith, e))

block_stays : (j k : ℕ) → j < k → cleared (block_entries k) (at j) ≡ block_entries k
block_stays j k below = stays (4 * k) (suc k % 3) j (third k ∷ []) (λ e. omega (arith, e, below)) ∙ ap (λ (es : List Entry). entry (4 * k) (suc k % 3) ∷ es) (third_stays j k)

later_stays : (j k : ℕ) → j ≤ k → cleared_to j (block_entries k) ≡ block_entries k
later_stays zero k below = refl
later_stays (suc j) k below = ap (λ (es : List Entry). cleared es (at j)) (later_stays j k (omega (arith, below))) ∙ block_stays j k (omega (arith, below))

thirds_stay : (j k : ℕ) → cleared (third_entries k) (at j) ≡ third_entries k
thirds_stay j zero = refl
thirds_stay j (suc k) =
    cleared-append (third_entries k) (third k ∷ []) (at j) ∙ ap (λ (es : List Entry). es ++ cleared (third k ∷ []) (at j)) (thirds_stay j k)
    ∙ ap (λ (es : List Entry). third_entries k ++ es) (third_stays j k)

thirds_are_left : (n : ℕ) → cleared_to n (generated_entries n) ≡ third_entries n
thirds_are_left zero = refl
thirds_are_left (suc n) =
    ap (λ (es : List Entry). cleared es (at n)) (all-append n (generated_entries n) (block_entries n))
    ∙ ap (λ (es : List Entry). cleared (es ++ cleared_to n (block_entries n)) (at n)) (thirds_are_left n)
    ∙ ap (λ (es : List Entry). cleared (third_entries n ++ es) (at n)) (later_stays n n (omega arith))
    ∙ cleared-append (third_entries n) (block_entries n) (at n)
    ∙ ap (λ (es : List Entry). es ++ cleared (block_entries n) (at n)) (thirds_stay n n)
    ∙ ap (λ (es : List Entry). third_entries n ++ es) (goes (suc n % 3) n (third n ∷ []) ∙ third_stays n n)

-- ---- what clears asks for that, and for no page

cleared_task : (sheet : Sheet) (c : Cell) (task : Task) → IsTaskOf sheet (asks_clear c) task → (k : CellId) × (task ≡ clears k) × IsCellNamed sheet.universe c k
cleared_task sheet c task (clearing k is has) = (k, refl, is)

no_page : (sheet : Sheet) (c : Cell) (kind : PageKind) → IsTaskOf sheet (asks_clear c) (shows kind) → ⊥
no_page sheet c kind is = elim is [ ]

not_quiet : (a : Asked) → no_command ≡ asks a → ⊥
not_quiet a e = absurd (cc)

-- each of the lines clears a cell
abbrev pub AreClearing : List (List ℕ) → Type 0
AreClearing [] = Unit {0}
AreClearing (l ∷ ls) = ((c : Cell) × IsCommandReading (line_text_of l) (asks (asks_clear c))) × AreClearing ls

clearing-push : (ls : List (List ℕ)) (l : List ℕ) → AreClearing ls → ((c : Cell) × IsCommandReading (line_text_of l) (asks (asks_clear c))) → AreClearing (ls ++ l ∷ [])
clearing-push [] l are is = (is, tt)
clearing-push (x ∷ xs) l are is = (are.0, clearing-push xs l are.1 is)

map-push : (ns : List ℕ) (n : ℕ) → map clear_line (ns ++ n ∷ []) ≡ map clear_line ns ++ clear_line n ∷ []
map-push [] n = refl
map-push (m ∷ ms) n = ap (λ (ls : List (List ℕ)). clear_line m ∷ ls) (map-push ms n)

pub lines_clear : (n : ℕ) → n ≤ 256 → AreClearing (clear_lines n)
lines_clear zero few = tt
lines_clear (suc n) few = subst AreClearing (sym (map-push (up_to n) (suc n))) (clearing-push (clear_lines n) (clear_line (suc n)) (lines_clear n (omega (arith, few))) (first_cell (suc n), reads (suc n) few))

-- ---- along a transcript

-- no line wanted memory
abbrev pub NeverWants : Transcript → Type 0
NeverWants [] = Unit {0}
NeverWants (pair ∷ more) = (pair.1 ≡ no_memory → ⊥) × NeverWants more

no_want : (answer : Answer) → is_no_memory answer ≡ false → answer ≡ no_memory → ⊥
no_want answer is same = absurd (cc (is, ap is_no_memory same))

neither : (b c : Bool) → (b || c) ≡ false → (b ≡ false) × (c ≡ false)
neither true c is = absurd (cc)
neither false c is = (refl, is)

never_wants : (t : Transcript) → list_any (λ pair. is_no_memory pair.1) t ≡ false → NeverWants t
never_wants [] is = tt
never_wants (pair ∷ more) is =
    let parts = neither (is_no_memory pair.1) (list_any (λ pair. is_no_memory pair.1) more) is in
    (no_want pair.1 parts.0, never_wants more parts.1)

-- where a transcript's status is that all is done, none was refused and none wanted memory
no_refusal : (b c : Bool) → worse_of b c ≡ Done → c ≡ false
no_refusal true c is = absurd (cc is)
no_refusal false true is = absurd (cc is)
no_refusal false false is = refl

no_wanting : (b c : Bool) → worse_of b c ≡ Done → b ≡ false
no_wanting true c is = absurd (cc is)
no_wanting false c is = refl

no_cons : {X : Type 0} (x : X) (xs : List X) → [] ≡ x ∷ xs → ⊥
no_cons x xs e = absurd (cc)

head_is : {X : Type 0} (x y : X) (xs ys : List X) → x ∷ xs ≡ y ∷ ys → x ≡ y
head_is x y xs ys e = cc

tail_is : {X : Type 0} (x y : X) (xs ys : List X) → x ∷ xs ≡ y ∷ ys → xs ≡ ys
tail_is x y xs ys e = cc

-- a transcript parted before its last line
record Cut (t : Transcript) (before : List (List ℕ)) (line : List ℕ) : Type 0 where
  front : Transcript
  answer : Answer
  is : t ≡ front ++ (line, answer) ∷ []
  lines_are : lines front ≡ before

cut_last : (t : Transcript) (before : List (List ℕ)) (line : List ℕ) → lines t ≡ before ++ line ∷ [] → Cut t before line
cut_last [] [] line e = absurd (no_cons line [] e)
cut_last [] (x ∷ xs) line e = absurd (no_cons x (xs ++ line ∷ []) e)
cut_last (pair ∷ []) [] line e = record { front = []; answer = pair.1; is = ap (λ (l : List ℕ). (l, pair.1) ∷ []) (head_is pair.0 line [] [] e); lines_are = refl }
cut_last (pair ∷ (next_one ∷ more)) [] line e = absurd (no_cons next_one.0 (lines more) (sym (tail_is pair.0 line (next_one.0 ∷ lines more) [] e)))
cut_last (pair ∷ more) (x ∷ xs) line e =
    let c = cut_last more xs line (tail_is pair.0 x (lines more) (xs ++ line ∷ []) e) in
    record { front = pair ∷ c.front; answer = c.answer; is = ap (λ (ps : Transcript). pair ∷ ps) c.is; lines_are = ap (λ (l : List ℕ). l ∷ lines c.front) (head_is pair.0 x (lines more) (xs ++ line ∷ []) e) ∙ ap (λ (ls : List (List ℕ)). x ∷ ls) c.lines_are }

record LastLine (old new : State × Notes) (front : Transcript) (line : List ℕ) (answer : Answer) : Type 0 where
  mid : State × Notes
  before : Legal Allows old front mid
  allowed : Allows mid (line_text_of line) answer new

last_line : (old new : State × Notes) (front : Transcript) (line : List ℕ) (answer : Answer) → Legal Allows old (front ++ (line, answer) ∷ []) new → LastLine old new front line answer
last_line old new [] line answer legal = record { mid = old; before = refl; allowed = subst (λ (s : State × Notes). Allows old (line_text_of line) answer s) (sym legal.2) legal.1 }
last_line old new (pair ∷ more) line answer legal =
    let r = last_line legal.0 new more line answer legal.2 in
    record { mid = r.mid; before = (legal.0, legal.1, r.before); allowed = r.allowed }

never_last : (front : Transcript) (line : List ℕ) (answer : Answer) → NeverWants (front ++ (line, answer) ∷ []) → NeverWants front × (answer ≡ no_memory → ⊥)
never_last [] line answer never = (tt, never.0)
never_last (pair ∷ more) line answer never = let r = never_last more line answer never.1 in ((never.0, r.0), r.1)

none_refused_last : (front : Transcript) (line : List ℕ) (answer : Answer) → list_any (λ pair. is_refused pair.1) (front ++ (line, answer) ∷ []) ≡ false → (list_any (λ pair. is_refused pair.1) front ≡ false) × (is_refused answer ≡ false)
none_refused_last [] line answer none = (refl, (neither (is_refused answer) false none).0)
none_refused_last (pair ∷ more) line answer none =
    let two = neither (is_refused pair.1) (list_any (λ pair. is_refused pair.1) (more ++ (line, answer) ∷ [])) none in
    let r = none_refused_last more line answer two.1 in
    (ap₂ (λ (b c : Bool). b || c) two.0 r.0, r.1)

-- a command line and a command have one reading
abbrev pub CommandsHaveOneReading : Type 0
CommandsHaveOneReading = (line : List ℕ) (q r : CommandReading) → IsCommandReading line q → IsCommandReading line r → q ≡ r

pub asked_same : (a b : Asked) → asks a ≡ asks b → a ≡ b
asked_same a b e = cc

module _ (read : CommandsHaveOneReading) where
  asks_so : (line : List ℕ) (a : Asked) (c : Cell) → IsCommandReading line (asks (asks_clear c)) → IsCommandReading line (asks a) → a ≡ asks_clear c
  asks_so line a c clearing_it other = asked_same a (asks_clear c) (read line (asks a) (asks (asks_clear c)) other clearing_it)

  -- ---- what the lines leave

  module _ (keep_all : TranscriptsKeepOpen) (trees : TreesHaveOneOutcome) (blocks : ℕ) (few : blocks ≤ 256) where
    -- the first cells of the first k blocks are cleared
    abbrev sheet_after : ℕ → Sheet
    sheet_after k = record { universe = (generated_sheet blocks).universe; rules = (generated_sheet blocks).rules; entries = cleared_to k (generated_entries blocks) }

    line_leaves : (mid new : State × Notes) (k : ℕ) (answer : Answer) → IsOpen mid.0.sheet → mid.0.sheet ≡ sheet_after k → k < blocks → Allows mid (line_text_of (clear_line (suc k))) answer new → is_refused answer ≡ false → (answer ≡ no_memory → ⊥) → new.0.sheet ≡ sheet_after (suc k)
    line_leaves mid new k silent is same below allowed full some = absurd (not_quiet _ (read _ no_command (asks (asks_clear (first_cell (suc k)))) allowed.0 (reads (suc k) (omega (arith, below, few)))))
    line_leaves mid new k accepted is same below allowed full some =
        let c = first_cell (suc k) in
        let a_is = asks_so (line_text_of (clear_line (suc k))) allowed.1.0 c (reads (suc k) (omega (arith, below, few))) allowed.1.1 in
        let task = cleared_task mid.0.sheet c allowed.0 (subst (λ (a : Asked). IsTaskOf mid.0.sheet a allowed.0) a_is allowed.1.2) in
        let here = subst (λ (s : Sheet). IsCellNamed s.universe c (at k)) (sym same) (named blocks k below) in
        let cell = named_once trees mid.0.sheet.universe is.formed.universe c task.0 (at k) task.2 here in
        ap (λ (s : State × Notes). s.0.sheet) allowed.3 ∙ ap (λ (t : Task). (state_after mid.0 t).sheet) (task.1 ∙ ap clears cell) ∙ ap (λ (s : Sheet). without_cell s (at k)) same
    line_leaves mid new k (shown text) is same below allowed full some =
        absurd (no_page mid.0.sheet (first_cell (suc k)) allowed.0 (subst (λ (a : Asked). IsTaskOf mid.0.sheet a (shows allowed.0)) (asks_so (line_text_of (clear_line (suc k))) allowed.1.0 (first_cell (suc k)) (reads (suc k) (omega (arith, below, few))) allowed.1.1) allowed.1.2))
    line_leaves mid new k (refused why more) is same below allowed full some = absurd (cc full)
    line_leaves mid new k no_memory is same below allowed full some = absurd (some refl)

    lines_leave : (k : ℕ) → k ≤ blocks → (old new : State × Notes) (t : Transcript) → IsOpen old.0.sheet → old.0.sheet ≡ generated_sheet blocks → lines t ≡ clear_lines k → Legal Allows old t new → list_any (λ pair. is_refused pair.1) t ≡ false → NeverWants t → new.0.sheet ≡ sheet_after k
    lines_leave zero below old new [] is same are legal full never = ap (λ (s : State × Notes). s.0.sheet) legal ∙ same
    lines_leave zero below old new (pair ∷ more) is same are legal full never = absurd (no_cons pair.0 (lines more) (sym are))
    lines_leave (suc k) below old new t is same are legal full never =
        let c = cut_last t (clear_lines k) (clear_line (suc k)) (are ∙ map-push (up_to k) (suc k)) in
        let l = last_line old new c.front (clear_line (suc k)) c.answer (subst (λ (x : Transcript). Legal Allows old x new) c.is legal) in
        let nothing_wanted = never_last c.front (clear_line (suc k)) c.answer (subst NeverWants c.is never) in
        let none = none_refused_last c.front (clear_line (suc k)) c.answer (subst (λ (x : Transcript). list_any (λ pair. is_refused pair.1) x ≡ false) c.is full) in
        let earlier = lines_leave k (omega (arith, below)) old l.mid c.front is same c.lines_are l.before none.0 nothing_wanted.0 in
        line_leaves l.mid new k c.answer (keep_all old l.mid c.front is l.before) earlier (omega (arith, below)) l.allowed none.1 nothing_wanted.1

    -- where all is done, the entries of the first cells are gone
    pub all_cleared : (old new : State × Notes) (t : Transcript) → IsOpen old.0.sheet → old.0.sheet ≡ generated_sheet blocks → lines t ≡ clear_lines blocks → Legal Allows old t new → status_of t ≡ Done → new.0.sheet ≡ without_firsts blocks
    all_cleared old new t is same are legal well =
        lines_leave blocks (omega arith) old new t is same are legal (no_refusal _ _ well) (never_wants t (no_wanting _ _ well))
        ∙ ap (λ (es : List Entry). record { universe = (generated_sheet blocks).universe; rules = (generated_sheet blocks).rules; entries = es }) (thirds_are_left blocks)
