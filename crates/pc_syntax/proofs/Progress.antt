-- A sheet that is read line by line.
use Rattle.std.proofs.Common.{◌≡◌, ℕ, ◌+◌, true, Result, Ok, Err, None, List, [], ◌∷◌, ◌++◌, length, refl, sym, ◌∙◌, ap, subst, arith}
use Rattle.std.proofs.lemmas.List.{append-nil, append_assoc, length-append}
use Rattle.std.specs.Str.Lines.{lines}
use Rattle.pc_syntax.specs.declared.sheet.Part.{Part}
use Rattle.pc_syntax.specs.declared.sheet.Part.TheVariants.{Heading, Universe, Rules, End}
use Rattle.pc_syntax.specs.declared.tree.SheetTree.{SheetTree}
use Rattle.pc_syntax.specs.declared.tree.SheetFault.{SheetFault}
use Rattle.pc_syntax.specs.declared.tree.SheetFault.TheVariants as sheet_fault
use Rattle.pc_syntax.specs.declared.fault.LineFault.{LineFault}
use Rattle.pc_syntax.specs.declared.fault.LineFault.TheVariants as line_fault
use Rattle.pc_syntax.specs.Tree.{Declared, sheet_of}
use Rattle.pc_syntax.specs.Fault.{Fault, IsAtFault}
use Rattle.pc_syntax.specs.Line.{LineForm, nothing, heading, declares, begins, IsLine, HasForm}
use Rattle.pc_syntax.specs.Sheet.{may_stand, AreStanding, IsAtFaultBehind, declared_from, SheetReading, sheet, fault_at, no_begin, IsSheetReading, whole, endless, faulty}
use Rattle.pc_syntax.specs.Sheet as behind
use Rattle.pc_syntax.specs.Part.{IsPartBehind, next_part, IsAtFaultIn, Takes}
use Rattle.pc_syntax.specs.Part as within
use Rattle.pc_syntax.specs.Told.{IsSheetTold, TellsSheet, Means, Blames, sheet_fault_of, misplaced_as}
use Rattle.pc_syntax.proofs.Parts.{stands, stays}
use Rattle.pc_syntax.proofs.OneSheet.{one_sheet_reading}

-- the lines so far stand, and this is what they declare
pub record Progress (text : List ℕ) (p : Part) (n : ℕ) (rest : List (List ℕ)) (seen : List (ℕ × Declared)) : Type 0 where
  pub before : List (List ℕ)
  pub forms : List LineForm
  pub parted : lines text ≡ before ++ rest
  pub standing : AreStanding [] before forms
  pub part : IsPartBehind p forms
  pub number : n ≡ length before + 1
  pub declared : seen ≡ declared_from 1 forms

pub starts : (text : List ℕ) (seen : List (ℕ × Declared)) → seen ≡ [] → Progress text Heading 1 (lines text) seen
starts text seen none = record { before = []; forms = []; parted = refl; standing = tt; part = (refl, refl, refl, refl); number = omega arith; declared = none }

-- ---- one line more

stand_more : (earlier : List LineForm) (ls : List (List ℕ)) (fs : List LineForm) (l : List ℕ) (f : LineForm) → AreStanding earlier ls fs → IsLine l f → may_stand (earlier ++ fs) f ≡ true → AreStanding earlier (ls ++ l ∷ []) (fs ++ f ∷ [])
stand_more earlier [] [] l f a is may = (is, ap (λ h. may_stand h f) (sym (append-nil earlier)) ∙ may, tt)
stand_more earlier [] (g ∷ fs) l f a is may = absurd a
stand_more earlier (k ∷ ls) [] l f a is may = absurd a
stand_more earlier (k ∷ ls) (g ∷ fs) l f a is may = (a.0, a.1, stand_more (earlier ++ g ∷ []) ls fs l f a.2 is (ap (λ h. may_stand h f) (append_assoc earlier (g ∷ []) fs) ∙ may))

same_length : (earlier : List LineForm) (ls : List (List ℕ)) (fs : List LineForm) → AreStanding earlier ls fs → length fs ≡ length ls
same_length earlier [] [] a = refl
same_length earlier [] (g ∷ fs) a = absurd a
same_length earlier (k ∷ ls) [] a = absurd a
same_length earlier (k ∷ ls) (g ∷ fs) a = let rest = same_length (earlier ++ g ∷ []) ls fs a.2 in omega (arith, rest)

declared_more : (n m : ℕ) (fs : List LineForm) (f : LineForm) → m ≡ n + length fs → declared_from n (fs ++ f ∷ []) ≡ declared_from n fs ++ declared_from m (f ∷ [])
declared_more n m [] f is = ap (λ k. declared_from k (f ∷ [])) (let e : n ≡ m = omega (arith, is) in e)
declared_more n m (declares d ∷ fs) f is = ap (λ ds. (n, d) ∷ ds) (declared_more (n + 1) m fs f (omega (arith, is)))
declared_more n m (nothing ∷ fs) f is = declared_more (n + 1) m fs f (omega (arith, is))
declared_more n m (heading v ∷ fs) f is = declared_more (n + 1) m fs f (omega (arith, is))
declared_more n m (begins ∷ fs) f is = declared_more (n + 1) m fs f (omega (arith, is))

-- ---- what is at fault in a part

fault_behind : (p : Part) (before : List LineForm) (line : List ℕ) (e : Fault) → IsPartBehind p before → IsAtFaultIn p line e → IsAtFaultBehind before line e
fault_behind p before line e is (within.by_itself fault) = behind.by_itself fault
fault_behind p before line e is (within.by_place f line_is goes) =
    let there = stays p before f is goes in
    subst (IsAtFaultBehind before line) there.fault (behind.by_place f line_is there.may_not)

-- what is at fault in a line by itself
pub line_blamed : (f : LineFault) (n : ℕ) (p : Part) (line : List ℕ) → Means f (λ e. IsAtFault line (HasForm line) e) → Blames (sheet_fault_of f n) n (λ e. IsAtFaultIn p line e)
line_blamed line_fault.NotUtf8 n p line is = (refl, within.by_itself is)
line_blamed line_fault.TooDeep n p line is = (refl, within.by_itself is)
line_blamed line_fault.Syntax n p line is = (refl, within.by_itself is)
line_blamed line_fault.Memory n p line is = tt

-- what is at fault in a line by its place
pub place_blamed : (p : Part) (f : LineForm) (n : ℕ) (line : List ℕ) → IsLine line f → next_part p f ≡ None → Blames (misplaced_as p f n) n (λ e. IsAtFaultIn p line e)
place_blamed Heading (heading v) n line is goes = (refl, within.by_place (heading v) is goes)
place_blamed Heading nothing n line is goes = (refl, within.by_place nothing is goes)
place_blamed Heading begins n line is goes = (refl, within.by_place begins is goes)
place_blamed Heading (declares d) n line is goes = (refl, within.by_place (declares d) is goes)
place_blamed (Universe v) f n line is goes = (refl, within.by_place f is goes)
place_blamed (Rules v) f n line is goes = (refl, within.by_place f is goes)
place_blamed End f n line is goes = (refl, within.by_place f is goes)

-- ---- the whole

module _ (text : List ℕ) (p : Part) (n : ℕ) (rest : List (List ℕ)) (seen : List (ℕ × Declared)) (so_far : Progress text p n rest seen) where
  module _ (l : List ℕ) (more : List (List ℕ)) (first : rest ≡ l ∷ more) where
    pub goes_on : (q : Part) (new : List (ℕ × Declared)) → Takes p n l q seen new → Progress text q (n + 1) more new
    goes_on q new t =
        let there = stands p q so_far.forms t.form so_far.part t.goes in
        let count = same_length [] so_far.before so_far.forms so_far.standing in
        record {
          before = so_far.before ++ l ∷ [];
          forms = so_far.forms ++ t.form ∷ [];
          parted = so_far.parted ∙ ap (λ ls. so_far.before ++ ls) first ∙ sym (append_assoc so_far.before (l ∷ []) more);
          standing = stand_more [] so_far.before so_far.forms l t.form so_far.standing t.is there.may;
          part = there.part;
          number = omega (arith, so_far.number, length-append so_far.before (l ∷ []));
          declared = t.adds ∙ ap (λ ds. ds ++ declared_from n (t.form ∷ [])) so_far.declared ∙ sym (declared_more 1 n so_far.forms t.form (omega (arith, so_far.number, count)));
        }

    stuck : (e : Fault) → IsAtFaultIn p l e → IsSheetReading text (fault_at n e)
    stuck e fault =
        subst (λ m. IsSheetReading text (fault_at m e)) (sym so_far.number)
        (faulty so_far.before so_far.forms l more (so_far.parted ∙ ap (λ ls. so_far.before ++ ls) first) so_far.standing (fault_behind p so_far.forms l e so_far.part fault))

    at_line : (m : ℕ) (e : Fault) → (m ≡ n) × IsAtFaultIn p l e → IsSheetReading text (fault_at m e)
    at_line m e is = subst (λ k. IsSheetReading text (fault_at k e)) (sym is.0) (stuck e is.1)

    pub blamed : (f : SheetFault) → Blames f n (λ e. IsAtFaultIn p l e) → (r : Result SheetTree SheetFault) → r ≡ Err f → IsSheetTold text r
    blamed (sheet_fault.NotUtf8 m) is r err = subst (IsSheetTold text) (sym err) (at_line m _ is)
    blamed (sheet_fault.TooDeep m) is r err = subst (IsSheetTold text) (sym err) (at_line m _ is)
    blamed (sheet_fault.Syntax m) is r err = subst (IsSheetTold text) (sym err) (at_line m _ is)
    blamed (sheet_fault.WrongVersion m) is r err = subst (IsSheetTold text) (sym err) (at_line m _ is)
    blamed sheet_fault.NoBegin is r err = absurd is
    blamed sheet_fault.Memory is r err = subst (IsSheetTold text) (sym err) tt

  module _ (end : rest ≡ []) where
    all_lines : lines text ≡ so_far.before
    all_lines = so_far.parted ∙ ap (λ ls. so_far.before ++ ls) end ∙ append-nil so_far.before

    all_standing : AreStanding [] (lines text) so_far.forms
    all_standing = subst (λ ls. AreStanding [] ls so_far.forms) (sym all_lines) so_far.standing

    pub finished : p ≡ End → IsSheetReading text (sheet seen)
    finished last =
        let is = subst (λ q. IsPartBehind q so_far.forms) last so_far.part in
        subst (λ ds. IsSheetReading text (sheet ds)) (sym so_far.declared) (whole so_far.forms all_standing is.1)

    pub unfinished : (p ≡ End → ⊥) → IsSheetReading text no_begin
    unfinished other = go p so_far.part other
      where
        go : (q : Part) → IsPartBehind q so_far.forms → (q ≡ End → ⊥) → IsSheetReading text no_begin
        go Heading is o = endless so_far.forms all_standing is.1
        go (Universe v) is o = endless so_far.forms all_standing is.1
        go (Rules v) is o = endless so_far.forms all_standing is.1
        go End is o = absurd (o refl)

pub tells : (text : List ℕ) (r : Result SheetTree SheetFault) → IsSheetTold text r → (q : SheetReading) → IsSheetReading text q → TellsSheet r q
tells text (Ok t) told q is = one_sheet_reading text q (sheet (sheet_of t)) is told
tells text (Err (sheet_fault.NotUtf8 n)) told q is = one_sheet_reading text q _ is told
tells text (Err (sheet_fault.TooDeep n)) told q is = one_sheet_reading text q _ is told
tells text (Err (sheet_fault.Syntax n)) told q is = one_sheet_reading text q _ is told
tells text (Err (sheet_fault.WrongVersion n)) told q is = one_sheet_reading text q _ is told
tells text (Err sheet_fault.NoBegin) told q is = one_sheet_reading text q no_begin is told
tells text (Err sheet_fault.Memory) told q is = tt
