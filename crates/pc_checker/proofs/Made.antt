-- The scratch that was made.
use Rattle.std.proofs.Common.{◌≡◌, ℕ, Bool, List, [], ◌++◌, map, length, get_or, false, All, ap, ◌∙◌, subst}
use Rattle.pc_sheet.specs.Sheet.{Sheet}
use Rattle.pc_lits.specs.declared.literal.Lit.{Lit}
use Rattle.pc_accept.specs.Literals.{Symbol}
use Rattle.pc_cert.specs.Views.{literal_of, symbols_of, reading_of, AreSymbolsDistinct}
use Rattle.pc_cert.specs.declared.cert.Cert.{Cert}
use Rattle.pc_cert.specs.declared.cert.CertLine.{CertLine}
use Rattle.pc_checker.specs.declared.scratch.Scratch.{Scratch}
use Rattle.pc_cert.specs.ReadFor.{IsNamedIn, IsReadFor}
use Rattle.pc_checker.specs.Made.{IsPrepared, IsMadeFor, own_blocks}
use Rattle.pc_checker.specs.Drafts.{Draft, AreWritten}
use Rattle.pc_cert.specs.Numbered.{StartsWith}
use Rattle.pc_checker.specs.inside.Prepared.{ArePrepared, AreValuesPrepared, IsDerivationPrepared}
use Rattle.pc_checker.specs.Verdicts.{allowed_in}
use Rattle.pc_checker.proofs.RoomLemmas.{prepared_grown}

pub derivation_prepared : (sheet : Sheet) (c : Cert) (clauses : List (List Lit)) (axioms : List Bool) (allowed : List Lit) (room : ℕ) (lines : List CertLine) (start mid last : Draft) (first : List Symbol) → lines ≡ c.lines.items → first ≡ symbols_of c
    → ArePrepared sheet (own_blocks sheet c) lines (length lines) first mid.symbols clauses axioms → start.symbols ≡ mid.symbols → start.clause ≡ [] → AreWritten start last (allowed_in (reading_of c))
    → map (literal_of last.symbols) allowed ≡ last.clause → All (IsNamedIn last.symbols) allowed → room ≡ length last.symbols → AreSymbolsDistinct last.symbols → IsDerivationPrepared sheet c clauses axioms allowed room
derivation_prepared sheet c clauses axioms allowed room lines start mid last first same_lines same_first are begun blank written literals within room_is distinct =
    let grows : StartsWith mid.symbols last.symbols = subst (λ (xs : List Symbol). StartsWith xs last.symbols) begun written.grows in
    let is : last.clause ≡ allowed_in (reading_of c) = written.clause ∙ ap (λ ls. ls ++ allowed_in (reading_of c)) blank in
    record {
      names = last.symbols;
      distinct = distinct;
      lines = prepared_grown sheet (own_blocks sheet c) c.lines.items (length c.lines.items) (symbols_of c) mid.symbols last.symbols clauses axioms grows
          (subst (λ (xs : List Symbol). ArePrepared sheet (own_blocks sheet c) c.lines.items (length c.lines.items) xs mid.symbols clauses axioms) same_first
          (subst (λ ls. ArePrepared sheet (own_blocks sheet c) ls (length ls) first mid.symbols clauses axioms) same_lines are));
      room_is = room_is;
      literals = literals ∙ is;
      within = within;
    }

pub made : (sheet : Sheet) (c : Cert) (s : Scratch) → IsReadFor sheet c → IsDerivationPrepared sheet c s.clauses s.axioms.items s.allowed.items (length s.values) → AreValuesPrepared sheet c s.entered.items s.assignment s.sets.items s.pairs s.apart → IsMadeFor sheet c s
made sheet c s read derivation given =
    let ready = derivation.lines in
    let grown = ready.grows in
    record {
      read = read;
      prepared = record {
        more = grown.0;
        distinct = subst AreSymbolsDistinct grown.1 derivation.distinct;
        room = derivation.room_is ∙ ap length grown.1;
        entered = given.entered;
        assignment = given.values;
        sets = given.sets;
        pairs = given.room;
        apart = given.first_apart;
        count = ready.count;
        marks = ready.marks;
        within = subst (λ (xs : List Symbol). All (All (IsNamedIn xs)) s.clauses) grown.1 ready.within;
        each = λ i d l. subst (λ (xs : List Symbol). IsPrepared sheet (own_blocks sheet c) xs (get_or s.clauses i []) (get_or s.axioms.items i false) (get_or c.lines.items i d).part) grown.1 (ready.each i d l);
        allowed = subst (λ (xs : List Symbol). map (literal_of xs) s.allowed.items ≡ allowed_in (reading_of c)) grown.1 derivation.literals;
        allowed_within = subst (λ (xs : List Symbol). All (IsNamedIn xs) s.allowed.items) grown.1 derivation.within;
      };
    }
