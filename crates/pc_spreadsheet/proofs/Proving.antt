-- What comes of searches for certificates of the maximal sets.
use Rattle.std.proofs.Common.{◌≡◌, ◌≢◌, Result, Ok, Err, Some, ℕ, ◌+◌, ◌^◌, ◌<◌, ◌≤◌, true, List, [], ◌∷◌, ◌++◌, None, length, map, refl, sym, ap, subst, arith, ◌∙◌}
use Rattle.std.specs.Prelude.{AllPairs}
use Rattle.std.proofs.lemmas.List.{length-map}
use Rattle.std.proofs.lemmas.List.Elements.{All-nil}
use Rattle.pc_syntax.specs.Tree.{Cell, Value, asks_repairs, asks_prove_repairs, asks_whynot}
use Rattle.pc_lits.specs.declared.literal.Lit.{Lit}
use Rattle.pc_lits.specs.declared.tally.Tally.{Tally}
use Rattle.pc_log.specs.Lines.{LogLine}
use Rattle.pc_sheet.specs.Sheet.{Sheet}
use Rattle.pc_sheet.specs.Entailment.{IsImplied}
use Rattle.pc_sheet.specs.MaximalSets.{ListsExactly, IsMaximalSet}
use Rattle.pc_sheet.specs.declared.ids.Entry.{Entry}
use Rattle.pc_sheet.specs.declared.ids.Target.{Target}
use Rattle.pc_laws.proofs.Different.{exact_as_long}
use Rattle.pc_elaborate.specs.Elaboration.{IsEntryNamed}
use Rattle.pc_world_list.specs.Worlds.{WorldView, set_of}
use Rattle.pc_world_list.specs.FewSets.{AreMaximalSets, HasFewSets, HasManySets}
use Rattle.pc_accept.specs.Accepts.{Claim, Certificate}
use Rattle.pc_world_list.specs.SetCertificates.{given_of, IsOnSets}
use Rattle.pc_cert_text.specs.CertificateText.{certificate_text}
use Rattle.pc_spreadsheet.specs.Pages.{uses_of, IsCertificateOnSets}
use Rattle.pc_theory.specs.WholeSpendings.{IsWholeLog, IsSpentWhole}
use Rattle.pc_repairs.specs.Lacking.{AreLacking}
use Rattle.pc_repairs.specs.Listed.{ComesFirst}
use Rattle.pc_repairs.specs.ListedSheet.{IsListed}
use Rattle.pc_repairs.specs.declared.listing.ListFault.{ListFault}
use Rattle.pc_repairs.specs.declared.listing.ListFault.TheVariants.{Memory}
use Rattle.pc_writer.specs.Writes.{Writes}
use Rattle.pc_display.specs.declared.text.Text.{Text}
use Rattle.pc_repairs.specs.Searches.{IsWholeSearch}
use Rattle.pc_repairs.specs.Whole.{AreAllSets}
use Rattle.pc_session.specs.Views.{SessionView}
use Rattle.pc_session.specs.Views as session
use Rattle.pc_refusals.specs.declared.refusal.Counts.{Counts}
use Rattle.pc_transcript.specs.declared.machine.Reply.TheVariants.{Refused}
use Rattle.pc_refusals.specs.declared.refusal.Refusal.TheVariants.{TooManySets}
use Rattle.pc_spreadsheet.specs.Refused.{too_many_sets, too_many_for}
use Rattle.pc_spreadsheet.specs.Tasks.{State, entry_of_target, listing, proving, doubting}
use Rattle.pc_spreadsheet.specs.Allowed.{Notes, told_counts_of, IsWholeSpent, to_prove, to_doubt}
use Rattle.pc_spreadsheet.specs.Commands.{Told, state_of, Obeys, judged, proof_spent}
use Rattle.pc_spreadsheet.specs.inside.Repairs.{ListsRepairs, by_listing, for_memory, HasSpent, NotesWhole, noted, not_noted, Proves, by_certificate, by_search, for_room, Doubts, by_proof, by_reason, by_spending, for_want}

-- ---- sets

few_of : (sheet : Sheet) (worlds : List WorldView) → AreAllSets sheet worlds → HasFewSets sheet
few_of sheet worlds all = (map set_of worlds, all.exact.sets, omega (arith, all.few, length-map worlds set_of))

as_many : (sheet : Sheet) (worlds : List WorldView) → AreAllSets sheet worlds → (sets : List (List Entry)) → AreMaximalSets sheet sets → length worlds ≡ length sets
as_many sheet worlds all sets are = sym (length-map worlds set_of) ∙ exact_as_long (IsMaximalSet sheet) (map set_of worlds) sets all.exact.sets are

-- the same sets with other assignments
pub all_lacking : (sheet : Sheet) (worlds found : List WorldView) (t : Target) → AreAllSets sheet worlds → AreLacking sheet worlds t found → AreAllSets sheet found
all_lacking sheet worlds found t all lacking = record {
  exact = record { sets = subst (ListsExactly (List Entry) (IsMaximalSet sheet)) (sym lacking.same) all.exact.sets; shown = lacking.shown };
  few = omega (arith, all.few, length-map worlds set_of, length-map found set_of, ap length lacking.same);
  order = subst (AllPairs (ComesFirst sheet.entries)) (sym lacking.same) all.order;
}

pub as_many_lacking : (sheet : Sheet) (worlds found : List WorldView) (t : Target) → AreLacking sheet worlds t found → length found ≡ length worlds
as_many_lacking sheet worlds found t lacking = sym (length-map found set_of) ∙ ap length lacking.same ∙ length-map worlds set_of

-- ---- what is spent

pub none_is_spent : (sheet : Sheet) (budget : ℕ) (tally : Tally) → tally.placed ≡ 0 → tally.learned ≡ 0 → tally.calls ≡ 0 → tally.limit ≡ budget → HasSpent sheet budget 0 [] tally
none_is_spent sheet budget tally placed learned calls limit = record {
  spending = record { placed = omega (arith, placed); few_logs = omega arith; learned = sym learned; lawful = All-nil (IsWholeLog sheet) };
  limited = limit;
  few_calls = omega (arith, calls);
  few_learned = omega (arith, learned);
}

-- and a search more
pub search_is_spent : (sheet : Sheet) (budget most more : ℕ) (logs : List (List LogLine)) (log : List LogLine) (blocks : List (List Lit)) (before after : Tally)
    → length logs ≤ 2 → HasSpent sheet budget most logs before → IsWholeSearch sheet blocks more before after log → HasSpent sheet budget (most + more) (logs ++ log ∷ []) after
search_is_spent sheet budget most more logs log blocks before after few spent search = record {
  spending = search.adds logs few spent.spending;
  limited = search.spends.limit ∙ spent.limited;
  few_calls = omega (arith, search.spends.calls, search.spends.few, spent.few_calls);
  few_learned = omega (arith, search.spends.spare, search.spends.learned, search.spends.calls, spent.few_learned);
}

pub is_spent_whole : (sheet : Sheet) (budget most : ℕ) (logs : List (List LogLine)) (tally : Tally) → HasSpent sheet budget most logs tally → tally.placed ≡ tally.limit → IsSpentWhole sheet logs tally
is_spent_whole sheet budget most logs tally spent placed = record { spending = spent.spending; all_placed = placed }

-- the note and the numbers of it
whole_spent : (sheet : Sheet) (budget most : ℕ) (logs : List (List LogLine)) (tally : Tally) (worlds : List WorldView) (counts : Counts) (n n' : Notes)
    → AreAllSets sheet worlds → most ≤ length worlds + 1 → HasSpent sheet budget most logs tally → tally.placed ≡ tally.limit → counts ≡ told_counts_of tally
    → n' ≡ n ++ record { sheet = sheet; cell = None; tally = session.counts_of tally } ∷ [] → IsWholeSpent budget sheet counts n n'
whole_spent sheet budget most logs tally worlds counts n n' all within spent placed is now_noted = record {
  logs = logs;
  tally = tally;
  spent = is_spent_whole sheet budget most logs tally spent placed;
  limited = spent.limited;
  few_calls = λ sets are. omega (arith, as_many sheet worlds all sets are, within, spent.few_calls);
  counts_are = is;
  noted = now_noted;
}

pub proof_noted : (sheet : Sheet) (budget most : ℕ) (logs : List (List LogLine)) (tally : Tally) (worlds : List WorldView) (n n' : Notes) (reply : Told)
    → AreAllSets sheet worlds → most ≤ length worlds + 1 → HasSpent sheet budget most logs tally → tally.placed ≡ tally.limit → NotesWhole sheet tally n n' reply → Proves budget sheet n n' reply
proof_noted sheet budget most logs tally worlds n n' reply all within spent placed (noted counts is now_noted) = by_search counts (whole_spent sheet budget most logs tally worlds counts n n' all within spent placed is now_noted)
proof_noted sheet budget most logs tally worlds n n' reply all within spent placed (not_noted none) = for_room none

pub doubt_noted : (sheet : Sheet) (budget most : ℕ) (logs : List (List LogLine)) (tally : Tally) (worlds : List WorldView) (t : Target) (n n' : Notes) (reply : Told)
    → AreAllSets sheet worlds → most ≤ length worlds + 1 → HasSpent sheet budget most logs tally → tally.placed ≡ tally.limit → ¬ IsImplied sheet t → NotesWhole sheet tally n n' reply → Doubts budget sheet t n n' reply
doubt_noted sheet budget most logs tally worlds t n n' reply all within spent placed unimplied (noted counts is now_noted) =
    by_spending counts unimplied (whole_spent sheet budget most logs tally worlds counts n n' all within spent placed is now_noted)
doubt_noted sheet budget most logs tally worlds t n n' reply all within spent placed unimplied (not_noted none) = for_want none

-- ---- commands

abbrev pair_of : State → Notes → State × Notes
pair_of state notes = (state, notes)

pub repairs_listed : (s : SessionView) (n : Notes) (reply : Told) → ListsRepairs s.sheet reply → Obeys (state_of s, n) asks_repairs reply (state_of s, n)
repairs_listed s n reply (by_listing text is) = (listing, is, refl)
repairs_listed s n reply for_memory = (tt, refl)

pub many_to_prove : (old : State × Notes) → HasManySets old.0.sheet → Obeys old asks_prove_repairs (Refused TooManySets None) old
many_to_prove old many = judged (too_many_sets many) refl refl

pub many_to_doubt : (old : State × Notes) (c : Cell) (v : Value) (e : Entry) → IsEntryNamed old.0.sheet.universe c v e → HasManySets old.0.sheet → Obeys old (asks_whynot c v) (Refused TooManySets None) old
many_to_doubt old c v e named many = judged (too_many_for e named many) refl refl

-- of the session's sheet and budget
pub proved_so : (s : SessionView) (n n' : Notes) (reply : Told) (worlds : List WorldView) → AreAllSets s.sheet worlds → Proves s.budget s.sheet n n' reply → Obeys (state_of s, n) asks_prove_repairs reply (state_of s, n')
proved_so s n n' reply worlds all (by_certificate proof is same) = (proving (few_of s.sheet worlds all), is, ap (pair_of (state_of s)) same)
proved_so s n n' reply worlds all (by_search counts spent) = proof_spent counts (to_prove (few_of s.sheet worlds all), spent) refl refl refl
proved_so s n n' reply worlds all (for_room none) = (tt, ap (pair_of (state_of s)) none)

pub doubted_so : (s : SessionView) (n n' : Notes) (reply : Told) (worlds : List WorldView) (c : Cell) (v : Value) (t : Target) → AreAllSets s.sheet worlds → IsEntryNamed s.sheet.universe c v (entry_of_target t) → t.holds ≡ true
    → Doubts s.budget s.sheet t n n' reply → Obeys (state_of s, n) (asks_whynot c v) reply (state_of s, n')
doubted_so s n n' reply worlds c v t all named holds (by_proof proof unimplied is same) = (doubting t named holds (few_of s.sheet worlds all), (unimplied, is), ap (pair_of (state_of s)) same)
doubted_so s n n' reply worlds c v t all named holds (by_reason implied same) = (doubting t named holds (few_of s.sheet worlds all), implied, ap (pair_of (state_of s)) same)
doubted_so s n n' reply worlds c v t all named holds (by_spending counts unimplied spent) = proof_spent counts (to_doubt t named holds (few_of s.sheet worlds all) unimplied, spent) refl refl refl
doubted_so s n n' reply worlds c v t all named holds (for_want none) = ((entry_of_target t, named), ap (pair_of (state_of s)) none)

-- ---- before a second search

-- with fewer calls
pub with_fewer : (sheet : Sheet) (budget most fewer : ℕ) (logs : List (List LogLine)) (tally : Tally) → HasSpent sheet budget most logs tally → most ≡ fewer → HasSpent sheet budget fewer logs tally
with_fewer sheet budget most fewer logs tally spent same = subst (λ n. HasSpent sheet budget n logs tally) same spent

pub few_learned_before : (sheet : Sheet) (budget : ℕ) (worlds : List WorldView) (logs : List (List LogLine)) (tally : Tally) → AreAllSets sheet worlds → HasSpent sheet budget (length worlds) logs tally → tally.limit < 2 ^ 64 → tally.learned < 2 ^ 126
few_learned_before sheet budget worlds logs tally all spent limit = omega (arith, all.few, spent.few_calls, spent.few_learned, tally.within_limit, limit)

pub few_calls_before : (sheet : Sheet) (budget : ℕ) (worlds : List WorldView) (logs : List (List LogLine)) (tally : Tally) → AreAllSets sheet worlds → HasSpent sheet budget (length worlds) logs tally → tally.calls < 2 ^ 126
few_calls_before sheet budget worlds logs tally all spent = omega (arith, all.few, spent.few_calls)

-- with the session's sheet and budget by other names
pub proved_in : (s : SessionView) (n n' : Notes) (book : Sheet) (budget : ℕ) (reply : Told) (worlds : List WorldView) → AreAllSets s.sheet worlds → book ≡ s.sheet → budget ≡ s.budget → Proves budget book n n' reply → Obeys (state_of s, n) asks_prove_repairs reply (state_of s, n')
proved_in s n n' book budget reply worlds all book_is budget_is proves = proved_so s n n' reply worlds all (subst (λ b. Proves b s.sheet n n' reply) budget_is (subst (λ b. Proves budget b n n' reply) book_is proves))

pub doubted_in : (s : SessionView) (t : Target) (n n' : Notes) (book : Sheet) (budget : ℕ) (reply : Told) → book ≡ s.sheet → budget ≡ s.budget → Doubts budget book t n n' reply → Doubts s.budget s.sheet t n n' reply
doubted_in s t n n' book budget reply book_is budget_is doubts = subst (λ b. Doubts b s.sheet t n n' reply) budget_is (subst (λ b. Doubts budget b t n n' reply) book_is doubts)

-- ---- pages

abbrev listing_done : Unit {0} → Result (Unit {0}) ListFault
listing_done u = Ok u

-- what is listed into an empty text is all that it has
pub appended : {faults : Text → ℕ} (sheet : Sheet) (before after : Text) (u : Unit {0}) → before.bytes.items ≡ []
    → (listing_done u ≢ Err Memory → (text : List ℕ) × IsListed sheet text × Writes (λ (t : Text). Some t.bytes.items) faults before after (listing_done u) text) → IsListed sheet after.bytes.items
appended sheet before after u none told =
    let found = told (λ fails. absurd (cc fails)) in
    let all : after.bytes.items ≡ before.bytes.items ++ found.0 = found.2.bytes in
    subst (IsListed sheet) (sym (all ∙ ap (λ (xs : List ℕ). xs ++ found.0) none)) found.1

same_uses : (worlds : List WorldView) → map uses_of (map given_of worlds) ≡ map set_of worlds
same_uses [] = refl
same_uses (w ∷ ws) = ap (λ sets. w.entries ∷ sets) (same_uses ws)

-- the certificate of these worlds says so of its sets
pub on_sets : (sheet : Sheet) (claim : Claim) (c : Certificate) (worlds : List WorldView) → IsOnSets sheet claim c → c.sets ≡ map given_of worlds → AreMaximalSets sheet (map set_of worlds) → AllPairs (ComesFirst sheet.entries) (map set_of worlds)
    → IsCertificateOnSets sheet claim (certificate_text sheet c)
on_sets sheet claim c worlds on are maximal order =
    let uses : map uses_of c.sets ≡ map set_of worlds = ap (map uses_of) are ∙ same_uses worlds in
    record { certificate = c; accepted = on; sets = subst (AreMaximalSets sheet) (sym uses) maximal; order = subst (AllPairs (ComesFirst sheet.entries)) (sym uses) order; text_is = refl }
