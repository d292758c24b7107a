-- What the pages of a state say.
use Rattle.std.specs.Prelude.{◌≡◌, ℕ, ◌-◌, List, AllPairs, codes, length, map, string_bytes}
use Rattle.pc_sheet.specs.Sheet.{Sheet, Statement}
use Rattle.pc_sheet.specs.Entailment.{IsImplied}
use Rattle.pc_sheet.specs.declared.ids.Target.{Target}
use Rattle.pc_reason.specs.Targets.{IsTargetIn}
use Rattle.pc_reason.specs.Refutations.{IsAgainst}
use Rattle.pc_accept.specs.Accepts.{Claim, repairs, unimplied, Certificate}
use Rattle.pc_accept.specs.Sets.{GivenSet}
use Rattle.pc_sheet.specs.declared.ids.Entry.{Entry}
use Rattle.pc_ground.specs.Naming.{names_of}
use Rattle.pc_world_list.specs.Worlds.{set_of}
use Rattle.pc_world_list.specs.FewSets.{AreMaximalSets}
use Rattle.pc_world_list.specs.RuleCertificates.{GoesAgainst, IsAgainstRule}
use Rattle.pc_world_list.specs.SetCertificates.{IsOnSets, SetParts, AreCertified}
use Rattle.pc_world_list.specs.declared.set_proof.SetsClaim.{SetsClaim}
use Rattle.pc_world_list.specs.declared.set_proof.SetsClaim.TheVariants.{Repairs, Lacking}
use Rattle.pc_repairs.specs.Listed.{ComesFirst}
use Rattle.pc_repairs.specs.ListedSheet.{IsListed}
use Rattle.pc_accept.specs.Asked.{IsStatementImplied, IsLeastForStatement, asked}
use Rattle.pc_writer.specs.SheetText.{sheet_text, ended}
use Rattle.pc_display.specs.Show.{IsShown}
use Rattle.pc_display.specs.Grid.{IsGrid}
use Rattle.pc_display.specs.Json.{IsJson, IsJsonLine}
use Rattle.pc_cert_text.specs.CertificateText.{certificate_text}
use Rattle.pc_cert_text.specs.Why.{IsFor}
use Rattle.pc_spreadsheet.specs.Tasks.{State, PageKind, lines_page, grid_page, json_page, text_page, why_page, repairs_page, proof_page, whynot_page, ask_page}
use Rattle.pc_spreadsheet.specs.declared.page.AskProof.{AskProof}
use Rattle.pc_spreadsheet.specs.declared.page.Page.{Page}
use Rattle.pc_spreadsheet.specs.declared.page.Page.TheVariants.{Display, Grid, Json, SheetText, Why, Listed, Proof, Implied, Unimplied, Answered, Unanswered}

-- Why a target is implied: a certificate that the sheet accepts, whose uses are the least support, oldest first; and `not implied` exactly
-- where it isn't.
pub data IsWhy (sheet : Sheet) (t : Target) (text : List ℕ) : Type 0 where
  certified : (c : Certificate) → IsFor sheet t c → text ≡ certificate_text sheet c → IsWhy sheet t text
  not_implied : ¬ IsImplied sheet t → text ≡ ended (codes "not implied") → IsWhy sheet t text

abbrev pub uses_of : GivenSet → List Entry
uses_of s = s.uses

-- The text is a certificate on sets of this claim that the sheet accepts, and its sets are the maximal sets in their order, each with its
-- oldest entry first.
pub record IsCertificateOnSets (sheet : Sheet) (claim : Claim) (text : List ℕ) : Type 0 where
  pub certificate : Certificate
  pub accepted : IsOnSets sheet claim certificate
  pub sets : AreMaximalSets sheet (map uses_of certificate.sets)
  pub order : AllPairs (ComesFirst sheet.entries) (map uses_of certificate.sets)
  pub text_is : text ≡ certificate_text sheet certificate

-- Why a target isn't implied: a certificate that it isn't; and `implied` exactly where it is.
pub data IsWhyNot (sheet : Sheet) (t : Target) (text : List ℕ) : Type 0 where
  shown_unimplied : ¬ IsImplied sheet t → IsCertificateOnSets sheet (unimplied t) text → IsWhyNot sheet t text
  implied : IsImplied sheet t → text ≡ ended (codes "implied") → IsWhyNot sheet t text

-- Why a formula is implied: a certificate against the last rule of the asked sheet, which that accepts, whose uses are the least support,
-- oldest first; and `not implied` exactly where it isn't.
pub data IsAnswered (sheet : Sheet) (f : Statement) (text : List ℕ) : Type 0 where
  by_support : (s : List Entry) (c : Certificate) → IsLeastForStatement sheet s f → IsAgainstRule (asked sheet f) (length sheet.rules) s c → text ≡ certificate_text (asked sheet f) c → IsAnswered sheet f text
  by_none : ¬ IsStatementImplied sheet f → text ≡ ended (codes "not implied") → IsAnswered sheet f text

-- the same of the formula that is asked in a sheet with one rule more
abbrev pub IsAnsweredIn : Sheet → Sheet → List ℕ → Type 0
IsAnsweredIn sheet made text = (f : Statement) × (made ≡ asked sheet f) × IsAnswered sheet f text

-- what a page of this kind says of a sheet
abbrev pub PageSays : PageKind → Sheet → List ℕ → Type 0
PageSays lines_page sheet text = IsShown sheet text
PageSays grid_page sheet text = IsGrid sheet text
PageSays json_page sheet text = IsJsonLine sheet text
PageSays text_page sheet text = text ≡ sheet_text sheet
PageSays (why_page t) sheet text = IsWhy sheet t text
PageSays repairs_page sheet text = IsListed sheet text
PageSays proof_page sheet text = IsCertificateOnSets sheet repairs text
PageSays (whynot_page t) sheet text = IsWhyNot sheet t text
PageSays (ask_page made) sheet text = IsAnsweredIn sheet made text

-- the kind of a page as it is handed on
abbrev pub kind_of : Page → PageKind
kind_of Display = lines_page
kind_of Grid = grid_page
kind_of (Json text) = json_page
kind_of SheetText = text_page
kind_of (Why t) = why_page t
kind_of (Listed text) = repairs_page
kind_of (Proof proof) = proof_page
kind_of (Implied t) = whynot_page t
kind_of (Unimplied t proof) = whynot_page t
kind_of (Answered proof) = ask_page proof.book
kind_of (Unanswered made) = ask_page made

abbrev pub IsPage : Page → State → List ℕ → Type 0
IsPage page state text = PageSays (kind_of page) state.sheet text

-- the parts of a certificate of this claim, with the sheet's names, whose sets are the maximal ones in their order
abbrev pub Certifies : Sheet → SetsClaim → SetParts → Type 0
Certifies sheet claim parts = (parts.claim ≡ claim) × AreCertified sheet (names_of sheet) parts × AreMaximalSets sheet (map set_of parts.worlds) × AllPairs (ComesFirst sheet.entries) (map set_of parts.worlds)

-- the parts of a certificate against the last rule of the asked sheet, with the formula's least support
abbrev pub ProvesAsked : Sheet → Statement → AskProof → Type 0
ProvesAsked sheet f p =
    (p.book ≡ asked sheet f) × IsLeastForStatement sheet p.support.items f × GoesAgainst p.book p.names (length p.book.rules - 1) p.support.items p.shown p.lines p.span

-- What a page carries is the sheet's: a text is its display as JSON or lists its maximal sets, a target is one of its own, and a
-- certificate is of its maximal sets, or of a formula that is asked in it; and whether a target or a formula is implied is as the page says.
abbrev pub CanShow : Page → State → Type 0
CanShow (Json text) state = IsJson state.sheet (string_bytes text)
CanShow (Why t) state = IsTargetIn state.sheet.universe t
CanShow (Listed text) state = IsListed state.sheet text.items
CanShow (Proof proof) state = Certifies state.sheet Repairs proof
CanShow (Implied t) state = IsImplied state.sheet t
CanShow (Unimplied t proof) state = (¬ IsImplied state.sheet t) × Certifies state.sheet (Lacking t) proof
CanShow (Answered p) state = (f : Statement) × ProvesAsked state.sheet f p
CanShow (Unanswered made) state = (f : Statement) × (made ≡ asked state.sheet f) × (¬ IsStatementImplied state.sheet f)
CanShow page state = Unit {0}

-- the text is a certificate of the sheet's inconsistency that the sheet accepts
abbrev pub IsCertificateAgainst : Sheet → List ℕ → Type 0
IsCertificateAgainst sheet text = (c : Certificate) × IsAgainst sheet c × (text ≡ certificate_text sheet c)
