-- Certificates of the maximal sets of a book: what they are made of, before they are text.
use Rattle.std.specs.Prelude.{◌≡◌, List, [], length, map}
use Rattle.pc_sheet.specs.Sheet.{Sheet}
use Rattle.pc_log.specs.Lines.{LogLine}
use Rattle.pc_log.specs.Spans.{IsSpanOf, lines_of_span}
use Rattle.pc_log.specs.declared.trimming.Span.{Span}
use Rattle.pc_accept.specs.Sets.{GivenSet}
use Rattle.pc_accept.specs.Accepts.{Claim, repairs, unimplied, Certificate, Accepts}
use Rattle.pc_accept.specs.Writable.{IsWritableCertificate}
use Rattle.pc_axiom_names.specs.Listed.{NameLists}
use Rattle.pc_reason.specs.Derivation.{line_named, AreLinesNamedBeside, entries_from}
use Rattle.pc_world_list.specs.Worlds.{WorldView}
use Rattle.pc_world_list.specs.declared.set_proof.SetsClaim.{SetsClaim}
use Rattle.pc_world_list.specs.declared.set_proof.SetsClaim.TheVariants.{Repairs, Lacking}

-- a world as a set of a certificate: its entries, and the value of each cell
abbrev pub given_of : WorldView → GivenSet
given_of w = record { uses = w.entries; values = entries_from 0 w.shown }

-- the certificate of that claim with a set for each world and with these lines, where variables and axioms have these names
abbrev pub certificate_of_sets : NameLists → Claim → List WorldView → List LogLine → Certificate
certificate_of_sets names claim worlds lines =
    record { claim = claim; sets = map given_of worlds; uses = []; values = []; lines = map (line_named names) lines }

-- The span's lines can be named, blocks being of the worlds alone, and the certificate that they make with the worlds is
-- accepted and speaks of what the sheet has alone.
pub record CertifiesSets (sheet : Sheet) (names : NameLists) (claim : Claim) (worlds : List WorldView) (lines : List LogLine) (span : Span) : Type 0 where
  pub lies : IsSpanOf lines span
  pub named : AreLinesNamedBeside (length worlds) names (lines_of_span lines span)
  pub accepted : Accepts sheet (certificate_of_sets names claim worlds (lines_of_span lines span))
  pub written : IsWritableCertificate sheet (certificate_of_sets names claim worlds (lines_of_span lines span))

-- the certificate makes that claim, the sheet accepts it, and it can be written
pub record IsOnSets (sheet : Sheet) (claim : Claim) (c : Certificate) : Type 0 where
  pub claims : c.claim ≡ claim
  pub accepted : Accepts sheet c
  pub written : IsWritableCertificate sheet c

-- ---- what is handed on

-- what is said of sets, as the claim of a certificate
abbrev pub claim_on_sets : SetsClaim → Claim
claim_on_sets Repairs = repairs
claim_on_sets (Lacking target) = unimplied target

-- the parts of a certificate of sets, but for the names of variables and axioms
pub record SetParts : Type 0 where
  pub claim : SetsClaim
  pub worlds : List WorldView
  pub lines : List LogLine
  pub span : Span

-- with these names they make a certificate that the sheet accepts
abbrev pub AreCertified : Sheet → NameLists → SetParts → Type 0
AreCertified sheet names p = CertifiesSets sheet names (claim_on_sets p.claim) p.worlds p.lines p.span
