-- How high a structure may be: the reply to each line.
use Rattle.std.specs.Prelude.{ℕ, ℤ, pos, List, [], ◌++◌, ◌≡◌, ◌≢◌, Option, Some, None, codes}
use Rattle.std.specs.Fmt.{decimal, signed_decimal}
use Rattle.airfields.specs.Sites.{Site}
use Rattle.finding_lists.specs.declared.finding.Finding.{Finding}
use Rattle.oe_findings.specs.List.{findings_of}
use Rattle.oe_ceiling.specs.Ceilings.{IsCeilingOf, at_height, height_above}
use Rattle.wire_requests.specs.Requests.{IsMalformed}
use Rattle.wire_requests.specs.declared.request.Query.TheVariants as queries
use Rattle.wire_requests.specs.declared.request.Request.{Request}
use Rattle.wire_requests.specs.declared.request.Request.TheVariants as requests
use Rattle.wire_replies.specs.Entries.{list_text}
use Rattle.site_questions.specs.Charts.{Chart, IsScreen, IsOtherForm, malformed, no_memory}
use Rattle.site_questions.specs.declared.ceiling_desk.TheConstants.{HEIGHT_FIELD}
use Rattle.site_questions.specs.declared.screens.TheConstants.{FORM_FIELD}

-- a height, or a dash where there is none
abbrev pub height_text : Option ℤ → List ℕ
height_text None = codes "-"
height_text (Some height) = signed_decimal height

-- the number of the last accepted change, the ceiling, and what bars the structure from being higher
abbrev pub ceiling_text : ℕ → Option ℤ → List Finding → List ℕ
ceiling_text last ceiling list = codes "ceiling," ++ decimal last ++ codes "," ++ height_text ceiling ++ list_text list ++ codes "\n"

-- a line and the text of its reply
pub data CeilingTold (chart : Chart) (line text : List ℕ) : Type 0 where
  -- an empty line has no reply
  Blank : line ≡ [] → text ≡ [] → CeilingTold chart line text
  -- a structure of height 0 has its ceiling, and its findings a tenth of a foot above it
  Told : (site : Site) (ceiling : Option ℤ) → IsScreen line site → site.height ≡ pos 0 → IsCeilingOf chart.airfields site ceiling
      → text ≡ ceiling_text chart.last ceiling (findings_of chart.airfields (at_height site (height_above ceiling))) → CeilingTold chart line text
  -- one of another height is refused at the field of the height
  HeightGiven : (site : Site) → IsScreen line site → site.height ≢ pos 0 → text ≡ malformed HEIGHT_FIELD → CeilingTold chart line text
  -- a record of another form is refused at the field of the form
  OtherForm : IsOtherForm line → text ≡ malformed FORM_FIELD → CeilingTold chart line text
  -- any other line is refused at its first wrong field
  Refused : line ≢ [] → (field : ℕ) → IsMalformed line field → text ≡ malformed field → CeilingTold chart line text
  -- memory may be wanting for any of them
  Wanting : line ≢ [] → text ≡ no_memory → CeilingTold chart line text

-- no line changes what the questions are asked over
pub record CeilingStep (before : Chart) (line text : List ℕ) (after : Chart) : Type 0 where
  pub told : CeilingTold before line text
  pub same : after ≡ before

-- ---- for proofs alone

-- the ceiling of a structure was appended, or that memory is wanting
pub data IsCeilingReply (chart : Chart) (site : Site) (old new : List ℕ) : Type 0 where
  Found : (ceiling : Option ℤ) → IsCeilingOf chart.airfields site ceiling
      → new ≡ old ++ ceiling_text chart.last ceiling (findings_of chart.airfields (at_height site (height_above ceiling))) → IsCeilingReply chart site old new
  NoRoom : new ≡ old ++ no_memory → IsCeilingReply chart site old new

-- the reply to a record was appended
pub data IsRecordReply (chart : Chart) (r : Request) (old new : List ℕ) : Type 0 where
  Screened : (site : Site) → r ≡ requests.Query (queries.Screen site) → site.height ≡ pos 0 → IsCeilingReply chart site old new → IsRecordReply chart r old new
  TooHigh : (site : Site) → r ≡ requests.Query (queries.Screen site) → site.height ≢ pos 0 → new ≡ old ++ malformed HEIGHT_FIELD → IsRecordReply chart r old new
  Other : ((site : Site) → r ≢ requests.Query (queries.Screen site)) → new ≡ old ++ malformed FORM_FIELD → IsRecordReply chart r old new

-- the text of the reply to a line was appended
pub record CeilingAnswers (chart : Chart) (line old new : List ℕ) : Type 0 where
  pub reply : List ℕ
  pub told : CeilingTold chart line reply
  pub appended : new ≡ old ++ reply
