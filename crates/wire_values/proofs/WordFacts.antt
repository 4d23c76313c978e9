-- A text that is none of the words of a value.
use Rattle.std.proofs.Common.{◌≢◌, List, ℕ, Option, Some, None, codes}
use Rattle.runway_classes.specs.declared.ApproachKind.{ApproachKind}
use Rattle.runway_classes.specs.declared.ApproachKind.TheVariants.{Visual, NonprecisionAbove, NonprecisionLow, Precision}
use Rattle.airfields.specs.declared.category.Category.{Category}
use Rattle.airfields.specs.declared.category.Category.TheVariants.{PublicUse, PublicBuilding, MilitaryBuilding, Federal, Dod, Procedure, OtherPrivate}
use Rattle.airfields.specs.declared.structure.StructureKind.{StructureKind}
use Rattle.airfields.specs.declared.structure.StructureKind.TheVariants as kinds
use Rattle.case_requests.specs.declared.act.Impact.{Impact}
use Rattle.case_requests.specs.declared.act.Impact.TheVariants as impacts
use Rattle.case_requests.specs.declared.act.Party.{Party}
use Rattle.case_requests.specs.declared.act.Party.TheVariants as parties
use Rattle.wire_values.specs.Words.{category_word, approach_word, kind_word, impact_word, party_word, report_word}
use Rattle.wire_values.specs.declared.report.ReportKind.{ReportKind}
use Rattle.wire_values.specs.declared.report.ReportKind.TheVariants as reports

pub no_category : (word : List ℕ) → word ≢ codes "public" → word ≢ codes "building" → word ≢ codes "military" → word ≢ codes "federal"
    → word ≢ codes "dod" → word ≢ codes "procedure" → word ≢ codes "private" → (category : Category) → word ≢ category_word category
no_category word p b m f d r o PublicUse = p
no_category word p b m f d r o PublicBuilding = b
no_category word p b m f d r o MilitaryBuilding = m
no_category word p b m f d r o Federal = f
no_category word p b m f d r o Dod = d
no_category word p b m f d r o Procedure = r
no_category word p b m f d r o OtherPrivate = o

pub no_approach : (word : List ℕ) → word ≢ codes "V" → word ≢ codes "NA" → word ≢ codes "NL" → word ≢ codes "P" → (kind : ApproachKind) → word ≢ approach_word kind
no_approach word v a l p Visual = v
no_approach word v a l p NonprecisionAbove = a
no_approach word v a l p NonprecisionLow = l
no_approach word v a l p Precision = p

pub no_kind : (word : List ℕ) → word ≢ codes "object" → word ≢ codes "antenna" → word ≢ codes "interstate" → word ≢ codes "road"
    → word ≢ codes "private" → word ≢ codes "rail" → word ≢ codes "water" → (kind : StructureKind) → word ≢ kind_word kind
no_kind word o a i r p l w kinds.Object = o
no_kind word o a i r p l w kinds.Antenna = a
no_kind word o a i r p l w kinds.Interstate = i
no_kind word o a i r p l w kinds.Road = r
no_kind word o a i r p l w kinds.Private = p
no_kind word o a i r p l w kinds.Rail = l
no_kind word o a i r p l w kinds.Water = w

pub no_impact : (word : List ℕ) → word ≢ codes "none" → word ≢ codes "substantial" → (impact : Impact) → word ≢ impact_word (Some impact)
no_impact word n s impacts.NotSubstantial = n
no_impact word n s impacts.Substantial = s

pub no_meaning : (word : List ℕ) → word ≢ codes "-" → ((impact : Impact) → word ≢ impact_word (Some impact)) → (impact : Option Impact) → word ≢ impact_word impact
no_meaning word d n None = d
no_meaning word d n (Some impact) = n impact

pub no_party : (word : List ℕ) → word ≢ codes "sponsor" → word ≢ codes "commenter" → word ≢ codes "latecomment" → (party : Party) → word ≢ party_word party
no_party word s c l parties.Sponsor = s
no_party word s c l parties.Commenter = c
no_party word s c l parties.LateComment = l

pub no_report : (word : List ℕ) → word ≢ codes "review" → word ≢ codes "expiry" → word ≢ codes "airfields" → (report : ReportKind) → word ≢ report_word report
no_report word r e a reports.Review = r
no_report word r e a reports.Expiry = e
no_report word r e a reports.Airfields = a
