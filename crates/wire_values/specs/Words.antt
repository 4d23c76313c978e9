-- The words by which records, replies and reports spell values.
use Rattle.std.specs.Prelude.{ℕ, ℤ, ◌≤ℤ◌, List, [], ◌∷◌, ◌++◌, ◌≤◌, ◌≡◌, ◌⊎◌, length, Bool, Option, Some, None, codes, if◌then◌else◌}
use Rattle.std.specs.List.{All}
use Rattle.runway_classes.specs.declared.ApproachKind.{ApproachKind}
use Rattle.runway_classes.specs.declared.ApproachKind.TheVariants as approaches
use Rattle.airfields.specs.declared.category.Category.{Category}
use Rattle.airfields.specs.declared.category.Category.TheVariants as categories
use Rattle.airfields.specs.declared.structure.StructureKind.{StructureKind}
use Rattle.airfields.specs.declared.structure.StructureKind.TheVariants as kinds
use Rattle.airfields.specs.declared.structure.Flags.{Flags}
use Rattle.airfields.specs.Names.{IsFieldId}
use Rattle.jiff_core.specs.declared.civil.date.Date.{Date}
use Rattle.determination_dates.specs.Days.{IsLimited}
use Rattle.determination_dates.specs.Text.{date_text}
use Rattle.determination_dates.specs.declared.determination.Decision.{Decision}
use Rattle.determination_dates.specs.declared.determination.Decision.TheVariants as decisions
use Rattle.case_requests.specs.declared.act.Impact.{Impact}
use Rattle.case_requests.specs.declared.act.Impact.TheVariants as impacts
use Rattle.case_requests.specs.declared.act.Party.{Party}
use Rattle.case_requests.specs.declared.act.Party.TheVariants as parties
use Rattle.wire_values.specs.declared.report.ReportKind.{ReportKind}
use Rattle.wire_values.specs.declared.report.ReportKind.TheVariants as reports
use Rattle.wire_values.specs.declared.word.TheConstants.{WORD_LIMIT}

-- the code of an ASCII letter, of a digit, of a dot or of an underscore
abbrev pub IsWordByte : ℕ → Type 0
IsWordByte b = ((65 ≤ b) × (b ≤ 90)) ⊎ (((97 ≤ b) × (b ≤ 122)) ⊎ (((48 ≤ b) × (b ≤ 57)) ⊎ ((b ≡ 46) ⊎ (b ≡ 95))))

-- a caller's name or a request's key: one or more such bytes, up to a limit
pub record IsWord (word : List ℕ) : Type 0 where
  pub least : 1 ≤ length word
  pub most : length word ≤ WORD_LIMIT
  pub bytes : All IsWordByte word

-- what an airfield is, under 77.9(d)
abbrev pub category_word : Category → List ℕ
category_word categories.PublicUse = codes "public"
category_word categories.PublicBuilding = codes "building"
category_word categories.MilitaryBuilding = codes "military"
category_word categories.Federal = codes "federal"
category_word categories.Dod = codes "dod"
category_word categories.Procedure = codes "procedure"
category_word categories.OtherPrivate = codes "private"

-- the kind of approach of a runway end (77.19)
abbrev pub approach_word : ApproachKind → List ℕ
approach_word approaches.Visual = codes "V"
approach_word approaches.NonprecisionAbove = codes "NA"
approach_word approaches.NonprecisionLow = codes "NL"
approach_word approaches.Precision = codes "P"

-- a stroke and the kind that is planned, where one is
abbrev pub planned_text : Option ApproachKind → List ℕ
planned_text None = []
planned_text (Some planned) = codes "/" ++ approach_word planned

-- the kind of approach of a runway end, and the planned one, where one is
abbrev pub approaches_text : ApproachKind → Option ApproachKind → List ℕ
approaches_text kind planned = approach_word kind ++ planned_text planned

-- whether a runway is a utility runway (77.3)
abbrev pub weight_word : Bool → List ℕ
weight_word utility = if utility then codes "utility" else codes "other"

-- whether a runway has a prepared hard surface (77.19(c))
abbrev pub pavement_word : Bool → List ℕ
pavement_word hard = if hard then codes "hard" else codes "soft"

-- the kind of a structure
abbrev pub kind_word : StructureKind → List ℕ
kind_word kinds.Object = codes "object"
kind_word kinds.Antenna = codes "antenna"
kind_word kinds.Interstate = codes "interstate"
kind_word kinds.Road = codes "road"
kind_word kinds.Private = codes "private"
kind_word kinds.Rail = codes "rail"
kind_word kinds.Water = codes "water"

-- a text, or a dash where it is empty
abbrev pub or_dash : List ℕ → List ℕ
or_dash [] = codes "-"
or_dash (b ∷ bs) = b ∷ bs

-- the letter before the others, where its flag is set
abbrev pub marked_text : Bool → List ℕ → List ℕ → List ℕ
marked_text stands letter others = if stands then letter ++ others else others

-- the letters of the flags that are set, in their order: shielded (77.9(e)(1)), a device (77.9(e)(2)), another regulation's notice
-- (77.9(e)(3)), increases another antenna structure (77.9(e)(4)), ground traffic control (77.17(b)), temporary
abbrev pub flag_letters : Flags → List ℕ
flag_letters f = marked_text f.shielded (codes "S") (marked_text f.device (codes "D") (marked_text f.other_rule (codes "R")
    (marked_text f.increases (codes "I") (marked_text f.controlled (codes "G") (marked_text f.temporary (codes "T") [])))))

abbrev pub flags_text : Flags → List ℕ
flags_text f = or_dash (flag_letters f)

-- a name, or a dash for none
abbrev pub name_text : Option (List ℕ) → List ℕ
name_text None = codes "-"
name_text (Some name) = name

-- no name, or the name of an airfield
abbrev pub IsAirfieldName : Option (List ℕ) → Type 0
IsAirfieldName None = Unit {0}
IsAirfieldName (Some name) = IsFieldId name

-- a whole number within these limits
abbrev pub IsBetween : ℤ → ℤ → ℤ → Type 0
IsBetween low high z = (low ≤ℤ z) × (z ≤ℤ high)

-- ---- values of cases

-- whether a notice is an emergency that requires immediate construction (77.7(e))
abbrev pub urgency_word : Bool → List ℕ
urgency_word emergency = if emergency then codes "emergency" else codes "normal"

-- whether a statement explains a height of more than 2,000 feet (77.7(d))
abbrev pub statement_word : Bool → List ℕ
statement_word explains = if explains then codes "yes" else codes "-"

-- the decision on a petition: the determination is affirmed or reversed (77.41)
abbrev pub disposal_word : Bool → List ℕ
disposal_word affirm = if affirm then codes "affirm" else codes "reverse"

-- whether structural work has started (77.33, 77.35)
abbrev pub progress_word : Bool → List ℕ
progress_word started = if started then codes "started" else codes "unstarted"

-- whether more time is warranted (77.35(c))
abbrev pub warrant_word : Bool → List ℕ
warrant_word warranted = if warranted then codes "yes" else codes "no"

-- whether the FCC grants a construction permit
abbrev pub grant_word : Bool → List ℕ
grant_word granted = if granted then codes "granted" else codes "refused"

-- the finding where a standard is exceeded (77.31), or a dash where none is
abbrev pub impact_word : Option Impact → List ℕ
impact_word None = codes "-"
impact_word (Some impacts.NotSubstantial) = codes "none"
impact_word (Some impacts.Substantial) = codes "substantial"

-- the kind of petitioner (77.37)
abbrev pub party_word : Party → List ℕ
party_word parties.Sponsor = codes "sponsor"
party_word parties.Commenter = codes "commenter"
party_word parties.LateComment = codes "latecomment"

-- a date, or a dash for none
abbrev pub optional_date : Option Date → List ℕ
optional_date None = codes "-"
optional_date (Some date) = date_text date

-- no date, or one within the limit
abbrev pub IsAnyLimited : Option Date → Type 0
IsAnyLimited None = Unit {0}
IsAnyLimited (Some date) = IsLimited date

-- ---- replies and reports

-- the decision of a determination (77.31)
abbrev pub decision_word : Decision → List ℕ
decision_word decisions.NoHazard = codes "nohazard"
decision_word decisions.Hazard = codes "hazard"

-- the name of a report
abbrev pub report_word : ReportKind → List ℕ
report_word reports.Review = codes "review"
report_word reports.Expiry = codes "expiry"
report_word reports.Airfields = codes "airfields"
