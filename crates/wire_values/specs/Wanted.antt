-- The kinds of fields that records have.
use Rattle.std.specs.Prelude.{ℕ, ◌≡◌, ◌≤◌, ℤ, pos, neg_ℤ, List, Bool, ◌||◌, Option, is_some, codes, if◌then◌else◌}
use Rattle.std.specs.Fmt.{decimal, signed_decimal}
use Rattle.std.specs.Str.{bytes_eq}
use Rattle.whole_number.specs.declared.whole.TheConstants.{NUMBER_LIMIT}
use Rattle.runway_classes.specs.declared.ApproachKind.{ApproachKind}
use Rattle.airfields.specs.Names.{IsFieldId, IsRunwayName}
use Rattle.airfields.specs.declared.category.Category.{Category}
use Rattle.airfields.specs.declared.filing.TheConstants.{MOBILE_LIMIT}
use Rattle.airfields.specs.declared.structure.StructureKind.{StructureKind}
use Rattle.airfields.specs.declared.structure.Flags.{Flags}
use Rattle.jiff_core.specs.declared.civil.date.Date.{Date}
use Rattle.determination_dates.specs.Days.{IsLimited}
use Rattle.determination_dates.specs.Text.{date_text}
use Rattle.determination_dates.specs.declared.determination.TheConstants.{EXTENSION_MONTHS}
use Rattle.case_requests.specs.declared.act.Impact.{Impact}
use Rattle.case_requests.specs.declared.act.Party.{Party}
use Rattle.wire_values.specs.Words.{IsWord, category_word, approaches_text, kind_word, flags_text, name_text, IsAirfieldName, IsBetween, impact_word, party_word, optional_date, IsAnyLimited, report_word}
use Rattle.wire_values.specs.declared.counts.TheConstants.{CASE_LIMIT}
use Rattle.wire_values.specs.declared.report.ReportKind.{ReportKind}

-- the kind of a field
pub data Wanted : Type 0 where
  -- this word only
  Spelled : (word : List ℕ) → Wanted
  -- a whole number within these limits
  Between : (low high : ℤ) → Wanted
  -- a count within these limits
  Counted : (low high : ℕ) → Wanted
  -- one of the two words of a yes-or-no value
  Choice : (word : Bool → List ℕ) → Wanted
  -- the name of an airfield
  FieldIdWanted : Wanted
  -- a runway name
  RunwayNameWanted : Wanted
  -- a caller's name or a key
  WordWanted : Wanted
  -- a category of airfields
  CategoryWanted : Wanted
  -- the kind of approach of a runway end, and the planned one, where one is
  ApproachesWanted : Wanted
  -- the kind of a structure
  KindWanted : Wanted
  -- the height of the highest mobile object, by the structure's kind in the field before
  MobileWanted : Wanted
  -- the flags of a notice
  FlagsWanted : Wanted
  -- the name of the airfield that a structure is on, or a dash
  AirfieldWanted : Wanted
  -- a date within the limit
  DateWanted : Wanted
  -- a date within the limit, or a dash
  OptionalDateWanted : Wanted
  -- a completion date where the field before says that a permit is granted, else a dash
  CompletionWanted : Wanted
  -- the finding where a standard is exceeded, or a dash
  ImpactWanted : Wanted
  -- the kind of petitioner
  PartyWanted : Wanted
  -- the name of a report
  ReportWanted : Wanted

-- any whole number of at most nine digits
abbrev pub any_number : Wanted
any_number = Between (neg_ℤ NUMBER_LIMIT) NUMBER_LIMIT

-- a case number
abbrev pub case_wanted : Wanted
case_wanted = Counted 1 CASE_LIMIT

-- the months of an extension (77.35)
abbrev pub months_wanted : Wanted
months_wanted = Counted 1 EXTENSION_MONTHS

-- the greatest height of a mobile object, in tenths of a foot, by the structure's kind: only private roads and waterways
-- give one (77.9(c))
abbrev pub mobile_limit : List ℕ → ℤ
mobile_limit kind = if bytes_eq kind (codes "private") || bytes_eq kind (codes "water") then MOBILE_LIMIT else pos 0

-- whether the field says that a permit is granted
abbrev pub is_granted : List ℕ → Bool
is_granted grant = bytes_eq grant (codes "granted")

-- there is such a value, and the bytes are its spelling; before is the field before them
abbrev pub Fits : Wanted → List ℕ → List ℕ → Type 0
Fits (Spelled word) before field = field ≡ word
Fits (Between low high) before field = (z : ℤ) × (field ≡ signed_decimal z) × IsBetween low high z
Fits (Counted low high) before field = (n : ℕ) × (field ≡ decimal n) × (low ≤ n) × (n ≤ high)
Fits (Choice word) before field = (holds : Bool) × (field ≡ word holds)
Fits FieldIdWanted before field = IsFieldId field
Fits RunwayNameWanted before field = IsRunwayName field
Fits WordWanted before field = IsWord field
Fits CategoryWanted before field = (category : Category) × (field ≡ category_word category)
Fits ApproachesWanted before field = (kind : ApproachKind) × (planned : Option ApproachKind) × (field ≡ approaches_text kind planned)
Fits KindWanted before field = (kind : StructureKind) × (field ≡ kind_word kind)
Fits MobileWanted before field = (z : ℤ) × (field ≡ signed_decimal z) × IsBetween (pos 0) (mobile_limit before) z
Fits FlagsWanted before field = (flags : Flags) × (field ≡ flags_text flags)
Fits AirfieldWanted before field = (on : Option (List ℕ)) × (field ≡ name_text on) × IsAirfieldName on
Fits DateWanted before field = (date : Date) × (field ≡ date_text date) × IsLimited date
Fits OptionalDateWanted before field = (date : Option Date) × (field ≡ optional_date date) × IsAnyLimited date
Fits CompletionWanted before field = (date : Option Date) × (field ≡ optional_date date) × IsAnyLimited date × (is_some date ≡ is_granted before)
Fits ImpactWanted before field = (impact : Option Impact) × (field ≡ impact_word impact)
Fits PartyWanted before field = (party : Party) × (field ≡ party_word party)
Fits ReportWanted before field = (report : ReportKind) × (field ≡ report_word report)
