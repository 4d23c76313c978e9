-- Refusals: their numbers, their names and their values.
use Rattle.std.specs.Prelude.{ℕ, List, [], ◌∷◌, codes}
use Rattle.std.specs.Fmt.{decimal}
use Rattle.case_records.specs.declared.refusal.Refusal.{Refusal}
use Rattle.case_records.specs.declared.refusal.Refusal.TheVariants as refusals
use Rattle.wire_values.specs.Commas.{with_commas}
use Rattle.wire_replies.specs.States.{status_word, date_word}

abbrev pub refusal_number : Refusal → ℕ
refusal_number refusals.PrecisionOnUtility = 2
refusal_number refusals.UnknownAirfield = 3
refusal_number refusals.UnknownRunway = 4
refusal_number refusals.RunwayLength = 5
refusal_number refusals.RunwayFar = 6
refusal_number refusals.TooManyRunways = 7
refusal_number refusals.RegisterFull = 8
refusal_number refusals.ElevationRange = 9
refusal_number refusals.HeliportShape = 10
refusal_number refusals.WrongKind = 11
refusal_number refusals.DateRange = 12
refusal_number (refusals.Malformed field) = 13
refusal_number refusals.UnknownCase = 14
refusal_number refusals.CasesFull = 15
refusal_number (refusals.DayBack kept day) = 16
refusal_number (refusals.NotStanding status) = 17
refusal_number refusals.FindingWanted = 18
refusal_number refusals.FindingUnwanted = 19
refusal_number refusals.NotReviewable = 20
refusal_number (refusals.PetitionLate deadline day) = 21
refusal_number refusals.PetitionPending = 22
refusal_number refusals.NothingPending = 23
refusal_number (refusals.ExtensionLate last_day day) = 24
refusal_number refusals.WorkStarted = 25
refusal_number refusals.AlreadyExtended = 26
refusal_number refusals.FccEvidence = 27
refusal_number (refusals.KeyReused entry) = 28
refusal_number refusals.NoDay = 29
refusal_number refusals.KeeperFault = 30
refusal_number refusals.NoMemory = 31
refusal_number refusals.NoFormDue = 32
refusal_number refusals.SameFacts = 33
refusal_number refusals.TooManyRevisions = 34

abbrev pub refusal_name : Refusal → List ℕ
refusal_name refusals.PrecisionOnUtility = codes "PrecisionOnUtility"
refusal_name refusals.UnknownAirfield = codes "UnknownAirfield"
refusal_name refusals.UnknownRunway = codes "UnknownRunway"
refusal_name refusals.RunwayLength = codes "RunwayLength"
refusal_name refusals.RunwayFar = codes "RunwayFar"
refusal_name refusals.TooManyRunways = codes "TooManyRunways"
refusal_name refusals.RegisterFull = codes "RegisterFull"
refusal_name refusals.ElevationRange = codes "ElevationRange"
refusal_name refusals.HeliportShape = codes "HeliportShape"
refusal_name refusals.WrongKind = codes "WrongKind"
refusal_name refusals.DateRange = codes "DateRange"
refusal_name (refusals.Malformed field) = codes "Malformed"
refusal_name refusals.UnknownCase = codes "UnknownCase"
refusal_name refusals.CasesFull = codes "CasesFull"
refusal_name (refusals.DayBack kept day) = codes "DayBack"
refusal_name (refusals.NotStanding status) = codes "NotStanding"
refusal_name refusals.FindingWanted = codes "FindingWanted"
refusal_name refusals.FindingUnwanted = codes "FindingUnwanted"
refusal_name refusals.NotReviewable = codes "NotReviewable"
refusal_name (refusals.PetitionLate deadline day) = codes "PetitionLate"
refusal_name refusals.PetitionPending = codes "PetitionPending"
refusal_name refusals.NothingPending = codes "NothingPending"
refusal_name (refusals.ExtensionLate last_day day) = codes "ExtensionLate"
refusal_name refusals.WorkStarted = codes "WorkStarted"
refusal_name refusals.AlreadyExtended = codes "AlreadyExtended"
refusal_name refusals.FccEvidence = codes "FccEvidence"
refusal_name (refusals.KeyReused entry) = codes "KeyReused"
refusal_name refusals.NoDay = codes "NoDay"
refusal_name refusals.KeeperFault = codes "KeeperFault"
refusal_name refusals.NoMemory = codes "NoMemory"
refusal_name refusals.NoFormDue = codes "NoFormDue"
refusal_name refusals.SameFacts = codes "SameFacts"
refusal_name refusals.TooManyRevisions = codes "TooManyRevisions"

-- the values of a refusal, after its name
abbrev pub refusal_fields : Refusal → List (List ℕ)
refusal_fields (refusals.Malformed field) = decimal field ∷ []
refusal_fields (refusals.DayBack kept day) = date_word kept ∷ date_word day ∷ []
refusal_fields (refusals.NotStanding status) = status_word status ∷ []
refusal_fields (refusals.PetitionLate deadline day) = date_word deadline ∷ date_word day ∷ []
refusal_fields (refusals.ExtensionLate last_day day) = date_word last_day ∷ date_word day ∷ []
refusal_fields (refusals.KeyReused entry) = decimal entry ∷ []
refusal_fields _ = []

-- the same, a comma before each
abbrev pub refusal_values : Refusal → List ℕ
refusal_values refusal = with_commas (refusal_fields refusal)
