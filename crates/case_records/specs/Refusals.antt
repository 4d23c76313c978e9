-- The refusals of amendments as refusals of requests.
use Rattle.airport_register.specs.declared.amendment.AmendRefusal.{AmendRefusal}
use Rattle.airport_register.specs.declared.amendment.AmendRefusal.TheVariants as amend_refusals
use Rattle.case_records.specs.declared.refusal.Refusal.{Refusal}
use Rattle.case_records.specs.declared.refusal.Refusal.TheVariants as refusals

-- the refusal for a refused amendment
abbrev pub refused_amendment : AmendRefusal → Refusal
refused_amendment amend_refusals.PrecisionOnUtility = refusals.PrecisionOnUtility
refused_amendment amend_refusals.UnknownAirfield = refusals.UnknownAirfield
refused_amendment amend_refusals.UnknownRunway = refusals.UnknownRunway
refused_amendment amend_refusals.RunwayLength = refusals.RunwayLength
refused_amendment amend_refusals.RunwayFar = refusals.RunwayFar
refused_amendment amend_refusals.TooManyRunways = refusals.TooManyRunways
refused_amendment amend_refusals.RegisterFull = refusals.RegisterFull
refused_amendment amend_refusals.ElevationRange = refusals.ElevationRange
refused_amendment amend_refusals.HeliportShape = refusals.HeliportShape
refused_amendment amend_refusals.WrongKind = refusals.WrongKind
refused_amendment amend_refusals.NoMemory = refusals.NoMemory
