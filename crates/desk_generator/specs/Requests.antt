-- The generated requests.
use Rattle.std.specs.Prelude.{◌≡◌, ℕ, List, codes, pos, refl, Some, None, Option, true, false}
use Rattle.std.specs.Fmt.{decimal}
use Rattle.jiff_core.specs.declared.civil.date.Date.{Date}
use Rattle.determination_dates.specs.Dates.{civil_parts}
use Rattle.runway_classes.specs.declared.ApproachKind.TheVariants.{Visual}
use Rattle.airfields.specs.declared.category.Category.TheVariants.{PublicUse}
use Rattle.airfields.specs.declared.runway.Runway.{Runway}
use Rattle.airfields.specs.declared.runway.RunwayEnd.{RunwayEnd}
use Rattle.airfields.specs.Sites.{Site}
use Rattle.airfields.specs.Names.{IsFieldId, IsRunwayName}
use Rattle.airport_register.specs.declared.amendment.Amendment.TheVariants.{PutAirport, PutRunway}
use Rattle.case_requests.specs.declared.act.Act.{Act}
use Rattle.case_requests.specs.declared.act.Act.TheVariants as acts
use Rattle.case_requests.specs.declared.act.Impact.{Impact}
use Rattle.wire_cursor.specs.Shape.{HasShape}
use Rattle.wire_requests.specs.Changes.{Asked}
use Rattle.wire_requests.specs.Forms.{act_shape}
use Rattle.wire_requests.specs.Spellings.{act_form, act_fields}
use Rattle.wire_requests.specs.Limits.{IsValidAct}
use Rattle.whole_number.specs.Whole.{HasNineDigits}
use Rattle.desk_generator.specs.declared.drawing.DrawnAirport.{DrawnAirport}

-- the request of this number: the caller is g, and the keys count from 1
abbrev pub request : ℕ → Act → Asked
request number act = record { caller = codes "g"; key = decimal number; act = act }

-- ---- the days

-- 2026-01-15
unfoldable pub opening_day : Date
opening_day =
    record {
      year = pos 2026;
      month = 1;
      day = 15;
      year_in = (civil_parts (pos 2026) 1 15 refl).0;
      month_in = (civil_parts (pos 2026) 1 15 refl).1;
      day_in = (civil_parts (pos 2026) 1 15 refl).2;
    }

-- 2026-03-01
unfoldable pub start_day : Date
start_day =
    record {
      year = pos 2026;
      month = 3;
      day = 1;
      year_in = (civil_parts (pos 2026) 3 1 refl).0;
      month_in = (civil_parts (pos 2026) 3 1 refl).1;
      day_in = (civil_parts (pos 2026) 3 1 refl).2;
    }

-- ---- the contents

-- an airport, for public use
abbrev pub put_airport : DrawnAirport → Act
put_airport a = acts.Amend (PutAirport a.id PublicUse a.at a.elevation)

-- its runway
abbrev pub put_runway : DrawnAirport → Act
put_runway a = acts.Amend (PutRunway a.id a.runway)

-- the end with a visual approach
abbrev pub visual_end : RunwayEnd → RunwayEnd
visual_end e = record e { kind = Visual }

abbrev pub visual : Runway → Runway
visual r = record r { end1 = visual_end r.end1; end2 = visual_end r.end2 }

abbrev pub put_visual : DrawnAirport → Act
put_visual a = acts.Amend (PutRunway a.id (visual a.runway))

-- a notice of a structure
abbrev pub notice : Site → Act
notice site = acts.File (record { start = start_day; permit = None; fcc = None; emergency = false; statement = false; filing = site })

-- ---- for proofs alone

-- an act that a record can spell
pub record HasRecord (act : Act) : Type 0 where
  pub valid : IsValidAct act
  pub shape : (before : List ℕ) → HasShape (act_shape (act_form act)) before (act_fields act)

-- an airport whose numbers a record can spell
pub record IsToldAirport (a : DrawnAirport) : Type 0 where
  pub elevation : HasNineDigits a.elevation
  pub end1 : HasNineDigits a.runway.end1.z
  pub end2 : HasNineDigits a.runway.end2.z
  pub id : IsFieldId a.id
  pub name : IsRunwayName a.runway.name
