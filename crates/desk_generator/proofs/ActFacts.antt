-- Each act of the rule has a record.
use Rattle.std.proofs.Common.{arith, ◌≡◌, ◌≤◌, ◌≤ℤ◌, ℕ, ℤ, pos, neg_ℤ, List, [], ◌∷◌, Option, Some, None, true, false, refl, sym, subst, ◌^◌, ◌<◌, codes}
use Rattle.std.specs.Fmt.{decimal, signed_decimal}
use Rattle.std.proofs.lemmas.Int.{ints}
use Rattle.grid_exact.specs.declared.point.Point.{Point}
use Rattle.grid_exact.specs.declared.point.TheConstants.{COORDINATE_LIMIT}
use Rattle.runway_classes.specs.declared.ApproachKind.{ApproachKind}
use Rattle.airfields.specs.Names.{IsFieldId, IsRunwayName}
use Rattle.airfields.specs.declared.category.Category.TheVariants.{PublicUse}
use Rattle.airfields.specs.declared.runway.Runway.{Runway}
use Rattle.airfields.specs.declared.runway.RunwayEnd.{RunwayEnd}
use Rattle.airfields.specs.Sites.{Site, IsSite}
use Rattle.airport_register.specs.declared.amendment.Amendment.TheVariants.{PutAirport, PutRunway}
use Rattle.case_requests.specs.declared.act.Act.{Act}
use Rattle.case_requests.specs.declared.act.Act.TheVariants as acts
use Rattle.case_requests.specs.declared.act.Impact.{Impact}
use Rattle.whole_number.specs.Whole.{HasNineDigits}
use Rattle.wire_values.specs.Words.{IsWord, IsAirfieldName, kind_word}
use Rattle.wire_values.specs.Wanted.{Fits, any_number, mobile_limit}
use Rattle.wire_values.specs.declared.counts.TheConstants.{CASE_LIMIT}
use Rattle.wire_values.proofs.LimitFacts.{limit_of_kind}
use Rattle.wire_cursor.specs.Shape.{HasShape}
use Rattle.wire_cursor.specs.Groups.{coordinate, end_shape, end_fields, site_shape, site_fields}
use Rattle.desk_generator.specs.declared.drawing.DrawnAirport.{DrawnAirport}
use Rattle.desk_generator.specs.Requests.{HasRecord, IsToldAirport, opening_day, start_day, put_airport, put_runway, put_visual, notice}
use Rattle.wire_requests.specs.Limits.{IsChangeRecord}
use Rattle.desk_generator.proofs.DayFacts.{opening_limited, start_limited}
use Rattle.desk_generator.proofs.NameFacts.{is_caller, is_key}

x_fits : (p : Point) (before : List ℕ) → Fits coordinate before (signed_decimal p.x)
x_fits p before = (p.x, refl, (p.on_grid.west, p.on_grid.east))

y_fits : (p : Point) (before : List ℕ) → Fits coordinate before (signed_decimal p.y)
y_fits p before = (p.y, refl, (p.on_grid.south, p.on_grid.north))

number_fits : (z : ℤ) (before : List ℕ) → HasNineDigits z → Fits any_number before (signed_decimal z)
number_fits z before h = (z, refl, (h.0, h.1))

pub day_told : HasRecord (acts.Day opening_day)
day_told = record { valid = opening_limited; shape = λ before. ((opening_day, refl, opening_limited), tt) }

pub airport_told : (a : DrawnAirport) → IsToldAirport a → HasRecord (put_airport a)
airport_told a h =
    record {
      valid = h.elevation;
      shape = λ before. (h.id, ((PublicUse, refl), (x_fits a.at [], (y_fits a.at [], (number_fits a.elevation [] h.elevation, tt)))));
    }

-- the record of a runway
any_runway : (id : List ℕ) (r : Runway) → IsFieldId id → IsRunwayName r.name → HasNineDigits r.end1.z → HasNineDigits r.end2.z → HasRecord (acts.Amend (PutRunway id r))
any_runway id r i n z1 z2 =
    record {
      valid = (z1, z2);
      shape = λ before. (
        i,
        (
          n,
          (
            (r.utility, refl),
            (
              (r.hard, refl),
              (
                x_fits r.end1.at [],
                (
                  y_fits r.end1.at [],
                  (
                    number_fits r.end1.z [] z1,
                    (
                      (r.end1.kind, r.end1.planned, refl),
                      (x_fits r.end2.at [], (y_fits r.end2.at [], (number_fits r.end2.z [] z2, ((r.end2.kind, r.end2.planned, refl), tt)))),
                    ),
                  ),
                ),
              ),
            ),
          ),
        ),
      );
    }

pub runway_told : (a : DrawnAirport) → IsToldAirport a → HasRecord (put_runway a)
runway_told a h = any_runway a.id a.runway h.id h.name h.end1 h.end2

pub visual_told : (a : DrawnAirport) → IsToldAirport a → HasRecord (put_visual a)
visual_told a h = any_runway a.id _ h.id h.name h.end1 h.end2

site_told : (site : Site) (before : List ℕ) → IsSite site → IsAirfieldName site.on → HasShape site_shape before (site_fields site)
site_told site before h n =
    let most : site.mobile ≤ℤ mobile_limit (kind_word site.kind) = subst (λ m. site.mobile ≤ℤ m) (sym (limit_of_kind site.kind)) h.mobile_most in (
      x_fits site.at [],
      (
        y_fits site.at [],
        (
          (site.terrain, refl, (h.terrain_least, h.terrain_most)),
          (
            (site.height, refl, (h.height_least, h.height_most)),
            ((site.kind, refl), ((site.mobile, refl, (h.mobile_least, most)), ((site.flags, refl), ((site.on, refl, n), tt)))),
          ),
        ),
      ),
    )

pub notice_told : (site : Site) → IsSite site → IsAirfieldName site.on → HasRecord (notice site)
notice_told site h n =
    record {
      valid = record { start = start_limited; permit = tt; fcc = tt; filing = (h, n) };
      shape = λ before. ((start_day, refl, start_limited), ((None, refl, tt), ((None, refl, tt), ((false, refl), ((false, refl), site_told site [] h n)))));
    }

pub determination_told : (case : ℕ) (finding : Option Impact) → 1 ≤ case → case ≤ CASE_LIMIT → HasRecord (acts.Determine case finding)
determination_told case finding l m = record { valid = (l, m); shape = λ before. ((case, refl, l, m), ((finding, refl), tt)) }

-- a request of the rule has a record
pub change_record : (caller key : List ℕ) (number : ℕ) (act : Act) → caller ≡ codes "g" → key ≡ decimal number → number < 2 ^ 32 → HasRecord act
    → IsChangeRecord (record { caller = caller; key = key; act = act })
change_record caller key number act e f small h =
    let w = subst IsWord (sym e) is_caller in
    let k = subst IsWord (sym f) (is_key number small) in
    record { valid = h.valid; shape = (refl, (w, (k, h.shape key))) }
