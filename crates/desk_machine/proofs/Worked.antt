-- Sessions that were worked by hand, answered by the definitions.
use Rattle.std.proofs.Common.{◌≡◌, refl, arith, ℕ, zero, suc, List, [], ◌∷◌, length, Bool, true, false, Option, Some, None, ℤ, pos, neg_ℤ, codes}
use Rattle.jiff_core.specs.declared.civil.date.Date.{Date}
use Rattle.jiff_core.specs.Calendar.{days_from_civil, day_count, days_of_years, days_of_months, weekday_number}
use Rattle.determination_dates.specs.Dates.{date_on}
use Rattle.jiff_core.specs.Date.{epoch_day}
use Rattle.jiff_core.proofs.SignedLemmas.{signed_arith}
use Rattle.grid_exact.specs.declared.point.Point.{Point}
use Rattle.airfields.specs.Sites.{Site}
use Rattle.airfields.specs.declared.structure.StructureKind.TheVariants as kinds
use Rattle.determination_dates.specs.declared.timely.Timeliness.TheVariants.{Timely, Late, Emergency}
use Rattle.case_requests.specs.declared.act.Act.{Act}
use Rattle.case_requests.specs.declared.act.Act.TheVariants as acts
use Rattle.wire_requests.specs.Changes.{Asked}
use Rattle.std.specs.Option.{option_map}
use Rattle.case_requests.specs.declared.act.Impact.TheVariants.{Substantial, NotSubstantial}
use Rattle.case_requests.specs.declared.act.Party.TheVariants.{Sponsor, Commenter}
use Rattle.determination_dates.specs.declared.timely.Timeliness.{Timeliness}
use Rattle.case_records.specs.declared.outcome.Outcome.{Outcome}
use Rattle.case_records.specs.declared.outcome.Outcome.TheVariants as outcomes
use Rattle.case_records.specs.declared.refusal.Refusal.{Refusal}
use Rattle.case_records.specs.declared.refusal.Refusal.TheVariants as refusals
use Rattle.desk_machine.specs.States.{State, empty, last_number}
use Rattle.desk_machine.specs.Machine.{Answer, Kept, No, Done, decide, state_after}

-- ---- the dates of these sessions

d2026_01_10 : Date
d2026_01_10 = record { year = pos 2026; month = 1; day = 10; year_in = (omega (arith, signed_arith), omega (arith, signed_arith)); month_in = (omega arith, omega arith); day_in = (omega arith, omega arith) }

d2026_01_15 : Date
d2026_01_15 = record { year = pos 2026; month = 1; day = 15; year_in = (omega (arith, signed_arith), omega (arith, signed_arith)); month_in = (omega arith, omega arith); day_in = (omega arith, omega arith) }

d2026_01_20 : Date
d2026_01_20 = record { year = pos 2026; month = 1; day = 20; year_in = (omega (arith, signed_arith), omega (arith, signed_arith)); month_in = (omega arith, omega arith); day_in = (omega arith, omega arith) }

d2026_01_21 : Date
d2026_01_21 = record { year = pos 2026; month = 1; day = 21; year_in = (omega (arith, signed_arith), omega (arith, signed_arith)); month_in = (omega arith, omega arith); day_in = (omega arith, omega arith) }

d2026_02_16 : Date
d2026_02_16 = record { year = pos 2026; month = 2; day = 16; year_in = (omega (arith, signed_arith), omega (arith, signed_arith)); month_in = (omega arith, omega arith); day_in = (omega arith, omega arith) }

d2026_02_20 : Date
d2026_02_20 = record { year = pos 2026; month = 2; day = 20; year_in = (omega (arith, signed_arith), omega (arith, signed_arith)); month_in = (omega arith, omega arith); day_in = (omega arith, omega arith) }

d2026_02_28 : Date
d2026_02_28 = record { year = pos 2026; month = 2; day = 28; year_in = (omega (arith, signed_arith), omega (arith, signed_arith)); month_in = (omega arith, omega arith); day_in = (omega arith, omega arith) }

d2026_03_01 : Date
d2026_03_01 = record { year = pos 2026; month = 3; day = 1; year_in = (omega (arith, signed_arith), omega (arith, signed_arith)); month_in = (omega arith, omega arith); day_in = (omega arith, omega arith) }

d2026_07_15 : Date
d2026_07_15 = record { year = pos 2026; month = 7; day = 15; year_in = (omega (arith, signed_arith), omega (arith, signed_arith)); month_in = (omega arith, omega arith); day_in = (omega arith, omega arith) }

d2026_07_16 : Date
d2026_07_16 = record { year = pos 2026; month = 7; day = 16; year_in = (omega (arith, signed_arith), omega (arith, signed_arith)); month_in = (omega arith, omega arith); day_in = (omega arith, omega arith) }

d2026_08_01 : Date
d2026_08_01 = record { year = pos 2026; month = 8; day = 1; year_in = (omega (arith, signed_arith), omega (arith, signed_arith)); month_in = (omega arith, omega arith); day_in = (omega arith, omega arith) }

d2026_08_31 : Date
d2026_08_31 = record { year = pos 2026; month = 8; day = 31; year_in = (omega (arith, signed_arith), omega (arith, signed_arith)); month_in = (omega arith, omega arith); day_in = (omega arith, omega arith) }

d2026_12_01 : Date
d2026_12_01 = record { year = pos 2026; month = 12; day = 1; year_in = (omega (arith, signed_arith), omega (arith, signed_arith)); month_in = (omega arith, omega arith); day_in = (omega arith, omega arith) }

d2027_08_08 : Date
d2027_08_08 = record { year = pos 2027; month = 8; day = 8; year_in = (omega (arith, signed_arith), omega (arith, signed_arith)); month_in = (omega arith, omega arith); day_in = (omega arith, omega arith) }

d2027_08_09 : Date
d2027_08_09 = record { year = pos 2027; month = 8; day = 9; year_in = (omega (arith, signed_arith), omega (arith, signed_arith)); month_in = (omega arith, omega arith); day_in = (omega arith, omega arith) }

d2028_06_30 : Date
d2028_06_30 = record { year = pos 2028; month = 6; day = 30; year_in = (omega (arith, signed_arith), omega (arith, signed_arith)); month_in = (omega arith, omega arith); day_in = (omega arith, omega arith) }

d2029_02_10 : Date
d2029_02_10 = record { year = pos 2029; month = 2; day = 10; year_in = (omega (arith, signed_arith), omega (arith, signed_arith)); month_in = (omega arith, omega arith); day_in = (omega arith, omega arith) }

d2029_02_25 : Date
d2029_02_25 = record { year = pos 2029; month = 2; day = 25; year_in = (omega (arith, signed_arith), omega (arith, signed_arith)); month_in = (omega arith, omega arith); day_in = (omega arith, omega arith) }

-- ---- what is asked and told

-- what an answer tells
data Told : Type 0 where
  Ok : Outcome → Told
  Again : ℕ → Told
  Refused : Refusal → Told

abbrev told : Answer → Told
told (Kept e) = Again e.number
told (No why) = Refused why
told (Done e step) = Ok e.outcome

abbrev asked : State → Asked → Answer
asked s q = decide s (last_number s) q None

abbrev after_all : State → List Asked → State
after_all s [] = s
after_all s (q ∷ qs) = after_all (state_after s (asked s q)) qs

abbrev change : ℕ → Act → Asked
change key act = record { caller = codes "u"; key = key ∷ []; act = act }

abbrev mast : Point → ℤ → Site
mast at height =
    record {
      at = at;
      terrain = pos 1000;
      height = height;
      kind = kinds.Object;
      mobile = pos 0;
      flags = record { shielded = false; device = false; other_rule = false; increases = false; controlled = false; temporary = false };
      on = None;
    }

abbrev notice : Point → Date → Act
notice at start = acts.File (record { start = start; permit = None; fcc = None; emergency = false; statement = false; filing = mast at (pos 2001) })

at_first : (at : Point) → told (asked (after_all empty []) (change 49 (notice at d2026_03_01))) ≡ Refused refusals.NoDay
at_first at = refl

in_time : (at : Point) → told (asked (after_all empty (change 49 (acts.Day d2026_01_15) ∷ [])) (change 50 (notice at d2026_03_01))) ≡ Ok (outcomes.Filed 1 Timely None None)
unfolding d2026_01_15 d2026_03_01 days_from_civil day_count days_of_years days_of_months
in_time at = refl

late : (at : Point) → told (asked (after_all empty (change 49 (acts.Day d2026_01_15) ∷ change 50 (notice at d2026_03_01) ∷ [])) (change 51 (notice at d2026_02_28))) ≡ Ok (outcomes.Filed 2 (Late 1) None None)
unfolding d2026_01_15 d2026_02_28 d2026_03_01 days_from_civil day_count days_of_years days_of_months
late at = refl

abbrev one_filed : Point → List Asked
one_filed at = change 49 (acts.Day d2026_08_31) ∷ change 50 (notice at d2026_12_01) ∷ []

unwanted : (at : Point) → told (asked (after_all empty (one_filed at)) (change 51 (acts.Determine 1 (Some NotSubstantial)))) ≡ Refused refusals.FindingUnwanted
unfolding d2026_08_31 d2026_12_01 days_from_civil day_count days_of_years days_of_months date_on weekday_number
unwanted at = refl

-- what an answer tells, in numbers: 1 to 10 for what is accepted and the number of a refusal, then numbers and days
abbrev dated : Option Date → ℤ
dated None = pos 0
dated (Some d) = epoch_day d

abbrev lateness : Timeliness → ℤ
lateness Timely = pos 0
lateness (Late n) = pos n
lateness (Emergency due) = epoch_day due

abbrev heard : Told → List ℤ
heard (Again n) = pos 99 ∷ pos n ∷ []
heard (Ok (outcomes.Plain plain)) = pos 1 ∷ []
heard (Ok (outcomes.Filed number t fcc explained)) = pos 2 ∷ pos number ∷ lateness t ∷ []
heard (Ok (outcomes.FormCame number n)) = pos 3 ∷ pos number ∷ pos n ∷ []
heard (Ok (outcomes.Determined number decision last issued deadline effective expiry list)) = pos 4 ∷ pos last ∷ epoch_day issued ∷ dated deadline ∷ dated effective ∷ dated expiry ∷ pos (length list) ∷ []
heard (Ok (outcomes.Revised number decision last issued deadline effective expiry list)) = pos 10 ∷ pos last ∷ epoch_day issued ∷ dated deadline ∷ dated effective ∷ dated expiry ∷ pos (length list) ∷ []
heard (Ok (outcomes.Petitioned number)) = pos 5 ∷ []
heard (Ok (outcomes.Disposed number affirmed effective expiry)) = pos 6 ∷ dated effective ∷ dated expiry ∷ []
heard (Ok (outcomes.Extended number expiry last_day)) = pos 7 ∷ epoch_day expiry ∷ epoch_day last_day ∷ []
heard (Ok (outcomes.Fcc number expiry)) = pos 8 ∷ epoch_day expiry ∷ []
heard (Ok (outcomes.Abandoned number)) = pos 9 ∷ []
heard (Refused refusals.PrecisionOnUtility) = pos 2 ∷ []
heard (Refused refusals.UnknownAirfield) = pos 3 ∷ []
heard (Refused refusals.UnknownRunway) = pos 4 ∷ []
heard (Refused refusals.RunwayLength) = pos 5 ∷ []
heard (Refused refusals.RunwayFar) = pos 6 ∷ []
heard (Refused refusals.TooManyRunways) = pos 7 ∷ []
heard (Refused refusals.RegisterFull) = pos 8 ∷ []
heard (Refused refusals.ElevationRange) = pos 9 ∷ []
heard (Refused refusals.HeliportShape) = pos 10 ∷ []
heard (Refused refusals.WrongKind) = pos 11 ∷ []
heard (Refused refusals.DateRange) = pos 12 ∷ []
heard (Refused (refusals.Malformed field)) = pos 13 ∷ []
heard (Refused refusals.UnknownCase) = pos 14 ∷ []
heard (Refused refusals.CasesFull) = pos 15 ∷ []
heard (Refused (refusals.DayBack kept day)) = pos 16 ∷ epoch_day kept ∷ epoch_day day ∷ []
heard (Refused (refusals.NotStanding status)) = pos 17 ∷ []
heard (Refused refusals.FindingWanted) = pos 18 ∷ []
heard (Refused refusals.FindingUnwanted) = pos 19 ∷ []
heard (Refused refusals.NotReviewable) = pos 20 ∷ []
heard (Refused (refusals.PetitionLate deadline day)) = pos 21 ∷ epoch_day deadline ∷ epoch_day day ∷ []
heard (Refused refusals.PetitionPending) = pos 22 ∷ []
heard (Refused refusals.NothingPending) = pos 23 ∷ []
heard (Refused (refusals.ExtensionLate last_day day)) = pos 24 ∷ epoch_day last_day ∷ epoch_day day ∷ []
heard (Refused refusals.WorkStarted) = pos 25 ∷ []
heard (Refused refusals.AlreadyExtended) = pos 26 ∷ []
heard (Refused refusals.FccEvidence) = pos 27 ∷ []
heard (Refused (refusals.KeyReused n)) = pos 28 ∷ pos n ∷ []
heard (Refused refusals.NoDay) = pos 29 ∷ []
heard (Refused refusals.KeeperFault) = pos 30 ∷ []
heard (Refused refusals.NoMemory) = pos 31 ∷ []
heard (Refused refusals.NoFormDue) = pos 32 ∷ []
heard (Refused refusals.SameFacts) = pos 33 ∷ []
heard (Refused refusals.TooManyRevisions) = pos 34 ∷ []

abbrev session : State → List Asked → List (List ℤ)
session s [] = []
session s (q ∷ qs) = heard (told (asked s q)) ∷ session (state_after s (asked s q)) qs

abbrev filing : Point → Date → Option Date → Bool → ℤ → Act
filing at start fcc emergency height = acts.File (record { start = start; permit = None; fcc = fcc; emergency = emergency; statement = false; filing = mast at height })

determined : (at : Point) → session empty
    (change 50 (acts.Day d2026_08_31)
    ∷ change 51 (notice at d2026_12_01)
    ∷ change 52 (acts.Determine 1 (Some NotSubstantial))
    ∷ change 52 (acts.Determine 1 None)
    ∷ change 53 (acts.Petition 1 Sponsor) ∷ [])
    ≡ (pos 1 ∷ []) ∷ (pos 2 ∷ pos 1 ∷ pos 0 ∷ []) ∷ (pos 19 ∷ []) ∷ (pos 4 ∷ pos 2 ∷ pos 20696 ∷ pos 0 ∷ pos 20696 ∷ pos 21243 ∷ pos 1 ∷ []) ∷ (pos 20 ∷ []) ∷ []
unfolding d2026_08_31 d2026_12_01 days_from_civil day_count days_of_years days_of_months date_on weekday_number
determined at = refl

emergency : (at : Point) → session empty
    (change 50 (acts.Day d2026_01_15)
    ∷ change 51 (filing at d2026_01_15 None true (pos 20001))
    ∷ change 52 (acts.Day d2026_01_21)
    ∷ change 53 (acts.Form 1)
    ∷ change 54 (acts.Form 1)
    ∷ change 53 (acts.Form 1)
    ∷ change 53 (acts.Form 2) ∷ [])
    ≡ (pos 1 ∷ []) ∷ (pos 2 ∷ pos 1 ∷ pos 20473 ∷ []) ∷ (pos 1 ∷ []) ∷ (pos 3 ∷ pos 1 ∷ pos 1 ∷ []) ∷ (pos 32 ∷ []) ∷ (pos 99 ∷ pos 4 ∷ []) ∷ (pos 28 ∷ pos 4 ∷ []) ∷ []
unfolding d2026_01_15 d2026_01_21 days_from_civil day_count days_of_years days_of_months date_on weekday_number
emergency at = refl

by_fcc : (at : Point) → session empty
    (change 50 (acts.Day d2026_01_15)
    ∷ change 51 (filing at d2026_03_01 (Some d2026_01_10) false (pos 2001))
    ∷ change 52 (acts.Determine 1 None)
    ∷ change 53 (acts.Day d2026_08_01)
    ∷ change 54 (acts.Extend 1 6 false (Some d2026_07_16) true)
    ∷ change 54 (acts.Extend 1 6 false (Some d2026_07_15) true)
    ∷ change 55 (acts.Fcc 1 (Some d2028_06_30))
    ∷ change 56 (acts.Fcc 1 None) ∷ [])
    ≡ (pos 1 ∷ []) ∷ (pos 2 ∷ pos 1 ∷ pos 0 ∷ []) ∷ (pos 4 ∷ pos 2 ∷ pos 20468 ∷ pos 0 ∷ pos 20468 ∷ pos 21014 ∷ pos 1 ∷ []) ∷ (pos 1 ∷ []) ∷ (pos 27 ∷ []) ∷ (pos 7 ∷ pos 21198 ∷ pos 21183 ∷ []) ∷ (pos 8 ∷ pos 21365 ∷ []) ∷ (pos 8 ∷ pos 20666 ∷ []) ∷ []
unfolding d2026_01_10 d2026_01_15 d2026_03_01 d2026_07_15 d2026_07_16 d2026_08_01 d2028_06_30 days_from_civil day_count days_of_years days_of_months date_on weekday_number
by_fcc at = refl

reviewed : (at : Point) → session empty
    (change 50 (acts.Closed d2026_02_16)
    ∷ change 51 (acts.Day d2026_01_15)
    ∷ change 52 (filing at d2026_03_01 None false (pos 4991))
    ∷ change 53 (acts.Determine 1 None)
    ∷ change 53 (acts.Determine 1 (Some NotSubstantial))
    ∷ change 54 (acts.Petition 1 Commenter)
    ∷ change 55 (acts.Petition 1 Sponsor)
    ∷ change 56 (acts.Day d2026_02_20)
    ∷ change 57 (acts.Dispose 1 true)
    ∷ change 58 (acts.Dispose 1 true)
    ∷ change 55 (acts.Petition 1 Sponsor)
    ∷ change 59 (acts.Day d2027_08_09)
    ∷ change 60 (acts.Extend 1 18 true None false)
    ∷ change 61 (acts.Extend 1 18 false None false)
    ∷ change 62 (acts.Extend 1 18 false None false)
    ∷ change 63 (acts.Day d2027_08_08)
    ∷ change 64 (acts.Day d2029_02_10)
    ∷ change 65 (acts.Extend 1 18 false None false)
    ∷ change 66 (acts.Day d2029_02_25)
    ∷ change 65 (acts.Extend 1 18 false None false) ∷ [])
    ≡ (pos 1 ∷ []) ∷ (pos 1 ∷ []) ∷ (pos 2 ∷ pos 1 ∷ pos 0 ∷ []) ∷ (pos 18 ∷ []) ∷ (pos 4 ∷ pos 3 ∷ pos 20468 ∷ pos 20501 ∷ pos 20508 ∷ pos 21054 ∷ pos 2 ∷ []) ∷ (pos 5 ∷ []) ∷ (pos 22 ∷ []) ∷ (pos 1 ∷ []) ∷ (pos 6 ∷ pos 20508 ∷ pos 21054 ∷ []) ∷ (pos 23 ∷ []) ∷ (pos 21 ∷ pos 20501 ∷ pos 20504 ∷ []) ∷ (pos 1 ∷ []) ∷ (pos 25 ∷ []) ∷ (pos 7 ∷ pos 21604 ∷ pos 21589 ∷ []) ∷ (pos 26 ∷ []) ∷ (pos 16 ∷ pos 21039 ∷ pos 21038 ∷ []) ∷ (pos 1 ∷ []) ∷ (pos 24 ∷ pos 21589 ∷ pos 21590 ∷ []) ∷ (pos 1 ∷ []) ∷ (pos 17 ∷ []) ∷ []
unfolding d2026_01_15 d2026_02_16 d2026_02_20 d2026_03_01 d2027_08_08 d2027_08_09 d2029_02_10 d2029_02_25 days_from_civil day_count days_of_years days_of_months date_on weekday_number
reviewed at = refl
