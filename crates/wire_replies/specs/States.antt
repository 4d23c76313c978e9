-- Statuses, dates, and the dash for what is not there.
use Rattle.std.specs.Prelude.{ℕ, List, Option, Some, None, codes}
use Rattle.jiff_core.specs.declared.civil.date.Date.{Date}
use Rattle.determination_dates.specs.Text.{date_text}
use Rattle.determination_dates.specs.declared.life.Status.{Status}
use Rattle.determination_dates.specs.declared.life.Status.TheVariants as statuses

abbrev pub status_word : Status → List ℕ
status_word statuses.Awaiting = codes "awaiting"
status_word statuses.Pending = codes "pending"
status_word statuses.InForce = codes "inforce"
status_word statuses.HazardStands = codes "hazard"
status_word statuses.Expired = codes "expired"
status_word statuses.Abandoned = codes "abandoned"
status_word statuses.Reversed = codes "reversed"

-- a date as `YYYY-MM-DD`
unfoldable pub date_word : Date → List ℕ
date_word d = date_text d

-- a date, or a dash for none
abbrev pub day_text : Option Date → List ℕ
day_text None = codes "-"
day_text (Some day) = date_word day
