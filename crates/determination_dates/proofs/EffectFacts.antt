-- The effective day of a record whose dates are within the limit.
use Rattle.std.proofs.Common.{◌≡◌, sym, Bool, true, false, Option, Some, None, IfSome, arith, ℤ, int_lt, if◌then◌else◌}
use Rattle.jiff_core.specs.declared.civil.date.Date.{Date}
use Rattle.jiff_core.specs.Date.{epoch_day}
use Rattle.jiff_core.proofs.SignedLemmas.{signed_arith}
use Rattle.determination_dates.specs.declared.determination.Record.{Record}
use Rattle.determination_dates.specs.Days.{IsDay, IsLimited, IsNear}
use Rattle.determination_dates.specs.Effects.{later_of, settlement_date, effective_date, expiry_day, IsKept, IsInRange}

later_limited : (a b : Date) → IsLimited a → IsLimited b → IsLimited (later_of a b)
later_limited a b h k = elim (int_lt (epoch_day a) (epoch_day b)) as (λ t. IsLimited (if t then b else a)) [ true ↦ k | false ↦ h ]

settled_limited : (a : Option Date) (b : Date) → IfSome a IsLimited → IsLimited b → IsLimited (settlement_date a b)
settled_limited None b h k = k
settled_limited (Some a) b h k = later_limited a b h k

effective_limited_at : (p : Bool) (a : Option Date) (b : Date) → IfSome a IsLimited → IsLimited b → IfSome (if p then None else Some (settlement_date a b)) IsLimited
effective_limited_at true a b h k = tt
effective_limited_at false a b h k = settled_limited a b h k

-- it is within the limit too
pub effective_limited : (r : Record) → IsKept r → IfSome (effective_date r) IsLimited
effective_limited r h = effective_limited_at r.pending r.affirmed r.ordinary h.affirmed h.ordinary

-- and so near it
pub near : (d : Date) → IsLimited d → IsNear (epoch_day d)
near d h = omega (arith, signed_arith, h)

pub effective_near : (r : Record) (d : Date) → IsKept r → effective_date r ≡ Some d → IsDay (epoch_day d)
effective_near r d h e = rw e at (effective_limited r h)

-- the days that are computed of a record are within the limit exactly where its expiry is
pub range_some : (r : Record) (z : ℤ) → IsKept r → Some z ≡ expiry_day r → (IsDay z → IsInRange r) × (IsInRange r → IsDay z)
range_some r z h e = (λ d. record { effective = effective_limited r h; expiry = rw (sym e) d }, λ i. rw (sym e) at i.expiry)

pub range_none : (r : Record) → IsKept r → None ≡ expiry_day r → IsInRange r
range_none r h e = record { effective = effective_limited r h; expiry = rw (sym e) tt }
