-- Two filings are the same where each of their fields is, in whichever order the fields are compared.
use Rattle.std.specs.Prelude.{◌≡◌, ◌&&◌, Bool, true, false}
use Rattle.std.proofs.Common.{refl}

-- the derived comparison begins with the numbers; then come the point, the kind, the flags and the airfield
pub regrouped : (ground height mobile point kind flags on : Bool) →
    ((((((ground && height) && mobile) && point) && kind) && flags) && on) ≡ (point && (ground && (height && (kind && (mobile && (flags && on))))))
regrouped false height mobile false kind flags on = refl
regrouped false height mobile true kind flags on = refl
regrouped true false mobile false kind flags on = refl
regrouped true false mobile true kind flags on = refl
regrouped true true false false kind flags on = refl
regrouped true true false true false flags on = refl
regrouped true true false true true flags on = refl
regrouped true true true false kind flags on = refl
regrouped true true true true false flags on = refl
regrouped true true true true true flags on = refl

-- the same of a comparison in steps
pub in_steps : (ground height mobile point kind flags on : Bool) {a b c d e f g : Bool} →
    a ≡ ground → b ≡ (a && height) → c ≡ (b && mobile) → d ≡ (c && point) → e ≡ (d && kind) → f ≡ (e && flags) → g ≡ (f && on) →
    g ≡ (point && (ground && (height && (kind && (mobile && (flags && on))))))
in_steps ground height mobile point kind flags on p1 p2 p3 p4 p5 p6 p7 =
    rw p7 (rw p6 (rw p5 (rw p4 (rw p3 (rw p2 (rw p1 (regrouped ground height mobile point kind flags on)))))))
