-- Registers after an airfield is put or taken out, and the airfields that are found in one.
use Rattle.std.proofs.Common.{◌≡◌, ℕ, ◌<◌, ◌≤◌, List, Option, Some, None, length, arith, sym, option_copied, IfSome, Bor}
use Rattle.std.proofs.lemmas.Cmp.{nat_list_cmp_total}
use Rattle.ordered_list.specs.Ordered.{put_by, removed_by}
use Rattle.ordered_list.proofs.Rising.{Rises-put, All-put, Rises-removed, All-removed, found_holds, length-put_room, length-removed}
use Rattle.airfields.specs.Names.{name_cmp}
use Rattle.airfields.specs.Airfields.{id_of, IsHeld}
use Rattle.airfields.specs.declared.airfield.Airfield.{Airfield}
use Rattle.airport_register.specs.Registers.{IsRegister}
use Rattle.airport_register.specs.Amendments.{airfield_at}
use Rattle.airport_register.specs.declared.register.TheConstants.{MOST_AIRFIELDS}

-- with an airfield that may be held, for which there is room
pub register_put : (v : Airfield) (xs ys : List Airfield) → IsRegister xs → IsHeld v → (airfield_at xs (id_of v) ≡ None → length xs < MOST_AIRFIELDS) → ys ≡ put_by name_cmp id_of v xs → IsRegister ys
register_put v xs ys r h room e =
    rw e (record {
      number = length-put_room name_cmp nat_list_cmp_total id_of MOST_AIRFIELDS v xs r.rises r.number room;
      rises = Rises-put name_cmp nat_list_cmp_total id_of v xs r.rises;
      held = All-put name_cmp nat_list_cmp_total id_of IsHeld v xs h r.held;
    })

pub register_removed : (k : List ℕ) (xs ys : List Airfield) → IsRegister xs → ys ≡ removed_by name_cmp id_of k xs → IsRegister ys
register_removed k xs ys r e =
    let n : length (removed_by name_cmp id_of k xs) ≤ length xs = length-removed name_cmp nat_list_cmp_total id_of k xs in
    rw e (record {
      number = omega (arith, r.number);
      rises = Rises-removed name_cmp nat_list_cmp_total id_of k xs r.rises;
      held = All-removed name_cmp nat_list_cmp_total id_of IsHeld k xs r.held;
    })

-- an airfield that is found is as the register holds it
pub found_held : (k : List ℕ) (v : Airfield) (xs : List Airfield) → IsRegister xs → airfield_at xs k ≡ Some v → IsHeld v
found_held k v xs r e = found_holds name_cmp nat_list_cmp_total id_of IsHeld k v xs r.held e

pub found_held_in : (k : List ℕ) (xs : List Airfield) (found : Option (Bor Airfield)) → IsRegister xs → option_copied found ≡ airfield_at xs k → IfSome found (λ v. IsHeld v.now)
found_held_in k xs None r e = tt
found_held_in k xs (Some v) r e = found_held k v.now xs r (sym e)
