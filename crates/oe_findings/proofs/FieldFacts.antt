-- Prepared airfields, in the order of their names, as the list of their airfields.
use Rattle.std.proofs.Common.{◌≡◌, ℕ, ◌+◌, List, Some, None, Option, map, take, sym, ap, ◌∙◌}
use Rattle.std.specs.Prelude.{slice_get, IfSome}
use Rattle.std.proofs.lemmas.Cmp.{nat_list_cmp_total}
use Rattle.ordered_list.specs.Ordered.{Rises, put_by, removed_by}
use Rattle.ordered_list.proofs.Mapped.{put-mapped, removed-mapped}
use Rattle.ordered_list.proofs.Rising.{put_by-next}
use Rattle.airfields.specs.Names.{name_cmp}
use Rattle.airfields.specs.Airfields.{id_of, IsHeld}
use Rattle.airfields.specs.declared.airfield.Airfield.{Airfield}
use Rattle.airport_register.specs.Registers.{IsRegister}
use Rattle.airport_register.specs.Amendments.{airfield_at, list_with_replaced}
use Rattle.airport_register.proofs.Fields.{found_held}
use Rattle.airfield_findings.specs.Prepared.{airfield_of}
use Rattle.airfield_findings.specs.declared.prepared.Prepared.{Prepared}
use Rattle.airfield_findings.proofs.ListFacts.{at_place}

-- the airfield at the next place of a register was put
pub put_next : (items new : List Prepared) (p : Prepared) (v : Airfield) (xs : List Airfield) (i : ℕ) → Rises name_cmp id_of xs → slice_get xs i ≡ Some v
    → map airfield_of items ≡ take i xs → airfield_of p ≡ v → new ≡ put_by name_cmp (λ a. id_of (airfield_of a)) p items → map airfield_of new ≡ take (i + 1) xs
put_next items new p v xs i r at before made put =
    let place = at_place xs i v at in
    put-mapped name_cmp id_of airfield_of p v items new made put ∙ ap (put_by name_cmp id_of v) before ∙ put_by-next name_cmp nat_list_cmp_total id_of xs i v r place.0 (sym place.1)

-- an airfield was put in its place
pub put_changed : (items new : List Prepared) (p : Prepared) (v : Airfield) (id : List ℕ) (o : Option Airfield) → o ≡ Some v → airfield_of p ≡ v
    → new ≡ put_by name_cmp (λ a. id_of (airfield_of a)) p items → map airfield_of new ≡ list_with_replaced id o (map airfield_of items)
put_changed items new p v id o some made put =
    put-mapped name_cmp id_of airfield_of p v items new made put ∙ ap (λ q. list_with_replaced id q (map airfield_of items)) (sym some)

-- an airfield was taken out
pub removed_changed : (items new : List Prepared) (id : List ℕ) (o : Option Airfield) → o ≡ None
    → new ≡ removed_by name_cmp (λ a. id_of (airfield_of a)) id items → map airfield_of new ≡ list_with_replaced id o (map airfield_of items)
removed_changed items new id o none removed =
    removed-mapped name_cmp id_of airfield_of id items new removed ∙ ap (λ q. list_with_replaced id q (map airfield_of items)) (sym none)

-- an airfield that an amendment leaves is as the register holds it
pub left_held : (xs : List Airfield) (o : Option Airfield) (k : List ℕ) → IsRegister xs → o ≡ airfield_at xs k → IfSome o (λ f. IsHeld f)
left_held xs None k r e = tt
left_held xs (Some f) k r e = found_held k f xs r (sym e)
