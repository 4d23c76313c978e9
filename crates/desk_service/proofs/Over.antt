-- The version that a seat shows is the airfields after its front.
use Rattle.std.proofs.Common.{List, Option, Some, None, Result, Ok, Err}
use Rattle.std.specs.Result.{IfOk}
use Rattle.airfields.specs.declared.airfield.Airfield.{Airfield}
use Rattle.desk_machine.specs.declared.entry.Entry.{Entry}
use Rattle.tree_versions.specs.Fronts.{ReachedFrom}
use Rattle.publishing_clerk.proofs.Over.{Follows, reached}
use Rattle.desk_service.specs.Sittings.{IsVersion}

pub version : (first : Option (List Airfield)) (es : List Entry) (w : List Airfield) → ReachedFrom Follows first es w → IsVersion first es w
version None es w h = tt
version (Some v) es w h = reached v es w h

pub if_ok : {A E : Type 0} {P Q : A → Type 0} (r : Result A E) → ((x : A) → P x → Q x) → IfOk r P → IfOk r Q
if_ok (Ok x) f p = f x p
if_ok (Err e) f p = tt
