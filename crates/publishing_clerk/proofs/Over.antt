-- The value that a seat shows is the airfields after its front.
use Rattle.std.proofs.Common.{◌≡◌, sym, ap, ◌∙◌, subst, List, [], ◌∷◌, Option, Some, None, IfSome}
use Rattle.std.specs.Coded.{Coded-set, coded_list}
use Rattle.std.proofs.Math.Logic.{∥∥₁_elim}
use Rattle.airfields.specs.Sites.{Site}
use Rattle.airfields.specs.contracts.airfield.Airfield as airfield
use Rattle.airfields.specs.declared.airfield.Airfield.{Airfield}
use Rattle.airport_register.specs.Registers.{IsRegister}
use Rattle.oe_findings.specs.List.{findings_of}
use Rattle.wire_cursor.specs.Groups.{IsValidSite}
use Rattle.desk_machine.specs.declared.entry.Entry.{Entry}
use Rattle.desk_machine.specs.Fronts.{register_after_act, register_after}
use Rattle.tree_versions.specs.Fronts.{Reaches, ReachedFrom}
use Rattle.publishing_clerk.specs.Evaluations.{IsOver, IsEvaluation}

abbrev pub Follows : List Airfield → Entry → List Airfield → Type 0
Follows old e new = new ≡ register_after_act old e.change.act

pub reached : (v : List Airfield) (es : List Entry) (w : List Airfield) → Reaches Follows v es w → w ≡ register_after v es
reached v [] w h = sym h
reached v (e ∷ es) w h = reached h.0 es w h.2 ∙ ap (λ r. register_after r es) h.1

over : (first : Option (List Airfield)) (es : List Entry) (w : List Airfield) (site : Site) → ∥ ReachedFrom Follows first es w ∥₁ → IsRegister w
    → IfSome first (λ r. IsOver (record { filing = site; front = es; list = findings_of w site }) (register_after r es))
over None es w site h valid = tt
over (Some v) es w site h valid =
    let same : w ≡ register_after v es = ∥∥₁_elim h (Coded-set (coded_list airfield.the_row.coded) _ _) (reached v es w) in
    record { valid = subst IsRegister same valid; list = ap (λ r. findings_of r site) same }

pub evaluation : (first : Option (List Airfield)) (es : List Entry) (w : List Airfield) (site : Site) → ∥ ReachedFrom Follows first es w ∥₁ → IsRegister w → IsValidSite site
    → IsEvaluation first (record { filing = site; front = es; list = findings_of w site })
evaluation first es w site h valid good = record { site = good; over = over first es w site h valid }
