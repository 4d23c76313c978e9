-- How a line moves the entries and the airfields of a desk.
use Rattle.std.proofs.Common.{◌≡◌, refl, sym, ap, ◌∙◌, subst, ℕ, List, [], ◌∷◌, ◌++◌, None}
use Rattle.wire_requests.specs.Changes.{Asked}
use Rattle.wire_requests.specs.declared.request.Request.{Request}
use Rattle.wire_requests.specs.declared.request.Request.TheVariants as requests
use Rattle.desk_machine.specs.declared.entry.Entry.{Entry}
use Rattle.desk_machine.specs.States.{State, last_number}
use Rattle.desk_machine.specs.Machine.{Answer as Decided, Kept, No, Done, decide, state_after}
use Rattle.desk_machine.specs.Fronts.{register_after_act}
use Rattle.desk_machine.proofs.Replaying.{same_entries}
use Rattle.oe_session.proofs.ActFacts.{makes}
use Rattle.filing_desk.specs.Answers.{decision}
use Rattle.oe_asof.specs.Histories.{Moves, Same, Adds}
use Rattle.line_desk.specs.Desk.{Plain, Blank, Told, Refused, Wanting, Serving, Step, Served, NotKept, after_request}

decided : (s : State) (q : Asked) (d : Decided) → decide s (last_number s) q None ≡ d → Moves s (state_after s d)
decided s q (Kept e) is = Same refl
decided s q (No why) is = Same refl
decided s q (Done e step) is =
    let m = makes s (last_number s) q None e step is in
    Adds e (ap (λ (l : List Entry). l ++ e ∷ []) (same_entries step s)) (m.register ∙ ap (λ (c : Asked). register_after_act s.register c.act) (sym m.change))

requested : (s : State) (r : Request) → Moves s (after_request s r)
requested s (requests.Query query) = Same refl
requested s (requests.Change change) = decided s change (decision s change) refl

plainly : (s t : State) (line text : List ℕ) → Plain s line text t → Moves s t
plainly s t line text (Blank e f g) = Same g
plainly s t line text (Told r reply is told f g) = subst (λ u. Moves s u) (sym g) (requested s r)
plainly s t line text (Refused some field is f g) = Same g
plainly s t line text (Wanting some f g) = Same g

pub moved : {K : Type 0} (IsSteady : K → Type 0) (faults : K → ℕ) (s t : Serving K) (line text : List ℕ) → Step IsSteady faults s line text t → Moves s.state t.state
moved IsSteady faults s t line text (Served p later) = plainly s.state t.state line text p
moved IsSteady faults s t line text (NotKept change is makes_one e same later failed) = Same same
