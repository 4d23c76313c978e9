-- The airfields after a front have names, so a list over them fits in a row.
use Rattle.std.proofs.Common.{◌≡◌, refl, sym, ap, ◌∙◌, subst, ℕ, zero, suc, ◌+◌, ◌≤◌, Bool, true, false, MatchBool, List, [], ◌∷◌, ◌++◌, length, All, Option, Some, None, IfSome, slice_get}
use Rattle.std.proofs.lemmas.Option.{IfSome_then}
use mathlib.Core.List.{IsPrefix}
use Rattle.tree_versions.proofs.Prefixes.{prefix_self', prefix_whole}
use Rattle.airfields.specs.Sites.{Site}
use Rattle.airfields.specs.declared.airfield.Airfield.{Airfield}
use Rattle.airport_register.specs.Amendments.{after_amendment}
use Rattle.airport_register.specs.Registers.{IsRegister}
use Rattle.airport_register.specs.declared.amendment.Amendment.{Amendment}
use Rattle.airport_register.specs.declared.amendment.Amendment.TheVariants.{PutAirport, PutRunway, DropRunway, PutHeliport, Drop}
use Rattle.oe_findings.specs.List.{findings_of}
use Rattle.wire_cursor.specs.Groups.{IsValidSite}
use Rattle.wire_cursor.specs.Shape.{HasShape}
use Rattle.wire_requests.specs.Changes.{Asked}
use Rattle.wire_requests.specs.Forms.{shape_of}
use Rattle.wire_requests.specs.Limits.{IsChangeRecord}
use Rattle.wire_requests.specs.Spellings.{act_form, change_spelling}
use Rattle.wire_requests.specs.declared.form.Form.TheVariants as forms
use Rattle.case_requests.specs.declared.act.Act.{Act}
use Rattle.case_requests.specs.declared.act.Act.TheVariants as acts
use Rattle.desk_machine.specs.declared.entry.Entry.{Entry}
use Rattle.desk_machine.specs.States.{State}
use Rattle.desk_machine.specs.Fronts.{register_after_act, register_after}
use Rattle.desk_tables.specs.Reachable.{IsDesk, IsEntryOf, IsTold}
use Rattle.desk_tables.specs.Names.{IsNamed, PutsNames}
use Rattle.publishing_clerk.specs.Evaluations.{Evaluating, IsEvaluation, given_as}

-- ---- one entry

abbrev asked_of : List ℕ → List ℕ → Amendment → Asked
asked_of caller key a = record { caller = caller; key = key; act = acts.Amend a }

names_put : (caller key : List ℕ) (a : Amendment) → HasShape (shape_of (forms.Act (act_form (acts.Amend a)))) [] (change_spelling (asked_of caller key a)) → PutsNames a
names_put caller key (PutAirport id category arp elevation) h = h.1.1.1.0
names_put caller key (PutRunway id r) h = h.1.1.1.1.0
names_put caller key (DropRunway id name) h = tt
names_put caller key (PutHeliport heliport) h = h.1.1.1.0
names_put caller key (Drop id) h = tt

abbrev GoOn : Type 0
GoOn = (r : List Airfield) (a : Amendment) → All IsNamed r → PutsNames a → All IsNamed (after_amendment r a)

named_by : GoOn → (r : List Airfield) (caller key : List ℕ) (act : Act) → All IsNamed r → IsChangeRecord (record { caller = caller; key = key; act = act }) → All IsNamed (register_after_act r act)
named_by law r caller key (acts.Amend a) named recorded = law r a named (names_put caller key a recorded.shape)
named_by law r caller key (acts.Day d) named recorded = named
named_by law r caller key (acts.Closed d) named recorded = named
named_by law r caller key (acts.File n) named recorded = named
named_by law r caller key (acts.Form number) named recorded = named
named_by law r caller key (acts.Determine number finding) named recorded = named
named_by law r caller key (acts.Petition number party) named recorded = named
named_by law r caller key (acts.Dispose number affirm) named recorded = named
named_by law r caller key (acts.Extend number months started filed warranted) named recorded = named
named_by law r caller key (acts.Revise number started ground height finding) named recorded = named
named_by law r caller key (acts.Fcc number completion) named recorded = named
named_by law r caller key (acts.Abandon number) named recorded = named

-- ---- all of them

abbrev IsRecorded : Entry → Type 0
IsRecorded e = IsChangeRecord e.change

abbrev Each : List Entry → Type 0
Each es = (i : ℕ) → IfSome (slice_get es i) IsRecorded

named_after : GoOn → (r : List Airfield) (es : List Entry) → All IsNamed r → Each es → All IsNamed (register_after r es)
named_after law r [] named each = named
named_after law r (e ∷ es) named each =
    named_after law (register_after_act r e.change.act) es (named_by law r e.change.caller e.change.key e.change.act named (each 0)) (λ i. each (suc i))

each_behind : (xs ys : List Entry) → Each (xs ++ ys) → Each ys
each_behind [] ys each = each
each_behind (x ∷ xs) ys each = each_behind xs ys (λ i. each (suc i))

each_before : (xs ys : List Entry) → Each (xs ++ ys) → Each xs
each_before [] ys each i = tt
each_before (x ∷ xs) ys each zero = each 0
each_before (x ∷ xs) ys each (suc i) = each_before xs ys (λ j. each (suc j)) i

all_recorded : (s : State) → IsDesk s → Each s.entries
all_recorded s desk i = IfSome_then (slice_get s.entries i) (desk.entries i) (λ e (is : IsEntryOf (length s.entries) i e). is.recorded)

-- the entries of a front that begins the accepted ones
recorded_front : (opening s : State) (accepted front : List Entry) → IsDesk s → s.entries ≡ opening.entries ++ accepted → IsPrefix front accepted → Each front
recorded_front opening s accepted front desk entries begins =
    let all : Each (opening.entries ++ accepted) = subst Each entries (all_recorded s desk) in
    each_before front begins.0 (subst Each (sym begins.1) (each_behind opening.entries accepted all))

-- ---- a list over such a front

abbrev AreTold : Type 0
AreTold = (register : List Airfield) (site : Site) → IsRegister register → All IsNamed register → IsValidSite site → IsTold (Some (record { filing = site; last = 0; list = findings_of register site }))

told_over : AreTold → (first : Option (List Airfield)) (register : List Airfield) (base : ℕ) (e : Evaluating) → first ≡ Some register → IsEvaluation first e
    → All IsNamed (register_after register e.front) → IsTold (Some (given_as base e))
told_over law first register base e is h named =
    let P : Option (List Airfield) → Type 0 = λ v. IsEvaluation v e in
    let at : IsEvaluation (Some register) e = subst P is h in
    subst (λ l. IsTold (Some (record { filing = e.filing; last = base + length e.front; list = l }))) (sym at.over.list)
    (law (register_after register e.front) e.filing at.over.valid named at.site)

pub told : GoOn → AreTold → (first : Option (List Airfield)) (opening s : State) (accepted : List Entry) (base : ℕ) (e : Evaluating) → first ≡ Some opening.register → IsDesk opening → IsDesk s
    → s.entries ≡ opening.entries ++ accepted → IsPrefix e.front accepted → IsEvaluation first e → IsTold (Some (given_as base e))
told names lists first opening s accepted base e is start desk entries begins h =
    told_over lists first opening.register base e is h (named_after names opening.register e.front start.named (recorded_front opening s accepted e.front desk entries begins))

-- of two fronts of one opening the shorter begins the longer
pub begins_by : (b : Bool) (front note : List Entry) → MatchBool b (IsPrefix front note) (IsPrefix note front) → length front ≤ length note → IsPrefix front note
begins_by true front note h few = h
begins_by false front note h few = prefix_self' front note (sym (prefix_whole note front h few))
