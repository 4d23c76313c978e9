-- A determination's list is over the airfields after the first entries.
use Rattle.std.proofs.Common.{◌≡◌, refl, sym, ap, ◌∙◌, subst, arith, ℕ, ◌+◌, ◌-◌, ◌≤◌, ◌<◌, nat_le, nat_lt, Bool, true, false, ◌&&◌, cond, List, [], ◌∷◌, ◌++◌, length, length-append, take, Option, Some, None, IfSome, slice_get}
use Rattle.std.specs.Option.{option_map}
use Rattle.std.proofs.lemmas.Grind.{common_steps}
use mathlib.Core.List.{IsPrefix}
use Rattle.airfields.specs.Sites.{Site}
use Rattle.airfields.proofs.SameStructures.{same_site as same_structure}
use Rattle.airfields.specs.declared.airfield.Airfield.{Airfield}
use Rattle.oe_findings.specs.List.{findings_of}
use Rattle.wire_requests.specs.Changes.{Asked}
use Rattle.case_requests.specs.declared.act.Act.{Act}
use Rattle.case_records.specs.declared.case.KeptList.{KeptList}
use Rattle.case_acts.specs.declared.effect.Step.{Step}
use Rattle.desk_machine.specs.declared.entry.Entry.{Entry}
use Rattle.desk_machine.specs.States.{State}
use Rattle.desk_machine.specs.Evaluations.{Given, same_site, own_list, evaluation_of, evaluated_site, basis_of}
use Rattle.desk_machine.specs.Machine.{decide, Done, replay}
use Rattle.desk_machine.specs.Fronts.{register_after_act, register_after, front_number}
use Rattle.oe_session.specs.World.{list_over, recorded_list, IsOver, IsJudged, AreJudged}
use Rattle.oe_session.proofs.Lists.{prefix_more, prefix_length, taken_whole, take_more, get_within, get_last, get_past}
use Rattle.oe_session.proofs.ActFacts.{makes}

pub register_more : (r : List Airfield) (es : List Entry) (e : Entry) → register_after r (es ++ e ∷ []) ≡ register_after_act (register_after r es) e.change.act
register_more r [] e = refl
register_more r (d ∷ es) e = register_more (register_after_act r d.change.act) es e

-- what is given is the list of a structure over a front that begins the entries
abbrev pub IsFair : State → List Entry → Given → Type 0
IsFair opening es g = (site : Site) × (front : List Entry) × IsPrefix front es × (list_over opening site front ≡ g)

-- ---- a new determination

own : (opening s : State) (es : List Entry) (e : Entry) (site : Site) → s.entries ≡ opening.entries ++ es → s.register ≡ register_after opening.register es
    → IsOver opening (es ++ e ∷ []) (length es) (Some site) (own_list s site)
own opening s es e site entries register =
    let counted : length s.entries ≡ length opening.entries + length es = ap length entries ∙ length-append opening.entries es in
    let since : length s.entries - length opening.entries ≡ length es = omega (arith, counted) in
    let first : take (length s.entries - length opening.entries) (es ++ e ∷ []) ≡ es = ap (λ n. take n (es ++ e ∷ [])) since ∙ taken_whole es (es ++ e ∷ []) (e ∷ [], refl) in
    record {
      site = site;
      is_its = refl;
      since = omega (arith, counted);
      before = omega (arith, counted);
      list = ap (λ r. findings_of r site) (register ∙ ap (register_after opening.register) (sym first));
    }

first_holds : (a b : Bool) → (a && b) ≡ true → a ≡ true
first_holds true b h = refl
first_holds false b h = absurd (cc (h))

over_by : (opening s : State) (es : List Entry) (e : Entry) (p : ℕ) (site its : Site) (front : List Entry) (b : Bool) → s.entries ≡ opening.entries ++ es → s.register ≡ register_after opening.register es
    → IsPrefix front es → (same_site its site && nat_le (front_number opening front) p) ≡ b
    → IsOver opening (es ++ e ∷ []) (length es) (Some site) (cond b (record { last = front_number opening front; list = findings_of (register_after opening.register front) its }) (own_list s site))
over_by opening s es e p site its front false entries register begins is = own opening s es e site entries register
over_by opening s es e p site its front true entries register begins is =
    let same : its ≡ site = (same_structure its site).0 (first_holds (same_site its site) (nat_le (front_number opening front) p) is) in
    let few = prefix_length front es begins in
    let since : length opening.entries + length front - length opening.entries ≡ length front = omega arith in
    let first : take (length opening.entries + length front - length opening.entries) (es ++ e ∷ []) ≡ front =
    ap (λ n. take n (es ++ e ∷ [])) since ∙ taken_whole front (es ++ e ∷ []) (prefix_more front es (e ∷ []) begins) in
    record {
      site = site;
      is_its = refl;
      since = omega arith;
      before = omega (arith, few);
      list = ap (findings_of (register_after opening.register front)) same ∙ ap (λ l. findings_of (register_after opening.register l) site) (sym first);
    }

over_fair : (opening s : State) (es : List Entry) (e : Entry) (p : ℕ) (g : Given) (site : Site) → s.entries ≡ opening.entries ++ es → s.register ≡ register_after opening.register es
    → IsFair opening es g → IsOver opening (es ++ e ∷ []) (length es) (Some site) (evaluation_of s p (Some g) site)
over_fair opening s es e p g site entries register fair =
    subst (λ (h : Given). IsOver opening (es ++ e ∷ []) (length es) (Some site) (evaluation_of s p (Some h) site)) fair.3
    (over_by opening s es e p site fair.0 fair.1 (same_site fair.0 site && nat_le (front_number opening fair.1) p) entries register fair.2 refl)

over : (opening s : State) (es : List Entry) (e : Entry) (p : ℕ) (given : Option Given) (site : Site) → s.entries ≡ opening.entries ++ es → s.register ≡ register_after opening.register es
    → IfSome given (IsFair opening es) → IsOver opening (es ++ e ∷ []) (length es) (Some site) (evaluation_of s p given site)
over opening s es e p None site entries register fair = own opening s es e site entries register
over opening s es e p (Some g) site entries register fair = over_fair opening s es e p g site entries register fair

over_some : (opening s : State) (es : List Entry) (e : Entry) (p : ℕ) (given : Option Given) (v : Option Site) → s.entries ≡ opening.entries ++ es → s.register ≡ register_after opening.register es
    → IfSome given (IsFair opening es) → IfSome (option_map (evaluation_of s p given) v) (IsOver opening (es ++ e ∷ []) (length es) v)
over_some opening s es e p given None entries register fair = tt
over_some opening s es e p given (Some site) entries register fair = over opening s es e p given site entries register fair

new_judged : (opening s : State) (es : List Entry) (e : Entry) (p : ℕ) (q : Asked) (given : Option Given) (step : Step) → s.entries ≡ opening.entries ++ es → s.register ≡ register_after opening.register es
    → s ≡ replay opening es → IfSome given (IsFair opening es) → decide s p q given ≡ Done e step → IsJudged opening (es ++ e ∷ []) (length es) e
new_judged opening s es e p q given step entries register replayed fair is =
    let m = makes s p q given e step is in
    let all = es ++ e ∷ [] in
    let now : s ≡ replay opening (take (length es) all) = replayed ∙ ap (replay opening) (sym (taken_whole es all (e ∷ [], refl))) in
    let its : evaluated_site s q.act ≡ evaluated_site (replay opening (take (length es) all)) e.change.act =
    ap (λ (t : State). evaluated_site t q.act) now ∙ ap (λ (c : Asked). evaluated_site (replay opening (take (length es) all)) c.act) (sym m.change) in
    subst (λ (o : Option KeptList). IfSome o (IsOver opening all (length es) (evaluated_site (replay opening (take (length es) all)) e.change.act))) (sym m.list)
    (subst (λ (v : Option Site). IfSome (basis_of s p given q.act) (IsOver opening all (length es) v)) its
    (over_some opening s es e p given (evaluated_site s q.act) entries register fair))

-- ---- the others stay so

kept_over : (opening : State) (es : List Entry) (e : Entry) (place : ℕ) (a : Act) (o : Option KeptList) → place < length es
    → IfSome o (IsOver opening es place (evaluated_site (replay opening (take place es)) a))
    → IfSome o (IsOver opening (es ++ e ∷ []) place (evaluated_site (replay opening (take place (es ++ e ∷ []))) a))
kept_over opening es e place a None within h = tt
kept_over opening es e place a (Some kept) within h =
    let few : kept.last - length opening.entries ≤ length es = (let before = h.before in omega (arith, within, before)) in
    let long : place ≤ length es = omega (arith, within) in
    record {
      site = h.site;
      is_its = ap (λ l. evaluated_site (replay opening l) a) (take_more place es (e ∷ []) long) ∙ h.is_its;
      since = h.since;
      before = h.before;
      list = h.list ∙ ap (λ l. findings_of (register_after opening.register l) h.site) (sym (take_more (kept.last - length opening.entries) es (e ∷ []) few));
    }

kept_judged : (opening : State) (es : List Entry) (e : Entry) (place : ℕ) (v : Option Entry) → place < length es → IfSome v (IsJudged opening es place) → IfSome v (IsJudged opening (es ++ e ∷ []) place)
kept_judged opening es e place None within h = tt
kept_judged opening es e place (Some d) within h = kept_over opening es e place d.change.act (recorded_list d.outcome) within h

more_by : (opening : State) (es : List Entry) (e : Entry) (place : ℕ) (b d : Bool) → AreJudged opening es → IsJudged opening (es ++ e ∷ []) (length es) e
    → nat_lt place (length es) ≡ b → nat_lt (length es) place ≡ d → IfSome (slice_get (es ++ e ∷ []) place) (IsJudged opening (es ++ e ∷ []) place)
more_by opening es e place true d h new below above =
    let within : place < length es = grind (arith, common_steps, below) in
    subst (λ (v : Option Entry). IfSome v (IsJudged opening (es ++ e ∷ []) place)) (sym (get_within es e place within)) (kept_judged opening es e place (slice_get es place) within (h place))
more_by opening es e place false true h new below above =
    let past : length es < place = grind (arith, common_steps, above) in
    subst (λ (v : Option Entry). IfSome v (IsJudged opening (es ++ e ∷ []) place)) (sym (get_past es e place past)) tt
more_by opening es e place false false h new below above =
    let at : length es ≡ place = grind (arith, common_steps, below, above) in
    subst (λ (n : ℕ). IfSome (slice_get (es ++ e ∷ []) n) (IsJudged opening (es ++ e ∷ []) n)) at
    (subst (λ (v : Option Entry). IfSome v (IsJudged opening (es ++ e ∷ []) (length es))) (sym (get_last es e)) new)

pub judged_more : (opening s : State) (es : List Entry) (e : Entry) (p : ℕ) (q : Asked) (given : Option Given) (step : Step) → s.entries ≡ opening.entries ++ es → s.register ≡ register_after opening.register es
    → s ≡ replay opening es → IfSome given (IsFair opening es) → decide s p q given ≡ Done e step → AreJudged opening es → AreJudged opening (es ++ e ∷ [])
judged_more opening s es e p q given step entries register replayed fair is h place =
    more_by opening es e place (nat_lt place (length es)) (nat_lt (length es) place) h (new_judged opening s es e p q given step entries register replayed fair is) refl refl
