-- Each event keeps the order.
use Rattle.std.proofs.Common.{◌≡◌, refl, sym, ap, ◌∙◌, subst, arith, ℕ, zero, suc, ◌≤◌, nat_le, Bool, true, false, ◌&&◌, cond, List, [], ◌∷◌, ◌++◌, append_assoc, length, take, drop, Option, Some, None, IfSome, slice_get}
use Rattle.std.specs.Option.{option_map}
use Rattle.std.proofs.lemmas.Bool.Decides.{nat_tests}
use mathlib.Core.List.{IsPrefix}
use Rattle.airfields.specs.Sites.{Site}
use Rattle.determination_dates.specs.Computed.{with_some}
use Rattle.wire_requests.specs.Changes.{Asked}
use Rattle.desk_machine.specs.declared.entry.Entry.{Entry}
use Rattle.desk_machine.specs.States.{State}
use Rattle.desk_machine.specs.Evaluations.{Given}
use Rattle.desk_machine.specs.Machine.{Answer, Kept, No, Done, decide, state_after, entries_of_answer, replay}
use Rattle.desk_machine.proofs.Replaying.{replayed_always, same_entries, append_nothing}
use Rattle.desk_machine.specs.Fronts.{register_after_act, register_after, front_number}
use Rattle.oe_session.specs.World.{Moment, Had, Told, front_of, fronts_of, World, opening_world, accepted_entries, Event, Look, Change, Publish, Tell, list_over, list_at, list_from, noted_in, world_after, world_after_all, Every, Begins, AreInOrder, AreJudged, IsOrderly}
use Rattle.oe_session.proofs.Lists.{length_set, length_same, every_map, every_set, every_at, every_same, prefix_self, prefix_trans, prefix_more, prefix_take, prefix_taken, drop_before}
use Rattle.oe_session.proofs.ActFacts.{makes}
use Rattle.oe_session.proofs.Judging.{IsFair, register_more, judged_more}

-- ---- what came to a session

-- all that it had and was told begins the published list, and its fronts are in order
abbrev Sees : List Entry → List Moment → Type 0
Sees published past = Every (Begins published) past × AreInOrder past

front_begins : (published : List Entry) (past : List Moment) → Every (Begins published) past → IsPrefix (front_of past) published
front_begins published [] h = (published, refl)
front_begins published (Had front ∷ past) h = h.0
front_begins published (Told front ∷ past) h = front_begins published past h.1

had_begins : (published : List Entry) (past : List Moment) (k : ℕ) (front : List Entry) → Every (Begins published) past → slice_get (fronts_of past) k ≡ Some front → IsPrefix front published
had_begins published [] zero front h is = let none : [] ≡ front = cc (is) in subst (λ (f : List Entry). IsPrefix f published) none (published, refl)
had_begins published [] (suc k) front h is = absurd (cc (is))
had_begins published (Had f ∷ past) zero front h is = let same : f ≡ front = cc (is) in subst (λ (g : List Entry). IsPrefix g published) same h.0
had_begins published (Had f ∷ past) (suc k) front h is = had_begins published past k front h.1 is
had_begins published (Told f ∷ past) k front h is = had_begins published past k front h.1 is

every_noted : (P : List Moment → Type 0) (m : Moment) → ((past : List Moment) → P past → P (m ∷ past)) → (all : List (List Moment)) (who : ℕ) (v : Option (List Moment)) → slice_get all who ≡ v
    → Every P all → Every P (noted_in m all who v)
every_noted P m step all who None is h = h
every_noted P m step all who (Some past) is h = every_set P all who (m ∷ past) h (step past (every_at P all who past h is))

length_noted : (m : Moment) (all : List (List Moment)) (who : ℕ) (v : Option (List Moment)) → length (noted_in m all who v) ≡ length all
length_noted m all who None = refl
length_noted m all who (Some past) = length_set all who (m ∷ past)

looks : (published : List Entry) (past : List Moment) → Sees published past → Sees published (Had published ∷ past)
looks published past h = ((prefix_self published, h.0), (h.0, h.1))

tells : (published : List Entry) (past : List Moment) → Sees published past → Sees published (Told published ∷ past)
tells published past h = ((prefix_self published, h.0), h.1)

begins_more : (published next : List Entry) → IsPrefix published next → (m : Moment) → Begins published m → Begins next m
begins_more published next p (Had f) h = prefix_trans f published next h p
begins_more published next p (Told f) h = prefix_trans f published next h p

sees_more : (published next : List Entry) → IsPrefix published next → (past : List Moment) → Sees published past → Sees next past
sees_more published next p past h = (every_map (Begins published) (Begins next) (begins_more published next p) past h.0, h.1)

-- ---- the world

record Goes (opening : State) (count : ℕ) (w : World) : Type 0 where
  counted : length w.sessions ≡ count
  es : List Entry
  entries : w.state.entries ≡ opening.entries ++ es
  register : w.state.register ≡ register_after opening.register es
  replayed : w.state ≡ replay opening es
  judged : AreJudged opening es
  published : IsPrefix w.published es
  sees : Every (Sees w.published) w.sessions

accepted_are : (opening : State) (count : ℕ) (w : World) (g : Goes opening count w) → accepted_entries opening w ≡ g.es
accepted_are opening count w g = ap (drop (length opening.entries)) g.entries ∙ drop_before opening.entries g.es

-- ---- a change

fair_front : (opening : State) (published es : List Entry) (past : List Moment) (g : ℕ × Site) (v : Option (List Entry)) → IsPrefix published es → Every (Begins published) past → slice_get (fronts_of past) g.0 ≡ v
    → IfSome (option_map (list_over opening g.1) v) (IsFair opening es)
fair_front opening published es past g None p h is = tt
fair_front opening published es past g (Some front) p h is = (g.1, front, prefix_trans front published es (had_begins published past g.0 front h is) p, refl)

fair_session : (opening : State) (published es : List Entry) (past : List Moment) (given : Option (ℕ × Site)) → IsPrefix published es → Every (Begins published) past
    → IfSome (with_some given (list_at opening past)) (IsFair opening es)
fair_session opening published es past None p h = tt
fair_session opening published es past (Some g) p h = fair_front opening published es past g (slice_get (fronts_of past) g.0) p h refl

fair : (opening : State) (published es : List Entry) (all : List (List Moment)) (who : ℕ) (v : Option (List Moment)) (given : Option (ℕ × Site)) → IsPrefix published es → Every (Sees published) all
    → slice_get all who ≡ v → IfSome (list_from opening v given) (IsFair opening es)
fair opening published es all who None given p h is = tt
fair opening published es all who (Some past) given p h is = fair_session opening published es past given p (every_at (Sees published) all who past h is).0

changes : (opening : State) (count : ℕ) (w : World) (p : ℕ) (q : Asked) (given : Option Given) (a : Answer) (g : Goes opening count w) → IfSome given (IsFair opening g.es) → decide w.state p q given ≡ a
    → Goes opening count (record w { state = state_after w.state a })
changes opening count w p q given (Kept e) g fair is = g
changes opening count w p q given (No why) g fair is = g
changes opening count w p q given (Done e step) g fair is =
    let m = makes w.state p q given e step is in
    let all = g.es ++ e ∷ [] in
    record {
      es = all;
      counted = g.counted;
      entries = ap (λ (l : List Entry). l ++ e ∷ []) (same_entries step w.state ∙ g.entries) ∙ append_assoc opening.entries g.es (e ∷ []);
      register = m.register ∙ ap (λ r. register_after_act r q.act) g.register ∙ ap (λ (c : Asked). register_after_act (register_after opening.register g.es) c.act) (sym m.change) ∙ sym (register_more opening.register g.es e);
      replayed = subst (λ (a : Answer). state_after w.state a ≡ replay opening (g.es ++ entries_of_answer a)) is (replayed_always opening w.state g.es p q given g.replayed);
      judged = judged_more opening w.state g.es e p q given step g.entries g.register g.replayed fair is g.judged;
      published = prefix_more w.published g.es (e ∷ []) g.published;
      sees = g.sees;
    }

-- ---- each event

publishes : (opening : State) (count : ℕ) (w : World) (upto : ℕ) (b : Bool) (g : Goes opening count w) → (nat_le (length w.published) upto && nat_le upto (length (accepted_entries opening w))) ≡ b
    → Goes opening count (record w { published = cond b (take upto (accepted_entries opening w)) w.published })
publishes opening count w upto false g is = g
publishes opening count w upto true g is =
    let le : length w.published ≤ upto = grind (arith, nat_tests, is) in
    let same = accepted_are opening count w g in
    let now : IsPrefix w.published (accepted_entries opening w) = subst (λ (l : List Entry). IsPrefix w.published l) (sym same) g.published in
    let more = prefix_taken w.published (accepted_entries opening w) upto now le in
    record {
      es = g.es;
      counted = g.counted;
      entries = g.entries;
      register = g.register;
      replayed = g.replayed;
      judged = g.judged;
      published = subst (λ (l : List Entry). IsPrefix (take upto (accepted_entries opening w)) l) same (prefix_take (accepted_entries opening w) upto);
      sees = every_map (Sees w.published) (Sees (take upto (accepted_entries opening w))) (sees_more w.published (take upto (accepted_entries opening w)) more) w.sessions g.sees;
    }

seen : (opening : State) (count : ℕ) (w : World) (all : List (List Moment)) → Goes opening count w → length all ≡ length w.sessions → Every (Sees w.published) all → Goes opening count (record w { sessions = all })
seen opening count w all g l h = record { es = g.es; counted = l ∙ g.counted; entries = g.entries; register = g.register; replayed = g.replayed; judged = g.judged; published = g.published; sees = h }

keeps : (opening : State) (count : ℕ) (w : World) (e : Event) → Goes opening count w → Goes opening count (world_after opening w e)
keeps opening count w (Look who) g =
    seen opening count w _ g (length_noted (Had w.published) w.sessions who (slice_get w.sessions who)) (every_noted (Sees w.published) (Had w.published) (looks w.published) w.sessions who (slice_get w.sessions who) refl g.sees)
keeps opening count w (Change who q given) g =
    changes opening count w (front_number opening w.published) q (list_from opening (slice_get w.sessions who) given)
    (decide w.state (front_number opening w.published) q (list_from opening (slice_get w.sessions who) given)) g
    (fair opening w.published g.es w.sessions who (slice_get w.sessions who) given g.published g.sees refl) refl
keeps opening count w (Publish upto) g = publishes opening count w upto (nat_le (length w.published) upto && nat_le upto (length (accepted_entries opening w))) g refl
keeps opening count w (Tell who) g =
    seen opening count w _ g (length_noted (Told w.published) w.sessions who (slice_get w.sessions who)) (every_noted (Sees w.published) (Told w.published) (tells w.published) w.sessions who (slice_get w.sessions who) refl g.sees)

runs : (opening : State) (count : ℕ) (events : List Event) (w : World) → Goes opening count w → Goes opening count (world_after_all opening events w)
runs opening count [] w g = g
runs opening count (e ∷ es) w g = runs opening count es (world_after opening w e) (keeps opening count w e g)

starts : (opening : State) (count : ℕ) → Goes opening count (opening_world opening count)
starts opening count = record {
  es = [];
  counted = length_same count [];
  entries = sym (append_nothing opening.entries);
  register = refl;
  replayed = refl;
  judged = λ place. tt;
  published = ([], refl);
  sees = every_same (Sees []) count [] (tt, tt);
}

orders : (opening : State) (count : ℕ) (w : World) → Goes opening count w → IsOrderly opening count w
orders opening count w g =
    let same = sym (accepted_are opening count w g) in
    record {
      counted = g.counted;
      fronts = every_map (Sees w.published) (λ past. IsPrefix (front_of past) w.published) (λ past h. front_begins w.published past h.0) w.sessions g.sees;
      order = every_map (Sees w.published) AreInOrder (λ past h. h.1) w.sessions g.sees;
      published = subst (λ (l : List Entry). IsPrefix w.published l) same g.published;
      replayed = subst (λ (l : List Entry). w.state ≡ replay opening l) same g.replayed;
      judged = subst (AreJudged opening) same g.judged;
    }

pub orderly : (opening : State) (count : ℕ) (events : List Event) → IsOrderly opening count (world_after_all opening events (opening_world opening count))
orderly opening count events = orders opening count _ (runs opening count events (opening_world opening count) (starts opening count))
