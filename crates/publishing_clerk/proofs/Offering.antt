-- What was accepted is offered and published.
use Rattle.std.proofs.Common.{◌≡◌, refl, sym, ap, ◌∙◌, subst, arith, ℕ, ◌+◌, ◌-◌, ◌≤◌, ◌==◌, Bool, true, false, cond, List, [], ◌∷◌, ◌++◌, append_assoc, length, length-append, Option, Some, None, slice_get, Result, Ok, Err}
use Rattle.std.specs.Prelude.{is_ok, MatchResult}
use Rattle.std.proofs.lemmas.List.{map-append, length-map}
use mathlib.Core.List.{IsPrefix}
use Rattle.airfields.specs.declared.airfield.Airfield.{Airfield}
use Rattle.desk_machine.specs.declared.entry.Entry.{Entry}
use Rattle.desk_machine.specs.States.{State, entry_at, last_number}
use Rattle.desk_machine.specs.Machine.{Answer as Decided, Kept, No, Done, entries_of_answer}
use Rattle.desk_machine.specs.Fronts.{register_after_act, register_after}
use Rattle.desk_machine.proofs.Replaying.{append_nothing}
use Rattle.oe_session.proofs.Judging.{register_more}
use Rattle.oe_session.proofs.Lists.{get_last}
use Rattle.filing_desk.specs.declared.answer.Answer.{Answer}
use Rattle.filing_desk.specs.declared.answer.Answer.TheVariants as answers
use Rattle.filing_desk.specs.Clerks.{Clerking, Advances}
use Rattle.tree_versions.specs.Fronts.{Edition, entries_of, last_of}
use Rattle.tree_versions.proofs.Chains.{last_on}
use Rattle.tree_versions.proofs.Prefixes.{prefix_whole}
use Rattle.publishing_clerk.specs.Publishing.{offered, IsOffered, IsSameOffer, IsOpening, GoesOn, IsPublishing}

abbrev pub Version : Type 0
Version = Edition (List Airfield) Entry

-- ---- how many there are

pub counted : (e : Version) → length (offered e) ≡ length e.published + length e.waiting
counted e = omega (arith, length-append e.published (entries_of e.waiting), length-map e.waiting (λ (p : Entry × List Airfield). p.0))

-- the number of the last entry
pub last_is : (opening s : State) (base : ℕ) (accepted : List Entry) → base ≡ last_number opening → s.entries ≡ opening.entries ++ accepted → last_number s ≡ base + length accepted
last_is opening s base accepted is entries = omega (arith, is, ap length entries, length-append opening.entries accepted)

-- where it is that of the last offered one, all were offered
pub all_offered : (opening s : State) (base n : ℕ) (accepted : List Entry) (e : Version) → base ≡ last_number opening → s.entries ≡ opening.entries ++ accepted → IsPrefix (offered e) accepted
    → n ≡ last_number s → n ≡ base + length e.published + length e.waiting → offered e ≡ accepted
all_offered opening s base n accepted e is entries begins last is_last =
    prefix_whole (offered e) accepted begins (omega (arith, counted e, last_is opening s base accepted is entries, last, is_last))

-- and where it is not, some were not
some_owed : (opening s : State) (base m n : ℕ) (accepted : List Entry) (e : Version) → base ≡ last_number opening → s.entries ≡ opening.entries ++ accepted
    → m ≡ last_number s → n ≡ base + length e.published + length e.waiting → (m ≡ n → ⊥) → length accepted ≡ length (offered e) → ⊥
some_owed opening s base m n accepted e is entries m_is n_is other same =
    other (omega (arith, counted e, last_is opening s base accepted is entries, m_is, n_is, same))

-- ---- the entry that is owed

at_by : (b : Bool) (v : Option Entry) (e : Entry) → cond b None v ≡ Some e → v ≡ Some e
at_by true v e h = absurd (cc (h))
at_by false v e h = h

at_number : (es : List Entry) (n : ℕ) (e : Entry) → entry_at es n ≡ Some e → slice_get es (n - 1) ≡ Some e
at_number es n e h = at_by (n == 0) (slice_get es (n - 1)) e h

last_in : (es ys : List Entry) (x e : Entry) → es ≡ ys ++ x ∷ [] → slice_get es (length es - 1) ≡ Some e → x ≡ e
last_in es ys x e whole at =
    let place : length es - 1 ≡ length ys = omega (arith, ap length whole, length-append ys (x ∷ [])) in
    let there : Some x ≡ Some e = sym (get_last ys x) ∙ ap (λ (l : List Entry). slice_get l (length ys)) (sym whole) ∙ ap (slice_get es) (sym place) ∙ at in
    cc (there)

owed : (opening s : State) (accepted off rest : List Entry) (e : Entry) → s.entries ≡ opening.entries ++ accepted → off ++ rest ≡ accepted → length accepted ≤ length off + 1
    → (length accepted ≡ length off → ⊥) → entry_at s.entries (last_number s) ≡ Some e → accepted ≡ off ++ e ∷ []
owed opening s accepted off [] e entries begins most more at = absurd (more (ap length (sym begins) ∙ ap length (append_nothing off)))
owed opening s accepted off (x ∷ []) e entries begins most more at =
    let whole : s.entries ≡ (opening.entries ++ off) ++ x ∷ [] = entries ∙ ap (λ (l : List Entry). opening.entries ++ l) (sym begins) ∙ sym (append_assoc opening.entries off (x ∷ [])) in
    let same : x ≡ e = last_in s.entries (opening.entries ++ off) x e whole (at_number s.entries (last_number s) e at) in
    sym begins ∙ ap (λ (y : Entry). off ++ y ∷ []) same
owed opening s accepted off (x ∷ y ∷ zs) e entries begins most more at =
    absurd (omega (arith, ap length (sym begins), length-append off (x ∷ y ∷ zs), most))

-- the same for a clerk whose last entry was not offered
pub owes : {K : Type 0} (first : Option (List Airfield)) (base : ℕ) (opening : State) (k : Clerking K) (e : Version) (m n : ℕ) (x y : Entry) → IsPublishing first base opening k e
    → m ≡ last_number k.state → n ≡ base + length e.published + length e.waiting → (m ≡ n → ⊥) → entry_at k.state.entries m ≡ Some x → y ≡ x → k.accepted ≡ offered e ++ y ∷ []
owes first base opening k e m n x y h m_is n_is other at same =
    let some = some_owed opening k.state base m n k.accepted e h.named.number h.goes.entries m_is n_is other in
    let last : entry_at k.state.entries (last_number k.state) ≡ Some x = ap (entry_at k.state.entries) (sym m_is) ∙ at in
    owed opening k.state k.accepted (offered e) h.offers.begins.0 x h.goes.entries h.offers.begins.1 h.offers.most some last ∙ ap (λ (z : Entry). offered e ++ z ∷ []) (sym same)

-- ---- an offer

abbrev with_pair : Version → Entry × List Airfield → Version
with_pair e w = record e { waiting = e.waiting ++ w ∷ [] }

offered_with : (e : Version) (w : Entry × List Airfield) → offered (with_pair e w) ≡ offered e ++ w.0 ∷ []
offered_with e w =
    ap (λ (l : List Entry). e.published ++ l) (map-append (λ (p : Entry × List Airfield). p.0) e.waiting (w ∷ [])) ∙ sym (append_assoc e.published (entries_of e.waiting) (w.0 ∷ []))

-- the value that goes with the entry that is owed follows the last one
pub follows : (register now : List Airfield) (accepted : List Entry) (e : Version) (x : Entry) → IsOffered register accepted e → now ≡ register_after register accepted → accepted ≡ offered e ++ x ∷ []
    → now ≡ register_after_act (last_of e.value e.waiting) x.change.act
follows register now accepted e x h is owes =
    is ∙ ap (register_after register) owes ∙ register_more register (offered e) x ∙ ap (λ r. register_after_act r x.change.act) (sym h.value)

pub offered_on : (register : List Airfield) (accepted : List Entry) (old new : Version) (x : Entry) (now : List Airfield) → IsOffered register accepted old → accepted ≡ offered old ++ x ∷ []
    → now ≡ register_after register accepted → new ≡ with_pair old (x, now) → IsOffered register accepted new × (offered new ≡ accepted)
offered_on register accepted old new x now h owes is made =
    let all : offered new ≡ accepted = ap offered made ∙ offered_with old (x, now) ∙ sym owes in
    let last : last_of new.value new.waiting ≡ now = ap (λ (e : Version). last_of e.value e.waiting) made ∙ last_on old.value old.waiting (x, now) in (
      record {
        begins = ([], append_nothing (offered new) ∙ all);
        most = omega (arith, ap length all);
        value = last ∙ is ∙ ap (register_after register) (sym all);
      },
      all,
    )

-- after an offer all were offered, or nothing has changed
pub offered_or_back : {K A B : Type 0} (first : Option (List Airfield)) (base : ℕ) (opening : State) (k : Clerking K) (old new : Version) (x : Entry) (now : List Airfield) (r : Result A B) (Back : B → Type 0)
    → IsPublishing first base opening k old → k.accepted ≡ offered old ++ x ∷ [] → now ≡ k.state.register → MatchResult r (λ _. new ≡ with_pair old (x, now)) (λ b. Back b × (new ≡ old))
    → IsPublishing first base opening k new × (is_ok r ≡ true → offered new ≡ k.accepted)
offered_or_back first base opening k old new x now (Ok a) Back h owes is made =
    let o = offered_on opening.register k.accepted old new x now h.offers owes (is ∙ h.goes.register) made in
    (record { named = h.named; goes = h.goes; offers = o.0 }, λ ok. o.1)
offered_or_back first base opening k old new x now (Err b) Back h owes is made =
    (subst (λ (e : Version). IsPublishing first base opening k e) (sym made.1) h, λ ok. absurd (cc (ok)))

-- ---- a decision, where nothing is owed

pub few : (d : Decided) → length (entries_of_answer d) ≤ 1
few (Kept e) = omega arith
few (No why) = omega arith
few (Done e step) = omega arith

pub offers_after : {K : Type 0} (register : List Airfield) (d : Decided) (k l : Clerking K) (r : Answer) (e : Version) → IsOffered register k.accepted e → offered e ≡ k.accepted → Advances d k l r
    → IsOffered register l.accepted e
offers_after register d k l (answers.Accepted number outcome) e o paid h =
    let more : length l.accepted ≡ length k.accepted + length (entries_of_answer d) = ap length h.2 ∙ length-append k.accepted (entries_of_answer d) in
    record {
      begins = (entries_of_answer d, ap (λ (xs : List Entry). xs ++ entries_of_answer d) paid ∙ sym h.2);
      most = omega (arith, more, few d, ap length paid);
      value = o.value;
    }
offers_after register d k l (answers.Refused why) e o paid h = subst (λ (xs : List Entry). IsOffered register xs e) (sym h.2) o

-- ---- a publication

pub published_on : (register : List Airfield) (accepted : List Entry) (old new : Version) → IsOffered register accepted old → IsSameOffer old new → IsOffered register accepted new
published_on register accepted old new h same =
    record {
      begins = subst (λ (xs : List Entry). IsPrefix xs accepted) (sym same.entries) h.begins;
      most = omega (arith, h.most, ap length same.entries);
      value = same.value ∙ h.value ∙ ap (register_after register) (sym same.entries);
    }

pub same_offer : (old new : Version) → new ≡ record { value = last_of old.value old.waiting; published = old.published ++ entries_of old.waiting; waiting = [] } → IsSameOffer old new
same_offer old new made =
    record {
      entries = ap offered made ∙ append_nothing (offered old);
      value = ap (λ (e : Version). last_of e.value e.waiting) made;
    }

pub not_published : (old new : Version) → new ≡ old → IsSameOffer old new
not_published old new same = record { entries = ap offered same; value = ap (λ (e : Version). last_of e.value e.waiting) same }

-- what is published begins what was accepted
pub published_begins : (register : List Airfield) (accepted : List Entry) (e : Version) → IsOffered register accepted e → IsPrefix e.published accepted
published_begins register accepted e h =
    (entries_of e.waiting ++ h.begins.0, sym (append_assoc e.published (entries_of e.waiting) h.begins.0) ∙ h.begins.1)
