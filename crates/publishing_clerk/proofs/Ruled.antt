-- A ruling is what its clerk did.
use Rattle.std.proofs.Common.{◌≡◌, ◌≢◌, refl, sym, ap, ◌∙◌, subst, arith, ℕ, ◌+◌, ◌≤◌, List, length, Option}
use mathlib.Core.List.{IsPrefix}
use Rattle.airfields.specs.declared.airfield.Airfield.{Airfield}
use Rattle.wire_requests.specs.Changes.{Asked}
use Rattle.wire_replies.specs.declared.reply.Reply.{Reply}
use Rattle.case_records.specs.declared.refusal.Refusal.{Refusal}
use Rattle.case_records.specs.declared.refusal.Refusal.TheVariants as refusals
use Rattle.desk_machine.specs.declared.entry.Entry.{Entry}
use Rattle.desk_machine.specs.States.{State, last_number}
use Rattle.desk_machine.specs.Evaluations.{Given}
use Rattle.desk_machine.specs.Machine.{Answer as Decided, decide}
use Rattle.filing_desk.specs.declared.answer.Answer.{Answer}
use Rattle.filing_desk.specs.declared.answer.Answer.TheVariants as answers
use Rattle.filing_desk.specs.Clerks.{Clerking, IsReplay, Advances}
use Rattle.filing_desk.specs.Served.{HasCause}
use Rattle.desk_tables.specs.Reachable.{IsDesk}
use Rattle.tree_versions.specs.Fronts.{Edition}
use Rattle.tree_versions.proofs.Prefixes.{prefix_length}
use Rattle.publishing_clerk.specs.Publishing.{IsPublishing, GoesOn, IsOffered, offered}
use Rattle.publishing_clerk.specs.Rulings.{Ruled, IsRuled, reply_of}
use Rattle.publishing_clerk.proofs.Going.{goes_after}
use Rattle.publishing_clerk.proofs.Offering.{Version, offers_after, published_begins}
use Rattle.publishing_clerk.proofs.Owning.{own}

-- ---- a refusal without a decision

pub not_decided : {K : Type 0} (d : Decided) (k : Clerking K) → Advances d k k (answers.Refused refusals.NoMemory)
not_decided d k = (λ other kept. absurd (other refl), refl, refl)

pub not_asked : {K : Type 0} (IsSteady : K → Type 0) (faults : K → ℕ) (d : Decided) (k : K) → HasCause IsSteady faults d k k (answers.Refused refusals.NoMemory)
not_asked IsSteady faults d k = record { later = record { steady = λ s. s; counted = omega arith }; unasked = λ n. refl; failed = λ e. absurd (cc (e)) }

-- ---- a decision

pub kept_after : {K : Type 0} (first : Option (List Airfield)) (base : ℕ) (opening : State) (p : ℕ) (q : Asked) (given : Option Given) (k l : Clerking K) (answer : Answer) (e : Version)
    → IsPublishing first base opening k e → IsReplay opening l → offered e ≡ k.accepted → Advances (decide k.state p q given) k l answer → IsPublishing first base opening l e
kept_after first base opening p q given k l answer e h replayed paid advances =
    record {
      named = h.named;
      goes = goes_after opening p q given k l answer h.goes replayed advances;
      offers = offers_after opening.register (decide k.state p q given) k l answer e h.offers paid advances;
    }

-- ---- a ruling

abbrev pub made : {K : Type 0} → ℕ → Asked → Option Given → Clerking K → Clerking K → Version → Version → Answer → Ruled K
made base q given k l e f answer =
    record { request = q; p = base + length e.published; given = given; before = k; after = l; reply = reply_of (base + length f.published) answer; note = f.published }

pub ruled : {K : Type 0} (IsSteady : K → Type 0) (faults : K → ℕ) (first : Option (List Airfield)) (base : ℕ) (opening : State) (q : Asked) (given : Option Given) (k l : Clerking K) (e f : Version) (answer : Answer)
    → IsPublishing first base opening k e → IsPublishing first base opening l f → Advances (decide k.state (base + length e.published) q given) k l answer
    → HasCause IsSteady faults (decide k.state (base + length e.published) q given) k.keeper l.keeper answer → IsPrefix e.published f.published → IsDesk l.state
    → IsRuled IsSteady faults base opening (made base q given k l e f answer)
ruled IsSteady faults first base opening q given k l e f answer before after advances cause more desk =
    let begins : IsPrefix f.published l.accepted = published_begins opening.register l.accepted f after.offers in
    record {
      goes = before.goes;
      answer = answer;
      reply = refl;
      advances = advances;
      cause = cause;
      note = begins;
      upto = (let le = prefix_length e.published f.published more in omega (arith, le));
      own = own opening base (base + length e.published) q given k l answer f.published desk before.named.number after.goes.entries begins advances;
    }

-- the same of a ruling with these parts
pub ruled_as : {K : Type 0} (IsSteady : K → Type 0) (faults : K → ℕ) (base : ℕ) (opening : State) (q : Asked) (given : Option Given) (k l : Clerking K) (e f : Version) (answer : Answer) (r : Ruled K)
    → IsRuled IsSteady faults base opening (made base q given k l e f answer) → r.request ≡ q → r.p ≡ base + length e.published → r.given ≡ given → r.before ≡ k → r.after ≡ l
    → r.reply ≡ reply_of (base + length f.published) answer → r.note ≡ f.published → IsRuled IsSteady faults base opening r
ruled_as IsSteady faults base opening q given k l e f answer r is request p given_is before after reply note =
    let same : r ≡ made base q given k l e f answer = λ i. record { request = request i; p = p i; given = given_is i; before = before i; after = after i; reply = reply i; note = note i } in
    subst (IsRuled IsSteady faults base opening) (sym same) is
