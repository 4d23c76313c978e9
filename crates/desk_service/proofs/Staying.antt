-- What a session sees goes on from what it saw before.
use Rattle.std.proofs.Common.{◌≡◌, ◌≤◌, ℕ, refl, sym, ◌∙◌, subst, List, ◌++◌, Option, Some, None, IfSome}
use Rattle.std.specs.Option.{option_map}
use mathlib.Core.List.{IsPrefix}
use Rattle.airfields.specs.declared.airfield.Airfield.{Airfield}
use Rattle.wire_requests.specs.Changes.{Asked}
use Rattle.wire_requests.specs.declared.request.Query.{Query}
use Rattle.wire_requests.specs.declared.request.Query.TheVariants as queries
use Rattle.wire_requests.specs.declared.request.Request.{Request}
use Rattle.wire_replies.specs.declared.reply.Reply.{Reply}
use Rattle.desk_machine.specs.declared.entry.Entry.{Entry}
use Rattle.desk_machine.specs.States.{State}
use Rattle.desk_machine.specs.Evaluations.{evaluated_site}
use Rattle.desk_queries.specs.Queries.{no_memory}
use Rattle.wire_replies.specs.Replies.{reply_text}
use Rattle.wire_requests.specs.declared.request.Request.TheVariants as requests
use Rattle.oe_keeper.specs.Keeping.{Rose}
use Rattle.publishing_clerk.specs.Evaluations.{Evaluating, IsEvaluation, given_in}
use Rattle.publishing_clerk.specs.Rulings.{IsRuled, Ruled}
use Rattle.publishing_clerk.specs.Publishing.{Publishing}
use Rattle.publishing_clerk.specs.Fronts.{HasRuled, IsCounted, WasAsked}
use Rattle.tree_versions.proofs.Prefixes.{prefix_self, prefix_trans}
use Rattle.desk_service.specs.Sittings.{HasAsked, HasRuling, IsEvaluated, IsShownReply, IsSynced, Looks, Sitting, Stays}
use Rattle.desk_service.specs.Replies.{Answers, Tells}

module _ {K : Type 0} where
  pub stays_self : (s : Sitting K) → Stays s s
  stays_self s = record { front = prefix_self s.front; told = prefix_self s.told; clerk = refl; faults = refl }

  pub stays_on : (s u t : Sitting K) → Stays s u → Stays u t → Stays s t
  stays_on s u t p q = record {
    front = prefix_trans s.front u.front t.front p.front q.front;
    told = prefix_trans s.told u.told t.told p.told q.told;
    clerk = q.clerk ∙ p.clerk;
    faults = q.faults ∙ p.faults;
  }

  pub looks_from : (s u t : Sitting K) → Stays s u → Looks u t → Looks s t
  looks_from s u t p h = record {
    stays = stays_on s u t p h.stays;
    all = prefix_trans s.told u.told t.front p.told h.all;
    known = h.known;
  }

  pub synced_by : (o : Option (Publishing K)) (told front : List Entry) → IfSome o (λ c. IsPrefix c.published told) → IsPrefix told front → IfSome o (λ c. IsPrefix c.published front)
  synced_by None told front h more = tt
  synced_by (Some c) told front h more = prefix_trans c.published told front h more

  synced_from : (query : Query) (s u t : Sitting K) → Stays s u → IsSynced query u t → IsSynced query s t
  synced_from queries.Sync s u t p h = subst (λ (o : Option (Publishing K)). IfSome o (λ c. IsPrefix c.published t.front)) p.clerk h
  synced_from (queries.Screen site) s u t p h = h
  synced_from (queries.Verdict site) s u t p h = h
  synced_from (queries.Case number) s u t p h = h
  synced_from queries.Review s u t p h = h
  synced_from (queries.Airfield id) s u t p h = h
  synced_from (queries.Report kind) s u t p h = h

  asked_from : (opening : State) (query : Query) (reply : Reply) (s u t : Sitting K) → Stays s u → HasAsked opening query u reply t → HasAsked opening query s reply t
  asked_from opening query reply s u t p h = record {
    asked = h.asked;
    query_is = h.query_is;
    may = h.may;
    replied = h.replied;
    own = subst (λ (o : Option (Publishing K)). WasAsked o h.asked) p.clerk h.own;
    reply_is = h.reply_is;
    note = h.note;
    stays = stays_on s u t p h.stays;
  }

  pub ruling_from : (IsSteady : K → Type 0) (faults : K → ℕ) (base : ℕ) (opening : State) (change : Asked) (evaluated : Option Evaluating) (reply : Reply) (s u t : Sitting K)
      → Stays s u → HasRuling IsSteady faults base opening change evaluated u reply t → HasRuling IsSteady faults base opening change evaluated s reply t
  ruling_from IsSteady faults base opening change evaluated reply s u t p h = record {
    ruled = h.ruled;
    request = h.request;
    given = h.given;
    is = h.is;
    own = subst (λ (o : Option (Publishing K)). HasRuled base o t.clerk h.ruled) p.clerk h.own;
    reply_is = h.reply_is;
    note = h.note;
    counted = subst (λ (n : ℕ). IsCounted n t.faults reply) p.faults h.counted;
    later = subst (λ (n : ℕ). n ≤ t.faults) p.faults h.later;
    front = prefix_trans s.front u.front t.front p.front h.front;
    told = prefix_trans s.told u.told t.told p.told h.told;
  }

  -- a ruling was had, and then the seat was told of its note
  pub ruling_made : (IsSteady : K → Type 0) (faults : K → ℕ) (base : ℕ) (opening : State) (change : Asked) (evaluated : Option Evaluating) (r : Ruled K) (reply : Reply) (s u t : Sitting K)
      → r.request ≡ change → r.given ≡ given_in base evaluated → IsRuled IsSteady faults base opening r → HasRuled base s.clerk u.clerk r → reply ≡ r.reply → IsPrefix r.note t.told
      → IsCounted s.faults u.faults r.reply → s.faults ≤ u.faults → u.front ≡ s.front → u.told ≡ s.told → Stays u t → HasRuling IsSteady faults base opening change evaluated s reply t
  ruling_made IsSteady faults base opening change evaluated r reply s u t request given is own reply_is note counted later front told p = record {
    ruled = r;
    request = request;
    given = given;
    is = is;
    own = subst (λ (o : Option (Publishing K)). HasRuled base s.clerk o r) (sym p.clerk) own;
    reply_is = reply_is;
    note = note;
    counted = λ e. subst (λ (n : ℕ). Rose s.faults n) (sym p.faults) (counted (sym reply_is ∙ e));
    later = subst (λ (n : ℕ). s.faults ≤ n) (sym p.faults) later;
    front = subst (λ (es : List Entry). IsPrefix es t.front) front p.front;
    told = subst (λ (es : List Entry). IsPrefix es t.told) told p.told;
  }

  shown_from : (first : Option (List Airfield)) (o : Option Evaluating) (s u t : Sitting K) → Stays s u
      → IfSome o (λ e. (e.front ≡ t.front) × IsPrefix u.told t.front × IsPrefix t.front t.told × IsEvaluation first e)
      → IfSome o (λ e. (e.front ≡ t.front) × IsPrefix s.told t.front × IsPrefix t.front t.told × IsEvaluation first e)
  shown_from first None s u t p h = tt
  shown_from first (Some e) s u t p h = (h.0, prefix_trans s.told u.told t.front p.told h.1, h.2, h.3)

  evaluated_from : (first : Option (List Airfield)) (change : Asked) (o : Option Evaluating) (s u t : Sitting K) → Stays s u → IsEvaluated first change u o t → IsEvaluated first change s o t
  evaluated_from first change o s u t p h = record {
    shown = shown_from first o s u t p h.shown;
    wanted = subst (λ (c : Option (Publishing K)). IfSome c (λ c. option_map (λ e. e.filing) o ≡ evaluated_site c.clerk.state change.act)) p.clerk h.wanted;
  }

  shown_until : (first : Option (List Airfield)) (o : Option Evaluating) (s u t : Sitting K) → t.front ≡ u.front → IsPrefix u.told t.told
      → IfSome o (λ e. (e.front ≡ u.front) × IsPrefix s.told u.front × IsPrefix u.front u.told × IsEvaluation first e)
      → IfSome o (λ e. (e.front ≡ t.front) × IsPrefix s.told t.front × IsPrefix t.front t.told × IsEvaluation first e)
  shown_until first None s u t same more h = tt
  shown_until first (Some e) s u t same more h = (
    h.0 ∙ sym same,
    subst (λ (es : List Entry). IsPrefix s.told es) (sym same) h.1,
    prefix_trans t.front u.told t.told (subst (λ (es : List Entry). IsPrefix es u.told) (sym same) h.2) more,
    h.3,
  )

  -- what was evaluated is of the version that the seat shows, while it shows it
  evaluated_until : (first : Option (List Airfield)) (change : Asked) (o : Option Evaluating) (s u t : Sitting K) → t.front ≡ u.front → IsPrefix u.told t.told
      → IsEvaluated first change s o u → IsEvaluated first change s o t
  evaluated_until first change o s u t same more h = record { shown = shown_until first o s u t same more h.shown; wanted = h.wanted }

module _ {K : Type 0} (IsSteady : K → Type 0) (faults : K → ℕ) (first : Option (List Airfield)) (base : ℕ) (opening : State) where
  answers_from : (r : Request) (reply : Reply) (s u t : Sitting K) → Stays s u → Answers IsSteady faults first base opening u r reply t → Answers IsSteady faults first base opening s r reply t
  answers_from r reply s u t p (Answers.Shown query is shown looks synced) = Answers.Shown query is shown (looks_from s u t p looks) (synced_from query s u t p synced)
  answers_from r reply s u t p (Answers.Asked query is asked) = Answers.Asked query is (asked_from opening query reply s u t p asked)
  answers_from r reply s u t p (Answers.Changed change is changed) =
      Answers.Changed change is (record {
        evaluated = changed.evaluated;
        evaluates = evaluated_from first change changed.evaluated s u t p changed.evaluates;
        ruling = ruling_from IsSteady faults base opening change changed.evaluated reply s u t p changed.ruling;
      })
  answers_from r reply s u t p (Answers.Wanting is stays) = Answers.Wanting is (stays_on s u t p stays)

  -- what was answered after the seat looked, or learned, was answered after all that came before
  pub tells_from : (r : Request) (old new : List ℕ) (s u t : Sitting K) → Stays s u → Tells IsSteady faults first base opening u r old new t → Tells IsSteady faults first base opening s r old new t
  tells_from r old new s u t p h = record { reply = h.reply; answers = answers_from r h.reply s u t p h.answers; appended = h.appended }

  pub wanting : (r : Request) (old new : List ℕ) (s t : Sitting K) → Stays s t → new ≡ old ++ reply_text no_memory → Tells IsSteady faults first base opening s r old new t
  wanting r old new s t p appended = record { reply = no_memory; answers = Answers.Wanting refl p; appended = appended }

  pub shown : (query : Query) (reply : Reply) (old new : List ℕ) (s t : Sitting K) → IsShownReply first base t.front query reply → Looks s t → IsSynced query s t → new ≡ old ++ reply_text reply
      → Tells IsSteady faults first base opening s (requests.Query query) old new t
  shown query reply old new s t is looks synced appended = record { reply = reply; answers = Answers.Shown query refl is looks synced; appended = appended }

  pub asked : (query : Query) (reply : Reply) (old new : List ℕ) (s t : Sitting K) → HasAsked opening query s reply t → new ≡ old ++ reply_text reply
      → Tells IsSteady faults first base opening s (requests.Query query) old new t
  asked query reply old new s t is appended = record { reply = reply; answers = Answers.Asked query refl is; appended = appended }

  pub changed : (change : Asked) (evaluated : Option Evaluating) (reply : Reply) (old new : List ℕ) (s u t : Sitting K) → Stays s u → t.front ≡ u.front → IsEvaluated first change s evaluated u
      → HasRuling IsSteady faults base opening change evaluated u reply t → new ≡ old ++ reply_text reply → Tells IsSteady faults first base opening s (requests.Change change) old new t
  changed change evaluated reply old new s u t p same is ruling appended = record {
    reply = reply;
    answers = Answers.Changed change refl (record {
      evaluated = evaluated;
      evaluates = evaluated_until first change evaluated s u t same ruling.told is;
      ruling = ruling_from IsSteady faults base opening change evaluated reply s u t p ruling;
    });
    appended = appended;
  }
