-- Questions: what was appended is the reply.
use Rattle.std.proofs.Common.{◌≡◌, refl, arith, ap, ◌∙◌, inl, inr, ℕ, List, [], ◌++◌, false, Result, Ok, Err}
use Rattle.std.specs.Result.{OnOk, OnErr, is_err}
use Rattle.airfields.specs.Sites.{Site}
use Rattle.finding_lists.specs.declared.finding.Finding.{Finding}
use Rattle.oe_findings.specs.List.{findings_of}
use Rattle.wire_replies.specs.Replies.{reply_text}
use Rattle.wire_replies.specs.declared.reply.Reply.{Reply}
use Rattle.wire_replies.specs.declared.reply.Reply.TheVariants as replies
use Rattle.wire_requests.specs.declared.request.Query.{Query}
use Rattle.wire_requests.specs.declared.request.Query.TheVariants as queries
use Rattle.wire_requests.specs.declared.request.Request.{Request}
use Rattle.wire_requests.specs.declared.request.Request.TheVariants as requests
use Rattle.desk_machine.specs.States.{last_number}
use Rattle.desk_queries.specs.Queries.{IsAnswer, no_memory}
use Rattle.desk_receipts.specs.Keepers.{IsLater}
use Rattle.line_desk.specs.Desk.{IsAfter, Serving, Tells, Decided, NoRoom}

module _ {K : Type 0} (IsSteady : K → Type 0) (faults : K → ℕ) (k : Serving K) (old new : List ℕ) where
  -- a question leaves the keeper as it is
  as_before : IsLater IsSteady faults k.keeper k.keeper
  as_before = record { steady = λ s. s; counted = omega (arith) }

  pub no_room : (r : Request) → new ≡ old ++ reply_text no_memory → Tells IsSteady faults k r old new k
  no_room r t = NoRoom t refl as_before

  pub found_told : (site : Site) (last : ℕ) (list : List Finding) → last ≡ last_number k.state → list ≡ findings_of k.state.register site → new ≡ old ++ reply_text (replies.Found last list) → Tells IsSteady faults k (requests.Query (queries.Screen site)) old new k
  found_told site last list n e t = Decided (replies.Found last list) (ap (λ (n : ℕ). replies.Found n list) n ∙ ap (replies.Found (last_number k.state)) e) t refl as_before

  pub query_told : (query : Query) (reply : Reply) → IsAnswer k.state query reply → new ≡ old ++ reply_text reply → Tells IsSteady faults k (requests.Query query) old new k
  query_told query reply (inl is) t = Decided reply is t refl as_before
  query_told query reply (inr e) t = NoRoom (t ∙ ap (λ (r : Reply). old ++ reply_text r) e) refl as_before

-- the same, where the text of the reply may not be there whole
module _ {K : Type 0} (IsSteady : K → Type 0) (faults : K → ℕ) (k : Serving K) where
  pub found_after : (site : Site) → IsAfter IsSteady faults k (requests.Query (queries.Screen site)) k
  found_after site =
      let last = last_number k.state in
      let list = findings_of k.state.register site in
      (reply_text (replies.Found last list), found_told IsSteady faults k [] (reply_text (replies.Found last list)) site last list refl refl refl)

  pub query_after : (query : Query) (reply : Reply) → IsAnswer k.state query reply → IsAfter IsSteady faults k (requests.Query query) k
  query_after query reply is = (reply_text reply, query_told IsSteady faults k [] (reply_text reply) query reply is refl)

-- ---- where a call answered Ok, or Err

pub on_ok : {A E P Q : Type 0} (r : Result A E) → (P → Q) → OnOk r P → OnOk r Q
on_ok (Ok x) f p = f p
on_ok (Err e) f p = tt

pub ok_shown : {A E P : Type 0} (r : Result A E) → false ≡ is_err r → OnOk r P → P
ok_shown (Ok x) h p = p
ok_shown (Err e) h p = absurd (cc (h))

pub on_err : {A E P : Type 0} (r : Result A E) → P → OnErr r P
on_err (Ok x) p = tt
on_err (Err e) p = p

pub err_shown : {A E P Q : Type 0} (r : Result A E) → (P → Q) → OnErr r P → OnErr r Q
err_shown (Ok x) f p = tt
err_shown (Err e) f p = f p
