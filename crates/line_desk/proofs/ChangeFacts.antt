-- Changes: what was answered is what the desk decides, or want of memory, or that the keeper failed.
use Rattle.std.proofs.Common.{◌≡◌, ◌≢◌, ◌⊎◌, inl, inr, ℕ, List, ◌++◌, sym, ap, ◌∙◌, refl}
use Rattle.wire_requests.specs.Changes.{Asked}
use Rattle.wire_requests.specs.declared.request.Request.TheVariants as requests
use Rattle.wire_replies.specs.Replies.{reply_text}
use Rattle.case_records.specs.declared.refusal.Refusal.{Refusal}
use Rattle.case_records.specs.declared.refusal.Refusal.TheVariants as refusals
use Rattle.desk_machine.specs.Machine.{state_after}
use Rattle.filing_desk.specs.Answers.{answer_of, decision}
use Rattle.filing_desk.specs.Clerks.{Clerking, Advances}
use Rattle.filing_desk.specs.Served.{HasCause}
use Rattle.filing_desk.specs.declared.answer.Answer.{Answer}
use Rattle.filing_desk.specs.declared.answer.Answer.TheVariants as answers
use Rattle.line_desk.specs.Desk.{Tells, Decided, NoRoom, NotKept, change_reply, serving}

-- the ways in which a request is refused
abbrev pub Ways : Refusal → Type 0
Ways why = (why ≡ refusals.NoMemory) ⊎ (why ≡ refusals.KeeperFault) ⊎ ((why ≢ refusals.NoMemory) × (why ≢ refusals.KeeperFault))

pub ways : (why : Refusal) → Ways why
ways refusals.NoMemory = inl refl
ways refusals.PrecisionOnUtility = inr (inr (λ e. cc (e), λ e. cc (e)))
ways refusals.UnknownAirfield = inr (inr (λ e. cc (e), λ e. cc (e)))
ways refusals.UnknownRunway = inr (inr (λ e. cc (e), λ e. cc (e)))
ways refusals.RunwayLength = inr (inr (λ e. cc (e), λ e. cc (e)))
ways refusals.RunwayFar = inr (inr (λ e. cc (e), λ e. cc (e)))
ways refusals.TooManyRunways = inr (inr (λ e. cc (e), λ e. cc (e)))
ways refusals.RegisterFull = inr (inr (λ e. cc (e), λ e. cc (e)))
ways refusals.ElevationRange = inr (inr (λ e. cc (e), λ e. cc (e)))
ways refusals.HeliportShape = inr (inr (λ e. cc (e), λ e. cc (e)))
ways refusals.WrongKind = inr (inr (λ e. cc (e), λ e. cc (e)))
ways refusals.DateRange = inr (inr (λ e. cc (e), λ e. cc (e)))
ways (refusals.Malformed field) = inr (inr (λ e. cc (e), λ e. cc (e)))
ways refusals.UnknownCase = inr (inr (λ e. cc (e), λ e. cc (e)))
ways refusals.CasesFull = inr (inr (λ e. cc (e), λ e. cc (e)))
ways (refusals.DayBack kept day) = inr (inr (λ e. cc (e), λ e. cc (e)))
ways (refusals.NotStanding status) = inr (inr (λ e. cc (e), λ e. cc (e)))
ways refusals.FindingWanted = inr (inr (λ e. cc (e), λ e. cc (e)))
ways refusals.FindingUnwanted = inr (inr (λ e. cc (e), λ e. cc (e)))
ways refusals.NotReviewable = inr (inr (λ e. cc (e), λ e. cc (e)))
ways (refusals.PetitionLate deadline day) = inr (inr (λ e. cc (e), λ e. cc (e)))
ways refusals.PetitionPending = inr (inr (λ e. cc (e), λ e. cc (e)))
ways refusals.NothingPending = inr (inr (λ e. cc (e), λ e. cc (e)))
ways (refusals.ExtensionLate last_day day) = inr (inr (λ e. cc (e), λ e. cc (e)))
ways refusals.WorkStarted = inr (inr (λ e. cc (e), λ e. cc (e)))
ways refusals.AlreadyExtended = inr (inr (λ e. cc (e), λ e. cc (e)))
ways refusals.FccEvidence = inr (inr (λ e. cc (e), λ e. cc (e)))
ways (refusals.KeyReused n) = inr (inr (λ e. cc (e), λ e. cc (e)))
ways refusals.NoDay = inr (inr (λ e. cc (e), λ e. cc (e)))
ways refusals.KeeperFault = inr (inl refl)
ways refusals.NoFormDue = inr (inr (λ e. cc (e), λ e. cc (e)))
ways refusals.SameFacts = inr (inr (λ e. cc (e), λ e. cc (e)))
ways refusals.TooManyRevisions = inr (inr (λ e. cc (e), λ e. cc (e)))

module _ {K : Type 0} (IsSteady : K → Type 0) (faults : K → ℕ) (k l : Clerking K) (q : Asked) where
  refused : (why : Refusal) (old new : List ℕ) → Ways why → Advances (decision k.state q) k l (answers.Refused why)
      → HasCause IsSteady faults (decision k.state q) k.keeper l.keeper (answers.Refused why) → new ≡ old ++ reply_text (change_reply (answers.Refused why)) → Tells IsSteady faults (serving k) (requests.Change q) old new (serving l)
  refused why old new (inl e) h cause t = NoRoom (t ∙ ap (λ (w : Refusal). old ++ reply_text (change_reply (answers.Refused w))) e) h.1 cause.later
  refused why old new (inr (inl e)) h cause t =
      let failed = cause.failed e in
      NotKept q refl failed.0 (t ∙ ap (λ (w : Refusal). old ++ reply_text (change_reply (answers.Refused w))) e) h.1 cause.later failed.1
  refused why old new (inr (inr (other, kept))) h cause t =
      Decided (change_reply (answer_of (decision k.state q))) refl (t ∙ ap (λ d. old ++ reply_text (change_reply (answer_of d))) (sym (h.0 other kept)))
      (h.1 ∙ ap (state_after k.state) (sym (h.0 other kept))) cause.later

  pub changed : (a : Answer) (old new : List ℕ) → Advances (decision k.state q) k l a → HasCause IsSteady faults (decision k.state q) k.keeper l.keeper a → new ≡ old ++ reply_text (change_reply a)
      → Tells IsSteady faults (serving k) (requests.Change q) old new (serving l)
  changed (answers.Accepted number outcome) old new h cause t =
      Decided (change_reply (answer_of (decision k.state q))) refl (t ∙ ap (λ r. old ++ reply_text (change_reply r)) (sym h.0)) h.1 cause.later
  changed (answers.Refused why) old new h cause t = refused why old new (ways why) h cause t
