-- The status of each reply, by its text.
use Rattle.std.proofs.Common.{◌≡◌, refl}
use Rattle.std.specs.Fmt.{digits}
use Rattle.case_records.specs.declared.refusal.Refusal.{Refusal}
use Rattle.case_records.specs.declared.refusal.Refusal.TheVariants as refusals
use Rattle.wire_replies.specs.Replies.{refused_text, reply_text}
use Rattle.wire_replies.specs.declared.reply.Reply.{Reply}
use Rattle.wire_replies.specs.declared.reply.Reply.TheVariants as replies
use Rattle.http_session.specs.Statuses.{refusal_status, reply_status, status_of}

refused : (why : Refusal) → status_of (refused_text why) ≡ refusal_status why
unfolding digits
refused refusals.PrecisionOnUtility = refl
refused refusals.UnknownAirfield = refl
refused refusals.UnknownRunway = refl
refused refusals.RunwayLength = refl
refused refusals.RunwayFar = refl
refused refusals.TooManyRunways = refl
refused refusals.RegisterFull = refl
refused refusals.ElevationRange = refl
refused refusals.HeliportShape = refl
refused refusals.WrongKind = refl
refused refusals.DateRange = refl
refused (refusals.Malformed field) = refl
refused refusals.UnknownCase = refl
refused refusals.CasesFull = refl
refused (refusals.DayBack kept day) = refl
refused (refusals.NotStanding status) = refl
refused refusals.FindingWanted = refl
refused refusals.FindingUnwanted = refl
refused refusals.NotReviewable = refl
refused (refusals.PetitionLate deadline day) = refl
refused refusals.PetitionPending = refl
refused refusals.NothingPending = refl
refused (refusals.ExtensionLate last_day day) = refl
refused refusals.WorkStarted = refl
refused refusals.AlreadyExtended = refl
refused refusals.FccEvidence = refl
refused (refusals.KeyReused entry) = refl
refused refusals.NoDay = refl
refused refusals.KeeperFault = refl
refused refusals.NoMemory = refl
refused refusals.NoFormDue = refl
refused refusals.SameFacts = refl
refused refusals.TooManyRevisions = refl

pub reply_has : (reply : Reply) → status_of (reply_text reply) ≡ reply_status reply
reply_has (replies.Refused why) = refused why
reply_has (replies.Report table) = refl
reply_has (replies.Accepted entry published outcome) = refl
reply_has (replies.Found last list) = refl
reply_has (replies.Verdict last verdict) = refl
reply_has (replies.Case view) = refl
reply_has (replies.Airfield row) = refl
reply_has (replies.Review cases) = refl
reply_has (replies.Synced last) = refl
