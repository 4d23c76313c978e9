-- The status of a reply.
use Rattle.std.specs.Prelude.{ℕ, Bool, List, ◌++◌, take, length, bytes_eq, codes, if◌then◌else◌}
use Rattle.case_records.specs.declared.refusal.Refusal.{Refusal}
use Rattle.case_records.specs.declared.refusal.Refusal.TheVariants as refusals
use Rattle.wire_replies.specs.declared.reply.Reply.{Reply}
use Rattle.wire_replies.specs.declared.reply.Reply.TheVariants as replies
use Rattle.http_messages.specs.declared.status.TheConstants.{NO_MEMORY}
use Rattle.http_session.specs.declared.status.TheConstants.{CONFLICT, MALFORMED_RECORD, NOT_KEPT, OK}

-- a text begins with another
abbrev pub begins_with : List ℕ → List ℕ → Bool
begins_with front text = bytes_eq front (take (length front) text)

-- by the number of the refusal, if the text is one: 13 is a malformed record, 30 a fault of the keeper of the
-- tables, 31 lack of memory, and any other a rule of the desk
abbrev pub status_of : List ℕ → ℕ
status_of text =
    if begins_with (codes "no,13,") text then MALFORMED_RECORD
    else if begins_with (codes "no,30,") text then NOT_KEPT
    else if begins_with (codes "no,31,") text then NO_MEMORY
    else if begins_with (codes "no,") text then CONFLICT
    else OK

-- the status code of a refusal
abbrev pub refusal_status : Refusal → ℕ
refusal_status (refusals.Malformed field) = MALFORMED_RECORD
refusal_status refusals.KeeperFault = NOT_KEPT
refusal_status refusals.NoMemory = NO_MEMORY
refusal_status _ = CONFLICT

-- and of a reply; the text of a report is free, and has the status that it tells
abbrev pub reply_status : Reply → ℕ
reply_status (replies.Refused why) = refusal_status why
reply_status (replies.Report table) = status_of table
reply_status _ = OK

-- a report as the desk writes it: its table begins with its word
abbrev pub report : List ℕ → Reply
report rest = replies.Report (codes "report," ++ rest)
