-- The replies to queries.
use Rattle.std.specs.Prelude.{◌≡◌, ◌⊎◌, List, Option, Some, None}
use Rattle.airport_register.specs.Amendments.{airfield_at}
use Rattle.airfields.specs.declared.airfield.Airfield.{Airfield}
use Rattle.oe_findings.specs.List.{findings_of}
use Rattle.finding_lists.specs.Verdicts.{verdict_of}
use Rattle.wire_replies.specs.Rows.{airfield_row}
use Rattle.wire_requests.specs.declared.request.Query.{Query}
use Rattle.wire_requests.specs.declared.request.Query.TheVariants as queries
use Rattle.case_records.specs.declared.case.CaseView.{CaseView}
use Rattle.case_records.specs.declared.refusal.Refusal.TheVariants as refusals
use Rattle.desk_machine.specs.States.{State, last_number}
use Rattle.desk_machine.specs.Marks.{case_view, marks}
use Rattle.desk_machine.specs.Reports.{IsExpiryOrder, expiry_rows, review_rows}
use Rattle.oe_reports.specs.Tables.{airfield_table, expiry_table, review_table}
use Rattle.oe_reports.specs.declared.rows.ExpiryRow.{ExpiryRow}
use Rattle.wire_values.specs.declared.report.ReportKind.{ReportKind}
use Rattle.wire_values.specs.declared.report.ReportKind.TheVariants as reports
use Rattle.wire_replies.specs.declared.reply.Reply.{Reply}
use Rattle.wire_replies.specs.declared.reply.Reply.TheVariants as replies

-- the status of a case, and whether it is marked for review
abbrev pub case_reply : Option CaseView → Reply
case_reply None = replies.Refused refusals.UnknownCase
case_reply (Some view) = replies.Case view

-- the row of an airfield
abbrev pub airfield_reply : Option Airfield → Reply
airfield_reply None = replies.Refused refusals.UnknownAirfield
airfield_reply (Some field) = replies.Airfield (airfield_row field)

-- the report of the marked cases, that of the determinations that have an expiry, in order of expiry and case, and that of the airfields
abbrev pub IsReport : State → ReportKind → Reply → Type 0
IsReport s reports.Review reply = reply ≡ replies.Report (review_table (review_rows s))
IsReport s reports.Expiry reply = (rows : List ExpiryRow) × IsExpiryOrder (expiry_rows s) rows × (reply ≡ replies.Report (expiry_table rows))
IsReport s reports.Airfields reply = reply ≡ replies.Report (airfield_table s.register)

-- a screening is answered with the findings over the present airfields, or with their verdict, and `sync` with the number of the last entry
abbrev pub IsQueryReply : State → Query → Reply → Type 0
IsQueryReply s (queries.Screen site) reply = reply ≡ replies.Found (last_number s) (findings_of s.register site)
IsQueryReply s (queries.Verdict site) reply = reply ≡ replies.Verdict (last_number s) (verdict_of (findings_of s.register site))
IsQueryReply s (queries.Case number) reply = reply ≡ case_reply (case_view s number)
IsQueryReply s queries.Review reply = reply ≡ replies.Review (marks s)
IsQueryReply s (queries.Airfield id) reply = reply ≡ airfield_reply (airfield_at s.register id)
IsQueryReply s (queries.Report kind) reply = IsReport s kind reply
IsQueryReply s queries.Sync reply = reply ≡ replies.Synced (last_number s)

-- the refusal for lack of memory
abbrev pub no_memory : Reply
no_memory = replies.Refused refusals.NoMemory

-- a query has its reply, or memory was wanting
abbrev pub IsAnswer : State → Query → Reply → Type 0
IsAnswer s query reply = IsQueryReply s query reply ⊎ (reply ≡ no_memory)
