-- The texts of replies, each with the line feed that ends it.
use Rattle.std.specs.Prelude.{ℕ, List, ◌++◌, length, map, Bool, codes, if◌then◌else◌}
use Rattle.std.specs.Fmt.{decimal}
use Rattle.finding_lists.specs.declared.finding.Finding.{Finding}
use Rattle.finding_lists.specs.declared.verdict.Verdict.{Verdict}
use Rattle.case_records.specs.declared.outcome.Outcome.{Outcome}
use Rattle.case_records.specs.declared.refusal.Refusal.{Refusal}
use Rattle.wire_values.specs.Commas.{with_commas}
use Rattle.wire_replies.specs.Cases.{case_text}
use Rattle.wire_replies.specs.Entries.{list_text}
use Rattle.wire_replies.specs.Outcomes.{outcome_text}
use Rattle.wire_replies.specs.Refusals.{refusal_number, refusal_name, refusal_values}
use Rattle.wire_replies.specs.declared.reply.Reply.{Reply}
use Rattle.wire_replies.specs.declared.reply.Reply.TheVariants as replies

abbrev pub publication_word : Bool → List ℕ
publication_word published = if published then codes "published" else codes "waiting"

-- an accepted request: its entry's number, whether every session sees it, and its outcome
abbrev pub accepted_text : ℕ → Bool → Outcome → List ℕ
accepted_text entry published outcome = codes "ok," ++ decimal entry ++ codes "," ++ publication_word published ++ codes "," ++ outcome_text outcome ++ codes "\n"

-- a refused request
abbrev pub refused_text : Refusal → List ℕ
refused_text refusal = codes "no," ++ decimal (refusal_number refusal) ++ codes "," ++ refusal_name refusal ++ refusal_values refusal ++ codes "\n"

-- the list of findings; `last` is the number of the register's last entry
abbrev pub found_text : ℕ → List Finding → List ℕ
found_text last list = codes "found," ++ decimal last ++ list_text list ++ codes "\n"

abbrev pub yes_word : Bool → List ℕ
yes_word holds = if holds then codes "yes" else codes "no"

-- the verdict on a list of findings: `last`, the number of the register's last entry, whether notice is required, whether a standard
-- is exceeded, and the number of findings
abbrev pub verdict_text : ℕ → Verdict → List ℕ
verdict_text last v = codes "verdict," ++ decimal last ++ codes "," ++ yes_word v.notice
    ++ codes "," ++ yes_word v.obstruction ++ codes "," ++ decimal v.entries ++ codes "\n"

-- an airfield's row
abbrev pub row_text : List ℕ → List ℕ
row_text row = codes "airfield," ++ row ++ codes "\n"

-- cases: their count, and the number of each, a comma before it
abbrev pub cases_text : List ℕ → List ℕ
cases_text cases = decimal (length cases) ++ with_commas (map decimal cases)

abbrev pub review_text : List ℕ → List ℕ
review_text cases = codes "review," ++ cases_text cases ++ codes "\n"

-- the number of the newest entry
abbrev pub synced_text : ℕ → List ℕ
synced_text last = codes "sync," ++ decimal last ++ codes "\n"

-- the text of a reply; a report is its table as it stands
abbrev pub reply_text : Reply → List ℕ
reply_text (replies.Accepted entry published outcome) = accepted_text entry published outcome
reply_text (replies.Refused refusal) = refused_text refusal
reply_text (replies.Found last list) = found_text last list
reply_text (replies.Verdict last verdict) = verdict_text last verdict
reply_text (replies.Case view) = case_text view
reply_text (replies.Airfield row) = row_text row
reply_text (replies.Review cases) = review_text cases
reply_text (replies.Report table) = table
reply_text (replies.Synced last) = synced_text last
