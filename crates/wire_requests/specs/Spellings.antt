-- The one spelling of each request, field by field.
use Rattle.std.specs.Prelude.{ℕ, List, [], ◌∷◌, is_some}
use Rattle.std.specs.Fmt.{decimal, signed_decimal}
use Rattle.airfields.specs.declared.runway.Runway.{Runway}
use Rattle.airfields.specs.declared.airfield.Heliport.{Heliport}
use Rattle.airport_register.specs.declared.amendment.Amendment.{Amendment}
use Rattle.airport_register.specs.declared.amendment.Amendment.TheVariants as amendments
use Rattle.determination_dates.specs.Text.{date_text}
use Rattle.case_requests.specs.declared.act.Act.{Act}
use Rattle.case_requests.specs.declared.act.Act.TheVariants as acts
use Rattle.case_requests.specs.declared.submission.Submission.{Submission}
use Rattle.wire_values.specs.Words.{category_word, approaches_text, weight_word, pavement_word, urgency_word, statement_word, disposal_word, progress_word, warrant_word, grant_word, impact_word, party_word, optional_date, report_word}
use Rattle.wire_values.specs.declared.plain.Plain.{Plain}
use Rattle.wire_values.specs.declared.plain.Plain.TheVariants as plains
use Rattle.wire_cursor.specs.Groups.{site_fields}
use Rattle.wire_requests.specs.Forms.{act_word, form_word}
use Rattle.wire_requests.specs.declared.form.ActForm.{ActForm}
use Rattle.wire_requests.specs.declared.form.ActForm.TheVariants as act_forms
use Rattle.wire_requests.specs.declared.form.Form.{Form}
use Rattle.wire_requests.specs.declared.form.Form.TheVariants as forms
use Rattle.wire_requests.specs.declared.request.Query.{Query}
use Rattle.wire_requests.specs.declared.request.Query.TheVariants as queries
use Rattle.wire_requests.specs.Changes.{Asked}

-- the fields of a runway after its airport
abbrev pub runway_fields : Runway → List (List ℕ)
runway_fields r = r.name ∷ weight_word r.utility ∷ pavement_word r.hard
    ∷ signed_decimal r.end1.at.x ∷ signed_decimal r.end1.at.y ∷ signed_decimal r.end1.z ∷ approaches_text r.end1.kind r.end1.planned
    ∷ signed_decimal r.end2.at.x ∷ signed_decimal r.end2.at.y ∷ signed_decimal r.end2.z ∷ approaches_text r.end2.kind r.end2.planned ∷ []

abbrev pub heliport_fields : Heliport → List (List ℕ)
heliport_fields h = h.id ∷ category_word h.category ∷ signed_decimal h.a.x ∷ signed_decimal h.a.y
    ∷ signed_decimal h.b.x ∷ signed_decimal h.b.y ∷ signed_decimal h.width ∷ signed_decimal h.elevation ∷ []

-- the fields of an amendment after caller and key
abbrev pub amendment_fields : Amendment → List (List ℕ)
amendment_fields (amendments.PutAirport id category arp elevation) =
    id ∷ category_word category ∷ signed_decimal arp.x ∷ signed_decimal arp.y ∷ signed_decimal elevation ∷ []
amendment_fields (amendments.PutRunway id runway) = id ∷ runway_fields runway
amendment_fields (amendments.DropRunway id name) = id ∷ name ∷ []
amendment_fields (amendments.PutHeliport heliport) = heliport_fields heliport
amendment_fields (amendments.Drop id) = id ∷ []

-- the fields of a notice
abbrev pub submission_fields : Submission → List (List ℕ)
submission_fields s = date_text s.start ∷ optional_date s.permit ∷ optional_date s.fcc ∷ urgency_word s.emergency ∷ statement_word s.statement
    ∷ site_fields s.filing

-- the fields of an act after caller and key
abbrev pub act_fields : Act → List (List ℕ)
act_fields (acts.Amend amendment) = amendment_fields amendment
act_fields (acts.Day date) = date_text date ∷ []
act_fields (acts.Closed date) = date_text date ∷ []
act_fields (acts.File submission) = submission_fields submission
act_fields (acts.Form n) = decimal n ∷ []
act_fields (acts.Determine n finding) = decimal n ∷ impact_word finding ∷ []
act_fields (acts.Petition n party) = decimal n ∷ party_word party ∷ []
act_fields (acts.Dispose n affirm) = decimal n ∷ disposal_word affirm ∷ []
act_fields (acts.Extend n months started filed warranted) =
    decimal n ∷ decimal months ∷ progress_word started ∷ optional_date filed ∷ warrant_word warranted ∷ []
act_fields (acts.Revise n started terrain height finding) =
    decimal n ∷ progress_word started ∷ signed_decimal terrain ∷ signed_decimal height ∷ impact_word finding ∷ []
act_fields (acts.Fcc n completion) = decimal n ∷ grant_word (is_some completion) ∷ optional_date completion ∷ []
act_fields (acts.Abandon n) = decimal n ∷ []

-- the form of an amendment
abbrev pub plain_of : Amendment → Plain
plain_of (amendments.PutAirport id category arp elevation) = plains.Airport
plain_of (amendments.PutRunway id runway) = plains.Runway
plain_of (amendments.DropRunway id name) = plains.DropRunway
plain_of (amendments.PutHeliport heliport) = plains.Heliport
plain_of (amendments.Drop id) = plains.Drop

-- the form of an act
abbrev pub act_form : Act → ActForm
act_form (acts.Amend amendment) = act_forms.Plain (plain_of amendment)
act_form (acts.Day date) = act_forms.Plain plains.Day
act_form (acts.Closed date) = act_forms.Plain plains.Closed
act_form (acts.File submission) = act_forms.File
act_form (acts.Form n) = act_forms.Form
act_form (acts.Determine n finding) = act_forms.Determine
act_form (acts.Petition n party) = act_forms.Petition
act_form (acts.Dispose n affirm) = act_forms.Dispose
act_form (acts.Extend n months started filed warranted) = act_forms.Extend
act_form (acts.Revise n started terrain height finding) = act_forms.Revise
act_form (acts.Fcc n completion) = act_forms.Fcc
act_form (acts.Abandon n) = act_forms.Abandon

-- a change: its form, the caller, the key, and the fields of the content
abbrev pub change_spelling : Asked → List (List ℕ)
change_spelling c = act_word (act_form c.act) ∷ c.caller ∷ c.key ∷ act_fields c.act

abbrev pub query_form : Query → Form
query_form (queries.Screen site) = forms.Screen
query_form (queries.Verdict site) = forms.Verdict
query_form (queries.Case n) = forms.Case
query_form (queries.Airfield id) = forms.Airfield
query_form queries.Review = forms.Review
query_form (queries.Report kind) = forms.Report
query_form queries.Sync = forms.Sync

abbrev pub query_fields : Query → List (List ℕ)
query_fields (queries.Screen site) = site_fields site
query_fields (queries.Verdict site) = site_fields site
query_fields (queries.Case n) = decimal n ∷ []
query_fields (queries.Airfield id) = id ∷ []
query_fields queries.Review = []
query_fields (queries.Report kind) = report_word kind ∷ []
query_fields queries.Sync = []

abbrev pub query_spelling : Query → List (List ℕ)
query_spelling q = form_word (query_form q) ∷ query_fields q
