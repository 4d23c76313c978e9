-- The forms of records. Lengths and coordinates are whole tenths of a foot.
use Rattle.std.specs.Prelude.{ℕ, List, [], ◌∷◌, ◌≡◌, codes}
use Rattle.wire_values.specs.Words.{weight_word, pavement_word, urgency_word, statement_word, disposal_word, progress_word, warrant_word, grant_word}
use Rattle.wire_values.specs.Wanted.{Wanted, Spelled, Choice, any_number, case_wanted, months_wanted, FieldIdWanted, RunwayNameWanted, WordWanted, CategoryWanted, ApproachesWanted, DateWanted, OptionalDateWanted, CompletionWanted, ImpactWanted, PartyWanted, ReportWanted}
use Rattle.wire_values.specs.Plains.{plain_word}
use Rattle.wire_values.specs.declared.plain.Plain.{Plain}
use Rattle.wire_values.specs.declared.plain.Plain.TheVariants as plains
use Rattle.wire_cursor.specs.Shape.{FirstBad}
use Rattle.wire_cursor.specs.Groups.{coordinate, ground_wanted, height_wanted, site_shape}
use Rattle.wire_requests.specs.declared.form.ActForm.{ActForm}
use Rattle.wire_requests.specs.declared.form.ActForm.TheVariants as act_forms
use Rattle.wire_requests.specs.declared.form.Form.{Form}
use Rattle.wire_requests.specs.declared.form.Form.TheVariants as forms

-- the first field of a changing form
abbrev pub act_word : ActForm → List ℕ
act_word (act_forms.Plain plain) = plain_word plain
act_word act_forms.File = codes "file"
act_word act_forms.Form = codes "form"
act_word act_forms.Determine = codes "determine"
act_word act_forms.Petition = codes "petition"
act_word act_forms.Dispose = codes "dispose"
act_word act_forms.Extend = codes "extend"
act_word act_forms.Revise = codes "revise"
act_word act_forms.Fcc = codes "fcc"
act_word act_forms.Abandon = codes "abandon"

-- the first field of a form
abbrev pub form_word : Form → List ℕ
form_word (forms.Act form) = act_word form
form_word forms.Screen = codes "screen"
form_word forms.Verdict = codes "verdict"
form_word forms.Case = codes "case"
form_word forms.Airfield = codes "airfield"
form_word forms.Review = codes "review"
form_word forms.Report = codes "report"
form_word forms.Sync = codes "sync"

-- the fields after caller and key, of forms whose accepted reply holds nothing but the form's name
abbrev pub plain_shape : Plain → List Wanted
plain_shape plains.Airport = FieldIdWanted ∷ CategoryWanted ∷ coordinate ∷ coordinate ∷ any_number ∷ []
plain_shape plains.Runway = FieldIdWanted ∷ RunwayNameWanted ∷ Choice weight_word ∷ Choice pavement_word
    ∷ coordinate ∷ coordinate ∷ any_number ∷ ApproachesWanted ∷ coordinate ∷ coordinate ∷ any_number ∷ ApproachesWanted ∷ []
plain_shape plains.DropRunway = FieldIdWanted ∷ RunwayNameWanted ∷ []
plain_shape plains.Heliport = FieldIdWanted ∷ CategoryWanted
    ∷ coordinate ∷ coordinate ∷ coordinate ∷ coordinate ∷ any_number ∷ any_number ∷ []
plain_shape plains.Drop = FieldIdWanted ∷ []
plain_shape plains.Day = DateWanted ∷ []
plain_shape plains.Closed = DateWanted ∷ []

-- a notice: the start of work, the applications for a permit and to the FCC, whether it is an emergency, its statement, and the structure
abbrev pub submission_shape : List Wanted
submission_shape = DateWanted ∷ OptionalDateWanted ∷ OptionalDateWanted ∷ Choice urgency_word ∷ Choice statement_word ∷ site_shape

-- the fields of a change after caller and key
abbrev pub act_shape : ActForm → List Wanted
act_shape (act_forms.Plain plain) = plain_shape plain
act_shape act_forms.File = submission_shape
act_shape act_forms.Form = case_wanted ∷ []
act_shape act_forms.Determine = case_wanted ∷ ImpactWanted ∷ []
act_shape act_forms.Petition = case_wanted ∷ PartyWanted ∷ []
act_shape act_forms.Dispose = case_wanted ∷ Choice disposal_word ∷ []
act_shape act_forms.Extend = case_wanted ∷ months_wanted ∷ Choice progress_word ∷ OptionalDateWanted ∷ Choice warrant_word ∷ []
act_shape act_forms.Revise = case_wanted ∷ Choice progress_word ∷ ground_wanted ∷ height_wanted ∷ ImpactWanted ∷ []
act_shape act_forms.Fcc = case_wanted ∷ Choice grant_word ∷ CompletionWanted ∷ []
act_shape act_forms.Abandon = case_wanted ∷ []

-- the fields of each form after the first: for a change the caller, the key, and the fields of the form
abbrev pub fields_of_form : Form → List Wanted
fields_of_form (forms.Act form) = WordWanted ∷ WordWanted ∷ act_shape form
fields_of_form forms.Screen = site_shape
fields_of_form forms.Verdict = site_shape
fields_of_form forms.Case = case_wanted ∷ []
fields_of_form forms.Airfield = FieldIdWanted ∷ []
fields_of_form forms.Review = []
fields_of_form forms.Report = ReportWanted ∷ []
fields_of_form forms.Sync = []

-- all fields of each form
abbrev pub shape_of : Form → List Wanted
shape_of form = Spelled (form_word form) ∷ fields_of_form form

-- the first field is this word
abbrev pub BeginsWith : List ℕ → List (List ℕ) → Type 0
BeginsWith word [] = ⊥
BeginsWith word (first ∷ others) = first ≡ word

-- the first field that no record with the same earlier fields has: the first where the fields begin with the word of no form,
-- else the first that does not fit the form
pub data FirstWrong (fields : List (List ℕ)) (n : ℕ) : Type 0 where
  NoForm : ((form : Form) → ¬ BeginsWith (form_word form) fields) → n ≡ 1 → FirstWrong fields n
  InForm : (form : Form) → BeginsWith (form_word form) fields → FirstBad (shape_of form) [] fields 1 n → FirstWrong fields n
