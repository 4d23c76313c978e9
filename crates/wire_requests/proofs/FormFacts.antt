-- The first field of a record names its form.
use Rattle.std.proofs.Common.{arith, ◌≡◌, ◌≢◌, ◌≤◌, ◌+◌, List, [], ◌∷◌, ℕ, codes, length, refl, ap, sym, subst, ◌∙◌, inl, inr, Result, Ok, Err, IfErr}
use Rattle.wire_values.specs.Wanted.{Wanted, Spelled}
use Rattle.wire_values.specs.declared.plain.Plain.TheVariants as plains
use Rattle.wire_cursor.specs.Shape.{FirstBad, Place, beginning, Took, IsBad}
use Rattle.wire_requests.specs.Forms.{form_word, fields_of_form, shape_of, BeginsWith, FirstWrong, NoForm, InForm}
use Rattle.wire_requests.specs.Readings.{IsReading}
use Rattle.wire_requests.specs.Requests.{spelling}
use Rattle.wire_cursor.specs.declared.cursor.BadField.{BadField}
use Rattle.wire_requests.specs.declared.form.ActForm.TheVariants as act_forms
use Rattle.wire_requests.specs.declared.form.Form.{Form}
use Rattle.wire_requests.specs.declared.form.Form.TheVariants as forms
use Rattle.wire_requests.specs.declared.request.Request.{Request}

-- a word that is that of no form
pub no_form : (word : List ℕ) → word ≢ codes "screen" → word ≢ codes "airport" → word ≢ codes "runway" → word ≢ codes "droprunway" → word ≢ codes "heliport"
    → word ≢ codes "drop" → word ≢ codes "day" → word ≢ codes "closed" → word ≢ codes "file" → word ≢ codes "form" → word ≢ codes "determine" → word ≢ codes "petition" → word ≢ codes "dispose"
    → word ≢ codes "extend" → word ≢ codes "revise" → word ≢ codes "fcc" → word ≢ codes "abandon" → word ≢ codes "verdict" → word ≢ codes "case" → word ≢ codes "airfield" → word ≢ codes "review"
    → word ≢ codes "report" → word ≢ codes "sync" → (form : Form) → word ≢ form_word form
no_form word n0 n1 n2 n3 n4 n5 n6 n7 n8 n9 n10 n11 n12 n13 n14 n15 n16 n17 n18 n19 n20 n21 n22 forms.Screen = n0
no_form word n0 n1 n2 n3 n4 n5 n6 n7 n8 n9 n10 n11 n12 n13 n14 n15 n16 n17 n18 n19 n20 n21 n22 (forms.Act (act_forms.Plain plains.Airport)) = n1
no_form word n0 n1 n2 n3 n4 n5 n6 n7 n8 n9 n10 n11 n12 n13 n14 n15 n16 n17 n18 n19 n20 n21 n22 (forms.Act (act_forms.Plain plains.Runway)) = n2
no_form word n0 n1 n2 n3 n4 n5 n6 n7 n8 n9 n10 n11 n12 n13 n14 n15 n16 n17 n18 n19 n20 n21 n22 (forms.Act (act_forms.Plain plains.DropRunway)) = n3
no_form word n0 n1 n2 n3 n4 n5 n6 n7 n8 n9 n10 n11 n12 n13 n14 n15 n16 n17 n18 n19 n20 n21 n22 (forms.Act (act_forms.Plain plains.Heliport)) = n4
no_form word n0 n1 n2 n3 n4 n5 n6 n7 n8 n9 n10 n11 n12 n13 n14 n15 n16 n17 n18 n19 n20 n21 n22 (forms.Act (act_forms.Plain plains.Drop)) = n5
no_form word n0 n1 n2 n3 n4 n5 n6 n7 n8 n9 n10 n11 n12 n13 n14 n15 n16 n17 n18 n19 n20 n21 n22 (forms.Act (act_forms.Plain plains.Day)) = n6
no_form word n0 n1 n2 n3 n4 n5 n6 n7 n8 n9 n10 n11 n12 n13 n14 n15 n16 n17 n18 n19 n20 n21 n22 (forms.Act (act_forms.Plain plains.Closed)) = n7
no_form word n0 n1 n2 n3 n4 n5 n6 n7 n8 n9 n10 n11 n12 n13 n14 n15 n16 n17 n18 n19 n20 n21 n22 (forms.Act act_forms.File) = n8
no_form word n0 n1 n2 n3 n4 n5 n6 n7 n8 n9 n10 n11 n12 n13 n14 n15 n16 n17 n18 n19 n20 n21 n22 (forms.Act act_forms.Form) = n9
no_form word n0 n1 n2 n3 n4 n5 n6 n7 n8 n9 n10 n11 n12 n13 n14 n15 n16 n17 n18 n19 n20 n21 n22 (forms.Act act_forms.Determine) = n10
no_form word n0 n1 n2 n3 n4 n5 n6 n7 n8 n9 n10 n11 n12 n13 n14 n15 n16 n17 n18 n19 n20 n21 n22 (forms.Act act_forms.Petition) = n11
no_form word n0 n1 n2 n3 n4 n5 n6 n7 n8 n9 n10 n11 n12 n13 n14 n15 n16 n17 n18 n19 n20 n21 n22 (forms.Act act_forms.Dispose) = n12
no_form word n0 n1 n2 n3 n4 n5 n6 n7 n8 n9 n10 n11 n12 n13 n14 n15 n16 n17 n18 n19 n20 n21 n22 (forms.Act act_forms.Extend) = n13
no_form word n0 n1 n2 n3 n4 n5 n6 n7 n8 n9 n10 n11 n12 n13 n14 n15 n16 n17 n18 n19 n20 n21 n22 (forms.Act act_forms.Revise) = n14
no_form word n0 n1 n2 n3 n4 n5 n6 n7 n8 n9 n10 n11 n12 n13 n14 n15 n16 n17 n18 n19 n20 n21 n22 (forms.Act act_forms.Fcc) = n15
no_form word n0 n1 n2 n3 n4 n5 n6 n7 n8 n9 n10 n11 n12 n13 n14 n15 n16 n17 n18 n19 n20 n21 n22 (forms.Act act_forms.Abandon) = n16
no_form word n0 n1 n2 n3 n4 n5 n6 n7 n8 n9 n10 n11 n12 n13 n14 n15 n16 n17 n18 n19 n20 n21 n22 forms.Verdict = n17
no_form word n0 n1 n2 n3 n4 n5 n6 n7 n8 n9 n10 n11 n12 n13 n14 n15 n16 n17 n18 n19 n20 n21 n22 forms.Case = n18
no_form word n0 n1 n2 n3 n4 n5 n6 n7 n8 n9 n10 n11 n12 n13 n14 n15 n16 n17 n18 n19 n20 n21 n22 forms.Airfield = n19
no_form word n0 n1 n2 n3 n4 n5 n6 n7 n8 n9 n10 n11 n12 n13 n14 n15 n16 n17 n18 n19 n20 n21 n22 forms.Review = n20
no_form word n0 n1 n2 n3 n4 n5 n6 n7 n8 n9 n10 n11 n12 n13 n14 n15 n16 n17 n18 n19 n20 n21 n22 forms.Report = n21
no_form word n0 n1 n2 n3 n4 n5 n6 n7 n8 n9 n10 n11 n12 n13 n14 n15 n16 n17 n18 n19 n20 n21 n22 forms.Sync = n22

-- the reader took the first field, the word of this form
abbrev TookForm : Form → Place → Place → Type 0
TookForm form start now = Took (Spelled (form_word form) ∷ []) (form_word form ∷ []) start now

begins_with : (form : Form) (fields rest : List (List ℕ)) → fields ≡ form_word form ∷ rest → BeginsWith (form_word form) fields
begins_with form fields rest e = rw e refl

-- the fields are those of the request that is read of them
pub all_fields : (form : Form) (r : Request) (fields : List (List ℕ)) (start now : Place) → start ≡ beginning fields → TookForm form start now → IsReading form r now
    → fields ≡ spelling r
all_fields form r fields start now e p h = ap (λ s. s.rest) (sym e) ∙ p.read ∙ h.fields

-- a bad field after the first is the first wrong one
in_form : (form : Form) (fields : List (List ℕ)) (start now : Place) (n : ℕ) → start ≡ beginning fields → TookForm form start now → IsBad (fields_of_form form) now n
    → FirstWrong fields n
in_form form fields start now n e p h =
    let q : TookForm form (beginning fields) now = subst (λ s. TookForm form s now) e p in
    InForm form (begins_with form fields now.rest q.read) (q.bad (fields_of_form form) n h.first)

pub wrong_form : (form : Form) (fields : List (List ℕ)) (start now : Place) (r : Result Request BadField) → start ≡ beginning fields → TookForm form start now
    → IfErr r (λ b. IsBad (fields_of_form form) now (b.before + 1)) → IfErr r (λ b. FirstWrong fields (b.before + 1))
wrong_form form fields start now (Ok x) e p h = tt
wrong_form form fields start now (Err b) e p h = in_form form fields start now (b.before + 1) e p h

-- the first bad field is at most one past those that are wanted
bad_early : (ws : List Wanted) (before : List ℕ) (fields : List (List ℕ)) (number n : ℕ) → FirstBad ws before fields number n → n ≤ number + length ws
bad_early [] before [] number n h = absurd h
bad_early [] before (f ∷ fs) number n h = omega (arith, h)
bad_early (w ∷ ws) before [] number n h = omega (arith, h)
bad_early (w ∷ ws) before (f ∷ fs) number n (inl h) = omega (arith, bad_early ws f fs (number + 1) n h.1)
bad_early (w ∷ ws) before (f ∷ fs) number n (inr h) = omega (arith, h.1)

pub short_shape : (form : Form) → length (shape_of form) ≤ 16
short_shape forms.Screen = omega arith
short_shape (forms.Act (act_forms.Plain plains.Airport)) = omega arith
short_shape (forms.Act (act_forms.Plain plains.Runway)) = omega arith
short_shape (forms.Act (act_forms.Plain plains.DropRunway)) = omega arith
short_shape (forms.Act (act_forms.Plain plains.Heliport)) = omega arith
short_shape (forms.Act (act_forms.Plain plains.Drop)) = omega arith
short_shape (forms.Act (act_forms.Plain plains.Day)) = omega arith
short_shape (forms.Act (act_forms.Plain plains.Closed)) = omega arith
short_shape (forms.Act act_forms.File) = omega arith
short_shape (forms.Act act_forms.Form) = omega arith
short_shape (forms.Act act_forms.Determine) = omega arith
short_shape (forms.Act act_forms.Petition) = omega arith
short_shape (forms.Act act_forms.Dispose) = omega arith
short_shape (forms.Act act_forms.Extend) = omega arith
short_shape (forms.Act act_forms.Revise) = omega arith
short_shape (forms.Act act_forms.Fcc) = omega arith
short_shape (forms.Act act_forms.Abandon) = omega arith
short_shape forms.Verdict = omega arith
short_shape forms.Case = omega arith
short_shape forms.Airfield = omega arith
short_shape forms.Review = omega arith
short_shape forms.Report = omega arith
short_shape forms.Sync = omega arith

-- so the number of a wrong field is small
pub wrong_early : (fields : List (List ℕ)) (n : ℕ) → FirstWrong fields n → n ≤ 17
wrong_early fields n (NoForm h e) = omega arith
wrong_early fields n (InForm form f b) = omega (arith, bad_early (shape_of form) [] fields 1 n b, short_shape form)
