-- A change that is read has a record, and the fields are its spelling.
use Rattle.std.proofs.Common.{◌≡◌, ℕ, List, [], ◌∷◌, refl, ap, sym, subst, ◌∙◌}
use Rattle.case_requests.specs.declared.act.Act.{Act}
use Rattle.wire_values.specs.Wanted.{WordWanted}
use Rattle.wire_cursor.specs.Shape.{Place, HasShape, Took}
use Rattle.wire_cursor.proofs.ShapeFacts.{all_took}
use Rattle.wire_requests.specs.Changes.{Asked}
use Rattle.wire_requests.specs.Forms.{act_word, act_shape, shape_of}
use Rattle.wire_requests.specs.Spellings.{act_fields, act_form, change_spelling}
use Rattle.wire_requests.specs.Limits.{IsChangeRecord}
use Rattle.wire_requests.specs.Readings.{TookAct, IsReading}
use Rattle.wire_requests.specs.declared.form.ActForm.{ActForm}
use Rattle.wire_requests.specs.declared.form.Form.TheVariants as forms
use Rattle.wire_requests.specs.declared.request.Request.TheVariants as requests

asked : List ℕ → List ℕ → Act → Asked
asked caller key a = record { caller = caller; key = key; act = a }

-- such a change has the shape of its form
record_of : (form : ActForm) (caller key : List ℕ) (a : Act) (old now : Place) → old.before ≡ act_word form → act_form a ≡ form
    → Took (WordWanted ∷ WordWanted ∷ act_shape form) (caller ∷ key ∷ act_fields a) old now → now.rest ≡ []
    → HasShape (shape_of (forms.Act (act_form a))) [] (change_spelling (asked caller key a))
unfolding asked
record_of form caller key a old now b is t none =
    let all = all_took t none in
    let whole : HasShape (shape_of (forms.Act form)) [] (act_word form ∷ caller ∷ key ∷ act_fields a) =
    (refl, subst (λ w. HasShape (WordWanted ∷ WordWanted ∷ act_shape form) w (caller ∷ key ∷ act_fields a)) b all.shape) in
    subst (λ f. HasShape (shape_of (forms.Act f)) [] (act_word f ∷ caller ∷ key ∷ act_fields a)) (sym is) whole

pub change_record : (form : ActForm) {caller key : List ℕ} {a : Act} {old now : Place} (mid new : Place) → old.before ≡ act_word form → TookAct form a mid new
    → Took (WordWanted ∷ WordWanted ∷ act_shape form) (caller ∷ key ∷ act_fields a) old now → now.rest ≡ []
    → IsChangeRecord (record { caller = caller; key = key; act = a })
unfolding asked
change_record form {caller} {key} {a} {old} {now} mid new b h t none = record { valid = h.valid; shape = record_of form caller key a old now b h.form_is t none }

pub change_read : (form : ActForm) {caller key : List ℕ} {a : Act} {old now : Place} (mid new : Place) → old.before ≡ act_word form → TookAct form a mid new
    → Took (WordWanted ∷ WordWanted ∷ act_shape form) (caller ∷ key ∷ act_fields a) old now → now.rest ≡ []
    → IsReading (forms.Act form) (requests.Change (record { caller = caller; key = key; act = a })) old
unfolding asked
change_read form {caller} {key} {a} {old} {now} mid new b h t none = record {
  fields = ap (λ r. act_word form ∷ r) (all_took t none).read ∙ ap (λ f. act_word f ∷ caller ∷ key ∷ act_fields a) (sym h.form_is);
  good = record { valid = h.valid; shape = record_of form caller key a old now b h.form_is t none };
}
