-- For proofs alone: the results of the readers of the forms.
use Rattle.std.specs.Prelude.{◌∷◌, ◌≡◌}
use Rattle.case_requests.specs.declared.act.Act.{Act}
use Rattle.wire_cursor.specs.Shape.{Place, Took}
use Rattle.wire_requests.specs.Forms.{form_word, act_shape}
use Rattle.wire_requests.specs.Spellings.{act_fields, act_form}
use Rattle.wire_requests.specs.Limits.{IsValidAct}
use Rattle.wire_requests.specs.Requests.{spelling, IsGood}
use Rattle.wire_requests.specs.declared.form.ActForm.{ActForm}
use Rattle.wire_requests.specs.declared.form.Form.{Form}
use Rattle.wire_requests.specs.declared.request.Request.{Request}

-- the reader took the fields of a changing form
pub record TookAct (form : ActForm) (a : Act) (old new : Place) : Type 0 where
  pub took : Took (act_shape form) (act_fields a) old new
  pub form_is : act_form a ≡ form
  pub valid : IsValidAct a

-- the fields left are those of this good request after the word of its form
pub record IsReading (form : Form) (r : Request) (old : Place) : Type 0 where
  pub fields : form_word form ∷ old.rest ≡ spelling r
  pub good : IsGood r
