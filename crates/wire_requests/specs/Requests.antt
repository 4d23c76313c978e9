-- Requests and the lines that are their records.
use Rattle.std.specs.Prelude.{ℕ, ◌-◌, ◌≤◌, ◌<◌, take, ◌≡◌, ◌≢◌, List, [], length, Some, None}
use Rattle.grid_exact.specs.declared.text.TheConstants.{LINE_LIMIT}
use Rattle.record_fields.specs.Fields.{one_record}
use Rattle.wire_cursor.specs.Shape.{HasShape}
use Rattle.wire_requests.specs.Forms.{shape_of, FirstWrong}
use Rattle.wire_requests.specs.Spellings.{act_form, change_spelling, query_form, query_spelling}
use Rattle.wire_requests.specs.Limits.{IsValidAct, IsValidQuery}
use Rattle.wire_requests.specs.declared.form.Form.{Form}
use Rattle.wire_requests.specs.declared.form.Form.TheVariants as forms
use Rattle.wire_requests.specs.declared.request.Request.{Request}
use Rattle.wire_requests.specs.declared.request.Request.TheVariants as requests
use Rattle.wire_requests.specs.declared.request.ReadRefusal.{ReadRefusal}
use Rattle.wire_requests.specs.declared.request.ReadRefusal.TheVariants as refusals

-- the fields of a request
abbrev pub spelling : Request → List (List ℕ)
spelling (requests.Query query) = query_spelling query
spelling (requests.Change change) = change_spelling change

-- the form of a request
abbrev pub form_of : Request → Form
form_of (requests.Query query) = query_form query
form_of (requests.Change change) = forms.Act (act_form change.act)

-- the values of the request are within the limits of records
abbrev pub IsValid : Request → Type 0
IsValid (requests.Query query) = IsValidQuery query
IsValid (requests.Change change) = IsValidAct change.act

-- a request that has a record: its values are within their limits, and each field fits its form
pub record IsGood (r : Request) : Type 0 where
  pub valid : IsValid r
  pub shape : HasShape (shape_of (form_of r)) [] (spelling r)

-- the line is the record of this request
pub record IsRecord (line : List ℕ) (r : Request) : Type 0 where
  pub short : length line ≤ LINE_LIMIT
  pub fields : one_record line ≡ Some (spelling r)
  pub good : IsGood r

-- the first field that fits no form, counted from 1, where the line is the record of no request: 0 where the line is too long
-- or not one record, and 1 for the empty line
pub data IsMalformed (line : List ℕ) (field : ℕ) : Type 0 where
  Long : LINE_LIMIT < length line → field ≡ 0 → IsMalformed line field
  Empty : line ≡ [] → field ≡ 1 → IsMalformed line field
  NotOne : length line ≤ LINE_LIMIT → line ≢ [] → one_record line ≡ None → field ≡ 0 → IsMalformed line field
  Wrong : length line ≤ LINE_LIMIT → (fields : List (List ℕ)) → one_record line ≡ Some fields → FirstWrong fields field → IsMalformed line field

-- a refusal gives that field, or says that memory ran out
abbrev pub IsRefusal : List ℕ → ReadRefusal → Type 0
IsRefusal line (refusals.Malformed field) = IsMalformed line field
IsRefusal line refusals.NoMemory = Unit {0}

-- some request has the same fields before this one, and none has the same fields up to it
pub record IsFirstWithout (fields : List (List ℕ)) (n : ℕ) : Type 0 where
  pub request : Request
  pub good : IsGood request
  pub same : take (n - 1) (spelling request) ≡ take (n - 1) fields
  pub none : (r : Request) → IsGood r → take n (spelling r) ≢ take n fields
