-- Lines that ask what the list of a structure was.
use Rattle.std.specs.Prelude.{ℕ, pos, ◌≤ℤ◌, ◌+◌, ◌≤◌, ◌<◌, ◌≡◌, List, ◌∷◌, Bool, length, nat_eq, Some, None, codes}
use Rattle.std.specs.List.{starts_with}
use Rattle.std.specs.Fmt.{decimal}
use Rattle.airfields.specs.Sites.{Site}
use Rattle.grid_exact.specs.declared.text.TheConstants.{LINE_LIMIT}
use Rattle.whole_number.specs.declared.whole.TheConstants.{NUMBER_LIMIT}
use Rattle.record_fields.specs.Fields.{one_record}
use Rattle.wire_cursor.specs.Groups.{site_fields, IsValidSite}
use Rattle.wire_requests.specs.Forms.{FirstWrong, form_word}
use Rattle.wire_requests.specs.declared.form.Form.TheVariants as forms
use Rattle.wire_requests.specs.declared.request.ReadRefusal.{ReadRefusal}
use Rattle.wire_requests.specs.declared.request.ReadRefusal.TheVariants as reading
use Rattle.oe_asof.specs.declared.question.TheConstants.{NUMBER_FIELD}

-- the line begins so, without a quote
abbrev pub word : List ℕ
word = codes "asof,"

abbrev pub asks : List ℕ → Bool
asks line = starts_with nat_eq line word

-- the fields are the word, the number of an entry, and others
pub record HasNumber (fields : List (List ℕ)) (number : ℕ) (others : List (List ℕ)) : Type 0 where
  pub first : List ℕ
  pub fields_are : fields ≡ first ∷ decimal number ∷ others
  pub small : pos number ≤ℤ NUMBER_LIMIT

-- the fields ask for the list of this structure as of the entry of this number
pub record IsQuestion (fields : List (List ℕ)) (number : ℕ) (site : Site) : Type 0 where
  pub numbered : HasNumber fields number (site_fields site)
  pub valid : IsValidSite site

-- the first wrong field: the second, where no number stands there; else the one that is wrong in a screening of the structure, which has
-- one field fewer before it
pub data IsWrong (fields : List (List ℕ)) (field : ℕ) : Type 0 where
  NoNumber : ((number : ℕ) (others : List (List ℕ)) → HasNumber fields number others → ⊥) → field ≡ NUMBER_FIELD → IsWrong fields field
  NoSite : (number : ℕ) (others : List (List ℕ)) (wrong : ℕ) → HasNumber fields number others → FirstWrong (form_word forms.Screen ∷ others) wrong → field ≡ wrong + 1
      → IsWrong fields field

-- the line asks for the list of this structure as of the entry of this number
pub record Asks (line : List ℕ) (number : ℕ) (site : Site) : Type 0 where
  pub short : length line ≤ LINE_LIMIT
  pub fields : List (List ℕ)
  pub one : one_record line ≡ Some fields
  pub question : IsQuestion fields number site

-- a line that begins so and asks for none is refused at this field: 0 where it is too long or not one record
pub data IsMalformed (line : List ℕ) (field : ℕ) : Type 0 where
  Long : LINE_LIMIT < length line → field ≡ 0 → IsMalformed line field
  NotOne : length line ≤ LINE_LIMIT → one_record line ≡ None → field ≡ 0 → IsMalformed line field
  Wrong : length line ≤ LINE_LIMIT → (fields : List (List ℕ)) → one_record line ≡ Some fields → IsWrong fields field → IsMalformed line field

-- ---- for proofs alone

-- why a line was not read: it is malformed at a field, or memory was wanting
abbrev pub IsRefusal : List ℕ → ReadRefusal → Type 0
IsRefusal line (reading.Malformed field) = IsMalformed line field
IsRefusal line reading.NoMemory = Unit {0}
