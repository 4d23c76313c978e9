-- Fields of the shape of a form are those of a good request.
use Rattle.std.proofs.Common.{arith, ℕ, ◌≡◌, List, [], ◌∷◌, refl, ap, sym, subst, ◌∙◌}
use Rattle.std.specs.Prelude.{is_some}
use Rattle.airport_register.specs.declared.amendment.Amendment.TheVariants.{PutAirport, PutRunway, DropRunway, PutHeliport, Drop}
use Rattle.case_requests.specs.declared.act.Act.{Act}
use Rattle.case_requests.specs.declared.act.Act.TheVariants as acts
use Rattle.wire_values.specs.Words.{weight_word, pavement_word, urgency_word, statement_word, disposal_word, progress_word, warrant_word, grant_word}
use Rattle.wire_values.specs.Wanted.{Choice, case_wanted, months_wanted, is_granted}
use Rattle.wire_values.specs.Plainness.{IsShortField, IsUsual}
use Rattle.wire_values.specs.Plains.{plain_word}
use Rattle.wire_values.specs.declared.plain.Plain.{Plain}
use Rattle.wire_values.specs.declared.plain.Plain.TheVariants as plains
use Rattle.wire_values.proofs.DateNames.{told_grant}
use Rattle.wire_values.proofs.FieldFacts.{short_word}
use Rattle.wire_cursor.specs.Shape.{HasShape}
use Rattle.wire_cursor.specs.Groups.{end_shape}
use Rattle.wire_cursor.proofs.ShapeLaws.{AllUsual, Values, texts, values_of}
use Rattle.wire_cursor.proofs.GroupFacts.{coordinate_usual, number_usual, terrain_usual, height_usual, site_usual, end_usual, place, site_of}
use Rattle.wire_requests.specs.Forms.{plain_shape, act_word, act_shape, shape_of}
use Rattle.wire_requests.specs.Spellings.{act_fields, act_form}
use Rattle.wire_requests.specs.Limits.{IsValidAct}
use Rattle.wire_requests.specs.Requests.{spelling, form_of, IsValid, IsGood}
use Rattle.wire_requests.specs.declared.form.ActForm.{ActForm}
use Rattle.wire_requests.specs.declared.form.ActForm.TheVariants as act_forms
use Rattle.wire_requests.specs.declared.form.Form.{Form}
use Rattle.wire_requests.specs.declared.form.Form.TheVariants as forms
use Rattle.wire_requests.specs.declared.request.Request.{Request}
use Rattle.wire_requests.specs.declared.request.Request.TheVariants as requests
use Rattle.wire_requests.specs.declared.request.Query.TheVariants as queries

-- ---- the fields of the forms are usual

weight_usual : IsUsual (Choice weight_word)
weight_usual = (short_word _ (omega arith) (omega arith) refl, short_word _ (omega arith) (omega arith) refl)

pavement_usual : IsUsual (Choice pavement_word)
pavement_usual = (short_word _ (omega arith) (omega arith) refl, short_word _ (omega arith) (omega arith) refl)

urgency_usual : IsUsual (Choice urgency_word)
urgency_usual = (short_word _ (omega arith) (omega arith) refl, short_word _ (omega arith) (omega arith) refl)

statement_usual : IsUsual (Choice statement_word)
statement_usual = (short_word _ (omega arith) (omega arith) refl, short_word _ (omega arith) (omega arith) refl)

disposal_usual : IsUsual (Choice disposal_word)
disposal_usual = (short_word _ (omega arith) (omega arith) refl, short_word _ (omega arith) (omega arith) refl)

progress_usual : IsUsual (Choice progress_word)
progress_usual = (short_word _ (omega arith) (omega arith) refl, short_word _ (omega arith) (omega arith) refl)

warrant_usual : IsUsual (Choice warrant_word)
warrant_usual = (short_word _ (omega arith) (omega arith) refl, short_word _ (omega arith) (omega arith) refl)

grant_usual : IsUsual (Choice grant_word)
grant_usual = (short_word _ (omega arith) (omega arith) refl, short_word _ (omega arith) (omega arith) refl)

case_usual : IsUsual case_wanted
case_usual = (omega arith, omega arith)

months_usual : IsUsual months_wanted
months_usual = (omega arith, omega arith)

plain_usual : (plain : Plain) → AllUsual (plain_shape plain)
plain_usual plains.Airport = (tt, (tt, (coordinate_usual, (coordinate_usual, (number_usual, tt)))))
plain_usual plains.Runway = (tt, (tt, (weight_usual, (pavement_usual, end_usual end_shape (end_usual [] tt)))))
plain_usual plains.DropRunway = (tt, (tt, tt))
plain_usual plains.Heliport = (tt, (tt, (coordinate_usual, (coordinate_usual, (coordinate_usual, (coordinate_usual, (number_usual, (number_usual, tt))))))))
plain_usual plains.Drop = (tt, tt)
plain_usual plains.Day = (tt, tt)
plain_usual plains.Closed = (tt, tt)

act_usual : (form : ActForm) → AllUsual (act_shape form)
act_usual (act_forms.Plain plain) = plain_usual plain
act_usual act_forms.File = (tt, (tt, (tt, (urgency_usual, (statement_usual, site_usual)))))
act_usual act_forms.Form = (case_usual, tt)
act_usual act_forms.Determine = (case_usual, (tt, tt))
act_usual act_forms.Petition = (case_usual, (tt, tt))
act_usual act_forms.Dispose = (case_usual, (disposal_usual, tt))
act_usual act_forms.Extend = (case_usual, (months_usual, (progress_usual, (tt, (warrant_usual, tt)))))
act_usual act_forms.Revise = (case_usual, (progress_usual, (terrain_usual, (height_usual, (tt, tt)))))
act_usual act_forms.Fcc = (case_usual, (grant_usual, (tt, tt)))
act_usual act_forms.Abandon = (case_usual, tt)

plain_short : (plain : Plain) → IsShortField (plain_word plain)
plain_short plains.Airport = short_word _ (omega arith) (omega arith) refl
plain_short plains.Runway = short_word _ (omega arith) (omega arith) refl
plain_short plains.DropRunway = short_word _ (omega arith) (omega arith) refl
plain_short plains.Heliport = short_word _ (omega arith) (omega arith) refl
plain_short plains.Drop = short_word _ (omega arith) (omega arith) refl
plain_short plains.Day = short_word _ (omega arith) (omega arith) refl
plain_short plains.Closed = short_word _ (omega arith) (omega arith) refl

act_short : (form : ActForm) → IsShortField (act_word form)
act_short (act_forms.Plain plain) = plain_short plain
act_short act_forms.File = short_word _ (omega arith) (omega arith) refl
act_short act_forms.Form = short_word _ (omega arith) (omega arith) refl
act_short act_forms.Determine = short_word _ (omega arith) (omega arith) refl
act_short act_forms.Petition = short_word _ (omega arith) (omega arith) refl
act_short act_forms.Dispose = short_word _ (omega arith) (omega arith) refl
act_short act_forms.Extend = short_word _ (omega arith) (omega arith) refl
act_short act_forms.Revise = short_word _ (omega arith) (omega arith) refl
act_short act_forms.Fcc = short_word _ (omega arith) (omega arith) refl
act_short act_forms.Abandon = short_word _ (omega arith) (omega arith) refl

pub form_usual : (form : Form) → AllUsual (shape_of form)
form_usual (forms.Act form) = (act_short form, (tt, (tt, act_usual form)))
form_usual forms.Screen = (short_word _ (omega arith) (omega arith) refl, site_usual)
form_usual forms.Verdict = (short_word _ (omega arith) (omega arith) refl, site_usual)
form_usual forms.Case = (short_word _ (omega arith) (omega arith) refl, (case_usual, tt))
form_usual forms.Airfield = (short_word _ (omega arith) (omega arith) refl, (tt, tt))
form_usual forms.Review = (short_word _ (omega arith) (omega arith) refl, tt)
form_usual forms.Report = (short_word _ (omega arith) (omega arith) refl, (tt, tt))
form_usual forms.Sync = (short_word _ (omega arith) (omega arith) refl, tt)

-- ---- the request of some fields

same_cons : {x y : List ℕ} {xs ys : List (List ℕ)} → x ≡ y → xs ≡ ys → x ∷ xs ≡ y ∷ ys
same_cons p q = cc

-- the fields of a form after caller and key are those of an act
record ActOf (form : ActForm) (fields : List (List ℕ)) : Type 0 where
  act : Act
  form_is : act_form act ≡ form
  fields_are : fields ≡ act_fields act
  valid : IsValidAct act

plain_of_values : (plain : Plain) (before : List ℕ) (v : Values before (plain_shape plain)) → ActOf (act_forms.Plain plain) (texts before (plain_shape plain) v)
unfolding place
plain_of_values plains.Airport before id =
    let category = id.1 in
    let x = category.1 in
    let y = x.1 in
    let z = y.1 in
    record {
      act = acts.Amend (PutAirport id.0.0 category.0.1.0 (place x.0.1.2 y.0.1.2) z.0.1.0);
      form_is = refl;
      fields_are = rw (category.0.1.1, x.0.1.1, y.0.1.1, z.0.1.1) refl;
      valid = z.0.1.2;
    }
plain_of_values plains.Runway before id =
    let name = id.1 in
    let weight = name.1 in
    let pavement = weight.1 in
    let x1 = pavement.1 in
    let y1 = x1.1 in
    let z1 = y1.1 in
    let kind1 = z1.1 in
    let x2 = kind1.1 in
    let y2 = x2.1 in
    let z2 = y2.1 in
    let kind2 = z2.1 in
    record {
      act = acts.Amend (PutRunway id.0.0 (record {
        name = name.0.0;
        utility = weight.0.1.0;
        hard = pavement.0.1.0;
        end1 = record { at = place x1.0.1.2 y1.0.1.2; z = z1.0.1.0; kind = kind1.0.1.0; planned = kind1.0.1.1 };
        end2 = record { at = place x2.0.1.2 y2.0.1.2; z = z2.0.1.0; kind = kind2.0.1.0; planned = kind2.0.1.1 };
      }));
      form_is = refl;
      fields_are = rw (weight.0.1.1, pavement.0.1.1, x1.0.1.1, y1.0.1.1, z1.0.1.1, kind1.0.1.2, x2.0.1.1, y2.0.1.1, z2.0.1.1, kind2.0.1.2) refl;
      valid = (z1.0.1.2, z2.0.1.2);
    }
plain_of_values plains.DropRunway before id = record { act = acts.Amend (DropRunway id.0.0 id.1.0.0); form_is = refl; fields_are = refl; valid = tt }
plain_of_values plains.Heliport before id =
    let category = id.1 in
    let xa = category.1 in
    let ya = xa.1 in
    let xb = ya.1 in
    let yb = xb.1 in
    let width = yb.1 in
    let elevation = width.1 in
    record {
      act = acts.Amend (PutHeliport (record {
        id = id.0.0;
        category = category.0.1.0;
        a = place xa.0.1.2 ya.0.1.2;
        b = place xb.0.1.2 yb.0.1.2;
        width = width.0.1.0;
        elevation = elevation.0.1.0;
      }));
      form_is = refl;
      fields_are = rw (category.0.1.1, xa.0.1.1, ya.0.1.1, xb.0.1.1, yb.0.1.1, width.0.1.1, elevation.0.1.1) refl;
      valid = (width.0.1.2, elevation.0.1.2);
    }
plain_of_values plains.Drop before id = record { act = acts.Amend (Drop id.0.0); form_is = refl; fields_are = refl; valid = tt }
plain_of_values plains.Day before date = record { act = acts.Day date.0.1.0; form_is = refl; fields_are = rw date.0.1.1 refl; valid = date.0.1.2 }
plain_of_values plains.Closed before date = record { act = acts.Closed date.0.1.0; form_is = refl; fields_are = rw date.0.1.1 refl; valid = date.0.1.2 }

act_of_values : (form : ActForm) (before : List ℕ) (v : Values before (act_shape form)) → ActOf form (texts before (act_shape form) v)
act_of_values (act_forms.Plain plain) before v = plain_of_values plain before v
act_of_values act_forms.File before start =
    let permit = start.1 in
    let fcc = permit.1 in
    let urgency = fcc.1 in
    let statement = urgency.1 in
    let site = site_of statement.0.0 statement.1 in
    record {
      act = acts.File (record {
        start = start.0.1.0;
        permit = permit.0.1.0;
        fcc = fcc.0.1.0;
        emergency = urgency.0.1.0;
        statement = statement.0.1.0;
        filing = site.site;
      });
      form_is = refl;
      fields_are = same_cons start.0.1.1 (same_cons permit.0.1.1 (same_cons fcc.0.1.1 (same_cons urgency.0.1.1 (same_cons statement.0.1.1 site.fields_are))));
      valid = record { start = start.0.1.2; permit = permit.0.1.2; fcc = fcc.0.1.2; filing = site.valid };
    }
act_of_values act_forms.Form before n = record { act = acts.Form n.0.1.0; form_is = refl; fields_are = rw n.0.1.1 refl; valid = (n.0.1.2, n.0.1.3) }
act_of_values act_forms.Determine before n =
    let finding = n.1 in
    record { act = acts.Determine n.0.1.0 finding.0.1.0; form_is = refl; fields_are = rw (n.0.1.1, finding.0.1.1) refl; valid = (n.0.1.2, n.0.1.3) }
act_of_values act_forms.Petition before n =
    let party = n.1 in
    record { act = acts.Petition n.0.1.0 party.0.1.0; form_is = refl; fields_are = rw (n.0.1.1, party.0.1.1) refl; valid = (n.0.1.2, n.0.1.3) }
act_of_values act_forms.Dispose before n =
    let disposal = n.1 in
    record { act = acts.Dispose n.0.1.0 disposal.0.1.0; form_is = refl; fields_are = rw (n.0.1.1, disposal.0.1.1) refl; valid = (n.0.1.2, n.0.1.3) }
act_of_values act_forms.Extend before n =
    let months = n.1 in
    let progress = months.1 in
    let filed = progress.1 in
    let warrant = filed.1 in
    record {
      act = acts.Extend n.0.1.0 months.0.1.0 progress.0.1.0 filed.0.1.0 warrant.0.1.0;
      form_is = refl;
      fields_are = rw (n.0.1.1, months.0.1.1, progress.0.1.1, filed.0.1.1, warrant.0.1.1) refl;
      valid = ((n.0.1.2, n.0.1.3), months.0.1.2, months.0.1.3, filed.0.1.2);
    }
act_of_values act_forms.Revise before n =
    let progress = n.1 in
    let ground = progress.1 in
    let height = ground.1 in
    let finding = height.1 in
    record {
      act = acts.Revise n.0.1.0 progress.0.1.0 ground.0.1.0 height.0.1.0 finding.0.1.0;
      form_is = refl;
      fields_are = rw (n.0.1.1, progress.0.1.1, ground.0.1.1, height.0.1.1, finding.0.1.1) refl;
      valid = (
        (n.0.1.2, n.0.1.3),
        record { terrain_least = ground.0.1.2.0; terrain_most = ground.0.1.2.1; height_least = height.0.1.2.0; height_most = height.0.1.2.1 },
      );
    }
act_of_values act_forms.Fcc before n =
    let grant = n.1 in
    let completion = grant.1 in
    let told : is_some completion.0.1.0 ≡ grant.0.1.0 = completion.0.1.3 ∙ ap is_granted grant.0.1.1 ∙ told_grant grant.0.1.0 in
    record {
      act = acts.Fcc n.0.1.0 completion.0.1.0;
      form_is = refl;
      fields_are = same_cons n.0.1.1 (same_cons (grant.0.1.1 ∙ ap grant_word (sym told)) (same_cons completion.0.1.1 refl));
      valid = ((n.0.1.2, n.0.1.3), completion.0.1.2);
    }
act_of_values act_forms.Abandon before n = record { act = acts.Abandon n.0.1.0; form_is = refl; fields_are = rw n.0.1.1 refl; valid = (n.0.1.2, n.0.1.3) }

-- the fields are those of a good request of this form
pub record RequestOf (form : Form) (fields : List (List ℕ)) : Type 0 where
  pub request : Request
  pub form_is : form_of request ≡ form
  pub fields_are : fields ≡ spelling request
  pub valid : IsValid request

request_of_values : (form : Form) (v : Values [] (shape_of form)) → RequestOf form (texts [] (shape_of form) v)
request_of_values (forms.Act form) v =
    let caller = v.1 in
    let key = caller.1 in
    let a = act_of_values form key.0.0 key.1 in
    record {
      request = requests.Change (record { caller = caller.0.0; key = key.0.0; act = a.act });
      form_is = ap (λ f. forms.Act f) a.form_is;
      fields_are = same_cons (v.0.1 ∙ ap act_word (sym a.form_is)) (same_cons refl (same_cons refl a.fields_are));
      valid = a.valid;
    }
request_of_values forms.Screen v =
    let s = site_of v.0.0 v.1 in
    record { request = requests.Query (queries.Screen s.site); form_is = refl; fields_are = same_cons v.0.1 s.fields_are; valid = s.valid }
request_of_values forms.Verdict v =
    let s = site_of v.0.0 v.1 in
    record { request = requests.Query (queries.Verdict s.site); form_is = refl; fields_are = same_cons v.0.1 s.fields_are; valid = s.valid }
request_of_values forms.Case v =
    let n = v.1.0.1 in
    record { request = requests.Query (queries.Case n.0); form_is = refl; fields_are = same_cons v.0.1 (same_cons n.1 refl); valid = (n.2, n.3) }
request_of_values forms.Airfield v =
    record { request = requests.Query (queries.Airfield v.1.0.0); form_is = refl; fields_are = same_cons v.0.1 refl; valid = tt }
request_of_values forms.Sync v = record { request = requests.Query queries.Sync; form_is = refl; fields_are = same_cons v.0.1 refl; valid = tt }
request_of_values forms.Review v = record { request = requests.Query queries.Review; form_is = refl; fields_are = same_cons v.0.1 refl; valid = tt }
request_of_values forms.Report v =
    let kind = v.1.0.1 in
    record { request = requests.Query (queries.Report kind.0); form_is = refl; fields_are = same_cons v.0.1 (same_cons kind.1 refl); valid = tt }

pub request_of : (form : Form) (fields : List (List ℕ)) → HasShape (shape_of form) [] fields → RequestOf form fields
request_of form fields h = let v = values_of (shape_of form) [] fields h in subst (RequestOf form) v.1 (request_of_values form v.0)

pub is_good : (form : Form) (fields : List (List ℕ)) (r : RequestOf form fields) → HasShape (shape_of form) [] fields → IsGood r.request
is_good form fields r h = record {
  valid = r.valid;
  shape = subst (λ f. HasShape (shape_of f) [] (spelling r.request)) (sym r.form_is) (subst (λ l. HasShape (shape_of form) [] l) r.fields_are h);
}
