-- The names that an amendment with a record puts are names, since its fields are those of its form.
use Rattle.std.proofs.Common.{ℕ, List, []}
use Rattle.airport_register.specs.declared.amendment.Amendment.{Amendment}
use Rattle.airport_register.specs.declared.amendment.Amendment.TheVariants.{PutAirport, PutRunway, DropRunway, PutHeliport, Drop}
use Rattle.case_requests.specs.declared.act.Act.TheVariants as acts
use Rattle.wire_cursor.specs.Shape.{HasShape}
use Rattle.wire_requests.specs.Changes.{Asked}
use Rattle.wire_requests.specs.Forms.{shape_of}
use Rattle.wire_requests.specs.Spellings.{act_form, change_spelling}
use Rattle.wire_requests.specs.declared.form.Form.TheVariants as forms
use Rattle.desk_tables.specs.Names.{PutsNames}

abbrev asked_of : List ℕ → List ℕ → Amendment → Asked
asked_of caller key a = record { caller = caller; key = key; act = acts.Amend a }

pub names_put : (caller key : List ℕ) (a : Amendment)
    → HasShape (shape_of (forms.Act (act_form (acts.Amend a)))) [] (change_spelling (asked_of caller key a)) → PutsNames a
names_put caller key (PutAirport id category arp elevation) h = h.1.1.1.0
names_put caller key (PutRunway id r) h = h.1.1.1.1.0
names_put caller key (DropRunway id name) h = tt
names_put caller key (PutHeliport heliport) h = h.1.1.1.0
names_put caller key (Drop id) h = tt
