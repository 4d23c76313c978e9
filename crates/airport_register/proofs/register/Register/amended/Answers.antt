use Rattle.std.proofs.Common.{FitsSigned, w64, sym, ap, ◌∙◌, rules}
use Rattle.std.proofs.lemmas.Int.{to_z-of_z}
use Rattle.airfields.specs.Airfields.{id_of}
use Rattle.airport_register.proofs.Rules.{found_named, held_put, held_with, held_without, held_heliport}
use Rattle.airport_register.proofs.register.Register.amended.Goals as goal

pub returns-in_ok-runways-in-PutAirport-clause-held : goal.returns-in_ok-runways-in-PutAirport-clause-held
returns-in_ok-runways-in-PutAirport-clause-held c =
    let fits : FitsSigned w64 c.in-PutAirport.elevation = search rules in
    rw (to_z-of_z w64 c.in-PutAirport.elevation fits)
    (held_put c.args.self.now c.in-PutAirport.id c.in-PutAirport.category _ c.limits.ensures (rw c.in-PutAirport.is at c.requires) (rw (← c.get.ensures.found) c.in_ok-runways-in-PutAirport.ensures))

pub returns-in-PutHeliport-clause-held : goal.returns-in-PutHeliport-clause-held
returns-in-PutHeliport-clause-held c = held_heliport c.args.self.now c.in-PutHeliport.heliport (rw c.in-PutHeliport.is at c.requires)

pub returns-in_ok-runways-in-Some-Airport-clause-held : goal.returns-in_ok-runways-in-Some-Airport-clause-held
returns-in_ok-runways-in-Some-Airport-clause-held c =
    let f = rw c.in-Some-Airport.field-0-is at (sym c.in-Some-Airport.ensures.found) in
    rw c.with_runways.ensures
    (held_with c.args.self.now c.in-PutRunway.id c.in-Some-Airport.airport _ c.in-PutRunway.runway c.limits.ensures (rw c.in-PutRunway.is at c.requires) f c.in_ok-runways-in-Some-Airport.ensures.put)

pub returns-in_ok-runways-in-Some-Airport-clause-named : goal.returns-in_ok-runways-in-Some-Airport-clause-named
returns-in_ok-runways-in-Some-Airport-clause-named c =
    let f = rw c.in-Some-Airport.field-0-is at (sym c.in-Some-Airport.ensures.found) in
    rw c.in-PutRunway.is (ap id_of c.with_runways.ensures ∙ found_named c.in-PutRunway.id _ c.args.self.now f)

pub returns-in_ok-runways-in-Some-Airport-get-clause-held : goal.returns-in_ok-runways-in-Some-Airport-get-clause-held
returns-in_ok-runways-in-Some-Airport-get-clause-held c =
    let f = rw c.in-Some-Airport-get.field-0-is at (sym c.in-Some-Airport-get.ensures.found) in
    rw c.with_runways-in-Some-Airport-get.ensures
    (held_without c.args.self.now c.in-DropRunway.id c.in-Some-Airport-get.airport _ c.in-DropRunway.name c.limits.ensures f c.in_ok-runways-in-Some-Airport-get.ensures.removed)

pub returns-in_ok-runways-in-Some-Airport-get-clause-named : goal.returns-in_ok-runways-in-Some-Airport-get-clause-named
returns-in_ok-runways-in-Some-Airport-get-clause-named c =
    let f = rw c.in-Some-Airport-get.field-0-is at (sym c.in-Some-Airport-get.ensures.found) in
    rw c.in-DropRunway.is (ap id_of c.with_runways-in-Some-Airport-get.ensures ∙ found_named c.in-DropRunway.id _ c.args.self.now f)
