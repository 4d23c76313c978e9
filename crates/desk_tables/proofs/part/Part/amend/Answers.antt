use Rattle.std.proofs.Common.{◌≡◌, None, ap, subst, List}
use Rattle.airfields.specs.declared.airfield.Airfield.{Airfield}
use Rattle.airport_register.specs.Amendments.{after_amendment, first_broken}
use Rattle.desk_tables.specs.Parts.{Part}
use Rattle.desk_tables.proofs.part.Part.amend.Goals as goal

pub returns-clause-ok : goal.returns-clause-ok
returns-clause-ok c =
    let with : List Airfield → Part = λ register. record {
      register = register;
      has_format = c.self.inside.has_format;
      day = c.self.inside.day;
      closed = c.self.inside.closed;
      cases = c.self.inside.cases.items;
      requests = c.self.inside.requests.items;
    } in
    subst (λ (p : Part). (first_broken p.register c.args.a.now ≡ None) × (with c.amend.new.self ≡ record p { register = after_amendment p.register c.args.a.now })) c.self.view_is
    (c.in-Ok.ensures.allowed, ap with c.in-Ok.ensures.after)
