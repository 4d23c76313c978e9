use Rattle.std.proofs.Common.{◌≡◌, Bool, List, true, false, ◌||◌, ap, sym, ◌∙◌}
use Rattle.std.specs.Prelude.{is_none}
use Rattle.std.specs.List.{list_any}
use Rattle.airfields.specs.declared.airfield.Airfield.{Airfield}
use Rattle.oe_findings.specs.Screenings.{gives_entry, has_lone_entry}
use Rattle.oe_findings.proofs.Clears.{clear_is, due_by}
use Rattle.oe_findings.proofs.sky.Sky.is_clear.Goals as goal

pub returns-then-not-has_lone_entry-clause-found : goal.returns-then-not-has_lone_entry-clause-found
returns-then-not-has_lone_entry-clause-found g c =
    let site = c.args.filing.now in
    let due = c.is_none-is_due.result in
    let lone = c.has_lone_entry.ensures ∙ ap (λ (fs : List Airfield). has_lone_entry fs site due) c.self.view_is in
    let any = c.has_finding.ensures.found ∙ ap (λ (fs : List Airfield). list_any (gives_entry site due) fs) (c.self.invariant ∙ c.self.view_is) in
    let none : c.has_lone_entry.result ≡ false = cc (c.if-not-has_lone_entry.true) in
    clear_is c.args.self.now site due c.has_finding.result (due_by c.exempt.result due c.is_none-is_due.ensures ∙ ap is_none c.exempt.ensures)
    (ap (λ (b : Bool). b || list_any (gives_entry site due) c.args.self.now) (sym lone ∙ none) ∙ sym any)

pub returns-else-not-has_lone_entry-clause-found : goal.returns-else-not-has_lone_entry-clause-found
returns-else-not-has_lone_entry-clause-found g c =
    let site = c.args.filing.now in
    let due = c.is_none-is_due.result in
    let lone = c.has_lone_entry.ensures ∙ ap (λ (fs : List Airfield). has_lone_entry fs site due) c.self.view_is in
    let some : c.has_lone_entry.result ≡ true = cc (c.if-not-has_lone_entry.false) in
    clear_is c.args.self.now site due c.has_lone_entry.result (due_by c.exempt.result due c.is_none-is_due.ensures ∙ ap is_none c.exempt.ensures)
    (ap (λ (b : Bool). b || list_any (gives_entry site due) c.args.self.now) (sym lone ∙ some) ∙ sym some)
