use Rattle.std.proofs.Common.{arith, sym, subst, ap, ◌∙◌}
use Rattle.std.proofs.lemmas.Grind.{common_steps}
use Rattle.jiff_core.specs.Date.{epoch_day}
use Rattle.determination_dates.proofs.Issues.{extension_same}
use Rattle.determination_dates.specs.Days.{IsLimited}
use Rattle.determination_dates.proofs.ComputedFacts.{extended_made}
use Rattle.determination_dates.proofs.determination.Record.extend.Goals as goal

pub returns-in_default-within-clause-beyond : goal.returns-in_default-within-clause-beyond
returns-in_default-within-clause-beyond c x h l =
    let e = extension_same c.args.self.now _ h.0 c.in-Some.end h.1 (sym c.in-Some.ensures.value) in
    c.in_default-within.ensures (rw (h.2 ∙ e ∙ sym c.months_later.ensures.value) at l)

pub returns-then-self-lt-MOST_EXTENSIONS-clause-extended : goal.returns-then-self-lt-MOST_EXTENSIONS-clause-extended
returns-then-self-lt-MOST_EXTENSIONS-clause-extended c =
    (c.in-Ok.moved, (c.in-Some.end, sym c.in-Some.ensures.value, ap epoch_day c.in-Ok.ensures.0 ∙ c.months_later.ensures.value), grind (arith, common_steps))

pub returns-else-self-lt-MOST_EXTENSIONS-clause-extended : goal.returns-else-self-lt-MOST_EXTENSIONS-clause-extended
returns-else-self-lt-MOST_EXTENSIONS-clause-extended c =
    (c.in-Ok.moved, (c.in-Some.end, sym c.in-Some.ensures.value, ap epoch_day c.in-Ok.ensures.0 ∙ c.months_later.ensures.value), grind (arith, common_steps))

pub returns-then-self-lt-MOST_EXTENSIONS-clause-computed : goal.returns-then-self-lt-MOST_EXTENSIONS-clause-computed
returns-then-self-lt-MOST_EXTENSIONS-clause-computed c =
    let made = extended_made c.args.months c.args.self.now c.in-Some.end c.in-Ok.moved c.in-Some.ensures.date (ap epoch_day c.in-Ok.ensures.0 ∙ c.months_later.ensures.value) (subst IsLimited (sym c.in-Ok.ensures.0) c.in-Ok.ensures.1) in
    grind (arith, common_steps, made)

pub returns-else-self-lt-MOST_EXTENSIONS-clause-computed : goal.returns-else-self-lt-MOST_EXTENSIONS-clause-computed
returns-else-self-lt-MOST_EXTENSIONS-clause-computed c =
    let made = extended_made c.args.months c.args.self.now c.in-Some.end c.in-Ok.moved c.in-Some.ensures.date (ap epoch_day c.in-Ok.ensures.0 ∙ c.months_later.ensures.value) (subst IsLimited (sym c.in-Ok.ensures.0) c.in-Ok.ensures.1) in
    grind (arith, common_steps, made)
