use Rattle.std.proofs.Common.{sym, ap, ◌∙◌}
use Rattle.std.specs.Prelude.{option_copied}
use Rattle.std.specs.Arc.{arc_value}
use Rattle.publishing_clerk.proofs.Offering.{owes, follows, offered_or_back}
use Rattle.publishing_clerk.proofs.publishing.pay.Goals as goal

pub offer-requires-clause-follows : goal.offer-requires-clause-follows
offer-requires-clause-follows g c =
    let k = c.args.clerk.now in
    let e = c.args.publisher.now in
    let o = g.J.Opening.opening in
    let h = c.requires in
    let owed = owes g.J.Naming.first g.J.Naming.base o k e c.accepted-last.result c.last_number.result c.in-Some.entry.now c.in-Ok.entry h c.accepted-last.ensures c.last_number.ensures c.if-last-last_number.false
    (sym c.entry.ensures ∙ ap (λ v. option_copied v) c.in-Some.is) c.in-Ok.ensures.0 in
    follows o.register (arc_value c.in-Ok.sky) k.accepted e c.in-Ok.entry h.offers (c.in-Ok.ensures.1 ∙ h.goes.register) owed

pub returns-in-Ok-clause-kept : goal.returns-in-Ok-clause-kept
returns-in-Ok-clause-kept g c =
    let k = c.args.clerk.now in
    let e = c.args.publisher.now in
    let o = g.J.Opening.opening in
    let owed = owes g.J.Naming.first g.J.Naming.base o k e c.accepted-last.result c.last_number.result c.in-Some.entry.now c.in-Ok.entry c.requires c.accepted-last.ensures c.last_number.ensures c.if-last-last_number.false
    (sym c.entry.ensures ∙ ap (λ v. option_copied v) c.in-Some.is) c.in-Ok.ensures.0 in
    (offered_or_back g.J.Naming.first g.J.Naming.base o k e c.offer.new.self c.in-Ok.entry (arc_value c.in-Ok.sky) c.offer.result _ c.requires owed c.in-Ok.ensures.1 c.offer.ensures).0

pub returns-in-Ok-clause-paid : goal.returns-in-Ok-clause-paid
returns-in-Ok-clause-paid g c = λ shown.
    let k = c.args.clerk.now in
    let e = c.args.publisher.now in
    let o = g.J.Opening.opening in
    let owed = owes g.J.Naming.first g.J.Naming.base o k e c.accepted-last.result c.last_number.result c.in-Some.entry.now c.in-Ok.entry c.requires c.accepted-last.ensures c.last_number.ensures c.if-last-last_number.false
    (sym c.entry.ensures ∙ ap (λ v. option_copied v) c.in-Some.is) c.in-Ok.ensures.0 in
    (offered_or_back g.J.Naming.first g.J.Naming.base o k e c.offer.new.self c.in-Ok.entry (arc_value c.in-Ok.sky) c.offer.result _ c.requires owed c.in-Ok.ensures.1 c.offer.ensures).1 (sym c.is_ok.ensures.value ∙ shown)
