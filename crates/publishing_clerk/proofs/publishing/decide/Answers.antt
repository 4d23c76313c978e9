use Rattle.std.proofs.Common.{◌≡◌, sym, ap, ◌∙◌, ◌+◌, List, length, subst}
use Rattle.std.specs.Prelude.{option_copied}
use Rattle.desk_machine.specs.declared.entry.Entry.{Entry}
use Rattle.desk_machine.specs.States.{last_number}
use Rattle.desk_machine.specs.Machine.{Answer as Decided, decide}
use Rattle.filing_desk.specs.Served.{HasCause}
use Rattle.publishing_clerk.specs.Evaluations.{given_in}
use Rattle.publishing_clerk.specs.Publishing.{IsPublishing}
use Rattle.publishing_clerk.proofs.Offering.{Version}
use Rattle.publishing_clerk.proofs.Ruled.{kept_after}
use Rattle.publishing_clerk.proofs.publishing.decide.Goals as goal

pub returns-in-Ok-clause-kept : goal.returns-in-Ok-clause-kept
returns-in-Ok-clause-kept g c =
    let first = g.J.Naming.first in
    let base = g.J.Naming.base in
    let o = g.J.Opening.opening in
    let k = c.args.clerk.now in
    let l = c.apply_with.new.self in
    let p = last_number k.state in
    let q = c.args.c.now in
    let given = option_copied c.as_ref.result in
    let advances = c.apply_with.ensures.answer in
    let replayed = c.goes_on.ensures o p q given k l c.apply_with.result c.requires.goes.replayed advances in
    let paid = c.pay.ensures.paid c.if-not-pay.false in
    subst (λ (e : Version). IsPublishing first base o l e) (sym c.in-Ok.ensures.same)
    (kept_after first base o p q given k l c.apply_with.result c.pay.new.publisher c.pay.ensures.kept replayed paid advances)

pub returns-in-Ok-clause-cause : goal.returns-in-Ok-clause-cause
returns-in-Ok-clause-cause g c =
    let base = g.J.Naming.base in
    let s = c.args.clerk.now.state in
    let q = c.args.c.now in
    let given = given_in base (option_copied c.args.evaluated) in
    let same : decide s (last_number s) q (option_copied c.as_ref.result) ≡ decide s (base + length c.args.publisher.now.published) q given =
    ap (decide s (last_number s) q) c.as_ref.ensures.value ∙ c.in-Ok.ensures.given q ∙ ap (λ (l : List Entry). decide s (base + length l) q given) c.pay.ensures.same in
    subst (λ (d : Decided). HasCause g.K.Keeper.IsSteady g.K.Keeper.faults d c.args.clerk.now.keeper c.apply_with.new.self.keeper c.apply_with.result) same c.apply_with.ensures.cause
