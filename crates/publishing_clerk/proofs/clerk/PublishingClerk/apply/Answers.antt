use Rattle.std.proofs.Common.{◌≡◌, sym, ap, ◌∙◌, arith, ℕ, ◌+◌, length, subst}
use Rattle.std.specs.Prelude.{option_copied}
use Rattle.publishing_clerk.specs.Evaluations.{given_in}
use Rattle.publishing_clerk.specs.Publishing.{IsPublishing}
use Rattle.publishing_clerk.specs.Rulings.{reply_of}
use Rattle.publishing_clerk.proofs.Offering.{Version}
use Rattle.publishing_clerk.proofs.Ruled.{ruled, ruled_as}
use Rattle.publishing_clerk.proofs.clerk.PublishingClerk.apply.Goals as goal

pub new-requires : goal.new-requires
new-requires g c =
    let IsSteady = g.K.Keeper.IsSteady in
    let faults = g.K.Keeper.faults in
    let first = g.J.Naming.first in
    let base = g.J.Naming.base in
    let o = g.J.Opening.opening in
    let q = c.args.c.now in
    let given = given_in base (option_copied c.args.evaluated) in
    let k = c.self.inside.clerk in
    let l = c.answer-answer.new.clerk in
    let e = c.tell.new.self in
    let f = c.answer-answer.new.publisher in
    let answer = c.answer-answer.result in
    let at = c.answer-answer.ensures in
    let before : IsPublishing first base o k e = subst (λ (x : Version). IsPublishing first base o k x) (sym c.tell.ensures.same) c.self.invariant in
    let is = ruled IsSteady faults first base o q given k l e f answer before at.kept at.advances at.cause at.more c.is_storable.ensures in
    let number : c.of-2.result.value ≡ base + length e.published = omega (arith, c.of-2.ensures, c.base-base.ensures, c.number-2.ensures.number, ap length c.tell.ensures.note) in
    let note : c.tell-note.result ≡ f.published = c.tell-note.ensures.note ∙ ap (λ (x : Version). x.published) c.tell-note.ensures.same in
    let last : c.base-base.result + c.number-3.result ≡ base + length f.published = omega (arith, c.base-base.ensures, c.number-3.ensures.number, ap length note) in
    ruled_as IsSteady faults base o q given k l e f answer _ is c.of.ensures number (ap (given_in base) c.snapshot_of.ensures) c.of-3.ensures c.of-4.ensures (c.reply-reply.ensures ∙ ap (λ (n : ℕ). reply_of n answer) last) note
