use Rattle.std.proofs.Common.{sym, ap, ◌∙◌}
use Rattle.std.specs.Option.{option_map}
use Rattle.airfield_findings.specs.Prepared.{airfield_of}
use Rattle.review_marks.specs.Shares.{AirfieldChange, concerns, differ_shares, share_of}
use Rattle.review_marks.specs.declared.share.Share.{Share}
use Rattle.review_marks.proofs.share.FieldChange.new_share.Goals as goal

pub returns-clause-concerned : goal.returns-clause-concerned
returns-clause-concerned c =
    let before = share_of c.self.inside.id (option_map airfield_of c.self.inside.before.prepared) c.args.filing.now in
    sym c.if-differs.false ∙ c.differs.ensures ∙ ap (λ (x : Share). differ_shares x c.in_ok-after.after) c.in_ok-before.ensures ∙ ap (differ_shares before) c.in_ok-after.ensures
    ∙ ap (λ (v : AirfieldChange). concerns v c.args.filing.now) c.self.view_is
