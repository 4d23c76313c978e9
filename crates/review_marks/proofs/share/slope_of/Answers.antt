use Rattle.std.proofs.Common.{[], ap, ◌∙◌}
use Rattle.airfields.specs.Sites.{Site}
use Rattle.airfield_findings.specs.Entries.{slope_entries}
use Rattle.airfield_findings.specs.Prepared.{airfield_of}
use Rattle.review_marks.proofs.share.slope_of.Goals as goal

pub returns : goal.returns
returns c = c.in_ok-put_slope.ensures.taken [] c.new-list.ensures ∙ ap (λ (s : Site). slope_entries s (airfield_of c.args.prepared.now)) c.of.ensures
