use Rattle.std.proofs.Common.{[], ap, ◌∙◌}
use Rattle.airfields.specs.Sites.{Site}
use Rattle.airfield_findings.specs.Entries.{of_airfield}
use Rattle.airfield_findings.specs.Prepared.{airfield_of}
use Rattle.review_marks.proofs.share.standards_of.Goals as goal

pub returns : goal.returns
returns c = c.in_ok-put_airfield.ensures.taken [] c.new-list.ensures ∙ ap (λ (s : Site). of_airfield s (airfield_of c.args.prepared.now)) c.of.ensures
