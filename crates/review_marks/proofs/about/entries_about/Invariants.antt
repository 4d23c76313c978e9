use Rattle.std.proofs.Common.{◌≡◌, take}
use Rattle.review_marks.specs.Shares.{about}
use Rattle.review_marks.proofs.about.entries_about.Given as goal

abbrev pub invariant-loop-finding : goal.invariant-loop-finding
invariant-loop-finding l = l.own ≡ about l.id (take l.finding-index l.list)
