use Rattle.std.proofs.Common.{◌++◌, length, string_bytes, codes, ◌∙◌}
use Rattle.std.specs.Fmt.{decimal}
use Rattle.wire_replies.specs.Entries.{entry_text}
use Rattle.wire_replies.proofs.PageFacts.{one_more}
use Rattle.grid_exact.proofs.Extending.{Extends-then}
use Rattle.wire_replies.proofs.entries.append_list.Goals as goal

pub loop-finding-preserved : goal.loop-finding-preserved
loop-finding-preserved c = (
  one_more (λ f. codes "," ++ entry_text f) (string_bytes c.args.text.now) (codes "," ++ decimal (length c.args.list.now)) (string_bytes c.make_room.new.text) c.make_room.new.self c.put_entry.new.page
      c.args.list.now c.loop-finding.finding-index c.finding-item.result c.loop-finding-test.true c.finding-item.is (c.in_ok-make_room.ensures.ok ∙ c.loop-finding.invariant.0) c.put_entry.ensures.put,
  Extends-then _ _ _ _ c.loop-finding.invariant.1.grown c.make_room.ensures.grown,
)
