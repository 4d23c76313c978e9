use Rattle.std.proofs.Common.{◌∙◌}
use Rattle.wire_requests.proofs.LineFacts.{canonical_change}
use Rattle.wire_requests.proofs.write.write_request.Goals as goal

pub returns-clause-canonical : goal.returns-clause-canonical
returns-clause-canonical c =
    canonical_change c.args.change.now _ c.has_record.ensures (c.from_string.ensures.text ∙ rw c.new-text.ensures.bytes at c.in_ok-append_change.ensures)
