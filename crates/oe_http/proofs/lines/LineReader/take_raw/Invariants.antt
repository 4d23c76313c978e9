use Rattle.std.proofs.Common.{◌≡◌, ◌<◌, ◌≤◌, ◌+◌, ◌-◌, true, length}
use Rattle.oe_http.specs.Lines.{HasFeed}
use Rattle.oe_http.specs.Pieces.{HasRead}
use Rattle.oe_http.specs.Pending.{unread_bytes, most_left, FellBy}
use Rattle.oe_http.proofs.lines.LineReader.take_raw.Given as goal

abbrev pub invariant-loop-self : goal.invariant-loop-self
invariant-loop-self g l =
    let left = g.S.Source.left in
    record {
      read : HasRead (unread_bytes l.fn.self (left l.fn.source)) (unread_bytes l.self (left l.source)) l.is_long l.line.items;
      still : HasFeed l.fn.self.bytes → (l.self ≡ l.fn.self) × (l.source ≡ l.fn.source);
      turns : most_left l.self + length l.line.items ≤ most_left l.fn.self;
      turns_long : l.is_long ≡ true → most_left l.self < most_left l.fn.self;
      more : l.fn.self.taken ≤ l.self.taken;
      taken : FellBy (l.self.taken - l.fn.self.taken) (left l.fn.source) (left l.source);
      beside : g.S.Source.beside l.source ≡ g.S.Source.beside l.fn.source;
      later : g.S.Source.faults l.fn.source ≤ g.S.Source.faults l.source;
    }

abbrev pub decreases-loop-self : goal.decreases-loop-self
decreases-loop-self g l = most_left l.self
