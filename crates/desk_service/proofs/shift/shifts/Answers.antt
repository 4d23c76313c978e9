use Rattle.std.proofs.Common.{rules, ◌≢◌, ap₂, None}
use Rattle.link_gates.specs.Teams.{served_in}
use Rattle.desk_service.proofs.ShiftFacts.{one_made, one_seat, steady_made}
use Rattle.desk_service.proofs.shift.shifts.Goals as goal

pub loop-alloc-preserved : goal.loop-alloc-preserved
loop-alloc-preserved g c =
    let made = c.in_ok-shift_of.ensures in
    let shift = c.in_ok-shift_of.field-0 in
    let port = c.take_first-port.result in
    let now = c.push_reserved.ensures.items in
    let first = c.take_first-port.ensures.items in (
      one_seat c.loop-alloc.seats c.pop.new.self c.in-Some.seat _ _ c.in-Some.ensures.some c.loop-alloc.invariant.0 c.take_first-port.ensures.len,
      search rules,
      search rules,
      one_made (λ s. served_in s.turns (g.P.Port.links s.port)) (λ p. served_in c.args.turns (g.P.Port.links p)) c.loop-alloc.all.items c.push_reserved.new.self.items shift
          c.loop-alloc.ports.items c.take_first-port.new.ports.items port _ now first (ap₂ (λ t p. served_in t (g.P.Port.links p)) made.turns made.port) c.loop-alloc.invariant.3,
      λ s. steady_made g.P.Port.IsSteady (λ s. g.P.Port.IsSteady s.port × (s.furniture ≢ None)) c.loop-alloc.all.items c.push_reserved.new.self.items shift
          c.loop-alloc.ports.items c.take_first-port.new.ports.items port now first (λ steady. (rw made.port steady, made.ready)) (c.loop-alloc.invariant.4 s),
    )
