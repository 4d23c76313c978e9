use Rattle.std.proofs.Common.{rules, ◌≡◌, ◌∙◌, ap, false, Some, map}
use Rattle.std.proofs.lemmas.List.Elements.{All-push}
use Rattle.link_gates.specs.Ports.{NoneLeft}
use Rattle.link_gates.specs.Teams.{first_lists}
use Rattle.link_gates.proofs.OpenFacts.{opens_push, serves_opened}
use Rattle.link_gates.proofs.open.open_ports.Goals as goal

pub loop-preserved : goal.loop-preserved
loop-preserved g c =
    let port = c.in_ok-port.field-0 in
    let made = c.in_ok-port.ensures in
    let now = c.push_reserved.ensures.items in (
      search rules,
      search rules,
      search rules,
      λ s. (
        c.port.ensures.steady (c.loop.invariant.3 s).0,
        rw now (All-push g.G.Port.Port.IsSteady c.loop.ports.items port (c.loop.invariant.3 s).1 (made.steady_port (c.loop.invariant.3 s).0)),
      ),
      rw now (All-push (λ p. (g.G.Port.Port.out p ≡ false) × NoneLeft (g.G.Port.Port.given p)) c.loop.ports.items port c.loop.invariant.4 made.fresh),
      λ lists e. opens_push g.G.Port.Port.links c.loop.counter lists (g.G.Gate.lists c.loop.gate) (g.G.Gate.lists c.port.new.self)
          c.loop.ports.items c.push_reserved.new.self.items port now (c.loop.invariant.5 lists e) made.list,
    )

pub returns-clause-serves : goal.returns-clause-serves
returns-clause-serves g c turns lists e =
    let all : c.loop.counter ≡ c.args.count = search rules in
    serves_opened turns g.G.Port.Port.links c.loop.ports.items c.args.count lists
    ((c.loop.invariant.5 lists e).told ∙ ap (λ n. map (λ xs. Some xs) (first_lists n lists)) all)
