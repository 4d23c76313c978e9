use Rattle.std.proofs.Common.{◌≡◌, ◌≢◌, ◌+◌, ◌++◌, None, All, map, length, vec_len, vec_capacity}
use Rattle.link_gates.specs.Teams.{served_in}
use Rattle.desk_service.proofs.shift.shifts.Given as goal

-- each port that is left has a seat and room, and the others became shifts
abbrev pub invariant-loop-alloc : goal.invariant-loop-alloc
invariant-loop-alloc g l =
    (length l.seats ≡ vec_len l.ports)
    × (vec_len l.all + vec_len l.ports ≡ vec_len l.fn.ports) × (vec_capacity l.all ≡ vec_len l.fn.ports)
    × (map (λ s. served_in s.turns (g.P.Port.links s.port)) l.all.items ++ map (λ port. served_in l.turns (g.P.Port.links port)) l.ports.items
    ≡ map (λ port. served_in l.turns (g.P.Port.links port)) l.fn.ports.items)
    × (All g.P.Port.IsSteady l.fn.ports.items → All g.P.Port.IsSteady l.ports.items × All (λ s. g.P.Port.IsSteady s.port × (s.furniture ≢ None)) l.all.items)

abbrev pub decreases-loop-alloc : goal.decreases-loop-alloc
decreases-loop-alloc g l = vec_len l.ports
