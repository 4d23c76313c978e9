use Rattle.std.proofs.Common.{◌≡◌, ◌+◌, arith}
use Rattle.horizontal_hull.proofs.SightSizes.{width_size}
use Rattle.horizontal_hull.proofs.seen.Seen.width.Goals as goal

pub overflow_add-result : goal.overflow_add-result
overflow_add-result c =
    let s = c.args.self.now in
    let e : c.from.result ≡ s.first_radius + c.args.c = omega (arith, c.from.ensures) in
    rw e (width_size s.first_radius c.args.c s.square s.lean s.sized.first_size c.requires.run s.sized.square_size s.sized.lean_size).fits

pub returns-clause-value : goal.returns-clause-value
returns-clause-value c =
    let s = c.args.self.now in
    let e : c.from.result ≡ s.first_radius + c.args.c = omega (arith, c.from.ensures) in
    rw e (width_size s.first_radius c.args.c s.square s.lean s.sized.first_size c.requires.run s.sized.square_size s.sized.lean_size).value

pub returns-clause-size : goal.returns-clause-size
returns-clause-size c =
    let s = c.args.self.now in
    let e : c.from.result ≡ s.first_radius + c.args.c = omega (arith, c.from.ensures) in
    let w = width_size s.first_radius c.args.c s.square s.lean s.sized.first_size c.requires.run s.sized.square_size s.sized.lean_size in
    rw (e, w.value) w.size
