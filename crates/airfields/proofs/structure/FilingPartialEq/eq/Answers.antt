use Rattle.std.proofs.Common.{◌&&◌}
use Rattle.std.specs.Ordering.{int_eq}
use Rattle.std.specs.Option.{option_eq}
use Rattle.airfields.specs.contracts.structure.StructureKindPartialEq.TheImpl as kinds
use Rattle.airfields.specs.contracts.structure.FlagsPartialEq.TheImpl as flags
use Rattle.airfields.specs.contracts.names.FieldIdPartialEq.TheImpl as names
use Rattle.airfields.proofs.structure.FilingPartialEq.eq.Goals as goal
use Rattle.airfields.proofs.SameFiling.{in_steps}

-- src/structure.rt:67:30
pub returns : goal.returns
returns c =
    let a = c.t1-1.inside in
    let b = c.t2-1.inside in
    rw (← c.t1-1.view_is, ← c.t2-1.view_is)
    (in_steps (int_eq a.ground b.ground) (int_eq a.height b.height) (int_eq a.mobile b.mobile)
    (int_eq a.at.x b.at.x && int_eq a.at.y b.at.y) (kinds.ghosts.eq a.kind b.kind) (flags.ghosts.eq a.flags b.flags) (option_eq names.ghosts.eq a.on b.on)
    c.eq.ensures c.and_eq.ensures c.and_eq-2.ensures c.and_eq-3.ensures c.and_eq-4.ensures c.and_eq-5.ensures c.and_eq-6.ensures)
