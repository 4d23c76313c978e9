use Rattle.std.proofs.Common.{◌/◌, length, arith, length-take}
use Rattle.crash_disks.proofs.Crashes.{torn_part, if_ok}
use Rattle.crash_disks.proofs.crash.tear.Goals as goal

pub returns-in-2 : goal.returns-in-2
returns-in-2 c =
    let l = length-take (length c.args.patch.now / 2) c.args.patch.now in
    if_ok c.with_patch-in-2.result (λ v is. torn_part c.args.at (length c.args.patch.now) _ c.args.bytes.now v.items c.if-at-bytes.false (omega arith) is) c.with_patch-in-2.ensures
