use Rattle.std.proofs.Common.{rules, ◌≡◌, ◌<◌, ◌-◌, length, get_or, sym, subst, ◌∙◌}
use Rattle.crash_disks.specs.Replay.{Leaves, InPlace}
use Rattle.crash_disks.proofs.Crashes.{fits_here, one_more}
use Rattle.crash_disks.proofs.crash.left_by.Goals as goal

pub read_after-requires : goal.read_after-requires
read_after-requires c =
    let done = c.args.steps.now.items in
    let k = c.steps.older in
    let lt : k < length done = search rules in
    let is : c.index-step.result.now ≡ get_or done (length done - 1 - k) c.index-step.result.now = search rules in
    subst (InPlace c.index-step.result.now) (sym c.as_slice-in-steps-2.ensures.value) (fits_here c.args.first.now done k c.steps.left.items c.steps.read.items c.steps.invariant c.index-step.result.now lt is c.requires)

pub steps-preserved : goal.steps-preserved
steps-preserved c =
    let done = c.args.steps.now.items in
    let k = c.steps.older in
    let lt : k < length done = search rules in
    let is : c.index-step.result.now ≡ get_or done (length done - 1 - k) c.index-step.result.now = search rules in
    one_more c.args.first.now done k c.steps.left.items c.steps.read.items c.steps.invariant c.index-step.result.now lt is c.in_ok-next.next.items c.in_ok-read-2.read.items
    (λ f older r l. c.in_ok-next.ensures f older (c.as_slice-in-steps.ensures.value ∙ r) (subst (Leaves f older) (sym c.as_slice.ensures.value) l)) (λ f older r. c.in_ok-read-2.ensures f older (c.as_slice-in-steps-2.ensures.value ∙ r))
