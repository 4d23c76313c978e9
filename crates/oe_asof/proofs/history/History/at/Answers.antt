use Rattle.std.proofs.Common.{ap, ◌∙◌, Some}
use Rattle.std.specs.Option.{option_map}
use Rattle.std.specs.Ordering.{nat_cmp}
use Rattle.std.specs.Cmp.{nat_cmp_total}
use Rattle.ordered_list.proofs.Searches.{search_read, search_none}
use Rattle.oe_asof.specs.Versions.{airfields_of, number_of}
use Rattle.oe_asof.proofs.history.History.at.Goals as goal

pub returns-in-Ok : goal.returns-in-Ok
returns-in-Ok c =
    rw (← c.self.view_is) (ap Some c.sky.ensures ∙ ap (option_map airfields_of) (search_read nat_cmp nat_cmp_total number_of c.args.number _ _ c.in-Ok.at _ c.self.invariant c.as_slice.ensures.value c.in-Ok.ensures.within c.in-Ok.ensures.found c.index.ensures))

pub returns-in-Err : goal.returns-in-Err
returns-in-Err c =
    rw (← c.self.view_is) (ap (option_map airfields_of) (search_none nat_cmp nat_cmp_total number_of c.args.number _ _ _ c.self.invariant c.as_slice.ensures.value c.in-Err.ensures.found))
