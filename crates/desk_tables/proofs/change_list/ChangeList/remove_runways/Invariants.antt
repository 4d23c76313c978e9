use Rattle.std.proofs.Common.{◌≡◌, ◌++◌, map, take}
use Rattle.airfields.specs.declared.runway.Runway.{Runway as Strip}
use Rattle.desk_tables.specs.Changes.{remove_runway}
use Rattle.desk_tables.proofs.change_list.ChangeList.remove_runways.Given as goal

abbrev pub invariant-runways : goal.invariant-runways
invariant-runways l = l.self ≡ l.fn.self ++ map (λ (r : Strip). remove_runway l.id r.name) (take l.runway-index l.runways)
