use Rattle.std.proofs.Common.{◌≡◌, true, length}
use Rattle.oe_journal.specs.Journal.{IsLoadedOver, acknowledged_by}
use Rattle.oe_journal.specs.Runs.{just_loaded, after_all, StandsSo, AreMade}
use Rattle.oe_journal.proofs.runs.run_all.Given as goal

abbrev pub invariant-calls : goal.invariant-calls
invariant-calls g l = record {
  opened : l.keeper.is_open ≡ true;
  loaded : l.is_loaded ≡ true → ∥ IsLoadedOver g.D.Disk.IsTold g.D.Disk.content g.D.Disk.MayLeave l.keeper ∥₁;
  flag : (after_all (just_loaded (acknowledged_by g.D.Disk.content l.fn.keeper)) l.calls l.answers.items).is_loaded ≡ l.is_loaded;
  count : length l.answers.items ≡ l.call-index;
  stands : g.D.Disk.IsTold → StandsSo g.D.Disk.IsTold g.D.Disk.content g.D.Disk.MayLeave l.keeper (after_all (just_loaded (acknowledged_by g.D.Disk.content l.fn.keeper)) l.calls l.answers.items);
  made : AreMade g.D.Disk.IsTold g.D.Disk.TellsPast g.D.Disk.content g.D.Disk.MayLeave g.D.Disk.moment g.D.Disk.LeftSince g.D.Disk.faults
      l.fn.keeper (just_loaded (acknowledged_by g.D.Disk.content l.fn.keeper)) l.calls l.answers.items l.keeper;
}
