use Rattle.imaginary_surfaces.proofs.AreaFacts.{beside_primary_in, itself_least}
use Rattle.imaginary_surfaces.specs.Strips.{primary_of}
use Rattle.imaginary_surfaces.proofs.strip.Strip.six_areas.Goals as goal

pub returns-clause-exact : goal.returns-clause-exact
returns-clause-exact c = record {
  primary_least = c.primary_area.ensures.exact;
  approach1_least = c.approach_area.ensures.exact;
  approach2_least = c.approach_area-2.ensures.exact;
  beside_primary_least = itself_least c.args.hull.now;
  beside_approach1_least = c.beside_area.ensures.exact;
  beside_approach2_least = c.beside_area-2.ensures.exact;
}

pub returns-clause-covers : goal.returns-clause-covers
returns-clause-covers c = record {
  primary_has = c.primary_area.ensures.covers;
  approach1_has = c.approach_area.ensures.covers;
  approach2_has = c.approach_area-2.ensures.covers;
  beside_primary_has = λ x cap h k. beside_primary_in (primary_of c.args.self.now) x cap c.args.hull.now h k;
  beside_approach1_has = c.beside_area.ensures.covers;
  beside_approach2_has = c.beside_area-2.ensures.covers;
}
