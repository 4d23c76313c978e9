-- For proofs alone: the specs of a measured distance.
use Rattle.runway_notice.specs.Distances.{Fraction}
use Rattle.runway_notice.specs.declared.square_distance.SquareDistance.{SquareDistance}

abbrev pub fraction : SquareDistance → Fraction
fraction d = record { part = d.part; whole = d.whole }
