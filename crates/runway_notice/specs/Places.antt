-- For proofs alone: an offset in 64-bit numbers.
use Rattle.grid_exact.specs.Lines.{Offset}
use Rattle.runway_notice.specs.declared.parts.Place.{Place}

abbrev pub place_offset : Place → Offset
place_offset p = record { along = p.along; aside = p.aside; square = p.square }
