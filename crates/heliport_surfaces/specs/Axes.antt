-- For proofs alone: the line of an axis.
use Rattle.grid_exact.specs.Axes.{line_of}
use Rattle.grid_exact.specs.Lines.{Line}
use Rattle.heliport_surfaces.specs.declared.axis.PadAxis.{PadAxis}

abbrev pub pad_line : PadAxis → Line
pad_line a = line_of a.axis
