-- Heights above the ground at the site: 77.9(a) and 77.17(a)(1).
use Rattle.std.specs.Prelude.{ℕ, ℤ, ◌+ℤ◌, Option, true, ⊤}
use Rattle.grid_exact.specs.Excess.{Surface, flat_surface, flat_excess_of}
use Rattle.airfields.specs.Sites.{Site}
use Rattle.height_rules.specs.Heights.{notice_top, standards_top}
use Rattle.height_rules.specs.declared.above_ground.TheConstants.{NOTICE_HEIGHT, OBSTRUCTION_HEIGHT}

-- 77.9(a): notice is required for structures more than 200 feet above the ground
abbrev pub notice_limit : Site → ℤ
notice_limit s = s.terrain +ℤ NOTICE_HEIGHT

abbrev pub notice_surface : Site → Surface
notice_surface s = flat_surface ⊤ (notice_limit s)

abbrev pub notice_excess : Site → Option ℕ
notice_excess s = flat_excess_of true (notice_limit s) (notice_top s)

-- 77.17(a)(1): a structure more than 499 feet above the ground is an obstruction
abbrev pub height_limit : Site → ℤ
height_limit s = s.terrain +ℤ OBSTRUCTION_HEIGHT

abbrev pub height_surface : Site → Surface
height_surface s = flat_surface ⊤ (height_limit s)

abbrev pub height_excess : Site → Option ℕ
height_excess s = flat_excess_of true (height_limit s) (standards_top s)
