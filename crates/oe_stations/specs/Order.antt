-- The order of the findings of a way.
use Rattle.std.specs.Prelude.{ℕ}
use Rattle.std.specs.Option.{option_cmp}
use Rattle.std.specs.Ordering.{nat_cmp, ordering_then}
use Rattle.std.specs.declared.cmp.Ordering.{Ordering}
use Rattle.airfields.specs.Names.{name_cmp}
use Rattle.finding_lists.specs.declared.finding.Finding.{Finding}
use Rattle.finding_lists.specs.declared.finding.Rule.{Rule}
use Rattle.finding_lists.specs.declared.finding.Rule.TheVariants as rules
use Rattle.oe_stations.specs.declared.place.Place.{Place}

-- the parts of a list in order: the height of 77.17(a)(1), the standards of the airfields, 77.9(a), the slopes of 77.9(b), 77.9(d)
abbrev pub part_of : Rule → ℕ
part_of rules.H499 = 0
part_of rules.Near = 1
part_of rules.Horizontal = 1
part_of rules.Conical = 1
part_of rules.Primary = 1
part_of rules.Approach = 1
part_of rules.Transition = 1
part_of rules.PadPrimary = 1
part_of rules.PadApproach = 1
part_of rules.PadTransition = 1
part_of rules.NoticeA = 2
part_of rules.WayA = 2
part_of rules.NoticeB1 = 3
part_of rules.NoticeB2 = 3
part_of rules.NoticeB3 = 3
part_of rules.WayB1 = 3
part_of rules.WayB2 = 3
part_of rules.WayB3 = 3
part_of rules.NoticeD = 4

-- the rules of one airfield or runway in order; each rule has a number of its own
abbrev pub rank_of : Rule → ℕ
rank_of rules.H499 = 0
rank_of rules.Near = 1
rank_of rules.Horizontal = 2
rank_of rules.Conical = 3
rank_of rules.Primary = 4
rank_of rules.Approach = 5
rank_of rules.Transition = 6
rank_of rules.PadPrimary = 7
rank_of rules.PadApproach = 8
rank_of rules.PadTransition = 9
rank_of rules.NoticeA = 10
rank_of rules.NoticeB1 = 11
rank_of rules.NoticeB2 = 12
rank_of rules.NoticeB3 = 13
rank_of rules.NoticeD = 14
rank_of rules.WayA = 15
rank_of rules.WayB1 = 16
rank_of rules.WayB2 = 17
rank_of rules.WayB3 = 18

-- the place of a finding: its part of the list; in it the airfield; of that the runway, after what belongs to no runway; of that the
-- rule, and the end or side
abbrev pub place_of : Finding → Place
place_of f = record {
  part = part_of f.rule;
  field = f.key.field;
  runway = f.key.runway;
  rank = rank_of f.rule;
  side = f.key.part;
}

-- places in order: by part of the list, airfield, runway, rule, and end or side; what has no airfield or no runway comes first
abbrev pub place_cmp : Place → Place → Ordering
place_cmp p q =
    ordering_then (nat_cmp p.part q.part) (ordering_then (option_cmp name_cmp p.field q.field) (ordering_then (option_cmp name_cmp p.runway q.runway)
    (ordering_then (nat_cmp p.rank q.rank) (nat_cmp p.side q.side))))
