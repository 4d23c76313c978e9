-- The verdict on a list of findings.
use Rattle.std.specs.Prelude.{◌-◌, ◌^◌, List, length, min, Bool, true, false, not}
use Rattle.std.specs.List.{list_any}
use Rattle.finding_lists.specs.declared.finding.Finding.{Finding}
use Rattle.finding_lists.specs.declared.finding.Rule.{Rule}
use Rattle.finding_lists.specs.declared.finding.Rule.TheVariants as rules
use Rattle.finding_lists.specs.declared.verdict.Verdict.{Verdict}

-- the rules of 77.9 require a notice; the others are the standards of 77.17, 77.19 and 77.23
abbrev pub is_notice : Rule → Bool
is_notice rules.H499 = false
is_notice rules.Near = false
is_notice rules.Horizontal = false
is_notice rules.Conical = false
is_notice rules.Primary = false
is_notice rules.Approach = false
is_notice rules.Transition = false
is_notice rules.PadPrimary = false
is_notice rules.PadApproach = false
is_notice rules.PadTransition = false
is_notice rules.NoticeA = true
is_notice rules.NoticeB1 = true
is_notice rules.NoticeB2 = true
is_notice rules.NoticeB3 = true
is_notice rules.NoticeD = true
is_notice rules.WayA = true
is_notice rules.WayB1 = true
is_notice rules.WayB2 = true
is_notice rules.WayB3 = true

abbrev pub asks_notice : List Finding → Bool
asks_notice list = list_any (λ f. is_notice f.rule) list

abbrev pub is_obstruction : List Finding → Bool
is_obstruction list = list_any (λ f. not (is_notice f.rule)) list

-- whether there is a notice rule, whether there is a standard, and the number of entries
abbrev pub verdict_of : List Finding → Verdict
verdict_of list = record { notice = asks_notice list; obstruction = is_obstruction list; entries = length list }

-- the same, where the count stops at the greatest value of its type
abbrev pub tally_of : List Finding → Verdict
tally_of list = record { notice = asks_notice list; obstruction = is_obstruction list; entries = min (length list) (2 ^ 32 - 1) }
