-- The list of findings that a determination or a revision is made on.
use Rattle.std.specs.Prelude.{ℕ, ◌&&◌, nat_le, cond, Bool, List, Option, Some, None}
use Rattle.std.specs.Option.{option_map}
use Rattle.airfields.specs.Sites.{Site}
use Rattle.airfields.specs.contracts.structure.FilingPartialEq.TheImpl as filing
use Rattle.finding_lists.specs.declared.finding.Finding.{Finding}
use Rattle.determination_dates.specs.Computed.{with_some}
use Rattle.oe_findings.specs.List.{findings_of}
use Rattle.case_requests.specs.declared.act.Act.{Act}
use Rattle.case_requests.specs.Evaluated.{evaluated_case, evaluated_of}
use Rattle.case_records.specs.declared.case.KeptList.{KeptList}
use Rattle.case_records.specs.declared.case.KeptCase.{KeptCase}
use Rattle.desk_machine.specs.States.{State, last_number, case_at}

-- a list that was computed elsewhere: its structure, and the number of the last entry of its register
pub record Given : Type 0 where
  pub filing : Site
  pub last : ℕ
  pub list : List Finding

-- whether two structures are the same
abbrev pub same_site : Site → Site → Bool
same_site = filing.ghosts.eq

-- the findings over the present register
abbrev pub own_list : State → Site → KeptList
own_list s site = record { last = last_number s; list = findings_of s.register site }

-- the given list, where it is for this structure and its number is at most p; else the desk's own
abbrev pub evaluation_of : State → ℕ → Option Given → Site → KeptList
evaluation_of s p None site = own_list s site
evaluation_of s p (Some g) site = cond (same_site g.filing site && nat_le g.last p) (record { last = g.last; list = g.list }) (own_list s site)

abbrev pub site_of : KeptCase → Site
site_of c = c.submission.filing

-- the structure that an act evaluates: that of its case, for a revision with the new facts
abbrev pub evaluated_site : State → Act → Option Site
evaluated_site s act = with_some (evaluated_case act) (λ number. option_map (λ c. evaluated_of act (site_of c)) (case_at s.cases number))

-- the list that an act is decided on
abbrev pub basis_of : State → ℕ → Option Given → Act → Option KeptList
basis_of s p given act = option_map (evaluation_of s p given) (evaluated_site s act)
