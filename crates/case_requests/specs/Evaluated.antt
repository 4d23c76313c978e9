-- The structure that an act evaluates.
use Rattle.std.specs.Prelude.{ℕ, Option, Some, None}
use Rattle.airfields.specs.Sites.{AreFacts, Site, revised_site}
use Rattle.case_requests.specs.declared.act.Act.{Act}
use Rattle.case_requests.specs.declared.act.Act.TheVariants as acts

-- the case whose structure the act evaluates: that of a determination, and that of a revision
abbrev pub evaluated_case : Act → Option ℕ
evaluated_case (acts.Amend amendment) = None
evaluated_case (acts.Day date) = None
evaluated_case (acts.Closed date) = None
evaluated_case (acts.File submission) = None
evaluated_case (acts.Form n) = None
evaluated_case (acts.Determine n finding) = Some n
evaluated_case (acts.Petition n party) = None
evaluated_case (acts.Dispose n affirm) = None
evaluated_case (acts.Extend n months started filed warranted) = None
evaluated_case (acts.Revise n started terrain height finding) = Some n
evaluated_case (acts.Fcc n completion) = None
evaluated_case (acts.Abandon n) = None

-- the structure that it evaluates, of a case that has this one: a revision evaluates it with the new facts (77.35(a))
abbrev pub evaluated_of : Act → Site → Site
evaluated_of (acts.Amend amendment) site = site
evaluated_of (acts.Day date) site = site
evaluated_of (acts.Closed date) site = site
evaluated_of (acts.File submission) site = site
evaluated_of (acts.Form n) site = site
evaluated_of (acts.Determine n finding) site = site
evaluated_of (acts.Petition n party) site = site
evaluated_of (acts.Dispose n affirm) site = site
evaluated_of (acts.Extend n months started filed warranted) site = site
evaluated_of (acts.Revise n started terrain height finding) site = revised_site site terrain height
evaluated_of (acts.Fcc n completion) site = site
evaluated_of (acts.Abandon n) site = site

-- the new facts of a revision are within the limits of a filing
abbrev pub HasFacts : Act → Type 0
HasFacts (acts.Amend amendment) = Unit {0}
HasFacts (acts.Day date) = Unit {0}
HasFacts (acts.Closed date) = Unit {0}
HasFacts (acts.File submission) = Unit {0}
HasFacts (acts.Form n) = Unit {0}
HasFacts (acts.Determine n finding) = Unit {0}
HasFacts (acts.Petition n party) = Unit {0}
HasFacts (acts.Dispose n affirm) = Unit {0}
HasFacts (acts.Extend n months started filed warranted) = Unit {0}
HasFacts (acts.Revise n started terrain height finding) = AreFacts terrain height
HasFacts (acts.Fcc n completion) = Unit {0}
HasFacts (acts.Abandon n) = Unit {0}
