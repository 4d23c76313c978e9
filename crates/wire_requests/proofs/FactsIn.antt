-- The new facts of a revision that has a record are within their limits.
use Rattle.case_requests.specs.Evaluated.{HasFacts}
use Rattle.case_requests.specs.declared.act.Act.{Act}
use Rattle.case_requests.specs.declared.act.Act.TheVariants as acts
use Rattle.wire_requests.specs.Limits.{IsValidAct}

pub has_facts : (a : Act) → IsValidAct a → HasFacts a
has_facts (acts.Amend amendment) h = tt
has_facts (acts.Day date) h = tt
has_facts (acts.Closed date) h = tt
has_facts (acts.File submission) h = tt
has_facts (acts.Form n) h = tt
has_facts (acts.Determine n finding) h = tt
has_facts (acts.Petition n party) h = tt
has_facts (acts.Dispose n affirm) h = tt
has_facts (acts.Extend n months started filed warranted) h = tt
has_facts (acts.Revise n started ground height finding) h = h.1
has_facts (acts.Fcc n completion) h = tt
has_facts (acts.Abandon n) h = tt
