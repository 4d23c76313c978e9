-- What is wanted of the effect of an act: an outcome that its request can lead to, and a step after which each case is plain.
use Rattle.std.proofs.Common.{◌≡◌, ◌≢◌, sym, ◌∙◌, subst, arith, ℕ, ◌+◌, ◌≤◌, length, Option, Some, None}
use Rattle.std.proofs.lemmas.Option.{none-some, same_Some}
use Rattle.determination_dates.specs.Days.{IsLimited}
use Rattle.determination_dates.specs.Effects.{IsKept}
use Rattle.determination_dates.specs.Computed.{with_some}
use Rattle.determination_dates.specs.declared.determination.Record.{Record}
use Rattle.determination_dates.specs.declared.life.Life.{Life}
use Rattle.case_requests.specs.declared.act.Act.{Act}
use Rattle.case_records.specs.declared.case.KeptCase.{KeptCase}
use Rattle.case_records.specs.declared.case.KeptList.{KeptList}
use Rattle.case_acts.specs.declared.effect.Effect.{Effect}
use Rattle.case_acts.specs.declared.effect.Step.{Step}
use Rattle.case_acts.specs.declared.effect.Step.TheVariants as steps
use Rattle.wire_cursor.specs.Groups.{IsValidSite}
use Rattle.row_cases.specs.Filings.{IsPlainRecord, IsJudged}
use Rattle.row_receipts.specs.Kinds.{CanLeadTo}
use Rattle.desk_tables.specs.Names.{PutsNames}
use Rattle.desk_machine.specs.declared.entry.TheConstants.{MOST_CASES}
use Rattle.desk_machine.specs.States.{State, case_at}
use Rattle.desk_machine.specs.Machine.{version_of}
use Rattle.desk_tables.specs.Reachable.{IsCaseOf}
use Rattle.desk_tables.proofs.DateLimits.{if_limited}

-- the step leaves cases that a row can tell
abbrev pub IsPlainStep : State → Step → Type 0
IsPlainStep s (steps.Amended a) = PutsNames a
IsPlainStep s (steps.DaySet d) = IsLimited d
IsPlainStep s (steps.DayClosed d) = IsLimited d
IsPlainStep s (steps.CaseFiled c) = IsCaseOf (length s.entries) c × (length s.cases + 1 ≤ MOST_CASES) × (s.day ≢ None)
IsPlainStep s (steps.FormPut number day) = IsLimited day
IsPlainStep s (steps.LifePut number life) = (c : KeptCase) → case_at s.cases number ≡ Some c → IsJudged life.determination c.list
IsPlainStep s (steps.Issued number site life list) = IsJudged life.determination (Some list) × (list.last ≤ length s.entries) × IsValidSite site

-- the outcome has no list, or one over the register as it is or as it was
pub record IsPlainEffect (s : State) (a : Act) (e : Effect) : Type 0 where
  pub led : CanLeadTo a e.outcome
  pub list : version_of e.outcome ≤ length s.entries
  pub step : IsPlainStep s e.step

-- an act gives a case a life, which leaves its list the list of its determination
pub record PutsPlainLife (a : Act) (number : ℕ) (c : KeptCase) (e : Effect) : Type 0 where
  pub led : CanLeadTo a e.outcome
  pub list : version_of e.outcome ≡ 0
  pub life : Life
  pub step : e.step ≡ steps.LifePut number life
  pub judged : IsJudged life.determination c.list

pub life_plain : (s : State) (a : Act) (number : ℕ) (c : KeptCase) (e : Effect) → case_at s.cases number ≡ Some c → PutsPlainLife a number c e
    → IsPlainEffect s a e
life_plain s a number c e at put = record {
  led = put.led;
  list = omega (arith, put.list);
  step = subst (IsPlainStep s) (sym put.step)
      (λ d is. subst (λ (x : KeptCase). IsJudged put.life.determination x.list) (same_Some c d (sym at ∙ is)) put.judged);
}

-- ---- the determination of a case

-- it is plain, and another that is so can take its place
pub record_shown : (o : Option Record) (kept : Option KeptList) (f : Record → Option Effect) (e : Effect) (P : Type 0) → IsJudged o kept
    → ((r : Record) → IsPlainRecord r → ((s : Record) → IsPlainRecord s → IsJudged (Some s) kept) → f r ≡ Some e → P) → with_some o f ≡ Some e → P
record_shown None kept f e P h g is = absurd (none-some e is)
record_shown (Some r) None f e P h g is = absurd h
record_shown (Some r) (Some kept) f e P h g is = g r h.0 (λ s k. (k, h.1)) is

pub kept_record : (r : Record) → IsPlainRecord r → IsKept r
kept_record r h = record {
  issued = h.issued;
  deadline = if_limited r.deadline h.deadline;
  ordinary = h.ordinary;
  affirmed = if_limited r.affirmed h.affirmed;
  set_expiry = if_limited r.set_expiry h.set_expiry;
}
