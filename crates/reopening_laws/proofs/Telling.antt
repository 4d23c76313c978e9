-- From what a keeper finds to the desk that it tells.
use Rattle.std.proofs.Common.{◌≡◌, refl, sym, subst, ◌∙◌, inl, inr, ℕ, List, Option, Result, Ok, Err}
use Rattle.std.specs.Prelude.{IfOk, IfErr}
use Rattle.std.specs.Coded.{Coded, Coded-set, code_by, coded×, coded_list, coded_option}
use Rattle.std.proofs.Math.Logic.{∥∥₁_elim, ∥∥₁_prop}
use Rattle.jiff_core.specs.contracts.civil.date.Date as date
use Rattle.airfields.specs.contracts.airfield.Airfield as airfield
use Rattle.case_records.specs.contracts.case.KeptCase as case
use Rattle.desk_machine.specs.contracts.entry.Entry as entry
use Rattle.desk_machine.specs.States.{State}
use Rattle.oe_keeper.specs.Kept.{Kept, Key}
use Rattle.oe_keeper.specs.Keeping.{StaysSilent}
use Rattle.desk_tables.specs.Rows.{AreRows}
use Rattle.desk_tables.specs.Opening.{Opens, IsFirstBad}
use Rattle.filing_desk.specs.Clerks.{Clerking}
use Rattle.desk_receipts.specs.Handed.{Told}
use Rattle.desk_receipts.specs.Keepers.{HasLoaded}
use Rattle.filing_desk.specs.Loads.{IsOpened, HasOpenCause}
use Rattle.desk_receipts.specs.declared.renewal.OpenRefusal.{OpenRefusal}
use Rattle.desk_receipts.specs.declared.renewal.OpenRefusal.TheVariants as refusals
use Rattle.reopening_laws.specs.Refusals.{IsNoBadRow, StillTells}

state_code : Coded State
state_code =
    code_by (_ × (_ × (_ × (_ × _))))
    (coded× (coded_list airfield.the_row.coded) (coded× (coded_option date.the_row.coded) (coded× (coded_list date.the_row.coded) (coded× (coded_list case.the_row.coded) (coded_list entry.the_row.coded)))))
    (λ (s : State). (s.register, (s.day, (s.closed, (s.cases, s.entries)))))
    (λ p. record { register = p.0; day = p.1.0; closed = p.1.1.0; cases = p.1.1.1.0; entries = p.1.1.1.1 })
    (λ _. refl)

module _ {K : Type 0} (Tells : K → Kept → Type 0) (Finds : K → Option (List ℕ) → Kept → Type 0) (IsSteady : K → Type 0) (faults : K → ℕ) (keeper : K) (path : Option (List ℕ)) (s : State)
    (told : Told Tells keeper s) (opens : (kept : Kept) → AreRows s kept → Opens kept s) where
  -- what was loaded are the rows of the state
  loaded_rows : (rows : Kept) (after : K) → HasLoaded Tells Finds keeper path rows after → StillTells Tells Finds keeper path after → ∥ AreRows s rows ∥₁
  unfolding Told
  loaded_rows rows after h (inl finds) = told rows (finds rows h.found)
  loaded_rows rows after h (inr (old, now, before, is)) = subst (λ (r : Kept). ∥ AreRows s r ∥₁) (sym (h.stays old now before is) ∙ h.told now is) (told old before)

  -- also where rows of the older format were brought to that of today after the load
  opened_rows : (rows : Kept) (between after : K) → HasLoaded Tells Finds keeper path rows between → StaysSilent Tells between after → StillTells Tells Finds keeper path after → ∥ AreRows s rows ∥₁
  opened_rows rows between after h silent (inl finds) = loaded_rows rows between h (inl finds)
  opened_rows rows between after h silent (inr (old, now, before, is)) =
      ∥∥₁_elim (silent now is) ∥∥₁_prop (λ mid. loaded_rows rows between h (inr (old, mid.0, before, mid.1)))

  pub same_state : ((a b : State) (kept : Kept) → Opens kept a → Opens kept b → a ≡ b) → (r : Result (Clerking K) OpenRefusal) → IfOk r (λ c. IsOpened Tells Finds IsSteady faults keeper path c)
      → IfOk r (λ c. StillTells Tells Finds keeper path c.keeper → c.state ≡ s)
  same_state one (Err why) h = tt
  same_state one (Ok c) h = λ still.
      ∥∥₁_elim (opened_rows h.kept h.between c.keeper h.loaded h.renewed.silent still) (Coded-set state_code _ _) (λ are. one c.state s h.kept h.opens (opens h.kept are))

  none_bad : ((a : State) (kept : Kept) (k : Key) → Opens kept a → IsFirstBad kept k → ⊥) → (why : OpenRefusal) → HasOpenCause Tells Finds IsSteady faults keeper path why → IsNoBadRow Tells Finds keeper path why
  none_bad sound refusals.KeeperFault h = tt
  none_bad sound (refusals.BadRow table key) (kept, after, loaded, bad) =
      (kept, after, loaded, λ still. ∥∥₁_elim (loaded_rows kept after loaded still) (λ a b. absurd a) (λ are. sound s kept _ (opens kept are) bad))
  none_bad sound refusals.NoMemory h = tt

  pub no_bad_row : ((a : State) (kept : Kept) (k : Key) → Opens kept a → IsFirstBad kept k → ⊥) → (r : Result (Clerking K) OpenRefusal) → IfErr r (HasOpenCause Tells Finds IsSteady faults keeper path)
      → IfErr r (IsNoBadRow Tells Finds keeper path)
  no_bad_row sound (Ok c) h = tt
  no_bad_row sound (Err why) h = none_bad sound why h
