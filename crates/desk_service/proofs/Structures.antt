-- The structure that a change evaluates.
use Rattle.std.proofs.Common.{◌≡◌, ℕ, refl, sym, ap, ◌∙◌, subst, List, Option, Some, None, IfSome}
use Rattle.std.specs.Option.{option_map}
use Rattle.airfields.specs.Sites.{Site}
use Rattle.airfields.specs.declared.airfield.Airfield.{Airfield}
use Rattle.case_requests.specs.declared.act.Act.{Act}
use Rattle.case_requests.specs.Evaluated.{evaluated_case, evaluated_of}
use Rattle.determination_dates.specs.Computed.{with_some}
use Rattle.case_records.specs.declared.case.KeptCase.{KeptCase}
use Rattle.wire_requests.specs.Changes.{Asked}
use Rattle.desk_machine.specs.States.{State, case_at}
use Rattle.desk_machine.specs.Evaluations.{evaluated_site, site_of}
use Rattle.filing_desk.specs.Clerks.{Clerking}
use Rattle.publishing_clerk.specs.Publishing.{Publishing}
use Rattle.publishing_clerk.specs.Evaluations.{Evaluating, IsEvaluation}
use Rattle.publishing_clerk.specs.Fronts.{FilingOf, IsFilingOf}
use Rattle.desk_service.specs.Sittings.{IsEvaluated, Looks, Sitting}

module _ {K : Type 0} where
  -- an act without a case evaluates nothing
  pub none_told : (o : Option (Publishing K)) (a b : Act) → a ≡ b → evaluated_case a ≡ None → IfSome o (λ c. None ≡ evaluated_site c.clerk.state b)
  none_told None a b e h = tt
  none_told (Some c) a b e h =
      subst (λ x. None ≡ evaluated_site c.clerk.state x) e
      (sym (ap (λ (n : Option ℕ). with_some n (λ number. option_map (λ k. evaluated_of a (site_of k)) (case_at c.clerk.state.cases number))) h))

  -- any other evaluates the structure of its case
  pub case_told : (opening : State) (o : Option (Publishing K)) (a b : Act) (n : ℕ) (x : FilingOf K) → evaluated_case a ≡ Some n → a ≡ b
      → IsFilingOf opening x → x.number ≡ n → IfSome o (λ c. (x.clerk ≡ c.clerk) × (x.note ≡ c.published)) → IfSome o (λ c. option_map (evaluated_of a) x.filing ≡ evaluated_site c.clerk.state b)
  case_told opening None a b n x e same is number got = tt
  case_told opening (Some c) a b n x e same is number got =
      let of : KeptCase → Site = λ k. evaluated_of a (site_of k) in
      let found : option_map (evaluated_of a) x.filing ≡ option_map of (case_at c.clerk.state.cases n) =
      ap (option_map (evaluated_of a)) (is.filing ∙ ap (λ (k : Clerking K). option_map site_of (case_at k.state.cases x.number)) got.0 ∙ ap (λ (m : ℕ). option_map site_of (case_at c.clerk.state.cases m)) number)
      ∙ twice (evaluated_of a) (case_at c.clerk.state.cases n) in
      subst (λ (y : Act). option_map (evaluated_of a) x.filing ≡ evaluated_site c.clerk.state y) same
      (found ∙ sym (ap (λ (m : Option ℕ). with_some m (λ number. option_map of (case_at c.clerk.state.cases number))) e))
    where
      twice : (f : Site → Site) (o : Option KeptCase) → option_map f (option_map site_of o) ≡ option_map (λ k. f (site_of k)) o
      twice f None = refl
      twice f (Some k) = refl

  pub none_evaluated : (first : Option (List Airfield)) (change : Asked) (s : Sitting K) → IfSome s.clerk (λ c. None ≡ evaluated_site c.clerk.state change.act) → IsEvaluated first change s None s
  none_evaluated first change s h = record { shown = tt; wanted = h }

  pub some_evaluated : (first : Option (List Airfield)) (change : Asked) (s t : Sitting K) (site : Site) (e : Evaluating) → e.filing ≡ site → e.front ≡ t.front → Looks s t → IsEvaluation first e
      → IfSome s.clerk (λ c. Some site ≡ evaluated_site c.clerk.state change.act) → IsEvaluated first change s (Some e) t
  some_evaluated first change s t site e is front looks over h =
      record { shown = (front, looks.all, looks.known, over); wanted = subst (λ x. IfSome s.clerk (λ c. Some x ≡ evaluated_site c.clerk.state change.act)) (sym is) h }
