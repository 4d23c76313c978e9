-- The derived test of two acts says whether they are one.
use Rattle.std.proofs.Common.{◌≡◌, sym, ap, subst, true, true≢false, Bool, Option}
use Rattle.std.specs.Bool.{Decides}
use Rattle.std.specs.Option.{option_eq}
use Rattle.std.specs.Ordering.{int_eq}
use Rattle.std.specs.Cmp.{booleans_Decides}
use Rattle.std.proofs.lemmas.Bool.Decides.{Decides-and, Decides-eqb, Decides-int_eq, Decides-like}
use denote.Enum.Bare.{same_true, true_same}
use Rattle.jiff.proofs.Family.{same_date}
use Rattle.jiff_core.specs.declared.civil.date.Date.{Date}
use Rattle.jiff_core.specs.Date.{epoch_day}
use Rattle.airfields.proofs.SameStructures.{option_same, same_site}
use Rattle.airport_register.proofs.SameAmendments.{same_amendment}
use Rattle.case_requests.specs.contracts.act.Impact.{the_type as impact_type}
use Rattle.case_requests.specs.contracts.act.Party.{the_type as party_type}
use Rattle.case_requests.specs.contracts.act.ImpactPartialEq.TheImpl.{eq-value as impact_eq}
use Rattle.case_requests.specs.contracts.submission.SubmissionPartialEq.TheImpl.{eq-value as submission_eq}
use Rattle.case_requests.specs.contracts.act.ActPartialEq.TheImpl.{eq-value as act_eq}
use Rattle.case_requests.specs.contracts.act.ActEq.TheImpl.Laws as laws
use Rattle.case_requests.specs.declared.act.Impact.{Impact}
use Rattle.case_requests.specs.declared.submission.Submission.{Submission}
use Rattle.case_requests.specs.declared.act.Act.{Act}
use Rattle.case_requests.specs.declared.act.Act.TheVariants.{Amend, Day, Closed, File, Form, Determine, Petition, Dispose, Extend, Revise, Fcc, Abandon}

abbrev eq_days : Date → Date → Bool
eq_days a b = int_eq (epoch_day a) (epoch_day b)

same_day : (a b : Date) → Decides (eq_days a b) (a ≡ b)
same_day a b = Decides-like _ (same_date a b) (ap epoch_day) (Decides-int_eq (epoch_day a) (epoch_day b))

same_days : (a b : Option Date) → Decides (option_eq eq_days a b) (a ≡ b)
same_days a b = option_same {E = eq_days} same_day a b

-- ---- notices

one_submission : (a b : Submission) → a.start ≡ b.start → a.permit ≡ b.permit → a.fcc ≡ b.fcc → a.emergency ≡ b.emergency → a.statement ≡ b.statement → a.filing ≡ b.filing → a ≡ b
one_submission a b s p f e t g = λ i. record { start = s i; permit = p i; fcc = f i; emergency = e i; statement = t i; filing = g i }

same_submission : (a b : Submission) → Decides (submission_eq.it a b) (a ≡ b)
same_submission a b =
    Decides-like _ (λ h. one_submission a b h.0 h.1.0 h.1.1.0 h.1.1.1.0 h.1.1.1.1.0 h.1.1.1.1.1)
    (λ e. (ap (λ x. x.start) e, (ap (λ x. x.permit) e, (ap (λ x. x.fcc) e, (ap (λ x. x.emergency) e, (ap (λ x. x.statement) e, ap (λ x. x.filing) e))))))
    (Decides-and _ _ (same_day a.start b.start) (Decides-and _ _ (same_days a.permit b.permit) (Decides-and _ _ (same_days a.fcc b.fcc)
    (Decides-and _ _ (booleans_Decides a.emergency b.emergency) (Decides-and _ _ (booleans_Decides a.statement b.statement) (same_site a.filing b.filing))))))

-- ---- acts

same_impact : (a b : Impact) → Decides (impact_eq.it a b) (a ≡ b)
same_impact a b = (same_true impact_type tt a b, true_same impact_type a b)

one_act : (a b : Act) → act_eq.it a b ≡ true → a ≡ b
one_act (Amend a) (Amend b) h = ap Amend ((same_amendment a b).0 h)
one_act (Day a) (Day b) h = ap Day ((same_day a b).0 h)
one_act (Closed a) (Closed b) h = ap Closed ((same_day a b).0 h)
one_act (File a) (File b) h = ap File ((same_submission a b).0 h)
one_act (Form a) (Form b) h = ap Form ((Decides-eqb a b).0 h)
one_act (Determine n f) (Determine m g) h =
    let k = (Decides-and _ _ (Decides-eqb n m) (option_same {E = impact_eq.it} same_impact f g)).0 h in
    λ i. Determine (k.0 i) (k.1 i)
one_act (Petition n p) (Petition m q) h =
    let k = (Decides-and _ _ (Decides-eqb n m) (same_true party_type tt p q, true_same party_type p q)).0 h in
    λ i. Petition (k.0 i) (k.1 i)
one_act (Dispose n a) (Dispose m b) h =
    let k = (Decides-and _ _ (Decides-eqb n m) (booleans_Decides a b)).0 h in
    λ i. Dispose (k.0 i) (k.1 i)
one_act (Extend n l s f w) (Extend m k t g v) h =
    let k = (Decides-and _ _ (Decides-eqb n m) (Decides-and _ _ (Decides-eqb l k) (Decides-and _ _ (booleans_Decides s t) (Decides-and _ _ (same_days f g) (booleans_Decides w v))))).0 h in
    λ i. Extend (k.0 i) (k.1.0 i) (k.1.1.0 i) (k.1.1.1.0 i) (k.1.1.1.1 i)
one_act (Revise n s g z f) (Revise m t k y e) h =
    let both = (Decides-and _ _ (Decides-eqb n m) (Decides-and _ _ (booleans_Decides s t) (Decides-and _ _ (Decides-int_eq g k) (Decides-and _ _ (Decides-int_eq z y) (option_same {E = impact_eq.it} same_impact f e))))).0 h in
    λ i. Revise (both.0 i) (both.1.0 i) (both.1.1.0 i) (both.1.1.1.0 i) (both.1.1.1.1 i)
one_act (Fcc n c) (Fcc m d) h =
    let k = (Decides-and _ _ (Decides-eqb n m) (same_days c d)).0 h in
    λ i. Fcc (k.0 i) (k.1 i)
one_act (Abandon a) (Abandon b) h = ap Abandon ((Decides-eqb a b).0 h)
one_act a b h = absurd (true≢false (sym h))

pub same_act : (a b : Act) → Decides (act_eq.it a b) (a ≡ b)
same_act a b = (one_act a b, λ e. subst (λ b. act_eq.it a b ≡ true) e (laws.laws-law.refl a))
