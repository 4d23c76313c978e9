-- What the versions of a desk say of an earlier entry.
use Rattle.std.proofs.Common.{◌≡◌, ◌≢◌, refl, sym, ap, ◌∙◌, arith, ℕ, suc, ◌+◌, ◌-◌, ◌≤◌, ◌<◌, ◌==◌, List, [], ◌∷◌, length, take, Bool, true, false, cond, Some, None, ◌⊎◌, inl, inr}
use Rattle.std.specs.Option.{option_map}
use Rattle.std.specs.Ordering.{nat_cmp, is_eq}
use Rattle.std.specs.Cmp.{unsigned_tied}
use Rattle.std.proofs.lemmas.Bool.{cases_lt}
use Rattle.std.proofs.lemmas.Bool.Decides.{nat_tests}
use Rattle.airfields.specs.declared.airfield.Airfield.{Airfield}
use Rattle.oe_findings.specs.List.{findings_of}
use Rattle.desk_machine.specs.declared.entry.Entry.{Entry}
use Rattle.desk_machine.specs.States.{State, last_number}
use Rattle.desk_machine.specs.Fronts.{register_after, register_after_act}
use Rattle.oe_asof.specs.Replies.{WasAccepted, IsToldOf, accepted_since, airfields_then, not_kept_text, as_of_text}
use Rattle.oe_asof.specs.Versions.{AreEnds, Version, airfields_at, latest, number_of, version}
use Rattle.oe_asof.specs.Histories.{IsCurrent, IsToldBy, versions_since, later_versions}
use Rattle.oe_asof.proofs.CurrentFacts.{counted, last_is}

-- ---- lists of versions

looked : (m : ℕ) (v : Version) (vs : List Version) (b : Bool) → (m == v.number) ≡ b → airfields_at m (v ∷ vs) ≡ cond b (Some v.airfields) (airfields_at m vs)
looked m v vs true e = let tied : is_eq (nat_cmp m v.number) ≡ true = unsigned_tied m v.number ∙ e in rw tied refl
looked m v vs false e = let tied : is_eq (nat_cmp m v.number) ≡ false = unsigned_tied m v.number ∙ e in rw tied refl

here : (m : ℕ) (v : Version) (vs : List Version) → m ≡ v.number → airfields_at m (v ∷ vs) ≡ Some v.airfields
here m v vs e = looked m v vs true (grind (arith, nat_tests, e))

behind : (m : ℕ) (v : Version) (vs : List Version) → m ≢ v.number → airfields_at m (v ∷ vs) ≡ airfields_at m vs
behind m v vs d = looked m v vs false (grind (arith, nat_tests, d))

at_first : (n : ℕ) (r : List Airfield) (es : List Entry) (m : ℕ) → m ≡ n → airfields_at m (versions_since n r es) ≡ Some (register_after r (take (m - n) es))
at_first n r es m e =
    let none : m - n ≡ 0 = omega (arith, e) in
    here m (version n r) (later_versions n r es) e ∙ ap (λ (k : ℕ). Some (register_after r (take k es))) (sym none)

by_place : (n : ℕ) (r : List Airfield) (e : Entry) (es : List Entry) (m : ℕ) → n ≤ m
    → (n + 1 ≤ m → airfields_at m (versions_since (n + 1) (register_after_act r e.change.act) es) ≡ Some (register_after (register_after_act r e.change.act) (take (m - (n + 1)) es)))
    → (n < m) ⊎ (m ≤ n) → airfields_at m (versions_since n r (e ∷ es)) ≡ Some (register_after r (take (m - n) (e ∷ es)))
by_place n r e es m low more (inr first) = at_first n r (e ∷ es) m (omega (arith, low, first))
by_place n r e es m low more (inl later) =
    let step : m - n ≡ suc (m - (n + 1)) = omega (arith, later) in
    behind m (version n r) (versions_since (n + 1) (register_after_act r e.change.act) es) (λ f. omega (arith, later, f))
    ∙ more (omega (arith, later)) ∙ ap (λ (k : ℕ). Some (register_after r (take k (e ∷ es)))) (sym step)

-- the version of a number has the airfields after the entries up to it
within : (n : ℕ) (r : List Airfield) (es : List Entry) (m : ℕ) → n ≤ m → m ≤ n + length es → airfields_at m (versions_since n r es) ≡ Some (register_after r (take (m - n) es))
within n r [] m low high = at_first n r [] m (omega (arith, low, high))
within n r (e ∷ es) m low high =
    by_place n r e es m low (λ (h : n + 1 ≤ m). within (n + 1) (register_after_act r e.change.act) es m h (omega (arith, high))) (cases_lt n m)

-- there is none of another number
outside : (n : ℕ) (r : List Airfield) (es : List Entry) (m : ℕ) → (m < n) ⊎ (n + length es < m) → airfields_at m (versions_since n r es) ≡ None
outside n r [] m (inl h) = behind m (version n r) [] (λ f. omega (arith, h, f))
outside n r [] m (inr h) = behind m (version n r) [] (λ f. omega (arith, h, f))
outside n r (e ∷ es) m (inl h) =
    behind m (version n r) (versions_since (n + 1) (register_after_act r e.change.act) es) (λ f. omega (arith, h, f)) ∙ outside (n + 1) (register_after_act r e.change.act) es m (inl (omega (arith, h)))
outside n r (e ∷ es) m (inr h) =
    behind m (version n r) (versions_since (n + 1) (register_after_act r e.change.act) es) (λ f. omega (arith, h, f)) ∙ outside (n + 1) (register_after_act r e.change.act) es m (inr (omega (arith, h)))

-- ---- a desk

module _ (base : ℕ) (opening : List Airfield) (s : State) (vs : List Version) (c : IsCurrent base opening s vs) where
  kept_then : (m : ℕ) → WasAccepted base s m → airfields_at m vs ≡ Some (airfields_then base opening s m)
  kept_then m was =
      let n : base + length (accepted_since base s) ≡ last_number s = counted base s c.within in
      ap (airfields_at m) c.versions_are ∙ within base opening (accepted_since base s) m was.since (omega (arith, n, was.by_now))

  none_then : (m : ℕ) → (m < base) ⊎ (last_number s < m) → airfields_at m vs ≡ None
  none_then m (inl h) = ap (airfields_at m) c.versions_are ∙ outside base opening (accepted_since base s) m (inl h)
  none_then m (inr h) =
      let n : base + length (accepted_since base s) ≡ last_number s = counted base s c.within in
      ap (airfields_at m) c.versions_are ∙ outside base opening (accepted_since base s) m (inr (omega (arith, n, h)))

  -- what is kept is of an entry that was accepted
  was_kept : (m : ℕ) (airfields : List Airfield) → airfields_at m vs ≡ Some airfields → WasAccepted base s m
  was_kept m airfields is = by_places (cases_lt m base) (cases_lt (last_number s) m)
    where
      by_places : (m < base) ⊎ (base ≤ m) → (last_number s < m) ⊎ (m ≤ last_number s) → WasAccepted base s m
      by_places (inl h) k = absurd (cc (none_then m (inl h), is))
      by_places (inr h) (inl k) = absurd (cc (none_then m (inr k), is))
      by_places (inr h) (inr k) = record { since = h; by_now = k }

  same_airfields : (m : ℕ) (airfields : List Airfield) → airfields_at m vs ≡ Some airfields → airfields ≡ airfields_then base opening s m
  same_airfields m airfields is = cc (kept_then m (was_kept m airfields is), is)

  ends : (first last : ℕ) → AreEnds vs first last → (first ≡ base) × (last ≡ last_number s)
  ends first last (a, b) =
      let n : base + length (accepted_since base s) ≡ last_number s = counted base s c.within in
      let low : option_map number_of (Some (version base opening)) ≡ Some first = rw c.versions_are at a in
      let high : option_map number_of (latest vs) ≡ Some (base + length (accepted_since base s)) = ap (option_map number_of) (last_is base opening s vs c) in
      (cc (low), cc (high, b, n))

  -- what the versions tell is what was
  pub told_then : (line text : List ℕ) → IsToldBy vs line text → IsToldOf base opening s line text
  told_then line text (IsToldBy.Found m site airfields asks is t) =
      IsToldOf.Found m site asks (was_kept m airfields is) (t ∙ ap (λ (l : List Airfield). as_of_text m (findings_of l site)) (same_airfields m airfields is))
  told_then line text (IsToldBy.NotKept m site first last asks none at t) =
      let e = ends first last at in
      IsToldOf.NotKept m site asks (λ was. absurd (cc (none, kept_then m was)))
      (t ∙ ap (λ (k : ℕ). not_kept_text k last) e.0 ∙ ap (λ (k : ℕ). not_kept_text base k) e.1)
  told_then line text (IsToldBy.Refused field is t) = IsToldOf.Refused field is t
  told_then line text (IsToldBy.Wanting t) = IsToldOf.Wanting t
