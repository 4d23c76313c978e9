-- The versions of a desk's history, from line to line.
use Rattle.std.proofs.Common.{◌≡◌, refl, sym, ap, ◌∙◌, subst, arith, ℕ, ◌+◌, ◌-◌, ◌≤◌, ◌<◌, List, [], ◌∷◌, ◌++◌, length, length-append, drop, Bool, true, false, cond, nat_eq, Option, Some, None, IfSome}
use Rattle.std.specs.Option.{option_eq, option_map}
use Rattle.std.proofs.lemmas.List.{drop-append-le, length-drop}
use Rattle.std.proofs.Math.Seq.{drop-length}
use Rattle.std.proofs.lemmas.Bool.Decides.{nat_tests}
use Rattle.airfields.specs.declared.airfield.Airfield.{Airfield}
use Rattle.desk_machine.specs.declared.entry.Entry.{Entry}
use Rattle.desk_machine.specs.States.{State, last_number}
use Rattle.desk_machine.specs.Fronts.{register_after, register_after_act}
use Rattle.oe_session.proofs.Judging.{register_more}
use Rattle.oe_asof.specs.Replies.{accepted_since}
use Rattle.oe_asof.specs.Versions.{Version, latest, number_of, version, with_version, with_version_after}
use Rattle.oe_asof.specs.Histories.{IsCurrent, Moves, Same, Adds, later_versions, versions_since}
use Rattle.oe_asof.proofs.VersionFacts.{latest_more}

-- ---- lists of versions

-- after one more entry there is one more version
later_more : (n : ℕ) (r : List Airfield) (es : List Entry) (e : Entry) → later_versions n r (es ++ e ∷ []) ≡ later_versions n r es ++ version (n + length es + 1) (register_after r (es ++ e ∷ [])) ∷ []
later_more n r [] e = let one : n + 1 ≡ n + length {A = Entry} [] + 1 = omega arith in ap (λ (k : ℕ). version k (register_after_act r e.change.act) ∷ []) one
later_more n r (d ∷ es) e =
    let again : List Airfield = register_after_act r d.change.act in
    let count : n + 1 + length es + 1 ≡ n + length (d ∷ es) + 1 = omega arith in
    ap (λ (l : List Version). version (n + 1) again ∷ l)
    (later_more (n + 1) again es e ∙ ap (λ (k : ℕ). later_versions (n + 1) again es ++ version k (register_after again (es ++ e ∷ [])) ∷ []) count)

-- the last version is that after the last entry
pub newest : (n : ℕ) (r : List Airfield) (es : List Entry) → latest (versions_since n r es) ≡ Some (version (n + length es) (register_after r es))
newest n r [] = let same : n ≡ n + length {A = Entry} [] = omega arith in ap (λ (k : ℕ). Some (version k r)) same
newest n r (e ∷ es) =
    let again : List Airfield = register_after_act r e.change.act in
    let count : n + 1 + length es ≡ n + length (e ∷ es) = omega arith in
    latest_more (version n r) (version (n + 1) again) (later_versions (n + 1) again es) ∙ newest (n + 1) again es ∙ ap (λ (k : ℕ). Some (version k (register_after again es))) count

already_after : (o : Option Version) (vs : List Version) (v : Version) → option_eq nat_eq (option_map number_of o) (Some v.number) ≡ true → with_version_after o vs v ≡ vs
already_after None vs v h = absurd (cc (h))
already_after (Some w) vs v h = rw h refl

-- a version of the last number changes nothing
pub already : (vs : List Version) (v : Version) → option_eq nat_eq (option_map number_of (latest vs)) (Some v.number) ≡ true → with_version vs v ≡ vs
already vs v h = already_after (latest vs) vs v h

same_last : (vs : List Version) (w v : Version) → latest vs ≡ Some w → w.number ≡ v.number → with_version vs v ≡ vs
same_last vs w v is e = ap (λ (o : Option Version). with_version_after o vs v) is ∙ already_after (Some w) vs v (grind (arith, nat_tests, e))

next_last : (vs : List Version) (w v : Version) → latest vs ≡ Some w → w.number < v.number → with_version vs v ≡ vs ++ v ∷ []
next_last vs w v is h =
    let apart : nat_eq w.number v.number ≡ false = grind (arith, nat_tests, h) in
    ap (λ (o : Option Version). with_version_after o vs v) is ∙ ap (λ (b : Bool). cond b vs (vs ++ v ∷ [])) apart

-- ---- a desk

-- it opens with one version
pub starts : (s : State) (vs : List Version) → vs ≡ version (last_number s) s.register ∷ [] → IsCurrent (last_number s) s.register s vs
starts s vs e =
    let none : accepted_since (last_number s) s ≡ [] = drop-length s.entries in
    record {
      within = omega arith;
      versions_are = e ∙ ap (λ (es : List Entry). versions_since (last_number s) s.register es) (sym none);
      register = ap (λ (es : List Entry). register_after s.register es) (sym none);
    }

-- the number of the last entry
pub counted : (base : ℕ) (s : State) → base ≤ last_number s → base + length (accepted_since base s) ≡ last_number s
counted base s h = let l : length (drop base s.entries) ≡ length s.entries - base = length-drop base s.entries in omega (arith, h, l)

module _ (base : ℕ) (opening : List Airfield) (s : State) (vs : List Version) (c : IsCurrent base opening s vs) where
  last : Version
  last = version (base + length (accepted_since base s)) (register_after opening (accepted_since base s))

  pub last_is : latest vs ≡ Some (version (base + length (accepted_since base s)) (register_after opening (accepted_since base s)))
  last_is = ap latest c.versions_are ∙ newest base opening (accepted_since base s)

  -- after one more entry it has one more version
  on_added : (t : State) (e : Entry) → t.entries ≡ s.entries ++ e ∷ [] → t.register ≡ register_after_act s.register e.change.act
      → IsCurrent base opening t (with_version vs (version (last_number t) t.register))
  on_added t e entries register =
      let es : List Entry = accepted_since base s in
      let more : accepted_since base t ≡ es ++ e ∷ [] = ap (drop base) entries ∙ drop-append-le base s.entries (e ∷ []) c.within in
      let all : base + length es ≡ last_number s = counted base s c.within in
      let longer : last_number t ≡ last_number s + 1 = ap length entries ∙ length-append s.entries (e ∷ []) in
      let number : last_number t ≡ base + length es + 1 = omega (arith, all, longer) in
      let fields : t.register ≡ register_after opening (es ++ e ∷ []) = register ∙ ap (λ (r : List Airfield). register_after_act r e.change.act) c.register ∙ sym (register_more opening es e) in
      let next : with_version vs (version (last_number t) t.register) ≡ vs ++ version (last_number t) t.register ∷ [] =
      next_last vs (version (base + length es) (register_after opening es)) (version (last_number t) t.register) last_is (omega (arith, number)) in
      record {
        within = omega (arith, longer, c.within);
        versions_are =
            next ∙ ap (λ (l : List Version). l ++ version (last_number t) t.register ∷ []) c.versions_are
            ∙ ap (λ (k : ℕ). versions_since base opening es ++ version k t.register ∷ []) number
            ∙ ap (λ (r : List Airfield). versions_since base opening es ++ version (base + length es + 1) r ∷ []) fields
            ∙ ap (λ (l : List Version). version base opening ∷ l) (sym (later_more base opening es e))
            ∙ ap (λ (l : List Entry). versions_since base opening l) (sym more);
        register = fields ∙ ap (λ (l : List Entry). register_after opening l) (sym more);
      }

  on_same : IsCurrent base opening s (with_version vs (version (last_number s) s.register))
  on_same =
      let same : with_version vs (version (last_number s) s.register) ≡ vs =
      same_last vs (version (base + length (accepted_since base s)) (register_after opening (accepted_since base s))) (version (last_number s) s.register) last_is (counted base s c.within) in
      subst (λ (l : List Version). IsCurrent base opening s l) (sym same) c

  -- so it has all versions after each line
  pub goes_on : (t : State) → Moves s t → IsCurrent base opening t (with_version vs (version (last_number t) t.register))
  goes_on t (Same e) = subst (λ (u : State). IsCurrent base opening u (with_version vs (version (last_number u) u.register))) (sym e) on_same
  goes_on t (Adds e entries register) = on_added t e entries register

  -- and the last one is not above the last entry
  pub in_order : (t : State) → Moves s t → IfSome (latest vs) (λ (v : Version). v.number ≤ last_number t)
  in_order t (Same e) =
      let n : base + length (accepted_since base s) ≡ last_number s = counted base s c.within in
      let m : last_number t ≡ last_number s = ap last_number e in
      rw last_is (omega (arith, n, m))
  in_order t (Adds e entries register) =
      let n : base + length (accepted_since base s) ≡ last_number s = counted base s c.within in
      let m : last_number t ≡ last_number s + 1 = ap length entries ∙ length-append s.entries (e ∷ []) in
      rw last_is (omega (arith, n, m))
