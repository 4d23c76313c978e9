-- A decision on what was given of what is published.
use Rattle.std.proofs.Common.{◌≡◌, refl, sym, ap, ◌∙◌, subst, arith, ℕ, ◌+◌, ◌≤◌, ◌<◌, nat_le, Bool, true, false, ◌&&◌, cond, List, length, Option, Some, None}
use Rattle.std.specs.Option.{option_map}
use Rattle.std.proofs.lemmas.Grind.{common_steps}
use Rattle.std.proofs.lemmas.Bool.Decides.{nat_tests}
use Rattle.airfields.specs.Sites.{Site}
use Rattle.wire_requests.specs.Changes.{Asked}
use Rattle.case_requests.specs.declared.act.Act.{Act}
use Rattle.case_requests.specs.declared.act.Act.TheVariants as acts
use Rattle.case_records.specs.declared.case.KeptList.{KeptList}
use Rattle.desk_machine.specs.States.{State, entry_of, case_at, last_number}
use Rattle.desk_machine.specs.Evaluations.{Given, same_site, evaluation_of, evaluated_site, basis_of}
use Rattle.desk_machine.specs.Machine.{decide, decide_by}

mapped : (f g : Site → KeptList) (o : Option Site) → ((site : Site) → f site ≡ g site) → option_map f o ≡ option_map g o
mapped f g None same = refl
mapped f g (Some site) same = ap Some (same site)

-- requests are decided alike where lists are taken alike
agree : (s : State) (p n : ℕ) (q : Asked) (given other : Option Given) → ((site : Site) → evaluation_of s p given site ≡ evaluation_of s n other site) → decide s p q given ≡ decide s n q other
agree s p n q given other same =
    ap (decide_by (entry_of q.caller q.key s.entries) s q) (mapped (evaluation_of s p given) (evaluation_of s n other) (evaluated_site s q.act) same)

-- nothing is given
pub none_agrees : (s : State) (p n : ℕ) (q : Asked) → decide s p q None ≡ decide s n q None
none_agrees s p n q = agree s p n q None None (λ site. refl)

both_false : (a b : Bool) → b ≡ false → (a && b) ≡ false
both_false true b is = is
both_false false b is = refl

-- what is given is too new, and not taken
pub late_agrees : (s : State) (p n : ℕ) (q : Asked) (g : Given) → n < g.last → decide s p q None ≡ decide s n q (Some g)
late_agrees s p n q g late =
    let newer : nat_le g.last n ≡ false = grind (arith, nat_tests, late) in
    agree s p n q None (Some g)
    (λ site. sym (ap (λ b. cond b (record { last = g.last; list = g.list }) (evaluation_of s n None site)) (both_false (same_site g.filing site) (nat_le g.last n) newer)))

-- what is given is old enough for both
pub old_agrees : (s : State) (p n : ℕ) (q : Asked) (g : Given) → g.last ≤ p → g.last ≤ n → decide s p q (Some g) ≡ decide s n q (Some g)
old_agrees s p n q g before after =
    let one : nat_le g.last p ≡ true = grind (arith, nat_tests, before) in
    let two : nat_le g.last n ≡ true = grind (arith, nat_tests, after) in
    agree s p n q (Some g) (Some g) (λ site. ap (λ b. cond (same_site g.filing site && b) (record { last = g.last; list = g.list }) (evaluation_of s n None site)) (one ∙ sym two))
