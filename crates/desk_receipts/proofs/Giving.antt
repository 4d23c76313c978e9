-- A given list that does not fit is not used.
use Rattle.std.proofs.Common.{◌≡◌, refl, ℕ, Bool, true, false, ◌&&◌, not, cond, nat_le, Some, None}
use Rattle.airfields.specs.Sites.{Site}
use Rattle.desk_machine.specs.Evaluations.{Given, evaluation_of, own_list, same_site}
use Rattle.desk_machine.specs.States.{State}
use Rattle.case_records.specs.declared.case.KeptList.{KeptList}

passed_over : (b : Bool) (given own : KeptList) → not b ≡ true → cond b given own ≡ own
passed_over false given own n = refl
passed_over true given own n = absurd (cc (n))

pub not_given : (s : State) (p : ℕ) (g : Given) (site : Site) → not (same_site g.filing site && nat_le g.last p) ≡ true
    → evaluation_of s p (Some g) site ≡ evaluation_of s p None site
not_given s p g site n = passed_over (same_site g.filing site && nat_le g.last p) (record { last = g.last; list = g.list }) (own_list s site) n
