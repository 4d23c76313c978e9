-- The number of a version that the seat shows, and what is told over it.
use Rattle.std.proofs.Common.{◌≡◌, ℕ, ◌+◌, ap, subst, ◌∙◌, arith, length, List, Option}
use Rattle.airfields.specs.declared.airfield.Airfield.{Airfield}
use Rattle.finding_lists.specs.declared.finding.Finding.{Finding}
use Rattle.finding_lists.specs.declared.verdict.Verdict.{Verdict}
use Rattle.desk_machine.specs.declared.entry.Entry.{Entry}
use Rattle.wire_replies.specs.declared.reply.Reply.TheVariants as replies
use Rattle.desk_service.specs.Sittings.{IsVersion}

-- the number of the version's last entry
pub number_is : (b number base : ℕ) (front now : List Entry) → b ≡ base → number ≡ length front → front ≡ now → b + number ≡ base + length now
number_is b number base front now e counted same = omega (arith, e, counted, ap length same)

pub found_is : (n m : ℕ) (xs ys : List Finding) → n ≡ m → xs ≡ ys → replies.Found n xs ≡ replies.Found m ys
found_is n m xs ys e l = ap (λ k. replies.Found k xs) e ∙ ap (replies.Found m) l

pub verdict_is : (n m : ℕ) (v w : Verdict) → n ≡ m → v ≡ w → replies.Verdict n v ≡ replies.Verdict m w
verdict_is n m v w e l = ap (λ k. replies.Verdict k v) e ∙ ap (replies.Verdict m) l

pub version_here : (first : Option (List Airfield)) (front now : List Entry) (w : List Airfield) → front ≡ now → IsVersion first front w → IsVersion first now w
version_here first front now w same h = subst (λ es. IsVersion first es w) same h
