use Rattle.std.proofs.Common.{◌≡◌, List, ℕ, sym, subst}
use Rattle.std.proofs.lemmas.Result.{IfOk-weaker}
use Rattle.http_messages.specs.Targets.{IsTarget}
use Rattle.http_messages.specs.Records.{IsRecord, IsWithoutEnd}
use Rattle.http_messages.proofs.places.record_of.Goals as goal

pub returns-in-Record : goal.returns-in-Record
returns-in-Record c =
    IfOk-weaker c.from_slice.result (λ bytes. bytes ≡ c.without_end.result.now)
    (λ bytes. (name : List ℕ) → IsTarget c.args.place name c.args.target.now → IsRecord c.args.place name c.args.body.now bytes)
    (λ bytes e name is. rw c.in-Record.is (subst (λ (t : List ℕ). IsWithoutEnd c.args.body.now t) (sym e) c.without_end.ensures))
    c.from_slice.ensures.copy
