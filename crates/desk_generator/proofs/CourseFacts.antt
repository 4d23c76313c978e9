-- Steps one after the other.
use Rattle.std.proofs.Common.{arith, ◌≡◌, ◌≢◌, ◌<◌, ◌+◌, ◌-◌, ℕ, suc, refl, sym, ap, ◌∙◌}
use Rattle.case_records.specs.declared.refusal.Refusal.TheVariants as refusals
use Rattle.desk_machine.specs.States.{State}
use Rattle.desk_machine.specs.Machine.{Answer as Decided, state_after}
use Rattle.filing_desk.specs.declared.answer.Answer.{Answer}
use Rattle.filing_desk.specs.declared.answer.Answer.TheVariants as answers
use Rattle.filing_desk.specs.Clerks.{Clerking, Advances}
use Rattle.filing_desk.specs.Served.{HasCause}
use Rattle.oe_keeper.specs.contracts.no_keeper.NoKeeperKeeper.TheImpl as unkept
use Rattle.oe_keeper.specs.declared.no_keeper.NoKeeper.{NoKeeper}
use Rattle.desk_generator.specs.Desks.{Course, each}

-- ---- a loop of steps

pub each_first : (step : ℕ → Course → Course) (n : ℕ) (c : Course) → each step (n - 0) 1 c ≡ each step n 1 c
each_first step n c = let e : n - 0 ≡ n = omega arith in ap (λ m. each step m 1 c) e

pub each_next : (step : ℕ → Course → Course) (n k : ℕ) (c : Course) → k < n → each step (n - k) (k + 1) c ≡ each step (n - (k + 1)) (k + 1 + 1) (step (k + 1) c)
each_next step n k c h =
    let e : n - k ≡ suc (n - (k + 1)) = omega arith in
    ap (λ m. each step m (k + 1) c) e

pub each_last : (step : ℕ → Course → Course) (n k : ℕ) (c : Course) → each step (n - n) k c ≡ c
each_last step n k c = let e : n - n ≡ 0 = omega arith in ap (λ m. each step m k c) e

-- ---- one request

-- the desk is as the rules of the desk say, unless memory was wanting, since a keeper of nothing never fails
pub went_on : (d : Decided) (k l : Clerking NoKeeper) (a : Answer) → Advances d k l a → HasCause unkept.ghosts.IsSteady unkept.ghosts.faults d k.keeper l.keeper a
    → a ≢ answers.Refused refusals.NoMemory → l.state ≡ state_after k.state d
went_on d k l (answers.Accepted number outcome) h cause n = h.1
went_on d k l (answers.Refused why) h cause n =
    let no = h.0 (λ e. n (ap answers.Refused e)) (λ e. (cause.failed e).1.unsteady tt) in
    h.1 ∙ sym (ap (state_after k.state) no)
