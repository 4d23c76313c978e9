-- How a run goes on by one call.
use Rattle.std.proofs.Common.{◌≡◌, ◌⊎◌, inl, inr, ⊎_elim, ℕ, ◌<◌, List, [], ◌∷◌, ◌++◌, length, get_or, refl, sym, ap, subst, ◌∙◌, arith}
use Rattle.oe_keeper.specs.Kept.{Kept, rows_after_changes}
use Rattle.oe_keeper.specs.declared.change.RowChange.{RowChange}
use Rattle.oe_journal.specs.declared.journal.JournalKeeper.{JournalKeeper}
use Rattle.oe_journal.specs.declared.runs.Call.{Call}
use Rattle.oe_journal.specs.declared.runs.Answer.{Answer}
use Rattle.oe_journal.specs.declared.runs.Answer.TheVariants.{Applied}
use Rattle.oe_journal.specs.Runs.{Stand, with_unacknowledged, after_apply, after_one, after_all, IsOneOf, IsMade, AreMade}

-- one list more since the last acknowledged
pub failed_one : (stand : Stand) (changes : List RowChange) (base rows : Kept) → stand.rows ≡ base → IsOneOf stand rows ⊎ (rows ≡ rows_after_changes base changes) → IsOneOf (with_unacknowledged stand changes) rows
failed_one stand changes base rows is either =
    ⊎_elim (λ one. ⊎_elim (λ e. inl e) (λ had. inr (inr had)) one) (λ e. inr (inl (e ∙ ap (λ (k : Kept). rows_after_changes k changes) (sym is)))) either

pub done_one : (stand : Stand) (changes : List RowChange) (base rows : Kept) → stand.rows ≡ base → rows ≡ rows_after_changes base changes → IsOneOf (after_apply stand changes Applied) rows
done_one stand changes base rows is e = inl (e ∙ ap (λ (k : Kept). rows_after_changes k changes) (sym is))

-- the calls with an answer, and one call more
one_call_more : (start : Stand) (calls : List Call) (answers : List Answer) (answer : Answer) (d : Call) → length answers < length calls
    → after_all start calls (answers ++ answer ∷ []) ≡ after_one (after_all start calls answers) (get_or calls (length answers) d) answer
one_call_more start [] answers answer d lt = absurd (omega arith)
one_call_more start (call ∷ []) [] answer d lt = refl
one_call_more start (call ∷ next ∷ calls) [] answer d lt = refl
one_call_more start (call ∷ calls) (a ∷ answers) answer d lt = one_call_more (after_one start call a) calls answers answer d (omega arith)

-- nothing was called yet
pub nothing_called : (start : Stand) (calls : List Call) → after_all start calls [] ≡ start
nothing_called start [] = refl
nothing_called start (call ∷ calls) = refl

-- one call more of a run
pub record IsFollowed (start : Stand) (calls : List Call) (answers new_answers : List Answer) (call : Call) (answer : Answer) : Type 0 where
  pub pushed : new_answers ≡ answers ++ answer ∷ []
  pub within : length answers < length calls
  pub call_is : call ≡ get_or calls (length answers) call
  pub step : after_all start calls (answers ++ answer ∷ []) ≡ after_one (after_all start calls answers) call answer

pub call_on : (start : Stand) (calls : List Call) (answers new_answers : List Answer) (answer : Answer) (call : Call) (i : ℕ) → new_answers ≡ answers ++ answer ∷ [] → length answers ≡ i → i < length calls → call ≡ get_or calls i call
    → IsFollowed start calls answers new_answers call answer
call_on start calls answers new_answers answer call i pushed count lt is =
    let call_is : call ≡ get_or calls (length answers) call = is ∙ ap (λ (k : ℕ). get_or calls k call) (sym count) in
    record {
      pushed = pushed;
      within = omega arith;
      call_is = call_is;
      step = one_call_more start calls answers answer call (omega arith) ∙ ap (λ (x : Call). after_one (after_all start calls answers) x answer) (sym call_is);
    }

pub now_is : (start : Stand) (calls : List Call) (answers new_answers : List Answer) (call : Call) (answer : Answer) → IsFollowed start calls answers new_answers call answer
    → after_all start calls new_answers ≡ after_one (after_all start calls answers) call answer
now_is start calls answers new_answers call answer on = ap (after_all start calls) on.pushed ∙ on.step

module _ {D : Type 0} (IsTold TellsPast : Type 0) (content : D → List ℕ) (MayLeave : D → List ℕ → Type 0) (moment : D → ℕ) (LeftSince : D → ℕ → List ℕ → Type 0) (faults : D → ℕ) where
  abbrev pub One : JournalKeeper D → Stand → Call → Answer → JournalKeeper D → Type 0
  One = IsMade IsTold TellsPast content MayLeave moment LeftSince faults

  abbrev pub All : JournalKeeper D → Stand → List Call → List Answer → JournalKeeper D → Type 0
  All = AreMade IsTold TellsPast content MayLeave moment LeftSince faults

  one_made_more : (from : JournalKeeper D) (start : Stand) (calls : List Call) (answers : List Answer) (answer : Answer) (d : Call) (old new : JournalKeeper D) → length answers < length calls
      → All from start calls answers old → One old (after_all start calls answers) (get_or calls (length answers) d) answer new → All from start calls (answers ++ answer ∷ []) new
  one_made_more from start [] answers answer d old new lt all one = absurd (omega arith)
  one_made_more from start (call ∷ calls) [] answer d old new lt all one = (new, subst (λ (k : JournalKeeper D). One k start call answer new) all one, refl)
  one_made_more from start (call ∷ calls) (a ∷ answers) answer d old new lt all one =
      (all.0, all.1, one_made_more all.0 (after_one start call a) calls answers answer d old new (omega arith) all.2 one)

  pub made_now : (from : JournalKeeper D) (start : Stand) (calls : List Call) (answers new_answers : List Answer) (call : Call) (answer : Answer) (old new : JournalKeeper D)
      → IsFollowed start calls answers new_answers call answer → All from start calls answers old → One old (after_all start calls answers) call answer new → All from start calls new_answers new
  made_now from start calls answers new_answers call answer old new on all one =
      subst (λ (l : List Answer). All from start calls l new) (sym on.pushed)
      (one_made_more from start calls answers answer call old new on.within all (subst (λ (x : Call). One old (after_all start calls answers) x answer new) on.call_is one))
