-- A clerk goes on from the opening.
use Rattle.std.proofs.Common.{◌≡◌, refl, sym, ap, ◌∙◌, ℕ, List, [], ◌∷◌, ◌++◌, append_assoc, Option}
use Rattle.wire_requests.specs.Changes.{Asked}
use Rattle.desk_machine.specs.declared.entry.Entry.{Entry}
use Rattle.desk_machine.specs.States.{State}
use Rattle.desk_machine.specs.Evaluations.{Given}
use Rattle.desk_machine.specs.Machine.{Answer as Decided, Kept, No, Done, decide, state_after, entries_of_answer}
use Rattle.desk_machine.specs.Fronts.{register_after_act, register_after}
use Rattle.desk_machine.proofs.Replaying.{same_entries, append_nothing}
use Rattle.oe_session.proofs.ActFacts.{makes}
use Rattle.oe_session.proofs.Judging.{register_more}
use Rattle.filing_desk.specs.declared.answer.Answer.{Answer}
use Rattle.filing_desk.specs.declared.answer.Answer.TheVariants as answers
use Rattle.filing_desk.specs.Clerks.{Clerking, IsReplay, Advances}
use Rattle.publishing_clerk.specs.Publishing.{GoesOn}

register_on : (opening s : State) (es : List Entry) (p : ℕ) (q : Asked) (given : Option Given) (d : Decided) → decide s p q given ≡ d → s.register ≡ register_after opening.register es
    → (state_after s d).register ≡ register_after opening.register (es ++ entries_of_answer d)
register_on opening s es p q given (Kept e) is h = h ∙ ap (register_after opening.register) (sym (append_nothing es))
register_on opening s es p q given (No why) is h = h ∙ ap (register_after opening.register) (sym (append_nothing es))
register_on opening s es p q given (Done e step) is h =
    let m = makes s p q given e step is in
    m.register ∙ ap (λ r. register_after_act r q.act) h ∙ ap (λ (c : Asked). register_after_act (register_after opening.register es) c.act) (sym m.change) ∙ sym (register_more opening.register es e)

pub entries_on : (opening s : State) (es : List Entry) (d : Decided) → s.entries ≡ opening.entries ++ es → (state_after s d).entries ≡ opening.entries ++ (es ++ entries_of_answer d)
entries_on opening s es (Kept e) h = h ∙ ap (λ (l : List Entry). opening.entries ++ l) (sym (append_nothing es))
entries_on opening s es (No why) h = h ∙ ap (λ (l : List Entry). opening.entries ++ l) (sym (append_nothing es))
entries_on opening s es (Done e step) h = ap (λ (l : List Entry). l ++ e ∷ []) (same_entries step s ∙ h) ∙ append_assoc opening.entries es (e ∷ [])

abbrev entries_in : State → List Entry
entries_in s = s.entries

-- it does so after every request
pub goes_after : {K : Type 0} (opening : State) (p : ℕ) (q : Asked) (given : Option Given) (k l : Clerking K) (r : Answer) → GoesOn opening k → IsReplay opening l
    → Advances (decide k.state p q given) k l r → GoesOn opening l
goes_after opening p q given k l (answers.Accepted number outcome) g replayed h =
    let d = decide k.state p q given in
    record {
      replayed = replayed;
      entries = ap entries_in h.1 ∙ entries_on opening k.state k.accepted d g.entries ∙ ap (λ (l : List Entry). opening.entries ++ l) (sym h.2);
      register = ap (λ (s : State). s.register) h.1 ∙ register_on opening k.state k.accepted p q given d refl g.register ∙ ap (register_after opening.register) (sym h.2);
    }
goes_after opening p q given k l (answers.Refused why) g replayed h =
    record {
      replayed = replayed;
      entries = ap entries_in h.1 ∙ g.entries ∙ ap (λ (l : List Entry). opening.entries ++ l) (sym h.2);
      register = ap (λ (s : State). s.register) h.1 ∙ g.register ∙ ap (register_after opening.register) (sym h.2);
    }
