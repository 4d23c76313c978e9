-- An entry that no request made would be missing in the replay.
use Rattle.std.proofs.Common.{◌≡◌, sym, ap, ◌∙◌, arith, ◌+◌, ◌≤◌, List, [], ◌∷◌, ◌++◌, append_assoc, length, length-append}
use mathlib.Core.List.{IsPrefix}
use Rattle.desk_machine.specs.declared.entry.Entry.{Entry}
use Rattle.desk_machine.specs.States.{State}
use Rattle.desk_machine.specs.Machine.{Answer as Decided, Kept, No, Done, state_after, entries_of_answer, decide_again, replay}
use Rattle.desk_machine.proofs.Replaying.{append_nothing}
use Rattle.filing_desk.specs.Clerks.{Clerking}
use Rattle.tree_versions.proofs.Prefixes.{prefix_self, prefix_trans}
use Rattle.publishing_clerk.specs.Publishing.{AreMade, GoesOn}
use Rattle.publishing_clerk.proofs.Going.{entries_on}
use Rattle.publishing_clerk.proofs.Offering.{few}

-- a decision appends what it makes
appended : (s : State) (d : Decided) → (state_after s d).entries ≡ s.entries ++ entries_of_answer d
appended s d = entries_on s s [] d (sym (append_nothing s.entries))

-- a replay keeps the entries, and appends at most one for each
grown : (s : State) (es : List Entry) → IsPrefix s.entries (replay s es).entries
grown s [] = prefix_self s.entries
grown s (e ∷ es) =
    let d = decide_again s e in
    prefix_trans s.entries (state_after s d).entries (replay (state_after s d) es).entries (entries_of_answer d, sym (appended s d)) (grown (state_after s d) es)

most : (s : State) (es : List Entry) → length (replay s es).entries ≤ length s.entries + length es
most s [] = omega arith
most s (e ∷ es) =
    let d = decide_again s e in
    omega (arith, most (state_after s d) es, ap length (appended s d), length-append s.entries (entries_of_answer d), few d)

behind : (xs ys zs : List Entry) → xs ++ ys ≡ xs ++ zs → ys ≡ zs
behind [] ys zs h = h
behind (x ∷ xs) ys zs h = behind xs ys zs (cc (h))

-- a replay with all the entries, whose first request made none
too_few : (s : State) (e : Entry) (es : List Entry) → (replay s es).entries ≡ s.entries ++ e ∷ es → ⊥
too_few s e es h = omega (arith, most s es, ap length h, length-append s.entries (e ∷ es))

-- the first request made the first entry
first_made : (s t : State) (k e : Entry) (es : List Entry) → t.entries ≡ s.entries ++ k ∷ [] → (replay t es).entries ≡ s.entries ++ e ∷ es → k ≡ e
first_made s t k e es grew h =
    let on = grown t es in
    let same : s.entries ++ k ∷ on.0 ≡ s.entries ++ e ∷ es =
    sym (append_assoc s.entries (k ∷ []) on.0) ∙ ap (λ (l : List Entry). l ++ on.0) (sym grew) ∙ on.1 ∙ h in
    cc (behind s.entries (k ∷ on.0) (e ∷ es) same)

made_by : (s : State) (e : Entry) (es : List Entry) (d : Decided) → ((t : State) → (replay t es).entries ≡ t.entries ++ es → AreMade t es)
    → (replay (state_after s d) es).entries ≡ s.entries ++ e ∷ es → (entries_of_answer d ≡ e ∷ []) × AreMade (state_after s d) es
made_by s e es (Kept k) more h = absurd (too_few s e es h)
made_by s e es (No why) more h = absurd (too_few s e es h)
made_by s e es (Done k step) more h =
    let t = state_after s (Done k step) in
    let grew : t.entries ≡ s.entries ++ k ∷ [] = appended s (Done k step) in
    let same : k ≡ e = first_made s t k e es grew h in
    let whole : t.entries ++ es ≡ s.entries ++ e ∷ es = ap (λ (l : List Entry). l ++ es) grew ∙ append_assoc s.entries (k ∷ []) es ∙ ap (λ (x : Entry). s.entries ++ x ∷ es) same in
    (ap (λ (x : Entry). x ∷ []) same, more t (h ∙ sym whole))

made_from : (s : State) (es : List Entry) → (replay s es).entries ≡ s.entries ++ es → AreMade s es
made_from s [] h = tt
made_from s (e ∷ es) h = made_by s e es (decide_again s e) (λ t. made_from t es) h

pub each_made : {K : Type 0} (opening : State) (k : Clerking K) → GoesOn opening k → AreMade opening k.accepted
each_made opening k goes = made_from opening k.accepted (ap (λ (s : State). s.entries) (sym goes.replayed) ∙ goes.entries)
