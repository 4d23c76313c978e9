-- A clerk that publishes, as contracts see it.
use Rattle.std.specs.Prelude.{◌≡◌, ℕ, ◌+◌, ◌≤◌, List, [], ◌∷◌, ◌++◌, length, Option, Some}
use mathlib.Core.List.{IsPrefix}
use Rattle.airfields.specs.declared.airfield.Airfield.{Airfield}
use Rattle.desk_machine.specs.declared.entry.Entry.{Entry}
use Rattle.desk_machine.specs.States.{State, last_number}
use Rattle.desk_machine.specs.Machine.{decide_again, entries_of_answer, state_after}
use Rattle.desk_machine.specs.Fronts.{register_after}
use Rattle.filing_desk.specs.Clerks.{Clerking, IsReplay}
use Rattle.desk_tables.specs.Reachable.{IsDesk}
use Rattle.tree_versions.specs.Fronts.{Edition, entries_of, last_of}

-- the clerk, and those entries accepted since the opening that are published
pub record Publishing (K : Type 0) : Type 0 where
  pub clerk : Clerking K
  pub published : List Entry

-- the name's first value and base are those of the state at the opening
pub record IsOpening (first : Option (List Airfield)) (base : ℕ) (opening : State) : Type 0 where
  pub value : first ≡ Some opening.register
  pub number : base ≡ last_number opening
  pub desk : IsDesk opening

-- the clerk went on from the opening: its state is the replay of the accepted entries, its entries are those at the opening and the accepted
-- ones, and its airfields are those at the opening after the accepted entries; so each accepted entry is one that its request makes, since
-- a replay passes over any other
pub record GoesOn {K : Type 0} (opening : State) (k : Clerking K) : Type 0 where
  pub replayed : IsReplay opening k
  pub entries : k.state.entries ≡ opening.entries ++ k.accepted
  pub register : k.state.register ≡ register_after opening.register k.accepted

-- each of these entries is the one that its request makes, where their requests are decided again in order, from this state
abbrev pub AreMade : State → List Entry → Type 0
AreMade s [] = Unit {0}
AreMade s (e ∷ es) = (entries_of_answer (decide_again s e) ≡ e ∷ []) × AreMade (state_after s (decide_again s e)) es

-- the entries that were offered for publication
abbrev pub offered : Edition (List Airfield) Entry → List Entry
offered e = e.published ++ entries_of e.waiting

-- all accepted entries were offered in order, but for at most one, the last; and the value offered last is the register after the offered
-- entries
pub record IsOffered (register : List Airfield) (accepted : List Entry) (e : Edition (List Airfield) Entry) : Type 0 where
  pub begins : IsPrefix (offered e) accepted
  pub most : length accepted ≤ length (offered e) + 1
  pub value : last_of e.value e.waiting ≡ register_after register (offered e)

-- the same was offered, whatever of it is published, and it comes to the same value
pub record IsSameOffer (old new : Edition (List Airfield) Entry) : Type 0 where
  pub entries : offered new ≡ offered old
  pub value : last_of new.value new.waiting ≡ last_of old.value old.waiting

-- the invariant of a clerk that publishes
pub record IsPublishing {K : Type 0} (first : Option (List Airfield)) (base : ℕ) (opening : State) (k : Clerking K) (e : Edition (List Airfield) Entry) : Type 0 where
  pub named : IsOpening first base opening
  pub goes : GoesOn opening k
  pub offers : IsOffered opening.register k.accepted e
