-- The replies to lines that ask what a list was.
use Rattle.std.specs.Prelude.{ℕ, ◌-◌, ◌≡◌, ◌≤◌, List, ◌++◌, take, drop, codes}
use Rattle.std.specs.Fmt.{decimal}
use Rattle.airfields.specs.Sites.{Site}
use Rattle.airfields.specs.declared.airfield.Airfield.{Airfield}
use Rattle.finding_lists.specs.declared.finding.Finding.{Finding}
use Rattle.oe_findings.specs.List.{findings_of}
use Rattle.case_records.specs.declared.refusal.Refusal.TheVariants as refusals
use Rattle.wire_requests.specs.declared.request.ReadRefusal.{ReadRefusal}
use Rattle.wire_requests.specs.declared.request.ReadRefusal.TheVariants as reading
use Rattle.wire_replies.specs.Entries.{list_text}
use Rattle.wire_replies.specs.Replies.{refused_text}
use Rattle.desk_machine.specs.declared.entry.Entry.{Entry}
use Rattle.desk_machine.specs.States.{State, last_number}
use Rattle.desk_machine.specs.Fronts.{register_after}
use Rattle.oe_asof.specs.Lines.{Asks, IsMalformed}

-- ---- what a list was

-- the entries that were accepted since the opening, where `base` is the number of the last one then
abbrev pub accepted_since : ℕ → State → List Entry
accepted_since base s = drop base s.entries

-- the airfields as they stood after the entry of a number: those at the opening, after the amendments of the entries up to it
abbrev pub airfields_then : ℕ → List Airfield → State → ℕ → List Airfield
airfields_then base opening s number = register_after opening (take (number - base) (accepted_since base s))

-- the entry was accepted by now, and not before the opening's last one
pub record WasAccepted (base : ℕ) (s : State) (number : ℕ) : Type 0 where
  pub since : base ≤ number
  pub by_now : number ≤ last_number s

-- ---- the text of a reply

-- the number of the entry, and the list
abbrev pub as_of_text : ℕ → List Finding → List ℕ
as_of_text number list = codes "asof," ++ decimal number ++ list_text list ++ codes "\n"

-- no airfields are kept of an entry of this number: the first and the last number of which some are
abbrev pub not_kept_text : ℕ → ℕ → List ℕ
not_kept_text first last = codes "no,39,NotKept," ++ decimal first ++ (codes "," ++ decimal last) ++ codes "\n"

-- the refusal of a line at one of its fields
abbrev pub malformed_text : ℕ → List ℕ
malformed_text field = refused_text (refusals.Malformed field)

-- the refusal for lack of memory
abbrev pub no_memory_text : List ℕ
no_memory_text = refused_text refusals.NoMemory

-- a line that asks for a list, or begins as if it did, and the text of its reply, in this state
pub data IsToldOf (base : ℕ) (opening : List Airfield) (s : State) (line text : List ℕ) : Type 0 where
  -- the list over the airfields as they stood after the entry
  Found : (number : ℕ) (site : Site) → Asks line number site → WasAccepted base s number
      → text ≡ as_of_text number (findings_of (airfields_then base opening s number) site) → IsToldOf base opening s line text
  -- no entry of this number was accepted by now, or it is older than the opening
  NotKept : (number : ℕ) (site : Site) → Asks line number site → (WasAccepted base s number → ⊥) → text ≡ not_kept_text base (last_number s) → IsToldOf base opening s line text
  -- a line that asks for none is refused at its first wrong field
  Refused : (field : ℕ) → IsMalformed line field → text ≡ malformed_text field → IsToldOf base opening s line text
  -- memory may be wanting for any of them
  Wanting : text ≡ no_memory_text → IsToldOf base opening s line text

-- ---- for proofs alone

-- the text of a line's refusal
abbrev pub refusal_text : ReadRefusal → List ℕ
refusal_text (reading.Malformed field) = malformed_text field
refusal_text reading.NoMemory = no_memory_text
