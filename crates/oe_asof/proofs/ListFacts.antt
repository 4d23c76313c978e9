-- Replies to lines that ask for a list, by what was appended.
use Rattle.std.proofs.Common.{◌≡◌, refl, ap, ◌∙◌, ℕ, List, ◌++◌, Option, Some, None}
use Rattle.std.specs.Option.{option_map}
use Rattle.airfields.specs.Sites.{Site}
use Rattle.airfields.specs.declared.airfield.Airfield.{Airfield}
use Rattle.finding_lists.specs.declared.finding.Finding.{Finding}
use Rattle.oe_findings.specs.List.{findings_of}
use Rattle.wire_requests.specs.declared.request.ReadRefusal.{ReadRefusal}
use Rattle.wire_requests.specs.declared.request.ReadRefusal.TheVariants as reading
use Rattle.oe_asof.specs.Lines.{Asks, IsRefusal}
use Rattle.oe_asof.specs.Replies.{as_of_text, malformed_text, no_memory_text, not_kept_text, refusal_text}
use Rattle.oe_asof.specs.Versions.{Version, airfields_at}
use Rattle.oe_asof.specs.Histories.{Appended, IsListed, IsToldBy}

-- the list is that over the airfields which are kept
found_over : (site : Site) (list : List Finding) (o : Option (List Airfield)) → option_map (λ airfields. findings_of airfields site) o ≡ Some list
    → (airfields : List Airfield) × (o ≡ Some airfields) × (list ≡ findings_of airfields site)
found_over site list None h = absurd (cc (h))
found_over site list (Some airfields) h = (airfields, refl, cc (h))

pub listed : (vs : List Version) (number : ℕ) (site : Site) (list : List Finding) (old new : List ℕ) → option_map (λ airfields. findings_of airfields site) (airfields_at number vs) ≡ Some list
    → new ≡ old ++ as_of_text number list → IsListed vs number site old new
listed vs number site list old new h t =
    let over = found_over site list (airfields_at number vs) h in
    IsListed.Found over.0 over.1 (t ∙ ap (λ (l : List Finding). old ++ as_of_text number l) over.2)

-- what was appended for a structure is the reply to its line
pub asked : (vs : List Version) (line : List ℕ) (number : ℕ) (site : Site) (old new : List ℕ) → Asks line number site → IsListed vs number site old new → Appended (IsToldBy vs line) old new
asked vs line number site old new asks (IsListed.Found airfields is t) =
    record { reply = as_of_text number (findings_of airfields site); is = IsToldBy.Found number site airfields asks is refl; appended = t }
asked vs line number site old new asks (IsListed.NotKept first last none ends t) =
    record { reply = not_kept_text first last; is = IsToldBy.NotKept number site first last asks none ends refl; appended = t }
asked vs line number site old new asks (IsListed.NoRoom t) = record { reply = no_memory_text; is = IsToldBy.Wanting refl; appended = t }

pub not_asked : (vs : List Version) (line : List ℕ) (why : ReadRefusal) (old new : List ℕ) → IsRefusal line why → new ≡ old ++ refusal_text why → Appended (IsToldBy vs line) old new
not_asked vs line (reading.Malformed field) old new is t = record { reply = malformed_text field; is = IsToldBy.Refused field is refl; appended = t }
not_asked vs line reading.NoMemory old new is t = record { reply = no_memory_text; is = IsToldBy.Wanting refl; appended = t }
