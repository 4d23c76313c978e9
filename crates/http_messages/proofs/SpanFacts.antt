-- What the spans of a parse say of a head.
use Rattle.std.proofs.Common.{◌≡◌, ℕ, ◌≤◌, List, length, take, sym, ap, ◌∙◌, subst, arith, length-take}
use Rattle.std.proofs.lemmas.List.{drop_all, length-map}
use Rattle.httparse.specs.Grammar.{RequestHead, ReadsRequest}
use Rattle.httparse.specs.Spans.{IsRequestOf, IsRequestAt, IsRequestWithin, header_bytes, name_and_value}
use Rattle.httparse.specs.declared.spans.HeaderSpan.{HeaderSpan}
use Rattle.httparse.specs.declared.spans.RequestSpans.{RequestSpans}
use Rattle.http_messages.specs.Heads.{IsHead}
use Rattle.http_messages.specs.declared.decision.TheConstants.{MOST_FIELDS}

pub fields_counted : (bytes : List ℕ) (headers : List HeaderSpan) (spans : RequestSpans) (h : RequestHead)
    → IsRequestAt bytes headers spans h → spans.headers ≤ length headers → length h.fields ≡ spans.headers
fields_counted bytes headers spans h at fits =
    sym (length-map h.fields name_and_value) ∙ sym (ap length at.fields) ∙ length-map (take spans.headers headers) (header_bytes bytes)
    ∙ omega (arith, length-take spans.headers headers)

pub full_head : (bytes : List ℕ) (headers : List HeaderSpan) (spans : RequestSpans) → IsRequestOf bytes headers spans
    → IsRequestWithin bytes headers spans → spans.len ≡ length bytes → spans.headers ≡ MOST_FIELDS
    → (h : RequestHead) × IsHead bytes h × (length h.fields ≡ MOST_FIELDS)
full_head bytes headers spans of within len count = (
  of.0,
  subst (λ (t : List ℕ). ReadsRequest bytes of.0 t) (drop_all spans.len bytes (omega (arith, len))) of.1.reads,
  fields_counted bytes headers spans of.0 of.1 within.section.count_fits ∙ count,
)
