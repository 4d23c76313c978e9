-- Replies to questions about ceilings, by what was appended.
use Rattle.std.proofs.Common.{◌≡◌, ◌≢◌, ◌<◌, ℕ, ℤ, List, [], ◌∷◌, ◌++◌, length, arith, refl, ap, subst, Option, Result, Ok, Err, ◌∙◌, ◌==◌, Bool, false}
use Rattle.std.specs.Result.{OnErr, OnOk}
use Rattle.airfields.specs.Sites.{Site}
use Rattle.finding_lists.specs.declared.finding.Finding.{Finding}
use Rattle.grid_exact.specs.declared.text.TheConstants.{LINE_LIMIT}
use Rattle.oe_findings.specs.List.{findings_of}
use Rattle.oe_ceiling.specs.Ceilings.{IsCeilingOf, at_height, height_above}
use Rattle.wire_requests.specs.Requests.{IsRecord, IsRefusal, Long}
use Rattle.wire_requests.specs.declared.request.ReadRefusal.{ReadRefusal}
use Rattle.wire_requests.specs.declared.request.ReadRefusal.TheVariants as reading
use Rattle.wire_requests.specs.declared.request.Request.{Request}
use Rattle.site_questions.specs.Charts.{Chart, malformed, no_memory, refusal_text}
use Rattle.site_questions.specs.Ceilings.{CeilingTold, Blank, Told, HeightGiven, OtherForm, Refused, Wanting, CeilingStep, CeilingAnswers, IsCeilingReply, Found, NoRoom, IsRecordReply, Screened, TooHigh, Other, ceiling_text}
use Rattle.site_questions.specs.declared.ceiling_desk.TheConstants.{HEIGHT_FIELD}
use Rattle.site_questions.specs.declared.screens.TheConstants.{FORM_FIELD}

pub on_ok : {A E P Q : Type 0} (r : Result A E) → (P → Q) → OnOk r P → OnOk r Q
on_ok (Ok x) f p = f p
on_ok (Err e) f p = tt

pub on_err : {A E P : Type 0} (r : Result A E) → P → OnErr r P
on_err (Ok x) p = tt
on_err (Err e) p = p

pub err_shown : {A E P Q : Type 0} (r : Result A E) → (P → Q) → OnErr r P → OnErr r Q
err_shown (Ok x) f p = tt
err_shown (Err e) f p = f p

pub some_bytes : (b : Bool) (line : List ℕ) → b ≡ (length line == 0) → b ≡ false → line ≢ []
some_bytes b [] e f = absurd (cc (e, f))
some_bytes b (x ∷ xs) e f = λ n. absurd (cc (n))

-- a line that is too long is not empty
pub not_blank : (line : List ℕ) → LINE_LIMIT < length line → line ≢ []
not_blank line long = λ e. omega (arith, long, ap length e)

pub found : (chart : Chart) (site : Site) (ceiling : Option ℤ) (list : List Finding) (old new : List ℕ) → IsCeilingOf chart.airfields site ceiling
    → list ≡ findings_of chart.airfields (at_height site (height_above ceiling)) → new ≡ old ++ ceiling_text chart.last ceiling list → IsCeilingReply chart site old new
found chart site ceiling list old new h e t = Found ceiling h (t ∙ ap (λ (l : List Finding). old ++ ceiling_text chart.last ceiling l) e)

-- the reply to a record is that to its line
pub record_told : (chart : Chart) (r : Request) (line old new : List ℕ) → line ≢ [] → IsRecord line r → IsRecordReply chart r old new → CeilingAnswers chart line old new
record_told chart r line old new some is (Screened site e zero (Found ceiling h t)) =
    record {
      reply = ceiling_text chart.last ceiling (findings_of chart.airfields (at_height site (height_above ceiling)));
      told = Told site ceiling (subst (λ (q : Request). IsRecord line q) e is) zero h refl;
      appended = t;
    }
record_told chart r line old new some is (Screened site e zero (NoRoom t)) = record { reply = no_memory; told = Wanting some refl; appended = t }
record_told chart r line old new some is (TooHigh site e high t) =
    record { reply = malformed HEIGHT_FIELD; told = HeightGiven site (subst (λ (q : Request). IsRecord line q) e is) high refl; appended = t }
record_told chart r line old new some is (Other other t) =
    record { reply = malformed FORM_FIELD; told = OtherForm (record { request = r; record_of = is; other = other }) refl; appended = t }

-- a line that is no record is refused
pub unread : (chart : Chart) (why : ReadRefusal) (line old new : List ℕ) → line ≢ [] → IsRefusal line why → new ≡ old ++ refusal_text why → CeilingAnswers chart line old new
unread chart (reading.Malformed field) line old new some is t = record { reply = malformed field; told = Refused some field is refl; appended = t }
unread chart reading.NoMemory line old new some is t = record { reply = no_memory; told = Wanting some refl; appended = t }

-- a line that is too long is refused
pub refused_long : (chart : Chart) (line : List ℕ) → LINE_LIMIT < length line → CeilingStep chart line (refusal_text (reading.Malformed 0)) chart
refused_long chart line long = record { told = Refused (not_blank line long) 0 (Long long refl) refl; same = refl }

-- no line changes anything, whatever is appended of its reply
pub unchanged : (chart : Chart) (line : List ℕ) → (reply : List ℕ) × CeilingTold chart line reply
unchanged chart [] = ([], Blank refl refl)
unchanged chart (b ∷ bs) = (no_memory, Wanting (λ e. cc e) refl)
