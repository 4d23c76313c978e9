-- Replies to the lines of ways, by what was appended.
use Rattle.std.proofs.Common.{◌≡◌, ◌≢◌, ◌<◌, ◌↔◌, ℕ, List, [], ◌++◌, length, arith, refl, ap, sym, subst, ◌∙◌, append-nil, Bool, true, false, IsTrue}
use Rattle.std.specs.Str.{bytes_eq}
use Rattle.airfields.specs.Sites.{Site}
use Rattle.airfields.specs.declared.airfield.Airfield.{Airfield}
use Rattle.grid_exact.specs.declared.text.TheConstants.{LINE_LIMIT}
use Rattle.oe_stations.specs.Ways.{IsWayList}
use Rattle.oe_stations.specs.declared.way_list.WayFinding.{WayFinding}
use Rattle.wire_requests.specs.Requests.{IsRecord, IsRefusal, Long}
use Rattle.wire_requests.specs.declared.request.ReadRefusal.{ReadRefusal}
use Rattle.wire_requests.specs.declared.request.ReadRefusal.TheVariants as reading
use Rattle.wire_requests.specs.declared.request.Request.{Request}
use Rattle.site_questions.specs.Charts.{Chart, chart, malformed, no_memory, refusal_text}
use Rattle.site_questions.specs.Ways as ways
use Rattle.site_questions.specs.Ways.{Survey, survey, with_way, way_end, way_text, joining_text, WayStep, WayAnswers, IsWayReply, IsJoinReply}
use Rattle.site_questions.specs.declared.screens.TheConstants.{FORM_FIELD}
use Rattle.site_questions.proofs.AnswerFacts.{not_blank}

-- a test that a way is empty failed
pub has_stations : (b : Bool) (way : List Site) → (IsTrue b ↔ (way ≡ [])) → b ≡ false → way ≢ []
has_stations true way e f = absurd (cc f)
has_stations false way e f = λ n. absurd (cc (e.1 n))

-- the list of a way was appended
pub way_found : (on : Chart) (way : List Site) (list slice : List WayFinding) (n : ℕ) (old new : List ℕ) → IsWayList on.airfields way list
    → slice ≡ list → n ≡ length way → new ≡ old ++ way_text on.last n slice → IsWayReply on way old new
way_found on way list slice n old new is e f t =
    ways.Found list is (t ∙ ap (λ (l : List WayFinding). old ++ way_text on.last n l) e ∙ ap (λ (m : ℕ). old ++ way_text on.last m list) f)

-- a way with stations was ended
pub ended : (airfields : List Airfield) (last : ℕ) (way after : List Site) (old new : List ℕ) → way ≢ [] → IsWayReply (chart airfields last) way old new → after ≡ []
    → WayAnswers (survey airfields last way) way_end old new (survey airfields last after)
ended airfields last way after old new some (ways.Found list is t) e = record {
  reply = way_text last (length way) list;
  step = ways.Ended list refl some is refl (ap (λ (w : List Site). survey airfields last w) e);
  appended = t;
}
ended airfields last way after old new some (ways.NoRoom t) e =
    record { reply = no_memory; step = ways.Untold refl some refl (ap (λ (w : List Site). survey airfields last w) e); appended = t }

-- the reply to a record is that to its line
pub joined : (airfields : List Airfield) (last : ℕ) (way after : List Site) (r : Request) (line old new : List ℕ) → IsRecord line r → IsJoinReply way r old new after
    → WayAnswers (survey airfields last way) line old new (survey airfields last after)
joined airfields last way after r line old new is (ways.Screened site e (ways.Joins can same more)) = record {
  reply = [];
  step = ways.Joined site (subst (λ (q : Request). IsRecord line q) e is) can refl (ap (λ (w : List Site). survey airfields last w) more);
  appended = same ∙ sym (append-nil old);
}
joined airfields last way after r line old new is (ways.Screened site e (ways.Fails why refused t kept)) = record {
  reply = joining_text why;
  step = ways.NotJoined site why (subst (λ (q : Request). IsRecord line q) e is) refused refl (ap (λ (w : List Site). survey airfields last w) kept);
  appended = t;
}
joined airfields last way after r line old new is (ways.Other other t kept) = record {
  reply = malformed FORM_FIELD;
  step = ways.OtherForm (record { request = r; record_of = is; other = other }) refl (ap (λ (w : List Site). survey airfields last w) kept);
  appended = t;
}

-- a line that is no record is refused
pub unread : (s : Survey) (why : ReadRefusal) (line old new : List ℕ) → line ≢ [] → line ≢ way_end → IsRefusal line why → new ≡ old ++ refusal_text why → WayAnswers s line old new s
unread s (reading.Malformed field) line old new some other is t = record { reply = malformed field; step = ways.Refused some other field is refl refl; appended = t }
unread s reading.NoMemory line old new some other is t = record { reply = no_memory; step = ways.Wanting some other refl refl; appended = t }

-- a line that is too long does not end a way
pub not_end : (line : List ℕ) → LINE_LIMIT < length line → line ≢ way_end
not_end line long = λ e. omega (arith, long, ap length e)

-- a line that is too long is refused
pub refused_long : (s : Survey) (line : List ℕ) → LINE_LIMIT < length line → WayStep s line (refusal_text (reading.Malformed 0)) s
refused_long s line long = ways.Refused (not_blank line long) (not_end line long) 0 (Long long refl) refl refl

-- a line is compared with that which ends a way, and is another
pub another_line : (b : Bool) (line : List ℕ) → b ≡ bytes_eq line way_end → b ≡ false → line ≢ way_end
another_line b line e f = λ same.
    let met : false ≡ true = sym f ∙ e ∙ ap (λ (l : List ℕ). bytes_eq l way_end) same in
    absurd (cc met)

-- ---- where the text of the reply may not be there whole

-- a way with stations was ended
pub ended_anyhow : (airfields : List Airfield) (last : ℕ) (way after : List Site) → way ≢ [] → after ≡ []
    → (reply : List ℕ) × WayStep (survey airfields last way) way_end reply (survey airfields last after)
ended_anyhow airfields last way after some e = (no_memory, ways.Untold refl some refl (ap (λ (w : List Site). survey airfields last w) e))

pub joined_anyhow : (airfields : List Airfield) (last : ℕ) (way after : List Site) (r : Request) (line : List ℕ) → IsRecord line r → ((reply : List ℕ) × IsJoinReply way r [] reply after)
    → (reply : List ℕ) × WayStep (survey airfields last way) line reply (survey airfields last after)
joined_anyhow airfields last way after r line is (text, join) = let a = joined airfields last way after r line [] text is join in (a.reply, a.step)

pub unread_anyhow : (s : Survey) (why : ReadRefusal) (line : List ℕ) → line ≢ [] → line ≢ way_end → IsRefusal line why → (reply : List ℕ) × WayStep s line reply s
unread_anyhow s why line some other is = let a = unread s why line [] (refusal_text why) some other is refl in (a.reply, a.step)
