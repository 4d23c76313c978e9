-- A request is known by its spelling.
use Rattle.std.proofs.Common.{arith, ℕ, ◌≡◌, ℤ, List, ◌∷◌, Option, Bool, true, false, drop, refl, ap, sym, ◌∙◌, if◌then◌else◌}
use Rattle.std.specs.Fmt.{decimal}
use Rattle.std.specs.Str.{bytes_eq}
use Rattle.grid_exact.specs.declared.point.Point.{Point}
use Rattle.std.proofs.lemmas.Int.{ints}
use Rattle.whole_number.specs.Whole.{HasNineDigits}
use Rattle.airfields.specs.Sites.{AreFacts, Site}
use Rattle.airfields.specs.declared.category.Category.{Category}
use Rattle.airfields.specs.declared.airfield.Heliport.{Heliport}
use Rattle.airfields.specs.declared.runway.RunwayEnd.{RunwayEnd}
use Rattle.airfields.specs.declared.runway.Runway.{Runway}
use Rattle.airport_register.specs.declared.amendment.Amendment.{Amendment}
use Rattle.airport_register.specs.declared.amendment.Amendment.TheVariants.{PutAirport, PutRunway, DropRunway, PutHeliport, Drop}
use Rattle.jiff_core.specs.declared.civil.date.Date.{Date}
use Rattle.determination_dates.proofs.Texts.{one_date}
use Rattle.case_requests.specs.declared.act.Act.{Act}
use Rattle.case_requests.specs.declared.act.Act.TheVariants as acts
use Rattle.case_requests.specs.declared.submission.Submission.{Submission}
use Rattle.wire_values.specs.Words.{weight_word, pavement_word, urgency_word, statement_word, disposal_word, progress_word, warrant_word}
use Rattle.wire_values.specs.Plains.{plain_word}
use Rattle.wire_values.specs.declared.plain.Plain.{Plain}
use Rattle.wire_values.specs.declared.plain.Plain.TheVariants as plains
use Rattle.wire_values.proofs.DateNames.{one_optional}
use Rattle.wire_values.proofs.Named.{one_category, one_choice, one_number, one_count, one_impact, one_party, one_report}
use Rattle.wire_cursor.proofs.GroupFacts.{at, one_point, one_end, one_site}
use Rattle.wire_requests.specs.Changes.{Asked}
use Rattle.wire_requests.specs.Forms.{act_word, form_word, BeginsWith}
use Rattle.wire_requests.specs.Spellings.{amendment_fields, submission_fields, plain_of, act_form, act_fields, change_spelling, query_form, query_spelling}
use Rattle.wire_requests.specs.Limits.{IsCase, IsValidAmendment, IsValidSubmission, IsValidAct, IsValidQuery}
use Rattle.wire_requests.specs.Requests.{spelling, form_of, IsGood}
use Rattle.wire_requests.specs.declared.form.ActForm.{ActForm}
use Rattle.wire_requests.specs.declared.form.ActForm.TheVariants as act_forms
use Rattle.wire_requests.specs.declared.form.Form.{Form}
use Rattle.wire_requests.specs.declared.form.Form.TheVariants as forms
use Rattle.wire_requests.specs.declared.request.Request.{Request}
use Rattle.wire_requests.specs.declared.request.Request.TheVariants as requests
use Rattle.wire_requests.specs.declared.request.Query.{Query}
use Rattle.wire_requests.specs.declared.request.Query.TheVariants as queries

-- ---- a form is known by its word

plain_named : List ℕ → Plain
plain_named word = if bytes_eq word (plain_word plains.Airport) then plains.Airport
    else if bytes_eq word (plain_word plains.Runway) then plains.Runway
    else if bytes_eq word (plain_word plains.DropRunway) then plains.DropRunway
    else if bytes_eq word (plain_word plains.Heliport) then plains.Heliport
    else if bytes_eq word (plain_word plains.Drop) then plains.Drop
    else if bytes_eq word (plain_word plains.Day) then plains.Day else plains.Closed

act_named : List ℕ → ActForm
act_named word = if bytes_eq word (act_word act_forms.File) then act_forms.File
    else if bytes_eq word (act_word act_forms.Form) then act_forms.Form
    else if bytes_eq word (act_word act_forms.Determine) then act_forms.Determine
    else if bytes_eq word (act_word act_forms.Petition) then act_forms.Petition
    else if bytes_eq word (act_word act_forms.Dispose) then act_forms.Dispose
    else if bytes_eq word (act_word act_forms.Extend) then act_forms.Extend
    else if bytes_eq word (act_word act_forms.Revise) then act_forms.Revise
    else if bytes_eq word (act_word act_forms.Fcc) then act_forms.Fcc
    else if bytes_eq word (act_word act_forms.Abandon) then act_forms.Abandon else act_forms.Plain (plain_named word)

pub form_named : List ℕ → Form
form_named word = if bytes_eq word (form_word forms.Screen) then forms.Screen
    else if bytes_eq word (form_word forms.Verdict) then forms.Verdict
    else if bytes_eq word (form_word forms.Case) then forms.Case
    else if bytes_eq word (form_word forms.Airfield) then forms.Airfield
    else if bytes_eq word (form_word forms.Review) then forms.Review
    else if bytes_eq word (form_word forms.Report) then forms.Report
    else if bytes_eq word (form_word forms.Sync) then forms.Sync else forms.Act (act_named word)

pub form_again : (form : Form) → form_named (form_word form) ≡ form
unfolding form_named act_named plain_named
form_again (forms.Act (act_forms.Plain plains.Airport)) = refl
form_again (forms.Act (act_forms.Plain plains.Runway)) = refl
form_again (forms.Act (act_forms.Plain plains.DropRunway)) = refl
form_again (forms.Act (act_forms.Plain plains.Heliport)) = refl
form_again (forms.Act (act_forms.Plain plains.Drop)) = refl
form_again (forms.Act (act_forms.Plain plains.Day)) = refl
form_again (forms.Act (act_forms.Plain plains.Closed)) = refl
form_again (forms.Act act_forms.File) = refl
form_again (forms.Act act_forms.Form) = refl
form_again (forms.Act act_forms.Determine) = refl
form_again (forms.Act act_forms.Petition) = refl
form_again (forms.Act act_forms.Dispose) = refl
form_again (forms.Act act_forms.Extend) = refl
form_again (forms.Act act_forms.Revise) = refl
form_again (forms.Act act_forms.Fcc) = refl
form_again (forms.Act act_forms.Abandon) = refl
form_again forms.Screen = refl
form_again forms.Verdict = refl
form_again forms.Case = refl
form_again forms.Airfield = refl
form_again forms.Review = refl
form_again forms.Report = refl
form_again forms.Sync = refl

pub one_form : (f g : Form) → form_word f ≡ form_word g → f ≡ g
one_form f g e = sym (form_again f) ∙ ap form_named e ∙ form_again g

-- a request begins with the word of its form
pub begins : (r : Request) → BeginsWith (form_word (form_of r)) (spelling r)
begins (requests.Query query) = refl
begins (requests.Change change) = refl

-- ---- values of one spelling are one

made_runway : List ℕ → Bool → Bool → RunwayEnd → RunwayEnd → Runway
made_runway name utility hard end1 end2 = record { name = name; utility = utility; hard = hard; end1 = end1; end2 = end2 }

same_runway : (a b : Runway) → a.name ≡ b.name → a.utility ≡ b.utility → a.hard ≡ b.hard → a.end1 ≡ b.end1 → a.end2 ≡ b.end2
    → made_runway a.name a.utility a.hard a.end1 a.end2 ≡ made_runway b.name b.utility b.hard b.end1 b.end2
same_runway a b n u h e f = cc

made_heliport : List ℕ → Category → Point → Point → ℤ → ℤ → Heliport
made_heliport id category a b width elevation = record { id = id; category = category; a = a; b = b; width = width; elevation = elevation }

same_heliport : (g h : Heliport) → g.id ≡ h.id → g.category ≡ h.category → g.a ≡ h.a → g.b ≡ h.b → g.width ≡ h.width → g.elevation ≡ h.elevation
    → made_heliport g.id g.category g.a g.b g.width g.elevation ≡ made_heliport h.id h.category h.a h.b h.width h.elevation
same_heliport g h i c a b w z = cc

one_amendment : (a b : Amendment) → IsValidAmendment a → IsValidAmendment b → plain_of a ≡ plain_of b → amendment_fields a ≡ amendment_fields b → a ≡ b
unfolding made_runway made_heliport
one_amendment (PutAirport id c p z) (PutAirport id' c' p' z') h k f e =
    let i : id ≡ id' = at 0 e in
    let cs = one_category c c' (at 1 e) in
    let ps = one_point p p' (at 2 e) (at 3 e) in
    let zs = one_number z z' h k (at 4 e) in
    cc
one_amendment (PutRunway id r) (PutRunway id' s) h k f e =
    let i : id ≡ id' = at 0 e in
    let rs : r ≡ s = same_runway r s (at 1 e) (one_choice weight_word refl refl r.utility s.utility (at 2 e)) (one_choice pavement_word refl refl r.hard s.hard (at 3 e))
    (one_end r.end1 s.end1 h.0 k.0 (at 4 e) (at 5 e) (at 6 e) (at 7 e)) (one_end r.end2 s.end2 h.1 k.1 (at 8 e) (at 9 e) (at 10 e) (at 11 e)) in
    cc
one_amendment (DropRunway id n) (DropRunway id' m) h k f e =
    let i : id ≡ id' = at 0 e in
    let ns : n ≡ m = at 1 e in
    cc
one_amendment (PutHeliport p) (PutHeliport q) h k f e =
    let ps : p ≡ q = same_heliport p q (at 0 e) (one_category p.category q.category (at 1 e)) (one_point p.a q.a (at 2 e) (at 3 e)) (one_point p.b q.b (at 4 e) (at 5 e))
    (one_number p.width q.width h.0 k.0 (at 6 e)) (one_number p.elevation q.elevation h.1 k.1 (at 7 e)) in
    ap (λ x. PutHeliport x) ps
one_amendment (Drop id) (Drop id') h k f e = let i : id ≡ id' = at 0 e in cc
one_amendment _ _ h k f e = absurd (cc)

made_submission : Date → Option Date → Option Date → Bool → Bool → Site → Submission
made_submission start permit fcc emergency statement filing =
    record { start = start; permit = permit; fcc = fcc; emergency = emergency; statement = statement; filing = filing }

same_submission : (a b : Submission) → a.start ≡ b.start → a.permit ≡ b.permit → a.fcc ≡ b.fcc → a.emergency ≡ b.emergency → a.statement ≡ b.statement → a.filing ≡ b.filing
    → made_submission a.start a.permit a.fcc a.emergency a.statement a.filing ≡ made_submission b.start b.permit b.fcc b.emergency b.statement b.filing
same_submission a b s p f e t g = cc

one_submission : (a b : Submission) → IsValidSubmission a → IsValidSubmission b → submission_fields a ≡ submission_fields b → a ≡ b
unfolding made_submission
one_submission a b h k e =
    same_submission a b (one_date a.start b.start h.start k.start (at 0 e)) (one_optional a.permit b.permit h.permit k.permit (at 1 e))
    (one_optional a.fcc b.fcc h.fcc k.fcc (at 2 e)) (one_choice urgency_word refl refl a.emergency b.emergency (at 3 e))
    (one_choice statement_word refl refl a.statement b.statement (at 4 e)) (one_site a.filing b.filing h.filing k.filing (ap (drop 5) e))

one_case : (m n : ℕ) {fields more : List (List ℕ)} → IsCase m → IsCase n → decimal m ∷ fields ≡ decimal n ∷ more → m ≡ n
one_case m n h k e = one_count m n (omega (arith, h)) (omega (arith, k)) (at 0 e)

-- the new facts of a revision have at most nine digits
short_facts : (ground height : ℤ) → AreFacts ground height → HasNineDigits ground × HasNineDigits height
short_facts ground height h = (omega (arith, ints, h.terrain_least, h.terrain_most), omega (arith, ints, h.height_least, h.height_most))

-- amendments change the register, and days do not
in_register : Plain → Bool
in_register plains.Day = false
in_register plains.Closed = false
in_register _ = true

amends : (a : Amendment) → in_register (plain_of a) ≡ true
unfolding in_register
amends (PutAirport id c p z) = refl
amends (PutRunway id r) = refl
amends (DropRunway id n) = refl
amends (PutHeliport h) = refl
amends (Drop id) = refl

plain_same : {p q : Plain} → act_forms.Plain p ≡ act_forms.Plain q → p ≡ q
plain_same e = cc

no_day : (a : Amendment) (p : Plain) → in_register p ≡ false → plain_of a ≡ p → ⊥
no_day a p out e = let same : true ≡ false = sym (amends a) ∙ ap in_register e ∙ out in cc

one_act : (a b : Act) → IsValidAct a → IsValidAct b → act_form a ≡ act_form b → act_fields a ≡ act_fields b → a ≡ b
unfolding in_register
one_act (acts.Amend a) (acts.Amend b) h k f e = ap (λ x. acts.Amend x) (one_amendment a b h k (plain_same f) e)
one_act (acts.Amend a) (acts.Day b) h k f e = absurd (no_day a plains.Day refl (plain_same f))
one_act (acts.Amend a) (acts.Closed b) h k f e = absurd (no_day a plains.Closed refl (plain_same f))
one_act (acts.Day a) (acts.Amend b) h k f e = absurd (no_day b plains.Day refl (sym (plain_same f)))
one_act (acts.Closed a) (acts.Amend b) h k f e = absurd (no_day b plains.Closed refl (sym (plain_same f)))
one_act (acts.Day a) (acts.Day b) h k f e = ap (λ x. acts.Day x) (one_date a b h k (at 0 e))
one_act (acts.Closed a) (acts.Closed b) h k f e = ap (λ x. acts.Closed x) (one_date a b h k (at 0 e))
one_act (acts.File a) (acts.File b) h k f e = ap (λ x. acts.File x) (one_submission a b h k e)
one_act (acts.Form a) (acts.Form b) h k f e = ap (λ x. acts.Form x) (one_case a b h k e)
one_act (acts.Determine a i) (acts.Determine b j) h k f e =
    let ns = one_case a b h k e in
    let is = one_impact i j (at 1 e) in
    cc
one_act (acts.Petition a p) (acts.Petition b q) h k f e =
    let ns = one_case a b h k e in
    let ps = one_party p q (at 1 e) in
    cc
one_act (acts.Dispose a p) (acts.Dispose b q) h k f e =
    let ns = one_case a b h k e in
    let ps = one_choice disposal_word refl refl p q (at 1 e) in
    cc
one_act (acts.Extend a m s d w) (acts.Extend b n t c v) h k f e =
    let ns = one_case a b h.0 k.0 e in
    let ms = one_count m n (omega (arith, h.2)) (omega (arith, k.2)) (at 1 e) in
    let ss = one_choice progress_word refl refl s t (at 2 e) in
    let ds = one_optional d c h.3 k.3 (at 3 e) in
    let ws = one_choice warrant_word refl refl w v (at 4 e) in
    cc
one_act (acts.Revise a s g z i) (acts.Revise b t x y j) h k f e =
    let ns = one_case a b h.0 k.0 e in
    let ss = one_choice progress_word refl refl s t (at 1 e) in
    let hs = short_facts g z h.1 in
    let ks = short_facts x y k.1 in
    let gs = one_number g x hs.0 ks.0 (at 2 e) in
    let zs = one_number z y hs.1 ks.1 (at 3 e) in
    let is = one_impact i j (at 4 e) in
    cc
one_act (acts.Fcc a d) (acts.Fcc b c) h k f e =
    let ns = one_case a b h.0 k.0 e in
    let ds = one_optional d c h.1 k.1 (at 2 e) in
    cc
one_act (acts.Abandon a) (acts.Abandon b) h k f e = ap (λ x. acts.Abandon x) (one_case a b h k e)
one_act _ _ h k f e = absurd (cc)

made_change : List ℕ → List ℕ → Act → Asked
made_change caller key act = record { caller = caller; key = key; act = act }

one_change : (c d : Asked) → IsValidAct c.act → IsValidAct d.act → act_form c.act ≡ act_form d.act → change_spelling c ≡ change_spelling d → c ≡ d
unfolding made_change
one_change c d h k f e =
    let acts_are : c.act ≡ d.act = one_act c.act d.act h k f (ap (drop 3) e) in
    ap (λ x. made_change x c.key c.act) (at 1 e) ∙ ap (λ x. made_change d.caller x c.act) (at 2 e) ∙ ap (made_change d.caller d.key) acts_are

one_query : (a b : Query) → IsValidQuery a → IsValidQuery b → query_form a ≡ query_form b → query_spelling a ≡ query_spelling b → a ≡ b
one_query (queries.Screen a) (queries.Screen b) h k f e = ap (λ x. queries.Screen x) (one_site a b h k (ap (drop 1) e))
one_query (queries.Verdict a) (queries.Verdict b) h k f e = ap (λ x. queries.Verdict x) (one_site a b h k (ap (drop 1) e))
one_query (queries.Case a) (queries.Case b) h k f e = ap (λ x. queries.Case x) (one_count a b (omega (arith, h)) (omega (arith, k)) (at 1 e))
one_query (queries.Airfield a) (queries.Airfield b) h k f e = ap (λ x. queries.Airfield x) (at 1 e)
one_query queries.Review queries.Review h k f e = refl
one_query queries.Sync queries.Sync h k f e = refl
one_query (queries.Report a) (queries.Report b) h k f e = ap (λ x. queries.Report x) (one_report a b (at 1 e))
one_query _ _ h k f e = absurd (cc)

-- ---- requests

-- a changing request is no query
no_query : (q : Query) (form : ActForm) → query_form q ≡ forms.Act form → ⊥
no_query (queries.Screen s) a e = cc
no_query (queries.Verdict s) a e = cc
no_query (queries.Case n) a e = cc
no_query (queries.Airfield id) a e = cc
no_query queries.Review a e = cc
no_query (queries.Report kind) a e = cc
no_query queries.Sync a e = cc

same_form : (r s : Request) → spelling r ≡ spelling s → form_of r ≡ form_of s
same_form (requests.Query a) (requests.Query b) e = one_form (query_form a) (query_form b) (at 0 e)
same_form (requests.Query a) (requests.Change d) e = one_form (query_form a) (forms.Act (act_form d.act)) (at 0 e)
same_form (requests.Change c) (requests.Query b) e = one_form (forms.Act (act_form c.act)) (query_form b) (at 0 e)
same_form (requests.Change c) (requests.Change d) e = one_form (forms.Act (act_form c.act)) (forms.Act (act_form d.act)) (at 0 e)

act_same : {f g : ActForm} → forms.Act f ≡ forms.Act g → f ≡ g
act_same e = cc

-- requests of one spelling are one
pub one_request : (r s : Request) → IsGood r → IsGood s → spelling r ≡ spelling s → r ≡ s
one_request (requests.Query a) (requests.Query b) g h e =
    ap (λ x. requests.Query x) (one_query a b g.valid h.valid (same_form (requests.Query a) (requests.Query b) e) e)
one_request (requests.Query a) (requests.Change d) g h e = absurd (no_query a (act_form d.act) (same_form (requests.Query a) (requests.Change d) e))
one_request (requests.Change c) (requests.Query b) g h e = absurd (no_query b (act_form c.act) (sym (same_form (requests.Change c) (requests.Query b) e)))
one_request (requests.Change c) (requests.Change d) g h e =
    ap (λ x. requests.Change x) (one_change c d g.valid h.valid (act_same (same_form (requests.Change c) (requests.Change d) e)) e)
