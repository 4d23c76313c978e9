-- The matches that `clap` has of some options, and their values.
use Rattle.std.proofs.Common.{ℕ, ◌≡◌, ◌≢◌, ◌⊎◌, ◌∙◌, true, false, List, [], ◌∷◌, ◌++◌, Option, Some, None, refl, subst, sym, ap, ap₂, map, codes, inl, inr, append_assoc, append-nil, ◌+◌, ◌<◌, zero, suc, arith, length, slice_index_or}
use Rattle.std.specs.Prelude.{find}
use Rattle.std.specs.Str.{bytes_eq}
use Rattle.std.proofs.lemmas.Slice.Eq.{bytes_eq-Decides}
use Rattle.std.proofs.lemmas.Option.{none-some, same_Some}
use Rattle.clap.specs.Words.{Kinds, Row, Text, first_of, fault_of, matches_of}
use Rattle.std.specs.Prelude.{IfSome, IfNone}
use Rattle.command_words.specs.declared.options.Options.{Options}
use Rattle.clap.specs.Kinds.{or_else}
use Rattle.clap.specs.Walk.{idle, more_values, used, reading_by, arg_by_long, at_row, without, has_row, nothing_held}
use Rattle.clap.specs.Faults.{walk_fault, settle_fault, use_fault}
use Rattle.clap.specs.declared.parser.matches.ValueSource.TheVariants.{CommandLine}
use Rattle.command_words.specs.Options.{Given, Spell, IsName, AreOptions, SpellOptions, value_of, Values, values_of}
use Rattle.command_words.specs.Parsing.{IsCleanWord, AreClean, options_app, gathered, values_in, where_fine, options_of, told}
use Rattle.command_words.proofs.WalkFacts.{given_as, opt, top, names, at, or_else_nil}
use Rattle.command_words.proofs.SoundFacts.{uses, UsesFine, after, bool_is, sound}
use Rattle.command_words.proofs.WholeFacts.{whole_fault, whole_rows}
use Rattle.command_words.proofs.CompleteFacts.{complete, name_is}

abbrev given_row : Given → Row
given_row p = record { id = p.name; values = p.value ∷ []; count = None; source = Some CommandLine; reading = reading_by (opt p.name) }

at_row_new : (id : Text) (change : Row → List Row) (missing rows : List Row) → has_row id rows ≡ false → at_row id change missing rows ≡ rows ++ missing
at_row_new id change missing [] h = refl
at_row_new id change missing (r ∷ rs) h = elim (bool_is (bytes_eq r.id id)) [
  | inl is_ ↦ (let bad : true ≡ false = (rw is_ at h) in cc bad)
  | inr no_ ↦ (rw no_ (ap (λ l. r ∷ l) (at_row_new id change missing rs (rw no_ at h))))
]

fresh : (n v : Text) (rows : List Row) → use_fault false (opt n) (v ∷ []) rows ≡ [] → has_row n rows ≡ false
fresh n v rows e = elim (bool_is (has_row n rows)) [
  | inl is_ ↦ absurd (let bad = (rw is_ at e) in cc bad)
  | inr no_ ↦ no_
]

passes_fresh : (n v : Text) (rows : List Row) → has_row n rows ≡ false → use_fault false (opt n) (v ∷ []) rows ≡ []
passes_fresh n v rows h = rw h refl

used_is : (n v : Text) (rows : List Row) → has_row n rows ≡ false → used (opt n) (v ∷ []) rows ≡ rows ++ given_row (given_as n v) ∷ []
used_is n v rows h =
    let gone : without n rows ≡ rows = at_row_new n (λ _. []) [] rows h ∙ append-nil rows in
    rw gone (at_row_new n (more_values CommandLine (v ∷ [])) (given_row (given_as n v) ∷ []) rows h)

has_more : (n : Text) (rows more : List Row) → has_row n rows ≡ true → has_row n (rows ++ more) ≡ true
has_more n [] more h = cc h
has_more n (r ∷ rs) more h = elim (bool_is (bytes_eq r.id n)) [
  | inl is_ ↦ rw is_ refl
  | inr no_ ↦ (rw no_ (has_more n rs more (rw no_ at h)))
]

has_last : (n : Text) (rows : List Row) (r : Row) → bytes_eq r.id n ≡ true → has_row n (rows ++ r ∷ []) ≡ true
has_last n [] r e = rw e refl
has_last n (x ∷ xs) r e = elim (bool_is (bytes_eq x.id n)) [
  | inl is_ ↦ rw is_ refl
  | inr no_ ↦ (rw no_ (has_last n xs r e))
]

has_not : (n : Text) (rows : List Row) (r : Row) → has_row n rows ≡ false → bytes_eq r.id n ≡ false → has_row n (rows ++ r ∷ []) ≡ false
has_not n [] r h e = rw e refl
has_not n (x ∷ xs) r h e = elim (bool_is (bytes_eq x.id n)) [
  | inl is_ ↦ (let bad : true ≡ false = (rw is_ at h) in cc bad)
  | inr no_ ↦ (rw no_ (has_not n xs r (rw no_ at h) e))
]

same_text : (n : Text) → bytes_eq n n ≡ true
same_text n = (bytes_eq-Decides n n).1 refl

uses_rows : (ps : List Given) (rows : List Row) → UsesFine ps rows → uses ps rows ≡ rows ++ map given_row ps
uses_rows [] rows f = sym (append-nil rows)
uses_rows (p ∷ ps) rows f =
    let one = used_is p.name p.value rows (fresh p.name p.value rows f.1) in
    uses_rows ps (used (opt p.name) (p.value ∷ []) rows) f.2 ∙ ap (λ l. l ++ map given_row ps) one ∙ append_assoc rows (given_row p ∷ []) (map given_row ps)

apart : (n : Text) (ps : List Given) (rows : List Row) → UsesFine ps rows → has_row n rows ≡ true → find (λ q. bytes_eq q.name n) ps ≡ None
apart n [] rows f h = refl
apart n (q ∷ qs) rows f h = elim (bool_is (bytes_eq q.name n)) [
  | inl is_ ↦ (let e : q.name ≡ n = (bytes_eq-Decides q.name n).0 is_ in let no_ = subst (λ m. has_row m rows ≡ false) e (fresh q.name q.value rows f.1) in let bad : true ≡ false = sym h ∙ no_ in cc bad)
  | inr no_ ↦ (rw no_ (apart n qs (used (opt q.name) (q.value ∷ []) rows) f.2 (rw (used_is q.name q.value rows (fresh q.name q.value rows f.1)) (has_more n rows (given_row q ∷ []) h))))
]

abbrev IsAmong : Text → List Text → Type 0
IsAmong n [] = ⊥
IsAmong n (m ∷ ms) = (n ≡ m) ⊎ IsAmong n ms

among : (ms : List Text) (n : Text) → arg_by_long (map opt ms) n ≡ Some (opt n) → IsAmong n ms
among [] n e = none-some (opt n) e
among (m ∷ ms) n e = elim (bool_is (bytes_eq m n)) [
  | inl is_ ↦ inl (sym ((bytes_eq-Decides m n).0 is_))
  | inr no_ ↦ inr (among ms n (rw no_ at e))
]

is_name : (n : Text) → IsAmong n names → IsName n
is_name n (inl e) = inl e
is_name n (inr (inl e)) = inr (inl e)
is_name n (inr (inr (inl e))) = inr (inr (inl e))
is_name n (inr (inr (inr (inl e)))) = inr (inr (inr e))
is_name n (inr (inr (inr (inr e)))) = absurd e

options_from : (ps : List Given) (rows : List Row) → UsesFine ps rows → AreOptions ps
options_from [] rows f = tt
options_from (p ∷ ps) rows f = (
  is_name p.name (among names p.name f.0),
  apart p.name ps (used (opt p.name) (p.value ∷ []) rows) f.2 (rw (used_is p.name p.value rows (fresh p.name p.value rows f.1)) (has_last p.name rows (given_row p) (same_text p.name))),
  options_from ps (used (opt p.name) (p.value ∷ []) rows) f.2,
)

abbrev Free : List Given → List Row → Type 0
Free [] rows = Unit {0}
Free (p ∷ ps) rows = (has_row p.name rows ≡ false) × Free ps rows

not_same : (a b : Text) → bytes_eq a b ≡ false → bytes_eq b a ≡ false
not_same a b e = elim (bool_is (bytes_eq b a)) [
  | inl is_ ↦ (let s : b ≡ a = (bytes_eq-Decides b a).0 is_ in let bad : true ≡ false = sym ((bytes_eq-Decides a b).1 (sym s)) ∙ e in cc bad)
  | inr no_ ↦ no_
]

free_more : (ps : List Given) (rows : List Row) (p : Given) → Free ps rows → find (λ q. bytes_eq q.name p.name) ps ≡ None → Free ps (rows ++ given_row p ∷ [])
free_more [] rows p f h = tt
free_more (q ∷ qs) rows p f h = elim (bool_is (bytes_eq q.name p.name)) [
  | inl is_ ↦ absurd (none-some q (sym (rw is_ at h)))
  | inr no_ ↦ (has_not q.name rows (given_row p) f.0 (not_same q.name p.name no_), free_more qs rows p f.1 (rw no_ at h))
]

free_none : (ps : List Given) → Free ps []
free_none [] = tt
free_none (p ∷ ps) = (refl, free_none ps)

fine_uses : (ps : List Given) (rows : List Row) → AreOptions ps → Free ps rows → UsesFine ps rows
fine_uses [] rows o f = tt
fine_uses (p ∷ ps) rows o f = (
  (name_is p.name o.0).long,
  passes_fresh p.name p.value rows f.0,
  rw (used_is p.name p.value rows f.0) (fine_uses ps (rows ++ given_row p ∷ []) o.2 (free_more ps rows p f.1 o.1)),
)

first_is : (id : Text) (ps : List Given) → first_of id (map given_row ps) ≡ value_of id ps
first_is id [] = refl
first_is id (p ∷ ps) = elim (bool_is (bytes_eq p.name id)) [
  | inl is_ ↦ rw is_ refl
  | inr no_ ↦ (rw no_ (first_is id ps))
]

gathered_is : (ps : List Given) → gathered (map given_row ps) ≡ values_of ps
gathered_is ps = rw (first_is (codes "listen") ps, first_is (codes "workers") ps, first_is (codes "turns") ps, first_is (codes "db") ps) refl

fine_where : (ks : Kinds) (values v : Values) → where_fine ks values ≡ Some v → (ks ≡ []) × (values ≡ v)
fine_where [] values v e = (refl, same_Some values v e)
fine_where (k ∷ ks) values v e = absurd (none-some v e)

-- words that `clap` takes are options
pub are_words : (words : List Text) (v : Values) → AreClean words → Some v ≡ options_of words → SpellOptions words v
are_words words v clean e =
    let ok = fine_where (fault_of options_app words) (gathered (matches_of options_app words)) v (sym e) in
    let parts = or_else_nil (walk_fault top [] (at nothing_held idle) words) (settle_fault top.rules false (after (at nothing_held idle) words).held) (sym (whole_fault words) ∙ ok.0) in
    let t = sound words nothing_held clean parts.0 parts.1 in
    let rows : matches_of options_app words ≡ map given_row t.given = whole_rows words ∙ t.rows ∙ uses_rows t.given [] t.fine in
    (t.given, t.reads, options_from t.given [] t.fine, sym (gathered_is t.given) ∙ ap gathered (sym rows) ∙ ok.1)

-- options are words that it takes
pub from_words : (words : List Text) (v : Values) → SpellOptions words v → Some v ≡ options_of words
from_words words v (given, reads, o, s) =
    let uses_fine = fine_uses given [] o (free_none given) in
    let f = complete given words nothing_held reads o refl uses_fine in
    let none : fault_of options_app words ≡ [] = whole_fault words ∙ ap₂ or_else f.walks f.ends in
    let rows : matches_of options_app words ≡ map given_row given = whole_rows words ∙ f.rows ∙ uses_rows given [] uses_fine in
    let whole : gathered (matches_of options_app words) ≡ v = ap gathered rows ∙ gathered_is given ∙ s in
    sym (ap (λ ks. where_fine ks (gathered (matches_of options_app words))) none ∙ ap (λ x. Some x) whole)

-- ---- words that were looked at before

longer : (n v : Text) → n ++ 61 ∷ v ≢ []
longer [] v e = cc e
longer (x ∷ xs) v e = cc e

-- options are clean words
pub clean_words : (ps : List Given) (ws : List Text) → Spell ws ps → AreOptions ps → AreClean ws
clean_words [] ws reads o = subst AreClean (sym reads) tt
clean_words (p ∷ ps) ws (rest, reads, inl e) o = subst AreClean (sym e) (inr (p.name ++ 61 ∷ p.value, refl, longer p.name p.value), clean_words ps rest reads o.2)
clean_words (p ∷ ps) ws (rest, reads, inr e) o = subst AreClean (sym e.0) (inr (p.name, refl, (name_is p.name o.0).some), (inl e.1, clean_words ps rest reads o.2))

module _ {A : Type 0} (f : A → Text) where
  pub clean_all : (xs : List A) → ((k : ℕ) (d : A) → k < length xs → IsCleanWord (f (slice_index_or xs k d))) → AreClean (map f xs)
  clean_all [] h = tt
  clean_all (x ∷ xs) h = (h zero x (omega arith), clean_all xs (λ i d less. h (suc i) d (omega (arith, less))))

  pub clean_at : (xs : List A) (i : ℕ) (d : A) → i < length xs → AreClean (map f xs) → IsCleanWord (f (slice_index_or xs i d))
  clean_at [] i d less h = absurd (omega (arith, less))
  clean_at (x ∷ xs) zero d less h = h.0
  clean_at (x ∷ xs) (suc i) d less h = clean_at xs i d (omega (arith, less)) h.1

pub some_words : (words : List Text) (o : Option Options) → AreClean words → told o ≡ options_of words → IfSome o (λ r. SpellOptions words (values_in r))
some_words words None clean e = tt
some_words words (Some r) clean e = are_words words (values_in r) clean e

pub none_words : (words : List Text) (o : Option Options) → told o ≡ options_of words → IfNone o ((v : Values) → SpellOptions words v → ⊥)
none_words words None e = λ v w. none-some v (e ∙ sym (from_words words v w))
none_words words (Some r) e = tt

pub any_default : {A : Type 0} (xs : List A) (k : ℕ) (d e : A) → k < length xs → slice_index_or xs k d ≡ slice_index_or xs k e
any_default [] k d e less = absurd (omega (arith, less))
any_default (x ∷ xs) zero d e less = refl
any_default (x ∷ xs) (suc k) d e less = any_default xs k d e (omega (arith, less))
