-- Words that are options in order are taken by `clap`, with their values.
use Rattle.std.proofs.Common.{ℕ, ◌≡◌, ◌≢◌, ◌==◌, ◌∙◌, true, false, List, [], ◌∷◌, ◌++◌, Some, None, refl, subst, sym, ap, codes, inl, inr}
use Rattle.std.specs.Str.{bytes_eq}
use Rattle.std.specs.List.{list_any}
use Rattle.std.proofs.lemmas.Slice.Eq.{bytes_eq-Decides}
use Rattle.clap.specs.Words.{Kinds, Text}
use Rattle.clap.specs.Lexer.{long_of}
use Rattle.clap.specs.Kinds.{or_else}
use Rattle.clap.specs.Walk.{Held, idle, option, walked, settled, used, reacted, arg_by_long, arg_by_id}
use Rattle.clap.specs.Faults.{turn_fault, walk_fault, settle_fault, react_fault, use_fault}
use Rattle.clap.proofs.CutLemmas.{Lacks}
use Rattle.clap.proofs.LexerLemmas.{name_and_value-at, name_and_value-without}
use Rattle.command_words.specs.Options.{Given, Spell, IsPlain, IsName, AreOptions}
use Rattle.command_words.proofs.WalkFacts.{given_as, opt, top, at, joined_fault, joined_walk, alone_fault, alone_walk, value_fault, value_walk}
use Rattle.command_words.proofs.SoundFacts.{uses, UsesFine, after, waits, has, bool_is, lacks_cons, lacks_nil, short_of_plain, long_of_plain, dash_of_plain, dash_of_long}

lacks_of : (xs : List ℕ) → list_any (λ x. x == 61) xs ≡ false → Lacks 61 xs
lacks_of [] e = lacks_nil
lacks_of (x ∷ xs) e = elim (bool_is (x == 61)) [
  | inl is_ ↦ (let bad : true ≡ false = (rw is_ at e) in cc bad)
  | inr no_ ↦ lacks_cons x xs no_ (lacks_of xs (rw no_ at e))
]

-- what is known of a name
pub record Named (n : Text) : Type 0 where
  pub long : arg_by_long top.rules n ≡ Some (opt n)
  pub id : arg_by_id top.rules n ≡ Some (opt n)
  pub lacks : Lacks 61 n
  pub some : n ≢ []

pub name_is : (n : Text) → IsName n → Named n
name_is n (inl e) = subst Named (sym e) (record { long = refl; id = refl; lacks = lacks_of (codes "listen") refl; some = λ b. cc b })
name_is n (inr (inl e)) = subst Named (sym e) (record { long = refl; id = refl; lacks = lacks_of (codes "workers") refl; some = λ b. cc b })
name_is n (inr (inr (inl e))) = subst Named (sym e) (record { long = refl; id = refl; lacks = lacks_of (codes "turns") refl; some = λ b. cc b })
name_is n (inr (inr (inr e))) = subst Named (sym e) (record { long = refl; id = refl; lacks = lacks_of (codes "db") refl; some = λ b. cc b })

long_joined : (n v : Text) → Lacks 61 n → long_of (45 ∷ 45 ∷ n ++ 61 ∷ v) ≡ Some (n, Some v)
long_joined [] v h = ap (λ p. Some p) (name_and_value-at [] v h)
long_joined (x ∷ xs) v h = ap (λ p. Some p) (name_and_value-at (x ∷ xs) v h)

dash_joined : (n v : Text) → bytes_eq (45 ∷ 45 ∷ n ++ 61 ∷ v) (45 ∷ 45 ∷ []) ≡ false
dash_joined [] v = refl
dash_joined (x ∷ xs) v = refl

long_alone : (n : Text) → Lacks 61 n → n ≢ [] → long_of (45 ∷ 45 ∷ n) ≡ Some (n, None)
long_alone [] h ne = absurd (ne refl)
long_alone (x ∷ xs) h ne = ap (λ p. Some p) (name_and_value-without (x ∷ xs) h)

none_of : (a b : Kinds) → a ≡ [] → b ≡ [] → or_else a b ≡ []
none_of a b e f = ap (λ k. or_else k b) e ∙ f

-- the walk over such words fails nowhere
pub record Fine (h : Held) (words : List Text) (given : List Given) : Type 0 where
  pub walks : walk_fault top [] (at h idle) words ≡ []
  pub ends : settle_fault top.rules false (after (at h idle) words).held ≡ []
  pub rows : (settled top.rules (after (at h idle) words).held).rows ≡ uses given (settled top.rules h).rows

fine_joined : (n v : Text) (ws : List Text) (ps : List Given) (h : Held) → Named n → settle_fault top.rules false h ≡ [] → use_fault false (opt n) (v ∷ []) (settled top.rules h).rows ≡ []
    → Fine (reacted top.rules (opt n) (v ∷ []) h) ws ps → Fine h ((45 ∷ 45 ∷ n ++ 61 ∷ v) ∷ ws) (given_as n v ∷ ps)
unfolding walk_fault
fine_joined n v ws ps h is settles passes f =
    let w = 45 ∷ 45 ∷ n ++ 61 ∷ v in
    let on = joined_walk w n v h (dash_joined n v) (long_joined n v is.lacks) is.long in
    let turn : turn_fault top [] (at h idle) w ≡ [] = joined_fault w n v h (dash_joined n v) (long_joined n v is.lacks) is.long
    ∙ none_of (react_fault top.rules false (opt n) (v ∷ []) h) [] (none_of (settle_fault top.rules false h) (use_fault false (opt n) (v ∷ []) (settled top.rules h).rows) settles passes) refl in
    record {
      walks = none_of (turn_fault top [] (at h idle) w) (walk_fault top [] (walked top.rules [] (at h idle) w) ws) turn (subst (λ x. walk_fault top [] x ws ≡ []) (sym on) f.walks);
      ends = subst (λ x. settle_fault top.rules false (after x ws).held ≡ []) (sym on) f.ends;
      rows = subst (λ x. (settled top.rules (after x ws).held).rows ≡ uses ps (used (opt n) (v ∷ []) (settled top.rules h).rows)) (sym on) f.rows;
    }

fine_alone : (n v : Text) (ws : List Text) (ps : List Given) (h : Held) → Named n → IsPlain v → settle_fault top.rules false h ≡ []
    → Fine (has n v h) ws ps → Fine h ((45 ∷ 45 ∷ n) ∷ v ∷ ws) (given_as n v ∷ ps)
unfolding walk_fault
fine_alone n v ws ps h is plain settles f =
    let w = 45 ∷ 45 ∷ n in
    let on = alone_walk w n h (dash_of_long n is.some) (long_alone n is.lacks is.some) is.long in
    let on2 = value_walk v n (waits n h) (dash_of_plain v plain) (long_of_plain v plain) (short_of_plain v plain) is.id refl ((bytes_eq-Decides n n).1 refl) in
    let turn : turn_fault top [] (at h idle) w ≡ [] = alone_fault w n h (dash_of_long n is.some) (long_alone n is.lacks is.some) is.long ∙ none_of (settle_fault top.rules false h) [] settles refl in
    let turn2 : turn_fault top [] (at (waits n h) (option n)) v ≡ [] = value_fault v n (waits n h) (dash_of_plain v plain) (long_of_plain v plain) (short_of_plain v plain) in
    let rows_are : (settled top.rules (has n v h)).rows ≡ used (opt n) (v ∷ []) (settled top.rules h).rows = rw is.id refl in
    let second : walk_fault top [] (at (waits n h) (option n)) (v ∷ ws) ≡ [] =
    none_of (turn_fault top [] (at (waits n h) (option n)) v) (walk_fault top [] (walked top.rules [] (at (waits n h) (option n)) v) ws) turn2 (subst (λ x. walk_fault top [] x ws ≡ []) (sym on2) f.walks) in
    record {
      walks = none_of (turn_fault top [] (at h idle) w) (walk_fault top [] (walked top.rules [] (at h idle) w) (v ∷ ws)) turn (subst (λ x. walk_fault top [] x (v ∷ ws) ≡ []) (sym on) second);
      ends = subst (λ x. settle_fault top.rules false (after x (v ∷ ws)).held ≡ []) (sym on) (subst (λ x. settle_fault top.rules false (after x ws).held ≡ []) (sym on2) f.ends);
      rows = subst (λ x. (settled top.rules (after x (v ∷ ws)).held).rows ≡ uses ps (used (opt n) (v ∷ []) (settled top.rules h).rows)) (sym on)
          (subst (λ x. (settled top.rules (after x ws).held).rows ≡ uses ps (used (opt n) (v ∷ []) (settled top.rules h).rows)) (sym on2) (f.rows ∙ ap (uses ps) rows_are));
    }

pub complete : (ps : List Given) (ws : List Text) (h : Held) → Spell ws ps → AreOptions ps → settle_fault top.rules false h ≡ [] → UsesFine ps (settled top.rules h).rows → Fine h ws ps
unfolding walk_fault
complete [] ws h reads names_are settles fine = subst (λ w. Fine h w []) (sym reads) (record { walks = refl; ends = settles; rows = refl })
complete (p ∷ ps) ws h (rest, reads, inl e) names_are settles fine =
    subst (λ w. Fine h w (p ∷ ps)) (sym e)
    (fine_joined p.name p.value rest ps h (name_is p.name names_are.0) settles fine.1 (complete ps rest (reacted top.rules (opt p.name) (p.value ∷ []) h) reads names_are.2 refl fine.2))
complete (p ∷ ps) ws h (rest, reads, inr e) names_are settles fine =
    let is = name_is p.name names_are.0 in
    let rows_are : used (opt p.name) (p.value ∷ []) (settled top.rules h).rows ≡ (settled top.rules (has p.name p.value h)).rows = rw is.id refl in
    let use_is : use_fault false (opt p.name) (p.value ∷ []) (settled top.rules h).rows ≡ settle_fault top.rules false (has p.name p.value h) = rw is.id refl in
    subst (λ w. Fine h w (p ∷ ps)) (sym e.0)
    (fine_alone p.name p.value rest ps h is e.1 settles (complete ps rest (has p.name p.value h) reads names_are.2 (sym use_is ∙ fine.1) (subst (UsesFine ps) rows_are fine.2)))
