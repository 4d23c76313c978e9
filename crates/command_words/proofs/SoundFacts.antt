-- Words that `clap` takes are options in order.
use Rattle.std.proofs.Common.{ℕ, ◌≡◌, ◌≢◌, ◌⊎◌, ◌==◌, ◌∙◌, Bool, true, false, List, [], ◌∷◌, ◌++◌, Option, Some, None, refl, subst, sym, ap, map, inl, inr, arith, zero, suc}
use Rattle.std.specs.Str.{bytes_eq}
use Rattle.std.specs.List.{fold}
use Rattle.std.proofs.lemmas.Slice.Eq.{bytes_eq-Decides}
use Rattle.std.proofs.lemmas.Bool.Decides.{nat_tests}
use Rattle.std.proofs.lemmas.Grind.{common_steps}
use Rattle.clap.specs.Words.{Row, Text}
use Rattle.clap.specs.Lexer.{long_of, short_of, name_and_value}
use Rattle.clap.specs.Walk.{Held, Walk, idle, option, walked, settled, used, reacted, arg_by_long, arg_by_id}
use Rattle.clap.specs.Faults.{turn_fault, walk_fault, settle_fault, react_fault, use_fault}
use Rattle.clap.proofs.CutLemmas.{Lacks}
use Rattle.clap.proofs.LexerLemmas.{name_and_value-at, name_and_value-without}
use Rattle.command_words.specs.Options.{Given, Spell, IsPlain}
use Rattle.command_words.specs.Parsing.{AreClean, IsCleanWord}
use Rattle.command_words.proofs.WalkFacts.{given_as, opt, top, names, at, or_else_nil, joined_fault, joined_walk, alone_fault, alone_walk, unknown_fault, stray_fault, value_walk}

pub bool_is : (b : Bool) → (b ≡ true) ⊎ (b ≡ false)
bool_is true = inl refl
bool_is false = inr refl

-- ---- a word, cut at its first `=`

pub lacks_cons : (x : ℕ) (xs : List ℕ) → (x == 61) ≡ false → Lacks 61 xs → Lacks 61 (x ∷ xs)
lacks_cons x xs ne h zero lt = let d = ne in grind (arith, nat_tests)
lacks_cons x xs ne h (suc i) lt = h i (grind (arith, common_steps))

pub lacks_nil : Lacks 61 []
lacks_nil i lt = absurd (omega (arith, lt))

cut : (text : List ℕ) → Lacks 61 text ⊎ ((xs ys : List ℕ) × Lacks 61 xs × (text ≡ xs ++ 61 ∷ ys))
cut [] = inl lacks_nil
cut (x ∷ rest) = elim (bool_is (x == 61)) [
  | inl is_ ↦ inr ([], rest, lacks_nil, ap (λ y. y ∷ rest) (grind (arith, nat_tests)))
  | inr no_ ↦ elim (cut rest) [
    | inl h ↦ inl (lacks_cons x rest no_ h)
    | inr c ↦ inr (x ∷ c.0, c.1, lacks_cons x c.0 no_ c.2, ap (λ l. x ∷ l) c.3)
  ]
]

-- what the walk sees of a word
pub data Word (w : Text) : Type 0 where
  joined : (n v : Text) → long_of w ≡ Some (n, Some v) → w ≡ 45 ∷ 45 ∷ n ++ 61 ∷ v → Word w
  alone : (n : Text) → long_of w ≡ Some (n, None) → w ≡ 45 ∷ 45 ∷ n → Word w
  other : long_of w ≡ None → Word w

of_rest : (x : ℕ) (xs : List ℕ) → Word (45 ∷ 45 ∷ x ∷ xs)
of_rest x xs = elim (cut (x ∷ xs)) [
  | inl h ↦ alone (x ∷ xs) (ap (λ p. Some p) (name_and_value-without (x ∷ xs) h)) refl
  | inr c ↦ joined c.0 c.1 (ap (λ p. Some p) (ap name_and_value c.3 ∙ name_and_value-at c.0 c.1 c.2)) (ap (λ l. 45 ∷ 45 ∷ l) c.3)
]

third : (xs : List ℕ) → Word (45 ∷ 45 ∷ xs)
third [] = other refl
third (x ∷ xs) = of_rest x xs

second : (x : ℕ) (xs : List ℕ) → Word (45 ∷ x ∷ xs)
second x xs = elim (bool_is (x == 45)) [
  | inl is_ ↦ (let e : 45 ≡ x = grind (arith, nat_tests) in subst (λ (y : ℕ). Word (45 ∷ y ∷ xs)) e (third xs))
  | inr no_ ↦ other (rw no_ refl)
]

first : (x : ℕ) (xs : List ℕ) → Word (x ∷ xs)
first x [] = elim (bool_is (x == 45)) [ inl is_ ↦ other (rw is_ refl) | inr no_ ↦ other (rw no_ refl) ]
first x (y ∷ ys) = elim (bool_is (x == 45)) [
  | inl is_ ↦ (let e : 45 ≡ x = grind (arith, nat_tests) in subst (λ (z : ℕ). Word (z ∷ y ∷ ys)) e (second y ys))
  | inr no_ ↦ other (rw no_ refl)
]

pub word_is : (w : Text) → Word w
word_is [] = other refl
word_is (x ∷ xs) = first x xs

-- ---- words that were looked at before

pub dash_of_plain : (w : Text) → IsPlain w → bytes_eq w (45 ∷ 45 ∷ []) ≡ false
dash_of_plain w p = elim (bool_is (bytes_eq w (45 ∷ 45 ∷ []))) [ inl e ↦ absurd (p (45 ∷ []) ((bytes_eq-Decides w (45 ∷ 45 ∷ [])).0 e)) | inr e ↦ e ]

pub no_dash : (x : ℕ) (xs : Text) → IsPlain (x ∷ xs) → (x == 45) ≡ false
no_dash x xs p = elim (bool_is (x == 45)) [ inl e ↦ (let s : x ≡ 45 = grind (arith, nat_tests) in absurd (p xs (ap (λ y. y ∷ xs) s))) | inr e ↦ e ]

pub short_of_plain : (w : Text) → IsPlain w → short_of w ≡ None
short_of_plain [] p = refl
short_of_plain (x ∷ xs) p = rw (no_dash x xs p) refl

pub long_of_plain : (w : Text) → IsPlain w → long_of w ≡ None
long_of_plain [] p = refl
long_of_plain (x ∷ xs) p = rw (no_dash x xs p) refl

pub dash_of_long : (n : Text) → n ≢ [] → bytes_eq (45 ∷ 45 ∷ n) (45 ∷ 45 ∷ []) ≡ false
dash_of_long [] ne = absurd (ne refl)
dash_of_long (x ∷ xs) ne = refl

long_of_long : (n : Text) → n ≢ [] → long_of (45 ∷ 45 ∷ n) ≡ None → ⊥
long_of_long [] ne e = ne refl
long_of_long (x ∷ xs) ne e = cc e

pub dash_of : (w : Text) → IsCleanWord w → bytes_eq w (45 ∷ 45 ∷ []) ≡ false
dash_of w (inl p) = dash_of_plain w p
dash_of w (inr (n, e, ne)) = ap (λ x. bytes_eq x (45 ∷ 45 ∷ [])) e ∙ dash_of_long n ne

short_is : (w : Text) → IsCleanWord w → short_of w ≡ None
short_is w (inl p) = short_of_plain w p
short_is w (inr (n, e, ne)) = ap short_of e

plain_is : (w : Text) → IsCleanWord w → long_of w ≡ None → IsPlain w
plain_is w (inl p) long = p
plain_is w (inr (n, e, ne)) long = absurd (long_of_long n ne (ap long_of (sym e) ∙ long))

-- ---- a name, looked up among the options

found : (ms : List Text) (n : Text) → ((arg_by_long (map opt ms) n ≡ Some (opt n)) × (arg_by_id (map opt ms) n ≡ Some (opt n))) ⊎ (arg_by_long (map opt ms) n ≡ None)
found [] n = inr refl
found (m ∷ ms) n = elim (bool_is (bytes_eq m n)) [
  | inl is_ ↦ (let same = ap (λ k. Some (opt k)) ((bytes_eq-Decides m n).0 is_) in inl (rw is_ same, rw is_ same))
  | inr no_ ↦ elim (found ms n) [ inl h ↦ inl (rw no_ h.0, rw no_ h.1) | inr h ↦ inr (rw no_ h) ]
]

pub named : (n : Text) → ((arg_by_long top.rules n ≡ Some (opt n)) × (arg_by_id top.rules n ≡ Some (opt n))) ⊎ (arg_by_long top.rules n ≡ None)
named n = found names n

-- ---- the uses of some options, one after another

abbrev pub uses : List Given → List Row → List Row
uses [] rows = rows
uses (p ∷ ps) rows = uses ps (used (opt p.name) (p.value ∷ []) rows)

abbrev pub UsesFine : List Given → List Row → Type 0
UsesFine [] rows = Unit {0}
UsesFine (p ∷ ps) rows = (arg_by_long top.rules p.name ≡ Some (opt p.name)) × (use_fault false (opt p.name) (p.value ∷ []) rows ≡ []) × UsesFine ps (used (opt p.name) (p.value ∷ []) rows)

-- what the walk took of the words from where it stood
pub record Took (h end : Held) (words : List Text) : Type 0 where
  pub given : List Given
  pub reads : Spell words given
  pub settles : settle_fault top.rules false h ≡ []
  pub fine : UsesFine given (settled top.rules h).rows
  pub rows : (settled top.rules end).rows ≡ uses given (settled top.rules h).rows

abbrev pub after : Walk → List Text → Walk
after w words = fold (walked top.rules []) w words

abbrev pub waits : Text → Held → Held
waits n h = record (settled top.rules h) { pending = Some (n, []) }

abbrev pub has : Text → Text → Held → Held
has n v h = record (settled top.rules h) { pending = Some (n, v ∷ []) }

-- an option that waits for its value, and gets another option or none
want : (n : Text) (h : Held) → arg_by_id top.rules n ≡ Some (opt n) → settle_fault top.rules false (waits n h) ≡ [] → ⊥
want n h id = rw id (λ e. cc e)

cut_fault : (w n m : Text) (v : Option Text) (h : Held) → bytes_eq w (45 ∷ 45 ∷ []) ≡ false → long_of w ≡ Some (m, v) → arg_by_id top.rules n ≡ Some (opt n)
    → turn_fault top [] (at (waits n h) (option n)) w ≡ [] → ⊥
unfolding walked
cut_fault w n m (Some v) h dash long id = elim (named m) [
  | inl a ↦ rw (dash, long, a.0, id) (λ e. cc e)
  | inr none ↦ rw (dash, long, none) (λ e. cc e)
]
cut_fault w n m None h dash long id = elim (named m) [
  | inl a ↦ rw (dash, long, a.0, id) (λ e. cc e)
  | inr none ↦ rw (dash, long, none) (λ e. cc e)
]

-- the option's value came in its own word
take_joined : (w n v : Text) (ws : List Text) (h end : Held) → w ≡ 45 ∷ 45 ∷ n ++ 61 ∷ v → arg_by_long top.rules n ≡ Some (opt n) → react_fault top.rules false (opt n) (v ∷ []) h ≡ []
    → Took (reacted top.rules (opt n) (v ∷ []) h) end ws → Took h end (w ∷ ws)
take_joined w n v ws h end spelled arg fine t = record {
  given = given_as n v ∷ t.given;
  reads = (ws, t.reads, inl (ap (λ x. x ∷ ws) spelled));
  settles = (or_else_nil (settle_fault top.rules false h) (use_fault false (opt n) (v ∷ []) (settled top.rules h).rows) fine).0;
  fine = (arg, (or_else_nil (settle_fault top.rules false h) (use_fault false (opt n) (v ∷ []) (settled top.rules h).rows) fine).1, t.fine);
  rows = t.rows;
}

-- its value came in the next word
take_alone : (w n v : Text) (ws : List Text) (h end : Held) → w ≡ 45 ∷ 45 ∷ n → IsPlain v → arg_by_long top.rules n ≡ Some (opt n) → arg_by_id top.rules n ≡ Some (opt n)
    → settle_fault top.rules false h ≡ [] → Took (has n v h) end ws → Took h end (w ∷ v ∷ ws)
take_alone w n v ws h end spelled plain arg id fine t =
    let rows_are : (settled top.rules (has n v h)).rows ≡ used (opt n) (v ∷ []) (settled top.rules h).rows = rw id refl in
    let use_is : settle_fault top.rules false (has n v h) ≡ use_fault false (opt n) (v ∷ []) (settled top.rules h).rows = rw id refl in
    record {
      given = given_as n v ∷ t.given;
      reads = (ws, t.reads, inr (ap (λ x. x ∷ v ∷ ws) spelled, plain));
      settles = fine;
      fine = (arg, sym use_is ∙ t.settles, subst (UsesFine t.given) rows_are t.fine);
      rows = t.rows ∙ ap (uses t.given) rows_are;
    }

abbrev Goes : List Text → Type 0
Goes ws = (h : Held) → AreClean ws → walk_fault top [] (at h idle) ws ≡ [] → settle_fault top.rules false (after (at h idle) ws).held ≡ [] → Took h (after (at h idle) ws).held ws

goes_joined : (w n v : Text) (ws : List Text) (h : Held) → AreClean (w ∷ ws) → long_of w ≡ Some (n, Some v) → w ≡ 45 ∷ 45 ∷ n ++ 61 ∷ v → Goes ws
    → walk_fault top [] (at h idle) (w ∷ ws) ≡ [] → settle_fault top.rules false (after (at h idle) (w ∷ ws)).held ≡ [] → Took h (after (at h idle) (w ∷ ws)).held (w ∷ ws)
unfolding walk_fault
goes_joined w n v ws h clean long spelled go walks ends =
    let parts = or_else_nil (turn_fault top [] (at h idle) w) (walk_fault top [] (walked top.rules [] (at h idle) w) ws) walks in
    elim (named n) [
      | inl a ↦ (let on = joined_walk w n v h (dash_of w clean.0) long a.0 in
          let fine = (or_else_nil (react_fault top.rules false (opt n) (v ∷ []) h) [] (sym (joined_fault w n v h (dash_of w clean.0) long a.0) ∙ parts.0)).0 in
          let rest = go (reacted top.rules (opt n) (v ∷ []) h) clean.1 (subst (λ x. walk_fault top [] x ws ≡ []) on parts.1) (subst (λ x. settle_fault top.rules false (after x ws).held ≡ []) on ends) in
          take_joined w n v ws h (after (at h idle) (w ∷ ws)).held spelled a.0 fine (subst (λ x. Took (reacted top.rules (opt n) (v ∷ []) h) (after x ws).held ws) (sym on) rest))
      | inr none ↦ absurd (unknown_fault w n (Some v) h idle (dash_of w clean.0) long none parts.0)
    ]

goes_alone : (w n v : Text) (ws : List Text) (h : Held) → AreClean (w ∷ v ∷ ws) → long_of w ≡ Some (n, None) → w ≡ 45 ∷ 45 ∷ n → Goes ws
    → walk_fault top [] (at h idle) (w ∷ v ∷ ws) ≡ [] → settle_fault top.rules false (after (at h idle) (w ∷ v ∷ ws)).held ≡ [] → Took h (after (at h idle) (w ∷ v ∷ ws)).held (w ∷ v ∷ ws)
unfolding walk_fault
goes_alone w n v ws h clean long spelled go walks ends =
    let parts = or_else_nil (turn_fault top [] (at h idle) w) (walk_fault top [] (walked top.rules [] (at h idle) w) (v ∷ ws)) walks in
    elim (named n) [
      | inl a ↦ (let on = alone_walk w n h (dash_of w clean.0) long a.0 in
          let fine = (or_else_nil (settle_fault top.rules false h) [] (sym (alone_fault w n h (dash_of w clean.0) long a.0) ∙ parts.0)).0 in
          let more = subst (λ x. walk_fault top [] x (v ∷ ws) ≡ []) on parts.1 in
          let next_ = or_else_nil (turn_fault top [] (at (waits n h) (option n)) v) (walk_fault top [] (walked top.rules [] (at (waits n h) (option n)) v) ws) more in
          let no_long : long_of v ≡ None = elim (word_is v) [
            | joined m u e s ↦ absurd (cut_fault v n m (Some u) h (dash_of v clean.1.0) e a.1 next_.0)
            | alone m e s ↦ absurd (cut_fault v n m None h (dash_of v clean.1.0) e a.1 next_.0)
            | other e ↦ e
          ] in
          let on2 = value_walk v n (waits n h) (dash_of v clean.1.0) no_long (short_is v clean.1.0) a.1 refl ((bytes_eq-Decides n n).1 refl) in
          let whole = subst (λ x. settle_fault top.rules false (after x (v ∷ ws)).held ≡ []) on ends in
          let rest = go (has n v h) clean.1.1 (subst (λ x. walk_fault top [] x ws ≡ []) on2 next_.1) (subst (λ x. settle_fault top.rules false (after x ws).held ≡ []) on2 whole) in
          let back = subst (λ x. Took (has n v h) (after x ws).held ws) (sym on2) rest in
          take_alone w n v ws h (after (at h idle) (w ∷ v ∷ ws)).held spelled (plain_is v clean.1.0 no_long) a.0 a.1 fine (subst (λ x. Took (has n v h) (after x (v ∷ ws)).held ws) (sym on) back))
      | inr none ↦ absurd (unknown_fault w n None h idle (dash_of w clean.0) long none parts.0)
    ]

-- an option with no word after it
goes_wanting : (w n : Text) (h : Held) → AreClean (w ∷ []) → long_of w ≡ Some (n, None)
    → walk_fault top [] (at h idle) (w ∷ []) ≡ [] → settle_fault top.rules false (after (at h idle) (w ∷ [])).held ≡ [] → ⊥
unfolding walk_fault
goes_wanting w n h clean long walks ends =
    let parts = or_else_nil (turn_fault top [] (at h idle) w) [] walks in
    elim (named n) [
      | inl a ↦ want n h a.1 (subst (λ (x : Walk). settle_fault top.rules false x.held ≡ []) (alone_walk w n h (dash_of w clean.0) long a.0) ends)
      | inr none ↦ unknown_fault w n None h idle (dash_of w clean.0) long none parts.0
    ]

goes_stray : (w : Text) (ws : List Text) (h : Held) → AreClean (w ∷ ws) → long_of w ≡ None → walk_fault top [] (at h idle) (w ∷ ws) ≡ [] → ⊥
unfolding walk_fault
goes_stray w ws h clean long walks =
    stray_fault w h (dash_of w clean.0) long (short_is w clean.0) (or_else_nil (turn_fault top [] (at h idle) w) (walk_fault top [] (walked top.rules [] (at h idle) w) ws) walks).0

pub sound : (ws : List Text) → Goes ws
sound [] h clean walks ends = record { given = []; reads = refl; settles = ends; fine = tt; rows = refl }
sound (w ∷ []) h clean walks ends = elim (word_is w) [
  | joined n v long spelled ↦ goes_joined w n v [] h clean long spelled (sound []) walks ends
  | alone n long spelled ↦ absurd (goes_wanting w n h clean long walks ends)
  | other long ↦ absurd (goes_stray w [] h clean long walks)
]
sound (w ∷ v ∷ ws) h clean walks ends = elim (word_is w) [
  | joined n u long spelled ↦ goes_joined w n u (v ∷ ws) h clean long spelled (sound (v ∷ ws)) walks ends
  | alone n long spelled ↦ goes_alone w n v ws h clean long spelled (sound ws) walks ends
  | other long ↦ absurd (goes_stray w (v ∷ ws) h clean long walks)
]
