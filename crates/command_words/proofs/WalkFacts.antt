-- What the walk of `clap` makes of one word.
use Rattle.std.proofs.Common.{◌≡◌, true, false, List, [], ◌∷◌, Option, Some, None, refl, map, codes}
use Rattle.std.specs.Str.{bytes_eq}
use Rattle.clap.specs.Words.{Kinds, Rule, Text, built}
use Rattle.clap.specs.Lexer.{long_of, short_of}
use Rattle.clap.specs.Kinds.{or_else}
use Rattle.clap.specs.Walk.{Held, Walk, Waiting, idle, option, walked, settled, reacted, arg_by_long, arg_by_id}
use Rattle.clap.specs.Faults.{turn_fault, settle_fault, react_fault}
use Rattle.clap.specs.Simple.{Shape, filled, with_index}
use Rattle.clap.proofs.OnLiterals.{clap_on_literals}
use Rattle.command_words.specs.Options.{Given}
use Rattle.command_words.specs.Parsing.{option_rule, options_app}

-- an option as `clap` fills it in
abbrev pub opt : Text → Rule
opt name = with_index 1 (filled (option_rule name))

abbrev pub top : Shape
top = (built options_app).top

abbrev pub names : List Text
names = codes "listen" ∷ codes "workers" ∷ codes "turns" ∷ codes "db" ∷ []

pub rules_are : top.rules ≡ map opt names
unfolding clap_on_literals
rules_are = refl

-- where the walk stands
abbrev pub at : Held → Waiting → Walk
at h waiting = record { held = h; waiting = waiting; position = 1; is_trailing = false; stopped = None }

pub or_else_nil : (a b : Kinds) → or_else a b ≡ [] → (a ≡ []) × (b ≡ [])
or_else_nil [] b e = (refl, e)
or_else_nil (k ∷ ks) b e = cc e

-- `--name=value`
pub joined_fault : (w n v : Text) (h : Held) → bytes_eq w (45 ∷ 45 ∷ []) ≡ false → long_of w ≡ Some (n, Some v) → arg_by_long top.rules n ≡ Some (opt n)
    → turn_fault top [] (at h idle) w ≡ or_else (react_fault top.rules false (opt n) (v ∷ []) h) []
unfolding walked
joined_fault w n v h dash long arg = rw (dash, long, arg) refl

pub joined_walk : (w n v : Text) (h : Held) → bytes_eq w (45 ∷ 45 ∷ []) ≡ false → long_of w ≡ Some (n, Some v) → arg_by_long top.rules n ≡ Some (opt n)
    → walked top.rules [] (at h idle) w ≡ at (reacted top.rules (opt n) (v ∷ []) h) idle
unfolding walked
joined_walk w n v h dash long arg = rw (dash, long, arg) refl

-- `--name`
pub alone_fault : (w n : Text) (h : Held) → bytes_eq w (45 ∷ 45 ∷ []) ≡ false → long_of w ≡ Some (n, None) → arg_by_long top.rules n ≡ Some (opt n)
    → turn_fault top [] (at h idle) w ≡ or_else (settle_fault top.rules false h) []
unfolding walked
alone_fault w n h dash long arg = rw (dash, long, arg) refl

pub alone_walk : (w n : Text) (h : Held) → bytes_eq w (45 ∷ 45 ∷ []) ≡ false → long_of w ≡ Some (n, None) → arg_by_long top.rules n ≡ Some (opt n)
    → walked top.rules [] (at h idle) w ≡ at (record (settled top.rules h) { pending = Some (n, []) }) (option n)
unfolding walked
alone_walk w n h dash long arg = rw (dash, long, arg) refl

-- a name that no option has
pub unknown_fault : (w n : Text) (v : Option Text) (h : Held) (waiting : Waiting) → bytes_eq w (45 ∷ 45 ∷ []) ≡ false → long_of w ≡ Some (n, v) → arg_by_long top.rules n ≡ None
    → turn_fault top [] (at h idle) w ≡ [] → ⊥
unfolding walked
unknown_fault w n v h waiting dash long arg = rw (dash, long, arg) (λ e. cc e)

-- a word that is no option, where none waits for a value
pub stray_fault : (w : Text) (h : Held) → bytes_eq w (45 ∷ 45 ∷ []) ≡ false → long_of w ≡ None → short_of w ≡ None → turn_fault top [] (at h idle) w ≡ [] → ⊥
unfolding walked
stray_fault w h dash long short = rw (dash, long, short) (λ e. cc e)

-- the value of an option that waits for it
pub value_fault : (w n : Text) (h : Held) → bytes_eq w (45 ∷ 45 ∷ []) ≡ false → long_of w ≡ None → short_of w ≡ None → turn_fault top [] (at h (option n)) w ≡ []
unfolding walked
value_fault w n h dash long short = rw (dash, long, short) refl

pub value_walk : (w n : Text) (h : Held) → bytes_eq w (45 ∷ 45 ∷ []) ≡ false → long_of w ≡ None → short_of w ≡ None → arg_by_id top.rules n ≡ Some (opt n) → h.pending ≡ Some (n, []) → bytes_eq n n ≡ true
    → walked top.rules [] (at h (option n)) w ≡ at (record h { pending = Some (n, w ∷ []) }) idle
unfolding walked
value_walk w n h dash long short arg pending same = rw (dash, long, short, arg, pending, same) refl

-- an option with this name and value
abbrev pub given_as : Text → Text → Given
given_as n v = record { name = n; value = v }
