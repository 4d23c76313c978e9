-- Words are one command at most.
use Rattle.std.proofs.Common.{ℕ, List, [], ◌∷◌, ◌≡◌, ◌∙◌, sym, ap, arith, get_or, drop, Option, Some, None, inl, inr, refl, subst, codes}
use Rattle.std.specs.Prelude.{IfNone, IfSome}
use Rattle.std.specs.Fmt.{decimal}
use Rattle.std.proofs.lemmas.Fmt.{decimal_injective}
use Rattle.std.proofs.lemmas.Option.{same_Some}
use Rattle.command_words.specs.Options.{SpellOptions, Values}
use Rattle.command_words.specs.Commands.{AskFor, AsksToServe, IsCommand, IsFile, IsGenerate, IsServing, file_alone, values_to_serve, word_of}
use Rattle.command_words.specs.declared.commands.Command.{Command}
use Rattle.command_words.specs.declared.commands.Service.{Service}
use Rattle.command_words.specs.declared.commands.Service.TheVariants as services
use Rattle.command_words.proofs.RowFacts.{from_words}

-- words are options with one set of values
pub one_values : (words : List (List ℕ)) (v w : Values) → SpellOptions words v → SpellOptions words w → v ≡ w
one_values words v w s t = same_Some v w (from_words words v s ∙ sym (from_words words w t))

-- the same of the words after the first
rest_values : (word : List ℕ) (words : List (List ℕ)) (other : List ℕ) (rest : List (List ℕ)) (v w : Values) → word ∷ words ≡ other ∷ rest
    → SpellOptions words v → SpellOptions rest w → v ≡ w
rest_values word words other rest v w e s t = one_values words v w s (subst (λ (ws : List (List ℕ)). SpellOptions ws w) (sym (ap (drop 1) e)) t)

first : (word : List ℕ) (words : List (List ℕ)) (other : List ℕ) (rest : List (List ℕ)) → word ∷ words ≡ other ∷ rest → word ≡ other
first word words other rest e = ap (λ ws. get_or ws 0 []) e

-- ---- the first words

pub tells_service : (s t : Service) → word_of s ≡ word_of t → s ≡ t
tells_service services.Desk services.Desk e = refl
tells_service services.Desk services.Ceiling e = absurd (cc (e))
tells_service services.Desk services.Stations e = absurd (cc (e))
tells_service services.Desk services.AsOf e = absurd (omega (arith, ap (λ word. get_or word 0 0) e))
tells_service services.Ceiling services.Desk e = absurd (cc (e))
tells_service services.Ceiling services.Ceiling e = refl
tells_service services.Ceiling services.Stations e = absurd (cc (e))
tells_service services.Ceiling services.AsOf e = absurd (omega (arith, ap (λ word. get_or word 0 0) e))
tells_service services.Stations services.Desk e = absurd (cc (e))
tells_service services.Stations services.Ceiling e = absurd (cc (e))
tells_service services.Stations services.Stations e = refl
tells_service services.Stations services.AsOf e = absurd (omega (arith, ap (λ word. get_or word 0 0) e))
tells_service services.AsOf services.Desk e = absurd (omega (arith, ap (λ word. get_or word 0 0) e))
tells_service services.AsOf services.Ceiling e = absurd (omega (arith, ap (λ word. get_or word 0 0) e))
tells_service services.AsOf services.Stations e = absurd (omega (arith, ap (λ word. get_or word 0 0) e))
tells_service services.AsOf services.AsOf e = refl

pub no_draws : (s : Service) → word_of s ≡ codes "generate" → ⊥
no_draws services.Desk e = cc e
no_draws services.Ceiling e = cc e
no_draws services.Stations e = omega (arith, ap (λ word. get_or word 0 0) e)
no_draws services.AsOf e = omega (arith, ap (λ word. get_or word 0 0) e)

pub no_serve : (s : Service) → word_of s ≡ codes "serve" → ⊥
no_serve services.Desk e = omega (arith, ap (λ word. get_or word 0 0) e)
no_serve services.Ceiling e = omega (arith, ap (λ word. get_or word 0 0) e)
no_serve services.Stations e = omega (arith, ap (λ word. get_or word 1 0) e)
no_serve services.AsOf e = omega (arith, ap (λ word. get_or word 0 0) e)

pub serve_or_generate : codes "serve" ≡ codes "generate" → ⊥
serve_or_generate e = omega (arith, ap (λ word. get_or word 0 0) e)

-- ---- two commands of the same words

-- the first word tells a service from draws
pub service_or_draws : (s : Service) (words : List (List ℕ)) (path : Option (List ℕ)) (seed count : ℕ) → AskFor s words path → IsGenerate words seed count → ⊥
service_or_draws s words path seed count d g = no_draws s (first (word_of s) d.rest (codes "generate") (decimal seed ∷ decimal count ∷ []) (sym d.said ∙ g.said))

-- it tells a service from workers
pub service_or_workers : (s : Service) (words : List (List ℕ)) (path : Option (List ℕ)) (address : List ℕ) (workers turns : ℕ) (file : Option (List ℕ))
    → AskFor s words path → AsksToServe words address workers turns file → ⊥
service_or_workers s words path address workers turns file d w = no_serve s (first (word_of s) d.rest (codes "serve") w.rest (sym d.said ∙ w.said))

-- it tells workers from draws
pub workers_or_draws : (words : List (List ℕ)) (address : List ℕ) (workers turns : ℕ) (path : Option (List ℕ)) (seed count : ℕ)
    → AsksToServe words address workers turns path → IsGenerate words seed count → ⊥
workers_or_draws words address workers turns path seed count w g =
    serve_or_generate (first (codes "serve") w.rest (codes "generate") (decimal seed ∷ decimal count ∷ []) (sym w.said ∙ g.said))

pub one_service : (words : List (List ℕ)) (s t : Service) (p q : Option (List ℕ)) → AskFor s words p → AskFor t words q → (s ≡ t) × (p ≡ q)
one_service words s t p q d e =
    let same = sym d.said ∙ e.said in (
      tells_service s t (first (word_of s) d.rest (word_of t) e.rest same),
      ap (λ (v : Values). v.db) (rest_values (word_of s) d.rest (word_of t) e.rest (file_alone p) (file_alone q) same d.options e.options),
    )

-- what is so of the service and the path that words ask for is so of any that they ask for
pub of_asked : (P : Service → Option (List ℕ) → Type 0) (words : List (List ℕ)) (s t : Service) (p q : Option (List ℕ)) → AskFor s words p → AskFor t words q → P s p → P t q
of_asked P words s t p q d e h =
    let one = one_service words s t p q d e in
    subst (λ path. P t path) one.1 (subst (λ service. P service p) one.0 h)

pub one_serving : (words : List (List ℕ)) (a b : List ℕ) (n i m j : ℕ) (p q : Option (List ℕ)) → AsksToServe words a n m p → AsksToServe words b i j q
    → (a ≡ b) × (n ≡ i) × (m ≡ j) × (p ≡ q)
one_serving words a b n i m j p q d e =
    let same = sym d.said ∙ e.said in
    let one = rest_values (codes "serve") d.rest (codes "serve") e.rest (values_to_serve a n m p) (values_to_serve b i j q) same d.options e.options in
    let x = d.limits in
    let y = e.limits in (
      same_Some a b (ap (λ (v : Values). v.listen) one),
      decimal_injective n i (omega (arith, x.workers_most)) (omega (arith, y.workers_most)) (same_Some (decimal n) (decimal i) (ap (λ (v : Values). v.workers) one)),
      decimal_injective m j (omega (arith, x.turns_most)) (omega (arith, y.turns_most)) (same_Some (decimal m) (decimal j) (ap (λ (v : Values). v.turns) one)),
      ap (λ (v : Values). v.db) one,
    )

pub one_draw : (words : List (List ℕ)) (s c seed count : ℕ) → IsGenerate words s c → IsGenerate words seed count → (s ≡ seed) × (c ≡ count)
one_draw words s c seed count g h =
    let same = sym g.said ∙ h.said in (
      decimal_injective s seed (omega (arith, g.seed_most)) (omega (arith, h.seed_most)) (ap (λ ws. get_or ws 1 []) same),
      decimal_injective c count (omega (arith, g.count_most)) (omega (arith, h.count_most)) (ap (λ ws. get_or ws 2 []) same),
    )

-- ---- words that are no command

-- the words after that of a service
pub no_answer : (s : Service) (rest : List (List ℕ)) → ((path : Option (List ℕ)) → SpellOptions rest (file_alone path) → IfSome path IsFile → ⊥) → IsCommand (word_of s ∷ rest) → ⊥
no_answer s rest none (inl (t, path, d)) =
    none path (subst (λ (ws : List (List ℕ)). SpellOptions ws (file_alone path)) (sym (ap (drop 1) d.said)) d.options) d.file
no_answer s rest none (inr (inl (address, workers, turns, path, w))) = no_serve s (first (word_of s) rest (codes "serve") w.rest w.said)
no_answer s rest none (inr (inr (seed, count, g))) = no_draws s (first (word_of s) rest (codes "generate") (decimal seed ∷ decimal count ∷ []) g.said)

-- the words after `serve`
pub no_serving : (rest : List (List ℕ)) → ((address : List ℕ) (workers turns : ℕ) (path : Option (List ℕ)) → SpellOptions rest (values_to_serve address workers turns path)
    → IsServing address workers turns path → ⊥) → IsCommand (codes "serve" ∷ rest) → ⊥
no_serving rest none (inl (s, path, d)) = no_serve s (sym (first (codes "serve") rest (word_of s) d.rest d.said))
no_serving rest none (inr (inl (address, workers, turns, path, w))) =
    none address workers turns path (subst (λ (ws : List (List ℕ)). SpellOptions ws (values_to_serve address workers turns path)) (sym (ap (drop 1) w.said)) w.options) w.limits
no_serving rest none (inr (inr (seed, count, g))) = serve_or_generate (first (codes "serve") rest (codes "generate") (decimal seed ∷ decimal count ∷ []) g.said)

-- the options after the word of a service are not those of a service
pub no_answer_with : (s : Service) (rest : List (List ℕ)) (o : Option Command) (v : Values) → SpellOptions rest v
    → IfNone o ((path : Option (List ℕ)) → v ≡ file_alone path → IfSome path IsFile → ⊥) → IfNone o (IsCommand (word_of s ∷ rest) → ⊥)
no_answer_with s rest None v spelled none = no_answer s rest (λ path same. none path (one_values rest v (file_alone path) spelled same))
no_answer_with s rest (Some c) v spelled none = tt

-- the options after `serve` are not those of it
pub no_serving_with : (rest : List (List ℕ)) (o : Option Command) (v : Values) → SpellOptions rest v
    → IfNone o ((address : List ℕ) (workers turns : ℕ) (path : Option (List ℕ)) → v ≡ values_to_serve address workers turns path → IsServing address workers turns path → ⊥)
    → IfNone o (IsCommand (codes "serve" ∷ rest) → ⊥)
no_serving_with rest None v spelled none =
    no_serving rest (λ address workers turns path same. none address workers turns path (one_values rest v (values_to_serve address workers turns path) spelled same))
no_serving_with rest (Some c) v spelled none = tt
