-- Replies of the desk to lines.
use Rattle.std.proofs.Common.{◌≡◌, ◌<◌, ◌≤◌, refl, sym, ap, subst, arith, ℕ, List, [], ◌∷◌, ◌++◌, length, Bool, true, false, IfSome}
use Rattle.airfields.specs.declared.airfield.Airfield.{Airfield}
use Rattle.desk_machine.specs.States.{State, last_number}
use Rattle.grid_exact.specs.declared.text.TheConstants.{LINE_LIMIT}
use Rattle.oe_keeper.specs.Kept.{Kept}
use Rattle.desk_receipts.specs.Handed.{Told as ToldRows}
use Rattle.line_desk.specs.Desk.{Answers, Serving, Step}
use Rattle.line_desk.proofs.StepFacts.{after_wanting, blank, refused_long}
use Rattle.oe_asof.specs.Lines.{Long, asks}
use Rattle.oe_asof.specs.Replies.{IsToldOf, malformed_text, no_memory_text}
use Rattle.oe_asof.specs.Sessions.{DatedOver, DatedStep, Dating}
use Rattle.oe_asof.specs.Versions.{Version, latest, version, with_version}
use Rattle.oe_asof.specs.Histories.{Appended, HasAll, IsCurrent, IsToldBy, base_in, opening_in}
use Rattle.oe_asof.proofs.CurrentFacts.{goes_on, in_order}
use Rattle.oe_asof.proofs.MoveFacts.{moved}
use Rattle.oe_asof.proofs.ThenFacts.{told_then}

-- ---- lines that are too long

long_by : {K : Type 0} (Tells : K → Kept → Type 0) (IsSteady : K → Type 0) (faults : K → ℕ) (d : Dating (Serving K)) (line : List ℕ) (b : Bool) → asks line ≡ b → LINE_LIMIT < length line
    → ToldRows Tells d.serving.keeper d.serving.state → DatedOver Tells IsSteady faults d line (malformed_text 0) d
long_by Tells IsSteady faults d line true is long rows = DatedStep.Told is (IsToldOf.Refused 0 (Long long refl) refl) refl
long_by Tells IsSteady faults d line false is long rows = DatedStep.Served is (record { step = refused_long IsSteady faults d.serving line long; told = rows }) refl refl

-- a line that is too long is refused, whatever it asks
pub long_refused : {K : Type 0} (Tells : K → Kept → Type 0) (IsSteady : K → Type 0) (faults : K → ℕ) (d : Dating (Serving K)) (line : List ℕ) → LINE_LIMIT < length line
    → ToldRows Tells d.serving.keeper d.serving.state → DatedOver Tells IsSteady faults d line (malformed_text 0) d
long_refused Tells IsSteady faults d line long rows = long_by Tells IsSteady faults d line (asks line) refl long rows

-- ---- the versions of the desk's history

pub some_version : (vs : List Version) (s : State) → HasAll vs s → 0 < length vs
some_version vs s all = rw all.versions_are (omega arith)

-- the opening is that of the versions
pub all_again : (base : ℕ) (opening : List Airfield) (s : State) (vs : List Version) → IsCurrent base opening s vs → HasAll vs s
all_again base opening s vs c =
    let b : base ≡ base_in vs = sym (ap base_in c.versions_are) in
    let o : opening ≡ opening_in vs = sym (ap opening_in c.versions_are) in
    subst (λ (r : List Airfield). IsCurrent (base_in vs) r s vs) o (subst (λ (k : ℕ). IsCurrent k opening s vs) b c)

module _ {K : Type 0} (Tells : K → Kept → Type 0) (IsSteady : K → Type 0) (faults : K → ℕ) where
  pub order_kept : (vs : List Version) (k l : Serving K) (line old new : List ℕ) → HasAll vs k.state → Answers IsSteady faults k line old new l
      → IfSome (latest vs) (λ (v : Version). v.number ≤ last_number l.state)
  order_kept vs k l line old new all a = in_order (base_in vs) (opening_in vs) k.state vs all l.state (moved IsSteady faults k l line a.reply a.step)

  pub all_kept : (vs ws : List Version) (k l : Serving K) (line old new : List ℕ) → HasAll vs k.state → Answers IsSteady faults k line old new l
      → ws ≡ with_version vs (version (last_number l.state) l.state.register) → IsCurrent (base_in vs) (opening_in vs) l.state ws
  all_kept vs ws k l line old new all a e =
      subst (λ (us : List Version). IsCurrent (base_in vs) (opening_in vs) l.state us) (sym e)
      (goes_on (base_in vs) (opening_in vs) k.state vs all l.state (moved IsSteady faults k l line a.reply a.step))

  -- ---- the steps of the desk

  abbrev pub dating : List Version → Serving K → Dating (Serving K)
  dating vs k = record { serving = k; base = base_in vs; opening = opening_in vs }

  -- a step of the desk, whose text was appended
  abbrev pub Steps : Dating (Serving K) → List ℕ → List ℕ → List ℕ → Dating (Serving K) → Type 0
  Steps d line old new e = (reply : List ℕ) × DatedOver Tells IsSteady faults d line reply e × (new ≡ old ++ reply)

  pub told_step : (vs : List Version) (k : Serving K) (d : Dating (Serving K)) (line old new : List ℕ) → dating vs k ≡ d → HasAll vs k.state → asks line ≡ true
      → Appended (IsToldBy vs line) old new → Steps d line old new (dating vs k)
  told_step vs k d line old new at all is a =
      let told = told_then (base_in vs) (opening_in vs) k.state vs all line a.reply a.is in
      (a.reply, subst (λ (x : Dating (Serving K)). DatedOver Tells IsSteady faults x line a.reply (dating vs k)) at (DatedStep.Told is told refl), a.appended)

  pub served_step : (vs ws : List Version) (k l : Serving K) (d : Dating (Serving K)) (line old new : List ℕ) → dating vs k ≡ d → asks line ≡ false
      → IsCurrent (base_in vs) (opening_in vs) l.state ws → ToldRows Tells l.keeper l.state → Answers IsSteady faults k line old new l → Steps d line old new (dating ws l)
  served_step vs ws k l d line old new at is c rows a = (
    a.reply,
    subst (λ (x : Dating (Serving K)). DatedOver Tells IsSteady faults x line a.reply (dating ws l)) at
        (DatedStep.Served is (record { step = a.step; told = rows }) (ap base_in c.versions_are) (ap opening_in c.versions_are)),
    a.appended,
  )

  -- ---- where the text of the reply may not be there whole

  -- a line that asks, whose reply changes nothing
  pub told_anyhow : (vs : List Version) (k : Serving K) (d : Dating (Serving K)) (line : List ℕ) → dating vs k ≡ d → asks line ≡ true
      → (reply : List ℕ) × DatedOver Tells IsSteady faults d line reply (dating vs k)
  told_anyhow vs k d line at is =
      (no_memory_text, subst (λ (x : Dating (Serving K)). DatedOver Tells IsSteady faults x line no_memory_text (dating vs k)) at (DatedStep.Told is (IsToldOf.Wanting refl) refl))

  pub served_anyhow : (vs ws : List Version) (k l : Serving K) (d : Dating (Serving K)) (line : List ℕ) → dating vs k ≡ d → asks line ≡ false → ws ≡ vs → ToldRows Tells l.keeper l.state
      → ((reply : List ℕ) × Step IsSteady faults k line reply l) → (reply : List ℕ) × DatedOver Tells IsSteady faults d line reply (dating ws l)
  served_anyhow vs ws k l d line at is same rows (reply, step) = (
    reply,
    subst (λ (x : Dating (Serving K)). DatedOver Tells IsSteady faults x line reply (dating ws l)) at
        (DatedStep.Served is (record { step = step; told = rows }) (ap base_in same) (ap opening_in same)),
  )

  -- no memory for any line
  wanting_step : (s : Serving K) (line : List ℕ) → (reply : List ℕ) × Step IsSteady faults s line reply s
  wanting_step s [] = let a = blank IsSteady faults s [] [] refl in (a.reply, a.step)
  wanting_step s (b ∷ bs) = after_wanting IsSteady faults s (b ∷ bs) (omega arith)

  wanting_by : (vs : List Version) (k : Serving K) (d : Dating (Serving K)) (line : List ℕ) (b : Bool) → dating vs k ≡ d → asks line ≡ b → ToldRows Tells k.keeper k.state
      → (reply : List ℕ) × DatedOver Tells IsSteady faults d line reply (dating vs k)
  wanting_by vs k d line true at is rows = told_anyhow vs k d line at is
  wanting_by vs k d line false at is rows = served_anyhow vs vs k k d line at is refl rows (wanting_step k line)

  pub wanting_anyhow : (vs : List Version) (k : Serving K) (d : Dating (Serving K)) (line : List ℕ) → dating vs k ≡ d → ToldRows Tells k.keeper k.state
      → (reply : List ℕ) × DatedOver Tells IsSteady faults d line reply (dating vs k)
  wanting_anyhow vs k d line at rows = wanting_by vs k d line (asks line) at refl rows
