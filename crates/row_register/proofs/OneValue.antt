-- No key and row are the texts of two values.
use Rattle.std.proofs.Common.{ℕ, ◌≡◌, ℤ, List, Bool, refl, ap, sym, drop, ◌∙◌}
use Rattle.grid_exact.specs.declared.point.Point.{Point}
use Rattle.airfields.specs.declared.category.Category.{Category}
use Rattle.airfields.specs.declared.runway.Runway.{Runway}
use Rattle.airfields.specs.declared.runway.RunwayEnd.{RunwayEnd}
use Rattle.airfields.specs.declared.airfield.Airport.{Airport}
use Rattle.airfields.specs.declared.airfield.Heliport.{Heliport}
use Rattle.airfields.specs.declared.airfield.Airfield.{Airfield}
use Rattle.airfields.specs.declared.airfield.Airfield.TheVariants as airfields
use Rattle.determination_dates.proofs.Texts.{one_date}
use Rattle.wire_values.specs.Words.{weight_word, pavement_word}
use Rattle.wire_values.proofs.Named.{one_category, one_choice, one_number}
use Rattle.wire_cursor.proofs.GroupFacts.{at, one_point, one_end}
use Rattle.row_register.specs.Airfields.{airfield_fields, IsAirfieldRow}
use Rattle.row_register.specs.Desk.{IsDeskRow}
use Rattle.row_register.specs.Runways.{IsRunwayRow}
use Rattle.row_register.specs.declared.desk.DeskRow.{DeskRow}
use Rattle.row_register.specs.declared.desk.DeskRow.TheVariants as rows
use Rattle.row_register.specs.declared.runway.RunwayRow.{RunwayRow}
use Rattle.row_register.proofs.AirfieldFacts.{airfield_parts}
use Rattle.row_register.proofs.RunwayFacts.{key_parts, runway_parts}

-- ---- the desk's days

pub one_desk : (key row : List ℕ) (a b : DeskRow) → IsDeskRow key row a → IsDeskRow key row b → a ≡ b
one_desk key row rows.Format rows.Format h k = refl
one_desk key row (rows.Now d) (rows.Now e) h k = ap (λ x. rows.Now x) (one_date d e h.valid k.valid (sym h.row_is ∙ k.row_is))
one_desk key row (rows.Closed d) (rows.Closed e) h k = ap (λ x. rows.Closed x) (one_date d e h.valid k.valid (ap (drop 7) (sym h.key_is ∙ k.key_is)))
one_desk key row rows.Format (rows.Now e) h k = let same = sym h.key_is ∙ k.key_is in absurd (cc)
one_desk key row rows.Format (rows.Closed e) h k = let same = sym h.key_is ∙ k.key_is in absurd (cc)
one_desk key row (rows.Now d) rows.Format h k = let same = sym h.key_is ∙ k.key_is in absurd (cc)
one_desk key row (rows.Now d) (rows.Closed e) h k = let same = sym h.key_is ∙ k.key_is in absurd (cc)
one_desk key row (rows.Closed d) rows.Format h k = let same = sym h.key_is ∙ k.key_is in absurd (cc)
one_desk key row (rows.Closed d) (rows.Now e) h k = let same = sym h.key_is ∙ k.key_is in absurd (cc)

-- ---- airfields

made_airport : List ℕ → Category → Point → ℤ → List Runway → Airport
made_airport id category arp elevation runways = record { id = id; category = category; arp = arp; elevation = elevation; runways = runways }

same_airport : (a b : Airport) → a.id ≡ b.id → a.category ≡ b.category → a.arp ≡ b.arp → a.elevation ≡ b.elevation → a.runways ≡ b.runways
    → made_airport a.id a.category a.arp a.elevation a.runways ≡ made_airport b.id b.category b.arp b.elevation b.runways
same_airport a b i c p z r = cc

made_heliport : List ℕ → Category → Point → Point → ℤ → ℤ → Heliport
made_heliport id category a b width elevation = record { id = id; category = category; a = a; b = b; width = width; elevation = elevation }

same_heliport : (g h : Heliport) → g.id ≡ h.id → g.category ≡ h.category → g.a ≡ h.a → g.b ≡ h.b → g.width ≡ h.width → g.elevation ≡ h.elevation
    → made_heliport g.id g.category g.a g.b g.width g.elevation ≡ made_heliport h.id h.category h.a h.b h.width h.elevation
same_heliport g h i c a b w z = cc

one_of_fields : (key row : List ℕ) (a b : Airfield) → IsAirfieldRow key row a → IsAirfieldRow key row b → airfield_fields a ≡ airfield_fields b → a ≡ b
unfolding made_airport made_heliport
one_of_fields key row (airfields.Airport a) (airfields.Airport b) h k e =
    let same : a ≡ b = same_airport a b (sym h.key_is ∙ k.key_is) (one_category a.category b.category (at 1 e)) (one_point a.arp b.arp (at 2 e) (at 3 e))
    (one_number a.elevation b.elevation h.plain.0 k.plain.0 (at 4 e)) (h.plain.1 ∙ sym k.plain.1) in
    ap (λ x. airfields.Airport x) same
one_of_fields key row (airfields.Heliport p) (airfields.Heliport q) h k e =
    let same : p ≡ q = same_heliport p q (sym h.key_is ∙ k.key_is) (one_category p.category q.category (at 1 e)) (one_point p.a q.a (at 2 e) (at 3 e)) (one_point p.b q.b (at 4 e) (at 5 e))
    (one_number p.width q.width h.plain.0 k.plain.0 (at 6 e)) (one_number p.elevation q.elevation h.plain.1 k.plain.1 (at 7 e)) in
    ap (λ x. airfields.Heliport x) same
one_of_fields key row (airfields.Airport a) (airfields.Heliport q) h k e = let words = at 0 e in absurd (cc)
one_of_fields key row (airfields.Heliport p) (airfields.Airport b) h k e = let words = at 0 e in absurd (cc)

pub one_airfield : (key row : List ℕ) (a b : Airfield) → IsAirfieldRow key row a → IsAirfieldRow key row b → a ≡ b
one_airfield key row a b h k = one_of_fields key row a b h k (sym (airfield_parts a h.plain row h.row_is) ∙ airfield_parts b k.plain row k.row_is)

-- ---- runways

made_runway : List ℕ → Bool → Bool → RunwayEnd → RunwayEnd → Runway
made_runway name utility hard end1 end2 = record { name = name; utility = utility; hard = hard; end1 = end1; end2 = end2 }

same_runway : (a b : Runway) → a.name ≡ b.name → a.utility ≡ b.utility → a.hard ≡ b.hard → a.end1 ≡ b.end1 → a.end2 ≡ b.end2
    → made_runway a.name a.utility a.hard a.end1 a.end2 ≡ made_runway b.name b.utility b.hard b.end1 b.end2
same_runway a b n u h e f = cc

made_row : List ℕ → Runway → RunwayRow
made_row id runway = record { id = id; runway = runway }

pub one_runway : (key row : List ℕ) (a b : RunwayRow) → IsRunwayRow key row a → IsRunwayRow key row b → a ≡ b
unfolding made_runway made_row
one_runway key row a b h k =
    let keys = sym (key_parts key a.id a.runway.name h.airport_named h.runway_named h.key_is) ∙ key_parts key b.id b.runway.name k.airport_named k.runway_named k.key_is in
    let e = sym (runway_parts a.runway h.plain row h.row_is) ∙ runway_parts b.runway k.plain row k.row_is in
    let r = a.runway in
    let s = b.runway in
    let runways : r ≡ s = same_runway r s (at 1 keys) (one_choice weight_word refl refl r.utility s.utility (at 0 e)) (one_choice pavement_word refl refl r.hard s.hard (at 1 e))
    (one_end r.end1 s.end1 h.plain.0 k.plain.0 (at 2 e) (at 3 e) (at 4 e) (at 5 e)) (one_end r.end2 s.end2 h.plain.1 k.plain.1 (at 6 e) (at 7 e) (at 8 e) (at 9 e)) in
    ap (λ i. made_row i r) (at 0 keys) ∙ ap (made_row b.id) runways
