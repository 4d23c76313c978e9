-- What an amendment of the register leads to.
use Rattle.std.proofs.Common.{◌≡◌, sym, ap, ◌∙◌, List, ℕ}
use Rattle.std.specs.Option.{option_map}
use Rattle.std.specs.Arc.{arc_value}
use Rattle.airfields.specs.declared.airfield.Airfield.{Airfield}
use Rattle.airport_register.specs.Amendments.{airfield_at, list_with_replaced}
use Rattle.airport_register.specs.Changes.{IsChange}
use Rattle.airport_register.specs.Registers.{IsRegister}
use Rattle.airport_register.specs.declared.amendment.Changed.{Changed}
use Rattle.airport_register.proofs.Fields.{found_held}
use Rattle.review_marks.specs.Shares.{AreHeld, change_of}
use Rattle.review_marks.specs.Turns.{Leads}

pub held_change : (before after : List Airfield) (id : List ℕ) (c : Changed) → IsRegister before → IsRegister after → IsChange before after id c → AreHeld (change_of c)
held_change before after id c b a is = record { was_held = λ f e. found_held id f before b (sym is.was ∙ e); is_held = λ f e. found_held id f after a (sym is.is_now ∙ e) }

pub leads_to : (before after : List Airfield) (id : List ℕ) (c : Changed) → IsRegister before → IsChange before after id c → after ≡ list_with_replaced id (option_map arc_value c.after) before → Leads before after (change_of c)
leads_to before after id c b is put =
    record {
      rises = b.rises;
      was_there = is.was ∙ ap (λ (k : List ℕ). airfield_at before k) (sym is.named);
      is_there = is.is_now ∙ ap (λ (k : List ℕ). airfield_at after k) (sym is.named);
      put = put ∙ ap (λ (k : List ℕ). list_with_replaced k (option_map arc_value c.after) before) (sym is.named);
    }
