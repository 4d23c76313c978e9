-- Changes whose accepted reply holds nothing but the name of the form.
use Rattle.std.specs.Prelude.{ℕ, List, codes}
use Rattle.wire_values.specs.declared.plain.Plain.{Plain}
use Rattle.wire_values.specs.declared.plain.Plain.TheVariants as plains

abbrev pub plain_word : Plain → List ℕ
plain_word plains.Airport = codes "airport"
plain_word plains.Runway = codes "runway"
plain_word plains.DropRunway = codes "droprunway"
plain_word plains.Heliport = codes "heliport"
plain_word plains.Drop = codes "drop"
plain_word plains.Day = codes "day"
plain_word plains.Closed = codes "closed"
