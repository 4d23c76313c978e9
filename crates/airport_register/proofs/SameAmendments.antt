-- The derived test of two amendments says whether they are one.
use Rattle.std.proofs.Common.{◌≡◌, sym, ap, subst, true, true≢false}
use Rattle.std.specs.Bool.{Decides}
use Rattle.std.specs.Cmp.Lexicographic.{bytes_decides}
use Rattle.std.proofs.lemmas.Bool.Decides.{Decides-and, Decides-int_eq}
use Rattle.grid_exact.proofs.SamePoints.{same_point}
use Rattle.airfields.proofs.SameStructures.{same_category, same_heliport, same_name, same_runway}
use Rattle.airport_register.specs.contracts.amendment.AmendmentPartialEq.TheImpl.{eq-value as amendment_eq}
use Rattle.airport_register.specs.contracts.amendment.AmendmentEq.TheImpl.Laws as laws
use Rattle.airport_register.specs.declared.amendment.Amendment.{Amendment}
use Rattle.airport_register.specs.declared.amendment.Amendment.TheVariants.{PutAirport, PutRunway, DropRunway, PutHeliport, Drop}

one_amendment : (a b : Amendment) → amendment_eq.it a b ≡ true → a ≡ b
one_amendment (PutAirport i c p z) (PutAirport j d q w) h =
    let k = (Decides-and _ _ (same_name i j) (Decides-and _ _ (same_category c d) (Decides-and _ _ (same_point p q) (Decides-int_eq z w)))).0 h in
    λ t. PutAirport (k.0 t) (k.1.0 t) (k.1.1.0 t) (k.1.1.1 t)
one_amendment (PutRunway i r) (PutRunway j s) h =
    let k = (Decides-and _ _ (same_name i j) (same_runway r s)).0 h in
    λ t. PutRunway (k.0 t) (k.1 t)
one_amendment (DropRunway i n) (DropRunway j m) h =
    let k = (Decides-and _ _ (same_name i j) (bytes_decides n m)).0 h in
    λ t. DropRunway (k.0 t) (k.1 t)
one_amendment (PutHeliport a) (PutHeliport b) h = ap PutHeliport ((same_heliport a b).0 h)
one_amendment (Drop i) (Drop j) h = ap Drop ((same_name i j).0 h)
one_amendment a b h = absurd (true≢false (sym h))

pub same_amendment : (a b : Amendment) → Decides (amendment_eq.it a b) (a ≡ b)
same_amendment a b = (one_amendment a b, λ e. subst (λ b. amendment_eq.it a b ≡ true) e (laws.laws-law.refl a))
