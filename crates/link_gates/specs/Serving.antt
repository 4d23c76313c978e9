-- What a worker does.
use Rattle.std.specs.Prelude.{ℕ, ◌≡◌, List, [], ◌∷◌, length, Option}
use Rattle.oe_http.specs.Session.{HasCauses}
use Rattle.oe_http.specs.declared.session.Ended.{Ended}
use Rattle.http_session.specs.Machine.{Step}
use Rattle.http_session.specs.Endings.{CarriesOut, EndsSo}
use Rattle.link_gates.specs.Ports.{ahead, behind}

-- a session of HTTP was had on a link and ended so: the bytes that it wrote, the requests that it carried out, and why it ended
pub record SessionOf {St : Type 0} (step : Step St) (ended : Ended) (before after : St) (left_old left_new held_old held_new : Option (List ℕ)) (read_old read_new write_old write_new : ℕ) : Type 0 where
  pub ends : EndsSo step ended before after left_old held_old held_new
  pub carried : CarriesOut step before after left_old
  pub causes : HasCauses ended left_old left_new read_old read_new write_old write_new

-- what a session does: the state before, the link before, how it ended, the state after, the link after
abbrev pub Meets : Type 0 → Type 0 → Type 1
Meets St Link = St → Link → Ended → St → Link → Type 0

-- sessions on these links, one after another, with each link as it then is and how its session ended
abbrev pub Serves : {St Link : Type 0} → Meets St Link → St → List Link → List (Link × Ended) → St → Type 0
Serves meets s [] [] t = s ≡ t
Serves meets s [] (b ∷ bs) t = ⊥
Serves meets s (x ∷ xs) [] t = ⊥
Serves {St} meets s (x ∷ xs) (b ∷ bs) t = (mid : St) × meets s x b.1 mid b.0 × Serves meets mid xs bs t

-- a worker took the first links of a port, and gave each back, in order
pub record WorksOff {St Link : Type 0} (meets : Meets St Link) (before after : St) (left_old left_new : Option (List Link)) (given_old given_new : Option (List (Link × Ended))) (served : ℕ) : Type 0 where
  pub took : List Link
  pub back : List (Link × Ended)
  pub takes : left_old ≡ ahead took left_new
  pub gives : given_new ≡ behind given_old back
  pub serves : Serves meets before took back after
  pub counted : served ≡ length took
