-- What was written of the line of a service.
use Rattle.std.proofs.Common.{ℕ, List, [], ◌≡◌, ◌∙◌, Option, Some, None, refl, sym, append-nil, subst}
use Rattle.std.specs.Prelude.{IfSome}
use Rattle.std.specs.Io.KnownBytes.{Appends}
use Rattle.oe_http.specs.Written.{Sent}
use Rattle.link_gates.specs.Teams.{served_of}
use Rattle.desk_service.specs.Services.{Serves, Tells, served_line}
use Rattle.desk_service.specs.declared.service.ServiceEnd.{ServiceEnd}
use Rattle.desk_service.specs.declared.service.ServiceEnd.TheVariants as ends

appends_nothing : (x : Option (List ℕ)) → Appends x x []
appends_nothing None = tt
appends_nothing (Some xs) = sym (append-nil xs)

all_sent : (x y : Option (List ℕ)) (text line : List ℕ) → text ≡ line → Sent x y text [] → Appends x y line
all_sent x y text line is h = subst (λ t. Appends x y t) (sym (h.split ∙ append-nil h.front) ∙ is) h.appends

pub line_done : (served : ℕ) (x y : Option (List ℕ)) (text : List ℕ) → text ≡ served_line served → Sent x y text [] → Tells served ends.Done x y
line_done served x y text is h = record {
  done = λ e. all_sent x y text (served_line served) is h;
  fault = λ e. cc;
  begun = ([], subst (λ t. Sent x y t []) is h);
  memory = λ e. cc;
}

pub line_fault : (served : ℕ) (x y : Option (List ℕ)) (text : List ℕ) → text ≡ served_line served → Sent x y text [] → Tells served ends.GateFault x y
line_fault served x y text is h = record {
  done = λ e. cc;
  fault = λ e. all_sent x y text (served_line served) is h;
  begun = ([], subst (λ t. Sent x y t []) is h);
  memory = λ e. cc;
}

pub line_cut : (served : ℕ) (x y : Option (List ℕ)) (text : List ℕ) → text ≡ served_line served → ((rest : List ℕ) × Sent x y text rest) → Tells served ends.WriteFault x y
line_cut served x y text is (rest, h) = record {
  done = λ e. cc;
  fault = λ e. cc;
  begun = (rest, subst (λ t. Sent x y t rest) is h);
  memory = λ e. cc;
}

pub none_written : (served : ℕ) (x : Option (List ℕ)) → Tells served ends.NoMemory x x
none_written served x = record {
  done = λ e. cc;
  fault = λ e. cc;
  begun = (served_line served, record { front = []; appends = appends_nothing x; split = refl });
  memory = λ e. appends_nothing x;
}

module _ {Link : Type 0} (workers turns : ℕ) (lists : Option (List (List Link))) where
  counted : (n : ℕ) (all : Option (List (List Link))) → ((some : List (List Link)) → all ≡ Some some → n ≡ served_of workers turns some) → IfSome all (λ some. n ≡ served_of workers turns some)
  counted n None f = tt
  counted n (Some some) f = f some refl

  -- the line of what workers did is told
  pub told : (served : ℕ) (end : ServiceEnd) (x y : Option (List ℕ)) → Tells served end x y
      → (end ≡ ends.Done → (all : List (List Link)) → lists ≡ Some all → served ≡ served_of workers turns all) → Serves workers turns lists end x y
  told served end x y t f = record {
    done = λ e. (served, counted served lists (f e), t.done e);
    fault = λ e. (served, t.fault e);
    begun = (served, t.begun.0, t.begun.1);
    memory = t.memory;
  }

  -- no worker started, for want of memory
  pub not_begun : (x : Option (List ℕ)) → Serves workers turns lists ends.NoMemory x x
  not_begun x = told 0 ends.NoMemory x x (none_written 0 x) (λ e. cc)
