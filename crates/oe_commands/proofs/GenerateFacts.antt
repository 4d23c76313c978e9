-- What was written of a line.
use Rattle.std.proofs.Common.{ℕ, List, [], ◌++◌, ◌≡◌, ◌∙◌, Option, Some, None, refl, sym, ap, append-nil, subst, ◌≢◌, inl, inr}
use Rattle.std.specs.Io.KnownBytes.{Appends}
use Rattle.oe_http.specs.Written.{Sent}
use Rattle.oe_commands.specs.Generating.{GenerateWrites, IsGenerateEnd, generated_line}
use Rattle.oe_keeper.specs.declared.change.Table.{Table}
use Rattle.oe_commands.specs.Runs.{IsUntouched}
use Rattle.oe_commands.specs.declared.status.Status.{Status}
use Rattle.oe_commands.specs.declared.status.Status.TheVariants as statuses

pub appends_nothing : (x : Option (List ℕ)) → Appends x x []
appends_nothing None = tt
appends_nothing (Some xs) = sym (append-nil xs)

all_sent : (x y : Option (List ℕ)) (text : List ℕ) → Sent x y text [] → Appends x y text
all_sent x y text h = subst (λ t. Appends x y t) (sym (h.split ∙ append-nil h.front)) h.appends

pub line_written : (seed count : ℕ) (x y : Option (List ℕ)) (text : List ℕ) → text ≡ generated_line seed count → Sent x y text [] → GenerateWrites seed count statuses.Done x y
line_written seed count x y text is h = record {
  done = λ s. subst (λ t. Appends x y t) is (all_sent x y text h);
  begun = ([], subst (λ t. Sent x y t []) is h);
  memory = λ s. cc;
}

pub line_cut : (seed count : ℕ) (x y : Option (List ℕ)) (text : List ℕ) → text ≡ generated_line seed count → ((rest : List ℕ) × Sent x y text rest) → GenerateWrites seed count statuses.WriteFault x y
line_cut seed count x y text is (rest, h) = record {
  done = λ s. cc;
  begun = (rest, subst (λ t. Sent x y t rest) is h);
  memory = λ s. cc;
}

pub none_made : (seed count : ℕ) (x : Option (List ℕ)) → GenerateWrites seed count statuses.NoMemory x x
none_made seed count x = record {
  done = λ s. cc;
  begun = (generated_line seed count, record { front = []; appends = appends_nothing x; split = refl });
  memory = λ s. appends_nothing x;
}

-- ---- how the command ends it does not end otherwise

pub made_no_usage : (s : Status) → IsGenerateEnd s → s ≢ statuses.Usage
made_no_usage s (inl d) h = cc
made_no_usage s (inr (inl f)) h = cc
made_no_usage s (inr (inr m)) h = cc

pub made_no_fault : (s : Status) → IsGenerateEnd s → s ≢ statuses.KeeperFault
made_no_fault s (inl d) h = cc
made_no_fault s (inr (inl f)) h = cc
made_no_fault s (inr (inr m)) h = cc

pub made_no_gate : (s : Status) → IsGenerateEnd s → s ≢ statuses.GateFault
made_no_gate s (inl d) h = cc
made_no_gate s (inr (inl f)) h = cc
made_no_gate s (inr (inr m)) h = cc

pub made_no_bad_row : (s : Status) → IsGenerateEnd s → (t : Table) (k : List ℕ) → s ≢ statuses.BadRow t k
made_no_bad_row s (inl d) t k h = cc
made_no_bad_row s (inr (inl f)) t k h = cc
made_no_bad_row s (inr (inr m)) t k h = cc

pub made_touched : (s : Status) → IsGenerateEnd s → IsUntouched s → ⊥
made_touched s (inl d) u = subst IsUntouched d u
made_touched s (inr (inl f)) u = subst IsUntouched f u
made_touched s (inr (inr m)) u = subst IsUntouched m u
