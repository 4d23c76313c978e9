-- Records whose reply may not be there whole.
use Rattle.std.proofs.Common.{arith, ◌≡◌, inl, refl, ℕ, List, [], ◌∷◌, length, ◌==◌, Bool, true, Result, Ok, Err}
use Rattle.std.proofs.lemmas.Bool.Decides.{nat_tests}
use Rattle.std.specs.Result.{OnErr}
use Rattle.case_records.specs.declared.refusal.Refusal.TheVariants as refusals
use Rattle.wire_replies.specs.Replies.{reply_text}
use Rattle.wire_replies.specs.declared.reply.Reply.TheVariants as replies
use Rattle.oe_http.specs.Machine.{Step}
use Rattle.http_session.specs.Replying.{AnswersRecord}

pub on_err : {A E P : Type 0} (r : Result A E) → P → OnErr r P
on_err (Ok x) p = tt
on_err (Err e) p = p

no_bytes : {St : Type 0} (step : Step St) (s : St) (line : List ℕ) → length line ≡ 0 → (reply : List ℕ) × AnswersRecord step s line reply s
no_bytes step s [] e = (reply_text (replies.Refused (refusals.Malformed 1)), inl (refl, refl, refl))
no_bytes step s (x ∷ xs) e = absurd (omega (arith, e))

-- an empty record changes nothing
pub empty_record : {St : Type 0} (step : Step St) (s : St) (line : List ℕ) (b : Bool) → b ≡ (length line == 0) → b ≡ true → (reply : List ℕ) × AnswersRecord step s line reply s
empty_record step s line b e f = no_bytes step s line (grind (arith, nat_tests, e, f))
