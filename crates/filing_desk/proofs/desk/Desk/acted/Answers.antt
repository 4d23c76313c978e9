use Rattle.std.proofs.Common.{◌≡◌, ◌≢◌, sym, subst, Ok, Err, option_copied, FitsSigned, w64, to_z-of_z, arith}
use Rattle.std.proofs.lemmas.Int.{ints}
use Rattle.airfields.specs.Sites.{AreFacts}
use Rattle.wire_requests.specs.Limits.{IsValidAct}
use Rattle.std.specs.Prelude.{MatchResult}
use Rattle.case_requests.specs.declared.act.Act.{Act}
use Rattle.case_requests.specs.declared.act.Act.TheVariants as acts
use Rattle.case_records.specs.declared.refusal.Refusal.TheVariants as refusals
use Rattle.desk_machine.specs.Evaluations.{basis_of}
use Rattle.desk_machine.specs.Machine.{ruling_of_act}
use Rattle.filing_desk.proofs.desk.Desk.acted.Goals as goal

pub returns-in-Determine-clause-value : goal.returns-in-Determine-clause-value
returns-in-Determine-clause-value c =
    subst
    (λ (a : Act). MatchResult c.on_determine.result (λ e. ruling_of_act c.args.self.now (basis_of c.args.self.now c.args.p (option_copied c.args.given) a) a ≡ Ok e)
    (λ why. why ≢ refusals.NoMemory → ruling_of_act c.args.self.now (basis_of c.args.self.now c.args.p (option_copied c.args.given) a) a ≡ Err why)) (sym c.in-Determine.is) c.on_determine.ensures.value

pub returns-in-Revise-clause-value : goal.returns-in-Revise-clause-value
returns-in-Revise-clause-value c =
    let valid : IsValidAct (acts.Revise c.in-Revise.case c.in-Revise.started c.in-Revise.ground c.in-Revise.height c.in-Revise.finding) = subst IsValidAct c.in-Revise.is c.requires in
    let facts : AreFacts c.in-Revise.ground c.in-Revise.height = valid.1 in
    let ground : FitsSigned w64 c.in-Revise.ground = omega (arith, ints, facts.terrain_least, facts.terrain_most) in
    let height : FitsSigned w64 c.in-Revise.height = omega (arith, ints, facts.height_least, facts.height_most) in
    subst
    (λ (a : Act). MatchResult c.on_revise.result (λ e. ruling_of_act c.args.self.now (basis_of c.args.self.now c.args.p (option_copied c.args.given) a) a ≡ Ok e)
    (λ why. why ≢ refusals.NoMemory → ruling_of_act c.args.self.now (basis_of c.args.self.now c.args.p (option_copied c.args.given) a) a ≡ Err why)) (sym c.in-Revise.is) (simp to_z-of_z at c.on_revise.ensures.value)
