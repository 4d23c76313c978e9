use Rattle.std.proofs.Common.{◌≡◌, ◌⊎◌, inl, inr, refl, List, ℕ, Option, Some, None, IfSome, IfNone, option_copied, subst}
use Rattle.oe_keeper.specs.Kept.{place}
use Rattle.command_words.specs.Commands.{AskFor, AsksToServe, IsCommand, IsGenerate, Says}
use Rattle.command_words.specs.declared.commands.Command.{Command}
use Rattle.command_words.specs.declared.commands.Service.{Service}
use Rattle.command_words.proofs.CommandFacts.{of_asked}
use Rattle.oe_commands.specs.Runs.{IsUnopened, Served, ServedLinks}
use Rattle.oe_commands.proofs.CommandFacts.{of_draws, of_serving}
use Rattle.oe_commands.proofs.GenerateFacts.{made_no_usage, none_made}
use Rattle.oe_commands.proofs.CompleteFacts.{made_whole, whole}
use Rattle.oe_commands.proofs.run.run.Goals as goal

pub returns-in_default-clause-generated : goal.returns-in_default-clause-generated
returns-in_default-clause-generated g c = λ seed count is. none_made seed count _

pub returns-in-None-clause-ended : goal.returns-in-None-clause-ended
returns-in-None-clause-ended g c = λ seed count is.
    let none : IsCommand c.args.words.now → ⊥ = subst (λ (o : Option Command). IfNone o (IsCommand c.args.words.now → ⊥)) c.in-None.is c.in-Ok.ensures.none in
    absurd (none (inr (inr (seed, count, is))))

pub returns-in-Some-Answer-clause-served : goal.returns-in-Some-Answer-clause-served
returns-in-Some-Answer-clause-served g c = λ service path d.
    let says = subst (λ (o : Option Command). IfSome o (λ x. Says c.args.words.now x)) c.in-Some-Answer.is c.in-Ok.ensures.some in
    let said : AskFor c.in-Some-Answer.service c.args.words.now (option_copied c.in-Some-Answer.file) = subst (λ (a : Command). Says c.args.words.now a) (rw c.in-Some-Answer.is at c.in-Some-Answer.field-0-is) says in
    of_asked
    (λ (s : Service) (p : Option (List ℕ)).
    Served g.K.Keeper.Tells g.K.Keeper.Finds g.K.Keeper.IsSteady g.K.Keeper.faults s c.args.keeper p c.serve_kept.result (g.S.Source.left c.args.input.now) (g.S.Source.left c.serve_kept.new.input) (g.O.Sink.held c.args.output.now) (g.O.Sink.held c.serve_kept.new.output)
    ⊎ (IsUnopened g.K.Keeper.Finds g.K.Keeper.IsSteady c.args.keeper p c.serve_kept.result × (c.serve_kept.new.input ≡ c.args.input.now) × (c.serve_kept.new.output ≡ c.args.output.now)))
    c.args.words.now c.in-Some-Answer.service service (option_copied c.in-Some-Answer.file) path said d c.serve_kept.ensures.served

pub returns-in-Some-Serve-clause-links : goal.returns-in-Some-Serve-clause-links
returns-in-Some-Serve-clause-links g c = λ address workers turns path d.
    let says = subst (λ (o : Option Command). IfSome o (λ x. Says c.args.words.now x)) c.in-Some-Serve.is c.in-Ok.ensures.some in
    let said : AsksToServe c.args.words.now c.in-Some-Serve.address.now c.in-Some-Serve.workers c.in-Some-Serve.turns (option_copied c.in-Some-Serve.file) =
    subst (λ (a : Command). Says c.args.words.now a) (rw c.in-Some-Serve.is at c.in-Some-Serve.field-0-is) says in
    of_serving
    (λ (n m : ℕ) (p : Option (List ℕ)).
    ServedLinks g.K.Keeper.Tells g.K.Keeper.Finds g.K.Keeper.IsSteady g.K.Keeper.faults n m (g.G.Gate.lists c.args.gate.now) c.args.keeper p c.serve_links.result (g.O.Sink.held c.args.output.now) (g.O.Sink.held c.serve_links.new.output)
    ⊎ (IsUnopened g.K.Keeper.Finds g.K.Keeper.IsSteady c.args.keeper p c.serve_links.result × (c.serve_links.new.output ≡ c.args.output.now) × (c.serve_links.new.gate ≡ c.args.gate.now)))
    c.args.words.now c.in-Some-Serve.address.now address c.in-Some-Serve.workers workers c.in-Some-Serve.turns turns (option_copied c.in-Some-Serve.file) path said d c.serve_links.ensures.links

pub returns-in-Some-Generate-clause-generated : goal.returns-in-Some-Generate-clause-generated
returns-in-Some-Generate-clause-generated g c = λ seed count is.
    let says = subst (λ (o : Option Command). IfSome o (λ x. Says c.args.words.now x)) c.in-Some-Generate.is c.in-Ok.ensures.some in
    let said : IsGenerate c.args.words.now c.in-Some-Generate.seed c.in-Some-Generate.count = subst (λ (a : Command). Says c.args.words.now a) (rw c.in-Some-Generate.is at c.in-Some-Generate.field-0-is) says in
    of_draws _ _ _ seed count _ _ _ said c.generate.ensures.writes is

pub returns-in-Some-Generate-clause-usage : goal.returns-in-Some-Generate-clause-usage
returns-in-Some-Generate-clause-usage g c =
    let says = subst (λ (o : Option Command). IfSome o (λ x. Says c.args.words.now x)) c.in-Some-Generate.is c.in-Ok.ensures.some in
    let said : IsGenerate c.args.words.now c.in-Some-Generate.seed c.in-Some-Generate.count = subst (λ (a : Command). Says c.args.words.now a) (rw c.in-Some-Generate.is at c.in-Some-Generate.field-0-is) says in
    record { usage = λ f. absurd (f (inr (inr (_, _, said)))); command = λ is. made_no_usage _ c.generate.ensures.ends }

pub returns-in-Some-Answer-clause-no_command : goal.returns-in-Some-Answer-clause-no_command
returns-in-Some-Answer-clause-no_command g c = λ none.
    let says = subst (λ (o : Option Command). IfSome o (λ x. Says c.args.words.now x)) c.in-Some-Answer.is c.in-Ok.ensures.some in
    let said : AskFor c.in-Some-Answer.service c.args.words.now (option_copied c.in-Some-Answer.file) = subst (λ (a : Command). Says c.args.words.now a) (rw c.in-Some-Answer.is at c.in-Some-Answer.field-0-is) says in
    absurd (none (inl (_, _, said)))

pub returns-in-Some-Serve-clause-no_command : goal.returns-in-Some-Serve-clause-no_command
returns-in-Some-Serve-clause-no_command g c = λ none.
    let says = subst (λ (o : Option Command). IfSome o (λ x. Says c.args.words.now x)) c.in-Some-Serve.is c.in-Ok.ensures.some in
    let said : AsksToServe c.args.words.now c.in-Some-Serve.address.now c.in-Some-Serve.workers c.in-Some-Serve.turns (option_copied c.in-Some-Serve.file) =
    subst (λ (a : Command). Says c.args.words.now a) (rw c.in-Some-Serve.is at c.in-Some-Serve.field-0-is) says in
    absurd (none (inr (inl (_, _, _, _, said))))

pub returns-in-Some-Generate-clause-no_command : goal.returns-in-Some-Generate-clause-no_command
returns-in-Some-Generate-clause-no_command g c = λ none.
    let says = subst (λ (o : Option Command). IfSome o (λ x. Says c.args.words.now x)) c.in-Some-Generate.is c.in-Ok.ensures.some in
    let said : IsGenerate c.args.words.now c.in-Some-Generate.seed c.in-Some-Generate.count = subst (λ (a : Command). Says c.args.words.now a) (rw c.in-Some-Generate.is at c.in-Some-Generate.field-0-is) says in
    absurd (none (inr (inr (_, _, said))))

pub returns-in-None-clause-complete : goal.returns-in-None-clause-complete
returns-in-None-clause-complete g c = λ is steady gate good calm.
    let none : IsCommand c.args.words.now → ⊥ = subst (λ (o : Option Command). IfNone o (IsCommand c.args.words.now → ⊥)) c.in-None.is c.in-Ok.ensures.none in
    absurd (none is)

pub returns-in-Some-Answer-clause-complete : goal.returns-in-Some-Answer-clause-complete
returns-in-Some-Answer-clause-complete g c = λ is steady gate good calm.
    let says = subst (λ (o : Option Command). IfSome o (λ x. Says c.args.words.now x)) c.in-Some-Answer.is c.in-Ok.ensures.some in
    let said : AskFor c.in-Some-Answer.service c.args.words.now (option_copied c.in-Some-Answer.file) = subst (λ (a : Command). Says c.args.words.now a) (rw c.in-Some-Answer.is at c.in-Some-Answer.field-0-is) says in
    whole c.serve_kept.result c.serve_kept.ensures.usage (λ e. calm.read (c.serve_kept.ensures.causes.read e)) (λ e. calm.write (c.serve_kept.ensures.causes.write e)) (c.serve_kept.ensures.fault steady)
    (λ t k e. let bad = c.serve_kept.ensures.bad_row t k e in good (option_copied c.in-Some-Answer.file) bad.0 (place t, k) (inl (c.in-Some-Answer.service, said)) bad.1 bad.2)
    c.serve_kept.ensures.gate

pub returns-in-Some-Serve-clause-complete : goal.returns-in-Some-Serve-clause-complete
returns-in-Some-Serve-clause-complete g c = λ is steady gate good calm.
    let says = subst (λ (o : Option Command). IfSome o (λ x. Says c.args.words.now x)) c.in-Some-Serve.is c.in-Ok.ensures.some in
    let said : AsksToServe c.args.words.now c.in-Some-Serve.address.now c.in-Some-Serve.workers c.in-Some-Serve.turns (option_copied c.in-Some-Serve.file) =
    subst (λ (a : Command). Says c.args.words.now a) (rw c.in-Some-Serve.is at c.in-Some-Serve.field-0-is) says in
    whole c.serve_links.result c.serve_links.ensures.usage c.serve_links.ensures.read.0 (λ e. calm.write (c.serve_links.ensures.write e)) (c.serve_links.ensures.fault steady)
    (λ t k e. let bad = c.serve_links.ensures.bad_row t k e in good (option_copied c.in-Some-Serve.file) bad.0 (place t, k) (inr (c.in-Some-Serve.address.now, c.in-Some-Serve.workers, c.in-Some-Serve.turns, said)) bad.1 bad.2)
    (c.serve_links.ensures.gate (gate (c.in-Some-Serve.address.now, c.in-Some-Serve.workers, c.in-Some-Serve.turns, option_copied c.in-Some-Serve.file, said)))

pub returns-in-Some-Generate-clause-complete : goal.returns-in-Some-Generate-clause-complete
returns-in-Some-Generate-clause-complete g c = λ is steady gate good calm. made_whole c.generate.result c.generate.ensures.ends (λ e. calm.write (c.generate.ensures.cause e))
