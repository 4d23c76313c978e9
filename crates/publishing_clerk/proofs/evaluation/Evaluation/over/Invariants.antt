use Rattle.publishing_clerk.proofs.evaluation.Evaluation.over.Given as goal

abbrev pub ghosts-counted_evaluation : goal.ghosts-counted_evaluation
ghosts-counted_evaluation g a = record { name = a.blank.name; parts = a.blank.parts }
