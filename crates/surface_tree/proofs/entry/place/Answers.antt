use Rattle.std.proofs.Common.{rules}
use Rattle.std.proofs.lemmas.List.Sorted.{answers_always}
use Rattle.surface_tree.specs.Parts.{item_of}
use Rattle.surface_tree.proofs.entry.place.Goals as goal

pub returns-clause-found : goal.returns-clause-found
returns-clause-found g c = c.binary_search_by_key.ensures.position (λ e. g.T.Placed.key_of (item_of e)) (answers_always _ _ _ (λ f a r k called. search rules))
